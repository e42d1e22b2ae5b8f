-- Pages of a chain with other rows.
use Rattle.std.proofs.Common.{◌≡◌, ◌≢◌, ℕ, ◌≤◌, List, [], ◌∷◌, ◌++◌, length, IsTrue, refl, sym, subst, ◌∙◌, arith}
use Rattle.std.proofs.lemmas.Nat.{le-div}
use Rattle.st_values.specs.Arranged.{ascends}
use Rattle.st_image.specs.Fields.{count_of, rows_of}
use Rattle.st_image.specs.Grammar.{row_before, serial_limit}
use Rattle.st_pages.specs.declared.places.Place.{Place}
use Rattle.st_page_rows.specs.PageRows.{IsSibling, Laid, SameHead}
use Rattle.st_store.specs.Chain.{IsChainPage}
use Rattle.st_chain.proofs.Parting.{rows-length}

pub made-page : (place : Place) (image new : List ℕ) → IsChainPage place image → Laid place.width new → SameHead image new → IsTrue (ascends (row_before place.key) (rows_of place.width new)) → IsChainPage place new
made-page place image new sound laid head ascend =
    let next_is = head.next in
    let next_most = sound.has_header.next in
    let last_is = head.serial in
    let last_most = sound.has_header.last in
    record {
      size = laid.size;
      bytes = laid.bytes;
      has_header = record {
        kind = head.kind ∙ sound.has_header.kind;
        spare = head.spare ∙ sound.has_header.spare;
        least = omega arith;
        most = le-div (count_of new) 4080 place.width laid.some laid.room;
        store = head.store ∙ sound.has_header.store;
        next = omega arith;
        last = subst (λ (n : ℕ). n ≤ serial_limit place.store) (sym last_is) last_most;
      };
      body = record { ascend = ascend; behind = laid.behind };
    }

pub made-sibling : (place : Place) (image new : List ℕ) → IsChainPage place image → Laid place.width new → IsSibling image new → IsTrue (ascends (row_before place.key) (rows_of place.width new)) → IsChainPage place new
made-sibling place image new sound laid head ascend =
    let next_is = head.next in
    let next_most = sound.has_header.next in
    record {
      size = laid.size;
      bytes = laid.bytes;
      has_header = record {
        kind = head.kind ∙ sound.has_header.kind;
        spare = head.spare;
        least = omega arith;
        most = le-div (count_of new) 4080 place.width laid.some laid.room;
        store = head.store ∙ sound.has_header.store;
        next = omega arith;
        last = subst (λ (n : ℕ). n ≤ serial_limit place.store) (sym head.serial) (omega arith);
      };
      body = record { ascend = ascend; behind = laid.behind };
    }

-- a page with a row has a count
pub has-rows : (width : ℕ) (page : List ℕ) (front behind : List (List ℕ)) (row : List ℕ) → rows_of width page ≡ front ++ row ∷ behind → count_of page ≢ 0
has-rows width page front behind row e zero = nothing front (sym e ∙ none (rows_of width page) (rows-length width page ∙ zero))
  where
    none : (rows : List (List ℕ)) → length rows ≡ 0 → rows ≡ []
    none [] h = refl
    none (r ∷ rs) h = absurd (omega arith)

    nothing : (xs : List (List ℕ)) → xs ++ row ∷ behind ≡ [] → ⊥
    nothing [] h = cc
    nothing (x ∷ xs) h = cc

pub no-rows : (width : ℕ) (page : List ℕ) → count_of page ≡ 0 → rows_of width page ≡ []
no-rows width page zero = none (rows_of width page) (rows-length width page ∙ zero)
  where
    none : (rows : List (List ℕ)) → length rows ≡ 0 → rows ≡ []
    none [] h = refl
    none (r ∷ rs) h = absurd (omega arith)
