-- The pages stand for the state.
use Rattle.std.proofs.Common.{◌≡◌, ℕ, suc, ◌<◌, ◌⊎◌, ◌==◌, ◌||◌, Bool, true, false, if◌then◌else◌, not, List, [], ◌∷◌, ◌++◌, IsTrue, inl, inr, refl, sym, ap, subst, ◌∙◌, arith}
use Rattle.std.specs.Prelude.{slice_index}
use Rattle.std.specs.List.{list_all}
use Rattle.std.proofs.lemmas.Bool.Decides.{nat_tests}
use Rattle.std.proofs.lemmas.List.Elements.{All-cons, All-nil}
use Rattle.st_values.specs.Arranged.{each_pair}
use Rattle.st_values.proofs.Tests.{first-of, one-of}
use Rattle.st_image.specs.Fields.{blank, count_of, next_of, last_serial_of}
use Rattle.st_pages.specs.declared.places.Place.{Place}
use Rattle.st_pages.specs.Attempt.{Array, page_count}
use Rattle.st_pages.specs.Chains.{way}
use Rattle.st_lattice.specs.Outline.{IsOrderly}
use Rattle.st_lattice.specs.Consistent.{IsConsistent}
use Rattle.st_store.specs.Chain.{IsChainOf}
use Rattle.st_store.specs.Stores.{among}
use Rattle.st_catalog.specs.Catalog.{Has}
use Rattle.st_new_database.specs.New.{places_of}
use Rattle.st_database.specs.Database.{IsDatabase, chain_pages, reached_pages}
use Rattle.st_standing.specs.Standing.{view_of, rows_at, StandsFor}
use Rattle.st_standing_example.specs.Ada.{ada_pages, ada_state, extent_page, roots_page, schema_page, tiny}
use Rattle.st_standing_example.proofs.Legal.{legal, of-program}
use Rattle.st_standing_example.proofs.Pages.{roots-next, roots-count, schema-next, schema-count, extent-next, extent-last, extent-rows, extent-form}

-- the place of the one store, which is that of `places_of`
abbrev extent : Place
extent = record { store = 0; first = 2; key = 4; width = 95 }

-- its chain has the rows that the state has there
chain : IsChainOf extent ada_pages (2 ∷ []) (rows_at ada_state 0)
chain = record {
  first = omega arith;
  follow = (refl, extent-form, extent-next);
  once = refl;
  later = refl;
  are = sym (ap (λ (rows : List (List ℕ)). rows ++ []) extent-rows);
  ascend = refl;
}

-- a way that ends at its first page
way-one : (most : ℕ) (array : Array) (page : ℕ) → next_of (array page) ≡ 0 → way (suc most) array page ≡ page ∷ []
way-one most array page h = rw h

count-is : page_count ≡ suc 65535
unfolding page_count
count-is = refl

-- the chains of the roots and of the schema are a page each
way-all : (page : ℕ) → next_of (ada_pages page) ≡ 0 → way page_count ada_pages page ≡ page ∷ []
way-all page h = ap (λ (n : ℕ). way n ada_pages page) count-is ∙ way-one 65535 ada_pages page h

chains-are : chain_pages ada_pages ≡ 1 ∷ 0 ∷ []
chains-are =
    ap (λ (pages : List ℕ). pages ++ way page_count ada_pages 0) (way-all 1 schema-next)
    ∙ ap (λ (pages : List ℕ). 1 ∷ pages) (way-all 0 roots-next)

have-some : IsTrue (list_all (λ page. not (count_of (ada_pages page) == 0)) (chain_pages ada_pages))
have-some = subst (λ (pages : List ℕ). IsTrue (list_all (λ (page : ℕ). not (count_of (ada_pages page) == 0)) pages)) (sym chains-are) (rw (schema-count, roots-count) refl)

-- the pages that are reached
reached-are : reached_pages ada_pages (λ store. 2 ∷ []) (extent ∷ []) ≡ 1 ∷ 0 ∷ 2 ∷ []
reached-are = ap (λ (pages : List ℕ). pages ++ 2 ∷ []) chains-are

once : IsTrue (each_pair (λ page other. not (page == other)) (reached_pages ada_pages (λ store. 2 ∷ []) (extent ∷ [])))
once = subst (λ (pages : List ℕ). IsTrue (each_pair (λ (page other : ℕ). not (page == other)) pages)) (sym reached-are) refl

-- each other page is blank
choice : (a b c x y z : Bool) (p q r other : List ℕ) → x ≡ a → y ≡ b → z ≡ c → IsTrue (y || (x || (z || false))) ⊎ ((if a then p else if b then q else if c then r else other) ≡ other)
choice true true c x y z p q r other e f g = inl (first-of y (x || (z || false)) f)
choice true false c x y z p q r other e f g = inl (one-of y (x || (z || false)) (first-of x (z || false) e))
choice false true c x y z p q r other e f g = inl (first-of y (x || (z || false)) f)
choice false false true x y z p q r other e f g = inl (one-of y (x || (z || false)) (one-of x (z || false) (first-of z false g)))
choice false false false x y z p q r other e f g = inr refl

turned : (a b : ℕ) → (a == b) ≡ (b == a)
turned a b = grind (arith, nat_tests)

blank-others : (page : ℕ) → IsTrue (among (1 ∷ 0 ∷ 2 ∷ []) page) ⊎ (ada_pages page ≡ blank)
blank-others page =
    choice (page == 0) (page == 1) (page == 2) (0 == page) (1 == page) (2 == page) roots_page schema_page extent_page blank
    (turned 0 page) (turned 1 page) (turned 2 page)

database : Has ada_pages tiny (extent ∷ []) → IsDatabase IsChainOf ada_pages tiny (extent ∷ []) (view_of ada_state)
database has = record {
  has = has;
  filled = have-some;
  pages = λ store. 2 ∷ [];
  stores = All-cons (λ place. IsChainOf place ada_pages (2 ∷ []) (rows_at ada_state place.store)) extent [] chain (All-nil (λ place. IsChainOf place ada_pages (2 ∷ []) (rows_at ada_state place.store)));
  serials =
      All-cons (λ place. place.store < 65536 → last_serial_of (ada_pages place.first) ≡ slice_index (1 ∷ []) place.store) extent []
      (λ low. extent-last) (All-nil (λ place. place.store < 65536 → last_serial_of (ada_pages place.first) ≡ slice_index (1 ∷ []) place.store));
  once = once;
  others = λ page within. subst (λ (pages : List ℕ). IsTrue (among pages page) ⊎ (ada_pages page ≡ blank)) (sym reached-are) (blank-others page);
}

pub stands : IsOrderly tiny → IsConsistent tiny → Has ada_pages tiny (places_of tiny (2 ∷ [])) → StandsFor IsChainOf ada_pages ada_state
stands orderly consistent has =
    let whole = legal orderly consistent in
    record {
      legal = whole;
      nearly = (extent ∷ [], record { legal = whole.nearly; program = of-program; database = database has });
    }
