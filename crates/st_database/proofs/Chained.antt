-- The chains of the schema and of the roots: their pages are none of stores, and all that is said of them depends on these pages.
use Rattle.std.proofs.Common.{◌≡◌, ℕ, zero, suc, ◌<◌, ◌≤◌, ◌==◌, Bool, true, false, if◌then◌else◌, List, [], ◌∷◌, ◌++◌, length, IsTrue, refl, sym, ap, ◌∙◌, subst, inl, inr, arith}
use Rattle.std.specs.Prelude.{◌⊎◌, nat_lt}
use Rattle.std.specs.List.{list_all}
use Rattle.std.proofs.lemmas.Bool.{eqb-true}
use Rattle.std.proofs.lemmas.Bool.Decides.{nat_tests}
use Rattle.std.proofs.lemmas.List.Folds.{list_any-append}
use Rattle.st_values.specs.Arranged.{ascends}
use Rattle.st_values.proofs.Tests.{both, either, first-of, one-of}
use Rattle.st_lattice.specs.Outline.{Outline}
use Rattle.st_lattice.specs.Stores.{stores_of}
use Rattle.st_image.specs.declared.wanted.Wanted.{Wanted}
use Rattle.st_image.specs.declared.wanted.Wanted.TheVariants.{Schema, Roots}
use Rattle.st_image.specs.Fields.{kind_of, next_of}
use Rattle.st_image.specs.Grammar.{IsPage}
use Rattle.st_pages.specs.declared.places.Place.{Place}
use Rattle.st_pages.specs.Attempt.{Array, page_count}
use Rattle.st_pages.specs.Places.{AscendByStore}
use Rattle.st_pages.specs.Chains.{IsChain, way}
use Rattle.st_store.specs.Stores.{among}
use Rattle.st_schema_bytes.specs.SchemaBytes.{IsReadable}
use Rattle.st_catalog.specs.Catalog.{Has}
use Rattle.st_index.proofs.Counted.{or-cases}
use Rattle.st_database.specs.Database.{chain_pages}
use Rattle.st_database.proofs.Listed.{among-all, ascends-map, is-number, itself}

-- ---- one chain

-- the pages behind the first one of a way
behind : ℕ → Array → ℕ → List ℕ
behind most array next = if next == 0 then [] else way most array next

is-some : (n : ℕ) → 0 < n → (n == 0) ≡ false
is-some n h = grind (arith, nat_tests)

-- each page on the way of a chain is of the kind that is wanted
way-kinds : (wanted : Wanted) (kind : ℕ) → ((image : List ℕ) → IsPage wanted image → kind_of image ≡ kind) → (array : Array) (most first : ℕ) (images : List (List ℕ)) → IsChain wanted array first images → length images ≤ most
    → list_all (λ p. kind_of (array p) == kind) (way most array first) ≡ true
way-kinds wanted kind of-kind array most first [] chain few = absurd chain
way-kinds wanted kind of-kind array zero first (image ∷ images) chain few = absurd (omega (arith, few))
way-kinds wanted kind of-kind array (suc most) first (image ∷ []) chain few =
    both (kind_of (array first) == kind) (list_all (λ p. kind_of (array p) == kind) (if next_of (array first) == 0 then [] else way most array (next_of (array first))))
    (is-number (kind_of (array first)) kind (ap kind_of chain.0 ∙ of-kind image chain.1))
    (ap (λ (b : Bool). list_all (λ p. kind_of (array p) == kind) (if b then [] else way most array (next_of (array first)))) (is-number (next_of (array first)) 0 (ap next_of chain.0 ∙ chain.2)))
way-kinds wanted kind of-kind array (suc most) first (image ∷ other ∷ images) chain few =
    let next : next_of (array first) ≡ next_of image = ap next_of chain.0 in
    let more : 0 < next_of (array first) = subst (λ (n : ℕ). 0 < n) (sym next) chain.2 in
    both (kind_of (array first) == kind) (list_all (λ p. kind_of (array p) == kind) (if next_of (array first) == 0 then [] else way most array (next_of (array first))))
    (is-number (kind_of (array first)) kind (ap kind_of chain.0 ∙ of-kind image chain.1))
    (ap (λ (b : Bool). list_all (λ p. kind_of (array p) == kind) (if b then [] else way most array (next_of (array first)))) (is-some (next_of (array first)) more)
    ∙ way-kinds wanted kind of-kind array most (next_of (array first)) (other ∷ images) (subst (λ (n : ℕ). IsChain wanted array n (other ∷ images)) (sym next) chain.3) (omega (arith, few)))

-- where the pages on a way are as they were, it is the same way
way-same : (a b : Array) (most first : ℕ) → ((p : ℕ) → IsTrue (among (way most a first) p) → b p ≡ a p) → way most b first ≡ way most a first
way-same a b zero first same = refl
way-same a b (suc most) first same =
    let n : ℕ = next_of (a first) in
    ap (λ (image : List ℕ). first ∷ (if next_of image == 0 then [] else way most b (next_of image))) (same first (first-of (first == first) (among (if n == 0 then [] else way most a n) first) (itself first)))
    ∙ ap (λ (ps : List ℕ). first ∷ ps) (either (n == 0) (λ c. ((p : ℕ) → IsTrue (among (if c then [] else way most a n) p) → b p ≡ a p) → (if c then [] else way most b n) ≡ (if c then [] else way most a n))
    (λ e rest. refl)
    (λ e rest. way-same a b most n rest)
    (λ p m. same p (one-of (first == p) (among (if n == 0 then [] else way most a n) p) m)))

-- and it has the same chain
chain-same : (wanted : Wanted) (a b : Array) (most first : ℕ) (images : List (List ℕ)) → length images ≤ most → IsChain wanted a first images → ((p : ℕ) → IsTrue (among (way most a first) p) → b p ≡ a p) → IsChain wanted b first images
chain-same wanted a b most first [] few chain same = absurd chain
chain-same wanted a b zero first (image ∷ images) few chain same = absurd (omega (arith, few))
chain-same wanted a b (suc most) first (image ∷ []) few chain same =
    (same first (first-of (first == first) (among (if next_of (a first) == 0 then [] else way most a (next_of (a first))) first) (itself first)) ∙ chain.0, chain.1, chain.2)
chain-same wanted a b (suc most) first (image ∷ other ∷ images) few chain same =
    let n : ℕ = next_of (a first) in
    let next : n ≡ next_of image = ap next_of chain.0 in
    let more : (n == 0) ≡ false = is-some n (subst (λ (m : ℕ). 0 < m) (sym next) chain.2) in (
      same first (first-of (first == first) (among (if n == 0 then [] else way most a n) first) (itself first)) ∙ chain.0,
      chain.1,
      chain.2,
      subst (λ (m : ℕ). IsChain wanted b m (other ∷ images)) next
          (chain-same wanted a b most n (other ∷ images) (omega (arith, few)) (subst (λ (m : ℕ). IsChain wanted a m (other ∷ images)) (sym next) chain.3)
          (λ p m. same p (one-of (first == p) (among (if n == 0 then [] else way most a n) p)
          (subst (λ (c : Bool). IsTrue (among (if c then [] else way most a n) p)) (sym more) m)))),
    )

-- ---- both chains

schema-kind : (image : List ℕ) → IsPage Schema image → kind_of image ≡ 1
schema-kind image is = is.has_header.kind

roots-kind : (image : List ℕ) → IsPage Roots image → kind_of image ≡ 5
roots-kind image is = is.has_header.kind

-- a page of either chain is one of the schema or of roots
pub chain-kinds : (array : Array) (schema : Outline) (places : List Place) → Has array schema places → (page : ℕ) → IsTrue (among (chain_pages array) page) → (kind_of (array page) ≡ 1) ⊎ (kind_of (array page) ≡ 5)
chain-kinds array schema places has page m =
    elim (or-cases (among (way page_count array 1) page) (among (way page_count array 0) page) (sym (list_any-append (λ q. q == page) (way page_count array 1) (way page_count array 0)) ∙ m)) [
      | inl k ↦ inl (eqb-true (kind_of (array page)) 1
          (among-all (λ p. kind_of (array p) == 1) (way page_count array 1) page (way-kinds Schema 1 schema-kind array page_count 1 has.spells.images has.spells.chain has.spells.few) k))
      | inr k ↦ inr (eqb-true (kind_of (array page)) 5
          (among-all (λ p. kind_of (array p) == 5) (way page_count array 0) page (way-kinds Roots 5 roots-kind array page_count 0 has.names.images has.names.chain has.names.few) k))
    ]

module _ (a b : Array) (same : (p : ℕ) → IsTrue (among (chain_pages a) p) → b p ≡ a p) where
  on-schema : (p : ℕ) → IsTrue (among (way page_count a 1) p) → b p ≡ a p
  on-schema p m = same p (list_any-append (λ q. q == p) (way page_count a 1) (way page_count a 0) ∙ first-of (among (way page_count a 1) p) (among (way page_count a 0) p) m)

  on-roots : (p : ℕ) → IsTrue (among (way page_count a 0) p) → b p ≡ a p
  on-roots p m = same p (list_any-append (λ q. q == p) (way page_count a 1) (way page_count a 0) ∙ one-of (among (way page_count a 1) p) (among (way page_count a 0) p) m)

  -- where the pages of both chains are as they were, these are their pages, and the schema and the places are the same
  pub chains-same : chain_pages b ≡ chain_pages a
  chains-same = ap (λ (ps : List ℕ). ps ++ way page_count b 0) (way-same a b page_count 1 on-schema) ∙ ap (λ (ps : List ℕ). way page_count a 1 ++ ps) (way-same a b page_count 0 on-roots)

  pub has-same : (schema : Outline) (places : List Place) → Has a schema places → Has b schema places
  has-same schema places has = record {
    spells = record {
      images = has.spells.images;
      few = has.spells.few;
      chain = chain-same Schema a b page_count 1 has.spells.images has.spells.few has.spells.chain on-schema;
      bytes = has.spells.bytes;
      readable = has.spells.readable;
    };
    names = record {
      images = has.names.images;
      few = has.names.few;
      chain = chain-same Roots a b page_count 0 has.names.images has.names.few has.names.chain on-roots;
      roots = has.names.roots;
      of = has.names.of;
    };
  }

-- the places of a database are in the order of their stores
pub has-ascends : (array : Array) (schema : Outline) (places : List Place) → (IsReadable schema → ascends nat_lt (stores_of schema) ≡ true) → Has array schema places → AscendByStore places
has-ascends array schema places rise has = ascends-map places (ap (ascends nat_lt) has.names.of.stores ∙ rise has.spells.readable)
