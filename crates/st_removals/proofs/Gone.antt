-- Which triples the cells of a row are that go, and what a state is without some triples.
use Rattle.std.proofs.Common.{◌≡◌, Bool, true, false, cond, List, [], ◌∷◌, Option, refl, sym, ap, ◌∙◌, true≢false, if◌then◌else◌}
use Rattle.std.specs.Prelude.{◌&&◌, ◌||◌, not, filter, map}
use Rattle.std.specs.List.{list_all, list_any}
use Rattle.st_values.specs.declared.value.EntityId.{EntityId}
use Rattle.st_values.specs.declared.value.Value.{Value}
use Rattle.st_values.proofs.Tests.{either, left, never, right}
use Rattle.st_lattice.specs.declared.attribute.Attribute.{Attribute}
use Rattle.st_state.specs.declared.triple.Triple.{Triple}
use Rattle.st_state.specs.State.{State, member_taken, same_triple}
use Rattle.st_state.proofs.Members.{Member}
use Rattle.st_standing.proofs.Filtered.{filter-agree, filter-filter}
use Rattle.st_removals.specs.Taken.{goes, gone_among, taken_all}

-- ---- lists

module _ {X : Type 0} where
  pub first-member : (x : X) (xs : List X) → Member x (x ∷ xs)
  first-member x xs q a = left (q x) (list_all q xs) a

  pub later-member : (y x : X) (xs : List X) → Member y xs → Member y (x ∷ xs)
  later-member y x xs m q a = m q (right (q x) (list_all q xs) a)

  -- two tests that agree at each element keep the same
  pub filter-members : (p q : X → Bool) (xs : List X) → ((x : X) → Member x xs → p x ≡ q x) → filter p xs ≡ filter q xs
  filter-members p q [] h = refl
  filter-members p q (x ∷ xs) h =
      let rest = filter-members p q xs (λ y m. h y (later-member y x xs m)) in
      λ i. cond (h x (first-member x xs) i) (x ∷ rest i) (rest i)

  -- a test of images
  pub any-images : {Y : Type 0} (p : Y → Bool) (f : X → Y) (xs : List X) → list_any p (map f xs) ≡ list_any (λ x. p (f x)) xs
  any-images p f [] = refl
  any-images p f (x ∷ xs) = ap (λ (b : Bool). p (f x) || b) (any-images p f xs)

  pub map-twice : {Y Z : Type 0} (g : Y → Z) (f : X → Y) (xs : List X) → map g (map f xs) ≡ map (λ x. g (f x)) xs
  map-twice g f [] = refl
  map-twice g f (x ∷ xs) = λ i. g (f x) ∷ map-twice g f xs i

pub same-truth : (a b : Bool) → (a ≡ true → b ≡ true) → (b ≡ true → a ≡ true) → a ≡ b
same-truth true b h k = sym (h refl)
same-truth false b h k = sym (never b (λ m. true≢false (sym (k m))))

-- ---- the cells that go

-- the triple of an attribute's cell
abbrev pub cell_triple : EntityId → (Attribute → Value) → Attribute → Triple
cell_triple entity value a = record { attribute = a.number; entity = entity; value = value a }

-- those of the attributes whose values go
pub gone-is : (entity : EntityId) (which : Option EntityId) (value : Attribute → Value) (xs : List Attribute) → gone_among entity which xs (map value xs) ≡ map (cell_triple entity value) (filter (λ a. goes which (value a)) xs)
gone-is entity which value [] = refl
gone-is entity which value (a ∷ xs) =
    let kept = filter (λ b. goes which (value b)) xs in
    ap (λ (ts : List Triple). if goes which (value a) then cell_triple entity value a ∷ ts else ts) (gone-is entity which value xs)
    ∙ either (goes which (value a)) (λ b. (if b then cell_triple entity value a ∷ map (cell_triple entity value) kept else map (cell_triple entity value) kept) ≡ map (cell_triple entity value) (cond b (a ∷ kept) kept))
    (λ _. refl) (λ _. refl)

-- ---- a state without them

-- whether a triple is one of some
abbrev pub is_one : List Triple → Triple → Bool
is_one gone t = list_any (λ g. same_triple g t) gone

neither : (a b : Bool) → (not a && not b) ≡ not (a || b)
neither true b = refl
neither false b = refl

pub all-stay : {X : Type 0} (ts : List X) → filter (λ t. true) ts ≡ ts
all-stay [] = refl
all-stay {X} (t ∷ ts) = ap (λ (l : List X). t ∷ l) (all-stay ts)

-- all others stay
pub taken_all-is : (gone : List Triple) (s : State) → taken_all gone s ≡ record s { triples = filter (λ t. not (is_one gone t)) s.triples }
taken_all-is [] s = λ i. record s { triples = sym (all-stay s.triples) i }
taken_all-is (g ∷ gs) s =
    taken_all-is gs (member_taken s g.attribute g.entity g.value)
    ∙ ap (λ (ts : List Triple). record s { triples = ts })
    (filter-filter (λ t. not (same_triple g t)) (λ t. not (is_one gs t)) s.triples
    ∙ filter-agree (λ t. not (same_triple g t) && not (is_one gs t)) (λ t. not (is_one (g ∷ gs) t)) s.triples (λ t. neither (same_triple g t) (is_one gs t)))
