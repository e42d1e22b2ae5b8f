-- What is left of a state where the single values of one entity that are another one are gone: its triples, and its values.
use Rattle.std.proofs.Common.{◌≡◌, ℕ, Bool, true, false, cond, List, [], ◌∷◌, Option, Some, None, refl, sym, ap, ◌∙◌, subst, true≢false, if◌then◌else◌}
use Rattle.std.specs.Prelude.{◌==◌, ◌&&◌, ◌||◌, not, filter, find, map, slice_index_or}
use Rattle.std.specs.List.{All, list_all}
use Rattle.std.proofs.lemmas.List.Elements.{All-filter, filter_passes}
use Rattle.st_values.specs.declared.value.EntityId.{EntityId}
use Rattle.st_values.specs.declared.value.Value.{Value}
use Rattle.st_values.specs.declared.value.Value.TheVariants.{Entity, Null}
use Rattle.st_values.specs.Arranged.{each_pair}
use Rattle.st_values.specs.Order.{same_entity, same_value}
use Rattle.st_values.proofs.Entities.{same_entity-is, same_entity-itself, same_value-is, same_value-itself}
use Rattle.st_values.proofs.Tests.{all-weaken, ascends-weaken, both, either, left, not-true, other-of, right}
use Rattle.st_lattice.specs.declared.attribute.Attribute.{Attribute}
use Rattle.st_lattice.specs.Outline.{attribute}
use Rattle.st_lattice.specs.Lattice.{attributes_in, isa}
use Rattle.st_lattice.specs.Stores.{passes}
use Rattle.st_state.specs.declared.triple.Triple.{Triple}
use Rattle.st_state.specs.State.{State, is_at, is_live, same_triple, value_at, value_in}
use Rattle.st_state.specs.Legal.{IsNearlyLegal, apart_at_entity, can_hold, is_sound}
use Rattle.st_state.specs.Rows.{entity_row}
use Rattle.st_state.proofs.Changed.{number-is, number-itself}
use Rattle.st_state.proofs.Members.{Member, filter-member, find-member, find-passes, some-is}
use Rattle.st_counts.proofs.Set.{found-all}
use Rattle.st_counts.proofs.Set as set
use Rattle.st_counts.proofs.Tallies.{any-member}
use Rattle.st_standing.proofs.Filtered.{find-agree, find-kept, some-passes}
use Rattle.st_standing.proofs.Fitting.{each-found, found-holds, kept-holds}
use Rattle.st_standing.proofs.OfKind.{same_triple-is, same_triple-itself}
use Rattle.st_lookups.specs.Looks.{is_cell}
use Rattle.st_removals.specs.Taken.{gone_cells, is_single, is_unreferring, left_of, taken_all}
use Rattle.st_removals.proofs.Gone.{any-images, cell_triple, filter-members, gone-is, is_one, same-truth, taken_all-is}

-- what is found stays found where it is kept
pub find-still : {X : Type 0} (p q : X → Bool) (u : X) (xs : List X) → find p xs ≡ Some u → q u ≡ true → find p (filter q xs) ≡ Some u
find-still p q u [] f k = f
find-still p q u (x ∷ xs) f k =
    either (p x) (λ b. p x ≡ b → cond b (Some x) (find p xs) ≡ Some u → find p (filter q (x ∷ xs)) ≡ Some u)
    (λ _ h g.
    let is = some-is x u g in
    ap (λ b. find p (cond b (x ∷ filter q xs) (filter q xs))) (ap q is ∙ k) ∙ ap (λ b. cond b (Some x) (find p (filter q xs))) h ∙ g)
    (λ _ h g.
    let rest = find-still p q u xs g k in
    either (q x) (λ b. find p (cond b (x ∷ filter q xs) (filter q xs)) ≡ Some u) (λ _. ap (λ b. cond b (Some x) (find p (filter q xs))) h ∙ rest) (λ _. rest)) refl f

-- nothing is found where nothing is kept that passes
pub find-gone : {X : Type 0} (p q : X → Bool) (xs : List X) → list_all (λ x. not (p x) || not (q x)) xs ≡ true → find p (filter q xs) ≡ None
find-gone p q [] h = refl
find-gone p q (x ∷ xs) h =
    let rest = find-gone p q xs (right (not (p x) || not (q x)) (list_all (λ y. not (p y) || not (q y)) xs) h) in
    either (q x) (λ b. (not (p x) || not b) ≡ true → find p (cond b (x ∷ filter q xs) (filter q xs)) ≡ None)
    (λ _ m. ap (λ b. cond b (Some x) (find p (filter q xs))) (not-true (p x) (other-of false (not (p x)) (turned (not (p x)) m) refl)) ∙ rest)
    (λ _ _. rest) (left (not (p x) || not (q x)) (list_all (λ y. not (p y) || not (q y)) xs) h)
  where
    turned : (b : Bool) → (b || false) ≡ true → (false || b) ≡ true
    turned true m = m
    turned false m = m

module _ (s : State) (legal : IsNearlyLegal s) where
  -- ---- single values

  module _ (number : ℕ) (a : Attribute) (f : attribute s.schema number ≡ Some a) (one : a.many ≡ false) (x : EntityId) where
    -- no two triples give a value to a single-valued attribute of an entity
    alone : each_pair (λ t u. not (is_at number x t) || not (is_at number x u)) s.triples ≡ true
    alone =
        ascends-weaken (apart_at_entity s.schema) (λ t u. not (is_at number x t) || not (is_at number x u))
        (λ t u h. either (is_at number x t) (λ b. is_at number x t ≡ b → (not b || not (is_at number x u)) ≡ true)
        (λ _ k.
        let it : t.attribute ≡ number = number-is t.attribute number (left (t.attribute == number) (same_entity t.entity x) k) in
        let of : t.entity ≡ x = same_entity-is t.entity x (right (t.attribute == number) (same_entity t.entity x) k) in
        let here : (passes (λ z. z.many) (attribute s.schema number) || not (is_at number t.entity u)) ≡ true =
        subst (λ z. (passes (λ w. w.many) (attribute s.schema z) || not (is_at z t.entity u)) ≡ true) it h in
        let there : (passes (λ z. z.many) (attribute s.schema number) || not (is_at number x u)) ≡ true =
        subst (λ z. (passes (λ w. w.many) (attribute s.schema number) || not (is_at number z u)) ≡ true) of here in
        other-of (passes (λ z. z.many) (attribute s.schema number)) (not (is_at number x u)) there (ap (passes (λ z. z.many)) f ∙ one))
        (λ _ _. refl) refl) s.triples legal.single

    -- each triple there has the value
    pub same-there : (u : Triple) → find (is_at number x) s.triples ≡ Some u → list_all (λ t. not (is_at number x t) || same_value u.value t.value) s.triples ≡ true
    same-there u g = found-all (is_at number x) (λ t. same_value u.value t.value) u s.triples alone g (same_value-itself u.value)

    pub value-is : (t : Triple) → Member t s.triples → is_at number x t ≡ true → value_at number x s.triples ≡ t.value
    value-is t m h = by (find (is_at number x) s.triples) refl
      where
        by : (o : Option Triple) → find (is_at number x) s.triples ≡ o → value_in o ≡ t.value
        by None g = absurd (true≢false (sym h ∙ not-true (is_at number x t) (m (λ u. not (is_at number x u)) (set.find-none (is_at number x) s.triples g))))
        by (Some u) g =
            same_value-is u.value t.value
            (other-of (not (is_at number x t)) (same_value u.value t.value) (m (λ y. not (is_at number x y) || same_value u.value y.value) (same-there u g)) (ap not h))

  module _ (in_rows : All (λ b. b.column ≡ false) s.schema.attributes) (other entity : EntityId) where
    abbrev pub value : Attribute → Value
    value a = value_at a.number other s.triples

    -- the attributes whose cells stand in the row of the one
    abbrev pub columns : List Attribute
    columns = filter is_cell (attributes_in s.schema other.ty)

    abbrev pub refers : Attribute → Bool
    refers a = same_value (value_at a.number other s.triples) (Entity entity)

    -- ---- which triples go

    -- those of the attributes whose values are the other one
    pub gone-cells : gone_cells s.schema other (Some entity) (entity_row s other).cells ≡ map (cell_triple other (λ a. value_at a.number other s.triples)) (filter refers columns)
    gone-cells = gone-is other (Some entity) value columns

    abbrev gone : List Triple
    gone = gone_cells s.schema other (Some entity) (entity_row s other).cells

    abbrev is_reference : Triple → Bool
    is_reference t = same_entity t.entity other && (same_value t.value (Entity entity) && is_single s.schema t)

    -- an attribute of a cell in the row of the one
    pub record IsColumn (a : Attribute) : Type 0 where
      pub found : attribute s.schema a.number ≡ Some a
      pub single : a.many ≡ false
      pub owner : isa s.schema other.ty a.owner ≡ true

    pub all-columns : All IsColumn columns
    all-columns k d l = record {
      found = All-filter is_cell (λ b. attribute s.schema b.number ≡ Some b) (attributes_in s.schema other.ty)
          (All-filter (λ b. isa s.schema other.ty b.owner) (λ b. attribute s.schema b.number ≡ Some b) s.schema.attributes (each-found s.schema.attributes legal.consistent.numbers)) k d l;
      single = not-true (at d).many (left (not (at d).many) (not (at d).column) (filter_passes is_cell (attributes_in s.schema other.ty) k d l));
      owner = All-filter is_cell (λ b. isa s.schema other.ty b.owner ≡ true) (attributes_in s.schema other.ty) (filter_passes (λ b. isa s.schema other.ty b.owner) s.schema.attributes) k d l;
    }
      where
        at : Attribute → Attribute
        at d = slice_index_or columns k d

    -- one whose value is the other one
    pub record IsReferring (a : Attribute) : Type 0 where
      pub column : IsColumn a
      pub refers : same_value (value_at a.number other s.triples) (Entity entity) ≡ true

    pub all-referring : All IsReferring (filter refers columns)
    all-referring = kept-holds IsReferring refers columns (λ k d l h. record { column = all-columns k d l; refers = h })

    one-gone : (t : Triple) → is_one gone t ≡ true → is_reference t ≡ true
    one-gone t h =
        let some =
        some-passes IsReferring (λ a. same_triple (cell_triple other value a) t) (filter refers columns) all-referring
        (sym (any-images (λ g. same_triple g t) (cell_triple other value) (filter refers columns)) ∙ sym (ap (λ (l : List Triple). is_one l t) gone-cells) ∙ h) in
        let a = some.0 in
        let here : is_reference (cell_triple other value a) ≡ true =
        both (same_entity other other) (same_value (value a) (Entity entity) && is_single s.schema (cell_triple other value a)) (same_entity-itself other)
        (both (same_value (value a) (Entity entity)) (is_single s.schema (cell_triple other value a)) some.1.refers (ap (passes (λ b. not b.many)) some.1.column.found ∙ ap not some.1.column.single)) in
        subst (λ z. is_reference z ≡ true) (same_triple-is (cell_triple other value a) t some.2) here

    reference-one : (t : Triple) → Member t s.triples → is_reference t ≡ true → is_one gone t ≡ true
    reference-one t m h =
        let rest = right (same_entity t.entity other) (same_value t.value (Entity entity) && is_single s.schema t) h in
        let of : t.entity ≡ other = same_entity-is t.entity other (left (same_entity t.entity other) (same_value t.value (Entity entity) && is_single s.schema t) h) in
        let is : same_value t.value (Entity entity) ≡ true = left (same_value t.value (Entity entity)) (is_single s.schema t) rest in
        by (attribute s.schema t.attribute) refl of is (right (same_value t.value (Entity entity)) (is_single s.schema t) rest)
        (right (is_live s t.entity) (passes (λ a. isa s.schema t.entity.ty a.owner && can_hold s a.kind t.value) (attribute s.schema t.attribute)) (m (is_sound s) legal.sound))
      where
        by : (o : Option Attribute) → attribute s.schema t.attribute ≡ o → t.entity ≡ other → same_value t.value (Entity entity) ≡ true → passes (λ a. not a.many) o ≡ true
            → passes (λ a. isa s.schema t.entity.ty a.owner && can_hold s a.kind t.value) o ≡ true → is_one gone t ≡ true
        by None f of is one sound = absurd (true≢false (sym one))
        by (Some a) f of is one sound =
            let number : a.number ≡ t.attribute = number-is a.number t.attribute (find-passes (λ b. b.number == t.attribute) a s.schema.attributes f) in
            let in_row : a.column ≡ false = found-holds (λ b. b.column ≡ false) (λ b. b.number == t.attribute) s.schema.attributes a in_rows f in
            let owner : isa s.schema other.ty a.owner ≡ true = subst (λ (x : EntityId). isa s.schema x.ty a.owner ≡ true) of (left (isa s.schema t.entity.ty a.owner) (can_hold s a.kind t.value) sound) in
            let inside : Member a columns =
            filter-member is_cell a (attributes_in s.schema other.ty)
            (filter-member (λ b. isa s.schema other.ty b.owner) a s.schema.attributes (find-member (λ b. b.number == t.attribute) a s.schema.attributes f) owner)
            (both (not a.many) (not a.column) one (ap not in_row)) in
            let here : is_at t.attribute other t ≡ true =
            both (t.attribute == t.attribute) (same_entity t.entity other) (number-itself t.attribute) (ap (λ (x : EntityId). same_entity x other) of ∙ same_entity-itself other) in
            let its : value a ≡ t.value = ap (λ (n : ℕ). value_at n other s.triples) number ∙ value-is t.attribute a f (not-true a.many one) other t m here in
            let same : cell_triple other value a ≡ t = λ i. record { attribute = number i; entity = sym of i; value = its i } in
            let passed : same_triple (cell_triple other value a) t ≡ true = ap (λ (u : Triple). same_triple u t) same ∙ same_triple-itself t in
            ap (λ (l : List Triple). is_one l t) gone-cells ∙ any-images (λ g. same_triple g t) (cell_triple other value) (filter refers columns)
            ∙ any-member (λ b. same_triple (cell_triple other value b) t) a (filter refers columns) (filter-member refers a columns inside (ap (λ (v : Value). same_value v (Entity entity)) its ∙ is)) passed

    -- a triple stays where it is no reference of the one to the other
    pub stays-is : (t : Triple) → Member t s.triples → not (is_one gone t) ≡ is_unreferring s.schema other entity t
    stays-is t m = ap not (same-truth (is_one gone t) (is_reference t) (λ h. one-gone t h) (λ h. reference-one t m h))

    -- all others stay
    pub cleared-is : taken_all (gone_cells s.schema other (Some entity) (entity_row s other).cells) s ≡ record s { triples = filter (is_unreferring s.schema other entity) s.triples }
    cleared-is = taken_all-is gone s ∙ ap (λ (ts : List Triple). record s { triples = ts }) (filter-members (λ t. not (is_one gone t)) (is_unreferring s.schema other entity) s.triples stays-is)

    -- ---- what values are left

    abbrev stays : Triple → Bool
    stays t = is_unreferring s.schema other entity t

    -- those of all other entities
    pub value-elsewhere : (x : EntityId) → same_entity x other ≡ false → (number : ℕ) → value_at number x (filter (is_unreferring s.schema other entity) s.triples) ≡ value_at number x s.triples
    value-elsewhere x apart number =
        ap value_in (find-kept stays (is_at number x) s.triples
        ∙ find-agree (λ t. stays t && is_at number x t) (is_at number x) s.triples
        (λ t. either (is_at number x t) (λ b. is_at number x t ≡ b → (stays t && b) ≡ b)
        (λ _ k.
        let of : t.entity ≡ x = same_entity-is t.entity x (right (t.attribute == number) (same_entity t.entity x) k) in
        let strange : same_entity t.entity other ≡ false = ap (λ (y : EntityId). same_entity y other) of ∙ apart in
        ap (λ b. not (b && (same_value t.value (Entity entity) && is_single s.schema t)) && true) strange)
        (λ _ _. none (stays t)) refl))
      where
        none : (b : Bool) → (b && false) ≡ false
        none true = refl
        none false = refl

    -- and of the one, null in place of the other one
    pub value-left : (number : ℕ) (a : Attribute) → attribute s.schema number ≡ Some a → a.many ≡ false
        → value_at number other (filter (is_unreferring s.schema other entity) s.triples) ≡ left_of (Some entity) (value_at number other s.triples)
    value-left number a f one = by (find (is_at number other) s.triples) refl
      where
        single : (t : Triple) → is_at number other t ≡ true → is_single s.schema t ≡ true
        single t h =
            ap (λ (n : ℕ). passes (λ b. not b.many) (attribute s.schema n)) (number-is t.attribute number (left (t.attribute == number) (same_entity t.entity other) h))
            ∙ ap (passes (λ b. not b.many)) f ∙ ap not one

        by : (o : Option Triple) → find (is_at number other) s.triples ≡ o → value_at number other (filter stays s.triples) ≡ left_of (Some entity) (value_in o)
        by None g =
            ap value_in (find-gone (is_at number other) stays s.triples
            (all-weaken (λ t. not (is_at number other t)) (λ t. not (is_at number other t) || not (stays t)) (λ t h. ap (λ b. b || not (stays t)) h) s.triples (set.find-none (is_at number other) s.triples g)))
        by (Some u) g =
            let at_u = find-passes (is_at number other) u s.triples g in
            either (same_value u.value (Entity entity)) (λ b. value_at number other (filter stays s.triples) ≡ (if b then Null else u.value))
            (λ k.
            ap value_in (find-gone (is_at number other) stays s.triples
            (all-weaken (λ t. not (is_at number other t) || same_value u.value t.value) (λ t. not (is_at number other t) || not (stays t))
            (λ t h. either (is_at number other t) (λ b. is_at number other t ≡ b → (not b || same_value u.value t.value) ≡ true → (not b || not (stays t)) ≡ true)
            (λ _ m same.
            let is : same_value t.value (Entity entity) ≡ true = ap (λ (v : Value). same_value v (Entity entity)) (sym (same_value-is u.value t.value same)) ∙ k in
            ap (λ b. not (not b)) (both (same_entity t.entity other) (same_value t.value (Entity entity) && is_single s.schema t) (right (t.attribute == number) (same_entity t.entity other) m)
            (both (same_value t.value (Entity entity)) (is_single s.schema t) is (single t m))))
            (λ _ _ _. refl) refl h) s.triples (same-there number a f one other u g))))
            (λ k. ap value_in (find-still (is_at number other) stays u s.triples g (kept (same_entity u.entity other) (is_single s.schema u) (same_value u.value (Entity entity)) k)))
          where
            kept : (x y z : Bool) → z ≡ false → not (x && (z && y)) ≡ true
            kept true y z k = ap (λ b. not (b && y)) k
            kept false y z k = refl
