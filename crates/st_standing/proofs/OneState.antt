-- Pages nearly stand for one state at most.
use Rattle.std.proofs.Common.{◌≡◌, ℕ, ◌<◌, pos, Bool, true, false, List, [], ◌∷◌, get_or, length, Option, Some, None, refl, sym, ap, subst, ◌∙◌, arith, true≢false}
use Rattle.std.specs.Prelude.{◌==◌, ◌&&◌, ◌||◌, cond, not, map, filter, find, nat_le, nat_lt, slice_index}
use Rattle.std.specs.List.{All, list_all, list_any}
use Rattle.std.specs.Str.{bytes_eq}
use Rattle.std.proofs.lemmas.Bool.Decides.{nat_tests}
use Rattle.std.proofs.lemmas.Grind.{same_number_lists}
use Rattle.std.proofs.lemmas.List.Elements.{All-filter, All-head, All-map, All-tail, filter_passes}
use Rattle.st_values.specs.declared.value.EntityId.{EntityId}
use Rattle.st_values.specs.declared.value.Value.{Value}
use Rattle.st_values.specs.declared.value.Value.TheVariants.{Int, Entity}
use Rattle.st_values.specs.Arranged.{ascends}
use Rattle.st_values.specs.Order.{entity_before, same_entity, same_value}
use Rattle.st_values.proofs.Entities.{entity_before-strict, same_entity-is, same_entity-itself, same_value-is, same_value-itself}
use Rattle.st_values.proofs.Placing.{IsStrict, ascending-unique}
use Rattle.st_values.proofs.Tests.{all-not, both, either, left, never, not-true, other-of, right}
use Rattle.st_lattice.specs.declared.attribute.Attribute.{Attribute}
use Rattle.st_lattice.specs.declared.stores.StoreKind.TheVariants.{Extent, Set, Column}
use Rattle.st_lattice.specs.Lattice.{attributes_in, isa}
use Rattle.st_lattice.specs.Outline.{Outline, attribute}
use Rattle.st_lattice.specs.Stores.{keeps, passes, store, stores_of}
use Rattle.st_keys.specs.Keys.{Fits, IsEntity}
use Rattle.st_rows.specs.declared.field.Field.{Field}
use Rattle.st_rows.specs.Rows.{AreHeld, pair_fields, pair_values, row, row_fields}
use Rattle.st_pages.specs.Attempt.{Array}
use Rattle.st_pages.specs.declared.places.Place.{Place}
use Rattle.st_state.specs.declared.triple.Triple.{Triple}
use Rattle.st_state.specs.State.{State, is_at, is_live, same_triple, triple_before, value_at, value_in}
use Rattle.st_state.specs.Legal.{can_hold, is_counted, is_sound, IsNearlyLegal}
use Rattle.st_state.specs.Rows.{entity_row}
use Rattle.st_state.proofs.Changed.{number-is, number-itself}
use Rattle.st_state.proofs.Members.{Member, filter-member, find-member, find-passes, member-filter}
use Rattle.st_state.proofs.Orders.{triple_before-strict}
use Rattle.st_state.proofs.Set.{null}
use Rattle.st_store.proofs.Ordering.{bytes-same, same-bytes}
use Rattle.st_catalog.specs.Catalog.{Has}
use Rattle.st_standing.specs.Standing.{IsOfProgram, NearlyStandsAt, NearlyStandsFor, entity_bytes, extent_rows, pair_bytes, rows_at, triples_of, value_rows}
use Rattle.st_standing.proofs.Converse.{found-none, only, same_triple-is}
use Rattle.st_standing.proofs.Fitting.{all-passed, among-holds, kept-holds, no-null, row-held, triples-fit}
use Rattle.st_standing.proofs.Listed.{extent-number, has-column, has-extent, has-set, in-holds, rows-column, rows-extent, rows-set}
use Rattle.st_standing.proofs.Numbered.{numbers-below}

-- ---- lists whose images are the same

module _ {X : Type 0} where
  same-head : (x y : X) (xs ys : List X) → x ∷ xs ≡ y ∷ ys → x ≡ y
  same-head x y xs ys e = cc

  same-tail : (x y : X) (xs ys : List X) → x ∷ xs ≡ y ∷ ys → xs ≡ ys
  same-tail x y xs ys e = cc

  none-some : (x : X) (xs : List X) → [] ≡ x ∷ xs → ⊥
  none-some x xs e = cc

module _ {X Y : Type 0} (g h : X → Y) where
  -- by functions of which no image tells two elements
  maps-one : (P : X → Type 0) → ((x y : X) → P x → P y → g x ≡ h y → x ≡ y) → (xs ys : List X) → All P xs → All P ys → map g xs ≡ map h ys → xs ≡ ys
  maps-one P one [] [] a b e = refl
  maps-one P one [] (y ∷ ys) a b e = absurd (none-some (h y) (map h ys) e)
  maps-one P one (x ∷ xs) [] a b e = absurd (none-some (g x) (map g xs) (sym e))
  maps-one P one (x ∷ xs) (y ∷ ys) a b e =
      λ i. one x y (All-head P x xs a) (All-head P y ys b) (same-head (g x) (h y) (map g xs) (map h ys) e) i
      ∷ maps-one P one xs ys (All-tail P x xs a) (All-tail P y ys b) (same-tail (g x) (h y) (map g xs) (map h ys) e) i

  -- of one list each image is the same
  maps-agree : (test : Y → Y → Bool) → ((y : Y) → test y y ≡ true) → (xs : List X) → map g xs ≡ map h xs → list_all (λ x. test (g x) (h x)) xs ≡ true
  maps-agree test itself [] e = refl
  maps-agree test itself (x ∷ xs) e =
      both (test (g x) (h x)) (list_all (λ y. test (g y) (h y)) xs) (subst (λ z. test (g x) z ≡ true) (same-head (g x) (h x) (map g xs) (map h xs) e) (itself (g x)))
      (maps-agree test itself xs (same-tail (g x) (h x) (map g xs) (map h xs) e))

-- ---- lists in order with the same elements

module _ {X : Type 0} where
  member-any : (p : X → Bool) (x : X) (xs : List X) → Member x xs → p x ≡ true → list_any p xs ≡ true
  member-any p x xs m h =
      either (list_any p xs) (λ b. list_any p xs ≡ b → b ≡ true) (λ _ _. refl) (λ _ k. absurd (true≢false (sym (m (λ y. not (p y)) (all-not p xs ∙ ap not k)) ∙ ap not h))) refl

  any-found : (p : X → Bool) (xs : List X) → list_any p xs ≡ true → (x : X) × (find p xs ≡ Some x)
  any-found p [] h = absurd (true≢false (sym h))
  any-found p (x ∷ xs) h =
      either (p x) (λ b. (b || list_any p xs) ≡ true → (y : X) × (cond b (Some x) (find p xs) ≡ Some y)) (λ _ _. (x, refl)) (λ _ m. any-found p xs m) h

  carried : (xs ys : List X) → ((x : X) → Member x xs → Member x ys) → (p : X → Bool) → list_any p xs ≡ true → list_any p ys ≡ true
  carried xs ys to p h =
      let one = any-found p xs h in
      member-any p one.0 ys (to one.0 (find-member p one.0 xs one.1)) (find-passes p one.0 xs one.1)

  one-order : (before : X → X → Bool) → IsStrict before → (xs ys : List X) → ascends before xs ≡ true → ascends before ys ≡ true
      → ((x : X) → Member x xs → Member x ys) → ((x : X) → Member x ys → Member x xs) → xs ≡ ys
  one-order before strict xs ys a b to from = ascending-unique before strict xs ys a b same
    where
      same : (p : X → Bool) → list_any p xs ≡ list_any p ys
      same p =
          either (list_any p xs) (λ c. list_any p xs ≡ c → c ≡ list_any p ys) (λ _ k. sym (carried xs ys to p k))
          (λ _ k. sym (never (list_any p ys) (λ m. true≢false (sym (carried ys xs from p m) ∙ k)))) refl

less-is : (m n : ℕ) → nat_lt m n ≡ true → m < n
less-is m n h = grind (arith, nat_tests, h)

both-not : (a b : Bool) → (a || b) ≡ false → (not a && not b) ≡ true
both-not true b h = absurd (true≢false h)
both-not false b h = ap not h

or-first : (a b : Bool) → (a || b) ≡ false → a ≡ false
or-first true b h = absurd (true≢false h)
or-first false b h = refl

-- ---- two states of one schema with the same rows in all stores

module _ (spelling : (fields : List Field) (xs ys : List Value) → AreHeld fields xs → AreHeld fields ys → row fields xs ≡ row fields ys → xs ≡ ys)
    (o : Outline) (l m : List EntityId) (ts us : List Triple) (ks js : List ℕ) where
  abbrev one : State
  one = record { schema = o; live = l; triples = ts; last = ks }

  abbrev other : State
  other = record { schema = o; live = m; triples = us; last = js }

  module _ (legal : IsNearlyLegal one) (program : IsOfProgram one) (legal_too : IsNearlyLegal other) (program_too : IsOfProgram other)
      (below : list_all (λ a. nat_lt a.number o.next) o.attributes ≡ true) (rows : All (λ number. rows_at one number ≡ rows_at other number) (stores_of o)) where
    -- ---- the live entities

    extents-same : (ty : ℕ) → ty < length o.names → extent_rows one ty ≡ extent_rows other ty
    extents-same ty h =
        let few = legal.orderly.few_types in
        sym (rows-extent one ty (omega (arith, h, few)))
        ∙ in-holds (λ number. rows_at one number ≡ rows_at other number) (store Extent ty) (stores_of o) rows (has-extent o ty h)
        ∙ rows-extent other ty (omega (arith, h, few))

    typed : (ty : ℕ) (xs : List EntityId) → All IsEntity xs → All (λ e. (e.ty ≡ ty) × IsEntity e) (filter (λ e. e.ty == ty) xs)
    typed ty xs all k d h = (
      number-is (get_or (filter (λ e. e.ty == ty) xs) k d).ty ty (filter_passes (λ e. e.ty == ty) xs k d h),
      All-filter (λ e. e.ty == ty) IsEntity xs all k d h,
    )

    entity-told : (ty : ℕ) (x y : EntityId) → (x.ty ≡ ty) × IsEntity x → (y.ty ≡ ty) × IsEntity y → entity_bytes one x ≡ entity_bytes other y → x ≡ y
    entity-told ty x y a b e =
        let same : y.ty ≡ x.ty = b.0 ∙ sym a.0 in
        let values : List Value = Int (pos y.serial) ∷ (entity_row other y).cells in
        let told = spelling (row_fields o x.ty) (Int (pos x.serial) ∷ (entity_row one x).cells) values (row-held one legal program x a.1)
        (subst (λ t. AreHeld (row_fields o t) values) same (row-held other legal_too program_too y b.1)) (e ∙ ap (λ t. row (row_fields o t) values) same) in
        let serial = serial-is x.serial y.serial (same-head (Int (pos x.serial)) (Int (pos y.serial)) (entity_row one x).cells (entity_row other y).cells told) in
        λ i. record { ty = sym same i; serial = serial i }
      where
        serial-is : (k n : ℕ) → Int (pos k) ≡ Int (pos n) → k ≡ n
        serial-is k n q = cc

    typed-same : (ty : ℕ) → ty < length o.names → filter (λ e. e.ty == ty) l ≡ filter (λ e. e.ty == ty) m
    typed-same ty h =
        maps-one (entity_bytes one) (entity_bytes other) (λ e. (e.ty ≡ ty) × IsEntity e) (entity-told ty) (filter (λ e. e.ty == ty) l) (filter (λ e. e.ty == ty) m)
        (typed ty l program.entities) (typed ty m program_too.entities) (extents-same ty h)

    type-there : (e : EntityId) → Member e l → e.ty < length o.names
    type-there e k = less-is e.ty (length o.names) (left (nat_lt e.ty (length o.names)) (nat_lt 0 e.serial && nat_le e.serial (slice_index ks e.ty)) (k (is_counted one) legal.counted))

    live-in : (e : EntityId) → Member e l → Member e m
    live-in e k =
        member-filter (λ x. x.ty == e.ty) e m
        (subst (λ (xs : List EntityId). Member e xs) (typed-same e.ty (type-there e k)) (filter-member (λ x. x.ty == e.ty) e l k (number-itself e.ty)))

    -- ---- the cells of a live entity

    live-entity : (e : EntityId) → Member e l → IsEntity e
    live-entity e k = among-holds IsEntity e l program.entities (member-any (same_entity e) e l k (same_entity-itself e))

    cells-same : (e : EntityId) → Member e l → (entity_row one e).cells ≡ (entity_row other e).cells
    cells-same e k =
        let alike : List EntityId = filter (λ x. x.ty == e.ty) l in
        let there = type-there e k in
        let agree = maps-agree (entity_bytes one) (entity_bytes other) bytes_eq (λ y. same-bytes y y refl) alike (extents-same e.ty there ∙ ap (map (entity_bytes other)) (sym (typed-same e.ty there))) in
        let is = bytes-same (entity_bytes one e) (entity_bytes other e) (filter-member (λ x. x.ty == e.ty) e l k (number-itself e.ty) (λ x. bytes_eq (entity_bytes one x) (entity_bytes other x)) agree) in
        same-tail (Int (pos e.serial)) (Int (pos e.serial)) (entity_row one e).cells (entity_row other e).cells
        (spelling (row_fields o e.ty) (Int (pos e.serial) ∷ (entity_row one e).cells) (Int (pos e.serial) ∷ (entity_row other e).cells)
        (row-held one legal program e (live-entity e k)) (row-held other legal_too program_too e (live-entity e k)) is)

    value-same : (e : EntityId) → Member e l → (a : Attribute) → Member a o.attributes → isa o e.ty a.owner ≡ true → (a.many || a.column) ≡ false
        → value_at a.number e ts ≡ value_at a.number e us
    value-same e k a among owner plain =
        let fields : List Attribute = filter (λ b. not b.many && not b.column) (attributes_in o e.ty) in
        let agree = maps-agree (λ b. value_at b.number e ts) (λ b. value_at b.number e us) same_value same_value-itself fields (cells-same e k) in
        same_value-is (value_at a.number e ts) (value_at a.number e us)
        (filter-member (λ b. not b.many && not b.column) a (attributes_in o e.ty) (filter-member (λ b. isa o e.ty b.owner) a o.attributes among owner) (both-not a.many a.column plain)
        (λ b. same_value (value_at b.number e ts) (value_at b.number e us)) agree)

    -- ---- the triples of an attribute that stand apart

    of-number : (a : Attribute) (xs : List Triple) → All (λ t. (t.attribute == a.number) ≡ true → Fits a.kind t.value × IsEntity t.entity) xs
        → All (λ t. (t.attribute ≡ a.number) × (Fits a.kind t.value × IsEntity t.entity)) (filter (λ t. t.attribute == a.number) xs)
    of-number a xs all =
        kept-holds (λ t. (t.attribute ≡ a.number) × (Fits a.kind t.value × IsEntity t.entity)) (λ t. t.attribute == a.number) xs
        (λ k d h q. (number-is (get_or xs k d).attribute a.number q, all k d h q))

    triple-told : (a : Attribute) (t u : Triple) → (t.attribute ≡ a.number) × (Fits a.kind t.value × IsEntity t.entity) → (u.attribute ≡ a.number) × (Fits a.kind u.value × IsEntity u.entity)
        → pair_bytes a.kind t.value t.entity ≡ pair_bytes a.kind u.value u.entity → t ≡ u
    triple-told a t u p q e =
        let told = spelling (pair_fields a.kind false) (pair_values false t.value t.entity) (pair_values false u.value u.entity) (p.1.1, (p.1.0, tt)) (q.1.1, (q.1.0, tt)) e in
        let entity = entity-is t.entity u.entity (same-head (Entity t.entity) (Entity u.entity) (t.value ∷ []) (u.value ∷ []) told) in
        let value = same-head t.value u.value [] [] (same-tail (Entity t.entity) (Entity u.entity) (t.value ∷ []) (u.value ∷ []) told) in
        λ i. record { attribute = (p.0 ∙ sym q.0) i; entity = entity i; value = value i }
      where
        entity-is : (x y : EntityId) → Entity x ≡ Entity y → x ≡ y
        entity-is x y k = cc

    apart-same : (a : Attribute) → attribute o a.number ≡ Some a → a.number < o.next → (a.many || a.column) ≡ true → filter (λ t. t.attribute == a.number) ts ≡ filter (λ t. t.attribute == a.number) us
    apart-same a f h apart =
        let next = legal.orderly.next in
        let small : a.number < 65536 = omega (arith, h, next) in
        maps-one (λ t. pair_bytes a.kind t.value t.entity) (λ t. pair_bytes a.kind t.value t.entity) (λ t. (t.attribute ≡ a.number) × (Fits a.kind t.value × IsEntity t.entity)) (triple-told a)
        (filter (λ t. t.attribute == a.number) ts) (filter (λ t. t.attribute == a.number) us)
        (of-number a ts (triples-fit one legal program a.number a f)) (of-number a us (triples-fit other legal_too program_too a.number a f)) (by small a.many a.column refl refl apart)
      where
        by : a.number < 65536 → (b c : Bool) → a.many ≡ b → a.column ≡ c → (b || c) ≡ true → value_rows a.kind (triples_of a.number ts) ≡ value_rows a.kind (triples_of a.number us)
        by small true c many column q =
            sym (rows-set one a f small)
            ∙ in-holds (λ number. rows_at one number ≡ rows_at other number) (store Set a.number) (stores_of o) rows (has-set o a.number h (ap (passes (keeps Set)) f ∙ many))
            ∙ rows-set other a f small
        by small false true many column q =
            sym (rows-column one a f small)
            ∙ in-holds (λ number. rows_at one number ≡ rows_at other number) (store Column a.number) (stores_of o) rows (has-column o a.number h (ap (passes (keeps Column)) f ∙ column))
            ∙ rows-column other a f small
        by small false false many column q = absurd (true≢false (sym q))

    -- ---- all triples

    -- an entity's single value is that of its triple
    value-of : (a : Attribute) → attribute o a.number ≡ Some a → a.many ≡ false → (u : Triple) → is_at a.number u.entity u ≡ true → Member u ts → value_at a.number u.entity ts ≡ u.value
    value-of a f single u at k = by (find (is_at a.number u.entity) ts) refl
      where
        by : (c : Option Triple) → find (is_at a.number u.entity) ts ≡ c → value_in c ≡ u.value
        by None h = absurd (true≢false (sym at ∙ not-true (is_at a.number u.entity u) (k (λ x. not (is_at a.number u.entity x)) (found-none (is_at a.number u.entity) ts h))))
        by (Some t) h =
            ap (λ x. x.value)
            (same_triple-is t u
            (other-of (not (is_at a.number u.entity u)) (same_triple t u)
            (k (λ x. not (is_at a.number u.entity x) || same_triple t x) (only a.number u.entity o a f single t ts legal.single h)) (ap not at)))

    -- and where it is, its triple is
    value-in : (a : Attribute) (u : Triple) → (u.attribute == a.number) ≡ true → null u.value ≡ false → value_at a.number u.entity us ≡ u.value → Member u us
    value-in a u number some e = by (find (is_at a.number u.entity) us) refl e
      where
        by : (c : Option Triple) → find (is_at a.number u.entity) us ≡ c → value_in c ≡ u.value → Member u us
        by None h k = absurd (true≢false (ap null k ∙ some))
        by (Some t) h k =
            let at = find-passes (is_at a.number u.entity) t us h in
            let attribute_is : t.attribute ≡ u.attribute =
            number-is t.attribute a.number (left (t.attribute == a.number) (same_entity t.entity u.entity) at) ∙ sym (number-is u.attribute a.number number) in
            let entity_is : t.entity ≡ u.entity = same_entity-is t.entity u.entity (right (t.attribute == a.number) (same_entity t.entity u.entity) at) in
            let is : t ≡ u = λ i. record { attribute = attribute_is i; entity = entity_is i; value = k i } in
            subst (λ x. Member x us) is (find-member (is_at a.number u.entity) t us h)

    triple-in-by : (u : Triple) → Member u ts → is_live one u.entity ≡ true → null u.value ≡ false → (a : Attribute) → attribute o u.attribute ≡ Some a → isa o u.entity.ty a.owner ≡ true → Member u us
    triple-in-by u k live some a f owner =
        let number : a.number ≡ u.attribute = number-is a.number u.attribute (find-passes (λ x. x.number == u.attribute) a o.attributes f) in
        let own : attribute o a.number ≡ Some a = ap (attribute o) number ∙ f in
        let has : (u.attribute == a.number) ≡ true = subst (λ n. (n == a.number) ≡ true) number (number-itself a.number) in
        let among : Member a o.attributes = find-member (λ x. x.number == u.attribute) a o.attributes f in
        let less = less-is a.number o.next (among (λ b. nat_lt b.number o.next) below) in
        either (a.many || a.column) (λ b. (a.many || a.column) ≡ b → Member u us)
        (λ _ apart.
        member-filter (λ t. t.attribute == a.number) u us
        (subst (λ (xs : List Triple). Member u xs) (apart-same a own less apart) (filter-member (λ t. t.attribute == a.number) u ts k has)))
        (λ _ plain.
        let at : is_at a.number u.entity u ≡ true = both (u.attribute == a.number) (same_entity u.entity u.entity) has (same_entity-itself u.entity) in
        let here : Member u.entity l = λ q all. among-holds (λ x. q x ≡ true) u.entity l (all-passed q l all) live in
        value-in a u has some (sym (value-same u.entity here a among owner plain) ∙ value-of a own (or-first a.many a.column plain) u at k)) refl

    triple-in : (u : Triple) → Member u ts → Member u us
    triple-in u k =
        let sound : is_sound one u ≡ true = k (is_sound one) legal.sound in
        let right_one : Attribute → Bool = λ b. isa o u.entity.ty b.owner && can_hold one b.kind u.value in
        by (left (is_live one u.entity) (passes right_one (attribute o u.attribute)) sound) (no-null one legal u sound) (attribute o u.attribute) refl
        (right (is_live one u.entity) (passes right_one (attribute o u.attribute)) sound)
      where
        by : is_live one u.entity ≡ true → null u.value ≡ false → (c : Option Attribute) → attribute o u.attribute ≡ c → passes (λ b. isa o u.entity.ty b.owner && can_hold one b.kind u.value) c ≡ true → Member u us
        by live some None f h = absurd (true≢false (sym h))
        by live some (Some a) f h = triple-in-by u k live some a f (left (isa o u.entity.ty a.owner) (can_hold one a.kind u.value) h)

    -- ---- the last serials

    last-same : All (λ number. number < 65536 → slice_index ks number ≡ slice_index js number) (stores_of o) → ks ≡ js
    last-same lasts = same_number_lists ks js (legal.counts ∙ sym legal_too.counts) at
      where
        at : (ty : ℕ) → ty < length ks → get_or ks ty 0 ≡ get_or js ty 0
        at ty h =
            let counts = legal.counts in
            let few = legal.orderly.few_types in
            let here : ty < length o.names = omega (arith, h, counts) in
            subst (λ n. n < 65536 → slice_index ks n ≡ slice_index js n) (extent-number ty)
            (in-holds (λ number. number < 65536 → slice_index ks number ≡ slice_index js number) (store Extent ty) (stores_of o) lasts (has-extent o ty here)) (omega (arith, here, few))

-- ---- two states that pages nearly stand for

module _ (form : Place → Array → List ℕ → List (List ℕ) → Type 0)
    (spelling : (fields : List Field) (xs ys : List Value) → AreHeld fields xs → AreHeld fields ys → row fields xs ≡ row fields ys → xs ≡ ys)
    (one_catalog : (pages : Array) (a b : Outline) (p q : List Place) → Has pages a p → Has pages b q → (a ≡ b) × (p ≡ q))
    (one_list : (p : Place) (a : Array) (pages others : List ℕ) (rows more : List (List ℕ)) → form p a pages rows → form p a others more → (pages ≡ others) × (rows ≡ more)) where
  parts-same : (array : Array) (places : List Place) (o : Outline) (l m : List EntityId) (ts us : List Triple) (ks js : List ℕ)
      → NearlyStandsAt form array places (one spelling o l m ts us ks js) → NearlyStandsAt form array places (other spelling o l m ts us ks js)
      → (l ≡ m) × (ts ≡ us) × (ks ≡ js)
  parts-same array places o l m ts us ks js a b =
      let below = numbers-below o a.database.has.spells.readable in
      let stores = a.database.has.names.of.stores in
      let by_place : All (λ place. rows_at (one spelling o l m ts us ks js) place.store ≡ rows_at (other spelling o l m ts us ks js) place.store) places =
      λ k d h.
      (one_list (get_or places k d) array (a.database.pages (get_or places k d).store) (b.database.pages (get_or places k d).store)
      (rows_at (one spelling o l m ts us ks js) (get_or places k d).store) (rows_at (other spelling o l m ts us ks js) (get_or places k d).store) (a.database.stores k d h) (b.database.stores k d h)).1 in
      let rows : All (λ number. rows_at (one spelling o l m ts us ks js) number ≡ rows_at (other spelling o l m ts us ks js) number) (stores_of o) =
      subst (λ (xs : List ℕ). All (λ number. rows_at (one spelling o l m ts us ks js) number ≡ rows_at (other spelling o l m ts us ks js) number) xs) stores
      (All-map (λ number. rows_at (one spelling o l m ts us ks js) number ≡ rows_at (other spelling o l m ts us ks js) number) (λ (p : Place). p.store) places by_place) in
      let back : All (λ number. rows_at (other spelling o l m ts us ks js) number ≡ rows_at (one spelling o l m ts us ks js) number) (stores_of o) = λ k d h. sym (rows k d h) in
      let lasts : All (λ number. number < 65536 → slice_index ks number ≡ slice_index js number) (stores_of o) =
      subst (λ (xs : List ℕ). All (λ number. number < 65536 → slice_index ks number ≡ slice_index js number) xs) stores
      (All-map (λ number. number < 65536 → slice_index ks number ≡ slice_index js number) (λ (p : Place). p.store) places
      (λ k d h small. sym (a.database.serials k d h small) ∙ b.database.serials k d h small)) in (
        one-order entity_before entity_before-strict l m a.legal.live_ascends b.legal.live_ascends
            (live-in spelling o l m ts us ks js a.legal a.program b.legal b.program below rows) (live-in spelling o m l us ts js ks b.legal b.program a.legal a.program below back),
        one-order triple_before triple_before-strict ts us a.legal.triples_ascend b.legal.triples_ascend
            (triple-in spelling o l m ts us ks js a.legal a.program b.legal b.program below rows) (triple-in spelling o m l us ts js ks b.legal b.program a.legal a.program below back),
        last-same spelling o l m ts us ks js a.legal a.program b.legal b.program below rows lasts,
      )

  pub one-state : (array : Array) (s t : State) → NearlyStandsFor form array s → NearlyStandsFor form array t → s ≡ t
  one-state array s t a b =
      let same = one_catalog array s.schema t.schema a.0 b.0 a.1.database.has b.1.database.has in
      let moved = subst (λ (q : List Place). NearlyStandsAt form array q t) (sym same.1) b.1 in
      let there = subst (λ (o : Outline). NearlyStandsAt form array a.0 (record t { schema = o })) (sym same.0) moved in
      let parts = parts-same array a.0 s.schema s.live t.live s.triples t.triples s.last t.last a.1 there in
      λ i. record { schema = same.0 i; live = parts.0 i; triples = parts.1 i; last = parts.2 i }
