-- A make and an ensure of a legal state that no rule refuses leave a legal state.
use Rattle.std.proofs.Common.{◌≡◌, ℕ, zero, suc, ◌<◌, Bool, true, false, List, [], ◌∷◌, Option, Some, None, length, refl, sym, ap, subst, ◌∙◌, arith, true≢false}
use Rattle.std.specs.Prelude.{◌==◌, not, ◌&&◌, ◌||◌, nat_lt, cond, map, find, filter_map, is_none, slice_index_or}
use Rattle.std.specs.List.{list_all, list_any, position_or_len, cons_option}
use Rattle.std.specs.Str.{bytes_eq}
use Rattle.st_values.specs.declared.value.EntityId.{EntityId}
use Rattle.st_values.specs.declared.value.Value.{Value}
use Rattle.st_values.specs.Order.{same_value, same_entity, entity_before}
use Rattle.st_values.specs.Arranged.{each_pair}
use Rattle.st_values.proofs.Placing.{differ}
use Rattle.st_values.proofs.Entities.{same_entity-is, same_value-is, same_value-itself, entity_before-strict}
use Rattle.st_values.proofs.Tests.{one-of, first-of, never, all-two, none-found, both, left, right, either, all-weaken, all-placed}
use Rattle.st_lattice.specs.declared.attribute.Attribute.{Attribute}
use Rattle.st_lattice.specs.Outline.{Outline, type_named}
use Rattle.st_lattice.specs.Lattice.{isa_within, isa, attributes_in, attribute_of}
use Rattle.st_query.specs.declared.statement.Cell.{Cell}
use Rattle.st_query.specs.Ways.{way}
use Rattle.st_query.specs.Written.{have_own_names}
use Rattle.st_query.specs.Kinds.{kind_sort, value_sort, store_well, known, expected_in}
use Rattle.st_state.specs.declared.refusal.Refusal.{Refusal}
use Rattle.st_state.specs.declared.triple.Triple.{Triple}
use Rattle.st_state.specs.State.{State, is_live, is_at, next_entity, entity_made}
use Rattle.st_state.specs.Legal.{is_counted, is_filled, IsNearlyLegal, IsLegal}
use Rattle.st_state.specs.Refusals.{first_of}
use Rattle.st_state.specs.Bases.{is_other}
use Rattle.st_state.proofs.Changed.{number-itself}
use Rattle.st_state.proofs.Kept.{can_hold-moved}
use Rattle.st_state.proofs.Set.{null}
use Rattle.st_state.proofs.Made.{made-nearly, live-still, fresh-live, unlike}
use Rattle.st_state.proofs.Members.{Member, all-members}
use Rattle.st_meaning.specs.Terms.{start_value}
use Rattle.st_meaning.specs.Statements.{Present, value_now, cell_values, cells_set}
use Rattle.st_meaning.specs.Checks.{term_refused}
use Rattle.st_meaning.specs.Rules.{dead, Filling, cell_of, given, new_fillings, cell_filling, cell_fillings, too_long, missing, shared}
use Rattle.st_meaning.proofs.Sorts.{first-none, others-none, LiveValue, term-live, term-sort}
use Rattle.st_meaning.proofs.Legality.{dead-none, storable, given-value, not-shared}
use Rattle.st_meaning.proofs.Cells.{name-is, option-cases, named-found, found, CanSet, can-all, given-all, cells-nearly, cells-legal, cells-shape, cells-others, cells-own}

-- ---- lists of refusals

pub none-is : {A : Type 0} (o : Option A) → is_none o ≡ true → o ≡ None
none-is None h = refl
none-is (Some a) h = cc

pub is-none : {A : Type 0} (o : Option A) → o ≡ None → is_none o ≡ true
is-none o h = ap is_none h

pub each-none : {X : Type 0} (f : X → Option Refusal) (xs : List X) → first_of (map f xs) ≡ None → list_all (λ x. is_none (f x)) xs ≡ true
each-none f [] h = refl
each-none f (x ∷ xs) h = both (is_none (f x)) (list_all (λ y. is_none (f y)) xs) (is-none (f x) (first-none (f x) _ h)) (each-none f xs (others-none (f x) _ h))

pub all-map : {X Y : Type 0} (f : X → Y) (q : Y → Bool) (xs : List X) → list_all q (map f xs) ≡ true → list_all (λ x. q (f x)) xs ≡ true
all-map f q [] h = refl
all-map f q (x ∷ xs) h = both (q (f x)) (list_all (λ y. q (f y)) xs) (left (q (f x)) (list_all q (map f xs)) h) (all-map f q xs (right (q (f x)) (list_all q (map f xs)) h))

pub pairs-unmap : {X Y : Type 0} (r : Y → Y → Bool) (f : X → Y) (xs : List X) → each_pair r (map f xs) ≡ true → each_pair (λ x y. r (f x) (f y)) xs ≡ true
pairs-unmap r f [] h = refl
pairs-unmap r f (x ∷ xs) h =
    both (list_all (λ y. r (f x) (f y)) xs) (each_pair (λ y z. r (f y) (f z)) xs) (all-map f (r (f x)) xs (left (list_all (r (f x)) (map f xs)) (each_pair r (map f xs)) h))
    (pairs-unmap r f xs (right (list_all (r (f x)) (map f xs)) (each_pair r (map f xs)) h))

-- cells whose names differ, pair by pair
pub own-names : (cells : List Cell) → have_own_names cells ≡ true → each_pair (λ a b. not (bytes_eq b.name a.name)) cells ≡ true
own-names cells h = pairs-unmap (λ a b. not (bytes_eq b a)) (λ (cell : Cell). cell.name) cells h

-- what is kept passes, if it is there
abbrev pub if_there : {Y : Type 0} → (Y → Bool) → Option Y → Bool
if_there q None = true
if_there q (Some y) = q y

pub all-kept-there : {X Y : Type 0} (f : X → Option Y) (q : Y → Bool) (xs : List X) → list_all q (filter_map f xs) ≡ true → list_all (λ x. if_there q (f x)) xs ≡ true
all-kept-there f q [] h = refl
all-kept-there f q (x ∷ xs) h =
    option-cases (f x) (λ o. list_all q (cons_option o (filter_map f xs)) ≡ true → (if_there q o && list_all (λ y. if_there q (f y)) xs) ≡ true)
    (λ _ k. all-kept-there f q xs k)
    (λ y _ k. both (q y) (list_all (λ z. if_there q (f z)) xs) (left (q y) (list_all q (filter_map f xs)) k) (all-kept-there f q xs (right (q y) (list_all q (filter_map f xs)) k))) h

pub within-itself : (k : ℕ) (parents : List (List ℕ)) (t : ℕ) → isa_within k parents t t ≡ true
within-itself zero parents t = number-itself t
within-itself (suc k) parents t = first-of (t == t) (list_any (λ p. isa_within k parents p t) (slice_index_or parents t [])) (number-itself t)

-- a type that is named is one of the schema
pub named-there : (schema : Outline) (name : List ℕ) (t : ℕ) → type_named schema name ≡ Some t → t < length schema.names
named-there schema name t h = by (nat_lt (position_or_len (λ other. bytes_eq other name) schema.names) (length schema.names)) refl h
  where
    place : ℕ
    place = position_or_len (λ other. bytes_eq other name) schema.names

    some : (a b : ℕ) → Some a ≡ Some b → a ≡ b
    some a b e = cc

    none : (a : ℕ) → None ≡ Some a → ⊥
    none a e = cc

    by : (b : Bool) → nat_lt place (length schema.names) ≡ b → cond b (Some place) None ≡ Some t → t < length schema.names
    by true e k = let same = some place t k in subst (λ z. z < length schema.names) same (grind (arith, e))
    by false e k = absurd (none t k)

module _ (p : Present) (g : IsLegal p.state) (t : ℕ) where
  abbrev pub s : State
  s = p.state

  -- whether each cell's value was checked for its attribute's place, and is live
  abbrev pub Checked : List Cell → Type 0
  Checked cells = list_all (λ c. is_none (term_refused s.schema (known p.variables) (expected_in (attribute_of s.schema t c.name)) c.value)) cells ≡ true

  abbrev pub Lives : List Cell → Type 0
  Lives cells = list_all (λ c. is_none (dead s (start_value s p.variables (way c.value).start))) cells ≡ true

  abbrev pub Distinct : List Cell → Type 0
  Distinct cells = each_pair (λ a b. not (bytes_eq b.name a.name)) cells ≡ true

  pub cell-sort : (cells : List Cell) → Checked cells → (c : Cell) → Member c cells → (a : Attribute) → attribute_of s.schema t c.name ≡ Some a
      → store_well s.schema (kind_sort a.kind) (value_sort (value_now p c.value)) ≡ true
  cell-sort cells h c m a f =
      term-sort s g.nearly p.variables (kind_sort a.kind) c.value
      (subst (λ o. term_refused s.schema (known p.variables) (expected_in o) c.value ≡ None) f
      (none-is _ (m (λ c. is_none (term_refused s.schema (known p.variables) (expected_in (attribute_of s.schema t c.name)) c.value)) h)))

  pub cell-live : (cells : List Cell) → Lives cells → (c : Cell) → Member c cells → LiveValue s (value_now p c.value)
  cell-live cells h c m =
      term-live s g.nearly p.variables c.value
      (dead-none s (start_value s p.variables (way c.value).start) (none-is _ (m (λ c. is_none (dead s (start_value s p.variables (way c.value).start))) h)))

  -- the cell of an attribute is there, and has the value of the cell that is named so
  abbrev pub same_given : Cell → Option Cell → Bool
  same_given c None = false
  same_given c (Some d) = same_value (value_now p d.value) (value_now p c.value)

  pub cell-same : (cells : List Cell) → Distinct cells → (c : Cell) → Member c cells → (a : Attribute) → bytes_eq a.name c.name ≡ true → same_given c (cell_of cells a) ≡ true
  cell-same cells d c m a n =
      subst (λ z. same_given c (find (λ cell. bytes_eq cell.name z) cells) ≡ true) (sym (name-is a.name c.name n))
      (m (λ b. same_given b (find (λ cell. bytes_eq cell.name b.name) cells)) (named-found (λ (cell : Cell). cell.name) same_given (λ b. same_value-itself (value_now p b.value)) cells d))

  pub given-same : (c : Cell) (o : Option Cell) → same_given c o ≡ true → given p o ≡ value_now p c.value
  given-same c None h = absurd (true≢false (sym h))
  given-same c (Some d) h = same_value-is (value_now p d.value) (value_now p c.value) h

  -- nobody has a unique value, so nobody but the entity has
  pub lone : (e : EntityId) (filled : Option EntityId) (a : Attribute) (v : Value) (w : Bool) → ((o : EntityId) → not (is_other filled o) ≡ true → same_entity e o ≡ true)
      → shared s filled (record { attribute = a; value = v; wanted = w }) ≡ None → a.unique ≡ true
      → list_all (λ u. same_entity e u.entity || not ((u.attribute == a.number) && same_value u.value v)) s.triples ≡ true
  lone e filled a v w own h u =
      all-weaken (λ x. not ((x.attribute == a.number) && same_value x.value v) || not (is_other filled x.entity)) (λ x. same_entity e x.entity || not ((x.attribute == a.number) && same_value x.value v))
      (λ x k. either ((x.attribute == a.number) && same_value x.value v) (λ b. (not b || not (is_other filled x.entity)) ≡ true → (same_entity e x.entity || not b) ≡ true)
      (λ _ m. first-of (same_entity e x.entity) false (own x.entity m)) (λ _ m. one-of (same_entity e x.entity) true refl) k) s.triples
      (none-found (is_other filled) (λ (x : Triple). x.entity) (λ (x : Triple). (x.attribute == a.number) && same_value x.value v) s.triples
      (not-shared s filled (record { attribute = a; value = v; wanted = w }) h u))

  -- ---- a new entity

  module _ (there : t < length s.schema.names) (cells : List Cell) (distinct : Distinct cells) (is_key : Attribute → Bool) (checked : Checked cells) (lives : Lives cells)
      (longs : first_of (map (λ f. too_long f.attribute.kind f.value) (new_fillings p t cells is_key)) ≡ None)
      (nulls : first_of (map (missing s.schema) (new_fillings p t cells is_key)) ≡ None)
      (shares : first_of (map (shared s None) (new_fillings p t cells is_key)) ≡ None) where
    abbrev pub filling : Attribute → Filling
    filling a = record { attribute = a; value = given p (cell_of cells a); wanted = a.no_nulls || is_key a }

    abbrev pub fresh : EntityId
    fresh = next_entity s t

    abbrev pub made : State
    made = entity_made s t

    pub passes-filling : (f : Filling → Option Refusal) → first_of (map f (new_fillings p t cells is_key)) ≡ None → (a : Attribute) → Member a (attributes_in s.schema t) → f (filling a) ≡ None
    passes-filling f h a m = none-is (f (filling a)) (m (λ b. is_none (f (filling b))) (all-map filling (λ x. is_none (f x)) (attributes_in s.schema t) (each-none f (new_fillings p t cells is_key) h)))

    pub can-set : (c : Cell) → Member c cells → (a : Attribute) → attribute_of s.schema t c.name ≡ Some a → CanSet fresh t made a (value_now p c.value)
    can-set c m a f =
        let at = found s.schema g.nearly.consistent t c.name a f in
        let same : given p (cell_of cells a) ≡ value_now p c.value = given-same c (cell_of cells a) (cell-same cells distinct c m a at.named) in
        record {
          held = λ n. can_hold-moved s made.live made.triples made.last a.kind (value_now p c.value) (λ x _. live-still s t g.nearly there x)
              (storable s a.kind (value_now p c.value) (cell-sort cells checked c m a f) (cell-live cells lives c m)
              (subst (λ v. too_long a.kind v ≡ None) same (passes-filling (λ x. too_long x.attribute.kind x.value) longs a at.member)) n);
          alone = λ u. subst (λ v. list_all (λ x. same_entity fresh x.entity || not ((x.attribute == a.number) && same_value x.value v)) s.triples ≡ true) same
              (lone fresh None a (given p (cell_of cells a)) (a.no_nulls || is_key a) (λ o k. absurd (true≢false (sym k))) (passes-filling (shared s None) shares a at.member) u);
        }

    abbrev pub after : State
    after = cells_set t fresh cells (cell_values p cells) made

    pub nearly-after : IsNearlyLegal after
    nearly-after =
        cells-nearly fresh t cells (cell_values p cells) made (made-nearly s t g.nearly there) (fresh-live s t g.nearly there) (within-itself t s.schema.parents t)
        (can-all fresh t made (λ c. value_now p c.value) cells can-set)

    abbrev shape : State
    shape = record made { triples = after.triples }

    old-filled : (x : EntityId) → is_counted s x ≡ true → is_filled s x ≡ true → is_filled shape x ≡ true
    old-filled x c f =
        let other : same_entity fresh x ≡ false =
        never (same_entity fresh x) (λ k.
        let is : fresh ≡ x = same_entity-is fresh x k in
        let apart : differ entity_before x x ≡ true = ap (λ z. differ entity_before z x) (sym is) ∙ unlike s t g.nearly there x c in
        true≢false (sym apart ∙ ap (λ b. b || b) (entity_before-strict.itself x))) in
        all-weaken (λ b. not b.no_nulls || list_any (is_at b.number x) s.triples) (λ b. not b.no_nulls || list_any (is_at b.number x) after.triples)
        (λ b h. either b.no_nulls (λ w. (not w || list_any (is_at b.number x) s.triples) ≡ true → (not w || list_any (is_at b.number x) after.triples) ≡ true)
        (λ _ k. cells-others fresh t b.number x other cells (cell_values p cells) made k) (λ _ k. refl) h) (attributes_in s.schema x.ty) f

    new-filled : is_filled shape fresh ≡ true
    new-filled =
        all-members (λ b. not b.no_nulls || list_any (is_at b.number fresh) after.triples) (attributes_in s.schema t)
        (λ b m. either b.no_nulls (λ w. b.no_nulls ≡ w → (not w || list_any (is_at b.number fresh) after.triples) ≡ true)
        (λ _ k.
        let some = given-value s.schema (filling b) (passes-filling (missing s.schema) nulls b m) (first-of b.no_nulls (is_key b) k) in
        option-cases (cell_of cells b) (λ o. cell_of cells b ≡ o → null (given p o) ≡ false → list_any (is_at b.number fresh) after.triples ≡ true)
        (λ _ _ n. absurd (true≢false n))
        (λ x _ f n. cells-own fresh t b (λ c. value_now p c.value) x cells made g.nearly.consistent m distinct f n) refl some)
        (λ _ _. refl) refl)

    pub made-legal : IsLegal after
    made-legal = record {
      nearly = nearly-after;
      filled = subst (λ z. list_all (is_filled z) z.live ≡ true) (sym (cells-shape fresh t cells (cell_values p cells) made))
          (all-placed entity_before (is_filled shape) fresh s.live new-filled (all-two (is_counted s) (is_filled s) (is_filled shape) s.live old-filled g.nearly.counted g.filled));
    }

  -- ---- an entity that was found

  module _ (e : EntityId) (live : is_live s e ≡ true) (of : isa s.schema e.ty t ≡ true) (cells : List Cell) (distinct : Distinct cells) (checked : Checked cells) (lives : Lives cells)
      (longs : first_of (map (λ f. too_long f.attribute.kind f.value) (cell_fillings p t cells)) ≡ None)
      (nulls : first_of (map (missing s.schema) (cell_fillings p t cells)) ≡ None)
      (shares : first_of (map (shared s (Some e)) (cell_fillings p t cells)) ≡ None) where
    pub passes-cell : (f : Filling → Option Refusal) → first_of (map f (cell_fillings p t cells)) ≡ None → (c : Cell) → Member c cells → (a : Attribute) → attribute_of s.schema t c.name ≡ Some a
        → f (record { attribute = a; value = value_now p c.value; wanted = a.no_nulls }) ≡ None
    passes-cell f h c m a k =
        let at = found s.schema g.nearly.consistent t c.name a k in
        by (cell_of cells a) (cell-same cells distinct c m a at.named)
        (at.member (λ b. if_there (λ x. is_none (f x)) (cell_filling p b (cell_of cells b)))
        (all-kept-there (λ b. cell_filling p b (cell_of cells b)) (λ x. is_none (f x)) (attributes_in s.schema t) (each-none f (cell_fillings p t cells) h)))
      where
        by : (o : Option Cell) → same_given c o ≡ true → if_there (λ x. is_none (f x)) (cell_filling p a o) ≡ true → f (record { attribute = a; value = value_now p c.value; wanted = a.no_nulls }) ≡ None
        by None n i = absurd (true≢false (sym n))
        by (Some d) n i =
            subst (λ v. f (record { attribute = a; value = v; wanted = a.no_nulls }) ≡ None) (same_value-is (value_now p d.value) (value_now p c.value) n)
            (none-is (f (record { attribute = a; value = value_now p d.value; wanted = a.no_nulls })) i)

    pub can-set-found : (c : Cell) → Member c cells → (a : Attribute) → attribute_of s.schema t c.name ≡ Some a → CanSet e t s a (value_now p c.value)
    can-set-found c m a f = record {
      held = λ n. storable s a.kind (value_now p c.value) (cell-sort cells checked c m a f) (cell-live cells lives c m) (passes-cell (λ x. too_long x.attribute.kind x.value) longs c m a f) n;
      alone = λ u. lone e (Some e) a (value_now p c.value) a.no_nulls (λ o k. twice (same_entity e o) k) (passes-cell (shared s (Some e)) shares c m a f) u;
    }
      where
        twice : (b : Bool) → not (not b) ≡ true → b ≡ true
        twice true h = refl
        twice false h = h

    pub found-legal : IsLegal (cells_set t e cells (cell_values p cells) s)
    found-legal =
        cells-legal e t cells (cell_values p cells) s g live of (can-all e t s (λ c. value_now p c.value) cells can-set-found)
        (given-all e t s.schema (λ c. value_now p c.value) cells
        (λ c m a f w. given-value s.schema (record { attribute = a; value = value_now p c.value; wanted = a.no_nulls }) (passes-cell (missing s.schema) nulls c m a f) w))
