-- Changes of all columns, one after another.
use Rattle.std.proofs.Common.{◌≡◌, ℕ, suc, ◌+◌, ◌<◌, ◌≤◌, Bool, true, List, [], ◌∷◌, ◌++◌, length, get_or, set, take, drop, map, Result, Ok, Err, refl, sym, ap, subst, ◌∙◌, arith, add-one, append-nil, append_assoc, length-append, length-drop, drop-cons}
use Rattle.std.specs.Prelude.{not, ◌&&◌, nat_le, filter, OnOk, OnErr}
use Rattle.std.specs.List.{list_all, flat_map}
use Rattle.std.proofs.lemmas.List.{length-map, length-take, length-take-le, map-set, set_at, set-get_or, map_more, get_or-map, get_or_at, take_more_set, drop-set-lt, drop-drop, take_all, drop_all}
use Rattle.std.proofs.lemmas.List.Elements.{filter-append}
use Rattle.st_values.specs.declared.value.EntityId.{EntityId}
use Rattle.st_values.specs.Arranged.{ascends}
use Rattle.st_values.proofs.Tests.{both, left, all-weaken}
use Rattle.st_state.specs.State.{speaks_of}
use Rattle.st_triples.specs.declared.column.Column.{Column}
use Rattle.st_triples.specs.Columns.{triples_of, marked_of, column_before, fill, AreInOrder}
use Rattle.st_triples.specs.Steps.{bare, marked, rolled_back, rid_of, is_roomy}
use Rattle.st_triples.proofs.Parts.{all-join, all-drop, cons-at}
use Rattle.st_triples.proofs.Runs.{fill-filter}
use Rattle.st_triples.proofs.Flat.{now_of, mark_of}

-- ---- lists of images

map-all : {X Y : Type 0} (p : Y → Bool) (f : X → Y) (xs : List X) → list_all p (map f xs) ≡ list_all (λ x. p (f x)) xs
map-all p f [] = refl
map-all p f (x ∷ xs) = ap (λ b. p (f x) && b) (map-all p f xs)

map-ascends : {X Y : Type 0} (r : Y → Y → Bool) (f : X → Y) (xs : List X) → ascends r (map f xs) ≡ ascends (λ x y. r (f x) (f y)) xs
map-ascends r f [] = refl
map-ascends r f (x ∷ xs) = ap (λ b. b && ascends r (map f xs)) (map-all (r (f x)) f xs) ∙ ap (λ b. list_all (λ y. r (f x) (f y)) xs && b) (map-ascends r f xs)

map-flat : {X Y A : Type 0} (g : Y → List A) (f : X → Y) (xs : List X) → flat_map g (map f xs) ≡ flat_map (λ x. g (f x)) xs
map-flat g f [] = refl
map-flat g f (x ∷ xs) = ap (λ z. g (f x) ++ z) (map-flat g f xs)

filter-flat : {X A : Type 0} (p : A → Bool) (g : X → List A) (xs : List X) → filter p (flat_map g xs) ≡ flat_map (λ x. filter p (g x)) xs
filter-flat p g [] = refl
filter-flat p g (x ∷ xs) = filter-append p (g x) (flat_map g xs) ∙ ap (λ z. filter p (g x) ++ z) (filter-flat p g xs)

map-map : {X Y Z : Type 0} (g : Y → Z) (f : X → Y) (xs : List X) → map g (map f xs) ≡ map (λ x. g (f x)) xs
map-map g f [] = refl
map-map g f (x ∷ xs) = ap (λ z. g (f x) ∷ z) (map-map g f xs)

-- ---- what a change of all columns leaves

-- the room of a column is nothing to what is taken out of it
pub rid-bare : (entity : EntityId) (xs ys : List Column) → map bare ys ≡ map bare xs → map (rid_of entity) ys ≡ map (rid_of entity) xs
rid-bare entity xs ys e = sym (map-map (rid_of entity) bare ys) ∙ ap (map (rid_of entity)) e ∙ map-map (rid_of entity) bare xs

bare-in_order : (ys : List Column) → AreInOrder (map bare ys) → AreInOrder ys
bare-in_order ys o = record {
  ascend = sym (map-ascends column_before bare ys) ∙ o.ascend;
  now = sym (map-all (λ c. fill c.attribute c.cells.items) bare ys) ∙ o.now;
  mark = sym (map-all (λ c. fill c.attribute c.cells.mark) bare ys) ∙ o.mark;
}

module _ (xs ys : List Column) (o : AreInOrder xs) where
  -- each column marked as it is
  module _ (e : map bare ys ≡ map marked xs) where
    pub marked-in_order : AreInOrder ys
    marked-in_order = bare-in_order ys (let P : List Column → Type 0 = AreInOrder in subst P (sym e) (record {
      ascend = map-ascends column_before marked xs ∙ o.ascend;
      now = map-all (λ c. fill c.attribute c.cells.items) marked xs ∙ o.now;
      mark = map-all (λ c. fill c.attribute c.cells.mark) marked xs ∙ o.now;
    }))

    pub marked-triples : triples_of ys ≡ triples_of xs
    marked-triples = sym (map-flat now_of bare ys) ∙ ap triples_of e ∙ map-flat now_of marked xs

    pub marked-mark : marked_of ys ≡ triples_of xs
    marked-mark = sym (map-flat mark_of bare ys) ∙ ap marked_of e ∙ map-flat mark_of marked xs

  -- each column gone back to its mark
  module _ (e : map bare ys ≡ map rolled_back xs) where
    pub rolled-in_order : AreInOrder ys
    rolled-in_order = bare-in_order ys (let P : List Column → Type 0 = AreInOrder in subst P (sym e) (record {
      ascend = map-ascends column_before rolled_back xs ∙ o.ascend;
      now = map-all (λ c. fill c.attribute c.cells.items) rolled_back xs ∙ o.mark;
      mark = map-all (λ c. fill c.attribute c.cells.mark) rolled_back xs ∙ o.mark;
    }))

    pub rolled-triples : triples_of ys ≡ marked_of xs
    rolled-triples = sym (map-flat now_of bare ys) ∙ ap triples_of e ∙ map-flat now_of rolled_back xs

    pub rolled-mark : marked_of ys ≡ marked_of xs
    rolled-mark = sym (map-flat mark_of bare ys) ∙ ap marked_of e ∙ map-flat mark_of rolled_back xs

  -- each column with other room
  module _ (e : map bare ys ≡ map bare xs) where
    pub bare-same_order : AreInOrder ys
    bare-same_order = bare-in_order ys (let P : List Column → Type 0 = AreInOrder in subst P (sym e) (record {
      ascend = map-ascends column_before bare xs ∙ o.ascend;
      now = map-all (λ c. fill c.attribute c.cells.items) bare xs ∙ o.now;
      mark = map-all (λ c. fill c.attribute c.cells.mark) bare xs ∙ o.mark;
    }))

    pub bare-triples : triples_of ys ≡ triples_of xs
    bare-triples = sym (map-flat now_of bare ys) ∙ ap triples_of e ∙ map-flat now_of bare xs

    pub bare-mark : marked_of ys ≡ marked_of xs
    bare-mark = sym (map-flat mark_of bare ys) ∙ ap marked_of e ∙ map-flat mark_of bare xs

  -- each column rid of an entity
  module _ (entity : EntityId) (e : map bare ys ≡ map (rid_of entity) xs) where
    pub rid-in_order : AreInOrder ys
    rid-in_order = bare-in_order ys (let P : List Column → Type 0 = AreInOrder in subst P (sym e) (record {
      ascend = map-ascends column_before (rid_of entity) xs ∙ o.ascend;
      now =
          map-all (λ c. fill c.attribute c.cells.items) (rid_of entity) xs
          ∙ all-weaken (λ c. fill c.attribute c.cells.items) (λ c. fill c.attribute (filter (λ t. not (speaks_of entity t)) c.cells.items))
          (λ c h. fill-filter c.attribute c.cells.items h (λ t. not (speaks_of entity t))) xs o.now;
      mark = map-all (λ c. fill c.attribute c.cells.mark) (rid_of entity) xs ∙ o.mark;
    }))

    pub rid-triples : triples_of ys ≡ filter (λ t. not (speaks_of entity t)) (triples_of xs)
    rid-triples =
        sym (map-flat now_of bare ys) ∙ ap triples_of e ∙ map-flat now_of (rid_of entity) xs ∙ sym (filter-flat (λ t. not (speaks_of entity t)) now_of xs)

    pub rid-mark : marked_of ys ≡ marked_of xs
    rid-mark = sym (map-flat mark_of bare ys) ∙ ap marked_of e ∙ map-flat mark_of (rid_of entity) xs

-- each column rid of an entity, or none
either-outcome : {A E : Type 0} (r : Result A E) (P Q R : Type 0) → OnOk r P → OnErr r Q → (P → R) → (Q → R) → R
either-outcome (Ok x) P Q R p q f g = f p
either-outcome (Err e) P Q R p q f g = g q

module _ {A E : Type 0} (r : Result A E) (xs ys : List Column) (o : AreInOrder xs) (entity : EntityId) (ok : OnOk r (map bare ys ≡ map (rid_of entity) xs)) (err : OnErr r (map bare ys ≡ map bare xs)) where
  pub either-in_order : AreInOrder ys
  either-in_order = either-outcome r (map bare ys ≡ map (rid_of entity) xs) (map bare ys ≡ map bare xs) (AreInOrder ys) ok err (λ e. rid-in_order xs ys o entity e) (λ e. bare-same_order xs ys o e)

  pub either-mark : marked_of ys ≡ marked_of xs
  either-mark =
      either-outcome r (map bare ys ≡ map (rid_of entity) xs) (map bare ys ≡ map bare xs) (marked_of ys ≡ marked_of xs) ok err (λ e. rid-mark xs ys o entity e) (λ e. bare-mark xs ys o e)

-- ---- one column more is changed

-- the first columns are changed, and the others are as they were
abbrev pub halfway : (Column → Column) → List Column → ℕ → List Column
halfway f xs i = map f (take i xs) ++ map bare (drop i xs)

module _ (f : Column → Column) (xs ys : List Column) (i : ℕ) (within : i < length ys) (h : map bare ys ≡ halfway f xs i) where
  lt : i < length xs
  lt = omega (arith, ap length h, length-map ys bare, length-append (map f (take i xs)) (map bare (drop i xs)), length-map (take i xs) f, length-map (drop i xs) bare, length-take i xs, length-drop i xs)

  -- the next column is still the same
  next : (c : Column) → c ≡ get_or ys i c → bare c ≡ bare (get_or xs i c)
  next c is =
      ap bare is ∙ sym (get_or-map bare ys i c (bare c) within) ∙ ap (λ z. get_or z i (bare c)) (h ∙ ap (λ z. map f (take i xs) ++ map bare z) (drop-cons xs i c lt))
      ∙ get_or_at (map f (take i xs)) (bare (get_or xs i c)) (map bare (drop (suc i) xs)) (bare c) i (length-map (take i xs) f ∙ length-take-le i xs (omega (arith, lt)))

  pub halfway-more : (c d : Column) → c ≡ get_or ys i c → ((x : Column) → bare c ≡ bare x → bare d ≡ f x) → map bare (set ys i d) ≡ halfway f xs (i + 1)
  halfway-more c d is k =
      map-set bare ys i d ∙ ap (λ z. set z i (bare d)) (h ∙ ap (λ z. map f (take i xs) ++ map bare z) (drop-cons xs i c lt))
      ∙ set_at (map f (take i xs)) (bare (get_or xs i c)) (map bare (drop (suc i) xs)) (bare d) i (length-map (take i xs) f ∙ length-take-le i xs (omega (arith, lt)))
      ∙ ap (λ z. map f (take i xs) ++ z ∷ map bare (drop (suc i) xs)) (k (get_or xs i c) (next c is))
      ∙ sym (append_assoc (map f (take i xs)) (f (get_or xs i c) ∷ []) (map bare (drop (suc i) xs)))
      ∙ ap (λ z. z ++ map bare (drop (suc i) xs)) (sym (map_more f xs i c lt))
      ∙ ap (λ n. map f (take (i + 1) xs) ++ map bare (drop n xs)) (sym (add-one i))

pub halfway-all : (f : Column → Column) (xs : List Column) (i : ℕ) → length xs ≤ i → halfway f xs i ≡ map f xs
halfway-all f xs i le = ap (λ z. map f z ++ map bare (drop i xs)) (take_all i xs le) ∙ ap (λ z. map f xs ++ map bare z) (drop_all i xs le) ∙ append-nil (map f xs)

-- columns that are alike but for their rooms
pub column-is : (c d : Column) → c.attribute ≡ d.attribute → c.cells.items ≡ d.cells.items → c.cells.mark ≡ d.cells.mark → bare c ≡ bare d
column-is c d a b m = λ i. record { attribute = a i; cells = record { items = b i; mark = m i; room = 0 } }

pub bare-set : (ys : List Column) (i : ℕ) (c d : Column) → i < length ys → c ≡ get_or ys i c → bare d ≡ bare c → map bare (set ys i d) ≡ map bare ys
bare-set ys i c d lt is e =
    map-set bare ys i d ∙ ap (set (map bare ys) i) (e ∙ ap bare is ∙ sym (get_or-map bare ys i c (bare c) lt)) ∙ set-get_or (map bare ys) i (bare c)

-- ---- rooms

le-test : (m n : ℕ) → m ≤ n → nat_le m n ≡ true
le-test m n h = grind (arith, h)

pub roomy-is : (entity : EntityId) (c : Column) → length (filter (speaks_of entity) c.cells.items) ≤ c.cells.room → is_roomy entity c ≡ true
roomy-is entity c h = le-test (length (filter (speaks_of entity) c.cells.items)) c.cells.room h

test-le : (m n : ℕ) → nat_le m n ≡ true → m ≤ n
test-le m n h = grind (arith, h)

pub room-of : (entity : EntityId) (c : Column) → is_roomy entity c ≡ true → length (filter (speaks_of entity) c.cells.items) ≤ c.cells.room
room-of entity c h = test-le (length (filter (speaks_of entity) c.cells.items)) c.cells.room h

module _ (entity : EntityId) (ys : List Column) (i : ℕ) (lt : i < length ys) where
  pub roomy-more : (d : Column) → list_all (is_roomy entity) (take i ys) ≡ true → is_roomy entity d ≡ true → list_all (is_roomy entity) (take (i + 1) (set ys i d)) ≡ true
  roomy-more d h k =
      ap (list_all (is_roomy entity)) (take_more_set ys i d lt) ∙ all-join (is_roomy entity) (take i ys) (d ∷ []) h (both (is_roomy entity d) true k refl)

  pub roomy-next : (c : Column) → c ≡ get_or ys i c → list_all (is_roomy entity) (drop i ys) ≡ true → is_roomy entity c ≡ true
  roomy-next c is h =
      left (is_roomy entity c) (list_all (is_roomy entity) (drop (suc i) ys)) (sym (ap (list_all (is_roomy entity)) (cons-at ys i c lt is)) ∙ h)

  pub roomy-rest : (d : Column) → list_all (is_roomy entity) (drop i ys) ≡ true → list_all (is_roomy entity) (drop (i + 1) (set ys i d)) ≡ true
  roomy-rest d h =
      ap (list_all (is_roomy entity)) (drop-set-lt (i + 1) ys i d (omega arith) ∙ sym (drop-drop 1 i ys)) ∙ all-drop (is_roomy entity) 1 (drop i ys) h
