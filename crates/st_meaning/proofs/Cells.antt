-- What the cells of an entity, set one after another, leave of a state.
use Rattle.std.proofs.Common.{◌≡◌, ℕ, Bool, true, false, List, [], ◌∷◌, Option, Some, None, refl, sym, ap, subst, ◌∙◌, true≢false}
use Rattle.std.specs.Prelude.{◌==◌, not, ◌&&◌, ◌||◌, cond, map, filter, find, ⊤}
use Rattle.std.specs.List.{list_all, list_any}
use Rattle.std.specs.Str.{bytes_eq}
use Rattle.std.proofs.lemmas.Slice.Eq.{bytes_eq-Decides}
use Rattle.st_values.specs.declared.value.EntityId.{EntityId}
use Rattle.st_values.specs.declared.value.Value.{Value}
use Rattle.st_values.specs.Order.{same_value, same_entity}
use Rattle.st_values.specs.Arranged.{each_pair}
use Rattle.st_values.proofs.Entities.{same_entity-itself}
use Rattle.st_values.proofs.Tests.{not-true, first-of, other-of, never, all-two, both, left, right, either, all-weaken}
use Rattle.st_lattice.specs.declared.attribute.Attribute.{Attribute}
use Rattle.st_lattice.specs.Outline.{Outline, attribute}
use Rattle.st_lattice.specs.Lattice.{isa, attributes_in, attribute_of}
use Rattle.st_lattice.specs.Stores.{passes}
use Rattle.st_lattice.specs.Consistent.{IsConsistent}
use Rattle.st_query.specs.declared.statement.Cell.{Cell}
use Rattle.st_state.specs.declared.triple.Triple.{Triple}
use Rattle.st_state.specs.State.{State, is_live, is_at, turned, attribute_set}
use Rattle.st_state.specs.Legal.{can_hold, IsNearlyLegal, IsLegal}
use Rattle.st_state.proofs.Changed.{number-is, number-itself, found-only, new}
use Rattle.st_state.proofs.Set.{null, set-nearly, set-legal, all-set, elsewhere-stays, here-set}
use Rattle.st_state.proofs.Members.{Member, some-is, find-passes, find-member, filter-member, member-filter, nothing-found, find-number}
use Rattle.st_meaning.specs.Statements.{cell_set, cells_set}
use Rattle.st_meaning.specs.Rules.{cell_of}
use Rattle.st_meaning.proofs.Descent.{isa-chain}

pub name-is : (x y : List ℕ) → bytes_eq x y ≡ true → x ≡ y
name-is x y h = (bytes_eq-Decides x y).0 h

pub name-itself : (x : List ℕ) → bytes_eq x x ≡ true
name-itself x = (bytes_eq-Decides x x).1 refl

pub option-cases : {A : Type 0} (o : Option A) (P : Option A → Type 0) → (o ≡ None → P None) → ((a : A) → o ≡ Some a → P (Some a)) → P o
option-cases None P h k = h refl
option-cases (Some a) P h k = k a refl

-- ---- what is found by its name

-- where names differ, each element is found by its name
pub named-found : {X : Type 0} (name : X → List ℕ) (test : X → Option X → Bool) → ((x : X) → test x (Some x) ≡ true) → (xs : List X)
    → each_pair (λ a b. not (bytes_eq (name b) (name a))) xs ≡ true → list_all (λ b. test b (find (λ a. bytes_eq (name a) (name b)) xs)) xs ≡ true
named-found name test h [] e = refl
named-found name test h (x ∷ xs) e =
    both (test x (find (λ a. bytes_eq (name a) (name x)) (x ∷ xs))) (list_all (λ b. test b (find (λ a. bytes_eq (name a) (name b)) (x ∷ xs))) xs)
    (ap (λ c. test x (cond c (Some x) (find (λ a. bytes_eq (name a) (name x)) xs))) (name-itself (name x)) ∙ h x)
    (all-two (λ b. not (bytes_eq (name b) (name x))) (λ b. test b (find (λ a. bytes_eq (name a) (name b)) xs)) (λ b. test b (find (λ a. bytes_eq (name a) (name b)) (x ∷ xs))) xs
    (λ b m n.
    let other : bytes_eq (name x) (name b) ≡ false =
    never (bytes_eq (name x) (name b)) (λ k. true≢false (sym (name-itself (name x)) ∙ ap (λ z. bytes_eq z (name x)) (name-is (name x) (name b) k) ∙ not-true (bytes_eq (name b) (name x)) m)) in
    ap (λ c. test b (cond c (Some x) (find (λ a. bytes_eq (name a) (name b)) xs))) other ∙ n)
    (left (list_all (λ b. not (bytes_eq (name b) (name x))) xs) (each_pair (λ a b. not (bytes_eq (name b) (name a))) xs) e)
    (named-found name test h xs (right (list_all (λ b. not (bytes_eq (name b) (name x))) xs) (each_pair (λ a b. not (bytes_eq (name b) (name a))) xs) e)))

pub find-filter : {X : Type 0} (f g : X → Bool) (xs : List X) → find g (filter f xs) ≡ find (λ x. f x && g x) xs
find-filter f g [] = refl
find-filter f g (x ∷ xs) =
    either (f x) (λ b. find g (cond b (x ∷ filter f xs) (filter f xs)) ≡ cond (b && g x) (Some x) (find (λ y. f y && g y) xs))
    (λ _. ap (λ o. cond (g x) (Some x) o) (find-filter f g xs)) (λ _. find-filter f g xs)

module _ (schema : Outline) (plain : IsConsistent schema) (ty : ℕ) where
  -- an attribute of a type, found by its name
  pub record Found (name : List ℕ) (a : Attribute) : Type 0 where
    pub of_type : isa schema ty a.owner ≡ true
    pub named : bytes_eq a.name name ≡ true
    pub number : attribute schema a.number ≡ Some a
    pub member : Member a (attributes_in schema ty)

  pub found : (name : List ℕ) (a : Attribute) → attribute_of schema ty name ≡ Some a → Found name a
  found name a f =
      let p = find-passes (λ x. isa schema ty x.owner && bytes_eq x.name name) a schema.attributes f in
      record {
        of_type = left (isa schema ty a.owner) (bytes_eq a.name name) p;
        named = right (isa schema ty a.owner) (bytes_eq a.name name) p;
        number = find-number (λ x. isa schema ty x.owner && bytes_eq x.name name) a schema.attributes plain.numbers f;
        member = filter-member (λ x. isa schema ty x.owner) a schema.attributes (find-member (λ x. isa schema ty x.owner && bytes_eq x.name name) a schema.attributes f) (left (isa schema ty a.owner) (bytes_eq a.name name) p);
      }

  -- an attribute of the type is found by its own name
  pub own-name : (b : Attribute) → Member b (attributes_in schema ty) → passes (λ a. a.number == b.number) (attribute_of schema ty b.name) ≡ true
  own-name b m =
      subst (λ o. passes (λ a. a.number == b.number) o ≡ true) (find-filter (λ x. isa schema ty x.owner) (λ x. bytes_eq x.name b.name) schema.attributes)
      (m (λ c. passes (λ a. a.number == c.number) (find (λ x. bytes_eq x.name c.name) (attributes_in schema ty)))
      (named-found (λ (x : Attribute). x.name) (λ c o. passes (λ a. a.number == c.number) o) (λ c. number-itself c.number) (attributes_in schema ty) (plain.names ty)))

  -- attributes with one number have one name
  pub same-name : (a b : Attribute) → attribute schema a.number ≡ Some a → Member b schema.attributes → (b.number == a.number) ≡ true → bytes_eq b.name a.name ≡ true
  same-name a b f m k =
      other-of (not (b.number == a.number)) (bytes_eq b.name a.name)
      (m (λ x. not (x.number == a.number) || bytes_eq x.name a.name) (found-only (λ x. bytes_eq x.name a.name) a.number a schema.attributes plain.numbers f (name-itself a.name))) (ap not k)

-- ---- cells

module _ (n : EntityId) (ty : ℕ) where
  -- an attribute of the entity can be set to a value
  pub record CanSet (s : State) (a : Attribute) (v : Value) : Type 0 where
    pub held : null v ≡ false → can_hold s a.kind v ≡ true
    pub alone : a.unique ≡ true → list_all (λ t. same_entity n t.entity || not ((t.attribute == a.number) && same_value t.value v)) s.triples ≡ true

  pub can-step : (s : State) (k : ℕ) (w : Value) (a : Attribute) (v : Value) → CanSet s a v → CanSet (attribute_set s k n w) a v
  can-step s k w a v c = record {
    held = c.held;
    alone = λ u. all-set s k n w (λ t. same_entity n t.entity || not ((t.attribute == a.number) && same_value t.value v))
        (first-of (same_entity n n) (not ((k == a.number) && same_value w v)) (same_entity-itself n)) (c.alone u);
  }

  abbrev pub CanAll : State → List Cell → List Value → Type 0
  CanAll s (c ∷ cs) (v ∷ vs) = ((a : Attribute) → attribute_of s.schema ty c.name ≡ Some a → CanSet s a v) × CanAll s cs vs
  CanAll s _ _ = ⊤

  pub can-all-step : (s : State) (k : ℕ) (w : Value) (cs : List Cell) (vs : List Value) → CanAll s cs vs → CanAll (attribute_set s k n w) cs vs
  can-all-step s k w [] vs c = c
  can-all-step s k w (x ∷ cs) [] c = c
  can-all-step s k w (x ∷ cs) (v ∷ vs) c = (λ a f. can-step s k w a v (c.0 a f), can-all-step s k w cs vs c.1)

  pub can-all : (s : State) (val : Cell → Value) (cs : List Cell) → ((c : Cell) → Member c cs → (a : Attribute) → attribute_of s.schema ty c.name ≡ Some a → CanSet s a (val c)) → CanAll s cs (map val cs)
  can-all s val [] h = tt
  can-all s val (c ∷ cs) h =
      (h c (λ q a. left (q c) (list_all q cs) a), can-all s val cs (λ d m. h d (λ q a. m q (right (q c) (list_all q cs) a))))

  -- nobody else has the value
  pub alone-found : (s : State) (a : Attribute) (v : Value) → CanSet s a v → a.unique ≡ true → find (λ o. not (same_entity n o)) (turned a.number v s.triples) ≡ None
  alone-found s a v c u =
      nothing-found (λ o. not (same_entity n o)) (λ (t : Triple). t.entity) (λ (t : Triple). (t.attribute == a.number) && same_value t.value v) s.triples
      (all-weaken (λ t. same_entity n t.entity || not ((t.attribute == a.number) && same_value t.value v)) (λ t. not ((t.attribute == a.number) && same_value t.value v) || not (not (same_entity n t.entity)))
      (λ t h. turn (same_entity n t.entity) (not ((t.attribute == a.number) && same_value t.value v)) h) s.triples (c.alone u))
    where
      turn : (x y : Bool) → (x || y) ≡ true → (y || not (not x)) ≡ true
      turn true true h = refl
      turn true false h = refl
      turn false true h = refl
      turn false false h = h

  -- the entity has the attributes of the type
  pub owns : (s : State) → IsNearlyLegal s → isa s.schema n.ty ty ≡ true → (name : List ℕ) (a : Attribute) → attribute_of s.schema ty name ≡ Some a → isa s.schema n.ty a.owner ≡ true
  owns s g o name a f = isa-chain s.schema g.orderly n.ty ty a.owner o (found s.schema g.consistent ty name a f).of_type

  pub cells-nearly : (cs : List Cell) (vs : List Value) (s : State) → IsNearlyLegal s → is_live s n ≡ true → isa s.schema n.ty ty ≡ true → CanAll s cs vs → IsNearlyLegal (cells_set ty n cs vs s)
  cells-nearly [] vs s g l o c = g
  cells-nearly (x ∷ cs) [] s g l o c = g
  cells-nearly (x ∷ cs) (v ∷ vs) s g l o c =
      option-cases (attribute_of s.schema ty x.name) (λ b. IsNearlyLegal (cells_set ty n cs vs (cell_set b n v s)))
      (λ _. cells-nearly cs vs s g l o c.1)
      (λ a f. cells-nearly cs vs (attribute_set s a.number n v)
      (set-nearly s a.number n v a (found s.schema g.consistent ty x.name a f).number g l (owns s g o x.name a f) (c.0 a f).held (alone-found s a v (c.0 a f)))
      l o (can-all-step s a.number v cs vs c.1))

  -- whether each attribute that admits no null gets a value
  abbrev pub GivenAll : Outline → List Cell → List Value → Type 0
  GivenAll schema (c ∷ cs) (v ∷ vs) = ((a : Attribute) → attribute_of schema ty c.name ≡ Some a → a.no_nulls ≡ true → null v ≡ false) × GivenAll schema cs vs
  GivenAll schema _ _ = ⊤

  pub given-all : (schema : Outline) (val : Cell → Value) (cs : List Cell)
      → ((c : Cell) → Member c cs → (a : Attribute) → attribute_of schema ty c.name ≡ Some a → a.no_nulls ≡ true → null (val c) ≡ false) → GivenAll schema cs (map val cs)
  given-all schema val [] h = tt
  given-all schema val (c ∷ cs) h =
      (h c (λ q a. left (q c) (list_all q cs) a), given-all schema val cs (λ d m. h d (λ q a. m q (right (q c) (list_all q cs) a))))

  pub cells-legal : (cs : List Cell) (vs : List Value) (s : State) → IsLegal s → is_live s n ≡ true → isa s.schema n.ty ty ≡ true → CanAll s cs vs → GivenAll s.schema cs vs → IsLegal (cells_set ty n cs vs s)
  cells-legal [] vs s g l o c d = g
  cells-legal (x ∷ cs) [] s g l o c d = g
  cells-legal (x ∷ cs) (v ∷ vs) s g l o c d =
      option-cases (attribute_of s.schema ty x.name) (λ b. IsLegal (cells_set ty n cs vs (cell_set b n v s)))
      (λ _. cells-legal cs vs s g l o c.1 d.1)
      (λ a f. cells-legal cs vs (attribute_set s a.number n v)
      (set-legal s a.number n v a (found s.schema g.nearly.consistent ty x.name a f).number g l (owns s g.nearly o x.name a f) (c.0 a f).held (alone-found s a v (c.0 a f)) (d.0 a f))
      l o (can-all-step s a.number v cs vs c.1) d.1)

  -- cells change triples alone
  pub cells-shape : (cs : List Cell) (vs : List Value) (s : State) → cells_set ty n cs vs s ≡ record s { triples = (cells_set ty n cs vs s).triples }
  cells-shape [] vs s = refl
  cells-shape (x ∷ cs) [] s = refl
  cells-shape (x ∷ cs) (v ∷ vs) s =
      option-cases (attribute_of s.schema ty x.name) (λ b. cells_set ty n cs vs (cell_set b n v s) ≡ record s { triples = (cells_set ty n cs vs (cell_set b n v s)).triples })
      (λ _. cells-shape cs vs s) (λ a f. cells-shape cs vs (attribute_set s a.number n v))

  -- what other entities have stays
  pub cells-others : (k : ℕ) (x : EntityId) → same_entity n x ≡ false → (cs : List Cell) (vs : List Value) (s : State) → list_any (is_at k x) s.triples ≡ true → list_any (is_at k x) (cells_set ty n cs vs s).triples ≡ true
  cells-others k x d [] vs s h = h
  cells-others k x d (c ∷ cs) [] s h = h
  cells-others k x d (c ∷ cs) (v ∷ vs) s h =
      option-cases (attribute_of s.schema ty c.name) (λ b. list_any (is_at k x) (cells_set ty n cs vs (cell_set b n v s)).triples ≡ true)
      (λ _. cells-others k x d cs vs s h)
      (λ a f. cells-others k x d cs vs (attribute_set s a.number n v) (elsewhere-stays s a.number n v k x (none (a.number == k) (same_entity n x) d) h))
    where
      none : (a b : Bool) → b ≡ false → (a && b) ≡ false
      none true b h = h
      none false b h = refl

  -- an attribute that no further cell names keeps its value
  pub cells-keep : (b : Attribute) (cs : List Cell) (vs : List Value) (s : State) → IsConsistent s.schema → Member b s.schema.attributes → list_all (λ c. not (bytes_eq c.name b.name)) cs ≡ true
      → list_any (is_at b.number n) s.triples ≡ true → list_any (is_at b.number n) (cells_set ty n cs vs s).triples ≡ true
  cells-keep b [] vs s g m o h = h
  cells-keep b (c ∷ cs) [] s g m o h = h
  cells-keep b (c ∷ cs) (v ∷ vs) s g m o h =
      option-cases (attribute_of s.schema ty c.name) (λ z. list_any (is_at b.number n) (cells_set ty n cs vs (cell_set z n v s)).triples ≡ true)
      (λ _. cells-keep b cs vs s g m (right (not (bytes_eq c.name b.name)) (list_all (λ d. not (bytes_eq d.name b.name)) cs) o) h)
      (λ a f. cells-keep b cs vs (attribute_set s a.number n v) g m (right (not (bytes_eq c.name b.name)) (list_all (λ d. not (bytes_eq d.name b.name)) cs) o)
      (elsewhere-stays s a.number n v b.number n (apart a f) h))
    where
      apart : (a : Attribute) → attribute_of s.schema ty c.name ≡ Some a → is_at b.number n (new s a.number n v) ≡ false
      apart a f =
          let at = found s.schema g ty c.name a f in
          never (is_at b.number n (new s a.number n v)) (λ k.
          let same : (b.number == a.number) ≡ true = subst (λ z. (b.number == z) ≡ true) (sym (number-is a.number b.number (left (a.number == b.number) (same_entity n n) k))) (number-itself b.number) in
          let one : b.name ≡ a.name = name-is b.name a.name (same-name s.schema g ty a b at.number m same) in
          let two : a.name ≡ c.name = name-is a.name c.name at.named in
          true≢false (sym (name-itself b.name) ∙ ap (λ z. bytes_eq z b.name) (one ∙ two) ∙ not-true (bytes_eq c.name b.name) (left (not (bytes_eq c.name b.name)) (list_all (λ d. not (bytes_eq d.name b.name)) cs) o)))

  -- an attribute with a cell whose value isn't null has a value afterwards
  pub cells-own : (b : Attribute) (val : Cell → Value) (x : Cell) (cs : List Cell) (s : State) → IsConsistent s.schema → Member b (attributes_in s.schema ty)
      → each_pair (λ c d. not (bytes_eq d.name c.name)) cs ≡ true → cell_of cs b ≡ Some x → null (val x) ≡ false → list_any (is_at b.number n) (cells_set ty n cs (map val cs) s).triples ≡ true
  cells-own b val x [] s g m e f h = absurd (nothing f)
    where
      nothing : None ≡ Some x → ⊥
      nothing k = cc
  cells-own b val x (c ∷ cs) s g m e f h =
      either (bytes_eq c.name b.name) (λ _. list_any (is_at b.number n) (cells_set ty n cs (map val cs) (cell_set (attribute_of s.schema ty c.name) n (val c) s)).triples ≡ true)
      (λ k.
      let same : c ≡ x = some-is c x (sym (ap (λ z. cond z (Some c) (cell_of cs b)) k) ∙ f) in
      let name : c.name ≡ b.name = name-is c.name b.name k in
      option-cases (attribute_of s.schema ty c.name) (λ z. passes (λ a. a.number == b.number) z ≡ true → list_any (is_at b.number n) (cells_set ty n cs (map val cs) (cell_set z n (val c) s)).triples ≡ true)
      (λ _ q. absurd (true≢false (sym q)))
      (λ a _ q.
      cells-keep b cs (map val cs) (attribute_set s a.number n (val c)) g (member-filter (λ y. isa s.schema ty y.owner) b s.schema.attributes m)
      (subst (λ z. list_all (λ d. not (bytes_eq d.name z)) cs ≡ true) name (left (list_all (λ d. not (bytes_eq d.name c.name)) cs) (each_pair (λ c d. not (bytes_eq d.name c.name)) cs) e))
      (subst (λ z. list_any (is_at z n) (attribute_set s a.number n (val c)).triples ≡ true) (number-is a.number b.number q) (here-set s a.number n (val c) (ap (λ y. null (val y)) same ∙ h))))
      (subst (λ z. passes (λ a. a.number == b.number) (attribute_of s.schema ty z) ≡ true) (sym name) (own-name s.schema g ty b m)))
      (λ k.
      let later : cell_of cs b ≡ Some x = sym (ap (λ z. cond z (Some c) (cell_of cs b)) k) ∙ f in
      let rest = right (list_all (λ d. not (bytes_eq d.name c.name)) cs) (each_pair (λ c d. not (bytes_eq d.name c.name)) cs) e in
      option-cases (attribute_of s.schema ty c.name) (λ z. list_any (is_at b.number n) (cells_set ty n cs (map val cs) (cell_set z n (val c) s)).triples ≡ true)
      (λ _. cells-own b val x cs s g m rest later h) (λ a _. cells-own b val x cs (attribute_set s a.number n (val c)) g m rest later h))
