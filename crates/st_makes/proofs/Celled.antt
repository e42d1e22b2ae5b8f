-- What cells give to attributes by number is what they give by name, and an entity can get it.
use Rattle.std.proofs.Common.{◌≡◌, ℕ, Bool, true, false, List, [], ◌∷◌, Option, Some, None, refl, sym, ◌∙◌, ap, subst, true≢false}
use Rattle.std.specs.Prelude.{◌++◌, ◌==◌, not, ◌&&◌, ◌||◌, cond, map, filter_map, find, flat_map, if◌then◌else◌, is_some, All}
use Rattle.std.specs.List.{list_all, cons_option}
use Rattle.std.specs.Option.{option_map}
use Rattle.std.specs.Str.{bytes_eq}
use Rattle.std.proofs.lemmas.List.Elements.{All-nil, All-cons, All-map, All-filter}
use Rattle.st_values.specs.declared.value.EntityId.{EntityId}
use Rattle.st_values.specs.declared.value.Value.{Value}
use Rattle.st_values.specs.declared.value.Value.TheVariants as value
use Rattle.st_values.specs.Arranged.{each_pair}
use Rattle.st_values.proofs.Tests.{both, left, right, either, never, not-true}
use Rattle.st_lattice.specs.declared.attribute.Attribute.{Attribute}
use Rattle.st_lattice.specs.Outline.{Outline, attribute}
use Rattle.st_lattice.specs.Lattice.{isa, attributes_in, attribute_of}
use Rattle.st_lattice.specs.Stores.{passes}
use Rattle.st_lattice.specs.Consistent.{IsConsistent}
use Rattle.st_query.specs.declared.statement.Cell.{Cell}
use Rattle.st_query.specs.declared.term.Variable.{Variable}
use Rattle.st_query.specs.Kinds.{kind_sort}
use Rattle.st_state.specs.State.{State, is_live, turned, attribute_set}
use Rattle.st_state.specs.Legal.{can_hold, IsNearlyLegal, IsLegal}
use Rattle.st_state.specs.Bases.{is_other, shared_with}
use Rattle.st_state.specs.Calls.{Set, HasSingle, CanBe, CanHold, due, shared_at}
use Rattle.st_state.proofs.Changed.{number-is, number-itself}
use Rattle.st_state.proofs.Set.{null, set-nearly}
use Rattle.st_state.proofs.Members.{Member, some-is, find-passes, find-member, member-filter}
use Rattle.st_meaning.specs.Terms.{term_value}
use Rattle.st_meaning.specs.Statements.{cell_set, cells_set}
use Rattle.st_meaning.specs.Rules.{Filling as Rule, cell_of, given, cell_filling, cell_fillings}
use Rattle.st_meaning.specs.Rules as rules
use Rattle.st_meaning.proofs.Sorts.{null-stores}
use Rattle.st_meaning.proofs.Cells.{name-is, name-itself, option-cases, found, own-name, same-name, CanAll, can-all-step, alone-found, owns}
use Rattle.st_meaning.proofs.Making.{Checked, Lives, cell-sort, cell-live}
use Rattle.st_terms.specs.Checked.{present}
use Rattle.st_makes.specs.declared.given.Given.{Given}
use Rattle.st_makes.specs.declared.filling.Filling.{Filling}
use Rattle.st_makes.specs.Makes.{given_by, givens_of, given_to, value_in, is_key, new_filling, new_fillings, filling_by, given_fillings, rule_of, IsMeant, givens_set, AdmitsValue, AdmitsGivens}
use Rattle.st_makes.proofs.Fillings.{all-from, all-with, all-kept}

-- ---- lists

pub map-members : {X Y : Type 0} (f g : X → Y) (xs : List X) → ((x : X) → Member x xs → f x ≡ g x) → map f xs ≡ map g xs
map-members f g [] h = refl
map-members f g (x ∷ xs) h =
    ap (λ y. y ∷ map f xs) (h x (λ q a. left (q x) (list_all q xs) a)) ∙ ap (λ ys. g x ∷ ys) (map-members f g xs (λ y m. h y (λ q a. m q (right (q x) (list_all q xs) a))))

pub map-map : {X Y Z : Type 0} (f : Y → Z) (g : X → Y) (xs : List X) → map f (map g xs) ≡ map (λ x. f (g x)) xs
map-map f g [] = refl
map-map f g (x ∷ xs) = ap (λ ys. f (g x) ∷ ys) (map-map f g xs)

kept-next : {Y Z : Type 0} (h : Y → Z) (o : Option Y) (q : Option Z) (ys : List Y) (zs : List Z) → option_map h o ≡ q → map h ys ≡ zs → map h (cons_option o ys) ≡ cons_option q zs
kept-next h o q ys zs e k = by o ∙ ap (λ r. cons_option r zs) e
  where
    by : (o : _) → map h (cons_option o ys) ≡ cons_option (option_map h o) zs
    by None = k
    by (Some y) = ap (λ z. h y ∷ z) k

pub kept-same : {X Y Z : Type 0} (h : Y → Z) (f : X → Option Y) (g : X → Option Z) (xs : List X) → ((x : X) → Member x xs → option_map h (f x) ≡ g x) → map h (filter_map f xs) ≡ filter_map g xs
kept-same h f g [] k = refl
kept-same h f g (x ∷ xs) k =
    kept-next h (f x) (g x) (filter_map f xs) (filter_map g xs) (k x (λ q a. left (q x) (list_all q xs) a)) (kept-same h f g xs (λ y m. k y (λ q a. m q (right (q x) (list_all q xs) a))))

all-both : {X : Type 0} (P Q R : X → Type 0) (xs : List X) → ((x : X) → P x → Q x → R x) → All P xs → All Q xs → All R xs
all-both P Q R xs f h k = λ i d within. f _ (h i d within) (k i d within)

flip : (m n : ℕ) → (m == n) ≡ true → (n == m) ≡ true
flip m n h = subst (λ z. (n == z) ≡ true) (sym (number-is m n h)) (number-itself n)

pub bytes-flip : (x y : List ℕ) → bytes_eq x y ≡ bytes_eq y x
bytes-flip x y =
    either (bytes_eq x y) (λ b. b ≡ bytes_eq y x) (λ k. sym (ap (λ z. bytes_eq z x) (sym (name-is x y k)) ∙ name-itself x))
    (λ k. sym (never (bytes_eq y x) (λ q. true≢false (sym (name-itself x) ∙ ap (bytes_eq x) (sym (name-is y x q)) ∙ k))))

-- where numbers differ, each attribute is found by its own
numbers-found : (xs : List Attribute) → each_pair (λ a b. not (b.number == a.number)) xs ≡ true → All (λ (a : Attribute). find (λ (x : Attribute). x.number == a.number) xs ≡ Some a) xs
numbers-found [] h = All-nil (λ (a : Attribute). find (λ (x : Attribute). x.number == a.number) [] ≡ Some a)
numbers-found (x ∷ xs) h =
    All-cons (λ (a : Attribute). find (λ (y : Attribute). y.number == a.number) (x ∷ xs) ≡ Some a) x xs
    (ap (λ b. cond b (Some x) (find (λ (y : Attribute). y.number == x.number) xs)) (number-itself x.number))
    (all-both (λ (b : Attribute). not (b.number == x.number) ≡ true) (λ (a : Attribute). find (λ (y : Attribute). y.number == a.number) xs ≡ Some a)
    (λ (a : Attribute). find (λ (y : Attribute). y.number == a.number) (x ∷ xs) ≡ Some a) xs
    (λ a k e. ap (λ b. cond b (Some x) (find (λ (y : Attribute). y.number == a.number) xs)) (never (x.number == a.number) (λ q. true≢false (sym k ∙ ap not (flip x.number a.number q)))) ∙ e)
    (all-from (λ b. not (b.number == x.number)) xs (left (list_all (λ b. not (b.number == x.number)) xs) (each_pair (λ a b. not (b.number == a.number)) xs) h))
    (numbers-found xs (right (list_all (λ b. not (b.number == x.number)) xs) (each_pair (λ a b. not (b.number == a.number)) xs) h)))

-- whether a cell's attribute is there, and with single values
abbrev pub has_single : Outline → ℕ → Cell → Bool
has_single schema t c = passes (λ a. not a.many) (attribute_of schema t c.name)

abbrev pub has_own : Outline → ℕ → Cell → Bool
has_own schema t c = is_some (attribute_of schema t c.name)

abbrev pub gives : Outline → ℕ → (Cell → Value) → List Cell → List Given
gives schema t val cells = flat_map (λ c. given_by (attribute_of schema t c.name) (val c)) cells

abbrev pub rule : Attribute → Value → Bool → Rule
rule a v w = record { attribute = a; value = v; wanted = w }

-- ---- by number and by name

module _ (schema : Outline) (plain : IsConsistent schema) (t : ℕ) where
  pub same-test : (c : Cell) (b a : Attribute) → attribute_of schema t c.name ≡ Some b → Member a (attributes_in schema t) → (b.number == a.number) ≡ bytes_eq c.name a.name
  same-test c b a f m =
      either (bytes_eq c.name a.name) (λ x. (b.number == a.number) ≡ x)
      (λ k.
      let name : c.name ≡ a.name = name-is c.name a.name k in
      subst (λ o. passes (λ x. x.number == a.number) o ≡ true) (ap (λ z. attribute_of schema t z) (sym name) ∙ f) (own-name schema plain t a m))
      (λ k. never (b.number == a.number) (λ q.
      let at = found schema plain t c.name b f in
      let one : a.name ≡ b.name = name-is a.name b.name (same-name schema plain t b a at.number (member-filter (λ x. isa schema t x.owner) a schema.attributes m) (flip b.number a.number q)) in
      let two : b.name ≡ c.name = name-is b.name c.name at.named in
      true≢false (sym (name-itself c.name) ∙ ap (λ z. bytes_eq c.name z) (sym (one ∙ two)) ∙ k)))

  pub given-option : (val : Cell → Value) (a : Attribute) → Member a (attributes_in schema t) → (cells : List Cell) → list_all (has_own schema t) cells ≡ true
      → option_map (λ (g : Given). g.value) (given_to (gives schema t val cells) a.number) ≡ option_map val (cell_of cells a)
  given-option val a m [] h = refl
  given-option val a m (c ∷ cs) h =
      option-cases (attribute_of schema t c.name)
      (λ o. is_some o ≡ true → option_map (λ (g : Given). g.value) (given_to (given_by o (val c) ++ gives schema t val cs) a.number) ≡ option_map val (cell_of (c ∷ cs) a))
      (λ _ q. absurd (true≢false (sym q)))
      (λ b f _.
      let g : Given = record { number = b.number; many = b.many; value = val c } in
      ap (λ x. option_map (λ (y : Given). y.value) (cond x (Some g) (given_to (gives schema t val cs) a.number))) (same-test c b a f m)
      ∙ either (bytes_eq c.name a.name) (λ x. option_map (λ (y : Given). y.value) (cond x (Some g) (given_to (gives schema t val cs) a.number)) ≡ option_map val (cond x (Some c) (cell_of cs a)))
      (λ _. refl) (λ _. given-option val a m cs (right (has_own schema t c) (list_all (has_own schema t) cs) h)))
      (left (has_own schema t c) (list_all (has_own schema t) cs) h)

  -- the cell of an attribute has that attribute
  pub of-cell : (c : Cell) (a : Attribute) → has_own schema t c ≡ true → attribute schema a.number ≡ Some a → Member a (attributes_in schema t) → bytes_eq c.name a.name ≡ true → attribute_of schema t c.name ≡ Some a
  of-cell c a h e m n =
      option-cases (attribute_of schema t c.name) (λ o. attribute_of schema t c.name ≡ o → is_some o ≡ true → attribute_of schema t c.name ≡ Some a)
      (λ _ _ q. absurd (true≢false (sym q)))
      (λ b f _ _.
      let same : b.number ≡ a.number = number-is b.number a.number (same-test c b a f m ∙ n) in
      f ∙ sym (found schema plain t c.name b f).number ∙ ap (attribute schema) same ∙ e)
      refl h

-- ---- what is filled

module _ (s : State) (variables : List Variable) (g : IsLegal s) (t : ℕ) (cells : List Cell) (owned : list_all (has_own s.schema t) cells ≡ true) where
  abbrev val : Cell → Value
  val c = term_value s variables c.value

  abbrev plain : IsConsistent s.schema
  plain = g.nearly.consistent

  abbrev pub all : List Given
  all = givens_of s variables t cells

  value-is : (o : Option Given) (c : Option Cell) → option_map (λ (x : Given). x.value) o ≡ option_map val c → value_in o ≡ given (present s variables) c
  value-is None None e = refl
  value-is (Some x) (Some c) e = cc
  value-is None (Some c) e = cc
  value-is (Some x) None e = cc

  filling-is : (a : Attribute) (o : Option Given) (c : Option Cell) → option_map (λ (x : Given). x.value) o ≡ option_map val c → option_map rule_of (filling_by a o) ≡ cell_filling (present s variables) a c
  filling-is a None None e = refl
  filling-is a (Some x) (Some c) e = ap (λ v. Some (rule a v a.no_nulls)) (inside e)
    where
      inside : Some x.value ≡ Some (val c) → x.value ≡ val c
      inside k = cc
  filling-is a None (Some c) e = cc
  filling-is a (Some x) None e = cc

  pub new-same : (key : Option ℕ) (named : Attribute → Bool) → ((a : Attribute) → Member a (attributes_in s.schema t) → is_key key a.number ≡ named a)
      → map rule_of (new_fillings s.schema t key all) ≡ rules.new_fillings (present s variables) t cells named
  new-same key named h =
      map-map rule_of (new_filling key all) (attributes_in s.schema t)
      ∙ map-members (λ a. rule a (value_in (given_to all a.number)) (a.no_nulls || is_key key a.number)) (λ a. rule a (given (present s variables) (cell_of cells a)) (a.no_nulls || named a)) (attributes_in s.schema t)
      (λ a m. ap (λ v. rule a v (a.no_nulls || is_key key a.number)) (value-is (given_to all a.number) (cell_of cells a) (given-option s.schema plain t val a m cells owned))
      ∙ ap (λ b. rule a (given (present s variables) (cell_of cells a)) (a.no_nulls || b)) (h a m))

  pub given-same : map rule_of (given_fillings s.schema t all) ≡ cell_fillings (present s variables) t cells
  given-same =
      kept-same rule_of (λ a. filling_by a (given_to all a.number)) (λ a. cell_filling (present s variables) a (cell_of cells a)) (attributes_in s.schema t)
      (λ a m. filling-is a (given_to all a.number) (cell_of cells a) (given-option s.schema plain t val a m cells owned))

  module _ (checked : Checked (present s variables) g t cells) (lives : Lives (present s variables) g t cells) where
    pub meant-cell : (a : Attribute) → attribute s.schema a.number ≡ Some a → Member a (attributes_in s.schema t) → (c : Cell) → cell_of cells a ≡ Some c → IsMeant s a (val c)
    meant-cell a e m c f =
        let n = find-member (λ cell. bytes_eq cell.name a.name) c cells f in
        let at = of-cell s.schema plain t c a (n (has_own s.schema t) owned) e m (find-passes (λ cell. bytes_eq cell.name a.name) c cells f) in
        record { there = e; sorted = cell-sort (present s variables) g t cells checked c n a at; live = cell-live (present s variables) g t cells lives c n }

    meant-null : (a : Attribute) → attribute s.schema a.number ≡ Some a → IsMeant s a value.Null
    meant-null a e = record { there = e; sorted = null-stores s.schema (kind_sort a.kind); live = λ x k. absurd (nothing x k) }
      where
        nothing : (x : EntityId) → value.Null ≡ value.Entity x → ⊥
        nothing x k = cc

    attributes-found : All (λ (a : Attribute). attribute s.schema a.number ≡ Some a) (attributes_in s.schema t)
    attributes-found = All-filter (λ a. isa s.schema t a.owner) (λ (a : Attribute). attribute s.schema a.number ≡ Some a) s.schema.attributes (numbers-found s.schema.attributes plain.numbers)

    pub meant-new : (key : Option ℕ) → All (λ (f : Filling). IsMeant s f.attribute f.value) (new_fillings s.schema t key all)
    meant-new key =
        All-map (λ (f : Filling). IsMeant s f.attribute f.value) (new_filling key all) (attributes_in s.schema t)
        (all-with (λ a. IsMeant s a (value_in (given_to all a.number))) (λ a. attribute s.schema a.number ≡ Some a) (attributes_in s.schema t)
        (λ a m e. subst (λ v. IsMeant s a v) (sym (value-is (given_to all a.number) (cell_of cells a) (given-option s.schema plain t val a m cells owned)))
        (option-cases (cell_of cells a) (λ o. IsMeant s a (given (present s variables) o)) (λ _. meant-null a e) (λ c f. meant-cell a e m c f))) attributes-found)

    kept-meant : (a : Attribute) (o : Option Given) (c : Option Cell) (f : Filling) → option_map (λ (x : Given). x.value) o ≡ option_map val c → filling_by a o ≡ Some f → ((d : Cell) → c ≡ Some d → IsMeant s a (val d)) → IsMeant s f.attribute f.value
    kept-meant a None c f e k h = absurd (nothing k)
      where
        nothing : None ≡ Some f → ⊥
        nothing q = cc
    kept-meant a (Some x) None f e k h = absurd (nothing e)
      where
        nothing : Some x.value ≡ None → ⊥
        nothing q = cc
    kept-meant a (Some x) (Some d) f e k h =
        subst (λ (z : Filling). IsMeant s z.attribute z.value) (some-is (record { attribute = a; value = x.value; wanted = a.no_nulls }) f k)
        (subst (λ v. IsMeant s a v) (sym (some-is x.value (val d) e)) (h d refl))

    pub meant-given : All (λ (f : Filling). IsMeant s f.attribute f.value) (given_fillings s.schema t all)
    meant-given =
        all-kept (λ a. filling_by a (given_to all a.number)) (λ (f : Filling). IsMeant s f.attribute f.value) (λ a. attribute s.schema a.number ≡ Some a) (attributes_in s.schema t)
        (λ a f m e k. kept-meant a (given_to all a.number) (cell_of cells a) f (given-option s.schema plain t val a m cells owned) k (λ d q. meant-cell a e m d q)) attributes-found

-- ---- what is set

can-be : (z : State) (number : ℕ) (v : Value) → (null v ≡ false → CanHold z number v) → CanBe z number v
can-be z number value.Null h = tt
can-be z number (value.Int i) h = h refl
can-be z number (value.Bool i) h = h refl
can-be z number (value.Text i) h = h refl
can-be z number (value.Entity i) h = h refl

module _ (e : EntityId) (t : ℕ) (val : Cell → Value) where
  pub admits-all : (cs : List Cell) (z : State) → IsNearlyLegal z → is_live z e ≡ true → isa z.schema e.ty t ≡ true → list_all (has_single z.schema t) cs ≡ true → CanAll e t z cs (map val cs)
      → AdmitsGivens e (gives z.schema t val cs) z
  admits-all [] z n l o h can = tt
  admits-all (c ∷ cs) z n l o h can =
      option-cases (attribute_of z.schema t c.name) (λ q. passes (λ x. not x.many) q ≡ true → AdmitsGivens e (given_by q (val c) ++ gives z.schema t val cs) z)
      (λ _ k. absurd (true≢false (sym k)))
      (λ a f single.
      let at = found z.schema n.consistent t c.name a f in
      let can_set = can.0 a f in
      let own = owns e t z n o c.name a f in
      let has : HasSingle z e a.number = record { live = l; single = subst (λ q. passes (λ x. isa z.schema e.ty x.owner && not x.many) q ≡ true) (sym at.number) (both (isa z.schema e.ty a.owner) (not a.many) own single) } in
      let be : CanBe z a.number (val c) = can-be z a.number (val c) (λ k. subst (λ q. passes (λ x. can_hold z x.kind (val c)) q ≡ true) (sym at.number) (can_set.held k)) in
      let free : due z (Set e a.number (val c)) ≡ None =
      ap (λ q. shared_at z q e (val c)) at.number
      ∙ either a.unique (λ b. a.unique ≡ b → (if b then shared_with z.schema a (find (is_other (Some e)) (turned a.number (val c) z.triples)) else None) ≡ None)
      (λ u _. ap (shared_with z.schema a) (alone-found e t z a (val c) can_set u)) (λ _ _. refl) refl in
      let put : AdmitsValue a.many z e a.number (val c) = subst (λ b. AdmitsValue b z e a.number (val c)) (sym (not-true a.many single)) ((has, be), free) in (
        put,
        admits-all cs (attribute_set z a.number e (val c))
            (set-nearly z a.number e (val c) a at.number n l own can_set.held (alone-found e t z a (val c) can_set)) l o
            (right (has_single z.schema t c) (list_all (has_single z.schema t) cs) h) (can-all-step e t z a.number (val c) cs (map val cs) can.1),
      ))
      (left (has_single z.schema t c) (list_all (has_single z.schema t) cs) h)

  pub sets-same : (cs : List Cell) (z : State) → givens_set e (gives z.schema t val cs) z ≡ cells_set t e cs (map val cs) z
  sets-same [] z = refl
  sets-same (c ∷ cs) z =
      option-cases (attribute_of z.schema t c.name) (λ q. givens_set e (given_by q (val c) ++ gives z.schema t val cs) z ≡ cells_set t e cs (map val cs) (cell_set q e (val c) z))
      (λ _. sets-same cs z) (λ a _. sets-same cs (attribute_set z a.number e (val c)))
