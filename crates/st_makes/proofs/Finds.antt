-- A find that was checked.
use Rattle.std.proofs.Common.{◌≡◌, ℕ, true, List, [], ◌∷◌, ◌++◌, Option, Some, None, Result, Ok, sym, ◌∙◌, ap, subst}
use Rattle.std.specs.Prelude.{flat_map, is_some, if◌then◌else◌, ◌||◌}
use Rattle.st_values.specs.declared.value.EntityId.{EntityId}
use Rattle.st_values.specs.declared.value.Value.{Value}
use Rattle.st_values.proofs.Tests.{either, one-of}
use Rattle.st_lattice.specs.declared.attribute.Attribute.{Attribute}
use Rattle.st_lattice.specs.Outline.{Outline, type_named, attribute}
use Rattle.st_lattice.specs.Lattice.{attribute_of}
use Rattle.st_lattice.specs.Stores.{index_of, inverse_of, extents, cell}
use Rattle.st_query.specs.declared.statement.Statement.TheVariants.{Find}
use Rattle.st_query.specs.declared.term.Term.{Term}
use Rattle.st_query.specs.declared.term.Variable.{Variable}
use Rattle.st_query.specs.declared.kind.Expected.TheVariants.{Storable}
use Rattle.st_query.specs.Footprint.{start_stores, path_stores, key_stores, find_stores}
use Rattle.st_query.specs.Written.{starts_of}
use Rattle.st_query.specs.Kinds.{known, kind_sort, expected_in}
use Rattle.st_query.specs.Ways.{way}
use Rattle.st_query.specs.Terms.{bind}
use Rattle.st_state.specs.State.{State}
use Rattle.st_state.specs.Legal.{IsNearlyLegal}
use Rattle.st_state.specs.Calls.{stores_by, found_in}
use Rattle.st_state.specs.declared.refusal.Refusal.TheVariants.{WrongType}
use Rattle.st_meaning.specs.Terms.{start_value, term_value}
use Rattle.st_meaning.specs.Statements.{holder, finds, found_value, does}
use Rattle.st_meaning.specs.Rules.{dead}
use Rattle.st_meaning.specs.Checks.{typed_refused, key_refused, key_name_refused, term_refused}
use Rattle.st_meaning.proofs.Sorts.{first-none, others-none, when-none, term-live, term-sort}
use Rattle.st_meaning.proofs.Legality.{dead-none}
use Rattle.st_meaning.proofs.Cells.{found}
use Rattle.st_terms.specs.Checked.{present, IsChecked, touched}
use Rattle.st_plain.specs.declared.fault.BaseFault.{BaseFault}
use Rattle.st_plain.specs.Base.{Asked}
use Rattle.st_terms.specs.Looks.{AreAmong, Place, Looks}
use Rattle.st_terms.specs.Routes.{AdmitsTerm, term_stores}
use Rattle.st_terms.proofs.Admitted.{admitted-term}
use Rattle.st_terms.proofs.Stores.{term-among}
use Rattle.st_terms.proofs.Looking.{among-chain, among-left, among-right, among-both}
use Rattle.st_makes.specs.Makes.{IsMeant, found_stores}
use Rattle.st_makes.proofs.Turns.{looks-as, looks-next}

-- what is known of the key of a type, and of the value that is looked for
pub record IsSought (s : State) (variables : List Variable) (a : Attribute) (t : Term) : Type 0 where
  pub admits : AdmitsTerm s variables t
  pub meant : IsMeant s a (term_value s variables t)
  pub unique : a.unique ≡ true

pub sought : (s : State) (variables : List Variable) (var ty key : List ℕ) (t : Term) (number : ℕ) (a : Attribute) → type_named s.schema ty ≡ Some number → attribute_of s.schema number key ≡ Some a
    → IsChecked (present s variables) (Find var ty key t) → IsSought s variables a t
sought s variables var ty key t number a e f checked =
    let text = subst (λ o. typed_refused ty (λ x. key_refused s.schema (known variables) x key t) o ≡ None) e checked.text in
    let own = subst (λ o. key_name_refused key o ≡ None) f (first-none (key_name_refused key (attribute_of s.schema number key)) _ text) in
    let fits = subst (λ o. term_refused s.schema (known variables) (expected_in o) t ≡ None) f
    (first-none (term_refused s.schema (known variables) (expected_in (attribute_of s.schema number key)) t) [] (others-none (key_name_refused key (attribute_of s.schema number key)) _ text)) in
    let live = dead-none s (start_value s variables (way t).start) (first-none (dead s (start_value s variables (way t).start)) [] checked.live) in
    let near = checked.legal.nearly in
    record {
      admits = admitted-term s near variables (Storable (kind_sort a.kind)) t fits live;
      meant = record {
        there = (found s.schema near.consistent number key a f).number;
        sorted = term-sort s near variables (kind_sort a.kind) t fits;
        live = term-live s near variables t live;
      };
      unique = when-none a.unique WrongType own;
    }

-- a unique attribute is looked up in its inverse or its index
pub found-among : (schema : Outline) (a : Attribute) → attribute schema a.number ≡ Some a → a.unique ≡ true → AreAmong (found_stores schema a.number) (key_stores (Some a))
found-among schema a f u =
    subst (λ o. AreAmong (stores_by (found_in schema) o) (index_of a ++ inverse_of a)) (sym f)
    (either (is_some a.inverse) (λ b. AreAmong (if b then inverse_of a else if a.index || a.unique then index_of a else cell schema a) (index_of a ++ inverse_of a))
    (λ _. among-right (index_of a) (inverse_of a))
    (λ _. subst (λ b. AreAmong (if b then index_of a else cell schema a) (index_of a ++ inverse_of a)) (sym (one-of a.index a.unique u)) (among-left (index_of a) (inverse_of a))))

pub find-among : (s : State) (variables : List Variable) (var ty key : List ℕ) (t : Term) (number : ℕ) (a : Attribute) → type_named s.schema ty ≡ Some number → attribute_of s.schema number key ≡ Some a
    → IsChecked (present s variables) (Find var ty key t) → AreAmong (term_stores s.schema variables t ++ found_stores s.schema a.number) (touched s.schema variables (Find var ty key t))
find-among s variables var ty key t number a e f checked =
    let starts = flat_map (start_stores s.schema variables) (starts_of (Find var ty key t)) in
    let paths = path_stores s.schema (t ∷ []) in
    let effect = find_stores s.schema key (type_named s.schema ty) in
    let near = checked.legal.nearly in
    let is = sought s variables var ty key t number a e f checked in
    let keys = key_stores (Some a) in
    let at : AreAmong (found_stores s.schema a.number) effect =
    subst (λ o. AreAmong (found_stores s.schema a.number) (find_stores s.schema key o)) (sym e)
    (subst (λ o. AreAmong (found_stores s.schema a.number) (key_stores o ++ extents s.schema number)) (sym f)
    (among-chain (found_stores s.schema a.number) keys (keys ++ extents s.schema number) (found-among s.schema a is.meant.there is.unique) (among-left keys (extents s.schema number)))) in
    among-both (term_stores s.schema variables t) (found_stores s.schema a.number) (starts ++ paths ++ effect)
    (among-chain (term_stores s.schema variables t) paths (starts ++ paths ++ effect) (term-among s near variables t)
    (among-chain paths (starts ++ paths) (starts ++ paths ++ effect) (among-right starts paths) (among-left (starts ++ paths) effect)))
    (among-chain (found_stores s.schema a.number) effect (starts ++ paths ++ effect) at (among-right (starts ++ paths) effect))

-- the value first, and then who has it
pub holder-next : (s : State) (variables : List Variable) (ty : ℕ) (a : Attribute) (t : Term) (v : Value) (some others : List ℕ) (places : List Place) (r : Result (Option EntityId) BaseFault)
    (stands behind : Type 0) (first second whole : List Asked → Type 0) (got got_then : EntityId → ℕ → Type 0)
    → ((f g : List Asked) → first f → second g → whole (f ++ g)) → ((e : EntityId) (n : ℕ) → got e n → got_then e n)
    → Looks stands first got (λ u. u ≡ term_value s variables t) some places (Ok v)
    → (stands → IsMeant s a v → Looks behind second got_then (λ found. found ≡ holder s ty (Some a) v) others [] r)
    → IsMeant s a (term_value s variables t) → Looks behind whole got_then (λ found. found ≡ holder s ty (Some a) (term_value s variables t)) (some ++ others) [] r
holder-next s variables ty a t v some others places r stands behind first second whole got got_then on stay f g meant =
    let e : v ≡ term_value s variables t = f.answers.0 in
    let later = g f.answers.1 (subst (λ u. IsMeant s a u) (sym e) meant) in
    looks-next stands behind first second whole got got_then (λ u. u ≡ term_value s variables t) (λ found. found ≡ holder s ty (Some a) (term_value s variables t)) some others places v r on stay f
    (subst (λ u. Looks behind second got_then (λ found. found ≡ holder s ty (Some a) u) others [] r) e later)

-- what is said of the key, said of the statement
pub find-as : (s : State) (schema : Outline) (variables : List Variable) (var ty key : List ℕ) (t : Term) (number : ℕ) (a : Attribute) → s.schema ≡ schema
    → type_named schema ty ≡ Some number → attribute_of schema number key ≡ Some a
    → (stands : Type 0) (asks : List Asked → Type 0) (got : EntityId → ℕ → Type 0) (r : Result Value BaseFault)
    → (IsNearlyLegal s → AdmitsTerm s variables t → IsMeant s a (term_value s variables t)
    → Looks stands asks got (λ found. found ≡ found_value (holder s number (Some a) (term_value s variables t))) (term_stores s.schema variables t ++ found_stores s.schema a.number) [] r)
    → IsChecked (present s variables) (Find var ty key t)
    → Looks stands asks got (λ found. (does (present s variables) (Find var ty key t)).variables ≡ bind var found variables) (touched s.schema variables (Find var ty key t)) [] r
find-as s schema variables var ty key t number a same e f stands asks got r h checked =
    let ty_is : type_named s.schema ty ≡ Some number = ap (λ o. type_named o ty) same ∙ e in
    let key_is : attribute_of s.schema number key ≡ Some a = ap (λ o. attribute_of o number key) same ∙ f in
    let is = sought s variables var ty key t number a ty_is key_is checked in
    let v = term_value s variables t in
    looks-as stands asks got (λ found. found ≡ found_value (holder s number (Some a) v)) (λ found. (does (present s variables) (Find var ty key t)).variables ≡ bind var found variables)
    (term_stores s.schema variables t ++ found_stores s.schema a.number) (touched s.schema variables (Find var ty key t)) [] r
    (λ x k. ap (λ u. bind var u variables) (ap (finds s key v) ty_is ∙ ap (λ o. found_value (holder s number o v)) key_is ∙ sym k))
    (find-among s variables var ty key t number a ty_is key_is checked) (h checked.legal.nearly is.admits is.meant)
