-- What is known of the entities of a type, and then those that a query selects among them.
use Rattle.std.proofs.Common.{◌≡◌, ℕ, false, List, [], Option, Some, None, Result, Ok, Err, IsTrue, refl, sym, subst, true≢false, append-nil}
use Rattle.std.specs.Prelude.{◌++◌, is_ok}
use Rattle.std.specs.List.{list_all}
use Rattle.std.proofs.lemmas.List.Elements.{All-nil}
use Rattle.st_values.specs.declared.value.EntityId.{EntityId}
use Rattle.st_lattice.specs.Stores.{extents}
use Rattle.st_query.specs.declared.query.Query.{Query}
use Rattle.st_query.specs.declared.statement.Statement.TheVariants.{ForEach}
use Rattle.st_query.specs.declared.term.Variable.{Variable}
use Rattle.st_state.specs.State.{State, entities_of}
use Rattle.st_state.specs.Calls.{Listed}
use Rattle.st_known.specs.declared.known.Known.{Known}
use Rattle.st_known.specs.Known.{AreKnown}
use Rattle.st_meaning.specs.Selection.{entities_in, selected}
use Rattle.st_plain.specs.declared.fault.BaseFault.{BaseFault}
use Rattle.st_plain.specs.declared.fault.BaseFault.TheVariants.{Refused, Page, Memory}
use Rattle.st_plain.specs.Base.{Asked, Gives, IsOwn}
use Rattle.st_terms.specs.Checked.{IsChecked, present, touched}
use Rattle.st_terms.specs.Looks.{AreAmong, Answers, Looks}
use Rattle.st_terms.proofs.Looking.{among-both, among-chain, among-itself, among-left, at-nothing, looks-fail, looks-more, looks-then, reaches-nothing}
use Rattle.st_select.specs.declared.search.Search.{Search}
use Rattle.st_select.specs.Search.{matches_stores, keys_stores, search_of, search_stores, tests_stores, type_stores}
use Rattle.st_select.proofs.Admission.{search-among}
use Rattle.st_listings.proofs.Reading.{known-none}
use Rattle.st_paged.proofs.Calling.{one}

-- ---- what is known of a type's entities

-- a call that lists only looks
listed-looks : {A : Type 0} (stands : State → Type 0) (asks : List Asked → Type 0) (got : EntityId → ℕ → Type 0) (right : A → Type 0) (s : State) (ty : ℕ) (r : Result A BaseFault)
    → Gives stands s (Listed ty) right r → IsOwn (Listed ty) r → asks (one s (Listed ty) (is_ok r)) → Looks (stands s) asks got right (extents s.schema ty) [] r
listed-looks {A} stands asks got right s ty r gives own asked = record {
  answers = by r gives own;
  asked = record {
    calls = one s (Listed ty) (is_ok r);
    asked = asked;
    looks = λ _. refl;
    within = λ test h. subst (λ (stores : List ℕ). IsTrue (list_all test stores)) (sym (append-nil (extents s.schema ty))) h;
  };
  reached = reaches-nothing (λ p. got p.entity p.number) r;
}
  where
    by : (r : Result A BaseFault) → Gives stands s (Listed ty) right r → IsOwn (Listed ty) r → Answers (stands s) right r
    by (Ok x) h k = (h.1, h.2)
    by (Err (Refused refusal)) h k = absurd (true≢false (sym k))
    by (Err (Page fault)) h k = h
    by (Err Memory) h k = tt

module _ (stands : State → Type 0) (asks : List Asked → Type 0) (got : EntityId → ℕ → Type 0) (s : State) (ty : Option ℕ) where
  abbrev Lists : Option ℕ → Result (List Known) BaseFault → Type 0
  Lists o r = Looks (stands s) asks got (AreKnown s (entities_in s o)) (type_stores s.schema o) [] r

  pub known-looks : (number : ℕ) (r : Result (List Known) BaseFault) → ty ≡ Some number → Gives stands s (Listed number) (AreKnown s (entities_of s number)) r → IsOwn (Listed number) r → asks (one s (Listed number) (is_ok r))
      → Looks (stands s) asks got (AreKnown s (entities_in s ty)) (type_stores s.schema ty) [] r
  known-looks number r is gives own asked = subst (λ (o : Option ℕ). Lists o r) (sym is) (listed-looks stands asks got (AreKnown s (entities_of s number)) s number r gives own asked)

  pub unknown-looks : (known : List Known) → ty ≡ None → known ≡ [] → stands s → asks [] → Looks (stands s) asks got (AreKnown s (entities_in s ty)) (type_stores s.schema ty) [] (Ok known)
  unknown-looks known is none here nothing =
      subst (λ (o : Option ℕ). Lists o (Ok known)) (sym is)
      (record { answers = (known-none s known [] none refl, here); asked = at-nothing asks false [] nothing; reached = All-nil (λ p. got p.entity p.number) })

-- ---- what is selected

module _ (s : State) (variables : List Variable) (query : Query) (search : Search) (is : search ≡ search_of s.schema variables query) (checked : IsChecked (present s variables) (ForEach query)) where
  -- the stores of the type are among those of the statement
  type-touched : AreAmong (type_stores s.schema search.ty) (touched s.schema variables (ForEach query))
  type-touched =
      let looked = search_of s.schema variables query in
      let ty = type_stores s.schema looked.ty in
      let all = search_stores s.schema looked in
      subst (λ (x : Search). AreAmong (type_stores s.schema x.ty) (touched s.schema variables (ForEach query))) (sym is)
      (among-chain ty all (touched s.schema variables (ForEach query))
      (among-chain ty (matches_stores s.schema looked) all (among-left ty (tests_stores s.schema looked.tests)) (among-left (matches_stores s.schema looked) (keys_stores s.schema looked.keys)))
      (search-among s checked.legal.nearly variables query))

  -- behind the entities of the type, where these were listed
  pub known-then : (stands behind : Type 0) (first second whole : List Asked → Type 0) (got got_then : EntityId → ℕ → Type 0) → ((f g : List Asked) → first f → second g → whole (f ++ g)) → ((e : EntityId) (n : ℕ) → got e n → got_then e n)
      → (x known : List Known) (r : Result (List EntityId) BaseFault) → known ≡ x → Looks stands first got (AreKnown s (entities_in s search.ty)) (type_stores s.schema search.ty) [] (Ok x)
      → (AreKnown s (entities_in s search.ty) known → Looks behind second got_then (λ es. es ≡ selected s variables query) (touched s.schema variables (ForEach query)) [] r)
      → Looks behind whole got_then (λ es. es ≡ selected s variables query) (touched s.schema variables (ForEach query)) [] r
  known-then stands behind first second whole got got_then on stay x known r same f g =
      let ty = type_stores s.schema search.ty in
      let all = touched s.schema variables (ForEach query) in
      let right = λ (es : List EntityId). es ≡ selected s variables query in
      looks-more behind whole got_then right (ty ++ all) all [] r (among-both ty all all type-touched (among-itself all))
      (looks-then stands behind first second whole got got_then (AreKnown s (entities_in s search.ty)) right ty all [] [] x r on stay f (g (subst (AreKnown s (entities_in s search.ty)) (sym same) f.answers.0)))

  -- where they were not
  pub known-fail : (stands behind : Type 0) (asks : List Asked → Type 0) (got : EntityId → ℕ → Type 0) (e : BaseFault) → Looks stands asks got (AreKnown s (entities_in s search.ty)) (type_stores s.schema search.ty) [] (Err e)
      → Looks behind asks got (λ es. es ≡ selected s variables query) (touched s.schema variables (ForEach query)) [] (Err e)
  known-fail stands behind asks got e f =
      let ty = type_stores s.schema search.ty in
      let all = touched s.schema variables (ForEach query) in
      let right = λ (es : List EntityId). es ≡ selected s variables query in
      looks-more behind asks got right (ty ++ all) all [] (Err e) (among-both ty all all type-touched (among-itself all))
      (looks-fail stands behind asks got (AreKnown s (entities_in s search.ty)) right ty all [] [] e f)
