-- What the parts of a search give, one after another.
use Rattle.std.proofs.Common.{◌≡◌, ℕ, List, [], Result, Ok, Err, Vec, Global, sym, ◌∙◌, subst, map}
use Rattle.std.specs.Prelude.{◌++◌, All}
use Rattle.st_values.specs.declared.value.EntityId.{EntityId}
use Rattle.st_query.specs.declared.query.Query.{Query}
use Rattle.st_query.specs.declared.statement.Statement.TheVariants.{ForEach}
use Rattle.st_query.specs.declared.term.Variable.{Variable}
use Rattle.st_state.specs.State.{State}
use Rattle.st_known.specs.declared.known.Known.{Known}
use Rattle.st_known.specs.Known.{AreKnown}
use Rattle.st_meaning.specs.Selection.{entities_in, selected}
use Rattle.st_plain.specs.declared.fault.BaseFault.{BaseFault}
use Rattle.st_plain.specs.declared.fault.BaseFault.TheVariants.{Refused, Page, Memory}
use Rattle.st_plain.specs.Base.{Asked}
use Rattle.st_terms.specs.Checked.{IsChecked, present, touched}
use Rattle.st_terms.specs.Looks.{AreAmong, Place, Looks}
use Rattle.st_terms.proofs.Looking.{among-itself, among-chain, among-left, among-right, among-both, looks-then, looks-more}
use Rattle.st_select.specs.declared.search.Test.{Test}
use Rattle.st_select.specs.declared.search.OrderKey.{OrderKey}
use Rattle.st_select.specs.declared.search.Search.{Search}
use Rattle.st_select.specs.Search.{AdmitsTests, AdmitsKeys, AdmitsSearch, search_of, matching, search_matches, tests_stores, keys_stores, type_stores, matches_stores, search_stores}
use Rattle.st_select.specs.declared.ranking.Ranked.{Ranked}
use Rattle.st_select.specs.Ranking.{ranked, IsInOrder}
use Rattle.st_select.proofs.Ranked.{in-order-selected}
use Rattle.st_select.proofs.Admission.{search-admitted, search-among}

-- an answer, said otherwise
looks-means : {A : Type 0} (stands : Type 0) (asks : List Asked → Type 0) (got : EntityId → ℕ → Type 0) (right right_as : A → Type 0) (stores : List ℕ) (places : List Place) (r : Result A BaseFault)
    → ((x : A) → right x → right_as x) → Looks stands asks got right stores places r → Looks stands asks got right_as stores places r
looks-means stands asks got right right_as stores places (Ok x) h f = record { answers = (h x f.answers.0, f.answers.1); asked = f.asked; reached = f.reached }
looks-means stands asks got right right_as stores places (Err (Refused refusal)) h f = absurd f.answers
looks-means stands asks got right right_as stores places (Err (Page fault)) h f = record { answers = f.answers; asked = f.asked; reached = tt }
looks-means stands asks got right right_as stores places (Err Memory) h f = record { answers = tt; asked = f.asked; reached = tt }

module _ (s : State) (search : Search) (known : List Known) (tests : List Test) (keys : List OrderKey) (of_tests : tests ≡ search.tests) (of_keys : keys ≡ search.keys) where
  -- what is ranked, of the entities of the type, is what the search finds
  pub ranked-found : (stands : Type 0) (asks : List Asked → Type 0) (got : EntityId → ℕ → Type 0) (r : Result (Vec Ranked Global) BaseFault)
      → ((entities : List EntityId) → AreKnown s entities known → All (AdmitsTests s tests) entities → All (AdmitsKeys s keys) entities
      → Looks stands asks got (λ all. all.items ≡ map (ranked s keys) (matching s tests entities)) (tests_stores s.schema tests ++ keys_stores s.schema keys) [] r)
      → AreKnown s (entities_in s search.ty) known → AdmitsSearch s search
      → Looks stands asks got (λ all. all.items ≡ map (ranked s search.keys) (search_matches s search)) (search_stores s.schema search) [] r
  ranked-found stands asks got r f are admits =
      let Found : List Test → List OrderKey → Type 0 =
      λ ts ks. (entities : List EntityId) → AreKnown s entities known → All (AdmitsTests s ts) entities → All (AdmitsKeys s ks) entities
      → Looks stands asks got (λ all. all.items ≡ map (ranked s ks) (matching s ts entities)) (tests_stores s.schema ts ++ keys_stores s.schema ks) [] r in
      let ty = type_stores s.schema search.ty in
      let some = tests_stores s.schema search.tests in
      let others = keys_stores s.schema search.keys in
      looks-more stands asks got (λ all. all.items ≡ map (ranked s search.keys) (search_matches s search)) (some ++ others) ((ty ++ some) ++ others) [] r
      (among-both some others ((ty ++ some) ++ others) (among-chain some (ty ++ some) ((ty ++ some) ++ others) (among-right ty some) (among-left (ty ++ some) others)) (among-right (ty ++ some) others))
      (subst (λ ks. Found search.tests ks) of_keys (subst (λ ts. Found ts keys) of_tests f) (entities_in s search.ty) are admits.tests admits.keys)

  -- and then put in order
  pub found-in-order : (all : List Ranked) (entities : List EntityId) → all ≡ map (ranked s search.keys) (search_matches s search) → IsInOrder keys all entities
      → IsInOrder search.keys (map (ranked s search.keys) (search_matches s search)) entities
  found-in-order all entities is o = subst (λ rs. IsInOrder search.keys rs entities) is (subst (λ ks. IsInOrder ks all entities) of_keys o)

-- what a search finds is the selection of the query that was looked up
pub search-selects : (s : State) (variables : List Variable) (query : Query) (search : Search) → search ≡ search_of s.schema variables query → IsChecked (present s variables) (ForEach query)
    → (stands : Type 0) (asks : List Asked → Type 0) (got : EntityId → ℕ → Type 0) (r : Result (List EntityId) BaseFault)
    → (AdmitsSearch s search → Looks stands asks got (IsInOrder search.keys (map (ranked s search.keys) (search_matches s search))) (search_stores s.schema search) [] r)
    → Looks stands asks got (λ es. es ≡ selected s variables query) (touched s.schema variables (ForEach query)) [] r
search-selects s variables query search e checked stands asks got r f =
    let looked = search_of s.schema variables query in
    let n = checked.legal.nearly in
    let at = subst (λ x. AdmitsSearch s x → Looks stands asks got (IsInOrder x.keys (map (ranked s x.keys) (search_matches s x))) (search_stores s.schema x) [] r) e f in
    looks-more stands asks got (λ es. es ≡ selected s variables query) (search_stores s.schema looked) (touched s.schema variables (ForEach query)) [] r (search-among s n variables query)
    (looks-means stands asks got (IsInOrder looked.keys (map (ranked s looked.keys) (search_matches s looked))) (λ es. es ≡ selected s variables query) (search_stores s.schema looked) [] r
    (λ es o. in-order-selected s variables query n.live_ascends es o) (at (search-admitted s variables query checked)))

-- the stores of the type are among those of the statement
type-touched : (s : State) (variables : List Variable) (query : Query) (search : Search) → search ≡ search_of s.schema variables query → IsChecked (present s variables) (ForEach query)
    → AreAmong (type_stores s.schema search.ty) (touched s.schema variables (ForEach query))
type-touched s variables query search e checked =
    let looked = search_of s.schema variables query in
    let ty = type_stores s.schema looked.ty in
    let all = search_stores s.schema looked in
    subst (λ x. AreAmong (type_stores s.schema x.ty) (touched s.schema variables (ForEach query))) (sym e)
    (among-chain ty all (touched s.schema variables (ForEach query))
    (among-chain ty (matches_stores s.schema looked) all (among-left ty (tests_stores s.schema looked.tests)) (among-left (matches_stores s.schema looked) (keys_stores s.schema looked.keys)))
    (search-among s checked.legal.nearly variables query))

-- the entities of the type, and then those that are selected among them
pub listed-selects : (s : State) (variables : List Variable) (query : Query) (search : Search) → search ≡ search_of s.schema variables query → IsChecked (present s variables) (ForEach query)
    → (stands behind : Type 0) (first second whole : List Asked → Type 0) (got got_then : EntityId → ℕ → Type 0)
    → ((f g : List Asked) → first f → second g → whole (f ++ g)) → ((e : EntityId) (n : ℕ) → got e n → got_then e n)
    → (x listed : List EntityId) (known : List Known) (r : Result (List EntityId) BaseFault) → listed ≡ x → AreKnown s listed known
    → Looks stands first got (λ es. es ≡ entities_in s search.ty) (type_stores s.schema search.ty) [] (Ok x)
    → (AreKnown s (entities_in s search.ty) known → Looks behind second got_then (λ es. es ≡ selected s variables query) (touched s.schema variables (ForEach query)) [] r)
    → Looks behind whole got_then (λ es. es ≡ selected s variables query) (touched s.schema variables (ForEach query)) [] r
listed-selects s variables query search e checked stands behind first second whole got got_then on stay x listed known r is are f g =
    let ty = type_stores s.schema search.ty in
    let all = touched s.schema variables (ForEach query) in
    let right = λ (es : List EntityId). es ≡ selected s variables query in
    looks-more behind whole got_then right (ty ++ all) all [] r (among-both ty all all (type-touched s variables query search e checked) (among-itself all))
    (looks-then stands behind first second whole got got_then (λ es. es ≡ entities_in s search.ty) right ty all [] [] x r on stay f (g (subst (λ es. AreKnown s es known) (is ∙ f.answers.0) are)))
