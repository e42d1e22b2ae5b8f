-- Rule 5 and the extents of literals and variables, by the entities that a statement names.
use Rattle.std.proofs.Common.{◌≡◌, ℕ, List, [], ◌∷◌, Option, Some, None, Ok, Err, refl, sym, ◌∙◌, ap, subst, append-nil}
use Rattle.std.specs.Prelude.{◌++◌, cond, not, map, filter, find, flat_map, if◌then◌else◌}
use Rattle.std.proofs.lemmas.Grind.{flat_map-append}
use Rattle.st_values.specs.declared.value.EntityId.{EntityId}
use Rattle.st_values.specs.declared.value.Value.{Value}
use Rattle.st_values.specs.declared.value.Value.TheVariants as value
use Rattle.st_values.proofs.Tests.{either}
use Rattle.st_lattice.specs.declared.stores.StoreKind.TheVariants.{Extent}
use Rattle.st_lattice.specs.Stores.{store}
use Rattle.st_lattice.specs.Outline.{Outline}
use Rattle.st_query.specs.declared.statement.Statement.{Statement}
use Rattle.st_query.specs.declared.statement.Statement.TheVariants.{Make, Set, Add, Take, Delete, Find, Ensure, Let, Print, ForEach, Abort}
use Rattle.st_query.specs.declared.term.Term.{Term}
use Rattle.st_query.specs.declared.term.Variable.{Variable}
use Rattle.st_query.specs.Ways.{Start, Written, Named, way}
use Rattle.st_query.specs.Written.{terms_of, query_terms, starts_of}
use Rattle.st_query.specs.Footprint.{extent_of, start_stores}
use Rattle.st_state.specs.declared.refusal.Refusal.{Refusal}
use Rattle.st_state.specs.declared.refusal.Refusal.TheVariants.{NoSuchEntity}
use Rattle.st_state.specs.Refusals.{first_of}
use Rattle.st_state.specs.State.{State, is_live}
use Rattle.st_meaning.specs.Terms.{start_value}
use Rattle.st_meaning.specs.Rules.{dead, entity_in, rule_5}
use Rattle.st_plain.specs.declared.fault.BaseFault.{BaseFault}
use Rattle.st_plain.specs.Base.{Asked}
use Rattle.st_terms.proofs.Looking.{looks-fail}
use Rattle.st_terms.specs.Looks.{Looks}
use Rattle.st_terms.specs.Checked.{present}
use Rattle.st_running.specs.Named.{start_entity, listed, is_hidden, terms_name, statement_names, extents_of, dead_refusal}
use Rattle.st_running.proofs.Dead.{gone}

start-is : (s : State) (variables : List Variable) (start : Start) → start_entity s.schema variables start ≡ entity_in (start_value s variables start)
start-is s variables (Written written) = refl
start-is s variables (Named name) = refl

unhidden : (xs : List Start) → filter (λ start. not (is_hidden None start)) xs ≡ xs
unhidden [] = refl
unhidden (x ∷ xs) = ap (λ ys. x ∷ ys) (unhidden xs)

-- ---- rule 5

module _ (s : State) (variables : List Variable) where
  abbrev test : Start → Option Refusal
  test start = dead s (start_value s variables start)

  dead-cons : (v : Value) (os : List (Option Refusal)) (es : List EntityId) → first_of os ≡ dead_refusal (find (gone s) es) → first_of (dead s v ∷ os) ≡ dead_refusal (find (gone s) (listed (entity_in v) ++ es))
  dead-cons value.Null os es h = h
  dead-cons (value.Int _) os es h = h
  dead-cons (value.Bool _) os es h = h
  dead-cons (value.Text _) os es h = h
  dead-cons (value.Entity e) os es h =
      either (is_live s e) (λ b. first_of ((if b then None else Some (NoSuchEntity e)) ∷ os) ≡ dead_refusal (cond (not b) (Some e) (find (gone s) es))) (λ _. h) (λ _. refl)

  terms-dead : (subject : Option (List ℕ)) (ts : List Term)
      → first_of (map test (filter (λ start. not (is_hidden subject start)) (map (λ t. (way t).start) ts))) ≡ dead_refusal (find (gone s) (terms_name s.schema variables subject ts))
  terms-dead subject [] = refl
  terms-dead subject (t ∷ ts) =
      either (is_hidden subject (way t).start)
      (λ b. first_of (map test (cond (not b) ((way t).start ∷ filter (λ start. not (is_hidden subject start)) (map (λ u. (way u).start) ts)) (filter (λ start. not (is_hidden subject start)) (map (λ u. (way u).start) ts))))
      ≡ dead_refusal (find (gone s) ((if b then [] else listed (start_entity s.schema variables (way t).start)) ++ terms_name s.schema variables subject ts)))
      (λ _. terms-dead subject ts)
      (λ _. dead-cons (start_value s variables (way t).start) (map test (filter (λ start. not (is_hidden subject start)) (map (λ u. (way u).start) ts))) (terms_name s.schema variables subject ts) (terms-dead subject ts)
      ∙ ap (λ o. dead_refusal (find (gone s) (listed o ++ terms_name s.schema variables subject ts))) (sym (start-is s variables (way t).start)))

  plain-dead : (ts : List Term) → first_of (map test (map (λ t. (way t).start) ts)) ≡ dead_refusal (find (gone s) (terms_name s.schema variables None ts))
  plain-dead ts = ap (λ xs. first_of (map test xs)) (sym (unhidden (map (λ t. (way t).start) ts))) ∙ terms-dead None ts

  pub fifth : (st : Statement) → rule_5 (present s variables) st ≡ dead_refusal (find (gone s) (statement_names s.schema variables st))
  fifth (Make var ty cells) = plain-dead (terms_of (Make var ty cells))
  fifth (Set feature target written) = plain-dead (terms_of (Set feature target written))
  fifth (Add feature target written) = plain-dead (terms_of (Add feature target written))
  fifth (Take feature target written) = plain-dead (terms_of (Take feature target written))
  fifth (Delete target) = plain-dead (terms_of (Delete target))
  fifth (Find var ty key written) = plain-dead (terms_of (Find var ty key written))
  fifth (Ensure var ty cells) = plain-dead (terms_of (Ensure var ty cells))
  fifth (Let var written) = plain-dead (terms_of (Let var written))
  fifth (Print terms) = plain-dead (terms_of (Print terms))
  fifth (ForEach query) = terms-dead (Some query.var) (query_terms query)
  fifth Abort = plain-dead []

-- ---- extents

module _ (schema : Outline) (variables : List Variable) where
  start-extents : (start : Start) → extents_of (listed (start_entity schema variables start)) ≡ start_stores schema variables start
  start-extents (Written written) = by _
    where
      by : (v : Value) → extents_of (listed (entity_in v)) ≡ extent_of v
      by value.Null = refl
      by (value.Int _) = refl
      by (value.Bool _) = refl
      by (value.Text _) = refl
      by (value.Entity e) = refl
  start-extents (Named name) = by _
    where
      by : (v : Value) → extents_of (listed (entity_in v)) ≡ extent_of v
      by value.Null = refl
      by (value.Int _) = refl
      by (value.Bool _) = refl
      by (value.Text _) = refl
      by (value.Entity e) = refl

  terms-extents : (subject : Option (List ℕ)) (ts : List Term)
      → extents_of (terms_name schema variables subject ts) ≡ flat_map (start_stores schema variables) (filter (λ start. not (is_hidden subject start)) (map (λ t. (way t).start) ts))
  terms-extents subject [] = refl
  terms-extents subject (t ∷ ts) =
      either (is_hidden subject (way t).start)
      (λ b. extents_of ((if b then [] else listed (start_entity schema variables (way t).start)) ++ terms_name schema variables subject ts)
      ≡ flat_map (start_stores schema variables) (cond (not b) ((way t).start ∷ filter (λ start. not (is_hidden subject start)) (map (λ u. (way u).start) ts)) (filter (λ start. not (is_hidden subject start)) (map (λ u. (way u).start) ts))))
      (λ _. terms-extents subject ts)
      (λ _. flat_map-append (λ (e : EntityId). store Extent e.ty ∷ []) (listed (start_entity schema variables (way t).start)) (terms_name schema variables subject ts)
      ∙ ap (λ xs. xs ++ extents_of (terms_name schema variables subject ts)) (start-extents (way t).start)
      ∙ ap (λ xs. start_stores schema variables (way t).start ++ xs) (terms-extents subject ts))

  plain-extents : (ts : List Term) → extents_of (terms_name schema variables None ts) ≡ flat_map (start_stores schema variables) (map (λ t. (way t).start) ts)
  plain-extents ts = terms-extents None ts ∙ ap (flat_map (start_stores schema variables)) (unhidden (map (λ t. (way t).start) ts))

  pub statement-extents : (st : Statement) → extents_of (statement_names schema variables st) ≡ flat_map (start_stores schema variables) (starts_of st)
  statement-extents (Make var ty cells) = plain-extents (terms_of (Make var ty cells))
  statement-extents (Set feature target written) = plain-extents (terms_of (Set feature target written))
  statement-extents (Add feature target written) = plain-extents (terms_of (Add feature target written))
  statement-extents (Take feature target written) = plain-extents (terms_of (Take feature target written))
  statement-extents (Delete target) = plain-extents (terms_of (Delete target))
  statement-extents (Find var ty key written) = plain-extents (terms_of (Find var ty key written))
  statement-extents (Ensure var ty cells) = plain-extents (terms_of (Ensure var ty cells))
  statement-extents (Let var written) = plain-extents (terms_of (Let var written))
  statement-extents (Print terms) = plain-extents (terms_of (Print terms))
  statement-extents (ForEach query) = terms-extents (Some query.var) (query_terms query)
  statement-extents Abort = plain-extents []

-- what is said of the first dead entity, said of the rule
pub fifth-said : (s : State) (schema : Outline) (variables : List Variable) (st : Statement) (names : List EntityId) (found : Option EntityId) (refused : Option Refusal) → s.schema ≡ schema → names ≡ statement_names schema variables st → refused ≡ dead_refusal found
    → (stands : Type 0) (asks : List Asked → Type 0) (got : EntityId → ℕ → Type 0)
    → Looks stands asks got (λ d. d ≡ find (gone s) names) (extents_of names) [] (Ok found) → Looks stands asks got (λ r. r ≡ rule_5 (present s variables) st) (flat_map (start_stores s.schema variables) (starts_of st)) [] (Ok refused)
fifth-said s schema variables st names found refused same is r stands asks got f =
    let e : names ≡ statement_names s.schema variables st = is ∙ ap (λ o. statement_names o variables st) (sym same) in
    let g = subst (λ ns. Looks stands asks got (λ d. d ≡ find (gone s) ns) (extents_of ns) [] (Ok found)) e f in
    let h = subst (λ xs. Looks stands asks got (λ d. d ≡ find (gone s) (statement_names s.schema variables st)) xs [] (Ok found)) (statement-extents s.schema variables st) g in
    record { answers = (r ∙ ap dead_refusal h.answers.0 ∙ sym (fifth s variables st), h.answers.1); asked = h.asked; reached = h.reached }

pub fifth-failed : (s : State) (schema : Outline) (variables : List Variable) (st : Statement) (names : List EntityId) (e : BaseFault) → s.schema ≡ schema → names ≡ statement_names schema variables st
    → (stands : Type 0) (asks : List Asked → Type 0) (got : EntityId → ℕ → Type 0)
    → Looks stands asks got (λ d. d ≡ find (gone s) names) (extents_of names) [] (Err e) → Looks stands asks got (λ r. r ≡ rule_5 (present s variables) st) (flat_map (start_stores s.schema variables) (starts_of st)) [] (Err e)
fifth-failed s schema variables st names e same is stands asks got f =
    let k : extents_of names ≡ flat_map (start_stores s.schema variables) (starts_of st) =
    ap extents_of (is ∙ ap (λ o. statement_names o variables st) (sym same)) ∙ statement-extents s.schema variables st in
    subst (λ xs. Looks stands asks got (λ r. r ≡ rule_5 (present s variables) st) xs [] (Err e)) (append-nil (flat_map (start_stores s.schema variables) (starts_of st)))
    (looks-fail stands stands asks got (λ d. d ≡ find (gone s) names) (λ r. r ≡ rule_5 (present s variables) st) (flat_map (start_stores s.schema variables) (starts_of st)) [] [] [] e
    (subst (λ xs. Looks stands asks got (λ d. d ≡ find (gone s) names) xs [] (Err e)) k f))
