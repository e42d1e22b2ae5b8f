-- Every statement, and so every transaction, of a legal state leaves a legal state.
use Rattle.std.proofs.Common.{◌≡◌, ℕ, ◌+◌, true, false, List, [], ◌∷◌, Option, Some, None, IsTrue, refl, sym, true≢false}
use Rattle.std.specs.Prelude.{◌==◌, ◌<◌, not, ◌&&◌, cond, length, map, filter, is_none}
use Rattle.std.specs.List.{list_all}
use Rattle.std.specs.Str.{bytes_eq}
use Rattle.st_values.specs.declared.value.EntityId.{EntityId}
use Rattle.st_values.specs.declared.value.Value.{Value}
use Rattle.st_values.specs.Order.{same_value}
use Rattle.st_values.specs.Arranged.{each_pair}
use Rattle.st_values.proofs.Tests.{both, left, right, either, all-weaken}
use Rattle.st_lattice.specs.declared.attribute.Attribute.{Attribute}
use Rattle.st_lattice.specs.Outline.{type_named, attribute}
use Rattle.st_lattice.specs.Lattice.{isa, attribute_of}
use Rattle.st_lattice.specs.Stores.{passes}
use Rattle.st_query.specs.declared.statement.Cell.{Cell}
use Rattle.st_query.specs.declared.statement.Statement.{Statement}
use Rattle.st_query.specs.declared.statement.Statement.TheVariants.{Make, Set, Add, Take, Delete, Find, Ensure, Let, Print, ForEach, Abort}
use Rattle.st_query.specs.Ways.{way}
use Rattle.st_query.specs.Kinds.{known, expected_in}
use Rattle.st_query.specs.Written.{have_own_names, is_written}
use Rattle.st_state.specs.declared.triple.Triple.{Triple}
use Rattle.st_state.specs.State.{State, is_live, turned}
use Rattle.st_state.specs.Legal.{can_hold, is_sound, IsLegal}
use Rattle.st_state.specs.Refusals.{first_of}
use Rattle.st_state.proofs.Members.{find-passes, find-member}
use Rattle.st_meaning.specs.Terms.{start_value}
use Rattle.st_meaning.specs.Statements.{Present, value_now, makes, does, holder, key_holder, ensures, ensures_at}
use Rattle.st_meaning.specs.Checks.{cell_name_refused, key_name_refused, cell_refused, key_refused, cells_refused, ensure_refused, typed_refused, term_refused}
use Rattle.st_meaning.specs.Rules.{dead, new_fillings, ensure_fillings, of_type, too_long, missing, shared, found_by, refusal}
use Rattle.st_meaning.specs.Runs.{outcome, followed, begun, runs_statement, runs_from, runs}
use Rattle.st_meaning.proofs.Sorts.{first-none, others-none}
use Rattle.st_meaning.proofs.Legality.{Passes, passes-all, set-kept, add-kept, take-kept, delete-kept}
use Rattle.st_meaning.proofs.Cells.{option-cases}
use Rattle.st_meaning.proofs.Making.{each-none, all-map, own-names, none-is, is-none, named-there, made-legal, found-legal}

module _ (p : Present) (g : IsLegal p.state) where
  abbrev pub s : State
  s = p.state

  -- the checks of cells, each by itself
  pub cell-checked : (t : ℕ) (c : Cell) → is_none (cell_refused s.schema (known p.variables) t c) ≡ true → is_none (term_refused s.schema (known p.variables) (expected_in (attribute_of s.schema t c.name)) c.value) ≡ true
  cell-checked t c h =
      is-none _ (first-none (term_refused s.schema (known p.variables) (expected_in (attribute_of s.schema t c.name)) c.value) []
      (others-none (cell_name_refused c.name (attribute_of s.schema t c.name)) _ (none-is _ h)))

  pub cells-checked : (t : ℕ) (cells : List Cell) → cells_refused s.schema (known p.variables) t cells ≡ None
      → list_all (λ c. is_none (term_refused s.schema (known p.variables) (expected_in (attribute_of s.schema t c.name)) c.value)) cells ≡ true
  cells-checked t cells h =
      all-weaken (λ c. is_none (cell_refused s.schema (known p.variables) t c)) _ (cell-checked t) cells (each-none (cell_refused s.schema (known p.variables) t) cells h)

  pub key-checked : (t : ℕ) (key : Cell) → key_refused s.schema (known p.variables) t key.name key.value ≡ None → is_none (term_refused s.schema (known p.variables) (expected_in (attribute_of s.schema t key.name)) key.value) ≡ true
  key-checked t key h =
      is-none _ (first-none (term_refused s.schema (known p.variables) (expected_in (attribute_of s.schema t key.name)) key.value) []
      (others-none (key_name_refused key.name (attribute_of s.schema t key.name)) _ h))

  -- the values of cells are live
  pub cells-live : (cells : List Cell) → first_of (map (λ start. dead s (start_value s p.variables start)) (map (λ term. (way term).start) (map (λ cell. cell.value) cells))) ≡ None
      → list_all (λ c. is_none (dead s (start_value s p.variables (way c.value).start))) cells ≡ true
  cells-live cells h =
      all-map (λ (cell : Cell). cell.value) (λ term. is_none (dead s (start_value s p.variables (way term).start))) cells
      (all-map (λ term. (way term).start) (λ start. is_none (dead s (start_value s p.variables start))) (map (λ cell. cell.value) cells)
      (each-none (λ start. dead s (start_value s p.variables start)) (map (λ term. (way term).start) (map (λ cell. cell.value) cells)) h))

  -- ---- make

  pub make-kept : (var ty : List ℕ) (cells : List Cell) → have_own_names cells ≡ true → Passes p (Make var ty cells) → IsLegal (does p (Make var ty cells)).state
  make-kept var ty cells d h = by (type_named s.schema ty) refl h.text h.long h.null h.shared
    where
      by : (o : Option ℕ) → type_named s.schema ty ≡ o → typed_refused ty (λ t. cells_refused s.schema (known p.variables) t cells) o ≡ None
          → first_of (map (λ f. too_long f.attribute.kind f.value) (of_type (λ t. new_fillings p t cells (λ a. false)) o)) ≡ None
          → first_of (map (missing s.schema) (of_type (λ t. new_fillings p t cells (λ a. false)) o)) ≡ None
          → first_of (map (shared s None) (of_type (λ t. new_fillings p t cells (λ a. false)) o)) ≡ None → IsLegal (makes p var cells o).state
      by None e text long null shares = g
      by (Some t) e text long null shares = made-legal p g t (named-there s.schema ty t e) cells (own-names cells d) (λ a. false) (cells-checked t cells text) (cells-live cells h.live) long null shares

  -- ---- ensure

  -- an entity that is found is live and of the type
  pub held-live : (a : Attribute) (v : Value) → list_all (is_live s) (turned a.number v s.triples) ≡ true
  held-live a v = along s.triples g.nearly.sound
    where
      along : (ts : List Triple) → list_all (is_sound s) ts ≡ true → list_all (is_live s) (map (λ x. x.entity) (filter (λ x. (x.attribute == a.number) && same_value x.value v) ts)) ≡ true
      along [] h = refl
      along (x ∷ ts) h =
          either ((x.attribute == a.number) && same_value x.value v) (λ b. list_all (is_live s) (map (λ y. y.entity) (cond b (x ∷ filter (λ y. (y.attribute == a.number) && same_value y.value v) ts) (filter (λ y. (y.attribute == a.number) && same_value y.value v) ts))) ≡ true)
          (λ _. both (is_live s x.entity) (list_all (is_live s) (map (λ y. y.entity) (filter (λ y. (y.attribute == a.number) && same_value y.value v) ts)))
          (left (is_live s x.entity) (passes (λ b. isa s.schema x.entity.ty b.owner && can_hold s b.kind x.value) (attribute s.schema x.attribute)) (left (is_sound s x) (list_all (is_sound s) ts) h))
          (along ts (right (is_sound s x) (list_all (is_sound s) ts) h)))
          (λ _. along ts (right (is_sound s x) (list_all (is_sound s) ts) h))

  pub holder-live : (t : ℕ) (o : Option Attribute) (v : Value) (e : EntityId) → holder s t o v ≡ Some e → (is_live s e ≡ true) × (isa s.schema e.ty t ≡ true)
  holder-live t None v e h = absurd (nothing h)
    where
      nothing : None ≡ Some e → ⊥
      nothing k = cc
  holder-live t (Some a) v e h =
      (find-member (λ x. isa s.schema x.ty t) e (turned a.number v s.triples) h (is_live s) (held-live a v), find-passes (λ x. isa s.schema x.ty t) e (turned a.number v s.triples) h)

  pub ensure-kept : (var ty : List ℕ) (key : Cell) (cells : List Cell) → have_own_names (key ∷ cells) ≡ true → Passes p (Ensure var ty (key ∷ cells)) → IsLegal (does p (Ensure var ty (key ∷ cells))).state
  ensure-kept var ty key cells d h = by (type_named s.schema ty) refl h.text h.long h.null h.shared
    where
      at : (t : ℕ) (there : t < length s.schema.names) → ensure_refused s.schema (known p.variables) t (key ∷ cells) ≡ None → (o : Option EntityId) → key_holder p t (key ∷ cells) ≡ o
          → first_of (map (λ f. too_long f.attribute.kind f.value) (ensure_fillings p t (key ∷ cells) o)) ≡ None
          → first_of (map (missing s.schema) (ensure_fillings p t (key ∷ cells) o)) ≡ None
          → first_of (map (shared s o) (ensure_fillings p t (key ∷ cells) o)) ≡ None → IsLegal (ensures_at p var (key ∷ cells) t o).state
      at t there text None k long null shares =
          let first = key-checked t key (first-none (key_refused s.schema (known p.variables) t key.name key.value) _ text) in
          let others = cells-checked t cells (first-none (cells_refused s.schema (known p.variables) t cells) [] (others-none (key_refused s.schema (known p.variables) t key.name key.value) _ text)) in
          made-legal p g t there (key ∷ cells) (own-names (key ∷ cells) d) (λ a. bytes_eq a.name key.name)
          (both _ _ first others) (cells-live (key ∷ cells) h.live) long null shares
      at t there text (Some e) k long null shares =
          let is = holder-live t (attribute_of s.schema t key.name) (value_now p key.value) e k in
          let others = cells-checked t cells (first-none (cells_refused s.schema (known p.variables) t cells) [] (others-none (key_refused s.schema (known p.variables) t key.name key.value) _ text)) in
          found-legal p g t e is.0 is.1 cells (right (list_all (λ b. not (bytes_eq b.name key.name)) cells) (each_pair (λ a b. not (bytes_eq b.name a.name)) cells) (own-names (key ∷ cells) d)) others
          (right (is_none (dead s (start_value s p.variables (way key.value).start))) (list_all (λ c. is_none (dead s (start_value s p.variables (way c.value).start))) cells) (cells-live (key ∷ cells) h.live)) long null shares

      by : (o : Option ℕ) → type_named s.schema ty ≡ o → typed_refused ty (λ t. ensure_refused s.schema (known p.variables) t (key ∷ cells)) o ≡ None
          → first_of (map (λ f. too_long f.attribute.kind f.value) (of_type (λ t. ensure_fillings p t (key ∷ cells) (key_holder p t (key ∷ cells))) o)) ≡ None
          → first_of (map (missing s.schema) (of_type (λ t. ensure_fillings p t (key ∷ cells) (key_holder p t (key ∷ cells))) o)) ≡ None
          → first_of (map (shared s (found_by p (key ∷ cells) o)) (of_type (λ t. ensure_fillings p t (key ∷ cells) (key_holder p t (key ∷ cells))) o)) ≡ None → IsLegal (ensures p var (key ∷ cells) o).state
      by None e text long null shares = g
      by (Some t) e text long null shares = at t (named-there s.schema ty t e) text (key_holder p t (key ∷ cells)) refl long null shares

  -- ---- every statement

  pub statement-kept : (st : Statement) → is_written st ≡ true → refusal p st ≡ None → IsLegal (does p st).state
  statement-kept (Make var ty cells) w h = make-kept var ty cells w (passes-all p (Make var ty cells) h)
  statement-kept (Set feature target written) w h = set-kept p g feature target written (passes-all p (Set feature target written) h)
  statement-kept (Add feature target written) w h = add-kept p g feature target written (passes-all p (Add feature target written) h)
  statement-kept (Take feature target written) w h = take-kept p g feature target written (passes-all p (Take feature target written) h)
  statement-kept (Delete target) w h = delete-kept p g target (passes-all p (Delete target) h)
  statement-kept (Find var ty key written) w h = g
  statement-kept (Ensure var ty []) w h = absurd (true≢false (sym w))
  statement-kept (Ensure var ty (key ∷ cells)) w h = ensure-kept var ty key cells w (passes-all p (Ensure var ty (key ∷ cells)) h)
  statement-kept (Let var written) w h = g
  statement-kept (Print terms) w h = g
  statement-kept (ForEach query) w h = g
  statement-kept Abort w h = g

-- ---- a transaction

pub from-legal : (old : State) → IsLegal old → (n : ℕ) (p : Present) (ss : List Statement) → IsLegal p.state → list_all is_written ss ≡ true → IsLegal (runs_from old n p ss).state
unfolding runs_statement
from-legal old l n p [] g w = g
from-legal old l n p (st ∷ ss) g w =
    option-cases (refusal p st) (λ r. IsLegal (followed old n (outcome p st r) (λ q. runs_from old (n + 1) q ss)).state)
    (λ e. from-legal old l (n + 1) (does p st) ss (statement-kept p g st (left (is_written st) (list_all is_written ss) w) e) (right (is_written st) (list_all is_written ss) w))
    (λ r e. l)

pub runs-legal : (state : State) (ss : List Statement) → IsLegal state → IsTrue (list_all is_written ss) → IsLegal (runs state ss).state
unfolding runs
runs-legal state ss g w = from-legal state g 1 (begun state) ss g w
