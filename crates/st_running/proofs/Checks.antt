-- The rules that come before anything is evaluated.
use Rattle.std.proofs.Common.{◌≡◌, ℕ, ◌≤◌, Bool, true, false, List, [], ◌∷◌, Option, Some, None, Result, Ok, Err, refl, sym, ◌∙◌, ap, subst, true≢false, arith, inl, inr}
use Rattle.std.specs.Prelude.{IfOk, ◌++◌, ◌&&◌, ◌==◌, ◌⊎◌, not, is_some, length, flat_map, if◌then◌else◌, All, IsTrue}
use Rattle.std.specs.List.{list_all, list_any}
use Rattle.st_values.specs.declared.value.EntityId.{EntityId}
use Rattle.st_values.proofs.Tests.{both, left, right, not-true}
use Rattle.st_lattice.specs.Outline.{Outline}
use Rattle.st_query.specs.declared.statement.Statement.{Statement}
use Rattle.st_query.specs.declared.statement.Statement.TheVariants.{Make, Set, Add, Take, Delete, Find, Ensure, Let, Print, ForEach, Abort}
use Rattle.st_query.specs.declared.term.Variable.{Variable}
use Rattle.st_query.specs.Written.{is_written, terms_of, starts_of}
use Rattle.st_query.specs.Footprint.{start_stores, path_stores, effect_stores}
use Rattle.st_state.specs.declared.refusal.Refusal.{Refusal}
use Rattle.st_state.specs.declared.refusal.Refusal.TheVariants.{UnknownName, WrongType, NullNotAllowed, NotUnique, NoSuchEntity, StillNeeded, NotASet, TextTooLong, NumbersSpent, Aborted, NullEntity, TooManyPages, Full}
use Rattle.st_state.specs.Legal.{IsLegal}
use Rattle.st_state.specs.Refusals.{rule_number, first_of}
use Rattle.st_state.specs.State.{State, empty_state}
use Rattle.st_query.specs.Kinds.{known}
use Rattle.st_meaning.specs.Checks.{text_refused}
use Rattle.st_meaning.specs.Laws.{is_by, are_by, order_of_rules}
use Rattle.st_meaning.specs.Statements.{Present}
use Rattle.st_meaning.specs.Rules.{rule_10, rules_1_2_7, rule_5, rule_11, rule_8, rule_3, rule_4, rule_6, rule_9, rules, refusal}
use Rattle.st_meaning.proofs.Alone.{own_numbers}
use Rattle.st_meaning.proofs.Sorts.{first-none, others-none}
use Rattle.st_plain.specs.declared.fault.BaseFault.{BaseFault}
use Rattle.st_plain.specs.declared.fault.BaseFault.TheVariants.{Refused}
use Rattle.st_plain.specs.Base.{Met, Asked, TellsMet, Refuses, Reaches, behind}
use Rattle.st_terms.specs.Looks.{AreAmong, AskedAt, Looks, Keeps}
use Rattle.st_terms.specs.Checked.{present, IsChecked, touched}
use Rattle.st_terms.proofs.Looking.{among-left, among-chain, among-both, among-itself, at-more, at-looking, at-both, at-nothing}
use Rattle.st_changes.proofs.Running.{sets-all-behind}
use Rattle.st_running.specs.Named.{is_abort, text_refusal, dead_refusal, checks}
use Rattle.st_running.specs.Steps.{may_put, first_place, Steps}

some-none : {A : Type 0} (a : A) → Some a ≡ None → ⊥
some-none a e = cc

-- ---- the checks

aborts : (p : Present) (st : Statement) → rule_10 p st ≡ (if is_abort st then Some Aborted else None)
aborts p (Make var ty cells) = refl
aborts p (Set feature target written) = refl
aborts p (Add feature target written) = refl
aborts p (Take feature target written) = refl
aborts p (Delete target) = refl
aborts p (Find var ty key written) = refl
aborts p (Ensure var ty cells) = refl
aborts p (Let var written) = refl
aborts p (Print terms) = refl
aborts p (ForEach query) = refl
aborts p Abort = refl

text-is : (s : State) (variables : List Variable) (st : Statement) → text_refusal s.schema variables st ≡ first_of (rule_10 (present s variables) st ∷ rules_1_2_7 (present s variables) st ∷ [])
text-is s variables st = ap (λ o. first_of (o ∷ rules_1_2_7 (present s variables) st ∷ [])) (sym (aborts (present s variables) st))

early-some : (a b c : Option Refusal) → is_some (first_of (a ∷ b ∷ [])) ≡ true → first_of (a ∷ b ∷ []) ≡ first_of (a ∷ b ∷ c ∷ [])
early-some (Some r) b c h = refl
early-some None (Some r) c h = refl
early-some None None c h = absurd (true≢false (sym h))

early-none : (a b c : Option Refusal) → is_some (first_of (a ∷ b ∷ [])) ≡ false → c ≡ first_of (a ∷ b ∷ c ∷ [])
early-none (Some r) b c h = absurd (true≢false h)
early-none None (Some r) c h = absurd (true≢false h)
early-none None None None h = refl
early-none None None (Some r) h = refl

-- what the text is refused by
pub early-said : (s : State) (schema : Outline) (variables : List Variable) (st : Statement) (refused : Option Refusal) → s.schema ≡ schema → refused ≡ text_refusal schema variables st → is_some refused ≡ true
    → refused ≡ checks (present s variables) st
early-said s schema variables st refused same is h =
    let p = present s variables in
    let e : refused ≡ first_of (rule_10 p st ∷ rules_1_2_7 p st ∷ []) = is ∙ ap (λ o. text_refusal o variables st) (sym same) ∙ text-is s variables st in
    e ∙ early-some (rule_10 p st) (rules_1_2_7 p st) (rule_5 p st) (ap is_some (sym e) ∙ h)

pub late-said : (s : State) (schema : Outline) (variables : List Variable) (st : Statement) (refused : Option Refusal) → s.schema ≡ schema → refused ≡ text_refusal schema variables st → is_some refused ≡ false
    → rule_5 (present s variables) st ≡ checks (present s variables) st
late-said s schema variables st refused same is h =
    let p = present s variables in
    let e : refused ≡ first_of (rule_10 p st ∷ rules_1_2_7 p st ∷ []) = is ∙ ap (λ o. text_refusal o variables st) (sym same) ∙ text-is s variables st in
    early-none (rule_10 p st) (rules_1_2_7 p st) (rule_5 p st) (ap is_some (sym e) ∙ h)

-- ---- refusals are not of pages

-- where each of several is by its own rules, and a number is none of those, the first refusal has another number
not-by : (r : Refusal) (ns : List (List ℕ)) (os : List (Option Refusal)) → are_by ns os ≡ true → first_of os ≡ Some r → list_all (λ l. not (list_any (λ number. rule_number r == number) l)) ns ≡ true → length os ≤ length ns → ⊥
not-by r ns [] a f h l = some-none r (sym f)
not-by r [] (o ∷ os) a f h l = omega (arith, l)
not-by r (n ∷ ns) (None ∷ os) a f h l = not-by r ns os a f (right (not (list_any (λ number. rule_number r == number) n)) (list_all (λ l. not (list_any (λ number. rule_number r == number) l)) ns) h) (omega (arith, l))
not-by r (n ∷ ns) (Some q ∷ os) a f h l =
    let same : q ≡ r = inside f in
    let by : list_any (λ number. rule_number r == number) n ≡ true = subst (λ x. list_any (λ number. rule_number x == number) n ≡ true) same (left (list_any (λ number. rule_number q == number) n) (are_by ns os) a) in
    true≢false (sym by ∙ not-true (list_any (λ number. rule_number r == number) n) (left (not (list_any (λ number. rule_number r == number) n)) (list_all (λ l. not (list_any (λ number. rule_number r == number) l)) ns) h))
  where
    inside : Some q ≡ Some r → q ≡ r
    inside e = cc

-- a refusal that is due, and the state from before
pub refused-by : (p : Present) (st : Statement) (same : Type 0) (r : Refusal) → refusal p st ≡ Some r → same → Refuses (refusal p st) same r
unfolding refusal
refused-by p st same (UnknownName n) e h = (e, h)
refused-by p st same WrongType e h = (e, h)
refused-by p st same (NullNotAllowed n) e h = (e, h)
refused-by p st same (NotUnique n x) e h = (e, h)
refused-by p st same (NoSuchEntity x) e h = (e, h)
refused-by p st same (StillNeeded x n) e h = (e, h)
refused-by p st same (NotASet n) e h = (e, h)
refused-by p st same (TextTooLong a b) e h = (e, h)
refused-by p st same (NumbersSpent n) e h = (e, h)
refused-by p st same Aborted e h = (e, h)
refused-by p st same NullEntity e h = (e, h)
refused-by p st same (TooManyPages n) e h = absurd (not-by (TooManyPages n) order_of_rules (rules p st) (own_numbers p st) e refl (omega arith))
refused-by p st same (Full n) e h = absurd (not-by (Full n) order_of_rules (rules p st) (own_numbers p st) e refl (omega arith))

-- such a refusal tells of no place
pub never-reached : (A : Type 0) (p : Present) (st : Statement) (got : Type 0) (r : Refusal) → refusal p st ≡ Some r → Reaches {A = A} got (Err (Refused r))
unfolding refusal
never-reached A p st got (UnknownName n) e = tt
never-reached A p st got WrongType e = tt
never-reached A p st got (NullNotAllowed n) e = tt
never-reached A p st got (NotUnique n x) e = tt
never-reached A p st got (NoSuchEntity x) e = tt
never-reached A p st got (StillNeeded x n) e = tt
never-reached A p st got (NotASet n) e = tt
never-reached A p st got (TextTooLong a b) e = tt
never-reached A p st got (NumbersSpent n) e = tt
never-reached A p st got Aborted e = tt
never-reached A p st got NullEntity e = tt
never-reached A p st got (TooManyPages n) e = absurd (not-by (TooManyPages n) order_of_rules (rules p st) (own_numbers p st) e refl (omega arith))
never-reached A p st got (Full n) e = absurd (not-by (Full n) order_of_rules (rules p st) (own_numbers p st) e refl (omega arith))

first-more : (a b c : Option Refusal) (os : List (Option Refusal)) (r : Refusal) → first_of (a ∷ b ∷ c ∷ []) ≡ Some r → first_of (a ∷ b ∷ c ∷ os) ≡ Some r
first-more (Some q) b c os r h = h
first-more None (Some q) c os r h = h
first-more None None (Some q) os r h = h
first-more None None None os r h = absurd (some-none r (sym h))

checks-due : (p : Present) (st : Statement) (r : Refusal) → checks p st ≡ Some r → refusal p st ≡ Some r
unfolding refusal
checks-due p st r h = first-more (rule_10 p st) (rules_1_2_7 p st) (rule_5 p st) (rule_11 p st ∷ rule_8 p st ∷ rule_3 p st ∷ rule_4 p st ∷ rule_6 p st ∷ rule_9 p st ∷ []) r h

starts-touched : (p : Present) (st : Statement) → AreAmong (flat_map (start_stores p.state.schema p.variables) (starts_of st)) (touched p.state.schema p.variables st)
starts-touched p st =
    let starts = flat_map (start_stores p.state.schema p.variables) (starts_of st) in
    let paths = path_stores p.state.schema (terms_of st) in
    let effects = effect_stores p.state.schema p.variables st in
    among-chain starts (starts ++ paths) ((starts ++ paths) ++ effects) (among-left starts paths) (among-left (starts ++ paths) effects)

-- ---- a statement that the checks refuse

pub step-refused : {A : Type 0} (p : Present) (st : Statement) (stands : State → Type 0) (asks : List Asked → Type 0) (got : EntityId → ℕ → Type 0) (right : A → Type 0) (r : Refusal)
    → Looks (stands p.state) asks got (λ o. o ≡ checks p st) (flat_map (start_stores p.state.schema p.variables) (starts_of st)) [] (Ok (Some r)) → Steps p st stands asks got right (Err (Refused r))
step-refused {A = A} p st stands asks got right r f =
    let due : refusal p st ≡ Some r = checks-due p st r (sym f.answers.0) in
    let asked = at-more asks false (flat_map (start_stores p.state.schema p.variables) (starts_of st)) (touched p.state.schema p.variables st) (starts-touched p st) f.asked in
    record {
      concludes = refused-by p st (stands p.state) r due f.answers.1;
      asked = at-looking asks (may_put st) (touched p.state.schema p.variables st) asked;
      reached = never-reached A p st _ r due;
      first = inr asked;
      sets = tt;
    }

-- ---- a statement that passes them

pub is-checked : (p : Present) (st : Statement) → IsLegal p.state → IsTrue (is_written st) → checks p st ≡ None → IsChecked p st
is-checked p st legal written h = record {
  legal = legal;
  written = written;
  text = first-none (rules_1_2_7 p st) (rule_5 p st ∷ []) (others-none (rule_10 p st) (rules_1_2_7 p st ∷ rule_5 p st ∷ []) h);
  live = first-none (rule_5 p st) [] (others-none (rules_1_2_7 p st) (rule_5 p st ∷ []) (others-none (rule_10 p st) (rules_1_2_7 p st ∷ rule_5 p st ∷ []) h));
}

pub step-checked : {A : Type 0} (p : Present) (st : Statement) (stands behind : State → Type 0) (first second whole : List Asked → Type 0) (got got_then : EntityId → ℕ → Type 0) (right : A → Type 0) (r : Result A BaseFault)
    → ((f g : List Asked) → first f → second g → whole (f ++ g)) → IsLegal p.state → IsTrue (is_written st)
    → Looks (stands p.state) first got (λ o. o ≡ checks p st) (flat_map (start_stores p.state.schema p.variables) (starts_of st)) [] (Ok None)
    → (stands p.state → IsChecked p st → Steps p st behind second got_then right r) → Steps p st behind whole got_then right r
step-checked p st stands behind first second whole got got_then right r on legal written f g =
    let starts = flat_map (start_stores p.state.schema p.variables) (starts_of st) in
    let all = touched p.state.schema p.variables st in
    let behind_them = g f.answers.1 (is-checked p st legal written (sym f.answers.0)) in
    let join = λ (changes : Bool) (before : AskedAt first changes starts) (after : AskedAt second changes all). at-more whole changes (starts ++ all) all (among-both starts all all (starts-touched p st) (among-itself all)) (at-both first second whole changes starts all on before after) in
    record {
      concludes = behind_them.concludes;
      asked = join (may_put st) (at-looking first (may_put st) starts f.asked) behind_them.asked;
      reached = behind_them.reached;
      first = by behind_them.first;
      sets = sets-all-behind first second whole p.state f.asked.calls (first_place p st) (first_place p st) r on refl f.asked.asked behind_them.sets;
    }
  where
    by : All (λ place. got_then place.entity place.number) (first_place p st) ⊎ AskedAt second false (touched p.state.schema p.variables st)
        → All (λ place. got_then place.entity place.number) (first_place p st) ⊎ AskedAt whole false (touched p.state.schema p.variables st)
    by (inl reached) = inl reached
    by (inr asked) =
        let starts = flat_map (start_stores p.state.schema p.variables) (starts_of st) in
        let all = touched p.state.schema p.variables st in
        inr (at-more whole false (starts ++ all) all (among-both starts all all (starts-touched p st) (among-itself all)) (at-both first second whole false starts all on f.asked asked))

-- ---- the checks' refusals tell of no fault of pages

not-of-pages : (r : Refusal) → (rule_number r ≡ 12 → ⊥) → (rule_number r ≡ 13 → ⊥) → behind r ≡ None
not-of-pages (UnknownName n) f g = refl
not-of-pages WrongType f g = refl
not-of-pages (NullNotAllowed n) f g = refl
not-of-pages (NotUnique n x) f g = refl
not-of-pages (NoSuchEntity x) f g = refl
not-of-pages (StillNeeded x n) f g = refl
not-of-pages (NotASet n) f g = refl
not-of-pages (TextTooLong a b) f g = refl
not-of-pages (NumbersSpent n) f g = refl
not-of-pages Aborted f g = refl
not-of-pages NullEntity f g = refl
not-of-pages (TooManyPages n) f g = absurd (f refl)
not-of-pages (Full n) f g = absurd (g refl)

pub text_own : (schema : Outline) (variables : List Variable) (st : Statement) (refused : Option Refusal) → refused ≡ text_refusal schema variables st → (r : Refusal) → refused ≡ Some r → behind r ≡ None
text_own schema variables st refused is r e =
    let p = present (empty_state schema) variables in
    let whole : first_of (rule_10 p st ∷ rules_1_2_7 p st ∷ []) ≡ Some r = sym (text-is (empty_state schema) variables st) ∙ sym is ∙ e in
    let all = own_numbers p st in
    let rest = right (is_by (10 ∷ []) (rule_10 p st)) _ all in
    let two : are_by ((10 ∷ []) ∷ (1 ∷ 2 ∷ 7 ∷ []) ∷ []) (rule_10 p st ∷ rules_1_2_7 p st ∷ []) ≡ true =
    both (is_by (10 ∷ []) (rule_10 p st)) (is_by (1 ∷ 2 ∷ 7 ∷ []) (rules_1_2_7 p st) && true) (left (is_by (10 ∷ []) (rule_10 p st)) _ all)
    (both (is_by (1 ∷ 2 ∷ 7 ∷ []) (rules_1_2_7 p st)) true (left (is_by (1 ∷ 2 ∷ 7 ∷ []) (rules_1_2_7 p st)) _ rest) refl) in
    not-of-pages r
    (λ k. not-by r ((10 ∷ []) ∷ (1 ∷ 2 ∷ 7 ∷ []) ∷ []) (rule_10 p st ∷ rules_1_2_7 p st ∷ []) two whole (subst (λ n. list_all (λ l. not (list_any (λ number. n == number) l)) ((10 ∷ []) ∷ (1 ∷ 2 ∷ 7 ∷ []) ∷ []) ≡ true) (sym k) refl) (omega arith))
    (λ k. not-by r ((10 ∷ []) ∷ (1 ∷ 2 ∷ 7 ∷ []) ∷ []) (rule_10 p st ∷ rules_1_2_7 p st ∷ []) two whole (subst (λ n. list_all (λ l. not (list_any (λ number. n == number) l)) ((10 ∷ []) ∷ (1 ∷ 2 ∷ 7 ∷ []) ∷ []) ≡ true) (sym k) refl) (omega arith))

text-alone : (schema : Outline) (variables : List Variable) (st : Statement) (x : Option Refusal) → is_abort st ≡ false → x ≡ text_refused schema (known variables) st → x ≡ text_refusal schema variables st
text-alone schema variables st x h e = e ∙ alone (text_refused schema (known variables) st) ∙ ap (λ b. first_of ((if b then Some Aborted else None) ∷ text_refused schema (known variables) st ∷ [])) (sym h)
  where
    alone : (o : Option Refusal) → o ≡ first_of (None ∷ o ∷ [])
    alone None = refl
    alone (Some r) = refl

pub text-own-alone : {E : Type 0} (schema : Outline) (variables : List Variable) (st : Statement) (r : Result (Option Refusal) E) → is_abort st ≡ false → IfOk r (λ x. x ≡ text_refused schema (known variables) st)
    → IfOk r (λ refused. (q : Refusal) → refused ≡ Some q → behind q ≡ None)
text-own-alone schema variables st (Ok x) h f = text_own schema variables st x (text-alone schema variables st x h f)
text-own-alone schema variables st (Err e) h f = tt

pub dead_own : (found : Option EntityId) (refused : Option Refusal) → refused ≡ dead_refusal found → (r : Refusal) → refused ≡ Some r → behind r ≡ None
dead_own None refused is r e = absurd (some-none r (sym e ∙ is))
dead_own (Some x) refused is r e = subst (λ q. behind q ≡ None) (inside (sym is ∙ e)) refl
  where
    inside : Some (NoSuchEntity x) ≡ Some r → NoSuchEntity x ≡ r
    inside k = cc

-- what is kept where the checks refuse
pub keeps-refused : {A : Type 0} (follows : Type 0) (a b : Met) (refused : Option Refusal) (r : Refusal) → refused ≡ Some r → ((q : Refusal) → refused ≡ Some q → behind q ≡ None) → Keeps follows a b (Ok refused) → Keeps {A = A} follows a b (Err (Refused r))
keeps-refused follows a b refused r e own h = record { below = h.below; met = subst (TellsMet a b) (sym (own r e)) h.met; own = tt }

-- ---- abort

pub abort-steps : {A : Type 0} (p : Present) (stands : State → Type 0) (asks : List Asked → Type 0) (got : EntityId → ℕ → Type 0) (right : A → Type 0) → asks [] → stands p.state → Steps p Abort stands asks got right (Err (Refused Aborted))
unfolding refusal
abort-steps p stands asks got right nothing h = record {
  concludes = (refl, h);
  asked = at-nothing asks false (touched p.state.schema p.variables Abort) nothing;
  reached = tt;
  first = inr (at-nothing asks false (touched p.state.schema p.variables Abort) nothing);
  sets = tt;
}
