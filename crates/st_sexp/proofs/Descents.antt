-- Forms inside forms, one list at a time.
use Rattle.std.proofs.Common.{if◌then◌else◌, ◌≡◌, ℕ, ◌+◌, ◌-◌, ◌<◌, Bool, true, false, List, [], ◌∷◌, ◌++◌, length, reverse, map, Option, Some, None, Result, Ok, Err, refl, ap, sym, ◌∙◌, subst, arith, length-append, append-nil, append_assoc}
use Rattle.std.specs.List.{flat_map}
use Rattle.std.specs.Option.{option_and_then, ok_or}
use Rattle.std.proofs.lemmas.Grind.{flat_map-append}
use Rattle.std.proofs.lemmas.List.{reverse-append}
use Rattle.st_token.specs.declared.token.Token.{Token}
use Rattle.st_token.specs.declared.token.TokenKind.TheVariants as kind
use Rattle.st_sexp.specs.declared.form.Form.{Form}
use Rattle.st_sexp.specs.declared.form.Shape.{Shape, out-Shape}
use Rattle.st_sexp.specs.declared.form.Shape.TheFolds.{para-Shape, para-Form, para-roll-Shape, para-roll-Form}
use Rattle.st_sexp.specs.declared.form.Shape.TheOpen.{Shape-F}
use Rattle.st_sexp.specs.declared.form.Shape.TheVariants.{rolls-Name, rolls-Number, rolls-Quoted, rolls-List}
use Rattle.st_sexp.specs.declared.form.Shape.TheViews.{roll-Shape, roll-out-Shape}
use Rattle.st_sexp.specs.declared.nested.Step.{Step}
use Rattle.st_sexp.specs.declared.nested.Path.{Path}
use Rattle.st_sexp.specs.Flat.{tokens_of, all_tokens}
use Rattle.st_sexp.specs.Views.{as_list, as_front, shape_list, is_word}
use Rattle.st_sexp.specs.Items.{only_if, behind, behind_word}
use Rattle.st_sexp.specs.Nested.{of_form, descent, descent_by_shape, descent_step, outward, innermost, path_parts, spliced, spliced_by_shape, spliced_step}
use Rattle.st_sexp.proofs.Spelling.{tokens_of-name, tokens_of-number, tokens_of-quoted, tokens_of-list}

firsts : {B : Type 0} (g : Form → B) → (forms : List Form) → map (λ f. f.0) (map (λ y. let p : Form × B = (y, g y) in p) forms) ≡ forms
firsts g [] = refl
firsts g (form ∷ forms) = ap (λ rest. form ∷ rest) (firsts g forms)

-- what a form is, by its shape alone
abbrev by_shape : {A : Type 0} → (Shape-F (Shape × (Form → A)) (Form × A) → Form → A) → Form → A
by_shape {A} step form = para-Shape (Form → A) A step of_form form.shape form

inside : {A : Type 0} (step : Shape-F (Shape × (Form → A)) (Form × A) → Form → A) (form : Form) → para-Form (Form → A) A step of_form form ≡ by_shape step form
inside {A} step form = para-roll-Form (Form → A) A step of_form (record { shape = form.shape; from = form.from; to = form.to })

descent_roll : (d : Shape-F Shape Form) (form : Form) → para-Shape (Form → Path) Path descent_by_shape of_form (roll-Shape d) form ≡ descent_step form (shape_list d)
unfolding descent
descent_roll (Shape-F.Name letters) form = rw para-roll-Shape refl
descent_roll (Shape-F.Number number) form = rw para-roll-Shape refl
descent_roll (Shape-F.Quoted letters) form = rw para-roll-Shape refl
descent_roll (Shape-F.List []) form = rw para-roll-Shape refl
descent_roll (Shape-F.List (head ∷ [])) form = rw para-roll-Shape refl
descent_roll (Shape-F.List (head ∷ second ∷ more)) form =
    rw (para-roll-Shape, firsts (para-Form (Form → Path) Path descent_by_shape of_form) more, inside descent_by_shape second) refl

pub descent_is : (form : Form) → descent form ≡ descent_step form (as_list form)
unfolding descent as_list
descent_is form = ap (λ s. para-Shape (Form → Path) Path descent_by_shape of_form s form) (sym (roll-out-Shape form.shape)) ∙ descent_roll (out-Shape form.shape) form

-- ---- the number of tokens falls

tokens_roll : (d : Shape-F Shape Form) (from to : ℕ) → 0 < length (tokens_of (record { shape = roll-Shape d; from = from; to = to }))
tokens_roll (Shape-F.Name letters) from to = rw (rolls-Name, tokens_of-name) (omega arith)
tokens_roll (Shape-F.Number number) from to = rw (rolls-Number, tokens_of-number) (omega arith)
tokens_roll (Shape-F.Quoted letters) from to = rw (rolls-Quoted, tokens_of-quoted) (omega arith)
tokens_roll (Shape-F.List forms) from to = rw (rolls-List, tokens_of-list) (omega arith)

pub some_tokens : (form : Form) → 0 < length (tokens_of form)
some_tokens form =
    subst (λ s. 0 < length (tokens_of (record { shape = s; from = form.from; to = form.to }))) (roll-out-Shape form.shape) (tokens_roll (out-Shape form.shape) form.from form.to)

fewer : (ts : List Token) (t u : Token) → length ts < length (t ∷ ts ++ u ∷ [])
fewer ts t u = omega (arith, length-append ts (u ∷ []))

fewer_roll : (d : Shape-F Shape Form) (from to : ℕ) (forms : List Form) → shape_list d ≡ Some forms → length (all_tokens forms) < length (tokens_of (record { shape = roll-Shape d; from = from; to = to }))
fewer_roll (Shape-F.Name letters) from to forms is = cc
fewer_roll (Shape-F.Number number) from to forms is = cc
fewer_roll (Shape-F.Quoted letters) from to forms is = cc
fewer_roll (Shape-F.List items) from to forms is =
    let same : items ≡ forms = cc in
    rw (rolls-List, tokens_of-list, same) (fewer (all_tokens forms) (record { kind = kind.Open; from = from; to = from + 1 }) (record { kind = kind.Close; from = to - 1; to = to }))

pub fewer_tokens : (form : Form) (forms : List Form) → as_list form ≡ Some forms → length (all_tokens forms) < length (tokens_of form)
unfolding as_list
fewer_tokens form forms is =
    subst (λ s. length (all_tokens forms) < length (tokens_of (record { shape = s; from = form.from; to = form.to }))) (roll-out-Shape form.shape) (fewer_roll (out-Shape form.shape) form.from form.to forms is)

-- ---- one list of a path

-- what comes before the levels of a descent
abbrev pub onto : List Step → Path → Path
onto before d = record { levels = before ++ d.levels; inner = d.inner }

same_ok : {A E : Type 0} (a b : A) → (let x : Result A E = Ok a in x) ≡ Ok b → a ≡ b
same_ok a b is = cc

-- what is known of a list that was taken apart
record Apart (form : Form) (parts : Option (List Form)) (step : Step) (second : Form) : Type 0 where
  pub is : parts ≡ Some (step.head ∷ second ∷ step.more)

apart : (form : Form) (parts : Option (List Form)) (step : Step) (second : Form) → path_parts form parts ≡ Ok (step, second) → Apart form parts step second
apart form None step second is = cc
apart form (Some []) step second is = cc
apart form (Some (head ∷ [])) step second is = cc
apart form (Some (head ∷ below ∷ more)) step second is =
    let same = same_ok {A = Step × Form} {E = Form} (record { head = head; more = more }, below) (step, second) is in
    record { is = ap (λ (p : Step × Form). Some (p.0.head ∷ p.1 ∷ p.0.more)) same }

-- a path, and one list of it taken
pub descent_of_path : (form : Form) (step : Step) (second : Form) → path_parts form (as_list form) ≡ Ok (step, second) → descent form ≡ outward step (descent second)
descent_of_path form step second is = descent_is form ∙ ap (descent_step form) (apart form (as_list form) step second is).is

end_step : (form inner : Form) (parts : Option (List Form)) → path_parts form parts ≡ Err inner → descent_step form parts ≡ innermost inner
end_step form inner None is = let same : form ≡ inner = cc in ap innermost same
end_step form inner (Some []) is = let same : form ≡ inner = cc in ap innermost same
end_step form inner (Some (head ∷ [])) is = let same : form ≡ inner = cc in ap innermost same
end_step form inner (Some (head ∷ below ∷ more)) is = cc

-- where a path ends
pub descent_of_end : (form inner : Form) → path_parts form (as_list form) ≡ Err inner → descent form ≡ innermost inner
descent_of_end form inner is = descent_is form ∙ end_step form inner (as_list form) is

within : (head second : Form) (more : List Form) (n : ℕ) → length (all_tokens (head ∷ second ∷ more)) < n → length (tokens_of second) < n
within head second more n below =
    omega (arith, length-append (tokens_of head) (tokens_of second ++ all_tokens more), length-append (tokens_of second) (all_tokens more))

pub tokens_of_second : (form : Form) (step : Step) (second : Form) → path_parts form (as_list form) ≡ Ok (step, second) → length (tokens_of second) < length (tokens_of form)
tokens_of_second form step second is =
    within step.head second step.more (length (tokens_of form)) (fewer_tokens form (step.head ∷ second ∷ step.more) (apart form (as_list form) step second is).is)

-- the levels so far, and those of what is left
pub one_down : (levels : List Step) (form second : Form) (step : Step) (whole : Path) → onto levels (descent form) ≡ whole → path_parts form (as_list form) ≡ Ok (step, second) → onto (levels ++ step ∷ []) (descent second) ≡ whole
one_down levels form second step whole so is =
    ap (λ all. let d : Path = record { levels = all; inner = (descent second).inner } in d) (append_assoc levels (step ∷ []) (descent second).levels)
    ∙ ap (onto levels) (sym (descent_of_path form step second is)) ∙ so

pub at_end : (levels : List Step) (form inner : Form) (whole : Path) → onto levels (descent form) ≡ whole → path_parts form (as_list form) ≡ Err inner → (let d : Path = record { levels = levels; inner = inner } in d) ≡ whole
at_end levels form inner whole so is =
    ap (λ all. let d : Path = record { levels = all; inner = inner } in d) (sym (append-nil levels))
    ∙ ap (onto levels) (sym (descent_of_end form inner is)) ∙ so

-- ---- lists in lists

seconds : (g f : Form → List Form) → ((x : Form) → g x ≡ f x) → (items : List Form) → flat_map (λ item. item.1) (map (λ y. let p : Form × List Form = (y, g y) in p) items) ≡ flat_map f items
seconds g f same [] = refl
seconds g f same (item ∷ items) = rw (same item, seconds g f same items) refl

abbrev of_word : List ℕ → Form → List Form
of_word word form = para-Form (Form → List Form) (List Form) (spliced_by_shape word) of_form form

is_spliced : (word : List ℕ) (form : Form) → of_word word form ≡ spliced word form
unfolding spliced
is_spliced word form = inside (spliced_by_shape word) form

headed : (word : List ℕ) (form : Form) (items : List Form) (holds : Bool) → (if holds then flat_map (λ item. item.1) (map (λ y. let p : Form × List Form = (y, of_word word y) in p) items) else form ∷ []) ≡ spliced_step word form (only_if holds items)
headed word form items true = seconds (of_word word) (spliced word) (is_spliced word) items
headed word form items false = refl

spliced_roll : (word : List ℕ) (d : Shape-F Shape Form) (form : Form) → para-Shape (Form → List Form) (List Form) (spliced_by_shape word) of_form (roll-Shape d) form ≡ spliced_step word form (behind_word word (option_and_then as_front (shape_list d)))
spliced_roll word (Shape-F.Name letters) form = rw para-roll-Shape refl
spliced_roll word (Shape-F.Number number) form = rw para-roll-Shape refl
spliced_roll word (Shape-F.Quoted letters) form = rw para-roll-Shape refl
spliced_roll word (Shape-F.List []) form = rw para-roll-Shape refl
spliced_roll word (Shape-F.List (head ∷ items)) form = rw para-roll-Shape (headed word form items (is_word head word))

pub spliced_is : (word : List ℕ) (form : Form) → spliced word form ≡ spliced_step word form (behind word form)
unfolding spliced as_list
spliced_is word form =
    ap (λ s. para-Shape (Form → List Form) (List Form) (spliced_by_shape word) of_form s form) (sym (roll-out-Shape form.shape)) ∙ spliced_roll word (out-Shape form.shape) form

-- what is known of a list with a head
record Headed (form : Form) (items : List Form) : Type 0 where
  pub head : Form
  pub is : as_list form ≡ Some (head ∷ items)

in_headed : (word : List ℕ) (holds : Bool) (items found : List Form) → only_if holds items ≡ Some found → items ≡ found
in_headed word true items found is = cc
in_headed word false items found is = cc

has_head : (word : List ℕ) (form : Form) (parts : Option (List Form)) (items : List Form) → as_list form ≡ parts → behind_word word (option_and_then as_front parts) ≡ Some items → Headed form items
has_head word form None items of is = cc
has_head word form (Some []) items of is = cc
has_head word form (Some (head ∷ rest)) items of is =
    record { head = head; is = of ∙ ap (λ more. Some (head ∷ more)) (in_headed word (is_word head word) rest items is) }

-- what is left to splice, and what was spliced, from the back
pub one_list : (word : List ℕ) (work rest items out whole : List Form) (form : Form) → flat_map (spliced word) work ++ out ≡ whole → work ≡ rest ++ form ∷ [] → behind word form ≡ Some items → flat_map (spliced word) (rest ++ items) ++ out ≡ whole
one_list word work rest items out whole form so popped is =
    let inner : spliced word form ≡ flat_map (spliced word) items = spliced_is word form ∙ ap (spliced_step word form) is in
    let old : flat_map (spliced word) work ≡ flat_map (spliced word) (rest ++ items) =
    ap (flat_map (spliced word)) popped ∙ flat_map-append (spliced word) rest (form ∷ []) ∙ ap (λ s. flat_map (spliced word) rest ++ s) (append-nil (spliced word form) ∙ inner)
    ∙ sym (flat_map-append (spliced word) rest items) in
    ap (λ s. s ++ out) (sym old) ∙ so

pub one_item : (word : List ℕ) (work rest out whole : List Form) (form : Form) → flat_map (spliced word) work ++ reverse out ≡ whole → work ≡ rest ++ form ∷ [] → behind word form ≡ None → flat_map (spliced word) rest ++ reverse (out ++ form ∷ []) ≡ whole
one_item word work rest out whole form so popped is =
    let inner : spliced word form ≡ form ∷ [] = spliced_is word form ∙ ap (spliced_step word form) is in
    let old : flat_map (spliced word) work ≡ flat_map (spliced word) rest ++ form ∷ [] =
    ap (flat_map (spliced word)) popped ∙ flat_map-append (spliced word) rest (form ∷ []) ∙ ap (λ s. flat_map (spliced word) rest ++ s) (append-nil (spliced word form) ∙ inner) in
    ap (λ s. flat_map (spliced word) rest ++ s) (reverse-append out (form ∷ [])) ∙ sym (append_assoc (flat_map (spliced word) rest) (form ∷ []) (reverse out)) ∙ ap (λ s. s ++ reverse out) (sym old) ∙ so

tokens_at : (rest : List Form) (form : Form) → length (all_tokens (rest ++ form ∷ [])) ≡ length (all_tokens rest) + length (tokens_of form)
tokens_at rest form = ap length (flat_map-append tokens_of rest (form ∷ [])) ∙ length-append (all_tokens rest) (tokens_of form ++ []) ∙ ap (λ ts. length (all_tokens rest) + length ts) (append-nil (tokens_of form))

tokens_of_both : (rest items : List Form) → length (all_tokens (rest ++ items)) ≡ length (all_tokens rest) + length (all_tokens items)
tokens_of_both rest items = ap length (flat_map-append tokens_of rest items) ∙ length-append (all_tokens rest) (all_tokens items)

pub fewer_with_list : (word : List ℕ) (work rest items : List Form) (form : Form) → work ≡ rest ++ form ∷ [] → behind word form ≡ Some items → length (all_tokens (rest ++ items)) < length (all_tokens work)
unfolding as_list
fewer_with_list word work rest items form popped is =
    let found = has_head word form (as_list form) items refl is in
    let inner = fewer_tokens form (found.head ∷ items) found.is in
    omega (arith, ap (λ fs. length (all_tokens fs)) popped, tokens_at rest form, tokens_of_both rest items, inner, length-append (tokens_of found.head) (all_tokens items))

pub fewer_with_item : (work rest : List Form) (form : Form) → work ≡ rest ++ form ∷ [] → length (all_tokens rest) < length (all_tokens work)
fewer_with_item work rest form popped = omega (arith, ap (λ fs. length (all_tokens fs)) popped, tokens_at rest form, some_tokens form)

-- what is known of a form that was taken apart, or not
pub was_list : (parts : Option (List Form)) (form : Form) (items : List Form) → ok_or parts form ≡ Ok items → parts ≡ Some items
was_list None form items is = cc
was_list (Some found) form items is = cc

pub was_item : (parts : Option (List Form)) (form item : Form) → ok_or parts form ≡ Err item → parts ≡ None
was_item None form item is = refl
was_item (Some found) form item is = cc

pub same_item : (parts : Option (List Form)) (form item : Form) → ok_or parts form ≡ Err item → form ≡ item
same_item None form item is = cc
same_item (Some found) form item is = cc
