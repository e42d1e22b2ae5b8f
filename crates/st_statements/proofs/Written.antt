-- What was read can be written.
use Rattle.std.proofs.Common.{◌≡◌, ℕ, ◌+◌, Bool, true, false, not, ◌&&◌, ◌||◌, if◌then◌else◌, List, [], ◌∷◌, ◌++◌, length, Ok, Err, codes, refl, sym, ap, ◌∙◌, subst, arith, length-append}
use Rattle.std.specs.List.{list_all}
use Rattle.std.specs.Str.{bytes_eq}
use Rattle.std.proofs.lemmas.Bool.{and_parts, and_from, false_from_ne_true}
use Rattle.std.proofs.lemmas.List.{map-append}
use Rattle.std.proofs.lemmas.List.Folds.{list_all-append}
use Rattle.std.proofs.lemmas.Slice.Eq.{bytes_eq-Decides}
use Rattle.st_values.specs.Names.{has, all_differ}
use Rattle.st_sexp.specs.declared.form.Form.{Form}
use Rattle.st_sexp.specs.Views.{is_word}
use Rattle.st_sexp.specs.Items.{and_then, name_at, forms_at, next_at, end_of}
use Rattle.st_sexp.proofs.Steps.{step, end_good}
use Rattle.st_query.specs.declared.statement.Cell.{Cell}
use Rattle.st_query.specs.declared.statement.Statement.{Statement}
use Rattle.st_query.specs.declared.statement.Statement.TheVariants as statement
use Rattle.st_query.specs.Written.{have_own_names, is_written}
use Rattle.st_statements.specs.declared.fault.Misread.TheVariants as misread
use Rattle.st_statements.specs.Reading.{Reading, read_behind, some_at, two_names}
use Rattle.st_statements.specs.Terms.{one_term}
use Rattle.st_statements.specs.Queries.{query}
use Rattle.st_statements.specs.Statements.{new_name, cell_parts, names_of, cell_behind, cells_at, change, make, ensure, finding, binding, terms_at, print, deletion, for_each, other_by, change_by, statement_by, statement_at}

-- what holds of what was read so far, and still with one more, holds at the end
pub each_read : {A : Type 0} (read : List A → Form → Reading A) (test : List A → Bool) → ((before : List A) (form : Form) (x : A) → test before ≡ true → read before form ≡ Ok x → test (before ++ x ∷ []) ≡ true) → (before : List A) (forms : List Form) (found : List A) → test before ≡ true → read_behind read before forms ≡ Ok found → test found ≡ true
each_read read test more before [] found holds is = let same : before ≡ found = cc in subst (λ xs. test xs ≡ true) same holds
each_read read test more before (form ∷ forms) found holds is =
    let s = step (read before form) (λ x. read_behind read (before ++ x ∷ []) forms) found is in
    each_read read test more (before ++ s.value ∷ []) forms found (more before form s.value holds s.was) s.then

pub all_more : {A : Type 0} (test : A → Bool) (before : List A) (x : A) → list_all test before ≡ true → test x ≡ true → list_all test (before ++ x ∷ []) ≡ true
all_more test before x holds new = list_all-append test before (x ∷ []) ∙ and_from (list_all test before) (test x && true) holds (and_from (test x) true new refl)

-- as many are read as there are forms
pub length_read : {A : Type 0} (read : List A → Form → Reading A) (before : List A) (forms : List Form) (found : List A) → read_behind read before forms ≡ Ok found → length found ≡ length before + length forms
length_read read before [] found is = let same : before ≡ found = cc in omega (arith, ap length same)
length_read read before (form ∷ forms) found is =
    let s = step (read before form) (λ x. read_behind read (before ++ x ∷ []) forms) found is in
    omega (arith, length_read read (before ++ s.value ∷ []) forms found s.then, length-append before (s.value ∷ []))

-- ---- cells

abbrev is_empty : {A : Type 0} → List A → Bool
is_empty [] = true
is_empty (x ∷ xs) = false

or_false : (a b : Bool) → (a || b) ≡ false → (a ≡ false) × (b ≡ false)
or_false true b is = absurd (cc)
or_false false b is = (refl, is)

differs : (a n : List ℕ) → bytes_eq a n ≡ false → not (bytes_eq n a) ≡ true
differs a n apart =
    ap not (false_from_ne_true (bytes_eq n a) (λ same. let e : bytes_eq a n ≡ true = (bytes_eq-Decides a n).1 (sym ((bytes_eq-Decides n a).0 same)) in cc))

names_more : (names : List (List ℕ)) (n : List ℕ) → all_differ names ≡ true → has names n ≡ false → all_differ (names ++ n ∷ []) ≡ true
names_more [] n differ new = refl
names_more (a ∷ names) n differ new =
    let parts = and_parts (list_all (λ b. not (bytes_eq b a)) names) (all_differ names) differ in
    let apart = or_false (bytes_eq a n) (has names n) new in
    and_from _ _ (all_more (λ b. not (bytes_eq b a)) names n parts.0 (differs a n apart.0)) (names_more names n parts.1 apart.1)

untaken : (taken : Bool) (name found : List ℕ) (place : ℕ) → (if taken then Err (misread.Form place) else Ok name) ≡ Ok found → (taken ≡ false) × (name ≡ found)
untaken true name found place is = absurd (cc)
untaken false name found place is = (refl, cc)

new_good : (is_taken : List ℕ → Bool) (form : Form) (name : List ℕ) → new_name is_taken form ≡ Ok name → is_taken name ≡ false
new_good is_taken form name is =
    let s = step (name_at misread.Form form) (λ n. if is_taken n then Err (misread.Form form.from) else Ok n) name is in
    let new = untaken (is_taken s.value) s.value name form.from s.then in
    subst (λ n. is_taken n ≡ false) new.1 new.0

parts_good : (is_taken : List ℕ → Bool) (place : ℕ) (parts : List Form) (cell : Cell) → cell_parts is_taken place parts ≡ Ok cell → is_taken cell.name ≡ false
parts_good is_taken place parts cell is =
    let one = step (next_at misread.Form place parts) (λ p. and_then (new_name is_taken (p.0)) (λ name. and_then (one_term place (p.1)) (λ t. Ok (record { name = name; value = t })))) cell is in
    let two = step (new_name is_taken one.value.0) (λ name. and_then (one_term place one.value.1) (λ t. Ok (record { name = name; value = t }))) cell one.then in
    let three = step (one_term place one.value.1) (λ t. Ok (record { name = two.value; value = t })) cell two.then in
    let same : (let c : Cell = record { name = two.value; value = three.value } in c) ≡ cell = let is = three.then in cc in
    subst (λ (c : Cell). is_taken c.name ≡ false) same (new_good is_taken one.value.0 two.value two.was)

cell_good : (before : List Cell) (form : Form) (cell : Cell) → have_own_names before ≡ true → cell_behind before form ≡ Ok cell → have_own_names (before ++ cell ∷ []) ≡ true
cell_good before form cell differ is =
    let s = step (forms_at misread.Form form) (λ parts. cell_parts (has (names_of before)) form.from parts) cell is in
    ap all_differ (map-append (λ (c : Cell). c.name) before (cell ∷ [])) ∙ names_more (names_of before) cell.name differ (parts_good (has (names_of before)) form.from s.value cell s.then)

cells_good : (forms : List Form) (cells : List Cell) → cells_at forms ≡ Ok cells → have_own_names cells ≡ true
cells_good forms cells is = each_read cell_behind have_own_names cell_good [] forms cells refl is

-- of one form at least one cell is read
longer : {A : Type 0} (read : List A → Form → Reading A) (x : A) (before : List A) (forms : List Form) (found : List A) → read_behind read (x ∷ before) forms ≡ Ok found → is_empty found ≡ false
longer read x before [] found is = let same : x ∷ before ≡ found = cc in subst (λ xs. is_empty xs ≡ false) same refl
longer read x before (form ∷ forms) found is =
    let s = step (read (x ∷ before) form) (λ y. read_behind read (x ∷ before ++ y ∷ []) forms) found is in
    longer read x (before ++ s.value ∷ []) forms found s.then

-- ---- statements

-- a statement that was made of what was read
made : {B : Type 0} (read : Reading B) (make : B → Statement) (s : Statement) → ((x : B) → is_written (make x) ≡ true) → and_then read (λ x. Ok (make x)) ≡ Ok s → is_written s ≡ true
made read make s holds is =
    let one = step read (λ x. Ok (make x)) s is in
    let same : make one.value ≡ s = let is = one.then in cc in
    subst (λ t. is_written t ≡ true) same (holds one.value)

make_good : (place : ℕ) (parts : List Form) (s : Statement) → make place parts ≡ Ok s → is_written s ≡ true
make_good place parts s is =
    let one = step (two_names place parts) (λ n. and_then (cells_at (n.2)) (λ cells. Ok (statement.Make (n.0) (n.1) cells))) s is in
    let two = step (cells_at one.value.2) (λ cells. Ok (statement.Make one.value.0 one.value.1 cells)) s one.then in
    let same : statement.Make one.value.0 one.value.1 two.value ≡ s = let is = two.then in cc in
    subst (λ t. is_written t ≡ true) same (cells_good one.value.2 two.value two.was)

some_good : (place : ℕ) (forms found : List Form) → some_at place forms ≡ Ok found → is_empty found ≡ false
some_good place [] found is = absurd (cc)
some_good place (form ∷ forms) found is = let same : form ∷ forms ≡ found = cc in subst (λ fs. is_empty fs ≡ false) same refl

some_cells : (forms : List Form) (cells : List Cell) → is_empty forms ≡ false → cells_at forms ≡ Ok cells → is_empty cells ≡ false
some_cells [] cells some is = absurd (cc)
some_cells (form ∷ forms) cells some is =
    let s = step (cell_behind [] form) (λ x. read_behind cell_behind (x ∷ []) forms) cells is in
    longer cell_behind s.value [] forms cells s.then

ensured : (var ty : List ℕ) (cells : List Cell) → is_empty cells ≡ false → have_own_names cells ≡ true → is_written (statement.Ensure var ty cells) ≡ true
ensured var ty [] some differ = absurd (cc)
ensured var ty (key ∷ cells) some differ = differ

ensure_good : (place : ℕ) (parts : List Form) (s : Statement) → ensure place parts ≡ Ok s → is_written s ≡ true
ensure_good place parts s is =
    let one = step (two_names place parts) (λ n. and_then (some_at place (n.2)) (λ forms. and_then (cells_at forms) (λ cells. Ok (statement.Ensure (n.0) (n.1) cells)))) s is in
    let two = step (some_at place one.value.2) (λ forms. and_then (cells_at forms) (λ cells. Ok (statement.Ensure one.value.0 one.value.1 cells))) s one.then in
    let three = step (cells_at two.value) (λ cells. Ok (statement.Ensure one.value.0 one.value.1 cells)) s two.then in
    let same : statement.Ensure one.value.0 one.value.1 three.value ≡ s = let is = three.then in cc in
    subst (λ t. is_written t ≡ true) same
    (ensured one.value.0 one.value.1 three.value (some_cells two.value three.value (some_good place one.value.2 two.value two.was) three.was) (cells_good two.value three.value three.was))

finding_good : (place : ℕ) (parts : List Form) (s : Statement) → finding place parts ≡ Ok s → is_written s ≡ true
finding_good place parts s is =
    let one = step (two_names place parts) (λ n. and_then (next_at misread.Form place (n.2)) (λ p. and_then (name_at misread.Form (p.0)) (λ key. and_then (one_term place (p.1)) (λ v. Ok (statement.Find (n.0) (n.1) key v))))) s is in
    let two = step (next_at misread.Form place one.value.2) (λ p. and_then (name_at misread.Form (p.0)) (λ key. and_then (one_term place (p.1)) (λ v. Ok (statement.Find one.value.0 one.value.1 key v)))) s one.then in
    let three = step (name_at misread.Form two.value.0) (λ key. and_then (one_term place two.value.1) (λ v. Ok (statement.Find one.value.0 one.value.1 key v))) s two.then in
    made (one_term place two.value.1) (λ v. statement.Find one.value.0 one.value.1 three.value v) s (λ v. refl) three.then

binding_good : (place : ℕ) (parts : List Form) (s : Statement) → binding place parts ≡ Ok s → is_written s ≡ true
binding_good place parts s is =
    let one = step (next_at misread.Form place parts) (λ p. and_then (name_at misread.Form (p.0)) (λ var. and_then (one_term place (p.1)) (λ v. Ok (statement.Let var v)))) s is in
    let two = step (name_at misread.Form one.value.0) (λ var. and_then (one_term place one.value.1) (λ v. Ok (statement.Let var v))) s one.then in
    made (one_term place one.value.1) (λ v. statement.Let two.value v) s (λ v. refl) two.then

print_good : (place : ℕ) (parts : List Form) (s : Statement) → print place parts ≡ Ok s → is_written s ≡ true
print_good place parts s is =
    let one = step (some_at place parts) (λ forms. and_then (terms_at forms) (λ terms. Ok (statement.Print terms))) s is in
    made (terms_at one.value) statement.Print s (λ terms. refl) one.then

abort_good : (parts : List Form) (s : Statement) → end_of misread.Form parts statement.Abort ≡ Ok s → is_written s ≡ true
abort_good parts s is = subst (λ t. is_written t ≡ true) (end_good misread.Form parts statement.Abort s is) refl

-- one of two, by a test
chosen : (b : Bool) (x y : Reading Statement) (s : Statement) → (x ≡ Ok s → is_written s ≡ true) → (y ≡ Ok s → is_written s ≡ true) → (if b then x else y) ≡ Ok s → is_written s ≡ true
chosen true x y s one other is = one is
chosen false x y s one other is = other is

other_good : (place : ℕ) (head : Form) (parts : List Form) (s : Statement) → other_by place head parts ≡ Ok s → is_written s ≡ true
other_good place head parts s =
    chosen (is_word head (codes "find")) (finding place parts) _ s (finding_good place parts s)
    (chosen (is_word head (codes "let")) (binding place parts) _ s (binding_good place parts s)
    (chosen (is_word head (codes "print")) (print place parts) _ s (print_good place parts s)
    (chosen (is_word head (codes "for-each")) (for_each place parts) _ s (made (query place parts) statement.ForEach s (λ q. refl))
    (chosen (is_word head (codes "abort")) (end_of misread.Form parts statement.Abort) (Err (misread.Form place)) s (abort_good parts s) (λ is. absurd (cc))))))

change_good : (place : ℕ) (head : Form) (parts : List Form) (s : Statement) → change_by place head parts ≡ Ok s → is_written s ≡ true
change_good place head parts s =
    chosen (is_word head (codes "set")) (and_then (change place parts) (λ c. Ok (statement.Set (c.0) (c.1) (c.2)))) _ s (made (change place parts) (λ c. statement.Set (c.0) (c.1) (c.2)) s (λ c. refl))
    (chosen (is_word head (codes "add-to-set")) (and_then (change place parts) (λ c. Ok (statement.Add (c.0) (c.1) (c.2)))) _ s (made (change place parts) (λ c. statement.Add (c.0) (c.1) (c.2)) s (λ c. refl))
    (chosen (is_word head (codes "delete-from-set")) (and_then (change place parts) (λ c. Ok (statement.Take (c.0) (c.1) (c.2)))) (other_by place head parts) s (made (change place parts) (λ c. statement.Take (c.0) (c.1) (c.2)) s (λ c. refl))
    (other_good place head parts s)))

by_good : (place : ℕ) (head : Form) (parts : List Form) (s : Statement) → statement_by place head parts ≡ Ok s → is_written s ≡ true
by_good place head parts s =
    chosen (is_word head (codes "make")) (make place parts) _ s (make_good place parts s)
    (chosen (is_word head (codes "ensure")) (ensure place parts) _ s (ensure_good place parts s)
    (chosen (is_word head (codes "delete-entity")) (deletion place parts) (change_by place head parts) s (made (one_term place parts) statement.Delete s (λ t. refl))
    (change_good place head parts s)))

pub statement_good : (form : Form) (s : Statement) → statement_at form ≡ Ok s → is_written s ≡ true
unfolding statement_at
statement_good form s is =
    let one = step (forms_at misread.Form form) (λ parts. and_then (next_at misread.Form form.from parts) (λ p. statement_by form.from (p.0) (p.1))) s is in
    let two = step (next_at misread.Form form.from one.value) (λ p. statement_by form.from (p.0) (p.1)) s one.then in
    by_good form.from two.value.0 two.value.1 s two.then
