-- What was read of transactions can be written.
use Rattle.std.proofs.Common.{◌≡◌, ℕ, ◌≤◌, Bool, true, false, if◌then◌else◌, nat_le, nat_lt, List, [], length, Ok, Err, refl, sym, subst, arith}
use Rattle.std.specs.List.{list_all}
use Rattle.std.proofs.lemmas.Bool.{and_from, le-leb, ltb-false}
use Rattle.st_sexp.specs.declared.form.Form.{Form}
use Rattle.st_sexp.specs.Items.{and_then, next_at, end_of}
use Rattle.st_sexp.proofs.Steps.{step, end_good}
use Rattle.st_query.specs.declared.statement.Statement.{Statement}
use Rattle.st_query.specs.declared.statement.Transaction.{Transaction}
use Rattle.st_query.specs.Written.{is_written}
use Rattle.st_statements.specs.declared.fault.Misread.TheVariants as misread
use Rattle.st_statements.specs.Statements.{statement_at}
use Rattle.st_statements.proofs.Written.{each_read, all_more, length_read, statement_good}
use Rattle.st_reader.specs.Scripts.{max_statements, counted, statements_in, statements_at, items_at, transaction_at, script, one_form}
use Rattle.st_reader.specs.Inputs.{is_transaction}

statements_good : (items : List Form) (statements : List Statement) → statements_in items ≡ Ok statements → list_all is_written statements ≡ true
statements_good items statements is =
    each_read (λ before. statement_at) (list_all is_written) (λ before form s holds was. all_more is_written before s holds (statement_good form s was)) [] items statements refl is

few : (many : Bool) (items : List Form) (statements : List Statement) → nat_lt max_statements (length items) ≡ many → (if many then Err (misread.TooManyStatements (counted (length items))) else statements_in items) ≡ Ok statements → (nat_le (length statements) max_statements ≡ true) × (list_all is_written statements ≡ true)
few true items statements test is = absurd (cc)
few false items statements test is =
    let same : length statements ≡ length items = omega (arith, length_read (λ before. statement_at) [] items statements is) in
    let below : length items ≤ max_statements = ltb-false max_statements (length items) test in
    (le-leb _ _ (subst (λ n. n ≤ max_statements) (sym same) below), statements_good items statements is)

transaction_good : (form : Form) (t : Transaction) → transaction_at form ≡ Ok t → is_transaction t ≡ true
transaction_good form t is =
    let one = step (items_at form) (λ items. and_then (statements_at items) (λ statements. Ok (record { statements = statements }))) t is in
    let two = step (statements_at one.value) (λ statements. Ok (record { statements = statements })) t one.then in
    let same : (let u : Transaction = record { statements = two.value } in u) ≡ t = let is = two.then in cc in
    let good = few (nat_lt max_statements (length one.value)) one.value two.value refl two.was in
    subst (λ (u : Transaction). is_transaction u ≡ true) same (and_from (nat_le (length two.value) max_statements) (list_all is_written two.value) good.0 good.1)

pub script_good : (forms : List Form) (found : List Transaction) → script forms ≡ Ok found → list_all is_transaction found ≡ true
script_good forms found is =
    each_read (λ before. transaction_at) (list_all is_transaction) (λ before form t holds was. all_more is_transaction before t holds (transaction_good form t was)) [] forms found refl is

pub one_good : (forms : List Form) (found : Transaction) → one_form transaction_at forms ≡ Ok found → is_transaction found ≡ true
one_good forms found is =
    let one = step (next_at misread.Form 0 forms) (λ p. and_then (transaction_at (p.0)) (λ x. end_of misread.Form (p.1) x)) found is in
    let two = step (transaction_at one.value.0) (λ x. end_of misread.Form one.value.1 x) found one.then in
    subst (λ (t : Transaction). is_transaction t ≡ true) (end_good misread.Form one.value.1 two.value found two.then) (transaction_good one.value.0 two.value two.was)
