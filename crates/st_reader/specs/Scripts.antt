-- How transactions and scripts are written.
use Rattle.std.specs.Prelude.{ℕ, min, nat_lt, if◌then◌else◌, List, [], length, Ok, Err, codes}
use Rattle.std.specs.Option.{ok_or}
use Rattle.st_sexp.specs.declared.form.Form.{Form}
use Rattle.st_sexp.specs.Items.{and_then, next_at, end_of, behind}
use Rattle.st_sexp.specs.Nested.{spliced}
use Rattle.st_query.specs.declared.statement.Statement.{Statement}
use Rattle.st_query.specs.declared.statement.Transaction.{Transaction}
use Rattle.st_statements.specs.declared.fault.Misread.TheVariants as misread
use Rattle.st_statements.specs.Reading.{Reading, read_behind}
use Rattle.st_statements.specs.Statements.{statement_at}

-- how many statements a transaction may have
abbrev pub max_statements : ℕ
max_statements = 4096

-- a count, in 32 bits
abbrev pub counted : ℕ → ℕ
counted n = min n 4294967295

-- statements, one form each
abbrev pub statements_in : List Form → Reading (List Statement)
statements_in items = read_behind (λ before. statement_at) [] items

-- the statements of a transaction, not more than it may have: all are counted before one is read
abbrev pub statements_at : List Form → Reading (List Statement)
statements_at items = if nat_lt max_statements (length items) then Err (misread.TooManyStatements (counted (length items))) else statements_in items

-- the items of (with-transaction ITEM ..), those of inner ones in their place
abbrev pub items_at : Form → Reading (List Form)
items_at form = and_then (ok_or (behind (codes "with-transaction") form) (misread.Form form.from)) (λ parts. Ok (spliced (codes "with-transaction") form))

abbrev pub transaction_at : Form → Reading Transaction
transaction_at form = and_then (items_at form) (λ items. and_then (statements_at items) (λ statements. Ok (record { statements = statements })))

-- any number of transactions
abbrev pub script : List Form → Reading (List Transaction)
script forms = read_behind (λ before. transaction_at) [] forms

-- what is read of one form alone; where none stands the misfit is at 0, and a second one misfits by itself
abbrev pub one_form : {A : Type 0} → (Form → Reading A) → List Form → Reading A
one_form read forms = and_then (next_at misread.Form 0 forms) (λ p. and_then (read (p.0)) (λ x. end_of misread.Form (p.1) x))
