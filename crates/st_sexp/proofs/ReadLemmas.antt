-- What was read of a text, one token on and at its end.
use Rattle.std.proofs.Common.{◌≡◌, ℕ, ◌≤◌, List, [], ◌∷◌, ◌++◌, length, drop, Some, None, Result, Ok, Err, IfOk, IfErr, refl, sym, subst, arith}
use Rattle.std.specs.Str.{IsUtf8}
use Rattle.st_token.specs.declared.fault.SexpFault.{SexpFault}
use Rattle.st_token.specs.declared.fault.SexpFault.TheVariants.{Unclosed, Stray, BadNumber, TooDeep, NotUtf8, Memory}
use Rattle.st_token.specs.declared.token.Token.{Token}
use Rattle.st_text.specs.Answer.{Answers}
use Rattle.st_token.specs.Answer.{told}
use Rattle.st_token.specs.Scan.{next_of}
use Rattle.st_sexp.specs.declared.form.Form.{Form}
use Rattle.st_sexp.specs.declared.nest.Nest.{Nest}
use Rattle.st_sexp.specs.Flat.{all_tokens}
use Rattle.st_sexp.specs.Reading.{Begins, opens, open_after, fault_at, IsFault, Due}
use Rattle.st_sexp.specs.Levels.{tokens_read, places, IsFaultOf}
use Rattle.st_sexp.proofs.Stops.{opens_some}
use Rattle.st_sexp.proofs.Faults.{IsOfTokens, fault_is_of_tokens}

pub Begins-push : (total : ℕ) (text : List ℕ) (tokens : List Token) (rest behind : List ℕ) (token : Token) → Begins total text tokens rest → next_of total rest ≡ Ok (Some (token, behind)) → Begins total text (tokens ++ token ∷ []) behind
Begins-push total text [] rest behind token begins next = (behind, subst (λ left. next_of total left ≡ Ok (Some (token, behind))) begins next, refl)
Begins-push total text (first ∷ tokens) rest behind token begins next = (begins.0, begins.1, Begins-push total begins.0 tokens rest behind token begins.2 next)

pub open_after-push : (levels now then : List ℕ) (tokens : List Token) (token : Token) → open_after levels tokens ≡ Some now → opens token.kind token.from now ≡ Some then → open_after levels (tokens ++ token ∷ []) ≡ Some then
open_after-push levels now then [] token nested opened =
    let same : levels ≡ now = (let all : Some levels ≡ Some now = nested in cc) in
    let here : opens token.kind token.from levels ≡ Some then = subst (λ places. opens token.kind token.from places ≡ Some then) (sym same) opened in
    rw here refl
open_after-push levels now then (first ∷ tokens) token nested opened =
    let step = opens_some (opens first.kind first.from levels) (λ places. open_after places tokens) now nested in
    rw step.1 (open_after-push step.0 now then tokens token step.2 opened)

-- what was read of a text up to a place
pub record IsRead (text : List ℕ) (at : ℕ) (nest : Nest) : Type 0 where
  pub inside : at ≤ length text
  pub begins : Begins (length text) text (tokens_read nest) (drop at text)
  pub nested : open_after [] (tokens_read nest) ≡ Some (places nest.levels)

pub read_none : (text : List ℕ) (nest : Nest) → nest.levels ≡ [] → nest.forms ≡ [] → IsRead text 0 nest
read_none text nest levels forms =
    record { inside = omega arith; begins = rw (levels, forms) refl; nested = rw (levels, forms) refl }

pub read_more : (text : List ℕ) (at : ℕ) (old new : Nest) (token : Token) → IsRead text at old → token.to ≤ length text → next_of (length text) (drop at text) ≡ Ok (Some (token, drop token.to text)) → tokens_read new ≡ tokens_read old ++ token ∷ [] → opens token.kind token.from (places old.levels) ≡ Some (places new.levels) → IsRead text token.to new
read_more text at old new token read inside next tokens opened = record {
  inside = inside;
  begins = rw tokens (Begins-push (length text) text (tokens_read old) (drop at text) (drop token.to text) token read.begins next);
  nested = rw tokens (open_after-push [] (places old.levels) (places new.levels) (tokens_read old) token read.nested opened);
}

-- a fault of a text that is UTF-8 is due
pub due_fault : (text : List ℕ) (fault : SexpFault) → IsUtf8 text → IsOfTokens fault → IsFault text fault → Due text (Err fault)
due_fault text (Unclosed place) utf8 of_tokens is = (utf8, is)
due_fault text (Stray place) utf8 of_tokens is = (utf8, is)
due_fault text (BadNumber place) utf8 of_tokens is = (utf8, is)
due_fault text (TooDeep place) utf8 of_tokens is = (utf8, is)
due_fault text (NotUtf8 place) utf8 of_tokens is = absurd of_tokens
due_fault text Memory utf8 of_tokens is = tt

-- the fault where reading stops is due
pub due_at : (text : List ℕ) (at : ℕ) (nest : Nest) (fault : SexpFault) → IsUtf8 text → IsRead text at nest → fault_at (next_of (length text) (drop at text)) (places nest.levels) ≡ Some fault → Due text (Err fault)
due_at text at nest fault utf8 read found =
    due_fault text fault utf8 (fault_is_of_tokens (length text) (drop at text) (places nest.levels) fault found)
    (record { tokens = tokens_read nest; rest = drop at text; levels = places nest.levels; begins = read.begins; nested = read.nested; found = found })

-- a fault of the next token is due
pub due_next : (text : List ℕ) (at : ℕ) (nest : Nest) (fault : SexpFault) → IsUtf8 text → IsRead text at nest → Answers told (Err fault) (next_of (length text) (drop at text)) → Due text (Err fault)
due_next text at nest Memory utf8 read fails = tt
due_next text at nest (Unclosed place) utf8 read fails = due_at text at nest (Unclosed place) utf8 read (rw (← fails) refl)
due_next text at nest (Stray place) utf8 read fails = due_at text at nest (Stray place) utf8 read (rw (← fails) refl)
due_next text at nest (BadNumber place) utf8 read fails = due_at text at nest (BadNumber place) utf8 read (rw (← fails) refl)
due_next text at nest (TooDeep place) utf8 read fails = due_at text at nest (TooDeep place) utf8 read (rw (← fails) refl)
due_next text at nest (NotUtf8 place) utf8 read fails = due_at text at nest (NotUtf8 place) utf8 read (rw (← fails) refl)

-- a fault of a token that may not stand there is due
pub due_put : (text : List ℕ) (at : ℕ) (nest : Nest) (token : Token) (behind : List ℕ) (fault : SexpFault) → IsUtf8 text → IsRead text at nest → next_of (length text) (drop at text) ≡ Ok (Some (token, behind)) → IsFaultOf token.kind token.from (places nest.levels) fault → Due text (Err fault)
due_put text at nest token behind Memory utf8 read next fails = tt
due_put text at nest token behind (Unclosed place) utf8 read next fails = due_at text at nest (Unclosed place) utf8 read (rw next fails)
due_put text at nest token behind (Stray place) utf8 read next fails = due_at text at nest (Stray place) utf8 read (rw next fails)
due_put text at nest token behind (BadNumber place) utf8 read next fails = due_at text at nest (BadNumber place) utf8 read (rw next fails)
due_put text at nest token behind (TooDeep place) utf8 read next fails = due_at text at nest (TooDeep place) utf8 read (rw next fails)
due_put text at nest token behind (NotUtf8 place) utf8 read next fails = due_at text at nest (NotUtf8 place) utf8 read (rw next fails)

-- the end of a text with no list open
due_forms : (text : List ℕ) (at : ℕ) (nest : Nest) (forms : List Form) → IsUtf8 text → IsRead text at nest → next_of (length text) (drop at text) ≡ Ok None → places nest.levels ≡ [] → tokens_read nest ≡ all_tokens forms → Due text (Ok forms)
due_forms text at nest forms utf8 read next closed tokens =
    (utf8, record { whole = (drop at text, rw tokens at read.begins, next); nested = rw (← tokens, read.nested) refl })

-- what is due at the end of a text
pub due_end : (text : List ℕ) (at : ℕ) (nest : Nest) (answer : Result (List Form) SexpFault) → IsUtf8 text → IsRead text at nest → next_of (length text) (drop at text) ≡ Ok None → IfOk answer (λ _. places nest.levels ≡ []) → IfOk answer (λ forms. tokens_read nest ≡ all_tokens forms) → IfErr answer (λ fault. fault_at (Ok None) (places nest.levels) ≡ Some fault) → Due text answer
due_end text at nest (Ok forms) utf8 read next closed tokens fails = due_forms text at nest forms utf8 read next closed tokens
due_end text at nest (Err fault) utf8 read next closed tokens fails = due_at text at nest fault utf8 read (rw next fails)
