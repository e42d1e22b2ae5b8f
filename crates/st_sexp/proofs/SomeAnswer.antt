-- For each text an answer other than want of memory is due.
use Rattle.std.proofs.Common.{◌≡◌, ⊎_elim, ℕ, zero, suc, ◌<◌, ◌≤◌, Bool, true, false, ltb, cond, List, [], ◌∷◌, length, Option, Some, None, Result, Ok, Err, refl, sym, subst, arith}
use Rattle.std.specs.Str.{IsUtf8}
use Rattle.st_token.specs.declared.fault.SexpFault.{SexpFault}
use Rattle.st_token.specs.declared.fault.SexpFault.TheVariants.{Unclosed, Stray, BadNumber, TooDeep, NotUtf8, Memory}
use Rattle.st_token.specs.declared.token.Token.{Token}
use Rattle.st_token.specs.declared.token.TokenKind.{TokenKind}
use Rattle.st_token.specs.declared.token.TokenKind.TheVariants as kind
use Rattle.st_token.specs.Scan.{next_of, Read}
use Rattle.st_sexp.specs.declared.form.Form.{Form}
use Rattle.st_sexp.specs.Flat.{all_tokens}
use Rattle.st_sexp.specs.Reading.{Begins, opens, open_after, nesting_fault, fault_at, max_depth, DueOfUtf8, Due, WantsMemory}
use Rattle.st_sexp.proofs.Stops.{Stops, IsStop}
use Rattle.st_sexp.proofs.ReadLemmas.{due_fault}
use Rattle.st_sexp.proofs.Faults.{IsOfTokens, fault_is_of_tokens}
use Rattle.st_sexp.proofs.Progress.{Advances, next_of_advances}
use Rattle.st_sexp.proofs.Building.{AreOneByte, forms_of}
use Rattle.st_sexp.proofs.Utf8Front.{utf8_or_place}

-- where reading a text stops
record Stop (total : ℕ) (text from : List ℕ) : Type 0 where
  pub tokens : List Token
  pub rest : List ℕ
  pub now : List ℕ
  pub is : IsStop total text from tokens rest now
  pub one : AreOneByte tokens

stop_here : (total : ℕ) (text from : List ℕ) → Stops (next_of total text) from → Stop total text from
stop_here total text from stops =
    record { tokens = []; rest = text; now = from; is = record { begins = refl; nested = refl; stops = stops }; one = tt }

stop_behind : (total : ℕ) (text from inner behind : List ℕ) (token : Token) → next_of total text ≡ Ok (Some (token, behind)) → opens token.kind token.from from ≡ Some inner → AreOneByte (token ∷ []) → Stop total behind inner → Stop total text from
stop_behind total text from inner behind token next opened one stop = record {
  tokens = token ∷ stop.tokens;
  rest = stop.rest;
  now = stop.now;
  is = record { begins = (behind, next, stop.is.begins); nested = rw opened stop.is.nested; stops = stop.is.stops };
  one = (one.0, stop.one);
}

go_on : (total : ℕ) (text from : List ℕ) (found : Token × List ℕ) (o : Option (List ℕ)) → next_of total text ≡ Ok (Some found) → opens (found.0.kind) (found.0.from) from ≡ o → Advances (length text) (Ok (Some found)) → ((behind inner : List ℕ) → length behind < length text → Stop total behind inner) → Stop total text from
go_on total text from found None next opened advances more = stop_here total text from (subst (λ read. Stops read from) (sym next) opened)
go_on total text from found (Some inner) next opened advances more = stop_behind total text from inner (found.1) (found.0) next opened (advances.1, tt) (more (found.1) inner advances.0)

read_on : (total : ℕ) (text from : List ℕ) (read : Read) → next_of total text ≡ read → Advances (length text) read → ((behind inner : List ℕ) → length behind < length text → Stop total behind inner) → Stop total text from
read_on total text from (Err fault) next advances more = stop_here total text from (subst (λ read. Stops read from) (sym next) tt)
read_on total text from (Ok None) next advances more = stop_here total text from (subst (λ read. Stops read from) (sym next) tt)
read_on total text from (Ok (Some found)) next advances more = go_on total text from found (opens (found.0.kind) (found.0.from) from) next refl advances more

-- reading comes to a stop, since each token takes a byte
stop_of : (most total : ℕ) (text from : List ℕ) → length text ≤ most → Stop total text from
stop_of zero total text from within = read_on total text from (next_of total text) refl (next_of_advances total text) (λ behind inner less. absurd (omega arith))
stop_of (suc most) total text from within = read_on total text from (next_of total text) refl (next_of_advances total text) (λ behind inner less. stop_of most total behind inner (omega arith))

-- an answer that only a text that is UTF-8 has
abbrev IsOfText : Result (List Form) SexpFault → Type 0
IsOfText (Ok forms) = Unit {0}
IsOfText (Err fault) = IsOfTokens fault

-- some answer is due for a text that is UTF-8
abbrev HasAnswer : List ℕ → Type 0
HasAnswer text = (answer : Result (List Form) SexpFault) × DueOfUtf8 text answer × IsOfText answer

fault_answer : (text : List ℕ) (stop : Stop (length text) text []) (fault : SexpFault) → fault_at (next_of (length text) stop.rest) stop.now ≡ Some fault → HasAnswer text
fault_answer text stop fault found = (
  Err fault,
  record { tokens = stop.tokens; rest = stop.rest; levels = stop.now; begins = stop.is.begins; nested = stop.is.nested; found = found },
  fault_is_of_tokens (length text) stop.rest stop.now fault found,
)

too_deep : (may : Bool) (opened : List ℕ) (deep : SexpFault) → cond may (Some opened) None ≡ None → (fault : SexpFault) × (cond may None (Some deep) ≡ Some fault)
too_deep true opened deep is = absurd (cc)
too_deep false opened deep is = (deep, refl)

-- a token that may not stand there has its fault
nesting_answer : (s : TokenKind) (from : ℕ) (levels : List ℕ) → opens s from levels ≡ None → (fault : SexpFault) × (nesting_fault s from levels ≡ Some fault)
nesting_answer kind.Open from levels is = too_deep (ltb (length levels) max_depth) (from ∷ levels) (TooDeep from) is
nesting_answer kind.Close from [] is = (Stray from, refl)
nesting_answer kind.Close from (innermost ∷ levels) is = absurd (cc)
nesting_answer (kind.Name letters) from levels is = absurd (cc)
nesting_answer (kind.Number number) from levels is = absurd (cc)
nesting_answer (kind.Quoted letters) from levels is = absurd (cc)

-- at the end of a text with no list open its forms are due
forms_answer : (text : List ℕ) (stop : Stop (length text) text []) → next_of (length text) stop.rest ≡ Ok None → stop.now ≡ [] → HasAnswer text
forms_answer text stop next closed =
    let nested : open_after [] stop.tokens ≡ Some [] = subst (λ now. open_after [] stop.tokens ≡ Some now) closed stop.is.nested in
    let found = forms_of stop.tokens stop.one nested in
    let begins : Begins (length text) text (all_tokens found.0) stop.rest = subst (λ tokens. Begins (length text) text tokens stop.rest) (sym found.1) stop.is.begins in
    (Ok found.0, record { whole = (stop.rest, begins, next); nested = rw (found.1, nested) refl }, tt)

end_answer : (text : List ℕ) (stop : Stop (length text) text []) (now : List ℕ) → stop.now ≡ now → next_of (length text) stop.rest ≡ Ok None → HasAnswer text
end_answer text stop [] is next = forms_answer text stop next is
end_answer text stop (innermost ∷ levels) is next = fault_answer text stop (Unclosed innermost) (rw (next, is) refl)

answer_at : (text : List ℕ) (stop : Stop (length text) text []) (read : Read) → next_of (length text) stop.rest ≡ read → HasAnswer text
answer_at text stop (Err fault) next = fault_answer text stop fault (rw next refl)
answer_at text stop (Ok None) next = end_answer text stop stop.now refl next
answer_at text stop (Ok (Some found)) next =
    let nested = nesting_answer (found.0.kind) (found.0.from) stop.now (subst (λ read. Stops read stop.now) next stop.is.stops) in
    fault_answer text stop nested.0 (rw next nested.1)

no_memory : (fault : SexpFault) → IsOfTokens fault → ¬ (WantsMemory (Err fault))
no_memory (Unclosed place) of_tokens same = cc
no_memory (Stray place) of_tokens same = cc
no_memory (BadNumber place) of_tokens same = cc
no_memory (TooDeep place) of_tokens same = cc
no_memory (NotUtf8 place) of_tokens same = absurd of_tokens
no_memory Memory of_tokens same = absurd of_tokens

due_answer : (text : List ℕ) (answer : Result (List Form) SexpFault) → IsUtf8 text → DueOfUtf8 text answer → IsOfText answer → Due text answer × ¬ (WantsMemory answer)
due_answer text (Ok forms) utf8 due of_text = ((utf8, due), λ (same : Ok forms ≡ Err Memory). cc)
due_answer text (Err fault) utf8 due of_text = (due_fault text fault utf8 of_text due, no_memory fault of_text)

-- for each text an answer other than want of memory is due
pub some_answer : (text : List ℕ) → (answer : Result (List Form) SexpFault) × Due text answer × ¬ (WantsMemory answer)
some_answer text =
    ⊎_elim
    (λ utf8.
    let stop = stop_of (length text) (length text) text [] (omega arith) in
    let found = answer_at text stop (next_of (length text) stop.rest) refl in
    let due = due_answer text found.0 utf8 found.1 found.2 in
    (found.0, due.0, due.1))
    (λ faulty. (Err (NotUtf8 faulty.1.0), (faulty.0, faulty.1.1), λ (same : Err (NotUtf8 faulty.1.0) ≡ Err Memory). cc))
    (utf8_or_place text)
