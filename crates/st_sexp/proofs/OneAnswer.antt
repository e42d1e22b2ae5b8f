-- For each text one answer is due, want of memory aside.
use Rattle.std.proofs.Common.{◌≡◌, ◌⊎◌, inl, inr, ℕ, Bool, true, false, ltb, cond, List, [], ◌∷◌, length, Option, Some, None, IsSome, Result, Ok, Err, refl, ap, sym, ◌∙◌, subst}
use Rattle.std.specs.Str.{IsUtf8, IsValidUpTo}
use Rattle.std.proofs.lemmas.Str.{utf8_valid_len-IsValidUpTo}
use Rattle.st_token.specs.declared.fault.SexpFault.{SexpFault}
use Rattle.st_token.specs.declared.fault.SexpFault.TheVariants.{Unclosed, Stray, BadNumber, TooDeep, NotUtf8, Memory}
use Rattle.st_token.specs.declared.token.TokenKind.{TokenKind}
use Rattle.st_token.specs.declared.token.TokenKind.TheVariants as kind
use Rattle.st_token.specs.Scan.{next_of, Read}
use Rattle.st_sexp.specs.declared.form.Form.{Form}
use Rattle.st_sexp.specs.Flat.{all_tokens}
use Rattle.st_sexp.specs.Reading.{opens, open_after, fault_at, nesting_fault, Spells, IsFault, DueOfUtf8, Due, WantsMemory, max_depth}
use Rattle.st_sexp.proofs.Rebuilding.{same_forms}
use Rattle.st_sexp.proofs.Balance.{open_after-forms}
use Rattle.st_sexp.proofs.Stops.{Stops, IsStop, same_stop}

-- what is due, by the three ways that it comes
data Comes (text : List ℕ) : Result (List Form) SexpFault → Type 0 where
  wants : Comes text (Err Memory)
  no_text : (place : ℕ) → ¬ (IsUtf8 text) → IsValidUpTo text place → Comes text (Err (NotUtf8 place))
  reads : (answer : Result (List Form) SexpFault) → IsUtf8 text → DueOfUtf8 text answer → Comes text answer

comes : (text : List ℕ) (answer : Result (List Form) SexpFault) → Due text answer → Comes text answer
comes text (Ok forms) due = reads (Ok forms) due.0 due.1
comes text (Err Memory) due = wants
comes text (Err (NotUtf8 place)) due = no_text place due.0 due.1
comes text (Err (Unclosed place)) due = reads (Err (Unclosed place)) due.0 due.1
comes text (Err (Stray place)) due = reads (Err (Stray place)) due.0 due.1
comes text (Err (BadNumber place)) due = reads (Err (BadNumber place)) due.0 due.1
comes text (Err (TooDeep place)) due = reads (Err (TooDeep place)) due.0 due.1

too_deep : (may : Bool) (inner : List ℕ) (deep fault : SexpFault) → cond may None (Some deep) ≡ Some fault → cond may (Some inner) None ≡ None
too_deep true inner deep fault is = absurd (cc)
too_deep false inner deep fault is = refl

-- a token where a nesting fault is due may not stand there
nesting_stops : (s : TokenKind) (from : ℕ) (levels : List ℕ) (fault : SexpFault) → nesting_fault s from levels ≡ Some fault → opens s from levels ≡ None
nesting_stops kind.Open from levels fault is = too_deep (ltb (length levels) max_depth) (from ∷ levels) (TooDeep from) fault is
nesting_stops kind.Close from [] fault is = refl
nesting_stops kind.Close from (innermost ∷ levels) fault is = absurd (cc)
nesting_stops (kind.Name letters) from levels fault is = absurd (cc)
nesting_stops (kind.Number number) from levels fault is = absurd (cc)
nesting_stops (kind.Quoted letters) from levels fault is = absurd (cc)

-- where a fault is due reading stops
fault_stops : (read : Read) (levels : List ℕ) (fault : SexpFault) → fault_at read levels ≡ Some fault → Stops read levels
fault_stops (Err found) levels fault is = tt
fault_stops (Ok None) levels fault is = tt
fault_stops (Ok (Some found)) levels fault is = nesting_stops (found.0.kind) (found.0.from) levels fault is

is_some : (o : Option (List ℕ)) → IsSome o → (now : List ℕ) × (o ≡ Some now)
is_some None some = absurd (cc)
is_some (Some now) some = (now, refl)

-- the end of forms is a stop, with no list open
forms_stop : (text : List ℕ) (forms : List Form) (spells : Spells text forms) → IsStop (length text) text [] (all_tokens forms) spells.whole.0 []
forms_stop text forms spells =
    let now = is_some (open_after [] (all_tokens forms)) spells.nested in
    let none : now.0 ≡ [] = open_after-forms [] now.0 forms now.1 in
    record { begins = spells.whole.1; nested = subst (λ levels. open_after [] (all_tokens forms) ≡ Some levels) none now.1; stops = subst (λ read. Stops read []) (sym spells.whole.2) tt }

-- the place of a fault is a stop
fault_stop : (text : List ℕ) (fault : SexpFault) (is : IsFault text fault) → IsStop (length text) text [] is.tokens is.rest is.levels
fault_stop text fault is = record { begins = is.begins; nested = is.nested; stops = fault_stops (next_of (length text) is.rest) is.levels fault is.found }

-- a text that spells forms has no fault
no_fault : (text : List ℕ) (forms : List Form) (fault : SexpFault) → Spells text forms → IsFault text fault → ⊥
no_fault text forms fault spells is =
    let same = same_stop (length text) (all_tokens forms) is.tokens text [] spells.whole.0 is.rest [] is.levels (forms_stop text forms spells) (fault_stop text fault is) in
    let found : fault_at (next_of (length text) spells.whole.0) [] ≡ Some fault = subst (λ levels. fault_at (next_of (length text) spells.whole.0) levels ≡ Some fault) (sym same.now_same) (subst (λ rest. fault_at (next_of (length text) rest) is.levels ≡ Some fault) (sym same.rest_same) is.found) in
    let never : None ≡ Some fault = subst (λ read. fault_at read [] ≡ Some fault) spells.whole.2 found in cc

same_of_utf8 : (text : List ℕ) (a b : Result (List Form) SexpFault) → DueOfUtf8 text a → DueOfUtf8 text b → a ≡ b
same_of_utf8 text (Ok a) (Ok b) p q =
    let same = same_stop (length text) (all_tokens a) (all_tokens b) text [] p.whole.0 q.whole.0 [] [] (forms_stop text a p) (forms_stop text b q) in
    ap (λ forms. Ok forms) (same_forms a b same.tokens_same)
same_of_utf8 text (Ok a) (Err b) p q = absurd (no_fault text a b p q)
same_of_utf8 text (Err a) (Ok b) p q = absurd (no_fault text b a q p)
same_of_utf8 text (Err a) (Err b) p q =
    let same = same_stop (length text) p.tokens q.tokens text [] p.rest q.rest p.levels q.levels (fault_stop text a p) (fault_stop text b q) in
    let found : fault_at (next_of (length text) p.rest) p.levels ≡ Some b = subst (λ levels. fault_at (next_of (length text) p.rest) levels ≡ Some b) (sym same.now_same) (subst (λ rest. fault_at (next_of (length text) rest) q.levels ≡ Some b) (sym same.rest_same) q.found) in
    let first = p.found in cc

both : (text : List ℕ) (a b : Result (List Form) SexpFault) → Comes text a → Comes text b → WantsMemory a ⊎ WantsMemory b ⊎ (a ≡ b)
both text a b wants q = inl refl
both text a b p wants = inr (inl refl)
both text a b (no_text place not valid) (no_text place' not' valid') = inr (inr (ap (λ at. Err (NotUtf8 at)) (sym (utf8_valid_len-IsValidUpTo text place valid) ∙ utf8_valid_len-IsValidUpTo text place' valid')))
both text a b (no_text place not valid) (reads b' is due) = absurd (not is)
both text a b (reads a' is due) (no_text place not valid) = absurd (not is)
both text a b (reads a' is due) (reads b' is' due') = inr (inr (same_of_utf8 text a b due due'))

pub same_answer : (text : List ℕ) (a b : Result (List Form) SexpFault) → Due text a → Due text b → WantsMemory a ⊎ WantsMemory b ⊎ (a ≡ b)
same_answer text a b p q = both text a b (comes text a p) (comes text b q)
