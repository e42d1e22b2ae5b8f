-- Texts that come piece by piece.
use Rattle.std.proofs.Common.{◌≡◌, ◌∙◌, ℕ, ◌+◌, ◌≤◌, List, [], ◌++◌, length, take, min, Option, Some, None, Result, Ok, Err, refl, sym, ap, subst, append_assoc, append-nil, arith}
use Rattle.std.specs.Prelude.{OnErr}
use Rattle.std.specs.Io.KnownBytes.{Appends}
use Rattle.std.proofs.KnownBytes.{Appends-trans}
use Rattle.std.proofs.Math.Seq.{take-append-add}
use Rattle.std.proofs.lemmas.List.{take-append-le, take_min}
use Rattle.st_edge.specs.States.{SinkState, TakesFront}

pub appends_nothing : (old : Option (List ℕ)) → Appends old old []
appends_nothing None = tt
appends_nothing (Some xs) = sym (append-nil xs)

-- From one count of taken bytes to another a sink took a front of a whole, and this is the rest of it.
pub record Owes (whole rest : List ℕ) (old new : Option (List ℕ)) : Type 0 where
  pub lines : List ℕ
  pub taken : Appends old new lines
  pub is : lines ++ rest ≡ whole

pub owes_all : (whole : List ℕ) (old : Option (List ℕ)) → Owes whole whole old old
owes_all whole old = record { lines = []; taken = appends_nothing old; is = refl }

-- a piece of the rest was taken
pub owes_less : (whole rest text behind : List ℕ) (old mid new : Option (List ℕ)) → Owes whole rest old mid → rest ≡ text ++ behind → Appends mid new text → Owes whole behind old new
owes_less whole rest text behind old mid new owes e took = record {
  lines = owes.lines ++ text;
  taken = Appends-trans old mid new owes.lines text owes.taken took;
  is = append_assoc owes.lines text behind ∙ ap (λ x. owes.lines ++ x) (sym e) ∙ owes.is;
}

-- the last piece was taken
pub owes_none : (whole rest : List ℕ) (old mid new : Option (List ℕ)) → Owes whole rest old mid → Appends mid new rest → Appends old new whole
owes_none whole rest old mid new owes took = subst (λ x. Appends old new x) owes.is (Appends-trans old mid new owes.lines rest owes.taken took)

-- a front of a piece was taken
pub owes_front : (whole rest text behind : List ℕ) (old mid new : Option (List ℕ)) → Owes whole rest old mid → rest ≡ text ++ behind → (n : ℕ) × Appends mid new (take n text) → (m : ℕ) × Appends old new (take m whole)
owes_front whole rest text behind old mid new owes e (n, took) =
    let k = min n (length text) in
    let within : k ≤ length text = omega arith in
    let part : Appends mid new (take k text) = subst (λ x. Appends mid new x) (sym (take_min n text)) took in
    let is : owes.lines ++ (text ++ behind) ≡ whole = ap (λ x. owes.lines ++ x) (sym e) ∙ owes.is in
    (length owes.lines + k, rw (← is, take-append-add owes.lines (text ++ behind) k, take-append-le k text behind within) (Appends-trans old mid new owes.lines (take k text) owes.taken part))

-- nothing more was taken
pub owes_still : (whole rest : List ℕ) (old mid : Option (List ℕ)) → Owes whole rest old mid → (m : ℕ) × Appends old mid (take m whole)
owes_still whole rest old mid owes = owes_front whole rest [] rest old mid mid owes refl (0, appends_nothing mid)

pub on_err : {T E P : Type 0} (r : Result T E) → P → OnErr r P
on_err (Ok x) p = tt
on_err (Err e) p = p

-- nothing is a front of any text
pub front_of_nothing : (old : SinkState) (text : List ℕ) → TakesFront old old text
front_of_nothing old text = (0, appends_nothing old.taken)
