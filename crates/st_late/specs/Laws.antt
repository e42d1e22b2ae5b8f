-- What a base keeps that reads its store late, and what was asked of it, over several calls.
use Rattle.std.specs.Prelude.{◌≡◌, ℕ, ◌≤◌, ◌||◌, Bool, true, false, not, cond, List, [], ◌++◌, IsTrue, refl}
use Rattle.std.proofs.Common.{sym, ◌∙◌, subst, arith}
use Rattle.std.proofs.lemmas.List.Folds.{list_any-append}
use Rattle.std.proofs.lemmas.List.Sums.{sum_by-append}
use Rattle.st_state.specs.State.{State}
use Rattle.st_state.specs.Calls.{may_change}
use Rattle.st_plain.specs.Held.{Held}
use Rattle.st_plain.specs.Base.{Asked, puts}
use Rattle.st_late.specs.Late.{Agrees, Stays, IsAsked}

pub le_itself : (n : ℕ) → n ≤ n
le_itself n = omega arith

pub le_on : (a b c : ℕ) → a ≤ b → b ≤ c → a ≤ c
le_on a b c h k = omega arith

pub stays_itself : (held : Held) (is_read : Bool) → Stays held is_read held is_read
stays_itself held is_read = record { mark = refl; schema = refl; read = λ r. r }

pub stays_on : (a : Held) (ra : Bool) (b : Held) (rb : Bool) (c : Held) (rc : Bool) → Stays a ra b rb → Stays b rb c rc → Stays a ra c rc
stays_on a ra b rb c rc first second = record {
  mark = second.mark ∙ first.mark;
  schema = second.schema ∙ first.schema;
  read = λ r. second.read (first.read r);
}

pub seen_stays : (old : Held) (was_read : Bool) (new : Held) (is_read : Bool) (w : State) → Stays old was_read new is_read → Agrees new is_read w → Agrees old was_read w
seen_stays old was_read new is_read w stays agrees = record {
  read = λ r. agrees.read (stays.read r) ∙ stays.mark;
  schema = agrees.schema ∙ stays.schema;
}

true-false : true ≡ false → ⊥
true-false e = cc

pub asked_nothing : (is_changed : Bool) (met : ℕ) → IsAsked is_changed is_changed met met []
asked_nothing is_changed met = record { puts = λ not_yet now. absurd (true-false (sym now ∙ not_yet)); met = omega arith }

or_left : (a b : Bool) → IsTrue a → IsTrue (a || b)
or_left true b h = refl
or_left false b h = absurd (true-false (sym h))

or_right : (a b : Bool) → IsTrue b → IsTrue (a || b)
or_right true b h = refl
or_right false b h = h

puts_on : (ca cb cc : Bool) (p q : Bool) → (ca ≡ false → cb ≡ true → IsTrue p) → (cb ≡ false → cc ≡ true → IsTrue q) → ca ≡ false → cc ≡ true → IsTrue (p || q)
puts_on ca true cc p q f g a c = or_left p q (f a refl)
puts_on ca false cc p q f g a c = or_right p q (g refl c)

pub asked_on : (ca cb cc : Bool) (ma mb mc : ℕ) (first second : List Asked) → IsAsked ca cb ma mb first → IsAsked cb cc mb mc second → IsAsked ca cc ma mc (first ++ second)
asked_on ca cb cc ma mb mc first second f s = record {
  puts = λ a c. subst IsTrue (sym (list_any-append (λ q. may_change q.call) first second)) (puts_on ca cb cc (puts first) (puts second) f.puts s.puts a c);
  met = omega (arith, sum_by-append (λ q. cond (not q.answered) 1 0) first second, f.met, s.met);
}
