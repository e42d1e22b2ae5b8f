use Rattle.std.proofs.Common.{◌≡◌, subst, sym}
use Rattle.st_values.specs.declared.value.Value.{Value}
use Rattle.st_terms.specs.declared.route.Reading.{Reading}
use Rattle.st_terms.specs.Looks.{Looks}
use Rattle.st_terms.specs.Routes.{reading_value, AdmitsReading, reading_stores, reading_places}
use Rattle.st_terms.proofs.read.read.Goals as goal

at : (P : Reading → Value → Type 0) (r other : Reading) (v w : Value) → r ≡ other → v ≡ w → P other w → P r v
at P r other v w e h p = subst (λ x. P x v) (sym e) (subst (P other) (sym h) p)

pub returns-in-Members-Entity-clause-looks : goal.returns-in-Members-Entity-clause-looks
returns-in-Members-Entity-clause-looks g c = λ w s agrees stands.
    at (λ r v. AdmitsReading s r v → Looks (g.B.Base.stands c.read_members.new.base w s) (g.B.Base.asks c.args.base.now c.read_members.new.base w) (g.B.Base.reached c.read_members.new.base w) (λ m. m ≡ reading_value s r v) (reading_stores s.schema r) (reading_places r v) c.read_members.result)
    _ _ _ _ c.in-Members-Entity.is-0 c.in-Members-Entity.is-1 (c.read_members.ensures.looks w s agrees stands)

pub returns-in-Inverse-Entity-clause-looks : goal.returns-in-Inverse-Entity-clause-looks
returns-in-Inverse-Entity-clause-looks g c = λ w s agrees stands.
    subst (λ r. AdmitsReading s r c.args.value.now → Looks (g.B.Base.stands c.read_inverse.new.base w s) (g.B.Base.asks c.args.base.now c.read_inverse.new.base w) (g.B.Base.reached c.read_inverse.new.base w) (λ m. m ≡ reading_value s r c.args.value.now) (reading_stores s.schema r) (reading_places r c.args.value.now) c.read_inverse.result)
    (sym c.in-Inverse-Entity.is-0) (c.read_inverse.ensures.looks w s agrees stands)

pub returns-in-Value-Entity-clause-looks : goal.returns-in-Value-Entity-clause-looks
returns-in-Value-Entity-clause-looks g c = λ w s agrees stands.
    at (λ r v. AdmitsReading s r v → Looks (g.B.Base.stands c.read_value.new.base w s) (g.B.Base.asks c.args.base.now c.read_value.new.base w) (g.B.Base.reached c.read_value.new.base w) (λ m. m ≡ reading_value s r v) (reading_stores s.schema r) (reading_places r v) c.read_value.result)
    _ _ _ _ c.in-Value-Entity.is-0 c.in-Value-Entity.is-1 (c.read_value.ensures.looks w s agrees stands)
