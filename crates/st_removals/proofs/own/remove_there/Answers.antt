use Rattle.std.proofs.Common.{◌≡◌, ℕ, sym, ap, ◌∙◌, refl, arith, true≢false}
use Rattle.st_values.specs.declared.value.EntityId.{EntityId}
use Rattle.st_keys.specs.Keys.{IsEntity}
use Rattle.st_pages.specs.Places.{place_of}
use Rattle.st_standing.proofs.OfKind.{live-entity}
use Rattle.st_lookups.proofs.Lived.{names-most, type-dead}
use Rattle.st_removals.proofs.own.remove_there.Goals as goal

pub returns-in_default-clause-removes : goal.returns-in_default-clause-removes
returns-in_default-clause-removes g c = λ array s agrees same stands live cells_are own.
    absurd (true≢false (sym live ∙ type-dead s stands.legal c.args.entity (names-most s.schema c.args.schema.now c.args.entity.ty same (c.in_default.ensures.none refl))))

pub returns-then-entity-eq0-clause-removes : goal.returns-then-entity-eq0-clause-removes
returns-then-entity-eq0-clause-removes g c = λ array s agrees same stands live cells_are own. absurd (none c.args.entity (live-entity s stands.program.entities c.args.entity live) (grind (arith, c.if-entity-eq0.true)))
  where
    none : (e : EntityId) → IsEntity e → e.serial ≡ 0 → ⊥
    none e entity h = let some = entity.0 in omega (arith, some, h)

pub returns-clause-removes : goal.returns-clause-removes
returns-clause-removes g c = λ array s agrees same stands live cells_are own.
    let at = ap (λ (n : ℕ). place_of n c.args.places.now) c.in-Some.ensures.laid.store_is ∙ sym c.in-Some.ensures.value in
    c.remove_at.ensures.removes array s agrees same stands at live cells_are own
