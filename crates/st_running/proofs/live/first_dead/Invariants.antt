use Rattle.std.proofs.Common.{◌≡◌, [], ◌∷◌, take, Ok}
use Rattle.std.specs.Prelude.{not, find, flat_map, None}
use Rattle.st_values.specs.declared.value.EntityId.{EntityId}
use Rattle.st_lattice.specs.declared.stores.StoreKind.TheVariants.{Extent}
use Rattle.st_lattice.specs.Stores.{store}
use Rattle.st_state.specs.State.{State, is_live}
use Rattle.st_terms.specs.Looks.{Looks, Keeps}
use Rattle.st_running.proofs.live.first_dead.Given as goal

abbrev pub invariant-loop-entity : goal.invariant-loop-entity
invariant-loop-entity g l =
    ((w : g.B.Base.Witness) (s : State) → g.B.Base.agrees l.base w → g.B.Base.stands l.fn.base w s →
    Looks (g.B.Base.stands l.base w s) (g.B.Base.asks l.fn.base l.base w) (g.B.Base.reached l.base w)
    (λ (_ : Unit {0}). find (λ e. not (is_live s e)) (take l.entity-index l.entities) ≡ None)
    (flat_map (λ (e : EntityId). store Extent e.ty ∷ []) (take l.entity-index l.entities)) (flat_map (λ (e : EntityId). []) (take l.entity-index l.entities)) (Ok tt))
    × Keeps {A = Unit {0}} (g.B.Base.follows l.fn.base l.base) (g.B.Base.met l.fn.base) (g.B.Base.met l.base) (Ok tt)
