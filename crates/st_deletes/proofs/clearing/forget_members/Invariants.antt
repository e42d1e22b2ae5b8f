use Rattle.std.proofs.Common.{◌≡◌, true, Ok, take}
use Rattle.std.specs.List.{All}
use Rattle.st_state.specs.State.{is_live}
use Rattle.st_state.specs.Calls.{CanHold, HasSet}
use Rattle.st_lookups.specs.Looks.{OfState}
use Rattle.st_edits.specs.Edits.{PutsStores}
use Rattle.st_removals.specs.Clears.{Clears}
use Rattle.st_deletes.specs.Cleared.{AreWithout}
use Rattle.st_deletes.proofs.clearing.forget_members.Given as goal

-- those so far were cleared
abbrev pub invariant-loop-value : goal.invariant-loop-value
invariant-loop-value g l =
    let attempt = g.P.Pages.attempt in
    record {
      follows : g.P.Pages.follows l.fn.pages l.pages;
      kinds : PutsStores (attempt l.fn.pages) (attempt l.pages);
      clears : OfState g.S.Store.holds (attempt l.fn.pages) (attempt l.pages) l.schema l.places (λ array s. is_live s l.entity ≡ true → HasSet s l.entity l.number → All (CanHold s l.number) l.values →
          Clears {A = Unit {0}} g.S.Store.holds (g.P.Pages.asked l.fn.pages l.pages) (attempt l.fn.pages) (attempt l.pages) array l.places l.entity s (AreWithout l.number l.entity (take l.value-index l.values)) (Ok (tt {0})));
    }
