use Rattle.std.proofs.Common.{List, drop}
use Rattle.std.specs.Prelude.{Ok}
use Rattle.st_state.specs.declared.triple.Triple.{Triple}
use Rattle.st_edits.specs.Edits.{PutsStores}
use Rattle.st_removals.specs.Noting.{NotesThese}
use Rattle.st_removals.proofs.Walking.{Passed}
use Rattle.st_removals.proofs.notes.note_gone.Given as goal

-- the triples that are gone
abbrev pub invariant-loop-attribute : goal.invariant-loop-attribute
invariant-loop-attribute g l =
    let attempt = g.P.Pages.attempt in
    record {
      gone : List Triple;
      passed : Passed l.schema l.entity l.which l.cells (drop l.attribute-index l.schema.attributes) (drop l.index l.cells) gone;
      follows : g.P.Pages.follows l.fn.pages l.pages;
      kinds : PutsStores (attempt l.fn.pages) (attempt l.pages);
      notes : NotesThese g.S.Store.holds (g.P.Pages.asked l.fn.pages l.pages) (attempt l.fn.pages) (attempt l.pages) l.schema l.places l.entity gone (Ok (tt {0}));
    }
