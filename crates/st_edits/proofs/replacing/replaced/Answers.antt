use Rattle.std.proofs.Common.{refl}
use Rattle.st_edits.proofs.Exchanged.{cells-fit}
use Rattle.st_lattice.specs.Lattice.{attributes_in}
use Rattle.st_edits.proofs.replacing.replaced.Goals as goal

pub exchange-requires : goal.exchange-requires
exchange-requires c = (cells-fit c.args.attribute.now c.args.value.now (attributes_in c.args.schema.now c.args.ty) c.args.cells c.in-Some.index c.requires.held c.in-Some.ensures.there).within

pub returns-clause-is : goal.returns-clause-is
returns-clause-is c =
    let fit = cells-fit c.args.attribute.now c.args.value.now (attributes_in c.args.schema.now c.args.ty) c.args.cells c.in-Some.index c.requires.held c.in-Some.ensures.there in
    let new = c.if-not-is_or_null.ensures.so refl in
    let is = c.in_ok-exchange.ensures in
    record {
      index = c.in-Some.index;
      there = c.in-Some.ensures.there;
      new_is = is.0;
      old_is = is.1;
      held = rw (is.0) (fit.new new);
      old_fits = rw (is.1) fit.old;
      new_fits = new;
    }
