use Rattle.std.proofs.Common.{sym, ap, ◌∙◌}
use Rattle.st_lattice.specs.Outline.{Outline}
use Rattle.st_plain.specs.declared.fault.BaseFault.TheVariants.{Memory}
use Rattle.st_query.specs.declared.statement.Statement.TheVariants.{ForEach}
use Rattle.st_terms.specs.Checked.{touched}
use Rattle.st_terms.specs.Looks.{Looks}
use Rattle.st_terms.proofs.Looking.{at-nothing}
use Rattle.st_terms.proofs.Loops.{handed}
use Rattle.st_select.specs.Search.{search_of}
use Rattle.st_paged.specs.Laws.{asks-nothing}
use Rattle.st_paged.specs.Paged.{AsksFor, Parts}
use Rattle.st_paged.proofs.OfForm.{form, spot}
use Rattle.st_paged.proofs.engine.PagedEngine.select.Goals as goal

pub returns-in_err-search-clause-looks : goal.returns-in_err-search-clause-looks
returns-in_err-search-clause-looks g c = λ w s agrees stands checked.
    handed (Looks _ _ _ _ _ _) Memory _ c.from_residual.ensures
    (record {
      answers = tt;
      asked = at-nothing (λ calls. AsksFor g.P.Pages.attempt g.P.Pages.follows form spot g.P.Pages.asked c.args.self.now c.args.self.now w calls) _ (touched s.schema c.args.variables.now (ForEach c.args.query.now))
          (asks-nothing g.P.Pages.attempt g.P.Pages.follows form spot g.P.Pages.asked g.met.P.Pages.asked_nothing c.args.self.now w);
      reached = tt;
    })

pub returns-clause-looks : goal.returns-clause-looks
returns-clause-looks g c = λ w s agrees stands checked.
    c.searched.ensures.looks w s agrees stands c.args.variables.now c.args.query.now
    (c.in_ok-search.ensures.value ∙ ap (λ (o : Outline). search_of o c.args.variables.now c.args.query.now) (ap (λ (x : Parts g.row.P.Denot). x.schema) c.self.view_is ∙ sym stands.of_schema)) checked
