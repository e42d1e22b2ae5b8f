use Rattle.std.proofs.Common.{rules, w64, SFits}
use Rattle.std.proofs.lemmas.Int.{to_z-of_z}
use Rattle.st_statements.specs.declared.fault.Misread.TheVariants.{Form, TooManyStatements, BadClient}
use Rattle.statice.proofs.Finding.{of_misread}
use Rattle.statice.proofs.fault.script_fault_line.Goals as goal

pub returns-in-Form : goal.returns-in-Form
returns-in-Form c =
    let line = rw c.format.ensures.text at c.told_line.ensures in
    of_misread c.args.fault (Form c.in-Form.place) c.told_line.result c.in-Form.is line

pub returns-in-TooManyStatements : goal.returns-in-TooManyStatements
returns-in-TooManyStatements c =
    let line = rw c.format-in-TooManyStatements.ensures.text at c.told_line-in-TooManyStatements.ensures in
    of_misread c.args.fault (TooManyStatements c.in-TooManyStatements.count) c.told_line-in-TooManyStatements.result c.in-TooManyStatements.is line

pub returns-in-BadClient : goal.returns-in-BadClient
returns-in-BadClient c =
    let fits : SFits w64 c.in-BadClient.number = search rules in
    let line = rw (c.format-in-BadClient.ensures.text, to_z-of_z w64 c.in-BadClient.number fits) at c.told_line-in-BadClient.ensures in
    of_misread c.args.fault (BadClient c.in-BadClient.number) c.told_line-in-BadClient.result c.in-BadClient.is line
