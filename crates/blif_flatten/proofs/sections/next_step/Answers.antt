use Rattle.std.proofs.Common.{◌∙◌}
use Rattle.blif_lines.specs.Reading.{pending}
use Rattle.blif_flatten.proofs.Layouts.{ended-flaw, ended-lines, pending-flaw, pending-lines}
use Rattle.blif_flatten.proofs.sections.next_step.Goals as goal

pub returns-in-Ok-Some-clause-step : goal.returns-in-Ok-Some-clause-step
returns-in-Ok-Some-clause-step c =
    let g = rw c.in-Ok-Some.field-0-is at c.in-Ok-Some.ensures.ok in
    let t = rw c.in-Ok-Some.field-0-is at c.in-Ok-Some.ensures.tokens in
    let w = rw c.in-Ok-Some.field-0-is at c.in-Ok-Some.ensures.within in (g, (t, w))

pub returns-in-Ok-None-clause-step : goal.returns-in-Ok-None-clause-step
returns-in-Ok-None-clause-step c =
    let g = rw c.in-Ok-None.field-0-is at c.in-Ok-None.ensures.ok in
    (ended-flaw c.args.reader.now.rest g.0, ended-lines c.args.reader.now.rest g.0)

pub returns-in-Ok-clause-step : goal.returns-in-Ok-clause-step
returns-in-Ok-clause-step c = (
  pending-flaw c.args.reader.now.rest ∙ c.in-Ok.ensures.flaw (pending c.args.reader.now.rest) c.in-Err.ensures.fault,
  pending-lines c.args.reader.now.rest ∙ c.in-Ok.ensures.lines (pending c.args.reader.now.rest) c.in-Err.ensures.fault,
)
