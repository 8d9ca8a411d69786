use Rattle.std.proofs.Common.{◌∙◌, ap}
use Rattle.demo_generator.specs.Draws.{after}
use Rattle.demo_generator.proofs.Drawing.{after-add}
use Rattle.demo_generator.proofs.parts.draw_rows.Goals as goal

pub returns-clause-state : goal.returns-clause-state
returns-clause-state c = c.in_ok-draw_row-2.ensures.state ∙ ap (after 3) c.in_ok-draw_row.ensures.state ∙ after-add 3 3 c.args.draws.now.state
