use Rattle.std.proofs.Common.{◌∙◌, ap}
use Rattle.demo_generator.specs.Draws.{after}
use Rattle.demo_generator.proofs.Drawing.{after-add}
use Rattle.demo_generator.proofs.Steps.{cover_one}
use Rattle.demo_generator.proofs.parts.draw_cover.Goals as goal

pub returns-clause-cover : goal.returns-clause-cover
returns-clause-cover c = cover_one c.args.number c.args.draws.now.state c.draw_inputs.new.draws.state c.in_ok-inputs.inputs c.in_ok-output.output c.in_ok-rows.rows
    c.in_ok-inputs.ensures.inputs c.in_ok-inputs.ensures.state c.in_ok-rows.ensures.rows c.in_ok-output.ensures

pub returns-clause-state : goal.returns-clause-state
returns-clause-state c = c.in_ok-rows.ensures.state ∙ ap (after 6) c.in_ok-inputs.ensures.state ∙ after-add 3 6 c.args.draws.now.state
