use Rattle.std.proofs.Common.{ℕ, ◌++◌, ◌<◌, length, subst}
use Rattle.model_faults.specs.ModelFaults.{input_faults}
use Rattle.pattern_text.specs.Text.{fault_lines}
use Rattle.pattern_text.proofs.FaultLines.{input_more}
use Rattle.pattern_text.proofs.faults.add_cover.Goals as goal

pub loop-position-preserved : goal.loop-position-preserved
loop-position-preserved c =
    input_more c.args.cover.now c.loop-position.position (length c.args.cover.now.inputs) c.loop-position.text.items c.add_input.new.text.items
    (c.args.text.now.items ++ fault_lines (input_faults c.args.cover.now 0 (length c.args.cover.now.inputs)) c.args.firsts.now) c.loop-position.left.now c.rest_of-left.result.now (subst (λ (n : ℕ). c.loop-position.position < n) c.len-position-end.ensures c.loop-position-test.true) c.in_ok-add_input.ensures c.rest_of-left.ensures c.loop-position.invariant
