use Rattle.std.proofs.Common.{◌∙◌}
use Rattle.gate_graph.specs.Circuit.{net_of}
use Rattle.care_opt.proofs.Refuted.{passed_of, pins_of}
use Rattle.care_opt.proofs.closing.pass.Goals as goal

pub judge_all-requires-clause-pins : goal.judge_all-requires-clause-pins
judge_all-requires-clause-pins c = pins_of c.args.bound (net_of c.args.graph.now) c.as_slice.result.now (c.as_slice.ensures.value ∙ c.in_ok-faults.ensures)

pub returns-clause-passed : goal.returns-clause-passed
returns-clause-passed c = passed_of c.args.bound (net_of c.args.graph.now) c.args.depth c.args.budget c.as_slice.result.now c.in_ok-passed.passed (c.as_slice.ensures.value ∙ c.in_ok-faults.ensures) c.in_ok-passed.ensures.judged
