use Rattle.std.proofs.Common.{ap, ◌∙◌}
use Rattle.candidate_wires.proofs.StampLists.{marks-fresh}
use Rattle.candidate_wires.specs.Inner.Stamped.{marks_of}
use Rattle.candidate_wires.proofs.node_set.NodeSet.new.Goals as goal

pub returns : goal.returns
returns c = ap (marks_of 1) c.in_ok-stamps.ensures ∙ marks-fresh c.args.numbers
