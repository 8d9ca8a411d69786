use Rattle.std.proofs.Common.{map, rules, ◌≡◌}
use Rattle.gate_graph.specs.Circuit.{net_of}
use Rattle.proof_check.specs.Inner.Vectors.{bit_word}
use Rattle.proof_check.proofs.Lanes.{lane_detects}
use Rattle.proof_check.proofs.vectors.detects.Goals as goal

pub returns : goal.returns
returns c =
    let words : c.as_slice.result.now ≡ map bit_word c.args.vector.now = search rules in
    lane_detects (net_of c.args.question.now.graph.now) c.args.question.now.fault c.args.vector.now c.as_slice.result.now c.detect64-found.result c.requires.size words c.detect64-found.ensures.detects
