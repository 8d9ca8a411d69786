use Rattle.std.proofs.Common.{rules, ◌≡◌, arith, length, map}
use Rattle.gate_graph.specs.Circuit.{net_of}
use Rattle.gate_net.specs.Net.{source_count}
use Rattle.journal_check.specs.Inner.Vectors.{bit_word}
use Rattle.journal_check.proofs.LaneLaws.{lane_detects}
use Rattle.journal_check.proofs.settling.detects_alone.Goals as goal

pub returns-clause-hit : goal.returns-clause-hit
returns-clause-hit c =
    let size : length c.args.vector.now ≡ source_count (net_of c.args.question.now.graph.now) = grind (arith, rules) in
    let words : c.as_slice.result.now ≡ map bit_word c.args.vector.now = search rules in
    lane_detects (net_of c.args.question.now.graph.now) c.args.question.now.fault c.args.vector.now c.as_slice.result.now c.detect64-found.result size words c.detect64-found.ensures.detects
