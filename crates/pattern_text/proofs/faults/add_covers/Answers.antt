use Rattle.std.proofs.Common.{◌++◌}
use Rattle.rm_base.proofs.Public.{read_stands}
use Rattle.pattern_text.specs.Text.{fault_lines}
use Rattle.pattern_text.proofs.FaultLines.{cover_more, gates}
use Rattle.pattern_text.proofs.faults.add_covers.Goals as goal

pub loop-at-preserved : goal.loop-at-preserved
loop-at-preserved c =
    cover_more c.args.covers.now c.loop-at.at c.index-covers-at.result c.loop-at.text.items c.add_if_gate.new.text.items (c.args.text.now.items ++ fault_lines (gates c.args.covers.now) c.args.firsts.now) c.loop-at.left.now c.behind-left.result.now
    (read_stands c.args.covers.now c.loop-at.at c.index-covers-at.result c.loop-at-test.true c.index-covers-at.is)
    c.in_ok-add_if_gate.ensures c.behind-left.ensures c.loop-at.invariant
