use Rattle.std.proofs.Common.{length, subst, sym, ◌≤◌}
use Rattle.gate_graph.specs.Circuit.{net_of}
use Rattle.implications.proofs.BeginsOutside.{begins_pending, three_set}
use Rattle.implications.proofs.beginning.begin.Goals as goal

pub returns-clause-pending : goal.returns-clause-pending
returns-clause-pending c =
    let on' = three_set (net_of c.args.question.now.graph.now) c.args.question.now.fault c.hold_all_outside.new.worklist c.add.new.self c.add-2.new.self c.add-3.new.self c.well_formed-2.ensures.net c.args.question.now.pin (subst (λ n. length (net_of c.args.question.now.graph.now).nodes ≤ n) (sym c.hold_all_outside.ensures.size) c.requires.worklist) c.add.ensures c.add-2.ensures c.add-3.ensures in
    begins_pending (net_of c.args.question.now.graph.now) c.args.question.now.fault c.in_ok-facts.facts c.hold_all_outside.new.worklist c.add-3.new.self c.well_formed-2.ensures.net c.in_ok-facts.ensures.begins on'.0 on'.1.0 on'.1.1.0 on'.1.1.1
