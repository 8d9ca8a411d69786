use Rattle.std.proofs.Common.{length, subst, sym, ◌≤◌}
use Rattle.gate_graph.specs.Circuit.{net_of}
use Rattle.implications.proofs.Bases.{outside_pending}
use Rattle.implications.proofs.BeginsOutside.{three_set}
use Rattle.implications.proofs.opening.list_unsettled.Goals as goal

pub returns-clause-pending : goal.returns-clause-pending
returns-clause-pending c =
    let on' = three_set (net_of c.args.question.now.graph.now) c.args.question.now.fault c.list_all.new.worklist c.add.new.self c.add-2.new.self c.add-3.new.self c.well_formed-2.ensures.net c.args.question.now.pin (subst (λ n. length (net_of c.args.question.now.graph.now).nodes ≤ n) (sym c.list_all.ensures.size) c.requires.worklist) c.add.ensures c.add-2.ensures c.add-3.ensures in
    outside_pending (net_of c.args.question.now.graph.now) c.args.question.now.fault c.args.pinless.now c.add-3.new.self c.well_formed-2.ensures.net c.requires.pinless (λ k n there. on'.0 n.0 (c.list_all.ensures.all k n there)) on'.1.0 on'.1.1.0 on'.1.1.1
