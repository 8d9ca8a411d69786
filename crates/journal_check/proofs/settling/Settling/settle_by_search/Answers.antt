use Rattle.std.proofs.Common.{◌+◌, refl}
use Rattle.gate_graph.specs.Circuit.{net_of}
use Rattle.journal_check.specs.declared.settling.Settling.{Settling}
use Rattle.journal_check.proofs.SettleLaws.{pins_next, spent_settles}
use Rattle.journal_check.proofs.settling.Settling.settle_by_search.Goals as goal

pub returns-clause-settling : goal.returns-clause-settling
returns-clause-settling c =
    let s : Settling = c.args.self.now in
    let t : Settling = record s { settled = s.settled + 1 } in
    let next = pins_next (net_of c.args.graph.now) s t c.args.given c.in_ok-fault.fault refl refl c.requires c.in_ok-fault.ensures in
    record { batches = c.requires.batches; fits = c.requires.fits; words = c.requires.words; within = next.0; pins = next.1 }

pub returns-clause-says : goal.returns-clause-says
returns-clause-says c =
    let s : Settling = c.args.self.now in
    spent_settles (net_of c.args.graph.now) c.args.budget s (record s { settled = s.settled + 1 }) c.args.given c.in_ok-fault.fault c.args.tree.now refl refl c.in_ok-fault.ensures c.in_ok-spends.ensures.0 c.in_ok-spends.ensures.1
