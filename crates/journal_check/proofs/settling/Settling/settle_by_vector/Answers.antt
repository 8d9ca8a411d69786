use Rattle.std.proofs.Common.{◌+◌, ap, refl}
use Rattle.gate_graph.specs.Circuit.{net_of}
use Rattle.journal_check.specs.declared.settling.Settling.{Settling}
use Rattle.journal_check.proofs.SettleLaws.{hit_settles, pins_next}
use Rattle.journal_check.proofs.settling.Settling.settle_by_vector.Goals as goal

pub returns-clause-settling : goal.returns-clause-settling
returns-clause-settling c =
    let s : Settling = c.args.self.now in
    let t : Settling = record c.detects.new.self { settled = c.detects.new.self.settled + 1 } in
    let next = pins_next (net_of c.args.graph.now) s t c.args.given c.in_ok-fault.fault (ap (λ v. v.items) c.detects.ensures.faults.0) (ap (λ n. n + 1) c.detects.ensures.faults.1) c.requires c.in_ok-fault.ensures in
    record { batches = c.detects.ensures.settling.batches; fits = c.detects.ensures.settling.fits; words = c.detects.ensures.settling.words; within = next.0; pins = next.1 }

pub returns-clause-says : goal.returns-clause-says
returns-clause-says c =
    let s : Settling = c.args.self.now in
    let t : Settling = record c.detects.new.self { settled = c.detects.new.self.settled + 1 } in
    λ budget. hit_settles (net_of c.args.graph.now) budget s t c.args.given c.in_ok-fault.fault c.args.vector.now (ap (λ v. v.items) c.detects.ensures.faults.0) (ap (λ n. n + 1) c.detects.ensures.faults.1) c.in_ok-fault.ensures (c.if-not-detects.ensures.hit.0 refl)
