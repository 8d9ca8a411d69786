use Rattle.std.proofs.Common.{arith, ℕ, sym, subst}
use Rattle.gate_graph.specs.Circuit.{net_of}
use Rattle.wire_edit.specs.Inner.Trials.{IsTrial}
use Rattle.wire_edit.proofs.Trying.{begun, begins_quiet}
use Rattle.wire_edit.proofs.reserving.prepare.Goals as goal

pub returns-clause-parts : goal.returns-clause-parts
returns-clause-parts c = (
  subst (λ (m : ℕ). IsTrial c.reserve.new.self c.in_ok-undos.undos c.args.room m c.in_ok-worklist.worklist) (sym c.in_ok-marks.ensures)
      (begun c.reserve.new.self (net_of c.args.graph.now) c.in_ok-undos.undos c.args.room c.wire_count.result c.in-Some.entries c.saturating_add-numbers.result c.in_ok-worklist.worklist c.reserve.ensures.net
      c.in_ok-undos.ensures.0 c.leads_back.ensures c.wire_count.ensures c.in-Some.ensures c.in_ok-undos.ensures.1 c.in_ok-reserve.ensures.pins c.in_ok-reserve.ensures.nodes
      (omega (arith, c.saturating_add-numbers.ensures, c.node_bound.ensures)) c.well_formed-2.ensures.nodes c.in_ok-worklist.ensures.0
      (begins_quiet (net_of c.args.graph.now) c.args.tidy c.saturating_add-numbers.result c.in_ok-worklist.worklist c.requires.tidy c.in_ok-worklist.ensures.1)),
  (c.in_ok-made.ensures, (c.in_ok-undos.ensures.0, (omega (arith, c.in_ok-marks.ensures, c.in_ok-seen.ensures), (omega (arith, c.in_ok-marks.ensures, c.in_ok-kept.ensures.1), c.in_ok-kept.ensures.0)))),
)
