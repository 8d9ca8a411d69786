use Rattle.std.proofs.Common.{arith, length, ◌∙◌, ◌≡◌}
use Rattle.gate_graph.specs.Circuit.{net_of}
use Rattle.fault_decision.proofs.Keeping.{fitted_serves}
use Rattle.fault_decision.proofs.decider.Decider.for_graph.Goals as goal

pub returns : goal.returns
returns c = record {
  serves = fitted_serves (net_of c.args.graph.now) c.in_ok-new-2.field-0 c.fit.new.self c.in_ok-new-2.ensures.numbers c.in_ok-new-2.ensures.trail c.in_ok-fit.ensures.room c.in_ok-fit.ensures.fitted;
  shortener = let n : c.in_ok-new-3.field-0 ≡ length (net_of c.args.graph.now).nodes = c.in_ok-new-3.ensures ∙ c.node_bound-2.ensures in omega (arith, n);
  reads = c.in_ok-new.ensures.fits;
}
