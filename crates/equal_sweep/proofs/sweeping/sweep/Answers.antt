use Rattle.gate_graph.specs.Circuit.{net_of}
use Rattle.equal_sweep.proofs.Showing.{found_shows}
use Rattle.equal_sweep.proofs.sweeping.sweep.Goals as goal

pub returns-clause-evidence : goal.returns-clause-evidence
returns-clause-evidence c =
    found_shows c.swept_models_agree.ensures c.args.a.now c.args.b.now c.args.budget (net_of c.in_ok-graph.graph) c.in_ok-graph.ensures.net c.in_ok-graph.ensures.comparable c.well_formed-2.ensures.net c.in_ok-found.found c.in_ok-found.ensures.swept
