use Rattle.gate_graph.specs.Circuit.{net_of}
use Rattle.refutation.specs.FactSets.{held_by}
use Rattle.refutation_check.proofs.Quiets.{AreKnown, quiet_is}
use Rattle.refutation_check.proofs.forward.is_quiet.Goals as goal

pub returns-clause-quiet : goal.returns-clause-quiet
returns-clause-quiet c =
    let known : AreKnown (net_of c.args.question.now.graph.now) (held_by c.args.facts.now) c.run_fault.new.self.sources = rw c.run_fault.ensures.sources c.set_sources.ensures.known in
    quiet_is _ _ (held_by c.args.facts.now) _ _ _ c.readings_agree.ensures c.well_formed-2.ensures.net.acyclic c.well_formed-2.ensures.net.sources known c.run_fault.ensures.reading c.quiet-quiet.ensures
