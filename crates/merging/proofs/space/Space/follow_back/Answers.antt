use Rattle.std.proofs.Common.{ap, subst}
use Rattle.gate_graph.specs.Circuit.{Circuit, net_of}
use Rattle.recursive_learning.specs.Serving.{IsServing}
use Rattle.changed_nodes.proofs.Public.{same_back}
use Rattle.merging.proofs.space.Space.follow_back.Goals as goal

pub follow-requires : goal.follow-requires
follow-requires c =
    let f = c.requires.back in
    record { before = (f.0, (f.1.0, same_back (net_of c.args.self.now.trial.graph) (net_of c.graph.result.now) f.0 c.args.self.now.touched.items c.as_slice.result.now (ap (λ (v : Circuit). net_of v) c.graph.ensures) c.as_slice.ensures.value f.1.1)) }

pub returns-clause-serves : goal.returns-clause-serves
returns-clause-serves c = subst (λ (v : Circuit). IsServing (net_of v) c.follow.new.self) c.graph.ensures c.in_ok-follow.ensures.serves
