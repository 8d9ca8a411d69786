use Rattle.std.proofs.Common.{sym, subst}
use Rattle.gate_graph.specs.Circuit.{Circuit, net_of}
use Rattle.gate_net.specs.Edits.{IsSameBut}
use Rattle.recursive_learning.specs.Serving.{IsServing}
use Rattle.rm_base.specs.Numbers.{numbers_of}
use Rattle.merging.proofs.space.Space.follow.Goals as goal

pub follow-requires : goal.follow-requires
follow-requires c =
    let f = c.requires.follows in
    record { before = (f.0, (f.1.0, subst (λ (v : Circuit). IsSameBut f.0 (net_of v) (numbers_of c.args.nodes.now)) (sym c.graph.ensures) f.1.1)) }

pub returns-clause-serves : goal.returns-clause-serves
returns-clause-serves c = subst (λ (v : Circuit). IsServing (net_of v) c.follow.new.self) c.graph.ensures c.in_ok-follow.ensures.serves

pub returns-clause-touched : goal.returns-clause-touched
returns-clause-touched c = c.in_ok-extend_from_slice.ensures.items
