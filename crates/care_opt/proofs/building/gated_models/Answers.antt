use Rattle.std.proofs.Common.{ap, arith, length, subst, sym, ◌∙◌}
use Rattle.cover_decompose.specs.Decomposition.{net_of_model}
use Rattle.gate_graph.specs.Circuit.{net_of}
use Rattle.gate_net.specs.Net.{Net}
use Rattle.joined_nets.specs.Growing.{IsOrdered, IsSmall}
use Rattle.care_opt.specs.Gated.{gated_net}
use Rattle.care_opt.proofs.CareFit.{one_made, share_made}
use Rattle.care_opt.proofs.building.gated_models.Goals as goal

pub gated_graph-requires-clause-share : goal.gated_graph-requires-clause-share
gated_graph-requires-clause-share c =
    share_made c.decompositions_stand.ensures.stands c.decompositions_are_formed.ensures.formed c.args.model.now c.args.care.now c.requires.ready c.requires.care_ready c.in_ok-check_care.ensures.cares
    (net_of c.in_ok-ours.ours) (net_of c.in_ok-theirs.theirs) c.in_ok-ours.ensures.net c.in_ok-theirs.ensures.net

pub gated_graph-requires-clause-order : goal.gated_graph-requires-clause-order
gated_graph-requires-clause-order c = subst (λ (n : Net). IsOrdered n) (sym c.in_ok-ours.ensures.net) c.in_ok-ours.ensures.order

pub gated_graph-requires-clause-other_order : goal.gated_graph-requires-clause-other_order
gated_graph-requires-clause-other_order c = subst (λ (n : Net). IsOrdered n) (sym c.in_ok-theirs.ensures.net) c.in_ok-theirs.ensures.order

pub gated_graph-requires-clause-small : goal.gated_graph-requires-clause-small
gated_graph-requires-clause-small c = subst (λ (n : Net). IsSmall n) (sym c.in_ok-ours.ensures.net) c.in_ok-ours.ensures.small

pub gated_graph-requires-clause-other_small : goal.gated_graph-requires-clause-other_small
gated_graph-requires-clause-other_small c = subst (λ (n : Net). IsSmall n) (sym c.in_ok-theirs.ensures.net) c.in_ok-theirs.ensures.small

pub gated_graph-requires-clause-one : goal.gated_graph-requires-clause-one
gated_graph-requires-clause-one c =
    one_made c.decompositions_stand.ensures.stands c.decompositions_are_formed.ensures.formed c.args.model.now c.args.care.now c.requires.ready c.requires.care_ready c.in_ok-check_care.ensures.cares
    (net_of c.in_ok-ours.ours) (net_of c.in_ok-theirs.theirs) c.in_ok-ours.ensures.net c.in_ok-theirs.ensures.net

pub returns-clause-net : goal.returns-clause-net
returns-clause-net c = c.in_ok-graph.ensures.net ∙ (ap (λ (n : Net). gated_net n (net_of c.in_ok-theirs.theirs)) c.in_ok-ours.ensures.net ∙ ap (λ (n : Net). gated_net (net_of_model c.args.model.now) n) c.in_ok-theirs.ensures.net)

pub returns-clause-bound : goal.returns-clause-bound
returns-clause-bound c = c.node_bound.ensures ∙ ap (λ (n : Net). length n.nodes) c.in_ok-ours.ensures.net

pub returns-clause-low : goal.returns-clause-low
returns-clause-low c =
    let is = c.node_bound.ensures in
    let same = ap (λ (n : Net). length n.nodes) c.in_ok-ours.ensures.net in
    let low = c.in_ok-ours.ensures.small.nodes in
    omega (arith, is, same, low)

pub returns-clause-can : goal.returns-clause-can
returns-clause-can c = record { cares = c.in_ok-check_care.ensures.cares; within = c.in_ok-ours.ensures.within; care_within = c.in_ok-theirs.ensures.within }
