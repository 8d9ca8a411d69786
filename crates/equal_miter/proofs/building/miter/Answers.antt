use Rattle.std.proofs.Common.{ap, subst, sym, ◌∙◌}
use Rattle.cover_decompose.specs.Spelled.{plain_net}
use Rattle.gate_graph.specs.Circuit.{net_of}
use Rattle.gate_net.specs.Net.{Net}
use Rattle.joined_nets.specs.Growing.{IsOrdered, IsSmall}
use Rattle.equal_miter.specs.Miter.{miter_fault, miter_of}
use Rattle.equal_miter.proofs.Fitness.{alike_models}
use Rattle.equal_miter.proofs.building.miter.Goals as goal

pub miter_of_graphs-requires-clause-alike : goal.miter_of_graphs-requires-clause-alike
miter_of_graphs-requires-clause-alike c =
    alike_models c.plain_nets_stand.ensures.stands c.plain_nets_are_formed.ensures.formed c.args.a.now c.args.b.now (net_of c.in_ok-ours.ours) (net_of c.in_ok-theirs.theirs) c.requires.first c.requires.second c.in_ok-compare_names.ensures.same c.in_ok-ours.ensures.net c.in_ok-theirs.ensures.net

pub miter_of_graphs-requires-clause-order : goal.miter_of_graphs-requires-clause-order
miter_of_graphs-requires-clause-order c = subst (λ (n : Net). IsOrdered n) (sym c.in_ok-ours.ensures.net) c.in_ok-ours.ensures.order

pub miter_of_graphs-requires-clause-other_order : goal.miter_of_graphs-requires-clause-other_order
miter_of_graphs-requires-clause-other_order c = subst (λ (n : Net). IsOrdered n) (sym c.in_ok-theirs.ensures.net) c.in_ok-theirs.ensures.order

pub miter_of_graphs-requires-clause-small : goal.miter_of_graphs-requires-clause-small
miter_of_graphs-requires-clause-small c = subst (λ (n : Net). IsSmall n) (sym c.in_ok-ours.ensures.net) c.in_ok-ours.ensures.small

pub miter_of_graphs-requires-clause-other_small : goal.miter_of_graphs-requires-clause-other_small
miter_of_graphs-requires-clause-other_small c = subst (λ (n : Net). IsSmall n) (sym c.in_ok-theirs.ensures.net) c.in_ok-theirs.ensures.small

pub returns-clause-net : goal.returns-clause-net
returns-clause-net c = c.in_ok-made.ensures.net ∙ (ap (λ (n : Net). miter_of n (net_of c.in_ok-theirs.theirs)) c.in_ok-ours.ensures.net ∙ ap (λ (n : Net). miter_of (plain_net c.args.a.now) n) c.in_ok-theirs.ensures.net)

pub returns-clause-fault : goal.returns-clause-fault
returns-clause-fault c = c.in_ok-made.ensures.fault ∙ (ap (λ (n : Net). miter_fault n (net_of c.in_ok-theirs.theirs)) c.in_ok-ours.ensures.net ∙ ap (λ (n : Net). miter_fault (plain_net c.args.a.now) n) c.in_ok-theirs.ensures.net)

pub returns-clause-comparable : goal.returns-clause-comparable
returns-clause-comparable c = record {
  formed = c.requires.first.formed;
  other_formed = c.requires.second.formed;
  ranks = c.requires.first.ranked;
  other_ranks = c.requires.second.ranked;
  sources = c.in_ok-compare_names.ensures.same.sources;
  observed = c.in_ok-compare_names.ensures.same.observed;
}

pub returns-clause-wires : goal.returns-clause-wires
returns-clause-wires c = c.in_ok-made.ensures.wires

pub returns-clause-nodes : goal.returns-clause-nodes
returns-clause-nodes c = c.in_ok-made.ensures.nodes

pub returns-clause-live : goal.returns-clause-live
returns-clause-live c = c.in_ok-made.ensures.live

pub returns-clause-observed : goal.returns-clause-observed
returns-clause-observed c = c.in_ok-made.ensures.observed

pub returns-clause-held : goal.returns-clause-held
returns-clause-held c = c.in_ok-made.ensures.held
