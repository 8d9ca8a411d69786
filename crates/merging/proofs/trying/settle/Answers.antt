use Rattle.std.proofs.Common.{◌++◌, List, sym, ◌∙◌, ap, subst}
use Rattle.gate_net.specs.Edits.{IsSameBut}
use Rattle.gate_net.specs.Net.{IsWellFormed, Net}
use Rattle.gate_graph.specs.Circuit.{Circuit, net_of}
use Rattle.rm_base.specs.Numbers.{numbers_of}
use Rattle.rm_base.specs.declared.numbers.NodeId.{NodeId}
use Rattle.wire_edit.proofs.Public.{tidy_reads_none}
use Rattle.wire_edit.specs.Order.{IsTidy}
use Rattle.wire_edit.specs.Tried.{Tried}
use Rattle.changed_nodes.specs.Changing.{ListsNoted}
use Rattle.merging.specs.Inner.Going.{Goes}
use Rattle.merging.proofs.GoingOn.{follows_steps, tidied_goes, tidied_stays}
use Rattle.changed_nodes.proofs.Public.{same_listed}
use Rattle.merging.proofs.trying.settle.Goals as goal

pub follow-requires : goal.follow-requires
follow-requires c =
    let before : Net = net_of c.args.space.now.trial.graph in
    let after : Net = net_of c.tidy.new.trial.graph in
    let formed : IsWellFormed after = subst (λ (v : Circuit). IsWellFormed (net_of v)) c.graph.ensures c.well_formed-2.ensures.net in
    let listed : ListsNoted after c.tidy.new.changed c.in_ok-nodes.nodes.items = subst (λ (v : Circuit). ListsNoted (net_of v) c.tidy.new.changed c.in_ok-nodes.nodes.items) c.graph-2.ensures c.in_ok-nodes.ensures in
    let same : IsSameBut before after (numbers_of c.in_ok-nodes.nodes.items) = same_listed before after c.tidy.new.changed c.in_ok-nodes.nodes.items (tidy_reads_none after formed c.in_ok-tidy.ensures.tidy) (c.in_ok-tidy.ensures.noted before (c.new-changed.ensures before)) listed in
    record { follows = (before, (c.requires.serves, subst (λ (ns : List NodeId). IsSameBut before after (numbers_of ns)) (sym c.as_slice.ensures.value) same)) }

pub returns-clause-follows : goal.returns-clause-follows
returns-clause-follows c =
    let before : Net = net_of c.args.space.now.trial.graph in
    let after : Net = net_of c.tidy.new.trial.graph in
    let formed : IsWellFormed after = subst (λ (v : Circuit). IsWellFormed (net_of v)) c.graph.ensures c.well_formed-2.ensures.net in
    let listed : ListsNoted after c.tidy.new.changed c.in_ok-nodes.nodes.items = subst (λ (v : Circuit). ListsNoted (net_of v) c.tidy.new.changed c.in_ok-nodes.nodes.items) c.graph-2.ensures c.in_ok-nodes.ensures in
    let same : IsSameBut before after (numbers_of c.in_ok-nodes.nodes.items) = same_listed before after c.tidy.new.changed c.in_ok-nodes.nodes.items (tidy_reads_none after formed c.in_ok-tidy.ensures.tidy) (c.in_ok-tidy.ensures.noted before (c.new-changed.ensures before)) listed in
    follows_steps c.args.space.now c.follow.new.self c.tidy.new.trial c.in_ok-nodes.nodes.items c.follow.ensures.trial (tidied_stays c.args.space.now.trial c.tidy.new.trial c.args.log.now.items c.tidy.new.log.items c.in_ok-tidy.ensures.goes) same c.in_ok-follow.ensures.serves (c.in_ok-follow.ensures.touched ∙ ap (λ (ns : List NodeId). c.args.space.now.touched.items ++ ns) c.as_slice.ensures.value)

pub returns-clause-goes : goal.returns-clause-goes
returns-clause-goes c = subst (λ (t : Tried). Goes 0 0 c.args.space.now.trial t c.args.log.now.items c.tidy.new.log.items) (sym c.follow.ensures.trial) (tidied_goes c.args.space.now.trial c.tidy.new.trial c.args.log.now.items c.tidy.new.log.items c.in_ok-tidy.ensures.goes)

pub returns-clause-tidy : goal.returns-clause-tidy
returns-clause-tidy c = subst (λ (t : Tried). IsTidy (net_of t.graph)) (sym c.follow.ensures.trial) c.in_ok-tidy.ensures.tidy
