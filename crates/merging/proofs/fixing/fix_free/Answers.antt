use Rattle.std.proofs.Common.{refl, sym, subst}
use Rattle.gate_net.specs.Values.{HasPin}
use Rattle.gate_graph.specs.Circuit.{Circuit, net_of}
use Rattle.recursive_learning.specs.Serving.{IsServing}
use Rattle.merging.specs.Inner.Going.{Follows}
use Rattle.merging.proofs.GoingOn.{follows_refuter, follows_then, goes_none, on_ok}
use Rattle.merging.proofs.fixing.fix_free.Goals as goal

pub invariant_of-question : goal.invariant_of-question
invariant_of-question c = record { pin = subst (λ (v : Circuit). HasPin (net_of v) c.args.fault) (sym c.graph.ensures) (c.requires.free.0, c.requires.free.1.0) }

pub returns-in-None-clause-follows : goal.returns-in-None-clause-follows
returns-in-None-clause-follows c =
    follows_refuter c.args.space.now (record c.args.space.now { refuter = c.refuted.new.refuter }) refl refl (subst (λ (v : Circuit). IsServing (net_of v) c.refuted.new.refuter) c.graph.ensures c.in_ok-refuted.ensures.serves)

pub returns-in-Some-clause-follows : goal.returns-in-Some-clause-follows
returns-in-Some-clause-follows c =
    let first : Follows c.args.space.now (record c.args.space.now { refuter = c.refuted.new.refuter }) =
    follows_refuter c.args.space.now (record c.args.space.now { refuter = c.refuted.new.refuter }) refl refl (subst (λ (v : Circuit). IsServing (net_of v) c.refuted.new.refuter) c.graph.ensures c.in_ok-refuted.ensures.serves) in
    on_ok c.make_fix.result _ _ (λ f. follows_then c.args.space.now (record c.args.space.now { refuter = c.refuted.new.refuter }) c.make_fix.new.space first f) c.make_fix.ensures.follows

pub returns-in-None-clause-goes : goal.returns-in-None-clause-goes
returns-in-None-clause-goes c = goes_none c.args.space.now.trial c.args.log.now.items
