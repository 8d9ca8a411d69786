use Rattle.std.proofs.Common.{List, subst}
use Rattle.podem.proofs.Going.{root_stopped, stops_one, stops_up}
use Rattle.podem.proofs.branching.give_up.Goals as goal
use Rattle.rm_base.proofs.Public.{false_from_not, true_from_not}
use Rattle.podem.specs.Inner.Going.{SpendsAt}
use Rattle.podem.specs.declared.splits.OpenSplit.{OpenSplit}

pub loop-split-preserved-in-Continue-1 : goal.loop-split-preserved-in-Continue-1
loop-split-preserved-in-Continue-1 c net fault root spent =
    stops_one net fault root c.in-Some.split c.pop.new.self c.loop-split.tree c.push.new.self (false_from_not c.in-Some.split.second c.if-not-split.true) c.in_ok-push.ensures.ok
    (subst (λ (ss : List OpenSplit). SpendsAt net fault root ss c.loop-split.tree) c.in-Some.ensures.some (c.loop-split.invariant net fault root spent))

pub loop-split-preserved : goal.loop-split-preserved
loop-split-preserved c net fault root spent =
    stops_up net fault root c.in-Some.split c.pop.new.self c.loop-split.tree (true_from_not c.in-Some.split.second c.if-not-split.false)
    (subst (λ (ss : List OpenSplit). SpendsAt net fault root ss c.loop-split.tree) c.in-Some.ensures.some (c.loop-split.invariant net fault root spent))

pub returns : goal.returns
returns c net fault root spent left =
    root_stopped net fault root c.loop-split.tree (subst (λ (ss : List OpenSplit). SpendsAt net fault root ss c.loop-split.tree) c.in_default.ensures.none (c.loop-split.invariant net fault root spent)) left
