use Rattle.std.proofs.Common.{◌≡◌, ◌+◌, ◌++◌, ◌∷◌, [], List, length, rules, arith, ap, ◌∙◌}
use Rattle.std.proofs.lemmas.List.{nil_from_length}
use Rattle.blif_flatten.specs.declared.walk.Frame.{Frame}
use Rattle.blif_flatten.proofs.Walks.{top_frame, walk-start, walk-on, walk-end}
use Rattle.blif_flatten.specs.Instances.{instance_count, whole}
use Rattle.blif_flatten.specs.Inner.Walk.{joined, pieces_in}
use Rattle.blif_flatten.specs.Recursion.{links_of}
use Rattle.blif_flatten.proofs.walk.walk_calls.Goals as goal

pub loop-frame-init : goal.loop-frame-init
loop-frame-init c = walk-start c.args.lead.now c.args.modules.now c.requires.ranked c.args.top c.args.start c.push.new.self.items c.requires.top
    (c.in_ok-push.ensures.items ∙ ap (λ (fs : List Frame). fs ++ top_frame c.args.top ∷ []) c.new-stack.ensures.items)

pub take_frame-requires-clause-few : goal.take_frame-requires-clause-few
take_frame-requires-clause-few c = omega (arith, c.requires.few, c.loop-frame.invariant.1)

pub loop-frame-smaller : goal.loop-frame-smaller
loop-frame-smaller c =
    (walk-on c.args.lead.now c.args.modules.now c.loop-frame.instances c.in_ok-instances.instances c.in-Some.frame c.loop-frame.stack.items c.pop.new.self.items c.take_frame.new.stack.items c.loop-frame.out c.take_frame.new.out
    (joined c.args.start (pieces_in c.args.lead.now 0 1 (whole c.args.modules.now (links_of c.args.modules.now c.args.top)))) (1 + instance_count (whole c.args.modules.now (links_of c.args.modules.now c.args.top)))
    c.in-Some.ensures.items c.in_ok-instances.ensures c.loop-frame.invariant.0 c.loop-frame.invariant.1).1

pub loop-frame-preserved : goal.loop-frame-preserved
loop-frame-preserved c =
    (walk-on c.args.lead.now c.args.modules.now c.loop-frame.instances c.in_ok-instances.instances c.in-Some.frame c.loop-frame.stack.items c.pop.new.self.items c.take_frame.new.stack.items c.loop-frame.out c.take_frame.new.out
    (joined c.args.start (pieces_in c.args.lead.now 0 1 (whole c.args.modules.now (links_of c.args.modules.now c.args.top)))) (1 + instance_count (whole c.args.modules.now (links_of c.args.modules.now c.args.top)))
    c.in-Some.ensures.items c.in_ok-instances.ensures c.loop-frame.invariant.0 c.loop-frame.invariant.1).0

pub returns-clause-pieces : goal.returns-clause-pieces
returns-clause-pieces c =
    let gone : length c.loop-frame.stack.items ≡ 0 = first_of (grind (arith, c.in_default.ensures.cases), omega (arith, c.loop-frame.stack.ok, c.in_default.ensures.cases), search (rules, c.in_default.ensures.cases)) in
    (walk-end c.args.lead.now c.args.modules.now c.loop-frame.instances c.loop-frame.stack.items c.loop-frame.out
    (joined c.args.start (pieces_in c.args.lead.now 0 1 (whole c.args.modules.now (links_of c.args.modules.now c.args.top)))) (1 + instance_count (whole c.args.modules.now (links_of c.args.modules.now c.args.top)))
    (nil_from_length c.loop-frame.stack.items gone) c.loop-frame.invariant.0 c.loop-frame.invariant.1).0

pub returns-clause-count : goal.returns-clause-count
returns-clause-count c =
    let gone : length c.loop-frame.stack.items ≡ 0 = first_of (grind (arith, c.in_default.ensures.cases), omega (arith, c.loop-frame.stack.ok, c.in_default.ensures.cases), search (rules, c.in_default.ensures.cases)) in
    (walk-end c.args.lead.now c.args.modules.now c.loop-frame.instances c.loop-frame.stack.items c.loop-frame.out
    (joined c.args.start (pieces_in c.args.lead.now 0 1 (whole c.args.modules.now (links_of c.args.modules.now c.args.top)))) (1 + instance_count (whole c.args.modules.now (links_of c.args.modules.now c.args.top)))
    (nil_from_length c.loop-frame.stack.items gone) c.loop-frame.invariant.0 c.loop-frame.invariant.1).1
