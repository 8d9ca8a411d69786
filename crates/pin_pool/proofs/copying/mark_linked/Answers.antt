use Rattle.std.proofs.Common.{◌≡◌, List, Bool, false, ap, ◌∙◌, arith, length}
use Rattle.std.proofs.lemmas.List.{length-replicate, take_all}
use Rattle.pin_pool.specs.Inner.Links.{lists_of}
use Rattle.pin_pool.specs.Inner.Marks.{is_listed, is_marked}
use Rattle.pin_pool.specs.declared.links.Side.TheVariants.{Gate}
use Rattle.pin_pool.proofs.Copied.{few-here, marked-rings, none-marked, ring-below}
use Rattle.pin_pool.proofs.copying.mark_linked.Goals as goal

pub invariant_of-ring : goal.invariant_of-ring
invariant_of-ring c = few-here c.args.pins.now c.args.gates.now c.loop-ends.ends-index c.requires.lists c.loop-ends-test.true

pub mark_ring-requires : goal.mark_ring-requires
mark_ring-requires c =
    let size : length c.loop-ends.marks ≡ length c.args.pins.now = c.loop-ends.auto.marks ∙ ap length c.requires.clear ∙ length-replicate (length c.args.pins.now) false in
    ring-below c.args.pins.now c.args.gates.now c.loop-ends.ends-index _ c.requires.lists c.loop-ends-test.true size

pub loop-ends-init : goal.loop-ends-init
loop-ends-init c = λ q. ap (λ (m : List Bool). is_marked m q) c.requires.clear ∙ none-marked (length c.args.pins.now) q

pub loop-ends-preserved : goal.loop-ends-preserved
loop-ends-preserved c = marked-rings c.args.pins.now c.args.gates.now c.loop-ends.ends-index c.loop-ends.marks _ c.requires.lists c.loop-ends-test.true c.loop-ends.invariant c.mark_ring.ensures

pub returns : goal.returns
returns c = λ q. c.loop-ends.invariant q ∙ ap (is_listed q) (take_all c.loop-ends.ends-index (lists_of Gate c.args.pins.now c.args.gates.now) (omega (arith, c.requires.lists.sizes, c.loop-ends-test.false)))
