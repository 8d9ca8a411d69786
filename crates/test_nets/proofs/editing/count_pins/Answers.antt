use Rattle.std.proofs.Common.{map, length, length-append, ap, ◌∙◌, arith}
use Rattle.std.proofs.lemmas.List.{length-map}
use Rattle.rm_base.specs.declared.numbers.NodeId.{NodeId}
use Rattle.test_nets.proofs.editing.count_pins.Goals as goal

pub overflow_add-count : goal.overflow_add-count
overflow_add-count c =
    let i = c.loop.invariant in
    let all = ap length i.all ∙ length-append (map (λ (n : NodeId). n.0) c.loop.yielded) c.loop.iterator' in
    omega (arith, i.count, all, length-map c.loop.yielded (λ (n : NodeId). n.0), ap length c.in-Some.ensures.steps, c.inputs_of-items.ensures.few, ap length c.inputs_of-items.ensures.drivers)
