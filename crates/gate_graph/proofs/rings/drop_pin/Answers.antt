use Rattle.std.proofs.Common.{arith, ap, ◌∙◌}
use Rattle.std.specs.FinSet as finset
use Rattle.std.specs.Ordering.{nat_cmp}
use Rattle.pin_pool.specs.Rings.{returned}
use Rattle.pin_pool.proofs.Public.{len-one_less}
use Rattle.gate_graph.proofs.rings.drop_pin.Goals as goal

pub returns-clause-rings : goal.returns-clause-rings
returns-clause-rings c = c.give_back.ensures.rings ∙ ap (returned c.args.pin.0) c.unlink-slot.ensures.rings

pub returns-clause-taken : goal.returns-clause-taken
returns-clause-taken c =
    let there = c.tell_rings.ensures.rings.inputs.members c.requires.gate.0 c.args.pin.0 c.requires.gate.1 in
    omega (arith, ap finset.len (c.give_back.ensures.taken ∙ ap (λ (s : finset.FinSet nat_cmp). finset.remove s c.args.pin.0) c.unlink-slot.ensures.taken), len-one_less c.args.pool.now.taken c.args.pin.0 there)
