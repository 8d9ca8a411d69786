use Rattle.std.proofs.Common.{arith, length, subst, sym, ◌<◌, ◌∙◌}
use Rattle.std.proofs.lemmas.List.{length-map}
use Rattle.gate_graph.specs.Circuit.{net_of}
use Rattle.rm_base.specs.declared.numbers.NodeId.{NodeId}
use Rattle.fault_sim.proofs.Blocking.{placed_new}
use Rattle.fault_sim.proofs.ReadInOrder.{order_below}
use Rattle.fault_sim.specs.Inner.Pending.{HasRoom}
use Rattle.fault_sim.specs.Inner.Simulating.{IsWithin}
use Rattle.fault_sim.proofs.listing.list_in_order.Goals as goal
use Rattle.rm_base.specs.Numbers.{numbers_of}

pub places_of-requires-clause-below : goal.places_of-requires-clause-below
places_of-requires-clause-below c k x there =
    let below : x < length (net_of c.args.graph.now).nodes = order_below (net_of c.args.graph.now) (numbers_of c.in_ok-order.order.items) c.in_ok-order.ensures k x (rw c.as_slice.ensures.value at there) in
    omega (arith, below)

pub returns-clause-placed : goal.returns-clause-placed
returns-clause-placed c =
    let within : IsWithin (numbers_of c.in_ok-order.order.items) c.room_for-numbers.result = (λ k x there.
    let below : x < length (net_of c.args.graph.now).nodes = order_below (net_of c.args.graph.now) (numbers_of c.in_ok-order.order.items) c.in_ok-order.ensures k x there in
    omega (arith, below)) in
    placed_new (numbers_of c.in_ok-order.order.items) c.in_ok-places.places.items c.in_ok-spread.spread c.room_for-numbers.result within c.in_ok-places.ensures.size (rw c.as_slice.ensures.value at c.in_ok-places.ensures.places) c.in_ok-spread.ensures.sized
    (subst (HasRoom c.in_ok-spread.spread.pending.items) (c.len.ensures ∙ c.in_ok-order.order.ok.0 ∙ sym (length-map c.in_ok-order.order.items (λ (n : NodeId). n.0))) c.in_ok-spread.ensures.places)
    c.in_ok-spread.ensures.rested
