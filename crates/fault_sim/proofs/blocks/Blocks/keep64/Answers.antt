use Rattle.std.proofs.Common.{List, length, subst, sym, ◌++◌, ◌∷◌, [], ◌≡◌, ◌<◌}
use Rattle.std.proofs.lemmas.List.{length-map}
use Rattle.gate_graph.specs.Circuit.{net_of}
use Rattle.fault_sim.proofs.Blocking.{all_simulated, blocks_more, each_more, each_simulated}
use Rattle.fault_sim.specs.BlockStates.{AreSimulated, IsSimulatedBlock}
use Rattle.fault_sim.specs.Inner.BlockStates.{good_of, words_of}
use Rattle.fault_sim.specs.declared.blocks.Block.{Block}
use Rattle.fault_sim.proofs.blocks.Blocks.keep64.Goals as goal
use Rattle.rm_base.specs.Numbers.{numbers_of}

pub invariant_of-self-2 : goal.invariant_of-self-2
invariant_of-self-2 c =
    let block = rw (c.as_slice.ensures.value, c.as_slice-2.ensures.value) at c.in_ok-block.ensures.simulated in
    let room : length (words_of c.self.inside.blocks.items) < 67108864 = rw (← c.self.view_is) at c.requires.room in
    let few : length (words_of c.self.inside.blocks.items) ≡ length c.self.inside.blocks.items = length-map c.self.inside.blocks.items (λ (b : Block). b.words.items) in
    rw c.in_ok-push.ensures.items (blocks_more (numbers_of c.self.inside.order.items) c.self.inside.places.items c.self.inside.spread c.self.inside.blocks.items c.in_ok-block.block c.self.invariant block.good (rw few at room))

pub returns-clause-simulated : goal.returns-clause-simulated
returns-clause-simulated c =
    let block = rw (c.as_slice.ensures.value, c.as_slice-2.ensures.value) at c.in_ok-block.ensures.simulated in
    let before = rw (← c.self.view_is) at c.requires.simulated in
    subst (λ (bs : List Block). AreSimulated (record { words = words_of bs; order = numbers_of c.self.inside.order.items; good = good_of bs }) (net_of c.args.graph.now)) (sym c.in_ok-push.ensures.items)
    (all_simulated (net_of c.args.graph.now) (numbers_of c.self.inside.order.items) (length c.self.inside.places.items) (c.self.inside.blocks.items ++ c.in_ok-block.block ∷ []) before.order
    (each_more (IsSimulatedBlock (net_of c.args.graph.now) (numbers_of c.self.inside.order.items) (length c.self.inside.places.items)) c.self.inside.blocks.items c.in_ok-block.block
    (each_simulated (net_of c.args.graph.now) (numbers_of c.self.inside.order.items) (length c.self.inside.places.items) c.self.inside.blocks.items c.self.invariant.1.0 before) block))
