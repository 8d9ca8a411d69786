use Rattle.std.proofs.Common.{List, ap, length, subst, ℕ, ◌∙◌, ◌≡◌}
use Rattle.fault_sim.specs.BlockStates.{BlockState, DetectsInBlock}
use Rattle.fault_sim.specs.Inner.BlockStates.{words_of}
use Rattle.gate_graph.specs.Circuit.{net_of}
use Rattle.fault_sim.proofs.Blocking.{each_simulated}
use Rattle.fault_sim.proofs.blocks.Blocks.block_detects.Goals as goal
use Rattle.rm_base.specs.Numbers.{numbers_of}

pub detects_among-requires-clause-blocks : goal.detects_among-requires-clause-blocks
detects_among-requires-clause-blocks c =
    let before = rw (← c.self.view_is) at c.requires.simulated in
    rw (c.as_slice.ensures.value, c.as_slice-2.ensures.value, c.as_slice-3.ensures.value)
    (each_simulated (net_of c.args.question.now.graph.now) (numbers_of c.self.inside.order.items) (length c.self.inside.places.items) c.self.inside.blocks.items c.self.invariant.1.0 before)

pub returns-clause-detects : goal.returns-clause-detects
returns-clause-detects c = λ yes.
    let words : words_of c.as_slice-3.result.now ≡ c.args.self.now.words = ap words_of c.as_slice-3.ensures.value ∙ ap (λ (s : BlockState). s.words) c.self.view_is in
    subst (λ (ws : List (List ℕ)). DetectsInBlock (net_of c.args.question.now.graph.now) c.args.question.now.fault ws c.args.number) words (c.detects_among.ensures.detects yes)
