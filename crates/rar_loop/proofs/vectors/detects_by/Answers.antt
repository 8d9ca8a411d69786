use Rattle.fault_sim.specs.BlockStates.{words_at}
use Rattle.fault_sim.specs.Words.{assignment}
use Rattle.rar_loop.proofs.vectors.detects_by.Goals as goal

pub returns-clause-detected : goal.returns-clause-detected
returns-clause-detected c = λ some.
    let lane = c.block_detects.ensures.detects some in
    (assignment (words_at c.args.blocks.now.words _) lane.0, lane.1.1)
