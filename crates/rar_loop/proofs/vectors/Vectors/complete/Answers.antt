use Rattle.fault_sim.specs.Words.{assignment}
use Rattle.rar_loop.proofs.vectors.Vectors.complete.Goals as goal

pub returns-clause-detected : goal.returns-clause-detected
returns-clause-detected c = λ _.
    let lane = c.any.ensures c.if-not-any.false in
    (assignment c.as_slice.result.now lane.0, c.in_ok-found.ensures.detected lane.0 lane.1.0 lane.1.1)
