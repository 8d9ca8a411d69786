use Rattle.fault_sim.specs.Words.{assignment}
use Rattle.care_opt.proofs.vectors.Vectors.complete.Goals as goal

pub returns-clause-detected : goal.returns-clause-detected
returns-clause-detected c = λ _. (assignment c.simulate64.new.self.words c.in-Some._lane, c.in-Some.ensures.first.1)
