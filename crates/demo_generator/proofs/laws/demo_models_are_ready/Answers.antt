use Rattle.demo_generator.proofs.Ready.{ready}
use Rattle.demo_generator.proofs.laws.demo_models_are_ready.Goals as goal

pub returns : goal.returns
returns c = ready c.wires_are_bounded.ensures (λ m once. (c.ranks_exist.ensures.ranked m once).0)
