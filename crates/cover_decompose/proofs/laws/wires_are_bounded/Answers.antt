use Rattle.cover_decompose.proofs.Bounded.{wires_are_bounded}
use Rattle.cover_decompose.proofs.laws.wires_are_bounded.Goals as goal

pub returns : goal.returns
returns c = wires_are_bounded
