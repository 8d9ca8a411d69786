-- A simulator that is kept.
use Rattle.std.specs.Prelude.{None, Option, Some}
use Rattle.gate_net.specs.Net.{Net}
use Rattle.ternary_sim.specs.Sims.{Fits, SimState}

-- the simulator, where one is kept, fits the net
abbrev pub FitsIfKept : Option SimState → Net → Type 0
FitsIfKept None net = Unit {0}
FitsIfKept (Some s) net = Fits s net
