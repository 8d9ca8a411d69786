-- Vectors that are kept for a net.
use Rattle.fault_sim.specs.BlockStates.{AreSimulated}
use Rattle.gate_net.specs.Net.{Net}
use Rattle.care_opt.specs.declared.vectors.Vectors.{Vectors}

-- their blocks are simulated for the net
abbrev pub AreKept : Vectors → Net → Type 0
AreKept vectors net = AreSimulated vectors.blocks net
