-- Nets of which no pin is refuted.
use Rattle.std.specs.Prelude.{ℕ}
use Rattle.rm_base.specs.declared.numbers.Fault.{Fault}
use Rattle.gate_net.specs.Net.{Net}
use Rattle.gate_net.specs.Values.{HasPin}
use Rattle.refutation.specs.Detected.{HasOpenSet}

-- every pin fault has a set of facts that is closed at the depth without a clash
abbrev pub IsSwept : Net → ℕ → Type 0
IsSwept net depth = (fault : Fault) → HasPin net fault → HasOpenSet net fault depth
