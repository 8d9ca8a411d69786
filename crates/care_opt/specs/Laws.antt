-- The faults of an extract.
use Rattle.std.specs.Prelude.{map, ℕ, ◌≡◌}
use Rattle.gate_net.specs.Faults.{faults_of}
use Rattle.gate_net.specs.Net.{Net}
use Rattle.rm_base.specs.declared.numbers.Fault.{Fault}
use Rattle.care_opt.specs.Extract.{extract, main_faults, main_nodes, new_number}

-- the fault of the same pin, whose gate is numbered anew
abbrev pub renumbered : ℕ → Net → Fault → Fault
renumbered bound net fault = record fault { gate = record { 0 = new_number (main_nodes bound net) fault.gate.0 } }

-- the faults of the extract are those of the main gates, in the same order
abbrev pub ExtractsKeepFaults : Type 0
ExtractsKeepFaults = (bound : ℕ) (net : Net) → faults_of (extract bound net) ≡ map (renumbered bound net) (main_faults bound net)
