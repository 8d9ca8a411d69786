-- How large a step makes a net, and where its new pin stands.
use Rattle.std.specs.Prelude.{◌≡◌, ℕ, ◌+◌, ◌≤◌, length}
use Rattle.gate_net.specs.Net.{Net, Reads, IsLive, IsWellFormed, drivers_of, source_count, gate_count}
use Rattle.gate_net.specs.Edits.{with_pin}
use Rattle.wire_edit.specs.declared.steps.Step.{Step}
use Rattle.wire_edit.specs.Steps.{stepped}
use Rattle.wire_edit.specs.Refusals.{live_count, nodes_made}

-- the bound on node numbers rises by at most one, and by none but a new Not
abbrev pub NumbersGrow : Type 0
NumbersGrow = (net : Net) (step : Step) → length (stepped net step).nodes ≤ length net.nodes + nodes_made step

-- the live nodes are the constants, the sources and the gates
abbrev pub LiveAreCounted : Type 0
LiveAreCounted = (net : Net) → IsWellFormed net → live_count net ≡ 2 + source_count net + gate_count net

-- an added pin is read at the last position
abbrev pub AddedIsLast : Type 0
AddedIsLast = (net : Net) (gate driver : ℕ) → IsLive net gate → Reads (with_pin net gate driver) gate (length (drivers_of net gate)) driver

-- and every other pin reads what it read
abbrev pub OthersStay : Type 0
OthersStay = (net : Net) (gate driver y position x : ℕ) → Reads net y position x → Reads (with_pin net gate driver) y position x
