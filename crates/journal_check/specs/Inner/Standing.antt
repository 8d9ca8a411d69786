-- Beside Standing.antt: what only private contracts, invariants and laws speak of.
use Rattle.std.specs.Prelude.{[], Option, Some, None}
use Rattle.gate_net.specs.Net.{Net}
use Rattle.journal_check.specs.declared.state.ReplayState.{ReplayState}
use Rattle.journal_check.specs.Inner.ReplayStates.{IsReplayState, position_of}
use Rattle.journal_check.specs.Replaying.{Position, editing}

abbrev pub no_net : Net
no_net = record { nodes = []; observed = [] }

abbrev pub position_in : Option ReplayState → Position
position_in (Some b) = position_of b
position_in None = editing no_net

-- the graph is there
abbrev pub IsThere : Option ReplayState → Type 0
IsThere (Some b) = IsReplayState b
IsThere None = ⊥
