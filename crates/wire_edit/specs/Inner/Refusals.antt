-- Beside Refusals.antt: what only private contracts, invariants and laws speak of.
use Rattle.std.specs.Prelude.{◌≡◌, Bool, true, ◌↔◌, Option}
use Rattle.gate_net.specs.Net.{Net}
use Rattle.wire_edit.specs.declared.steps.Step.{Step}
use Rattle.wire_edit.specs.declared.refusal.EditRefusal.{EditRefusal}
use Rattle.wire_edit.specs.Refusals.{fault_of, ClosesCycle}

-- the first reason that lies in the net
pub record IsFault (net : Net) (step : Step) (answer : Option EditRefusal) : Type 0 where
  pub cyclic : Bool
  pub tells : (cyclic ≡ true) ↔ ClosesCycle net step
  pub is : answer ≡ fault_of net step cyclic
