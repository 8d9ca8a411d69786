-- The tidying order, to its end.
use Rattle.std.specs.Prelude.{◌≡◌, ◌≤◌, Some}
use Rattle.gate_net.specs.Net.{Net, IsWellFormed, source_count, wire_count}
use Rattle.wire_edit.specs.declared.steps.Step.{Step}
use Rattle.wire_edit.specs.Steps.{stepped}
use Rattle.wire_edit.specs.Order.{IsTidy, next_step}
use Rattle.wire_edit.specs.Work.{free_pins}

-- step by step the tidying order leads from the one net to the other, which is tidy
pub data TidiesTo : Net → Net → Type 0 where
  tidy : {net : Net} → IsTidy net → TidiesTo net net
  then : {net after : Net} (step : Step) → next_step net ≡ Some step → TidiesTo (stepped net step) after → TidiesTo net after

-- what a tidied net has of the net before
pub record IsTidiedNet (net after : Net) : Type 0 where
  pub formed : IsWellFormed after
  pub is_tidy : IsTidy after
  pub sources : source_count after ≡ source_count net
  pub wires : wire_count after ≤ wire_count net
  pub free : free_pins after ≤ free_pins net

-- the order leads from each net to one net alone
abbrev pub TidyingReaches : Type 0
TidyingReaches = (net : Net) → IsWellFormed net → (after : Net) × TidiesTo net after

abbrev pub TidiesToOne : Type 0
TidiesToOne = (net one other : Net) → TidiesTo net one → TidiesTo net other → one ≡ other

-- which is tidy, with the same sources, and no more wires and pins that no constant drives
abbrev pub TidyingKeeps : Type 0
TidyingKeeps = (net after : Net) → IsWellFormed net → TidiesTo net after → IsTidiedNet net after
