-- Nets that are written as models.
use Rattle.std.specs.Prelude.{◌≡◌, ◌≤◌, ℕ, true, length}
use Rattle.rm_model.specs.WellFormed.{IsWellFormed}
use Rattle.rm_model.specs.declared.parts.Model.{Model}
use Rattle.rm_base.specs.Numbers.{one_number, zero_number}
use Rattle.gate_net.specs.Net.{Net, Reads, drivers_of, IsWellFormed as IsNet}
use Rattle.wire_edit.specs.Tests.{is_junction}
use Rattle.graph_to_model.specs.Fits.{Fits}
use Rattle.graph_to_model.specs.Laws.{AreFew}

-- gates are in use, read no constant, and have two pins or more unless they are Nots
pub record IsLean (net : Net) : Type 0 where
  pub no_zero : (y p : ℕ) → Reads net y p zero_number → ⊥
  pub no_one : (y p : ℕ) → Reads net y p one_number → ⊥
  pub two_pins : (y : ℕ) → is_junction net y ≡ true → 2 ≤ length (drivers_of net y)

-- what the laws take of a net and of the model whose names it gets
pub record IsWritable (m : Model) (net : Net) : Type 0 where
  pub formed : IsNet net
  pub lean : IsLean net
  pub well : IsWellFormed m
  pub fit : Fits net m
  pub few : AreFew net m
