-- A gate some of whose pins are gone.
use Rattle.std.specs.Prelude.{◌≡◌, ◌≢◌, ℕ, true, false, List}
use Rattle.pin_pool.specs.Ring.{has}
use Rattle.pin_pool.specs.Pins.{list_of}
use Rattle.gate_graph.specs.declared.undo_list.Undo.{Undo}
use Rattle.pin_pool.specs.Rings.{AreRings, rings_of}
use Rattle.gate_graph.specs.Circuit.{Circuit, fans_in}
use Rattle.gate_graph.specs.Spots.{without_gate}
use Rattle.gate_graph.specs.Undoing.{LeadOn}

pub record IsEmptied (v w : Circuit) (g : ℕ) (es fs : List Undo) : Type 0 where
  pub rings : AreRings (rings_of w.pool)
  pub kinds : w.kinds ≡ v.kinds
  pub less_in : (n q : ℕ) → has q (list_of w.pool.inputs n) ≡ true → has q (list_of v.pool.inputs n) ≡ true
  pub less_out : (n q : ℕ) → has q (list_of w.pool.fanouts n) ≡ true → has q (list_of v.pool.fanouts n) ≡ true
  pub others : (n : ℕ) → n ≢ g → list_of w.pool.inputs n ≡ list_of v.pool.inputs n
  pub stay : (n q : ℕ) → has q (list_of v.pool.fanouts n) ≡ true → has q (list_of v.pool.inputs g) ≡ false → has q (list_of w.pool.fanouts n) ≡ true
  pub driven : (n q : ℕ) → has q (list_of w.pool.inputs n) ≡ true → (m : ℕ) × (has q (list_of w.pool.fanouts m) ≡ true)
  pub read : (n q : ℕ) → has q (list_of w.pool.fanouts n) ≡ true → (m : ℕ) → has q (list_of v.pool.inputs m) ≡ true → has q (list_of w.pool.inputs m) ≡ true
  pub fans : (n : ℕ) → without_gate g (fans_in w.pool n) ≡ without_gate g (fans_in v.pool n)
  pub undos : LeadOn v w es fs
