-- The kinds and the pins by node number, however much room there is, and what holds of them.
use Rattle.std.specs.Prelude.{◌≡◌, ◌≢◌, ℕ, suc, ◌+◌, ◌<◌, ◌≤◌, Bool, true, List, [], ◌∷◌, Option, Some, None, length, slice_index_or, if◌then◌else◌}
use Rattle.gate_net.specs.declared.Kind.{Kind}
use Rattle.gate_net.specs.declared.Kind.TheVariants.{Source, Zero, One}
use Rattle.gate_net.specs.Meaning.{inversion}
use Rattle.pin_pool.specs.Ring.{has}
use Rattle.pin_pool.specs.Pins.{Pins}
use Rattle.pin_pool.specs.Rings.{Rings, rings_of, IsIn}
use Rattle.rm_base.specs.Numbers.{first_source, one_number, zero_number}

-- the kinds by node number, and the rings
pub record Wiring : Type 0 where
  pub kind : ℕ → Option Kind
  pub rings : Rings

abbrev pub kind_at : List (Option Kind) → ℕ → Option Kind
kind_at kinds n = slice_index_or kinds n None

abbrev pub wiring_of : List (Option Kind) → Pins → Wiring
wiring_of kinds v = record { kind = λ n. kind_at kinds n; rings = rings_of v }

-- the first numbers are the constants and the sources, and no others are
pub record AreFirst (kind : ℕ → Option Kind) (sources : ℕ) : Type 0 where
  pub source_is : (k : ℕ) → k < sources → kind (first_source + k) ≡ Some Source
  pub only_source : (n : ℕ) → kind n ≡ Some Source → (first_source ≤ n) × (n < first_source + sources)
  pub only_zero : (n : ℕ) → kind n ≡ Some Zero → n ≡ 0
  pub only_one : (n : ℕ) → kind n ≡ Some One → n ≡ 1

-- how many pins a Not has, which inverts, and how many an Xor
abbrev pub parity_pins : Bool → ℕ
parity_pins i = if i then 1 else 2

-- what holds of every graph, but that no pins make a circle
pub record IsShaped (w : Wiring) : Type 0 where
  pub zero_is : w.kind zero_number ≡ Some Zero
  pub one_is : w.kind one_number ≡ Some One
  pub one_reads : w.rings.inputs 1 ≡ []
  pub gates_live : (g p : ℕ) → has p (w.rings.inputs g) ≡ true → w.kind g ≢ None
  pub drivers_live : (n p : ℕ) → has p (w.rings.fanouts n) ≡ true → w.kind n ≢ None
  pub driven : (g p : ℕ) → has p (w.rings.inputs g) ≡ true → IsIn w.rings.fanouts p
  pub read : (n p : ℕ) → has p (w.rings.fanouts n) ≡ true → IsIn w.rings.inputs p
  pub parities : (y : ℕ) (kind : Kind) (i : Bool) → w.kind y ≡ Some kind → inversion kind ≡ Some i → length (w.rings.inputs y) ≡ parity_pins i
  pub sources : ℕ
  pub first : AreFirst w.kind sources
  pub sources_read : (n : ℕ) → w.kind n ≡ Some Source → w.rings.inputs n ≡ []

-- what holds of every graph
pub record IsWired (w : Wiring) : Type 0 where
  pub shape : IsShaped w
  pub rank : ℕ → ℕ
  pub ranked : (g n p : ℕ) → g ≢ 0 → has p (w.rings.inputs g) ≡ true → has p (w.rings.fanouts n) ≡ true → rank n < rank g

-- how many numbers with room have no live node
abbrev pub free_in : List (Option Kind) → ℕ
free_in [] = 0
free_in (None ∷ kinds) = suc (free_in kinds)
free_in (Some kind ∷ kinds) = free_in kinds
