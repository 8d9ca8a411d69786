-- How many pins of a gate hold what.
use Rattle.std.specs.Prelude.{Bool, List, Some, [], false, if◌then◌else◌, length, slice_get, suc, true, ℕ, ◌&&◌, ◌∷◌, ◌≡◌}
use Rattle.gate_graph.specs.Search.{IsSeen}
use Rattle.gate_net.specs.Net.{Net, drivers_of}
use Rattle.implications.specs.declared.tallies.Tally.{Tally}
use Rattle.refutation.specs.Facts.{Held}
use Rattle.refutation.specs.declared.reasoning.Fact.TheVariants.{Differs, Equal, Faulty, Good}

-- how many pass the test
abbrev pub counting : {A : Type 0} → (A → Bool) → List A → ℕ
counting test [] = 0
counting test (x ∷ xs) = if test x then suc (counting test xs) else counting test xs

-- the driver is held to be equal, and to have that good value
abbrev pub is_passing : Held → Bool → ℕ → Bool
is_passing held b d = held d Equal && held d (Good b)

-- the counts for a gate with these drivers, and the driver of its pin at the position
pub record IsTally (held : Held) (position : ℕ) (ds : List ℕ) (t : Tally) : Type 0 where
  pub pins : t.pins ≡ length ds
  pub good_0 : t.good_0 ≡ counting (λ (d : ℕ). held d (Good false)) ds
  pub good_1 : t.good_1 ≡ counting (λ (d : ℕ). held d (Good true)) ds
  pub faulty_0 : t.faulty_0 ≡ counting (λ (d : ℕ). held d (Faulty false)) ds
  pub faulty_1 : t.faulty_1 ≡ counting (λ (d : ℕ). held d (Faulty true)) ds
  pub equal : t.equal ≡ counting (λ (d : ℕ). held d Equal) ds
  pub differs : t.differs ≡ counting (λ (d : ℕ). held d Differs) ds
  pub passing_0 : t.passing_0 ≡ counting (is_passing held false) ds
  pub passing_1 : t.passing_1 ≡ counting (is_passing held true) ds
  pub at : (d : ℕ) → slice_get ds position ≡ Some d → t.at.0 ≡ d

-- what a contract sees of tallies: which gates were counted, and the counts by node number
pub record TallyState : Type 0 where
  pub counted : List Bool
  pub tallies : List Tally

-- each gate that was counted has its counts
abbrev pub AreTallied : Net → Held → ℕ → TallyState → Type 0
AreTallied net held position s = (y : ℕ) → IsSeen s.counted y → (t : Tally) × ((slice_get s.tallies y ≡ Some t) × IsTally held position (drivers_of net y) t)
