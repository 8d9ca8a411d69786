-- The gates that read a node, without their positions.
use Rattle.std.proofs.Common.{◌≡◌, ℕ, zero, suc, Option, Some, None, List, [], ◌∷◌, map, refl, sym, ◌∙◌, ap}
use Rattle.std.specs.Prelude.{slice_get}
use Rattle.gate_net.specs.Net.{drivers_of, Reads}
use Rattle.gate_graph.specs.Circuit.{Circuit, net_of, fanouts_of}
use Rattle.gate_graph.specs.Readers.{ListReaders}

abbrev pub gates_of : Circuit → ℕ → List ℕ
gates_of v n = map (λ (place : ℕ × ℕ). place.0) (fanouts_of v n)

at_map : (places : List (ℕ × ℕ)) (k : ℕ) (place : ℕ × ℕ) → slice_get places k ≡ Some place → slice_get (map (λ (p : ℕ × ℕ). p.0) places) k ≡ Some place.0
at_map [] k place e = cc
at_map (p ∷ ps) zero place e = ap first e
  where
    first : Option (ℕ × ℕ) → Option ℕ
    first None = None
    first (Some q) = Some q.0
at_map (p ∷ ps) (suc k) place e = at_map ps k place e

map_at : (places : List (ℕ × ℕ)) (k y : ℕ) → slice_get (map (λ (p : ℕ × ℕ). p.0) places) k ≡ Some y → (place : ℕ × ℕ) × ((slice_get places k ≡ Some place) × (place.0 ≡ y))
map_at [] k y e = cc
map_at (p ∷ ps) zero y e = (p, (refl, cc))
map_at (p ∷ ps) (suc k) y e = map_at ps k y e

pub gate_listed : (v : Circuit) → ListReaders v → (n y p : ℕ) → Reads (net_of v) y p n → (k : ℕ) × (slice_get (gates_of v n) k ≡ Some y)
gate_listed v listed n y p reads = let k : (k : ℕ) × (slice_get (fanouts_of v n) k ≡ Some (y, p)) = listed.all n (y, p) reads in (k.0, at_map (fanouts_of v n) k.0 (y, p) k.1)

pub gate_reads : (v : Circuit) → ListReaders v → (n k y : ℕ) → slice_get (gates_of v n) k ≡ Some y → (p : ℕ) × Reads (net_of v) y p n
gate_reads v listed n k y e =
    let place : (place : ℕ × ℕ) × ((slice_get (fanouts_of v n) k ≡ Some place) × (place.0 ≡ y)) = map_at (fanouts_of v n) k y e in
    let reads : Reads (net_of v) place.0.0 place.0.1 n = listed.reads n k place.0 place.1.0 in
    (place.0.1, ap (λ (g : ℕ). slice_get (drivers_of (net_of v) g) place.0.1) (sym place.1.1) ∙ reads)

pub no_gate : (k y : ℕ) → slice_get {X = ℕ} [] k ≡ Some y → ⊥
no_gate k y e = cc
