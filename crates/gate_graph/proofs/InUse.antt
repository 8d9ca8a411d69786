-- Which nodes some pin reads, or are observed.
use Rattle.std.proofs.Common.{◌≡◌, ℕ, true, List, [], ◌∷◌, map, refl, sym, ap, ◌∙◌, inl, inr}
use Rattle.std.proofs.lemmas.Bool.{cases_Bool, false≢true}
use Rattle.gate_net.specs.Net.{IsObserved}
use Rattle.pin_pool.specs.Ring.{has}
use Rattle.pin_pool.specs.Pins.{list_of}
use Rattle.pin_pool.specs.Rings.{AreRings, rings_of}
use Rattle.gate_graph.specs.Wirings.{IsShaped}
use Rattle.gate_graph.specs.Circuit.{Circuit, wiring, net_of, fanouts_of, reader, without_observed}
use Rattle.gate_graph.proofs.Placed.{fanouts-are, observed-found, observed-pin}
use Rattle.gate_graph.proofs.Listed.{kept-has}

none-mapped : (f : ℕ → ℕ × ℕ) (xs : List ℕ) → map f xs ≡ [] → xs ≡ []
none-mapped f [] e = refl
none-mapped f (x ∷ xs) e = cc

pub unread : (v : Circuit) (n : ℕ) → list_of v.pool.fanouts n ≡ [] → fanouts_of v n ≡ []
unread v n e = sym (fanouts-are v n) ∙ ap (λ (l : List ℕ). map (reader v.pool) (without_observed (list_of v.pool.inputs 0) l)) e

pub unobserved : (v : Circuit) → AreRings (rings_of v.pool) → IsShaped (wiring v) → (n : ℕ) → list_of v.pool.fanouts n ≡ [] → IsObserved (net_of v) n → ⊥
unobserved v r s n e o =
    let p = observed-pin v r s n o in
    false≢true (sym (ap (has p.0) e) ∙ p.1.0)

pub used : (v : Circuit) → AreRings (rings_of v.pool) → IsShaped (wiring v) → (n : ℕ) → (p : ℕ) × (has p (list_of v.pool.fanouts n) ≡ true) → fanouts_of v n ≡ [] → IsObserved (net_of v) n
used v r s n p none = elim (cases_Bool (has p.0 (list_of v.pool.inputs 0))) [
  | inl in' ↦ observed-found v r s n p.0 p.1 in'
  | inr out ↦
      let left = none-mapped (reader v.pool) (without_observed (list_of v.pool.inputs 0) (list_of v.pool.fanouts n)) (fanouts-are v n ∙ none) in
      absurd (false≢true (sym (ap (has p.0) left) ∙ kept-has (list_of v.pool.inputs 0) (list_of v.pool.fanouts n) p.0 p.1 out))
]
