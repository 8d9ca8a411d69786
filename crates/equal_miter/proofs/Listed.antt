-- Values of listed nodes.
use Rattle.std.proofs.Common.{Bool, List, [], arith, length, map, refl, subst, suc, ℕ, ◌++◌, ◌+◌, ◌∷◌, ◌≡◌}
use Rattle.std.specs.Prelude.{Some, slice_get}
use Rattle.gate_net.specs.Net.{Node}
use Rattle.gate_net.specs.Values.{gate_value}

-- each of the nodes, numbered from this number on, has the value of its function
abbrev pub Met : (ℕ → Bool) → (ℕ → Bool) → ℕ → List Node → Type 0
Met v a base [] = Unit {0}
Met v a base (n ∷ ns) = (v base ≡ gate_value n.kind (a base) (map v n.drivers)) × Met v a (suc base) ns

pub met_by_place : (v a : ℕ → Bool) (base : ℕ) (ns : List Node) → ((k : ℕ) (n : Node) → slice_get ns k ≡ Some n → v (base + k) ≡ gate_value n.kind (a (base + k)) (map v n.drivers)) → Met v a base ns
met_by_place v a base [] h = tt
met_by_place v a base (n ∷ ns) h = (first, met_by_place v a (suc base) ns rest)
  where
    first : v base ≡ gate_value n.kind (a base) (map v n.drivers)
    first = let same : base + 0 ≡ base = omega arith in let P : ℕ → Type 0 = λ i. v i ≡ gate_value n.kind (a i) (map v n.drivers) in subst P same (h 0 n refl)

    rest : (k : ℕ) (m : Node) → slice_get ns k ≡ Some m → v (suc base + k) ≡ gate_value m.kind (a (suc base + k)) (map v m.drivers)
    rest k m e = let same : base + suc k ≡ suc base + k = omega arith in let P : ℕ → Type 0 = λ i. v i ≡ gate_value m.kind (a i) (map v m.drivers) in subst P same (h (suc k) m e)

pub met_parts : (v a : ℕ → Bool) (base : ℕ) (ns ms : List Node) → Met v a base (ns ++ ms) → Met v a base ns × Met v a (base + length ns) ms
met_parts v a base [] ms h = let same : base ≡ base + 0 = omega arith in (tt, subst (λ (i : ℕ). Met v a i ms) same h)
met_parts v a base (n ∷ ns) ms h =
    let parts = met_parts v a (suc base) ns ms h.1 in
    let same : suc base + length ns ≡ base + suc (length ns) = omega arith in
    ((h.0, parts.0), subst (λ (i : ℕ). Met v a i ms) same parts.1)
