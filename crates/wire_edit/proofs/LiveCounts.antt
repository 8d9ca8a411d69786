-- A well-formed net has no live nodes but the two constants, the sources and the gates.
use Rattle.std.proofs.Common.{◌≡◌, ℕ, suc, ◌+◌, ◌≤◌, Option, Some, None, List, [], ◌∷◌, refl, ◌∙◌, ap, arith}
use Rattle.std.specs.Prelude.{slice_get}
use Rattle.std.specs.List.{sum_by}
use Rattle.std.proofs.lemmas.List.Sums.{sum_by-cons}
use Rattle.gate_net.specs.declared.Kind.{Kind}
use Rattle.gate_net.specs.declared.Kind.TheVariants.{Source, Zero, One, And, Or, Not, Xor}
use Rattle.gate_net.specs.Net.{Node, Net, node_at, flatten_option, IsWellFormed, source_count, gate_count, count_in, source_in, gate_in}
use Rattle.wire_edit.specs.Refusals.{live_count}
use Rattle.wire_edit.specs.Tests.{live_in}

live_one : (o : Option Node) → live_in o ≤ 1
live_one None = omega arith
live_one (Some n) = omega arith

kind_live : (k : Kind) → (k ≡ Zero → ⊥) → (k ≡ One → ⊥) → 1 ≤ source_in k + gate_in k
kind_live Source z o = omega arith
kind_live Zero z o = absurd (z refl)
kind_live One z o = absurd (o refl)
kind_live And z o = omega arith
kind_live Or z o = omega arith
kind_live Not z o = omega arith
kind_live Xor z o = omega arith

-- of nodes none of which is a constant
live_rest : (os : List (Option Node)) → ((k : ℕ) (n : Node) → slice_get os k ≡ Some (Some n) → (n.kind ≡ Zero → ⊥) × (n.kind ≡ One → ⊥))
    → sum_by live_in os ≤ sum_by (λ (o : Option Node). count_in o source_in) os + sum_by (λ (o : Option Node). count_in o gate_in) os
live_rest [] h = omega arith
live_rest (o ∷ os) h =
    let rest : sum_by live_in os ≤ sum_by (λ (q : Option Node). count_in q source_in) os + sum_by (λ (q : Option Node). count_in q gate_in) os = live_rest os (λ k n e. h (suc k) n e) in
    let a : sum_by live_in (o ∷ os) ≡ live_in o + sum_by live_in os = sum_by-cons live_in o os in
    let b : sum_by (λ (q : Option Node). count_in q source_in) (o ∷ os) ≡ count_in o source_in + sum_by (λ (q : Option Node). count_in q source_in) os = sum_by-cons (λ (q : Option Node). count_in q source_in) o os in
    let d : sum_by (λ (q : Option Node). count_in q gate_in) (o ∷ os) ≡ count_in o gate_in + sum_by (λ (q : Option Node). count_in q gate_in) os = sum_by-cons (λ (q : Option Node). count_in q gate_in) o os in
    let here : live_in o ≤ count_in o source_in + count_in o gate_in = one o (λ n e. h 0 n (ap Some e)) in
    omega (arith, rest, a, b, d, here)
  where
    one : (q : Option Node) → ((n : Node) → q ≡ Some n → (n.kind ≡ Zero → ⊥) × (n.kind ≡ One → ⊥)) → live_in q ≤ count_in q source_in + count_in q gate_in
    one None g = omega arith
    one (Some n) g = kind_live n.kind (g n refl).0 (g n refl).1

pub live_bound : (net : Net) → IsWellFormed net → live_count net ≤ 2 + (source_count net + gate_count net)
live_bound net well = at net.nodes refl
  where
    away : (k : ℕ) (n : Node) → slice_get net.nodes (suc (suc k)) ≡ Some (Some n) → (n.kind ≡ Zero → ⊥) × (n.kind ≡ One → ⊥)
    away k n e =
        let there : node_at net (suc (suc k)) ≡ Some n = ap flatten_option e in (
          (λ z. let x : suc (suc k) ≡ 0 = well.only_zero (suc (suc k)) (n.drivers, there ∙ ap (λ (kind : Kind). let m : Node = record { kind = kind; drivers = n.drivers } in Some m) z) in omega (arith, x)),
          (λ o. let x : suc (suc k) ≡ 1 = well.only_one (suc (suc k)) (n.drivers, there ∙ ap (λ (kind : Kind). let m : Node = record { kind = kind; drivers = n.drivers } in Some m) o) in omega (arith, x)),
        )

    at : (os : List (Option Node)) → net.nodes ≡ os → sum_by live_in os ≤ 2 + (sum_by (λ (o : Option Node). count_in o source_in) os + sum_by (λ (o : Option Node). count_in o gate_in) os)
    at [] is = omega arith
    at (a ∷ []) is = let l : live_in a ≤ 1 = live_one a in let e : sum_by live_in (a ∷ []) ≡ live_in a + 0 = sum_by-cons live_in a [] in omega (arith, l, e)
    at (a ∷ b ∷ os) is =
        let l : live_in a ≤ 1 = live_one a in
        let m : live_in b ≤ 1 = live_one b in
        let e : sum_by live_in (a ∷ b ∷ os) ≡ live_in a + sum_by live_in (b ∷ os) = sum_by-cons live_in a (b ∷ os) in
        let f : sum_by live_in (b ∷ os) ≡ live_in b + sum_by live_in os = sum_by-cons live_in b os in
        let s : sum_by (λ (o : Option Node). count_in o source_in) (a ∷ b ∷ os) ≡ count_in a source_in + sum_by (λ (o : Option Node). count_in o source_in) (b ∷ os) = sum_by-cons (λ (o : Option Node). count_in o source_in) a (b ∷ os) in
        let s' : sum_by (λ (o : Option Node). count_in o source_in) (b ∷ os) ≡ count_in b source_in + sum_by (λ (o : Option Node). count_in o source_in) os = sum_by-cons (λ (o : Option Node). count_in o source_in) b os in
        let g : sum_by (λ (o : Option Node). count_in o gate_in) (a ∷ b ∷ os) ≡ count_in a gate_in + sum_by (λ (o : Option Node). count_in o gate_in) (b ∷ os) = sum_by-cons (λ (o : Option Node). count_in o gate_in) a (b ∷ os) in
        let g' : sum_by (λ (o : Option Node). count_in o gate_in) (b ∷ os) ≡ count_in b gate_in + sum_by (λ (o : Option Node). count_in o gate_in) os = sum_by-cons (λ (o : Option Node). count_in o gate_in) b os in
        let rest : sum_by live_in os ≤ sum_by (λ (o : Option Node). count_in o source_in) os + sum_by (λ (o : Option Node). count_in o gate_in) os = live_rest os (λ k n there. away k n (ap (λ (qs : List (Option Node)). slice_get qs (suc (suc k))) is ∙ there)) in
        omega (arith, l, m, e, f, s, s', g, g', rest)
