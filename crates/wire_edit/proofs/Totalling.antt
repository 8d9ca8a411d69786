-- Sums over the numbers of a net.
use Rattle.std.proofs.Common.{◌≡◌, ℕ, zero, suc, ◌+◌, ◌<◌, ◌≤◌, Option, Some, None, List, [], ◌∷◌, length, take, true, false, refl, ◌∙◌, ap, arith}
use Rattle.std.specs.Prelude.{slice_get}
use Rattle.std.specs.List.{sum_by}
use Rattle.std.proofs.lemmas.List.Sums.{sum_by-cons}
use Rattle.std.proofs.lemmas.List.{take_all}
use Rattle.gate_net.specs.Net.{Node, Net, node_at, flatten_option, drivers_in}
use Rattle.wire_edit.specs.Tests.{is_live, is_present, live_in}

pub sum_more : (f : Option Node → ℕ) (os : List (Option Node)) (n : ℕ) → n < length os → sum_by f (take (n + 1) os) ≡ sum_by f (take n os) + f (flatten_option (slice_get os n))
sum_more f [] n lt = absurd (omega (arith, lt))
sum_more f (o ∷ os) zero lt = sum_by-cons f o [] ∙ omega arith
sum_more f (o ∷ os) (suc n) lt =
    let e : suc n + 1 ≡ suc (n + 1) = omega arith in
    let rest : sum_by f (take (n + 1) os) ≡ sum_by f (take n os) + f (flatten_option (slice_get os n)) = sum_more f os n (omega (arith, lt)) in
    let a : sum_by f (o ∷ take (n + 1) os) ≡ f o + sum_by f (take (n + 1) os) = sum_by-cons f o (take (n + 1) os) in
    let b : sum_by f (o ∷ take n os) ≡ f o + sum_by f (take n os) = sum_by-cons f o (take n os) in
    ap (λ k. sum_by f (take k (o ∷ os))) e ∙ omega (arith, rest, a, b)

pub sum_below : (f : Option Node → ℕ) (os : List (Option Node)) (n : ℕ) → sum_by f (take n os) ≤ sum_by f os
sum_below f os zero = omega arith
sum_below f [] (suc n) = omega arith
sum_below f (o ∷ os) (suc n) =
    let rest : sum_by f (take n os) ≤ sum_by f os = sum_below f os n in
    let a : sum_by f (o ∷ take n os) ≡ f o + sum_by f (take n os) = sum_by-cons f o (take n os) in
    let b : sum_by f (o ∷ os) ≡ f o + sum_by f os = sum_by-cons f o os in
    omega (arith, rest, a, b)

pub sum_all : (f : Option Node → ℕ) (os : List (Option Node)) (n : ℕ) → length os ≤ n → sum_by f (take n os) ≡ sum_by f os
sum_all f os n le = ap (sum_by f) (take_all n os le)

pub live_one : (net : Net) (x : ℕ) → is_live net x ≡ true → live_in (node_at net x) ≡ 1
live_one net x e = at (node_at net x) e
  where
    at : (o : Option Node) → is_present o ≡ true → live_in o ≡ 1
    at None e = cc
    at (Some n) e = refl

pub live_zero : (net : Net) (x : ℕ) → is_live net x ≡ false → live_in (node_at net x) ≡ 0
live_zero net x e = at (node_at net x) e
  where
    at : (o : Option Node) → is_present o ≡ false → live_in o ≡ 0
    at None e = refl
    at (Some n) e = cc

pub live_within : (os : List (Option Node)) → sum_by live_in os ≤ length os
live_within [] = omega arith
live_within (o ∷ os) =
    let rest : sum_by live_in os ≤ length os = live_within os in
    let a : sum_by live_in (o ∷ os) ≡ live_in o + sum_by live_in os = sum_by-cons live_in o os in
    let one : live_in o ≤ 1 = at o in
    omega (arith, rest, a, one)
  where
    at : (o : Option Node) → live_in o ≤ 1
    at None = omega arith
    at (Some n) = omega arith

pub pins_at : (net : Net) (x : ℕ) → is_live net x ≡ false → length (drivers_in (node_at net x)) ≡ 0
pins_at net x e = at (node_at net x) e
  where
    at : (o : Option Node) → is_present o ≡ false → length (drivers_in o) ≡ 0
    at None e = refl
    at (Some n) e = cc
