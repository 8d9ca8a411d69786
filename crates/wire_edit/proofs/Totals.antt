-- Sums over the nodes of a net.
use Rattle.std.proofs.Common.{◌≡◌, ℕ, zero, suc, ◌+◌, Option, Some, None, List, [], ◌∷◌, map, refl, sym, ◌∙◌, ap, arith}
use Rattle.std.specs.Prelude.{slice_get, slice_set}
use Rattle.std.specs.List.{sum_by}
use Rattle.std.proofs.lemmas.List.Sums.{sum_by-cons}
use Rattle.gate_net.proofs.Public.{flatten_some}
use Rattle.gate_net.specs.Net.{Node, Net, node_at, before_dead, trimmed}
use Rattle.gate_net.specs.Edits.{with_drivers, with_node}
use Rattle.wire_edit.specs.Changes.{with_least_free}

pub total_set : (f : Option Node → ℕ) (os : List (Option Node)) (x : ℕ) (o p : Option Node) → slice_get os x ≡ Some o → sum_by f (slice_set os x p) + f o ≡ sum_by f os + f p
total_set f [] x o p e = cc
total_set f (q ∷ os) zero o p e =
    let is : q ≡ o = cc in
    let same : f q ≡ f o = ap f is in
    let a : sum_by f (p ∷ os) ≡ f p + sum_by f os = sum_by-cons f p os in
    let b : sum_by f (q ∷ os) ≡ f q + sum_by f os = sum_by-cons f q os in
    omega arith
total_set f (q ∷ os) (suc x) o p e =
    let rest : sum_by f (slice_set os x p) + f o ≡ sum_by f os + f p = total_set f os x o p e in
    let a : sum_by f (q ∷ slice_set os x p) ≡ f q + sum_by f (slice_set os x p) = sum_by-cons f q (slice_set os x p) in
    let b : sum_by f (q ∷ os) ≡ f q + sum_by f os = sum_by-cons f q os in
    omega arith

total_before : (f : Option Node → ℕ) → f None ≡ 0 → (o : Option Node) (os : List (Option Node)) → sum_by f (before_dead o os) ≡ f o + sum_by f os
total_before f none None [] = rw none refl
total_before f none None (p ∷ os) = sum_by-cons f None (p ∷ os)
total_before f none (Some n) os = sum_by-cons f (Some n) os

pub total_trimmed : (f : Option Node → ℕ) → f None ≡ 0 → (os : List (Option Node)) → sum_by f (trimmed os) ≡ sum_by f os
total_trimmed f none [] = refl
total_trimmed f none (o ∷ os) = total_before f none o (trimmed os) ∙ ap (λ (n : ℕ). f o + n) (total_trimmed f none os) ∙ sym (sum_by-cons f o os)

pub total_least : (f : Option Node → ℕ) → f None ≡ 0 → (os : List (Option Node)) (n : Node) → sum_by f (with_least_free os n) ≡ sum_by f os + f (Some n)
total_least f none [] n = let a : sum_by f (Some n ∷ []) ≡ f (Some n) + 0 = sum_by-cons f (Some n) [] in omega arith
total_least f none (None ∷ os) n =
    let a : sum_by f (Some n ∷ os) ≡ f (Some n) + sum_by f os = sum_by-cons f (Some n) os in
    let b : sum_by f (None ∷ os) ≡ f None + sum_by f os = sum_by-cons f None os in
    omega arith
total_least f none (Some m ∷ os) n =
    let rest : sum_by f (with_least_free os n) ≡ sum_by f os + f (Some n) = total_least f none os n in
    let a : sum_by f (Some m ∷ with_least_free os n) ≡ f (Some m) + sum_by f (with_least_free os n) = sum_by-cons f (Some m) (with_least_free os n) in
    let b : sum_by f (Some m ∷ os) ≡ f (Some m) + sum_by f os = sum_by-cons f (Some m) os in
    omega arith

pub total_map : (f : Option Node → ℕ) (g : Option Node → Option Node) → ((o : Option Node) → f (g o) ≡ f o) → (os : List (Option Node)) → sum_by f (map g os) ≡ sum_by f os
total_map f g same [] = refl
total_map f g same (o ∷ os) =
    let rest : sum_by f (map g os) ≡ sum_by f os = total_map f g same os in
    let here : f (g o) ≡ f o = same o in
    let a : sum_by f (g o ∷ map g os) ≡ f (g o) + sum_by f (map g os) = sum_by-cons f (g o) (map g os) in
    let b : sum_by f (o ∷ os) ≡ f o + sum_by f os = sum_by-cons f o os in
    omega arith

-- where there is another node
pub total_node : (f : Option Node → ℕ) (net : Net) (gate : ℕ) (m n : Node) → node_at net gate ≡ Some n → sum_by f (with_node net gate m).nodes + f (Some n) ≡ sum_by f net.nodes + f (Some m)
total_node f net gate m n e = total_set f net.nodes gate (Some n) (Some m) (flatten_some (slice_get net.nodes gate) n e)

-- where one gate has other drivers
pub total_with : (f : Option Node → ℕ) (net : Net) (gate : ℕ) (drivers : List ℕ) (n : Node) → node_at net gate ≡ Some n → sum_by f (with_drivers net gate drivers).nodes + f (Some n) ≡ sum_by f net.nodes + f (Some (record n { drivers = drivers }))
total_with f net gate drivers n e =
    rw e (total_set f net.nodes gate (Some n) (Some (record n { drivers = drivers })) (flatten_some (slice_get net.nodes gate) n e))

-- where a node is gone
pub total_gone : (f : Option Node → ℕ) → f None ≡ 0 → (net : Net) (gate : ℕ) (n : Node) → node_at net gate ≡ Some n → sum_by f (trimmed (slice_set net.nodes gate None)) + f (Some n) ≡ sum_by f net.nodes
total_gone f none net gate n e =
    let a : sum_by f (trimmed (slice_set net.nodes gate None)) ≡ sum_by f (slice_set net.nodes gate None) = total_trimmed f none (slice_set net.nodes gate None) in
    let b : sum_by f (slice_set net.nodes gate None) + f (Some n) ≡ sum_by f net.nodes + f None = total_set f net.nodes gate (Some n) None (flatten_some (slice_get net.nodes gate) n e) in
    omega arith
