-- Nets that grow at their end, and their size.
use Rattle.std.proofs.Common.{List, [], ap, arith, append_assoc, length, subst, sym, ℕ, ◌++◌, ◌+◌, ◌∙◌, ◌∷◌, ◌≡◌}
use Rattle.std.specs.Prelude.{Option, Some}
use Rattle.std.proofs.lemmas.List.{append-nil, length-append}
use Rattle.std.proofs.lemmas.List.Sums.{sum_by-append, sum_by-cons}
use Rattle.gate_net.specs.Net.{Net, Node, drivers_in, wire_count}
use Rattle.joined_nets.specs.Growing.{Fits, wires_in, with_nodes}

pub by_nodes : (v : Net) (xs ys : List (Option Node)) → xs ≡ ys → ◌≡◌ {A = Net} (record v { nodes = xs }) (record v { nodes = ys })
by_nodes v xs ys e = ap (λ (l : List (Option Node)). let r : Net = record v { nodes = l } in r) e

pub with_both : (v : Net) (xs ys : List (Option Node)) → with_nodes (with_nodes v xs) ys ≡ with_nodes v (xs ++ ys)
with_both v xs ys = by_nodes v ((v.nodes ++ xs) ++ ys) (v.nodes ++ (xs ++ ys)) (append_assoc v.nodes xs ys)

pub with_none : (v : Net) → with_nodes v [] ≡ v
with_none v = by_nodes v (v.nodes ++ []) v.nodes (append-nil v.nodes)

pub wires_with : (v : Net) (xs : List (Option Node)) → wire_count (with_nodes v xs) ≡ wire_count v + wires_in xs
wires_with v xs = sum_by-append (λ (o : Option Node). length (drivers_in o)) v.nodes xs

pub length_with : (v : Net) (xs : List (Option Node)) → length (with_nodes v xs).nodes ≡ length v.nodes + length xs
length_with v xs = length-append v.nodes xs

-- what is there before the end fits too
pub fits_front : (v : Net) (xs : List (Option Node)) → Fits (with_nodes v xs) → Fits v
fits_front v xs h =
    let pins = h.pins in
    let nodes = h.nodes in
    let w = wires_with v xs in
    let l = length_with v xs in
    record { pins = omega (arith, pins, w); nodes = omega (arith, nodes, l) }

pub fits_first : (v : Net) (xs ys : List (Option Node)) → Fits (with_nodes v (xs ++ ys)) → Fits (with_nodes v xs)
fits_first v xs ys h = fits_front (with_nodes v xs) ys (subst (λ (n : Net). Fits n) (sym (with_both v xs ys)) h)

-- one node more has its pins more
pub wires_one : (v : Net) (n : Node) → wire_count (with_nodes v (Some n ∷ [])) ≡ wire_count v + length n.drivers
wires_one v n = wires_with v (Some n ∷ []) ∙ ap (λ (i : ℕ). wire_count v + i) (sum_by-cons (λ (o : Option Node). length (drivers_in o)) (Some n) [] ∙ plus_nothing (length n.drivers))
  where
    plus_nothing : (i : ℕ) → i + 0 ≡ i
    plus_nothing i = omega arith
