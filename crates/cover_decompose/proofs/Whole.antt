-- The graph of a model's plan is the model's.
use Rattle.std.proofs.Common.{◌≡◌, ◌<◌, ◌≤◌, ◌+◌, ℕ, zero, suc, List, [], ◌∷◌, length, map, refl, sym, ap, subst, ◌∙◌, arith}
use Rattle.std.specs.Prelude.{All, Some, slice_index, sum_by}
use Rattle.std.proofs.lemmas.List.{length-map}
use Rattle.gate_net.specs.Net.{Net, Node, wire_count}
use Rattle.gate_graph.specs.Circuit.{Circuit, net_of, fanouts_of, pins_taken, live_nodes}
use Rattle.gate_graph.specs.Holds.{pins_held}
use Rattle.rm_model.specs.Value.{observed_names, source_names}
use Rattle.rm_model.specs.declared.parts.Model.{Model}
use Rattle.cover_decompose.specs.Built.{IsBuilt, readers_in}
use Rattle.cover_decompose.specs.Inner.Built.{IsBuildable}
use Rattle.cover_decompose.specs.Count.{decomposed}
use Rattle.cover_decompose.specs.Decomposition.{last_state, net_of_model}
use Rattle.cover_decompose.proofs.Counted.{observed_count}
use Rattle.cover_decompose.proofs.Fitting.{few_nodes}
use Rattle.cover_decompose.proofs.Sums.{sum-total}
use Rattle.cover_decompose.proofs.WellFormed.{made, wires_made}
use Rattle.rm_base.specs.Words.{Word}

pub wires_sum : (m : Model) → wire_count (net_of_model m) ≡ decomposed m → sum_by (λ (n : Node). length n.drivers) (last_state m).made ≡ decomposed m
wires_sum m e = sum-total (λ (n : Node). length n.drivers) (last_state m).made ∙ (sym (wires_made m) ∙ e)

pub buildable : (m : Model) (sources : ℕ) (nodes : List Node) → nodes ≡ (last_state m).made → sources ≡ length (source_names m) → length (source_names m) ≤ 1024 → wire_count (net_of_model m) ≡ decomposed m → decomposed m ≤ 65536 → IsBuildable nodes sources
buildable m sources nodes en es few wires le =
    subst (λ (k : ℕ). IsBuildable nodes k) (sym es)
    (subst (λ (l : List Node). IsBuildable l (length (source_names m))) (sym en)
    (record {
      gates = (made m).gates;
      made_is = (made m).made_is;
      are_gates = (made m).are_gates;
      below = (made m).below;
      few_sources = few;
      few_wires = let e : sum_by (λ (n : Node). length n.drivers) (last_state m).made ≡ decomposed m = wires_sum m wires in omega arith;
    }))

each_below : (f : ℕ → ℕ) (g : Word → ℕ) (n : ℕ) (ks : List ℕ) (xs : List Word) → map f ks ≡ map g xs → ((x : Word) → g x < n) → All (λ k. f k < n) ks
each_below f g n [] xs e h k d lt = absurd (omega arith)
each_below f g n (j ∷ ks) [] e h k d lt = absurd cc
each_below f g n (j ∷ ks) (x ∷ xs) e h zero d lt = let is : f j ≡ g x = cc in let low : g x < n = h x in omega arith
each_below f g n (j ∷ ks) (x ∷ xs) e h (suc k) d lt = let rest : map f ks ≡ map g xs = cc in each_below f g n ks xs rest h k d (omega arith)

pub observed_below : (m : Model) (nodes observed : List ℕ) (listed : List Node) → listed ≡ (last_state m).made → map (slice_index nodes) observed ≡ (net_of_model m).observed → All (λ k. slice_index nodes k < length listed) observed
observed_below m nodes observed listed el e =
    subst (λ (l : List Node). All (λ k. slice_index nodes k < length l) observed) (sym el)
    (each_below (slice_index nodes) (last_state m).node_of (length (last_state m).made) observed (observed_names m) e (made m).nodes)

pub observed_few : (m : Model) (nodes observed : List ℕ) → map (slice_index nodes) observed ≡ (net_of_model m).observed → length observed ≡ length (observed_names m)
observed_few m nodes observed e = sym (length-map observed (slice_index nodes)) ∙ (ap (λ (l : List ℕ). length l) e ∙ observed_count m)

pub record IsWhole (m : Model) (g : Circuit) : Type 0 where
  pub net : net_of g ≡ net_of_model m
  pub fanouts : (n : ℕ) → fanouts_of g n ≡ readers_in (net_of_model m) n
  pub pins : pins_taken g ≡ decomposed m + length (observed_names m)
  pub held : pins_held g ≡ 0
  pub nodes : live_nodes g ≡ length (net_of_model m).nodes
  pub epoch : g.epoch ≡ 0

none_held : (m : Model) (g : Circuit) → net_of g ≡ net_of_model m → wire_count (net_of_model m) ≡ decomposed m → pins_taken g ≡ decomposed m + length (observed_names m) → pins_held g ≡ 0
none_held m g same wires pins =
    let w : wire_count (net_of g) ≡ decomposed m = ap wire_count same ∙ wires in
    let o : length (net_of g).observed ≡ length (observed_names m) = ap (λ (n : Net). length n.observed) same ∙ observed_count m in
    omega (arith, w, o, pins)

taken : (m : Model) (g : Circuit) → wire_count (net_of_model m) ≡ decomposed m → IsBuilt g (last_state m).made (net_of_model m).observed → pins_taken g ≡ decomposed m + length (observed_names m)
taken m g wires h =
    h.pins ∙ (let e : sum_by (λ (n : Node). length n.drivers) (last_state m).made ≡ decomposed m = wires_sum m wires in let o : length (net_of_model m).observed ≡ length (observed_names m) = observed_count m in omega arith)

pub whole : (m : Model) (g : Circuit) → wire_count (net_of_model m) ≡ decomposed m → IsBuilt g (last_state m).made (net_of_model m).observed → IsWhole m g
whole m g wires h = record {
  net = h.net;
  fanouts = h.readers;
  pins = taken m g wires h;
  held = none_held m g h.net wires (taken m g wires h);
  nodes = h.nodes ∙ sym (length-map (last_state m).made (λ (n : Node). Some n));
  epoch = h.epoch;
}

-- few wires make few nodes
pub few_live : (m : Model) (g : Circuit) → length (source_names m) ≤ 1024 → wire_count (net_of_model m) ≡ decomposed m → decomposed m ≤ 65536 → IsBuilt g (last_state m).made (net_of_model m).observed → live_nodes g ≤ 66562
few_live m g sources wires le h =
    let made : length (last_state m).made ≤ 66562 = few_nodes (last_state m).made (length (source_names m)) (buildable m (length (source_names m)) (last_state m).made refl refl sources wires le) in
    omega (arith, h.nodes, made)
