-- The gated net of two nets, as it is made.
use Rattle.std.proofs.Common.{Bool, List, None, Option, Some, [], ap, arith, false, inl, inr, length, map, refl, subst, sym, ℕ, ◌+◌, ◌-◌, ◌<◌, ◌∙◌, ◌∷◌, ◌≡◌, ◌≤◌}
use Rattle.std.specs.Prelude.{slice_get, slice_index_or}
use Rattle.std.proofs.lemmas.Bool.{cases_lt}
use Rattle.std.proofs.lemmas.List.{length-append, length-map}
use Rattle.std.proofs.lemmas.Option.{slice_get_past}
use Rattle.gate_net.specs.Net.{IsWellFormed, Net, Node, Reads, drivers_in, drivers_of, flatten_option, node_at}
use Rattle.gate_net.specs.Values.{AreGoodValues, junction, node_value}
use Rattle.joined_nets.specs.Growing.{IsOrdered, and_gate, live, sources_in}
use Rattle.joined_nets.specs.Joined.{ShareSources, both, first_gate, moved, node_moved}
use Rattle.joined_nets.proofs.Public.{back_at, both_length, gates_later, joined_sources, live_below, moved_high, moved_low, ours_there, theirs_there}
use Rattle.rm_base.proofs.Public.{map_at, map_found}
use Rattle.care_opt.specs.Gated.{care_node, gated_net, gates_by}
use Rattle.care_opt.specs.Inner.Standing.{CanGate, IsGatedOver, IsNoMain}

module _ (one two : Net) (share : ShareSources one two) (order : IsOrdered one) (other_order : IsOrdered two) (d : ℕ) (single : two.observed ≡ d ∷ []) where
  abbrev b : ℕ
  b = length one.nodes

  abbrev e : ℕ
  e = length (both one two)

  abbrev tail : List (Option Node)
  tail = live (gates_by (care_node one two) one.observed)

  -- a node of the second net among both is no main gate
  moved_apart : (x : ℕ) → x < length two.nodes → IsNoMain one (moved (first_gate one) b x) × (moved (first_gate one) b x < e)
  moved_apart x lt =
      let size = both_length one two in
      let later = gates_later one share.first in
      elim (cases_lt x (first_gate one)) [
        | inl low ↦ let is = moved_low (first_gate one) b x low in (inl (omega (arith, is, low)), omega (arith, is, low, size, later))
        | inr high ↦ let is = moved_high (first_gate one) b x high in (inr (omega (arith, is)), omega (arith, is, high, lt, size))
      ]

  single_live : d < length two.nodes
  single_live = live_below two d (share.second.observed_live d (0, ap (λ (xs : List ℕ). slice_get xs 0) single))

  pub care_is : care_node one two ≡ moved (first_gate one) b d
  care_is = ap (λ (xs : List ℕ). slice_index_or (map (moved (first_gate one) b) xs) 0 0) single

  pub can_gate : CanGate one two
  can_gate = record {
    early = gates_later one share.first;
    later = let size = both_length one two in omega (arith, size);
    apart = apart;
    care = subst (λ (i : ℕ). IsNoMain one i) (sym care_is) (moved_apart d single_live).0;
    within = subst (λ (i : ℕ). i < e) (sym care_is) (moved_apart d single_live).1;
  }
    where
      apart : (y p x : ℕ) → b ≤ y → y < e → Reads (gated_net one two) y p x → IsNoMain one x × (x < e)
      apart y p x le lt reads =
          let size = both_length one two in
          let z : ℕ = first_gate one + (y - b) in
          let high : first_gate one ≤ z = omega arith in
          let less : z < length two.nodes = omega (arith, le, lt, size) in
          let same : b + (z - first_gate one) ≡ y = omega (arith, le) in
          let there : node_at (gated_net one two) y ≡ node_moved (first_gate one) b (node_at two z) = ap (λ (i : ℕ). node_at (gated_net one two) i) (sym same) ∙ theirs_there one two share (gated_net one two) tail refl z high less in
          let pin : slice_get (map (moved (first_gate one) b) (drivers_of two z)) p ≡ Some x = sym (ap (λ (o : Option Node). slice_get (drivers_in o) p) there ∙ ap (λ (ds : List ℕ). slice_get ds p) (moved_drivers (node_at two z))) ∙ reads in
          let c = map_found (moved (first_gate one) b) (drivers_of two z) p x pin in
          let under : c.0 < z = other_order.order z p c.0 c.1.0 in
          let r = moved_apart c.0 (omega (arith, under, less)) in
          subst (λ (i : ℕ). IsNoMain one i × (i < e)) c.1.1 r
        where
          moved_drivers : (o : Option Node) → drivers_in (node_moved (first_gate one) b o) ≡ map (moved (first_gate one) b) (drivers_in o)
          moved_drivers None = refl
          moved_drivers (Some n) = refl

  gates_no_sources : (xs : List ℕ) → sources_in (live (gates_by (care_node one two) xs)) ≡ 0
  gates_no_sources [] = refl
  gates_no_sources (x ∷ xs) = gates_no_sources xs

  gate_there : (k x : ℕ) → slice_get one.observed k ≡ Some x → node_at (gated_net one two) (e + k) ≡ Some (and_gate x (care_node one two))
  gate_there k x at =
      ap (λ (o : Option (Option Node)). flatten_option o)
      (back_at (both one two) tail k (Some (and_gate x (care_node one two))) (map_at (λ (n : Node). Some n) (gates_by (care_node one two) one.observed) k (and_gate x (care_node one two)) (map_at (λ (i : ℕ). and_gate i (care_node one two)) one.observed k x at)))

  pub start_gate : (a u : ℕ → Bool) → AreGoodValues (gated_net one two) a u → (k x : ℕ) → slice_get one.observed k ≡ Some x → u (e + k) ≡ junction false (u x ∷ u (care_node one two) ∷ [])
  start_gate a u good k x at = good (e + k) ∙ ap (λ (o : Option Node). node_value o (a (e + k)) (map u (drivers_in o))) (gate_there k x at)

  pub gated_over : IsWellFormed (gated_net one two) → IsGatedOver one two (gated_net one two)
  gated_over formed = record {
    formed = formed;
    sources = joined_sources one two (gated_net one two) tail share refl (gates_no_sources one.observed);
    order = λ y p x lt reads. order.order y p x (ap (λ (o : Option Node). slice_get (drivers_in o) p) (sym (ours_there one two share (gated_net one two) tail refl y lt)) ∙ reads);
    moved = λ (x : ℕ). x;
    plain = λ x apart. refl;
    low = λ k x at. live_below one x (share.first.observed_live x (k, at));
    theirs = λ y le lt. refl;
    gates = gate_there;
    last = λ y le. ap (λ (o : Option (Option Node)). flatten_option o) (slice_get_past (gated_net one two).nodes y (let size = whole_size in omega (arith, size, le)));
    observed = refl;
  }
    where
      whole_size : length (gated_net one two).nodes ≡ e + length one.observed
      whole_size = length-append (both one two) tail ∙ ap (λ (i : ℕ). e + i) (length-map (gates_by (care_node one two) one.observed) (λ (n : Node). Some n) ∙ length-map one.observed (λ (i : ℕ). and_gate i (care_node one two)))
