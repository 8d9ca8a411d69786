-- The model of a net has as many wires.
use Rattle.std.proofs.Common.{◌≡◌, ◌≢◌, ◌≤◌, ◌+◌, ℕ, suc, Bool, true, false, List, [], ◌∷◌, ◌++◌, map, length, refl, sym, ◌∙◌, ap, arith, nat_eq, zero-add}
use Rattle.std.specs.Prelude.{Option, None, Some, if◌then◌else◌, sum_by}
use Rattle.std.proofs.lemmas.List.Sums.{sum_by-cons, sum_by-append}
use Rattle.rm_model.specs.Value.{observed_names, is_among}
use Rattle.rm_model.specs.declared.parts.Literal.TheVariants.{One as One1}
use Rattle.rm_model.specs.declared.parts.Cover.{Cover}
use Rattle.rm_model.specs.declared.parts.Model.{Model}
use Rattle.gate_net.specs.declared.Kind.{Kind}
use Rattle.gate_net.specs.declared.Kind.TheVariants.{Source, Zero, One, And, Or, Not, Xor}
use Rattle.gate_net.specs.Net.{Node, Net, node_at, drivers_in, drivers_of, wire_count, IsGateKind, plain_node}
use Rattle.graph_to_model.specs.Names.{node_name}
use Rattle.graph_to_model.specs.NetModel.{cover_with, gate_cover_of, gate_cover, gate_covers, onto, copy_cover, copy_covers, model_of_net, covers_of_gates, names_before_copies, covers_of_copies}
use Rattle.graph_to_model.specs.Wires.{is_copy, wires}
use Rattle.graph_to_model.proofs.TidyFacts.{kind_is, source_plain, zero_plain, one_plain}
use Rattle.graph_to_model.proofs.GateValues.{cover_of}
use Rattle.graph_to_model.proofs.Covers.{cover_made, rest_from, first_from, all_from_start}
use Rattle.graph_to_model.proofs.Formed.{has_pins}
use Rattle.rm_base.proofs.Public.{some_is}
use Rattle.rm_base.specs.Words.{Word}
use Rattle.graph_to_model.specs.Inner.Writable.{IsWritable}
use Rattle.graph_to_model.specs.Inner.Covers.{AreNodesFrom}

abbrev pub pins : Cover → ℕ
pins c = if is_copy c then 0 else length c.inputs

abbrev pub node_pins : Option Node → ℕ
node_pins o = length (drivers_in o)

pub map_words : (f : ℕ → Word) (ds : List ℕ) → length (map f ds) ≡ length ds
map_words f [] = refl
map_words f (d ∷ ds) = ap suc (map_words f ds)

module _ (m : Model) (net : Net) (w : IsWritable m net) where
  plain_pins : (x : ℕ) (node : Node) (kind : Kind) → node_at net x ≡ Some node → node_at net x ≡ plain_node kind → length node.drivers ≡ 0
  plain_pins x node kind at plain = ap (λ (n : Node). length n.drivers) (some_is _ _ (sym at ∙ plain))

  no_cover : (x : ℕ) (node : Node) (kind : Kind) → node_at net x ≡ Some node → node.kind ≡ kind → gate_cover m net x (Some node) ≡ None → length node.drivers ≡ 0
  no_cover x node Source at e none = plain_pins x node Source at (source_plain net w.formed x (kind_is net x node Source at e))
  no_cover x node Zero at e none = plain_pins x node Zero at (zero_plain net w.formed x (kind_is net x node Zero at e))
  no_cover x node One at e none = plain_pins x node One at (one_plain net w.formed x (kind_is net x node One at e))
  no_cover x node kind at e none =
      let made = cover_made kind (map (node_name m net) node.drivers) (node_name m net x) tt in
      let none_is : gate_cover_of kind (map (node_name m net) node.drivers) (node_name m net x) ≡ None = rw e at none in
      let bad : Some made.0 ≡ None = sym made.1 ∙ none_is in absurd cc

  pub two_or_more : (x : ℕ) (node : Node) (kind : Kind) → node_at net x ≡ Some node → node.kind ≡ kind → IsGateKind kind → kind ≢ Not → 2 ≤ length (map (node_name m net) node.drivers)
  two_or_more x node Source at e gate ne = absurd gate
  two_or_more x node Zero at e gate ne = absurd gate
  two_or_more x node One at e gate ne = absurd gate
  two_or_more x node And at e gate ne =
      let two : 2 ≤ length (drivers_of net x) = w.lean.two_pins x (rw (at, e) refl) in
      let own : length (drivers_of net x) ≡ length node.drivers = rw at refl in
      let names : length (map (node_name m net) node.drivers) ≡ length node.drivers = map_words (node_name m net) node.drivers in omega arith
  two_or_more x node Or at e gate ne =
      let two : 2 ≤ length (drivers_of net x) = w.lean.two_pins x (rw (at, e) refl) in
      let own : length (drivers_of net x) ≡ length node.drivers = rw at refl in
      let names : length (map (node_name m net) node.drivers) ≡ length node.drivers = map_words (node_name m net) node.drivers in omega arith
  two_or_more x node Not at e gate ne = absurd (ne refl)
  two_or_more x node Xor at e gate ne = let two : length (map (node_name m net) node.drivers) ≡ 2 = (has_pins m net w x node at).two e in omega arith

  pub cover_pins : (x : ℕ) (node : Node) (c : Cover) → node_at net x ≡ Some node → gate_cover m net x (Some node) ≡ Some c → pins c ≡ length node.drivers
  cover_pins x node c at e =
      let h = cover_of node.kind (map (node_name m net) node.drivers) (node_name m net x) c e in
      let no : is_copy c ≡ false = h.no_copy (has_pins m net w x node at) (two_or_more x node node.kind at refl h.gate) in
      rw no (ap length h.in_is ∙ map_words (node_name m net) node.drivers)

  pub gate_pins : (n : ℕ) (os : List (Option Node)) → AreNodesFrom net n os → sum_by pins (gate_covers m net n os) ≡ sum_by node_pins os
  gate_pins n [] same = refl
  gate_pins n (o ∷ os) same = by_node o (gate_cover m net n o) refl (first_from net n o os same) (gate_pins (n + 1) os (rest_from net n o os same)) ∙ sym (sum_by-cons node_pins o os)
    where
      by_node : (p : Option Node) (d : Option Cover) → gate_cover m net n p ≡ d → node_at net n ≡ p → sum_by pins (gate_covers m net (n + 1) os) ≡ sum_by node_pins os → sum_by pins (onto d (gate_covers m net (n + 1) os)) ≡ node_pins p + sum_by node_pins os
      by_node None None e at rec = rec ∙ (omega arith)
      by_node None (Some c) e at rec = absurd cc
      by_node (Some node) None e at rec = let zero_pins : length node.drivers ≡ 0 = no_cover n node node.kind at refl e in omega (arith, rec, zero_pins)
      by_node (Some node) (Some c) e at rec =
          let first : pins c ≡ length node.drivers = cover_pins n node c at e in
          sum_by-cons pins c (gate_covers m net (n + 1) os) ∙ (ap (λ (k : ℕ). k + sum_by pins (gate_covers m net (n + 1) os)) first ∙ ap (λ (k : ℕ). length node.drivers + k) rec)

  copy_pins : (n : ℕ) (x : Word) (a b : Bool) → pins (if a then cover_with [] x true [] else (if b then cover_with [] x true ([] ∷ []) else cover_with (node_name m net n ∷ []) x true ((One1 ∷ []) ∷ []))) ≡ 0
  copy_pins n x true b = refl
  copy_pins n x false true = refl
  copy_pins n x false false = refl

  copies_pins : (given : List Word) (ns : List ℕ) (xs : List Word) → sum_by pins (copy_covers m net given ns xs) ≡ 0
  copies_pins given [] xs = refl
  copies_pins given (n ∷ ns) [] = refl
  copies_pins given (n ∷ ns) (x ∷ xs) = by_test (is_among given x) (copies_pins given ns xs) (copies_pins (x ∷ given) ns xs)
    where
      by_test : (b : Bool) → sum_by pins (copy_covers m net given ns xs) ≡ 0 → sum_by pins (copy_covers m net (x ∷ given) ns xs) ≡ 0 → sum_by pins (if b then copy_covers m net given ns xs else copy_cover m net n x ∷ copy_covers m net (x ∷ given) ns xs) ≡ 0
      by_test true old new = old
      by_test false old new =
          let first : pins (copy_cover m net n x) ≡ 0 = copy_pins n x (nat_eq n 0) (nat_eq n 1) in
          sum_by-cons pins (copy_cover m net n x) (copy_covers m net (x ∷ given) ns xs) ∙ (ap (λ (k : ℕ). k + sum_by pins (copy_covers m net (x ∷ given) ns xs)) first ∙ (zero-add (sum_by pins (copy_covers m net (x ∷ given) ns xs)) ∙ new))

  pub wires_are : wires (model_of_net m net) ≡ wire_count net
  wires_are =
      let front : sum_by pins (covers_of_gates m net) ≡ wire_count net = gate_pins 0 net.nodes (all_from_start net) in
      let back : sum_by pins (covers_of_copies m net) ≡ 0 = copies_pins (names_before_copies m net) net.observed (observed_names m) in
      let sum : sum_by pins (covers_of_gates m net ++ covers_of_copies m net) ≡ sum_by pins (covers_of_gates m net) + sum_by pins (covers_of_copies m net) = sum_by-append pins (covers_of_gates m net) (covers_of_copies m net) in
      let all : sum_by pins (covers_of_gates m net ++ covers_of_copies m net) ≡ wire_count net = omega arith in
      all
