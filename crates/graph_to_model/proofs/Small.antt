-- The model of a net has few covers and inputs, and short names.
use Rattle.std.proofs.Common.{◌≡◌, ◌≢◌, ◌≤◌, ◌<◌, ◌+◌, ◌^◌, ℕ, suc, Bool, true, false, List, [], ◌∷◌, ◌++◌, map, length, max, refl, sym, subst, ◌∙◌, ap, arith, length-append, inl, inr}
use Rattle.std.specs.Prelude.{Option, None, Some, if◌then◌else◌, nat_eq, sum_by, unwrap_or}
use Rattle.std.specs.Fmt.{decimal}
use Rattle.std.proofs.lemmas.Bool.{le-ltb}
use Rattle.std.proofs.lemmas.Fmt.{length-decimal-le}
use Rattle.std.proofs.lemmas.List.Elements.{All-from_recursion}
use Rattle.std.proofs.lemmas.List.Sums.{sum_by-cons}
use Rattle.rm_model.specs.Value.{source_names, observed_names, is_among}
use Rattle.rm_model.specs.declared.parts.Literal.TheVariants.{One as One1}
use Rattle.rm_model.specs.declared.parts.Cover.{Cover}
use Rattle.rm_model.specs.declared.parts.Model.{Model}
use Rattle.gate_net.specs.declared.Kind.{Kind}
use Rattle.gate_net.specs.declared.Kind.TheVariants.{Not}
use Rattle.gate_net.specs.Net.{Net, wire_count, IsGateKind}
use Rattle.cover_decompose.proofs.Public.{among_in}
use Rattle.graph_to_model.specs.Laws.{IsSmall, IsNamed}
use Rattle.graph_to_model.specs.Names.{kept_names, least_free, observed_name, node_name, free_prefix}
use Rattle.graph_to_model.specs.NetModel.{cover_with, copy_cover, copy_covers, model_of_net, covers_of_gates, names_before_copies, covers_of_copies}
use Rattle.graph_to_model.specs.Wires.{is_copy}
use Rattle.graph_to_model.proofs.Covers.{all_from_start, in_gates, in_copies, copy_out}
use Rattle.graph_to_model.proofs.Outputs.{cover_number}
use Rattle.graph_to_model.proofs.Formed.{has_pins}
use Rattle.graph_to_model.proofs.Pins.{pins, two_or_more, gate_pins}
use Rattle.graph_to_model.proofs.Tokens.{least_le}
use Rattle.rm_base.proofs.Public.{all_from_members, in_append, in_at}
use Rattle.rm_base.specs.Members.{In}
use Rattle.rm_base.specs.Words.{Word}
use Rattle.graph_to_model.specs.Inner.Writable.{IsWritable}
use Rattle.graph_to_model.specs.Inner.Covers.{IsGateCover, IsCopyCover}

-- covers of a pin at least are no more than their pins
count_pins : (cs : List Cover) → ((c : Cover) → In cs c → 1 ≤ pins c) → length cs ≤ sum_by pins cs
count_pins [] h = omega arith
count_pins (c ∷ cs) h =
    let first : 1 ≤ pins c = h c (inl refl) in
    let rest : length cs ≤ sum_by pins cs = count_pins cs (λ d i. h d (inr i)) in
    let sum : sum_by pins (c ∷ cs) ≡ pins c + sum_by pins cs = sum_by-cons pins c cs in
    omega arith

pins_within : (cs : List Cover) (c : Cover) → In cs c → pins c ≤ sum_by pins cs
pins_within [] c i = absurd i
pins_within (d ∷ cs) c i = at i (pins_within cs c)
  where
    sum : sum_by pins (d ∷ cs) ≡ pins d + sum_by pins cs
    sum = sum_by-cons pins d cs

    at : In (d ∷ cs) c → (In cs c → pins c ≤ sum_by pins cs) → pins c ≤ sum_by pins (d ∷ cs)
    at (inl e) ih = let same : pins d ≡ pins c = ap pins e in omega (arith, sum)
    at (inr j) ih = let rest : pins c ≤ sum_by pins cs = ih j in omega (arith, sum)

inputs_within : (a : ℕ) (n : ℕ) → a ≤ n → a ≤ max 1 n
inputs_within a n h = omega arith

decimal_short : (n : ℕ) → n < 2 ^ 64 → length (decimal n) ≤ 20
decimal_short n h = length-decimal-le 20 n (omega arith) (omega arith) h

copies_few : (m : Model) (net : Net) (given : List Word) (ns : List ℕ) (xs : List Word) → length (copy_covers m net given ns xs) ≤ length xs
copies_few m net given [] xs = omega arith
copies_few m net given (n ∷ ns) [] = omega arith
copies_few m net given (n ∷ ns) (x ∷ xs) = at (is_among given x) (copies_few m net given ns xs) (copies_few m net (x ∷ given) ns xs)
  where
    at : (b : Bool) → length (copy_covers m net given ns xs) ≤ length xs → length (copy_covers m net (x ∷ given) ns xs) ≤ length xs → length (if b then copy_covers m net given ns xs else copy_cover m net n x ∷ copy_covers m net (x ∷ given) ns xs) ≤ suc (length xs)
    at true old new = omega arith
    at false old new = omega arith

copy_inputs : (m : Model) (net : Net) (n : ℕ) (x : Word) → length (copy_cover m net n x).inputs ≤ 1
copy_inputs m net n x = at (nat_eq n 0) (nat_eq n 1)
  where
    at : (a b : Bool) → length (if a then cover_with [] x true [] else (if b then cover_with [] x true ([] ∷ []) else cover_with (node_name m net n ∷ []) x true ((One1 ∷ []) ∷ []))).inputs ≤ 1
    at true b = omega arith
    at false true = omega arith
    at false false = omega arith

observed_in : (ns : List ℕ) (xs : List Word) (n : ℕ) (x : Word) → observed_name ns xs n ≡ Some x → In xs x
observed_in [] xs n x e = cc
observed_in (k ∷ ns) [] n x e = cc
observed_in (k ∷ ns) (y ∷ xs) n x e = at (nat_eq k n) e (observed_in ns xs n x)
  where
    some_is : (a b : Word) → Some a ≡ Some b → a ≡ b
    some_is a b h = cc

    at : (b : Bool) → (if b then Some y else observed_name ns xs n) ≡ Some x → (observed_name ns xs n ≡ Some x → In xs x) → In (y ∷ xs) x
    at true h rest = inl (some_is y x h)
    at false h rest = inr (rest h)

module _ (m : Model) (net : Net) (w : IsWritable m net) where
  prefix_short : length (free_prefix m) ≤ 22
  prefix_short =
      let t = least_free (length (kept_names m)) 0 (kept_names m) in
      let low : t ≤ 0 + length (kept_names m) = least_le (length (kept_names m)) 0 (kept_names m) in
      let few : length (kept_names m) < 2 ^ 64 = w.few.names in
      let digits : length (decimal t) ≤ 20 = decimal_short t (omega arith) in
      let end : length (decimal t ++ 95 ∷ []) ≡ length (decimal t) + 1 = length-append (decimal t) (95 ∷ []) in
      omega arith

  number_named : (x : ℕ) → 2 + length (source_names m) ≤ x → x < length net.nodes → IsNamed m (node_name m net x)
  number_named x high low = rw (le-ltb x (2 + length (source_names m)) high) (at (observed_name net.observed (observed_names m) x) refl)
    where
      at : (o : Option Word) → observed_name net.observed (observed_names m) x ≡ o → IsNamed m (unwrap_or o (free_prefix m ++ decimal x))
      at (Some y) e = inl (among_in (observed_names m) y (observed_in net.observed (observed_names m) x y e))
      at None e =
          let few : length net.nodes < 2 ^ 64 = w.few.nodes in
          let digits : length (decimal x) ≤ 20 = decimal_short x (omega arith) in
          let whole : length (free_prefix m ++ decimal x) ≡ length (free_prefix m) + length (decimal x) = length-append (free_prefix m) (decimal x) in
          let begin : length (free_prefix m) ≤ 22 = prefix_short in
          inr (omega arith)

  gate_inputs : (x : ℕ) (c : Cover) → IsGateCover m net x c → (pins c ≡ length c.inputs) × (1 ≤ length c.inputs)
  gate_inputs x c g = (rw no refl, some g.node.kind refl)
    where
      no : is_copy c ≡ false
      no = g.cover.no_copy (has_pins m net w x g.node g.at) (two_or_more m net w x g.node g.node.kind g.at refl g.cover.gate)

      same : length c.inputs ≡ length (map (node_name m net) g.node.drivers)
      same = ap length g.cover.in_is

      two : (k : Kind) → g.node.kind ≡ k → k ≢ Not → 1 ≤ length c.inputs
      two k e other =
          let least : 2 ≤ length (map (node_name m net) g.node.drivers) = two_or_more m net w x g.node k g.at e (subst IsGateKind e g.cover.gate) other in
          let s : length c.inputs ≡ length (map (node_name m net) g.node.drivers) = same in
          omega arith

      some : (k : Kind) → g.node.kind ≡ k → 1 ≤ length c.inputs
      some Not e =
          let one : length (map (node_name m net) g.node.drivers) ≡ 1 = (has_pins m net w x g.node g.at).one e in
          let s : length c.inputs ≡ length (map (node_name m net) g.node.drivers) = same in
          omega arith
      some k e = two k e (λ h. cc)

  of_gate : (c : Cover) → In (covers_of_gates m net) c → (x : ℕ) × ((x < length net.nodes) × IsGateCover m net x c)
  of_gate c i = let f = in_gates m net 0 net.nodes c (all_from_start net) i in (f.0, (omega (arith, f.1.1.0), f.1.1.1))

  all_pins : sum_by pins (covers_of_gates m net) ≡ wire_count net
  all_pins = gate_pins m net w 0 net.nodes (all_from_start net)

  few_gates : length (covers_of_gates m net) ≤ wire_count net
  few_gates =
      let most : length (covers_of_gates m net) ≤ sum_by pins (covers_of_gates m net) = count_pins (covers_of_gates m net) (λ c i. let g = of_gate c i in let h = gate_inputs g.0 c g.1.1 in omega (arith, h.0, h.1)) in
      let sum : sum_by pins (covers_of_gates m net) ≡ wire_count net = all_pins in
      omega arith

  in_gate : (x : ℕ) (c : Cover) → IsGateCover m net x c → In (covers_of_gates m net) c → length c.inputs ≤ wire_count net
  in_gate x c g i =
      let h = gate_inputs x c g in
      let most : pins c ≤ sum_by pins (covers_of_gates m net) = pins_within (covers_of_gates m net) c i in
      let sum : sum_by pins (covers_of_gates m net) ≡ wire_count net = all_pins in
      omega (arith, h.0)

  gate_small : (c : Cover) → In (covers_of_gates m net) c → (length c.inputs ≤ max 1 (wire_count net)) × IsNamed m c.output
  gate_small c i =
      let g = of_gate c i in (
        inputs_within (length c.inputs) (wire_count net) (in_gate g.0 c g.1.1 i),
        subst (IsNamed m) (sym g.1.1.cover.out_is) (number_named g.0 (cover_number m net w g.0 c g.1.1) g.1.0),
      )

  copy_small : (c : Cover) → IsCopyCover m net (names_before_copies m net) net.observed (observed_names m) c → (length c.inputs ≤ max 1 (wire_count net)) × IsNamed m c.output
  copy_small c copy =
      let one : length (copy_cover m net copy.node copy.name).inputs ≤ 1 = copy_inputs m net copy.node copy.name in
      let own : length c.inputs ≡ length (copy_cover m net copy.node copy.name).inputs = ap (λ (d : Cover). length d.inputs) copy.is in (
        omega arith,
        inl (ap (is_among (observed_names m)) (ap (λ (d : Cover). d.output) copy.is ∙ copy_out m net copy.node copy.name) ∙ among_in (observed_names m) copy.name (in_at (observed_names m) copy.at.0 copy.name copy.at.1.1)),
      )

  each : (c : Cover) → In (model_of_net m net).covers c → (length c.inputs ≤ max 1 (wire_count net)) × IsNamed m c.output
  each c i = elim (in_append (covers_of_gates m net) (covers_of_copies m net) c i) [
    | inl j ↦ gate_small c j
    | inr j ↦ copy_small c (in_copies m net (names_before_copies m net) net.observed (observed_names m) c j)
  ]

  pub small : IsSmall net m
  small = record {
    covers =
        let front : length (covers_of_gates m net) ≤ wire_count net = few_gates in
        let back : length (covers_of_copies m net) ≤ length (observed_names m) = copies_few m net (names_before_copies m net) net.observed (observed_names m) in
        let both : length (covers_of_gates m net ++ covers_of_copies m net) ≡ length (covers_of_gates m net) + length (covers_of_copies m net) = length-append (covers_of_gates m net) (covers_of_copies m net) in
        omega arith;
    inputs = All-from_recursion (λ (c : Cover). length c.inputs ≤ max 1 (wire_count net)) (model_of_net m net).covers (all_from_members (λ (c : Cover). length c.inputs ≤ max 1 (wire_count net)) (model_of_net m net).covers (λ c i. (each c i).0));
    outputs = All-from_recursion (λ (c : Cover). IsNamed m c.output) (model_of_net m net).covers (all_from_members (λ (c : Cover). IsNamed m c.output) (model_of_net m net).covers (λ c i. (each c i).1));
  }
