-- The model of a net is ranked.
use Rattle.std.proofs.Common.{◌≡◌, ◌≢◌, ◌≤◌, ◌<◌, ◌+◌, ◌^◌, ℕ, zero, suc, Bool, true, false, ◌&&◌, List, [], ◌∷◌, ◌++◌, length, refl, sym, ◌∙◌, ap, arith, subst, ◌⊎◌, inl, inr, All, max}
use Rattle.std.specs.Prelude.{Option, None, Some, T, if◌then◌else◌}
use Rattle.std.proofs.lemmas.Bool.Decides.{eqb_tells}
use Rattle.std.proofs.lemmas.Bool.{and_parts}
use Rattle.rm_model.specs.Words.{is_word}
use Rattle.rm_model.specs.Value.{source_names, observed_names, is_cover_output, IsRanked, outputs_of}
use Rattle.rm_model.specs.WellFormed.{is_distinct}
use Rattle.rm_model.specs.declared.parts.Cover.{Cover}
use Rattle.rm_model.specs.declared.parts.Model.{Model}
use Rattle.gate_net.specs.declared.Kind.{Kind}
use Rattle.gate_net.specs.declared.Kind.TheVariants.{Source, Zero, One}
use Rattle.gate_net.specs.Net.{Node, Net, node_at, Reads, IsGateKind, is_gate_kind}
use Rattle.wire_edit.specs.Tests.{is_gate}
use Rattle.graph_to_model.specs.Names.{node_name}
use Rattle.graph_to_model.specs.Inner.Names.{IsGateNumber, HasName}
use Rattle.graph_to_model.specs.NetModel.{model_of_net, covers_of_gates, names_before_copies}
use Rattle.graph_to_model.proofs.Named.{source_name, gates_told}
use Rattle.graph_to_model.proofs.Covers.{copy_out, live_within, distinct_head, distinct_tail, not_had}
use Rattle.graph_to_model.proofs.Outputs.{driven_once, gate_number}
use Rattle.graph_to_model.proofs.Formed.{cover_at, cover_cases, cover_reads, driver_named, index_of, all_in_list}
use Rattle.rm_base.proofs.Public.{in_any, in_at, in_map, in_mapped, in_right, stands_below}
use Rattle.rm_base.specs.Members.{In}
use Rattle.rm_base.specs.Words.{Word}
use Rattle.rm_model.proofs.Public.{is_word-same, same_word}
use Rattle.graph_to_model.specs.Inner.Writable.{IsWritable}
use Rattle.graph_to_model.specs.Inner.Covers.{IsGateCover, IsCopyCover}

apart : (xs ys : List Word) (x : Word) → is_distinct (xs ++ ys) ≡ true → In xs x → In ys x → ⊥
apart [] ys x e i j = i
apart (y ∷ xs) ys x e (inl same) j = distinct_head y (xs ++ ys) e (subst (In (xs ++ ys)) (sym same) (in_right xs ys x j))
apart (y ∷ xs) ys x e (inr i) j = apart xs ys x (distinct_tail y (xs ++ ys) e) i j

gate_node : (o : Option Node) (net : Net) (n : ℕ) → node_at net n ≡ o → is_gate net n ≡ true → IsGateNumber net n
gate_node None net n at e = let bad : false ≡ true = rw at at e in absurd cc
gate_node (Some node) net n at e = let is : is_gate_kind node.kind ≡ true = rw at at e in record { node = node; at = at; gate = subst (λ (b : Bool). T b) (sym is) tt }

gate_test : (net : Net) (n : ℕ) (node : Node) (kind : Kind) → node_at net n ≡ Some node → node.kind ≡ kind → IsGateKind kind → is_gate net n ≡ true
gate_test net n node Source at f h = absurd h
gate_test net n node Zero at f h = absurd h
gate_test net n node One at f h = absurd h
gate_test net n node kind at f h = rw (at, f) refl

module _ (m : Model) (net : Net) (w : IsWritable m net) where
  abbrev r : ℕ → ℕ
  r = w.formed.acyclic.0

  -- the greatest rank of a node below n
  greatest : ℕ → ℕ
  greatest zero = 0
  greatest (suc n) = max (r n) (greatest n)

  below_greatest : (n x : ℕ) → x < n → r x ≤ greatest n
  unfolding greatest
  below_greatest zero x h = absurd (omega arith)
  below_greatest (suc n) x h = elim (eqb_tells x n) [
    | inl t ↦ let same : r x ≡ r n = ap r t.1 in omega (arith, same)
    | inr f ↦ let rest : r x ≤ greatest n = below_greatest n x (let ne : x ≢ n = f.1 in omega arith) in omega (arith, rest)
  ]

  top : ℕ
  top = suc (greatest (length net.nodes))

  top_is : top ≡ suc (greatest (length net.nodes))
  unfolding top
  top_is = refl

  -- the rank of a name, by the gates below n
  rank_of : ℕ → Word → ℕ
  rank_of zero x = top
  rank_of (suc n) x = if is_gate net n && is_word (node_name m net n) x then r n else rank_of n x

  same_gate : (n g : ℕ) → n < 2 ^ 64 → g < 2 ^ 64 → IsGateNumber net n → IsGateNumber net g → node_name m net n ≡ node_name m net g → n ≡ g
  same_gate n g ln lg a b e = gates_told m net w.fit w.few.names n g (gate_number m net w n a.node a.at a.gate) (gate_number m net w g b.node b.at b.gate) ln lg e

  rank_found : (n g : ℕ) → n ≤ length net.nodes → g < n → IsGateNumber net g → rank_of n (node_name m net g) ≡ r g
  unfolding rank_of
  rank_found zero g small h gate = absurd (omega arith)
  rank_found (suc n) g small h gate = by_test (is_gate net n && is_word (node_name m net n) (node_name m net g)) refl (λ lower. rank_found n g (omega arith) lower gate)
    where
      by_test : (b : Bool) → (is_gate net n && is_word (node_name m net n) (node_name m net g)) ≡ b → (g < n → rank_of n (node_name m net g) ≡ r g) → (if b then r n else rank_of n (node_name m net g)) ≡ r g
      by_test true e rec =
          let t = and_parts (is_gate net n) _ e in
          ap r (same_gate n g (omega (arith, w.few.nodes)) (omega (arith, w.few.nodes)) (gate_node (node_at net n) net n refl t.0) gate (same_word (node_name m net n) (node_name m net g) t.1))
      by_test false e rec = elim (eqb_tells g n) [
        | inl t ↦
            let here : (is_gate net n && is_word (node_name m net n) (node_name m net g)) ≡ true =
            subst (λ (k : ℕ). (is_gate net k && is_word (node_name m net k) (node_name m net g)) ≡ true) t.1
            (rw (gate_test net g gate.node gate.node.kind gate.at refl gate.gate) (is_word-same (node_name m net g))) in
            let bad : true ≡ false = sym here ∙ e in absurd cc
        | inr f ↦ rec (let ne : g ≢ n = f.1 in omega arith)
      ]

  rank_absent : (n : ℕ) (x : Word) → ((g : ℕ) → IsGateNumber net g → node_name m net g ≡ x → ⊥) → rank_of n x ≡ top
  unfolding rank_of
  rank_absent zero x none = refl
  rank_absent (suc n) x none = by_test (is_gate net n && is_word (node_name m net n) x) refl (rank_absent n x none)
    where
      by_test : (b : Bool) → (is_gate net n && is_word (node_name m net n) x) ≡ b → rank_of n x ≡ top → (if b then r n else rank_of n x) ≡ top
      by_test true e rec =
          let t = and_parts (is_gate net n) _ e in
          absurd (none n (gate_node (node_at net n) net n refl t.0) (same_word (node_name m net n) x t.1))
      by_test false e rec = rec

  abbrev rank : Word → ℕ
  rank x = rank_of (length net.nodes) x

  gate_rank : (g : ℕ) → IsGateNumber net g → rank (node_name m net g) ≡ r g
  gate_rank g gate = rank_found (length net.nodes) g (omega arith) (live_within net g gate.node gate.at) gate

  -- no source's name is the output of a cover
  source_no_output : (k d : ℕ) → d ≡ 2 + k → k < length (source_names m) → is_cover_output (model_of_net m net) (node_name m net d) ≡ true → ⊥
  source_no_output k d e h output =
      let s = stands_below (source_names m) k h in
      let name : node_name m net d ≡ s.0 = ap (node_name m net) e ∙ source_name m net w.fit w.few.names k s.0 s.1 in
      let f = in_any (λ (c : Cover). is_word (node_name m net d) c.output) (model_of_net m net).covers output in
      let same : node_name m net d ≡ (f.0).output = same_word (node_name m net d) (f.0).output f.1.1 in
      apart (source_names m) (outputs_of (model_of_net m net).covers) s.0 (driven_once m net w) (in_at (source_names m) k s.0 s.1)
      (subst (In (outputs_of (model_of_net m net).covers)) (sym same ∙ name) (in_mapped (λ (c : Cover). c.output) (model_of_net m net).covers f.0 f.1.0))

  abbrev Below : Cover → Word → Type 0
  Below c y = is_cover_output (model_of_net m net) y ≡ true → rank y < rank c.output

  gate_below : (c : Cover) (x : ℕ) → IsGateCover m net x c → (y : Word) → In c.inputs y → Below c y
  gate_below c x g y i output =
      let f = in_map (node_name m net) g.node.drivers y (subst (λ (xs : List Word). In xs y) g.cover.in_is i) in
      let p = index_of g.node.drivers f.0 f.1.0 in
      let reads : Reads net x p.0 f.0 = rw g.at p.1 in
      let less : r f.0 < r x = w.formed.acyclic.1 x p.0 f.0 reads in
      let own : rank c.output ≡ r x = ap rank g.cover.out_is ∙ gate_rank x (record { node = g.node; at = g.at; gate = g.cover.gate }) in
      by_name f.0 (driver_named m net w x g.node p.0 f.0 g.at p.1) f.1.1 less own
    where
      by_name : (d : ℕ) → HasName m net d → node_name m net d ≡ y → r d < r x → rank c.output ≡ r x → rank y < rank c.output
      by_name d (inl (k, (e, h))) name less own = absurd (source_no_output k d e h (subst (λ (z : Word). is_cover_output (model_of_net m net) z ≡ true) (sym name) output))
      by_name d (inr gate) name less own =
          let driver : rank y ≡ r d = ap rank (sym name) ∙ gate_rank d gate in
          omega (arith, driver, own, less)

  copy_below : (c : Cover) → IsCopyCover m net (names_before_copies m net) net.observed (observed_names m) c → (y : Word) → In c.inputs y → Below c y
  copy_below c copy y i output = by_name (cover_reads m net w c (inr copy) y i)
    where
      own : rank c.output ≡ top
      own = ap rank (ap (λ (d : Cover). d.output) copy.is ∙ copy_out m net copy.node copy.name) ∙ rank_absent (length net.nodes) copy.name (λ g gate name.
          let k = cover_at m net w g gate in
          not_had (names_before_copies m net) copy.name copy.fresh (in_right (source_names m) (outputs_of (covers_of_gates m net)) copy.name
          (subst (In (outputs_of (covers_of_gates m net))) (k.1.1.cover.out_is ∙ name) (in_mapped (λ (d : Cover). d.output) (covers_of_gates m net) k.0 k.1.0))))

      rank_less : (d : ℕ) → rank y ≡ r d → r d ≤ greatest (length net.nodes) → rank c.output ≡ top → rank y < rank c.output
      rank_less d driver low own = let t : top ≡ suc (greatest (length net.nodes)) = top_is in omega (arith, driver, low, own, t)

      by_name : ((d : ℕ) × ((node_name m net d ≡ y) × (HasName m net d × (node_at net d ≢ None)))) → rank y < rank c.output
      by_name (d, (name, (inl (k, (e, h)), live))) = absurd (source_no_output k d e h (subst (λ (z : Word). is_cover_output (model_of_net m net) z ≡ true) (sym name) output))
      by_name (d, (name, (inr gate, live))) =
          let driver : rank y ≡ r d = ap rank (sym name) ∙ gate_rank d gate in
          let low : r d ≤ greatest (length net.nodes) = below_greatest (length net.nodes) d (live_within net d gate.node gate.at) in
          rank_less d driver low own

  pub ranked : IsRanked (model_of_net m net)
  ranked = (
    rank,
    all_in_list (λ (c : Cover). All (λ x. Below c x) c.inputs) (model_of_net m net).covers
        (λ c i. all_in_list (λ x. Below c x) c.inputs (λ y j. by_case c (cover_cases m net w c i) y j)),
  )
    where
      by_case : (c : Cover) → (((x : ℕ) × ((x < length net.nodes) × IsGateCover m net x c)) ⊎ IsCopyCover m net (names_before_copies m net) net.observed (observed_names m) c) → (y : Word) → In c.inputs y → Below c y
      by_case c (inl (x, (h, g))) y j = gate_below c x g y j
      by_case c (inr copy) y j = copy_below c copy y j
