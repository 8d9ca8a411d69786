-- The model of a net is well formed.
use Rattle.std.proofs.Common.{◌≡◌, ◌≢◌, ◌≤◌, ◌<◌, ◌+◌, ◌-◌, ◌^◌, ℕ, suc, Bool, true, false, List, [], ◌∷◌, ◌++◌, map, length, refl, sym, ◌∙◌, ap, arith, subst, ◌⊎◌, inl, inr, All, ◌&&◌, nat_eq}
use Rattle.std.specs.Prelude.{Option, None, Some, slice_get, if◌then◌else◌}
use Rattle.std.specs.List.{list_all, flat_map, filter_map}
use Rattle.std.proofs.lemmas.Bool.{eq-eqb}
use Rattle.std.proofs.lemmas.List.Elements.{All-cons, All-nil}
use Rattle.rm_model.specs.Value.{is_among, source_names, observed_names, control_of, outputs_of}
use Rattle.rm_model.specs.WellFormed.{IsWellFormed, IsWellFormedCover, driven_names, used_names, names_of, is_token}
use Rattle.rm_model.specs.declared.parts.Literal.{Literal}
use Rattle.rm_model.specs.declared.parts.Literal.TheVariants.{One as One1}
use Rattle.rm_model.specs.declared.parts.Cover.{Cover}
use Rattle.rm_model.specs.declared.parts.Latch.{Latch}
use Rattle.rm_model.specs.declared.parts.Model.{Model}
use Rattle.gate_net.specs.declared.Kind.{Kind}
use Rattle.gate_net.specs.declared.Kind.TheVariants.{Source, Zero, One, Not, Xor}
use Rattle.gate_net.specs.Net.{Node, Net, node_at, Reads, IsGateKind, source_count}
use Rattle.cover_decompose.proofs.Public.{among_in}
use Rattle.std.specs.Fmt.{decimal}
use Rattle.graph_to_model.specs.Names.{free_prefix, node_name}
use Rattle.graph_to_model.specs.Inner.Names.{IsGateNumber, HasName}
use Rattle.graph_to_model.specs.NetModel.{cover_with, model_of_net, covers_of_gates, names_before_copies, covers_of_copies}
use Rattle.graph_to_model.proofs.TidyFacts.{kind_is}
use Rattle.graph_to_model.proofs.GateValues.{one_row}
use Rattle.graph_to_model.proofs.Named.{StandsOn, source_name, gate_name}
use Rattle.graph_to_model.proofs.Covers.{all_from_start, in_gates, gates_in, in_copies, place_of, live_within, copy_out}
use Rattle.graph_to_model.proofs.Outputs.{driven_once, observed_driven, gate_driven, gate_number}
use Rattle.graph_to_model.proofs.Tokens.{made_token}
use Rattle.rm_base.proofs.Public.{all_pass_in, in_append, in_at, in_left, in_map, in_right, stands_below}
use Rattle.rm_base.specs.Members.{In}
use Rattle.rm_base.specs.Words.{Word}
use Rattle.graph_to_model.specs.Inner.Writable.{IsWritable}
use Rattle.graph_to_model.specs.Inner.Covers.{HasPins, IsGateCover, IsCopyCover}

all_pass : (test : Word → Bool) (xs : List Word) → ((x : Word) → In xs x → test x ≡ true) → list_all test xs ≡ true
all_pass test [] h = refl
all_pass test (x ∷ xs) h = and_true (test x) (list_all test xs) (h x (inl refl)) (all_pass test xs (λ y i. h y (inr i)))
  where
    and_true : (a b : Bool) → a ≡ true → b ≡ true → (a && b) ≡ true
    and_true true b e f = f
    and_true false b e f = absurd cc

in_flat : (f : Cover → List Word) (cs : List Cover) (x : Word) → In (flat_map f cs) x → (c : Cover) × (In cs c × In (f c) x)
in_flat f [] x i = absurd i
in_flat f (c ∷ cs) x i = cases (in_append (f c) (flat_map f cs) x i) (λ j. in_flat f cs x j)
  where
    cases : (In (f c) x ⊎ In (flat_map f cs) x) → (In (flat_map f cs) x → (d : Cover) × (In cs d × In (f d) x)) → (d : Cover) × (In (c ∷ cs) d × In (f d) x)
    cases (inl j) rec = (c, (inl refl, j))
    cases (inr j) rec = let r = rec j in (r.0, (inr r.1.0, r.1.1))

pub all_in_list : {X : Type 0} (P : X → Type 0) (xs : List X) → ((x : X) → In xs x → P x) → All P xs
all_in_list P [] h = All-nil P
all_in_list P (x ∷ xs) h = All-cons P x xs (h x (inl refl)) (all_in_list P xs (λ y i. h y (inr i)))

pub index_of : (ns : List ℕ) (n : ℕ) → In ns n → (k : ℕ) × (slice_get ns k ≡ Some n)
index_of [] n i = absurd i
index_of (k ∷ ns) n (inl e) = (0, ap Some e)
index_of (k ∷ ns) n (inr i) = let r = index_of ns n i in (suc r.0, r.1)

module _ (m : Model) (net : Net) (w : IsWritable m net) where
  by_kind : (x : ℕ) (node : Node) (kind : Kind) → node_at net x ≡ Some node → node.kind ≡ kind → x ≢ 0 → x ≢ 1 → HasName m net x
  by_kind x node Source at e no_zero no_one =
      let within = w.formed.sources.only x (kind_is net x node Source at e) in
      let low : 2 ≤ x = within.0 in
      let high : x < 2 + source_count net = within.1 in
      let count : source_count net ≡ length (source_names m) = w.fit.sources in
      inl (x - 2, (omega arith, omega arith))
  by_kind x node Zero at e no_zero no_one = absurd (no_zero (w.formed.only_zero x (kind_is net x node Zero at e)))
  by_kind x node One at e no_zero no_one = absurd (no_one (w.formed.only_one x (kind_is net x node One at e)))
  by_kind x node kind at e no_zero no_one = inr (record { node = node; at = at; gate = subst IsGateKind (sym e) tt })

  pub live_named : (x : ℕ) → node_at net x ≢ None → x ≢ 0 → x ≢ 1 → HasName m net x
  live_named x live no_zero no_one = told (node_at net x) refl
    where
      told : (o : Option Node) → node_at net x ≡ o → HasName m net x
      told None e = absurd (live e)
      told (Some node) e = by_kind x node node.kind e refl no_zero no_one

  -- what a gate reads has a name
  pub driver_named : (x : ℕ) (node : Node) (p d : ℕ) → node_at net x ≡ Some node → slice_get node.drivers p ≡ Some d → HasName m net d
  driver_named x node p d at e =
      let reads : Reads net x p d = rw at e in
      live_named d (w.formed.drivers_live x p d reads)
      (λ (z : d ≡ 0). w.lean.no_zero x p (subst (λ (y : ℕ). Reads net x p y) z reads))
      (λ (z : d ≡ 1). w.lean.no_one x p (subst (λ (y : ℕ). Reads net x p y) z reads))

  -- the cover of a gate
  pub cover_at : (x : ℕ) → IsGateNumber net x → (c : Cover) × (In (covers_of_gates m net) c × IsGateCover m net x c)
  cover_at x g = gates_in m net 0 net.nodes (all_from_start net) x g.node (omega arith) (omega (arith, live_within net x g.node g.at)) g.at g.gate

  pub name_driven : (x : ℕ) → HasName m net x → In (driven_names (model_of_net m net)) (node_name m net x)
  name_driven x (inl (k, (e, h))) =
      let s = stands_below (source_names m) k h in
      let name : node_name m net x ≡ s.0 = ap (node_name m net) e ∙ source_name m net w.fit w.few.names k s.0 s.1 in
      subst (In (driven_names (model_of_net m net))) (sym name) (in_left (source_names m) _ s.0 (in_at (source_names m) k s.0 s.1))
  name_driven x (inr g) = let c = cover_at x g in gate_driven m net w x c.0 c.1.0 c.1.1

  -- TOKENS
  kept_token : (x : Word) → In (names_of m) x → is_token x ≡ true
  kept_token x i = all_pass_in is_token (names_of m) x w.well.tokens i

  source_token : (x : Word) → In (source_names m) x → is_token x ≡ true
  source_token x i = kept_token x (in_left (m.name ∷ driven_names m) _ x (inr (in_left (source_names m) _ x i)))

  observed_used : (x : Word) → In (observed_names m) x → In (used_names m) x
  observed_used x i = cases (in_append (m.outputs ++ map (λ (l : Latch). l.input) m.latches) (filter_map control_of m.latches) x i)
    where
      inner : (In m.outputs x ⊎ In (map (λ (l : Latch). l.input) m.latches) x) → In (used_names m) x
      inner (inl j) = in_left _ (filter_map control_of m.latches) x (in_left _ (map (λ (l : Latch). l.input) m.latches) x (in_left m.outputs (flat_map (λ (c : Cover). c.inputs) m.covers) x j))
      inner (inr j) = in_left _ (filter_map control_of m.latches) x (in_right (m.outputs ++ flat_map (λ (c : Cover). c.inputs) m.covers) _ x j)

      cases : (In (m.outputs ++ map (λ (l : Latch). l.input) m.latches) x ⊎ In (filter_map control_of m.latches) x) → In (used_names m) x
      cases (inl j) = inner (in_append m.outputs (map (λ (l : Latch). l.input) m.latches) x j)
      cases (inr j) = in_right ((m.outputs ++ flat_map (λ (c : Cover). c.inputs) m.covers) ++ map (λ (l : Latch). l.input) m.latches) _ x j

  observed_token : (x : Word) → In (observed_names m) x → is_token x ≡ true
  observed_token x i = kept_token x (in_right (m.name ∷ driven_names m) _ x (in_right m.clocks _ x (observed_used x i)))

  gate_token : (x : ℕ) → 2 + length (source_names m) ≤ x → x < 2 ^ 64 → is_token (node_name m net x) ≡ true
  gate_token x h small = cases (gate_name m net w.fit w.few.names x h)
    where
      cases : (StandsOn m net x (node_name m net x) ⊎ (node_name m net x ≡ free_prefix m ++ decimal x)) → is_token (node_name m net x) ≡ true
      cases (inl s) = observed_token (node_name m net x) (in_at (observed_names m) s.place (node_name m net x) s.name)
      cases (inr e) = rw e (made_token m x w.few.names small)

  name_token : (x : ℕ) → x < 2 ^ 64 → HasName m net x → is_token (node_name m net x) ≡ true
  name_token x small (inl (k, (e, h))) =
      let s = stands_below (source_names m) k h in
      let name : node_name m net x ≡ s.0 = ap (node_name m net) e ∙ source_name m net w.fit w.few.names k s.0 s.1 in
      rw name (source_token s.0 (in_at (source_names m) k s.0 s.1))
  name_token x small (inr g) = gate_token x (gate_number m net w x g.node g.at g.gate) small

  live_small : (x : ℕ) → node_at net x ≢ None → x < 2 ^ 64
  live_small x live = told (node_at net x) refl
    where
      told : (o : Option Node) → node_at net x ≡ o → x < 2 ^ 64
      told None e = absurd (live e)
      told (Some node) e = omega (arith, live_within net x node e, w.few.nodes)

  -- COVERS
  abbrev M : Model
  M = model_of_net m net

  -- the cover is of a gate or a copy
  abbrev IsOfGate : Cover → Type 0
  IsOfGate c = (x : ℕ) × ((x < length net.nodes) × IsGateCover m net x c)

  abbrev IsOfCopy : Cover → Type 0
  IsOfCopy c = IsCopyCover m net (names_before_copies m net) net.observed (observed_names m) c

  pub cover_cases : (c : Cover) → In M.covers c → IsOfGate c ⊎ IsOfCopy c
  cover_cases c i = cases (in_append (covers_of_gates m net) (covers_of_copies m net) c i)
    where
      cases : (In (covers_of_gates m net) c ⊎ In (covers_of_copies m net) c) → IsOfGate c ⊎ IsOfCopy c
      cases (inl j) = let f = in_gates m net 0 net.nodes c (all_from_start net) j in inl (f.0, (omega (arith, f.1.1.0), f.1.1.1))
      cases (inr j) = inr (in_copies m net (names_before_copies m net) net.observed (observed_names m) c j)

  one_pin_not : (x : ℕ) (node : Node) → node_at net x ≡ Some node → node.kind ≡ Not → length (map (node_name m net) node.drivers) ≡ 1
  one_pin_not x node at e =
      let one = w.formed.nots_have_one x (kind_is net x node Not at e) in
      let drivers : node.drivers ≡ one.0 ∷ [] = sym (rw at refl) ∙ one.1 in
      rw drivers refl

  two_pins_xor : (x : ℕ) (node : Node) → node_at net x ≡ Some node → node.kind ≡ Xor → length (map (node_name m net) node.drivers) ≡ 2
  two_pins_xor x node at e =
      let two = w.formed.xors_have_two x (kind_is net x node Xor at e) in
      let drivers : node.drivers ≡ two.0 ∷ two.1 ∷ [] = sym (rw at refl) ∙ two.2 in
      rw drivers refl

  pub has_pins : (x : ℕ) (node : Node) → node_at net x ≡ Some node → HasPins node.kind (length (map (node_name m net) node.drivers))
  has_pins x node at = record { one = one_pin_not x node at; two = two_pins_xor x node at }

  copy_formed : (n : ℕ) (x : Word) (a b : Bool) → IsWellFormedCover (if a then cover_with [] x true [] else (if b then cover_with [] x true ([] ∷ []) else cover_with (node_name m net n ∷ []) x true ((One1 ∷ []) ∷ [])))
  copy_formed n x true b = record { no_rows = λ e. refl; row_lengths = All-nil (λ (r : List Literal). length r ≡ 0) }
  copy_formed n x false true = record { no_rows = λ e. refl; row_lengths = one_row 0 One1 }
  copy_formed n x false false = record { no_rows = λ e. refl; row_lengths = one_row 1 One1 }

  formed_cover : (c : Cover) → IsOfGate c ⊎ IsOfCopy c → IsWellFormedCover c
  formed_cover c (inl (x, (h, g))) = g.cover.formed (has_pins x g.node g.at)
  formed_cover c (inr copy) = subst IsWellFormedCover (sym copy.is) (copy_formed copy.node copy.name (nat_eq copy.node 0) (nat_eq copy.node 1))

  -- what a cover reads has a name
  gate_reads : (c : Cover) (x : ℕ) → IsGateCover m net x c → (y : Word) → In c.inputs y → (d : ℕ) × ((node_name m net d ≡ y) × (HasName m net d × (node_at net d ≢ None)))
  gate_reads c x g y i =
      let f = in_map (node_name m net) g.node.drivers y (subst (λ (xs : List Word). In xs y) g.cover.in_is i) in
      let p = index_of g.node.drivers f.0 f.1.0 in
      (f.0, (f.1.1, (driver_named x g.node p.0 f.0 g.at p.1, w.formed.drivers_live x p.0 f.0 (rw g.at p.1))))

  copy_reads : (n : ℕ) (x y : Word) (a b : Bool) → nat_eq n 0 ≡ a → nat_eq n 1 ≡ b → In (if a then cover_with [] x true [] else (if b then cover_with [] x true ([] ∷ []) else cover_with (node_name m net n ∷ []) x true ((One1 ∷ []) ∷ []))).inputs y → (node_name m net n ≡ y) × ((n ≢ 0) × (n ≢ 1))
  copy_reads n x y true b e f i = absurd i
  copy_reads n x y false true e f i = absurd i
  copy_reads n x y false false e f (inl same) =
      (same, ((λ (z : n ≡ 0). let bad : true ≡ false = sym (eq-eqb n 0 z) ∙ e in cc), (λ (z : n ≡ 1). let bad : true ≡ false = sym (eq-eqb n 1 z) ∙ f in cc)))
  copy_reads n x y false false e f (inr none) = absurd none

  pub cover_reads : (c : Cover) → IsOfGate c ⊎ IsOfCopy c → (y : Word) → In c.inputs y → (d : ℕ) × ((node_name m net d ≡ y) × (HasName m net d × (node_at net d ≢ None)))
  cover_reads c (inl (x, (h, g))) y i = gate_reads c x g y i
  cover_reads c (inr copy) y i =
      let r = copy_reads copy.node copy.name y (nat_eq copy.node 0) (nat_eq copy.node 1) refl refl (subst (λ (d : Cover). In d.inputs y) copy.is i) in
      let live : node_at net copy.node ≢ None = w.formed.observed_live copy.node (copy.at.0, copy.at.1.0) in
      (copy.node, (r.0, (live_named copy.node live r.1.0 r.1.1, live)))

  input_driven : (y : Word) → In (flat_map (λ (c : Cover). c.inputs) M.covers) y → In (driven_names M) y
  input_driven y i =
      let f = in_flat (λ (c : Cover). c.inputs) M.covers y i in
      let r = cover_reads f.0 (cover_cases f.0 f.1.0) y f.1.1 in
      subst (In (driven_names M)) r.1.0 (name_driven r.0 r.1.1.0)

  input_token : (y : Word) → In (flat_map (λ (c : Cover). c.inputs) M.covers) y → is_token y ≡ true
  input_token y i =
      let f = in_flat (λ (c : Cover). c.inputs) M.covers y i in
      let r = cover_reads f.0 (cover_cases f.0 f.1.0) y f.1.1 in
      subst (λ (z : Word). is_token z ≡ true) r.1.0 (name_token r.0 (live_small r.0 r.1.1.1) r.1.1.0)

  output_token : (y : Word) → In (outputs_of M.covers) y → is_token y ≡ true
  output_token y i =
      let f = in_map (λ (c : Cover). c.output) M.covers y i in
      subst (λ (z : Word). is_token z ≡ true) f.1.1 (by_cases f.0 (cover_cases f.0 f.1.0))
    where
      by_cases : (c : Cover) → IsOfGate c ⊎ IsOfCopy c → is_token c.output ≡ true
      by_cases c (inl (x, (h, g))) = rw g.cover.out_is (gate_token x (gate_number m net w x g.node g.at g.cover.gate) (omega (arith, w.few.nodes)))
      by_cases c (inr copy) = rw (ap (λ (d : Cover). d.output) copy.is ∙ copy_out m net copy.node copy.name) (observed_token copy.name (in_at (observed_names m) copy.at.0 copy.name copy.at.1.1))

  -- names used are observed, or inputs of covers
  used_cases : (y : Word) → In (used_names M) y → In (observed_names m) y ⊎ In (flat_map (λ (c : Cover). c.inputs) M.covers) y
  used_cases y i = outer (in_append ((m.outputs ++ flat_map (λ (c : Cover). c.inputs) M.covers) ++ map (λ (l : Latch). l.input) m.latches) (filter_map control_of m.latches) y i)
    where
      inner : (In m.outputs y ⊎ In (flat_map (λ (c : Cover). c.inputs) M.covers) y) → In (observed_names m) y ⊎ In (flat_map (λ (c : Cover). c.inputs) M.covers) y
      inner (inl j) = inl (in_left _ (filter_map control_of m.latches) y (in_left m.outputs (map (λ (l : Latch). l.input) m.latches) y j))
      inner (inr j) = inr j

      middle : (In (m.outputs ++ flat_map (λ (c : Cover). c.inputs) M.covers) y ⊎ In (map (λ (l : Latch). l.input) m.latches) y) → In (observed_names m) y ⊎ In (flat_map (λ (c : Cover). c.inputs) M.covers) y
      middle (inl j) = inner (in_append m.outputs (flat_map (λ (c : Cover). c.inputs) M.covers) y j)
      middle (inr j) = inl (in_left _ (filter_map control_of m.latches) y (in_right m.outputs (map (λ (l : Latch). l.input) m.latches) y j))

      outer : (In ((m.outputs ++ flat_map (λ (c : Cover). c.inputs) M.covers) ++ map (λ (l : Latch). l.input) m.latches) y ⊎ In (filter_map control_of m.latches) y) → In (observed_names m) y ⊎ In (flat_map (λ (c : Cover). c.inputs) M.covers) y
      outer (inl j) = middle (in_append (m.outputs ++ flat_map (λ (c : Cover). c.inputs) M.covers) (map (λ (l : Latch). l.input) m.latches) y j)
      outer (inr j) = inl (in_right (m.outputs ++ map (λ (l : Latch). l.input) m.latches) (filter_map control_of m.latches) y j)

  used_driven : (y : Word) → In (used_names M) y → In (driven_names M) y
  used_driven y i = cases (used_cases y i)
    where
      cases : (In (observed_names m) y ⊎ In (flat_map (λ (c : Cover). c.inputs) M.covers) y) → In (driven_names M) y
      cases (inl j) = let p = place_of (observed_names m) y j in observed_driven m net w p.0 y p.1
      cases (inr j) = input_driven y j

  used_token : (y : Word) → In (used_names M) y → is_token y ≡ true
  used_token y i = cases (used_cases y i)
    where
      cases : (In (observed_names m) y ⊎ In (flat_map (λ (c : Cover). c.inputs) M.covers) y) → is_token y ≡ true
      cases (inl j) = observed_token y j
      cases (inr j) = input_token y j

  token : (y : Word) → In (names_of M) y → is_token y ≡ true
  token y i = outer (in_append (m.name ∷ driven_names M) (m.clocks ++ used_names M) y i)
    where
      driven : (In (source_names m) y ⊎ In (outputs_of M.covers) y) → is_token y ≡ true
      driven (inl j) = source_token y j
      driven (inr j) = output_token y j

      front : In (m.name ∷ driven_names M) y → is_token y ≡ true
      front (inl e) = kept_token y (in_left (m.name ∷ driven_names m) _ y (inl e))
      front (inr j) = driven (in_append (source_names m) (outputs_of M.covers) y j)

      back : (In m.clocks y ⊎ In (used_names M) y) → is_token y ≡ true
      back (inl j) = kept_token y (in_right (m.name ∷ driven_names m) _ y (in_left m.clocks _ y j))
      back (inr j) = used_token y j

      outer : (In (m.name ∷ driven_names M) y ⊎ In (m.clocks ++ used_names M) y) → is_token y ≡ true
      outer (inl j) = front j
      outer (inr j) = back (in_append m.clocks (used_names M) y j)

  pub well_formed : IsWellFormed M
  well_formed = record {
    tokens = all_pass is_token (names_of M) token;
    inputs_once = w.well.inputs_once;
    clocks_once = w.well.clocks_once;
    driven_once = driven_once m net w;
    outputs_once = w.well.outputs_once;
    all_driven = all_pass (is_among (driven_names M)) (used_names M) (λ y i. among_in (driven_names M) y (used_driven y i));
    covers = all_in_list IsWellFormedCover M.covers (λ c i. formed_cover c (cover_cases c i));
    inits = w.well.inits;
    controls = w.well.controls;
  }
