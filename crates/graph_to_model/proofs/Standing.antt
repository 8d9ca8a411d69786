-- The net stands for its model.
use Rattle.std.proofs.Common.{◌≡◌, ◌≢◌, ◌<◌, ◌+◌, ℕ, zero, suc, Bool, true, false, List, [], ◌∷◌, map, length, refl, sym, ◌∙◌, ap, arith, subst, ◌⊎◌, inl, inr, All, nat_eq}
use Rattle.std.specs.Prelude.{Option, None, Some, T, slice_get, if◌then◌else◌}
use Rattle.std.proofs.lemmas.Option.{slice_get_within}
use Rattle.std.proofs.lemmas.Bool.{eq-eqb}
use Rattle.std.proofs.lemmas.Bool.Decides.{eqb_tells}
use Rattle.std.proofs.lemmas.List.Elements.{All-head, All-tail}
use Rattle.graph_to_model.proofs.Pins.{map_words}
use Rattle.rm_model.specs.Value.{source_names, observed_names, value_of, IsConsistent, outputs_of}
use Rattle.rm_model.specs.declared.parts.Literal.TheVariants.{One as One1}
use Rattle.rm_model.specs.declared.parts.Cover.{Cover}
use Rattle.rm_model.specs.declared.parts.Model.{Model}
use Rattle.gate_net.proofs.Public.{along_pins}
use Rattle.gate_net.specs.declared.Kind.{Kind}
use Rattle.gate_net.specs.declared.Kind.TheVariants.{Source}
use Rattle.gate_net.specs.declared.Family.{Family}
use Rattle.gate_net.specs.declared.Family.TheVariants.{Constant, Input, Junction, Parity}
use Rattle.gate_net.specs.Meaning.{is_gate_family}
use Rattle.gate_net.specs.Net.{Net, node_at, Reads, IsGateKind, plain_node, source_count}
use Rattle.gate_net.specs.Values.{AreGoodValues, family, family_value, gate_value}
use Rattle.cover_decompose.specs.StandsFor.{StandsFor, SameAssignment}
use Rattle.graph_to_model.specs.Names.{node_name}
use Rattle.graph_to_model.specs.Inner.Names.{IsGateNumber, HasName}
use Rattle.graph_to_model.specs.NetModel.{cover_with, copy_cover, model_of_net, covers_of_gates, names_before_copies, covers_of_copies}
use Rattle.graph_to_model.proofs.Named.{source_name, stands_on_gate}
use Rattle.graph_to_model.proofs.Covers.{in_copies, copies_in, in_gates, all_from_start, place_of, copy_out, HasOrCopies}
use Rattle.graph_to_model.proofs.Outputs.{cover_number}
use Rattle.graph_to_model.proofs.Formed.{cover_at, driver_named, has_pins, live_named}
use Rattle.rm_base.proofs.Public.{in_append, in_left, in_map, in_right, some_is, stands_below}
use Rattle.rm_base.specs.Members.{In}
use Rattle.rm_base.specs.Words.{Word}
use Rattle.graph_to_model.specs.Inner.Writable.{IsWritable}

pub all_at : {X : Type 0} (P : X → Type 0) (xs : List X) (x : X) → All P xs → In xs x → P x
all_at P [] x h i = absurd i
all_at P (y ∷ xs) x h (inl e) = subst P e (All-head P y xs h)
all_at P (y ∷ xs) x h (inr i) = all_at P xs x (All-tail P y xs h) i

map_map : (v : Word → Bool) (f : ℕ → Word) (ds : List ℕ) → map v (map f ds) ≡ map (λ d. v (f d)) ds
map_map v f [] = refl
map_map v f (d ∷ ds) = ap (λ (bs : List Bool). v (f d) ∷ bs) (map_map v f ds)

map_agree : (v w : ℕ → Bool) (ds : List ℕ) → ((p d : ℕ) → slice_get ds p ≡ Some d → v d ≡ w d) → map v ds ≡ map w ds
map_agree v w [] h = refl
map_agree v w (d ∷ ds) h =
    let first : v d ≡ w d = h 0 d refl in
    let rest : map v ds ≡ map w ds = map_agree v w ds (λ p x e. h (suc p) x e) in
    cc

map_length : {A : Type 0} (f : A → Bool) (ds : List A) → length (map f ds) ≡ length ds
map_length f [] = refl
map_length f (d ∷ ds) = ap suc (map_length f ds)

-- lists agree where they agree at each place
same_lists : (xs ys : List Bool) → length xs ≡ length ys → ((k : ℕ) (b : Bool) → slice_get ys k ≡ Some b → slice_get xs k ≡ Some b) → xs ≡ ys
same_lists [] [] l h = refl
same_lists [] (y ∷ ys) l h = absurd (omega arith)
same_lists (x ∷ xs) [] l h = absurd (omega arith)
same_lists (x ∷ xs) (y ∷ ys) l h =
    let first : x ≡ y = some_is x y (h 0 y refl) in
    let rest : xs ≡ ys = same_lists xs ys (omega (arith, l)) (λ k b e. h (suc k) b e) in
    cc

map_get : {A : Type 0} (f : A → Bool) (xs : List A) (k : ℕ) (a : A) → slice_get xs k ≡ Some a → slice_get (map f xs) k ≡ Some (f a)
map_get f [] zero a e = cc
map_get f [] (suc k) a e = cc
map_get f (x ∷ xs) zero a e = ap (λ (y : Option _). y) (ap Some (ap f (some_is x a e)))
map_get f (x ∷ xs) (suc k) a e = map_get f xs k a e

got_map : {A : Type 0} (f : A → Bool) (xs : List A) (k : ℕ) (b : Bool) → slice_get (map f xs) k ≡ Some b → (a : A) × ((slice_get xs k ≡ Some a) × (f a ≡ b))
got_map f [] zero b e = absurd cc
got_map f [] (suc k) b e = absurd cc
got_map f (x ∷ xs) zero b e = (x, (refl, some_is (f x) b e))
got_map f (x ∷ xs) (suc k) b e = got_map f xs k b e

pub assigned : (kind : Kind) (a : Bool) (bs : List Bool) → IsGateKind kind → gate_value kind a bs ≡ gate_value kind false bs
assigned kind a bs h = by_family (family kind) h
  where
    by_family : (f : Family) → T (is_gate_family f) → family_value f a bs ≡ family_value f false bs
    by_family Input h = absurd h
    by_family (Constant b) h = refl
    by_family (Junction c) h = refl
    by_family (Parity i) h = refl

module _ (m : Model) (net : Net) (w : IsWritable m net) (a values : ℕ → Bool) (v : Word → Bool) (good : AreGoodValues net a values) (consistent : IsConsistent (model_of_net m net) v) (same : SameAssignment (model_of_net m net) a v) where
  abbrev Right : ℕ → Type 0
  Right x = HasName m net x → v (node_name m net x) ≡ values x

  source_right : (x k : ℕ) → x ≡ 2 + k → k < length (source_names m) → v (node_name m net x) ≡ values x
  source_right x k e h =
      let s = stands_below (source_names m) k h in
      let name : node_name m net x ≡ s.0 = ap (node_name m net) e ∙ source_name m net w.fit w.few.names k s.0 s.1 in
      let count : source_count net ≡ length (source_names m) = w.fit.sources in
      let plain : node_at net x ≡ plain_node Source = ap (node_at net) e ∙ w.formed.sources.first k (omega arith) in
      let value : values x ≡ a x = good x ∙ rw plain refl in
      ap v name ∙ (sym (same k s.0 s.1) ∙ (ap a (sym e) ∙ sym value))

  gate_right : (x : ℕ) → ((p d : ℕ) → Reads net x p d → Right d) → IsGateNumber net x → v (node_name m net x) ≡ values x
  gate_right x h g =
      let c = cover_at m net w x g in
      let node = c.1.1.node in
      let at : node_at net x ≡ Some node = c.1.1.at in
      let kept : v (c.0).output ≡ value_of c.0 (map v (c.0).inputs) = all_at (λ (d : Cover). v d.output ≡ value_of d (map v d.inputs)) (model_of_net m net).covers c.0 consistent (in_left (covers_of_gates m net) (covers_of_copies m net) c.0 c.1.0) in
      let drivers : map v (map (node_name m net) node.drivers) ≡ map values node.drivers =
      map_map v (node_name m net) node.drivers ∙ map_agree (λ d. v (node_name m net d)) values node.drivers (λ p d e. h p d (rw at e) (driver_named m net w x node p d at e)) in
      let inputs : map v (c.0).inputs ≡ map values node.drivers = ap (map v) c.1.1.cover.in_is ∙ drivers in
      let counted : length (map values node.drivers) ≡ length (map (node_name m net) node.drivers) = map_length values node.drivers ∙ sym (map_words (node_name m net) node.drivers) in
      let value : value_of c.0 (map v (c.0).inputs) ≡ gate_value node.kind false (map values node.drivers) = ap (value_of c.0) inputs ∙ c.1.1.cover.value (map values node.drivers) counted (has_pins m net w x node at) in
      let node_is : values x ≡ gate_value node.kind (a x) (map values node.drivers) = good x ∙ rw at refl in
      ap v (sym c.1.1.cover.out_is) ∙ (kept ∙ (value ∙ (sym (assigned node.kind (a x) (map values node.drivers) c.1.1.cover.gate) ∙ sym node_is)))

  -- each node that has a name has the name's value
  pub names_right : (x : ℕ) → Right x
  names_right = along_pins net w.formed.acyclic Right step
    where
      step : (x : ℕ) → ((p d : ℕ) → Reads net x p d → Right d) → Right x
      step x h (inl (k, (e, s))) = source_right x k e s
      step x h (inr g) = gate_right x h g

  copy_value : (n : ℕ) (x : Word) (c b : Bool) → nat_eq n 0 ≡ c → nat_eq n 1 ≡ b → node_at net n ≢ None → v x ≡ value_of (if c then cover_with [] x true [] else (if b then cover_with [] x true ([] ∷ []) else cover_with (node_name m net n ∷ []) x true ((One1 ∷ []) ∷ []))) (map v (if c then cover_with [] x true [] else (if b then cover_with [] x true ([] ∷ []) else cover_with (node_name m net n ∷ []) x true ((One1 ∷ []) ∷ []))).inputs) → v x ≡ values n
  copy_value n x true b e f live h =
      let zero_is : n ≡ 0 = is_number n 0 e in
      let value : values n ≡ false = ap values zero_is ∙ (good 0 ∙ rw w.formed.constants.zero_is refl) in
      h ∙ sym value
    where
      is_number : (n k : ℕ) → nat_eq n k ≡ true → n ≡ k
      is_number n k e = elim (eqb_tells n k) [ inl t ↦ t.1 | inr f ↦ let bad : true ≡ false = sym e ∙ f.0 in absurd cc ]
  copy_value n x false true e f live h =
      let one_is : n ≡ 1 = is_number n 1 f in
      let value : values n ≡ true = ap values one_is ∙ (good 1 ∙ rw w.formed.constants.one_is refl) in
      h ∙ sym value
    where
      is_number : (n k : ℕ) → nat_eq n k ≡ true → n ≡ k
      is_number n k e = elim (eqb_tells n k) [ inl t ↦ t.1 | inr f ↦ let bad : true ≡ false = sym e ∙ f.0 in absurd cc ]
  copy_value n x false false e f live h =
      let named : HasName m net n = live_named m net w n live (λ (z : n ≡ 0). let bad : true ≡ false = sym (eq-eqb n 0 z) ∙ e in cc) (λ (z : n ≡ 1). let bad : true ≡ false = sym (eq-eqb n 1 z) ∙ f in cc) in
      h ∙ (copied (v (node_name m net n)) ∙ names_right n named)
    where
      copied : (b : Bool) → value_of (cover_with (node_name m net n ∷ []) x true ((One1 ∷ []) ∷ [])) (b ∷ []) ≡ b
      copied true = refl
      copied false = refl

  -- the observed node at a place has the value of the name there
  place_right : (k n : ℕ) (x : Word) → slice_get net.observed k ≡ Some n → slice_get (observed_names m) k ≡ Some x → v x ≡ values n
  place_right k n x e f = found (copies_in m net (names_before_copies m net) net.observed (observed_names m) n x k e f)
    where
      of_gate : (c : Cover) → In (covers_of_gates m net) c → c.output ≡ x → v x ≡ values n
      of_gate c i out =
          let g = in_gates m net 0 net.nodes c (all_from_start net) i in
          let name : node_name m net g.0 ≡ x = sym g.1.1.1.cover.out_is ∙ out in
          let on : n ≡ g.0 = stands_on_gate m net w.fit w.few.names g.0 k n (cover_number m net w g.0 c g.1.1.1) (f ∙ ap Some (sym name)) e in
          ap v (sym name) ∙ (names_right g.0 (inr (record { node = g.1.1.1.node; at = g.1.1.1.at; gate = g.1.1.1.cover.gate })) ∙ ap values (sym on))

      of_source : In (source_names m) x → v x ≡ values n
      of_source i =
          let p = place_of (source_names m) x i in
          let on : n ≡ 2 + p.0 = some_is n (2 + p.0) (sym e ∙ w.fit.points.own k p.0 x f p.1) in
          let within : p.0 < length (source_names m) = slice_get_within (source_names m) p.0 x p.1 in
          ap v (sym (ap (node_name m net) on ∙ source_name m net w.fit w.few.names p.0 x p.1)) ∙ source_right n p.0 on within

      of_copy : (c : Cover) → In (covers_of_copies m net) c → c.output ≡ x → v x ≡ values n
      of_copy c i out =
          let copy = in_copies m net (names_before_copies m net) net.observed (observed_names m) c i in
          let name : copy.name ≡ x = sym (copy_out m net copy.node copy.name) ∙ (sym (ap (λ (d : Cover). d.output) copy.is) ∙ out) in
          let on : copy.node ≡ n = some_is copy.node n (sym copy.at.1.0 ∙ (w.fit.points.same copy.at.0 k x (copy.at.1.1 ∙ ap Some name) f ∙ e)) in
          let kept : v c.output ≡ value_of c (map v c.inputs) = all_at (λ (d : Cover). v d.output ≡ value_of d (map v d.inputs)) (model_of_net m net).covers c consistent (in_right (covers_of_gates m net) (covers_of_copies m net) c i) in
          let said : v copy.name ≡ value_of (copy_cover m net copy.node copy.name) (map v (copy_cover m net copy.node copy.name).inputs) =
          ap v (sym (copy_out m net copy.node copy.name)) ∙ subst (λ (d : Cover). v d.output ≡ value_of d (map v d.inputs)) copy.is kept in
          let live : node_at net copy.node ≢ None = w.formed.observed_live copy.node (copy.at.0, copy.at.1.0) in
          ap v (sym name) ∙ (copy_value copy.node copy.name (nat_eq copy.node 0) (nat_eq copy.node 1) refl refl live said ∙ ap values on)

      in_had : (In (source_names m) x ⊎ In (outputs_of (covers_of_gates m net)) x) → v x ≡ values n
      in_had (inl i) = of_source i
      in_had (inr i) = let g = in_map (λ (c : Cover). c.output) (covers_of_gates m net) x i in of_gate g.0 g.1.0 g.1.1

      found : HasOrCopies m net (names_before_copies m net) net.observed (observed_names m) x → v x ≡ values n
      found (inl i) = in_had (in_append (source_names m) (outputs_of (covers_of_gates m net)) x i)
      found (inr c) = of_copy c.0 c.1.0 c.1.1

  pub observed_right : map values net.observed ≡ map v (observed_names m)
  observed_right = same_lists (map values net.observed) (map v (observed_names m)) (map_length values net.observed ∙ (w.fit.observed ∙ sym (map_length v (observed_names m)))) at_place
    where
      at_place : (k : ℕ) (b : Bool) → slice_get (map v (observed_names m)) k ≡ Some b → slice_get (map values net.observed) k ≡ Some b
      at_place k b e =
          let x = got_map v (observed_names m) k b e in
          let n = stands_below net.observed k (omega (arith, w.fit.observed, slice_get_within (observed_names m) k x.0 x.1.0)) in
          map_get values net.observed k n.0 n.1 ∙ ap Some (sym (place_right k n.0 x.0 n.1 x.1.0) ∙ x.1.1)

pub stands : (m : Model) (net : Net) → IsWritable m net → StandsFor net (model_of_net m net)
stands m net w = record {
  sources = w.fit.sources;
  observed = w.fit.observed;
  values = λ a values v good consistent same. observed_right m net w a values v good consistent same;
}
