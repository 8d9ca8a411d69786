-- The nodes of a decomposition: each gate reads nodes made before it.
use Rattle.std.proofs.Common.{◌≡◌, ◌<◌, ◌≤◌, ◌+◌, ℕ, zero, suc, Bool, true, false, cond, List, [], ◌∷◌, ◌++◌, length, map, refl, sym, ap, subst, ◌∙◌, ◌⊎◌, inl, inr, arith, append_assoc}
use Rattle.std.specs.Prelude.{Some, None, Option, slice_get}
use Rattle.std.specs.List.{AllByRecursion}
use Rattle.rm_model.specs.Words.{is_word}
use Rattle.rm_model.specs.declared.parts.Literal.{Literal}
use Rattle.rm_model.specs.declared.parts.Literal.TheVariants.{Zero, One, Any}
use Rattle.rm_model.specs.declared.parts.Cover.{Cover}
use Rattle.gate_net.specs.declared.Kind.{Kind}
use Rattle.gate_net.specs.declared.Kind.TheVariants.{And, Or, Not, Xor}
use Rattle.gate_net.specs.Net.{Node}
use Rattle.cover_decompose.specs.Decomposition.{State, with_gate, with_not, literals, joined, term, terms, closed, cover_node, node_by, with_cover, with_covers}
use Rattle.cover_decompose.specs.Parity.{parity_ending}
use Rattle.cover_decompose.specs.Inner.Built.{AllBelow, IsGateNode}
use Rattle.cover_decompose.proofs.Parities.{is_parity}
use Rattle.cover_decompose.proofs.Places.{get_parts, length-push}
use Rattle.rm_base.specs.Words.{Word}

-- gates after the first nodes, each over nodes made before it; each signal and each Not is at a node made
pub record IsMade (first : List Node) (s : State) : Type 0 where
  pub gates : List Node
  pub made_is : s.made ≡ first ++ gates
  pub are_gates : AllByRecursion IsGateNode gates
  pub below : (y : ℕ) (n : Node) → slice_get s.made y ≡ Some n → AllBelow y n.drivers
  pub nodes : (x : Word) → s.node_of x < length s.made
  pub nots : (x : Word) (n : ℕ) → s.not_of x ≡ Some n → n < length s.made

-- a made state after another, with no fewer nodes
pub record Grows (first : List Node) (s t : State) : Type 0 where
  pub made : IsMade first t
  pub longer : length s.made ≤ length t.made
  pub same : t.node_of ≡ s.node_of

pub below_more : (n k : ℕ) (xs : List ℕ) → n ≤ k → AllBelow n xs → AllBelow k xs
below_more n k [] le h = tt
below_more n k (x ∷ xs) le h = (let lt : x < n = h.0 in omega arith, below_more n k xs le h.1)

all_push : {A : Type 0} (P : A → Type 0) (xs : List A) (y : A) → AllByRecursion P xs → P y → AllByRecursion P (xs ++ y ∷ [])
all_push P [] y h p = (p, tt)
all_push P (x ∷ xs) y h p = (h.0, all_push P xs y h.1 p)

-- a Not of one node, and a junction of some
not_gate : (d : ℕ) → IsGateNode (record { kind = Not; drivers = d ∷ [] })
not_gate d = record { kind = tt; one = λ e. (d, refl); two = λ e. absurd cc; reads = omega arith }

junction_gate : (kind : Kind) (n i : ℕ) (ns : List ℕ) → (kind ≡ And) ⊎ (kind ≡ Or) → IsGateNode (record { kind = kind; drivers = n ∷ i ∷ ns })
junction_gate kind n i ns (inl a) = let P : Kind → Type 0 = λ k. IsGateNode (record { kind = k; drivers = n ∷ i ∷ ns }) in subst P (sym a) (record { kind = tt; one = λ e. absurd cc; two = λ e. absurd cc; reads = omega arith })
junction_gate kind n i ns (inr o) = let P : Kind → Type 0 = λ k. IsGateNode (record { kind = k; drivers = n ∷ i ∷ ns }) in subst P (sym o) (record { kind = tt; one = λ e. absurd cc; two = λ e. absurd cc; reads = omega arith })

xor_gate : (ds : List ℕ) → (d e : ℕ) × (ds ≡ d ∷ e ∷ []) → IsGateNode (record { kind = Xor; drivers = ds })
xor_gate ds h = record { kind = tt; one = λ e. absurd cc; two = λ e. h; reads = let two : length ds ≡ 2 = ap (λ (l : List ℕ). length l) h.2 in omega arith }

each_below : (f : Word → ℕ) (n : ℕ) (xs : List Word) → ((x : Word) → f x < n) → AllBelow n (map f xs)
each_below f n [] h = tt
each_below f n (x ∷ xs) h = (h x, each_below f n xs h)

module _ (first : List Node) where
  stays : (s : State) → IsMade first s → Grows first s s
  stays s h = record { made = h; longer = omega arith; same = refl }

  then_grows : (s t u : State) → Grows first s t → Grows first t u → Grows first s u
  then_grows s t u g h = record { made = h.made; longer = let a : length s.made ≤ length t.made = g.longer in let b : length t.made ≤ length u.made = h.longer in omega arith; same = h.same ∙ g.same }

  below_push : (made : List Node) (g : Node) → ((y : ℕ) (n : Node) → slice_get made y ≡ Some n → AllBelow y n.drivers) → AllBelow (length made) g.drivers → (y : ℕ) (n : Node) → slice_get (made ++ g ∷ []) y ≡ Some n → AllBelow y n.drivers
  below_push made g h b y n e =
      elim (get_parts made (g ∷ []) y n e) [
        | inl old ↦ h y n old
        | inr r ↦ last r.0 r.1.0 r.1.1
      ]
    where
      last : (j : ℕ) → y ≡ length made + j → slice_get (g ∷ []) j ≡ Some n → AllBelow y n.drivers
      last zero at e =
          let is : g ≡ n = cc in
          let place : length made ≡ y = omega arith in
          subst (λ (k : Node). AllBelow y k.drivers) is (subst (λ (i : ℕ). AllBelow i g.drivers) place b)
      last (suc j) at e = absurd cc

  pub gate_made : (s : State) (kind : Kind) (drivers : List ℕ) → IsMade first s → IsGateNode (record { kind = kind; drivers = drivers }) → AllBelow (length s.made) drivers → Grows first s (with_gate s kind drivers)
  gate_made s kind drivers h g b =
      let node : Node = record { kind = kind; drivers = drivers } in
      let longer : length (s.made ++ node ∷ []) ≡ suc (length s.made) = length-push s.made node in
      record {
        made = record {
          gates = h.gates ++ node ∷ [];
          made_is = ap (λ (ns : List Node). ns ++ node ∷ []) h.made_is ∙ append_assoc first h.gates (node ∷ []);
          are_gates = all_push IsGateNode h.gates node h.are_gates g;
          below = below_push s.made node h.below b;
          nodes = λ x. let lt : s.node_of x < length s.made = h.nodes x in omega arith;
          nots = λ x n e. let lt : n < length s.made = h.nots x n e in omega arith;
        };
        longer = omega arith;
        same = refl;
      }

  not_made : (s : State) (x : Word) (o : Option ℕ) → s.not_of x ≡ o → IsMade first s → Grows first s (with_not s x o).0 × ((with_not s x o).1 < length (with_not s x o).0.made)
  not_made s x (Some n) e h = (stays s h, h.nots x n e)
  not_made s x None e h =
      let node : Node = record { kind = Not; drivers = s.node_of x ∷ [] } in
      let longer : length (s.made ++ node ∷ []) ≡ suc (length s.made) = length-push s.made node in
      let g = gate_made s Not (s.node_of x ∷ []) h (not_gate (s.node_of x)) (h.nodes x, tt) in (
        record {
          made = record {
            gates = g.made.gates;
            made_is = g.made.made_is;
            are_gates = g.made.are_gates;
            below = g.made.below;
            nodes = g.made.nodes;
            nots = λ y n m. by_test y n (is_word y x) refl g.made.nots m;
          };
          longer = g.longer;
          same = refl;
        },
        omega arith,
      )
    where
      by_test : (y : Word) (n : ℕ) (b : Bool) → is_word y x ≡ b → ((x' : Word) (n' : ℕ) → s.not_of x' ≡ Some n' → n' < length (s.made ++ record { kind = Not; drivers = s.node_of x ∷ [] } ∷ [])) → cond b (Some (length s.made)) (s.not_of y) ≡ Some n → n < length (s.made ++ record { kind = Not; drivers = s.node_of x ∷ [] } ∷ [])
      by_test y n true same old m =
          let is : length s.made ≡ n = cc in
          let longer : length (s.made ++ record { kind = Not; drivers = s.node_of x ∷ [] } ∷ []) ≡ suc (length s.made) = length-push s.made _ in
          omega arith
      by_test y n false same old m = old y n m

  literals_made : (s : State) (xs : List Word) (ls : List Literal) → IsMade first s → Grows first s (literals s xs ls).0 × AllBelow (length (literals s xs ls).0.made) (literals s xs ls).1
  literals_made s [] [] h = (stays s h, tt)
  literals_made s [] (l ∷ ls) h = (stays s h, tt)
  literals_made s (x ∷ xs) [] h = (stays s h, tt)
  literals_made s (x ∷ xs) (Any ∷ ls) h = literals_made s xs ls h
  literals_made s (x ∷ xs) (One ∷ ls) h =
      let r = literals_made s xs ls h in
      (r.0, ((let lt : s.node_of x < length s.made = h.nodes x in let le : length s.made ≤ length (literals s xs ls).0.made = r.0.longer in omega arith), r.1))
  literals_made s (x ∷ xs) (Zero ∷ ls) h =
      let n = not_made s x (s.not_of x) refl h in
      let t : State = (with_not s x (s.not_of x)).0 in
      let r = literals_made t xs ls n.0.made in
      (then_grows s t (literals t xs ls).0 n.0 r.0, ((let lt : (with_not s x (s.not_of x)).1 < length t.made = n.1 in let le : length t.made ≤ length (literals t xs ls).0.made = r.0.longer in omega arith), r.1))

  joined_made : (s : State) (kind : Kind) (empty : ℕ) (ns : List ℕ) → (kind ≡ And) ⊎ (kind ≡ Or) → empty < length s.made → IsMade first s → AllBelow (length s.made) ns → Grows first s (joined kind empty s ns).0 × ((joined kind empty s ns).1 < length (joined kind empty s ns).0.made)
  joined_made s kind empty [] k lt h b = (stays s h, lt)
  joined_made s kind empty (n ∷ []) k lt h b = (stays s h, b.0)
  joined_made s kind empty (n ∷ i ∷ ns) k lt h b =
      let longer : length (s.made ++ record { kind = kind; drivers = n ∷ i ∷ ns } ∷ []) ≡ suc (length s.made) = length-push s.made _ in
      (gate_made s kind (n ∷ i ∷ ns) h (junction_gate kind n i ns k) b, omega arith)

  term_made : (s : State) (xs : List Word) (row : List Literal) → 1 < length s.made → IsMade first s → Grows first s (term s xs row).0 × ((term s xs row).1 < length (term s xs row).0.made)
  term_made s xs row one h =
      let r = literals_made s xs row h in
      let t : State = (literals s xs row).0 in
      let j = joined_made t And 1 (literals s xs row).1 (inl refl) (let le : length s.made ≤ length t.made = r.0.longer in omega arith) r.0.made r.1 in
      (then_grows s t (term s xs row).0 r.0 j.0, j.1)

  terms_made : (s : State) (xs : List Word) (rows : List (List Literal)) → 1 < length s.made → IsMade first s → Grows first s (terms s xs rows).0 × AllBelow (length (terms s xs rows).0.made) (terms s xs rows).1
  terms_made s xs [] one h = (stays s h, tt)
  terms_made s xs (r ∷ rs) one h =
      let f = term_made s xs r one h in
      let t : State = (term s xs r).0 in
      let rest = terms_made t xs rs (let le : length s.made ≤ length t.made = f.0.longer in omega arith) f.0.made in
      (then_grows s t (terms t xs rs).0 f.0 rest.0, ((let lt : (term s xs r).1 < length t.made = f.1 in let le : length t.made ≤ length (terms t xs rs).0.made = rest.0.longer in omega arith), rest.1))

  closed_made : (on : Bool) (t : State × ℕ) → IsMade first t.0 → t.1 < length t.0.made → Grows first t.0 (closed on t).0 × ((closed on t).1 < length (closed on t).0.made)
  closed_made true t h lt = (stays t.0 h, lt)
  closed_made false t h lt =
      let longer : length (t.0.made ++ record { kind = Not; drivers = t.1 ∷ [] } ∷ []) ≡ suc (length t.0.made) = length-push t.0.made _ in
      (gate_made t.0 Not (t.1 ∷ []) h (not_gate t.1) (lt, tt), omega arith)

  sum_made : (s : State) (c : Cover) (o : Option Bool) → parity_ending c ≡ o → 1 < length s.made → IsMade first s → Grows first s (node_by o s c).0 × ((node_by o s c).1 < length (node_by o s c).0.made)
  sum_made s c (Some ends) p one h =
      let inputs = (is_parity c ends p).inputs in
      let drivers : List ℕ = map s.node_of c.inputs in
      let two : (d e : ℕ) × (drivers ≡ d ∷ e ∷ []) = (s.node_of inputs.0, s.node_of inputs.1, ap (λ (l : List Word). map s.node_of l) inputs.2) in
      let g = gate_made s Xor drivers h (xor_gate drivers two) (each_below s.node_of (length s.made) c.inputs h.nodes) in
      let longer : length (s.made ++ record { kind = Xor; drivers = drivers } ∷ []) ≡ suc (length s.made) = length-push s.made _ in
      let e = closed_made ends (with_gate s Xor drivers, length s.made) g.made (omega arith) in
      (then_grows s (with_gate s Xor drivers) (node_by (Some ends) s c).0 g e.0, e.1)
  sum_made s c None p one h =
      let r = terms_made s c.inputs c.rows one h in
      let t : State = (terms s c.inputs c.rows).0 in
      let sum : State × ℕ = joined Or 0 t (terms s c.inputs c.rows).1 in
      let j = joined_made t Or 0 (terms s c.inputs c.rows).1 (inr refl) (let le : length s.made ≤ length t.made = r.0.longer in omega arith) r.0.made r.1 in
      let e = closed_made c.on sum j.0.made j.1 in
      (then_grows s sum.0 (node_by None s c).0 (then_grows s t sum.0 r.0 j.0) e.0, e.1)

  pub node_made : (s : State) (c : Cover) → 1 < length s.made → IsMade first s → Grows first s (cover_node s c).0 × ((cover_node s c).1 < length (cover_node s c).0.made)
  node_made s c one h = sum_made s c (parity_ending c) refl one h

  pub cover_made : (s : State) (c : Cover) → 1 < length s.made → IsMade first s → IsMade first (with_cover s c) × (length s.made ≤ length (with_cover s c).made)
  cover_made s c one h =
      let r = node_made s c one h in (
        record {
          gates = r.0.made.gates;
          made_is = r.0.made.made_is;
          are_gates = r.0.made.are_gates;
          below = r.0.made.below;
          nodes = λ x. by_test x (is_word x c.output) r.1 (r.0.made.nodes x);
          nots = r.0.made.nots;
        },
        r.0.longer,
      )
    where
      by_test : (x : Word) (b : Bool) → (cover_node s c).1 < length (cover_node s c).0.made → (cover_node s c).0.node_of x < length (cover_node s c).0.made → cond b (cover_node s c).1 ((cover_node s c).0.node_of x) < length (cover_node s c).0.made
      by_test x true lt old = lt
      by_test x false lt old = old

  pub covers_made : (s : State) (cs : List Cover) → 1 < length s.made → IsMade first s → IsMade first (with_covers s cs)
  covers_made s [] one h = h
  covers_made s (c ∷ cs) one h =
      let r = cover_made s c one h in
      covers_made (with_cover s c) cs (let le : length s.made ≤ length (with_cover s c).made = r.1 in omega arith) r.0
