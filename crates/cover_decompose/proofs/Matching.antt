-- A plan over numbers and a state over names that stand for each other.
use Rattle.std.proofs.Common.{◌≡◌, ◌≢◌, ◌<◌, ◌+◌, ℕ, zero, suc, Bool, true, false, cond, List, [], ◌∷◌, length, map, get_or, set, refl, sym, ap, subst, ◌∙◌, arith}
use Rattle.std.specs.Prelude.{Some, None, Option, slice_get, slice_index}
use Rattle.std.specs.Option.{option_map}
use Rattle.std.proofs.lemmas.List.{get_or-set_same, get_or-set_other}
use Rattle.std.proofs.Math.ListN.{length-set}
use Rattle.rm_model.specs.Words.{is_word}
use Rattle.rm_model.specs.declared.parts.Literal.{Literal}
use Rattle.rm_model.specs.declared.parts.Literal.TheVariants.{Zero, One, Any}
use Rattle.rm_model.specs.declared.parts.Cover.{Cover}
use Rattle.gate_net.specs.declared.Kind.{Kind}
use Rattle.gate_net.specs.declared.Kind.TheVariants.{And, Or, Not, Xor}
use Rattle.gate_net.specs.Net.{Node}
use Rattle.cover_decompose.specs.Decomposition.{State, with_entry, with_gate, with_not, literals, joined, term, terms, closed, cover_node, node_by, with_cover, with_covers}
use Rattle.cover_decompose.specs.Parity.{parity_ending}
use Rattle.cover_decompose.specs.Inner.Plan.{Planned, gate_planned, not_planned, not_of, literals_planned, joined_planned, term_planned, terms_planned, closed_planned, node_planned, planned_by, cover_planned, one_planned, covers_planned}
use Rattle.cover_decompose.specs.Inner.Chosen.{AreNumbered, AtPlaces, Signals}
use Rattle.cover_decompose.specs.Inner.Signals.{signal_of}
use Rattle.rm_base.specs.Words.{Word}
use Rattle.rm_model.proofs.Public.{is_word-same, same_word}

-- the name at a signal's place
pub signal_at : (names : List Word) (x : Word) (k : ℕ) → signal_of names x ≡ Some k → slice_get names k ≡ Some x
signal_at [] x k e = absurd cc
signal_at (y ∷ ys) x k e = by_test (is_word x y) refl (signal_of ys x) (signal_at ys x) e
  where
    by_test : (b : Bool) → is_word x y ≡ b → (o : Option ℕ) → ((j : ℕ) → o ≡ Some j → slice_get ys j ≡ Some x) → cond b (Some 0) (option_map (λ k. suc k) o) ≡ Some k → slice_get (y ∷ ys) k ≡ Some x
    by_test true same o next e = let is : 0 ≡ k = cc in let name : y ≡ x = sym (same_word x y same) in rw (← is) (ap (λ (z : Word). Some z) name)
    by_test false same None next e = absurd cc
    by_test false same (Some j) next e = let is : suc j ≡ k = cc in rw (← is) (next j refl)

pub signal_within : (names : List Word) (x : Word) (k : ℕ) → signal_of names x ≡ Some k → k < length names
signal_within names x k e = within names k x (signal_at names x k e)
  where
    within : (xs : List Word) (k : ℕ) (y : Word) → slice_get xs k ≡ Some y → k < length xs
    within [] k y e = absurd cc
    within (z ∷ xs) zero y e = omega arith
    within (z ∷ xs) (suc k) y e = let lt = within xs k y e in omega arith

-- equal numbers are of equal names
pub same_signal : (names : List Word) (x y : Word) (k : ℕ) → signal_of names x ≡ Some k → signal_of names y ≡ Some k → x ≡ y
same_signal names x y k e f = let a = signal_at names x k e in let b = signal_at names y k f in cc

pub signals_from : (names xs : List Word) (ks : List ℕ) → map (λ k. Some k) ks ≡ map (signal_of names) xs → Signals names xs ks
signals_from names [] [] e = tt
signals_from names [] (k ∷ ks) e = absurd cc
signals_from names (x ∷ xs) [] e = absurd cc
signals_from names (x ∷ xs) (k ∷ ks) e = let here : Some k ≡ signal_of names x = cc in let rest : map (λ k. Some k) ks ≡ map (signal_of names) xs = cc in (sym here, signals_from names xs ks rest)

module _ (names : List Word) where
  pub record Matches (p : Planned) (s : State) : Type 0 where
    pub made : p.made ≡ s.made
    pub nodes : (x : Word) (k : ℕ) → signal_of names x ≡ Some k → slice_index p.nodes k ≡ s.node_of x
    pub nots : (x : Word) (k : ℕ) → signal_of names x ≡ Some k → not_of p k ≡ s.not_of x
    pub node_count : length p.nodes ≡ length names
    pub not_count : length p.nots ≡ length names

  -- the same after a gate
  gate_matches : (p : Planned) (s : State) (kind : Kind) (ds es : List ℕ) → Matches p s → ds ≡ es → Matches (gate_planned p kind ds) (with_gate s kind es)
  gate_matches p s kind ds es h e = record {
    made = rw (h.made, e) refl;
    nodes = h.nodes;
    nots = h.nots;
    node_count = h.node_count;
    not_count = h.not_count;
  }

  entry_matches : {A : Type 0} (xs : List A) (f : Word → A) (d : A) (x : Word) (k : ℕ) (v : A) → signal_of names x ≡ Some k → k < length xs
      → ((y : Word) (j : ℕ) → signal_of names y ≡ Some j → get_or xs j d ≡ f y) → (y : Word) (j : ℕ) → signal_of names y ≡ Some j → get_or (set xs k v) j d ≡ with_entry f x v y
  entry_matches xs f d x k v at lt h y j e = by_test (is_word y x) refl
    where
      by_test : (b : Bool) → is_word y x ≡ b → get_or (set xs k v) j d ≡ cond b v (f y)
      by_test true same =
          let name : y ≡ x = same_word y x same in
          let there : signal_of names x ≡ Some j = ap (λ (z : Word). signal_of names z) (sym name) ∙ e in
          let is : j ≡ k = cc in
          rw is (get_or-set_same xs k v d lt)
      by_test false same =
          let ne : j ≢ k = (λ is. let name : y ≡ x = same_signal names y x j e (at ∙ ap (λ (n : ℕ). Some n) (sym is)) in let here : is_word y x ≡ true = ap (λ (z : Word). is_word y z) (sym name) ∙ is_word-same y in let bad : true ≡ false = sym here ∙ same in cc) in
          get_or-set_other xs k j v d ne ∙ h y j e

  not_matches : (p : Planned) (s : State) (x : Word) (k : ℕ) (o : Option ℕ) → Matches p s → signal_of names x ≡ Some k → Matches (not_planned p k o).0 (with_not s x o).0 × ((not_planned p k o).1 ≡ (with_not s x o).1)
  not_matches p s x k (Some n) h e = (h, refl)
  not_matches p s x k None h e =
      let g = gate_matches p s Not (slice_index p.nodes k ∷ []) (s.node_of x ∷ []) h (ap (λ (n : ℕ). n ∷ []) (h.nodes x k e)) in
      let number : length p.made ≡ length s.made = ap (λ (l : List Node). length l) h.made in
      let lt : k < length p.nots = let w : k < length names = signal_within names x k e in let c : length p.nots ≡ length names = h.not_count in omega arith in (
        record {
          made = g.made;
          nodes = g.nodes;
          nots = λ y j f. entry_matches p.nots s.not_of None x k (Some (length p.made)) e lt h.nots y j f ∙ ap (λ (n : ℕ). with_entry s.not_of x (Some n) y) number;
          node_count = g.node_count;
          not_count = length-set p.nots k (Some (length p.made)) ∙ h.not_count;
        },
        number,
      )

  not_of_matches : (p : Planned) (s : State) (x : Word) (k : ℕ) → Matches p s → signal_of names x ≡ Some k → Matches (not_planned p k (not_of p k)).0 (with_not s x (s.not_of x)).0 × ((not_planned p k (not_of p k)).1 ≡ (with_not s x (s.not_of x)).1)
  not_of_matches p s x k h e =
      let P : Option ℕ → Type 0 = λ o. Matches (not_planned p k o).0 (with_not s x (s.not_of x)).0 × ((not_planned p k o).1 ≡ (with_not s x (s.not_of x)).1) in
      subst P (sym (h.nots x k e)) (not_matches p s x k (s.not_of x) h e)

  pub literals_match : (p : Planned) (s : State) (xs : List Word) (ks : List ℕ) (ls : List Literal) → Matches p s → Signals names xs ks → Matches (literals_planned p ks ls).0 (literals s xs ls).0 × ((literals_planned p ks ls).1 ≡ (literals s xs ls).1)
  literals_match p s [] [] [] h e = (h, refl)
  literals_match p s [] [] (l ∷ ls) h e = (h, refl)
  literals_match p s [] (k ∷ ks) ls h e = absurd e
  literals_match p s (x ∷ xs) [] ls h e = absurd e
  literals_match p s (x ∷ xs) (k ∷ ks) [] h e = (h, refl)
  literals_match p s (x ∷ xs) (k ∷ ks) (One ∷ ls) h e =
      let r = literals_match p s xs ks ls h e.1 in
      (r.0, rw (h.nodes x k e.0, r.1) refl)
  literals_match p s (x ∷ xs) (k ∷ ks) (Any ∷ ls) h e = literals_match p s xs ks ls h e.1
  literals_match p s (x ∷ xs) (k ∷ ks) (Zero ∷ ls) h e =
      let n = not_of_matches p s x k h e.0 in
      let q : Planned = (not_planned p k (not_of p k)).0 in
      let t : State = (with_not s x (s.not_of x)).0 in
      let r = literals_match q t xs ks ls n.0 e.1 in
      (r.0, rw (n.1, r.1) refl)

  joined_match : (p : Planned) (s : State) (kind : Kind) (empty : ℕ) (ns : List ℕ) → Matches p s → Matches (joined_planned kind empty p ns).0 (joined kind empty s ns).0 × ((joined_planned kind empty p ns).1 ≡ (joined kind empty s ns).1)
  joined_match p s kind empty [] h = (h, refl)
  joined_match p s kind empty (n ∷ []) h = (h, refl)
  joined_match p s kind empty (n ∷ k ∷ ns) h = (gate_matches p s kind (n ∷ k ∷ ns) (n ∷ k ∷ ns) h refl, ap (λ (l : List Node). length l) h.made)

  joined_matches : (p : Planned) (s : State) (kind : Kind) (empty : ℕ) (ns ms : List ℕ) → Matches p s → ns ≡ ms → Matches (joined_planned kind empty p ns).0 (joined kind empty s ms).0 × ((joined_planned kind empty p ns).1 ≡ (joined kind empty s ms).1)
  joined_matches p s kind empty ns ms h e =
      let P : List ℕ → Type 0 = λ l. Matches (joined_planned kind empty p ns).0 (joined kind empty s l).0 × ((joined_planned kind empty p ns).1 ≡ (joined kind empty s l).1) in
      subst P e (joined_match p s kind empty ns h)

  term_match : (p : Planned) (s : State) (xs : List Word) (ks : List ℕ) (row : List Literal) → Matches p s → Signals names xs ks → Matches (term_planned p ks row).0 (term s xs row).0 × ((term_planned p ks row).1 ≡ (term s xs row).1)
  term_match p s xs ks row h e = let r = literals_match p s xs ks row h e in joined_matches (literals_planned p ks row).0 (literals s xs row).0 And 1 (literals_planned p ks row).1 (literals s xs row).1 r.0 r.1

  terms_match : (p : Planned) (s : State) (xs : List Word) (ks : List ℕ) (rows : List (List Literal)) → Matches p s → Signals names xs ks → Matches (terms_planned p ks rows).0 (terms s xs rows).0 × ((terms_planned p ks rows).1 ≡ (terms s xs rows).1)
  terms_match p s xs ks [] h e = (h, refl)
  terms_match p s xs ks (r ∷ rs) h e =
      let t = term_match p s xs ks r h e in
      let u = terms_match (term_planned p ks r).0 (term s xs r).0 xs ks rs t.0 e in
      (u.0, rw (t.1, u.1) refl)

  closed_match : (on : Bool) (p : Planned) (s : State) (n k : ℕ) → Matches p s → n ≡ k → Matches (closed_planned on (p, n)).0 (closed on (s, k)).0 × ((closed_planned on (p, n)).1 ≡ (closed on (s, k)).1)
  closed_match true p s n k h e = (h, e)
  closed_match false p s n k h e = (gate_matches p s Not (n ∷ []) (k ∷ []) h (ap (λ (i : ℕ). i ∷ []) e), ap (λ (l : List Node). length l) h.made)

  nodes_match : (p : Planned) (s : State) (xs : List Word) (ks : List ℕ) → Matches p s → Signals names xs ks → map (slice_index p.nodes) ks ≡ map s.node_of xs
  nodes_match p s [] [] h e = refl
  nodes_match p s [] (k ∷ ks) h e = absurd e
  nodes_match p s (x ∷ xs) [] h e = absurd e
  nodes_match p s (x ∷ xs) (k ∷ ks) h e = rw (h.nodes x k e.0, nodes_match p s xs ks h e.1) refl

  sum_match : (o : Option Bool) (p : Planned) (s : State) (c : Cover) (ks : List ℕ) → Matches p s → Signals names c.inputs ks → Matches (planned_by o p ks c).0 (node_by o s c).0 × ((planned_by o p ks c).1 ≡ (node_by o s c).1)
  sum_match (Some ends) p s c ks h e =
      let reads : map (slice_index p.nodes) ks ≡ map s.node_of c.inputs = nodes_match p s c.inputs ks h e in
      closed_match ends (gate_planned p Xor (map (slice_index p.nodes) ks)) (with_gate s Xor (map s.node_of c.inputs)) (length p.made) (length s.made)
      (gate_matches p s Xor (map (slice_index p.nodes) ks) (map s.node_of c.inputs) h reads) (ap (λ (l : List Node). length l) h.made)
  sum_match None p s c ks h e =
      let t = terms_match p s c.inputs ks c.rows h e in
      let j = joined_matches (terms_planned p ks c.rows).0 (terms s c.inputs c.rows).0 Or 0 (terms_planned p ks c.rows).1 (terms s c.inputs c.rows).1 t.0 t.1 in
      closed_match c.on (joined_planned Or 0 (terms_planned p ks c.rows).0 (terms_planned p ks c.rows).1).0 (joined Or 0 (terms s c.inputs c.rows).0 (terms s c.inputs c.rows).1).0
      (joined_planned Or 0 (terms_planned p ks c.rows).0 (terms_planned p ks c.rows).1).1 (joined Or 0 (terms s c.inputs c.rows).0 (terms s c.inputs c.rows).1).1 j.0 j.1

  node_match : (p : Planned) (s : State) (c : Cover) (ks : List ℕ) → Matches p s → Signals names c.inputs ks → Matches (node_planned p ks c).0 (cover_node s c).0 × ((node_planned p ks c).1 ≡ (cover_node s c).1)
  node_match p s c ks h e = sum_match (parity_ending c) p s c ks h e

  pub cover_match : (p : Planned) (s : State) (c : Cover) (ks : List ℕ) (k : ℕ) → Matches p s → Signals names c.inputs ks → signal_of names c.output ≡ Some k → Matches (cover_planned p ks k c) (with_cover s c)
  cover_match p s c ks k h e at =
      let n = node_match p s c ks h e in
      let q : Planned = (node_planned p ks c).0 in
      let t : State = (cover_node s c).0 in
      let lt : k < length q.nodes = let w : k < length names = signal_within names c.output k at in let l : length q.nodes ≡ length names = n.0.node_count in omega arith in
      record {
        made = n.0.made;
        nodes = λ y j f. entry_matches q.nodes t.node_of 0 c.output k (node_planned p ks c).1 at lt n.0.nodes y j f ∙ ap (λ (i : ℕ). with_entry t.node_of c.output i y) n.1;
        nots = n.0.nots;
        node_count = length-set q.nodes k (node_planned p ks c).1 ∙ n.0.node_count;
        not_count = n.0.not_count;
      }

pub covers_match : (names : List Word) (covers : List Cover) (inputs : List (List ℕ)) (first : ℕ) (p : Planned) (s : State) (is : List ℕ) (cs : List Cover) → AreNumbered names covers inputs first → AtPlaces covers is cs → Matches names p s → Matches names (covers_planned p covers inputs first is) (with_covers s cs)
covers_match names covers inputs first p s [] [] n a h = h
covers_match names covers inputs first p s [] (c ∷ cs) n a h = absurd a
covers_match names covers inputs first p s (i ∷ is) [] n a h = absurd a
covers_match names covers inputs first p s (i ∷ is) (c ∷ cs) n a h =
    let at = n i c a.0 in
    let one : one_planned p (slice_get covers i) (slice_get inputs i) (first + i) ≡ cover_planned p at.1.0 (first + i) c = rw (a.0, at.1.1.0) refl in
    let next : Matches names (one_planned p (slice_get covers i) (slice_get inputs i) (first + i)) (with_cover s c) =
    let P : Planned → Type 0 = λ q. Matches names q (with_cover s c) in subst P (sym one) (cover_match names p s c at.1.0 (first + i) h at.1.1.1 at.0) in
    covers_match names covers inputs first (one_planned p (slice_get covers i) (slice_get inputs i) (first + i)) (with_cover s c) is cs n a.1 next
