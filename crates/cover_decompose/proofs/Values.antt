-- What the nodes of a decomposition are worth, where each node is worth its function of what it reads.
use Rattle.std.proofs.Common.{◌≡◌, ℕ, Bool, true, false, cond, not, List, [], ◌∷◌, ◌++◌, map, length, refl, ap, sym, ◌∙◌}
use Rattle.std.specs.Prelude.{Option, None, Some, ◌&&◌, ◌||◌, slice_get}
use Rattle.std.specs.List.{list_all, list_any, AllByRecursion}
use Rattle.std.proofs.lemmas.Slice.Eq.{bytes_eq-Decides}
use Rattle.rm_model.specs.Words.{is_word}
use Rattle.rm_model.specs.Value.{row_matches, value_of, value_of_rows}
use Rattle.rm_model.specs.declared.parts.Literal.{Literal}
use Rattle.rm_model.specs.declared.parts.Literal.TheVariants.{Zero, One, Any}
use Rattle.rm_model.specs.declared.parts.Cover.{Cover}
use Rattle.gate_net.specs.declared.Kind.{Kind}
use Rattle.gate_net.specs.declared.Kind.TheVariants.{And, Or, Xor}
use Rattle.gate_net.specs.Net.{Node}
use Rattle.gate_net.specs.Values.{gate_value, parity}
use Rattle.gate_net.proofs.Public.{not_is}
use Rattle.cover_decompose.specs.Decomposition.{State, with_entry, with_gate, with_not, literals, joined, term, terms, closed, cover_node, node_by, with_cover, with_covers}
use Rattle.cover_decompose.specs.Parity.{parity_ending}
use Rattle.cover_decompose.proofs.Joins.{junction-and, junction-or, and-true, or-false}
use Rattle.cover_decompose.proofs.Order.{Reading, AreAmong, outputs_onto}
use Rattle.cover_decompose.proofs.Parities.{ended, is_parity, parity_value}
use Rattle.rm_model.specs.Value.{is_among}
use Rattle.rm_base.proofs.Public.{front_stands, seam_stands}
use Rattle.rm_base.specs.Words.{Word}
use Rattle.rm_model.proofs.Public.{same_word}

module _ (val a : ℕ → Bool) (v : Word → Bool) where
  -- each node made is worth its function of what it reads
  abbrev pub Meets : List Node → Type 0
  Meets made = (x : ℕ) (n : Node) → slice_get made x ≡ Some n → val x ≡ gate_value n.kind (a x) (map val n.drivers)

  -- the nodes of these signals are worth what the signals are
  abbrev pub Known : (Word → ℕ) → List Word → Type 0
  Known node_of xs = AllByRecursion (λ x. val (node_of x) ≡ v x) xs

  -- each Not that was made is worth the opposite of its signal
  abbrev pub NotsKnown : (Word → Option ℕ) → Type 0
  NotsKnown not_of = (x : Word) (n : ℕ) → not_of x ≡ Some n → val n ≡ not (v x)

  -- a state after another, whose nodes of signals have not changed
  pub record Goes (s t : State) : Type 0 where
    pub meets : Meets s.made
    pub nodes : t.node_of ≡ s.node_of
    pub nots : NotsKnown t.not_of

  pub front_meets : (made : List Node) (n : Node) → Meets (made ++ n ∷ []) → Meets made × (val (length made) ≡ gate_value n.kind (a (length made)) (map val n.drivers))
  front_meets made n h = ((λ x k e. h x k (front_stands made (n ∷ []) x k e)), h (length made) n (seam_stands made n []))

  not_entry : (not_of : Word → Option ℕ) (x : Word) (n : ℕ) → val n ≡ not (v x) → NotsKnown not_of → NotsKnown (with_entry not_of x (Some n))
  not_entry not_of x n made nots y k e = by_test (is_word y x) refl e
    where
      by_test : (b : Bool) → is_word y x ≡ b → cond b (Some n) (not_of y) ≡ Some k → val k ≡ not (v y)
      by_test true same e =
          let is : y ≡ x = (bytes_eq-Decides y x).0 same in
          let number : n ≡ k = cc in
          rw (is, ← number) made
      by_test false same e = nots y k e

  with_not-value : (s : State) (x : Word) (o : Option ℕ) → s.not_of x ≡ o → val (s.node_of x) ≡ v x → NotsKnown s.not_of → Meets (with_not s x o).0.made → (val (with_not s x o).1 ≡ not (v x)) × Goes s (with_not s x o).0
  with_not-value s x (Some n) e here nots h = (nots x n e, record { meets = h; nodes = refl; nots = nots })
  with_not-value s x None e here nots h =
      let parts = front_meets s.made _ h in
      let made : val (length s.made) ≡ not (v x) = parts.1 ∙ (not_is (val (s.node_of x)) ∙ ap not here) in
      (made, record { meets = parts.0; nodes = refl; nots = not_entry s.not_of x (length s.made) made nots })

  known_after : (s t : State) (xs : List Word) → t.node_of ≡ s.node_of → Known s.node_of xs → Known t.node_of xs
  known_after s t xs e h = let P : (Word → ℕ) → Type 0 = λ f. Known f xs in rw e h

  then_goes : (s t u : State) → Goes s t → Goes t u → Goes s u
  then_goes s t u g h = record { meets = g.meets; nodes = h.nodes ∙ g.nodes; nots = h.nots }

  stays : (s : State) → Meets s.made → NotsKnown s.not_of → Goes s s
  stays s h nots = record { meets = h; nodes = refl; nots = nots }

  -- gates are added alone
  with_not-meets : (s : State) (x : Word) (o : Option ℕ) → Meets (with_not s x o).0.made → Meets s.made
  with_not-meets s x (Some n) h = h
  with_not-meets s x None h = (front_meets s.made _ h).0

  literals-meets : (s : State) (xs : List Word) (ls : List Literal) → Meets (literals s xs ls).0.made → Meets s.made
  literals-meets s [] [] h = h
  literals-meets s [] (l ∷ ls) h = h
  literals-meets s (x ∷ xs) [] h = h
  literals-meets s (x ∷ xs) (One ∷ ls) h = literals-meets s xs ls h
  literals-meets s (x ∷ xs) (Any ∷ ls) h = literals-meets s xs ls h
  literals-meets s (x ∷ xs) (Zero ∷ ls) h = with_not-meets s x (s.not_of x) (literals-meets (with_not s x (s.not_of x)).0 xs ls h)

  -- the nodes of a row's literals are all true where the row matches
  pub literals-value : (s : State) (xs : List Word) (ls : List Literal) → Known s.node_of xs → NotsKnown s.not_of → Meets (literals s xs ls).0.made → (list_all (λ b. b) (map val (literals s xs ls).1) ≡ row_matches ls (map v xs)) × Goes s (literals s xs ls).0
  literals-value s [] [] known nots h = (refl, stays s h nots)
  literals-value s [] (l ∷ ls) known nots h = (refl, stays s h nots)
  literals-value s (x ∷ xs) [] known nots h = (refl, stays s h nots)
  literals-value s (x ∷ xs) (One ∷ ls) known nots h =
      let rest = literals-value s xs ls known.1 nots h in
      (rw (known.0, rest.0) refl, rest.1)
  literals-value s (x ∷ xs) (Any ∷ ls) known nots h = literals-value s xs ls known.1 nots h
  literals-value s (x ∷ xs) (Zero ∷ ls) known nots h = zero_case s x xs ls (s.not_of x) refl known nots h (λ t. literals-value t xs ls)
    where
      zero_case : (s : State) (x : Word) (xs : List Word) (ls : List Literal) (o : Option ℕ) → s.not_of x ≡ o → Known s.node_of (x ∷ xs) → NotsKnown s.not_of → Meets (literals (with_not s x o).0 xs ls).0.made
          → ((t : State) → Known t.node_of xs → NotsKnown t.not_of → Meets (literals t xs ls).0.made → (list_all (λ b. b) (map val (literals t xs ls).1) ≡ row_matches ls (map v xs)) × Goes t (literals t xs ls).0)
          → (val (with_not s x o).1 && list_all (λ b. b) (map val (literals (with_not s x o).0 xs ls).1) ≡ not (v x) && row_matches ls (map v xs)) × Goes s (literals (with_not s x o).0 xs ls).0
      zero_case s x xs ls o e known nots h next =
          let t : State = (with_not s x o).0 in
          let made = with_not-value s x o e known.0 nots (literals-meets t xs ls h) in
          let rest = next t (known_after s t xs made.1.nodes known.1) made.1.nots h in
          (rw (made.0, rest.0) refl, then_goes s t (literals t xs ls).0 made.1 rest.1)

  joined-meets : (kind : Kind) (empty : ℕ) (s : State) (ns : List ℕ) → Meets (joined kind empty s ns).0.made → Meets s.made
  joined-meets kind empty s [] h = h
  joined-meets kind empty s (n ∷ []) h = h
  joined-meets kind empty s (n ∷ m ∷ ns) h = (front_meets s.made _ h).0

  joined-goes : (kind : Kind) (empty : ℕ) (s : State) (ns : List ℕ) → NotsKnown s.not_of → Meets (joined kind empty s ns).0.made → Goes s (joined kind empty s ns).0
  joined-goes kind empty s [] nots h = stays s h nots
  joined-goes kind empty s (n ∷ []) nots h = stays s h nots
  joined-goes kind empty s (n ∷ m ∷ ns) nots h = record { meets = (front_meets s.made _ h).0; nodes = refl; nots = nots }

  -- One is worth true, and Zero false
  and-value : (s : State) (ns : List ℕ) → val 1 ≡ true → Meets (joined And 1 s ns).0.made → val (joined And 1 s ns).1 ≡ list_all (λ b. b) (map val ns)
  and-value s [] one h = one
  and-value s (n ∷ []) one h = sym (and-true (val n))
  and-value s (n ∷ m ∷ ns) one h = (front_meets s.made _ h).1 ∙ junction-and (map val (n ∷ m ∷ ns))

  or-value : (s : State) (ns : List ℕ) → val 0 ≡ false → Meets (joined Or 0 s ns).0.made → val (joined Or 0 s ns).1 ≡ list_any (λ b. b) (map val ns)
  or-value s [] none h = none
  or-value s (n ∷ []) none h = sym (or-false (val n))
  or-value s (n ∷ m ∷ ns) none h = (front_meets s.made _ h).1 ∙ junction-or (map val (n ∷ m ∷ ns))

  term-meets : (s : State) (xs : List Word) (row : List Literal) → Meets (term s xs row).0.made → Meets s.made
  term-meets s xs row h = literals-meets s xs row (joined-meets And 1 (literals s xs row).0 (literals s xs row).1 h)

  pub term-value : (s : State) (xs : List Word) (row : List Literal) → val 1 ≡ true → Known s.node_of xs → NotsKnown s.not_of → Meets (term s xs row).0.made → (val (term s xs row).1 ≡ row_matches row (map v xs)) × Goes s (term s xs row).0
  term-value s xs row one known nots h =
      let t : State = (literals s xs row).0 in
      let ns : List ℕ = (literals s xs row).1 in
      let lits = literals-value s xs row known nots (joined-meets And 1 t ns h) in
      (and-value t ns one h ∙ lits.0, then_goes s t (term s xs row).0 lits.1 (joined-goes And 1 t ns lits.1.nots h))

  terms-meets : (s : State) (xs : List Word) (rows : List (List Literal)) → Meets (terms s xs rows).0.made → Meets s.made
  terms-meets s xs [] h = h
  terms-meets s xs (r ∷ rs) h = term-meets s xs r (terms-meets (term s xs r).0 xs rs h)

  pub terms-value : (s : State) (xs : List Word) (rows : List (List Literal)) → val 1 ≡ true → Known s.node_of xs → NotsKnown s.not_of → Meets (terms s xs rows).0.made → (list_any (λ b. b) (map val (terms s xs rows).1) ≡ list_any (λ row. row_matches row (map v xs)) rows) × Goes s (terms s xs rows).0
  terms-value s xs [] one known nots h = (refl, stays s h nots)
  terms-value s xs (r ∷ rs) one known nots h =
      let t : State = (term s xs r).0 in
      let first = term-value s xs r one known nots (terms-meets t xs rs h) in
      let rest = terms-value t xs rs one (known_after s t xs first.1.nodes known) first.1.nots h in
      (rw (first.0, rest.0) refl, then_goes s t (terms t xs rs).0 first.1 rest.1)

  closed-meets : (on : Bool) (t : State × ℕ) → Meets (closed on t).0.made → Meets t.0.made
  closed-meets true t h = h
  closed-meets false t h = (front_meets t.0.made _ h).0

  closed-value : (on : Bool) (t : State × ℕ) → NotsKnown t.0.not_of → Meets (closed on t).0.made → (val (closed on t).1 ≡ cond on (val t.1) (not (val t.1))) × Goes t.0 (closed on t).0
  closed-value true t nots h = (refl, stays t.0 h nots)
  closed-value false t nots h = let parts = front_meets t.0.made _ h in (parts.1 ∙ not_is (val t.1), record { meets = parts.0; nodes = refl; nots = nots })

  sum-meets : (o : Option Bool) (s : State) (c : Cover) → Meets (node_by o s c).0.made → Meets s.made
  sum-meets (Some ends) s c h = (front_meets s.made _ (closed-meets ends (with_gate s Xor (map s.node_of c.inputs), length s.made) h)).0
  sum-meets None s c h =
      let t : State = (terms s c.inputs c.rows).0 in
      let ns : List ℕ = (terms s c.inputs c.rows).1 in
      terms-meets s c.inputs c.rows (joined-meets Or 0 t ns (closed-meets c.on (joined Or 0 t ns) h))

  cover-meets : (s : State) (c : Cover) → Meets (cover_node s c).0.made → Meets s.made
  cover-meets s c h = sum-meets (parity_ending c) s c h

  reads_known : (f : Word → ℕ) (xs : List Word) → Known f xs → map val (map f xs) ≡ map v xs
  reads_known f [] h = refl
  reads_known f (x ∷ xs) h = rw (h.0, reads_known f xs h.1) refl

  -- a cover's node is worth the cover's value, where its rows, if there are none, end in 1
  sum-value : (o : Option Bool) (s : State) (c : Cover) → parity_ending c ≡ o → val 0 ≡ false → val 1 ≡ true → (c.rows ≡ [] → c.on ≡ true) → Known s.node_of c.inputs → NotsKnown s.not_of → Meets (node_by o s c).0.made → (val (node_by o s c).1 ≡ value_of c (map v c.inputs)) × Goes s (node_by o s c).0
  sum-value (Some ends) s c p none one empty known nots h =
      let sum : State × ℕ = (with_gate s Xor (map s.node_of c.inputs), length s.made) in
      let parts = front_meets s.made _ (closed-meets ends sum h) in
      let xor : val (length s.made) ≡ parity false (map v c.inputs) = parts.1 ∙ ap (λ (bs : List Bool). parity false bs) (reads_known s.node_of c.inputs known) in
      let end = closed-value ends sum nots h in
      (end.0 ∙ (ap (λ (b : Bool). ended ends b) xor ∙ sym (parity_value c ends v (is_parity c ends p))), then_goes s sum.0 (node_by (Some ends) s c).0 (record { meets = parts.0; nodes = refl; nots = nots }) end.1)
  sum-value None s c p none one empty known nots h =
      let t : State = (terms s c.inputs c.rows).0 in
      let ns : List ℕ = (terms s c.inputs c.rows).1 in
      let sum : State × ℕ = joined Or 0 t ns in
      let meets = closed-meets c.on sum h in
      let rows = terms-value s c.inputs c.rows one known nots (joined-meets Or 0 t ns meets) in
      let total : val sum.1 ≡ list_any (λ row. row_matches row (map v c.inputs)) c.rows = or-value t ns none meets ∙ rows.0 in
      let summed = joined-goes Or 0 t ns rows.1.nots meets in
      let end = closed-value c.on sum summed.nots h in
      (end.0 ∙ rw total (by_rows c.rows c.on (map v c.inputs) empty), then_goes s sum.0 (node_by None s c).0 (then_goes s t sum.0 rows.1 summed) end.1)
    where
      turned : (on a : Bool) → cond on a (not a) ≡ cond a on (not on)
      turned true true = refl
      turned true false = refl
      turned false true = refl
      turned false false = refl

      by_rows : (rows : List (List Literal)) (on : Bool) (bs : List Bool) → (rows ≡ [] → on ≡ true) → cond on (list_any (λ row. row_matches row bs) rows) (not (list_any (λ row. row_matches row bs) rows)) ≡ value_of_rows rows on bs
      by_rows [] on bs empty = rw (empty refl) refl
      by_rows (r ∷ rs) on bs empty = turned on (list_any (λ row. row_matches row bs) (r ∷ rs))

  pub cover-value : (s : State) (c : Cover) → val 0 ≡ false → val 1 ≡ true → (c.rows ≡ [] → c.on ≡ true) → Known s.node_of c.inputs → NotsKnown s.not_of → Meets (cover_node s c).0.made → (val (cover_node s c).1 ≡ value_of c (map v c.inputs)) × Goes s (cover_node s c).0
  cover-value s c none one empty known nots h = sum-value (parity_ending c) s c refl none one empty known nots h

  -- what is among these names is worth what the signals are
  abbrev pub KnownAmong : (Word → ℕ) → List Word → Type 0
  KnownAmong node_of xs = (x : Word) → is_among xs x ≡ true → val (node_of x) ≡ v x

  -- the cover's output has the cover's value
  pub record Fits (c : Cover) : Type 0 where
    pub no_rows : c.rows ≡ [] → c.on ≡ true
    pub value : v c.output ≡ value_of c (map v c.inputs)

  pub covers-meets : (s : State) (cs : List Cover) → Meets (with_covers s cs).made → Meets s.made
  covers-meets s [] h = h
  covers-meets s (c ∷ cs) h = cover-meets s c (covers-meets (with_cover s c) cs h)

  inputs_known : (node_of : Word → ℕ) (done xs : List Word) → KnownAmong node_of done → AreAmong done xs → Known node_of xs
  inputs_known node_of done [] h r = tt
  inputs_known node_of done (x ∷ xs) h r = (h x r.0, inputs_known node_of done xs h r.1)

  one_more : (before node_of : Word → ℕ) (done : List Word) (y : Word) (n : ℕ) → node_of ≡ before → KnownAmong before done → val n ≡ v y → KnownAmong (with_entry node_of y n) (y ∷ done)
  one_more before node_of done y n e h here x m = by_test (is_word x y) refl m
    where
      by_test : (b : Bool) → is_word x y ≡ b → (b || is_among done x) ≡ true → val (cond b n (node_of x)) ≡ v x
      by_test true same m = rw (same_word x y same) here
      by_test false same m = ap (λ (f : Word → ℕ). val (f x)) e ∙ h x m

  pub covers-value : (s : State) (cs : List Cover) (done : List Word) → val 0 ≡ false → val 1 ≡ true → KnownAmong s.node_of done → NotsKnown s.not_of → Reading done cs → AllByRecursion Fits cs → Meets (with_covers s cs).made → KnownAmong (with_covers s cs).node_of (outputs_onto done cs)
  covers-value s [] done none one known nots reading fits h = known
  covers-value s (c ∷ cs) done none one known nots reading fits h =
      let here = cover-value s c none one fits.0.no_rows (inputs_known s.node_of done c.inputs known reading.0) nots (covers-meets (with_cover s c) cs h) in
      covers-value (with_cover s c) cs (c.output ∷ done) none one
      (one_more s.node_of (cover_node s c).0.node_of done c.output (cover_node s c).1 here.1.nodes known (here.0 ∙ sym fits.0.value))
      here.1.nots reading.1 fits.1 h
