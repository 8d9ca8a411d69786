-- The extract of a gated net beside the net itself.
use Rattle.std.proofs.Common.{Bool, List, None, Option, Some, [], ap, arith, false, inl, inr, length, map, refl, subst, suc, sym, take, true, zero, ℕ, ◌+◌, ◌-◌, ◌<◌, ◌∙◌, ◌∷◌, ◌≡◌, ◌≢◌, ◌≤◌, ◌⊎◌}
use Rattle.std.specs.Prelude.{nat_eq, option_and_then, slice_get, ◌||◌}
use Rattle.std.proofs.lemmas.Bool.{cases_lt, eq-eqb, or_cases}
use Rattle.std.proofs.lemmas.Bool.Decides.{eqb_tells}
use Rattle.std.proofs.Math.Bool.{or-true}
use Rattle.gate_net.specs.Net.{Net, Node, Reads, drivers_in, drivers_of, flatten_option, kind_in, kind_of, node_at}
use Rattle.gate_net.specs.declared.Kind.{Kind}
use Rattle.joined_nets.specs.Growing.{and_gate}
use Rattle.joined_nets.specs.Joined.{both, first_gate}
use Rattle.rm_base.proofs.Public.{map_at, map_found, some_is}
use Rattle.wire_edit.specs.Steps.{or_zero}
use Rattle.wire_edit.specs.Tests.{constant_at, constant_of, family_in, gate_control, is_among, is_gate, is_in_use, is_junction, is_not, is_not_kind, is_present, is_read_in, is_repeated, is_xor_kind, kind_constant, reads_several}
use Rattle.gate_net.specs.Meaning.{is_gate_family}
use Rattle.wire_edit.proofs.Public.{among_at}
use Rattle.care_opt.specs.Extract.{extract, gated_nodes, new_number}
use Rattle.care_opt.specs.Gated.{care_node, numbers_from}
use Rattle.care_opt.specs.Inner.Standing.{CanGate, IsGatedOver, IsNoMain}
use Rattle.care_opt.proofs.Numbering.{extract_at, extract_from, main, main_at, number_same, redone}

-- a member of a list is at a place
pub at_among : (x : ℕ) (xs : List ℕ) (k : ℕ) → slice_get xs k ≡ Some x → is_among x xs ≡ true
at_among x [] k e = absurd cc
at_among x (y ∷ ys) zero e = let same : y ≡ x = some_is y x e in ap (λ (t : Bool). t || is_among x ys) (eq-eqb y x same)
at_among x (y ∷ ys) (suc k) e = ap (λ (t : Bool). nat_eq y x || t) (at_among x ys k e) ∙ or-true (nat_eq y x)

at_read : (os : List (Option Node)) (x y p : ℕ) → slice_get (drivers_in (flatten_option (slice_get os y))) p ≡ Some x → is_read_in os x ≡ true
at_read [] x y p e = absurd cc
at_read (o ∷ os) x zero p e = ap (λ (t : Bool). t || is_read_in os x) (at_among x (drivers_in o) p e)
at_read (o ∷ os) x (suc y) p e = ap (λ (t : Bool). is_among x (drivers_in o) || t) (at_read os x y p e) ∙ or-true (is_among x (drivers_in o))

read_at : (os : List (Option Node)) (x : ℕ) → is_read_in os x ≡ true → (y : ℕ) × ((p : ℕ) × (slice_get (drivers_in (flatten_option (slice_get os y))) p ≡ Some x))
read_at [] x e = absurd cc
read_at (o ∷ os) x e = elim (or_cases (is_among x (drivers_in o)) (is_read_in os x) e) [
  | inl here ↦ let k = among_at x (drivers_in o) here in (0, (k.0, k.1))
  | inr later ↦ let rest = read_at os x later in (suc rest.0, (rest.1.0, rest.1.1))
]

-- a node is in use where it is read or observed
pub used_by : (net : Net) (x : ℕ) → is_in_use net x ≡ true → ((y : ℕ) × ((p : ℕ) × Reads net y p x)) ⊎ ((k : ℕ) × (slice_get net.observed k ≡ Some x))
used_by net x e = elim (or_cases (is_read_in net.nodes x) (is_among x net.observed) e) [
  | inl here ↦ inl (read_at net.nodes x here)
  | inr there ↦ inr (among_at x net.observed there)
]

pub use_read : (net : Net) (x y p : ℕ) → Reads net y p x → is_in_use net x ≡ true
use_read net x y p reads = ap (λ (t : Bool). t || is_among x net.observed) (at_read net.nodes x y p reads)

pub use_seen : (net : Net) (x k : ℕ) → slice_get net.observed k ≡ Some x → is_in_use net x ≡ true
use_seen net x k at = ap (λ (t : Bool). is_read_in net.nodes x || t) (at_among x net.observed k at) ∙ or-true (is_read_in net.nodes x)

-- places of consecutive numbers
pub number_there : (next : ℕ) (xs : List ℕ) (k x : ℕ) → slice_get xs k ≡ Some x → slice_get (numbers_from next xs) k ≡ Some (next + k)
number_there next [] k x e = absurd cc
number_there next (y ∷ ys) zero x e = let i : next ≡ next + 0 = omega arith in ap (λ (n : ℕ). Some n) i
number_there next (y ∷ ys) (suc k) x e = let i : suc next + k ≡ next + suc k = omega arith in number_there (suc next) ys k x e ∙ ap (λ (n : ℕ). Some n) i

pub number_found : (next : ℕ) (xs : List ℕ) (k y : ℕ) → slice_get (numbers_from next xs) k ≡ Some y → (x : ℕ) × ((slice_get xs k ≡ Some x) × (y ≡ next + k))
number_found next [] k y e = absurd cc
number_found next (x ∷ xs) zero y e = (x, (refl, let i : next ≡ next + 0 = omega arith in sym (some_is next y e) ∙ i))
number_found next (x ∷ xs) (suc k) y e = let r = number_found (suc next) xs k y e in (r.0, (r.1.0, let is = r.1.1 in omega (arith, is)))

pub some_place : (xs : List ℕ) (k : ℕ) → k < length xs → (x : ℕ) × (slice_get xs k ≡ Some x)
some_place [] k lt = absurd (omega arith)
some_place (x ∷ xs) zero lt = (x, refl)
some_place (x ∷ xs) (suc k) lt = some_place xs k (omega (arith, lt))

-- the drivers of pin 0 of consecutive gates
gated_from : (net : Net) (care next : ℕ) (moved : ℕ → ℕ) (xs : List ℕ) → ((k x : ℕ) → slice_get xs k ≡ Some x → node_at net (next + k) ≡ Some (and_gate (moved x) care))
    → map (λ (y : ℕ). or_zero (slice_get (drivers_of net y) 0)) (numbers_from next xs) ≡ map moved xs
gated_from net care next moved [] h = refl
gated_from net care next moved (x ∷ xs) h =
    let i : next + 0 ≡ next = omega arith in
    let here : or_zero (slice_get (drivers_of net next) 0) ≡ moved x = ap (λ (y : ℕ). or_zero (slice_get (drivers_of net y) 0)) (sym i) ∙ ap (λ (o : Option Node). or_zero (slice_get (drivers_in o) 0)) (h 0 x refl) in
    let rest : map (λ (y : ℕ). or_zero (slice_get (drivers_of net y) 0)) (numbers_from (suc next) xs) ≡ map moved xs =
    gated_from net care (suc next) moved xs (λ k z at. let j : suc next + k ≡ next + suc k = omega arith in ap (λ (y : ℕ). node_at net y) j ∙ h (suc k) z at) in
    rw (here, rest) refl

among_taken : (f : ℕ → ℕ) (x k : ℕ) (ds : List ℕ) → ((p d : ℕ) → slice_get ds p ≡ Some d → f d ≡ f x → d ≡ x) → is_among (f x) (take k (map f ds)) ≡ true → is_among x (take k ds) ≡ true
among_taken f x zero ds h e = absurd cc
among_taken f x (suc k) [] h e = absurd cc
among_taken f x (suc k) (d ∷ ds) h e = elim (eqb_tells (f d) (f x)) [
  | inl t ↦ ap (λ (b : Bool). b || is_among x (take k ds)) (eq-eqb d x (h 0 d refl t.1))
  | inr t ↦
      let rest : is_among (f x) (take k (map f ds)) ≡ true = ap (λ (b : Bool). b || is_among (f x) (take k (map f ds))) (sym t.0) ∙ e in
      ap (λ (b : Bool). nat_eq d x || b) (among_taken f x k ds (λ p c at same. h (suc p) c at same) rest) ∙ or-true (nat_eq d x)
]

-- a main node that is live
abbrev pub LiveMain : ℕ → Net → ℕ → Type 0
LiveMain b net x = (x < b) × ((n : Node) × (node_at net x ≡ Some n))

module _ (b : ℕ) (net : Net) where
  abbrev f : ℕ → ℕ
  f = new_number (main b net)

  pub same_of : (x z : ℕ) → LiveMain b net x → LiveMain b net z → f x ≡ f z → x ≡ z
  same_of x z (lt, (n, is)) (less, (m, are)) e = number_same (main b net) x z n m (main_at b net x lt ∙ is) (main_at b net z less ∙ are) e

  pub kind_same : (x : ℕ) → LiveMain b net x → kind_of (extract b net) (f x) ≡ kind_of net x
  kind_same x (lt, (n, is)) = ap (λ (o : Option Node). kind_in o) (extract_at b net x n lt is) ∙ ap (λ (o : Option Node). kind_in o) (sym is)

  pub drivers_same : (x : ℕ) → LiveMain b net x → drivers_of (extract b net) (f x) ≡ map f (drivers_of net x)
  drivers_same x (lt, (n, is)) = ap (λ (o : Option Node). drivers_in o) (extract_at b net x n lt is) ∙ ap (λ (o : Option Node). map f (drivers_in o)) (sym is)

  pub junction_same : (x : ℕ) → LiveMain b net x → is_junction (extract b net) (f x) ≡ is_junction net x
  junction_same x at = ap (λ (k : Option Kind). is_present (gate_control k)) (kind_same x at)

  pub not_same : (x : ℕ) → LiveMain b net x → is_not (extract b net) (f x) ≡ is_not net x
  not_same x at = ap (λ (k : Option Kind). is_not_kind k) (kind_same x at)

  pub gate_same : (x : ℕ) → LiveMain b net x → is_gate (extract b net) (f x) ≡ is_gate net x
  gate_same x at = ap (λ (k : Option Kind). is_gate_family (family_in k)) (kind_same x at)

  pub several_same : (x : ℕ) → LiveMain b net x → reads_several (extract b net) (f x) ≡ reads_several net x
  several_same x at = ap (λ (k : Option Kind). is_present (gate_control k) || is_xor_kind k) (kind_same x at)

  pub constant_same : (x p : ℕ) → LiveMain b net x → ((q d : ℕ) → Reads net x q d → LiveMain b net d) → constant_at (extract b net) (f x) p ≡ constant_at net x p
  constant_same x p at lower = ap (λ (ds : List ℕ). option_and_then (constant_of (extract b net)) (slice_get ds p)) (drivers_same x at) ∙ along (drivers_of net x) p (λ d is. lower p d is)
    where
      along : (ds : List ℕ) (p : ℕ) → ((d : ℕ) → slice_get ds p ≡ Some d → LiveMain b net d) → option_and_then (constant_of (extract b net)) (slice_get (map f ds) p) ≡ option_and_then (constant_of net) (slice_get ds p)
      along [] p h = refl
      along (d ∷ ds) zero h = ap (λ (k : Option Kind). kind_constant k) (kind_same d (h d refl))
      along (d ∷ ds) (suc p) h = along ds p h

  pub repeated_same : (x p : ℕ) → LiveMain b net x → ((q d : ℕ) → Reads net x q d → LiveMain b net d) → is_repeated (drivers_of (extract b net) (f x)) p ≡ true → is_repeated (drivers_of net x) p ≡ true
  repeated_same x p at lower e = along (slice_get (drivers_of net x) p) refl
    where
      now : is_repeated (map f (drivers_of net x)) p ≡ true
      now = ap (λ (ds : List ℕ). is_repeated ds p) (sym (drivers_same x at)) ∙ e

      none_map : (ds : List ℕ) (p : ℕ) → slice_get ds p ≡ None → slice_get (map f ds) p ≡ None
      none_map [] p e = refl
      none_map (d ∷ ds) zero e = absurd cc
      none_map (d ∷ ds) (suc p) e = none_map ds p e

      along : (o : Option ℕ) → slice_get (drivers_of net x) p ≡ o → is_repeated (drivers_of net x) p ≡ true
      along None is = absurd (no_none (ap (λ (o : Option ℕ). Rattle.wire_edit.specs.Tests.is_some_among o (take p (map f (drivers_of net x)))) (sym (none_map (drivers_of net x) p is)) ∙ now))
        where
          no_none : false ≡ true → ⊥
          no_none e = cc
      along (Some d) is =
          let there : is_among (f d) (take p (map f (drivers_of net x))) ≡ true = ap (λ (o : Option ℕ). Rattle.wire_edit.specs.Tests.is_some_among o (take p (map f (drivers_of net x)))) (sym (map_at f (drivers_of net x) p d is)) ∙ now in
          ap (λ (o : Option ℕ). Rattle.wire_edit.specs.Tests.is_some_among o (take p (drivers_of net x))) is ∙ among_taken f d p (drivers_of net x) (λ q c at same. same_of c d (lower q c at) (lower p d is) same) there

module _ (one two : Net) (can : CanGate one two) (net : Net) (over : IsGatedOver one two net) where
  abbrev b' : ℕ
  b' = length one.nodes

  live_node : (x : ℕ) → node_at net x ≢ None → (n : Node) × (node_at net x ≡ Some n)
  live_node x live = by_node (node_at net x) refl
    where
      by_node : (o : Option Node) → node_at net x ≡ o → (n : Node) × (node_at net x ≡ Some n)
      by_node None is = absurd (live is)
      by_node (Some n) is = (n, is)

  pub lower : (x : ℕ) → x < b' → (q d : ℕ) → Reads net x q d → LiveMain b' net d
  lower x lt q d reads = (let less = over.order x q d lt reads in omega (arith, less, lt), live_node d (over.formed.drivers_live x q d reads))

  pub gate_reads : (k x : ℕ) → slice_get one.observed k ≡ Some x → drivers_of net (length (both one two) + k) ≡ over.moved x ∷ care_node one two ∷ []
  gate_reads k x at = ap (λ (o : Option Node). drivers_in o) (over.gates k x at)

  pub moved_live : (k x : ℕ) → slice_get one.observed k ≡ Some x → LiveMain b' net (over.moved x)
  moved_live k x at = (over.low k x at, live_node (over.moved x) (over.formed.drivers_live (length (both one two) + k) 0 (over.moved x) (ap (λ (ds : List ℕ). slice_get ds 0) (gate_reads k x at))))

  pub gated_are : gated_nodes net ≡ map over.moved one.observed
  gated_are = ap (λ (xs : List ℕ). map (λ (y : ℕ). or_zero (slice_get (drivers_of net y) 0)) xs) over.observed ∙ gated_from net (care_node one two) (length (both one two)) over.moved one.observed over.gates

  pub seen_are : (extract b' net).observed ≡ map (new_number (main b' net)) (map over.moved one.observed)
  seen_are = ap (λ (xs : List ℕ). map (new_number (main b' net)) xs) gated_are

  -- what reads a main gate is a main gate or pin 0 of a gating And
  pub reader_main : (x y p : ℕ) → first_gate one ≤ x → x < b' → Reads net y p x → (y < b') ⊎ ((k : ℕ) × ((s : ℕ) × ((slice_get one.observed k ≡ Some s) × (over.moved s ≡ x))))
  reader_main x y p high lt reads = elim (cases_lt y b') [
    | inl less ↦ inl less
    | inr more ↦ elim (cases_lt y (length (both one two))) [
      | inl before ↦ absurd (no_main (can.apart y p x more before (ap (λ (o : Option Node). slice_get (drivers_in o) p) (sym (over.theirs y more before)) ∙ reads)).0)
      | inr after ↦ elim (cases_lt y (length (both one two) + length one.observed)) [
        | inr past ↦ absurd (none_reads (ap (λ (o : Option Node). slice_get (drivers_in o) p) (sym (over.last y past)) ∙ reads))
        | inl within ↦
            let k : ℕ = y - length (both one two) in
            let same : length (both one two) + k ≡ y = omega (arith, after) in
            let s = some_place one.observed k (omega (arith, after, within)) in
            let there : slice_get (over.moved s.0 ∷ care_node one two ∷ []) p ≡ Some x = ap (λ (ds : List ℕ). slice_get ds p) (sym (ap (λ (i : ℕ). drivers_of net i) (sym same) ∙ gate_reads k s.0 s.1)) ∙ reads in
            inr (k, (s.0, (s.1, by_pin p s.0 there)))
      ]
    ]
  ]
    where
      no_main : IsNoMain one x → ⊥
      no_main (inl low) = omega (arith, low, high)
      no_main (inr up) = omega (arith, up, lt)

      none_reads : slice_get {X = ℕ} [] p ≡ Some x → ⊥
      none_reads e = cc

      by_pin : (p s : ℕ) → slice_get (over.moved s ∷ care_node one two ∷ []) p ≡ Some x → over.moved s ≡ x
      by_pin zero s e = some_is (over.moved s) x e
      by_pin (suc zero) s e = absurd (no_main (subst (λ (i : ℕ). IsNoMain one i) (some_is (care_node one two) x e) can.care))
      by_pin (suc (suc p)) s e = absurd cc

  -- a main node is in use in the extract exactly where it is in the net
  pub use_to : (x : ℕ) → LiveMain b' net x → is_in_use (extract b' net) (new_number (main b' net) x) ≡ true → is_in_use net x ≡ true
  use_to x at e = elim (used_by (extract b' net) (new_number (main b' net) x) e) [
    | inl reads ↦
        let y : ℕ = reads.0 in
        let p : ℕ = reads.1.0 in
        let node = read_node (node_at (extract b' net) y) p (new_number (main b' net) x) reads.1.1 in
        let from = extract_from b' net y node.0 node.1 in
        let lt : from.old < b' = below from.old from.node from.there in
        let is : node_at net from.old ≡ Some from.node = sym (main_at b' net from.old lt) ∙ from.there in
        let pin : slice_get (map (new_number (main b' net)) from.node.drivers) p ≡ Some (new_number (main b' net) x) = ap (λ (o : Option Node). slice_get (drivers_in o) p) (sym (node.1 ∙ ap (λ (m : Node). Some m) from.same)) ∙ reads.1.1 in
        let d = map_found (new_number (main b' net)) from.node.drivers p (new_number (main b' net) x) pin in
        let old : Reads net from.old p d.0 = ap (λ (o : Option Node). slice_get (drivers_in o) p) is ∙ d.1.0 in
        let same : d.0 ≡ x = same_of b' net d.0 x (lower from.old lt p d.0 old) at d.1.1 in
        use_read net x from.old p (subst (λ (i : ℕ). Reads net from.old p i) same old)
    | inr seen ↦
        let there : slice_get (map (new_number (main b' net)) (map over.moved one.observed)) seen.0 ≡ Some (new_number (main b' net) x) = ap (λ (xs : List ℕ). slice_get xs seen.0) (sym seen_are) ∙ seen.1 in
        let y = map_found (new_number (main b' net)) (map over.moved one.observed) seen.0 (new_number (main b' net) x) there in
        let s = map_found over.moved one.observed seen.0 y.0 y.1.0 in
        let alive : LiveMain b' net y.0 = subst (λ (i : ℕ). LiveMain b' net i) s.1.1 (moved_live seen.0 s.0 s.1.0) in
        let same : y.0 ≡ x = same_of b' net y.0 x alive at y.1.1 in
        use_read net x (length (both one two) + seen.0) 0 (ap (λ (ds : List ℕ). slice_get ds 0) (gate_reads seen.0 s.0 s.1.0) ∙ ap (λ (i : ℕ). Some i) (s.1.1 ∙ same))
  ]
    where
      read_node : (o : Option Node) (p x : ℕ) → slice_get (drivers_in o) p ≡ Some x → (n : Node) × (o ≡ Some n)
      read_node None p x e = absurd cc
      read_node (Some n) p x e = (n, refl)

      below : (x : ℕ) (n : Node) → flatten_option (slice_get (main b' net) x) ≡ Some n → x < b'
      below x n e = Rattle.care_opt.proofs.Numbering.take_below net.nodes b' x n e

  pub use_from : (x : ℕ) → LiveMain b' net x → first_gate one ≤ x → is_in_use net x ≡ true → is_in_use (extract b' net) (new_number (main b' net) x) ≡ true
  use_from x at high e = elim (used_by net x e) [
    | inl reads ↦ by_reader reads.0 reads.1.0 reads.1.1
    | inr seen ↦
        let there = number_found (length (both one two)) one.observed seen.0 x (ap (λ (xs : List ℕ). slice_get xs seen.0) (sym over.observed) ∙ seen.1) in
        let late = can.later in let is = there.1.1 in let low = at.0 in absurd (omega (arith, late, is, low))
  ]
    where
      by_reader : (y p : ℕ) → Reads net y p x → is_in_use (extract b' net) (new_number (main b' net) x) ≡ true
      by_reader y p reads = elim (reader_main x y p high at.0 reads) [
        | inl lt ↦
            let alive : LiveMain b' net y = (lt, reader_node (node_at net y) refl) in
            use_read (extract b' net) (new_number (main b' net) x) (new_number (main b' net) y) p
            (ap (λ (ds : List ℕ). slice_get ds p) (drivers_same b' net y alive) ∙ map_at (new_number (main b' net)) (drivers_of net y) p x reads)
        | inr gate ↦
            use_seen (extract b' net) (new_number (main b' net) x) gate.0
            (ap (λ (xs : List ℕ). slice_get xs gate.0) seen_are
            ∙ map_at (new_number (main b' net)) (map over.moved one.observed) gate.0 x (map_at over.moved one.observed gate.0 gate.1.0 gate.1.1.0 ∙ ap (λ (i : ℕ). Some i) gate.1.1.1))
      ]
        where
          reader_node : (o : Option Node) → node_at net y ≡ o → (n : Node) × (node_at net y ≡ Some n)
          reader_node None is = absurd (no_reads (ap (λ (o : Option Node). slice_get (drivers_in o) p) (sym is) ∙ reads))
            where
              no_reads : slice_get {X = ℕ} [] p ≡ Some x → ⊥
              no_reads e = cc
          reader_node (Some n) is = (n, is)
