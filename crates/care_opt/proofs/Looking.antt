-- Main nodes on the next numbers, one after another.
use Rattle.std.proofs.Common.{Bool, List, None, Option, Some, [], ap, arith, drop, inl, inr, length, map, refl, subst, suc, sym, take, true, zero, ℕ, ◌++◌, ◌+◌, ◌<◌, ◌∙◌, ◌∷◌, ◌≡◌, ◌≢◌, ◌≤◌}
use Rattle.std.specs.Prelude.{replicate, slice_get, ◌||◌}
use Rattle.std.specs.Option.{option_map}
use Rattle.std.proofs.lemmas.Bool.{cases_lt}
use Rattle.std.proofs.lemmas.Bool.Decides.{eqb_tells}
use Rattle.std.proofs.lemmas.List.{append-nil, length-map, take-append-drop}
use Rattle.std.proofs.lemmas.List.Sums.{sum_by-take-drop}
use Rattle.std.proofs.lemmas.Option.{slice_get_past}
use Rattle.gate_graph.specs.Start.{first_net}
use Rattle.gate_net.specs.Net.{IsGate, IsGateKind, IsLive, IsWellFormed, Net, Node, Reads, drivers_in, drivers_of, flatten_option, kind_in, kind_of, node_at, plain_node, source_count, wire_count}
use Rattle.gate_net.specs.declared.Kind.{Kind}
use Rattle.gate_net.specs.declared.Kind.TheVariants.{Not, One, Source, Xor, Zero}
use Rattle.joined_nets.specs.Growing.{Fits, live, with_nodes}
use Rattle.joined_nets.specs.Joined.{first_gate}
use Rattle.joined_nets.proofs.Public.{begins_so, by_nodes, fits_first, length_with, live_below, moved_step, with_both, with_none}
use Rattle.pin_pool.specs.Ring.{has}
use Rattle.rm_base.proofs.Public.{drop_end, drop_stands, front_stands, map_agree, map_found, seam_stands, some_is, stands_below, take_zero}
use Rattle.rm_base.specs.declared.numbers.NodeId.{NodeId}
use Rattle.care_opt.specs.Extract.{extract, gated_nodes, main_nodes, new_number, numbered}
use Rattle.care_opt.specs.Inner.Looking.{looked, with_main, with_node}
use Rattle.care_opt.proofs.Numbering.{extract_at, main_at, node_in, number_rises, number_stays, redone}
use Rattle.care_opt.specs.Inner.Standing.{IsExtractable}
use Rattle.care_opt.proofs.Sizes.{numbered_wires}
use Rattle.wire_edit.specs.Steps.{or_zero}

pub looked_is : (numbers : List ℕ) (x y : ℕ) → slice_get numbers x ≡ Some y → looked numbers x ≡ y
looked_is [] x y e = absurd cc
looked_is (n ∷ ns) zero y e = some_is n y e
looked_is (n ∷ ns) (suc x) y e = looked_is ns x y e

-- what a list has stands at a place of it
has_at : (d : ℕ) (xs : List ℕ) → has d xs ≡ true → (p : ℕ) × (slice_get xs p ≡ Some d)
has_at d [] e = absurd cc
has_at d (x ∷ xs) e = elim (eqb_tells d x) [
  | inl same ↦ (0, ap (λ (i : ℕ). Some i) (sym same.1))
  | inr other ↦ let rest = has_at d xs (ap (λ (b : Bool). b || has d xs) (sym other.0) ∙ e) in (suc rest.0, rest.1)
]

numbered-append : (f : ℕ → ℕ) (os ps : List (Option Node)) → numbered f (os ++ ps) ≡ numbered f os ++ numbered f ps
numbered-append f [] ps = refl
numbered-append f (None ∷ os) ps = numbered-append f os ps
numbered-append f (Some n ∷ os) ps = ap (λ (l : List Node). redone f n ∷ l) (numbered-append f os ps)

live-append : (ns ms : List Node) → live (ns ++ ms) ≡ live ns ++ live ms
live-append [] ms = refl
live-append (n ∷ ns) ms = ap (λ (l : List (Option Node)). Some n ∷ l) (live-append ns ms)

-- one node
module _ (net : Net) (x : ℕ) where
  pub live_kind : (kind : Kind) → Some kind ≡ kind_of net x → (ds : List ℕ) × (node_at net x ≡ Some (record { kind = kind; drivers = ds }))
  live_kind kind e = by_node (node_at net x) e
    where
      by_node : (o : Option Node) → Some kind ≡ kind_in o → (ds : List ℕ) × (o ≡ Some (record { kind = kind; drivers = ds }))
      by_node None e = absurd cc
      by_node (Some n) e = let same : n.kind ≡ kind = cc in (n.drivers, ap (λ (k : Kind). let m : Node = record { kind = k; drivers = n.drivers } in Some m) same)

  pub is_live : (kind : Kind) → Some kind ≡ kind_of net x → IsLive net x
  is_live kind e = (kind, live_kind kind e)

  pub gate_kind : (kind : Kind) → Some kind ≡ kind_of net x → IsGate net x → IsGateKind kind
  gate_kind kind e gate = subst (λ (k : Kind). IsGateKind k) (some_is gate.0 kind (sym (ap (λ (o : Option Node). kind_in o) gate.1.0.1) ∙ sym e)) gate.1.1

  pub is_there : (kind : Kind) → Some kind ≡ kind_of net x → node_at net x ≢ None
  is_there kind e none = let bad : Some kind ≡ None = e ∙ ap (λ (o : Option Node). kind_in o) none in absurd cc

  pub nothing : (small : Net) (numbers : List ℕ) → None ≡ kind_of net x → small ≡ with_node small numbers net x
  nothing small numbers e = by_node (node_at net x) e
    where
      by_node : (o : Option Node) → None ≡ kind_in o → small ≡ with_nodes small (live (numbered (looked numbers) (o ∷ [])))
      by_node None e = sym (with_none small)
      by_node (Some n) e = absurd cc

  module _ (small : Net) (numbers : List ℕ) (kind : Kind) (e : Some kind ≡ kind_of net x) (ids : List NodeId) (are : map (λ (n : NodeId). n.0) ids ≡ map (looked numbers) (drivers_of net x)) where
    pub made_node : with_nodes small (Some (record { kind = kind; drivers = map (λ (n : NodeId). n.0) ids }) ∷ []) ≡ with_node small numbers net x
    made_node =
        let n = live_kind kind e in
        ap (λ (ds : List ℕ). with_nodes small (Some (record { kind = kind; drivers = ds }) ∷ [])) (are ∙ ap (λ (o : Option Node). map (looked numbers) (drivers_in o)) n.1)
        ∙ sym (ap (λ (o : Option Node). with_nodes small (live (numbered (looked numbers) (o ∷ [])))) n.1)

    pub one_driver : IsWellFormed net → kind ≡ Not → length ids ≡ 1
    one_driver formed is =
        let n = live_kind kind e in
        let one = formed.nots_have_one x (n.0, n.1 ∙ ap (λ (k : Kind). let m : Node = record { kind = k; drivers = n.0 } in Some m) is) in
        sym (length-map ids (λ (n : NodeId). n.0)) ∙ (ap (λ (l : List ℕ). length l) (are ∙ ap (λ (l : List ℕ). map (looked numbers) l) one.1))

    pub two_drivers : IsWellFormed net → kind ≡ Xor → length ids ≡ 2
    two_drivers formed is =
        let n = live_kind kind e in
        let two = formed.xors_have_two x (n.0, n.1 ∙ ap (λ (k : Kind). let m : Node = record { kind = k; drivers = n.0 } in Some m) is) in
        sym (length-map ids (λ (n : NodeId). n.0)) ∙ (ap (λ (l : List ℕ). length l) (are ∙ ap (λ (l : List ℕ). map (looked numbers) l) two.2))

    pub drivers_below : ((p d : ℕ) → Reads net x p d → looked numbers d < length small.nodes) → (d : ℕ) → has d (map (λ (n : NodeId). n.0) ids) ≡ true → d < length small.nodes
    drivers_below lower d among =
        let at = has_at d (map (λ (n : NodeId). n.0) ids) among in
        let from = map_found (looked numbers) (drivers_of net x) at.0 d (ap (λ (l : List ℕ). slice_get l at.0) (sym are) ∙ at.1) in
        subst (λ (i : ℕ). i < length small.nodes) from.1.1 (lower at.0 from.0 from.1.0)

-- one node after another
module _ (bound : ℕ) (net : Net) where
  abbrev main : List (Option Node)
  main = main_nodes bound net

  abbrev f : ℕ → ℕ
  f = new_number main

  module _ (k : ℕ) (lt : k < bound) where
    one_more : {A : Type 0} (xs : List A) → drop (k + 1) xs ≡ drop (suc k) xs
    one_more xs = let same : k + 1 ≡ suc k = omega arith in ap (λ (i : ℕ). drop i xs) same

    next_main : live (numbered f (drop k main)) ≡ live (numbered f (node_at net k ∷ [])) ++ live (numbered f (drop (k + 1) main))
    next_main = elim (cases_lt k (length main)) [
      | inl less ↦
          let o = stands_below main k less in
          let is : node_at net k ≡ o.0 = sym (main_at bound net k lt) ∙ ap (λ (p : Option (Option Node)). flatten_option p) o.1 in
          ap (λ (os : List (Option Node)). live (numbered f os)) (drop_stands main k o.0 o.1)
          ∙ (ap (λ (ns : List Node). live ns) (numbered-append f (o.0 ∷ []) (drop (suc k) main))
          ∙ (live-append (numbered f (o.0 ∷ [])) (numbered f (drop (suc k) main))
          ∙ (ap (λ (p : Option Node). live (numbered f (p ∷ [])) ++ live (numbered f (drop (suc k) main))) (sym is)
          ∙ ap (λ (os : List (Option Node)). live (numbered f (node_at net k ∷ [])) ++ live (numbered f os)) (sym (one_more main)))))
      | inr past ↦
          let is : node_at net k ≡ None = sym (main_at bound net k lt) ∙ ap (λ (p : Option (Option Node)). flatten_option p) (slice_get_past main k past) in
          ap (λ (os : List (Option Node)). live (numbered f os)) (drop_end main k past)
          ∙ (ap (λ (p : Option Node). live (numbered f (p ∷ []))) (sym is)
          ∙ (sym (append-nil (live (numbered f (node_at net k ∷ []))))
          ∙ ap (λ (os : List (Option Node)). live (numbered f (node_at net k ∷ [])) ++ live (numbered f os)) (sym (drop_end main (k + 1) (omega (arith, past))))))
    ]

    module _ (numbers : List ℕ) (are : (x : ℕ) → x < k → slice_get numbers x ≡ Some (f x)) (order : (p x : ℕ) → Reads net k p x → x < k) where
      looked_same : numbered (looked numbers) (node_at net k ∷ []) ≡ numbered f (node_at net k ∷ [])
      looked_same = by_node (node_at net k) (λ p x e. order p x e)
        where
          by_node : (o : Option Node) → ((p x : ℕ) → slice_get (drivers_in o) p ≡ Some x → x < k) → numbered (looked numbers) (o ∷ []) ≡ numbered f (o ∷ [])
          by_node None h = refl
          by_node (Some n) h = ap (λ (ds : List ℕ). let m : Node = record n { drivers = ds } in m ∷ []) (map_agree (looked numbers) f n.drivers (λ p x e. looked_is numbers x (f x) (are x (h p x e))))

      module _ (small target : Net) (left : with_main small k bound net ≡ target) where
        all_is : with_nodes small (live (numbered (looked numbers) (node_at net k ∷ [])) ++ live (numbered f (drop (k + 1) main))) ≡ target
        all_is =
            ap (λ (ns : List Node). with_nodes small (live ns ++ live (numbered f (drop (k + 1) main)))) looked_same
            ∙ (by_nodes small (small.nodes ++ (live (numbered f (node_at net k ∷ [])) ++ live (numbered f (drop (k + 1) main)))) (small.nodes ++ live (numbered f (drop k main))) (ap (λ (os : List (Option Node)). small.nodes ++ os) (sym next_main)) ∙ left)

        pub node_fits : Fits target → Fits (with_node small numbers net k)
        node_fits fits = fits_first small (live (numbered (looked numbers) (node_at net k ∷ []))) (live (numbered f (drop (k + 1) main))) (subst (λ (n : Net). Fits n) (sym all_is) fits)

        module _ (after : Net) (made : after ≡ with_node small numbers net k) where
          pub main_step : with_main after (k + 1) bound net ≡ target
          main_step = ap (λ (n : Net). with_main n (k + 1) bound net) made ∙ (with_both small (live (numbered (looked numbers) (node_at net k ∷ []))) (live (numbered f (drop (k + 1) main))) ∙ all_is)

          pub next_number : length small.nodes ≡ f k → length after.nodes ≡ f (k + 1)
          next_number size =
              ap (λ (n : Net). length n.nodes) made
              ∙ (length_with small (live (numbered (looked numbers) (node_at net k ∷ [])))
              ∙ (ap (λ (i : ℕ). i + length (live (numbered (looked numbers) (node_at net k ∷ [])))) size ∙ sym (more main k (node_at net k) (main_at bound net k lt))))
            where
              more_suc : (os : List (Option Node)) (k : ℕ) (o : Option Node) → node_in os k ≡ o → new_number os (suc k) ≡ new_number os k + length (live (numbered (looked numbers) (o ∷ [])))
              more_suc [] zero None e = refl
              more_suc [] zero (Some n) e = absurd cc
              more_suc [] (suc k) None e = refl
              more_suc [] (suc k) (Some n) e = absurd cc
              more_suc (None ∷ os) zero None e = none_at os
                where
                  none_at : (os : List (Option Node)) → new_number os 0 ≡ 0
                  none_at os = refl
              more_suc (None ∷ os) zero (Some n) e = absurd cc
              more_suc (Some m ∷ os) zero None e = absurd cc
              more_suc (Some m ∷ os) zero (Some n) e = refl
              more_suc (None ∷ os) (suc k) o e = more_suc os k o e
              more_suc (Some m ∷ os) (suc k) o e = let rest = more_suc os k o e in omega (arith, rest)

              more : (os : List (Option Node)) (k : ℕ) (o : Option Node) → node_in os k ≡ o → new_number os (k + 1) ≡ new_number os k + length (live (numbered (looked numbers) (o ∷ [])))
              more os k o e = let same : k + 1 ≡ suc k = omega arith in ap (λ (i : ℕ). new_number os i) same ∙ more_suc os k o e

  pub numbers_step : (k : ℕ) (numbers after : List ℕ) (next : ℕ) → length numbers ≡ k → after ≡ numbers ++ next ∷ [] → next ≡ f k → ((x : ℕ) → x < k → slice_get numbers x ≡ Some (f x)) → (x : ℕ) → x < k + 1 → slice_get after x ≡ Some (f x)
  numbers_step k numbers after next size pushed is are x lt = ap (λ (l : List ℕ). slice_get l x) pushed ∙ elim (cases_lt x k) [
    | inl less ↦ front_stands numbers (next ∷ []) x (f x) (are x less)
    | inr more ↦
        let same : x ≡ k = omega (arith, lt, more) in
        ap (λ (i : ℕ). slice_get (numbers ++ next ∷ []) i) (same ∙ sym size) ∙ (seam_stands numbers next [] ∙ ap (λ (i : ℕ). Some i) (is ∙ ap f (sym same)))
  ]

  pub main_end : (small : Net) (k : ℕ) → bound ≤ k → with_main small k bound net ≡ small
  main_end small k le = ap (λ (os : List (Option Node)). with_nodes small (live (numbered f os))) (drop_end main k (let short = taken_short net.nodes bound in omega (arith, le, short))) ∙ with_none small
    where
      taken_short : (os : List (Option Node)) (b : ℕ) → length (take b os) ≤ b
      taken_short os zero = omega arith
      taken_short [] (suc b) = omega arith
      taken_short (o ∷ os) (suc b) = let rest = taken_short os b in omega (arith, rest)

-- a new graph has the sources and the constants
plain_stay : (f : ℕ → ℕ) (count : ℕ) → live (numbered f (first_net count).nodes) ≡ (first_net count).nodes
plain_stay f count = ap (λ (os : List (Option Node)). plain_node Zero ∷ plain_node One ∷ os) (sources count)
  where
    sources : (count : ℕ) → live (numbered f (replicate count (plain_node Source))) ≡ replicate count (plain_node Source)
    sources zero = refl
    sources (suc count) = ap (λ (os : List (Option Node)). plain_node Source ∷ os) (sources count)

taken_twice : {A : Type 0} (xs : List A) (k b : ℕ) → k ≤ b → take k (take b xs) ≡ take k xs
taken_twice xs zero b le = take_zero (take b xs) ∙ sym (take_zero xs)
taken_twice xs (suc k) zero le = absurd (omega (arith, le))
taken_twice [] (suc k) (suc b) le = refl
taken_twice (x ∷ xs) (suc k) (suc b) le = ap (λ (l : List _). x ∷ l) (taken_twice xs k b (omega (arith, le)))

pub whole_main : (bound : ℕ) (net : Net) → IsWellFormed net → first_gate net ≤ bound → with_main (first_net (source_count net)) (first_gate net) bound net ≡ record { nodes = (extract bound net).nodes; observed = [] }
whole_main bound net formed le =
    let f : ℕ → ℕ = new_number (main_nodes bound net) in
    let first : List (Option Node) = take (first_gate net) (main_nodes bound net) in
    let rest : List (Option Node) = drop (first_gate net) (main_nodes bound net) in
    let same : (first_net (source_count net)).nodes ≡ live (numbered f first) = sym (plain_stay f (source_count net)) ∙ ap (λ (os : List (Option Node)). live (numbered f os)) (begins_so net formed ∙ sym (taken_twice net.nodes (first_gate net) bound le)) in
    by_nodes (record { nodes = []; observed = [] }) _ _
    (ap (λ (os : List (Option Node)). os ++ live (numbered f rest)) same
    ∙ (sym (live-append (numbered f first) (numbered f rest))
    ∙ ap (λ (ns : List Node). live ns) (sym (numbered-append f first rest) ∙ ap (λ (os : List (Option Node)). numbered f os) (take-append-drop (first_gate net) (main_nodes bound net)))))

-- what is live behind the sources is a gate
pub gate_above : (net : Net) (x : ℕ) → IsWellFormed net → first_gate net ≤ x → node_at net x ≢ None → IsGate net x
gate_above net x formed le live = by_node (node_at net x) refl
  where
    by_kind : (kind : Kind) (ds : List ℕ) → node_at net x ≡ Some (record { kind = kind; drivers = ds }) → IsGate net x
    by_kind Source ds is = absurd (let bounds = formed.sources.only x (ds, is) in let high = bounds.1 in omega (arith, high, le))
    by_kind Zero ds is = absurd (let same = formed.only_zero x (ds, is) in omega (arith, same, le))
    by_kind One ds is = absurd (let same = formed.only_one x (ds, is) in omega (arith, same, le))
    by_kind kind ds is = (kind, ((ds, is), tt))

    by_node : (o : Option Node) → node_at net x ≡ o → IsGate net x
    by_node None is = absurd (live is)
    by_node (Some n) is = by_kind n.kind n.drivers is

pub count_step : (numbers after : List ℕ) (k : ℕ) → after ≡ numbers ++ k ∷ [] → length numbers ≡ k → ((x : ℕ) → x < k → slice_get numbers x ≡ Some x) → (x : ℕ) → x < k + 1 → slice_get after x ≡ Some x
count_step numbers after k pushed size are x lt = ap (λ (l : List ℕ). slice_get l x) pushed ∙ elim (cases_lt x k) [
  | inl less ↦ front_stands numbers (k ∷ []) x x (are x less)
  | inr more ↦
      let same : x ≡ k = omega (arith, lt, more) in
      ap (λ (i : ℕ). slice_get (numbers ++ k ∷ []) i) (same ∙ sym size) ∙ (seam_stands numbers k [] ∙ ap (λ (i : ℕ). Some i) (sym same))
]

-- what an extract takes
pub small_extract : (bound : ℕ) (net : Net) → wire_count (extract bound net) ≤ wire_count net × (length (extract bound net).nodes ≤ bound)
small_extract bound net =
    let f : ℕ → ℕ = new_number (main_nodes bound net) in
    let all = sum_by-take-drop (λ (o : Option Node). length (drivers_in o)) net.nodes bound in
    let same = numbered_wires f (main_nodes bound net) in
    let short = taken_short net.nodes bound in
    let fewer = numbered_short f (main_nodes bound net) in
    let live_same = length-map (numbered f (main_nodes bound net)) (λ (n : Node). Some n) in
    (omega (arith, all, same), omega (arith, short, fewer, live_same))
  where
    taken_short : (os : List (Option Node)) (b : ℕ) → length (take b os) ≤ b
    taken_short os zero = omega arith
    taken_short [] (suc b) = omega arith
    taken_short (o ∷ os) (suc b) = let rest = taken_short os b in omega (arith, rest)

    numbered_short : (f : ℕ → ℕ) (os : List (Option Node)) → length (numbered f os) ≤ length os
    numbered_short f [] = omega arith
    numbered_short f (None ∷ os) = let rest = numbered_short f os in omega (arith, rest)
    numbered_short f (Some n ∷ os) = let rest = numbered_short f os in omega (arith, rest)

-- the graph of the extract, before its nodes are observed
pub main_fits : (bound : ℕ) (net small : Net) → IsWellFormed net → first_gate net ≤ bound → small ≡ first_net (source_count net) → bound ≤ 66562 → wire_count net ≤ 1048576 → Fits (with_main small (first_gate net) bound net)
main_fits bound net small formed early is low few =
    subst (λ (n : Net). Fits n) (sym (ap (λ (n : Net). with_main n (first_gate net) bound net) is ∙ whole_main bound net formed early))
    (let s = small_extract bound net in let w = s.0 in let l = s.1 in record { pins = omega (arith, w, few); nodes = omega (arith, l, low) })

pub main_made : (bound : ℕ) (net small after : Net) → IsWellFormed net → first_gate net ≤ bound → small ≡ first_net (source_count net) → after ≡ with_main small (first_gate net) bound net → after ≡ record { nodes = (extract bound net).nodes; observed = [] }
main_made bound net small after formed early is made = made ∙ (ap (λ (n : Net). with_main n (first_gate net) bound net) is ∙ whole_main bound net formed early)

pub all_made : (bound : ℕ) (net after last : Net) (numbers ys : List ℕ) → after ≡ record { nodes = (extract bound net).nodes; observed = [] } → last ≡ record after { observed = after.observed ++ ys } → ys ≡ map (looked numbers) (gated_nodes net)
    → ((k y : ℕ) → slice_get (gated_nodes net) k ≡ Some y → slice_get numbers y ≡ Some (new_number (main_nodes bound net) y)) → last ≡ extract bound net
all_made bound net after last numbers ys is made are looks =
    made
    ∙ (ap (λ (n : Net). let r : Net = record n { observed = n.observed ++ ys } in r) is
    ∙ ap (λ (l : List ℕ). let r : Net = record { nodes = (extract bound net).nodes; observed = l } in r) (are ∙ map_agree (looked numbers) (new_number (main_nodes bound net)) (gated_nodes net) (λ k y e. looked_is numbers y (new_number (main_nodes bound net) y) (looks k y e))))

-- gated nodes are main nodes
pub gated_low : (bound : ℕ) (net : Net) → ((k y : ℕ) → slice_get net.observed k ≡ Some y → (d : ℕ) × (Reads net y 0 d × (d < bound))) → (k x : ℕ) → slice_get (gated_nodes net) k ≡ Some x → x < bound
gated_low bound net gates k x e =
    let y = map_found (λ (y : ℕ). or_zero (slice_get (drivers_of net y) 0)) net.observed k x e in
    let d = gates k y.0 y.1.0 in
    let is : d.0 ≡ x = sym (ap (λ (o : Option ℕ). or_zero o) d.1.0) ∙ y.1.1 in
    subst (λ (i : ℕ). i < bound) is d.1.1

pub new_low : (bound : ℕ) (net : Net) (x : ℕ) → IsWellFormed net → x < bound → node_at net x ≢ None → new_number (main_nodes bound net) x < length (extract bound net).nodes
new_low bound net x formed lt live = by_node (node_at net x) refl
  where
    by_node : (o : Option Node) → node_at net x ≡ o → new_number (main_nodes bound net) x < length (extract bound net).nodes
    by_node None is = absurd (live is)
    by_node (Some n) is = live_below (extract bound net) (new_number (main_nodes bound net) x) (λ none. let bad : Some (redone (new_number (main_nodes bound net)) n) ≡ None = sym (extract_at bound net x n lt is) ∙ none in absurd cc)

pub driver_some : (net : Net) (y : ℕ) (o : Option NodeId) (d : NodeId) → o ≡ Some d → option_map (λ (n : NodeId). n.0) o ≡ slice_get (drivers_of net y) 0 → or_zero (slice_get (drivers_of net y) 0) ≡ d.0
driver_some net y o d is e = ap (λ (p : Option ℕ). or_zero p) (sym e) ∙ ap (λ (p : Option NodeId). or_zero (option_map (λ (n : NodeId). n.0) p)) is

pub driver_none : (net : Net) (y : ℕ) (o : Option NodeId) → ((x : NodeId) → o ≡ Some x → ⊥) → option_map (λ (n : NodeId). n.0) o ≡ slice_get (drivers_of net y) 0 → ((d : ℕ) × Reads net y 0 d) → ⊥
driver_none net y None h e (d, reads) = let bad : None ≡ Some d = e ∙ reads in cc
driver_none net y (Some x) h e r = h x refl

pub gated_step : (net : Net) (numbers : List ℕ) (before after : List NodeId) (left rest : List ℕ) (y d : ℕ) (z : NodeId) (all : List ℕ) → after ≡ before ++ z ∷ [] → left ≡ y ∷ rest → or_zero (slice_get (drivers_of net y) 0) ≡ d → z.0 ≡ looked numbers d
    → map (λ (n : NodeId). n.0) before ++ map (looked numbers) (map (λ (y : ℕ). or_zero (slice_get (drivers_of net y) 0)) left) ≡ all → map (λ (n : NodeId). n.0) after ++ map (looked numbers) (map (λ (y : ℕ). or_zero (slice_get (drivers_of net y) 0)) rest) ≡ all
gated_step net numbers before after left rest y d z all pushed next is look made =
    let g : ℕ → ℕ = λ (y : ℕ). or_zero (slice_get (drivers_of net y) 0) in
    moved_step (looked numbers) before after (map g left) (map g rest) all (record { 0 = d }) z pushed (ap (λ (l : List ℕ). map g l) next ∙ ap (λ (i : ℕ). i ∷ map g rest) is) look made

-- constants and sources keep their numbers
pub first_same : (bound : ℕ) (net : Net) → IsWellFormed net → first_gate net ≤ bound → (x : ℕ) → x ≤ first_gate net → new_number (main_nodes bound net) x ≡ x
first_same bound net formed early x le = number_stays (main_nodes bound net) (first_gate net) x (λ y lt is. plain_live y lt (sym (main_at bound net y (omega (arith, lt, early))) ∙ is)) le
  where
    no_plain : (k : Kind) → plain_node k ≡ None → ⊥
    no_plain k e = cc

    plain_live : (y : ℕ) → y < first_gate net → node_at net y ≢ None
    plain_live zero lt e = no_plain Zero (sym formed.constants.zero_is ∙ e)
    plain_live (suc zero) lt e = no_plain One (sym formed.constants.one_is ∙ e)
    plain_live (suc (suc k)) lt e =
        let same : 2 + k ≡ suc (suc k) = omega arith in
        no_plain Source (sym (subst (λ (i : ℕ). node_at net i ≡ plain_node Source) same (formed.sources.first k (omega (arith, lt)))) ∙ e)

pub looked_low : (bound : ℕ) (net : Net) (k : ℕ) → k < bound → IsWellFormed net → IsExtractable bound net → (numbers : List ℕ) (size p x : ℕ) → Reads net k p x → ((y : ℕ) → y < k → slice_get numbers y ≡ Some (new_number (main_nodes bound net) y)) → size ≡ new_number (main_nodes bound net) k → looked numbers x < size
looked_low bound net k lt formed stands numbers size p x reads are is = by_node (node_at net x) refl
  where
    under : x < k
    under = stands.order k p x lt reads

    same : looked numbers x ≡ new_number (main_nodes bound net) x
    same = looked_is numbers x (new_number (main_nodes bound net) x) (are x under)

    by_node : (o : Option Node) → node_at net x ≡ o → looked numbers x < size
    by_node None none = absurd (formed.drivers_live k p x reads none)
    by_node (Some n) there = let rises = number_rises (main_nodes bound net) x k n (main_at bound net x (let less = under in omega (arith, less, lt)) ∙ there) under in let eq = same in omega (arith, rises, eq, is)

pub gated_new : (bound : ℕ) (net small : Net) (numbers ys : List ℕ) → IsWellFormed net → IsExtractable bound net → small ≡ record { nodes = (extract bound net).nodes; observed = [] } → ((y : ℕ) → y < bound → slice_get numbers y ≡ Some (new_number (main_nodes bound net) y))
    → ys ≡ map (looked numbers) (gated_nodes net) → (p x : ℕ) → slice_get ys p ≡ Some x → x < length small.nodes
gated_new bound net small numbers ys formed stands is looks are p x e =
    let g = map_found (looked numbers) (gated_nodes net) p x (ap (λ (l : List ℕ). slice_get l p) (sym are) ∙ e) in
    let lt : g.0 < bound = gated_low bound net stands.gates p g.0 g.1.0 in
    let same : looked numbers g.0 ≡ new_number (main_nodes bound net) g.0 = looked_is numbers g.0 (new_number (main_nodes bound net) g.0) (looks g.0 lt) in
    let low : new_number (main_nodes bound net) g.0 < length (extract bound net).nodes = new_low bound net g.0 formed lt (gated_live g) in
    let size : length small.nodes ≡ length (extract bound net).nodes = ap (λ (n : Net). length n.nodes) is in
    subst (λ (i : ℕ). i < length small.nodes) g.1.1 (omega (arith, same, low, size))
  where
    gated_live : (g : (y : ℕ) × ((slice_get (gated_nodes net) p ≡ Some y) × (looked numbers y ≡ x))) → node_at net g.0 ≢ None
    gated_live g =
        let y = map_found (λ (y : ℕ). or_zero (slice_get (drivers_of net y) 0)) net.observed p g.0 g.1.0 in
        let d = stands.gates p y.0 y.1.0 in
        let there : d.0 ≡ g.0 = sym (ap (λ (o : Option ℕ). or_zero o) d.1.0) ∙ y.1.1 in
        subst (λ (i : ℕ). node_at net i ≢ None) there (formed.drivers_live y.0 0 d.0 d.1.0)
