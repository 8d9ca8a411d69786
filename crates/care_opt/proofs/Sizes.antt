-- The sources and the wires of an extract.
use Rattle.std.proofs.Common.{List, None, Option, Some, [], ap, append_assoc, arith, drop, inl, inr, length, map, refl, suc, sym, take, zero, ℕ, ◌++◌, ◌+◌, ◌-◌, ◌∙◌, ◌∷◌, ◌≡◌, ◌≢◌, ◌≤◌}
use Rattle.std.proofs.lemmas.Bool.{cases_lt}
use Rattle.std.proofs.lemmas.List.{length-map}
use Rattle.std.proofs.lemmas.List.Sums.{sum_by-cons, sum_by-take-drop}
use Rattle.gate_net.specs.Net.{IsKind, IsWellFormed, Net, Node, count_in, drivers_in, flatten_option, node_at, source_count, source_in, wire_count}
use Rattle.gate_net.specs.declared.Kind.{Kind}
use Rattle.gate_net.specs.declared.Kind.TheVariants.{Source}
use Rattle.joined_nets.specs.Growing.{live, sources_in, wires_in}
use Rattle.joined_nets.specs.Joined.{both, first_gate, node_moved}
use Rattle.joined_nets.proofs.Public.{from_drop, kind_uncounted, none_counted}
use Rattle.journal_text.specs.Runs.{AcceptedTo, steps_of}
use Rattle.journal_text.specs.declared.record.Record.{Record}
use Rattle.journal_text.specs.declared.record.Record.TheVariants as kept
use Rattle.wire_edit.specs.Laws.{StepsKeepForm}
use Rattle.wire_edit.specs.Steps.{stepped}
use Rattle.wire_edit.specs.Work.{WiresGrow}
use Rattle.wire_edit.proofs.Public.{removal_pins}
use Rattle.care_opt.specs.Extract.{extract, main_nodes, new_number, numbered}
use Rattle.care_opt.specs.Gated.{care_node, gated_net, gates_by}
use Rattle.care_opt.specs.Inner.Standing.{CanGate, IsGatedOver}
use Rattle.care_opt.specs.MainSteps.{AreMainSteps}
use Rattle.care_opt.proofs.Extracted.{some_place}
use Rattle.care_opt.proofs.Numbering.{node_in, redone}

abbrev pub pin_count : Option Node → ℕ
pin_count o = length (drivers_in o)

zero_plus : (i : ℕ) → i ≡ 0 + i
zero_plus i = omega arith

numbered_sources : (f : ℕ → ℕ) (os : List (Option Node)) → sources_in (live (numbered f os)) ≡ sources_in os
numbered_sources f [] = refl
numbered_sources f (None ∷ os) = numbered_sources f os ∙ (zero_plus (sources_in os) ∙ sym (sum_by-cons (λ (o : Option Node). count_in o source_in) None os))
numbered_sources f (Some n ∷ os) =
    sum_by-cons (λ (o : Option Node). count_in o source_in) (Some (redone f n)) (live (numbered f os))
    ∙ (ap (λ (i : ℕ). source_in n.kind + i) (numbered_sources f os) ∙ sym (sum_by-cons (λ (o : Option Node). count_in o source_in) (Some n) os))

pub numbered_wires : (f : ℕ → ℕ) (os : List (Option Node)) → wires_in (live (numbered f os)) ≡ wires_in os
numbered_wires f [] = refl
numbered_wires f (None ∷ os) = numbered_wires f os ∙ (zero_plus (wires_in os) ∙ sym (sum_by-cons pin_count None os))
numbered_wires f (Some n ∷ os) =
    sum_by-cons pin_count (Some (redone f n)) (live (numbered f os))
    ∙ (ap (λ (i : ℕ). i + wires_in (live (numbered f os))) (length-map n.drivers f)
    ∙ (ap (λ (i : ℕ). length n.drivers + i) (numbered_wires f os) ∙ sym (sum_by-cons pin_count (Some n) os)))

-- lists whose nodes have as many pins, place by place, have as many wires
wires_same : (os ps : List (Option Node)) → ((k : ℕ) → pin_count (node_in os k) ≡ pin_count (node_in ps k)) → wires_in os ≡ wires_in ps
wires_same [] [] h = refl
wires_same [] (p ∷ ps) h = let here : 0 ≡ pin_count p = h 0 in let rest : 0 ≡ wires_in ps = wires_same [] ps (λ k. h (suc k)) in let all = sum_by-cons pin_count p ps in omega (arith, here, rest, all)
wires_same (o ∷ os) [] h = let here : pin_count o ≡ 0 = h 0 in let rest : wires_in os ≡ 0 = wires_same os [] (λ k. h (suc k)) in let all = sum_by-cons pin_count o os in omega (arith, here, rest, all)
wires_same (o ∷ os) (p ∷ ps) h =
    let here : pin_count o ≡ pin_count p = h 0 in
    let rest : wires_in os ≡ wires_in ps = wires_same os ps (λ k. h (suc k)) in
    let all = sum_by-cons pin_count o os in
    let other = sum_by-cons pin_count p ps in
    omega (arith, here, rest, all, other)

node_dropped : (os : List (Option Node)) (b k : ℕ) → node_in (drop b os) k ≡ node_in os (b + k)
node_dropped os zero k = ap (λ (i : ℕ). node_in os i) (zero_plus k)
node_dropped [] (suc b) k = refl
node_dropped (o ∷ os) (suc b) k = let same : suc b + k ≡ suc (b + k) = omega arith in node_dropped os b k ∙ ap (λ (i : ℕ). node_in (o ∷ os) i) (sym same)

module _ (one two : Net) (can : CanGate one two) (net : Net) (over : IsGatedOver one two net) where
  abbrev b : ℕ
  b = length one.nodes

  abbrev e : ℕ
  e = length (both one two)

  late_source : (k : ℕ) (n : Node) → node_at net (b + k) ≡ Some n → n.kind ≢ Source
  late_source k n is source =
      let kind : IsKind net (b + k) Source = (n.drivers, is ∙ ap (λ (j : Kind). let m : Node = record n { kind = j } in Some m) source) in
      let bounds = over.formed.sources.only (b + k) kind in
      let high = bounds.1 in
      let s = over.sources in
      let early = can.early in
      omega (arith, high, s, early)

  none_late : sources_in (drop b net.nodes) ≡ 0
  none_late = none_counted (drop b net.nodes) (λ k o at. by_node k o (ap (λ (p : Option (Option Node)). flatten_option p) (from_drop net.nodes b k o at)))
    where
      by_node : (k : ℕ) (o : Option Node) → node_at net (b + k) ≡ o → count_in o source_in ≡ 0
      by_node k None is = refl
      by_node k (Some n) is = kind_uncounted n.kind (late_source k n is)

  -- the extract has the net's sources
  pub extract_sources : source_count (extract b net) ≡ source_count net
  extract_sources =
      let all = sum_by-take-drop (λ (o : Option Node). count_in o source_in) net.nodes b in
      let none = none_late in
      let same = numbered_sources (new_number (main_nodes b net)) (main_nodes b net) in
      omega (arith, all, none, same)

  pub extract_wires : wire_count (extract b net) + wires_in (drop b net.nodes) ≡ wire_count net
  extract_wires =
      let all = sum_by-take-drop pin_count net.nodes b in
      let same = numbered_wires (new_number (main_nodes b net)) (main_nodes b net) in
      omega (arith, all, same)

  late_pins : (start : IsGatedOver one two (gated_net one two)) (k : ℕ) → pin_count (node_at net (b + k)) ≡ pin_count (node_at (gated_net one two) (b + k))
  late_pins start k = elim (cases_lt (b + k) e) [
    | inl before ↦ ap (λ (o : Option Node). pin_count o) (over.theirs (b + k) (omega arith) before)
    | inr after ↦ elim (cases_lt (b + k) (e + length one.observed)) [
      | inl within ↦
          let j : ℕ = (b + k) - e in
          let same : e + j ≡ b + k = omega (arith, after) in
          let s = some_place one.observed j (omega (arith, after, within)) in
          ap (λ (i : ℕ). pin_count (node_at net i)) (sym same)
          ∙ (ap (λ (o : Option Node). pin_count o) (over.gates j s.0 s.1)
          ∙ (sym (ap (λ (o : Option Node). pin_count o) (start.gates j s.0 s.1)) ∙ ap (λ (i : ℕ). pin_count (node_at (gated_net one two) i)) same))
      | inr past ↦ ap (λ (o : Option Node). pin_count o) (over.last (b + k) past) ∙ sym (ap (λ (o : Option Node). pin_count o) (start.last (b + k) past))
    ]
  ]

  -- what isn't main has as many wires as at the start
  pub late_wires : IsGatedOver one two (gated_net one two) → wires_in (drop b net.nodes) ≡ wires_in (drop b (gated_net one two).nodes)
  late_wires start = wires_same (drop b net.nodes) (drop b (gated_net one two).nodes) (λ k. ap (λ (o : Option Node). pin_count o) (node_dropped net.nodes b k) ∙ (late_pins start k ∙ sym (ap (λ (o : Option Node). pin_count o) (node_dropped (gated_net one two).nodes b k))))

take_all : {A : Type 0} (xs ys : List A) → take (length xs) (xs ++ ys) ≡ xs
take_all [] ys = refl
take_all (x ∷ xs) ys = ap (λ (l : List _). x ∷ l) (take_all xs ys)

-- the main nodes at the start are those of the first net
pub first_wires : (one two : Net) → wire_count (extract (length one.nodes) (gated_net one two)) ≡ wire_count one
first_wires one two =
    let theirs : List (Option Node) = map (node_moved (first_gate one) (length one.nodes)) (drop (first_gate one) two.nodes) in
    let tail : List (Option Node) = live (gates_by (care_node one two) one.observed) in
    numbered_wires (new_number (main_nodes (length one.nodes) (gated_net one two))) (main_nodes (length one.nodes) (gated_net one two))
    ∙ ap (λ (os : List (Option Node)). wires_in os) (ap (λ (os : List (Option Node)). take (length one.nodes) os) (append_assoc one.nodes theirs tail) ∙ take_all one.nodes (theirs ++ tail))

-- main steps make no wires
pub run_wires : StepsKeepForm → WiresGrow → (bound : ℕ) (records : List Record) (net after : Net) → IsWellFormed net → AcceptedTo net records after → AreMainSteps bound (steps_of records) → wire_count after ≤ wire_count net
run_wires form grow bound [] net after formed accepted main = let same = ap (λ (n : Net). wire_count n) accepted in omega (arith, same)
run_wires form grow bound (kept.Step step tree ∷ records) net after formed accepted main =
    let rest = run_wires form grow bound records (stepped net step) after (form net step formed accepted.0.applies) accepted.1 main.1 in
    let one = grow net step formed accepted.0.applies in
    let none = removal_pins step main.0.1 in
    omega (arith, rest, one, none)
run_wires form grow bound (kept.Hit fault vector ∷ records) net after formed accepted main = absurd accepted
run_wires form grow bound (kept.Spent fault tree ∷ records) net after formed accepted main = absurd accepted
