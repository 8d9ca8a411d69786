-- What is known of the pins of a gate, and what steps leave of it.
use Rattle.std.proofs.Common.{◌≡◌, ℕ, zero, suc, ◌+◌, ◌-◌, ◌<◌, ◌≤◌, Bool, true, false, ◌⊎◌, inl, inr, Option, Some, None, List, [], ◌∷◌, ◌++◌, length, map, take, drop, refl, sym, ◌∙◌, ap, subst, arith}
use Rattle.std.specs.Prelude.{slice_get, sum_by, option_and_then, unwrap_or}
use Rattle.std.proofs.lemmas.Bool.{cases_lt, cases_eq, and_parts}
use Rattle.std.proofs.lemmas.List.{length-drop}
use Rattle.std.proofs.lemmas.List.Sums.{sum_by-cons}
use Rattle.std.proofs.lemmas.Option.{slice_get_past}
use Rattle.rm_base.specs.declared.numbers.NodeId.{NodeId}
use Rattle.gate_net.specs.Net.{Node, Net, flatten_option, drivers_in, drivers_of, wire_count, IsGate}
use Rattle.gate_net.specs.Edits.{without, without_pin}
use Rattle.gate_net.specs.declared.Family.{Family}
use Rattle.wire_edit.specs.declared.steps.Step.{Step}
use Rattle.wire_edit.specs.declared.steps.Step.TheVariants.{Add, Fix, NewNot, Const, Same, NoPins, OnePin, Twice, Twin, Dead}
use Rattle.wire_edit.specs.declared.kept.Kept.{Kept}
use Rattle.wire_edit.specs.Tests.{is_present, is_gate, is_xor, reads_several, is_in_use, is_among, is_some_among, is_repeated, family_of, constant_of, constant_at}
use Rattle.wire_edit.specs.Changes.{Change, remove, changed}
use Rattle.wire_edit.specs.Steps.{rule_applies, Applies, constant_change, same_change, other_driver, change_of, stepped}
use Rattle.wire_edit.specs.Order.{node, rule_at, next_step}
use Rattle.wire_edit.specs.Inner.Marked.{IsBlank}
use Rattle.wire_edit.specs.Inner.Edited.{TakesOut}
use Rattle.wire_edit.specs.Inner.Firsts.{IsFirst, reads_constant, ReadsNoConstant, IsPlainAfter}
use Rattle.wire_edit.specs.Inner.Known.{MarksFirst, IsPlainBefore, IsKept, IsFresh}
use Rattle.wire_edit.proofs.Tested.{gate_is, several_gate}
use Rattle.wire_edit.proofs.ConstantCases.{constant_cases, same_cases}
use Rattle.wire_edit.proofs.Walks.{next_place, pushed, walked}
use Rattle.wire_edit.proofs.Ordering.{IsRuleAt, some_rule, next_at, next_applies, gate_of_step, const_within}
use Rattle.wire_edit.proofs.RuleAt.{constant_rule}
use Rattle.wire_edit.proofs.NoConstants.{plain_all, plain_removed, drivers_after, constant_after}

-- WALKS FROM A POSITION ON
get_drop : (ds : List ℕ) (from j : ℕ) → slice_get ds (from + j) ≡ slice_get (drop from ds) j
get_drop ds zero j = let none : 0 + j ≡ j = omega arith in ap (slice_get ds) none
get_drop [] (suc from) j = refl
get_drop (d ∷ ds) (suc from) j = let one : suc from + j ≡ suc (from + j) = omega arith in ap (slice_get (d ∷ ds)) one ∙ get_drop ds from j

pub rest_place : (ds : List ℕ) (from position : ℕ) (ys : List NodeId) (it rest : List ℕ) (d : ℕ) → drop from ds ≡ map (λ n. n.0) ys ++ it → position ≡ from + length ys → it ≡ d ∷ rest → slice_get ds position ≡ Some d
rest_place ds from position ys it rest d all count e =
    ap (slice_get ds) count ∙ get_drop ds from (length ys) ∙ next_place (λ (n : NodeId). n.0) (drop from ds) ys it rest d all e

pub rest_end : (ds : List ℕ) (from position : ℕ) (ys : List NodeId) (it : List ℕ) → drop from ds ≡ map (λ n. n.0) ys ++ it → position ≡ from + length ys → it ≡ [] → length ds ≤ position
rest_end ds from position ys it all count e =
    let total : length (drop from ds) ≡ length ys + length it = walked (λ (n : NodeId). n.0) (drop from ds) ys it all in
    let less : length (drop from ds) ≡ length ds - from = length-drop from ds in
    let none : length it ≡ 0 = ap length e in omega (arith, total, less, none, count)

pub one_further : (ys : List NodeId) (x : NodeId) (from n : ℕ) → n ≡ from + length ys → n + 1 ≡ from + length (ys ++ x ∷ [])
one_further ys x from n e = let one : length ys + 1 ≡ length (ys ++ x ∷ []) = pushed ys x (length ys) refl in omega (arith, e, one)

few_in : (os : List (Option Node)) (x : ℕ) → length (drivers_in (flatten_option (slice_get os x))) ≤ sum_by (λ (o : Option Node). length (drivers_in o)) os
few_in [] x = let none : length (drivers_in (flatten_option (slice_get {X = Option Node} [] x))) ≡ 0 = refl in omega (arith, none)
few_in (o ∷ os) zero =
    let first : length (drivers_in (flatten_option (slice_get (o ∷ os) 0))) ≡ length (drivers_in o) = refl in
    let all : sum_by (λ (o : Option Node). length (drivers_in o)) (o ∷ os) ≡ length (drivers_in o) + sum_by (λ (o : Option Node). length (drivers_in o)) os = sum_by-cons (λ (o : Option Node). length (drivers_in o)) o os in
    omega (arith, first, all)
few_in (o ∷ os) (suc x) =
    let rest : length (drivers_in (flatten_option (slice_get os x))) ≤ sum_by (λ (o : Option Node). length (drivers_in o)) os = few_in os x in
    let later : length (drivers_in (flatten_option (slice_get (o ∷ os) (suc x)))) ≡ length (drivers_in (flatten_option (slice_get os x))) = refl in
    let all : sum_by (λ (o : Option Node). length (drivers_in o)) (o ∷ os) ≡ length (drivers_in o) + sum_by (λ (o : Option Node). length (drivers_in o)) os = sum_by-cons (λ (o : Option Node). length (drivers_in o)) o os in
    omega (arith, rest, later, all)

pub few_drivers : (net : Net) (x : ℕ) → length (drivers_of net x) ≤ wire_count net
few_drivers net x = few_in net.nodes x

-- WHAT A SEARCH TELLS
pub plain_found : (net : Net) (gate : ℕ) (found : Option ℕ) → IsFirst (reads_constant net gate) (length (drivers_of net gate)) found → IsPlainBefore net gate found
plain_found net gate None first = plain_all net gate first
plain_found net gate (Some p) first = first.1.1

past_repeated : (ds : List ℕ) (k : ℕ) → length ds ≤ k → is_repeated ds k ≡ false
past_repeated ds k le = ap (λ o. is_some_among o (take k ds)) (slice_get_past ds k le)

pub apart_found : (ds : List ℕ) (found : Option ℕ) → IsFirst (is_repeated ds) (length ds) found → (k : ℕ) → k < unwrap_or found 4294967295 → is_repeated ds k ≡ false
apart_found ds (Some p) first k lt = first.1.1 k lt
apart_found ds None first k lt = elim (cases_lt k (length ds)) [ inl within ↦ first k within | inr past ↦ past_repeated ds k past ]

-- NOTHING KNOWN
none_among : (ds : List ℕ) (x : ℕ) → is_among x (take 0 ds) ≡ false
none_among [] x = refl
none_among (d ∷ ds) x = refl

pub blank_first : (ds : List ℕ) (n : ℕ) (marks : List Bool) → n ≡ 0 → IsBlank marks → MarksFirst ds n marks
blank_first ds n marks e blank x = blank x ∙ sym (ap (λ k. is_among x (take k ds)) e ∙ none_among ds x)

pub fresh_kept : (net : Net) (kept : Kept) → IsFresh kept → IsKept net kept
fresh_kept net kept f = record {
  plain = subst (IsPlainBefore net kept.gate.0) (sym f.plain) (λ k lt. absurd (omega (arith, lt)));
  apart = λ k lt. absurd (omega (arith, lt, f.apart));
  marks = blank_first (drivers_of net kept.gate.0) kept.apart kept.marks.items f.apart f.blank;
}

-- with no driver marked the gate may be another
pub other_first : (ds es : List ℕ) (n : ℕ) (marks : List Bool) → n ≡ 0 → MarksFirst ds n marks → MarksFirst es n marks
other_first ds es n marks e m x = m x ∙ ap (λ k. is_among x (take k ds)) e ∙ none_among ds x ∙ sym (ap (λ k. is_among x (take k es)) e ∙ none_among es x)

-- A PIN TAKEN OUT
take_without : (ds : List ℕ) (n p : ℕ) → n ≤ p → take n (without ds p) ≡ take n ds
take_without [] n p le = refl
take_without (d ∷ ds) zero zero le = at ds
  where
    at : (ds : List ℕ) → take 0 ds ≡ []
    at [] = refl
    at (x ∷ xs) = refl
take_without (d ∷ ds) zero (suc p) le = refl
take_without (d ∷ ds) (suc n) zero le = absurd (omega (arith, le))
take_without (d ∷ ds) (suc n) (suc p) le = ap (λ (xs : List ℕ). d ∷ xs) (take_without ds n p (omega (arith, le)))

get_without : (ds : List ℕ) (k p : ℕ) → k < p → slice_get (without ds p) k ≡ slice_get ds k
get_without [] k p lt = refl
get_without (d ∷ ds) k zero lt = absurd (omega (arith, lt))
get_without (d ∷ ds) zero (suc p) lt = refl
get_without (d ∷ ds) (suc k) (suc p) lt = get_without ds k p (omega (arith, lt))

repeated_without : (ds : List ℕ) (k p : ℕ) → k < p → is_repeated (without ds p) k ≡ is_repeated ds k
repeated_without ds k p lt =
    ap (λ o. is_some_among o (take k (without ds p))) (get_without ds k p lt)
    ∙ ap (is_some_among (slice_get ds k)) (take_without ds k p (omega (arith, lt)))

-- a `Same` leaves the pins before its own as they are
pub same_left : (net : Net) (gate : NodeId) (position : ℕ) → is_xor net gate.0 ≡ false → Applies net (Same gate position) → (drivers_of (stepped net (Same gate position)) gate.0 ≡ without (drivers_of net gate.0) position)
same_left net gate position kind a =
    let j : (reads_several net gate.0 ≡ true) × _ = and_parts (reads_several net gate.0) _ a in
    ap (λ b. drivers_of (changed net (same_change gate.0 position b)) gate.0) kind ∙ drivers_after net gate.0 position (gate_is net gate.0 (several_gate net gate.0 j.0))

pub same_apart : (net : Net) (gate : NodeId) (position n : ℕ) → is_xor net gate.0 ≡ false → Applies net (Same gate position) → n ≤ position → ((k : ℕ) → k < n → is_repeated (drivers_of net gate.0) k ≡ false) → (k : ℕ) → k < n → is_repeated (drivers_of (stepped net (Same gate position)) gate.0) k ≡ false
same_apart net gate position n kind a le apart k lt =
    ap (λ (ds : List ℕ). is_repeated ds k) (same_left net gate position kind a) ∙ repeated_without (drivers_of net gate.0) k position (omega (arith, lt, le)) ∙ apart k lt

pub same_marks : (net : Net) (gate : NodeId) (position n : ℕ) (marks : List Bool) → is_xor net gate.0 ≡ false → Applies net (Same gate position) → n ≤ position → MarksFirst (drivers_of net gate.0) n marks → MarksFirst (drivers_of (stepped net (Same gate position)) gate.0) n marks
same_marks net gate position n marks kind a le m x =
    m x ∙ sym (ap (is_among x) (ap (take n) (same_left net gate position kind a) ∙ take_without (drivers_of net gate.0) n position le))

pub same_kept : (net : Net) (kept : Kept) (step : Step) (gate : NodeId) (position : ℕ) → step ≡ Same gate position → gate ≡ kept.gate → kept.apart ≤ position → is_xor net gate.0 ≡ false → Applies net step → IsKept net kept → IsKept (stepped net step) (record { gate = kept.gate; plain = Some 0; apart = kept.apart; marks = kept.marks })
same_kept net kept step gate position is own le kind a k =
    subst P (sym same) at a
  where
    same : step ≡ Same kept.gate position
    same = is ∙ ap (λ (g : NodeId). Same g position) own

    here : is_xor net kept.gate.0 ≡ false
    here = ap (λ (g : NodeId). is_xor net g.0) (sym own) ∙ kind

    P : Step → Type 0
    P s = Applies net s → IsKept (stepped net s) (record { gate = kept.gate; plain = Some 0; apart = kept.apart; marks = kept.marks })

    at : P (Same kept.gate position)
    at b = record {
      plain = λ j lt. absurd (omega (arith, lt));
      apart = same_apart net kept.gate position kept.apart here b le k.apart;
      marks = same_marks net kept.gate position kept.apart kept.marks.items here b le k.marks;
    }

-- the next rule of a gate
next_own : (net : Net) (step : Step) (gate : ℕ) → next_step net ≡ Some step → gate_of_step step ≡ Some gate → rule_at net gate ≡ Some step
next_own net step gate e own =
    let k : (g : ℕ) × ((g < length net.nodes) × ((rule_at net g ≡ Some step) × _)) = next_at net step e in
    let r : IsRuleAt net k.0 step = some_rule net k.0 step k.1.1.0 in
    let same : k.0 ≡ gate = one_number (sym r.own ∙ own) in
    ap (rule_at net) (sym same) ∙ k.1.1.0
  where
    one_number : {x y : ℕ} → Some x ≡ Some y → x ≡ y
    one_number e = cc

-- none of the first numbers passes a test, or there is a least that does
scan : (test : ℕ → Bool) (n : ℕ) → ((k : ℕ) → k < n → test k ≡ false) ⊎ ((q : ℕ) × ((q < n) × ((test q ≡ true) × ((j : ℕ) → j < q → test j ≡ false))))
scan test zero = inl (λ k lt. absurd (omega (arith, lt)))
scan test (suc n) = elim (scan test n) [
  | inl none ↦ at none (test n) refl
  | inr found ↦ inr (found.0, (omega (arith, found.1.0), found.1.1))
]
  where
    at : ((k : ℕ) → k < n → test k ≡ false) → (b : Bool) → test n ≡ b → ((k : ℕ) → k < suc n → test k ≡ false) ⊎ ((q : ℕ) × ((q < suc n) × ((test q ≡ true) × ((j : ℕ) → j < q → test j ≡ false))))
    at none true e = inr (n, (omega arith, (e, none)))
    at none false e = inl (λ k lt. elim (cases_eq k n) [ inl is ↦ ap test is ∙ e | inr ne ↦ none k (omega (arith, lt, ne)) ])

abbrev place_of : Step → Option ℕ
place_of (Const gate position) = Some position
place_of _ = None

-- the gate of a `Const` of the order reads no constant before its position
pub const_first : (net : Net) (from : NodeId) (p : ℕ) → next_step net ≡ Some (Const from p) → (k : ℕ) → k < p → reads_constant net from.0 k ≡ false
const_first net from p e k lt =
    let a : rule_applies net (Const from p) ≡ true = (next_applies net (Const from p) e).1 in
    let g : (is_gate net from.0 ≡ true) × _ = and_parts (is_gate net from.0) _ a in
    let u : (is_in_use net from.0 ≡ true) × _ = and_parts (is_in_use net from.0) _ g.1 in
    let here : rule_at net from.0 ≡ Some (Const from p) = next_own net (Const from p) from.0 e refl in
    let within : p < length (drivers_of net from.0) = const_within net from.0 p a in
    elim (scan (reads_constant net from.0) p) [
      | inl none ↦ none k lt
      | inr q ↦
          let first : rule_at net from.0 ≡ Some (Const (node from.0) q.0) = constant_rule net from.0 u.0 g.0 q.0 (omega (arith, q.1.0, within), q.1.1) in
          let same : q.0 ≡ p = one_place (sym first ∙ here) in
          absurd (omega (arith, same, q.1.0))
    ]
  where
    one_place : {g h : NodeId} {x y : ℕ} → Some (Const g x) ≡ Some (Const h y) → x ≡ y
    one_place {g} {h} {x} {y} e = some_same (ap (option_and_then place_of) e)
      where
        some_same : Some x ≡ Some y → x ≡ y
        some_same e = cc

-- a change by a constant that takes a pin out is that of its position
takes_out : (gate p other : ℕ) (f : Family) (constant : Option Bool) → TakesOut (constant_change gate p other f constant) → constant_change gate p other f constant ≡ remove gate p
takes_out gate p other f constant =
    constant_cases (λ change. TakesOut change → change ≡ remove gate p) gate p other f constant (λ t. refl) (λ t. absurd t) (λ to t. absurd t)

same_takes_out : (gate p : ℕ) (b : Bool) → TakesOut (same_change gate p b) → same_change gate p b ≡ remove gate p
same_takes_out gate p b = same_cases (λ change. TakesOut change → change ≡ remove gate p) gate p b (λ t. refl) (λ t. absurd t)

const_after : (net : Net) (gate p k : ℕ) → IsGate net gate → k < p → reads_constant net gate k ≡ false → reads_constant (without_pin net gate p) gate k ≡ false
const_after net gate p k g lt none =
    ap (λ (ds : List ℕ). is_present (option_and_then (constant_of (without_pin net gate p)) (slice_get ds k))) (drivers_after net gate p g)
    ∙ ap (λ (o : Option ℕ). is_present (option_and_then (constant_of (without_pin net gate p)) o)) (get_without (drivers_of net gate) k p lt)
    ∙ constant_after net gate p g (slice_get (drivers_of net gate) k)
    ∙ none

-- the gate of a `Same` of the order reads no constant
same_plain : (net : Net) (from : NodeId) (p : ℕ) → next_step net ≡ Some (Same from p) → ReadsNoConstant net from.0
same_plain net from p e =
    let j : (reads_several net from.0 ≡ true) × _ = and_parts (reads_several net from.0) _ (next_applies net (Same from p) e).1 in
    let u : (is_in_use net from.0 ≡ true) × _ = and_parts (is_in_use net from.0) _ j.1 in
    let here : rule_at net from.0 ≡ Some (Same from p) = next_own net (Same from p) from.0 e refl in
    elim (scan (reads_constant net from.0) (length (drivers_of net from.0))) [
      | inl none ↦ plain_all net from.0 none
      | inr q ↦
          let first : rule_at net from.0 ≡ Some (Const (node from.0) q.0) = constant_rule net from.0 u.0 (several_gate net from.0 j.0) q.0 (q.1.0, q.1.1) in
          absurd (apart (sym first ∙ here))
    ]
  where
    apart : {g h : NodeId} {x y : ℕ} → Some (Const g x) ≡ Some (Same h y) → ⊥
    apart {g} {h} {x} {y} e = none_some (ap (option_and_then place_of) e)
      where
        none_some : ◌≡◌ {A = Option ℕ} (Some x) None → ⊥
        none_some e = cc

-- what the gate of a pin that was taken out reads of constants
pub plain_after : (net : Net) (step : Step) → next_step net ≡ Some step → TakesOut (change_of net step) → IsPlainAfter (stepped net step) step
plain_after net (Same gate position) e t =
    let a : (reads_several net gate.0 ≡ true) × _ = and_parts (reads_several net gate.0) _ (next_applies net (Same gate position) e).1 in
    subst (λ (change : Change). ReadsNoConstant (changed net change) gate.0) (sym (same_takes_out gate.0 position (is_xor net gate.0) t))
    (plain_removed net gate.0 position (gate_is net gate.0 (several_gate net gate.0 a.0)) (same_plain net gate position e))
plain_after net (Const gate position) e t = λ k lt.
    let a : (is_gate net gate.0 ≡ true) × _ = and_parts (is_gate net gate.0) _ (next_applies net (Const gate position) e).1 in
    ap (λ (change : Change). reads_constant (changed net change) gate.0 k) (takes_out gate.0 position (other_driver net gate.0 position) (family_of net gate.0) (constant_at net gate.0 position) t)
    ∙ const_after net gate.0 position k (gate_is net gate.0 a.0) lt (const_first net gate position e k lt)
plain_after net (Add gate node) e t = tt
plain_after net (Fix gate position value) e t = tt
plain_after net (NewNot node) e t = tt
plain_after net (NoPins gate) e t = tt
plain_after net (OnePin gate) e t = tt
plain_after net (Twice gate) e t = tt
plain_after net (Twin gate other) e t = tt
plain_after net (Dead gate) e t = tt
