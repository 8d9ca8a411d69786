-- What kept vectors tell of a candidate: with its wire in the net one of them detects the fault of the wire's pin, which then
-- has a set of facts closed at every depth.
use Rattle.std.proofs.Common.{◌≡◌, ◌≢◌, ◌≤◌, ◌++◌, length, arith, ℕ, zero, suc, ◌<◌, ◌^◌, ◌⊎◌, inl, inr, Bool, true, false, not, IsTrue, Option, Some, None, List, [], ◌∷◌, replicate, refl, sym, ◌∙◌, ap, subst, w64, Result, Ok, Err}
use Rattle.std.specs.Int.{trailing_zeros}
use Rattle.std.specs.Prelude.{IfSome, OnOk, bit_and, slice_get, slice_index, slice_set, if◌then◌else◌}
use Rattle.rm_base.specs.declared.numbers.NodeId.{NodeId}
use Rattle.gate_net.specs.Net.{Net, drivers_of, IsWellFormed}
use Rattle.gate_net.specs.Values.{Detects, HasPin}
use Rattle.gate_net.specs.Edits.{last_pin}
use Rattle.gate_net.specs.Laws.{OutsideIsEqual}
use Rattle.refutation.specs.Detected.{DetectedHaveOpenSets}
use Rattle.std.proofs.lemmas.Bool.{and_parts, cases_eq}
use Rattle.std.proofs.lemmas.Option.{slice_get_within}
use Rattle.fault_sim.specs.BlockStates.{AreSimulated, BlockState}
use Rattle.fault_sim.specs.LaneStates.{Fits, IsSimulated, LaneState}
use Rattle.fault_sim.proofs.Public.{first_lane, lane_and, lane_not, lane_zero}
use Rattle.fault_sim.specs.Observing.{AreObservabilities}
use Rattle.fault_sim.specs.Words.{assignment, lane, lane_values}
use Rattle.wire_edit.proofs.Public.{is_live_there}
use Rattle.wire_edit.specs.declared.steps.Step.TheVariants.{Add, NewNot}
use Rattle.wire_edit.specs.Laws.{StepsKeepForm}
use Rattle.wire_edit.specs.Order.{node}
use Rattle.wire_edit.specs.Steps.{stepped}
use Rattle.wire_edit.specs.Tests.{control_of}
use Rattle.candidate_wires.specs.declared.candidate.Candidate.{Candidate}
use Rattle.candidate_wires.specs.Gains.{net_for, wire_for, with_candidate}
use Rattle.rar_loop.specs.declared.vectors.Vectors.{Vectors}
use Rattle.rar_loop.specs.declared.seeking.Seeker.{Seeker}
use Rattle.rar_loop.specs.Inner.Kept.{AreAsked, AreFor, HasKept, IsTurned, Seeks, lanes_with, wanted}
use Rattle.rar_loop.specs.Rows.{stuck}
use Rattle.rar_loop.specs.Inner.Trying.{IsNewPinOpen, MayAdd}
use Rattle.rar_loop.proofs.Adding.{add_applies, control_is, new_pin_reads, node_of}
use Rattle.rar_loop.proofs.WireFaults.{wire_detected}
use Rattle.rm_base.proofs.Public.{false_from_not}
use Rattle.rm_base.specs.Numbers.{numbers_of}

-- LANES
-- a word that isn't 0 has a lane
pub some_lane : (n : ℕ) → 0 < n → n < 2 ^ 64 → (i : ℕ) × ((i < 64) × IsTrue (lane i n))
some_lane n some fits = let first = first_lane n some fits in (trailing_zeros w64 n, (first.0, first.1.0))

pub zero_has_none : (i word : ℕ) → word ≡ 0 → IsTrue (lane i word) → ⊥
zero_has_none i word e t = let never : lane i word ≡ false = ap (lane i) e ∙ lane_zero i in absurd (cc)

lane_with : (i : ℕ) → i < 64 → (value : Bool) (word : ℕ) → IsTrue (lane i (lanes_with value word)) → lane i word ≡ value
lane_with i h true word t = t
lane_with i h false word t = false_from_not (lane i word) (sym (lane_not i word h) ∙ t)

-- WHAT IS KEPT OF A GATE
pub pin_of : (net : Net) (gate d : NodeId) (value : Bool) → Some d.0 ≡ slice_get (drivers_of net gate.0) 0 → HasPin net (stuck gate.0 0 value)
pin_of net gate d value is = (d.0, sym is)

pub none_kept : (n gate word : ℕ) → slice_get {X = Option ℕ} (replicate n None) gate ≡ Some (Some word) → ⊥
none_kept zero gate word e = cc
none_kept (suc n) zero word e = cc
none_kept (suc n) (suc gate) word e = none_kept n gate word e

set_either : (xs : List (Option ℕ)) (p g : ℕ) (v w : Option ℕ) → slice_get (slice_set xs p v) g ≡ Some w → ((g ≡ p) × (v ≡ w)) ⊎ (slice_get xs g ≡ Some w)
set_either [] p g v w e = inr e
set_either (x ∷ xs) zero zero v w e = let same : v ≡ w = cc in inl (refl, same)
set_either (x ∷ xs) zero (suc g) v w e = inr e
set_either (x ∷ xs) (suc p) zero v w e = inr e
set_either (x ∷ xs) (suc p) (suc g) v w e = elim (set_either xs p g v w e) [ inl t ↦ inl (ap suc t.0, t.1) | inr t ↦ inr t ]

abbrev AreTurned : Net → List ℕ → List (Option ℕ) → Type 0
AreTurned net words turned = (gate word : ℕ) → slice_get turned gate ≡ Some (Some word) → (i : ℕ) → i < 64 → IsTrue (lane i word) → IsTurned net gate (assignment words i)

pub set_kept : (turned : List (Option ℕ)) (gate word : ℕ) → HasKept turned (slice_set turned gate (Some word)) gate word
set_kept turned gate word g w e = elim (set_either turned gate g (Some word) (Some w) e) [
  | inl s ↦ let some : Some word ≡ Some w = s.1 in let is : word ≡ w = cc in inl (s.0, is)
  | inr s ↦ inr s
]

-- one more gate's word
kept_more : (net : Net) (words : List ℕ) (old new : List (Option ℕ)) (gate word : ℕ) → AreTurned net words old → ((i : ℕ) → i < 64 → IsTrue (lane i word) → IsTurned net gate (assignment words i)) → HasKept old new gate word → AreTurned net words new
kept_more net words old new gate word turned here kept g w e i h t = elim (kept g w e) [
  | inl s ↦ subst (λ (k : ℕ). IsTurned net k (assignment words i)) (sym s.0) (here i h (subst (λ (n : ℕ). IsTrue (lane i n)) (sym s.1) t))
  | inr s ↦ turned g w s i h t
]

pub for_more : (net : Net) (v w : Vectors) (gate word : ℕ) → AreFor v net → w.lanes ≡ v.lanes → AreObservabilities w.notes net v.lanes.words → w.found ≡ v.found → w.seeker ≡ v.seeker → AreAsked w.turned.items w.asked.items → ((i : ℕ) → i < 64 → IsTrue (lane i word) → IsTurned net gate (assignment v.lanes.words i)) → HasKept v.turned.items w.turned.items gate word → AreFor w net
for_more net v w gate word for same noted found seeker listed here kept = record {
  fits = subst (λ (s : LaneState). Fits s net) (sym same) for.fits;
  simulated = subst (λ (s : LaneState). IsSimulated s net) (sym same) for.simulated;
  noted = subst (λ (s : LaneState). AreObservabilities w.notes net s.words) (sym same) noted;
  turned = subst (λ (s : LaneState). AreTurned net s.words w.turned.items) (sym same) (kept_more net v.lanes.words v.turned.items w.turned.items gate word for.turned here kept);
  listed = listed;
  found = subst (λ (s : BlockState). AreSimulated s net) (sym found) for.found;
  seeks = subst (λ (s : Option Seeker). IfSome s (Seeks net)) (sym seeker) for.seeks;
}

-- whatever is noted and hinted at of the same vectors
pub for_noted : (net : Net) (v w : Vectors) → AreFor v net → w.lanes ≡ v.lanes → AreObservabilities w.notes net v.lanes.words → w.found ≡ v.found → w.turned ≡ v.turned → w.asked ≡ v.asked → w.seeker ≡ v.seeker → AreFor w net
for_noted net v w for same noted found turned asked seeker =
    let was : AreTurned net w.lanes.words v.turned.items = subst (λ (s : LaneState). AreTurned net s.words v.turned.items) (sym same) for.turned in
    record {
      fits = subst (λ (s : LaneState). Fits s net) (sym same) for.fits;
      simulated = subst (λ (s : LaneState). IsSimulated s net) (sym same) for.simulated;
      noted = subst (λ (s : LaneState). AreObservabilities w.notes net s.words) (sym same) noted;
      turned = rw turned was;
      listed = rw (turned, asked) for.listed;
      found = subst (λ (s : BlockState). AreSimulated s net) (sym found) for.found;
      seeks = subst (λ (s : Option Seeker). IfSome s (Seeks net)) (sym seeker) for.seeks;
    }

pub on_ok : {A E : Type 0} (r : Result A E) (P Q : Type 0) → (P → Q) → OnOk r P → OnOk r Q
on_ok (Ok a) P Q f p = f p
on_ok (Err e) P Q f p = tt

-- WHAT IS FORGOTTEN
asked_before : (ns : List NodeId) (n : NodeId) (y k : ℕ) → slice_get (numbers_of (ns ++ n ∷ [])) k ≡ Some y → y ≢ n.0 → (j : ℕ) × (slice_get (numbers_of ns) j ≡ Some y)
asked_before [] n y zero f ne = let same : n.0 ≡ y = cc in absurd (ne (sym same))
asked_before [] n y (suc k) f ne = cc
asked_before (m ∷ ns) n y zero f ne = (0, f)
asked_before (m ∷ ns) n y (suc k) f ne = let r : (j : ℕ) × (slice_get (numbers_of ns) j ≡ Some y) = asked_before ns n y k f ne in (suc r.0, r.1)

-- a gate that was listed last is forgotten, and one that is still kept is listed before it
pub asked_less : (turned : List (Option ℕ)) (asked rest : List NodeId) (gate : NodeId) → asked ≡ rest ++ gate ∷ [] → AreAsked turned asked → AreAsked (slice_set turned gate.0 None) rest
asked_less turned asked rest gate is listed g w e = elim (set_either turned gate.0 g None (Some w) e) [
  | inl s ↦ let none : ◌≡◌ {A = Option ℕ} None (Some w) = s.1 in cc
  | inr old ↦
      let at : (k : ℕ) × (slice_get (numbers_of asked) k ≡ Some g) = listed g w old in
      let here : slice_get (numbers_of (rest ++ gate ∷ [])) at.0 ≡ Some g = subst (λ (ns : List NodeId). slice_get (numbers_of ns) at.0 ≡ Some g) is at.1 in
      elim (cases_eq g gate.0) [
        | inl same ↦ absurd (gone turned gate.0 g w same e)
        | inr ne ↦ asked_before rest gate g at.0 here ne
      ]
]
  where
    gone : (xs : List (Option ℕ)) (p q v : ℕ) → q ≡ p → slice_get (slice_set xs p None) q ≡ Some (Some v) → ⊥
    gone [] p q v same f = cc
    gone (x ∷ xs) zero zero v same f = cc
    gone (x ∷ xs) zero (suc q) v same f = cc
    gone (x ∷ xs) (suc p) zero v same f = cc
    gone (x ∷ xs) (suc p) (suc q) v same f = gone xs p q v (omega (arith, same)) f

pub asked_past : (turned : List (Option ℕ)) (asked rest : List NodeId) (gate : NodeId) → asked ≡ rest ++ gate ∷ [] → length turned ≤ gate.0 → AreAsked turned asked → AreAsked turned rest
asked_past turned asked rest gate is past listed g w e =
    let lt : g < length turned = slice_get_within turned g (Some w) e in
    let at : (k : ℕ) × (slice_get (numbers_of asked) k ≡ Some g) = listed g w e in
    let here : slice_get (numbers_of (rest ++ gate ∷ [])) at.0 ≡ Some g = subst (λ (ns : List NodeId). slice_get (numbers_of ns) at.0 ≡ Some g) is at.1 in
    asked_before rest gate g at.0 here (λ same. omega (arith, lt, past, same))

pub asked_none : (turned : List (Option ℕ)) (asked : List NodeId) → asked ≡ [] → AreAsked turned asked → (gate word : ℕ) → slice_get turned gate ≡ Some (Some word) → ⊥
asked_none turned asked none listed gate word e =
    let at : (k : ℕ) × (slice_get (numbers_of asked) k ≡ Some gate) = listed gate word e in
    let no : slice_get {X = ℕ} [] at.0 ≡ Some gate = subst (λ (ns : List NodeId). slice_get (numbers_of ns) at.0 ≡ Some gate) none at.1 in cc

-- a gate's word that is kept is listed
pub asked_more : (turned : List (Option ℕ)) (asked more : List NodeId) (gate : NodeId) (word : ℕ) → more ≡ asked ++ gate ∷ [] → AreAsked turned asked → AreAsked (slice_set turned gate.0 (Some word)) more
asked_more turned asked more gate word is listed g w e = elim (set_either turned gate.0 g (Some word) (Some w) e) [
  | inl s ↦ (length asked, subst (λ (ns : List NodeId). slice_get (numbers_of ns) (length asked) ≡ Some g) (sym is) (last asked ∙ ap Some (sym s.0)))
  | inr old ↦ let at : (k : ℕ) × (slice_get (numbers_of asked) k ≡ Some g) = listed g w old in (at.0, subst (λ (ns : List NodeId). slice_get (numbers_of ns) at.0 ≡ Some g) (sym is) (front asked at.0 g at.1))
]
  where
    last : (ns : List NodeId) → slice_get (numbers_of (ns ++ gate ∷ [])) (length ns) ≡ Some gate.0
    last [] = refl
    last (n ∷ ns) = last ns

    front : (ns : List NodeId) (k y : ℕ) → slice_get (numbers_of ns) k ≡ Some y → slice_get (numbers_of (ns ++ gate ∷ [])) k ≡ Some y
    front [] k y f = cc
    front (n ∷ ns) zero y f = f
    front (n ∷ ns) (suc k) y f = front ns k y f

-- more places of which nothing is kept
pub lengthened : (old : List (Option ℕ)) (n gate word : ℕ) → slice_get (old ++ replicate n None) gate ≡ Some (Some word) → slice_get old gate ≡ Some (Some word)
lengthened [] n gate word e = absurd (none_kept n gate word e)
lengthened (x ∷ old) n zero word e = e
lengthened (x ∷ old) n (suc gate) word e = lengthened old n gate word e

-- A CANDIDATE
formed_with : StepsKeepForm → (net : Net) (c : Candidate) → IsWellFormed net → MayAdd net c → IsWellFormed (with_candidate net c)
formed_with law net c well may = law (net_for net c) (Add c.gate (node (wire_for net c))) (formed_for c.fresh) (add_applies net c well may)
  where
    formed_for : (fresh : Bool) → IsWellFormed (if fresh then stepped net (NewNot c.node) else net)
    formed_for true = law net (NewNot c.node) well (is_live_there net c.node.0 (node_of net c may))
    formed_for false = well

pub wire_open :
    DetectedHaveOpenSets → OutsideIsEqual → StepsKeepForm → (net : Net) (c : Candidate) → MayAdd net c → IsWellFormed net → (v : Vectors) → AreFor v net → (control : Bool) → control_of net c.gate.0 ≡ Some control
    → (turned : ℕ) → ((i : ℕ) → i < 64 → IsTrue (lane i turned) → IsTurned net c.gate.0 (assignment v.lanes.words i)) → (word : ℕ) → word ≡ slice_index v.lanes.good c.node.0
    → (i : ℕ) → i < 64 → IsTrue (lane i (bit_and turned (lanes_with (wanted c.fresh control) word))) → (depth : ℕ) → IsNewPinOpen net c depth
wire_open sets outside form net c may well v for control is turned all word value i h t depth =
    (may.1.control, (control_is net c may, sets (with_candidate net c) (last_pin net c.gate.0 (not may.1.control)) (formed_with form net c well may).acyclic (wire_for net c, new_pin_reads net c may) a detected depth))
  where
    a : ℕ → Bool
    a = assignment v.lanes.words i

    pair : IsTrue (lane i turned) × IsTrue (lane i (lanes_with (wanted c.fresh control) word))
    pair = and_parts (lane i turned) (lane i (lanes_with (wanted c.fresh control) word)) (sym (lane_and i turned (lanes_with (wanted c.fresh control) word)) ∙ t)

    turn : IsTurned net c.gate.0 a
    turn = all i h pair.0

    is_control : may.1.control ≡ control
    is_control = let e : Some may.1.control ≡ Some control = sym (control_is net c may) ∙ is in cc

    is_turned : turn.control ≡ may.1.control
    is_turned = let e : Some turn.control ≡ Some may.1.control = sym turn.controls ∙ control_is net c may in cc

    has : lane_values v.lanes.good i c.node.0 ≡ wanted c.fresh may.1.control
    has = ap (lane i) (sym value) ∙ lane_with i h (wanted c.fresh control) word pair.1 ∙ ap (wanted c.fresh) (sym is_control)

    detected : Detects (with_candidate net c) (last_pin net c.gate.0 (not may.1.control)) a
    detected =
        wire_detected outside net c may 0 turn.pin.0 a (lane_values v.lanes.good i) well turn.pin.1 (subst (λ (b : Bool). Detects net (stuck c.gate.0 0 b) a) is_turned turn.detected) (for.simulated i h) has
