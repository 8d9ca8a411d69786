-- Taking the verdicts of a batch, one after another.
use Rattle.std.proofs.Common.{◌≡◌, ◌≢◌, ℕ, zero, suc, ◌+◌, ◌<◌, ◌≤◌, inl, inr, Bool, Some, None, List, [], ◌∷◌, ◌++◌, length, drop, get_or, refl, sym, ◌∙◌, ap, subst, arith}
use Rattle.std.specs.Prelude.{replicate, slice_get, slice_set}
use Rattle.std.proofs.lemmas.List.{length-append}
use Rattle.std.specs.List.{AllZip}
use Rattle.std.proofs.lemmas.Option.{slice_get_read, slice_get_within}
use Rattle.std.proofs.lemmas.Bool.{cases_eq}
use Rattle.gate_net.specs.Net.{Net, source_count}
use Rattle.gate_net.specs.Values.{HasPin}
use Rattle.podem.specs.declared.verdict.Verdict.{Verdict}
use Rattle.podem.specs.declared.verdict.Verdict.TheVariants as verdict
use Rattle.refutation.specs.declared.items.Item.{Item}
use Rattle.rm_base.specs.declared.numbers.Fault.{Fault}
use Rattle.closing_pass.specs.declared.finding.Finding.{Finding}
use Rattle.closing_pass.specs.declared.finding.Finding.TheVariants.{Detected, Open, Spent}
use Rattle.closing_pass.specs.declared.choosing.Chosen.{Chosen}
use Rattle.closing_pass.specs.Inner.Findings.{AreChosen, AreClosedBefore, AreFound, AreLong, AreTried, HasCome, Holds, IsRefuted}
use Rattle.closing_pass.specs.Inner.Searching.{HasTaken, tree_in}
use Rattle.closing_pass.specs.Verdicts.{HavePins, IsAnswer}
use Rattle.closing_pass.proofs.Standing.{length-set, stood, replicated, zip_here, zip_next}
use Rattle.closing_pass.proofs.Tries.{lt_or_le, set_other}
use Rattle.rm_base.proofs.Public.{front_stands, last_stands, one_stands, pushed_stands, set_there, some_is, stands_below}

-- so many of the verdicts were taken, from the findings as they were
pub record IsTaking (net : Net) (budget tried : ℕ) (kept : List (List Bool)) (faults : List Fault) (old found : List Finding) (places : List ℕ) (at : ℕ) : Type 0 where
  pub long : AreLong kept (source_count net)
  pub findings : AreFound net budget kept faults found
  pub trials : AreTried net kept tried faults found
  pub before : AreTried net kept tried faults old
  pub opens : (j : ℕ) → slice_get found j ≡ Some Open → slice_get old j ≡ Some Open
  pub done : (i place : ℕ) → i < at → slice_get places i ≡ Some place → slice_get found place ≢ Some Open
  pub more : tried ≤ length kept

pub taking_none : (net : Net) (budget : ℕ) (kept : List (List Bool)) (faults : List Fault) (old : List Finding) (next : ℕ) (places : List ℕ) → HasCome net budget kept (length kept) faults old next → IsTaking net budget (length kept) kept faults old old places 0
taking_none net budget kept faults old next places come = record {
  long = come.long;
  findings = come.findings;
  trials = come.trials;
  before = come.trials;
  opens = λ j is. is;
  done = λ i place lt is. absurd (omega (arith, lt));
  more = omega arith;
}

-- kept vectors are added alone
record Extends (tried : ℕ) (kept kept' : List (List Bool)) : Type 0 where
  pub stays : (k : ℕ) (v : List Bool) → slice_get kept k ≡ Some v → slice_get kept' k ≡ Some v
  pub was : (k : ℕ) (v : List Bool) → k < tried → slice_get kept' k ≡ Some v → slice_get kept k ≡ Some v

tried_extended : (net : Net) (tried : ℕ) (kept kept' : List (List Bool)) (faults : List Fault) (found : List Finding) → Extends tried kept kept' → AreTried net kept tried faults found → AreTried net kept' tried faults found
tried_extended net tried kept kept' faults found e t j fault finding there is sought k v lt at d = t j fault finding there is sought k v lt (e.was k v lt at) d

holds_extended : (net : Net) (budget tried : ℕ) (kept kept' : List (List Bool)) (fault : Fault) (finding : Finding) → Extends tried kept kept' → Holds net budget kept fault finding → Holds net budget kept' fault finding
holds_extended net budget tried kept kept' fault Open e h = h
holds_extended net budget tried kept kept' fault (Detected number) e (v, (there, test)) = (v, (e.stays number v there, test))
holds_extended net budget tried kept kept' fault (Spent tree) e h = h

-- a finding was put at the place of an open fault
taking_set :
    (net : Net) (budget tried : ℕ) (kept kept' : List (List Bool)) (faults : List Fault) (old found found' : List Finding) (places : List ℕ) (at place : ℕ) (fault : Fault) (finding : Finding)
    → IsTaking net budget tried kept faults old found places at → slice_get places at ≡ Some place → slice_get faults place ≡ Some fault → slice_get old place ≡ Some Open
    → Extends tried kept kept' → AreLong kept' (source_count net) → tried ≤ length kept' → Holds net budget kept' fault finding → (finding ≡ Open → ⊥) → found' ≡ slice_set found place finding
    → IsTaking net budget tried kept' faults old found' places (at + 1)
taking_set net budget tried kept kept' faults old found found' places at place fault finding t here there was e long more holds shut is = record {
  long = long;
  findings = record { size = ap length is ∙ length-set found place finding ∙ t.findings.size; hold = hold };
  trials = tried_now;
  before = tried_extended net tried kept kept' faults old e t.before;
  opens = opens;
  done = done;
  more = more;
}
  where
    lt : place < length found
    lt = let l : place < length faults = slice_get_within faults place fault there in omega (arith, l, t.findings.size)

    now_is : slice_get found' place ≡ Some finding
    now_is =
        let f : (f : Finding) × (slice_get found place ≡ Some f) = stands_below found place lt in
        ap (λ (xs : List Finding). slice_get xs place) is ∙ set_there found place f.0 finding f.1

    elsewhere : (j : ℕ) → j ≢ place → slice_get found' j ≡ slice_get found j
    elsewhere j ne = ap (λ (xs : List Finding). slice_get xs j) is ∙ set_other found place j finding ne

    hold : (j : ℕ) (g : Fault) (f : Finding) → slice_get faults j ≡ Some g → slice_get found' j ≡ Some f → Holds net budget kept' g f
    hold j g f gs fs = elim (cases_eq j place) [
      | inl same ↦
          let gf : fault ≡ g = one_stands faults place fault g there (rw same at gs) in
          let ff : finding ≡ f = one_stands found' place finding f now_is (rw same at fs) in
          subst (λ (x : Fault). Holds net budget kept' x f) gf (subst (Holds net budget kept' fault) ff holds)
      | inr ne ↦ holds_extended net budget tried kept kept' g f e (t.findings.hold j g f gs (sym (elsewhere j ne) ∙ fs))
    ]

    tried_now : AreTried net kept' tried faults found'
    tried_now j g f gs fs sought k v less at' d = elim (cases_eq j place) [
      | inl same ↦ t.before j g Open gs (rw same was) tt k v less (e.was k v less at') d
      | inr ne ↦ t.trials j g f gs (sym (elsewhere j ne) ∙ fs) sought k v less (e.was k v less at') d
    ]

    opens : (j : ℕ) → slice_get found' j ≡ Some Open → slice_get old j ≡ Some Open
    opens j os = elim (cases_eq j place) [
      | inl same ↦ rw same was
      | inr ne ↦ t.opens j (sym (elsewhere j ne) ∙ os)
    ]

    shut_at : (j : ℕ) → j ≡ place → slice_get found' j ≡ Some Open → ⊥
    shut_at j same os = shut (one_stands found' place finding Open now_is (rw same at os))

    done : (i p : ℕ) → i < at + 1 → slice_get places i ≡ Some p → slice_get found' p ≡ Some Open → ⊥
    done i p less ps os = elim (cases_eq p place) [
      | inl same ↦ shut_at p same os
      | inr ne ↦ elim (lt_or_le i at) [
        | inl l ↦ t.done i p l ps (sym (elsewhere p ne) ∙ os)
        | inr ge ↦ let same : i ≡ at = omega (arith, ge, less) in ne (one_stands places at p place (rw same at ps) here)
      ]
    ]

extends_same : (tried : ℕ) (kept kept' : List (List Bool)) → kept' ≡ kept → Extends tried kept kept'
extends_same tried kept kept' e = record { stays = λ k v is. rw e is; was = λ k v lt is. rw e at is }

extends_push : (tried : ℕ) (kept kept' : List (List Bool)) (v : List Bool) → tried ≤ length kept → kept' ≡ kept ++ v ∷ [] → Extends tried kept kept'
extends_push tried kept kept' v le e = record {
  stays = λ k u is. rw e (front_stands kept (v ∷ []) k u is);
  was = λ k u lt is. stood kept (v ∷ []) k u (omega (arith, lt, le)) (rw e at is);
}

-- one more verdict was taken
pub taking_more :
    (net : Net) (budget tried : ℕ) (kept kept' : List (List Bool)) (faults : List Fault) (old found found' : List Finding) (places : List ℕ) (at place : ℕ) (fault : Fault) (v : Verdict)
    → IsTaking net budget tried kept faults old found places at → slice_get places at ≡ Some place → slice_get faults place ≡ Some fault → slice_get old place ≡ Some Open
    → IsAnswer net budget fault v → tree_in v ≡ None → HasTaken v place kept kept' found found' → IsTaking net budget tried kept' faults old found' places (at + 1)
taking_more net budget tried kept kept' faults old found found' places at place fault (verdict.Refuted tree) t here there was a none has = absurd (cc)
taking_more net budget tried kept kept' faults old found found' places at place fault (verdict.Spent tree) t here there was a none (same, is) =
    taking_set net budget tried kept kept' faults old found found' places at place fault (Spent tree) t here there was (extends_same tried kept kept' same) (rw same t.long) (rw same t.more) (a.holds, a.decided) (λ e. absurd (cc)) is
taking_more net budget tried kept kept' faults old found found' places at place fault (verdict.Detected vector) t here there was a none (pushed, is) =
    taking_set net budget tried kept kept' faults old found found' places at place fault (Detected (length kept)) t here there was (extends_push tried kept kept' vector t.more pushed) long
    (let l = length-append kept (vector ∷ []) in rw pushed (omega (arith, l, t.more))) (vector, (rw pushed (last_stands kept vector), a.holds)) (λ e. absurd (cc)) is
  where
    long : AreLong kept' (source_count net)
    long k u us = elim (pushed_stands kept vector k u (rw pushed at us)) [
      | inl o ↦ t.long k u o
      | inr n ↦ rw n.1 (a.holds.size)
    ]

-- after the last the pass has come further
pub taken_all :
    (net : Net) (budget tried : ℕ) (kept : List (List Bool)) (faults : List Fault) (old found : List Finding) (next : ℕ) (c : Chosen) (at : ℕ) → IsTaking net budget tried kept faults old found c.places.items at → length c.places.items ≤ at
    → AreChosen faults old next c → AreClosedBefore next old → HasCome net budget kept tried faults found c.next
taken_all net budget tried kept faults old found next c at t all chosen closed = record {
  long = t.long;
  findings = t.findings;
  trials = t.trials;
  closed = λ j lt is. opens j lt is (t.opens j is);
  within = chosen.bound;
}
  where
    opens : (j : ℕ) → j < c.next → slice_get found j ≡ Some Open → slice_get old j ≡ Some Open → ⊥
    opens j lt is was = elim (lt_or_le j next) [
      | inl less ↦ closed j less was
      | inr le ↦
          let i : (i : ℕ) × (slice_get c.places.items i ≡ Some j) = chosen.all j le lt was in
          let l : i.0 < length c.places.items = slice_get_within c.places.items i.0 j i.1 in
          t.done i.0 j (omega (arith, l, all)) i.1 is
    ]

-- the fault that a verdict refutes
pub refuted_is : (net : Net) (budget : ℕ) (fault : Fault) (v : Verdict) (tree : List Item) → HasPin net fault → IsAnswer net budget fault v → tree_in v ≡ Some tree → IsRefuted net (fault, tree)
refuted_is net budget fault (verdict.Refuted items) tree pin a e = record { pin = pin; tree = rw (sym (some_is items tree e)) a.holds }
refuted_is net budget fault (verdict.Spent items) tree pin a e = absurd (cc)
refuted_is net budget fault (verdict.Detected vector) tree pin a e = absurd (cc)

length-replicated : {A : Type 0} (x : A) (n : ℕ) → length (replicate n x) ≡ n
length-replicated x zero = refl
length-replicated x (suc n) = ap suc (length-replicated x n)

-- at the beginning
pub come_first : (net : Net) (budget : ℕ) (kept : List (List Bool)) (faults : List Fault) (found : List Finding) → AreLong kept (source_count net) → found ≡ replicate (length faults) Open → HasCome net budget kept 0 faults found 0
come_first net budget kept faults found long is = record {
  long = long;
  findings = record { size = ap length is ∙ length-replicated Open (length faults); hold = λ j fault finding there fs. let same : finding ≡ Open = replicated Open finding (length faults) j (rw is at fs) in rw same tt };
  trials = λ j fault finding there fs sought k v lt at d. absurd (omega (arith, lt));
  closed = λ j lt. absurd (omega (arith, lt));
  within = omega arith;
}

-- the chosen faults have pins
pub chosen_pins : (net : Net) (faults : List Fault) (found : List Finding) (from : ℕ) (c : Chosen) → AreChosen faults found from c → HavePins net faults → HavePins net c.faults.items
chosen_pins net faults found from c of pins i fault is =
    let lt : i < length c.faults.items = slice_get_within c.faults.items i fault is in
    let p : (place : ℕ) × (slice_get c.places.items i ≡ Some place) = stands_below c.places.items i (omega (arith, lt, of.same)) in
    pins p.0 fault (sym (of.each i p.0 p.1) ∙ is)

-- after a refutation nothing was kept
pub taken_refuted : (v : Verdict) (tree : List Item) (place : ℕ) (kept kept' : List (List Bool)) (found found' : List Finding) → tree_in v ≡ Some tree → HasTaken v place kept kept' found found' → kept' ≡ kept
taken_refuted (verdict.Refuted items) tree place kept kept' found found' e h = h.0
taken_refuted (verdict.Spent items) tree place kept kept' found found' e h = absurd (cc)
taken_refuted (verdict.Detected vector) tree place kept kept' found found' e h = absurd (cc)

-- the fault that comes next, at its place
pub record IsNext (net : Net) (budget : ℕ) (faults : List Fault) (old : List Finding) (c : Chosen) (at place : ℕ) (v : Verdict) (rest : List Verdict) : Type 0 where
  pub fault : Fault
  pub place_is : slice_get c.places.items at ≡ Some place
  pub chosen_is : slice_get c.faults.items at ≡ Some fault
  pub fault_is : slice_get faults place ≡ Some fault
  pub was : slice_get old place ≡ Some Open
  pub answer : IsAnswer net budget fault v
  pub others : AllZip (IsAnswer net budget) (drop (at + 1) c.faults.items) rest
  pub below : at < length c.faults.items

pub next_is :
    (net : Net) (budget : ℕ) (faults : List Fault) (old : List Finding) (from : ℕ) (c : Chosen) (at place : ℕ) (all : List Verdict) (v : Verdict) (rest : List Verdict) → AreChosen faults old from c → AllZip (IsAnswer net budget) (drop at c.faults.items) all
    → all ≡ v ∷ rest → place ≡ get_or c.places.items at place → IsNext net budget faults old c at place v rest
next_is net budget faults old from c at place all v rest of zip is read =
    let z : AllZip (IsAnswer net budget) (drop at c.faults.items) (v ∷ rest) = rw is at zip in
    let lt : at < length c.faults.items = zip_here (IsAnswer net budget) c.faults.items at v rest z in
    let place_is : slice_get c.places.items at ≡ Some place = slice_get_read c.places.items (length c.places.items) at place refl (omega (arith, lt, of.same)) read in
    let f : (fault : Fault) × (slice_get c.faults.items at ≡ Some fault) = stands_below c.faults.items at lt in
    let n = zip_next (IsAnswer net budget) c.faults.items at f.0 v rest f.1 z in
    record {
      fault = f.0;
      place_is = place_is;
      chosen_is = f.1;
      fault_is = sym (of.each at place place_is) ∙ f.1;
      was = of.opens at place place_is;
      answer = n.0;
      others = n.1;
      below = lt;
    }

-- the fault that a verdict refutes
pub next_refuted :
    (net : Net) (budget : ℕ) (faults : List Fault) (old : List Finding) (c : Chosen) (at place : ℕ) (v : Verdict) (rest : List Verdict) (fault : Fault) (tree : List Item) → HavePins net faults → IsNext net budget faults old c at place v rest
    → fault ≡ get_or c.faults.items at fault → tree_in v ≡ Some tree → IsRefuted net (fault, tree)
next_refuted net budget faults old c at place v rest fault tree pins n read e =
    let there : slice_get c.faults.items at ≡ Some fault = slice_get_read c.faults.items (length c.faults.items) at fault refl n.below read in
    let same : n.fault ≡ fault = one_stands c.faults.items at n.fault fault n.chosen_is there in
    subst (λ (f : Fault). IsRefuted net (f, tree)) same (refuted_is net budget n.fault v tree (pins place n.fault n.fault_is) n.answer e)
