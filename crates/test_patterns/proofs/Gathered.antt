-- Gathering the opened faults that lanes detect.
use Rattle.std.proofs.Common.{◌≡◌, ℕ, zero, suc, ◌+◌, ◌<◌, ◌≤◌, ◌⊎◌, inl, inr, true, false, IsTrue, Option, Some, List, [], ◌∷◌, ◌++◌, length, sym, ◌∙◌, ap, subst, arith}
use Rattle.std.specs.Prelude.{slice_get}
use Rattle.std.specs.List.{AllByRecursion}
use Rattle.std.proofs.lemmas.Bool.{cases_eq}
use Rattle.std.proofs.lemmas.Option.{slice_get_within}
use Rattle.rm_base.specs.declared.numbers.Fault.{Fault}
use Rattle.rm_base.proofs.Public.{front_stands, last_stands, pushed_stands, some_is}
use Rattle.gate_net.specs.Net.{Net}
use Rattle.gate_net.specs.Values.{HasPin}
use Rattle.fault_sim.specs.Words.{lane}
use Rattle.fault_sim.proofs.Public.{lane_zero}
use Rattle.test_patterns.specs.Inner.Drafts.{HavePins, IsOpen}
use Rattle.test_patterns.specs.Inner.Groups.{AreGathered, AreGatheredBefore, IsAmong, IsCaught, IsMissed, Says}
use Rattle.test_patterns.specs.declared.gathering.Caught.{Caught}

-- each is one of these
pub pins_at : (net : Net) (faults : List Fault) → AllByRecursion (HasPin net) faults → HavePins net faults
pins_at net [] all k fault e = absurd (cc)
pins_at net (f ∷ faults) all zero fault e = subst (HasPin net) (some_is f fault e) all.0
pins_at net (f ∷ faults) all (suc k) fault e = pins_at net faults all.1 k fault e

module _ (net : Net) (faults : List Fault) (numbers firsts : List (Option ℕ)) (words : List ℕ) where
  pub gathered_none : AreGatheredBefore net faults numbers firsts words [] 0
  gathered_none = record { each = λ k one e. absurd (cc); all = λ j fault lt opened is. absurd (omega (arith, lt)) }

  -- the fault at the next place is settled by itself
  next_by : (caught : List Caught) (at : ℕ) → AreGatheredBefore net faults numbers firsts words caught at
      → ((fault : Fault) → IsOpen numbers firsts at → slice_get faults at ≡ Some fault → IsAmong caught at ⊎ IsMissed net words fault) → AreGatheredBefore net faults numbers firsts words caught (at + 1)
  next_by caught at g here = record {
    each = g.each;
    all = λ j fault lt opened is. elim (cases_eq j at) [
      | inl same ↦ subst (λ (x : ℕ). IsOpen numbers firsts x → slice_get faults x ≡ Some fault → IsAmong caught x ⊎ IsMissed net words fault) (sym same) (here fault) opened is
      | inr other ↦ g.all j fault (omega (arith, lt, other)) opened is
    ];
  }

  pub gathered_skip : (caught : List Caught) (at : ℕ) → AreGatheredBefore net faults numbers firsts words caught at → (IsOpen numbers firsts at → ⊥) → AreGatheredBefore net faults numbers firsts words caught (at + 1)
  gathered_skip caught at g never = next_by caught at g (λ fault opened is. absurd (never opened))

  no_lane : (i : ℕ) (word : ℕ) → word ≡ 0 → IsTrue (lane i word) → ⊥
  no_lane i word none is = let bad : true ≡ false = sym is ∙ (ap (lane i) none ∙ lane_zero i) in cc

  pub gathered_missed : (caught : List Caught) (at word : ℕ) (fault : Fault) → AreGatheredBefore net faults numbers firsts words caught at → slice_get faults at ≡ Some fault → Says net words fault word → word ≡ 0
      → AreGatheredBefore net faults numbers firsts words caught (at + 1)
  gathered_missed caught at word fault g there says none = next_by caught at g (λ other opened is.
      inr (subst (IsMissed net words) (some_is fault other (sym there ∙ is)) (λ i lt detects. no_lane i word none ((says i lt).1 detects))))

  pub gathered_more : (caught : List Caught) (one : Caught) (fault : Fault) → AreGatheredBefore net faults numbers firsts words caught one.at → IsOpen numbers firsts one.at → slice_get faults one.at ≡ Some fault → Says net words fault one.lanes
      → AreGatheredBefore net faults numbers firsts words (caught ++ one ∷ []) (one.at + 1)
  gathered_more caught one fault g opened there says = record {
    each = λ k other e. elim (pushed_stands caught one k other e) [
      | inl old ↦ g.each k other old
      | inr new ↦ subst (IsCaught net faults numbers words) (sym new.1) (record { number = opened.number; known = opened.known; fault = fault; fault_is = there; says = says })
    ];
    all = λ j f lt o is. elim (cases_eq j one.at) [
      | inl same ↦ inl (record { place = length caught; one = one; there = last_stands caught one; at_is = sym same })
      | inr other ↦ elim (g.all j f (omega (arith, lt, other)) o is) [
        | inl among ↦ inl (record { place = among.place; one = among.one; there = front_stands caught (one ∷ []) among.place among.one among.there; at_is = among.at_is })
        | inr missed ↦ inr missed
      ]
    ];
  }

  pub gathered_all : (caught : List Caught) (count : ℕ) → length faults ≤ count → AreGatheredBefore net faults numbers firsts words caught count → AreGathered net faults numbers firsts words caught
  gathered_all caught count whole g = record {
    each = g.each;
    all = λ j fault opened is. (let within : j < length faults = slice_get_within faults j fault is in g.all j fault (omega (arith, within, whole)) opened is);
  }
