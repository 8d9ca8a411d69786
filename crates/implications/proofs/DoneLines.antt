-- What the tally of an And or an Or leaves, with the stuck pin.
use Rattle.std.proofs.Common.{Bool, List, None, Option, Some, ap, arith, false, inl, inr, length, map, refl, subst, sym, true, ℕ, ◌<◌, ◌∙◌, ◌≡◌, ◌≢◌}
use Rattle.std.proofs.lemmas.Bool.Decides.{eqb_tells}
use Rattle.std.specs.Prelude.{slice_get, slice_set}
use Rattle.gate_net.specs.Net.{Net, drivers_of}
use Rattle.implications.proofs.Counting.{none_at, one_at}
use Rattle.implications.proofs.GateLines.{equal_held, good_not}
use Rattle.implications.specs.Inner.Counts.{IsCount, is_not_passing}
use Rattle.implications.specs.Inner.Settled.{IsReady}
use Rattle.implications.specs.Inner.Sides.{IsOpenSide, IsSide}
use Rattle.implications.specs.Inner.Tallies.{IsTally, counting}
use Rattle.implications.specs.declared.counts.Count.{Count}
use Rattle.implications.specs.declared.tallies.Tally.{Tally}
use Rattle.refutation.specs.Closing.{IsClashFree}
use Rattle.refutation.specs.FactSets.{held_by}
use Rattle.refutation.specs.Facts.{Held, known_faulty}
use Rattle.refutation.proofs.Public.{drivers_below}
use Rattle.refutation.specs.Pins.{pins_of, stuck_of}
use Rattle.refutation.specs.declared.held.NodeFacts.{NodeFacts}
use Rattle.refutation.specs.declared.pins.Aspect.TheVariants.{OfFaulty}
use Rattle.refutation.specs.declared.reasoning.Fact.TheVariants.{Equal, Good}
use Rattle.rm_base.specs.declared.numbers.Fault.{Fault}
use Rattle.rm_base.specs.declared.numbers.NodeId.{NodeId}
use Rattle.rm_base.proofs.Public.{map_at}

-- an open side is counted
open_counted : (held : Held) → IsClashFree held → (d : ℕ) (b : Bool) → IsOpenSide held d b → is_not_passing held b d ≡ true
open_counted held free d b o =
    let equal : held d Equal ≡ true = equal_held held d o.0 in
    let off : held d (Good b) ≡ false = good_not held free d b o.1 in
    rw (equal, off) refl

module _ (net : Net) (fault : Fault) (facts : List NodeFacts) (ready : IsReady net fault facts) (free : IsClashFree (held_by facts)) (y : NodeId) (t : Tally) (h : IsTally (held_by facts) fault.position (drivers_of net y.0) t) where
  -- the driver of the stuck pin
  pub at_stuck : y.0 ≡ fault.gate.0 → slice_get (drivers_of net y.0) fault.position ≡ Some t.at.0
  at_stuck is =
      let reads : slice_get (drivers_of net y.0) fault.position ≡ Some ready.stuck.0 = subst (λ (n : ℕ). slice_get (drivers_of net n) fault.position ≡ Some ready.stuck.0) (sym is) ready.stuck.1 in
      reads ∙ ap Some (sym (h.at ready.stuck.0 reads))

  pub stuck_below : y.0 ≡ fault.gate.0 → t.at.0 < length facts
  stuck_below is = let below : t.at.0 < length net.nodes = drivers_below net ready.formed y.0 fault.position t.at.0 (at_stuck is) in omega (arith, ready.size)

  abbrev faulties : List (Option Bool)
  faulties = map (known_faulty (held_by facts)) (drivers_of net y.0)

  pub stuck_known : y.0 ≡ fault.gate.0 → slice_get faulties fault.position ≡ Some (known_faulty (held_by facts) t.at.0)
  stuck_known is = map_at (known_faulty (held_by facts)) (drivers_of net y.0) fault.position t.at.0 (at_stuck is)

  pub count_elsewhere : (n : Count) (c : Bool) → y.0 ≢ fault.gate.0 → IsCount n c faulties → IsCount n c (pins_of (stuck_of fault y.0) OfFaulty (held_by facts) (drivers_of net y.0))
  count_elsewhere n c ne count = elim (eqb_tells y.0 fault.gate.0) [ inl e ↦ absurd (ne e.1) | inr e ↦ rw e.0 count ]

  pub count_at_fault : (n : Count) (c : Bool) → y.0 ≡ fault.gate.0 → IsCount n c (slice_set faulties fault.position (Some fault.value)) → IsCount n c (pins_of (stuck_of fault y.0) OfFaulty (held_by facts) (drivers_of net y.0))
  count_at_fault n c is count = elim (eqb_tells y.0 fault.gate.0) [ inl e ↦ rw e.0 count | inr e ↦ absurd (e.1 is) ]

  -- SIDES
  pub no_side : (b : Bool) → counting (is_not_passing (held_by facts) b) (drivers_of net y.0) ≡ 0 → IsSide (drivers_of net y.0) fault (held_by facts) y.0 b None
  no_side b e q d there o = none_at (is_not_passing (held_by facts) b) (drivers_of net y.0) q d e there (open_counted (held_by facts) free d b o.1)

  -- the one open side is at the stuck pin
  pub stuck_side : (b : Bool) → counting (is_not_passing (held_by facts) b) (drivers_of net y.0) ≡ 1 → y.0 ≡ fault.gate.0 → IsOpenSide (held_by facts) t.at.0 b → IsSide (drivers_of net y.0) fault (held_by facts) y.0 b None
  stuck_side b e is here q d there o = o.0 (is, one_at (is_not_passing (held_by facts) b) (drivers_of net y.0) fault.position q t.at.0 d e (at_stuck is) (open_counted (held_by facts) free t.at.0 b here) there (open_counted (held_by facts) free d b o.1))
