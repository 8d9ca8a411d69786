-- What follows at one pin of an And or an Or.
use Rattle.std.proofs.Common.{Bool, List, None, Some, ap, arith, false, length, not, ℕ, ◌<◌, ◌∙◌, ◌≡◌}
use Rattle.gate_net.specs.Net.{Net, Reads, drivers_of}
use Rattle.gate_net.specs.Values.{IsJunction}
use Rattle.implications.proofs.GateLines.{faulty_pin, good_pin, pin_read, side_fresh}
use Rattle.implications.proofs.Pulling.{back_other}
use Rattle.implications.specs.Inner.Settled.{IsFresh, IsReady}
use Rattle.implications.specs.Inner.Sides.{IsOpenSide}
use Rattle.refutation.specs.Closing.{IsClashFree}
use Rattle.refutation.specs.FactSets.{held_by}
use Rattle.refutation.specs.Facts.{known_equal, known_faulty, known_good}
use Rattle.refutation.proofs.Public.{drivers_below, kind_live}
use Rattle.refutation.specs.Lines.{IsStuckPin}
use Rattle.refutation.specs.Pins.{pins_of, stuck_of}
use Rattle.refutation.specs.declared.held.NodeFacts.{NodeFacts}
use Rattle.refutation.specs.declared.pins.Aspect.TheVariants.{OfFaulty, OfGood}
use Rattle.refutation.specs.declared.reasoning.Fact.TheVariants.{Faulty, Good}
use Rattle.refutation.specs.declared.reasoning.Line.TheVariants.{FaultyBack, GoodBack, Side}
use Rattle.rm_base.specs.declared.numbers.Fault.{Fault}
use Rattle.rm_base.specs.declared.numbers.NodeId.{NodeId}
use Rattle.rm_base.proofs.Public.{map_at}

module _ (net : Net) (fault : Fault) (facts : List NodeFacts) (ready : IsReady net fault facts) (free : IsClashFree (held_by facts)) (y : NodeId) (c : Bool) (j : IsJunction net y.0 c) (q : ℕ) (d : NodeId) (reads : Reads net y.0 q d.0) where
  pub gate_below : y.0 < length facts
  gate_below = let below : y.0 < length net.nodes = kind_live net y.0 (j.0, j.1.0) in omega (arith, ready.size)

  pub driver_below : d.0 < length facts
  driver_below = let below : d.0 < length net.nodes = drivers_below net ready.formed y.0 q d.0 reads in omega (arith, ready.size)

  pub good_awaited : known_good (held_by facts) y.0 ≡ Some (not c) → known_good (held_by facts) d.0 ≡ None → IsFresh net fault facts (record { line = GoodBack y q; node = d; fact = Good (not c) })
  good_awaited is none =
      good_pin net fault facts ready.formed free y c j q d (not c)
      (is, (back_other c (pins_of None OfGood (held_by facts) (drivers_of net y.0)) q, map_at (known_good (held_by facts)) (drivers_of net y.0) q d.0 reads ∙ ap Some none)) reads

  pub faulty_awaited : (IsStuckPin fault y.0 q → ⊥) → known_faulty (held_by facts) y.0 ≡ Some (not c) → known_faulty (held_by facts) d.0 ≡ None → IsFresh net fault facts (record { line = FaultyBack y q; node = d; fact = Faulty (not c) })
  faulty_awaited ne is none =
      faulty_pin net fault facts ready.formed free y c j q d (not c)
      (is, (back_other c (pins_of (stuck_of fault y.0) OfFaulty (held_by facts) (drivers_of net y.0)) q, pin_read fault (known_faulty (held_by facts)) (drivers_of net y.0) y.0 q d.0 reads ne ∙ ap Some none)) reads

  pub side_awaited : (IsStuckPin fault y.0 q → ⊥) → known_equal (held_by facts) y.0 ≡ Some false → IsOpenSide (held_by facts) d.0 (not c) → IsFresh net fault facts (record { line = Side y q; node = d; fact = Good (not c) })
  side_awaited ne differs o = side_fresh net fault facts ready.formed free y c q d j differs reads (ne, o)
