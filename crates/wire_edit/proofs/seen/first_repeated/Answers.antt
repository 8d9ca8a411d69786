use Rattle.std.proofs.Common.{ap, arith, refl, ◌∙◌, List, Bool}
use Rattle.gate_graph.specs.Circuit.{net_of}
use Rattle.gate_net.specs.Net.{drivers_of}
use Rattle.wire_edit.specs.Inner.Marked.{is_marked}
use Rattle.wire_edit.proofs.Repeating.{drivers_below}
use Rattle.wire_edit.proofs.KnownPins.{blank_first}
use Rattle.wire_edit.proofs.seen.first_repeated.Goals as goal

pub mark_drivers-found-requires-clause-marks : goal.mark_drivers-found-requires-clause-marks
mark_drivers-found-requires-clause-marks c =
    blank_first (drivers_of (net_of c.args.graph.now) c.args.gate.0) 0 _ refl (λ k. ap (λ (marks : List Bool). is_marked marks k) c.deref_mut.ensures.value ∙ c.seen.invariant k)

pub unmark_drivers-requires-clause-within : goal.unmark_drivers-requires-clause-within
unmark_drivers-requires-clause-within c =
    drivers_below (net_of c.args.graph.now) c.args.gate.0 _ _ c.well_formed-2.ensures.net (omega (arith, c.requires.seen, c.seen.view_is, c.deref_mut-2.ensures.len, c.seen.inside.marks.ok.0)) c.inputs_of.ensures.drivers
