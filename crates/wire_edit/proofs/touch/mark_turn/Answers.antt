use Rattle.std.proofs.Common.{◌∙◌, ap, arith, inl, inr, ℕ}
use Rattle.std.specs.Prelude.{slice_get}
use Rattle.gate_graph.specs.Circuit.{net_of}
use Rattle.gate_net.specs.Net.{drivers_of}
use Rattle.wire_edit.specs.Inner.Marked.{is_marked}
use Rattle.wire_edit.proofs.Touching.{keeps_on, still}
use Rattle.wire_edit.proofs.touch.mark_turn.Goals as goal

pub returns-clause-touched : goal.returns-clause-touched
returns-clause-touched c = λ x t lt.
    let a = c.mark_pin.new.worklist in
    let b = c.mark_nots.new.worklist in
    let d = c.mark_nots_at.new.worklist in
    let k = keeps_on a b d c.mark_nots.ensures.kept c.mark_nots_at.ensures.kept in
    elim t [
      | inl is ↦ still a d k x (λ h. ap (is_marked a) is ∙ c.mark_pin.ensures.gate (omega (arith, h, is))) lt
      | inr (inl reads) ↦ still a d k x (c.mark_pin.ensures.driver x reads) lt
      | inr (inr (inl n)) ↦ still b d c.mark_nots_at.ensures.kept x (c.mark_nots.ensures.nots x n) lt
      | inr (inr (inr m)) ↦
          c.mark_nots_at.ensures.nots m.0 x m.1.0 (ap (λ (p : ℕ). slice_get (drivers_of (net_of c.args.graph.now) c.args.gate.0) p) c.other_position.ensures ∙ m.1.1.0) m.1.1.1 lt
    ]
