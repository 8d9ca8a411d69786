use Rattle.std.proofs.Common.{◌≡◌, ap, sym, arith, length, subst, ℕ, List, Bool}
use Rattle.std.specs.Vec.{with_items}
use Rattle.std.proofs.lemmas.List.{with_items_is}
use Rattle.gate_graph.specs.Circuit.{net_of}
use Rattle.gate_net.specs.Net.{drivers_of}
use Rattle.wire_edit.specs.Inner.Known.{MarksFirst}
use Rattle.wire_edit.proofs.Reading.{gate_live}
use Rattle.wire_edit.proofs.KnownPins.{apart_found}
use Rattle.wire_edit.proofs.kept.Kept.first_repeated.Goals as goal

pub mark_drivers-found-requires-clause-live : goal.mark_drivers-found-requires-clause-live
mark_drivers-found-requires-clause-live c = gate_live (net_of c.args.graph.now) c.args.self.now.gate.0 c.requires.gate

pub returns-clause-kept : goal.returns-clause-kept
returns-clause-kept c =
    let ds = drivers_of (net_of c.args.graph.now) c.args.self.now.gate.0 in
    let items : (with_items c.args.self.now.marks c.mark_drivers-found.new.marks).items ≡ c.mark_drivers-found.new.marks =
    with_items_is c.args.self.now.marks c.mark_drivers-found.new.marks (omega (arith, c.mark_drivers-found.auto.marks, c.deref_mut.ensures.len, ap length c.deref_mut.ensures.value, c.args.self.now.marks.ok.0)) in
    record {
      plain = c.requires.kept.plain;
      apart = λ k lt. apart_found ds c.mark_drivers-found.result c.mark_drivers-found.ensures.first k (omega (arith, lt, c.unwrap_or-self.ensures));
      marks = subst (λ (marks : List Bool). MarksFirst ds c.unwrap_or-self.result marks) (sym items)
          (subst (λ (n : ℕ). MarksFirst ds n c.mark_drivers-found.new.marks) (sym c.unwrap_or-self.ensures) c.mark_drivers-found.ensures.marks);
    }
