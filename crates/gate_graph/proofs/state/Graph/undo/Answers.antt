use Rattle.std.proofs.Common.{rules, arith, ap, ◌≡◌, subst, List, length}
use Rattle.gate_graph.specs.Holds.{held}
use Rattle.gate_graph.specs.Wirings.{wiring_of}
use Rattle.gate_graph.specs.Circuit.{Circuit}
use Rattle.gate_graph.specs.Inner.Circuit.{IsGraph}
use Rattle.gate_graph.specs.Undoing.{CanGoBack}
use Rattle.gate_graph.specs.declared.undo_list.Undo.{Undo}
use Rattle.gate_graph.proofs.HeldPins.{held-are, undoing-step}
use Rattle.gate_graph.proofs.state.Graph.undo.Goals as goal

pub loop-entry-preserved : goal.loop-entry-preserved
loop-entry-preserved c = record {
  back = search rules;
  within = search rules;
  same = search rules;
  room = search rules;
  live = search rules;
  dead = search rules;
  few = search rules;
  free = search rules;
  spare = search rules;
  taken = search rules;
  numbers = search rules;
  undoing =
      let s = c.loop-entry.self-inside in
      let i = c.loop-entry.invariant in
      let e = c.take_back.ensures in
      let can = (subst (λ (l : List Undo). CanGoBack (wiring_of s.kinds.items s.pool) l) c.in-Some.ensures.0 i.back).0 in
      undoing-step s.kinds.items c.take_back.new.kinds.items c.args.self.now.pool s.pool c.take_back.new.pool c.args.undos.now.entries c.loop-entry.undos.entries c.pop.new.self.entries c.in-Some.entry i.undoing c.in-Some.ensures.0 e.nodes e.rings i.room can e.wiring e.made e.freed;
  places = omega (arith, c.loop-entry.invariant.places, c.in-Some.ensures.1, ap (λ (l : List Undo). length l) c.in-Some.ensures.0);
  epoch = search rules;
}

pub returns-clause-held : goal.returns-clause-held
returns-clause-held c =
    let s = c.loop-entry.self-inside in
    let i = c.loop-entry.invariant in
    let w : Circuit = record { kinds = s.kinds.items; pool = s.pool; epoch = s.epoch } in
    let wired = subst (λ (l : List Undo). CanGoBack (wiring_of s.kinds.items s.pool) l) c.in_default.ensures.0 i.back in
    let graph : IsGraph w = record { wired = wired; room = i.room; few = i.few } in
    let none : length (held c.loop-entry.undos.entries) ≡ 0 = ap (λ (l : List Undo). length (held l)) c.in_default.ensures.0 in
    omega (arith, held-are c.args.self.now c.tell.ensures.rings c.tell.ensures.graph, held-are w c.tell_rings.ensures.rings graph, i.undoing.held_pins, none)
