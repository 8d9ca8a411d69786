use Rattle.std.proofs.Common.{◌≡◌, ◌+◌, arith, sym, ap, ◌∙◌, ◌++◌, length, replicate, None, Option, length-append, append-nil}
use Rattle.std.proofs.lemmas.Grind.{common_steps}
use Rattle.std.proofs.lemmas.List.{length-replicate}
use Rattle.gate_net.specs.declared.Kind.{Kind}
use Rattle.gate_graph.specs.Wirings.{free_in}
use Rattle.gate_graph.specs.Circuit.{Circuit}
use Rattle.gate_graph.specs.Inner.Circuit.{IsGraph}
use Rattle.gate_graph.proofs.Fresh.{grows}
use Rattle.gate_graph.proofs.Numbers.{free-within, free-more}
use Rattle.std.specs.FinSet as finset
use Rattle.gate_graph.proofs.HeldPins.{held-kept}
use Rattle.gate_graph.proofs.state.Graph.reserve.Goals as goal

pub invariant_of-self-in_default-resize : goal.invariant_of-self-in_default-resize
invariant_of-self-in_default-resize c =
    let i = c.self.inside in
    let v : Circuit = record { kinds = i.kinds.items; pool = i.pool; epoch = i.epoch } in
    let w : Circuit = record { kinds = c.resize.new.self.items; pool = c.reserve.new.self; epoch = i.epoch } in
    let graph : IsGraph v = c.self.invariant.0 in
    let free = c.self.invariant.1.1.1 in
    let room = rw (← c.self.view_is) at c.requires.nodes in
    let missing = c.saturating_sub-missing.ensures in
    let items : c.resize.new.self.items ≡ i.kinds.items ++ replicate 0 None = c.in_default-resize.ensures.items ∙ sym (append-nil i.kinds.items) in
    let count = ap length items ∙ length-append i.kinds.items (replicate 0 None) ∙ ap (λ n. length i.kinds.items + n) (length-replicate {A = Option Kind} 0 None) in
    let now = ap free_in items ∙ free-more i.kinds.items 0 in
    let a = grows v w 0 i.least i.bound graph c.self.invariant.1.0 c.self.invariant.1.1.0 items c.reserve.ensures.rings (omega (arith, count, c.in-Ok.ensures.nodes, c.len.ensures, i.kinds.ok.0, graph.room, missing)) (omega (arith, count, graph.few, room, free, missing, free-within i.kinds.items)) in
    (a.graph, (a.live, (a.dead, omega (arith, now, free))))

pub returns-in_default-resize-clause-net : goal.returns-in_default-resize-clause-net
returns-in_default-resize-clause-net c =
    let i = c.self.inside in
    let v : Circuit = record { kinds = i.kinds.items; pool = i.pool; epoch = i.epoch } in
    let w : Circuit = record { kinds = c.resize.new.self.items; pool = c.reserve.new.self; epoch = i.epoch } in
    let graph : IsGraph v = c.self.invariant.0 in
    let free = c.self.invariant.1.1.1 in
    let room = rw (← c.self.view_is) at c.requires.nodes in
    let missing = c.saturating_sub-missing.ensures in
    let items : c.resize.new.self.items ≡ i.kinds.items ++ replicate 0 None = c.in_default-resize.ensures.items ∙ sym (append-nil i.kinds.items) in
    let count = ap length items ∙ length-append i.kinds.items (replicate 0 None) ∙ ap (λ n. length i.kinds.items + n) (length-replicate {A = Option Kind} 0 None) in
    let now = ap free_in items ∙ free-more i.kinds.items 0 in
    let a = grows v w 0 i.least i.bound graph c.self.invariant.1.0 c.self.invariant.1.1.0 items c.reserve.ensures.rings (omega (arith, count, c.in-Ok.ensures.nodes, c.len.ensures, i.kinds.ok.0, graph.room, missing)) (omega (arith, count, graph.few, room, free, missing, free-within i.kinds.items)) in
    rw (← c.self.view_is) a.net

pub returns-in_default-resize-clause-fanouts : goal.returns-in_default-resize-clause-fanouts
returns-in_default-resize-clause-fanouts c =
    let i = c.self.inside in
    let v : Circuit = record { kinds = i.kinds.items; pool = i.pool; epoch = i.epoch } in
    let w : Circuit = record { kinds = c.resize.new.self.items; pool = c.reserve.new.self; epoch = i.epoch } in
    let graph : IsGraph v = c.self.invariant.0 in
    let free = c.self.invariant.1.1.1 in
    let room = rw (← c.self.view_is) at c.requires.nodes in
    let missing = c.saturating_sub-missing.ensures in
    let items : c.resize.new.self.items ≡ i.kinds.items ++ replicate 0 None = c.in_default-resize.ensures.items ∙ sym (append-nil i.kinds.items) in
    let count = ap length items ∙ length-append i.kinds.items (replicate 0 None) ∙ ap (λ n. length i.kinds.items + n) (length-replicate {A = Option Kind} 0 None) in
    let now = ap free_in items ∙ free-more i.kinds.items 0 in
    let a = grows v w 0 i.least i.bound graph c.self.invariant.1.0 c.self.invariant.1.1.0 items c.reserve.ensures.rings (omega (arith, count, c.in-Ok.ensures.nodes, c.len.ensures, i.kinds.ok.0, graph.room, missing)) (omega (arith, count, graph.few, room, free, missing, free-within i.kinds.items)) in
    rw (← c.self.view_is) a.readers

pub returns-in_default-resize-clause-wiring : goal.returns-in_default-resize-clause-wiring
returns-in_default-resize-clause-wiring c =
    let i = c.self.inside in
    let v : Circuit = record { kinds = i.kinds.items; pool = i.pool; epoch = i.epoch } in
    let w : Circuit = record { kinds = c.resize.new.self.items; pool = c.reserve.new.self; epoch = i.epoch } in
    let graph : IsGraph v = c.self.invariant.0 in
    let free = c.self.invariant.1.1.1 in
    let room = rw (← c.self.view_is) at c.requires.nodes in
    let missing = c.saturating_sub-missing.ensures in
    let items : c.resize.new.self.items ≡ i.kinds.items ++ replicate 0 None = c.in_default-resize.ensures.items ∙ sym (append-nil i.kinds.items) in
    let count = ap length items ∙ length-append i.kinds.items (replicate 0 None) ∙ ap (λ n. length i.kinds.items + n) (length-replicate {A = Option Kind} 0 None) in
    let now = ap free_in items ∙ free-more i.kinds.items 0 in
    let a = grows v w 0 i.least i.bound graph c.self.invariant.1.0 c.self.invariant.1.1.0 items c.reserve.ensures.rings (omega (arith, count, c.in-Ok.ensures.nodes, c.len.ensures, i.kinds.ok.0, graph.room, missing)) (omega (arith, count, graph.few, room, free, missing, free-within i.kinds.items)) in
    rw (← c.self.view_is) a.wiring_is

pub returns-in_default-resize-clause-undos : goal.returns-in_default-resize-clause-undos
returns-in_default-resize-clause-undos c =
    let i = c.self.inside in
    let v : Circuit = record { kinds = i.kinds.items; pool = i.pool; epoch = i.epoch } in
    let w : Circuit = record { kinds = c.resize.new.self.items; pool = c.reserve.new.self; epoch = i.epoch } in
    let graph : IsGraph v = c.self.invariant.0 in
    let free = c.self.invariant.1.1.1 in
    let room = rw (← c.self.view_is) at c.requires.nodes in
    let missing = c.saturating_sub-missing.ensures in
    let items : c.resize.new.self.items ≡ i.kinds.items ++ replicate 0 None = c.in_default-resize.ensures.items ∙ sym (append-nil i.kinds.items) in
    let count = ap length items ∙ length-append i.kinds.items (replicate 0 None) ∙ ap (λ n. length i.kinds.items + n) (length-replicate {A = Option Kind} 0 None) in
    let now = ap free_in items ∙ free-more i.kinds.items 0 in
    let a = grows v w 0 i.least i.bound graph c.self.invariant.1.0 c.self.invariant.1.1.0 items c.reserve.ensures.rings (omega (arith, count, c.in-Ok.ensures.nodes, c.len.ensures, i.kinds.ok.0, graph.room, missing)) (omega (arith, count, graph.few, room, free, missing, free-within i.kinds.items)) in
    rw (← c.self.view_is) a.undos

pub returns-in_default-resize-clause-kept_nodes : goal.returns-in_default-resize-clause-kept_nodes
returns-in_default-resize-clause-kept_nodes c =
    let i = c.self.inside in
    let v : Circuit = record { kinds = i.kinds.items; pool = i.pool; epoch = i.epoch } in
    let w : Circuit = record { kinds = c.resize.new.self.items; pool = c.reserve.new.self; epoch = i.epoch } in
    let graph : IsGraph v = c.self.invariant.0 in
    let free = c.self.invariant.1.1.1 in
    let room = rw (← c.self.view_is) at c.requires.nodes in
    let missing = c.saturating_sub-missing.ensures in
    let items : c.resize.new.self.items ≡ i.kinds.items ++ replicate 0 None = c.in_default-resize.ensures.items ∙ sym (append-nil i.kinds.items) in
    let count = ap length items ∙ length-append i.kinds.items (replicate 0 None) ∙ ap (λ n. length i.kinds.items + n) (length-replicate {A = Option Kind} 0 None) in
    let now = ap free_in items ∙ free-more i.kinds.items 0 in
    let a = grows v w 0 i.least i.bound graph c.self.invariant.1.0 c.self.invariant.1.1.0 items c.reserve.ensures.rings (omega (arith, count, c.in-Ok.ensures.nodes, c.len.ensures, i.kinds.ok.0, graph.room, missing)) (omega (arith, count, graph.few, room, free, missing, free-within i.kinds.items)) in
    rw (← c.self.view_is) (omega (arith, now))

pub returns-in_default-resize-clause-live : goal.returns-in_default-resize-clause-live
returns-in_default-resize-clause-live c =
    let i = c.self.inside in
    let v : Circuit = record { kinds = i.kinds.items; pool = i.pool; epoch = i.epoch } in
    let w : Circuit = record { kinds = c.resize.new.self.items; pool = c.reserve.new.self; epoch = i.epoch } in
    let graph : IsGraph v = c.self.invariant.0 in
    let free = c.self.invariant.1.1.1 in
    let room = rw (← c.self.view_is) at c.requires.nodes in
    let missing = c.saturating_sub-missing.ensures in
    let items : c.resize.new.self.items ≡ i.kinds.items ++ replicate 0 None = c.in_default-resize.ensures.items ∙ sym (append-nil i.kinds.items) in
    let count = ap length items ∙ length-append i.kinds.items (replicate 0 None) ∙ ap (λ n. length i.kinds.items + n) (length-replicate {A = Option Kind} 0 None) in
    let now = ap free_in items ∙ free-more i.kinds.items 0 in
    let a = grows v w 0 i.least i.bound graph c.self.invariant.1.0 c.self.invariant.1.1.0 items c.reserve.ensures.rings (omega (arith, count, c.in-Ok.ensures.nodes, c.len.ensures, i.kinds.ok.0, graph.room, missing)) (omega (arith, count, graph.few, room, free, missing, free-within i.kinds.items)) in
    rw (← c.self.view_is) (omega (arith, now, count))

pub invariant_of-self-2 : goal.invariant_of-self-2
invariant_of-self-2 c =
    let i = c.self.inside in
    let v : Circuit = record { kinds = i.kinds.items; pool = i.pool; epoch = i.epoch } in
    let w : Circuit = record { kinds = c.resize.new.self.items; pool = c.reserve.new.self; epoch = i.epoch } in
    let graph : IsGraph v = c.self.invariant.0 in
    let free = c.self.invariant.1.1.1 in
    let room = rw (← c.self.view_is) at c.requires.nodes in
    let missing = c.saturating_sub-missing.ensures in
    let items : c.resize.new.self.items ≡ i.kinds.items ++ replicate c.saturating_sub-missing.result None = grind (arith, common_steps, c.in-Ok-resize.ensures.items) in
    let count = ap length items ∙ length-append i.kinds.items (replicate c.saturating_sub-missing.result None) ∙ ap (λ n. length i.kinds.items + n) (length-replicate {A = Option Kind} c.saturating_sub-missing.result None) in
    let now = ap free_in items ∙ free-more i.kinds.items c.saturating_sub-missing.result in
    let a = grows v w c.saturating_sub-missing.result i.least i.bound graph c.self.invariant.1.0 c.self.invariant.1.1.0 items c.reserve.ensures.rings (omega (arith, count, c.in-Ok.ensures.nodes, c.len.ensures, i.kinds.ok.0, graph.room, missing)) (omega (arith, count, graph.few, room, free, missing, free-within i.kinds.items)) in
    (a.graph, (a.live, (a.dead, omega (arith, now, free))))

pub returns-clause-net : goal.returns-clause-net
returns-clause-net c =
    let i = c.self.inside in
    let v : Circuit = record { kinds = i.kinds.items; pool = i.pool; epoch = i.epoch } in
    let w : Circuit = record { kinds = c.resize.new.self.items; pool = c.reserve.new.self; epoch = i.epoch } in
    let graph : IsGraph v = c.self.invariant.0 in
    let free = c.self.invariant.1.1.1 in
    let room = rw (← c.self.view_is) at c.requires.nodes in
    let missing = c.saturating_sub-missing.ensures in
    let items : c.resize.new.self.items ≡ i.kinds.items ++ replicate c.saturating_sub-missing.result None = grind (arith, common_steps, c.in-Ok-resize.ensures.items) in
    let count = ap length items ∙ length-append i.kinds.items (replicate c.saturating_sub-missing.result None) ∙ ap (λ n. length i.kinds.items + n) (length-replicate {A = Option Kind} c.saturating_sub-missing.result None) in
    let now = ap free_in items ∙ free-more i.kinds.items c.saturating_sub-missing.result in
    let a = grows v w c.saturating_sub-missing.result i.least i.bound graph c.self.invariant.1.0 c.self.invariant.1.1.0 items c.reserve.ensures.rings (omega (arith, count, c.in-Ok.ensures.nodes, c.len.ensures, i.kinds.ok.0, graph.room, missing)) (omega (arith, count, graph.few, room, free, missing, free-within i.kinds.items)) in
    rw (← c.self.view_is) a.net

pub returns-clause-fanouts : goal.returns-clause-fanouts
returns-clause-fanouts c =
    let i = c.self.inside in
    let v : Circuit = record { kinds = i.kinds.items; pool = i.pool; epoch = i.epoch } in
    let w : Circuit = record { kinds = c.resize.new.self.items; pool = c.reserve.new.self; epoch = i.epoch } in
    let graph : IsGraph v = c.self.invariant.0 in
    let free = c.self.invariant.1.1.1 in
    let room = rw (← c.self.view_is) at c.requires.nodes in
    let missing = c.saturating_sub-missing.ensures in
    let items : c.resize.new.self.items ≡ i.kinds.items ++ replicate c.saturating_sub-missing.result None = grind (arith, common_steps, c.in-Ok-resize.ensures.items) in
    let count = ap length items ∙ length-append i.kinds.items (replicate c.saturating_sub-missing.result None) ∙ ap (λ n. length i.kinds.items + n) (length-replicate {A = Option Kind} c.saturating_sub-missing.result None) in
    let now = ap free_in items ∙ free-more i.kinds.items c.saturating_sub-missing.result in
    let a = grows v w c.saturating_sub-missing.result i.least i.bound graph c.self.invariant.1.0 c.self.invariant.1.1.0 items c.reserve.ensures.rings (omega (arith, count, c.in-Ok.ensures.nodes, c.len.ensures, i.kinds.ok.0, graph.room, missing)) (omega (arith, count, graph.few, room, free, missing, free-within i.kinds.items)) in
    rw (← c.self.view_is) a.readers

pub returns-clause-wiring : goal.returns-clause-wiring
returns-clause-wiring c =
    let i = c.self.inside in
    let v : Circuit = record { kinds = i.kinds.items; pool = i.pool; epoch = i.epoch } in
    let w : Circuit = record { kinds = c.resize.new.self.items; pool = c.reserve.new.self; epoch = i.epoch } in
    let graph : IsGraph v = c.self.invariant.0 in
    let free = c.self.invariant.1.1.1 in
    let room = rw (← c.self.view_is) at c.requires.nodes in
    let missing = c.saturating_sub-missing.ensures in
    let items : c.resize.new.self.items ≡ i.kinds.items ++ replicate c.saturating_sub-missing.result None = grind (arith, common_steps, c.in-Ok-resize.ensures.items) in
    let count = ap length items ∙ length-append i.kinds.items (replicate c.saturating_sub-missing.result None) ∙ ap (λ n. length i.kinds.items + n) (length-replicate {A = Option Kind} c.saturating_sub-missing.result None) in
    let now = ap free_in items ∙ free-more i.kinds.items c.saturating_sub-missing.result in
    let a = grows v w c.saturating_sub-missing.result i.least i.bound graph c.self.invariant.1.0 c.self.invariant.1.1.0 items c.reserve.ensures.rings (omega (arith, count, c.in-Ok.ensures.nodes, c.len.ensures, i.kinds.ok.0, graph.room, missing)) (omega (arith, count, graph.few, room, free, missing, free-within i.kinds.items)) in
    rw (← c.self.view_is) a.wiring_is

pub returns-clause-undos : goal.returns-clause-undos
returns-clause-undos c =
    let i = c.self.inside in
    let v : Circuit = record { kinds = i.kinds.items; pool = i.pool; epoch = i.epoch } in
    let w : Circuit = record { kinds = c.resize.new.self.items; pool = c.reserve.new.self; epoch = i.epoch } in
    let graph : IsGraph v = c.self.invariant.0 in
    let free = c.self.invariant.1.1.1 in
    let room = rw (← c.self.view_is) at c.requires.nodes in
    let missing = c.saturating_sub-missing.ensures in
    let items : c.resize.new.self.items ≡ i.kinds.items ++ replicate c.saturating_sub-missing.result None = grind (arith, common_steps, c.in-Ok-resize.ensures.items) in
    let count = ap length items ∙ length-append i.kinds.items (replicate c.saturating_sub-missing.result None) ∙ ap (λ n. length i.kinds.items + n) (length-replicate {A = Option Kind} c.saturating_sub-missing.result None) in
    let now = ap free_in items ∙ free-more i.kinds.items c.saturating_sub-missing.result in
    let a = grows v w c.saturating_sub-missing.result i.least i.bound graph c.self.invariant.1.0 c.self.invariant.1.1.0 items c.reserve.ensures.rings (omega (arith, count, c.in-Ok.ensures.nodes, c.len.ensures, i.kinds.ok.0, graph.room, missing)) (omega (arith, count, graph.few, room, free, missing, free-within i.kinds.items)) in
    rw (← c.self.view_is) a.undos

pub returns-clause-kept_nodes : goal.returns-clause-kept_nodes
returns-clause-kept_nodes c =
    let i = c.self.inside in
    let v : Circuit = record { kinds = i.kinds.items; pool = i.pool; epoch = i.epoch } in
    let w : Circuit = record { kinds = c.resize.new.self.items; pool = c.reserve.new.self; epoch = i.epoch } in
    let graph : IsGraph v = c.self.invariant.0 in
    let free = c.self.invariant.1.1.1 in
    let room = rw (← c.self.view_is) at c.requires.nodes in
    let missing = c.saturating_sub-missing.ensures in
    let items : c.resize.new.self.items ≡ i.kinds.items ++ replicate c.saturating_sub-missing.result None = grind (arith, common_steps, c.in-Ok-resize.ensures.items) in
    let count = ap length items ∙ length-append i.kinds.items (replicate c.saturating_sub-missing.result None) ∙ ap (λ n. length i.kinds.items + n) (length-replicate {A = Option Kind} c.saturating_sub-missing.result None) in
    let now = ap free_in items ∙ free-more i.kinds.items c.saturating_sub-missing.result in
    let a = grows v w c.saturating_sub-missing.result i.least i.bound graph c.self.invariant.1.0 c.self.invariant.1.1.0 items c.reserve.ensures.rings (omega (arith, count, c.in-Ok.ensures.nodes, c.len.ensures, i.kinds.ok.0, graph.room, missing)) (omega (arith, count, graph.few, room, free, missing, free-within i.kinds.items)) in
    rw (← c.self.view_is) (omega (arith, now))

pub returns-clause-live : goal.returns-clause-live
returns-clause-live c =
    let i = c.self.inside in
    let v : Circuit = record { kinds = i.kinds.items; pool = i.pool; epoch = i.epoch } in
    let w : Circuit = record { kinds = c.resize.new.self.items; pool = c.reserve.new.self; epoch = i.epoch } in
    let graph : IsGraph v = c.self.invariant.0 in
    let free = c.self.invariant.1.1.1 in
    let room = rw (← c.self.view_is) at c.requires.nodes in
    let missing = c.saturating_sub-missing.ensures in
    let items : c.resize.new.self.items ≡ i.kinds.items ++ replicate c.saturating_sub-missing.result None = grind (arith, common_steps, c.in-Ok-resize.ensures.items) in
    let count = ap length items ∙ length-append i.kinds.items (replicate c.saturating_sub-missing.result None) ∙ ap (λ n. length i.kinds.items + n) (length-replicate {A = Option Kind} c.saturating_sub-missing.result None) in
    let now = ap free_in items ∙ free-more i.kinds.items c.saturating_sub-missing.result in
    let a = grows v w c.saturating_sub-missing.result i.least i.bound graph c.self.invariant.1.0 c.self.invariant.1.1.0 items c.reserve.ensures.rings (omega (arith, count, c.in-Ok.ensures.nodes, c.len.ensures, i.kinds.ok.0, graph.room, missing)) (omega (arith, count, graph.few, room, free, missing, free-within i.kinds.items)) in
    rw (← c.self.view_is) (omega (arith, now, count, free-within i.kinds.items))

pub returns-clause-nodes : goal.returns-clause-nodes
returns-clause-nodes c =
    let i = c.self.inside in
    let v : Circuit = record { kinds = i.kinds.items; pool = i.pool; epoch = i.epoch } in
    let w : Circuit = record { kinds = c.resize.new.self.items; pool = c.reserve.new.self; epoch = i.epoch } in
    let graph : IsGraph v = c.self.invariant.0 in
    let free = c.self.invariant.1.1.1 in
    let room = rw (← c.self.view_is) at c.requires.nodes in
    let missing = c.saturating_sub-missing.ensures in
    let items : c.resize.new.self.items ≡ i.kinds.items ++ replicate c.saturating_sub-missing.result None = grind (arith, common_steps, c.in-Ok-resize.ensures.items) in
    let count = ap length items ∙ length-append i.kinds.items (replicate c.saturating_sub-missing.result None) ∙ ap (λ n. length i.kinds.items + n) (length-replicate {A = Option Kind} c.saturating_sub-missing.result None) in
    let now = ap free_in items ∙ free-more i.kinds.items c.saturating_sub-missing.result in
    let a = grows v w c.saturating_sub-missing.result i.least i.bound graph c.self.invariant.1.0 c.self.invariant.1.1.0 items c.reserve.ensures.rings (omega (arith, count, c.in-Ok.ensures.nodes, c.len.ensures, i.kinds.ok.0, graph.room, missing)) (omega (arith, count, graph.few, room, free, missing, free-within i.kinds.items)) in
    omega (arith, now, missing, free)

pub returns-in_default-resize-clause-held : goal.returns-in_default-resize-clause-held
returns-in_default-resize-clause-held c =
    let i = c.self.inside in
    let v : Circuit = record { kinds = i.kinds.items; pool = i.pool; epoch = i.epoch } in
    let w : Circuit = record { kinds = c.resize.new.self.items; pool = c.reserve.new.self; epoch = i.epoch } in
    held-kept c.args.self.now w (returns-in_default-resize-clause-net c) (ap finset.len c.reserve.ensures.taken ∙ ap (λ (u : Circuit). finset.len u.pool.taken) c.self.view_is)

pub returns-clause-held : goal.returns-clause-held
returns-clause-held c =
    let i = c.self.inside in
    let w : Circuit = record { kinds = c.resize.new.self.items; pool = c.reserve.new.self; epoch = i.epoch } in
    held-kept c.args.self.now w (returns-clause-net c) (ap finset.len c.reserve.ensures.taken ∙ ap (λ (u : Circuit). finset.len u.pool.taken) c.self.view_is)
