use Rattle.std.proofs.Common.{ℕ, List, [], ◌-◌, ◌≤◌, ◌++◌, length, replicate, vec_len, arith, ap, ◌∙◌, length-append}
use Rattle.std.proofs.lemmas.List.{length-replicate}
use Rattle.pin_pool.specs.Inner.Links.{lists_of, numbers}
use Rattle.pin_pool.specs.declared.links.Side.TheVariants.{Gate}
use Rattle.pin_pool.proofs.PoolLemmas.{free-few}
use Rattle.pin_pool.proofs.RoomLemmas.{IsPool-more, grows-more, lists-more, len-taken, length-numbers}
use Rattle.pin_pool.proofs.store.Store.reserve.Goals as goal

pub grow-grown-requires-clause-few : goal.grow-grown-requires-clause-few
grow-grown-requires-clause-few c =
    let inside = c.self.inside in
    let r = c.self.invariant in
    let taken = len-taken (length inside.pins.items) inside.free.items r.free_apart r.free_within in
    let req = rw (← c.self.view_is) at c.requires.pins in
    omega (arith, taken, req, r.few, c.len.ensures, c.saturating_sub-more.ensures, inside.pins.ok.0, inside.free.ok.0)

pub grow-grown-requires-clause-free : goal.grow-grown-requires-clause-free
grow-grown-requires-clause-free c =
    let inside = c.self.inside in
    omega (arith, free-few _ _ _ _ _ c.self.invariant, inside.pins.ok.0, inside.free.ok.0)

pub invariant_of-self-2 : goal.invariant_of-self-2
invariant_of-self-2 c =
    let inside = c.self.inside in
    let r = c.self.invariant in
    let k = c.saturating_sub-more.result in
    let m = c.max-nodes.result - vec_len inside.gates in
    let free = c.in-Ok.ensures.free ∙ ap (λ n. inside.free.items ++ numbers n k) inside.pins.ok.0 in
    let taken = len-taken (length inside.pins.items) inside.free.items r.free_apart r.free_within in
    let req = rw (← c.self.view_is) at c.requires.pins in
    rw (c.in-Ok.ensures.pins, free, c.in-Ok.ensures.gates, c.in-Ok.ensures.drivers)
    (IsPool-more inside.pins.items inside.free.items _ _ inside.gates.items inside.drivers.items k m r
    (omega (arith, taken, req, r.few, c.len.ensures, c.saturating_sub-more.ensures, inside.free.ok.0))
    (omega (arith, c.requires.nodes, c.max-nodes.ensures, c.len-2.ensures, r.few_nodes, inside.gates.ok.0))
    (omega (arith, c.in-Ok.ensures.room, inside.pins.ok.0)))

pub returns-clause-spare : goal.returns-clause-spare
returns-clause-spare c =
    let inside = c.self.inside in
    let k = c.saturating_sub-more.result in
    let count = ap length c.in-Ok.ensures.free ∙ length-append inside.free.items (numbers (vec_len inside.pins) k) in
    omega (arith, count, length-numbers (vec_len inside.pins) k, c.len.ensures, c.saturating_sub-more.ensures, inside.free.ok.0)

pub returns-clause-nodes : goal.returns-clause-nodes
returns-clause-nodes c =
    let inside = c.self.inside in
    let k = c.saturating_sub-more.result in
    let m = c.max-nodes.result - vec_len inside.gates in
    let lists = lists-more Gate inside.pins.items inside.gates.items k m c.self.invariant.gate_lists in
    rw (c.in-Ok.ensures.pins, c.in-Ok.ensures.gates, lists)
    (omega (arith, length-append (lists_of Gate inside.pins.items inside.gates.items) (replicate m []), length-replicate {A = List ℕ} m [], c.self.invariant.gate_lists.sizes, c.max-nodes.ensures, c.len-2.ensures, inside.gates.ok.0))

pub returns-clause-grown : goal.returns-clause-grown
returns-clause-grown c =
    let inside = c.self.inside in
    let k = c.saturating_sub-more.result in
    let m = c.max-nodes.result - vec_len inside.gates in
    let free = c.in-Ok.ensures.free ∙ ap (λ n. inside.free.items ++ numbers n k) inside.pins.ok.0 in
    rw (← c.self.view_is, c.in-Ok.ensures.pins, free, c.in-Ok.ensures.gates, c.in-Ok.ensures.drivers)
    (grows-more inside.pins.items inside.free.items _ inside.gates.items inside.drivers.items k m c.self.invariant)

pub returns-clause-exact : goal.returns-clause-exact
returns-clause-exact c n nodes old =
    let inside = c.self.inside in
    let k = c.saturating_sub-more.result in
    let m = c.max-nodes.result - vec_len inside.gates in
    let lists = lists-more Gate inside.pins.items inside.gates.items k m c.self.invariant.gate_lists in
    let before : length (lists_of Gate inside.pins.items inside.gates.items) ≤ n = rw (← c.self.view_is) at old in
    rw (c.in-Ok.ensures.pins, c.in-Ok.ensures.gates, lists)
    (omega (arith, length-append (lists_of Gate inside.pins.items inside.gates.items) (replicate m []), length-replicate {A = List ℕ} m [], c.self.invariant.gate_lists.sizes, c.max-nodes.ensures, c.len-2.ensures, inside.gates.ok.0, nodes, before))
