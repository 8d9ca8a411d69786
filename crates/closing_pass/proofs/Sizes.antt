-- How many nodes a net has, and what a trial of it begins and ends with.
use Rattle.std.proofs.Common.{◌≡◌, ℕ, ◌+◌, ◌*◌, ◌≤◌, [], length, refl, sym, ap, arith}
use Rattle.gate_net.specs.Net.{Net, IsWellFormed, wire_count, source_count, gate_count}
use Rattle.gate_graph.specs.Circuit.{Circuit, live_nodes, net_of, pins_taken}
use Rattle.gate_graph.specs.Holds.{held, pins_held}
use Rattle.wire_edit.proofs.Public.{live_bound}
use Rattle.wire_edit.specs.Refusals.{live_count}
use Rattle.wire_edit.specs.Tried.{Tried}
use Rattle.wire_edit.specs.Work.{work, WorkIsBounded}
use Rattle.closing_pass.specs.Inner.Closing.{Went}
use Rattle.closing_pass.specs.Reports.{IsNoFuller}
use Rattle.recorded_removals.proofs.Public.{no_larger_same, no_larger_then}

-- what every graph tells of its sizes
pub record IsSized (graph : Circuit) : Type 0 where
  pub live : live_nodes graph ≡ 2 + source_count (net_of graph) + gate_count (net_of graph)
  pub pins : wire_count (net_of graph) + length (net_of graph).observed + pins_held graph ≡ pins_taken graph

-- the work of a graph that a trial may take is far from what its numbers hold
pub few_steps : WorkIsBounded → (graph : Circuit) → IsWellFormed (net_of graph) → IsSized graph → pins_taken graph + live_nodes graph ≤ 1048576 → work (net_of graph) ≤ 4194304
few_steps law graph well sized few =
    let w : work (net_of graph) ≤ 2 * wire_count (net_of graph) + 2 * live_count (net_of graph) = law (net_of graph) in
    let l : live_count (net_of graph) ≤ 2 + (source_count (net_of graph) + gate_count (net_of graph)) = live_bound (net_of graph) well in
    omega (arith, w, l, sized.live, sized.pins, few)

-- the room that a trial begins with suffices
pub room_first : WorkIsBounded → (net : Net) (steps : ℕ) → steps ≡ 2 * wire_count net + 2 * live_count net + 16 → work net ≤ steps
room_first law net steps is = let w : work net ≤ 2 * wire_count net + 2 * live_count net = law net in omega (arith, w, is)

-- what a trial that went on gives back
pub no_fuller :
    (graph last : Circuit) (t u : Tried) → net_of t.graph ≡ net_of graph → t.trail.entries ≡ [] → pins_held t.graph ≡ pins_held graph → Went t u → net_of last ≡ net_of u.graph
    → pins_held last + length (held u.trail.entries) ≡ pins_held u.graph → IsSized graph → IsSized last → IsNoFuller graph last
no_fuller graph last t u same empty start went end kept before after =
    let w : wire_count (net_of last) ≤ wire_count (net_of graph) = rw (end, sym same) went.no_larger.wires in
    let g : gate_count (net_of last) ≤ gate_count (net_of graph) = rw (end, sym same) went.no_larger.gates in
    let s : source_count (net_of last) ≡ source_count (net_of graph) = rw (end, sym same) went.no_larger.sources in
    let p : length (net_of last).observed ≡ length (net_of graph).observed = rw (end, sym same) went.no_larger.places in
    let none : length (held t.trail.entries) ≡ 0 = ap (λ es. length (held es)) empty in
    let h : pins_held last ≡ pins_held graph = omega (arith, went.held, kept, start, none) in
    record {
      pins = omega (arith, before.pins, after.pins, w, p, h);
      nodes = omega (arith, before.live, after.live, g, s);
      held = h;
    }

pub went_none : (t : Tried) → Went t t
went_none t = record { no_larger = no_larger_same (net_of t.graph); held = refl; room = λ le. le }

pub went_then : (t u v : Tried) → Went t u → Went u v → Went t v
went_then t u v a b = record {
  no_larger = no_larger_then (net_of t.graph) (net_of u.graph) (net_of v.graph) a.no_larger b.no_larger;
  held = omega (arith, a.held, b.held);
  room = λ le. b.room (a.room le);
}
