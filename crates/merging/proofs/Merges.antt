-- From merge to merge.
use Rattle.std.proofs.Common.{◌≡◌, ℕ, ◌+◌, ◌*◌, ◌<◌, ◌≤◌, List, [], ◌++◌, length, refl, sym, ◌∙◌, ap, subst, arith}
use Rattle.std.proofs.lemmas.List.{length-append}
use Rattle.gate_net.specs.Net.{Net, IsWellFormed, gate_count, source_count, wire_count}
use Rattle.gate_graph.specs.Circuit.{Circuit, net_of, live_nodes, pins_taken, wiring}
use Rattle.gate_graph.specs.Holds.{held, pins_held}
use Rattle.gate_graph.specs.Undoing.{back_to}
use Rattle.gate_graph.specs.declared.undo_list.Undo.{Undo}
use Rattle.journal_text.proofs.Public.{accepted_then}
use Rattle.journal_text.specs.Accepted.{AcceptedStepsKeep}
use Rattle.journal_text.specs.Runs.{AcceptedTo}
use Rattle.journal_text.specs.declared.record.Record.{Record}
use Rattle.wire_edit.proofs.Public.{live_bound}
use Rattle.wire_edit.specs.Refusals.{live_count}
use Rattle.wire_edit.specs.Tried.{IsAt, Tried, start_of}
use Rattle.wire_edit.specs.Work.{work, WorkIsBounded}
use Rattle.wire_edit.specs.declared.room.Room.{Room}
use Rattle.merging.specs.Inner.Going.{Goes, IsLent, Logs, Stays, most_steps}
use Rattle.merging.specs.Inner.Merging.{HasBegun, HasMerged, IsSame}
use Rattle.merging.specs.Merged.{IsWithin}
use Rattle.merging.proofs.GoingOn.{logs_none, logs_then}
use Rattle.merging.proofs.Sizing.{HasSize, accepted_places, accepted_sources, held_back, within_by, within_same, within_then}

-- NOTHING, AND ONE AFTER ANOTHER
pub merged_same : (v w : Circuit) (log : List Record) → HasSize v → HasSize w → net_of w ≡ net_of v → pins_held w ≡ pins_held v → HasMerged v w log log
merged_same v w log s t is same =
    let wires : wire_count (net_of w) ≡ wire_count (net_of v) = ap wire_count is in
    record {
      logs = subst (λ (n : Net). Logs (net_of v) n log log) (sym is) (logs_none (net_of v) log);
      fewer = omega (arith, wires);
      within = within_same v w s t is same;
      few = let e : wire_count (net_of w) * most_steps ≡ wire_count (net_of v) * most_steps = ap (λ (n : ℕ). n * most_steps) wires in omega (arith, e);
    }

pub merged_none : (v : Circuit) (log : List Record) → HasMerged v v log log
merged_none v log = record { logs = logs_none (net_of v) log; fewer = omega arith; within = record { size = omega arith; held = refl }; few = omega arith }

pub merged_then : (u v w : Circuit) (a b c : List Record) → HasMerged u v a b → HasMerged v w b c → HasMerged u w a c
merged_then u v w a b c one two = record {
  logs = logs_then (net_of u) (net_of v) (net_of w) a b c one.logs two.logs;
  fewer = omega (arith, one.fewer, two.fewer);
  within = within_then u v w one.within two.within;
  few = omega (arith, one.few, two.few);
}

-- A MERGE
-- all records that were added, where there were none at first
whole : (net after : Net) (none records : List Record) → none ≡ [] → Logs net after none records → AcceptedTo net records after
whole net after none records empty logs =
    let all : records ≡ logs.more = logs.added ∙ ap (λ (rs : List Record). rs ++ logs.more) empty in
    subst (λ (rs : List Record). AcceptedTo net rs after) (sym all) logs.accepted

-- a try that leaves fewer wires, as it is kept
pub merged_one :
    AcceptedStepsKeep → (t u : Tried) (k : Circuit) (none records log new : List Record) → IsWellFormed (net_of t.graph) → HasSize t.graph → HasSize k → IsLent t → none ≡ [] → Goes 1 9 t u none records → Stays t u
    → net_of k ≡ net_of u.graph → pins_held k + length (held u.trail.entries) ≡ pins_held u.graph → wire_count (net_of u.graph) < wire_count (net_of t.graph) → new ≡ log ++ records → HasMerged t.graph k log new
merged_one law t u k none records log new well s s' lent empty goes stays is back fewer all =
    let to : AcceptedTo (net_of t.graph) records (net_of k) = subst (λ (n : Net). AcceptedTo (net_of t.graph) records n) (sym is) (whole (net_of t.graph) (net_of u.graph) none records empty goes.logs) in
    let wires : wire_count (net_of k) ≡ wire_count (net_of u.graph) = ap wire_count is in
    let gates : gate_count (net_of k) ≡ gate_count (net_of u.graph) = ap gate_count is in
    let zero : length none ≡ 0 = ap (λ (rs : List Record). length rs) empty in
    let n : length new ≡ length log + length records = ap (λ (rs : List Record). length rs) all ∙ length-append log records in
    let first : t.room.steps ≡ t.first.steps = ap (λ (r : Room). r.steps) lent.room in
    record {
      logs = record { more = records; added = all; accepted = to };
      fewer = omega (arith, fewer, wires);
      within = within_by t.graph k s s' (held_back t.graph t u k refl lent.entries stays.holds back) (accepted_places (net_of t.graph) (net_of k) records to) (accepted_sources law (net_of t.graph) (net_of k) records well to) (omega (arith, fewer, wires, gates, goes.made));
      few = omega (arith, goes.spent, zero, n, first, lent.few_steps, fewer, wires);
    }

pub lent_kept :
    AcceptedStepsKeep → (t u k : Tried) (none records : List Record) → IsWellFormed (net_of t.graph) → IsLent t → none ≡ [] → Goes 1 9 t u none records → Stays t u → k.trail.entries ≡ [] → k.room ≡ record u.room { steps = u.first.steps } → k.first ≡ k.room
    → net_of k.graph ≡ net_of u.graph → wire_count (net_of u.graph) < wire_count (net_of t.graph) → IsLent k
lent_kept law t u k none records well lent empty goes stays entries room first is fewer =
    let to : AcceptedTo (net_of t.graph) records (net_of u.graph) = whole (net_of t.graph) (net_of u.graph) none records empty goes.logs in
    let sources : source_count (net_of u.graph) ≡ source_count (net_of t.graph) = accepted_sources law (net_of t.graph) (net_of u.graph) records well to in
    let w : wire_count (net_of k.graph) ≡ wire_count (net_of u.graph) = ap wire_count is in
    let s : source_count (net_of k.graph) ≡ source_count (net_of u.graph) = ap source_count is in
    let g : gate_count (net_of k.graph) ≡ gate_count (net_of u.graph) = ap gate_count is in
    let steps : k.first.steps ≡ u.first.steps = ap (λ (r : Room). r.steps) first ∙ ap (λ (r : Room). r.steps) room in
    let same : u.first.steps ≡ t.first.steps = ap (λ (r : Room). r.steps) stays.first in
    record { entries = entries; room = sym first; steps = omega (arith, lent.steps, sources, w, s, g, steps, same, fewer, goes.made); few_steps = omega (arith, lent.few_steps, steps, same) }

-- TAKEN BACK
at_start : (t : Tried) → t.trail.entries ≡ [] → wiring t.graph ≡ start_of t
at_start t e = ap (λ (es : List Undo). back_to (wiring t.graph) es) (sym e)

pub back_net : (t u k : Tried) → IsLent t → Stays t u → IsAt k.graph (start_of u) → net_of k.graph ≡ net_of t.graph
back_net t u k lent stays at = (at t.graph (at_start t lent.entries ∙ sym stays.start)).0

pub lent_back : (t u k : Tried) → IsLent t → Stays t u → IsAt k.graph (start_of u) → k.trail.entries ≡ [] → k.room ≡ u.first → k.first ≡ u.first → IsLent k
lent_back t u k lent stays at entries room first =
    let is : net_of k.graph ≡ net_of t.graph = back_net t u k lent stays at in
    let w : wire_count (net_of k.graph) ≡ wire_count (net_of t.graph) = ap wire_count is in
    let s : source_count (net_of k.graph) ≡ source_count (net_of t.graph) = ap source_count is in
    let g : gate_count (net_of k.graph) ≡ gate_count (net_of t.graph) = ap gate_count is in
    let steps : k.first.steps ≡ t.first.steps = ap (λ (r : Room). r.steps) first ∙ ap (λ (r : Room). r.steps) stays.first in
    record { entries = entries; room = room ∙ sym first; steps = omega (arith, lent.steps, w, s, g, steps); few_steps = omega (arith, lent.few_steps, steps) }

pub back_held : (t u k : Tried) → IsLent t → Stays t u → pins_held k.graph + length (held u.trail.entries) ≡ pins_held u.graph → pins_held k.graph ≡ pins_held t.graph
back_held t u k lent stays back = held_back t.graph t u k.graph refl lent.entries stays.holds back

-- ROOM
-- as much as a merge takes beside the work
pub room_for : (t : Tried) → WorkIsBounded → IsWellFormed (net_of t.graph) → IsLent t → work (net_of t.graph) + 9 ≤ t.room.steps
room_for t law well lent =
    let b : work (net_of t.graph) ≤ 2 * wire_count (net_of t.graph) + 2 * live_count (net_of t.graph) = law (net_of t.graph) in
    let l : live_count (net_of t.graph) ≤ 2 + (source_count (net_of t.graph) + gate_count (net_of t.graph)) = live_bound (net_of t.graph) well in
    let first : t.room.steps ≡ t.first.steps = ap (λ (r : Room). r.steps) lent.room in
    omega (arith, b, l, first, lent.steps)

-- AT THE BEGINNING
-- a trial of a graph that has begun has room for tidying
pub room_first : (t : Tried) (net : Net) → net_of t.graph ≡ net → WorkIsBounded → IsWellFormed net → t.room.steps ≡ 2 * wire_count net + 2 * (2 + source_count net + gate_count net) + 16 → work (net_of t.graph) ≤ t.room.steps
room_first t net e law well steps =
    let w : work (net_of t.graph) ≡ work net = ap work e in
    let b : work net ≤ 2 * wire_count net + 2 * live_count net = law net in
    let l : live_count net ≤ 2 + (source_count net + gate_count net) = live_bound net well in
    omega (arith, w, b, l, steps)

-- the graph, the trial at first and once tidied, and as it is kept
pub begun_first :
    AcceptedStepsKeep → (before : Circuit) (t u k : Tried) (none log : List Record) → IsWellFormed (net_of before) → HasSize before → HasSize k.graph → pins_taken before + live_nodes before ≤ 1048576 → net_of t.graph ≡ net_of before → pins_held t.graph ≡ pins_held before
    → t.room.steps ≡ 2 * wire_count (net_of before) + 2 * (2 + source_count (net_of before) + gate_count (net_of before)) + 16 → t.trail.entries ≡ [] → none ≡ [] → Goes 0 0 t u none log → Stays t u → wire_count (net_of u.graph) ≤ wire_count (net_of t.graph)
    → net_of k.graph ≡ net_of u.graph → pins_held k.graph + length (held u.trail.entries) ≡ pins_held u.graph → HasBegun before k.graph log
begun_first law before t u k none log well s s' few e same steps entries empty goes stays fewer is back =
    let to : AcceptedTo (net_of before) log (net_of k.graph) = subst (λ (n : Net). AcceptedTo (net_of before) log n) (sym is) (subst (λ (n : Net). AcceptedTo n log (net_of u.graph)) e (whole (net_of t.graph) (net_of u.graph) none log empty goes.logs)) in
    let w : wire_count (net_of k.graph) ≡ wire_count (net_of u.graph) = ap wire_count is in
    let g : gate_count (net_of k.graph) ≡ gate_count (net_of u.graph) = ap gate_count is in
    let w0 : wire_count (net_of t.graph) ≡ wire_count (net_of before) = ap wire_count e in
    let g0 : gate_count (net_of t.graph) ≡ gate_count (net_of before) = ap gate_count e in
    let zero : length none ≡ 0 = ap (λ (rs : List Record). length rs) empty in
    record {
      accepted = to;
      fewer = omega (arith, fewer, w, w0);
      within = within_by before k.graph s s' (held_back before t u k.graph same entries stays.holds back) (accepted_places (net_of before) (net_of k.graph) log to) (accepted_sources law (net_of before) (net_of k.graph) log well to) (omega (arith, fewer, goes.made, w, g, w0, g0));
      few = omega (arith, goes.spent, zero, steps, s.live, s.pins, few);
    }

-- the trial that was kept may be lent
pub lent_first :
    AcceptedStepsKeep → (before : Circuit) (t u k : Tried) (none log : List Record) → IsWellFormed (net_of before) → HasSize before → pins_taken before + live_nodes before ≤ 1048576 → net_of t.graph ≡ net_of before
    → t.room.steps ≡ 2 * wire_count (net_of before) + 2 * (2 + source_count (net_of before) + gate_count (net_of before)) + 16 → t.first ≡ t.room → Goes 0 0 t u none log → Stays t u → wire_count (net_of u.graph) ≤ wire_count (net_of t.graph)
    → net_of k.graph ≡ net_of u.graph → AcceptedTo (net_of before) log (net_of k.graph) → k.trail.entries ≡ [] → k.room ≡ record u.room { steps = u.first.steps } → k.first ≡ k.room → IsLent k
lent_first law before t u k none log well s few e steps first goes stays fewer is to entries room kept =
    let w : wire_count (net_of k.graph) ≡ wire_count (net_of u.graph) = ap wire_count is in
    let g : gate_count (net_of k.graph) ≡ gate_count (net_of u.graph) = ap gate_count is in
    let w0 : wire_count (net_of t.graph) ≡ wire_count (net_of before) = ap wire_count e in
    let g0 : gate_count (net_of t.graph) ≡ gate_count (net_of before) = ap gate_count e in
    let n : source_count (net_of k.graph) ≡ source_count (net_of before) = accepted_sources law (net_of before) (net_of k.graph) log well to in
    let all : k.first.steps ≡ t.room.steps = ap (λ (r : Room). r.steps) kept ∙ ap (λ (r : Room). r.steps) room ∙ ap (λ (r : Room). r.steps) stays.first ∙ ap (λ (r : Room). r.steps) first in
    record { entries = entries; room = sym kept; steps = omega (arith, all, steps, fewer, goes.made, w, g, w0, g0, n); few_steps = omega (arith, all, steps, s.live, s.pins, few) }

-- AT THE END
-- what the beginning and all merges did, as a graph of the same net
accepted_both : (before v w : Circuit) (log new : List Record) → HasBegun before v log → HasMerged v w log new → AcceptedTo (net_of before) new (net_of w)
accepted_both before v w log new begun merged = subst (λ (rs : List Record). AcceptedTo (net_of before) rs (net_of w)) (sym merged.logs.added) (accepted_then (net_of before) (net_of v) (net_of w) log merged.logs.more begun.accepted merged.logs.accepted)

pub end_accepted : (before v w g : Circuit) (log new : List Record) → HasBegun before v log → HasMerged v w log new → IsSame w g → AcceptedTo (net_of before) new (net_of g)
end_accepted before v w g log new begun merged same = subst (λ (n : Net). AcceptedTo (net_of before) new n) (sym same.net) (accepted_both before v w log new begun merged)

pub end_fewer : (before v w g : Circuit) (log new : List Record) → HasBegun before v log → HasMerged v w log new → IsSame w g → wire_count (net_of g) ≤ wire_count (net_of before)
end_fewer before v w g log new begun merged same = let e : wire_count (net_of g) ≡ wire_count (net_of w) = ap wire_count same.net in omega (arith, e, begun.fewer, merged.fewer)

pub end_within : (before v w g : Circuit) (log new : List Record) → HasSize w → HasSize g → HasBegun before v log → HasMerged v w log new → IsSame w g → IsWithin before g
end_within before v w g log new s s' begun merged same = within_then before v g begun.within (within_then v w g merged.within (within_same w g s s' same.net same.held))

-- and the records are far from the end of a count
pub end_few : (before v w : Circuit) (log new : List Record) → HasSize before → pins_taken before + live_nodes before ≤ 1048576 → HasBegun before v log → HasMerged v w log new → length new ≤ 35184372088832
end_few before v w log new s few begun merged = omega (arith, s.pins, few, begun.few, begun.fewer, merged.few)
