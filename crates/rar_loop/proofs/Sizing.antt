-- What steps leave of the number of gates, of the observed places and of the sources, and how large a graph is then.
use Rattle.std.proofs.Common.{◌≡◌, ◌+◌, ◌≤◌, Bool, true, false, Option, Some, None, List, [], ◌∷◌, length, ◌∙◌, ap, arith}
use Rattle.std.specs.Prelude.{max, if◌then◌else◌}
use Rattle.std.specs.List.{sum_by}
use Rattle.std.proofs.lemmas.List.Sums.{sum_by-cons}
use Rattle.rm_base.specs.declared.numbers.NodeId.{NodeId}
use Rattle.gate_net.specs.Net.{Node, Net, IsWellFormed, gate_count, source_count, wire_count}
use Rattle.gate_net.specs.declared.Kind.TheVariants.{Not}
use Rattle.gate_graph.specs.Circuit.{Circuit, net_of, pins_taken, live_nodes}
use Rattle.gate_graph.specs.Holds.{held, pins_held, HoldsOn}
use Rattle.wire_edit.proofs.Public.{length_budget}
use Rattle.wire_edit.specs.declared.steps.Step.TheVariants.{Add, NewNot}
use Rattle.wire_edit.specs.Changes.{with_least_free}
use Rattle.wire_edit.specs.Steps.{stepped, change_of}
use Rattle.wire_edit.specs.Refusals.{live_count}
use Rattle.wire_edit.specs.Order.{node}
use Rattle.wire_edit.specs.Tests.{live_in}
use Rattle.wire_edit.specs.Tried.{Tried}
use Rattle.recorded_removals.proofs.Public.{add_gates, new_not_gates, places_stay}
use Rattle.candidate_wires.specs.declared.candidate.Candidate.{Candidate}
use Rattle.candidate_wires.specs.Gains.{net_for, with_candidate, wire_for}
use Rattle.journal_text.specs.declared.record.Record.{Record}
use Rattle.journal_text.specs.declared.record.Record.TheVariants as record_of
use Rattle.journal_text.specs.Runs.{AcceptedTo}
use Rattle.journal_text.specs.Accepted.{AcceptedStepsKeep}
use Rattle.rar_loop.specs.Sizes.{IsSame, IsWithin}

-- GATES
gates_for : (net : Net) (x : NodeId) (fresh : Bool) → gate_count (if fresh then stepped net (NewNot x) else net) ≤ gate_count net + 1
gates_for net x true = new_not_gates net x
gates_for net x false = omega arith

pub added_gates : (net : Net) (c : Candidate) → gate_count (with_candidate net c) ≤ gate_count net + 1
added_gates net c =
    let a : gate_count (with_candidate net c) ≤ gate_count (net_for net c) = add_gates (net_for net c) c.gate (node (wire_for net c)) in
    let b : gate_count (net_for net c) ≤ gate_count net + 1 = gates_for net c.node c.fresh in
    omega (arith, a, b)

-- NUMBERS
least_length : (os : List (Option Node)) (n : Node) → length (with_least_free os n) ≤ max (length os) (sum_by live_in os + 1)
least_length [] n = omega arith
least_length (None ∷ os) n = omega arith
least_length (Some m ∷ os) n =
    let rest : length (with_least_free os n) ≤ max (length os) (sum_by live_in os + 1) = least_length os n in
    let a : sum_by live_in (Some m ∷ os) ≡ 1 + sum_by live_in os = sum_by-cons live_in (Some m) os in
    omega (arith, rest, a)

numbers_for : (net : Net) (x : NodeId) (fresh : Bool) → length (if fresh then stepped net (NewNot x) else net).nodes ≤ max (length net.nodes) (live_count net + 1)
numbers_for net x true = least_length net.nodes (record { kind = Not; drivers = x.0 ∷ [] })
numbers_for net x false = omega arith

pub added_numbers : (net : Net) (c : Candidate) → length (with_candidate net c).nodes ≤ max (length net.nodes) (live_count net + 1)
added_numbers net c =
    let a : length (with_candidate net c).nodes ≤ length (net_for net c).nodes + 0 = length_budget (net_for net c) (change_of (net_for net c) (Add c.gate (node (wire_for net c)))) in
    let b : length (net_for net c).nodes ≤ max (length net.nodes) (live_count net + 1) = numbers_for net c.node c.fresh in
    omega (arith, a, b)

one_for : (net : Net) (x : NodeId) (fresh : Bool) → length (if fresh then stepped net (NewNot x) else net).nodes ≤ length net.nodes + 1
one_for net x true = length_budget net (change_of net (NewNot x))
one_for net x false = omega arith

pub added_one : (net : Net) (c : Candidate) → length (with_candidate net c).nodes ≤ length net.nodes + 1
added_one net c =
    let a : length (with_candidate net c).nodes ≤ length (net_for net c).nodes + 0 = length_budget (net_for net c) (change_of (net_for net c) (Add c.gate (node (wire_for net c)))) in
    let b : length (net_for net c).nodes ≤ length net.nodes + 1 = one_for net c.node c.fresh in
    omega (arith, a, b)

-- OBSERVED PLACES AND SOURCES
pub accepted_places : (net after : Net) (records : List Record) → AcceptedTo net records after → length after.observed ≡ length net.observed
accepted_places net after [] a = ap (λ (n : Net). length n.observed) a
accepted_places net after (record_of.Step step tree ∷ records) a = accepted_places (stepped net step) after records a.1 ∙ places_stay net (change_of net step)
accepted_places net after (record_of.Hit fault vector ∷ records) a = absurd a
accepted_places net after (record_of.Spent fault tree ∷ records) a = absurd a

pub accepted_sources : AcceptedStepsKeep → (net after : Net) (records : List Record) → IsWellFormed net → AcceptedTo net records after → source_count after ≡ source_count net
accepted_sources law net after [] well a = ap source_count a
accepted_sources law net after (record_of.Step step tree ∷ records) well a =
    let k = law net step tree well a.0 in
    accepted_sources law (stepped net step) after records k.form a.1 ∙ k.sources
accepted_sources law net after (record_of.Hit fault vector ∷ records) well a = absurd a
accepted_sources law net after (record_of.Spent fault tree ∷ records) well a = absurd a

-- SIZES OF GRAPHS
-- what `well_formed` tells of a graph
pub record HasSize (v : Circuit) : Type 0 where
  pub live : live_nodes v ≡ 2 + source_count (net_of v) + gate_count (net_of v)
  pub pins : wire_count (net_of v) + length (net_of v).observed + pins_held v ≡ pins_taken v

pub within_by : (v w : Circuit) → HasSize v → HasSize w → pins_held w ≡ pins_held v → length (net_of w).observed ≡ length (net_of v).observed → source_count (net_of w) ≡ source_count (net_of v)
    → wire_count (net_of w) + gate_count (net_of w) ≤ wire_count (net_of v) + gate_count (net_of v) → length (net_of w).nodes ≤ max (length (net_of v).nodes) (pins_taken v + live_nodes v) → IsWithin v w
within_by v w s t held places sources sum numbers = record { size = omega (arith, s.live, s.pins, t.live, t.pins, held, places, sources, sum); held = held; numbers = numbers }

pub within_same : (v w : Circuit) → IsSame v w → IsWithin v w
within_same v w s =
    let wires : wire_count (net_of w) + length (net_of w).observed ≡ wire_count (net_of v) + length (net_of v).observed = ap (λ (n : Net). wire_count n + length n.observed) s.net in
    let numbers : length (net_of w).nodes ≡ length (net_of v).nodes = ap (λ (n : Net). length n.nodes) s.net in
    record { size = omega (arith, s.pins, s.nodes); held = omega (arith, s.pins, wires); numbers = omega (arith, numbers) }

pub within_then : (u v w : Circuit) → IsWithin u v → IsWithin v w → IsWithin u w
within_then u v w a b = record { size = omega (arith, a.size, b.size); held = b.held ∙ a.held; numbers = omega (arith, a.size, a.numbers, b.numbers) }

-- once the undos' pins are given back as many are held as at the beginning
pub held_back : (start : Circuit) (t u : Tried) (after : Circuit) → pins_held t.graph ≡ pins_held start → t.trail.entries ≡ [] → HoldsOn t.graph u.graph t.trail.entries u.trail.entries → pins_held after + length (held u.trail.entries) ≡ pins_held u.graph → pins_held after ≡ pins_held start
held_back start t u after same none holds back =
    let zero_held : length (held t.trail.entries) ≡ 0 = ap (λ es. length (held es)) none in
    omega (arith, same, holds, back, zero_held)
