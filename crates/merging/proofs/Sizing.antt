-- What steps leave of the number of gates, of the observed places and of the sources, and how large a graph is then.
use Rattle.std.proofs.Common.{◌≡◌, ◌+◌, ◌≤◌, List, [], ◌∷◌, length, ◌∙◌, ap, arith}
use Rattle.gate_net.specs.Net.{Net, IsWellFormed, gate_count, source_count, wire_count}
use Rattle.gate_graph.specs.Circuit.{Circuit, net_of, pins_taken, live_nodes}
use Rattle.gate_graph.specs.Holds.{held, pins_held, HoldsOn}
use Rattle.wire_edit.specs.Steps.{stepped, change_of}
use Rattle.wire_edit.specs.Tried.{Tried}
use Rattle.recorded_removals.proofs.Public.{places_stay}
use Rattle.journal_text.specs.declared.record.Record.{Record}
use Rattle.journal_text.specs.declared.record.Record.TheVariants as record_of
use Rattle.journal_text.specs.Runs.{AcceptedTo}
use Rattle.journal_text.specs.Accepted.{AcceptedStepsKeep}
use Rattle.merging.specs.Merged.{IsWithin}

-- OBSERVED PLACES AND SOURCES
pub accepted_places : (net after : Net) (records : List Record) → AcceptedTo net records after → length after.observed ≡ length net.observed
accepted_places net after [] a = ap (λ (n : Net). length n.observed) a
accepted_places net after (record_of.Step step tree ∷ records) a = accepted_places (stepped net step) after records a.1 ∙ places_stay net (change_of net step)
accepted_places net after (record_of.Hit fault vector ∷ records) a = absurd a
accepted_places net after (record_of.Spent fault tree ∷ records) a = absurd a

pub accepted_sources : AcceptedStepsKeep → (net after : Net) (records : List Record) → IsWellFormed net → AcceptedTo net records after → source_count after ≡ source_count net
accepted_sources law net after [] well a = ap source_count a
accepted_sources law net after (record_of.Step step tree ∷ records) well a =
    let k = law net step tree well a.0 in
    accepted_sources law (stepped net step) after records k.form a.1 ∙ k.sources
accepted_sources law net after (record_of.Hit fault vector ∷ records) well a = absurd a
accepted_sources law net after (record_of.Spent fault tree ∷ records) well a = absurd a

-- SIZES OF GRAPHS
-- what `well_formed` tells of a graph
pub record HasSize (v : Circuit) : Type 0 where
  pub live : live_nodes v ≡ 2 + source_count (net_of v) + gate_count (net_of v)
  pub pins : wire_count (net_of v) + length (net_of v).observed + pins_held v ≡ pins_taken v

pub within_by : (v w : Circuit) → HasSize v → HasSize w → pins_held w ≡ pins_held v → length (net_of w).observed ≡ length (net_of v).observed → source_count (net_of w) ≡ source_count (net_of v)
    → wire_count (net_of w) + gate_count (net_of w) ≤ wire_count (net_of v) + gate_count (net_of v) → IsWithin v w
within_by v w s t held places sources sum = record { size = omega (arith, s.live, s.pins, t.live, t.pins, held, places, sources, sum); held = held }

-- a graph of the same net that holds as many pins
pub within_same : (v w : Circuit) → HasSize v → HasSize w → net_of w ≡ net_of v → pins_held w ≡ pins_held v → IsWithin v w
within_same v w s t is held =
    within_by v w s t held (ap (λ (n : Net). length n.observed) is) (ap source_count is) (let e : wire_count (net_of w) + gate_count (net_of w) ≡ wire_count (net_of v) + gate_count (net_of v) = ap (λ (n : Net). wire_count n + gate_count n) is in omega (arith, e))

pub within_then : (u v w : Circuit) → IsWithin u v → IsWithin v w → IsWithin u w
within_then u v w a b = record { size = omega (arith, a.size, b.size); held = b.held ∙ a.held }

-- once the undos' pins are given back as many are held as at the beginning
pub held_back : (start : Circuit) (t u : Tried) (after : Circuit) → pins_held t.graph ≡ pins_held start → t.trail.entries ≡ [] → HoldsOn t.graph u.graph t.trail.entries u.trail.entries → pins_held after + length (held u.trail.entries) ≡ pins_held u.graph → pins_held after ≡ pins_held start
held_back start t u after same none holds back =
    let zero_held : length (held t.trail.entries) ≡ 0 = ap (λ es. length (held es)) none in
    omega (arith, same, holds, back, zero_held)
