-- What an exchange leaves.
use Rattle.std.proofs.Common.{◌≡◌, ◌<◌, ◌≤◌, ℕ, ◌+◌, Bool, true, false, List, [], length, refl, sym, ap, subst, arith}
use Rattle.std.specs.Prelude.{max, nat_lt, ◌||◌}
use Rattle.std.proofs.lemmas.Bool.{ltb-false}
use Rattle.rm_base.specs.declared.numbers.Fault.{Fault}
use Rattle.gate_net.specs.Net.{Net, IsWellFormed, gate_count, source_count, wire_count}
use Rattle.gate_graph.specs.Circuit.{Circuit, net_of}
use Rattle.gate_graph.specs.Holds.{held, pins_held}
use Rattle.gate_net.specs.Values.{HasPin}
use Rattle.recorded_removals.specs.Going.{Tallies}
use Rattle.wire_edit.specs.Order.{IsTidy}
use Rattle.wire_edit.specs.Refusals.{live_count}
use Rattle.wire_edit.specs.Tried.{Tried}
use Rattle.candidate_wires.specs.declared.candidate.Pair.{Pair}
use Rattle.journal_text.specs.Accepted.{AcceptedStepsKeep}
use Rattle.journal_text.specs.declared.record.Record.{Record}
use Rattle.journal_text.specs.Runs.{AcceptedTo, steps_of}
use Rattle.wire_edit.proofs.Public.{live_bound}
use Rattle.rar_loop.specs.Perturbed.{IsExchange}
use Rattle.rar_loop.specs.Sizes.{IsSame, most_steps}
use Rattle.rar_loop.specs.Trying.{IsLent}
use Rattle.rar_loop.specs.Inner.Exchanging.{HasNumbers, IsExchanged}
use Rattle.rar_loop.specs.Inner.Trying.{IsReplaced}
use Rattle.rar_loop.proofs.Blocks.{accepted_after}
use Rattle.rar_loop.proofs.Replacing.{addition_of, some_wire}
use Rattle.rar_loop.proofs.Sizing.{HasSize, held_back, accepted_places, accepted_sources, within_by, within_same, within_then}

-- a pair that was put through is an exchange where there are no more wires and no more gates
pub exchanged_of :
    AcceptedStepsKeep → (graph now : Circuit) (after : Net) (pair : Pair) (depth : ℕ) (records : List Record) → IsWellFormed (net_of graph) → HasSize graph → HasSize now → net_of now ≡ after → IsReplaced (net_of graph) pair depth records after
    → 0 < wire_count (net_of graph) → wire_count after ≤ wire_count (net_of graph) → gate_count after ≤ gate_count (net_of graph) → pins_held now ≡ pins_held graph → length records ≤ most_steps → IsExchanged graph pair.fault depth records now
exchanged_of law graph now after pair depth records well size size' is replaced some wires gates held few =
    let net : Net = net_of graph in
    let r : IsReplaced net pair depth records (net_of now) = subst (λ (n : Net). IsReplaced net pair depth records n) (sym is) replaced in
    let less : wire_count (net_of now) ≤ wire_count net = subst (λ (n : Net). wire_count n ≤ wire_count net) (sym is) wires in
    let fewer : gate_count (net_of now) ≤ gate_count net = subst (λ (n : Net). gate_count n ≤ gate_count net) (sym is) gates in
    let live : live_count net ≤ 2 + (source_count net + gate_count net) = live_bound net well in
    record {
      accepted = r.accepted;
      exchange = record {
        candidate = pair.candidate;
        addition = addition_of net (net_of now) pair depth records r;
        ends = accepted_after net (net_of now) records r.accepted;
        wires = less;
        gates = fewer;
        swept = r.swept.swept;
      };
      tidy = r.tidy;
      within = within_by graph now size size' held (accepted_places net (net_of now) records r.accepted) (accepted_sources law net (net_of now) records well r.accepted) (omega (arith, less, fewer))
          (omega (arith, r.numbers, live, size.live, size.pins, some));
      sources = accepted_sources law net (net_of now) records well r.accepted;
      numbers = omega (arith, r.numbers, live);
      few = few;
    }

-- an exchange on the same graph as before is one of that graph
pub exchanged_back : (u v graph : Circuit) (target : Fault) (depth : ℕ) (records : List Record) → IsSame u v → IsExchanged v target depth records graph → IsExchanged u target depth records graph
exchanged_back u v graph target depth records same e = record {
  accepted = subst (λ (n : Net). AcceptedTo n records (net_of graph)) same.net e.accepted;
  exchange = subst (λ (n : Net). IsExchange n target depth (steps_of records) (net_of graph)) same.net e.exchange;
  tidy = e.tidy;
  within = within_then u v graph (within_same u v same) e.within;
  sources = subst (λ (n : Net). source_count (net_of graph) ≡ source_count n) same.net e.sources;
  numbers = subst (λ (n : Net). length (net_of graph).nodes ≤ max (length n.nodes) (3 + source_count n + gate_count n)) same.net e.numbers;
  few = e.few;
}

-- and on a graph of the same size as what it gives
pub exchanged_on : (u v graph : Circuit) (target : Fault) (depth : ℕ) (records : List Record) → IsSame v graph → IsExchanged u target depth records v → IsExchanged u target depth records graph
exchanged_on u v graph target depth records same e = record {
  accepted = subst (λ (n : Net). AcceptedTo (net_of u) records n) (sym same.net) e.accepted;
  exchange = subst (λ (n : Net). IsExchange (net_of u) target depth (steps_of records) n) (sym same.net) e.exchange;
  tidy = subst IsTidy (sym same.net) e.tidy;
  within = within_then u v graph e.within (within_same v graph same);
  sources = subst (λ (n : Net). source_count n ≡ source_count (net_of u)) (sym same.net) e.sources;
  numbers = subst (λ (n : Net). length n.nodes ≤ max (length (net_of u).nodes) (3 + source_count (net_of u) + gate_count (net_of u))) (sym same.net) e.numbers;
  few = e.few;
}

-- the numbers still suffice
pub numbers_on : (before now : Circuit) (target : Fault) (depth numbers : ℕ) (records : List Record) → IsExchanged before target depth records now → HasNumbers (net_of before) numbers → HasNumbers (net_of now) numbers
numbers_on before now target depth numbers records e h = record { nodes = omega (arith, e.numbers, h.nodes, h.live); live = omega (arith, e.sources, e.exchange.gates, h.live) }

pub numbers_same : (u v : Circuit) (numbers : ℕ) → IsSame u v → HasNumbers (net_of u) numbers → HasNumbers (net_of v) numbers
numbers_same u v numbers same h = subst (λ (n : Net). HasNumbers n numbers) (sym same.net) h

-- what isn't larger has no more wires and no more gates
or_false : (a b : Bool) → (a || b) ≡ false → (a ≡ false) × (b ≡ false)
or_false true b e = cc
or_false false b e = (refl, e)

pub not_larger : (wires gates w g : ℕ) → (nat_lt wires w || nat_lt gates g) ≡ false → (w ≤ wires) × (g ≤ gates)
not_larger wires gates w g e =
    let both = or_false (nat_lt wires w) (nat_lt gates g) e in
    (ltb-false wires w both.0, ltb-false gates g both.1)

-- what was put through and kept is an exchange: of the trial before, with what was put through, and once it is kept
pub exchanged_kept :
    AcceptedStepsKeep → (t v k : Tried) (pair : Pair) (depth : ℕ) (none records : List Record) (wires gates : ℕ) → IsWellFormed (net_of t.graph) → HasSize t.graph → HasSize k.graph → IsLent t → HasPin (net_of t.graph) pair.fault
    → IsReplaced (net_of t.graph) pair depth records (net_of v.graph) → wires ≡ wire_count (net_of t.graph) → gates ≡ gate_count (net_of t.graph)
    → (nat_lt wires (wire_count (net_of v.graph)) || nat_lt gates (gate_count (net_of v.graph))) ≡ false → Tallies t v none records → none ≡ []
    → net_of k.graph ≡ net_of v.graph → pins_held k.graph + length (held v.trail.entries) ≡ pins_held v.graph → IsExchanged t.graph pair.fault depth records k.graph
exchanged_kept law t v k pair depth none records wires gates well size size' lent pin replaced w g small tallies empty is back =
    let less : (wire_count (net_of v.graph) ≤ wires) × (gate_count (net_of v.graph) ≤ gates) = not_larger wires gates (wire_count (net_of v.graph)) (gate_count (net_of v.graph)) small in
    let fewer : wire_count (net_of v.graph) ≤ wire_count (net_of t.graph) = let l : wire_count (net_of v.graph) ≤ wires = less.0 in omega (arith, l, w) in
    let gone : gate_count (net_of v.graph) ≤ gate_count (net_of t.graph) = let l : gate_count (net_of v.graph) ≤ gates = less.1 in omega (arith, l, g) in
    let held_now : pins_held k.graph ≡ pins_held t.graph = held_back t.graph t v k.graph refl lent.entries tallies.holds back in
    let first : t.room.steps ≡ t.first.steps = ap (λ r. r.steps) lent.room in
    let zero_records : length none ≡ 0 = ap (λ (rs : List Record). length rs) empty in
    let few : length records ≤ most_steps = omega (arith, tallies.spent, zero_records, first, lent.few_steps) in
    exchanged_of law t.graph k.graph (net_of v.graph) pair depth records well size size' is replaced (some_wire (net_of t.graph) pair.fault pin) fewer gone held_now few
