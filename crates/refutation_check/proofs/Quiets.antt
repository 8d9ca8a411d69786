-- Forward reading from what is known of the sources.
use Rattle.std.proofs.Common.{Bool, List, None, Option, Some, ap, arith, length, suc, zero, ℕ, ◌+◌, ◌-◌, ◌<◌, ◌∙◌, ◌∷◌, ◌≡◌, ◌≤◌, [], refl}
use Rattle.std.specs.Prelude.{IsTrue, slice_get, slice_index_or, ◌↔◌}
use Rattle.gate_net.specs.Forward.{IsForwardReading, Marking, MarksQuiet, ReadingsAgree, node_forward}
use Rattle.gate_net.specs.Net.{HasSources, IsAcyclic, IsKind, Net, Node, flatten_option, node_at, source_count}
use Rattle.gate_net.specs.declared.Kind.{Kind}
use Rattle.gate_net.specs.declared.Kind.TheVariants.{Source}
use Rattle.refutation.specs.Facts.{Held, known_good}
use Rattle.refutation.specs.Lines.{IsQuiet}
use Rattle.rm_base.specs.declared.numbers.Fault.{Fault}
use Rattle.rm_base.specs.declared.vectors.Value3.{Value3}
use Rattle.rm_base.specs.declared.vectors.Value3.TheVariants.{Unknown}
use Rattle.ternary_sim.proofs.Public.{own_counts}
use Rattle.ternary_sim.specs.Marks.{known_source, seen}

-- a live node's number is below the length of the list
pub live_within : (net : Net) (x : ℕ) (n : Node) → node_at net x ≡ Some n → x < length net.nodes
live_within net x n e = below net.nodes x n e
  where
    below : (nodes : List (Option Node)) (x : ℕ) (n : Node) → flatten_option (slice_get nodes x) ≡ Some n → x < length nodes
    below [] x n e = cc
    below (o ∷ nodes) zero n e = omega arith
    below (o ∷ nodes) (suc x) n e = let rest : x < length nodes = below nodes x n e in omega arith

-- only a source's value is taken from what is known
node_same : (o : Option Node) (a b : Option Bool) (os : List (Option Bool)) → ((drivers : List ℕ) → o ≡ Some (record { kind = Source; drivers = drivers }) → a ≡ b) → node_forward o a os ≡ node_forward o b os
node_same None a b os h = refl
node_same (Some n) a b os h = own_counts n.kind a b os (λ e. h n.drivers (ap (λ (k : Kind). Some (record n { kind = k })) e))

-- what is known of the sources alone counts
pub same_reading : (net : Net) (fault : Fault) (known other : ℕ → Option Bool) (m : Marking) → ((x : ℕ) → IsKind net x Source → known x ≡ other x) → IsForwardReading net fault known m → IsForwardReading net fault other m
same_reading net fault known other m same reading = record {
  good = λ x. reading.good x ∙ node_same (node_at net x) (known x) (other x) _ (λ drivers e. same x (drivers, e));
  faulty = λ x. reading.faulty x ∙ node_same (node_at net x) (known x) (other x) _ (λ drivers e. same x (drivers, e));
  equal = reading.equal;
}

-- what the simulator knows is what the facts tell of each source
abbrev pub AreKnown : Net → Held → List Value3 → Type 0
AreKnown net held sources = (k : ℕ) → k < source_count net → seen (slice_index_or sources k Unknown) ≡ known_good held (2 + k)

known_same : (net : Net) (held : Held) (sources : List Value3) → HasSources net → AreKnown net held sources → (x : ℕ) → IsKind net x Source → known_source sources x ≡ known_good held x
known_same net held sources has known x source =
    let bounds : (2 ≤ x) × (x < 2 + source_count net) = has.only x source in
    let e : 2 + (x - 2) ≡ x = omega (arith, bounds.0) in
    known (x - 2) (omega (arith, bounds.0, bounds.1)) ∙ ap (λ y. known_good held y) e

pub quiet_is : (net : Net) (fault : Fault) (held : Held) (sources : List Value3) (m : Marking) (answer : Bool) → ReadingsAgree → IsAcyclic net → HasSources net → AreKnown net held sources → IsForwardReading net fault (known_source sources) m → (IsTrue answer ↔ MarksQuiet net m) → IsTrue answer ↔ IsQuiet net fault held
quiet_is net fault held sources m answer agree acyclic has known reading told =
    let ours : IsForwardReading net fault (known_good held) m = same_reading net fault (known_source sources) (known_good held) m (known_same net held sources has known) reading in
    (λ h. (m, ours, told.0 h), λ q. told.1 (λ x observed. rw ((agree net fault acyclic (known_good held) m q.0 ours q.1 x).equal) (q.2 x observed)))
