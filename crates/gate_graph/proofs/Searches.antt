-- A search back along the pins.
use Rattle.std.proofs.Common.{◌≡◌, ◌≢◌, ℕ, zero, suc, ◌<◌, ◌≤◌, ◌+◌, List, length, replicate, Option, Some, None, Bool, true, false, inl, inr, refl, sym, ◌∙◌, ap, arith}
use Rattle.std.specs.Prelude.{slice_get, slice_index}
use Rattle.std.proofs.lemmas.Bool.{cases_lt}
use Rattle.std.proofs.lemmas.Option.{slice_get_within}
use Rattle.gate_net.specs.Net.{Net, Node, node_at, drivers_of, Reads, IsLive, IsWellFormed}
use Rattle.gate_net.specs.Paths.{Reaches, pin, on}
use Rattle.gate_graph.specs.Search.{IsSeen, unseen, AreBelow}
use Rattle.gate_graph.specs.Inner.Search.{Marked, MarksBack, Searched, ListsSeen}
use Rattle.gate_graph.proofs.Bounded.{live-below}
use Rattle.gate_net.proofs.Public.{node_live}

pub unseen-replicate : (n : ℕ) → unseen (replicate n false) ≡ n
unseen-replicate zero = refl
unseen-replicate (suc n) = ap suc (unseen-replicate n)

pub none_seen : (n y : ℕ) → IsSeen (replicate n false) y → ⊥
none_seen zero y e = cc
none_seen (suc n) zero e = cc
none_seen (suc n) (suc y) e = none_seen n y e

-- a path with one more pin before it
prepend : {net : Net} {y z w : ℕ} (p : ℕ) → Reads net z p y → Reaches net z w → Reaches net y w
prepend p reads (pin q there) = on q (pin p reads) there
prepend p reads (on q path there) = on q (prepend p reads path) there

-- the drivers of the node are marked first
pub searched_first : (net : Net) (to n : ℕ) (seen : List Bool) (st st' : List ℕ) (end : ℕ) → Marked (drivers_of net to) (replicate n false) seen st st' 0 end → length st' ≡ length st → Searched net to seen st' 0 end
searched_first net to n seen st st' end m same = record {
  room = omega (arith, m.room);
  order = omega arith;
  sound = λ y e. elim (m.new y e) [ inl old ↦ absurd (none_seen n y old) | inr found ↦ pin found.0.0 found.0.1 ];
  first = m.all;
  done = λ k below. absurd (omega arith);
  listed = λ z e. elim (m.new z e) [ inl old ↦ absurd (none_seen n z old) | inr found ↦ found.1 ];
  queued = λ k below. m.queued k (omega arith) below;
}

-- one node is taken from the queue, and its drivers are marked
pub searched_more : (net : Net) (to : ℕ) (seen seen' : List Bool) (st st' : List ℕ) (next end end' : ℕ) → Searched net to seen st next end → next < end → Marked (drivers_of net (slice_index st next)) seen seen' st st' end end' → length st' ≡ length st → Searched net to seen' st' (next + 1) end'
searched_more net to seen seen' st st' next end end' s h m same = record {
  room = omega (arith, m.room);
  order = omega (arith, m.grows);
  sound = λ y e. elim (m.new y e) [ inl old ↦ s.sound y old | inr found ↦ prepend found.0.0 found.0.1 (s.sound (slice_index st next) (s.queued next h)) ];
  first = λ p y reads. m.kept y (s.first p y reads);
  done = λ k below p y reads. elim (cases_lt k next) [
    | inl low ↦ m.kept y (s.done k low p y (rw (m.below k (omega (arith, s.order))) at reads))
    | inr high ↦
        let is : k ≡ next = omega arith in
        m.all p y (rw (is, m.below next h) at reads)
  ];
  listed = λ z e. elim (m.new z e) [
    | inr found ↦ found.1
    | inl old ↦ let at = s.listed z old in (at.0, (omega (arith, at.1.0, m.grows), m.below at.0 at.1.0 ∙ at.1.1))
  ];
  queued = λ k below. elim (cases_lt k end) [
    | inl low ↦ rw (m.below k low) (m.kept (slice_index st k) (s.queued k low))
    | inr high ↦ m.queued k high below
  ];
}

-- what leads to a marked node is marked
closed_back : (net : Net) (to : ℕ) (seen : List Bool) (st : List ℕ) (end : ℕ) → Searched net to seen st end end → {x z : ℕ} → Reaches net x z → IsSeen seen z → IsSeen seen x
closed_back net to seen st end s {x} {z} (pin p reads) e = let at = s.listed z e in s.done at.0 at.1.0 p x (rw at.1.1 reads)
closed_back net to seen st end s {x} {z} (on p path reads) e = let at = s.listed z e in closed_back net to seen st end s path (s.done at.0 at.1.0 p _ (rw at.1.1 reads))

searched_all : (net : Net) (to : ℕ) (seen : List Bool) (st : List ℕ) (end : ℕ) → Searched net to seen st end end → {x z : ℕ} → Reaches net x z → z ≡ to → IsSeen seen x
searched_all net to seen st end s {x} (pin p reads) is = s.first p x (rw is at reads)
searched_all net to seen st end s (on p path reads) is = closed_back net to seen st end s path (s.first p _ (rw is at reads))

-- the search has come to its end
pub marks-ended : (net : Net) (from to : ℕ) (seen : List Bool) (st : List ℕ) (next end : ℕ) → Searched net to seen st next end → end ≤ next → MarksBack net from to seen
marks-ended net from to seen st next end s h =
    let is : next ≡ end = omega (arith, s.order) in
    let t : Searched net to seen st end end = rw is at s in
    record { sound = s.sound from; all = λ path. searched_all net to seen st end t path refl }

-- the node was found
pub marks-found : (net : Net) (from to : ℕ) (seen : List Bool) (st : List ℕ) (next end : ℕ) → Searched net to seen st next end → IsSeen seen from → MarksBack net from to seen
marks-found net from to seen st next end s e = record { sound = s.sound from; all = λ path. e }

pub lists-seen : (net : Net) (to : ℕ) (seen : List Bool) (st : List ℕ) (next end : ℕ) → Searched net to seen st next end → ListsSeen seen st 0 end
lists-seen net to seen st next end s = record {
  listed = λ z e. (let at = s.listed z e in (at.0, (omega arith, at.1)));
  within = λ k h. slice_get_within seen (slice_index st k) true (s.queued k h);
}

some-node : (o : Option Node) → o ≢ None → (n : Node) × (o ≡ Some n)
some-node None h = absurd (h refl)
some-node (Some n) h = (n, refl)

-- what leads somewhere is live
pub reaching-live : (net : Net) → IsWellFormed net → {x y : ℕ} → Reaches net x y → node_at net x ≢ None
reaching-live net w {x} {y} (pin p reads) = w.drivers_live y p x reads
reaching-live net w (on p path reads) = reaching-live net w path

pub queued-live : (net : Net) (to : ℕ) (seen : List Bool) (st : List ℕ) (next end : ℕ) → IsWellFormed net → Searched net to seen st next end → next < end → IsLive net (slice_index st next)
queued-live net to seen st next end w s h = node_live net (slice_index st next) (reaching-live net w (s.sound (slice_index st next) (s.queued next h)))

pub drivers-below : (net : Net) (g n : ℕ) (ds : List ℕ) → IsWellFormed net → length net.nodes ≤ n → ds ≡ drivers_of net g → AreBelow ds n
drivers-below net g n ds w h e p x reads = omega (arith, live-below net x (w.drivers_live g p x (ap (λ (l : List ℕ). slice_get l p) (sym e) ∙ reads)), h)
