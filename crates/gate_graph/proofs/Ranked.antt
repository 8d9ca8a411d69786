-- Pins make no circle exactly where the net has none.
use Rattle.std.proofs.Common.{◌≡◌, ◌≢◌, ℕ, suc, true, List, [], ◌∷◌, map, Option, Some, None, refl, sym, ap, ◌∙◌, inl, inr}
use Rattle.std.specs.Prelude.{slice_get}
use Rattle.std.specs.Option.{option_map}
use Rattle.std.proofs.lemmas.Bool.{ne_eqb}
use Rattle.std.proofs.lemmas.Bool.Decides.{eqb_tells}
use Rattle.std.proofs.lemmas.Option.{slice_get-map}
use Rattle.gate_net.specs.Net.{drivers_of, Reads, IsAcyclic}
use Rattle.pin_pool.specs.Ring.{has}
use Rattle.pin_pool.specs.Pins.{list_of}
use Rattle.pin_pool.specs.Rings.{AreRings, rings_of}
use Rattle.gate_graph.specs.Wirings.{IsShaped, IsWired}
use Rattle.gate_graph.specs.Circuit.{Circuit, wiring, net_of, gate_pins, home}
use Rattle.gate_graph.proofs.NetOf.{home-here}
use Rattle.gate_graph.proofs.Pinned.{pin-in, drivers-all}

pub some-at : (xs : List ℕ) (p : ℕ) → has p xs ≡ true → (k : ℕ) × (slice_get xs k ≡ Some p)
some-at [] p h = cc
some-at (x ∷ xs) p h = elim (eqb_tells p x) [
  | inl t ↦ (0, ap (λ (n : ℕ). Some n) (sym t.1))
  | inr t ↦ let later : has p xs ≡ true = rw t.0 at h in let rest = some-at xs p later in (suc rest.0, rest.1)
]

pub mapped : (f : ℕ → ℕ) (o : Option ℕ) (x : ℕ) → option_map f o ≡ Some x → (p : ℕ) × ((Some p ≡ o) × (f p ≡ x))
mapped f None x e = cc
mapped f (Some p) x e = let is : f p ≡ x = cc in (p, (refl, is))

-- the pin by which a node reads another
pub read-by : (v : Circuit) → AreRings (rings_of v.pool) → IsShaped (wiring v) → (y k x : ℕ) → Reads (net_of v) y k x → (p : ℕ) × ((Some p ≡ slice_get (gate_pins v.pool y) k) × (has p (list_of v.pool.fanouts x) ≡ true))
read-by v r s y k x reads =
    let there : option_map (home v.pool.fanouts) (slice_get (gate_pins v.pool y) k) ≡ Some x =
    sym (slice_get-map (home v.pool.fanouts) (gate_pins v.pool y) k) ∙ ap (λ (l : List ℕ). slice_get l k) (sym (drivers-all v s y)) ∙ reads in
    let found : (p : ℕ) × ((Some p ≡ slice_get (gate_pins v.pool y) k) × (home v.pool.fanouts p ≡ x)) = mapped (home v.pool.fanouts) (slice_get (gate_pins v.pool y) k) x there in
    let driven = s.driven y found.0 (pin-in v s y k found.0 found.1.0) in
    let is : driven.0 ≡ x = sym (home-here v.pool.fanouts _ found.0 driven.0 r.fanouts driven.1) ∙ found.1.1 in
    (found.0, (found.1.0, ap (λ (n : ℕ). has found.0 (list_of v.pool.fanouts n)) (sym is) ∙ driven.1))

-- a pin of a gate is read
pub reads-by : (v : Circuit) → AreRings (rings_of v.pool) → IsShaped (wiring v) → (g n p : ℕ) → g ≢ 0 → has p (list_of v.pool.inputs g) ≡ true → has p (list_of v.pool.fanouts n) ≡ true → (k : ℕ) × Reads (net_of v) g k n
reads-by v r s g n p ne h d =
    let at = some-at (list_of v.pool.inputs g) p h in
    let pins : gate_pins v.pool g ≡ list_of v.pool.inputs g = rw (ne_eqb g 0 ne) refl in
    let read : slice_get (drivers_of (net_of v) g) at.0 ≡ Some n =
    ap (λ (l : List ℕ). slice_get l at.0) (drivers-all v s g ∙ ap (map (home v.pool.fanouts)) pins) ∙ slice_get-map (home v.pool.fanouts) (list_of v.pool.inputs g) at.0 ∙ ap (option_map (home v.pool.fanouts)) at.1 ∙ ap (λ (m : ℕ). Some m) (home-here v.pool.fanouts _ p n r.fanouts d) in
    (at.0, read)

pub not-zero : (v : Circuit) (y k p : ℕ) → Some p ≡ slice_get (gate_pins v.pool y) k → y ≢ 0
not-zero v y k p e is = let none : Some p ≡ slice_get [] k = rw is at e in cc

pub acyclic-net : (v : Circuit) → AreRings (rings_of v.pool) → IsWired (wiring v) → IsAcyclic (net_of v)
acyclic-net v r w = (
  w.rank,
  λ y k x reads.
      let by = read-by v r w.shape y k x reads in
      w.ranked y x by.0 (not-zero v y k by.0 by.1.0) (pin-in v w.shape y k by.0 by.1.0) by.1.1,
)

pub wired-by : (v : Circuit) → AreRings (rings_of v.pool) → IsShaped (wiring v) → IsAcyclic (net_of v) → IsWired (wiring v)
wired-by v r s a = record {
  shape = s;
  rank = a.0;
  ranked = λ g n p ne h k. let reads = reads-by v r s g n p ne h k in a.1 g reads.0 n reads.1;
}
