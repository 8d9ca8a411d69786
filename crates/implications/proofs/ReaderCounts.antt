-- Going over the gates that read a node: each comes once for each of its pins that do.
use Rattle.std.proofs.Common.{Bool, List, Some, [], ap, append-nil, arith, false, inl, inr, map, refl, suc, sym, true, zero, ℕ, ◌++◌, ◌<◌, ◌∙◌, ◌∷◌, ◌≡◌, ◌≢◌}
use Rattle.std.proofs.lemmas.Bool.{eq-eqb, eqb-true}
use Rattle.std.proofs.lemmas.Bool.Decides.{eqb_tells}
use Rattle.std.specs.Prelude.{nat_eq, slice_get, slice_set}
use Rattle.gate_graph.specs.Circuit.{Circuit, fanouts_of, net_of}
use Rattle.gate_graph.specs.Readers.{ListReaders}
use Rattle.gate_graph.specs.Search.{IsSeen}
use Rattle.gate_net.specs.Net.{drivers_of}
use Rattle.implications.proofs.CountRises.{counting-append}
use Rattle.refutation.specs.Worklists.{seen_count}
use Rattle.refutation.proofs.Public.{count-clear, seen_left, seen_stays}
use Rattle.implications.specs.Inner.Tallies.{counting}
use Rattle.rm_base.specs.declared.numbers.NodeId.{NodeId}
use Rattle.rm_base.proofs.Public.{map_at, map_found, some_same}

-- PLACES OF ONE GATE
marks_counted : (n : ℕ) (ds : List ℕ) → seen_count (map (nat_eq n) ds) ≡ counting (nat_eq n) ds
marks_counted n [] = refl
marks_counted n (d ∷ ds) = rw (marks_counted n ds) refl

none_counted : (marks : List Bool) → ((p : ℕ) → IsSeen marks p → ⊥) → seen_count marks ≡ 0
none_counted [] none = refl
none_counted (true ∷ marks) none = absurd (none zero refl)
none_counted (false ∷ marks) none = none_counted marks (λ p seen. none (suc p) seen)

among_rest : (place other : ℕ × ℕ) (places : List (ℕ × ℕ)) → (place ≡ other → ⊥) → (k : ℕ) × (slice_get (place ∷ places) k ≡ Some other) → (k : ℕ) × (slice_get places k ≡ Some other)
among_rest place other places ne (zero, e) = absurd (ne (some_same e))
among_rest place other places ne (suc k, e) = (k, e)

-- a list that has the gate's marked places, each once, and no others of that gate
places_counted : (y : ℕ) (marks : List Bool) (places : List (ℕ × ℕ)) → ((k p : ℕ) → slice_get places k ≡ Some (y, p) → IsSeen marks p)
    → ((p : ℕ) → IsSeen marks p → (k : ℕ) × (slice_get places k ≡ Some (y, p)))
    → ((k l p : ℕ) → slice_get places k ≡ Some (y, p) → slice_get places l ≡ Some (y, p) → k ≡ l) → counting (nat_eq y) (map (λ (place : ℕ × ℕ). place.0) places) ≡ seen_count marks
places_counted y marks [] sound all once = sym (none_counted marks (λ p seen. nowhere p (all p seen)))
  where
    nowhere : (p : ℕ) → (k : ℕ) × (slice_get {X = ℕ × ℕ} [] k ≡ Some (y, p)) → ⊥
    nowhere p (k, e) = cc
places_counted y marks (place ∷ places) sound all once = elim (eqb_tells y place.0) [
  | inl e ↦
      let first : slice_get (place ∷ places) zero ≡ Some (y, place.1) = rw e.1 refl in
      let seen : IsSeen marks place.1 = sound zero place.1 first in
      let rest : counting (nat_eq y) (map (λ (place : ℕ × ℕ). place.0) places) ≡ seen_count (slice_set marks place.1 false) = places_counted y (slice_set marks place.1 false) places
      (λ k p there. seen_stays marks place.1 p (sound (suc k) p there) (λ is.
      let same : suc k ≡ zero = once (suc k) zero p there (rw is first) in absurd (omega arith)))
      (λ p left. let before : IsSeen marks p × (p ≢ place.1) = seen_left marks place.1 p left in
      among_rest place (y, p) places (λ is. before.1 (sym (ap (λ (q : ℕ × ℕ). q.1) is))) (all p before.0))
      (λ k l p one other. let same : suc k ≡ suc l = once (suc k) (suc l) p one other in omega arith) in
      rw e.0 (ap suc rest ∙ count-clear marks place.1 seen)
  | inr e ↦
      let rest : counting (nat_eq y) (map (λ (place : ℕ × ℕ). place.0) places) ≡ seen_count marks = places_counted y marks places
      (λ k p there. sound (suc k) p there)
      (λ p seen. among_rest place (y, p) places (λ is. e.1 (sym (ap (λ (q : ℕ × ℕ). q.0) is))) (all p seen))
      (λ k l p one other. let same : suc k ≡ suc l = once (suc k) (suc l) p one other in omega arith) in
      rw e.0 rest
]

-- a gate stands among the readers of a node once for each of its pins that reads the node
pub readers_counted : (v : Circuit) → ListReaders v → (n y : ℕ) → counting (nat_eq y) (map (λ (place : ℕ × ℕ). place.0) (fanouts_of v n)) ≡ counting (nat_eq n) (drivers_of (net_of v) y)
readers_counted v listed n y = places_counted y (map (nat_eq n) ds) (fanouts_of v n)
    (λ k p there. map_at (nat_eq n) ds p n (listed.reads n k (y, p) there) ∙ ap (λ (b : Bool). Some b) (eq-eqb n n refl))
    (λ p seen. let at : (x : ℕ) × ((slice_get ds p ≡ Some x) × (nat_eq n x ≡ true)) = map_found (nat_eq n) ds p true seen in
    listed.all n (y, p) (at.1.0 ∙ ap (λ (x : ℕ). Some x) (sym (eqb-true n at.0 at.1.1))))
    (λ k l p one other. listed.once n k l (y, p) one other)
    ∙ marks_counted n ds
  where
    ds : List ℕ
    ds = drivers_of (net_of v) y

-- IN A LOOP
module _ (v : Circuit) (n : ℕ) (listed : ListReaders v) (all : List ℕ) (is : all ≡ map (λ (place : ℕ × ℕ). place.0) (fanouts_of v n)) (yielded : List NodeId) where
  -- the gate that comes next has come less often than it has pins that read the node
  pub next_counted : (x : NodeId) (rest rest' : List ℕ) → all ≡ map (λ (d : NodeId). d.0) yielded ++ rest → rest ≡ x.0 ∷ rest' → counting (nat_eq x.0) (map (λ (d : NodeId). d.0) yielded) < counting (nat_eq n) (drivers_of (net_of v) x.0)
  next_counted x rest rest' e step =
      let whole : counting (nat_eq x.0) (map (λ (d : NodeId). d.0) yielded ++ rest) ≡ counting (nat_eq n) (drivers_of (net_of v) x.0) = ap (counting (nat_eq x.0)) (sym e ∙ is) ∙ readers_counted v listed n x.0 in
      let more : counting (nat_eq x.0) rest ≡ suc (counting (nat_eq x.0) rest') = rw step (rw (eq-eqb x.0 x.0 refl) refl) in
      omega (arith, counting-append (nat_eq x.0) (map (λ (d : NodeId). d.0) yielded) rest)

  -- at the end it has come as often as it has pins that read the node
  pub all_counted : (rest : List ℕ) → all ≡ map (λ (d : NodeId). d.0) yielded ++ rest → rest ≡ [] → (y : ℕ) → counting (nat_eq y) (map (λ (d : NodeId). d.0) yielded) ≡ counting (nat_eq n) (drivers_of (net_of v) y)
  all_counted rest e none y =
      let whole : all ≡ map (λ (d : NodeId). d.0) yielded = e ∙ ap (λ (xs : List ℕ). map (λ (d : NodeId). d.0) yielded ++ xs) none ∙ append-nil (map (λ (d : NodeId). d.0) yielded) in
      ap (counting (nat_eq y)) (sym whole ∙ is) ∙ readers_counted v listed n y
