-- Readers that move keep the values and the order.
use Rattle.std.proofs.Common.{Bool, List, None, Option, Some, [], ap, inl, inr, map, not, refl, suc, sym, true, zero, ℕ, ◌∙◌, ◌∷◌, ◌≡◌, ◌⊎◌}
use Rattle.std.proofs.lemmas.Bool.Decides.{eqb_tells}
use Rattle.std.specs.Prelude.{slice_get}
use Rattle.std.proofs.Math.Bool.{not-not}
use Rattle.std.proofs.lemmas.Bool.{false_from_ne_true}
use Rattle.gate_net.proofs.AlongPins.{value_at}
use Rattle.gate_net.proofs.Junctions.{not_is}
use Rattle.gate_net.proofs.Ordered.{acyclic_lifted, after_right, after_there, after_upward}
use Rattle.gate_net.proofs.Valuations.{values_unique}
use Rattle.gate_net.specs.Edits.{node_redirected, redirected, with_readers_moved}
use Rattle.gate_net.specs.Laws.{MovesKeep, MovesKeepAcyclic, TwiceKeeps}
use Rattle.gate_net.specs.Net.{IsKind, Net, Node, Reads, drivers_in, drivers_of, flatten_option, node_at}
use Rattle.gate_net.specs.Values.{AreGoodValues, gate_value, node_value, parity}
use Rattle.gate_net.specs.declared.Kind.TheVariants.{Not}
use Rattle.rm_base.proofs.Public.{map_pointwise}
use Rattle.gate_net.specs.Inner.Paths.{is_after}

pub flatten-map : (from to : ℕ) (os : List (Option Node)) (x : ℕ) → flatten_option (slice_get (map (node_redirected from to) os) x) ≡ node_redirected from to (flatten_option (slice_get os x))
flatten-map from to [] x = refl
flatten-map from to (None ∷ os) zero = refl
flatten-map from to (Some n ∷ os) zero = refl
flatten-map from to (o ∷ os) (suc x) = flatten-map from to os x

pub node_at-moved : (net : Net) (from to x : ℕ) → node_at (with_readers_moved net from to) x ≡ node_redirected from to (node_at net x)
node_at-moved net from to x = flatten-map from to net.nodes x

pub redirect_same : (v : ℕ → Bool) (from to : ℕ) → v from ≡ v to → (x : ℕ) → v (redirected from to x) ≡ v x
redirect_same v from to same x = elim (eqb_tells x from) [ inl t ↦ rw (t.0, t.1) (sym same) | inr t ↦ rw t.0 refl ]

pub map_redirected : (v : ℕ → Bool) (from to : ℕ) → v from ≡ v to → (xs : List ℕ) → map v (map (redirected from to) xs) ≡ map v xs
map_redirected v from to same [] = refl
map_redirected v from to same (x ∷ xs) =
    let first : v (redirected from to x) ≡ v x = redirect_same v from to same x in
    let rest : map v (map (redirected from to) xs) ≡ map v xs = map_redirected v from to same xs in
    cc

pub value_redirected : (v : ℕ → Bool) (from to : ℕ) → v from ≡ v to → (o : Option Node) (assigned : Bool) → node_value (node_redirected from to o) assigned (map v (drivers_in (node_redirected from to o))) ≡ node_value o assigned (map v (drivers_in o))
value_redirected v from to same None assigned = refl
value_redirected v from to same (Some n) assigned = ap (gate_value n.kind assigned) (map_redirected v from to same n.drivers)

-- the values of before are those of after
pub good_after : (net : Net) (from to : ℕ) (a v : ℕ → Bool) → v from ≡ v to → AreGoodValues net a v → AreGoodValues (with_readers_moved net from to) a v
good_after net from to a v same good x =
    good x ∙ sym (value_redirected v from to same (node_at net x) (a x)) ∙ ap (λ o. node_value o (a x) (map v (drivers_in o))) (sym (node_at-moved net from to x))

pub moves_keep : MovesKeep
moves_keep net from to acyclic same a v w good after =
    sym (map_redirected v from to (same a v good) net.observed)
    ∙ map_pointwise v w (values_unique (with_readers_moved net from to) acyclic a v w (good_after net from to a v (same a v good) good) after) (map (redirected from to) net.observed)

-- a Not has the opposite of its driver's value
pub opposite_of : (net : Net) (a v : ℕ → Bool) (gate driver : ℕ) → IsKind net gate Not → drivers_of net gate ≡ driver ∷ [] → AreGoodValues net a v → v gate ≡ not (v driver)
opposite_of net a v gate driver is one good =
    value_at net a v gate Not (map v (drivers_of net gate)) is (good gate) ∙ ap (λ (ds : List ℕ). parity true (map v ds)) one ∙ not_is (v driver)

pub twice_keeps : TwiceKeeps
twice_keeps net gate inner driver is is' one one' acyclic = moves_keep net gate driver acyclic same
  where
    same : (a v : ℕ → Bool) → AreGoodValues net a v → v gate ≡ v driver
    same a v good = opposite_of net a v gate inner is one good ∙ ap not (opposite_of net a v inner driver is' one' good) ∙ not-not (v driver)

pub redirect_cases : (from to : ℕ) (ds : List ℕ) (p x : ℕ) → slice_get (map (redirected from to) ds) p ≡ Some x → (slice_get ds p ≡ Some x) ⊎ ((x ≡ to) × (slice_get ds p ≡ Some from))
redirect_cases from to [] p x e = inl e
redirect_cases from to (d ∷ ds) zero x e = elim (eqb_tells d from) [
  | inl t ↦ let e' : Some to ≡ Some x = rw t.0 at e in inr (cc, ap Some t.1)
  | inr t ↦ let e' : Some d ≡ Some x = rw t.0 at e in inl e'
]
redirect_cases from to (d ∷ ds) (suc p) x e = redirect_cases from to ds p x e

pub drivers_redirected : (from to : ℕ) (o : Option Node) → drivers_in (node_redirected from to o) ≡ map (redirected from to) (drivers_in o)
drivers_redirected from to None = refl
drivers_redirected from to (Some n) = refl

pub moves_keep_acyclic : MovesKeepAcyclic
moves_keep_acyclic net from to acyclic ne apart =
    acyclic_lifted net (with_readers_moved net from to) acyclic (λ y. is_after (acyclic.0 y) net from y) (after_upward net acyclic from) to
    (false_from_ne_true (is_after (acyclic.0 to) net from to) (λ e. elim (after_right net from (acyclic.0 to) to e) [ inl is ↦ ne is | inr path ↦ apart path ]))
    leads
  where
    leads : (y p x : ℕ) → Reads (with_readers_moved net from to) y p x → ((q : ℕ) × Reads net y q x) ⊎ ((x ≡ to) × (is_after (acyclic.0 y) net from y ≡ true))
    leads y p x reads =
        let now : slice_get (map (redirected from to) (drivers_of net y)) p ≡ Some x = rw (node_at-moved net from to y, drivers_redirected from to (node_at net y)) at reads in
        elim (redirect_cases from to (drivers_of net y) p x now) [
          | inl old ↦ inl (p, old)
          | inr new ↦ inr (new.0, after_upward net acyclic from y p from new.1 (after_there net from (acyclic.0 from)))
        ]
