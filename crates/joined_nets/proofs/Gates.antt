-- A gate of another net, on the next number.
use Rattle.std.proofs.Common.{Bool, List, [], ap, arith, inl, inr, length, map, subst, suc, sym, true, ℕ, ◌+◌, ◌<◌, ◌∙◌, ◌∷◌, ◌≡◌, ◌≤◌}
use Rattle.std.specs.Prelude.{Option, Some, slice_get, ◌||◌}
use Rattle.std.proofs.lemmas.Bool.{cases_lt}
use Rattle.std.proofs.lemmas.Bool.Decides.{eqb_tells}
use Rattle.std.proofs.lemmas.List.{length-map}
use Rattle.gate_net.specs.declared.Kind.{Kind}
use Rattle.gate_net.specs.declared.Kind.TheVariants.{Not, Xor}
use Rattle.gate_net.specs.Net.{IsGate, IsGateKind, IsWellFormed, Net, Node, Reads, drivers_in, drivers_of, kind_in, kind_of, node_at}
use Rattle.pin_pool.specs.Ring.{has}
use Rattle.rm_base.proofs.Public.{map_found}
use Rattle.rm_base.specs.declared.numbers.NodeId.{NodeId}
use Rattle.joined_nets.specs.Joined.{moved, node_moved}
use Rattle.joined_nets.proofs.Copied.{moved_high, moved_low}

-- what a list has stands at a place of it
pub has_at : (d : ℕ) (xs : List ℕ) → has d xs ≡ true → (p : ℕ) × (slice_get xs p ≡ Some d)
has_at d [] e = absurd cc
has_at d (x ∷ xs) e = elim (eqb_tells d x) [
  | inl same ↦ (0, ap (λ (i : ℕ). Some i) (sym same.1))
  | inr other ↦ let rest = has_at d xs (ap (λ (b : Bool). b || has d xs) (sym other.0) ∙ e) in (suc rest.0, rest.1)
]

kinds_same : (o : Option Node) (k kind : Kind) (ds : List ℕ) → o ≡ Some (record { kind = k; drivers = ds }) → Some kind ≡ kind_in o → k ≡ kind
kinds_same o k kind ds is e = let same : Some kind ≡ Some k = e ∙ ap kind_in is in cc

module _ (net : Net) (x : ℕ) (kind : Kind) (gate : IsGate net x) (is : Some kind ≡ kind_of net x) where
  abbrev drivers : List ℕ
  drivers = gate.1.0.0

  same : gate.0 ≡ kind
  same = kinds_same (node_at net x) gate.0 kind drivers gate.1.0.1 is

  pub gate_kind : IsGateKind kind
  gate_kind = subst (λ (k : Kind). IsGateKind k) same gate.1.1

  there : node_at net x ≡ Some (record { kind = kind; drivers = drivers })
  there = gate.1.0.1 ∙ ap (λ (k : Kind). let n : Node = record { kind = k; drivers = drivers } in Some n) same

  reads : drivers_of net x ≡ drivers
  reads = ap drivers_in there

  module _ (first count : ℕ) (ids : List NodeId) (are : map (λ (n : NodeId). n.0) ids ≡ map (moved first count) (drivers_of net x)) where
    pub moved_node : node_moved first count (node_at net x) ≡ Some (record { kind = kind; drivers = map (λ (n : NodeId). n.0) ids })
    moved_node =
        ap (λ (o : Option Node). node_moved first count o) there
        ∙ ap (λ (l : List ℕ). let n : Node = record { kind = kind; drivers = l } in Some n) (sym (are ∙ ap (λ (l : List ℕ). map (moved first count) l) reads))

    pub one_driver : IsWellFormed net → kind ≡ Not → length ids ≡ 1
    one_driver formed e =
        let one = formed.nots_have_one x (drivers, there ∙ ap (λ (k : Kind). let n : Node = record { kind = k; drivers = drivers } in Some n) e) in
        sym (length-map ids (λ (n : NodeId). n.0)) ∙ (ap (λ (l : List ℕ). length l) (are ∙ ap (λ (l : List ℕ). map (moved first count) l) one.1))

    pub two_drivers : IsWellFormed net → kind ≡ Xor → length ids ≡ 2
    two_drivers formed e =
        let two = formed.xors_have_two x (drivers, there ∙ ap (λ (k : Kind). let n : Node = record { kind = k; drivers = drivers } in Some n) e) in
        sym (length-map ids (λ (n : NodeId). n.0)) ∙ (ap (λ (l : List ℕ). length l) (are ∙ ap (λ (l : List ℕ). map (moved first count) l) two.2))

pub moved_below : (first count x d size : ℕ) → d < x → first ≤ count → size + first ≡ count + x → moved first count d < size
moved_below first count x d size lt le e = elim (cases_lt d first) [
  | inl low ↦ let is = moved_low first count d low in omega (arith, is, lt, le, e)
  | inr high ↦ let is = moved_high first count d high in omega (arith, is, high, lt, le, e)
]

pub drivers_below : (net : Net) (x first count size : ℕ) (ids : List NodeId) → ((y p d : ℕ) → Reads net y p d → d < y) → first ≤ count → size + first ≡ count + x
    → map (λ (n : NodeId). n.0) ids ≡ map (moved first count) (drivers_of net x) → (d : ℕ) → has d (map (λ (n : NodeId). n.0) ids) ≡ true → d < size
drivers_below net x first count size ids order le next are d among =
    let at = has_at d (map (λ (n : NodeId). n.0) ids) among in
    let from = map_found (moved first count) (drivers_of net x) at.0 d (ap (λ (l : List ℕ). slice_get l at.0) (sym are) ∙ at.1) in
    subst (λ (i : ℕ). i < size) from.1.1 (moved_below first count x from.0 size (order x at.0 from.0 from.1.0) le next)
