-- When a node is settled.
use Rattle.std.proofs.Common.{Bool, List, None, Option, Some, [], ap, false, inl, inr, refl, subst, suc, sym, true, zero, ℕ, ◌∙◌, ◌∷◌, ◌≡◌, ◌⊎◌}
use Rattle.std.specs.Prelude.{T, if◌then◌else◌, slice_get}
use Rattle.gate_net.proofs.Public.{parity_is}
use Rattle.gate_net.specs.Meaning.{controlling_in, family_back, family_forward, inversion_in, is_gate_family}
use Rattle.gate_net.specs.Net.{IsGateKind, IsKind, IsLive, IsWellFormed, Net, Reads, drivers_of}
use Rattle.gate_net.specs.Values.{IsJunction, controlling, family, inversion}
use Rattle.gate_net.specs.declared.Family.{Family}
use Rattle.gate_net.specs.declared.Family.TheVariants.{Constant, Input, Junction, Parity}
use Rattle.gate_net.specs.declared.Kind.{Kind}
use Rattle.gate_net.specs.declared.Kind.TheVariants.{Not, One, Xor, Zero}
use Rattle.implications.proofs.GateLines.{junction_gate, kind_once}
use Rattle.implications.proofs.Places.{place_live}
use Rattle.implications.specs.Inner.Pulls.{AreDoneEqual, AreDoneFaulty, AreDoneGood, AreDoneParity, AreDoneSide, AreDoneValues, Finds}
use Rattle.implications.specs.Settled.{IsSettled}
use Rattle.implications.specs.Inner.Settled.{IsDone, IsNext, IsTried}
use Rattle.implications.specs.declared.found.Found.{Found}
use Rattle.refutation.specs.FactSets.{held_by}
use Rattle.refutation.specs.Facts.{Held}
use Rattle.refutation.specs.Lines.{Concludes, IsParity}
use Rattle.refutation.specs.declared.held.NodeFacts.{NodeFacts}
use Rattle.refutation.specs.declared.reasoning.Line.{Line}
use Rattle.refutation.specs.declared.reasoning.Line.TheVariants.{Act, Chain, Compare, Constant, DiffersBack, EqualForward, FaultyBack, FaultyForward, GoodBack, GoodForward, NotDiffers, NotEqual, Out, Side, Site, ToFaulty, ToGood}
use Rattle.rm_base.specs.declared.numbers.Fault.{Fault}
use Rattle.rm_base.specs.declared.numbers.NodeId.{NodeId}
use Rattle.rm_base.proofs.Public.{some_same}

same_id : (z y : NodeId) → Some z.0 ≡ Some y.0 → z ≡ y
same_id z y e = ap (λ (n : ℕ). let id : NodeId = record { 0 = n } in id) (some_same e)

-- KINDS
no_constant : (kind : Kind) (c value : Bool) → controlling kind ≡ Some c → (if value then One else Zero) ≡ kind → ⊥
no_constant kind c true e is = let none : controlling One ≡ Some c = subst (λ k. controlling k ≡ Some c) (sym is) e in cc
no_constant kind c false e is = let none : controlling Zero ≡ Some c = subst (λ k. controlling k ≡ Some c) (sym is) e in cc

parity_constant : (kind : Kind) (i value : Bool) → inversion kind ≡ Some i → (if value then One else Zero) ≡ kind → ⊥
parity_constant kind i true e is = let none : inversion One ≡ Some i = subst (λ k. inversion k ≡ Some i) (sym is) e in cc
parity_constant kind i false e is = let none : inversion Zero ≡ Some i = subst (λ k. inversion k ≡ Some i) (sym is) e in cc

-- an And or an Or is no parity
one_family : (f : Family) (c i : Bool) → controlling_in f ≡ Some c → inversion_in f ≡ Some i → ⊥
one_family Input c i e e' = cc
one_family (Constant b) c i e e' = cc
one_family (Junction b) c i e e' = cc
one_family (Parity j) c i e e' = cc

no_parity : (kind : Kind) (c i : Bool) → controlling kind ≡ Some c → inversion kind ≡ Some i → ⊥
no_parity kind = one_family (family kind)

parity_family : (f : Family) (i : Bool) → inversion_in f ≡ Some i → f ≡ Parity i
parity_family Input i e = cc
parity_family (Constant b) i e = cc
parity_family (Junction c) i e = cc
parity_family (Parity j) i e = ap Parity (some_same e)

pub parity_gate : (kind : Kind) (i : Bool) → inversion kind ≡ Some i → IsGateKind kind
parity_gate kind i e = subst (λ f. T (is_gate_family f)) (sym (parity_family (family kind) i e)) tt

-- nothing follows at a node that is no gate
plain_forward : (f : Family) (os : List (Option Bool)) (v : Bool) → (T (is_gate_family f) → ⊥) → family_forward f os ≡ Some v → ⊥
plain_forward Input os v plain e = cc
plain_forward (Constant b) os v plain e = cc
plain_forward (Junction c) os v plain e = plain tt
plain_forward (Parity i) os v plain e = plain tt

plain_back : (f : Family) (value : Bool) (os : List (Option Bool)) (q : ℕ) (v : Bool) → (T (is_gate_family f) → ⊥) → family_back f value os q ≡ Some v → ⊥
plain_back Input value os q v plain e = cc
plain_back (Constant b) value os q v plain e = cc
plain_back (Junction c) value os q v plain e = plain tt
plain_back (Parity i) value os q v plain e = plain tt

-- a Not has one pin, and an Xor two
only_pin : (d q x : ℕ) → slice_get (d ∷ []) q ≡ Some x → q ≡ 0
only_pin d zero x e = refl
only_pin d (suc q) x e = cc

two_pins : (d d' q x : ℕ) → slice_get (d ∷ d' ∷ []) q ≡ Some x → (q ≡ 0) ⊎ (q ≡ 1)
two_pins d d' zero x e = inl refl
two_pins d d' (suc zero) x e = inr refl
two_pins d d' (suc (suc q)) x e = cc

pub parity_pins : (net : Net) (y q x : ℕ) (i : Bool) → IsWellFormed net → IsParity net y i → Reads net y q x → (q ≡ 0) ⊎ ((i ≡ false) × (q ≡ 1))
parity_pins net y q x i formed (kind, is, inverts) reads = at i (parity_is kind i (parity_family (family kind) i inverts)) refl
  where
    at : (j : Bool) → kind ≡ (if j then Not else Xor) → i ≡ j → (q ≡ 0) ⊎ ((i ≡ false) × (q ≡ 1))
    at true same e =
        let one : (d : ℕ) × (drivers_of net y ≡ d ∷ []) = formed.nots_have_one y (subst (λ k. IsKind net y k) same is) in
        inl (only_pin one.0 q x (ap (λ ds. slice_get ds q) (sym one.1) ∙ reads))
    at false same e =
        let two : (d d' : ℕ) × (drivers_of net y ≡ d ∷ d' ∷ []) = formed.xors_have_two y (subst (λ k. IsKind net y k) same is) in
        elim (two_pins two.0 two.1 q x (ap (λ ds. slice_get ds q) (sym two.2) ∙ reads)) [ inl first ↦ inl first | inr second ↦ inr (e, second) ]

module _ (net : Net) (fault : Fault) (facts : List NodeFacts) (y : NodeId) (i : Bool) (formed : IsWellFormed net) (parity' : IsParity net y.0 i) where
  -- what is done at the first pin, and at the second of an Xor, is done at each
  each_pin : (P : ℕ → Type 0) → P 0 → (i ≡ false → P 1) → (q x : ℕ) → Reads net y.0 q x → P q
  each_pin P first second q x reads = elim (parity_pins net y.0 q x i formed parity' reads) [
    | inl is ↦ subst P (sym is) first
    | inr is ↦ subst P (sym is.1) (second is.0)
  ]

  pub good_backs : IsDone net fault facts (GoodBack y 0) → (i ≡ false → IsDone net fault facts (GoodBack y 1)) → (q : ℕ) → IsDone net fault facts (GoodBack y q)
  good_backs first second q x fact h = each_pin (λ n. IsDone net fault facts (GoodBack y n)) first second q x h.6 x fact h

  pub faulty_backs : IsDone net fault facts (FaultyBack y 0) → (i ≡ false → IsDone net fault facts (FaultyBack y 1)) → (q : ℕ) → IsDone net fault facts (FaultyBack y q)
  faulty_backs first second q x fact h = each_pin (λ n. IsDone net fault facts (FaultyBack y n)) first second q x h.7 x fact h

module _ (net : Net) (fault : Fault) (facts : List NodeFacts) (y : NodeId) (values : AreDoneValues net fault facts y) where
  -- an And or an Or
  pub settled_junction : (c : Bool) → IsJunction net y.0 c → AreDoneGood net fault facts y → AreDoneFaulty net fault facts y → AreDoneEqual net fault facts y → AreDoneSide net fault facts y → IsSettled net fault (held_by facts) y.0
  settled_junction c j good faulty equal side Act x fact e h = cc
  settled_junction c j good faulty equal side Site x fact e h = cc
  settled_junction c j good faulty equal side (Chain z) x fact e h = cc
  settled_junction c j good faulty equal side (Out z) x fact e h = cc
  settled_junction c j good faulty equal side (Constant z) x fact e h = absurd (no_constant j.0 c h.0 j.1.1 (kind_once net y.0 j.0 (if h.0 then One else Zero) j.1.0 (subst (λ n. IsKind net n (if h.0 then One else Zero)) (h.2 ∙ some_same e) h.1)))
  settled_junction c j good faulty equal side (GoodForward z) x fact e h = good.0 x fact (subst (λ n. Concludes net fault (held_by facts) (GoodForward n) x fact) (same_id z y e) h)
  settled_junction c j good faulty equal side (GoodBack z q) x fact e h = good.1 q x fact (subst (λ n. Concludes net fault (held_by facts) (GoodBack n q) x fact) (same_id z y e) h)
  settled_junction c j good faulty equal side (Compare z) x fact e h = values.0 x fact (subst (λ n. Concludes net fault (held_by facts) (Compare n) x fact) (same_id z y e) h)
  settled_junction c j good faulty equal side (FaultyForward z) x fact e h = faulty.0 x fact (subst (λ n. Concludes net fault (held_by facts) (FaultyForward n) x fact) (same_id z y e) h)
  settled_junction c j good faulty equal side (FaultyBack z q) x fact e h = faulty.1 q x fact (subst (λ n. Concludes net fault (held_by facts) (FaultyBack n q) x fact) (same_id z y e) h)
  settled_junction c j good faulty equal side (ToFaulty z) x fact e h = values.1.0 x fact (subst (λ n. Concludes net fault (held_by facts) (ToFaulty n) x fact) (same_id z y e) h)
  settled_junction c j good faulty equal side (ToGood z) x fact e h = values.1.1 x fact (subst (λ n. Concludes net fault (held_by facts) (ToGood n) x fact) (same_id z y e) h)
  settled_junction c j good faulty equal side (NotDiffers z) x fact e h = absurd (no_parity j.0 c h.0 j.1.1 (subst (λ k. inversion k ≡ Some h.0) (kind_once net y.0 j.0 h.1.0 j.1.0 (subst (λ n. IsKind net n h.1.0) (h.4 ∙ some_same e) h.1.1)) h.1.2))
  settled_junction c j good faulty equal side (NotEqual z) x fact e h = let is : Not ≡ j.0 = kind_once net y.0 j.0 Not j.1.0 (subst (λ n. IsKind net n Not) (some_same e) h.0) in let none : controlling Not ≡ Some c = subst (λ k. controlling k ≡ Some c) (sym is) j.1.1 in cc
  settled_junction c j good faulty equal side (EqualForward z) x fact e h = equal.0 x fact (subst (λ n. Concludes net fault (held_by facts) (EqualForward n) x fact) (same_id z y e) h)
  settled_junction c j good faulty equal side (DiffersBack z q) x fact e h = equal.1 q x fact (subst (λ n. Concludes net fault (held_by facts) (DiffersBack n q) x fact) (same_id z y e) h)
  settled_junction c j good faulty equal side (Side z q) x fact e h = side q x fact (subst (λ n. Concludes net fault (held_by facts) (Side n q) x fact) (same_id z y e) h)

  -- a Not or an Xor
  pub settled_parity : (i : Bool) → IsParity net y.0 i → AreDoneGood net fault facts y → AreDoneFaulty net fault facts y → AreDoneEqual net fault facts y → AreDoneParity net fault facts y → IsSettled net fault (held_by facts) y.0
  settled_parity i p good faulty equal parities Act x fact e h = cc
  settled_parity i p good faulty equal parities Site x fact e h = cc
  settled_parity i p good faulty equal parities (Chain z) x fact e h = cc
  settled_parity i p good faulty equal parities (Out z) x fact e h = cc
  settled_parity i p good faulty equal parities (Constant z) x fact e h = absurd (parity_constant p.0 i h.0 p.2 (kind_once net y.0 p.0 (if h.0 then One else Zero) p.1 (subst (λ n. IsKind net n (if h.0 then One else Zero)) (h.2 ∙ some_same e) h.1)))
  settled_parity i p good faulty equal parities (GoodForward z) x fact e h = good.0 x fact (subst (λ n. Concludes net fault (held_by facts) (GoodForward n) x fact) (same_id z y e) h)
  settled_parity i p good faulty equal parities (GoodBack z q) x fact e h = good.1 q x fact (subst (λ n. Concludes net fault (held_by facts) (GoodBack n q) x fact) (same_id z y e) h)
  settled_parity i p good faulty equal parities (Compare z) x fact e h = values.0 x fact (subst (λ n. Concludes net fault (held_by facts) (Compare n) x fact) (same_id z y e) h)
  settled_parity i p good faulty equal parities (FaultyForward z) x fact e h = faulty.0 x fact (subst (λ n. Concludes net fault (held_by facts) (FaultyForward n) x fact) (same_id z y e) h)
  settled_parity i p good faulty equal parities (FaultyBack z q) x fact e h = faulty.1 q x fact (subst (λ n. Concludes net fault (held_by facts) (FaultyBack n q) x fact) (same_id z y e) h)
  settled_parity i p good faulty equal parities (ToFaulty z) x fact e h = values.1.0 x fact (subst (λ n. Concludes net fault (held_by facts) (ToFaulty n) x fact) (same_id z y e) h)
  settled_parity i p good faulty equal parities (ToGood z) x fact e h = values.1.1 x fact (subst (λ n. Concludes net fault (held_by facts) (ToGood n) x fact) (same_id z y e) h)
  settled_parity i p good faulty equal parities (NotDiffers z) x fact e h = parities.0 x fact (subst (λ n. Concludes net fault (held_by facts) (NotDiffers n) x fact) (same_id z y e) h)
  settled_parity i p good faulty equal parities (NotEqual z) x fact e h = parities.1 x fact (subst (λ n. Concludes net fault (held_by facts) (NotEqual n) x fact) (same_id z y e) h)
  settled_parity i p good faulty equal parities (EqualForward z) x fact e h = equal.0 x fact (subst (λ n. Concludes net fault (held_by facts) (EqualForward n) x fact) (same_id z y e) h)
  settled_parity i p good faulty equal parities (DiffersBack z q) x fact e h = equal.1 q x fact (subst (λ n. Concludes net fault (held_by facts) (DiffersBack n q) x fact) (same_id z y e) h)
  settled_parity i p good faulty equal parities (Side z q) x fact e h = absurd (no_parity h.0 h.1 i h.3 (subst (λ k. inversion k ≡ Some i) (kind_once net y.0 h.0 p.0 (subst (λ n. IsKind net n h.0) (some_same e) h.2) p.1) p.2))

  plain_kind : (kind : Kind) → IsKind net y.0 kind → (IsGateKind kind → ⊥) → (k : Kind) → IsKind net y.0 k → IsGateKind k → ⊥
  plain_kind kind is plain k there gate = plain (subst IsGateKind (kind_once net y.0 kind k is there) gate)

  -- a constant or a source
  pub settled_plain : (kind : Kind) → IsKind net y.0 kind → (IsGateKind kind → ⊥) → IsDone net fault facts (Constant y) → IsSettled net fault (held_by facts) y.0
  settled_plain kind is plain constant Act x fact e h = cc
  settled_plain kind is plain constant Site x fact e h = cc
  settled_plain kind is plain constant (Chain z) x fact e h = cc
  settled_plain kind is plain constant (Out z) x fact e h = cc
  settled_plain kind is plain constant (Constant z) x fact e h = constant x fact (subst (λ n. Concludes net fault (held_by facts) (Constant n) x fact) (same_id z y e) h)
  settled_plain kind is plain constant (GoodForward z) x fact e h = absurd (plain_forward (family h.0) _ h.1 (plain_kind kind is plain h.0 (subst (λ n. IsKind net n h.0) (h.4 ∙ some_same e) h.2)) h.3)
  settled_plain kind is plain constant (GoodBack z q) x fact e h = absurd (plain_back (family h.0) h.1 _ q h.2 (plain_kind kind is plain h.0 (subst (λ n. IsKind net n h.0) (some_same e) h.3)) h.5)
  settled_plain kind is plain constant (Compare z) x fact e h = values.0 x fact (subst (λ n. Concludes net fault (held_by facts) (Compare n) x fact) (same_id z y e) h)
  settled_plain kind is plain constant (FaultyForward z) x fact e h = absurd (plain_forward (family h.0) _ h.1 (plain_kind kind is plain h.0 (subst (λ n. IsKind net n h.0) (h.4 ∙ some_same e) h.2)) h.3)
  settled_plain kind is plain constant (FaultyBack z q) x fact e h = absurd (plain_back (family h.0) h.1 _ q h.2 (plain_kind kind is plain h.0 (subst (λ n. IsKind net n h.0) (some_same e) h.3)) h.5)
  settled_plain kind is plain constant (ToFaulty z) x fact e h = values.1.0 x fact (subst (λ n. Concludes net fault (held_by facts) (ToFaulty n) x fact) (same_id z y e) h)
  settled_plain kind is plain constant (ToGood z) x fact e h = values.1.1 x fact (subst (λ n. Concludes net fault (held_by facts) (ToGood n) x fact) (same_id z y e) h)
  settled_plain kind is plain constant (NotDiffers z) x fact e h = absurd (plain (subst IsGateKind (kind_once net y.0 kind h.1.0 is (subst (λ n. IsKind net n h.1.0) (h.4 ∙ some_same e) h.1.1)) (parity_gate h.1.0 h.0 h.1.2)))
  settled_plain kind is plain constant (NotEqual z) x fact e h = absurd (plain (subst IsGateKind (kind_once net y.0 kind Not is (subst (λ n. IsKind net n Not) (some_same e) h.0)) tt))
  settled_plain kind is plain constant (EqualForward z) x fact e h = absurd (plain (subst IsGateKind (kind_once net y.0 kind h.0.0 is (subst (λ n. IsKind net n h.0.0) (h.3 ∙ some_same e) h.0.1.0)) h.0.1.1))
  settled_plain kind is plain constant (DiffersBack z q) x fact e h = absurd (plain (subst IsGateKind (kind_once net y.0 kind h.0.0 is (subst (λ n. IsKind net n h.0.0) (some_same e) h.0.1.0)) h.0.1.1))
  settled_plain kind is plain constant (Side z q) x fact e h = absurd (plain (subst IsGateKind (kind_once net y.0 kind h.0 is (subst (λ n. IsKind net n h.0) (some_same e) h.2)) (junction_gate h.0 h.1 h.3)))

-- a dead number
pub settled_dead : (net : Net) (fault : Fault) (held : Held) (y : ℕ) → (IsLive net y → ⊥) → IsSettled net fault held y
settled_dead net fault held y dead l x fact e h = absurd (dead (place_live net fault held l x y fact e h))

pub found_of : (net : Net) (fault : Fault) (facts : List NodeFacts) (l : Line) (Q : Type 0) (o : Option Found) → (IsDone net fault facts l → Q) → IsTried net fault facts l o → Finds net fault facts Q o
found_of net fault facts l Q None f h = f h
found_of net fault facts l Q (Some found) f h = h

pub next_of : (net : Net) (fault : Fault) (facts : List NodeFacts) (y : ℕ) (P : Type 0) (o : Option Found) → (P → IsSettled net fault (held_by facts) y) → Finds net fault facts P o → IsNext net fault facts y o
next_of net fault facts y P None f h = f h
next_of net fault facts y P (Some found) f h = h
