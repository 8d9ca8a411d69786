-- What the tests of nodes tell.
use Rattle.std.proofs.Common.{◌≡◌, ℕ, zero, suc, ◌<◌, Bool, true, false, ◌||◌, ◌⊎◌, inl, inr, Option, Some, None, List, [], ◌∷◌, refl, sym, ◌∙◌, ap, arith, length, take}
use Rattle.std.specs.Prelude.{T, slice_get, nat_eq, option_and_then}
use Rattle.std.proofs.lemmas.Bool.{eqb-true, eq-eqb, both_ways, false_from_ne_true, or_cases}
use Rattle.std.proofs.Math.Bool.{or-true}
use Rattle.gate_net.specs.declared.Kind.{Kind}
use Rattle.gate_net.specs.declared.Kind.TheVariants.{Source, Zero, One, And, Or, Not, Xor}
use Rattle.gate_net.specs.declared.Family.{Family}
use Rattle.gate_net.specs.declared.Family.TheVariants.{Constant, Input, Junction, Parity}
use Rattle.gate_net.specs.Meaning.{controlling_in, family, is_gate_family}
use Rattle.gate_net.proofs.Public.{constant_is, parity_is}
use Rattle.gate_net.specs.Net.{Node, Net, node_at, kind_in, drivers_in, flatten_option, Reads, IsKind, IsLive, IsGate, IsGateKind, IsObserved}
use Rattle.gate_net.specs.Values.{controlling, IsJunction}
use Rattle.gate_net.specs.Edits.{IsUnread}
use Rattle.gate_net.specs.Inner.Edits.{constant_kind}
use Rattle.wire_edit.specs.Tests.{is_present, is_live, gate_control, control_of, is_junction, is_not_kind, is_not, is_xor_kind, is_xor, reads_several, family_in, family_of, is_gate, kind_constant, constant_of, driver_at, constant_at, is_among, is_read_in, is_in_use, is_some_among, is_repeated}
use Rattle.wire_edit.specs.Steps.{is_not_at, same_some}

pub present : {A : Type 0} (o : Option A) → is_present o ≡ true → (x : A) × (o ≡ Some x)
present None e = cc
present (Some x) e = (x, refl)

pub absent : {A : Type 0} (o : Option A) → is_present o ≡ false → o ≡ None
absent None e = refl
absent (Some x) e = cc

pub present_is : {A : Type 0} (o : Option A) (x : A) → o ≡ Some x → is_present o ≡ true
present_is None x e = cc
present_is (Some y) x e = refl

pub live_is : (net : Net) (x : ℕ) → is_live net x ≡ true → IsLive net x
live_is net x e = let n : (n : Node) × (node_at net x ≡ Some n) = present (node_at net x) e in (n.0.kind, (n.0.drivers, n.1))

pub is_live_there : (net : Net) (x : ℕ) → IsLive net x → is_live net x ≡ true
is_live_there net x l = present_is (node_at net x) _ l.1.1

control_node : (o : Option Node) (c : Bool) → gate_control (kind_in o) ≡ Some c → (kind : Kind) × (((ds : List ℕ) × (o ≡ Some (record { kind = kind; drivers = ds }))) × (controlling kind ≡ Some c))
control_node None c e = cc
control_node (Some n) c e = (n.kind, ((n.drivers, refl), e))

pub control_is : (net : Net) (x : ℕ) (c : Bool) → control_of net x ≡ Some c → IsJunction net x c
control_is net x c e = control_node (node_at net x) c e

pub junction_is_one : (net : Net) (x : ℕ) → is_junction net x ≡ true → (c : Bool) × ((control_of net x ≡ Some c) × IsJunction net x c)
junction_is_one net x e = let c : (c : Bool) × (control_of net x ≡ Some c) = present (control_of net x) e in (c.0, (c.1, control_is net x c.0 c.1))

not_node : (o : Option Node) → is_not_kind (kind_in o) ≡ true → (ds : List ℕ) × (o ≡ Some (record { kind = Not; drivers = ds }))
not_node None e = cc
not_node (Some n) e = (n.drivers, ap (λ (k : Kind). Some (record { kind = k; drivers = n.drivers })) (at n.kind e))
  where
    at : (k : Kind) → is_not_kind (Some k) ≡ true → k ≡ Not
    at Source e = cc
    at Zero e = cc
    at One e = cc
    at And e = cc
    at Or e = cc
    at Not e = refl
    at Xor e = cc

pub not_is : (net : Net) (x : ℕ) → is_not net x ≡ true → IsKind net x Not
not_is net x e = not_node (node_at net x) e

xor_node : (o : Option Node) → is_xor_kind (kind_in o) ≡ true → (ds : List ℕ) × (o ≡ Some (record { kind = Xor; drivers = ds }))
xor_node None e = cc
xor_node (Some n) e = (n.drivers, ap (λ (k : Kind). Some (record { kind = k; drivers = n.drivers })) (at n.kind e))
  where
    at : (k : Kind) → is_xor_kind (Some k) ≡ true → k ≡ Xor
    at Source e = cc
    at Zero e = cc
    at One e = cc
    at And e = cc
    at Or e = cc
    at Not e = cc
    at Xor e = refl

pub xor_is : (net : Net) (x : ℕ) → is_xor net x ≡ true → IsKind net x Xor
xor_is net x e = xor_node (node_at net x) e

pub is_xor_there : (net : Net) (x : ℕ) → IsKind net x Xor → is_xor net x ≡ true
is_xor_there net x is = ap (λ o. is_xor_kind (kind_in o)) is.1

constant_node_is : (o : Option Node) (b : Bool) → kind_constant (kind_in o) ≡ Some b → (ds : List ℕ) × (o ≡ Some (record { kind = constant_kind b; drivers = ds }))
constant_node_is None b e = cc
constant_node_is (Some n) b e = (n.drivers, ap (λ (k : Kind). Some (record { kind = k; drivers = n.drivers })) (constant_is n.kind b e))

pub constant_is_one : (net : Net) (x : ℕ) (b : Bool) → constant_of net x ≡ Some b → IsKind net x (constant_kind b)
constant_is_one net x b e = constant_node_is (node_at net x) b e

pub constant_read : (net : Net) (gate p : ℕ) (b : Bool) → constant_at net gate p ≡ Some b → (d : ℕ) × (Reads net gate p d × ((constant_of net d ≡ Some b) × IsKind net d (constant_kind b)))
constant_read net gate p b e = at (driver_at net gate p) refl e
  where
    at : (o : Option ℕ) → driver_at net gate p ≡ o → option_and_then (constant_of net) o ≡ Some b → (d : ℕ) × (Reads net gate p d × ((constant_of net d ≡ Some b) × IsKind net d (constant_kind b)))
    at None is e = cc
    at (Some d) is e = (d, (is, (e, constant_is_one net d b e)))

-- GATES BY FAMILY
pub told : (b : Bool) → b ≡ true → T b
told true e = tt
told false e = cc

pub tells : (b : Bool) → T b → b ≡ true
tells true t = refl
tells false t = absurd t

-- a gate of that family
pub family_known : (net : Net) (x : ℕ) (f : Family) → family_of net x ≡ f → is_gate_family f ≡ true → (kind : Kind) × (IsKind net x kind × (family kind ≡ f))
family_known net x f e g = at (node_at net x) refl
  where
    at : (o : Option Node) → node_at net x ≡ o → (kind : Kind) × (IsKind net x kind × (family kind ≡ f))
    at None is =
        let none : Input ≡ f = sym (ap (λ o. family_in (kind_in o)) is) ∙ e in
        let wrong : false ≡ true = ap is_gate_family none ∙ g in cc
    at (Some n) is = (n.kind, ((n.drivers, is), sym (ap (λ o. family_in (kind_in o)) is) ∙ e))

pub junction_at : (net : Net) (x : ℕ) (c : Bool) → family_of net x ≡ Junction c → IsJunction net x c
junction_at net x c e = let k = family_known net x (Junction c) e refl in (k.0, (k.1.0, ap controlling_in k.1.1))

pub not_at_family : (net : Net) (x : ℕ) → family_of net x ≡ Parity true → IsKind net x Not
not_at_family net x e =
    let k = family_known net x (Parity true) e refl in
    let same : k.0 ≡ Not = parity_is k.0 true k.1.1 in rw same at k.1.0

pub xor_at_family : (net : Net) (x : ℕ) → family_of net x ≡ Parity false → IsKind net x Xor
xor_at_family net x e =
    let k = family_known net x (Parity false) e refl in
    let same : k.0 ≡ Xor = parity_is k.0 false k.1.1 in rw same at k.1.0

pub gate_is : (net : Net) (x : ℕ) → is_gate net x ≡ true → IsGate net x
gate_is net x e = let k = family_known net x (family_of net x) refl e in (k.0, (k.1.0, told (is_gate_family (family k.0)) (ap is_gate_family k.1.1 ∙ e)))

pub is_gate_there : (net : Net) (x : ℕ) → IsGate net x → is_gate net x ≡ true
is_gate_there net x (kind, ((ds, is), k)) = ap (λ o. is_gate_family (family_in (kind_in o))) is ∙ tells (is_gate_family (family kind)) k

control_family : (f : Family) (c : Bool) → controlling_in f ≡ Some c → T (is_gate_family f)
control_family Input c e = cc
control_family (Constant b) c e = cc
control_family (Junction b) c e = tt
control_family (Parity i) c e = cc

pub control_gate : (kind : Kind) (c : Bool) → controlling kind ≡ Some c → IsGateKind kind
control_gate kind = control_family (family kind)

abbrev pub junction_kind : (net : Net) (x : ℕ) (c : Bool) → IsJunction net x c → IsGate net x
junction_kind net x c j = (j.0, (j.1.0, control_gate j.0 c j.1.1))

pub junction_gate : (net : Net) (x : ℕ) → is_junction net x ≡ true → is_gate net x ≡ true
junction_gate net x e = let c = junction_is_one net x e in is_gate_there net x (junction_kind net x c.0 c.1.1)

pub not_gate : (net : Net) (x : ℕ) → is_not net x ≡ true → is_gate net x ≡ true
not_gate net x e = is_gate_there net x (Not, (not_is net x e, tt))

pub several_gate : (net : Net) (x : ℕ) → reads_several net x ≡ true → is_gate net x ≡ true
several_gate net x e = elim (or_cases (is_junction net x) (is_xor net x) e) [ inl j ↦ junction_gate net x j | inr y ↦ is_gate_there net x (Xor, (xor_is net x y, tt)) ]

-- an And or an Or, where it is no Xor
pub several_junction : (net : Net) (x : ℕ) → reads_several net x ≡ true → is_xor net x ≡ false → is_junction net x ≡ true
several_junction net x e none = elim (or_cases (is_junction net x) (is_xor net x) e) [ inl j ↦ j | inr y ↦ absurd (both_ways (is_xor net x) none y) ]

pub not_several : (net : Net) (x : ℕ) → is_not net x ≡ true → reads_several net x ≡ false
not_several net x e = ap (λ o. is_present (gate_control (kind_in o)) || is_xor_kind (kind_in o)) (not_is net x e).1

pub several_no_not : (net : Net) (x : ℕ) → reads_several net x ≡ true → is_not net x ≡ false
several_no_not net x e = false_from_ne_true (is_not net x) (λ n. both_ways (reads_several net x) (not_several net x n) e)

-- a gate is a Not or may read several nodes
pub several_of : (net : Net) (x : ℕ) → is_gate net x ≡ true → is_not net x ≡ false → reads_several net x ≡ true
several_of net x g n =
    let k : IsGate net x = gate_is net x g in
    ap (λ o. is_present (gate_control (kind_in o)) || is_xor_kind (kind_in o)) k.1.0.1 ∙ at k.0 k.1.1 (sym (ap (λ o. is_not_kind (kind_in o)) k.1.0.1) ∙ n)
  where
    at : (k : Kind) → IsGateKind k → is_not_kind (Some k) ≡ false → (is_present (gate_control (Some k)) || is_xor_kind (Some k)) ≡ true
    at Source g e = absurd g
    at Zero g e = absurd g
    at One g e = absurd g
    at And g e = refl
    at Or g e = refl
    at Not g e = cc
    at Xor g e = refl

-- MEMBERS
pub among_at : (x : ℕ) (xs : List ℕ) → is_among x xs ≡ true → (k : ℕ) × (slice_get xs k ≡ Some x)
among_at x [] e = cc
among_at x (y ∷ ys) e = elim (or_cases (nat_eq y x) (is_among x ys) e) [
  | inl here ↦ (0, ap Some (eqb-true y x here))
  | inr later ↦ let rest : (k : ℕ) × (slice_get ys k ≡ Some x) = among_at x ys later in (suc rest.0, rest.1)
]

pub at_among : (x : ℕ) (xs : List ℕ) (k : ℕ) → slice_get xs k ≡ Some x → is_among x xs ≡ true
at_among x [] k e = cc
at_among x (y ∷ ys) zero e = let is : y ≡ x = cc in ap (λ b. b || is_among x ys) (eq-eqb y x is)
at_among x (y ∷ ys) (suc k) e = ap (λ b. nat_eq y x || b) (at_among x ys k e) ∙ or-true (nat_eq y x)

pub read_at : (os : List (Option Node)) (x : ℕ) → is_read_in os x ≡ true → (y : ℕ) × ((p : ℕ) × (slice_get (drivers_in (flatten_option (slice_get os y))) p ≡ Some x))
read_at [] x e = cc
read_at (o ∷ os) x e = elim (or_cases (is_among x (drivers_in o)) (is_read_in os x) e) [
  | inl here ↦ (0, among_at x (drivers_in o) here)
  | inr later ↦ let rest : (y : ℕ) × ((p : ℕ) × (slice_get (drivers_in (flatten_option (slice_get os y))) p ≡ Some x)) = read_at os x later in (suc rest.0, rest.1)
]

pub at_read : (os : List (Option Node)) (x y p : ℕ) → slice_get (drivers_in (flatten_option (slice_get os y))) p ≡ Some x → is_read_in os x ≡ true
at_read [] x y p e = cc
at_read (o ∷ os) x zero p e = ap (λ b. b || is_read_in os x) (at_among x (drivers_in o) p e)
at_read (o ∷ os) x (suc y) p e = ap (λ b. is_among x (drivers_in o) || b) (at_read os x y p e) ∙ or-true (is_among x (drivers_in o))

pub read_in_use : (net : Net) (x y p : ℕ) → Reads net y p x → is_in_use net x ≡ true
read_in_use net x y p reads = ap (λ b. b || is_among x net.observed) (at_read net.nodes x y p reads)

pub observed_in_use : (net : Net) (x : ℕ) → IsObserved net x → is_in_use net x ≡ true
observed_in_use net x o = ap (λ b. is_read_in net.nodes x || b) (at_among x net.observed o.0 o.1) ∙ or-true (is_read_in net.nodes x)

pub used_by : (net : Net) (x : ℕ) → is_in_use net x ≡ true → ((y : ℕ) × ((p : ℕ) × Reads net y p x)) ⊎ IsObserved net x
used_by net x e = elim (or_cases (is_read_in net.nodes x) (is_among x net.observed) e) [
  | inl read ↦ inl (read_at net.nodes x read)
  | inr observed ↦ inr (among_at x net.observed observed)
]

pub unused : (net : Net) (x : ℕ) → is_in_use net x ≡ false → IsUnread net x
unused net x e = record {
  unread = λ y p reads. both_ways _ e (read_in_use net x y p reads);
  unobserved = λ o. both_ways _ e (observed_in_use net x o);
}

pub unread_unused : (net : Net) (x : ℕ) → IsUnread net x → is_in_use net x ≡ false
unread_unused net x u = false_from_ne_true (is_in_use net x) (λ e. elim (used_by net x e) [ inl read ↦ u.unread read.0 read.1.0 read.1.1 | inr o ↦ u.unobserved o ])

taken_at : (xs : List ℕ) (k q x : ℕ) → slice_get (take k xs) q ≡ Some x → (q < k) × (slice_get xs q ≡ Some x)
taken_at xs zero q x e = cc
taken_at [] (suc k) q x e = cc
taken_at (y ∷ ys) (suc k) zero x e = (omega arith, e)
taken_at (y ∷ ys) (suc k) (suc q) x e = let rest : (q < k) × (slice_get ys q ≡ Some x) = taken_at ys k q x e in (omega (arith, rest.0), rest.1)

-- an earlier place with the same number
pub repeated_at : (xs : List ℕ) (k : ℕ) → is_repeated xs k ≡ true → (d : ℕ) × ((q : ℕ) × ((q < k) × ((slice_get xs q ≡ Some d) × (slice_get xs k ≡ Some d))))
repeated_at xs k e = at (slice_get xs k) refl e
  where
    at : (o : Option ℕ) → slice_get xs k ≡ o → is_some_among o (take k xs) ≡ true → (d : ℕ) × ((q : ℕ) × ((q < k) × ((slice_get xs q ≡ Some d) × (slice_get xs k ≡ Some d))))
    at None is e = cc
    at (Some d) is e =
        let there : (q : ℕ) × (slice_get (take k xs) q ≡ Some d) = among_at d (take k xs) e in
        let earlier : (there.0 < k) × (slice_get xs there.0 ≡ Some d) = taken_at xs k there.0 d there.1 in
        (d, (there.0, (earlier.0, (earlier.1, is))))

pub one_in : (xs : List ℕ) → nat_eq (length xs) 1 ≡ true → (d : ℕ) × (xs ≡ d ∷ [])
one_in [] e = cc
one_in (d ∷ []) e = (d, refl)
one_in (d ∷ x ∷ xs) e = absurd (let is : suc (suc (length xs)) ≡ 1 = eqb-true (suc (suc (length xs))) 1 e in omega arith)

pub none_in : (xs : List ℕ) → nat_eq (length xs) 0 ≡ true → xs ≡ []
none_in [] e = refl
none_in (d ∷ xs) e = absurd (let is : suc (length xs) ≡ 0 = eqb-true (suc (length xs)) 0 e in omega arith)

pub not_at : (net : Net) (o : Option ℕ) → is_not_at net o ≡ true → (x : ℕ) × ((o ≡ Some x) × (is_not net x ≡ true))
not_at net None e = cc
not_at net (Some x) e = (x, (refl, e))

pub same_at : (o q : Option ℕ) → same_some o q ≡ true → (x : ℕ) × ((o ≡ Some x) × (q ≡ Some x))
same_at None q e = cc
same_at (Some x) None e = cc
same_at (Some x) (Some y) e = (x, (refl, ap Some (sym (eqb-true x y e))))
