-- The lists of gates and of faults.
use Rattle.std.proofs.Common.{◌≡◌, ◌≤◌, ◌<◌, ◌+◌, ℕ, zero, suc, Bool, true, false, List, [], ◌∷◌, ◌++◌, length, refl, sym, ◌∙◌, ap, arith, subst, inl, inr}
use Rattle.std.specs.Prelude.{Option, None, Some, slice_get, if◌then◌else◌}
use Rattle.rm_base.specs.declared.numbers.Fault.{Fault}
use Rattle.gate_net.specs.Net.{Node, Net, node_at, drivers_in, drivers_of, flatten_option, IsGateKind, IsGate}
use Rattle.graph_to_model.proofs.Public.{all_from_start, first_from, rest_from}
use Rattle.gate_net.specs.Faults.{is_gate_kind, before_gates, gates_from, gates_of, fault_at, pin_faults, faults_from, faults_of}
use Rattle.model_faults.specs.Laws.{IsListed, NetsListOnce}
use Rattle.model_faults.proofs.Gates.{gate_kind, kind_gate}
use Rattle.rm_base.proofs.Public.{in_append, in_at, in_left, in_right, place_of_member, some_is}
use Rattle.rm_base.specs.Members.{In}
use Rattle.graph_to_model.specs.Inner.Covers.{AreNodesFrom}

-- DIFFERENT ELEMENTS
abbrev AreDifferent : {A : Type 0} → List A → Type 0
AreDifferent [] = Unit {0}
AreDifferent (x ∷ xs) = (In xs x → ⊥) × AreDifferent xs

different_append : {A : Type 0} (xs ys : List A) → AreDifferent xs → AreDifferent ys → ((x : A) → In xs x → In ys x → ⊥) → AreDifferent (xs ++ ys)
different_append [] ys h k apart = k
different_append (x ∷ xs) ys h k apart =
    ((λ i. elim (in_append xs ys x i) [ inl a ↦ h.0 a | inr b ↦ apart x (inl refl) b ]), different_append xs ys h.1 k (λ y a b. apart y (inr a) b))

one_place : {A : Type 0} (xs : List A) (x : A) (i j : ℕ) → AreDifferent xs → slice_get xs i ≡ Some x → slice_get xs j ≡ Some x → i ≡ j
one_place [] x zero j h e f = absurd cc
one_place [] x (suc i) j h e f = absurd cc
one_place (y ∷ xs) x zero zero h e f = refl
one_place (y ∷ xs) x zero (suc j) h e f = absurd (h.0 (subst (In xs) (sym (some_is y x e)) (in_at xs j x f)))
one_place (y ∷ xs) x (suc i) zero h e f = absurd (h.0 (subst (In xs) (sym (some_is y x f)) (in_at xs i x e)))
one_place (y ∷ xs) x (suc i) (suc j) h e f = ap suc (one_place xs x i j h.1 e f)

-- FAULTS
-- the faults of a gate's pins from a position on
of_pins : (g q count : ℕ) (f : Fault) → In (pin_faults g q count) f → (f.gate.0 ≡ g) × (q ≤ f.position)
of_pins g q zero f i = absurd i
of_pins g q (suc count) f (inl e) = (ap (λ (h : Fault). h.gate.0) (sym e), (let p : q ≡ f.position = ap (λ (h : Fault). h.position) e in omega arith))
of_pins g q (suc count) f (inr (inl e)) = (ap (λ (h : Fault). h.gate.0) (sym e), (let p : q ≡ f.position = ap (λ (h : Fault). h.position) e in omega arith))
of_pins g q (suc count) f (inr (inr i)) = let r = of_pins g (suc q) count f i in (r.0, (let later : suc q ≤ f.position = r.1 in omega arith))

pins_different : (g q count : ℕ) → AreDifferent (pin_faults g q count)
pins_different g q zero = tt
pins_different g q (suc count) = (apart_false, (apart_true, pins_different g (suc q) count))
  where
    later : (b : Bool) → In (pin_faults g (suc q) count) (fault_at g q b) → ⊥
    later b i = let r = (of_pins g (suc q) count (fault_at g q b) i).1 in omega (arith, r)

    apart_true : In (pin_faults g (suc q) count) (fault_at g q true) → ⊥
    apart_true i = later true i

    apart_false : In (fault_at g q true ∷ pin_faults g (suc q) count) (fault_at g q false) → ⊥
    apart_false (inl e) = let bad : true ≡ false = ap (λ (h : Fault). h.value) e in cc
    apart_false (inr i) = later false i

from_number : (n : ℕ) (os : List (Option Node)) (f : Fault) → In (faults_from n os) f → n ≤ f.gate.0
from_number n [] f i = absurd i
from_number n (o ∷ os) f i = elim (in_append (pin_faults n 0 (length (drivers_in o))) (faults_from (suc n) os) f i) [
  | inl a ↦ (let same : f.gate.0 ≡ n = (of_pins n 0 (length (drivers_in o)) f a).0 in omega arith)
  | inr b ↦ (let later : suc n ≤ f.gate.0 = from_number (suc n) os f b in omega arith)
]

faults_different : (n : ℕ) (os : List (Option Node)) → AreDifferent (faults_from n os)
faults_different n [] = tt
faults_different n (o ∷ os) = different_append (pin_faults n 0 (length (drivers_in o))) (faults_from (suc n) os) (pins_different n 0 (length (drivers_in o))) (faults_different (suc n) os)
    (λ f a b. (let same : f.gate.0 ≡ n = (of_pins n 0 (length (drivers_in o)) f a).0 in let later : suc n ≤ f.gate.0 = from_number (suc n) os f b in omega arith))

in_pins : (g q count d : ℕ) (b : Bool) → d < count → In (pin_faults g q count) (fault_at g (q + d) b)
in_pins g q zero d b h = absurd (omega arith)
in_pins g q (suc count) zero b h = by_value b (let same : q + 0 ≡ q = omega arith in same)
  where
    by_value : (b : Bool) → q + 0 ≡ q → In (pin_faults g q (suc count)) (fault_at g (q + 0) b)
    by_value false e = inl (ap (λ (p : ℕ). fault_at g p false) (sym e))
    by_value true e = inr (inl (ap (λ (p : ℕ). fault_at g p true) (sym e)))
in_pins g q (suc count) (suc d) b h =
    let place : suc q + d ≡ q + suc d = omega arith in
    inr (inr (subst (λ (p : ℕ). In (pin_faults g (suc q) count) (fault_at g p b)) place (in_pins g (suc q) count d b (omega arith))))

in_faults : (n : ℕ) (os : List (Option Node)) (k : ℕ) (o : Option Node) (f : Fault) → slice_get os k ≡ Some o → In (pin_faults (n + k) 0 (length (drivers_in o))) f → In (faults_from n os) f
in_faults n [] zero o f e i = absurd cc
in_faults n [] (suc k) o f e i = absurd cc
in_faults n (p ∷ os) zero o f e i =
    let number : n + 0 ≡ n = omega arith in
    in_left (pin_faults n 0 (length (drivers_in p))) (faults_from (suc n) os) f
    (subst (λ (x : ℕ). In (pin_faults x 0 (length (drivers_in p))) f) number (subst (λ (q : Option Node). In (pin_faults (n + 0) 0 (length (drivers_in q))) f) (sym (some_is p o e)) i))
in_faults n (p ∷ os) (suc k) o f e i =
    let number : n + suc k ≡ suc n + k = omega arith in
    in_right (pin_faults n 0 (length (drivers_in p))) (faults_from (suc n) os) f
    (in_faults (suc n) os k o f e (subst (λ (x : ℕ). In (pin_faults x 0 (length (drivers_in o))) f) number i))

-- each pin's faults are listed
pub pin_listed : (net : Net) (x p : ℕ) (b : Bool) → p < length (drivers_of net x) → IsListed net (fault_at x p b)
pin_listed net x p b h = told (slice_get net.nodes x) refl
  where
    told : (o : Option (Option Node)) → slice_get net.nodes x ≡ o → IsListed net (fault_at x p b)
    told None e = let none : length (drivers_of net x) ≡ 0 = rw e refl in absurd (omega arith)
    told (Some o) e =
        let own : length (drivers_of net x) ≡ length (drivers_in o) = rw e refl in
        let number : x ≡ 0 + x = omega arith in
        let place : 0 + p ≡ p = omega arith in
        let pins : In (pin_faults x 0 (length (drivers_in o))) (fault_at x p b) =
        subst (λ (q : ℕ). In (pin_faults x 0 (length (drivers_in o))) (fault_at x q b)) place (in_pins x 0 (length (drivers_in o)) p b (omega arith)) in
        place_of_member (faults_of net) (fault_at x p b) (in_faults 0 net.nodes x o (fault_at x p b) e (subst (λ (g : ℕ). In (pin_faults g 0 (length (drivers_in o))) (fault_at x p b)) number pins))

-- GATES
abbrev AreGates : Net → ℕ → List ℕ → Type 0
AreGates net n xs = (x : ℕ) → In xs x → (n ≤ x) × IsGate net x

is_gate : (net : Net) (n : ℕ) (node : Node) → node_at net n ≡ Some node → IsGateKind node.kind → IsGate net n
is_gate net n node at gate = (node.kind, ((node.drivers, at), gate))

node_gates : (net : Net) (n : ℕ) (o : Option Node) (xs : List ℕ) → node_at net n ≡ o → AreGates net (n + 1) xs → AreGates net n (before_gates o n xs)
node_gates net n None xs at h x i = let r = h x i in (let low : n + 1 ≤ x = r.0 in omega arith, r.1)
node_gates net n (Some node) xs at h x i = by_test (is_gate_kind node.kind) refl i
  where
    by_test : (b : Bool) → is_gate_kind node.kind ≡ b → In (if b then n ∷ xs else xs) x → (n ≤ x) × IsGate net x
    by_test true e (inl same) = (omega arith, subst (IsGate net) same (is_gate net n node at (kind_gate node.kind e)))
    by_test true e (inr i) = let r = h x i in (let low : n + 1 ≤ x = r.0 in omega arith, r.1)
    by_test false e i = let r = h x i in (let low : n + 1 ≤ x = r.0 in omega arith, r.1)

from_gates : (net : Net) (n : ℕ) (os : List (Option Node)) → AreNodesFrom net n os → AreGates net n (gates_from n os)
from_gates net n [] same = λ x i. absurd i
from_gates net n (o ∷ os) same = node_gates net n o (gates_from (n + 1) os) (first_from net n o os same) (from_gates net (n + 1) os (rest_from net n o os same))

abbrev Ascend : List ℕ → Type 0
Ascend xs = (i j x y : ℕ) → i < j → slice_get xs i ≡ Some x → slice_get xs j ≡ Some y → x < y

ascend_more : (n : ℕ) (xs : List ℕ) → ((x : ℕ) → In xs x → n + 1 ≤ x) → Ascend xs → Ascend (n ∷ xs)
ascend_more n xs low h zero zero x y lt e f = absurd (omega arith)
ascend_more n xs low h zero (suc j) x y lt e f = let first : n ≡ x = some_is n x e in let later : n + 1 ≤ y = low y (in_at xs j y f) in omega arith
ascend_more n xs low h (suc i) zero x y lt e f = absurd (omega arith)
ascend_more n xs low h (suc i) (suc j) x y lt e f = h i j x y (omega arith) e f

node_ascend : (n : ℕ) (o : Option Node) (xs : List ℕ) → ((x : ℕ) → In xs x → n + 1 ≤ x) → Ascend xs → Ascend (before_gates o n xs)
node_ascend n None xs low h = h
node_ascend n (Some node) xs low h = by_test (is_gate_kind node.kind)
  where
    by_test : (b : Bool) → Ascend (if b then n ∷ xs else xs)
    by_test true = ascend_more n xs low h
    by_test false = h

from_ascend : (net : Net) (n : ℕ) (os : List (Option Node)) → AreNodesFrom net n os → Ascend (gates_from n os)
from_ascend net n [] same = λ i j x y lt e f. absurd (none i x e)
  where
    none : (i x : ℕ) → slice_get {X = ℕ} [] i ≡ Some x → ⊥
    none zero x e = cc
    none (suc i) x e = cc
from_ascend net n (o ∷ os) same =
    node_ascend n o (gates_from (n + 1) os) (λ x i. (from_gates net (n + 1) os (rest_from net n o os same) x i).0) (from_ascend net (n + 1) os (rest_from net n o os same))

in_before : (o : Option Node) (n : ℕ) (xs : List ℕ) (x : ℕ) → In xs x → In (before_gates o n xs) x
in_before None n xs x i = i
in_before (Some node) n xs x i = by_test (is_gate_kind node.kind)
  where
    by_test : (b : Bool) → In (if b then n ∷ xs else xs) x
    by_test true = inr i
    by_test false = i

in_gates : (n : ℕ) (os : List (Option Node)) (k : ℕ) (node : Node) → slice_get os k ≡ Some (Some node) → IsGateKind node.kind → In (gates_from n os) (n + k)
in_gates n [] zero node e gate = absurd cc
in_gates n [] (suc k) node e gate = absurd cc
in_gates n (o ∷ os) zero node e gate =
    let number : n + 0 ≡ n = omega arith in
    subst (λ (p : Option Node). In (before_gates p n (gates_from (n + 1) os)) (n + 0)) (sym (some_is o (Some node) e)) (rw (gate_kind node.kind gate) (inl (sym number)))
in_gates n (o ∷ os) (suc k) node e gate =
    let number : n + 1 + k ≡ n + suc k = omega arith in
    in_before o n (gates_from (n + 1) os) (n + suc k) (subst (In (gates_from (n + 1) os)) number (in_gates (n + 1) os k node e gate))

all_gates : (net : Net) (x : ℕ) → IsGate net x → (k : ℕ) × (slice_get (gates_of net) k ≡ Some x)
all_gates net x (kind, ((drivers, at), gate)) = told (record { kind = kind; drivers = drivers }) at gate (slice_get net.nodes x) refl
  where
    told : (node : Node) → node_at net x ≡ Some node → IsGateKind node.kind → (o : Option (Option Node)) → slice_get net.nodes x ≡ o → (k : ℕ) × (slice_get (gates_of net) k ≡ Some x)
    told node at gate None e = let none : None ≡ Some node = sym (ap flatten_option e) ∙ at in absurd cc
    told node at gate (Some o) e =
        let is : o ≡ Some node = sym (ap flatten_option e) ∙ at in
        let number : 0 + x ≡ x = omega arith in
        place_of_member (gates_of net) x (subst (In (gates_of net)) number (in_gates 0 net.nodes x node (e ∙ ap Some is) gate))

pub list_once : NetsListOnce
list_once net = record {
  ascend = from_ascend net 0 net.nodes (all_from_start net);
  all = all_gates net;
  gates = λ k x e. (from_gates net 0 net.nodes (all_from_start net) x (in_at (gates_of net) k x e)).1;
  once = λ i j f e g. one_place (faults_of net) f i j (faults_different 0 net.nodes) e g;
}
