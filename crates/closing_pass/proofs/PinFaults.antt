-- Each fault of a net is of one of its pins.
use Rattle.std.proofs.Common.{◌≡◌, ℕ, zero, suc, ◌+◌, Option, Some, List, [], ◌∷◌, ◌++◌, length, refl, ◌∙◌, ap, arith}
use Rattle.std.specs.Prelude.{slice_get}
use Rattle.std.specs.List.{AllByRecursion}
use Rattle.rm_base.specs.declared.numbers.Fault.{Fault}
use Rattle.gate_net.specs.Faults.{faults_from, faults_of, pin_faults}
use Rattle.gate_net.specs.Net.{Net, Node, drivers_in, drivers_of, flatten_option}
use Rattle.gate_net.specs.Values.{HasPin}
use Rattle.rm_base.proofs.Public.{stands_below}

all_append : (P : Fault → Type 0) (xs ys : List Fault) → AllByRecursion P xs → AllByRecursion P ys → AllByRecursion P (xs ++ ys)
all_append P [] ys v w = w
all_append P (x ∷ xs) ys v w = (v.0, all_append P xs ys v.1 w)

pins_there : (net : Net) (g p c : ℕ) → p + c ≡ length (drivers_of net g) → AllByRecursion (HasPin net) (pin_faults g p c)
pins_there net g p zero e = tt
pins_there net g p (suc c) e =
    let there : (x : ℕ) × (slice_get (drivers_of net g) p ≡ Some x) = stands_below (drivers_of net g) p (omega (arith, e)) in
    (there, (there, pins_there net g (suc p) c (omega (arith, e))))

-- the nodes from one number on, as the net has them
pins_from : (net : Net) (n : ℕ) (os : List (Option Node)) → ((k : ℕ) (o : Option Node) → slice_get os k ≡ Some o → slice_get net.nodes (n + k) ≡ Some o) → AllByRecursion (HasPin net) (faults_from n os)
pins_from net n [] same = tt
pins_from net n (o ∷ os) same =
    let here : slice_get net.nodes n ≡ Some o = rw (plus_none n) at (same 0 o refl) in
    let count : length (drivers_of net n) ≡ length (drivers_in o) = ap (λ (q : Option (Option Node)). length (drivers_in (flatten_option q))) here in
    all_append (HasPin net) (pin_faults n 0 (length (drivers_in o))) (faults_from (suc n) os) (pins_there net n 0 (length (drivers_in o)) (omega (arith, count)))
    (pins_from net (suc n) os (λ k q is. rw (plus_one n k) at (same (suc k) q is)))
  where
    plus_none : (n : ℕ) → n + 0 ≡ n
    plus_none n = omega arith

    plus_one : (n k : ℕ) → n + suc k ≡ suc n + k
    plus_one n k = omega arith

pub pins_all : (net : Net) → AllByRecursion (HasPin net) (faults_of net)
pins_all net = pins_from net 0 net.nodes (λ k o is. ap (λ (n : ℕ). slice_get net.nodes n) (none_plus k) ∙ is)
  where
    none_plus : (k : ℕ) → 0 + k ≡ k
    none_plus k = omega arith
