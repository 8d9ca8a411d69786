-- The faults of the main gates, in order.
use Rattle.std.proofs.Common.{Bool, List, None, Option, Some, [], ap, arith, false, inl, inr, length, refl, subst, suc, sym, take, true, zero, ℕ, ◌++◌, ◌+◌, ◌<◌, ◌∙◌, ◌∷◌, ◌≡◌, ◌≤◌}
use Rattle.std.specs.Prelude.{slice_get}
use Rattle.std.specs.List.{AllByRecursion}
use Rattle.std.proofs.lemmas.Bool.{cases_lt}
use Rattle.std.proofs.lemmas.Option.{slice_get_within}
use Rattle.gate_net.specs.Faults.{fault_at, faults_from, pin_faults}
use Rattle.gate_net.specs.Net.{Net, Node, drivers_in, drivers_of, flatten_option, node_at}
use Rattle.rm_base.proofs.Public.{stands_below}
use Rattle.rm_base.specs.declared.numbers.Fault.{Fault}
use Rattle.care_opt.specs.Extract.{main_faults}
use Rattle.care_opt.specs.Gated.{IsMainFault}
use Rattle.care_opt.proofs.Numbering.{node_in, take_at, take_below}

-- the faults of main gates are main faults, and all of them
within_pins : (P : Fault → Type 0) (gate from count : ℕ) → ((p : ℕ) (v : Bool) → from ≤ p → p < from + count → P (fault_at gate p v)) → AllByRecursion P (pin_faults gate from count)
within_pins P gate from zero h = tt
within_pins P gate from (suc count) h = (h from false (omega arith) (omega arith), (h from true (omega arith) (omega arith), within_pins P gate (suc from) count (λ p v le lt. h p v (omega (arith, le)) (omega (arith, lt)))))

pub all_join : (P : Fault → Type 0) (xs ys : List Fault) → AllByRecursion P xs → AllByRecursion P ys → AllByRecursion P (xs ++ ys)
all_join P [] ys h k = k
all_join P (x ∷ xs) ys h k = (h.0, all_join P xs ys h.1 k)

within : (P : Fault → Type 0) (g : ℕ) (os : List (Option Node)) → ((k p : ℕ) (v : Bool) → p < length (drivers_in (node_in os k)) → P (fault_at (g + k) p v)) → AllByRecursion P (faults_from g os)
within P g [] h = tt
within P g (o ∷ os) h =
    all_join P (pin_faults g 0 (length (drivers_in o))) (faults_from (suc g) os)
    (within_pins P g 0 (length (drivers_in o)) (λ p v le lt. let same : g + 0 ≡ g = omega arith in subst (λ (i : ℕ). P (fault_at i p v)) same (h 0 p v (omega (arith, lt)))))
    (within P (suc g) os (λ k p v lt. let same : g + suc k ≡ suc g + k = omega arith in subst (λ (i : ℕ). P (fault_at i p v)) same (h (suc k) p v lt)))

pub all_main : (bound : ℕ) (net : Net) → AllByRecursion (IsMainFault bound net) (main_faults bound net)
all_main bound net = within (IsMainFault bound net) 0 (take bound net.nodes) (λ k p v lt. let same : 0 + k ≡ k = omega arith in subst (λ (i : ℕ). IsMainFault bound net (fault_at i p v)) (sym same) (there k p v lt))
  where
    there : (k p : ℕ) (v : Bool) → p < length (drivers_in (node_in (take bound net.nodes) k)) → IsMainFault bound net (fault_at k p v)
    there k p v lt =
        let low : k < bound = below (node_in (take bound net.nodes) k) refl lt in
        let same : node_in (take bound net.nodes) k ≡ node_at net k = ap (λ (o : Option (Option Node)). flatten_option o) (take_at net.nodes bound k low) in
        (low, stands_below (drivers_of net k) p (subst (λ (o : Option Node). p < length (drivers_in o)) same lt))
      where
        below : (o : Option Node) → node_in (take bound net.nodes) k ≡ o → p < length (drivers_in o) → k < bound
        below None is less = absurd (omega (arith, less))
        below (Some n) is less = take_below net.nodes bound k n is

in_pins : (gate from count p : ℕ) (v : Bool) → from ≤ p → p < from + count → (j : ℕ) × (slice_get (pin_faults gate from count) j ≡ Some (fault_at gate p v))
in_pins gate from zero p v le lt = absurd (omega (arith, le, lt))
in_pins gate from (suc count) p v le lt = elim (cases_lt from p) [
  | inl less ↦ let r = in_pins gate (suc from) count p v (omega (arith, less)) (omega (arith, lt)) in (suc (suc r.0), r.1)
  | inr more ↦ let same : from ≡ p = omega (arith, le, more) in by_value v same
]
  where
    by_value : (v : Bool) → from ≡ p → (j : ℕ) × (slice_get (pin_faults gate from (suc count)) j ≡ Some (fault_at gate p v))
    by_value false same = (0, ap (λ (i : ℕ). Some (fault_at gate i false)) same)
    by_value true same = (1, ap (λ (i : ℕ). Some (fault_at gate i true)) same)

left_at : (xs ys : List Fault) (k : ℕ) (x : Fault) → slice_get xs k ≡ Some x → (j : ℕ) × (slice_get (xs ++ ys) j ≡ Some x)
left_at [] ys k x e = absurd cc
left_at (z ∷ xs) ys zero x e = (0, e)
left_at (z ∷ xs) ys (suc k) x e = let r = left_at xs ys k x e in (suc r.0, r.1)

right_at : (xs ys : List Fault) (k : ℕ) (x : Fault) → slice_get ys k ≡ Some x → (j : ℕ) × (slice_get (xs ++ ys) j ≡ Some x)
right_at [] ys k x e = (k, e)
right_at (z ∷ xs) ys k x e = let r = right_at xs ys k x e in (suc r.0, r.1)

in_faults : (g : ℕ) (os : List (Option Node)) (k p : ℕ) (v : Bool) → p < length (drivers_in (node_in os k)) → (j : ℕ) × (slice_get (faults_from g os) j ≡ Some (fault_at (g + k) p v))
in_faults g [] k p v lt = absurd (omega (arith, lt))
in_faults g (o ∷ os) zero p v lt =
    let r = in_pins g 0 (length (drivers_in o)) p v (omega arith) (omega (arith, lt)) in
    let s = left_at (pin_faults g 0 (length (drivers_in o))) (faults_from (suc g) os) r.0 (fault_at g p v) r.1 in
    let same : g ≡ g + 0 = omega arith in
    (s.0, s.1 ∙ ap (λ (i : ℕ). Some (fault_at i p v)) same)
in_faults g (o ∷ os) (suc k) p v lt =
    let r = in_faults (suc g) os k p v lt in
    let s = right_at (pin_faults g 0 (length (drivers_in o))) (faults_from (suc g) os) r.0 (fault_at (suc g + k) p v) r.1 in
    let same : suc g + k ≡ g + suc k = omega arith in
    (s.0, s.1 ∙ ap (λ (i : ℕ). Some (fault_at i p v)) same)

pub main_listed : (bound : ℕ) (net : Net) (fault : Fault) → IsMainFault bound net fault → (j : ℕ) × (slice_get (main_faults bound net) j ≡ Some fault)
main_listed bound net fault (lt, (d, reads)) =
    let within : fault.position < length (drivers_of net fault.gate.0) = slice_get_within (drivers_of net fault.gate.0) fault.position d reads in
    let same : node_at net fault.gate.0 ≡ node_in (take bound net.nodes) fault.gate.0 = sym (ap (λ (o : Option (Option Node)). flatten_option o) (take_at net.nodes bound fault.gate.0 lt)) in
    let r = in_faults 0 (take bound net.nodes) fault.gate.0 fault.position fault.value (subst (λ (o : Option Node). fault.position < length (drivers_in o)) same within) in
    let zero_plus : 0 + fault.gate.0 ≡ fault.gate.0 = omega arith in
    (r.0, r.1 ∙ ap (λ (i : ℕ). Some (fault_at i fault.position fault.value)) zero_plus)

pub all_placed : (P : Fault → Type 0) (xs : List Fault) (k : ℕ) (x : Fault) → AllByRecursion P xs → slice_get xs k ≡ Some x → P x
all_placed P [] k x h e = absurd cc
all_placed P (y ∷ xs) zero x h e = let same : y ≡ x = cc in subst P same h.0
all_placed P (y ∷ xs) (suc k) x h e = all_placed P xs k x h.1 e
