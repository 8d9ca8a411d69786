-- The faults of main gates come first in the list of all faults.
use Rattle.std.proofs.Common.{Bool, List, Option, [], ap, append_assoc, arith, drop, false, length, refl, suc, sym, take, true, zero, ℕ, ◌++◌, ◌+◌, ◌<◌, ◌∙◌, ◌∷◌, ◌≡◌, ◌≤◌}
use Rattle.std.specs.Prelude.{if◌then◌else◌, nat_lt}
use Rattle.std.specs.List.{AllByRecursion}
use Rattle.std.proofs.lemmas.Bool.{le-ltb, lt-ltb}
use Rattle.gate_net.specs.Faults.{faults_from, faults_of, pin_faults}
use Rattle.gate_net.specs.Net.{Net, Node, drivers_in}
use Rattle.rm_base.specs.declared.numbers.Fault.{Fault}
use Rattle.care_opt.specs.Extract.{main_faults}
use Rattle.care_opt.specs.Inner.Leading.{leading}
use Rattle.care_opt.proofs.MainFaults.{all_join}

pins_at : (P : ℕ → Type 0) (gate from count : ℕ) → P gate → AllByRecursion (λ f. P f.gate.0) (pin_faults gate from count)
pins_at P gate from zero p = tt
pins_at P gate from (suc count) p = (p, (p, pins_at P gate (suc from) count p))

above : (b g : ℕ) (os : List (Option Node)) → b ≤ g → AllByRecursion (λ f. b ≤ f.gate.0) (faults_from g os)
above b g [] le = tt
above b g (o ∷ os) le = all_join (λ f. b ≤ f.gate.0) (pin_faults g 0 (length (drivers_in o))) (faults_from (suc g) os) (pins_at (λ x. b ≤ x) g 0 (length (drivers_in o)) le) (above b (suc g) os (omega (arith, le)))

below : (b g : ℕ) (os : List (Option Node)) → g + length os ≤ b → AllByRecursion (λ f. f.gate.0 < b) (faults_from g os)
below b g [] le = tt
below b g (o ∷ os) le = all_join (λ f. f.gate.0 < b) (pin_faults g 0 (length (drivers_in o))) (faults_from (suc g) os) (pins_at (λ x. x < b) g 0 (length (drivers_in o)) (omega (arith, le))) (below b (suc g) os (omega (arith, le)))

split : (g k : ℕ) (os : List (Option Node)) → faults_from g os ≡ faults_from g (take k os) ++ faults_from (g + k) (drop k os)
split g zero os = let same : g + 0 ≡ g = omega arith in ap (λ (i : ℕ). faults_from i os) (sym same)
split g (suc k) [] = refl
split g (suc k) (o ∷ os) =
    let same : suc g + k ≡ g + suc k = omega arith in
    ap (λ (fs : List Fault). pin_faults g 0 (length (drivers_in o)) ++ fs) (split (suc g) k os ∙ ap (λ (i : ℕ). faults_from (suc g) (take k os) ++ faults_from i (drop k os)) same)
    ∙ sym (append_assoc (pin_faults g 0 (length (drivers_in o))) (faults_from (suc g) (take k os)) (faults_from (g + suc k) (drop k os)))

taken_short : (os : List (Option Node)) (b : ℕ) → length (take b os) ≤ b
taken_short os zero = omega arith
taken_short [] (suc b) = omega arith
taken_short (o ∷ os) (suc b) = let rest = taken_short os b in omega (arith, rest)

lead_is : (b : ℕ) (xs ys : List Fault) → AllByRecursion (λ f. f.gate.0 < b) xs → AllByRecursion (λ f. b ≤ f.gate.0) ys → take (leading b (xs ++ ys)) (xs ++ ys) ≡ xs
lead_is b [] [] h k = refl
lead_is b [] (y ∷ ys) h k = let e : nat_lt y.gate.0 b ≡ false = le-ltb y.gate.0 b k.0 in ap (λ (t : Bool). take (if t then suc (leading b ys) else 0) (y ∷ ys)) e
lead_is b (x ∷ xs) ys h k = let e : nat_lt x.gate.0 b ≡ true = lt-ltb x.gate.0 b h.0 in ap (λ (t : Bool). take (if t then suc (leading b (xs ++ ys)) else 0) (x ∷ (xs ++ ys))) e ∙ ap (λ (l : List Fault). x ∷ l) (lead_is b xs ys h.1 k)

pub main_taken : (b : ℕ) (net : Net) (all slice : List Fault) (count : ℕ) (last : List Fault) → all ≡ faults_of net → slice ≡ all → count ≡ leading b slice → last ≡ take count all → last ≡ main_faults b net
main_taken b net all slice count last is same counts cut =
    cut
    ∙ (ap (λ (i : ℕ). take i all) (counts ∙ ap (λ (l : List Fault). leading b l) same)
    ∙ (ap (λ (l : List Fault). take (leading b l) l) (is ∙ split 0 b net.nodes)
    ∙ lead_is b (main_faults b net) (faults_from (0 + b) (drop b net.nodes)) (below b 0 (take b net.nodes) (let short = taken_short net.nodes b in omega (arith, short))) (above b (0 + b) (drop b net.nodes) (omega arith))))
