-- Live nodes that are numbered anew.
use Rattle.std.proofs.Common.{List, None, Option, Some, [], ap, arith, inl, inr, length, map, refl, suc, sym, take, zero, ℕ, ◌+◌, ◌<◌, ◌∙◌, ◌∷◌, ◌≡◌, ◌≤◌, ◌≢◌}
use Rattle.std.specs.Prelude.{slice_get, ◌++◌}
use Rattle.std.proofs.lemmas.Bool.{cases_lt}
use Rattle.std.proofs.lemmas.List.{length-map, map-append}
use Rattle.gate_net.specs.Faults.{faults_from, pin_faults}
use Rattle.gate_net.specs.Net.{Net, Node, flatten_option, node_at}
use Rattle.joined_nets.specs.Growing.{live}
use Rattle.rm_base.specs.declared.numbers.Fault.{Fault}
use Rattle.care_opt.specs.Extract.{extract, main_nodes, new_number, numbered}
use Rattle.care_opt.specs.Laws.{ExtractsKeepFaults}

-- the node of that number in a list
abbrev pub node_in : List (Option Node) → ℕ → Option Node
node_in os x = flatten_option (slice_get os x)

abbrev pub redone : (ℕ → ℕ) → Node → Node
redone f n = record n { drivers = map f n.drivers }

pub numbered_at : (f : ℕ → ℕ) (os : List (Option Node)) (x : ℕ) (n : Node) → node_in os x ≡ Some n → slice_get (numbered f os) (new_number os x) ≡ Some (redone f n)
numbered_at f [] x n e = absurd cc
numbered_at f (None ∷ os) zero n e = absurd cc
numbered_at f (None ∷ os) (suc x) n e = numbered_at f os x n e
numbered_at f (Some m ∷ os) zero n e = let same : m ≡ n = cc in ap (λ (k : Node). Some (redone f k)) same
numbered_at f (Some m ∷ os) (suc x) n e = numbered_at f os x n e

pub record Origin (f : ℕ → ℕ) (os : List (Option Node)) (y : ℕ) (m : Node) : Type 0 where
  pub old : ℕ
  pub node : Node
  pub there : node_in os old ≡ Some node
  pub number : new_number os old ≡ y
  pub same : m ≡ redone f node

pub numbered_from : (f : ℕ → ℕ) (os : List (Option Node)) (y : ℕ) (m : Node) → slice_get (numbered f os) y ≡ Some m → Origin f os y m
numbered_from f [] y m e = absurd cc
numbered_from f (None ∷ os) y m e = let r = numbered_from f os y m e in record { old = suc r.old; node = r.node; there = r.there; number = r.number; same = r.same }
numbered_from f (Some n ∷ os) zero m e = record { old = 0; node = n; there = refl; number = refl; same = cc }
numbered_from f (Some n ∷ os) (suc y) m e = let r = numbered_from f os y m e in record { old = suc r.old; node = r.node; there = r.there; number = ap (λ (i : ℕ). suc i) r.number; same = r.same }

pub number_rises : (os : List (Option Node)) (x z : ℕ) (n : Node) → node_in os x ≡ Some n → x < z → new_number os x < new_number os z
number_rises [] x z n e lt = absurd cc
number_rises (o ∷ os) x zero n e lt = absurd (omega (arith, lt))
number_rises (None ∷ os) zero (suc z) n e lt = absurd cc
number_rises (Some m ∷ os) zero (suc z) n e lt = omega arith
number_rises (None ∷ os) (suc x) (suc z) n e lt = number_rises os x z n e (omega (arith, lt))
number_rises (Some m ∷ os) (suc x) (suc z) n e lt = let less = number_rises os x z n e (omega (arith, lt)) in omega (arith, less)

pub number_same : (os : List (Option Node)) (x z : ℕ) (n m : Node) → node_in os x ≡ Some n → node_in os z ≡ Some m → new_number os x ≡ new_number os z → x ≡ z
number_same os x z n m e f same = elim (cases_lt x z) [
  | inl lt ↦ absurd (let less = number_rises os x z n e lt in omega (arith, less, same))
  | inr le ↦ elim (cases_lt z x) [ inl lt ↦ absurd (let less = number_rises os z x m f lt in omega (arith, less, same)) | inr ge ↦ omega (arith, le, ge) ]
]

pub number_falls : (os : List (Option Node)) (x z : ℕ) (n : Node) → node_in os z ≡ Some n → new_number os x < new_number os z → x < z
number_falls os x z n e less = elim (cases_lt x z) [
  | inl lt ↦ lt
  | inr le ↦ elim (cases_lt z x) [ inl gt ↦ absurd (let more = number_rises os z x n e gt in omega (arith, less, more)) | inr ge ↦ absurd (let same : x ≡ z = omega (arith, le, ge) in let eq = ap (λ (i : ℕ). new_number os i) same in omega (arith, eq, less)) ]
]

-- where all lower numbers are live, nothing changes
pub number_stays : (os : List (Option Node)) (k x : ℕ) → ((y : ℕ) → y < k → node_in os y ≢ None) → x ≤ k → new_number os x ≡ x
number_stays os k zero live le = refl
number_stays [] k (suc x) live le = absurd (live 0 (omega (arith, le)) refl)
number_stays (None ∷ os) k (suc x) live le = absurd (live 0 (omega (arith, le)) refl)
number_stays (Some n ∷ os) zero (suc x) live le = absurd (omega (arith, le))
number_stays (Some n ∷ os) (suc k) (suc x) live le = ap (λ (i : ℕ). suc i) (number_stays os k x (λ y lt. live (suc y) (omega (arith, lt))) (omega (arith, le)))

pub take_at : (os : List (Option Node)) (b x : ℕ) → x < b → slice_get (take b os) x ≡ slice_get os x
take_at os zero x lt = absurd (omega arith)
take_at [] (suc b) x lt = refl
take_at (o ∷ os) (suc b) zero lt = refl
take_at (o ∷ os) (suc b) (suc x) lt = take_at os b x (omega (arith, lt))

pub take_below : (os : List (Option Node)) (b x : ℕ) (n : Node) → node_in (take b os) x ≡ Some n → x < b
take_below os zero x n e = absurd cc
take_below [] (suc b) x n e = absurd cc
take_below (o ∷ os) (suc b) zero n e = omega arith
take_below (o ∷ os) (suc b) (suc x) n e = let less = take_below os b x n e in omega (arith, less)

live_at : (ns : List Node) (y : ℕ) → node_in (live ns) y ≡ slice_get ns y
live_at [] y = refl
live_at (n ∷ ns) zero = refl
live_at (n ∷ ns) (suc y) = live_at ns y

module _ (bound : ℕ) (net : Net) where
  abbrev pub main : List (Option Node)
  main = main_nodes bound net

  pub main_at : (x : ℕ) → x < bound → node_in main x ≡ node_at net x
  main_at x lt = ap (λ (o : Option (Option Node)). flatten_option o) (take_at net.nodes bound x lt)

  pub extract_at : (x : ℕ) (n : Node) → x < bound → node_at net x ≡ Some n → node_at (extract bound net) (new_number main x) ≡ Some (redone (new_number main) n)
  extract_at x n lt is = live_at (numbered (new_number main) main) (new_number main x) ∙ numbered_at (new_number main) main x n (main_at x lt ∙ is)

  pub extract_from : (y : ℕ) (m : Node) → node_at (extract bound net) y ≡ Some m → Origin (new_number main) main y m
  extract_from y m is = numbered_from (new_number main) main y m (sym (live_at (numbered (new_number main) main) y) ∙ is)

-- the faults of numbered nodes
abbrev again : (ℕ → ℕ) → Fault → Fault
again h fault = record fault { gate = record { 0 = h fault.gate.0 } }

pins_again : (h : ℕ → ℕ) (g n p count : ℕ) → h g ≡ n → map (again h) (pin_faults g p count) ≡ pin_faults n p count
pins_again h g n p zero e = refl
pins_again h g n p (suc count) e = rw (e, pins_again h g n (suc p) count e) refl

faults_again : (f h : ℕ → ℕ) (n g : ℕ) (os : List (Option Node)) → ((k : ℕ) → h (g + k) ≡ n + new_number os k) → faults_from n (live (numbered f os)) ≡ map (again h) (faults_from g os)
faults_again f h n g [] same = refl
faults_again f h n g (None ∷ os) same = faults_again f h n (suc g) os (λ k. let i : suc g + k ≡ g + suc k = omega arith in ap h i ∙ same (suc k))
faults_again f h n g (Some m ∷ os) same =
    let i : g + 0 ≡ g = omega arith in
    let j : n + 0 ≡ n = omega arith in
    let here : h g ≡ n = ap h (sym i) ∙ (same 0 ∙ j) in
    let rest : faults_from (suc n) (live (numbered f os)) ≡ map (again h) (faults_from (suc g) os) =
    faults_again f h (suc n) (suc g) os (λ k. let i : suc g + k ≡ g + suc k = omega arith in let j : n + suc (new_number os k) ≡ suc n + new_number os k = omega arith in ap h i ∙ (same (suc k) ∙ j)) in
    ap (λ (c : ℕ). pin_faults n 0 c ++ faults_from (suc n) (live (numbered f os))) (length-map m.drivers f)
    ∙ (ap (λ (fs : List Fault). fs ++ faults_from (suc n) (live (numbered f os))) (sym (pins_again h g n 0 (length m.drivers) here))
    ∙ (ap (λ (fs : List Fault). map (again h) (pin_faults g 0 (length m.drivers)) ++ fs) rest ∙ sym (map-append (again h) (pin_faults g 0 (length m.drivers)) (faults_from (suc g) os))))

pub extracts_keep_faults : ExtractsKeepFaults
extracts_keep_faults bound net = faults_again (new_number (main_nodes bound net)) (new_number (main_nodes bound net)) 0 0 (main_nodes bound net) (λ k. let i : 0 + k ≡ k = omega arith in let j : 0 + new_number (main_nodes bound net) k ≡ new_number (main_nodes bound net) k = omega arith in ap (new_number (main_nodes bound net)) i ∙ sym j)
