-- The faults of a net, pin by pin and node by node.
use Rattle.std.proofs.Common.{◌≡◌, ℕ, zero, suc, ◌+◌, ◌-◌, ◌<◌, ◌≤◌, true, false, Option, Some, None, List, [], ◌∷◌, ◌++◌, drop, length, refl, ap, sym, ◌∙◌, arith, append_assoc, add-one}
use Rattle.std.proofs.lemmas.List.{append-nil}
use Rattle.std.specs.Prelude.{slice_get}
use Rattle.rm_base.specs.declared.numbers.Fault.{Fault}
use Rattle.gate_net.specs.declared.Kind.{Kind}
use Rattle.gate_net.specs.Net.{Node, Net, IsLive, drivers_in, drivers_of, flatten_option, kind_in, kind_of, node_at}
use Rattle.std.specs.List.{AllByRecursion}
use Rattle.gate_net.specs.Values.{HasPin}
use Rattle.gate_net.specs.Faults.{fault_at, pin_faults, faults_from, faults_of}
use Rattle.rm_base.proofs.Public.{all_append, stands_below}

pub pins_step : (g p c : ℕ) → p < c → pin_faults g p (c - p) ≡ fault_at g p false ∷ fault_at g p true ∷ pin_faults g (p + 1) (c - (p + 1))
pins_step g p c l =
    let e : c - p ≡ suc (c - (p + 1)) = omega arith in
    ap (pin_faults g p) e ∙ ap (λ (k : ℕ). fault_at g p false ∷ fault_at g p true ∷ pin_faults g k (c - (p + 1))) (sym (add-one p))

-- the faults of one more pin are added
pub pins_added : (g p c : ℕ) (before after : List Fault) → p < c → after ≡ before ++ fault_at g p false ∷ fault_at g p true ∷ [] → after ++ pin_faults g (p + 1) (c - (p + 1)) ≡ before ++ pin_faults g p (c - p)
pins_added g p c before after l e =
    ap (λ (fs : List Fault). fs ++ pin_faults g (p + 1) (c - (p + 1))) e
    ∙ append_assoc before (fault_at g p false ∷ fault_at g p true ∷ []) (pin_faults g (p + 1) (c - (p + 1)))
    ∙ ap (λ (fs : List Fault). before ++ fs) (sym (pins_step g p c l))

get_drop : (xs : List (Option Node)) (n : ℕ) → n < length xs → (x : Option Node) × ((slice_get xs n ≡ Some x) × (drop n xs ≡ x ∷ drop (suc n) xs))
get_drop [] n l = absurd (omega arith)
get_drop (y ∷ ys) zero l = (y, (refl, refl))
get_drop (y ∷ ys) (suc n) l = get_drop ys n (omega arith)

-- the faults of one more node are added
pub nodes_added : (net : Net) (n : ℕ) (before after : List Fault) → n < length net.nodes → after ≡ before ++ pin_faults n 0 (length (drivers_of net n))
    → after ++ faults_from (n + 1) (drop (n + 1) net.nodes) ≡ before ++ faults_from n (drop n net.nodes)
nodes_added net n before after l e =
    let at = get_drop net.nodes n l in
    let here : pin_faults n 0 (length (drivers_of net n)) ≡ pin_faults n 0 (length (drivers_in at.0)) = ap (λ (o : Option (Option Node)). pin_faults n 0 (length (drivers_in (flatten_option o)))) at.1.0 in
    let next : n + 1 ≡ suc n = add-one n in
    ap (λ (fs : List Fault). fs ++ faults_from (n + 1) (drop (n + 1) net.nodes)) (e ∙ ap (λ (fs : List Fault). before ++ fs) here)
    ∙ append_assoc before (pin_faults n 0 (length (drivers_in at.0))) (faults_from (n + 1) (drop (n + 1) net.nodes))
    ∙ ap (λ (k : ℕ). before ++ (pin_faults n 0 (length (drivers_in at.0)) ++ faults_from k (drop k net.nodes))) next
    ∙ ap (λ (os : List (Option Node)). before ++ faults_from n os) (sym at.1.1)

kind_case : (net : Net) (x : ℕ) (k : Kind) (o : Option Node) → node_at net x ≡ o → kind_in o ≡ Some k → IsLive net x
kind_case net x k None e f = cc
kind_case net x k (Some n) e f = (n.kind, (n.drivers, e))

pub live_kind : (net : Net) (x : ℕ) (k : Kind) → kind_of net x ≡ Some k → IsLive net x
live_kind net x k e = kind_case net x k (node_at net x) refl e

dead_case : (o : Option Node) → kind_in o ≡ None → drivers_in o ≡ []
dead_case None e = refl
dead_case (Some n) e = cc

pub dead_none : (net : Net) (x : ℕ) (before : List Fault) → kind_of net x ≡ None → before ≡ before ++ pin_faults x 0 (length (drivers_of net x))
dead_none net x before e = sym (ap (λ (ds : List ℕ). before ++ pin_faults x 0 (length ds)) (dead_case (node_at net x) e) ∙ append-nil before)

drop_all : (xs : List (Option Node)) (n : ℕ) → length xs ≤ n → drop n xs ≡ []
drop_all [] zero l = refl
drop_all [] (suc n) l = refl
drop_all (x ∷ xs) zero l = absurd (omega arith)
drop_all (x ∷ xs) (suc n) l = drop_all xs n (omega arith)

pub whole : (net : Net) (n : ℕ) (faults : List Fault) → length net.nodes ≤ n → faults ++ faults_from n (drop n net.nodes) ≡ faults_of net → faults ≡ faults_of net
whole net n faults l e = sym (append-nil faults) ∙ ap (λ (os : List (Option Node)). faults ++ faults_from n os) (sym (drop_all net.nodes n l)) ∙ e

-- each fault of a pin has that pin
pins_there : (net : Net) (g p c : ℕ) → p + c ≡ length (drivers_of net g) → AllByRecursion (HasPin net) (pin_faults g p c)
pins_there net g p zero e = tt
pins_there net g p (suc c) e =
    let there = stands_below (drivers_of net g) p (omega (arith, e)) in
    (there, (there, pins_there net g (suc p) c (omega (arith, e))))

drop_get : (xs : List (Option Node)) (n : ℕ) (o : Option Node) (os : List (Option Node)) → drop n xs ≡ o ∷ os → (slice_get xs n ≡ Some o) × (drop (suc n) xs ≡ os)
drop_get [] zero o os e = cc
drop_get [] (suc n) o os e = cc
drop_get (y ∷ ys) zero o os e = (cc, cc)
drop_get (y ∷ ys) (suc n) o os e = drop_get ys n o os e

pins_from : (net : Net) (n : ℕ) (os : List (Option Node)) → drop n net.nodes ≡ os → AllByRecursion (HasPin net) (faults_from n os)
pins_from net n [] e = tt
pins_from net n (o ∷ os) e =
    let at = drop_get net.nodes n o os e in
    let here : length (drivers_of net n) ≡ length (drivers_in o) = ap (λ (q : Option (Option Node)). length (drivers_in (flatten_option q))) at.0 in
    all_append (HasPin net) (pin_faults n 0 (length (drivers_in o))) (faults_from (suc n) os) (pins_there net n 0 (length (drivers_in o)) (omega (arith, here))) (pins_from net (suc n) os at.1)

-- each fault of a net has its pin
pub pins_all : (net : Net) → AllByRecursion (HasPin net) (faults_of net)
pins_all net = pins_from net 0 net.nodes refl

pub no_pins : (net : Net) (x : ℕ) → kind_of net x ≡ None → length (drivers_of net x) ≡ 0
no_pins net x e = ap (λ (ds : List ℕ). length ds) (dead_case (node_at net x) e)
