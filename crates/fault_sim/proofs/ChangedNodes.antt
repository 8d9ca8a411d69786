-- Which nodes an edit changes.
use Rattle.std.proofs.Common.{Err, List, None, Ok, Option, Result, Some, [], ap, arith, inl, inr, map, refl, suc, sym, ℕ, ◌∙◌, ◌∷◌, ◌≡◌, ◌≢◌}
use Rattle.std.proofs.lemmas.Bool.Decides.{eqb_tells}
use Rattle.std.specs.Prelude.{IfOk, slice_get}
use Rattle.gate_net.specs.Edits.{DiffersAt, IsLeastFree, node_redirected, redirected, with_drivers, with_node, with_readers_moved}
use Rattle.gate_net.proofs.Public.{node_at-moved, node_at-other, with_node-other}
use Rattle.gate_net.specs.Net.{Net, Node, Reads, drivers_in, node_at}
use Rattle.fault_sim.proofs.Lists.{below_or}
use Rattle.gate_net.specs.Edits.{IsSameBut}

not_one : (xs : List ℕ) (gate x : ℕ) → xs ≡ gate ∷ [] → ((k : ℕ) → slice_get xs k ≡ Some x → ⊥) → x ≢ gate
not_one xs gate x one none same = none 0 (ap (λ (ys : List ℕ). slice_get ys 0) one ∙ ap Some (sym same))

pub drivers_changed : (net after : Net) (gate : ℕ) (drivers xs : List ℕ) → after ≡ with_drivers net gate drivers → xs ≡ gate ∷ [] → IsSameBut net after xs
drivers_changed net after gate drivers xs e one x none = ap (λ (n : Net). node_at n x) e ∙ node_at-other net gate drivers x (not_one xs gate x one none)

pub node_changed : (net after : Net) (gate : ℕ) (node : Node) (xs : List ℕ) → after ≡ with_node net gate node → xs ≡ gate ∷ [] → IsSameBut net after xs
node_changed net after gate node xs e one x none = ap (λ (n : Net). node_at n x) e ∙ with_node-other net gate node x (not_one xs gate x one none)

pub one_changed : (net after : Net) (gate : ℕ) (xs : List ℕ) → DiffersAt net after gate → xs ≡ gate ∷ [] → IsSameBut net after xs
one_changed net after gate xs differs one x none = differs.others x (not_one xs gate x one none)

pub unread_same : (from to : ℕ) (ds : List ℕ) → ((p : ℕ) → slice_get ds p ≡ Some from → ⊥) → map (redirected from to) ds ≡ ds
unread_same from to [] none = refl
unread_same from to (d ∷ ds) none = elim (eqb_tells d from) [
  | inl same ↦ absurd (none 0 (ap Some same.1))
  | inr other ↦ let rest : map (redirected from to) ds ≡ ds = unread_same from to ds (λ p e. none (suc p) e) in rw (other.0, rest) refl
]

pub readers_changed : (net after : Net) (from to : ℕ) (xs : List ℕ) → after ≡ with_readers_moved net from to → ((z p : ℕ) → Reads net z p from → (k : ℕ) × (slice_get xs k ≡ Some z)) → IsSameBut net after xs
readers_changed net after from to xs e listed x none = ap (λ (n : Net). node_at n x) e ∙ node_at-moved net from to x ∙ at (node_at net x) refl
  where
    at : (o : Option Node) → node_at net x ≡ o → node_redirected from to (node_at net x) ≡ node_at net x
    at None is = rw is refl
    at (Some n) is =
        let same : map (redirected from to) n.drivers ≡ n.drivers = unread_same from to n.drivers (λ p reads. (let there = listed x p (ap (λ (o : Option Node). slice_get (drivers_in o) p) is ∙ reads) in none there.0 there.1)) in
        rw is (ap (λ (ds : List ℕ). Some (record n { drivers = ds })) same)

pub least_same : (net : Net) (x y : ℕ) → IsLeastFree net x → IsLeastFree net y → x ≡ y
least_same net x y one other = elim (below_or x y) [
  | inl less ↦ absurd (other.least x less one.free)
  | inr more ↦ elim (below_or y x) [ inl less ↦ absurd (one.least y less other.free) | inr less ↦ omega arith ]
]

pub if_ok : {A E : Type 0} (r : Result A E) (P Q : A → Type 0) → ((a : A) → P a → Q a) → IfOk r P → IfOk r Q
if_ok (Ok a) P Q f p = f a p
if_ok (Err e) P Q f p = tt
