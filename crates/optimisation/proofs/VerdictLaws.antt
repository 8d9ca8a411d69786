-- The records of verdicts settle the faults of the net.
use Rattle.std.proofs.Common.{◌≡◌, ℕ, zero, suc, ◌+◌, ◌-◌, ◌*◌, Bool, List, [], ◌∷◌, ◌++◌, Option, Some, map, refl, ◌∙◌, ap, subst, arith}
use Rattle.std.specs.Prelude.{slice_get}
use Rattle.std.specs.List.{AllByRecursion}
use Rattle.rm_base.specs.declared.numbers.Fault.{Fault}
use Rattle.gate_net.specs.Net.{Net}
use Rattle.gate_net.specs.Faults.{faults_of}
use Rattle.refutation.specs.Branches.{Branch, line, split, clash, quiet, here, untried, items_of, splits, untrieds}
use Rattle.refutation.specs.Stack.{splits_among, untrieds_among}
use Rattle.refutation.specs.declared.items.Item.{Item}
use Rattle.refutation.specs.declared.items.Item.TheVariants as item
use Rattle.podem.specs.Verdicts.{IsSpent}
use Rattle.podem.specs.declared.verdict.Verdict.{Verdict}
use Rattle.podem.specs.declared.verdict.Verdict.TheVariants.{Detected, Refuted, Spent}
use Rattle.journal_text.specs.declared.record.Record.TheVariants as kept
use Rattle.journal_check.specs.Verdicts.{IsSpent as IsSpentTree, SettleAll}
use Rattle.closing_pass.specs.Recording.{verdict_records}
use Rattle.closing_pass.specs.Reports.{AreClosed, IsClosing, fault_in}
use Rattle.optimisation.specs.Tests.{AreSearched}

splits_both : (xs ys : List Item) → splits_among (xs ++ ys) ≡ splits_among xs + splits_among ys
splits_both [] ys = let e : splits_among ys ≡ 0 + splits_among ys = omega arith in e
splits_both (item.Line l ∷ xs) ys = splits_both xs ys
splits_both (item.Split x b ∷ xs) ys = let r : splits_among (xs ++ ys) ≡ splits_among xs + splits_among ys = splits_both xs ys in omega (arith, r)
splits_both (item.Clash x ∷ xs) ys = splits_both xs ys
splits_both (item.Quiet ∷ xs) ys = splits_both xs ys
splits_both (item.Here ∷ xs) ys = splits_both xs ys
splits_both (item.Untried ∷ xs) ys = splits_both xs ys

untrieds_both : (xs ys : List Item) → untrieds_among (xs ++ ys) ≡ untrieds_among xs + untrieds_among ys
untrieds_both [] ys = let e : untrieds_among ys ≡ 0 + untrieds_among ys = omega arith in e
untrieds_both (item.Line l ∷ xs) ys = untrieds_both xs ys
untrieds_both (item.Split x b ∷ xs) ys = untrieds_both xs ys
untrieds_both (item.Clash x ∷ xs) ys = untrieds_both xs ys
untrieds_both (item.Quiet ∷ xs) ys = untrieds_both xs ys
untrieds_both (item.Here ∷ xs) ys = untrieds_both xs ys
untrieds_both (item.Untried ∷ xs) ys = let r : untrieds_among (xs ++ ys) ≡ untrieds_among xs + untrieds_among ys = untrieds_both xs ys in omega (arith, r)

splits_in : (t : Branch) → splits_among (items_of t) ≡ splits t
splits_in (line l t) = splits_in t
splits_in (split x b t u) =
    let e : splits_among (items_of t ++ items_of u) ≡ splits t + splits u = splits_both (items_of t) (items_of u) ∙ (ap (λ (n : ℕ). n + splits_among (items_of u)) (splits_in t) ∙ ap (λ (n : ℕ). splits t + n) (splits_in u)) in
    omega (arith, e)
splits_in (clash x) = refl
splits_in quiet = refl
splits_in here = refl
splits_in untried = refl

untrieds_in : (t : Branch) → untrieds_among (items_of t) ≡ untrieds t
untrieds_in (line l t) = untrieds_in t
untrieds_in (split x b t u) =
    untrieds_both (items_of t) (items_of u) ∙ (ap (λ (n : ℕ). n + untrieds_among (items_of u)) (untrieds_in t) ∙ ap (λ (n : ℕ). untrieds t + n) (untrieds_in u))
untrieds_in (clash x) = refl
untrieds_in quiet = refl
untrieds_in here = refl
untrieds_in untried = refl

-- the tree of a spent search is an accepted partial tree of exactly so many edges
spent_tree : (net : Net) (budget : ℕ) (fault : Fault) (tree : List Item) → IsSpent net fault budget tree → IsSpentTree net budget fault tree
spent_tree net budget fault tree s = record {
  accepted = (s.tree, (s.same, s.accepted));
  edges =
      let k : splits_among tree ≡ splits s.tree = ap splits_among s.same ∙ splits_in s.tree in
      let u : untrieds_among tree ≡ untrieds s.tree = ap untrieds_among s.same ∙ untrieds_in s.tree in
      let e : 2 * splits s.tree - untrieds s.tree ≡ budget = s.size in
      omega (arith, k, u, e);
}

-- each fault is settled by its record
pub settled : (net : Net) (budget : ℕ) (verdicts : List (Fault × Verdict)) → AllByRecursion (λ entry. IsClosing net budget entry.0 entry.1) verdicts → SettleAll net budget (map fault_in verdicts) (verdict_records verdicts)
settled net budget [] all = tt
settled net budget ((fault, Detected vector) ∷ verdicts) all = ((refl, all.0), settled net budget verdicts all.1)
settled net budget ((fault, Refuted tree) ∷ verdicts) all = absurd all.0
settled net budget ((fault, Spent tree) ∷ verdicts) all = ((refl, spent_tree net budget fault tree all.0.0), settled net budget verdicts all.1)

-- the verdict at the place of a spent record
spent_at : (net : Net) (budget : ℕ) (verdicts : List (Fault × Verdict)) → AllByRecursion (λ entry. IsClosing net budget entry.0 entry.1) verdicts
    → (place : ℕ) (fault : Fault) (tree : List Item) → slice_get (verdict_records verdicts) place ≡ Some (kept.Spent fault tree)
    → (slice_get verdicts place ≡ Some (fault, Spent tree)) × IsClosing net budget fault (Spent tree)
spent_at net budget [] all zero fault tree e = absurd cc
spent_at net budget [] all (suc place) fault tree e = absurd cc
spent_at net budget ((f, Detected vector) ∷ verdicts) all zero fault tree e = absurd cc
spent_at net budget ((f, Detected vector) ∷ verdicts) all (suc place) fault tree e = spent_at net budget verdicts all.1 place fault tree e
spent_at net budget ((f, Refuted t) ∷ verdicts) all place fault tree e = absurd all.0
spent_at net budget ((f, Spent t) ∷ verdicts) all zero fault tree e =
    let same_fault : f ≡ fault = cc in
    let same_tree : t ≡ tree = cc in
    subst (λ (g : Fault). (◌≡◌ {A = Option (Fault × Verdict)} (Some (f, Spent t)) (Some (g, Spent tree))) × IsClosing net budget g (Spent tree)) same_fault
    (subst (λ (u : List Item). (◌≡◌ {A = Option (Fault × Verdict)} (Some (f, Spent t)) (Some (f, Spent u))) × IsClosing net budget f (Spent u)) same_tree (refl, all.0))
spent_at net budget ((f, Spent t) ∷ verdicts) all (suc place) fault tree e = spent_at net budget verdicts all.1 place fault tree e

abbrev some_entry : Fault × Verdict → Option (Fault × Verdict)
some_entry e = Some e

-- and of a hit
hit_at : (net : Net) (budget : ℕ) (verdicts : List (Fault × Verdict)) → AllByRecursion (λ entry. IsClosing net budget entry.0 entry.1) verdicts
    → (place : ℕ) (fault : Fault) (vector : List Bool) → slice_get (verdict_records verdicts) place ≡ Some (kept.Hit fault vector)
    → slice_get verdicts place ≡ Some (fault, Detected vector)
hit_at net budget [] all zero fault vector e = absurd cc
hit_at net budget [] all (suc place) fault vector e = absurd cc
hit_at net budget ((f, Detected v) ∷ verdicts) all zero fault vector e =
    let same_fault : f ≡ fault = cc in
    let same_vector : v ≡ vector = cc in
    subst (λ (g : Fault). ◌≡◌ {A = Option (Fault × Verdict)} (Some (f, Detected v)) (Some (g, Detected vector))) same_fault (ap (λ (w : List Bool). some_entry (f, Detected w)) same_vector)
hit_at net budget ((f, Detected v) ∷ verdicts) all (suc place) fault vector e = hit_at net budget verdicts all.1 place fault vector e
hit_at net budget ((f, Refuted t) ∷ verdicts) all place fault vector e = absurd all.0
hit_at net budget ((f, Spent t) ∷ verdicts) all zero fault vector e = absurd cc
hit_at net budget ((f, Spent t) ∷ verdicts) all (suc place) fault vector e = hit_at net budget verdicts all.1 place fault vector e

-- what the records say of the net's faults
pub searched : (net : Net) (budget : ℕ) (verdicts : List (Fault × Verdict)) → AreClosed net budget verdicts → AreSearched net budget (verdict_records verdicts)
searched net budget verdicts c = record {
  open_searches = λ place fault tree e. (spent_at net budget verdicts c.closing place fault tree e).1.0;
  undetected = λ i j fault other tree vector e d detects.
      c.missed i j fault other tree vector (spent_at net budget verdicts c.closing i fault tree e).0 (hit_at net budget verdicts c.closing j other vector d) detects;
  decided = λ enough place fault tree e. (spent_at net budget verdicts c.closing place fault tree e).1.1 enough;
}

-- in the order of the net's faults
pub settled_of : (net : Net) (budget : ℕ) (verdicts : List (Fault × Verdict)) → AreClosed net budget verdicts → SettleAll net budget (faults_of net) (verdict_records verdicts)
settled_of net budget verdicts c = subst (λ (fs : List Fault). SettleAll net budget fs (verdict_records verdicts)) c.faults (settled net budget verdicts c.closing)
