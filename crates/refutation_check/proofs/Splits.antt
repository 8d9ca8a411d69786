-- Where a tree may split, and which nodes hold facts.
use Rattle.std.proofs.Common.{List, None, Option, Some, [], ap, arith, false, inl, inr, length, refl, subst, suc, sym, true, zero, ℕ, ◌<◌, ◌∷◌, ◌≡◌, ◌≤◌}
use Rattle.std.specs.Prelude.{IsTrue}
use Rattle.gate_net.specs.Net.{IsKind, IsLive, Net, Node, kind_in, kind_of, node_at}
use Rattle.gate_net.specs.declared.Kind.{Kind}
use Rattle.gate_net.specs.declared.Kind.TheVariants.{Source}
use Rattle.refutation.specs.Branches.{HasNoGood, IsNoConstant}
use Rattle.refutation.specs.FactSets.{held_by}
use Rattle.refutation.specs.Facts.{AreOpposed, Held}
use Rattle.refutation.specs.Stack.{MaySplitIn}
use Rattle.refutation.specs.declared.held.NodeFacts.{NodeFacts}
use Rattle.refutation.specs.declared.items.Form.{Form}
use Rattle.refutation.specs.declared.items.Form.TheVariants.{Closed, Partial}
use Rattle.refutation.specs.declared.reasoning.Fact.{Fact}
use Rattle.refutation_check.proofs.Quiets.{live_within}
use Rattle.refutation_check.specs.Inner.Standing.{MaySplitKind}

-- no fact is held beyond the marks
none_beyond : (marks : List NodeFacts) (x : ℕ) (fact : Fact) → length marks ≤ x → held_by marks x fact ≡ false
none_beyond [] x fact h = refl
none_beyond (m ∷ marks) zero fact h = absurd (omega arith)
none_beyond (m ∷ marks) (suc x) fact h = none_beyond marks x fact (omega arith)

pub not_beyond : (marks : List NodeFacts) (x : ℕ) → length marks ≤ x → AreOpposed (held_by marks) x → ⊥
not_beyond marks x h opposed = elim opposed [
  | inl good ↦ none _ good.0
  | inr other ↦ elim other [ inl faulty ↦ none _ faulty.0 | inr equal ↦ none _ equal.0 ]
]
  where
    none : (fact : Fact) → IsTrue (held_by marks x fact) → ⊥
    none fact held = let wrong : held_by marks x fact ≡ false = none_beyond marks x fact h in let right : held_by marks x fact ≡ true = held in cc

found : (o : Option Node) (k : Kind) → kind_in o ≡ Some k → (drivers : List ℕ) × (o ≡ Some (record { kind = k; drivers = drivers }))
found None k e = cc
found (Some n) k e = let same : n.kind ≡ k = cc in (n.drivers, ap (λ (l : Kind). Some (record n { kind = l })) same)

pub kind_found : (net : Net) (x : ℕ) (k : Kind) → kind_of net x ≡ Some k → IsKind net x k
kind_found net x k e = found (node_at net x) k e

one_kind : (net : Net) (x : ℕ) (k l : Kind) → kind_of net x ≡ Some k → IsKind net x l → l ≡ k
one_kind net x k l e is = let f : kind_of net x ≡ Some l = ap kind_in is.1 in cc

pub kind_splits : (form : Form) (net : Net) (held : Held) (x : ℕ) (k : Kind) → kind_of net x ≡ Some k → MaySplitKind form k → HasNoGood held x → MaySplitIn form net held x
kind_splits Closed net held x k e may none = ((k, (kind_found net x k e, may)), none)
kind_splits Partial net held x k e may none = (rw may at (kind_found net x k e), none)

pub splits_kind : (form : Form) (net : Net) (held : Held) (x : ℕ) (k : Kind) → kind_of net x ≡ Some k → MaySplitIn form net held x → MaySplitKind form k × HasNoGood held x
splits_kind Closed net held x k e may = (subst IsNoConstant (one_kind net x k may.0.0 e may.0.1.0) may.0.1.1, may.1)
splits_kind Partial net held x k e may = (sym (one_kind net x k Source e may.0), may.1)

pub splits_live : (form : Form) (net : Net) (held : Held) (x : ℕ) → MaySplitIn form net held x → IsLive net x
splits_live Closed net held x may = (may.0.0, may.0.1.0)
splits_live Partial net held x may = (Source, may.0)

pub splits_within : (form : Form) (net : Net) (held : Held) (x : ℕ) → MaySplitIn form net held x → x < length net.nodes
splits_within form net held x may = let live : IsLive net x = splits_live form net held x may in live_within net x _ live.1.1
