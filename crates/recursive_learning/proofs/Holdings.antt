-- Nodes whose good values are held.
use Rattle.std.proofs.Common.{Bool, List, Some, [], arith, drop, false, inl, inr, length, refl, subst, suc, true, zero, ℕ, ◌+◌, ◌++◌, ◌<◌, ◌∷◌, ◌≡◌, ◌≤◌}
use Rattle.std.proofs.lemmas.Bool.{cases_lt}
use Rattle.std.proofs.lemmas.Option.{slice_get_within}
use Rattle.std.specs.Prelude.{IsTrue, slice_get}
use Rattle.gate_graph.specs.Search.{IsSeen}
use Rattle.gate_net.specs.Net.{Net}
use Rattle.implications.proofs.Public.{trail_tells}
use Rattle.implications.specs.Bases.{IsFor, IsListed}
use Rattle.implications.specs.State.{EngineState}
use Rattle.implications.specs.Trail.{LeadsBack}
use Rattle.implications.specs.declared.basis.Basis.{Basis}
use Rattle.recursive_learning.proofs.Goods.{last_at, still_at}
use Rattle.recursive_learning.specs.Inner.Gates.{HasTaught}
use Rattle.recursive_learning.specs.Inner.Holding.{HasGoods, ListsNodes, NamesAll, NamesKnown}
use Rattle.recursive_learning.specs.Inner.Watching.{ListsGoods}
use Rattle.recursive_learning.specs.Inner.Working.{AreSettled, Keeps}
use Rattle.recursive_learning.specs.declared.watch.Watch.{Watch}
use Rattle.refutation.specs.Closing.{IsClashFree}
use Rattle.refutation.specs.FactLists.{IsAmong}
use Rattle.refutation.specs.FactSets.{held_by}
use Rattle.refutation.specs.Facts.{Held, known_good}
use Rattle.refutation.proofs.Public.{both_good, kind_live, known_held}
use Rattle.refutation.specs.declared.held.NodeFacts.{NodeFacts}
use Rattle.refutation.specs.declared.reasoning.Fact.{Fact}
use Rattle.refutation.specs.declared.reasoning.Fact.TheVariants.{Good}
use Rattle.rm_base.specs.declared.numbers.Fault.{Fault}
use Rattle.rm_base.specs.declared.numbers.NodeId.{NodeId}

-- LISTS
pub named_still : (nodes : List NodeId) (n : NodeId) (y : ℕ) → IsListed nodes y → IsListed (nodes ++ n ∷ []) y
named_still nodes n y (k, (m, (there, is))) = (k, (m, (still_at nodes n k m there, is)))

pub named_last : (nodes : List NodeId) (n : NodeId) → IsListed (nodes ++ n ∷ []) n.0
named_last nodes n = let last : (p : ℕ) × (slice_get (nodes ++ n ∷ []) p ≡ Some n) = last_at nodes n in (last.0, (n, (last.1, refl)))

among_later : (a : NodeId × Fact) (added : List (NodeId × Fact)) (x : ℕ) (fact : Fact) → IsAmong added x fact → IsAmong (a ∷ added) x fact
among_later a added x fact (k, rest) = (suc k, rest)

pub among_past : (added : List (NodeId × Fact)) (mark x : ℕ) (fact : Fact) → IsAmong (drop mark added) x fact → IsAmong added x fact
among_past added zero x fact among = among
among_past [] (suc mark) x fact among = among
among_past (a ∷ added) (suc mark) x fact among = among_later a added x fact (among_past added mark x fact among)

-- the node is among the first so many of the list
abbrev pub IsBefore : List NodeId → ℕ → ℕ → Type 0
IsBefore nodes n y = (k : ℕ) × ((m : NodeId) × ((k < n) × ((slice_get nodes k ≡ Some m) × (m.0 ≡ y))))

pub before_none : (nodes : List NodeId) (P : ℕ → Type 0) (y : ℕ) → IsBefore nodes 0 y → P y
before_none nodes P y (k, (m, (less, at))) = absurd (omega arith)

pub before_next : (nodes : List NodeId) (n : ℕ) (g : NodeId) (P : ℕ → Type 0) → slice_get nodes n ≡ Some g → ((y : ℕ) → IsBefore nodes n y → P y) → P g.0 → (y : ℕ) → IsBefore nodes (n + 1) y → P y
before_next nodes n g P there before here y (k, (m, (less, (at, is)))) = elim (cases_lt k n) [
  | inl lt ↦ before y (k, (m, (lt, (at, is))))
  | inr ge ↦
      let last : k ≡ n = omega arith in
      let found : slice_get nodes n ≡ Some m = subst (λ (j : ℕ). slice_get nodes j ≡ Some m) last at in
      let same : g ≡ m = cc in
      subst P is (subst (λ (a : NodeId). P a.0) same here)
]

pub before_all : (nodes : List NodeId) (n : ℕ) → length nodes ≤ n → (y : ℕ) → IsListed nodes y → IsBefore nodes n y
before_all nodes n all y (k, (m, (there, is))) = let inside : k < length nodes = slice_get_within nodes k m there in (k, (m, (omega (arith, inside, all), (there, is))))

-- GOOD VALUES
pub held_known : (held : Held) (x : ℕ) (b : Bool) → IsClashFree held → IsTrue (held x (Good b)) → known_good held x ≡ Some b
held_known held x true free e = at (held x (Good false)) refl
  where
    at : (t : Bool) → held x (Good false) ≡ t → known_good held x ≡ Some true
    at true is = absurd (free x (both_good held x true e is))
    at false is = rw (is, e) refl
held_known held x false free e = at (held x (Good true)) refl
  where
    at : (t : Bool) → held x (Good true) ≡ t → known_good held x ≡ Some false
    at true is = absurd (free x (both_good held x false e is))
    at false is = rw (is, e) refl

-- a gate whose good value isn't held has nothing to teach
pub taught_each : (net : Net) (fault : Fault) (depth : ℕ) (held : Held) (gates : ℕ → Type 0) → ((x : ℕ) (value : Bool) → IsTrue (held x (Good value)) → gates x) → ((y : ℕ) → gates y → HasTaught net fault depth held y) → (y : ℕ) → HasTaught net fault depth held y
taught_each net fault depth held gates all taught y c unjustified few = taught y (all y c (known_held held y c unjustified.known)) c unjustified few

-- THEIR NODES
pub goods_keep : (v w : Watch) (before after : EngineState) (old new : List NodeFacts) → w.first ≡ v.first → Keeps before after old new → HasGoods v before old → HasGoods w after new
goods_keep v w before after old new same keeps has = record {
  mark = has.mark;
  start = has.start;
  leads = keeps.back has.mark has.start has.leads;
  first = λ x value held. rw same (has.first x value held);
}

pub goods_named : (w : Watch) (e : EngineState) (facts : List NodeFacts) (nodes : List NodeId) → HasGoods w e facts → NamesAll w e.trail nodes → (x : ℕ) (value : Bool) → IsTrue (held_by facts x (Good value)) → IsListed nodes x
goods_named w e facts nodes has names x value held = elim ((trail_tells e.trail has.mark facts has.start has.leads).all x (Good value) held) [
  | inl before ↦ names.first x (has.first x value before)
  | inr among ↦
      let in_trail : IsAmong e.trail x (Good value) = among_past e.trail has.mark x (Good value) among in
      subst (IsListed nodes) in_trail.1.1.1.0 (names.later in_trail.0 in_trail.1.0 in_trail.1.1.0 value in_trail.1.1.1.1)
]

pub goods_listed : (net : Net) (w : Watch) (e : EngineState) (facts : List NodeFacts) (nodes : List NodeId) (listed : List Bool) → HasGoods w e facts → NamesAll w e.trail nodes → ListsNodes nodes listed → length net.nodes ≤ length listed → ListsGoods net (held_by facts) listed
goods_listed net w e facts nodes listed has names lists room y b low known =
    let there : IsListed nodes y = goods_named w e facts nodes has names y b (known_held (held_by facts) y b known) in
    let place : there.1.0.0 ≡ y = there.1.1.1 in
    subst (IsSeen listed) place (lists there.0 there.1.0 there.1.1.0 (omega (arith, place, low, room)))

-- the facts that a net's engine and basis begin with hold no good value
pub goods_begun : (net : Net) (e : EngineState) (b : Basis) (w : Watch) → IsFor net e b → HasGoods w e b.facts
goods_begun net e b w f = record {
  mark = 0;
  start = f.rest.start;
  leads = f.rest.leads;
  first = λ x value held. let wrong : Good value ≡ Fact.Equal = ((f.rest.rest x (Good value)).0 (inl held)).1 in cc;
}

-- the watch begins with the good values of these facts
pub goods_first : (net : Net) (fault : Fault) (w : Watch) (e : EngineState) (facts : List NodeFacts) (mark : ℕ) → AreSettled net fault (held_by facts) → LeadsBack e.trail mark facts facts → NamesKnown net (held_by facts) w.first.items → HasGoods w e facts
goods_first net fault w e facts mark settled leads names = record {
  mark = mark;
  start = facts;
  leads = leads;
  first = λ x value held.
      names x value (kind_live net x (settled.live x (Good value) held)) (held_known (held_by facts) x value settled.free held);
}

pub goods_same : (w : Watch) (before after : EngineState) (facts : List NodeFacts) → after.trail ≡ before.trail → HasGoods w before facts → HasGoods w after facts
goods_same w before after facts same has = record { mark = has.mark; start = has.start; leads = rw same has.leads; first = has.first }
