-- Writing what the gates teach, one after another.
use Rattle.std.proofs.Common.{Bool, List, None, Some, arith, false, inl, inr, length, refl, subst, suc, sym, true, zero, ℕ, ◌+◌, ◌<◌, ◌∙◌, ◌≡◌, ◌≤◌}
use Rattle.std.proofs.lemmas.Bool.{cases_lt}
use Rattle.std.specs.Prelude.{IsTrue, not, slice_get}
use Rattle.gate_net.specs.Net.{Net}
use Rattle.implications.specs.Bases.{IsListed}
use Rattle.implications.specs.State.{EngineState}
use Rattle.recursive_learning.proofs.Gains.{keeps_join, keeps_none}
use Rattle.recursive_learning.proofs.Holdings.{IsBefore, before_all, before_next, before_none, taught_each}
use Rattle.recursive_learning.proofs.Splits.{told_join}
use Rattle.recursive_learning.proofs.Tells.{writes_join, writes_none}
use Rattle.recursive_learning.specs.Inner.Gates.{HasTaught}
use Rattle.recursive_learning.specs.Inner.Telling.{Ends, IsTold, Leads, branch}
use Rattle.recursive_learning.specs.Inner.Working.{AreSettled, Keeps}
use Rattle.recursive_learning.specs.Inner.Writing.{IsPassed, IsWritten}
use Rattle.refutation.specs.FactSets.{held_by, missing}
use Rattle.refutation.specs.Facts.{known_good}
use Rattle.refutation.specs.Learning.{LeadsToClash}
use Rattle.refutation.specs.declared.held.NodeFacts.{NodeFacts}
use Rattle.refutation.specs.declared.items.Item.{Item}
use Rattle.refutation.specs.declared.reasoning.Fact.TheVariants.{Good}
use Rattle.rm_base.specs.declared.numbers.Fault.{Fault}
use Rattle.rm_base.specs.declared.numbers.NodeId.{NodeId}

-- the branch has gone on to these facts
pub record Going (net : Net) (fault : Fault) (before after : EngineState) (start now : List NodeFacts) (items then : List Item) : Type 0 where
  pub keeps : Keeps before after start now
  pub settled : AreSettled net fault (held_by now)
  pub leads : Leads net fault (held_by start) items (held_by now) then

pub going_none : (net : Net) (fault : Fault) (e : EngineState) (start : List NodeFacts) (items : List Item) → AreSettled net fault (held_by start) → Going net fault e e start start items items
going_none net fault e start items settled = record { keeps = keeps_none e start; settled = settled; leads = writes_none net fault (branch (held_by start)) items }

pub going_more : (net : Net) (fault : Fault) (a b c : EngineState) (start now next : List NodeFacts) (items middle after : List Item) → Going net fault a b start now items middle → Keeps b c now next → IsTold net fault (held_by now) middle false (held_by next) after → Going net fault a c start next items after
going_more net fault a b c start now next items middle after g keeps told = record {
  keeps = keeps_join a b c start now next g.keeps keeps;
  settled = told.1;
  leads = writes_join net fault (branch (held_by start)) (branch (held_by now)) (branch (held_by next)) items middle after g.leads told.0;
}

pub going_ends : (net : Net) (fault : Fault) (a b : EngineState) (start now : List NodeFacts) (items middle after : List Item) → Going net fault a b start now items middle → Ends net fault (held_by now) middle after → Ends net fault (held_by start) items after
going_ends net fault a b start now items middle after g ends = told_join net fault (held_by start) items middle after (held_by now) (held_by now) true g.leads ends

-- one more gate, which has written something or nothing
pub going_written : (net : Net) (fault : Fault) (depth y : ℕ) (a b c : EngineState) (start now next : List NodeFacts) (items middle after : List Item) → Going net fault a b start now items middle → Keeps b c now next → IsWritten net fault depth y now middle false next after → Going net fault a c start next items after
going_written net fault depth y a b c start now next items middle after g keeps (inl (same, (still, taught))) =
    subst (λ (f : List NodeFacts). Going net fault a c start f items after) (sym same)
    (subst (λ (is : List Item). Going net fault a c start now items is) (sym still)
    (record { keeps = keeps_join a b c start now now g.keeps (subst (λ (f : List NodeFacts). Keeps b c now f) same keeps); settled = g.settled; leads = g.leads }))
going_written net fault depth y a b c start now next items middle after g keeps (inr (told, fewer)) = going_more net fault a b c start now next items middle after g keeps told

-- A PASS
pub record PassWriting (net : Net) (fault : Fault) (depth : ℕ) (gates : List NodeId) (n : ℕ) (before after : EngineState) (start now : List NodeFacts) (items then : List Item) : Type 0 where
  pub going : Going net fault before after start now items then
  pub passed : IsPassed net fault depth (IsBefore gates n) start now

pub pass_none : (net : Net) (fault : Fault) (depth : ℕ) (gates : List NodeId) (e : EngineState) (start : List NodeFacts) (items : List Item) → AreSettled net fault (held_by start) → PassWriting net fault depth gates 0 e e start start items items
pass_none net fault depth gates e start items settled = record { going = going_none net fault e start items settled; passed = inl (refl, before_none gates (HasTaught net fault depth (held_by start))) }

pub pass_more : (net : Net) (fault : Fault) (depth : ℕ) (gates : List NodeId) (n : ℕ) (g : NodeId) (a b c : EngineState) (start now next : List NodeFacts) (items middle after : List Item) → slice_get gates n ≡ Some g → PassWriting net fault depth gates n a b start now items middle → Keeps b c now next → IsWritten net fault depth g.0 now middle false next after → PassWriting net fault depth gates (n + 1) a c start next items after
pass_more net fault depth gates n g a b c start now next items middle after there p keeps (inl (same, (still, taught))) = record {
  going = going_written net fault depth g.0 a b c start now next items middle after p.going keeps (inl (same, (still, taught)));
  passed = elim p.passed [
    | inl quiet ↦ inl (same ∙ quiet.0, before_next gates n g (HasTaught net fault depth (held_by start)) there quiet.1 (subst (λ (f : List NodeFacts). HasTaught net fault depth (held_by f) g.0) quiet.0 taught))
    | inr less ↦ inr (subst (λ (f : List NodeFacts). missing f < missing start) (sym same) less)
  ];
}
pass_more net fault depth gates n g a b c start now next items middle after there p keeps (inr (told, fewer)) = record {
  going = going_more net fault a b c start now next items middle after p.going keeps told;
  passed = inr (elim p.passed [
    | inl quiet ↦ subst (λ (f : List NodeFacts). missing next < missing f) quiet.0 fewer
    | inr less ↦ let one : missing now < missing start = less in let other : missing next < missing now = fewer in omega arith
  ]);
}

pub pass_all : (net : Net) (fault : Fault) (depth : ℕ) (gates : List NodeId) (n : ℕ) (start now : List NodeFacts) → length gates ≤ n → IsPassed net fault depth (IsBefore gates n) start now → IsPassed net fault depth (IsListed gates) start now
pass_all net fault depth gates n start now all (inl quiet) = inl (quiet.0, λ y there. quiet.1 y (before_all gates n all y there))
pass_all net fault depth gates n start now all (inr less) = inr less

-- where the facts lead to a clash, some gate whose good value is held implies something
pub pass_fewer : (net : Net) (fault : Fault) (depth : ℕ) (gates : ℕ → Type 0) (start now : List NodeFacts) → ((x : ℕ) (value : Bool) → IsTrue (held_by start x (Good value)) → gates x) → IsPassed net fault depth gates start now → AreSettled net fault (held_by start) → LeadsToClash net fault (suc depth) (held_by start) → missing now < missing start
pass_fewer net fault depth gates start now all (inl quiet) settled clash = absurd (clash (held_by start) (λ x fact e. e) settled.free (settled.closed, taught_each net fault depth (held_by start) gates all quiet.1))
pass_fewer net fault depth gates start now all (inr less) settled clash = less

-- VALUES
pub record GoodsWriting (net : Net) (fault : Fault) (index : ℕ) (before after : EngineState) (start now : List NodeFacts) (items then : List Item) : Type 0 where
  pub going : Going net fault before after start now items then
  pub begin : index ≡ 0 → now ≡ start
  pub fewer : 0 < index → missing now < missing start

pub goods_none : (net : Net) (fault : Fault) (e : EngineState) (start : List NodeFacts) (items : List Item) → AreSettled net fault (held_by start) → GoodsWriting net fault 0 e e start start items items
goods_none net fault e start items settled = record { going = going_none net fault e start items settled; begin = λ z. refl; fewer = λ z. absurd (omega arith) }

pub goods_more : (net : Net) (fault : Fault) (index : ℕ) (a b c : EngineState) (start now next : List NodeFacts) (items middle after : List Item) (x : ℕ) → GoodsWriting net fault index a b start now items middle → known_good (held_by start) x ≡ None → Keeps b c now next → IsTold net fault (held_by now) middle false (held_by next) after → missing next ≤ missing now → (known_good (held_by now) x ≡ None → missing next < missing now) → GoodsWriting net fault (index + 1) a c start next items after
goods_more net fault index a b c start now next items middle after x w unknown keeps told less fewer = record {
  going = going_more net fault a b c start now next items middle after w.going keeps told;
  begin = λ z. absurd (omega arith);
  fewer = λ z. at index refl;
}
  where
    at : (n : ℕ) → index ≡ n → missing next < missing start
    at zero is =
        let same : now ≡ start = w.begin is in
        let first : missing next < missing now = fewer (subst (λ (f : List NodeFacts). known_good (held_by f) x ≡ None) (sym same) unknown) in
        subst (λ (f : List NodeFacts). missing next < missing f) same first
    at (suc n) is = let more : missing now < missing start = w.fewer (omega arith) in omega arith

one_place : (ds : List ℕ) (k d e : ℕ) → slice_get ds k ≡ Some d → slice_get ds k ≡ Some e → d ≡ e
one_place ds k d e one other = cc

-- CASES
pub record CasesWriting (net : Net) (fault : Fault) (c : Bool) (ds : List ℕ) (index : ℕ) (before after : EngineState) (start now : List NodeFacts) (items then : List Item) : Type 0 where
  pub going : Going net fault before after start now items then
  pub others : (k d : ℕ) → k < index → slice_get ds k ≡ Some d → IsTrue (held_by now d (Good (not c)))

pub cases_none : (net : Net) (fault : Fault) (c : Bool) (ds : List ℕ) (e : EngineState) (start : List NodeFacts) (items : List Item) → AreSettled net fault (held_by start) → CasesWriting net fault c ds 0 e e start start items items
cases_none net fault c ds e start items settled = record { going = going_none net fault e start items settled; others = λ k d less. absurd (omega arith) }

pub cases_more : (net : Net) (fault : Fault) (value : Bool) (ds : List ℕ) (index d : ℕ) (a b c : EngineState) (start now next : List NodeFacts) (items middle after : List Item) → CasesWriting net fault value ds index a b start now items middle → slice_get ds index ≡ Some d → Keeps b c now next → IsTold net fault (held_by now) middle false (held_by next) after → IsTrue (held_by next d (Good (not value))) → CasesWriting net fault value ds (index + 1) a c start next items after
cases_more net fault value ds index d a b c start now next items middle after w there keeps told other = record {
  going = going_more net fault a b c start now next items middle after w.going keeps told;
  others = λ k e less at. elim (cases_lt k index) [
    | inl lt ↦ keeps.more e (Good (not value)) (w.others k e lt at)
    | inr ge ↦ let is : k ≡ index = omega arith in subst (λ (n : ℕ). IsTrue (held_by next n (Good (not value)))) (one_place ds index d e there (subst (λ (m : ℕ). slice_get ds m ≡ Some e) is at)) other
  ];
}
