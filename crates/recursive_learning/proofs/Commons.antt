-- What the justifications looked at so far have in common.
use Rattle.std.proofs.Common.{Bool, List, None, Some, [], arith, false, inl, inr, length, refl, subst, suc, sym, true, zero, ℕ, ◌+◌, ◌<◌, ◌∙◌, ◌∷◌, ◌≡◌, ◌≤◌, ◌⊎◌}
use Rattle.std.proofs.lemmas.Bool.{cases_lt}
use Rattle.std.specs.Prelude.{IsTrue, slice_get}
use Rattle.gate_net.specs.Net.{Net}
use Rattle.refutation.specs.FactLists.{IsAmong}
use Rattle.recursive_learning.specs.Inner.Common.{Meets}
use Rattle.recursive_learning.specs.Least.{IsLeastAt}
use Rattle.recursive_learning.specs.Inner.JustifiedValues.{AreCommon, AreFound, IsNothingNew}
use Rattle.recursive_learning.specs.Inner.Working.{AreSettled}
use Rattle.recursive_learning.specs.declared.justified_values.GoodValue.{GoodValue}
use Rattle.refutation.specs.Closing.{IsClashFree, IsWithin}
use Rattle.refutation.specs.FactSets.{held_by}
use Rattle.refutation.specs.Facts.{Held, known_good, one_of, with_fact}
use Rattle.refutation.specs.Learning.{AllHold, IsClosedAt, LeadsToClash}
use Rattle.refutation.proofs.Public.{known_held}
use Rattle.refutation.specs.declared.held.NodeFacts.{NodeFacts}
use Rattle.refutation.specs.declared.reasoning.Fact.{Fact}
use Rattle.refutation.specs.declared.reasoning.Fact.TheVariants.{Good}
use Rattle.rm_base.specs.declared.numbers.Fault.{Fault}
use Rattle.rm_base.specs.declared.numbers.NodeId.{NodeId}

-- a good value that is held without a clash is known
pub held_known : (held : Held) (x : ℕ) (b : Bool) → IsClashFree held → IsTrue (held x (Good b)) → known_good held x ≡ Some b
held_known held x b free there = at b (held x (Good false)) (held x (Good true)) refl refl there
  where
    at : (b t u : Bool) → held x (Good false) ≡ t → held x (Good true) ≡ u → IsTrue (held x (Good b)) → one_of (held x (Good false)) (held x (Good true)) ≡ Some b
    at b true true e f h = absurd (free x (inl (e, f)))
    at true false true e f h = rw (e, f) refl
    at false true false e f h = rw (e, f) refl
    at true true false e f h = cc
    at true false false e f h = cc
    at false false u e f h = cc

-- a value that came new, without a clash, wasn't known
pub new_unknown : (before now : Held) (x : ℕ) (b : Bool) → IsWithin before now → IsClashFree now → IsTrue (now x (Good b)) → before x (Good b) ≡ false → known_good before x ≡ None
new_unknown before now x b within free there new = at b (before x (Good false)) (before x (Good true)) refl refl there new
  where
    at : (b t u : Bool) → before x (Good false) ≡ t → before x (Good true) ≡ u → IsTrue (now x (Good b)) → before x (Good b) ≡ false → one_of (before x (Good false)) (before x (Good true)) ≡ None
    at b false false e f h n = rw (e, f) refl
    at true true u e f h n = absurd (free x (inl (within x (Good false) e, h)))
    at true false true e f h n = cc
    at false t true e f h n = absurd (free x (inl (h, within x (Good true) f)))
    at false true false e f h n = cc

some_same : (ds : List ℕ) (k d d' : ℕ) → slice_get ds k ≡ Some d → slice_get ds k ≡ Some d' → d' ≡ d
some_same ds k d d' e f = cc

module _ (net : Net) (fault : Fault) (depth : ℕ) (held : Held) (c : Bool) (ds : List ℕ) where
  abbrev Clashes : ℕ → Type 0
  Clashes d = LeadsToClash net fault depth (with_fact held d (Good c))

  abbrev AllHave : ℕ → ℕ → Bool → Type 0
  AllHave d x b = AllHold (IsClosedAt net fault depth) (with_fact held d (Good c)) x (Good b)

  pub common_none : AreCommon net fault depth held c ds 0 false []
  common_none = record {
    clash = λ e k d less there. absurd (omega arith);
    one = λ e. cc;
    new = λ k g e. cc;
    lead = λ j g e. cc;
    all = λ e. cc;
  }

  -- one more, which clashes
  pub common_clash : (n : ℕ) (found : Bool) (goods : List GoodValue) (d : ℕ) → AreCommon net fault depth held c ds n found goods → slice_get ds n ≡ Some d → Clashes d → AreCommon net fault depth held c ds (n + 1) found goods
  common_clash n found goods d common there clashes = record {
    clash = λ none k d' less at. elim (cases_lt k n) [
      | inl lt ↦ common.clash none k d' lt at
      | inr ge ↦ let same : k ≡ n = omega arith in subst Clashes (sym (some_same ds n d d' there (subst (λ (m : ℕ). slice_get ds m ≡ Some d') same at))) clashes
    ];
    one = λ some. let one = common.one some in (one.0, (one.1.0, (let lt : one.0 < n = one.1.1.0 in omega arith, one.1.1.1)));
    new = common.new;
    lead = λ j g among k d' less at. elim (cases_lt k n) [
      | inl lt ↦ common.lead j g among k d' lt at
      | inr ge ↦ let same : k ≡ n = omega arith in λ s within free closed. absurd (subst Clashes (sym (some_same ds n d d' there (subst (λ (m : ℕ). slice_get ds m ≡ Some d') same at))) clashes s within free closed)
    ];
    all = λ some x b given. common.all some x b (λ k d' less at. given k d' (omega arith) at);
  }

  module _ (n : ℕ) (d : ℕ) (there : slice_get ds n ≡ Some d) (facts : List NodeFacts) (added : List (NodeId × Fact)) (least : IsLeastAt net fault depth (with_fact held d (Good c)) (held_by facts)) (settled : AreSettled net fault (held_by facts)) (within : IsWithin held (held_by facts)) (news : (x : ℕ) (fact : Fact) → IsAmong added x fact → held x fact ≡ false) (alls : (x : ℕ) (fact : Fact) → IsTrue (held_by facts x fact) → IsTrue (held x fact) ⊎ IsAmong added x fact) where
    no_clash : Clashes d → ⊥
    no_clash clashes = clashes (held_by facts) least.within least.free least.closed

    at_last : (x : ℕ) (b : Bool) → known_good (held_by facts) x ≡ Some b → AllHave d x b
    at_last x b known s inside free closed = least.least s inside free closed x (Good b) (known_held (held_by facts) x b known)

    at_place : (x : ℕ) (b : Bool) → known_good (held_by facts) x ≡ Some b → (k d' : ℕ) → k ≡ n → slice_get ds k ≡ Some d' → AllHave d' x b
    at_place x b known k d' same at = subst (λ (e : ℕ). AllHave e x b) (sym (some_same ds n d d' there (subst (λ (m : ℕ). slice_get ds m ≡ Some d') same at))) (at_last x b known)

    known_now : (x : ℕ) (b : Bool) → AllHave d x b → known_good (held_by facts) x ≡ Some b
    known_now x b all = held_known (held_by facts) x b least.free (all (held_by facts) least.within least.free least.closed)

    -- one more, which doesn't clash
    pub common_open : (found : Bool) (goods goods' : List GoodValue) → AreCommon net fault depth held c ds n found goods → Meets found goods added (held_by facts) goods' → AreCommon net fault depth held c ds (n + 1) true goods'
    common_open true goods goods' common meets = record {
      clash = λ e. cc;
      one = λ e. (n, (d, (omega arith, (there, no_clash))));
      new = λ k g at. common.new ((meets.each k g at).0).0 g ((meets.each k g at).0).1;
      lead = λ j g among k d' less at. elim (cases_lt k n) [
        | inl lt ↦ common.lead ((meets.each j g among).0).0 g ((meets.each j g among).0).1 k d' lt at
        | inr ge ↦ at_place g.node.0 g.value (meets.each j g among).1 k d' (omega arith) at
      ];
      all = λ e x b given. elim (common.all refl x b (λ k d' less at. given k d' (omega arith) at)) [
        | inl is ↦ inl is
        | inr among ↦ inr (meets.all x b among (known_now x b (given n d (omega arith) there no_clash)))
      ];
    }
    common_open false goods goods' common meets = record {
      clash = λ e. cc;
      one = λ e. (n, (d, (omega arith, (there, no_clash))));
      new = λ k g at. record {
        live = settled.live g.node.0 (Good g.value) (known_held (held_by facts) g.node.0 g.value (meets.each k g at).1);
        unknown = new_unknown held (held_by facts) g.node.0 g.value within least.free (known_held (held_by facts) g.node.0 g.value (meets.each k g at).1) (news g.node.0 (Good g.value) (meets.each k g at).0);
      };
      lead = λ j g among k d' less at. elim (cases_lt k n) [
        | inl lt ↦ λ s inside free closed. absurd (common.clash refl k d' lt at s inside free closed)
        | inr ge ↦ at_place g.node.0 g.value (meets.each j g among).1 k d' (omega arith) at
      ];
      all = λ e x b given. let known : known_good (held_by facts) x ≡ Some b = known_now x b (given n d (omega arith) there no_clash) in
          elim (alls x (Good b) (known_held (held_by facts) x b known)) [ inl is ↦ inl is | inr among ↦ inr (meets.all x b among known) ];
    }

  nothing_new : (n : ℕ) (goods : List GoodValue) → AreCommon net fault depth held c ds n true goods → goods ≡ [] → IsNothingNew net fault depth held c ds
  nothing_new n goods common none = record {
    one = let one = common.one refl in (one.0, (one.1.0, one.1.1.1));
    all = λ x b given. elim (common.all refl x b (λ k d less at. given k d at)) [
      | inl is ↦ is
      | inr among ↦ let at : slice_get goods among.0 ≡ Some among.1.0 = among.1.1.0 in let wrong : slice_get {X = GoodValue} [] among.0 ≡ Some among.1.0 = rw none at at in cc
    ];
  }

  below : (ds : List ℕ) (k d : ℕ) → slice_get ds k ≡ Some d → k < length ds
  below [] k d e = cc
  below (x ∷ xs) zero d e = omega arith
  below (x ∷ xs) (suc k) d e = let rest : k < length xs = below xs k d e in omega arith

  -- all have been looked at
  pub found_all : (n : ℕ) (found : Bool) (goods : List GoodValue) → AreCommon net fault depth held c ds n found goods → length ds ≤ n → AreFound net fault depth held c ds found goods
  found_all n found goods common end = (
    λ none k d at. common.clash none k d (let less : k < length ds = below ds k d at in omega arith) at,
    (
      λ some none. nothing_new n goods (subst (λ (f : Bool). AreCommon net fault depth held c ds n f goods) some common) none,
      λ some. record { new = common.new; lead = λ j g among k d at. common.lead j g among k d (let less : k < length ds = below ds k d at in omega arith) at },
    ),
  )

  -- nothing is left in common
  pub found_none : (n : ℕ) (found : Bool) (goods : List GoodValue) → AreCommon net fault depth held c ds n found goods → found ≡ true → goods ≡ [] → AreFound net fault depth held c ds found goods
  found_none n found goods common some none = (
    λ isn't. let wrong : true ≡ false = sym some ∙ isn't in cc,
    (
      λ e f. nothing_new n goods (subst (λ (f : Bool). AreCommon net fault depth held c ds n f goods) some common) none,
      λ e. record { new = common.new; lead = λ j g among. let wrong : slice_get {X = GoodValue} [] j ≡ Some g = rw none at among in cc },
    ),
  )
