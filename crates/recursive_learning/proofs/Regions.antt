-- What a gate rests on: while the facts there stay, it has nothing to teach.
use Rattle.std.proofs.Common.{Bool, List, None, Option, Some, [], arith, false, ◌+◌, inl, inr, refl, subst, sym, true, ℕ, ◌<◌, ◌∙◌, ◌≡◌, ◌||◌}
use Rattle.std.proofs.lemmas.Bool.{cases_lt, or_cases}
use Rattle.std.specs.Prelude.{IsTrue, slice_get}
use Rattle.std.proofs.Math.Bool.{or-true}
use Rattle.gate_net.specs.Net.{Net}
use Rattle.implications.specs.Laws.{FirstLinesAskNothing, LinesAreLocal}
use Rattle.implications.specs.Settled.{AgreeAt, place_of}
use Rattle.recursive_learning.proofs.Indexes.{watched_longer}
use Rattle.recursive_learning.specs.Inner.Gates.{AreJustifications}
use Rattle.recursive_learning.specs.Least.{IsLeastAt}
use Rattle.recursive_learning.specs.Inner.JustifiedValues.{AreCommon}
use Rattle.recursive_learning.specs.Resting.{IsLonger, IsWatched}
use Rattle.recursive_learning.specs.Inner.Watching.{AgreeAround, Covers, HasRegion, IsCovered, StaysTaught}
use Rattle.recursive_learning.specs.Inner.Working.{AreSettled}
use Rattle.recursive_learning.specs.declared.justified_values.GoodValue.{GoodValue}
use Rattle.recursive_learning.specs.declared.resting.Rest.{Rest}
use Rattle.refutation.specs.Closing.{IsClashFree, IsClosedUnderLines, IsWithin}
use Rattle.refutation.specs.Facts.{AreOpposed, Held, known_good, with_fact}
use Rattle.refutation.specs.Learning.{AllHold, HasFew, HasLearned, IsJustification, IsUnjustified, NoneContains}
use Rattle.refutation.proofs.Public.{with_there, with_within}
use Rattle.refutation.specs.Lines.{Concludes}
use Rattle.refutation.specs.declared.reasoning.Fact.{Fact}
use Rattle.refutation.specs.declared.reasoning.Fact.TheVariants.{Differs, Equal, Faulty, Good}
use Rattle.refutation.specs.declared.reasoning.Line.{Line}
use Rattle.rm_base.specs.declared.numbers.Fault.{Fault}

-- TWO SETS TOGETHER
abbrev pub either_holds : Held → Held → Held
either_holds s t x fact = s x fact || t x fact

in_left : (s t : Held) → IsWithin s (either_holds s t)
in_left s t x fact e = rw e refl

in_right : (s t : Held) → IsWithin t (either_holds s t)
in_right s t x fact e = rw e (or-true (s x fact))

-- where one set holds no more than the other, that one stands for both
or_within : (a b c : Bool) → (IsTrue a → IsTrue b) → (IsTrue a → IsTrue c) → a ≡ b → c ≡ (b || c)
or_within true true c f g e = g refl
or_within false false c f g e = refl
or_within true false c f g e = cc
or_within false true c f g e = cc

or_same : (a b c : Bool) → (IsTrue a → IsTrue b) → a ≡ c → b ≡ (b || c)
or_same true b true f e = rw (f refl) refl
or_same false true false f e = refl
or_same false false false f e = refl
or_same true b false f e = cc
or_same false b true f e = cc

module _ (net : Net) (held more now : Held) (within : IsWithin held more) (grown : IsWithin held now) where
  both_now : (x : ℕ) → AgreeAt held more x → AgreeAt now (either_holds more now) x
  both_now x same fact = or_within (held x fact) (more x fact) (now x fact) (within x fact) (grown x fact) (same fact)

  both_more : (x : ℕ) → AgreeAt held now x → AgreeAt more (either_holds more now) x
  both_more x same fact = or_same (held x fact) (more x fact) (now x fact) (within x fact) (same fact)

-- LOCALITY
module _ (local : LinesAreLocal) (first : FirstLinesAskNothing) (net : Net) (fault : Fault) (held more now : Held) (entries : List Rest) (y : ℕ) (settled : AreSettled net fault held) (settled_more : AreSettled net fault more) (closed_now : IsClosedUnderLines net fault now) (free_now : IsClashFree now) (within : IsWithin held more) (grown : IsWithin held now) (covers : Covers net held now entries y) (agree : (z : ℕ) → IsWatched entries z y → AgreeAround net held more z) where
  abbrev Both : Held
  Both = either_holds more now

  line_at : (z : ℕ) (l : Line) (x : ℕ) (fact : Fact) → place_of l ≡ Some z → Concludes net fault Both l x fact → IsTrue (Both x fact)
  line_at z l x fact place h = elim (covers z) [
    | inl watched ↦
        let around : AgreeAround net held more z = agree z watched in
        in_right more now x fact (closed_now l x fact (local net fault Both now z
        (λ f. sym (both_now net held more now within grown z around.here f))
        (λ p d reads f. sym (both_now net held more now within grown d (around.drivers p d reads) f)) l x fact place h))
    | inr around ↦
        in_left more now x fact (settled_more.closed l x fact (local net fault Both more z
        (λ f. sym (both_more net held more now within grown z around.here f))
        (λ p d reads f. sym (both_more net held more now within grown d (around.drivers p d reads) f)) l x fact place h))
  ]

  pub both_closed : IsClosedUnderLines net fault Both
  both_closed l x fact h = at (place_of l) refl
    where
      at : (o : Option ℕ) → place_of l ≡ o → IsTrue (Both x fact)
      at (Some z) is = line_at z l x fact is h
      at None is = in_left more now x fact (settled_more.closed l x fact (first net fault Both more l x fact is h))

  opposed_same : (s t : Held) (x : ℕ) → AgreeAt s t x → AreOpposed t x → AreOpposed s x
  opposed_same s t x same h = elim h [
    | inl good ↦ inl (same (Good false) ∙ good.0, same (Good true) ∙ good.1)
    | inr other ↦ elim other [
      | inl faulty ↦ inr (inl (same (Faulty false) ∙ faulty.0, same (Faulty true) ∙ faulty.1))
      | inr equal ↦ inr (inr (same Equal ∙ equal.0, same Differs ∙ equal.1))
    ]
  ]

  pub both_free : IsClashFree Both
  both_free x h = elim (covers x) [
    | inl watched ↦ free_now x (opposed_same now Both x (both_now net held more now within grown x (agree x watched).here) h)
    | inr around ↦ settled_more.free x (opposed_same more Both x (both_more net held more now within grown x around.here) h)
  ]

-- WHAT IS KNOWN OF A GATE
module _ (net : Net) (held more : Held) (y : ℕ) (around : AgreeAround net held more y) where
  good_same : (x : ℕ) → AgreeAt held more x → known_good held x ≡ known_good more x
  good_same x a = rw (a (Good false), a (Good true)) refl

  pub just_before : (d : ℕ) → IsJustification net more y d → IsJustification net held y d
  just_before d just = (just.0, good_same d (around.drivers just.0.0 d just.0.1) ∙ just.1)

  pub just_after : (d : ℕ) → IsJustification net held y d → IsJustification net more y d
  just_after d just = (just.0, sym (good_same d (around.drivers just.0.0 d just.0.1)) ∙ just.1)

  pub unjustified_before : (c : Bool) → IsUnjustified net more y c → IsUnjustified net held y c
  unjustified_before c u = record {
    junction = u.junction;
    known = good_same y around.here ∙ u.known;
    none_gives = λ p d reads is. u.none_gives p d reads (sym (good_same d (around.drivers p d reads)) ∙ is);
    one_may = (u.one_may.0, just_before u.one_may.0 u.one_may.1);
  }

  pub few_before : HasFew net more y → HasFew net held y
  few_before few = (few.0, (few.1.0, λ d just. few.1.1 d (just_after d just)))

-- a gate that isn't unjustified, or has many justifications, has nothing to teach while the facts around it stay
pub stays_idle : (net : Net) (fault : Fault) (held : Held) (entries : List Rest) (y : ℕ) → ((c : Bool) → IsUnjustified net held y c → HasFew net held y → ⊥) → StaysTaught net fault held entries y
stays_idle net fault held entries y idle more within settled around agree c u few =
    absurd (idle c (unjustified_before net held more y around c u) (few_before net held more y around few))

-- a gate that rests on all to which its justifications lead
module _ (local : LinesAreLocal) (first : FirstLinesAskNothing) (net : Net) (fault : Fault) (held : Held) (y : ℕ) (c : Bool) (ds : List ℕ) (entries : List Rest) (settled : AreSettled net fault held) (known : known_good held y ≡ Some c) (j : AreJustifications net held y ds) (region : HasRegion net fault held c ds entries y) where
  module _ (more : Held) (within : IsWithin held more) (settled_more : AreSettled net fault more) (around : AgreeAround net held more y) (agree : (z : ℕ) → IsWatched entries z y → AgreeAround net held more z) where
    abbrev Below : Held → Type 0
    Below = IsClosedUnderLines net fault

    -- more facts with what the justification led to are closed, without a clash
    module _ (d : ℕ) (now : Held) (least : IsLeastAt net fault 0 (with_fact held d (Good c)) now) (grown : IsWithin held now) (covers : Covers net held now entries y) where
      with_closed : IsClosedUnderLines net fault (either_holds more now)
      with_closed = both_closed local first net fault held more now entries y settled settled_more least.closed least.free within grown covers agree

      with_free : IsClashFree (either_holds more now)
      with_free = both_free local first net fault held more now entries y settled settled_more least.closed least.free within grown covers agree

      with_contains : IsWithin (with_fact more d (Good c)) (either_holds more now)
      with_contains = with_within more (either_holds more now) d (Good c) (in_left more now) (in_right more now d (Good c) (least.within d (Good c) (with_there held d (Good c))))

      pub still_open : NoneContains Below (with_fact more d (Good c)) → ⊥
      still_open none = none (either_holds more now) with_contains with_free with_closed

      pub led_before : (x : ℕ) (b : Bool) → AllHold Below (with_fact more d (Good c)) x (Good b) → more x (Good b) ≡ false → AllHold Below (with_fact held d (Good c)) x (Good b)
      led_before x b all isn't s inside free closed =
          let there : IsTrue (either_holds more now x (Good b)) = all (either_holds more now) with_contains with_free with_closed in
          least.least s inside free closed x (Good b) (elim (or_cases (more x (Good b)) (now x (Good b)) there) [ inl is ↦ absurd (let wrong : false ≡ true = sym isn't ∙ is in true_is wrong) | inr is ↦ is ])
        where
          true_is : false ≡ true → ⊥
          true_is e = cc

    held_by_all : (x : ℕ) (b : Bool) → ((d : ℕ) → IsJustification net more y d → (NoneContains Below (with_fact more d (Good c)) → ⊥) → AllHold Below (with_fact more d (Good c)) x (Good b)) → (t : Bool) → more x (Good b) ≡ t → IsTrue (more x (Good b))
    held_by_all x b all true is = is
    held_by_all x b all false is = within x (Good b) (elim (region.common.all refl x b (λ k d less at some.
        let cover = region.covered k d less at some in
        led_before d cover.0 cover.1.0 cover.1.1.0 cover.1.1.1 x b (all d (just_after net held more y around d (j.each k d at)) (still_open d cover.0 cover.1.0 cover.1.1.0 cover.1.1.1)) is)) [
          | inl there ↦ there
          | inr among ↦ absurd (none_among among.0 among.1.0 among.1.1.0)
        ])
      where
        none_among : (k : ℕ) (g : GoodValue) → slice_get {X = GoodValue} [] k ≡ Some g → ⊥
        none_among k g e = cc

    pub region_learned : HasLearned net Below more y c
    region_learned = record {
      one_may = λ all.
          let one = region.common.one refl in
          let cover = region.covered one.0 one.1.0 one.1.1.0 one.1.1.1.0 one.1.1.1.1 in
          still_open one.1.0 cover.0 cover.1.0 cover.1.1.0 cover.1.1.1 (all one.1.0 (just_after net held more y around one.1.0 (j.each one.0 one.1.0 one.1.1.1.0)));
      all_held = λ x b all. held_by_all x b all (more x (Good b)) refl;
    }

  pub region_stays : StaysTaught net fault held entries y
  region_stays more within settled_more around agree c' u few =
      let there : known_good held y ≡ Some c' = (unjustified_before net held more y around c' u).known in
      let same : c ≡ c' = cc in
      subst (HasLearned net (IsClosedUnderLines net fault) more y) same (region_learned more within settled_more around agree)

-- DRIVER AFTER DRIVER
covered_longer : (net : Net) (fault : Fault) (held : Held) (c : Bool) (d : ℕ) (xs ys : List Rest) (y : ℕ) → IsLonger xs ys → IsCovered net fault held c d xs y → IsCovered net fault held c d ys y
covered_longer net fault held c d xs ys y longer covered some =
    let h = covered some in
    (h.0, (h.1.0, (h.1.1.0, λ z. elim (h.1.1.1 z) [ inl watched ↦ inl (watched_longer xs ys longer z y watched) | inr around ↦ inr around ])))

pub covered_more : (net : Net) (fault : Fault) (held : Held) (c : Bool) (ds : List ℕ) (n d : ℕ) (xs ys : List Rest) (y : ℕ) → IsLonger xs ys → ((k e : ℕ) → k < n → slice_get ds k ≡ Some e → IsCovered net fault held c e xs y) → slice_get ds n ≡ Some d → IsCovered net fault held c d ys y → (k e : ℕ) → k < n + 1 → slice_get ds k ≡ Some e → IsCovered net fault held c e ys y
covered_more net fault held c ds n d xs ys y longer before there here k e less at = elim (cases_lt k n) [
  | inl lt ↦ covered_longer net fault held c e xs ys y longer (before k e lt at)
  | inr ge ↦ let is : k ≡ n = omega arith in subst (λ (i : ℕ). IsCovered net fault held c i ys y) (same_place ds n d e there (subst (λ (i : ℕ). slice_get ds i ≡ Some e) is at)) here
]
  where
    same_place : (ds : List ℕ) (k d e : ℕ) → slice_get ds k ≡ Some d → slice_get ds k ≡ Some e → d ≡ e
    same_place ds k d e one other = cc

pub region_of : (net : Net) (fault : Fault) (depth : ℕ) (held : Held) (c : Bool) (ds : List ℕ) (n : ℕ) (found : Bool) (goods : List GoodValue) (entries : List Rest) (y : ℕ) → AreCommon net fault depth held c ds n found goods → found ≡ true → goods ≡ [] → depth ≡ 0 → ((k d : ℕ) → k < n → slice_get ds k ≡ Some d → IsCovered net fault held c d entries y) → HasRegion net fault held c ds entries y
region_of net fault depth held c ds n found goods entries y common some none zero covered = record {
  count = n;
  common = subst (λ (d : ℕ). AreCommon net fault d held c ds n true []) zero (subst (λ (f : Bool). AreCommon net fault depth held c ds n f []) some (subst (AreCommon net fault depth held c ds n found) none common));
  covered = covered;
}
