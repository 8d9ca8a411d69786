-- How the tally of a gate's pins rises.
use Rattle.std.proofs.Common.{Bool, List, Some, [], ap, arith, false, length, length-append, refl, subst, suc, sym, true, zero, ℕ, ◌&&◌, ◌++◌, ◌+◌, ◌<◌, ◌∙◌, ◌∷◌, ◌≡◌, ◌≢◌, ◌||◌, inl, inr}
use Rattle.std.proofs.lemmas.Bool.{eq-eqb, ne_eqb}
use Rattle.std.proofs.lemmas.Bool.Decides.{eqb_tells}
use Rattle.std.specs.Prelude.{nat_eq, slice_get, slice_set}
use Rattle.gate_graph.proofs.Public.{seen_cases}
use Rattle.gate_graph.specs.Search.{IsSeen}
use Rattle.gate_net.specs.Net.{Net, drivers_of}
use Rattle.implications.proofs.Counting.{count_few}
use Rattle.implications.proofs.CountRises.{ComesToPass, counted_more, counting-append, counting_rises, counting_room, risen_more, risen_none}
use Rattle.implications.specs.Inner.Rises.{CanRise, IsRaised, RaisesAt, comes_to_pass, rise_at, rise_by, risen}
use Rattle.implications.specs.Inner.Tallies.{AreTallied, IsTally, TallyState, counting, is_passing}
use Rattle.implications.specs.declared.tallies.Rise.{Rise}
use Rattle.implications.specs.declared.tallies.Tally.{Tally}
use Rattle.refutation.specs.Facts.{Held, same_fact, with_fact}
use Rattle.refutation.proofs.Public.{same_fact_true}
use Rattle.refutation.specs.declared.reasoning.Fact.{Fact}
use Rattle.refutation.specs.declared.reasoning.Fact.TheVariants.{Differs, Equal, Faulty, Good}
use Rattle.rm_base.specs.declared.numbers.NodeId.{NodeId}
use Rattle.rm_base.proofs.Public.{set_other}

-- ONE PIN MORE
-- the driver of the pin at the position, with one pin more
at_more : (ds : List ℕ) (d position : ℕ) (pins : ℕ) (before after here : NodeId) → pins ≡ length ds → here.0 ≡ d → (pins ≡ position → after ≡ here) → (pins ≢ position → after ≡ before) → ((x : ℕ) → slice_get ds position ≡ Some x → before.0 ≡ x) → (x : ℕ) → slice_get (ds ++ d ∷ []) position ≡ Some x → after.0 ≡ x
at_more ds d position pins before after here many is last earlier old x e = elim (eqb_tells pins position) [
  | inl t ↦
      let there : slice_get (ds ++ d ∷ []) (length ds) ≡ Some d = append_last ds d in
      let place : length ds ≡ position = sym many ∙ t.1 in
      let same : Some x ≡ Some d = sym e ∙ ap (slice_get (ds ++ d ∷ [])) (sym place) ∙ there in
      let value : x ≡ d = cc in
      ap (λ (n : NodeId). n.0) (last t.1) ∙ is ∙ sym value
  | inr t ↦ ap (λ (n : NodeId). n.0) (earlier t.1) ∙ old x (among ds position e (λ is. t.1 (many ∙ sym is)))
]
  where
    append_last : (ds : List ℕ) (d : ℕ) → slice_get (ds ++ d ∷ []) (length ds) ≡ Some d
    append_last [] d = refl
    append_last (y ∷ ds) d = append_last ds d

    among : (ds : List ℕ) (p : ℕ) → slice_get (ds ++ d ∷ []) p ≡ Some x → (p ≡ length ds → ⊥) → slice_get ds p ≡ Some x
    among [] zero e ne = absurd (ne refl)
    among [] (suc p) e ne = e
    among (y ∷ ds) zero e ne = e
    among (y ∷ ds) (suc p) e ne = among ds p e (λ is. ne (ap suc is))

-- the counts are at most the pins
pub rises_at_pin : (held : Held) (position d : ℕ) (ds : List ℕ) (t : Tally) (at : NodeId) → IsTally held position ds t → CanRise (rise_at held d) (record t { pins = t.pins + 1; at = at })
rises_at_pin held position d ds t at h = record {
  good_0 = λ rises. omega (arith, h.good_0, h.pins, count_few (λ (x : ℕ). held x (Good false)) ds);
  good_1 = λ rises. omega (arith, h.good_1, h.pins, count_few (λ (x : ℕ). held x (Good true)) ds);
  faulty_0 = λ rises. omega (arith, h.faulty_0, h.pins, count_few (λ (x : ℕ). held x (Faulty false)) ds);
  faulty_1 = λ rises. omega (arith, h.faulty_1, h.pins, count_few (λ (x : ℕ). held x (Faulty true)) ds);
  equal = λ rises. omega (arith, h.equal, h.pins, count_few (λ (x : ℕ). held x Equal) ds);
  differs = λ rises. omega (arith, h.differs, h.pins, count_few (λ (x : ℕ). held x Differs) ds);
  passing_0 = λ rises. omega (arith, h.passing_0, h.pins, count_few (is_passing held false) ds);
  passing_1 = λ rises. omega (arith, h.passing_1, h.pins, count_few (is_passing held true) ds);
}

-- the tally with one pin more
pub tally_more : (held : Held) (position : ℕ) (ds : List ℕ) (d : NodeId) (t : Tally) (at : NodeId) (t' : Tally) → IsTally held position ds t → (t.pins ≡ position → at ≡ d) → (t.pins ≢ position → at ≡ t.at)
    → IsRaised (rise_at held d.0) 1 (record t { pins = t.pins + 1; at = at }) t' → IsTally held position (ds ++ d.0 ∷ []) t'
tally_more held position ds d t at t' h last earlier r = record {
  pins = r.pins ∙ (let e : t.pins + 1 ≡ length ds + 1 = omega (arith, h.pins) in e ∙ sym (length-append ds (d.0 ∷ [])));
  good_0 = counted_more (λ (x : ℕ). held x (Good false)) ds d.0 t.good_0 t'.good_0 h.good_0 r.good_0;
  good_1 = counted_more (λ (x : ℕ). held x (Good true)) ds d.0 t.good_1 t'.good_1 h.good_1 r.good_1;
  faulty_0 = counted_more (λ (x : ℕ). held x (Faulty false)) ds d.0 t.faulty_0 t'.faulty_0 h.faulty_0 r.faulty_0;
  faulty_1 = counted_more (λ (x : ℕ). held x (Faulty true)) ds d.0 t.faulty_1 t'.faulty_1 h.faulty_1 r.faulty_1;
  equal = counted_more (λ (x : ℕ). held x Equal) ds d.0 t.equal t'.equal h.equal r.equal;
  differs = counted_more (λ (x : ℕ). held x Differs) ds d.0 t.differs t'.differs h.differs r.differs;
  passing_0 = counted_more (is_passing held false) ds d.0 t.passing_0 t'.passing_0 h.passing_0 r.passing_0;
  passing_1 = counted_more (is_passing held true) ds d.0 t.passing_1 t'.passing_1 h.passing_1 r.passing_1;
  at = λ x e. at_more ds d.0 position t.pins t.at t'.at d h.pins refl (λ is. r.at ∙ last is) (λ ne. r.at ∙ earlier ne) h.at x e;
}

set_within : (tallies : List Tally) (x : ℕ) (t : Tally) → x < length tallies → slice_get (slice_set tallies x t) x ≡ Some t
set_within [] x t h = absurd (omega arith)
set_within (y ∷ tallies) zero t h = refl
set_within (y ∷ tallies) (suc x) t h = set_within tallies x t (omega arith)

-- one gate more is counted
pub tallied_more : (net : Net) (held : Held) (position : ℕ) (counted counted' : List Bool) (tallies : List Tally) (x : ℕ) (t : Tally) → AreTallied net held position (record { counted = counted; tallies = tallies }) → counted' ≡ slice_set counted x true → x < length tallies → IsTally held position (drivers_of net x) t
    → AreTallied net held position (record { counted = counted'; tallies = slice_set tallies x t })
tallied_more net held position counted counted' tallies x t tallied more within h y seen = elim (eqb_tells y x) [
  | inl e ↦ (t, (rw e.1 (set_within tallies x t within), rw e.1 h))
  | inr e ↦ elim (seen_cases counted x y (subst (λ (l : List Bool). IsSeen l y) more seen)) [
    | inl before ↦ let old = tallied y before in (old.0, (set_other tallies x y t e.1 ∙ old.1.0, old.1.1))
    | inr is ↦ absurd (e.1 is)
  ]
]

-- A FACT COMES
comes_none : (e g : Bool) → ComesToPass (e && g) ((false || e) && (false || g)) false
comes_none e g = record { new = λ h. cc; later = refl }

comes_good : (e g : Bool) → g ≡ false → ComesToPass (e && g) ((false || e) && (true || g)) e
comes_good true true h = cc
comes_good true false h = record { new = λ is. refl; later = refl }
comes_good false g h = record { new = λ is. refl; later = refl }

comes_equal : (e g : Bool) → e ≡ false → ComesToPass (e && g) ((true || e) && (false || g)) g
comes_equal true g h = cc
comes_equal false true h = record { new = λ is. refl; later = refl }
comes_equal false false h = record { new = λ is. refl; later = refl }

passing_comes : (held : Held) (x : ℕ) (b : Bool) (fact : Fact) → held x fact ≡ false → ComesToPass (held x Equal && held x (Good b)) ((same_fact Equal fact || held x Equal) && (same_fact (Good b) fact || held x (Good b))) (comes_to_pass held x b fact)
passing_comes held x false (Good false) new = comes_good (held x Equal) (held x (Good false)) new
passing_comes held x false (Good true) new = comes_none (held x Equal) (held x (Good false))
passing_comes held x true (Good false) new = comes_none (held x Equal) (held x (Good true))
passing_comes held x true (Good true) new = comes_good (held x Equal) (held x (Good true)) new
passing_comes held x b (Faulty c) new = comes_none (held x Equal) (held x (Good b))
passing_comes held x b Equal new = comes_equal (held x Equal) (held x (Good b)) new
passing_comes held x b Differs new = comes_none (held x Equal) (held x (Good b))

module _ (held : Held) (x : ℕ) (fact : Fact) (new : held x fact ≡ false) where
  off : (other : Fact) (d : ℕ) → d ≢ x → with_fact held x fact d other ≡ held d other
  off other d ne = rw (ne_eqb d x ne) refl

  comes : (other : Fact) → ComesToPass (held x other) (with_fact held x fact x other) (same_fact other fact)
  comes other = record { new = λ is. rw (same_fact_true other fact is) new; later = rw (eq-eqb x x refl) refl }

  passing_off : (b : Bool) (d : ℕ) → d ≢ x → is_passing (with_fact held x fact) b d ≡ is_passing held b d
  passing_off b d ne = rw (ne_eqb d x ne) refl

  passing : (b : Bool) → ComesToPass (is_passing held b x) (is_passing (with_fact held x fact) b x) (comes_to_pass held x b fact)
  passing b = let h = passing_comes held x b fact new in record { new = h.new; later = rw (eq-eqb x x refl) h.later }

  module _ (position : ℕ) (ds : List ℕ) (t t' : Tally) (k : ℕ) (h : IsTally held position ds t) (r : IsRaised (rise_by held x fact) k t t') where
    count_is : (other : Fact) (n m : ℕ) → k ≡ counting (nat_eq x) ds → n ≡ counting (λ (d : ℕ). held d other) ds → m ≡ risen (same_fact other fact) n k → m ≡ counting (λ (d : ℕ). with_fact held x fact d other) ds
    count_is other n m all is more = more ∙ rw (is, all) (sym (counting_rises x (λ (d : ℕ). held d other) (λ (d : ℕ). with_fact held x fact d other) (same_fact other fact) (off other) (comes other) ds))

    passing_is : (b : Bool) (n m : ℕ) → k ≡ counting (nat_eq x) ds → n ≡ counting (is_passing held b) ds → m ≡ risen (comes_to_pass held x b fact) n k → m ≡ counting (is_passing (with_fact held x fact) b) ds
    passing_is b n m all is more = more ∙ rw (is, all) (sym (counting_rises x (is_passing held b) (is_passing (with_fact held x fact) b) (comes_to_pass held x b fact) (passing_off b) (passing b) ds))

    -- the tally after the fact has come, raised once for each pin with that driver
    pub tally_rises : k ≡ counting (nat_eq x) ds → IsTally (with_fact held x fact) position ds t'
    tally_rises all = record {
      pins = r.pins ∙ h.pins;
      good_0 = count_is (Good false) t.good_0 t'.good_0 all h.good_0 r.good_0;
      good_1 = count_is (Good true) t.good_1 t'.good_1 all h.good_1 r.good_1;
      faulty_0 = count_is (Faulty false) t.faulty_0 t'.faulty_0 all h.faulty_0 r.faulty_0;
      faulty_1 = count_is (Faulty true) t.faulty_1 t'.faulty_1 all h.faulty_1 r.faulty_1;
      equal = count_is Equal t.equal t'.equal all h.equal r.equal;
      differs = count_is Differs t.differs t'.differs all h.differs r.differs;
      passing_0 = passing_is false t.passing_0 t'.passing_0 all h.passing_0 r.passing_0;
      passing_1 = passing_is true t.passing_1 t'.passing_1 all h.passing_1 r.passing_1;
      at = λ d e. ap (λ (n : NodeId). n.0) r.at ∙ h.at d e;
    }

    count_room : (other : Fact) (n m : ℕ) → k < counting (nat_eq x) ds → n ≡ counting (λ (d : ℕ). held d other) ds → m ≡ risen (same_fact other fact) n k → same_fact other fact ≡ true → m < t'.pins
    count_room other n m less is more rises = rw (r.pins, h.pins) (counting_room x (λ (d : ℕ). held d other) (λ (d : ℕ). with_fact held x fact d other) (same_fact other fact) (off other) (comes other) ds k n m is more less rises)

    passing_room : (b : Bool) (n m : ℕ) → k < counting (nat_eq x) ds → n ≡ counting (is_passing held b) ds → m ≡ risen (comes_to_pass held x b fact) n k → comes_to_pass held x b fact ≡ true → m < t'.pins
    passing_room b n m less is more rises = rw (r.pins, h.pins) (counting_room x (is_passing held b) (is_passing (with_fact held x fact) b) (comes_to_pass held x b fact) (passing_off b) (passing b) ds k n m is more less rises)

    -- there is room for one more before all pins with that driver have come
    pub can_rise : k < counting (nat_eq x) ds → CanRise (rise_by held x fact) t'
    can_rise less = record {
      good_0 = count_room (Good false) t.good_0 t'.good_0 less h.good_0 r.good_0;
      good_1 = count_room (Good true) t.good_1 t'.good_1 less h.good_1 r.good_1;
      faulty_0 = count_room (Faulty false) t.faulty_0 t'.faulty_0 less h.faulty_0 r.faulty_0;
      faulty_1 = count_room (Faulty true) t.faulty_1 t'.faulty_1 less h.faulty_1 r.faulty_1;
      equal = count_room Equal t.equal t'.equal less h.equal r.equal;
      differs = count_room Differs t.differs t'.differs less h.differs r.differs;
      passing_0 = passing_room false t.passing_0 t'.passing_0 less h.passing_0 r.passing_0;
      passing_1 = passing_room true t.passing_1 t'.passing_1 less h.passing_1 r.passing_1;
    }

-- ONE AFTER THE OTHER
pub raised_none : (rise : Rise) (t : Tally) → IsRaised rise 0 t t
raised_none rise t = record {
  pins = refl;
  good_0 = risen_none rise.good_0 t.good_0;
  good_1 = risen_none rise.good_1 t.good_1;
  faulty_0 = risen_none rise.faulty_0 t.faulty_0;
  faulty_1 = risen_none rise.faulty_1 t.faulty_1;
  equal = risen_none rise.equal t.equal;
  differs = risen_none rise.differs t.differs;
  passing_0 = risen_none rise.passing_0 t.passing_0;
  passing_1 = risen_none rise.passing_1 t.passing_1;
  at = refl;
}

pub raised_more : (rise : Rise) (k : ℕ) (a b c : Tally) → IsRaised rise k a b → IsRaised rise 1 b c → IsRaised rise (k + 1) a c
raised_more rise k a b c h r = record {
  pins = r.pins ∙ h.pins;
  good_0 = risen_more rise.good_0 a.good_0 b.good_0 c.good_0 k h.good_0 r.good_0;
  good_1 = risen_more rise.good_1 a.good_1 b.good_1 c.good_1 k h.good_1 r.good_1;
  faulty_0 = risen_more rise.faulty_0 a.faulty_0 b.faulty_0 c.faulty_0 k h.faulty_0 r.faulty_0;
  faulty_1 = risen_more rise.faulty_1 a.faulty_1 b.faulty_1 c.faulty_1 k h.faulty_1 r.faulty_1;
  equal = risen_more rise.equal a.equal b.equal c.equal k h.equal r.equal;
  differs = risen_more rise.differs a.differs b.differs c.differs k h.differs r.differs;
  passing_0 = risen_more rise.passing_0 a.passing_0 b.passing_0 c.passing_0 k h.passing_0 r.passing_0;
  passing_1 = risen_more rise.passing_1 a.passing_1 b.passing_1 c.passing_1 k h.passing_1 r.passing_1;
  at = r.at ∙ h.at;
}

-- each counted gate's tally has risen as often as the gate is among these
pub record Raises (rise : Rise) (before after : TallyState) (gates : List ℕ) : Type 0 where
  pub counted : after.counted ≡ before.counted
  pub raised : (y : ℕ) → IsSeen before.counted y → (t : Tally) → slice_get before.tallies y ≡ Some t → (t' : Tally) × ((slice_get after.tallies y ≡ Some t') × IsRaised rise (counting (nat_eq y) gates) t t')

pub raises_none : (rise : Rise) (s : TallyState) → Raises rise s s []
raises_none rise s = record { counted = refl; raised = λ y seen t is. (t, (is, raised_none rise t)) }

pub raises_more : (rise : Rise) (s s' s'' : TallyState) (gates : List ℕ) (x : ℕ) → Raises rise s s' gates → RaisesAt rise s' s'' x → Raises rise s s'' (gates ++ x ∷ [])
raises_more rise s s' s'' gates x h step = record {
  counted = step.counted ∙ h.counted;
  raised = λ y seen t is.
      let at : (t' : Tally) × ((slice_get s'.tallies y ≡ Some t') × IsRaised rise (counting (nat_eq y) gates) t t') = h.raised y seen t is in
      elim (eqb_tells y x) [
        | inl e ↦
            let one : counting (nat_eq y) (x ∷ []) ≡ 1 = rw e.0 refl in
            let many : counting (nat_eq y) gates + 1 ≡ counting (nat_eq y) (gates ++ x ∷ []) = omega (arith, counting-append (nat_eq y) gates (x ∷ [])) in
            let there : IsSeen s'.counted x = subst (λ (z : ℕ). IsSeen s'.counted z) e.1 (subst (λ (l : List Bool). IsSeen l y) (sym h.counted) seen) in
            let now : (t' : Tally) × ((slice_get s''.tallies x ≡ Some t') × IsRaised rise 1 at.0 t') = step.raised there at.0 (subst (λ (z : ℕ). slice_get s'.tallies z ≡ Some at.0) e.1 at.1.0) in
            (now.0, (subst (λ (z : ℕ). slice_get s''.tallies z ≡ Some now.0) (sym e.1) now.1.0, subst (λ (n : ℕ). IsRaised rise n t now.0) many (raised_more rise (counting (nat_eq y) gates) t at.0 now.0 at.1.1 now.1.1)))
        | inr e ↦
            let none : counting (nat_eq y) (x ∷ []) ≡ 0 = rw e.0 refl in
            let many : counting (nat_eq y) gates ≡ counting (nat_eq y) (gates ++ x ∷ []) = omega (arith, counting-append (nat_eq y) gates (x ∷ [])) in
            (at.0, (step.others y e.1 ∙ at.1.0, subst (λ (n : ℕ). IsRaised rise n t at.0) many at.1.1))
      ];
}

module _ (net : Net) (held : Held) (x : ℕ) (fact : Fact) (new : held x fact ≡ false) (position : ℕ) (s s' : TallyState) (tallied : AreTallied net held position s) (gates : List ℕ) (h : Raises (rise_by held x fact) s s' gates) where
  -- when each gate has come once for each of its pins with that driver
  pub all_tallied : ((y : ℕ) → counting (nat_eq y) gates ≡ counting (nat_eq x) (drivers_of net y)) → AreTallied net (with_fact held x fact) position s'
  all_tallied all y seen =
      let before = tallied y (subst (λ (l : List Bool). IsSeen l y) h.counted seen) in
      let after = h.raised y (subst (λ (l : List Bool). IsSeen l y) h.counted seen) before.0 before.1.0 in
      (after.0, (after.1.0, tally_rises held x fact new position (drivers_of net y) before.0 after.0 (counting (nat_eq y) gates) before.1.1 after.1.1 (all y)))

  pub next_can_rise : (y : ℕ) → counting (nat_eq y) gates < counting (nat_eq x) (drivers_of net y) → IsSeen s'.counted y → (t : Tally) → slice_get s'.tallies y ≡ Some t → CanRise (rise_by held x fact) t
  next_can_rise y less seen t is =
      let before = tallied y (subst (λ (l : List Bool). IsSeen l y) h.counted seen) in
      let after = h.raised y (subst (λ (l : List Bool). IsSeen l y) h.counted seen) before.0 before.1.0 in
      let same : after.0 ≡ t = some_is (sym after.1.0 ∙ is) in
      subst (CanRise (rise_by held x fact)) same (can_rise held x fact new position (drivers_of net y) before.0 after.0 (counting (nat_eq y) gates) before.1.1 after.1.1 less)
    where
      some_is : {a b : Tally} → Some a ≡ Some b → a ≡ b
      some_is e = cc
