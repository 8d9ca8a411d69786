-- What counts of a gate's pins tell.
use Rattle.std.proofs.Common.{Bool, List, None, Option, Some, arith, false, inl, inr, length, map, not, refl, sym, true, ℕ, ◌+◌, ◌-◌, ◌<◌, ◌∙◌, ◌≡◌}
use Rattle.std.proofs.lemmas.List.{length-map}
use Rattle.std.specs.List.{list_all, list_any}
use Rattle.std.specs.Prelude.{slice_get, slice_set}
use Rattle.gate_net.specs.Forward.{all_but, is_known, junction_back, junction_follows}
use Rattle.implications.proofs.Counting.{all_counted, but_counted, counting_map, counting_same, counting_set, counting_split, none_counted, not_all_counted, some_counted}
use Rattle.implications.proofs.Pulling.{back_same, one_left, pull_known, pull_unknown}
use Rattle.implications.specs.Inner.Counts.{IsCount, is_not_passing}
use Rattle.implications.specs.Inner.Pulls.{IsEqualPull, IsPull}
use Rattle.implications.specs.Inner.Tallies.{IsTally, counting, is_passing}
use Rattle.implications.specs.declared.counts.Count.{Count}
use Rattle.implications.specs.declared.tallies.Tally.{Tally}
use Rattle.refutation.specs.Closing.{IsClashFree}
use Rattle.refutation.specs.Facts.{Held, known_equal, known_faulty, known_good, one_of}
use Rattle.refutation.proofs.Public.{all_not_any}
use Rattle.refutation.specs.declared.reasoning.Fact.TheVariants.{Differs, Equal, Faulty, Good}
use Rattle.rm_base.proofs.Public.{some_same}
use Rattle.rm_base.specs.Numbers.{one_if}

-- AN AND OR AN OR
module _ (n : Count) (c : Bool) (os : List (Option Bool)) (known : Option Bool) (h : IsCount n c os) where
  -- two pins or more aren't known to have the opposite
  two_open : (q : ℕ) → 1 < n.pins - n.passing → all_but (is_known (not c)) q os ≡ false
  two_open q two = but_counted (is_known (not c)) q os (omega (arith, h.passing, h.pins))

  -- no pin has the value, and not all have its opposite
  pub count_open : known ≡ None → n.controlled ≡ 0 → n.passing < n.pins → IsPull c os known None
  count_open is none less =
      let off : list_any (is_known c) os ≡ false = none_counted (is_known c) os (sym h.controlled ∙ none) in
      let open' : list_all (is_known (not c)) os ≡ false = not_all_counted (is_known (not c)) os (omega (arith, h.passing, h.pins)) in
      pull_unknown c os known (rw (off, open') refl) is

  -- the gate has the value, as some pin has
  pub count_met : known ≡ Some c → 0 < n.controlled → IsPull c os known None
  count_met is some =
      let on : list_any (is_known c) os ≡ true = some_counted (is_known c) os (omega (arith, h.controlled)) in
      pull_known c c os known (rw on refl) is

  -- the gate has the value, and two pins or more may
  pub count_two : known ≡ Some c → 1 < n.pins - n.passing → IsPull c os known None
  count_two is two = at (list_any (is_known c) os) refl
    where
      at : (b : Bool) → list_any (is_known c) os ≡ b → IsPull c os known None
      at true on = pull_known c c os known (rw on refl) is
      at false off =
          let open' : list_all (is_known (not c)) os ≡ false = not_all_counted (is_known (not c)) os (omega (arith, h.passing, h.pins)) in
          let none : junction_follows c os ≡ None = rw (off, open') refl in (
            λ v f. let wrong : None ≡ Some v = sym none ∙ f in cc,
            λ v other q o k back there.
                let same : v ≡ c = some_same (sym k ∙ is) in
                let b : junction_back c c os q ≡ Some other = rw same at back in
                let yes' : all_but (is_known (not c)) q os ≡ true = (back_same c os q other b).0 in
                let no' : all_but (is_known (not c)) q os ≡ false = two_open q two in
                cc,
          )

  -- the gate has the opposite, as all pins have
  pub count_full : known ≡ Some (not c) → n.controlled ≡ 0 → n.passing ≡ n.pins → IsPull c os known None
  count_full is none full =
      let off : list_any (is_known c) os ≡ false = none_counted (is_known c) os (sym h.controlled ∙ none) in
      let all : list_all (is_known (not c)) os ≡ true = all_counted (is_known (not c)) os (sym h.passing ∙ full ∙ h.pins) in
      pull_known c (not c) os known (rw (off, all) refl) is

-- EQUAL AND DIFFERENT
pub equal_told : (os : List (Option Bool)) (known : Option Bool) → known ≡ Some true → IsEqualPull os known None
equal_told os known is = (λ e. is, λ q o k e there. let wrong : Some true ≡ Some false = sym is ∙ k in cc)

module _ (n : Count) (os : List (Option Bool)) (known : Option Bool) (h : IsCount n false os) where
  pub equal_unsure : known ≡ None → n.passing < n.pins → IsEqualPull os known None
  equal_unsure is less =
      let open' : list_all (is_known true) os ≡ false = not_all_counted (is_known true) os (omega (arith, h.passing, h.pins)) in
      (λ e. let wrong : true ≡ false = sym e ∙ open' in cc, λ q o k e there. let wrong : None ≡ Some false = sym is ∙ k in cc)

  pub equal_some : 0 < n.controlled → IsEqualPull os known None
  equal_some some =
      let on : list_any (is_known false) os ≡ true = some_counted (is_known false) os (omega (arith, h.controlled)) in
      (λ e. let off : list_any (is_known false) os ≡ false = all_not_any false os e in cc, λ q o k e there. one_left false os q o on e there)

  pub equal_two : 1 < n.pins - n.passing → IsEqualPull os known None
  equal_two two =
      let open' : list_all (is_known true) os ≡ false = not_all_counted (is_known true) os (omega (arith, h.passing, h.pins)) in
      (λ e. let wrong : true ≡ false = sym e ∙ open' in cc, λ q o k e there. let wrong : true ≡ false = sym e ∙ two_open n false os known h q two in cc)

-- A COUNT FROM TWO NUMBERS
pub count_yes : (c : Bool) (no' yes' pins : ℕ) (os : List (Option Bool)) → c ≡ true → no' ≡ counting (is_known false) os → yes' ≡ counting (is_known true) os → pins ≡ length os → IsCount (record { controlled = yes'; passing = no'; pins = pins }) c os
count_yes c no' yes' pins os is no_is yes_is pins_is = record { controlled = rw is yes_is; passing = rw is no_is; pins = pins_is }

pub count_no : (c : Bool) (no' yes' pins : ℕ) (os : List (Option Bool)) → c ≡ false → no' ≡ counting (is_known false) os → yes' ≡ counting (is_known true) os → pins ≡ length os → IsCount (record { controlled = no'; passing = yes'; pins = pins }) c os
count_no c no' yes' pins os is no_is yes_is pins_is = record { controlled = rw is no_is; passing = rw is yes_is; pins = pins_is }

-- THE STUCK PIN
pub stuck_counted : (b : Bool) (os : List (Option Bool)) (p : ℕ) (driven : Option Bool) (value : Bool) (n r : ℕ) (taken given : Bool) → r ≡ (n + one_if given) - one_if taken → taken ≡ is_known b driven → given ≡ is_known b (Some value) → n ≡ counting (is_known b) os → slice_get os p ≡ Some driven → r ≡ counting (is_known b) (slice_set os p (Some value))
stuck_counted b os p driven value n r taken given e t g is there =
    let sum : counting (is_known b) (slice_set os p (Some value)) + one_if (is_known b driven) ≡ counting (is_known b) os + one_if (is_known b (Some value)) = counting_set (is_known b) os p driven (Some value) there in
    let now : r ≡ (counting (is_known b) os + one_if (is_known b (Some value))) - one_if (is_known b driven) = rw (← t, ← g, ← is) e in
    omega arith

-- TALLIES
known_no : (t u : Bool) → ((t ≡ true) × (u ≡ true) → ⊥) → is_known false (one_of t u) ≡ t
known_no true true free = absurd (free (refl, refl))
known_no true false free = refl
known_no false true free = refl
known_no false false free = refl

known_yes : (t u : Bool) → ((t ≡ true) × (u ≡ true) → ⊥) → is_known true (one_of t u) ≡ u
known_yes true true free = absurd (free (refl, refl))
known_yes true false free = refl
known_yes false true free = refl
known_yes false false free = refl

-- how many have a value, how many its opposite, and how many there are
abbrev pub AreCounts : ℕ → ℕ → ℕ → List (Option Bool) → Type 0
AreCounts no' yes' pins os = (no' ≡ counting (is_known false) os) × ((yes' ≡ counting (is_known true) os) × (pins ≡ length os))

counts_of : (no_test yes_test : ℕ → Bool) (k : ℕ → Option Bool) (ds : List ℕ) (no' yes' pins : ℕ) → ((x : ℕ) → is_known false (k x) ≡ no_test x) → ((x : ℕ) → is_known true (k x) ≡ yes_test x) → no' ≡ counting no_test ds → yes' ≡ counting yes_test ds → pins ≡ length ds → AreCounts no' yes' pins (map k ds)
counts_of no_test yes_test k ds no' yes' pins no_same yes_same no_is yes_is pins_is = (
  no_is ∙ sym (counting_map k (is_known false) ds ∙ counting_same (λ (x : ℕ). is_known false (k x)) no_test ds no_same),
  (yes_is ∙ sym (counting_map k (is_known true) ds ∙ counting_same (λ (x : ℕ). is_known true (k x)) yes_test ds yes_same), pins_is ∙ sym (length-map ds k)),
)

module _ (held : Held) (free : IsClashFree held) (position : ℕ) (ds : List ℕ) (t : Tally) (h : IsTally held position ds t) where
  pub goods_counted : AreCounts t.good_0 t.good_1 t.pins (map (known_good held) ds)
  goods_counted = counts_of (λ (x : ℕ). held x (Good false)) (λ (x : ℕ). held x (Good true)) (known_good held) ds t.good_0 t.good_1 t.pins
      (λ x. known_no (held x (Good false)) (held x (Good true)) (λ both. free x (inl both)))
      (λ x. known_yes (held x (Good false)) (held x (Good true)) (λ both. free x (inl both))) h.good_0 h.good_1 h.pins

  pub faulties_counted : AreCounts t.faulty_0 t.faulty_1 t.pins (map (known_faulty held) ds)
  faulties_counted = counts_of (λ (x : ℕ). held x (Faulty false)) (λ (x : ℕ). held x (Faulty true)) (known_faulty held) ds t.faulty_0 t.faulty_1 t.pins
      (λ x. known_no (held x (Faulty false)) (held x (Faulty true)) (λ both. free x (inr (inl both))))
      (λ x. known_yes (held x (Faulty false)) (held x (Faulty true)) (λ both. free x (inr (inl both)))) h.faulty_0 h.faulty_1 h.pins

  pub equals_counted : AreCounts t.differs t.equal t.pins (map (known_equal held) ds)
  equals_counted = counts_of (λ (x : ℕ). held x Differs) (λ (x : ℕ). held x Equal) (known_equal held) ds t.differs t.equal t.pins
      (λ x. known_no (held x Differs) (held x Equal) (λ both. free x (inr (inr (both.1, both.0)))))
      (λ x. known_yes (held x Differs) (held x Equal) (λ both. free x (inr (inr (both.1, both.0))))) h.differs h.equal h.pins

-- how many equal drivers aren't held to have the value
pub rest_counted : (held : Held) (b : Bool) (ds : List ℕ) (equal passing : ℕ) → equal ≡ counting (λ (d : ℕ). held d Equal) ds → passing ≡ counting (is_passing held b) ds → equal - passing ≡ counting (is_not_passing held b) ds
rest_counted held b ds equal passing e f =
    let sum : counting (λ (d : ℕ). is_passing held b d) ds + counting (λ (d : ℕ). is_not_passing held b d) ds ≡ counting (λ (d : ℕ). held d Equal) ds = counting_split (λ (d : ℕ). held d Equal) (λ (d : ℕ). held d (Good b)) ds in
    omega arith
