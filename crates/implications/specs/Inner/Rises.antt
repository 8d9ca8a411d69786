-- How tallies rise.
use Rattle.std.specs.Prelude.{Bool, Some, false, if◌then◌else◌, slice_get, true, ℕ, ◌+◌, ◌<◌, ◌≡◌, ◌≢◌}
use Rattle.gate_graph.specs.Search.{IsSeen}
use Rattle.gate_net.specs.Values.{same_bool}
use Rattle.implications.specs.Inner.Tallies.{TallyState, is_passing}
use Rattle.implications.specs.declared.tallies.Rise.{Rise}
use Rattle.implications.specs.declared.tallies.Tally.{Tally}
use Rattle.refutation.specs.Facts.{Held, same_fact}
use Rattle.refutation.specs.declared.reasoning.Fact.{Fact}
use Rattle.refutation.specs.declared.reasoning.Fact.TheVariants.{Differs, Equal, Faulty, Good}

-- the counts that a pin with this driver is among
abbrev pub rise_at : Held → ℕ → Rise
rise_at held d = record {
  good_0 = held d (Good false);
  good_1 = held d (Good true);
  faulty_0 = held d (Faulty false);
  faulty_1 = held d (Faulty true);
  equal = held d Equal;
  differs = held d Differs;
  passing_0 = is_passing held false d;
  passing_1 = is_passing held true d;
}

-- whether the driver comes to be held to be equal and to have that good value
abbrev pub comes_to_pass : Held → ℕ → Bool → Fact → Bool
comes_to_pass held x b (Good c) = if same_bool b c then held x Equal else false
comes_to_pass held x b (Faulty c) = false
comes_to_pass held x b Equal = held x (Good b)
comes_to_pass held x b Differs = false

-- the counts that a pin with this driver comes to be among by a fact that is new
abbrev pub rise_by : Held → ℕ → Fact → Rise
rise_by held x fact = record {
  good_0 = same_fact (Good false) fact;
  good_1 = same_fact (Good true) fact;
  faulty_0 = same_fact (Faulty false) fact;
  faulty_1 = same_fact (Faulty true) fact;
  equal = same_fact Equal fact;
  differs = same_fact Differs fact;
  passing_0 = comes_to_pass held x false fact;
  passing_1 = comes_to_pass held x true fact;
}

-- a count that may have risen so often
abbrev pub risen : Bool → ℕ → ℕ → ℕ
risen rises n k = if rises then n + k else n

-- the counts that rise have risen so often
pub record IsRaised (rise : Rise) (k : ℕ) (old new : Tally) : Type 0 where
  pub pins : new.pins ≡ old.pins
  pub good_0 : new.good_0 ≡ risen rise.good_0 old.good_0 k
  pub good_1 : new.good_1 ≡ risen rise.good_1 old.good_1 k
  pub faulty_0 : new.faulty_0 ≡ risen rise.faulty_0 old.faulty_0 k
  pub faulty_1 : new.faulty_1 ≡ risen rise.faulty_1 old.faulty_1 k
  pub equal : new.equal ≡ risen rise.equal old.equal k
  pub differs : new.differs ≡ risen rise.differs old.differs k
  pub passing_0 : new.passing_0 ≡ risen rise.passing_0 old.passing_0 k
  pub passing_1 : new.passing_1 ≡ risen rise.passing_1 old.passing_1 k
  pub at : new.at ≡ old.at

-- the counts that rise are less than the pins
pub record CanRise (rise : Rise) (t : Tally) : Type 0 where
  pub good_0 : rise.good_0 ≡ true → t.good_0 < t.pins
  pub good_1 : rise.good_1 ≡ true → t.good_1 < t.pins
  pub faulty_0 : rise.faulty_0 ≡ true → t.faulty_0 < t.pins
  pub faulty_1 : rise.faulty_1 ≡ true → t.faulty_1 < t.pins
  pub equal : rise.equal ≡ true → t.equal < t.pins
  pub differs : rise.differs ≡ true → t.differs < t.pins
  pub passing_0 : rise.passing_0 ≡ true → t.passing_0 < t.pins
  pub passing_1 : rise.passing_1 ≡ true → t.passing_1 < t.pins

-- the tally of the gate was raised once, where it was counted, and nothing else changed
pub record RaisesAt (rise : Rise) (before after : TallyState) (x : ℕ) : Type 0 where
  pub counted : after.counted ≡ before.counted
  pub others : (y : ℕ) → y ≢ x → slice_get after.tallies y ≡ slice_get before.tallies y
  pub raised : IsSeen before.counted x → (t : Tally) → slice_get before.tallies x ≡ Some t → (t' : Tally) × ((slice_get after.tallies x ≡ Some t') × IsRaised rise 1 t t')
