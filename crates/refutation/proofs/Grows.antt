-- Lines under more facts.
use Rattle.std.proofs.Common.{Bool, Some, false, inl, inr, map, refl, true, ℕ, ◌≡◌}
use Rattle.gate_net.proofs.Public.{all_but_stays, all_stay, back_stays, forward_stays, reads_stay, stay_map}
use Rattle.gate_net.specs.Net.{Net, drivers_of}
use Rattle.gate_net.specs.Values.{faulty_reads}
use Rattle.gate_net.specs.Inner.Stays.{Stays, AllStay}
use Rattle.refutation.specs.Closing.{IsClashFree, IsWithin}
use Rattle.refutation.specs.Facts.{Held, known_equal, known_faulty, known_good, one_of}
use Rattle.refutation.specs.Laws.{LinesGrow}
use Rattle.refutation.specs.Lines.{Concludes, OneDiffers}
use Rattle.refutation.specs.declared.reasoning.Fact.{Fact}
use Rattle.refutation.specs.declared.reasoning.Fact.TheVariants.{Differs, Equal, Faulty, Good}
use Rattle.refutation.specs.declared.reasoning.Line.{Line}
use Rattle.refutation.specs.declared.reasoning.Line.TheVariants.{Act, Chain, Compare, Constant, DiffersBack, EqualForward, FaultyBack, FaultyForward, GoodBack, GoodForward, NotDiffers, NotEqual, Out, Side, Site, ToFaulty, ToGood}
use Rattle.rm_base.specs.declared.numbers.Fault.{Fault}

one_of_grows : (t u t' u' : Bool) → (t ≡ true → t' ≡ true) → (u ≡ true → u' ≡ true) → ((t' ≡ true) × (u' ≡ true) → ⊥) → (b : Bool) → one_of t u ≡ Some b → one_of t' u' ≡ Some b
one_of_grows true true t' u' h k free b e = cc
one_of_grows false false t' u' h k free b e = cc
one_of_grows true false true true h k free b e = absurd (free (refl, refl))
one_of_grows true false true false h k free b e = e
one_of_grows true false false u' h k free b e = let wrong : false ≡ true = h refl in cc
one_of_grows false true true true h k free b e = absurd (free (refl, refl))
one_of_grows false true false true h k free b e = e
one_of_grows false true t' false h k free b e = let wrong : false ≡ true = k refl in cc

module _ (net : Net) (fault : Fault) (held more : Held) (within : IsWithin held more) (free : IsClashFree more) where
  pub good_stays : (x : ℕ) → Stays (known_good held x) (known_good more x)
  good_stays x = one_of_grows (held x (Good false)) (held x (Good true)) (more x (Good false)) (more x (Good true)) (within x (Good false)) (within x (Good true)) (λ both. free x (inl both))

  faulty_stays : (x : ℕ) → Stays (known_faulty held x) (known_faulty more x)
  faulty_stays x = one_of_grows (held x (Faulty false)) (held x (Faulty true)) (more x (Faulty false)) (more x (Faulty true)) (within x (Faulty false)) (within x (Faulty true)) (λ both. free x (inr (inl both)))

  equal_stays : (x : ℕ) → Stays (known_equal held x) (known_equal more x)
  equal_stays x = one_of_grows (held x Differs) (held x Equal) (more x Differs) (more x Equal) (within x Differs) (within x Equal) (λ both. free x (inr (inr (both.1, both.0))))

  goods : (y : ℕ) → AllStay (map (known_good held) (drivers_of net y)) (map (known_good more) (drivers_of net y))
  goods y = stay_map (known_good held) (known_good more) (drivers_of net y) good_stays

  equals : (y : ℕ) → AllStay (map (known_equal held) (drivers_of net y)) (map (known_equal more) (drivers_of net y))
  equals y = stay_map (known_equal held) (known_equal more) (drivers_of net y) equal_stays

  faulties : (y : ℕ) → AllStay (faulty_reads net fault Some (known_faulty held) y) (faulty_reads net fault Some (known_faulty more) y)
  faulties y = reads_stay net fault (known_faulty held) (known_faulty more) y faulty_stays

  one_differs_stays : (y : ℕ) → OneDiffers held (drivers_of net y) → OneDiffers more (drivers_of net y)
  one_differs_stays y h = (h.0, h.1, h.2, equal_stays h.1 false h.3, all_but_stays true h.0 (map (known_equal held) (drivers_of net y)) (map (known_equal more) (drivers_of net y)) (equals y) h.4)

  pub line_grows : (l : Line) (x : ℕ) (fact : Fact) → Concludes net fault held l x fact → Concludes net fault more l x fact
  line_grows Act x fact h = h
  line_grows Site x fact h = h
  line_grows (Chain y) x fact h = h
  line_grows (Out y) x fact h = h
  line_grows (Constant y) x fact h = h
  line_grows (GoodForward y) x fact h = (h.0, h.1, h.2, forward_stays h.0 (map (known_good held) (drivers_of net x)) (map (known_good more) (drivers_of net x)) (goods x) h.1 h.3, h.4, h.5)
  line_grows (GoodBack y q) x fact h =
      (h.0, h.1, h.2, h.3, good_stays y.0 h.1 h.4, back_stays h.0 h.1 (map (known_good held) (drivers_of net y.0)) (map (known_good more) (drivers_of net y.0)) q (goods y.0) h.2 h.5, h.6, h.7)
  line_grows (Compare y) x fact h = (h.0, h.1, h.2, good_stays x h.1 h.3, faulty_stays x h.2 h.4, h.5, h.6)
  line_grows (EqualForward y) x fact h = (h.0, h.1, all_stay true (map (known_equal held) (drivers_of net x)) (map (known_equal more) (drivers_of net x)) (equals x) h.2, h.3, h.4)
  line_grows (DiffersBack y q) x fact h =
      (h.0, h.1, equal_stays y.0 false h.2, all_but_stays true q (map (known_equal held) (drivers_of net y.0)) (map (known_equal more) (drivers_of net y.0)) (equals y.0) h.3, h.4, h.5)
  line_grows (Side y q) x fact h = (h.0, h.1, h.2, h.3, equal_stays y.0 false h.4, h.5, equal_stays x true h.6, h.7, h.8)
  line_grows (FaultyForward y) x fact h = (h.0, h.1, h.2, forward_stays h.0 (faulty_reads net fault Some (known_faulty held) x) (faulty_reads net fault Some (known_faulty more) x) (faulties x) h.1 h.3, h.4, h.5)
  line_grows (FaultyBack y q) x fact h =
      (h.0, h.1, h.2, h.3, faulty_stays y.0 h.1 h.4, back_stays h.0 h.1 (faulty_reads net fault Some (known_faulty held) y.0) (faulty_reads net fault Some (known_faulty more) y.0) q (faulties y.0) h.2 h.5, h.6, h.7, h.8)
  line_grows (ToFaulty y) x fact h = (h.0, h.1, h.2, good_stays x h.1 h.3, equal_stays x h.2 h.4, h.5, h.6)
  line_grows (ToGood y) x fact h = (h.0, h.1, h.2, faulty_stays x h.1 h.3, equal_stays x h.2 h.4, h.5, h.6)
  line_grows (NotDiffers y) x fact h = (h.0, h.1, h.2, one_differs_stays x h.3, h.4, h.5)
  line_grows (NotEqual y) x fact h = (h.0, h.1, equal_stays y.0 true h.2, h.3, h.4)

pub lines_grow : LinesGrow
lines_grow net fault held more within free = line_grows net fault held more within free
