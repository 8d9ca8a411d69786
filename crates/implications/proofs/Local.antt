-- A line asks for facts at its place and at the drivers of that alone.
use Rattle.std.proofs.Common.{None, Some, ap, false, map, refl, subst, sym, true, ℕ, ◌≡◌}
use Rattle.std.specs.List.{list_all}
use Rattle.std.specs.Prelude.{IsTrue, if◌then◌else◌, nat_eq, slice_set}
use Rattle.gate_net.specs.Forward.{all_but, is_known, value_back, value_forward}
use Rattle.gate_net.specs.Net.{Net, Reads, drivers_of}
use Rattle.gate_net.specs.Values.{faulty_reads}
use Rattle.implications.specs.Settled.{AgreeAt, place_of}
use Rattle.refutation.specs.Facts.{Held, known_equal, known_faulty, known_good}
use Rattle.refutation.specs.Lines.{Concludes, OneDiffers}
use Rattle.refutation.specs.declared.reasoning.Fact.{Fact}
use Rattle.refutation.specs.declared.reasoning.Fact.TheVariants.{Differs, Equal, Faulty, Good}
use Rattle.refutation.specs.declared.reasoning.Line.{Line}
use Rattle.refutation.specs.declared.reasoning.Line.TheVariants.{Act, Chain, Compare, Constant, DiffersBack, EqualForward, FaultyBack, FaultyForward, GoodBack, GoodForward, NotDiffers, NotEqual, Out, Side, Site, ToFaulty, ToGood}
use Rattle.rm_base.specs.declared.numbers.Fault.{Fault}
use Rattle.rm_base.proofs.Public.{map_agree}

module _ (net : Net) (fault : Fault) (held other : Held) (y : ℕ) (here : AgreeAt held other y) (drivers : (p d : ℕ) → Reads net y p d → AgreeAt held other d) where
  good_at : (x : ℕ) → AgreeAt held other x → known_good held x ≡ known_good other x
  good_at x a = rw (a (Good false), a (Good true)) refl

  faulty_at : (x : ℕ) → AgreeAt held other x → known_faulty held x ≡ known_faulty other x
  faulty_at x a = rw (a (Faulty false), a (Faulty true)) refl

  equal_at : (x : ℕ) → AgreeAt held other x → known_equal held x ≡ known_equal other x
  equal_at x a = rw (a Equal, a Differs) refl

  goods : map (known_good held) (drivers_of net y) ≡ map (known_good other) (drivers_of net y)
  goods = map_agree (known_good held) (known_good other) (drivers_of net y) (λ p d reads. good_at d (drivers p d reads))

  faulties : map (known_faulty held) (drivers_of net y) ≡ map (known_faulty other) (drivers_of net y)
  faulties = map_agree (known_faulty held) (known_faulty other) (drivers_of net y) (λ p d reads. faulty_at d (drivers p d reads))

  equals : map (known_equal held) (drivers_of net y) ≡ map (known_equal other) (drivers_of net y)
  equals = map_agree (known_equal held) (known_equal other) (drivers_of net y) (λ p d reads. equal_at d (drivers p d reads))

  faulty_pins : faulty_reads net fault Some (known_faulty held) y ≡ faulty_reads net fault Some (known_faulty other) y
  faulty_pins = ap (λ os. if nat_eq y fault.gate.0 then slice_set os fault.position (Some fault.value) else os) faulties

  one_differs : OneDiffers held (drivers_of net y) → OneDiffers other (drivers_of net y)
  one_differs h = (h.0, h.1, h.2, rw (equal_at h.1 (drivers h.0 h.1 h.2)) at h.3, rw equals at h.4)

  pub line_local : (l : Line) (x : ℕ) (fact : Fact) → place_of l ≡ Some y → Concludes net fault held l x fact → Concludes net fault other l x fact
  line_local Act x fact e h = cc
  line_local Site x fact e h = cc
  line_local (Chain z) x fact e h = cc
  line_local (Out z) x fact e h = cc
  line_local (Constant z) x fact e h = h
  line_local (GoodForward z) x fact e h =
      let is : x ≡ y = cc in
      (h.0, h.1, h.2, subst (λ w. value_forward h.0 (map (known_good other) (drivers_of net w)) ≡ Some h.1) (sym is) (rw goods at (subst (λ w. value_forward h.0 (map (known_good held) (drivers_of net w)) ≡ Some h.1) is h.3)), h.4, h.5)
  line_local (GoodBack z q) x fact e h =
      let is : z.0 ≡ y = cc in (
        h.0,
        h.1,
        h.2,
        h.3,
        subst (λ w. known_good other w ≡ Some h.1) (sym is) (rw (good_at y here) at (subst (λ w. known_good held w ≡ Some h.1) is h.4)),
        subst (λ w. value_back h.0 h.1 (map (known_good other) (drivers_of net w)) q ≡ Some h.2) (sym is) (rw goods at (subst (λ w. value_back h.0 h.1 (map (known_good held) (drivers_of net w)) q ≡ Some h.2) is h.5)),
        h.6,
        h.7,
      )
  line_local (Compare z) x fact e h =
      let is : x ≡ y = cc in (
        h.0,
        h.1,
        h.2,
        subst (λ w. known_good other w ≡ Some h.1) (sym is) (rw (good_at y here) at (subst (λ w. known_good held w ≡ Some h.1) is h.3)),
        subst (λ w. known_faulty other w ≡ Some h.2) (sym is) (rw (faulty_at y here) at (subst (λ w. known_faulty held w ≡ Some h.2) is h.4)),
        h.5,
        h.6,
      )
  line_local (FaultyForward z) x fact e h =
      let is : x ≡ y = cc in
      (h.0, h.1, h.2, subst (λ w. value_forward h.0 (faulty_reads net fault Some (known_faulty other) w) ≡ Some h.1) (sym is) (rw faulty_pins at (subst (λ w. value_forward h.0 (faulty_reads net fault Some (known_faulty held) w) ≡ Some h.1) is h.3)), h.4, h.5)
  line_local (FaultyBack z q) x fact e h =
      let is : z.0 ≡ y = cc in (
        h.0,
        h.1,
        h.2,
        h.3,
        subst (λ w. known_faulty other w ≡ Some h.1) (sym is) (rw (faulty_at y here) at (subst (λ w. known_faulty held w ≡ Some h.1) is h.4)),
        subst (λ w. value_back h.0 h.1 (faulty_reads net fault Some (known_faulty other) w) q ≡ Some h.2) (sym is) (rw faulty_pins at (subst (λ w. value_back h.0 h.1 (faulty_reads net fault Some (known_faulty held) w) q ≡ Some h.2) is h.5)),
        h.6,
        h.7,
        h.8,
      )
  line_local (ToFaulty z) x fact e h =
      let is : x ≡ y = cc in (
        h.0,
        h.1,
        h.2,
        subst (λ w. known_good other w ≡ Some h.1) (sym is) (rw (good_at y here) at (subst (λ w. known_good held w ≡ Some h.1) is h.3)),
        subst (λ w. known_equal other w ≡ Some h.2) (sym is) (rw (equal_at y here) at (subst (λ w. known_equal held w ≡ Some h.2) is h.4)),
        h.5,
        h.6,
      )
  line_local (ToGood z) x fact e h =
      let is : x ≡ y = cc in (
        h.0,
        h.1,
        h.2,
        subst (λ w. known_faulty other w ≡ Some h.1) (sym is) (rw (faulty_at y here) at (subst (λ w. known_faulty held w ≡ Some h.1) is h.3)),
        subst (λ w. known_equal other w ≡ Some h.2) (sym is) (rw (equal_at y here) at (subst (λ w. known_equal held w ≡ Some h.2) is h.4)),
        h.5,
        h.6,
      )
  line_local (NotDiffers z) x fact e h =
      let is : x ≡ y = cc in
      (h.0, h.1, h.2, subst (λ w. OneDiffers other (drivers_of net w)) (sym is) (one_differs (subst (λ w. OneDiffers held (drivers_of net w)) is h.3)), h.4, h.5)
  line_local (NotEqual z) x fact e h =
      let is : z.0 ≡ y = cc in
      (h.0, h.1, subst (λ w. known_equal other w ≡ Some true) (sym is) (rw (equal_at y here) at (subst (λ w. known_equal held w ≡ Some true) is h.2)), h.3, h.4)
  line_local (EqualForward z) x fact e h =
      let is : x ≡ y = cc in
      (h.0, h.1, subst (λ w. IsTrue (list_all (is_known true) (map (known_equal other) (drivers_of net w)))) (sym is) (rw equals at (subst (λ w. IsTrue (list_all (is_known true) (map (known_equal held) (drivers_of net w)))) is h.2)), h.3, h.4)
  line_local (DiffersBack z q) x fact e h =
      let is : z.0 ≡ y = cc in (
        h.0,
        h.1,
        subst (λ w. known_equal other w ≡ Some false) (sym is) (rw (equal_at y here) at (subst (λ w. known_equal held w ≡ Some false) is h.2)),
        subst (λ w. IsTrue (all_but (is_known true) q (map (known_equal other) (drivers_of net w)))) (sym is) (rw equals at (subst (λ w. IsTrue (all_but (is_known true) q (map (known_equal held) (drivers_of net w)))) is h.3)),
        h.4,
        h.5,
      )
  line_local (Side z q) x fact e h =
      let is : z.0 ≡ y = cc in (
        h.0,
        h.1,
        h.2,
        h.3,
        subst (λ w. known_equal other w ≡ Some false) (sym is) (rw (equal_at y here) at (subst (λ w. known_equal held w ≡ Some false) is h.4)),
        h.5,
        rw (equal_at x (drivers q x (subst (λ w. Reads net w q x) is h.7))) at h.6,
        h.7,
        h.8,
      )

-- a line without a place asks for no facts
pub first_local : (net : Net) (fault : Fault) (held other : Held) (l : Line) (x : ℕ) (fact : Fact) → place_of l ≡ None → Concludes net fault held l x fact → Concludes net fault other l x fact
first_local net fault held other Act x fact e h = h
first_local net fault held other Site x fact e h = h
first_local net fault held other (Chain z) x fact e h = h
first_local net fault held other (Out z) x fact e h = h
first_local net fault held other (Constant z) x fact e h = cc
first_local net fault held other (GoodForward z) x fact e h = cc
first_local net fault held other (Compare z) x fact e h = cc
first_local net fault held other (FaultyForward z) x fact e h = cc
first_local net fault held other (ToFaulty z) x fact e h = cc
first_local net fault held other (ToGood z) x fact e h = cc
first_local net fault held other (NotDiffers z) x fact e h = cc
first_local net fault held other (NotEqual z) x fact e h = cc
first_local net fault held other (EqualForward z) x fact e h = cc
first_local net fault held other (GoodBack z q) x fact e h = cc
first_local net fault held other (FaultyBack z q) x fact e h = cc
first_local net fault held other (DiffersBack z q) x fact e h = cc
first_local net fault held other (Side z q) x fact e h = cc
