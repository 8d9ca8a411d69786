-- A reading of what a fault concerns, and one of the whole net.
use Rattle.std.proofs.Common.{Bool, List, None, Option, Some, [], ap, arith, inl, inr, map, not, refl, subst, suc, sym, true, zero, ℕ, ◌<◌, ◌||◌, ◌∙◌, ◌∷◌, ◌≡◌, ◌≢◌}
use Rattle.std.proofs.lemmas.Bool.{ne_eqb}
use Rattle.std.specs.List.{list_all}
use Rattle.std.specs.Prelude.{if◌then◌else◌, nat_eq, slice_get}
use Rattle.std.proofs.Math.Bool.{or-true}
use Rattle.gate_net.specs.Forward.{AgreeOn, IsForwardReading, Marking, MarksDetected, MarksQuiet, both_known_different, both_known_same, is_idle, node_forward}
use Rattle.gate_net.proofs.Public.{along_pins, reads_elsewhere, same_bool_refl}
use Rattle.gate_net.specs.Net.{IsAcyclic, Net, Reads, drivers_of, node_at}
use Rattle.gate_net.specs.Paths.{Reaches, on, pin}
use Rattle.gate_net.specs.Values.{faulty_reads}
use Rattle.local_evaluation.specs.Reaching.{Matters}
use Rattle.rm_base.specs.declared.numbers.Fault.{Fault}
use Rattle.ternary_sim.proofs.InOrder.{read_agrees}
use Rattle.ternary_sim.proofs.Rewriting.{same_marks}
use Rattle.ternary_sim.specs.Marks.{IsReadAt, good_at, mark_at, marking, no_marks}
use Rattle.ternary_sim.specs.Regions.{IsConcerned, IsCurrent, IsPlain, IsTouched, IsWhole, ReadingsExist, RegionsDecide}
use Rattle.ternary_sim.specs.declared.marks.NodeMarks.{NodeMarks}
use Rattle.rm_base.proofs.Public.{map_agree}

-- PATHS
pub before_path : {net : Net} {y z w : ℕ} (p : ℕ) → Reads net z p y → Reaches net z w → Reaches net y w
before_path p reads (pin q there) = on q (pin p reads) there
before_path p reads (on q path there) = on q (before_path p reads path) there

-- what drives the faulty gate or what it reaches matters
pub driver_matters : (net : Net) (fault : Fault) (y p d : ℕ) → Reads net y p d → IsTouched net fault.gate.0 y → Matters net fault d
driver_matters net fault y p d reads (inl is) = inl (pin p (subst (λ (z : ℕ). Reads net z p d) is reads))
driver_matters net fault y p d reads (inr path) = inr (y, (pin p reads, path))

-- and so does what drives a node that matters
pub driver_matters_too : (net : Net) (fault : Fault) (y p d : ℕ) → Reads net y p d → Matters net fault y → Matters net fault d
driver_matters_too net fault y p d reads (inl path) = inl (before_path p reads path)
driver_matters_too net fault y p d reads (inr (z, (path, reached))) = inr (z, (before_path p reads path, reached))

pub driver_of_concerned : (net : Net) (fault : Fault) (y p d : ℕ) → Reads net y p d → IsConcerned net fault y → Matters net fault d
driver_of_concerned net fault y p d reads (inl touched) = driver_matters net fault y p d reads touched
driver_of_concerned net fault y p d reads (inr matters) = driver_matters_too net fault y p d reads matters

pub touched_next : (net : Net) (gate x p d : ℕ) → Reads net x p d → IsTouched net gate d → IsTouched net gate x
touched_next net gate x p d reads (inl is) = inr (pin p (subst (λ (z : ℕ). Reads net x p z) is reads))
touched_next net gate x p d reads (inr path) = inr (on p path reads)

-- WHAT IS SAID OF A NODE
abbrev marking_by : (ℕ → NodeMarks) → Marking
marking_by u = record { good = λ x. (u x).good; faulty = λ x. (u x).faulty; equal = λ x. (u x).equal }

abbrev said_from : Option Bool → Option Bool → Bool → NodeMarks
said_from good faulty rest = record { good = good; faulty = faulty; equal = both_known_same good faulty || rest }

abbrev said : Net → Fault → (ℕ → Option Bool) → Marking → ℕ → NodeMarks
said net fault known m x = said_from
    (node_forward (node_at net x) (known x) (map m.good (drivers_of net x)))
    (node_forward (node_at net x) (known x) (faulty_reads net fault Some m.faulty x))
    (if nat_eq x fault.gate.0 then is_idle net fault m.good else list_all m.equal (drivers_of net x))

said_read : (net : Net) (fault : Fault) (known : ℕ → Option Bool) (m : Marking) (x : ℕ) → IsReadAt net fault known m x (said net fault known m x)
said_read net fault known m x = record { good = refl; faulty = refl; equal = refl }

-- only one thing is said of it
read_once : (net : Net) (fault : Fault) (known : ℕ → Option Bool) (m : Marking) (x : ℕ) (r s : NodeMarks) → IsReadAt net fault known m x r → IsReadAt net fault known m x s → r ≡ s
read_once net fault known m x r s one two =
    let good : r.good ≡ s.good = one.good ∙ sym two.good in
    let faulty : r.faulty ≡ s.faulty = one.faulty ∙ sym two.faulty in
    same_marks r s good faulty (one.equal ∙ ap (λ o. both_known_same o r.faulty || rest) good ∙ ap (λ o. both_known_same s.good o || rest) faulty ∙ sym two.equal)
  where
    rest : Bool
    rest = if nat_eq x fault.gate.0 then is_idle net fault m.good else list_all m.equal (drivers_of net x)

agree_by : (u w : ℕ → NodeMarks) (x : ℕ) → u x ≡ w x → AgreeOn (marking_by u) (marking_by w) x
agree_by u w x e = record { good = ap (λ (m : NodeMarks). m.good) e; faulty = ap (λ (m : NodeMarks). m.faulty) e; equal = ap (λ (m : NodeMarks). m.equal) e }

-- nodes of which the same is said where the same is said of their drivers
said_near : (net : Net) (fault : Fault) (known : ℕ → Option Bool) (u w : ℕ → NodeMarks) (x : ℕ) → ((p y : ℕ) → Reads net x p y → u y ≡ w y) → said net fault known (marking_by u) x ≡ said net fault known (marking_by w) x
said_near net fault known u w x h =
    read_once net fault known (marking_by w) x (said net fault known (marking_by u) x) (said net fault known (marking_by w) x)
    (read_agrees net fault known (marking_by u) (marking_by w) x (said net fault known (marking_by u) x) (λ p d reads. agree_by u w d (h p d reads)) (said_read net fault known (marking_by u) x))
    (said_read net fault known (marking_by w) x)

-- THE WHOLE NET
-- what is said of a node, looking at most n pins back
abbrev said_within : ℕ → Net → Fault → (ℕ → Option Bool) → ℕ → NodeMarks
said_within zero net fault known x = no_marks
said_within (suc n) net fault known x = said net fault known (marking_by (said_within n net fault known)) x

module _ (net : Net) (fault : Fault) (acyclic : IsAcyclic net) (known : ℕ → Option Bool) where
  within_same : (n m x : ℕ) → acyclic.0 x < n → acyclic.0 x < m → said_within n net fault known x ≡ said_within m net fault known x
  within_same zero m x h k = absurd (omega arith)
  within_same (suc n) zero x h k = absurd (omega arith)
  within_same (suc n) (suc m) x h k =
      said_near net fault known (said_within n net fault known) (said_within m net fault known) x
      (λ p y there. let below : acyclic.0 y < acyclic.0 x = acyclic.1 x p y there in within_same n m y (omega arith) (omega arith))

  whole : ℕ → NodeMarks
  whole x = said_within (suc (acyclic.0 x)) net fault known x

  whole_said : (x : ℕ) → whole x ≡ said net fault known (marking_by whole) x
  unfolding whole
  whole_said x =
      said_near net fault known (said_within (acyclic.0 x) net fault known) whole x
      (λ p y there. within_same (acyclic.0 x) (suc (acyclic.0 y)) y (acyclic.1 x p y there) (omega arith))

  whole_read : (x : ℕ) → IsReadAt net fault known (marking_by whole) x (whole x)
  whole_read x = subst (IsReadAt net fault known (marking_by whole) x) (sym (whole_said x)) (said_read net fault known (marking_by whole) x)

  whole_reading : IsForwardReading net fault known (marking_by whole)
  whole_reading = record { good = λ x. (whole_read x).good; faulty = λ x. (whole_read x).faulty; equal = λ x. (whole_read x).equal }

pub readings_exist : ReadingsExist
readings_exist net fault acyclic known = (marking_by (whole net fault acyclic known), whole_reading net fault acyclic known)

-- WHAT THE FAULT DOESN'T TOUCH
all_equal : (u : ℕ → NodeMarks) (ds : List ℕ) → ((p d : ℕ) → slice_get ds p ≡ Some d → (u d).equal ≡ true) → list_all (λ d. (u d).equal) ds ≡ true
all_equal u [] h = refl
all_equal u (d ∷ ds) h = rw (h 0 d refl) (all_equal u ds (λ p x e. h (suc p) x e))

not_different : (o : Option Bool) → both_known_different o o ≡ true → ⊥
not_different None e = cc
not_different (Some b) e = let wrong : not true ≡ true = ap not (sym (same_bool_refl b)) ∙ e in cc

plain_same : (m : NodeMarks) → IsPlain m → both_known_different m.good m.faulty ≡ true → ⊥
plain_same m plain e = not_different m.good (ap (both_known_different m.good) (sym plain.same) ∙ e)

module _ (net : Net) (fault : Fault) (acyclic : IsAcyclic net) (marks : List NodeMarks) (current : IsCurrent net fault marks) where
  abbrev u : ℕ → NodeMarks
  u = whole net fault acyclic (good_at marks)

  abbrev IsSame : ℕ → Type 0
  IsSame x = IsConcerned net fault x → mark_at marks x ≡ u x

  same_step : (y : ℕ) → ((p x : ℕ) → Reads net y p x → IsSame x) → IsSame y
  same_step y before concerned = elim (current y) [
    | inr out ↦ absurd (out.0 concerned)
    | inl in' ↦
        read_once net fault (good_at marks) (marking_by u) y (mark_at marks y) (u y)
        (read_agrees net fault (good_at marks) (marking marks) (marking_by u) y (mark_at marks y)
        (λ p d reads. agree_by (mark_at marks) u d (before p d reads (inr (driver_of_concerned net fault y p d reads concerned)))) in'.1)
        (whole_read net fault acyclic (good_at marks) y)
  ]

  same : (x : ℕ) → IsSame x
  same = along_pins net acyclic IsSame same_step

  abbrev PlainOutside : ℕ → Type 0
  PlainOutside x = (IsTouched net fault.gate.0 x → ⊥) → IsPlain (u x)

  plain_step : (y : ℕ) → ((p x : ℕ) → Reads net y p x → PlainOutside x) → PlainOutside y
  plain_step y before none = record { same = faulty; equal = equal }
    where
      elsewhere : y ≢ fault.gate.0
      elsewhere is = none (inl is)

      driver : (p d : ℕ) → Reads net y p d → IsPlain (u d)
      driver p d reads = before p d reads (λ touched. none (touched_next net fault.gate.0 y p d reads touched))

      faulty : (u y).faulty ≡ (u y).good
      faulty =
          (whole_read net fault acyclic (good_at marks) y).faulty
          ∙ ap (node_forward (node_at net y) (good_at marks y)) (reads_elsewhere net fault Some (λ x. (u x).faulty) y elsewhere ∙ map_agree (λ x. (u x).faulty) (λ x. (u x).good) (drivers_of net y) (λ p d e. (driver p d e).same))
          ∙ sym (whole_read net fault acyclic (good_at marks) y).good

      rest : (if nat_eq y fault.gate.0 then is_idle net fault (λ x. (u x).good) else list_all (λ x. (u x).equal) (drivers_of net y)) ≡ true
      rest = rw (ne_eqb y fault.gate.0 elsewhere) (all_equal u (drivers_of net y) (λ p d e. (driver p d e).equal))

      equal : (u y).equal ≡ true
      equal = (whole_read net fault acyclic (good_at marks) y).equal ∙ ap (λ b. both_known_same (u y).good (u y).faulty || b) rest ∙ or-true (both_known_same (u y).good (u y).faulty)

  plain_outside : (x : ℕ) → PlainOutside x
  plain_outside = along_pins net acyclic PlainOutside plain_step

  detected_there : MarksDetected net (marking marks) → MarksDetected net (marking_by u)
  detected_there (x, (observed, e)) = elim (current x) [
    | inl in' ↦ (x, (observed, subst (λ (m : NodeMarks). both_known_different m.good m.faulty ≡ true) (same x in'.0) e))
    | inr out ↦ absurd (plain_same (mark_at marks x) out.1 e)
  ]

  detected_here : MarksDetected net (marking_by u) → MarksDetected net (marking marks)
  detected_here (x, (observed, e)) = elim (current x) [
    | inl in' ↦ (x, (observed, subst (λ (m : NodeMarks). both_known_different m.good m.faulty ≡ true) (sym (same x in'.0)) e))
    | inr out ↦ absurd (plain_same (u x) (plain_outside x (λ touched. out.0 (inl touched))) e)
  ]

  quiet_there : MarksQuiet net (marking marks) → MarksQuiet net (marking_by u)
  quiet_there quiet x observed = elim (current x) [
    | inl in' ↦ ap (λ (m : NodeMarks). m.equal) (sym (same x in'.0)) ∙ quiet x observed
    | inr out ↦ (plain_outside x (λ touched. out.0 (inl touched))).equal
  ]

  quiet_here : MarksQuiet net (marking_by u) → MarksQuiet net (marking marks)
  quiet_here quiet x observed = elim (current x) [
    | inl in' ↦ ap (λ (m : NodeMarks). m.equal) (same x in'.0) ∙ quiet x observed
    | inr out ↦ out.1.equal
  ]

  decides : IsWhole net fault marks (marking_by u)
  decides = record {
    reading = whole_reading net fault acyclic (good_at marks);
    agree = λ x concerned. agree_by (mark_at marks) u x (same x concerned);
    detected = (detected_there, detected_here);
    quiet = (quiet_there, quiet_here);
  }

pub regions_decide : RegionsDecide
regions_decide net fault acyclic marks current = (marking_by (whole net fault acyclic (good_at marks)), decides net fault acyclic marks current)
