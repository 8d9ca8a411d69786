-- A vector of the known sources detects.
use Rattle.std.proofs.Common.{Bool, List, None, Option, Some, [], ap, arith, false, get_or, not, refl, suc, sym, true, zero, ℕ, ◌+◌, ◌-◌, ◌<◌, ◌∙◌, ◌∷◌, ◌≡◌, ◌≢◌, ◌≤◌}
use Rattle.std.specs.Prelude.{slice_get}
use Rattle.gate_net.specs.Forward.{Completes, IsForwardReading, IsTrueAt, Marking, MarksDetected, ReadingsHold, both_known_different, is_known}
use Rattle.gate_net.specs.Laws.{FaultyValuesExist, ValuesExist}
use Rattle.gate_net.specs.Net.{IsWellFormed, Net, source_count}
use Rattle.gate_net.specs.Values.{AreFaultyValues, AreGoodValues, same_bool}
use Rattle.gate_net.specs.Faults.{IsTest, assigned}
use Rattle.podem.specs.Verdicts.{IsVectorOf}
use Rattle.rm_base.specs.declared.numbers.Fault.{Fault}
use Rattle.ternary_sim.specs.Marks.{good_at}
use Rattle.ternary_sim.specs.declared.marks.NodeMarks.{NodeMarks}

bit_at : (bits : List Bool) (k : ℕ) (b : Bool) → slice_get bits k ≡ Some b → get_or bits k false ≡ b
bit_at [] k b e = cc
bit_at (x ∷ bits) zero b e = let same : x ≡ b = cc in same
bit_at (x ∷ bits) (suc k) b e = bit_at bits k b e

known_true : (o : Option Bool) (b : Bool) → o ≡ Some b → is_known true o ≡ b
known_true o b e = rw e (at b)
  where
    at : (b : Bool) → is_known true (Some b) ≡ b
    at true = refl
    at false = refl

different : (o u : Option Bool) → both_known_different o u ≡ true → (b : Bool) × ((c : Bool) × ((o ≡ Some b) × ((u ≡ Some c) × (b ≢ c))))
different None None e = cc
different None (Some c) e = cc
different (Some b) None e = cc
different (Some b) (Some c) e = (b, (c, (refl, (refl, λ same. at b c same e))))
  where
    at : (b c : Bool) → b ≡ c → not (same_bool b c) ≡ true → ⊥
    at true true s h = cc
    at false false s h = cc
    at true false s h = cc
    at false true s h = cc

pub is_test : (net : Net) (fault : Fault) (marks : List NodeMarks) (bits : List Bool) → IsWellFormed net → (m : Marking) → IsForwardReading net fault (good_at marks) m → MarksDetected net m → IsVectorOf net marks bits → ValuesExist → FaultyValuesExist → ReadingsHold → IsTest net fault bits
is_test net fault marks bits formed m reading (x, (observed, e)) vector good_exist faulty_exist hold = record {
  size = vector.size;
  detects = (v.0, (f.0, (record { good = v.1.0; faulty = f.1.0 }, (x, (observed, differs)))));
}
  where
    v : (v : ℕ → Bool) × (AreGoodValues net (assigned bits) v × ((w : ℕ → Bool) → AreGoodValues net (assigned bits) w → (x : ℕ) → v x ≡ w x))
    v = good_exist net formed.acyclic (assigned bits)

    f : (f : ℕ → Bool) × (AreFaultyValues net fault (assigned bits) f × ((w : ℕ → Bool) → AreFaultyValues net fault (assigned bits) w → (x : ℕ) → f x ≡ w x))
    f = faulty_exist net fault formed.acyclic (assigned bits)

    completes : Completes net (good_at marks) (assigned bits)
    completes z b source known =
        let bounds : (2 ≤ z) × (z < 2 + source_count net) = formed.sources.only z source in
        let e : 2 + (z - 2) ≡ z = omega (arith, bounds.0) in
        bit_at bits (z - 2) b (vector.values (z - 2) (omega (arith, bounds.0, bounds.1)) ∙ ap Some (known_true (good_at marks (2 + (z - 2))) b (ap (good_at marks) e ∙ known)))

    holds : IsTrueAt m v.0 f.0 x
    holds = hold net fault formed.acyclic (good_at marks) m reading (assigned bits) v.0 f.0 completes (record { good = v.1.0; faulty = f.1.0 }) x

    differs : v.0 x ≢ f.0 x
    differs same =
        let d : (b : Bool) × ((c : Bool) × ((m.good x ≡ Some b) × ((m.faulty x ≡ Some c) × (b ≢ c)))) = different (m.good x) (m.faulty x) e in
        d.1.1.1.1 (sym (holds.good d.0 d.1.1.0) ∙ same ∙ holds.faulty d.1.0 d.1.1.1.0)
