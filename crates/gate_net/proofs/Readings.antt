-- Forward reading is right, and there is only one.
use Rattle.std.proofs.Common.{Bool, List, None, Option, Some, [], ap, false, inl, inr, map, refl, suc, sym, true, zero, ℕ, ◌∙◌, ◌∷◌, ◌≡◌}
use Rattle.std.proofs.lemmas.Bool.Decides.{eqb_tells}
use Rattle.std.specs.List.{list_all}
use Rattle.std.specs.Option.{option_map_or}
use Rattle.std.specs.Prelude.{if◌then◌else◌, nat_eq, slice_get}
use Rattle.std.proofs.lemmas.Bool.{and_parts, or_cases}
use Rattle.gate_net.proofs.AlongPins.{along_pins, reads_agree}
use Rattle.gate_net.proofs.Bools.{same_bool_true}
use Rattle.gate_net.proofs.Follows.{approximates_map, approximates_set, family_forward_right, is_known_true}
use Rattle.gate_net.proofs.Spread.{same_elsewhere, same_idle}
use Rattle.gate_net.specs.Forward.{Completes, IsForwardReading, IsTrueAt, Marking, ReadingsAgree, ReadingsHold, both_known_same, equal_forward, is_idle, is_known, known_forward, node_forward}
use Rattle.gate_net.specs.Net.{IsAcyclic, Net, Node, Reads, drivers_of, node_at}
use Rattle.gate_net.specs.Values.{IsRun, family, family_value, faulty_reads, node_value}
use Rattle.gate_net.specs.declared.Family.{Family}
use Rattle.gate_net.specs.declared.Family.TheVariants.{Constant, Input, Junction, Parity}
use Rattle.gate_net.specs.declared.Kind.{Kind}
use Rattle.gate_net.specs.declared.Kind.TheVariants.{And, Not, One, Or, Source, Xor, Zero}
use Rattle.rm_base.specs.declared.numbers.Fault.{Fault}
use Rattle.rm_base.proofs.Public.{map_agree, some_same}
use Rattle.gate_net.specs.Inner.Stays.{Approximates}

pub list_all_at : (test : ℕ → Bool) (ds : List ℕ) → list_all test ds ≡ true → (p x : ℕ) → slice_get ds p ≡ Some x → test x ≡ true
list_all_at test [] e p x there = cc
list_all_at test (d ∷ ds) e zero x there = let same : d ≡ x = cc in rw (← same) ((and_parts (test d) (list_all test ds) e).0)
list_all_at test (d ∷ ds) e (suc p) x there = list_all_at test ds (and_parts (test d) (list_all test ds) e).1 p x there

family_known : (family : Family) (known : Option Bool) (assigned c : Bool) (os : List (Option Bool)) (bs : List Bool) → Approximates os bs → ((b : Bool) → family ≡ Input → known ≡ Some b → assigned ≡ b) → known_forward family known os ≡ Some c → family_value family assigned bs ≡ c
family_known Input known assigned c os bs h k e = k c refl e
family_known (Constant b) known assigned c os bs h k e = some_same e
family_known (Junction d) known assigned c os bs h k e = family_forward_right (Junction d) c assigned os bs h e
family_known (Parity i) known assigned c os bs h k e = family_forward_right (Parity i) c assigned os bs h e

-- sources alone are assigned
source_is : (kind : Kind) → family kind ≡ Input → kind ≡ Source
source_is Source e = refl
source_is Zero e = cc
source_is One e = cc
source_is And e = cc
source_is Or e = cc
source_is Not e = cc
source_is Xor e = cc

node_forward_right : (net : Net) (known : ℕ → Option Bool) (a : ℕ → Bool) → Completes net known a → (x : ℕ) (c : Bool) (os : List (Option Bool)) (bs : List Bool) (o : Option Node) → node_at net x ≡ o → Approximates os bs → node_forward o (known x) os ≡ Some c → node_value o (a x) bs ≡ c
node_forward_right net known a completes x c os bs None is h e = cc
node_forward_right net known a completes x c os bs (Some n) is h e =
    family_known (family n.kind) (known x) (a x) c os bs h (λ b source k. completes x b (n.drivers, is ∙ ap (λ kind. Some (record { kind = kind; drivers = n.drivers })) (source_is n.kind source)) k) e

pub both_known : (o u : Option Bool) (b c : Bool) → both_known_same o u ≡ true → (d : Bool) × ((o ≡ Some d) × (u ≡ Some d))
both_known None None b c e = cc
both_known None (Some y) b c e = cc
both_known (Some x) None b c e = cc
both_known (Some x) (Some y) b c e = (x, (refl, ap Some (sym (same_bool_true x y e))))

module _ (net : Net) (fault : Fault) (a v f : ℕ → Bool) (run : IsRun net fault a v f) (acyclic : IsAcyclic net) (known : ℕ → Option Bool) (completes : Completes net known a) (m : Marking) (reading : IsForwardReading net fault known m) where
  module _ (y : ℕ) (before : (p x : ℕ) → Reads net y p x → IsTrueAt m v f x) where
    good_step : (c : Bool) → m.good y ≡ Some c → v y ≡ c
    good_step c e = run.good y ∙ node_forward_right net known a completes y c (map m.good (drivers_of net y)) (map v (drivers_of net y)) (node_at net y) refl
        (approximates_map m.good v (drivers_of net y) (λ p x there c e. (before p x there).good c e))
        (sym (reading.good y) ∙ e)

    faulty_approximates : Approximates (faulty_reads net fault Some m.faulty y) (faulty_reads net fault (λ b. b) f y)
    faulty_approximates = elim (eqb_tells y fault.gate.0) [
      | inl t ↦ rw (t.0) (approximates_set (map m.faulty (drivers_of net y)) (map f (drivers_of net y)) fault.position fault.value (approximates_map m.faulty f (drivers_of net y) (λ p x there c e. (before p x there).faulty c e)))
      | inr t ↦ rw (t.0) (approximates_map m.faulty f (drivers_of net y) (λ p x there c e. (before p x there).faulty c e))
    ]

    faulty_step : (c : Bool) → m.faulty y ≡ Some c → f y ≡ c
    faulty_step c e = run.faulty y ∙ node_forward_right net known a completes y c (faulty_reads net fault Some m.faulty y) (faulty_reads net fault (λ b. b) f y) (node_at net y) refl
        faulty_approximates
        (sym (reading.faulty y) ∙ e)

    idle_step : (o : Option ℕ) → slice_get (drivers_of net fault.gate.0) fault.position ≡ o → y ≡ fault.gate.0 → option_map_or (λ d. is_known fault.value (m.good d)) o false ≡ true → v y ≡ f y
    idle_step None there is e = cc
    idle_step (Some d) there is e =
        same_idle net fault a v f run acyclic d there ((before fault.position d (rw is there)).good fault.value (is_known_true fault.value (m.good d) e)) y

    equal_step : m.equal y ≡ true → v y ≡ f y
    equal_step e = elim (or_cases (both_known_same (m.good y) (m.faulty y)) (if nat_eq y fault.gate.0 then is_idle net fault m.good else list_all m.equal (drivers_of net y)) (sym (reading.equal y) ∙ e)) [
      | inl same ↦ let both : (d : Bool) × ((m.good y ≡ Some d) × (m.faulty y ≡ Some d)) = both_known (m.good y) (m.faulty y) true true same in good_step both.0 both.1.0 ∙ sym (faulty_step both.0 both.1.1)
      | inr other ↦ elim (eqb_tells y fault.gate.0) [
        | inl t ↦ idle_step (slice_get (drivers_of net fault.gate.0) fault.position) refl t.1 (rw t.0 at other)
        | inr t ↦ same_elsewhere net fault a v f run y t.1 (λ p x there. (before p x there).equal (list_all_at m.equal (drivers_of net y) (rw t.0 at other) p x there))
      ]
    ]

  reading_right : (x : ℕ) → IsTrueAt m v f x
  reading_right = along_pins net acyclic (IsTrueAt m v f) (λ y before. record { good = good_step y before; faulty = faulty_step y before; equal = equal_step y before })

pub readings_hold : ReadingsHold
readings_hold net fault acyclic known m reading a v f completes run = reading_right net fault a v f run acyclic known completes m reading

-- ONLY ONE
pub list_all_agree : (test other : ℕ → Bool) (ds : List ℕ) → ((p x : ℕ) → slice_get ds p ≡ Some x → test x ≡ other x) → list_all test ds ≡ list_all other ds
list_all_agree test other [] h = refl
list_all_agree test other (d ∷ ds) h =
    let first : test d ≡ other d = h 0 d refl in
    let rest : list_all test ds ≡ list_all other ds = list_all_agree test other ds (λ p x e. h (suc p) x e) in
    rw (first, rest) refl

module _ (net : Net) (fault : Fault) (acyclic : IsAcyclic net) (known : ℕ → Option Bool) (m n : Marking) (one : IsForwardReading net fault known m) (two : IsForwardReading net fault known n) where
  same_good : (x : ℕ) → m.good x ≡ n.good x
  same_good = along_pins net acyclic (λ x. m.good x ≡ n.good x) (λ y before. one.good y ∙ ap (node_forward (node_at net y) (known y)) (map_agree m.good n.good (drivers_of net y) before) ∙ sym (two.good y))

  same_faulty : (x : ℕ) → m.faulty x ≡ n.faulty x
  same_faulty = along_pins net acyclic (λ x. m.faulty x ≡ n.faulty x) (λ y before. one.faulty y ∙ ap (node_forward (node_at net y) (known y)) (reads_agree net fault Some m.faulty n.faulty y before) ∙ sym (two.faulty y))

  idle_agree : (o : Option ℕ) → option_map_or (λ d. is_known fault.value (m.good d)) o false ≡ option_map_or (λ d. is_known fault.value (n.good d)) o false
  idle_agree None = refl
  idle_agree (Some d) = ap (is_known fault.value) (same_good d)

  same_equal : (x : ℕ) → m.equal x ≡ n.equal x
  same_equal = along_pins net acyclic (λ x. m.equal x ≡ n.equal x) step
    where
      step : (y : ℕ) → ((p x : ℕ) → Reads net y p x → m.equal x ≡ n.equal x) → m.equal y ≡ n.equal y
      step y before =
          let g : m.good y ≡ n.good y = same_good y in
          let h : m.faulty y ≡ n.faulty y = same_faulty y in
          let i : is_idle net fault m.good ≡ is_idle net fault n.good = idle_agree (slice_get (drivers_of net fault.gate.0) fault.position) in
          let l : list_all m.equal (drivers_of net y) ≡ list_all n.equal (drivers_of net y) = list_all_agree m.equal n.equal (drivers_of net y) before in
          let e : equal_forward net fault m y ≡ equal_forward net fault n y = rw (g, h, i, l) refl in
          one.equal y ∙ e ∙ sym (two.equal y)

pub readings_agree : ReadingsAgree
readings_agree net fault acyclic known m n one two x =
    record { good = same_good net fault acyclic known m n one two x; faulty = same_faulty net fault acyclic known m n one two x; equal = same_equal net fault acyclic known m n one two x }
