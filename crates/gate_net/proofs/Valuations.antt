-- There is one valuation, and only one.
use Rattle.std.proofs.Common.{Bool, List, ap, arith, false, map, suc, sym, zero, ℕ, ◌<◌, ◌∙◌, ◌≡◌}
use Rattle.gate_net.proofs.AlongPins.{along_pins, reads_agree}
use Rattle.gate_net.specs.Laws.{FaultyValuesExist, ValuesExist}
use Rattle.gate_net.specs.Net.{IsAcyclic, Net, Reads, drivers_of, node_at}
use Rattle.gate_net.specs.Values.{AreFaultyValues, AreGoodValues, faulty_reads, node_value}
use Rattle.rm_base.specs.declared.numbers.Fault.{Fault}
use Rattle.rm_base.proofs.Public.{map_agree}

-- what each node reads, given a value of every node
abbrev pub Reading : Type 0
Reading = (ℕ → Bool) → ℕ → List Bool

-- a node reads the same where its drivers have the same values
abbrev pub IsLocal : Net → Reading → Type 0
IsLocal net reads = (u w : ℕ → Bool) (x : ℕ) → ((p y : ℕ) → Reads net x p y → u y ≡ w y) → reads u x ≡ reads w x

abbrev pub AreValues : Net → Reading → (ℕ → Bool) → (ℕ → Bool) → Type 0
AreValues net reads a v = (x : ℕ) → v x ≡ node_value (node_at net x) (a x) (reads v x)

-- the value of a node, looking at most n pins back
abbrev pub value_within : ℕ → Net → Reading → (ℕ → Bool) → ℕ → Bool
value_within zero net reads a x = false
value_within (suc n) net reads a x = node_value (node_at net x) (a x) (reads (value_within n net reads a) x)

module _ (net : Net) (reads : Reading) (near : IsLocal net reads) (acyclic : IsAcyclic net) (a : ℕ → Bool) where
  pub unique : (v w : ℕ → Bool) → AreValues net reads a v → AreValues net reads a w → (x : ℕ) → v x ≡ w x
  unique v w right right' =
      along_pins net acyclic (λ x. v x ≡ w x) (λ y h. right y ∙ ap (node_value (node_at net y) (a y)) (near v w y h) ∙ sym (right' y))

  within_same : (n m x : ℕ) → acyclic.0 x < n → acyclic.0 x < m → value_within n net reads a x ≡ value_within m net reads a x
  within_same zero m x h k = absurd (omega arith)
  within_same (suc n) zero x h k = absurd (omega arith)
  within_same (suc n) (suc m) x h k =
      ap (node_value (node_at net x) (a x)) (near (value_within n net reads a) (value_within m net reads a) x
      (λ p y there. let below : acyclic.0 y < acyclic.0 x = acyclic.1 x p y there in within_same n m y (omega arith) (omega arith)))

  pub values_of : ℕ → Bool
  values_of x = value_within (suc (acyclic.0 x)) net reads a x

  pub values_right : AreValues net reads a values_of
  unfolding values_of
  values_right x =
      ap (node_value (node_at net x) (a x)) (near (value_within (acyclic.0 x) net reads a) values_of x
      (λ p y there. within_same (acyclic.0 x) (suc (acyclic.0 y)) y (acyclic.1 x p y there) (omega arith)))

abbrev good_reads : Net → Reading
good_reads net v x = map v (drivers_of net x)

abbrev bad_reads : Net → Fault → Reading
bad_reads net fault f x = faulty_reads net fault (λ b. b) f x

good_local : (net : Net) → IsLocal net (good_reads net)
good_local net u w x h = map_agree u w (drivers_of net x) h

bad_local : (net : Net) (fault : Fault) → IsLocal net (bad_reads net fault)
bad_local net fault u w x h = reads_agree net fault (λ b. b) u w x h

pub values_unique : (net : Net) → IsAcyclic net → (a v w : ℕ → Bool) → AreGoodValues net a v → AreGoodValues net a w → (x : ℕ) → v x ≡ w x
values_unique net acyclic a v w = unique net (good_reads net) (good_local net) acyclic a v w

pub faulty_unique : (net : Net) (fault : Fault) → IsAcyclic net → (a v w : ℕ → Bool) → AreFaultyValues net fault a v → AreFaultyValues net fault a w → (x : ℕ) → v x ≡ w x
faulty_unique net fault acyclic a v w = unique net (bad_reads net fault) (bad_local net fault) acyclic a v w

pub values_exist : ValuesExist
values_exist net acyclic a =
    let right : AreGoodValues net a (values_of net (good_reads net) (good_local net) acyclic a) = values_right net (good_reads net) (good_local net) acyclic a in
    (values_of net (good_reads net) (good_local net) acyclic a, (right, λ w good. values_unique net acyclic a (values_of net (good_reads net) (good_local net) acyclic a) w right good))

pub faulty_values_exist : FaultyValuesExist
faulty_values_exist net fault acyclic a =
    let right : AreFaultyValues net fault a (values_of net (bad_reads net fault) (bad_local net fault) acyclic a) = values_right net (bad_reads net fault) (bad_local net fault) acyclic a in
    (values_of net (bad_reads net fault) (bad_local net fault) acyclic a, (right, λ w bad. faulty_unique net fault acyclic a (values_of net (bad_reads net fault) (bad_local net fault) acyclic a) w right bad))
