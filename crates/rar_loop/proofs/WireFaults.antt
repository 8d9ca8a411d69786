-- What a vector tells of a wire that isn't there yet: where the gate's change is observed and the wire would make it, the
-- vector detects the fault at the noncontrolling value of the wire's pin.
use Rattle.std.proofs.Common.{◌≡◌, ◌≢◌, ℕ, Bool, true, false, not, inl, inr, Some, List, [], ◌∷◌, ◌++◌, length, map, refl, sym, ◌∙◌, ap, subst}
use Rattle.std.specs.Prelude.{slice_get, slice_set, nat_eq, if◌then◌else◌}
use Rattle.std.proofs.lemmas.Bool.Decides.{eqb_tells}
use Rattle.std.proofs.lemmas.Bool.{eq-eqb}
use Rattle.std.proofs.Math.Bool.{not-not}
use Rattle.rm_base.specs.declared.numbers.Fault.{Fault}
use Rattle.gate_net.proofs.Public.{controlled, gate_more, node_at-other, node_at-there, not_is, reads_elsewhere, reads_there, value_at, values_unique}
use Rattle.gate_net.specs.Net.{Net, node_at, drivers_in, drivers_of, Reads, IsLive, IsObserved, IsWellFormed}
use Rattle.gate_net.specs.Values.{AreGoodValues, AreFaultyValues, Detects, IsJunction, IsRun, faulty_reads, gate_value, node_value}
use Rattle.gate_net.specs.Edits.{with_pin, last_pin}
use Rattle.gate_net.specs.Laws.{OutsideIsEqual}
use Rattle.wire_edit.specs.Changes.{with_new_not}
use Rattle.candidate_wires.specs.declared.candidate.Candidate.{Candidate}
use Rattle.candidate_wires.specs.Gains.{least_free, net_for, with_candidate}
use Rattle.rar_loop.specs.Rows.{stuck}
use Rattle.rar_loop.specs.Inner.Trying.{MayAdd}
use Rattle.rar_loop.proofs.NewNots.{live_apart, least_dead, not_there, not_other}
use Rattle.rar_loop.proofs.Adding.{gate_of, node_of, last_same}
use Rattle.rm_base.proofs.Public.{last_stands, map_agree, map_at, map_last_set, set_there}

-- THE WIRE'S PIN
module _ (net : Net) (y z p d : ℕ) (c : Bool) (a v f : ℕ → Bool) (j : IsJunction net y c) (reads : Reads net y p d) (run : IsRun net (stuck y p c) a v f) (value : f z ≡ c) where
  abbrev after : Net
  after = with_pin net y z

  abbrev fault : Fault
  fault = last_pin net y (not c)

  abbrev ds : List ℕ
  ds = drivers_of net y

  there : node_at after y ≡ Some (record { kind = j.0; drivers = ds ++ z ∷ [] })
  there = node_at-there net y (ds ++ z ∷ []) (record { kind = j.0; drivers = j.1.0.0 }) j.1.0.1

  at_gate : f y ≡ c
  at_gate =
      value_at net a f y j.0 (faulty_reads net (stuck y p c) (λ b. b) f y) j.1.0 (run.faulty y)
      ∙ ap (gate_value j.0 (a y)) (reads_there net (stuck y p c) (λ b. b) f)
      ∙ controlled j.0 c (a y) (slice_set (map f ds) p c) p j.1.1 (set_there (map f ds) p (f d) c (map_at f ds p d reads))

  wired : node_value (node_at after y) (a y) (map f (drivers_of after y)) ≡ c
  wired =
      ap (λ o. node_value o (a y) (map f (drivers_in o))) there
      ∙ controlled j.0 c (a y) (map f (ds ++ z ∷ [])) (length ds) j.1.1 (map_at f (ds ++ z ∷ []) (length ds) z (last_stands ds z) ∙ ap (λ (b : Bool). Some b) value)

  wired_good : AreGoodValues after a f
  wired_good x = elim (eqb_tells x y) [
    | inl t ↦ rw t.1 (at_gate ∙ sym wired)
    | inr t ↦ run.faulty x ∙ ap (node_value (node_at net x) (a x)) (reads_elsewhere net (stuck y p c) (λ b. b) f x t.1)
        ∙ sym (ap (λ o. node_value o (a x) (map f (drivers_in o))) (node_at-other net y (ds ++ z ∷ []) x t.1))
  ]

  old_gate : v y ≡ node_value (node_at after y) (a y) (faulty_reads after fault (λ b. b) v y)
  old_gate =
      run.good y ∙ ap (λ o. node_value o (a y) (map v (drivers_in o))) j.1.0.1
      ∙ sym (gate_more j.0 c (a y) (map v j.1.0.0) j.1.1)
      ∙ ap (gate_value j.0 (a y)) (sym (map_last_set v j.1.0.0 z (not c))
      ∙ ap (λ xs. slice_set (map v (xs ++ z ∷ [])) (length xs) (not c)) (sym (ap drivers_in j.1.0.1))
      ∙ sym (ap (λ o. slice_set (map v (drivers_in o)) (length ds) (not c)) there)
      ∙ sym (reads_there after fault (λ b. b) v))
      ∙ ap (λ o. node_value o (a y) (faulty_reads after fault (λ b. b) v y)) (sym there)

  wired_faulty : AreFaultyValues after fault a v
  wired_faulty x = elim (eqb_tells x y) [
    | inl t ↦ rw t.1 old_gate
    | inr t ↦ run.good x ∙ sym (ap (λ o. node_value o (a x) (map v (drivers_in o))) (node_at-other net y (ds ++ z ∷ []) x t.1))
        ∙ ap (node_value (node_at after x) (a x)) (sym (reads_elsewhere after fault (λ b. b) v x t.1))
  ]

  -- what was faulty is good, and the other way round
  pub wired_run : IsRun after fault a f v
  wired_run = record { good = wired_good; faulty = wired_faulty }

-- THE NEW NOT
-- the values with the opposite of x at the new Not
abbrev with_not_value : Net → ℕ → (ℕ → Bool) → ℕ → Bool
with_not_value net x v k = if nat_eq k (least_free net) then not (v x) else v k

module _ (net : Net) (x : ℕ) (well : IsWellFormed net) (live : IsLive net x) where
  abbrev n : ℕ
  n = least_free net

  abbrev more : Net
  more = with_new_not net x

  value_new : (v : ℕ → Bool) → with_not_value net x v n ≡ not (v x)
  value_new v = let e : nat_eq n n ≡ true = eq-eqb n n refl in ap (λ (b : Bool). if b then not (v x) else v n) e

  value_old : (v : ℕ → Bool) (k : ℕ) → k ≢ n → with_not_value net x v k ≡ v k
  value_old v k ne = elim (eqb_tells k n) [ inl t ↦ absurd (ne t.1) | inr t ↦ ap (λ (b : Bool). if b then not (v x) else v k) t.0 ]

  -- no pin read the number before
  reads_same : (v : ℕ → Bool) (y : ℕ) → map (with_not_value net x v) (drivers_of net y) ≡ map v (drivers_of net y)
  reads_same v y = map_agree (with_not_value net x v) v (drivers_of net y) (λ p d reads. value_old v d (λ e. well.drivers_live y p d reads (ap (node_at net) e ∙ least_dead net)))

  not_value_of : (o : Bool) (v : ℕ → Bool) → node_value (node_at more n) o (map (with_not_value net x v) (drivers_of more n)) ≡ not (v x)
  not_value_of o v = ap (λ m. node_value m o (map (with_not_value net x v) (drivers_in m))) (not_there net x) ∙ not_is (with_not_value net x v x) ∙ ap not (value_old v x (live_apart net x live))

  not_good : (a v : ℕ → Bool) → AreGoodValues net a v → AreGoodValues more a (with_not_value net x v)
  not_good a v good k = elim (eqb_tells k n) [
    | inl t ↦ rw t.1 (value_new v ∙ sym (not_value_of (a n) v))
    | inr t ↦ value_old v k t.1 ∙ good k ∙ ap (node_value (node_at net k) (a k)) (sym (reads_same v k))
        ∙ sym (ap (λ o. node_value o (a k) (map (with_not_value net x v) (drivers_in o))) (not_other net x k t.1))
  ]

  -- a live gate reads the same with the fault
  faulty_same : (fault : Fault) (f : ℕ → Bool) (k : ℕ) → k ≢ n → faulty_reads more fault (λ b. b) (with_not_value net x f) k ≡ faulty_reads net fault (λ b. b) f k
  faulty_same fault f k ne =
      let same : map (with_not_value net x f) (drivers_of more k) ≡ map f (drivers_of net k) = ap (λ o. map (with_not_value net x f) (drivers_in o)) (not_other net x k ne) ∙ reads_same f k in
      ap (λ (bs : List Bool). if nat_eq k fault.gate.0 then slice_set bs fault.position fault.value else bs) same

  not_faulty : (fault : Fault) → IsLive net fault.gate.0 → (a f : ℕ → Bool) → AreFaultyValues net fault a f → AreFaultyValues more fault a (with_not_value net x f)
  not_faulty fault gate a f faulty k = elim (eqb_tells k n) [
    | inl t ↦ rw t.1
        (value_new f ∙ sym (not_value_of (a n) f)
        ∙ ap (node_value (node_at more n) (a n)) (sym (reads_elsewhere more fault (λ b. b) (with_not_value net x f) n (λ e. live_apart net fault.gate.0 gate (sym e)))))
    | inr t ↦ value_old f k t.1 ∙ faulty k ∙ ap (node_value (node_at net k) (a k)) (sym (faulty_same fault f k t.1))
        ∙ sym (ap (λ o. node_value o (a k) (faulty_reads more fault (λ b. b) (with_not_value net x f) k)) (not_other net x k t.1))
  ]

  pub not_run : (fault : Fault) → IsLive net fault.gate.0 → (a v f : ℕ → Bool) → IsRun net fault a v f → IsRun more fault a (with_not_value net x v) (with_not_value net x f)
  not_run fault gate a v f run = record { good = not_good a v run.good; faulty = not_faulty fault gate a f run.faulty }

  pub value_at_new : (v : ℕ → Bool) → with_not_value net x v n ≡ not (v x)
  value_at_new v = value_new v

  pub value_observed : (v : ℕ → Bool) (o : ℕ) → IsObserved net o → with_not_value net x v o ≡ v o
  value_observed v o obs = value_old v o (λ e. well.observed_live o obs (ap (node_at net) e ∙ least_dead net))

-- A CANDIDATE
pub wire_detected :
    OutsideIsEqual → (net : Net) (c : Candidate) (may : MayAdd net c) (p d : ℕ) (a w : ℕ → Bool) → IsWellFormed net → Reads net c.gate.0 p d → Detects net (stuck c.gate.0 p may.1.control) a → AreGoodValues net a w
    → w c.node.0 ≡ (if c.fresh then not may.1.control else may.1.control) → Detects (with_candidate net c) (last_pin net c.gate.0 (not may.1.control)) a
wire_detected law net c may p d a w well reads (v, (f, (run, (o, (obs, ne))))) good is = at c.fresh refl is
  where
    control : Bool
    control = may.1.control

    y : ℕ
    y = c.gate.0

    x : ℕ
    x = c.node.0

    same : f x ≡ w x
    same = sym (law net (stuck y p control) well.acyclic a v f run x may.1.apart may.1.unreached) ∙ values_unique net well.acyclic a v w run.good good x

    at : (fresh : Bool) → c.fresh ≡ fresh → w x ≡ (if fresh then not control else control) → Detects (with_candidate net c) (last_pin net y (not control)) a
    at false e value =
        let r : IsRun (with_pin net y x) (last_pin net y (not control)) a f v = wired_run net y x p d control a v f may.1.junction reads run (same ∙ value) in
        let there : Detects (with_pin net y x) (last_pin net y (not control)) a = (f, (v, (r, (o, (obs, λ g. ne (sym g)))))) in
        let is_net : with_candidate net c ≡ with_pin net y x = ap (λ (b : Bool). with_pin (if b then with_new_not net x else net) y (if b then least_free net else x)) e in
        subst (λ (n : Net). Detects n (last_pin net y (not control)) a) (sym is_net) there
    at true e value =
        let m : Net = with_new_not net x in
        let n : ℕ = least_free net in
        let live : IsLive net x = node_of net c may in
        let gate : IsLive net y = gate_of net c may in
        let v' : ℕ → Bool = with_not_value net x v in
        let f' : ℕ → Bool = with_not_value net x f in
        let r : IsRun m (stuck y p control) a v' f' = not_run net x well live (stuck y p control) gate a v f run in
        let high : f' n ≡ control = value_at_new net x well live f ∙ ap not (same ∙ value) ∙ not-not control in
        let is_junction : IsJunction m y control = (may.1.junction.0, ((may.1.junction.1.0.0, not_other net x y (live_apart net y gate) ∙ may.1.junction.1.0.1), may.1.junction.1.1)) in
        let still : Reads m y p d = ap (λ q. slice_get (drivers_in q) p) (not_other net x y (live_apart net y gate)) ∙ reads in
        let s : IsRun (with_pin m y n) (last_pin m y (not control)) a f' v' = wired_run m y n p d control a v' f' is_junction still r high in
        let apart : f' o ≢ v' o = λ g. ne (sym (value_observed net x well live v o obs) ∙ sym g ∙ value_observed net x well live f o obs) in
        let there : Detects (with_pin m y n) (last_pin m y (not control)) a = (f', (v', (s, (o, (obs, apart))))) in
        let is_net : with_candidate net c ≡ with_pin m y n = ap (λ (b : Bool). with_pin (if b then with_new_not net x else net) y (if b then least_free net else x)) e in
        let is_for : net_for net c ≡ m = ap (λ (b : Bool). if b then with_new_not net x else net) e in
        let is_fault : last_pin m y (not control) ≡ last_pin net y (not control) = ap (λ (q : Net). last_pin q y (not control)) (sym is_for) ∙ last_same net c may (not control) in
        subst (λ (q : Net). Detects q (last_pin net y (not control)) a) (sym is_net) (subst (λ (q : Fault). Detects (with_pin m y n) q a) is_fault there)
