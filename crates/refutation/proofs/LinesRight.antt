-- Each line is right wherever some observed node differs.
use Rattle.std.proofs.Common.{Bool, Some, [], ap, false, inl, inr, map, not, refl, sym, true, ℕ, ◌∙◌, ◌∷◌, ◌≡◌, ◌≢◌, ◌⊎◌}
use Rattle.std.proofs.lemmas.Bool.Decides.{eqb_tells}
use Rattle.std.specs.List.{list_all}
use Rattle.std.specs.Prelude.{if◌then◌else◌, slice_get}
use Rattle.std.proofs.Math.Bool.{not-not}
use Rattle.gate_net.specs.Forward.{all_but, is_known, value_back, value_forward}
use Rattle.gate_net.proofs.Public.{approximates_map, approximates_set, controlled, not_is, opposite_of, reads_elsewhere, reads_faulty, same_bool_false, same_bool_true, same_elsewhere, same_idle, same_observed, same_outside, value_at, value_back_right, value_forward_right}
use Rattle.gate_net.specs.Net.{IsAcyclic, IsKind, Net, Reads, drivers_of}
use Rattle.gate_net.specs.Paths.{IsInChain, start}
use Rattle.gate_net.specs.Values.{IsRun, SameObserved, controlling, faulty_reads, parity, same_bool}
use Rattle.gate_net.specs.declared.Kind.{Kind}
use Rattle.gate_net.specs.declared.Kind.TheVariants.{Not, One, Zero}
use Rattle.refutation.proofs.Parities.{parity_one, parity_value}
use Rattle.refutation.proofs.Known.{all_but_known, all_known, differs_right, equal_right, facts_with, faulty_right, good_right}
use Rattle.refutation.specs.Facts.{AreTrueFacts, Held, IsTrueFact, known_equal, known_faulty, known_good}
use Rattle.refutation.specs.Laws.{LinesHold}
use Rattle.refutation.specs.Lines.{Concludes, IsParity, OneDiffers}
use Rattle.refutation.specs.declared.reasoning.Fact.{Fact}
use Rattle.refutation.specs.declared.reasoning.Fact.TheVariants.{Differs, Equal}
use Rattle.refutation.specs.declared.reasoning.Line.{Line}
use Rattle.refutation.specs.declared.reasoning.Line.TheVariants.{Act, Chain, Compare, Constant, DiffersBack, EqualForward, FaultyBack, FaultyForward, GoodBack, GoodForward, NotDiffers, NotEqual, Out, Side, Site, ToFaulty, ToGood}
use Rattle.rm_base.specs.declared.numbers.Fault.{Fault}
use Rattle.rm_base.proofs.Public.{bool_cases, map_at, never_opposite}
use Rattle.gate_net.specs.Inner.Stays.{Approximates}

module _ (net : Net) (fault : Fault) (driver : ℕ) (a v f : ℕ → Bool) (run : IsRun net fault a v f) (acyclic : IsAcyclic net) (stuck : Reads net fault.gate.0 fault.position driver) (detects : SameObserved net v f → ⊥) where
  -- what every observed node rests on differs
  must_differ : (x : ℕ) → (v x ≡ f x → SameObserved net v f) → v x ≡ not (f x)
  must_differ x h = elim (bool_cases (v x) (f x)) [ inl same ↦ absurd (detects (h same)) | inr other ↦ other ]

  chain_differs : (x : ℕ) → IsInChain net fault.gate.0 x → v x ≡ not (f x)
  chain_differs x chain = must_differ x (λ same. same_observed net fault a v f run chain.0 x chain.1 same acyclic)

  act_right : v driver ≡ not fault.value
  act_right = elim (bool_cases (v driver) fault.value) [
    | inl idle ↦ absurd (detects (λ x observed. same_idle net fault a v f run acyclic driver stuck idle x))
    | inr active ↦ active
  ]

  module _ (held : Held) (facts : AreTrueFacts v f held) where
    good_map : (x : ℕ) → Approximates (map (known_good held) (drivers_of net x)) (map v (drivers_of net x))
    good_map x = approximates_map (known_good held) v (drivers_of net x) (λ p y there c e. good_right v f held facts y c e)

    forward_right : (x : ℕ) (kind : Kind) (value : Bool) → IsKind net x kind → value_forward kind (map (known_good held) (drivers_of net x)) ≡ Some value → v x ≡ value
    forward_right x kind value is e =
        value_at net a v x kind (map v (drivers_of net x)) is (run.good x) ∙ value_forward_right kind value (a x) (map (known_good held) (drivers_of net x)) (map v (drivers_of net x)) (good_map x) e

    back_right : (y q x : ℕ) (kind : Kind) (value other : Bool) → IsKind net y kind → known_good held y ≡ Some value → value_back kind value (map (known_good held) (drivers_of net y)) q ≡ Some other → Reads net y q x → v x ≡ other
    back_right y q x kind value other is known e reads =
        value_back_right kind value other (v x) (a y) (map (known_good held) (drivers_of net y)) (map v (drivers_of net y)) q (good_map y)
        (map_at v (drivers_of net y) q x reads)
        (sym (value_at net a v y kind (map v (drivers_of net y)) is (run.good y)) ∙ good_right v f held facts y value known) e

    compare_right : (x : ℕ) (good faulty : Bool) → known_good held x ≡ Some good → known_faulty held x ≡ Some faulty → (t : Bool) → same_bool good faulty ≡ t → IsTrueFact v f x (if t then Equal else Differs)
    compare_right x good faulty g h true e = good_right v f held facts x good g ∙ same_bool_true good faulty e ∙ sym (faulty_right v f held facts x faulty h)
    compare_right x good faulty g h false e = good_right v f held facts x good g ∙ same_bool_false good faulty e ∙ ap not (sym (faulty_right v f held facts x faulty h))

    equal_forward_right : (x : ℕ) → x ≢ fault.gate.0 → list_all (is_known true) (map (known_equal held) (drivers_of net x)) ≡ true → v x ≡ f x
    equal_forward_right x ne e = same_elsewhere net fault a v f run x ne (λ p y reads. equal_right v f held facts y (all_known (known_equal held) (drivers_of net x) e p y reads))

    differs_back_right : (y q x : ℕ) → y ≢ fault.gate.0 → known_equal held y ≡ Some false → all_but (is_known true) q (map (known_equal held) (drivers_of net y)) ≡ true → Reads net y q x → v x ≡ not (f x)
    differs_back_right y q x ne differs e reads = elim (bool_cases (v x) (f x)) [
      | inr other ↦ other
      | inl same ↦ absurd (never_opposite (f y) (sym (same_elsewhere net fault a v f run y ne (each_driver same)) ∙ differs_right v f held facts y differs))
    ]
      where
        each_driver : v x ≡ f x → (p z : ℕ) → Reads net y p z → v z ≡ f z
        each_driver same p z there = elim (all_but_known (known_equal held) (drivers_of net y) q e p z there) [
          | inl at_q ↦ let there' : slice_get (drivers_of net y) q ≡ Some z = rw at_q at there in let is : z ≡ x = cc in rw is same
          | inr known ↦ equal_right v f held facts z known
        ]

    side_right : (y q x : ℕ) (kind : Kind) (c : Bool) → IsKind net y kind → controlling kind ≡ Some c → known_equal held y ≡ Some false → (((y ≡ fault.gate.0) × (q ≡ fault.position)) → ⊥) → known_equal held x ≡ Some true → Reads net y q x → v x ≡ not c
    side_right y q x kind c is control differs other equal reads = elim (bool_cases (v x) c) [
      | inr free ↦ free
      | inl same ↦ absurd (never_opposite (f y) (sym (good_c same ∙ sym (faulty_c same)) ∙ differs_right v f held facts y differs))
    ]
      where
        good_c : v x ≡ c → v y ≡ c
        good_c same = value_at net a v y kind (map v (drivers_of net y)) is (run.good y)
            ∙ controlled kind c (a y) (map v (drivers_of net y)) q control (map_at v (drivers_of net y) q x reads ∙ ap Some same)

        faulty_c : v x ≡ c → f y ≡ c
        faulty_c same = value_at net a f y kind (faulty_reads net fault (λ b. b) f y) is (run.faulty y)
            ∙ controlled kind c (a y) (faulty_reads net fault (λ b. b) f y) q control (reads_faulty net fault f y q x other reads ∙ ap Some (sym (equal_right v f held facts x equal) ∙ same))

    faulty_map : (x : ℕ) → Approximates (faulty_reads net fault Some (known_faulty held) x) (faulty_reads net fault (λ b. b) f x)
    faulty_map x = elim (eqb_tells x fault.gate.0) [
      | inl t ↦ rw t.0 (approximates_set (map (known_faulty held) (drivers_of net x)) (map f (drivers_of net x)) fault.position fault.value (approximates_map (known_faulty held) f (drivers_of net x) (λ p y there c e. faulty_right v f held facts y c e)))
      | inr t ↦ rw t.0 (approximates_map (known_faulty held) f (drivers_of net x) (λ p y there c e. faulty_right v f held facts y c e))
    ]

    faulty_forward_right : (x : ℕ) (kind : Kind) (value : Bool) → IsKind net x kind → value_forward kind (faulty_reads net fault Some (known_faulty held) x) ≡ Some value → f x ≡ value
    faulty_forward_right x kind value is e =
        value_at net a f x kind (faulty_reads net fault (λ b. b) f x) is (run.faulty x) ∙ value_forward_right kind value (a x) (faulty_reads net fault Some (known_faulty held) x) (faulty_reads net fault (λ b. b) f x) (faulty_map x) e

    faulty_back_right : (y q x : ℕ) (kind : Kind) (value other : Bool) → IsKind net y kind → known_faulty held y ≡ Some value → value_back kind value (faulty_reads net fault Some (known_faulty held) y) q ≡ Some other → (((y ≡ fault.gate.0) × (q ≡ fault.position)) → ⊥) → Reads net y q x → f x ≡ other
    faulty_back_right y q x kind value other is known e apart reads =
        value_back_right kind value other (f x) (a y) (faulty_reads net fault Some (known_faulty held) y) (faulty_reads net fault (λ b. b) f y) q (faulty_map y)
        (reads_faulty net fault f y q x apart reads)
        (sym (value_at net a f y kind (faulty_reads net fault (λ b. b) f y) is (run.faulty y)) ∙ faulty_right v f held facts y value known) e

    constant_right : (x : ℕ) (value : Bool) → IsKind net x (if value then One else Zero) → v x ≡ value
    constant_right x true is = value_at net a v x One (map v (drivers_of net x)) is (run.good x)
    constant_right x false is = value_at net a v x Zero (map v (drivers_of net x)) is (run.good x)

    to_faulty_right : (x : ℕ) (value equal : Bool) → known_good held x ≡ Some value → known_equal held x ≡ Some equal → f x ≡ same_bool equal value
    to_faulty_right x value true known e = sym (equal_right v f held facts x e) ∙ good_right v f held facts x value known
    to_faulty_right x value false known e = sym (not-not (f x)) ∙ ap not (sym (differs_right v f held facts x e) ∙ good_right v f held facts x value known)

    to_good_right : (x : ℕ) (value equal : Bool) → known_faulty held x ≡ Some value → known_equal held x ≡ Some equal → v x ≡ same_bool equal value
    to_good_right x value true known e = equal_right v f held facts x e ∙ faulty_right v f held facts x value known
    to_good_right x value false known e = differs_right v f held facts x e ∙ ap not (faulty_right v f held facts x value known)

    -- what other gates read under the fault
    faulty_elsewhere : (y : ℕ) → y ≢ fault.gate.0 → faulty_reads net fault (λ b. b) f y ≡ map f (drivers_of net y)
    faulty_elsewhere y ne = reads_elsewhere net fault (λ b. b) f y ne

    parity_differs_right : (y : ℕ) (i : Bool) → IsParity net y i → y ≢ fault.gate.0 → OneDiffers held (drivers_of net y) → v y ≡ not (f y)
    parity_differs_right y i (kind, is, inverts) ne (q, d, reads, differs, others) =
        value_at net a v y kind (map v (drivers_of net y)) is (run.good y) ∙ parity_value kind i (a y) (map v (drivers_of net y)) inverts
        ∙ parity_one i v f (drivers_of net y) q d reads (differs_right v f held facts d differs) each_other
        ∙ ap not (sym (value_at net a f y kind (faulty_reads net fault (λ b. b) f y) is (run.faulty y) ∙ parity_value kind i (a y) (faulty_reads net fault (λ b. b) f y) inverts ∙ ap (parity i) (faulty_elsewhere y ne)))
      where
        each_other : (p x : ℕ) → Reads net y p x → (p ≡ q) ⊎ (v x ≡ f x)
        each_other p x there = elim (all_but_known (known_equal held) (drivers_of net y) q others p x there) [
          | inl at_q ↦ inl at_q
          | inr known ↦ inr (equal_right v f held facts x known)
        ]

    not_equal_right : (y x : ℕ) → IsKind net y Not → y ≢ fault.gate.0 → drivers_of net y ≡ x ∷ [] → known_equal held y ≡ Some true → v x ≡ f x
    not_equal_right y x is ne one e =
        let good : v y ≡ not (v x) = opposite_of net a v y x is one run.good in
        let faulty : f y ≡ not (f x) = value_at net a f y Not (faulty_reads net fault (λ b. b) f y) is (run.faulty y) ∙ ap (parity true) (faulty_elsewhere y ne ∙ ap (map f) one) ∙ not_is (f x) in
        sym (not-not (v x)) ∙ ap not (sym good ∙ equal_right v f held facts y e ∙ faulty) ∙ not-not (f x)

    -- each line is right
    pub line_right : (line : Line) (x : ℕ) (fact : Fact) → Concludes net fault held line x fact → IsTrueFact v f x fact
    line_right Act x fact h =
        let there : Reads net fault.gate.0 fault.position x = h.0 in let is : x ≡ driver = cc in
        rw (h.1, is) act_right
    line_right Site x fact h = rw (h.1, h.0) (chain_differs fault.gate.0 ([], start))
    line_right (Chain y) x fact h = rw (h.2, h.1) (chain_differs y.0 h.0)
    line_right (Out y) x fact h = rw h.4 (same_outside net fault a v f run acyclic x h.1 h.2)
    line_right (GoodForward y) x fact h = rw h.5 (forward_right x h.0 h.1 h.2 h.3)
    line_right (GoodBack y q) x fact h = rw h.7 (back_right y.0 q x h.0 h.1 h.2 h.3 h.4 h.5 h.6)
    line_right (Compare y) x fact h = rw h.6 (compare_right x h.1 h.2 h.3 h.4 (same_bool h.1 h.2) refl)
    line_right (EqualForward y) x fact h = rw h.4 (equal_forward_right x h.1 h.2)
    line_right (DiffersBack y q) x fact h = rw h.5 (differs_back_right y.0 q x h.1 h.2 h.3 h.4)
    line_right (Side y q) x fact h = rw h.8 (side_right y.0 q x h.0 h.1 h.2 h.3 h.4 h.5 h.6 h.7)
    line_right (Constant y) x fact h = rw h.3 (constant_right x h.0 h.1)
    line_right (FaultyForward y) x fact h = rw h.5 (faulty_forward_right x h.0 h.1 h.2 h.3)
    line_right (FaultyBack y q) x fact h = rw h.8 (faulty_back_right y.0 q x h.0 h.1 h.2 h.3 h.4 h.5 h.6 h.7)
    line_right (ToFaulty y) x fact h = rw h.6 (to_faulty_right x h.1 h.2 h.3 h.4)
    line_right (ToGood y) x fact h = rw h.6 (to_good_right x h.1 h.2 h.3 h.4)
    line_right (NotDiffers y) x fact h = rw h.5 (parity_differs_right x h.0 h.1 h.2 h.3)
    line_right (NotEqual y) x fact h = rw h.4 (not_equal_right y.0 x h.0 h.1 h.3 h.2)

pub lines_hold : LinesHold
lines_hold net fault driver acyclic stuck a v f run detects held facts l x fact concludes =
    facts_with v f held x fact facts (line_right net fault driver a v f run acyclic stuck detects held facts l x fact concludes)
