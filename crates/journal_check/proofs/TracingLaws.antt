-- Following a fault in a lane.
use Rattle.std.proofs.Common.{◌≡◌, ◌≢◌, ◌<◌, ◌↔◌, ◌∙◌, ℕ, zero, suc, Bool, true, false, not, IsTrue, List, [], ◌∷◌, Option, Some, None, drop, map, ap, arith, inl, inr, refl, sym, subst}
use Rattle.std.proofs.lemmas.Bool.Decides.{eqb_tells}
use Rattle.std.specs.Prelude.{bit_or, if◌then◌else◌, nat_eq, slice_get, slice_index, slice_set}
use Rattle.rm_base.proofs.Public.{map_at, set_other, set_there, some_is, some_same}
use Rattle.gate_graph.specs.Circuit.{Circuit, fanouts_of, net_of}
use Rattle.gate_graph.specs.Readers.{ListReaders}
use Rattle.gate_net.specs.Meaning.{junction, parity, turned}
use Rattle.gate_net.specs.Net.{IsAcyclic, IsLive, IsObserved, Net, Node, Reads, drivers_in, drivers_of, node_at}
use Rattle.gate_net.specs.Values.{AreGoodValues, Detects}
use Rattle.gate_net.proofs.Public.{same_bool_true}
use mathlib.Core.Bool.{beq}
use Rattle.refutation.proofs.Public.{beq_same}
use Rattle.rm_base.specs.declared.numbers.Fault.{Fault}
use Rattle.journal_check.specs.Inner.Tracing.{AddsShown, AreShown, IsOnlyPin, IsShown, PassageSays, stuck_value}
use Rattle.journal_check.specs.declared.tracing.Passage.TheVariants.{Passed, Told}
use Rattle.journal_check.proofs.PassingLaws.{detected_shown, passed, passed_back, unchanged_hidden}
use Rattle.fault_sim.specs.Words.{assignment, lane}
use Rattle.std.proofs.lemmas.Nat.Bits.{bit_at-lt, bit_at_or}
use Rattle.std.specs.Int.{bit_at}
use Rattle.std.proofs.lemmas.Bool.{or_cases}
use Rattle.std.proofs.Common.{get_or-set_other, get_or-set_same, max, length, ◌+◌, ◌||◌}

-- what is read at a pin where one is stuck
pub stuck_pin : (v : ℕ → Bool) (ds : List ℕ) (p : ℕ) (b : Bool) (q d : ℕ) → slice_get ds q ≡ Some d → slice_get (slice_set (map v ds) p b) q ≡ Some (if nat_eq q p then b else v d)
stuck_pin v ds p b q d e = elim (eqb_tells q p) [
  | inl t ↦ rw (t.0, t.1) (set_there (map v ds) p (v d) b (map_at v ds p d (rw t.1 at e)))
  | inr t ↦ rw t.0 (set_other (map v ds) p q b t.1 ∙ map_at v ds q d e)
]

-- where no pin has the controlling value
pub none_controls : (c : Bool) (bs : List Bool) → ((k : ℕ) → slice_get bs k ≡ Some c → ⊥) → junction c bs ≡ not c
none_controls c [] h = refl
none_controls true (true ∷ bs) h = absurd (h 0 refl)
none_controls true (false ∷ bs) h = none_controls true bs (λ k e. h (suc k) e)
none_controls false (true ∷ bs) h = none_controls false bs (λ k e. h (suc k) e)
none_controls false (false ∷ bs) h = absurd (h 0 refl)

-- the parity of what is read from a place on
pub parity_at : (bs : List Bool) (q r : ℕ) (b value : Bool) → r ≡ q + 1 → slice_get bs q ≡ Some b → parity value (drop q bs) ≡ parity (turned b value) (drop r bs)
parity_at [] q r b value is e = cc
parity_at (x ∷ bs) zero zero b value is e = absurd (omega (arith, is))
parity_at (x ∷ bs) zero (suc zero) b value is e = ap (λ (c : Bool). parity (turned c value) bs) (some_same e)
parity_at (x ∷ bs) zero (suc (suc r)) b value is e = absurd (omega (arith, is))
parity_at (x ∷ bs) (suc q) zero b value is e = absurd (omega (arith, is))
parity_at (x ∷ bs) (suc q) (suc r) b value is e = parity_at bs q r b value (omega (arith, is)) e

pub turned_is : (b value : Bool) → turned b value ≡ not (beq value b)
turned_is true true = refl
turned_is true false = refl
turned_is false true = refl
turned_is false false = refl

-- behind the last
pub parity_end : (bs : List Bool) (n : ℕ) (value : Bool) → ((k : ℕ) (b : Bool) → slice_get bs k ≡ Some b → k < n) → parity value (drop n bs) ≡ value
parity_end [] zero value h = refl
parity_end [] (suc n) value h = refl
parity_end (b ∷ bs) zero value h = absurd (let bad : 0 < 0 = h 0 b refl in omega (arith, bad))
parity_end (b ∷ bs) (suc n) value h = parity_end bs n value (λ k c e. let less : suc k < suc n = h (suc k) c e in omega (arith, less))

-- a node of which one pin is listed as reader
pub one_pin : (g : Circuit) (x : ℕ) (place : ℕ × ℕ) → ListReaders g → fanouts_of g x ≡ place ∷ [] → (IsObserved (net_of g) x → ⊥) → IsOnlyPin (net_of g) x place.0 place.1
one_pin g x place list one unobserved = record {
  reads = list.reads x 0 place (ap (λ (ps : List (ℕ × ℕ)). slice_get ps 0) one);
  only = λ z p reads. (here z p reads).0;
  once = λ p reads. (here place.0 p reads).1;
  unobserved = unobserved;
}
  where
    same : (y p k : ℕ) → slice_get (place ∷ []) k ≡ Some (y, p) → (y ≡ place.0) × (p ≡ place.1)
    same y p zero e = let h : place ≡ (y, p) = some_is place (y, p) e in (ap (λ (q : ℕ × ℕ). q.0) (sym h), ap (λ (q : ℕ × ℕ). q.1) (sym h))
    same y p (suc k) e = absurd (cc)

    here : (y p : ℕ) → Reads (net_of g) y p x → (y ≡ place.0) × (p ≡ place.1)
    here y p reads = let at = list.all x (y, p) reads in same y p at.0 (ap (λ (ps : List (ℕ × ℕ)). slice_get ps at.0) (sym one) ∙ at.1)

pub same_value : (b c : Bool) → beq b c ≡ true → b ≡ c
same_value b c e = same_bool_true b c (sym (beq_same b c) ∙ e)

pub different_value : (b c : Bool) → beq b c ≡ false → b ≢ c
different_value true true e same = cc
different_value true false e same = cc
different_value false true e same = cc
different_value false false e same = cc

-- one more pin that hasn't the controlling value
pub none_more : (bs : List Bool) (c b : Bool) (q : ℕ) → ((k : ℕ) → k < q → slice_get bs k ≡ Some c → ⊥) → slice_get bs q ≡ Some b → b ≢ c → (k : ℕ) → k < q + 1 → slice_get bs k ≡ Some c → ⊥
none_more bs c b q none there ne k less e = elim (eqb_tells k q) [
  | inl t ↦ ne (let is : Some b ≡ Some c = sym there ∙ ap (slice_get bs) (sym t.1) ∙ e in cc)
  | inr t ↦ let far : k ≢ q = t.1 in none k (omega arith) e
]

-- a node with a pin is live
pub pin_live : (net : Net) (x p d : ℕ) → Reads net x p d → IsLive net x
pin_live net x p d reads = at (node_at net x) refl reads
  where
    at : (o : Option Node) → node_at net x ≡ o → slice_get (drivers_of net x) p ≡ Some d → IsLive net x
    at None is r = let none : slice_get {X = ℕ} [] p ≡ Some d = rw (ap drivers_in is) at r in cc
    at (Some n) is r = (n.kind, (n.drivers, is))

-- what becomes of a fault whose gate stays as it is, whose gate is known to be seen, or goes on at the one pin
pub told_hidden : (net : Net) (a v : ℕ → Bool) (fault : Fault) → IsAcyclic net → AreGoodValues net a v → stuck_value net fault a v ≡ v fault.gate.0 → PassageSays net a fault (Told false)
told_hidden net a v fault acyclic good same = (λ t. absurd (let bad : false ≡ true = t in cc), λ d. absurd (unchanged_hidden net acyclic a v good fault same d))

pub told_shown : (net : Net) (a v : ℕ → Bool) (fault : Fault) → AreGoodValues net a v → IsShown net a fault.gate.0 → stuck_value net fault a v ≢ v fault.gate.0 → PassageSays net a fault (Told true)
told_shown net a v fault good shown changes = (λ t. shown v good fault refl changes, λ d. refl)

pub passed_on : (net : Net) (a v : ℕ → Bool) (fault next : Fault) → IsAcyclic net → AreGoodValues net a v → stuck_value net fault a v ≢ v fault.gate.0
    → IsOnlyPin net fault.gate.0 next.gate.0 next.position → next.value ≡ not (v fault.gate.0) → PassageSays net a fault (Passed next)
passed_on net a v fault next acyclic good changes only value =
    ((fault.gate.0, only.reads), (passed net acyclic a v good fault next only value changes, passed_back net acyclic a v good fault next only value changes))

bit_cases : (P : ℕ → Type 0) → P 0 → P 1 → (n i : ℕ) → P (bit_at n i)
bit_cases P p q n i = at (bit_at n i) (bit_at-lt n i)
  where
    at : (b : ℕ) → b < 2 → P b
    at zero h = p
    at (suc zero) h = q
    at (suc (suc b)) h = absurd (omega arith)

lane_or : (i a b : ℕ) → lane i (bit_or a b) ≡ (lane i a || lane i b)
lane_or i a b =
    ap (λ (n : ℕ). nat_eq n 1) (bit_at_or a b i)
    ∙ bit_cases (λ m. nat_eq (max m (bit_at b i)) 1 ≡ (nat_eq m 1 || nat_eq (bit_at b i) 1)) (bit_cases (λ n. nat_eq (max 0 n) 1 ≡ (nat_eq 0 1 || nat_eq n 1)) refl refl b i) (bit_cases (λ n. nat_eq (max 1 n) 1 ≡ (nat_eq 1 1 || nat_eq n 1)) refl refl b i) a i

-- more lanes are noted of a node
pub adds_shown : (old : List ℕ) (x lanes : ℕ) → x < length old → AddsShown old x lanes (slice_set old x (bit_or (slice_index old x) lanes))
adds_shown old x lanes within y i is = elim (eqb_tells y x) [
  | inl t ↦ elim (or_cases (lane i (slice_index old x)) (lane i lanes) (sym (lane_or i (slice_index old x) lanes) ∙ (ap (lane i) (sym (get_or-set_same old x (bit_or (slice_index old x) lanes) 0 within)) ∙ subst (λ (z : ℕ). IsTrue (lane i (slice_index (slice_set old x (bit_or (slice_index old x) lanes)) z))) t.1 is))) [
    | inl before ↦ inl (subst (λ (z : ℕ). IsTrue (lane i (slice_index old z))) (sym t.1) before)
    | inr new ↦ inr (t.1, new)
  ]
  | inr t ↦ inl (ap (lane i) (sym (get_or-set_other old x y (bit_or (slice_index old x) lanes) 0 t.1)) ∙ is)
]

-- what detects a fault of a gate shows its changes
pub still_shown : (net : Net) (words old new : List ℕ) (fault : Fault) (found : ℕ) (good : List ℕ) → IsAcyclic net → ((i : ℕ) → i < 64 → AreGoodValues net (assignment words i) (λ x. lane i (slice_index good x)))
    → ((i : ℕ) → i < 64 → IsTrue (lane i found) ↔ Detects net fault (assignment words i)) → AddsShown old fault.gate.0 found new → AreShown net words old → AreShown net words new
still_shown net words old new fault found good acyclic values tells adds shown x i h is = elim (adds x i is) [
  | inl before ↦ shown x i h before
  | inr here ↦ subst (λ (z : ℕ). IsShown net (assignment words i) z) (sym here.0) (detected_shown net acyclic (assignment words i) (λ x. lane i (slice_index good x)) (values i h) fault ((tells i h).0 here.1))
]

-- what is read stands at one of the pins
pub read_within : (v : ℕ → Bool) (ds : List ℕ) (p : ℕ) (b : Bool) (k : ℕ) (c : Bool) → slice_get (slice_set (map v ds) p b) k ≡ Some c → k < length ds
read_within v [] p b k c e = absurd (cc)
read_within v (d ∷ ds) p b zero c e = omega arith
read_within v (d ∷ ds) zero b (suc k) c e = let less : k < length ds = unset v ds k c e in omega arith
  where
    unset : (w : ℕ → Bool) (xs : List ℕ) (i : ℕ) (x : Bool) → slice_get (map w xs) i ≡ Some x → i < length xs
    unset w [] i x h = absurd (cc)
    unset w (y ∷ xs) zero x h = omega arith
    unset w (y ∷ xs) (suc i) x h = let less : i < length xs = unset w xs i x h in omega arith
read_within v (d ∷ ds) (suc p) b (suc k) c e = let less : k < length ds = read_within v ds p b k c e in omega arith
