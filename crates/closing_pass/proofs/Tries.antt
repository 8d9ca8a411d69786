-- Trying vectors one part after another, on one fault after another.
use Rattle.std.proofs.Common.{◌≡◌, ◌≢◌, ℕ, zero, suc, ◌+◌, ◌-◌, ◌<◌, ◌≤◌, ◌⊎◌, inl, inr, Bool, Option, Some, List, [], ◌∷◌, length, refl, sym, ◌∙◌, ap, subst, arith}
use Rattle.std.specs.Prelude.{slice_get, slice_set}
use Rattle.std.proofs.lemmas.Option.{slice_get_within}
use mathlib.Core.Path.{fun_ext}
use Rattle.gate_net.specs.Faults.{assigned}
use Rattle.gate_net.specs.Net.{Net, source_count}
use Rattle.gate_net.specs.Values.{Detects}
use Rattle.fault_sim.specs.Words.{assignment}
use Rattle.rm_base.specs.declared.numbers.Fault.{Fault}
use Rattle.closing_pass.specs.declared.finding.Finding.{Finding}
use Rattle.closing_pass.specs.declared.finding.Finding.TheVariants.{Detected, Open}
use Rattle.closing_pass.specs.Inner.Findings.{AreLong, HasCome, Holds, IsSought}
use Rattle.closing_pass.specs.Inner.Trying.{AreInLanes, HasTried, HasTriedBefore, HasTriedOn, IsHit, IsMissed, IsTriedAt}
use Rattle.rm_base.proofs.Public.{one_stands, set_there, some_is, stands_below}

-- whether a number comes before another
pub lt_or_le : (k n : ℕ) → (k < n) ⊎ (n ≤ k)
lt_or_le zero zero = inr (omega arith)
lt_or_le zero (suc n) = inl (omega arith)
lt_or_le (suc k) zero = inr (omega arith)
lt_or_le (suc k) (suc n) = elim (lt_or_le k n) [
  | inl lt ↦ inl (omega (arith, lt))
  | inr le ↦ inr (omega (arith, le))
]

pub set_other : {A : Type 0} (xs : List A) (p q : ℕ) (a : A) → q ≢ p → slice_get (slice_set xs p a) q ≡ slice_get xs q
set_other [] p q a ne = refl
set_other (x ∷ xs) zero zero a ne = absurd (ne refl)
set_other (x ∷ xs) zero (suc q) a ne = refl
set_other (x ∷ xs) (suc p) zero a ne = refl
set_other (x ∷ xs) (suc p) (suc q) a ne = set_other xs p q a (λ e. ne (ap suc e))

-- LANES
pub detects_lane : (net : Net) (fault : Fault) (words : List ℕ) (i : ℕ) (v : List Bool) → ((x : ℕ) → assignment words i x ≡ assigned v x) → Detects net fault (assignment words i) → Detects net fault (assigned v)
detects_lane net fault words i v same d = subst (Detects net fault) (fun_ext same) d

pub lane_detects : (net : Net) (fault : Fault) (words : List ℕ) (i : ℕ) (v : List Bool) → ((x : ℕ) → assignment words i x ≡ assigned v x) → Detects net fault (assigned v) → Detects net fault (assignment words i)
lane_detects net fault words i v same d = subst (Detects net fault) (sym (fun_ext same)) d

-- a lane that detects is a hit
pub hit_in_lane :
    (net : Net) (kept : List (List Bool)) (first count : ℕ) (fault : Fault) (words : List ℕ) (i : ℕ) → AreLong kept (source_count net) → AreInLanes kept first count words → i < count → Detects net fault (assignment words i)
    → IsHit net kept first (first + count) fault (first + i)
hit_in_lane net kept first count fault words i long packed lt d =
    let p = packed i lt in
    record {
      vector = p.0;
      there = p.1.0;
      first = omega arith;
      last = omega (arith, lt);
      test = record { size = long (first + i) p.0 p.1.0; detects = detects_lane net fault words i p.0 p.1.1 d };
    }

-- where no lane detects, no vector of them does
pub missed_in_lanes :
    (net : Net) (kept : List (List Bool)) (first count : ℕ) (fault : Fault) (words : List ℕ) → AreInLanes kept first count words → ((i : ℕ) → i < count → Detects net fault (assignment words i) → ⊥)
    → IsMissed net kept first (first + count) fault
missed_in_lanes net kept first count fault words packed none k v le lt there d =
    let p = packed (k - first) (omega (arith, le, lt)) in
    let same : first + (k - first) ≡ k = omega (arith, le) in
    let at : slice_get kept k ≡ Some p.0 = rw same at p.1.0 in
    let is : v ≡ p.0 = one_stands kept k v p.0 there at in
    none (k - first) (omega (arith, le, lt)) (lane_detects net fault words (k - first) p.0 p.1.1 (subst (λ (u : List Bool). Detects net fault (assigned u)) is d))

-- ONE FAULT AFTER ANOTHER
pub tried_start : (net : Net) (kept : List (List Bool)) (from to : ℕ) (faults : List Fault) (found : List Finding) → HasTriedBefore net kept from to faults 0 found found
tried_start net kept from to faults found = record { size = refl; each = λ j fault lt e. absurd (omega (arith, lt)); rest = λ j le. refl }

size_on : (net : Net) (kept : List (List Bool)) (from to : ℕ) (fault : Fault) (place : ℕ) (old new : List Finding) → HasTriedOn net kept from to fault place old new → length new ≡ length old
size_on net kept from to fault place old new (inl (same, missed)) = ap length same
size_on net kept from to fault place old new (inr (number, (hit, is))) = ap length is ∙ set_length old place (Detected number)
  where
    set_length : (xs : List Finding) (k : ℕ) (x : Finding) → length (slice_set xs k x) ≡ length xs
    set_length [] k x = refl
    set_length (y ∷ xs) zero x = refl
    set_length (y ∷ xs) (suc k) x = ap suc (set_length xs k x)

other_on : (net : Net) (kept : List (List Bool)) (from to : ℕ) (fault : Fault) (place : ℕ) (old new : List Finding) → HasTriedOn net kept from to fault place old new → (j : ℕ) → j ≢ place → slice_get new j ≡ slice_get old j
other_on net kept from to fault place old new (inl (same, missed)) j ne = ap (λ (xs : List Finding). slice_get xs j) same
other_on net kept from to fault place old new (inr (number, (hit, is))) j ne = ap (λ (xs : List Finding). slice_get xs j) is ∙ set_other old place j (Detected number) ne

here_on : (net : Net) (kept : List (List Bool)) (from to : ℕ) (fault : Fault) (place : ℕ) (old new : List Finding) → place < length old → HasTriedOn net kept from to fault place old new → IsTriedAt net kept from to fault (slice_get old place) (slice_get new place)
here_on net kept from to fault place old new lt (inl (same, missed)) = inl (ap (λ (xs : List Finding). slice_get xs place) same, missed)
here_on net kept from to fault place old new lt (inr (number, (hit, is))) =
    let was : (f : Finding) × (slice_get old place ≡ Some f) = stands_below old place lt in
    inr (number, (hit, ap (λ (xs : List Finding). slice_get xs place) is ∙ set_there old place was.0 (Detected number) was.1))

pub tried_more :
    (net : Net) (kept : List (List Bool)) (from to : ℕ) (faults : List Fault) (place : ℕ) (fault : Fault) (old mid new : List Finding) → slice_get faults place ≡ Some fault → place < length old
    → HasTriedBefore net kept from to faults place old mid → HasTriedOn net kept from to fault place mid new → HasTriedBefore net kept from to faults (place + 1) old new
tried_more net kept from to faults place fault old mid new is lt before on = record {
  size = size_on net kept from to fault place mid new on ∙ before.size;
  each = each;
  rest = λ j le. other_on net kept from to fault place mid new on j (λ same. absurd (omega (arith, le, same))) ∙ before.rest j (omega (arith, le));
}
  where
    each : (j : ℕ) (g : Fault) → j < place + 1 → slice_get faults j ≡ Some g → IsTriedAt net kept from to g (slice_get old j) (slice_get new j)
    each j g below there = elim (lt_or_le j place) [
      | inl less ↦ rw (other_on net kept from to fault place mid new on j (λ same. absurd (omega (arith, less, same)))) (before.each j g less there)
      | inr le ↦
          let same : j ≡ place = omega (arith, below, le) in
          let here : IsTriedAt net kept from to fault (slice_get mid place) (slice_get new place) = here_on net kept from to fault place mid new (omega (arith, lt, before.size)) on in
          let stays : slice_get mid place ≡ slice_get old place = before.rest place (omega arith) in
          let gs : g ≡ fault = one_stands faults place g fault (rw same at there) is in
          rw (same, gs) (rw stays at here)
    ]

pub tried_all : (net : Net) (kept : List (List Bool)) (from to : ℕ) (faults : List Fault) (place : ℕ) (old new : List Finding) → length faults ≤ place → HasTriedBefore net kept from to faults place old new → HasTried net kept from to faults old new
tried_all net kept from to faults place old new le before = record {
  size = before.size;
  each = λ j fault there. let lt : j < length faults = slice_get_within faults j fault there in before.each j fault (omega (arith, lt, le)) there;
}

-- ONE PART AFTER ANOTHER
pub tried_none : (net : Net) (kept : List (List Bool)) (at : ℕ) (faults : List Fault) (found : List Finding) → HasTried net kept at at faults found found
tried_none net kept at faults found = record { size = refl; each = λ j fault there. inl (refl, λ f is sought k v le lt e d. absurd (omega (arith, le, lt))) }

hit_wider : (net : Net) (kept : List (List Bool)) (from to from' to' : ℕ) (fault : Fault) (number : ℕ) → from' ≤ from → to ≤ to' → IsHit net kept from to fault number → IsHit net kept from' to' fault number
hit_wider net kept from to from' to' fault number le le' hit = record { vector = hit.vector; there = hit.there; first = omega (arith, le, hit.first); last = omega (arith, le', hit.last); test = hit.test }

at_then : (net : Net) (kept : List (List Bool)) (from mid to : ℕ) (fault : Fault) (a b c : Option Finding) → from ≤ mid → mid ≤ to → IsTriedAt net kept from mid fault a b → IsTriedAt net kept mid to fault b c → IsTriedAt net kept from to fault a c
at_then net kept from mid to fault a b c le le' (inl (same, missed)) (inl (same', missed')) =
    inl (
      same' ∙ same,
      λ f is sought k v low high there d. elim (lt_or_le k mid) [
        | inl lt ↦ missed f is sought k v low lt there d
        | inr ge ↦ missed' f (same ∙ is) sought k v ge high there d
      ],
    )
at_then net kept from mid to fault a b c le le' (inl (same, missed)) (inr (number, (hit, is))) = inr (number, (hit_wider net kept mid to from to fault number le (omega arith) hit, is))
at_then net kept from mid to fault a b c le le' (inr (number, (hit, is))) (inl (same', missed')) = inr (number, (hit_wider net kept from mid from to fault number (omega arith) le' hit, same' ∙ is))
at_then net kept from mid to fault a b c le le' (inr (number, (hit, is))) (inr (number', (hit', is'))) = inr (number', (hit_wider net kept mid to from to fault number' le (omega arith) hit', is'))

pub tried_then : (net : Net) (kept : List (List Bool)) (from mid to : ℕ) (faults : List Fault) (old u new : List Finding) → from ≤ mid → mid ≤ to → HasTried net kept from mid faults old u → HasTried net kept mid to faults u new → HasTried net kept from to faults old new
tried_then net kept from mid to faults old u new le le' a b = record {
  size = b.size ∙ a.size;
  each = λ j fault there. at_then net kept from mid to fault (slice_get old j) (slice_get u j) (slice_get new j) le le' (a.each j fault there) (b.each j fault there);
}

-- HOW FAR A PASS HAS COME
none_open : (number : ℕ) → ◌≡◌ {A = Option Finding} (Some (Detected number)) (Some Open) → ⊥
none_open number e = absurd (cc)

pub come_tried :
    (net : Net) (budget : ℕ) (kept : List (List Bool)) (tried to : ℕ) (faults : List Fault) (old new : List Finding) (next : ℕ) → HasCome net budget kept tried faults old next → HasTried net kept tried to faults old new
    → HasCome net budget kept to faults new next
come_tried net budget kept tried to faults old new next come has = record {
  long = come.long;
  findings = record { size = has.size ∙ come.findings.size; hold = λ j fault finding there is. hold j fault finding there is (has.each j fault there) };
  trials = λ j fault finding there is sought k v lt at d. missed j fault finding there is sought k v lt at d (has.each j fault there);
  closed = λ j lt is. let f : (fault : Fault) × (slice_get faults j ≡ Some fault) = stands_below faults j (omega (arith, lt, come.within)) in opens j lt is f.0 (has.each j f.0 f.1);
  within = come.within;
}
  where
    hold : (j : ℕ) (fault : Fault) (finding : Finding) → slice_get faults j ≡ Some fault → slice_get new j ≡ Some finding → IsTriedAt net kept tried to fault (slice_get old j) (slice_get new j) → Holds net budget kept fault finding
    hold j fault finding there is (inl (same, missed)) = come.findings.hold j fault finding there (sym same ∙ is)
    hold j fault finding there is (inr (number, (hit, now_is))) = subst (Holds net budget kept fault) (some_is (Detected number) finding (sym now_is ∙ is)) (hit.vector, (hit.there, hit.test))

    missed :
        (j : ℕ) (fault : Fault) (finding : Finding) → slice_get faults j ≡ Some fault → slice_get new j ≡ Some finding → IsSought finding → (k : ℕ) (v : List Bool) → k < to → slice_get kept k ≡ Some v → Detects net fault (assigned v)
        → IsTriedAt net kept tried to fault (slice_get old j) (slice_get new j) → ⊥
    missed j fault finding there is sought k v lt at d (inl (same, none)) = elim (lt_or_le k tried) [
      | inl less ↦ come.trials j fault finding there (sym same ∙ is) sought k v less at d
      | inr le ↦ none finding (sym same ∙ is) sought k v le lt at d
    ]
    missed j fault finding there is sought k v lt at d (inr (number, (hit, now_is))) = subst IsSought (sym (some_is (Detected number) finding (sym now_is ∙ is))) sought

    opens : (j : ℕ) → j < next → slice_get new j ≡ Some Open → (fault : Fault) → IsTriedAt net kept tried to fault (slice_get old j) (slice_get new j) → ⊥
    opens j lt is fault (inl (same, none)) = come.closed j lt (sym same ∙ is)
    opens j lt is fault (inr (number, (hit, now_is))) = none_open number (sym now_is ∙ is)
