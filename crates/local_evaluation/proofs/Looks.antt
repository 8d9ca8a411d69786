-- One look at a gate's pins tells all that follows there.
use Rattle.std.proofs.Common.{Bool, List, None, Option, Some, [], ap, arith, drop, false, inl, inr, length, length-set, map, not, refl, suc, sym, true, zero, ℕ, ◌&&◌, ◌+◌, ◌<◌, ◌||◌, ◌∙◌, ◌∷◌, ◌≡◌, ◌≢◌, ◌≤◌}
use Rattle.std.proofs.Math.Dec.{eqb-suc-suc, eqb-suc-zero, eqb-zero-suc}
use Rattle.std.proofs.lemmas.Bool.Decides.{eqb_tells}
use Rattle.std.proofs.lemmas.List.{length-map}
use Rattle.std.specs.List.{list_all, list_any}
use Rattle.std.specs.Prelude.{if◌then◌else◌, nat_eq, slice_get}
use Rattle.std.proofs.Math.Bool.{or-true, or_assoc}
use Rattle.gate_net.specs.Forward.{all_but, is_known, junction_back, junction_follows}
use Rattle.gate_net.proofs.Public.{same_bool_refl}
use Rattle.gate_net.specs.Net.{Net, drivers_of}
use Rattle.gate_net.specs.Values.{faulty_reads}
use Rattle.local_evaluation.specs.Pins.{FailsAt, IsScan, failing, pin_value, stuck_of, with_stuck}
use Rattle.local_evaluation.specs.declared.pins.PinScan.{PinScan}
use Rattle.local_evaluation.specs.declared.pins.Stuck.{Stuck}
use Rattle.rm_base.specs.declared.numbers.Fault.{Fault}
use mathlib.Core.Bool.{beq}
use Rattle.rm_base.proofs.Public.{drop_end, drop_stands, map_at, set_other, set_there}

-- what is read at a pin
pub pin_at : (stuck : Option Stuck) (k : ℕ → Option Bool) (ds : List ℕ) (q d : ℕ) → slice_get ds q ≡ Some d → slice_get (with_stuck stuck (map k ds)) q ≡ Some (pin_value stuck q (k d))
pin_at None k ds q d e = map_at k ds q d e
pin_at (Some s) k ds q d e = elim (eqb_tells q s.position) [
  | inl t ↦ rw (t.0, t.1) (set_there (map k ds) s.position (k d) (Some s.value) (rw t.1 at (map_at k ds q d e)))
  | inr t ↦ rw t.0 (set_other (map k ds) s.position q (Some s.value) t.1 ∙ map_at k ds q d e)
]

pub stuck_reads : (net : Net) (fault : Fault) (k : ℕ → Option Bool) (y : ℕ) → with_stuck (stuck_of fault y) (map k (drivers_of net y)) ≡ faulty_reads net fault Some k y
stuck_reads net fault k y = elim (eqb_tells y fault.gate.0) [ inl t ↦ rw t.0 refl | inr t ↦ rw t.0 refl ]

-- a look that has come as far as pin q
pub record LooksTo (any : Bool) (rest at q : ℕ) (c : Bool) (os : List (Option Bool)) : Type 0 where
  pub any_is : (any || list_any (is_known c) (drop q os)) ≡ list_any (is_known c) os
  pub rest_is : rest + failing (is_known (not c)) (drop q os) ≡ failing (is_known (not c)) os
  pub at_is : 0 < rest → FailsAt (is_known (not c)) os at
  pub few : rest ≤ q

pub looks_first : (c : Bool) (os : List (Option Bool)) → LooksTo false 0 0 0 c os
looks_first c os = record { any_is = refl; rest_is = omega arith; at_is = λ h. absurd (omega arith); few = omega arith }

pub looks_more : (any : Bool) (rest at q : ℕ) (c : Bool) (os : List (Option Bool)) (o : Option Bool) → LooksTo any rest at q c os → slice_get os q ≡ Some o → (any' : Bool) → any' ≡ (any || is_known c o) → (rest' at' : ℕ) → (t : Bool) → is_known (not c) o ≡ t → rest' ≡ (if t then rest else rest + 1) → at' ≡ (if t then at else q) → LooksTo any' rest' at' (q + 1) c os
looks_more any rest at q c os o l e any' is_any rest' at' true is is_rest is_at = let step : q + 1 ≡ suc q = omega arith in record {
  any_is = rw (is_any, step) (or_assoc any (is_known c o) (list_any (is_known c) (drop (suc q) os)) ∙ rw (drop_stands os q o e) at l.any_is);
  rest_is = rw (is_rest, step) (rw is at (rw (drop_stands os q o e) at l.rest_is));
  at_is = rw (is_rest, is_at) l.at_is;
  few = let few : rest ≤ q = l.few in omega arith;
}
looks_more any rest at q c os o l e any' is_any rest' at' false is is_rest is_at = let step : q + 1 ≡ suc q = omega arith in record {
  any_is = rw (is_any, step) (or_assoc any (is_known c o) (list_any (is_known c) (drop (suc q) os)) ∙ rw (drop_stands os q o e) at l.any_is);
  rest_is = rw step (let before : rest + suc (failing (is_known (not c)) (drop (suc q) os)) ≡ failing (is_known (not c)) os = rw is at (rw (drop_stands os q o e) at l.rest_is) in omega arith);
  at_is = λ h. rw is_at (o, (e, is));
  few = let few : rest ≤ q = l.few in omega arith;
}

pub looks_last : (any : Bool) (rest at q : ℕ) (c : Bool) (os : List (Option Bool)) → LooksTo any rest at q c os → length os ≤ q → IsScan (record { any = any; rest = rest; at = at }) c os
looks_last any rest at q c os l h = record {
  any = sym (or_false any) ∙ rw (drop_end os q h) at l.any_is;
  rest = let e : rest + 0 ≡ failing (is_known (not c)) os = rw (drop_end os q h) at l.rest_is in omega arith;
  at = l.at_is;
}
  where
    or_false : (b : Bool) → (b || false) ≡ b
    or_false true = refl
    or_false false = refl

-- how many fail, and what that says
none_fails : (test : Option Bool → Bool) (os : List (Option Bool)) → failing test os ≡ 0 → list_all test os ≡ true
none_fails test [] e = refl
none_fails test (o ∷ os) e = at (test o) refl (none_fails test os)
  where
    at : (t : Bool) → test o ≡ t → (failing test os ≡ 0 → list_all test os ≡ true) → list_all test (o ∷ os) ≡ true
    at true is ih = rw is (ih (rw is at e))
    at false is ih = let wrong : suc (failing test os) ≡ 0 = rw is at e in absurd (omega arith)

some_fails : (test : Option Bool → Bool) (os : List (Option Bool)) → 0 < failing test os → list_all test os ≡ false
some_fails test [] h = absurd (omega arith)
some_fails test (o ∷ os) h = at (test o) refl (some_fails test os)
  where
    at : (t : Bool) → test o ≡ t → (0 < failing test os → list_all test os ≡ false) → list_all test (o ∷ os) ≡ false
    at true is ih = rw is (ih (rw is at h))
    at false is ih = rw is refl

pub passes_at : (test : Option Bool → Bool) (os : List (Option Bool)) (k : ℕ) → failing test os ≡ 0 → FailsAt test os k → ⊥
passes_at test [] k e (o, (there, fails)) = cc
passes_at test (x ∷ os) k e fails = at (test x) refl (passes_at test os) k fails
  where
    at : (t : Bool) → test x ≡ t → ((k : ℕ) → failing test os ≡ 0 → FailsAt test os k → ⊥) → (k : ℕ) → FailsAt test (x ∷ os) k → ⊥
    at true is ih zero (o, (there, fails)) = let same : x ≡ o = cc in let now : test x ≡ false = rw same fails in cc
    at true is ih (suc k) (o, (there, fails)) = ih k (rw is at e) (o, (there, fails))
    at false is ih k fails = let wrong : suc (failing test os) ≡ 0 = rw is at e in absurd (omega arith)

all_but_all : (test : Option Bool → Bool) (q : ℕ) (os : List (Option Bool)) → list_all test os ≡ true → all_but test q os ≡ true
all_but_all test q [] e = refl
all_but_all test zero (o ∷ os) e = at (test o) e
  where
    at : (t : Bool) → (t && list_all test os) ≡ true → list_all test os ≡ true
    at true e = e
    at false e = cc
all_but_all test (suc q) (o ∷ os) e = at (test o) refl (all_but_all test q os)
  where
    at : (t : Bool) → test o ≡ t → (list_all test os ≡ true → all_but test q os ≡ true) → (test o && all_but test q os) ≡ true
    at true is ih = rw is (ih (rw is at e))
    at false is ih = let wrong : false ≡ true = rw is at e in cc

pub one_fails : (test : Option Bool → Bool) (q k : ℕ) (os : List (Option Bool)) → failing test os ≡ 1 → FailsAt test os k → all_but test q os ≡ nat_eq k q
one_fails test q k [] e fails = absurd (omega arith)
one_fails test q k (x ∷ os) e fails = at (test x) refl q k fails (λ q' k' e' f'. one_fails test q' k' os e' f')
  where
    at : (t : Bool) → test x ≡ t → (q k : ℕ) → FailsAt test (x ∷ os) k → ((q k : ℕ) → failing test os ≡ 1 → FailsAt test os k → all_but test q os ≡ nat_eq k q) → all_but test q (x ∷ os) ≡ nat_eq k q
    at true is q zero (o, (there, fails)) ih = let same : x ≡ o = cc in let now : test x ≡ false = rw same fails in cc
    at true is zero (suc k) fails ih = let one : failing test os ≡ 1 = rw is at e in rw (eqb-suc-zero k) (some_fails test os (omega arith))
    at true is (suc q) (suc k) fails ih = rw (is, eqb-suc-suc k q) (ih q k (rw is at e) fails)
    at false is zero zero fails ih = let none : suc (failing test os) ≡ 1 = rw is at e in none_fails test os (omega arith)
    at false is (suc q) zero fails ih = rw (is, eqb-zero-suc q) refl
    at false is q (suc k) (o, (there, fails)) ih = let none : suc (failing test os) ≡ 1 = rw is at e in absurd (passes_at test os k (omega arith) (o, (there, fails)))

pub many_fail : (test : Option Bool → Bool) (q : ℕ) (os : List (Option Bool)) → 2 ≤ failing test os → all_but test q os ≡ false
many_fail test q [] h = absurd (omega arith)
many_fail test q (x ∷ os) h = at (test x) refl q (λ q' h'. many_fail test q' os h')
  where
    at : (t : Bool) → test x ≡ t → (q : ℕ) → ((q : ℕ) → 2 ≤ failing test os → all_but test q os ≡ false) → all_but test q (x ∷ os) ≡ false
    at true is zero ih = let two : 2 ≤ failing test os = rw is at h in some_fails test os (omega arith)
    at true is (suc q) ih = rw is (ih q (rw is at h))
    at false is zero ih = let two : 2 ≤ suc (failing test os) = rw is at h in some_fails test os (omega arith)
    at false is (suc q) ih = rw is refl

-- WHAT A SCAN TELLS
pub scan_forward : (g : PinScan) (c : Bool) (os : List (Option Bool)) → IsScan g c os → (if g.any then Some c else (if nat_eq g.rest 0 then Some (not c) else None)) ≡ junction_follows c os
scan_forward g c os h = rw h.any (ap (λ t. if list_any (is_known c) os then Some c else (if t then Some (not c) else None)) same)
  where
    same : nat_eq g.rest 0 ≡ list_all (is_known (not c)) os
    same = elim (eqb_tells g.rest 0) [
      | inl t ↦ t.0 ∙ sym (none_fails (is_known (not c)) os (sym h.rest ∙ t.1))
      | inr t ↦ t.0 ∙ sym (some_fails (is_known (not c)) os (let e : g.rest ≡ failing (is_known (not c)) os = h.rest in let ne : g.rest ≢ 0 = t.1 in omega arith))
    ]

pub scan_all : (g : PinScan) (c : Bool) (os : List (Option Bool)) → IsScan g c os → g.rest ≡ 0 → list_all (is_known (not c)) os ≡ true
scan_all g c os h e = none_fails (is_known (not c)) os (sym h.rest ∙ e)

pub scan_not_all : (g : PinScan) (c : Bool) (os : List (Option Bool)) → IsScan g c os → g.rest ≢ 0 → list_all (is_known (not c)) os ≡ false
scan_not_all g c os h ne = some_fails (is_known (not c)) os (let e : g.rest ≡ failing (is_known (not c)) os = h.rest in omega arith)

pub scan_none : (g : PinScan) (c : Bool) (os : List (Option Bool)) (q : ℕ) → IsScan g c os → g.rest ≡ 0 → all_but (is_known (not c)) q os ≡ true
scan_none g c os q h e = all_but_all (is_known (not c)) q os (scan_all g c os h e)

pub scan_one : (g : PinScan) (c : Bool) (os : List (Option Bool)) (q : ℕ) → IsScan g c os → g.rest ≡ 1 → all_but (is_known (not c)) q os ≡ nat_eq g.at q
scan_one g c os q h e = one_fails (is_known (not c)) q g.at os (sym h.rest ∙ e) (h.at (omega arith))

pub scan_many : (g : PinScan) (c : Bool) (os : List (Option Bool)) (q : ℕ) → IsScan g c os → g.rest ≢ 0 → g.rest ≢ 1 → all_but (is_known (not c)) q os ≡ false
scan_many g c os q h isn't isn't' = many_fail (is_known (not c)) q os (let e : g.rest ≡ failing (is_known (not c)) os = h.rest in omega arith)

pub pins_length : (stuck : Option Stuck) (k : ℕ → Option Bool) (ds : List ℕ) → length (with_stuck stuck (map k ds)) ≡ length ds
pins_length None k ds = length-map ds k
pins_length (Some s) k ds = length-set (map k ds) s.position (Some s.value) ∙ length-map ds k

pub or_then : (any any' b : Bool) → b ≡ true → any' ≡ true → any' ≡ (any || b)
or_then any any' b e f = rw (e, f) (sym (or-true any))

pub or_else : (any any' b : Bool) → b ≡ false → any' ≡ any → any' ≡ (any || b)
or_else any any' b e f = rw (e, f) (sym (or_none any))
  where
    or_none : (b : Bool) → (b || false) ≡ b
    or_none true = refl
    or_none false = refl

pub back_some : (c value : Bool) (os : List (Option Bool)) (q : ℕ) → value ≡ c → all_but (is_known (not c)) q os ≡ true → Some c ≡ junction_back c value os q
back_some c value os q e all = rw (e, same_bool_refl c, all) refl

pub back_none : (c value : Bool) (os : List (Option Bool)) (q : ℕ) → value ≡ c → all_but (is_known (not c)) q os ≡ false → None ≡ junction_back c value os q
back_none c value os q e all = rw (e, same_bool_refl c, all) refl

pub never_other : (b c : Bool) → not (beq b c) ≡ false → b ≡ c
never_other true true e = refl
never_other true false e = cc
never_other false true e = cc
never_other false false e = refl
