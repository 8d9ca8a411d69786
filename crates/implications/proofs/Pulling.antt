-- What a scan of a gate's pins gives.
use Rattle.std.proofs.Common.{Bool, List, None, Option, Some, [], arith, false, inl, inr, not, refl, suc, sym, true, zero, ℕ, ◌<◌, ◌||◌, ◌∙◌, ◌∷◌, ◌≡◌, ◌≢◌, ◌⊎◌}
use Rattle.std.proofs.lemmas.Bool.{and_parts, eq-eqb, or_cases}
use Rattle.std.specs.List.{list_all, list_any}
use Rattle.std.specs.Prelude.{IsTrue, if◌then◌else◌, slice_get}
use Rattle.gate_net.specs.Forward.{all_but, is_known, junction_back, junction_follows}
use Rattle.gate_net.proofs.Public.{is_known_true, same_bool_not, same_bool_refl}
use Rattle.gate_net.specs.Values.{same_bool}
use Rattle.implications.specs.Inner.Pulls.{IsEqualPull, IsPull}
use Rattle.implications.specs.declared.pulls.Pull.TheVariants.{Gate, Pin}
use Rattle.refutation.proofs.Public.{all_not_any, scan_all, scan_many, scan_not_all, scan_one, is_known_some}
use Rattle.refutation.specs.Pins.{FailsAt, IsScan}
use Rattle.local_evaluation.specs.declared.pins.PinScan.{PinScan}
use mathlib.Core.Bool.{beq}

-- KNOWN VALUES
pub other_one : (b c : Bool) → not (beq b c) ≡ true → b ≡ not c
other_one true true e = cc
other_one true false e = refl
other_one false true e = refl
other_one false false e = cc

pub not_known_false : (v : Bool) (o : Option Bool) → is_known v o ≡ false → o ≢ Some v
not_known_false v o e is = let yes' : is_known v o ≡ true = is_known_some v o is in cc

-- known to be neither
known_neither : (c : Bool) (o : Option Bool) → is_known (not c) o ≡ false → is_known c o ≡ false → o ≡ None
known_neither c None e f = refl
known_neither true (Some true) e f = cc
known_neither true (Some false) e f = cc
known_neither false (Some true) e f = cc
known_neither false (Some false) e f = cc

-- LISTS OF THEM
none_is : (c : Bool) (os : List (Option Bool)) (q : ℕ) (o : Option Bool) → list_any (is_known c) os ≡ false → slice_get os q ≡ Some o → is_known c o ≡ false
none_is c [] q o e there = cc
none_is c (x ∷ os) zero o e there = let same : x ≡ o = some_is there in rw (← same) (first_off (is_known c x) (list_any (is_known c) os) e)
  where
    some_is : {A : Type 0} {a b : A} → Some a ≡ Some b → a ≡ b
    some_is e = cc

    first_off : (b d : Bool) → (b || d) ≡ false → b ≡ false
    first_off true d e = cc
    first_off false d e = refl
none_is c (x ∷ os) (suc q) o e there = none_is c os q o (rest_off (is_known c x) (list_any (is_known c) os) e) there
  where
    rest_off : (b d : Bool) → (b || d) ≡ false → d ≡ false
    rest_off true d e = cc
    rest_off false d e = e

all_are : (c : Bool) (os : List (Option Bool)) (q : ℕ) (o : Option Bool) → list_all (is_known c) os ≡ true → slice_get os q ≡ Some o → o ≡ Some c
all_are c [] q o e there = cc
all_are c (x ∷ os) zero o e there =
    let both : (is_known c x ≡ true) × (list_all (is_known c) os ≡ true) = and_parts (is_known c x) (list_all (is_known c) os) e in
    let known : x ≡ Some c = is_known_true c x both.0 in
    cc
all_are c (x ∷ os) (suc q) o e there = let both : (is_known c x ≡ true) × (list_all (is_known c) os ≡ true) = and_parts (is_known c x) (list_all (is_known c) os) e in all_are c os q o both.1 there

-- all but the pin are c's opposite, and some is c: it is this one
pub one_left : (c : Bool) (os : List (Option Bool)) (q : ℕ) (o : Option Bool) → list_any (is_known c) os ≡ true → all_but (is_known (not c)) q os ≡ true → slice_get os q ≡ Some o → o ≡ Some c
one_left c [] q o e all there = cc
one_left c (x ∷ os) zero o e all there = elim (or_cases (is_known c x) (list_any (is_known c) os) e) [
  | inl here ↦ let known : x ≡ Some c = is_known_true c x here in cc
  | inr later ↦ let none : list_any (is_known c) os ≡ false = all_not_any c os all in cc
]
one_left c (x ∷ os) (suc q) o e all there =
    let both : (is_known (not c) x ≡ true) × (all_but (is_known (not c)) q os ≡ true) = and_parts (is_known (not c) x) (all_but (is_known (not c)) q os) all in
    let other : x ≡ Some (not c) = is_known_true (not c) x both.0 in
    let off : is_known c x ≡ false = rw other (at c) in
    one_left c os q o (rest (is_known c x) (list_any (is_known c) os) off e) both.1 there
  where
    at : (c : Bool) → same_bool c (not c) ≡ false
    at true = refl
    at false = refl

    rest : (b d : Bool) → b ≡ false → (b || d) ≡ true → d ≡ true
    rest true d off e = cc
    rest false d off e = e

-- JUNCTIONS
-- neither value follows forward
follows_none : (c : Bool) (os : List (Option Bool)) → junction_follows c os ≡ None → (list_any (is_known c) os ≡ false) × (list_all (is_known (not c)) os ≡ false)
follows_none c os e = at (list_any (is_known c) os) (list_all (is_known (not c)) os) refl refl
  where
    at : (b d : Bool) → list_any (is_known c) os ≡ b → list_all (is_known (not c)) os ≡ d → (b ≡ false) × (d ≡ false)
    at true d is all = let some : Some c ≡ None = rw is at e in cc
    at false true is all = let some : Some (not c) ≡ None = rw (is, all) at e in cc
    at false false is all = (refl, refl)

-- what follows forward: c where some pin is c, and else its opposite
follows_some : (c value : Bool) (os : List (Option Bool)) → junction_follows c os ≡ Some value → ((value ≡ c) × (list_any (is_known c) os ≡ true)) ⊎ ((value ≡ not c) × (list_all (is_known (not c)) os ≡ true))
follows_some c value os e = at (list_any (is_known c) os) (list_all (is_known (not c)) os) refl refl
  where
    some_is : {a b : Bool} → Some a ≡ Some b → a ≡ b
    some_is e = cc

    at : (b d : Bool) → list_any (is_known c) os ≡ b → list_all (is_known (not c)) os ≡ d → ((value ≡ c) × (list_any (is_known c) os ≡ true)) ⊎ ((value ≡ not c) × (list_all (is_known (not c)) os ≡ true))
    at true d is all = let some : Some c ≡ Some value = rw is at e in inl (sym (some_is some), is)
    at false true is all = let some : Some (not c) ≡ Some value = rw (is, all) at e in inr (sym (some_is some), all)
    at false false is all = let none : None ≡ Some value = rw (is, all) at e in cc

pub back_same : (c : Bool) (os : List (Option Bool)) (q : ℕ) (other : Bool) → junction_back c c os q ≡ Some other → (all_but (is_known (not c)) q os ≡ true) × (other ≡ c)
back_same c os q other e = at (all_but (is_known (not c)) q os) refl (rw (same_bool_refl c) at e)
  where
    some_is : {a b : Bool} → Some a ≡ Some b → a ≡ b
    some_is e = cc

    at : (b : Bool) → all_but (is_known (not c)) q os ≡ b → (if b then Some c else None) ≡ Some other → (all_but (is_known (not c)) q os ≡ true) × (other ≡ c)
    at true is e = (is, sym (some_is e))
    at false is e = cc

pub back_other : (c : Bool) (os : List (Option Bool)) (q : ℕ) → junction_back c (not c) os q ≡ Some (not c)
back_other c os q = rw (same_bool_not c) refl

-- the value that follows is known
pub pull_known : (c value : Bool) (os : List (Option Bool)) (known : Option Bool) → junction_follows c os ≡ Some value → known ≡ Some value → IsPull c os known None
pull_known c value os known e is = (
  λ v f. is ∙ sym e ∙ f,
  λ v other q o k back there.
      let same : v ≡ value = some_is (sym k ∙ is) in
      elim (follows_some c value os e) [
        | inl h ↦
            let b : junction_back c c os q ≡ Some other = rw (same ∙ h.0) at back in
            let known_c : (all_but (is_known (not c)) q os ≡ true) × (other ≡ c) = back_same c os q other b in
            rw known_c.1 (one_left c os q o h.1 known_c.0 there)
        | inr h ↦
            let b : junction_back c (not c) os q ≡ Some other = rw (same ∙ h.0) at back in
            all_are (not c) os q o h.1 there ∙ sym (back_other c os q) ∙ b
      ],
)
  where
    some_is : {a b : Bool} → Some a ≡ Some b → a ≡ b
    some_is e = cc

-- nothing follows forward, and the gate's value isn't known
pub pull_unknown : (c : Bool) (os : List (Option Bool)) (known : Option Bool) → junction_follows c os ≡ None → known ≡ None → IsPull c os known None
pull_unknown c os known e is = (λ v f. let wrong : None ≡ Some v = sym e ∙ f in cc, λ v other q o k back there. let wrong : None ≡ Some v = sym is ∙ k in cc)

rest_some : (g : PinScan) (c : Bool) (os : List (Option Bool)) → IsScan g c os → junction_follows c os ≡ None → g.rest ≢ 0
rest_some g c os h e is = let all : list_all (is_known (not c)) os ≡ true = scan_all g c os h is in let none : list_all (is_known (not c)) os ≡ false = (follows_none c os e).1 in cc

-- two pins or more aren't known to be c's opposite
pub pull_many : (g : PinScan) (c : Bool) (os : List (Option Bool)) (known : Option Bool) → IsScan g c os → junction_follows c os ≡ None → known ≡ Some c → g.rest ≢ 1 → IsPull c os known None
pull_many g c os known h e is many = (
  λ v f. let wrong : None ≡ Some v = sym e ∙ f in cc,
  λ v other q o k back there.
      let same : v ≡ c = some_is (sym k ∙ is) in
      let b : junction_back c c os q ≡ Some other = rw same at back in
      let yes' : all_but (is_known (not c)) q os ≡ true = (back_same c os q other b).0 in
      let no' : all_but (is_known (not c)) q os ≡ false = scan_many g c os q h (rest_some g c os h e) many in
      cc,
)
  where
    some_is : {a b : Bool} → Some a ≡ Some b → a ≡ b
    some_is e = cc

-- the pin that the scan gives isn't known
pin_unknown : (g : PinScan) (c : Bool) (os : List (Option Bool)) → IsScan g c os → 0 < g.rest → list_any (is_known c) os ≡ false → slice_get os g.at ≡ Some None
pin_unknown g c os h some none =
    let at : FailsAt (is_known (not c)) os g.at = h.at some in
    rw (sym (known_neither c at.0 at.1.1 (none_is c os g.at at.0 none at.1.0))) at.1.0

pub pull_other : (g : PinScan) (c value : Bool) (os : List (Option Bool)) (known : Option Bool) → IsScan g c os → junction_follows c os ≡ None → known ≡ Some value → value ≡ not c → IsPull c os known (Some (Pin g.at value))
pull_other g c value os known h e is other =
    let some : g.rest ≢ 0 = rest_some g c os h e in
    (is, (rw other (back_other c os g.at), pin_unknown g c os h (omega arith) (follows_none c os e).0))

pub pull_one : (g : PinScan) (c value : Bool) (os : List (Option Bool)) (known : Option Bool) → IsScan g c os → junction_follows c os ≡ None → known ≡ Some value → value ≡ c → g.rest ≡ 1 → IsPull c os known (Some (Pin g.at value))
pull_one g c value os known h e is same one =
    (is, (rw (same, same_bool_refl c, scan_one g c os g.at h one, eq-eqb g.at g.at refl) refl, pin_unknown g c os h (omega arith) (follows_none c os e).0))

-- EQUAL AND DIFFERENT
pub equal_known : (g : PinScan) (os : List (Option Bool)) (known : Option Bool) → IsScan g false os → g.rest ≡ 0 → known ≡ Some true → IsEqualPull os known None
equal_known g os known h all is = (λ e. is, λ q o k e there. let wrong : Some true ≡ Some false = sym is ∙ k in cc)

pub equal_all : (g : PinScan) (os : List (Option Bool)) (known : Option Bool) → IsScan g false os → g.rest ≡ 0 → known ≢ Some true → IsEqualPull os known (Some (Gate true))
equal_all g os known h all ne = (scan_all g false os h all, ne)

not_all : (g : PinScan) (os : List (Option Bool)) → IsScan g false os → g.rest ≢ 0 → IsTrue (list_all (is_known true) os) → ⊥
not_all g os h some e = let none : list_all (is_known true) os ≡ false = scan_not_all g false os h some in cc

pub equal_open : (g : PinScan) (os : List (Option Bool)) (known : Option Bool) → IsScan g false os → g.rest ≢ 0 → known ≢ Some false → IsEqualPull os known None
equal_open g os known h some ne = (λ e. absurd (not_all g os h some e), λ q o k e there. absurd (ne k))

pub equal_any : (g : PinScan) (os : List (Option Bool)) (known : Option Bool) → IsScan g false os → g.rest ≢ 0 → g.any ≡ true → IsEqualPull os known None
equal_any g os known h some any = (λ e. absurd (not_all g os h some e), λ q o k e there. one_left false os q o (sym h.any ∙ any) e there)

pub equal_many : (g : PinScan) (os : List (Option Bool)) (known : Option Bool) → IsScan g false os → g.rest ≢ 0 → g.rest ≢ 1 → IsEqualPull os known None
equal_many g os known h some many = (λ e. absurd (not_all g os h some e), λ q o k e there. let no' : all_but (is_known true) q os ≡ false = scan_many g false os q h some many in cc)

pub equal_one : (g : PinScan) (os : List (Option Bool)) (known : Option Bool) → IsScan g false os → g.rest ≡ 1 → g.any ≡ false → known ≡ Some false → IsEqualPull os known (Some (Pin g.at false))
equal_one g os known h one none is = (is, (scan_one g false os g.at h one ∙ eq-eqb g.at g.at refl, pin_unknown g false os h (omega arith) (sym h.any ∙ none)))
