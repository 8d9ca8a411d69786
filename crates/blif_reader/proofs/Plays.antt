-- As what a name stands in some uses.
use Rattle.std.proofs.Common.{◌≡◌, ◌+◌, List, [], ◌∷◌, ◌++◌, Bool, true, false, ◌&&◌, ◌||◌, refl, ◌∙◌, ap, arith}
use Rattle.std.specs.Prelude.{if◌then◌else◌}
use Rattle.rm_model.specs.Words.{is_word}
use Rattle.rm_model.specs.Value.{is_among}
use Rattle.blif_format.specs.Uses.{Use, is_source_role, is_driver, drives_twice, lists_twice, names_in, distinct_count, is_clock, is_input, is_output}
use Rattle.blif_format.specs.declared.words.Role.{Role}
use Rattle.blif_format.specs.declared.words.Role.TheVariants.{Input, ClockInput, Output, CoverInput, CoverOutput, LatchInput, LatchOutput, Control}
use Rattle.blif_reader.specs.Inner.Tally.{plays, is_latch, is_cover, flags_in, has_source, has_driver, is_driven_twice, is_listed_twice}
use Rattle.blif_reader.proofs.Compared.{word_turned, among_more}
use Rattle.rm_base.specs.Words.{Word}
use Rattle.rm_model.proofs.Public.{same_word}

or_shuffle : (p q w a b : Bool) → (((p || q) && w) || (a || b)) ≡ (((p && w) || a) || ((q && w) || b))
or_shuffle true q true a b = refl
or_shuffle true true false a b = refl
or_shuffle true false false a b = refl
or_shuffle false true true true b = refl
or_shuffle false true true false b = refl
or_shuffle false true false a b = refl
or_shuffle false false true a b = refl
or_shuffle false false false a b = refl

pub plays_or : (f g : Role → Bool) (had : List Use) (x : Word) → plays (λ r. f r || g r) had x ≡ (plays f had x || plays g had x)
plays_or f g [] x = refl
plays_or f g (u ∷ us) x = ap (λ b. ((f u.role || g u.role) && is_word u.name x) || b) (plays_or f g us x) ∙ or_shuffle (f u.role) (g u.role) (is_word u.name x) (plays f us x) (plays g us x)

pub plays_same : (f g : Role → Bool) → ((r : Role) → f r ≡ g r) → (had : List Use) (x : Word) → plays f had x ≡ plays g had x
plays_same f g same [] x = refl
plays_same f g same (u ∷ us) x = ap (λ b. (b && is_word u.name x) || plays f us x) (same u.role) ∙ ap (λ b. (g u.role && is_word u.name x) || b) (plays_same f g same us x)

plays_none : (had : List Use) (x : Word) → plays (λ r. false) had x ≡ false
plays_none [] x = refl
plays_none (u ∷ us) x = plays_none us x

source_case : (r : Role) → is_source_role r ≡ (is_input r || (is_clock r || is_latch r))
source_case r = elim r as (λ r. is_source_role r ≡ (is_input r || (is_clock r || is_latch r))) [ Input ↦ refl | ClockInput ↦ refl | Output ↦ refl | CoverInput ↦ refl | CoverOutput ↦ refl | LatchInput ↦ refl | LatchOutput ↦ refl | Control ↦ refl ]

pub plays_source : (had : List Use) (x : Word) → plays is_source_role had x ≡ has_source (flags_in had x)
plays_source had x =
    plays_same is_source_role (λ r. is_input r || (is_clock r || is_latch r)) source_case had x
    ∙ plays_or is_input (λ r. is_clock r || is_latch r) had x
    ∙ ap (λ b. plays is_input had x || b) (plays_or is_clock is_latch had x)

driver_case : (r : Role) → is_driver r ≡ ((is_input r || (is_clock r || is_latch r)) || is_cover r)
driver_case r = elim r as (λ r. is_driver r ≡ ((is_input r || (is_clock r || is_latch r)) || is_cover r)) [ Input ↦ refl | ClockInput ↦ refl | Output ↦ refl | CoverInput ↦ refl | CoverOutput ↦ refl | LatchInput ↦ refl | LatchOutput ↦ refl | Control ↦ refl ]

pub plays_any_driver : (f : Role → Bool) → ((r : Role) → f r ≡ ((is_input r || (is_clock r || is_latch r)) || is_cover r)) → (had : List Use) (x : Word) → plays f had x ≡ has_driver (flags_in had x)
plays_any_driver f same had x =
    plays_same f (λ r. (is_input r || (is_clock r || is_latch r)) || is_cover r) same had x
    ∙ plays_or (λ r. is_input r || (is_clock r || is_latch r)) is_cover had x
    ∙ ap (λ b. b || plays is_cover had x) (plays_or is_input (λ r. is_clock r || is_latch r) had x ∙ ap (λ b. plays is_input had x || b) (plays_or is_clock is_latch had x))

pub plays_driver : (had : List Use) (x : Word) → plays is_driver had x ≡ has_driver (flags_in had x)
plays_driver had x = plays_any_driver is_driver driver_case had x

plays_three : (f a b c : Role → Bool) → ((r : Role) → f r ≡ (a r || (b r || c r))) → (had : List Use) (x : Word) → plays f had x ≡ (plays a had x || (plays b had x || plays c had x))
plays_three f a b c same had x = plays_same f (λ r. a r || (b r || c r)) same had x ∙ plays_or a (λ r. b r || c r) had x ∙ ap (λ t. plays a had x || t) (plays_or b c had x)

plays_not : (f : Role → Bool) → ((r : Role) → f r ≡ false) → (had : List Use) (x : Word) → plays f had x ≡ false
plays_not f same had x = plays_same f (λ r. false) same had x ∙ plays_none had x

-- a second driver is seen by the flags
pub driven_is : (role : Role) (had : List Use) (x : Word) → plays (λ r. drives_twice r role) had x ≡ is_driven_twice (flags_in had x) role
driven_is Input had x = plays_three (λ r. drives_twice r Input) is_input is_latch is_cover (λ r. elim r as (λ r. drives_twice r Input ≡ (is_input r || (is_latch r || is_cover r))) [ Input ↦ refl | ClockInput ↦ refl | Output ↦ refl | CoverInput ↦ refl | CoverOutput ↦ refl | LatchInput ↦ refl | LatchOutput ↦ refl | Control ↦ refl ]) had x
driven_is ClockInput had x = plays_three (λ r. drives_twice r ClockInput) is_clock is_latch is_cover (λ r. elim r as (λ r. drives_twice r ClockInput ≡ (is_clock r || (is_latch r || is_cover r))) [ Input ↦ refl | ClockInput ↦ refl | Output ↦ refl | CoverInput ↦ refl | CoverOutput ↦ refl | LatchInput ↦ refl | LatchOutput ↦ refl | Control ↦ refl ]) had x
driven_is LatchOutput had x = plays_any_driver (λ r. drives_twice r LatchOutput) (λ r. elim r as (λ r. drives_twice r LatchOutput ≡ ((is_input r || (is_clock r || is_latch r)) || is_cover r)) [ Input ↦ refl | ClockInput ↦ refl | Output ↦ refl | CoverInput ↦ refl | CoverOutput ↦ refl | LatchInput ↦ refl | LatchOutput ↦ refl | Control ↦ refl ]) had x
driven_is CoverOutput had x = plays_any_driver (λ r. drives_twice r CoverOutput) (λ r. elim r as (λ r. drives_twice r CoverOutput ≡ ((is_input r || (is_clock r || is_latch r)) || is_cover r)) [ Input ↦ refl | ClockInput ↦ refl | Output ↦ refl | CoverInput ↦ refl | CoverOutput ↦ refl | LatchInput ↦ refl | LatchOutput ↦ refl | Control ↦ refl ]) had x
driven_is Output had x = plays_not (λ r. drives_twice r Output) (λ r. elim r as (λ r. drives_twice r Output ≡ false) [ Input ↦ refl | ClockInput ↦ refl | Output ↦ refl | CoverInput ↦ refl | CoverOutput ↦ refl | LatchInput ↦ refl | LatchOutput ↦ refl | Control ↦ refl ]) had x
driven_is CoverInput had x = plays_not (λ r. drives_twice r CoverInput) (λ r. elim r as (λ r. drives_twice r CoverInput ≡ false) [ Input ↦ refl | ClockInput ↦ refl | Output ↦ refl | CoverInput ↦ refl | CoverOutput ↦ refl | LatchInput ↦ refl | LatchOutput ↦ refl | Control ↦ refl ]) had x
driven_is LatchInput had x = plays_not (λ r. drives_twice r LatchInput) (λ r. elim r as (λ r. drives_twice r LatchInput ≡ false) [ Input ↦ refl | ClockInput ↦ refl | Output ↦ refl | CoverInput ↦ refl | CoverOutput ↦ refl | LatchInput ↦ refl | LatchOutput ↦ refl | Control ↦ refl ]) had x
driven_is Control had x = plays_not (λ r. drives_twice r Control) (λ r. elim r as (λ r. drives_twice r Control ≡ false) [ Input ↦ refl | ClockInput ↦ refl | Output ↦ refl | CoverInput ↦ refl | CoverOutput ↦ refl | LatchInput ↦ refl | LatchOutput ↦ refl | Control ↦ refl ]) had x

listed_none : (role : Role) → ((r : Role) → lists_twice r role ≡ false) → (had : List Use) (x : Word) → plays (λ r. lists_twice r role) had x ≡ false
listed_none role same had x = plays_not (λ r. lists_twice r role) same had x

-- and a second listing
pub listed_is : (role : Role) (had : List Use) (x : Word) → plays (λ r. lists_twice r role) had x ≡ is_listed_twice (flags_in had x) role
listed_is Output had x = plays_same (λ r. lists_twice r Output) is_output (λ r. elim r as (λ r. lists_twice r Output ≡ is_output r) [ Input ↦ refl | ClockInput ↦ refl | Output ↦ refl | CoverInput ↦ refl | CoverOutput ↦ refl | LatchInput ↦ refl | LatchOutput ↦ refl | Control ↦ refl ]) had x
listed_is Input had x = listed_none Input (λ r. elim r as (λ r. lists_twice r Input ≡ false) [ Input ↦ refl | ClockInput ↦ refl | Output ↦ refl | CoverInput ↦ refl | CoverOutput ↦ refl | LatchInput ↦ refl | LatchOutput ↦ refl | Control ↦ refl ]) had x
listed_is ClockInput had x = listed_none ClockInput (λ r. elim r as (λ r. lists_twice r ClockInput ≡ false) [ Input ↦ refl | ClockInput ↦ refl | Output ↦ refl | CoverInput ↦ refl | CoverOutput ↦ refl | LatchInput ↦ refl | LatchOutput ↦ refl | Control ↦ refl ]) had x
listed_is CoverInput had x = listed_none CoverInput (λ r. elim r as (λ r. lists_twice r CoverInput ≡ false) [ Input ↦ refl | ClockInput ↦ refl | Output ↦ refl | CoverInput ↦ refl | CoverOutput ↦ refl | LatchInput ↦ refl | LatchOutput ↦ refl | Control ↦ refl ]) had x
listed_is CoverOutput had x = listed_none CoverOutput (λ r. elim r as (λ r. lists_twice r CoverOutput ≡ false) [ Input ↦ refl | ClockInput ↦ refl | Output ↦ refl | CoverInput ↦ refl | CoverOutput ↦ refl | LatchInput ↦ refl | LatchOutput ↦ refl | Control ↦ refl ]) had x
listed_is LatchInput had x = listed_none LatchInput (λ r. elim r as (λ r. lists_twice r LatchInput ≡ false) [ Input ↦ refl | ClockInput ↦ refl | Output ↦ refl | CoverInput ↦ refl | CoverOutput ↦ refl | LatchInput ↦ refl | LatchOutput ↦ refl | Control ↦ refl ]) had x
listed_is LatchOutput had x = listed_none LatchOutput (λ r. elim r as (λ r. lists_twice r LatchOutput ≡ false) [ Input ↦ refl | ClockInput ↦ refl | Output ↦ refl | CoverInput ↦ refl | CoverOutput ↦ refl | LatchInput ↦ refl | LatchOutput ↦ refl | Control ↦ refl ]) had x
listed_is Control had x = listed_none Control (λ r. elim r as (λ r. lists_twice r Control ≡ false) [ Input ↦ refl | ClockInput ↦ refl | Output ↦ refl | CoverInput ↦ refl | CoverOutput ↦ refl | LatchInput ↦ refl | LatchOutput ↦ refl | Control ↦ refl ]) had x

-- names in a role
pub names_among : (test : Role → Bool) (had : List Use) (x : Word) → is_among (names_in test had) x ≡ plays test had x
names_among test [] x = refl
names_among test (u ∷ us) x = at (test u.role) refl (names_among test us x)
  where
    at : (t : Bool) → test u.role ≡ t → is_among (names_in test us) x ≡ plays test us x → is_among (names_in test (u ∷ us)) x ≡ plays test (u ∷ us) x
    at true e ih = rw e (ap (λ b. is_word x u.name || b) ih ∙ ap (λ b. b || plays test us x) (word_turned x u.name))
    at false e ih = rw e ih

pub names_more : (test : Role → Bool) (had : List Use) (u : Use) → names_in test (had ++ u ∷ []) ≡ names_in test had ++ (if test u.role then u.name ∷ [] else [])
names_more test [] u = at (test u.role) refl
  where
    at : (t : Bool) → test u.role ≡ t → names_in test (u ∷ []) ≡ (if test u.role then u.name ∷ [] else [])
    at true e = rw e refl
    at false e = rw e refl
names_more test (v ∷ vs) u = at (test v.role) refl (names_more test vs u)
  where
    at : (t : Bool) → test v.role ≡ t → names_in test (vs ++ u ∷ []) ≡ names_in test vs ++ (if test u.role then u.name ∷ [] else []) → names_in test ((v ∷ vs) ++ u ∷ []) ≡ names_in test (v ∷ vs) ++ (if test u.role then u.name ∷ [] else [])
    at true e ih = rw e (ap (λ xs. v.name ∷ xs) ih)
    at false e ih = rw e ih

pub distinct_more : (xs : List Word) (x : Word) → distinct_count (xs ++ x ∷ []) ≡ (if is_among xs x then distinct_count xs else distinct_count xs + 1)
distinct_more [] x = refl
distinct_more (y ∷ ys) x = at (is_among ys y) (is_word x y) refl refl (distinct_more ys x)
  where
    before : (b w : Bool) → is_among ys y ≡ b → is_word x y ≡ w → is_among (ys ++ x ∷ []) y ≡ (b || w)
    before b w e f = among_more ys x y ∙ ap (λ t. t || is_word y x) e ∙ ap (λ t. b || t) (word_turned y x ∙ f)

    same_among : is_word x y ≡ true → is_among ys y ≡ true → is_among ys x ≡ true
    same_among f e = let same : x ≡ y = same_word x y f in ap (is_among ys) same ∙ e

    at : (b w : Bool) → is_among ys y ≡ b → is_word x y ≡ w → distinct_count (ys ++ x ∷ []) ≡ (if is_among ys x then distinct_count ys else distinct_count ys + 1) → distinct_count ((y ∷ ys) ++ x ∷ []) ≡ (if is_among (y ∷ ys) x then distinct_count (y ∷ ys) else distinct_count (y ∷ ys) + 1)
    at true true e f ih = rw (before true true e f, e, f) (ih ∙ rw (same_among f e) refl)
    at true false e f ih = rw (before true false e f, e, f) ih
    at false true e f ih = rw (before false true e f, e, f) (ih ∙ rw (others e f) (omega arith))
      where
        others : is_among ys y ≡ false → is_word x y ≡ true → is_among ys x ≡ false
        others e f = let same : x ≡ y = same_word x y f in ap (is_among ys) same ∙ e
    at false false e f ih = rw (before false false e f, e, f) (at_last (is_among ys x) refl ih)
      where
        at_last : (t : Bool) → is_among ys x ≡ t → distinct_count (ys ++ x ∷ []) ≡ (if is_among ys x then distinct_count ys else distinct_count ys + 1) → 1 + distinct_count (ys ++ x ∷ []) ≡ (if is_among ys x then 1 + distinct_count ys else (1 + distinct_count ys) + 1)
        at_last true g ih = let now : distinct_count (ys ++ x ∷ []) ≡ distinct_count ys = rw g at ih in rw g (ap (λ n. 1 + n) now)
        at_last false g ih = let now : distinct_count (ys ++ x ∷ []) ≡ distinct_count ys + 1 = rw g at ih in rw g (omega arith)
