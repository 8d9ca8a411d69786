-- How many tries are allowed, as work goes on.
use Rattle.std.proofs.Common.{◌≡◌, ◌≤◌, ◌+◌, ◌-◌, ◌*◌, ℕ, ◌⊎◌, inl, inr, refl, arith}
use Rattle.rm_base.specs.Work.{IsWorkedOff}
use Rattle.rm_base.specs.declared.settings.Settings.{Settings}
use Rattle.optimisation.specs.Allowed.{IsAllowed}

-- a limit of work that is reached stays so
pub worked_on : (settings : Settings) (work more : ℕ) → IsWorkedOff settings work → work ≤ more → IsWorkedOff settings more
worked_on settings work more over le = let reached : settings.work * 1000000 ≤ work = over.1 in (over.0, omega (arith, reached, le))

-- at first as many are allowed as the settings say
pub allowed_first : (settings : Settings) (work : ℕ) → IsAllowed settings settings.tries work
allowed_first settings work = record { within = omega arith; cut_short = inl refl }

-- and then as many as before, or fewer once the work has reached its limit
pub allowed_on : (settings : Settings) (limit less work more : ℕ) → IsAllowed settings limit work → less ≤ limit → (less ≡ limit) ⊎ IsWorkedOff settings more → work ≤ more → IsAllowed settings less more
allowed_on settings limit less work more a le why grown = record { within = omega (arith, a.within, le); cut_short = cause why a.cut_short }
  where
    cause : (less ≡ limit) ⊎ IsWorkedOff settings more → (limit ≡ settings.tries) ⊎ IsWorkedOff settings work → (less ≡ settings.tries) ⊎ IsWorkedOff settings more
    cause (inr over) all = inr over
    cause (inl same) (inl whole) = inl (omega (arith, same, whole))
    cause (inl same) (inr over) = inr (worked_on settings work more over grown)

-- the same where only the work goes on
pub allowed_still : (settings : Settings) (limit work more : ℕ) → IsAllowed settings limit work → work ≤ more → IsAllowed settings limit more
allowed_still settings limit work more a grown = allowed_on settings limit limit work more a (omega arith) (inl refl) grown

-- so many tries were made, and a further call was allowed so many of those that were left
pub allowed_then : (settings : Settings) (limit used less work more : ℕ) → IsAllowed settings limit work → used ≤ limit → IsAllowed (record settings { tries = limit - used }) less more → work ≤ more → IsAllowed settings (used + less) more
allowed_then settings limit used less work more a le b grown =
    let within : less ≤ limit - used = b.within in
    allowed_on settings limit (used + less) work more a (omega (arith, within, le)) (cause b.cut_short) grown
  where
    cause : (less ≡ limit - used) ⊎ IsWorkedOff settings more → (used + less ≡ limit) ⊎ IsWorkedOff settings more
    cause (inl whole) = inl (omega (arith, whole, le))
    cause (inr over) = inr over
