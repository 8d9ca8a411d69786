-- What stands for a window, by what its journal leads to.
use Rattle.std.proofs.Common.{◌≡◌, Option, None, Some, Result, Ok, Err, Bool, false, inl, inr, subst, sym}
use Rattle.std.specs.Prelude.{IfOk, IfSome}
use Rattle.rm_base.specs.Files.{Files, file_of}
use Rattle.rm_base.specs.Words.{Word}
use Rattle.rm_model.specs.declared.parts.Model.{Model}
use Rattle.window_parts.specs.Part.{HasNoByte, IsLeft, IsLedTo, IsPartOf, IsReplayed, IsWithinRun}

-- over a limit
pub over_left : (w : Model) (journal : Word) (files : Option Files) → (IsWithinRun w → ⊥) → IfSome files (IsLeft w journal)
over_left w journal None over = tt
over_left w journal (Some told) over = inl over

-- without a journal
pub missing_left : (w : Model) (journal : Word) (files : Option Files) → IfSome files (λ told. file_of told journal ≡ None) → IfSome files (IsLeft w journal)
missing_left w journal None missing = tt
missing_left w journal (Some told) missing = inr (inl missing)

-- or with one that has no byte
pub empty_left : (w : Model) (journal : Word) (files : Option Files) → IfSome files (HasNoByte journal) → IfSome files (IsLeft w journal)
empty_left w journal None empty = tt
empty_left w journal (Some told) empty = inr empty

led_replayed : (w : Model) (journal : Word) (files : Option Files) (part : Model) → IsWithinRun w → IfSome files (IsLedTo w journal part) → IfSome files (IsReplayed w journal part)
led_replayed w journal None part within led = tt
led_replayed w journal (Some told) part within led = record { within = within; led = led }

-- replayed
pub all_replayed : {E : Type 0} (w m : Model) (journal : Word) (files : Option Files) (r : Result (Option Model) E) → m ≡ w → IsWithinRun w → IfOk r (λ found. IfSome found (λ part. IfSome files (IsLedTo m journal part)))
    → IfOk r (λ found. IfSome found (λ part. IfSome files (IsReplayed w journal part)))
all_replayed w m journal files (Err e) same within led = tt
all_replayed w m journal files (Ok None) same within led = tt
all_replayed w m journal files (Ok (Some part)) same within led = led_replayed w journal files part within (subst (λ (x : Model). IfSome files (IsLedTo x journal part)) same led)

kept_stays : (w : Model) (journal : Word) (files : Option Files) (part : Model) → part ≡ w → IfSome files (IsLeft w journal) → IfSome files (IsPartOf w journal part false)
kept_stays w journal None part same left = tt
kept_stays w journal (Some told) part same left = record { same = same; left = left }

-- the window itself
pub stays_part : (w : Model) (journal : Word) (files : Option Files) (part : Model) (replayed : Bool) → part ≡ w → replayed ≡ false → IfSome files (IsLeft w journal) → IfSome files (IsPartOf w journal part replayed)
stays_part w journal files part replayed same none left = subst (λ (b : Bool). IfSome files (IsPartOf w journal part b)) (sym none) (kept_stays w journal files part same left)
