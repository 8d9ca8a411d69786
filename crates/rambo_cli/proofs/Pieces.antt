-- What a read of one byte more than a text may have says of the file.
use Rattle.std.proofs.Common.{◌≡◌, ◌≤◌, ◌<◌, ◌+◌, ℕ, List, take, length, refl, sym, subst, arith, inl, inr, Result, Ok, Err, length-take}
use Rattle.std.specs.Prelude.{Option, None, Some, IfErr, IfOk, IfSome, IsSomeAnd}
use Rattle.std.proofs.lemmas.List.{take_all}
use Rattle.rm_base.specs.Files.{Files, file_of}
use Rattle.rm_base.specs.declared.numbers.Place.{Place}
use Rattle.blif_format.specs.declared.refusal.FaultKind.{FaultKind}
use Rattle.blif_format.specs.declared.refusal.Quantity.{Quantity}
use Rattle.rm_model.specs.declared.parts.Model.{Model}
use Rattle.rambo_cli.specs.Written.{IsSaid, HasFault, ExceedsBy, IsLong, ExceedsAt, HasManyPins}
use Rattle.rambo_cli.specs.Files.{Holds}
use Rattle.rambo_cli.specs.Input.{CauseBy}
use Rattle.rambo_cli.specs.Inner.Problems.{TextCause}
use Rattle.rambo_cli.specs.declared.problem.Problem.{Problem}
use Rattle.rambo_cli.specs.declared.problem.Problem.TheVariants.{Words, Text, Limit, Missing, Fault, Journal, Record, Netlist, Second, Unlike, CareShape, Window, Proof, Memory}
use Rattle.rm_base.specs.Words.{Word}

pub shorter : (n : ℕ) (xs : List ℕ) → length (take (n + 1) xs) ≤ n → take (n + 1) xs ≡ xs
shorter n xs h = take_all (n + 1) xs (omega (arith, length-take (n + 1) xs))

pub longer : (n most : ℕ) (xs : List ℕ) → most < length (take n xs) → most < length xs
longer n most xs h = omega (arith, length-take n xs)

pub said_whole : (model : Model) (bytes : List ℕ) → IsSaid (take 16777217 bytes) model → IsSaid bytes model
said_whole model bytes h = subst (λ (text : List ℕ). IsSaid text model) (shorter 16777216 bytes h.short) h

pub fault_whole : (kind : FaultKind) (place : Place) (bytes : List ℕ) → HasFault (take 16777217 bytes) kind place → HasFault bytes kind place
fault_whole kind place bytes h = subst (λ (text : List ℕ). HasFault text kind place) (shorter 16777216 bytes h.short) h

pub long_whole : (quantity : Quantity) (count : ℕ) (bytes : List ℕ) → IsLong (take 16777217 bytes) quantity count → IsLong bytes quantity count
long_whole quantity count bytes h = record { long = longer 16777217 16777216 bytes h.long; named = h.named; counted = h.counted }

pub exceeds_whole : (wires : Model → ℕ) (quantity : Quantity) (count : ℕ) (bytes : List ℕ) → ExceedsBy wires (take 16777217 bytes) quantity count → ExceedsBy wires bytes quantity count
exceeds_whole wires quantity count bytes h = elim h [
  | inl long ↦ inl (long_whole quantity count bytes long)
  | inr short ↦ elim short [
    | inl at ↦ inr (inl (subst (λ (text : List ℕ). ExceedsAt text quantity count) (shorter 16777216 bytes at.short) at))
    | inr pins ↦ inr (inr (subst (λ (text : List ℕ). HasManyPins wires text quantity count) (shorter 16777216 bytes pins.short) pins))
  ]
]

some_and : (P Q : List ℕ → Type 0) → ((bytes : List ℕ) → P bytes → Q bytes) → (o : Option (List ℕ)) → IsSomeAnd o P → IsSomeAnd o Q
some_and P Q f None h = absurd h
some_and P Q f (Some bytes) h = f bytes h

-- what holds of the file that was read
pub held : (P Q : List ℕ → Type 0) → ((bytes : List ℕ) → P bytes → Q bytes) → (files : Option Files) (name : Word) → IfSome files (λ told. Holds told name P) → IfSome files (λ told. Holds told name Q)
held P Q f None name h = tt
held P Q f (Some told) name h = some_and P Q f (file_of told name) h

-- why the bytes of the file aren't read is why its whole text isn't
cause_whole : (wires : Model → ℕ) (problem : Problem) (text bytes : List ℕ) (name : Word) (before now : ℕ) (told : Files) → file_of told name ≡ Some bytes → text ≡ take 16777217 bytes → TextCause wires text problem → CauseBy wires name (Some told) before now problem
cause_whole wires (Text kind place) text bytes name before now told at e h =
    subst (λ (o : Option (List ℕ)). IsSomeAnd o (λ t. HasFault t kind place)) (sym at) (fault_whole kind place bytes (subst (λ (t : List ℕ). HasFault t kind place) e h))
cause_whole wires (Limit quantity count) text bytes name before now told at e h =
    subst (λ (o : Option (List ℕ)). IsSomeAnd o (λ t. ExceedsBy wires t quantity count)) (sym at) (exceeds_whole wires quantity count bytes (subst (λ (t : List ℕ). ExceedsBy wires t quantity count) e h))
cause_whole wires Memory text bytes name before now told at e h = tt
cause_whole wires Words text bytes name before now told at e h = absurd h
cause_whole wires Missing text bytes name before now told at e h = absurd h
cause_whole wires Fault text bytes name before now told at e h = absurd h
cause_whole wires (Journal f) text bytes name before now told at e h = absurd h
cause_whole wires (Record r) text bytes name before now told at e h = absurd h
cause_whole wires (Netlist byte) text bytes name before now told at e h = absurd h
cause_whole wires (Second found) text bytes name before now told at e h = absurd h
cause_whole wires (Unlike list place) text bytes name before now told at e h = absurd h
cause_whole wires CareShape text bytes name before now told at e h = absurd h
cause_whole wires (Window number stop) text bytes name before now told at e h = absurd h
cause_whole wires (Proof found) text bytes name before now told at e h = absurd h

-- where nothing is told, nothing is said but of memory and faults
cause_untold : (wires : Model → ℕ) (problem : Problem) (text : List ℕ) (name : Word) (before now : ℕ) → TextCause wires text problem → CauseBy wires name None before now problem
cause_untold wires (Text kind place) text name before now h = tt
cause_untold wires (Limit quantity count) text name before now h = tt
cause_untold wires Memory text name before now h = tt
cause_untold wires Words text name before now h = absurd h
cause_untold wires Missing text name before now h = absurd h
cause_untold wires Fault text name before now h = absurd h
cause_untold wires (Journal f) text name before now h = absurd h
cause_untold wires (Record r) text name before now h = absurd h
cause_untold wires (Netlist byte) text name before now h = absurd h
cause_untold wires (Second found) text name before now h = absurd h
cause_untold wires (Unlike list at) text name before now h = absurd h
cause_untold wires CareShape text name before now h = absurd h
cause_untold wires (Window number stop) text name before now h = absurd h
cause_untold wires (Proof found) text name before now h = absurd h

cause_at : (wires : Model → ℕ) (problem : Problem) (text : List ℕ) (name : Word) (before now : ℕ) (told : Files) (o : Option (List ℕ)) → file_of told name ≡ o → IsSomeAnd o (λ bytes. text ≡ take 16777217 bytes) → TextCause wires text problem → CauseBy wires name (Some told) before now problem
cause_at wires problem text name before now told None at found h = absurd found
cause_at wires problem text name before now told (Some bytes) at found h = cause_whole wires problem text bytes name before now told at found h

pub text_cause : (wires : Model → ℕ) (problem : Problem) (text : List ℕ) (files : Option Files) (name : Word) (before now : ℕ) → IfSome files (λ told. Holds told name (λ bytes. text ≡ take 16777217 bytes)) → TextCause wires text problem → CauseBy wires name files before now problem
text_cause wires problem text None name before now found h = cause_untold wires problem text name before now h
text_cause wires problem text (Some told) name before now found h = cause_at wires problem text name before now told (file_of told name) refl found h

-- the model that was read is that of the whole text
pub read_said : (r : Result Model Problem) (text : List ℕ) (files : Option Files) (name : Word) → IfSome files (λ told. Holds told name (λ bytes. text ≡ take 16777217 bytes)) → IfOk r (λ m. IsSaid text m)
    → IfOk r (λ m. IfSome files (λ told. Holds told name (λ bytes. IsSaid bytes m)))
read_said (Err p) text files name found h = tt
read_said (Ok m) text files name found h =
    held (λ bytes. text ≡ take 16777217 bytes) (λ bytes. IsSaid bytes m) (λ bytes e. said_whole m bytes (subst (λ (t : List ℕ). IsSaid t m) e h)) files name found

-- and so is the reason against one
pub read_cause : (wires : Model → ℕ) (r : Result Model Problem) (text : List ℕ) (files : Option Files) (name : Word) (before now : ℕ) → IfSome files (λ told. Holds told name (λ bytes. text ≡ take 16777217 bytes)) → IfErr r (TextCause wires text) → IfErr r (CauseBy wires name files before now)
read_cause wires (Ok m) text files name before now found h = tt
read_cause wires (Err p) text files name before now found h = text_cause wires p text files name before now found h
