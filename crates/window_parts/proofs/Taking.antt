-- What was found of a journal, as it is told of its window.
use Rattle.std.proofs.Common.{◌≡◌, ◌≢◌, ◌∙◌, List, Option, None, Some, Result, Ok, Err, subst, sym}
use Rattle.std.specs.Prelude.{IfErr, IfSome, IsErrAnd}
use Rattle.rm_base.specs.Files.{Files}
use Rattle.rm_base.specs.Words.{Word}
use Rattle.rm_model.specs.declared.parts.Model.{Model}
use Rattle.wire_edit.specs.declared.steps.Step.{Step}
use Rattle.file_pieces.specs.declared.PieceProblem.{PieceProblem}
use Rattle.accepted_steps.specs.Taken.{NotTaken, TakenFrom}
use Rattle.accepted_steps.specs.declared.stop.Stop.{Stop}
use Rattle.window_parts.specs.Part.{ComesOf, IsLedTo}
use Rattle.window_parts.specs.Refusals.{IsRefusedPart}
use Rattle.window_parts.specs.Inner.Stops.{StoppedBy}
use Rattle.window_parts.specs.declared.refusal.PartRefusal.{PartRefusal}
use Rattle.window_parts.specs.declared.refusal.PartRefusal.TheVariants.{Fault, Journal, NoMemory}

-- the steps of a journal that nothing stops
pub taken_whole : (w : Model) (journal : Word) (files : Option Files) (xs ys : List Step) (stop : Option Stop) → ys ≡ xs → stop ≡ None → IfSome files (TakenFrom w journal xs stop) → IfSome files (TakenFrom w journal ys None)
taken_whole w journal files xs ys stop same none taken =
    subst (λ (l : List Step). IfSome files (TakenFrom w journal l None)) (sym same) (subst (λ (s : Option Stop). IfSome files (TakenFrom w journal xs s)) none taken)

refused_stop : (w : Model) (journal : Word) (files : Option Files) (xs : List Step) (stop : Stop) → IfSome files (TakenFrom w journal xs (Some stop)) → IfSome files (IsRefusedPart w journal (Journal stop))
refused_stop w journal None xs stop taken = tt
refused_stop w journal (Some told) xs stop taken = (xs, taken)

-- or what stops them
pub refused_by : (w : Model) (journal : Word) (files : Option Files) (xs : List Step) (stop : Option Stop) (e : PartRefusal) → StoppedBy stop e → IfSome files (TakenFrom w journal xs stop) → IfSome files (IsRefusedPart w journal e)
refused_by w journal files xs None e by taken = absurd by
refused_by w journal files xs (Some stop) e by taken = subst (λ (p : PartRefusal). IfSome files (IsRefusedPart w journal p)) (sym by) (refused_stop w journal files xs stop taken)

-- which is no fault of the store
pub stop_is_no_fault : (stop : Option Stop) (e : PartRefusal) → StoppedBy stop e → e ≢ Fault
stop_is_no_fault None e by = absurd by
stop_is_no_fault (Some stop) e by = λ same. let bad : Journal stop ≡ Fault = sym by ∙ same in absurd cc

-- why no steps were taken
pub not_taken_for : (journal : Word) (files : Option Files) (p q : PieceProblem) → p ≡ q → IfSome files (λ told. NotTaken journal told p) → IfSome files (λ told. NotTaken journal told q)
not_taken_for journal files p q same why = subst (λ (x : PieceProblem). IfSome files (λ told. NotTaken journal told x)) same why

-- what holds of the error holds of the answer that hands it on
pub handed_on : {V E : Type 0} (r : Result V E) (e : E) (P : E → Type 0) → IsErrAnd r (λ q. q ≡ e) → P e → IfErr r P
handed_on (Ok x) e P h p = tt
handed_on (Err q) e P h p = subst P (sym h) p

-- and such an answer is no other
pub handed_error : {V E : Type 0} (r : Result V E) (e q : E) → IsErrAnd r (λ q. q ≡ e) → r ≡ Err q → e ≡ q
handed_error (Ok x) e q h s = absurd h
handed_error (Err p) e q h s = let same : p ≡ q = cc in sym h ∙ same

pub handed_not_ok : {V E : Type 0} (r : Result V E) (e : E) (x : V) → IsErrAnd r (λ q. q ≡ e) → r ≢ Ok x
handed_not_ok (Ok y) e x h = absurd h
handed_not_ok (Err p) e x h = λ s. absurd cc

-- want of memory says nothing of the journal
pub memory_refused : (w : Model) (journal : Word) (files : Option Files) → IfSome files (IsRefusedPart w journal NoMemory)
memory_refused w journal None = tt
memory_refused w journal (Some told) = tt

pub memory_is_no_fault : {V : Type 0} (r : Result V PartRefusal) → IsErrAnd r (λ q. q ≡ NoMemory) → r ≢ Err Fault
memory_is_no_fault r h same = let bad : NoMemory ≡ Fault = handed_error r NoMemory Fault h same in absurd cc

-- the part that was made of the steps
pub led_to : (w : Model) (journal : Word) (files : Option Files) (xs ys : List Step) (part : Model) → ys ≡ xs → IfSome files (TakenFrom w journal xs None) → ComesOf w ys part → IfSome files (IsLedTo w journal part)
led_to w journal None xs ys part same taken comes = tt
led_to w journal (Some told) xs ys part same taken comes = record { steps = xs; taken = taken; comes = subst (λ (l : List Step). ComesOf w l part) same comes }

-- what is there has what is said of all that is there
pub held_of : {A : Type 0} (o : Option A) (x : A) (P : A → Type 0) → o ≡ Some x → IfSome o P → P x
held_of {A = A} o x P is h = subst (λ (p : Option A). IfSome p P) is h
