-- A journal that is read piece by piece.
use Rattle.std.proofs.Common.{◌≡◌, ℕ, ◌+◌, ◌^◌, ◌<◌, ◌≤◌, List, [], ◌∷◌, ◌++◌, length, Option, None, Some, IfSome, IsSome, refl, ap, sym, subst, ◌∙◌, arith}
use Rattle.std.proofs.lemmas.List.{length-append}
use Rattle.std.specs.Option.{option_map}
use Rattle.rm_base.specs.Files.{Files, file_of}
use Rattle.rm_base.specs.Words.{Word}
use Rattle.rm_model.specs.declared.parts.Model.{Model}
use Rattle.wire_edit.specs.declared.steps.Step.{Step}
use Rattle.cover_decompose.specs.Decomposition.{net_of_model}
use Rattle.file_pieces.specs.Pieces.{ComesNext, FileBegins, IsFurther, IsReadSoFar, StopsBy}
use Rattle.file_pieces.specs.declared.PieceProblem.{PieceProblem}
use Rattle.file_pieces.specs.declared.PieceProblem.TheVariants.{Failed, Missing, NoMemory, TooLong}
use Rattle.journal_text.specs.declared.record.Record.{Record}
use Rattle.journal_text.specs.declared.reader.Awaited.TheVariants as awaited
use Rattle.journal_reading.specs.Laws.{CutsAgree}
use Rattle.journal_reading.specs.Streams.{GivesNone, Pending, empty_reader}
use Rattle.step_replay.specs.Rebuilding.{AreAcceptedSteps}
use Rattle.accepted_steps.specs.Taken.{AreLed, NotTaken, TakenFrom}
use Rattle.accepted_steps.specs.Inner.Stops.{stop_of}
use Rattle.accepted_steps.specs.Inner.Taking.{EndsSo, IsTaking, IsTakenSoFar, IsTakenWith, PieceSays, TakenAt, TakesLast, TurnSays}
use Rattle.accepted_steps.specs.declared.stop.Ended.{Ended}
use Rattle.accepted_steps.specs.declared.stop.Stop.{Stop}
use Rattle.accepted_steps.specs.declared.taking.Taking.{Taking}
use Rattle.accepted_steps.proofs.SoFar.{begins}

-- THE BEGINNING, AND A PIECE MORE
none_first : GivesNone empty_reader
none_first = record { no_line = tt; no_byte = λ e. cc }

pub so_far_first : CutsAgree → (files : Option Files) (m : Model) (journal : Word) (from : ℕ) (p : Pending) (t : Taking) → from ≡ 0 → p ≡ empty_reader → TakenAt m 0 [] awaited.Header t → IsTakenSoFar files m journal from p t
so_far_first cuts files m journal from p t e f h =
    subst (λ (n : ℕ). IsTakenSoFar files m journal n p t) (sym e) (subst (λ (q : Pending). IsTakenSoFar files m journal 0 q t) (sym f)
    (record {
      text = [];
      so_far = record { size = refl; begins = begins_first files };
      taking = begins cuts m t h;
      none = none_first;
    }))
  where
    begins_first : (o : Option Files) → IfSome o (λ told. FileBegins told journal [])
    begins_first None = tt
    begins_first (Some told) = λ bytes there. (bytes, refl)

-- THE STEPS ARE TAKEN
accepted_led : (m : Model) (b : ℕ) (rs : List Record) (steps : List Step) → AreLed m b rs steps → AreAcceptedSteps (net_of_model m) steps
accepted_led m b rs steps led = record { records = rs; last = led.last; are = led.are; led = led.accepted }

pub accepted_ended : (m : Model) (text : List ℕ) (steps : List Step) (ended : Ended) → EndsSo m text steps ended → AreAcceptedSteps (net_of_model m) steps
accepted_ended m text steps ended so =
    let at = so [] in
    accepted_led m at.0 at.1.0 steps at.1.1.0

pub accepted_last : (m : Model) (text : List ℕ) (p : Pending) (t : Taking) (stop : Option Stop) → IsTaking m text p t → TakesLast p stop → AreAcceptedSteps (net_of_model m) t.steps.items
accepted_last m text p t stop j last =
    let at = last m text t j in
    accepted_led m at.0 at.1.0 t.steps.items at.1.1.0

file_begins : (told : Files) (journal : Word) (text : List ℕ) (o : Option (List ℕ)) → file_of told journal ≡ o → IsSome o → FileBegins told journal text → (more : List ℕ) × (file_of told journal ≡ Some (text ++ more))
file_begins told journal text None e there begins = cc
file_begins told journal text (Some bytes) e there begins =
    let rest = begins bytes e in
    (rest.0, e ∙ ap (λ (xs : List ℕ). Some xs) rest.1)

pub told_ended : (files : Option Files) (m : Model) (journal : Word) (text : List ℕ) (now : ℕ) (steps : List Step) (ended : Ended) → IsReadSoFar files journal text now → IfSome files (λ told. IsSome (file_of told journal)) → EndsSo m text steps ended → IfSome files (TakenFrom m journal steps (stop_of ended))
told_ended None m journal text now steps ended r there so = tt
told_ended (Some told) m journal text now steps ended r there so =
    let at = file_begins told journal text (file_of told journal) refl there r.begins in
    let ends = so at.0 in
    (text ++ at.0, (at.1, record { budget = ends.0; records = ends.1.0; led = ends.1.1.0; ends = ends.1.1.1 }))

pub told_last : (files : Option Files) (m : Model) (journal : Word) (text : List ℕ) (p : Pending) (t : Taking) (stop : Option Stop) → IfSome files (λ told. file_of told journal ≡ Some text) → IsTaking m text p t → TakesLast p stop → IfSome files (TakenFrom m journal t.steps.items stop)
told_last None m journal text p t stop there j last = tt
told_last (Some told) m journal text p t stop there j last =
    let ends = last m text t j in
    (text, (there, record { budget = ends.0; records = ends.1.0; led = ends.1.1.0; ends = ends.1.1.1 }))

-- NO STEPS ARE TAKEN
pub not_taken : (files : Option Files) (journal : Word) (text : List ℕ) (e : PieceProblem) → StopsBy files journal text e → IfSome files (λ told. NotTaken journal told e)
not_taken None journal text e h = tt
not_taken (Some told) journal text Failed h = tt
not_taken (Some told) journal text Missing h = h.1
not_taken (Some told) journal text TooLong h = (h.0, (h.1.0, h.1.1.0))
not_taken (Some told) journal text NoMemory h = tt

-- ONE TURN
pub no_piece : {A : Type 0} (f : A → List ℕ) (o : Option A) (files : Option Files) (journal : Word) (text : List ℕ) (now : ℕ) → o ≡ None → ComesNext files journal text now (option_map f o) → IfSome files (λ told. file_of told journal ≡ Some text)
no_piece {A = A} f o files journal text now e h = subst (λ (x : Option A). ComesNext files journal text now (option_map f x)) e h

pub one_piece : {A : Type 0} (f : A → List ℕ) (o : Option A) (a : A) (files : Option Files) (journal : Word) (text : List ℕ) (now : ℕ) → o ≡ Some a → ComesNext files journal text now (option_map f o) → IsReadSoFar files journal (text ++ f a) now
one_piece {A = A} f o a files journal text now e h =
    let at : ComesNext files journal text now (Some (f a)) = subst (λ (x : Option A). ComesNext files journal text now (option_map f x)) e h in
    at.0

pub further : {A : Type 0} (f : A → List ℕ) (o : Option A) (a : A) (old now : ℕ) → o ≡ Some a → IsFurther old now (option_map f o) → old < now
further {A = A} f o a old now e h = subst (λ (x : Option A). IsFurther old now (option_map f x)) e h

pub within : (files : Option Files) (journal : Word) (text piece shown : List ℕ) (now : ℕ) → IsReadSoFar files journal (text ++ piece) now → now ≤ 2 ^ 62 → shown ≡ piece → length text + length shown ≤ 2 ^ 62
within files journal text piece shown now r l e =
    let a : length (text ++ piece) ≡ length text + length piece = length-append text piece in
    let b : length shown ≡ length piece = ap (λ (xs : List ℕ). length xs) e in
    omega (arith, r.size, l, a, b)

pub turn_last : (files : Option Files) (m : Model) (journal : Word) (from : ℕ) (p : Pending) (t : Taking) (stop : Option Stop) → (s : IsTakenSoFar files m journal from p t) → IfSome files (λ told. file_of told journal ≡ Some s.text) → TakesLast p stop → IsTakenWith files m journal t.steps.items stop
turn_last files m journal from p t stop s there last = record {
  accepted = accepted_last m s.text p t stop s.taking last;
  told = told_last files m journal s.text p t stop there s.taking last;
}

turn_case : (files : Option Files) (m : Model) (journal : Word) (text : List ℕ) (old now : ℕ) (p : Pending) (t : Taking) (ended : Option Ended) → IsReadSoFar files journal text now → old < now → IfSome files (λ told. IsSome (file_of told journal)) → PieceSays m text p t ended → TurnSays files m journal old now p t (option_map stop_of ended)
turn_case files m journal text old now p t None r l there says = (record { text = text; so_far = r; taking = says.0; none = says.1 }, l)
turn_case files m journal text old now p t (Some ended) r l there says = record {
  accepted = accepted_ended m text t.steps.items ended says;
  told = told_ended files m journal text now t.steps.items ended r there says;
}

pub turn_goes : (files : Option Files) (m : Model) (journal : Word) (piece shown : List ℕ) (old now : ℕ) (p q : Pending) (t u : Taking) (ended : Option Ended) (told : Option (Option Stop)) → (s : IsTakenSoFar files m journal old p t) → IsReadSoFar files journal (s.text ++ piece) now → old < now → now ≤ 2 ^ 62
    → IfSome files (λ told. IsSome (file_of told journal)) → shown ≡ piece → ((text : List ℕ) → IsTaking m text p t → length text + length shown ≤ 2 ^ 62 → PieceSays m (text ++ shown) q u ended) → told ≡ option_map stop_of ended → TurnSays files m journal old now q u told
turn_goes files m journal piece shown old now p q t u ended told s r l most there e says is =
    let so : PieceSays m (s.text ++ shown) q u ended = says s.text s.taking (within files journal s.text piece shown now r most e) in
    let at : PieceSays m (s.text ++ piece) q u ended = subst (λ (xs : List ℕ). PieceSays m (s.text ++ xs) q u ended) e so in
    subst (TurnSays files m journal old now q u) (sym is) (turn_case files m journal (s.text ++ piece) old now q u ended r l there at)
