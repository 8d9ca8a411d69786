-- A text that is read piece by piece, its faults, and those of the file that begins with it.
use Rattle.std.proofs.Common.{◌≡◌, ◌≢◌, ℕ, ◌^◌, ◌≤◌, List, [], ◌++◌, length, Option, Some, None, IfSome, IsSome, Result, Err, refl, sym, subst, arith}
use Rattle.rm_base.specs.Files.{Files, file_of}
use Rattle.rm_base.specs.Words.{Word}
use Rattle.file_pieces.specs.Pieces.{ComesNext, FileBegins, IsReadSoFar, IsTooLong, StopsBy}
use Rattle.file_pieces.specs.declared.PieceProblem.{PieceProblem}
use Rattle.file_pieces.specs.declared.PieceProblem.TheVariants as piece
use Rattle.journal_text.specs.Cutting.{CutsAgree}
use Rattle.journal_text.specs.Faults.{IsFault, IsJournal}
use Rattle.journal_text.specs.Streams.{FinishGives, GivesNone, IsReadTo, NextGives, Pending, empty_reader}
use Rattle.journal_text.specs.declared.record.Record.{Record}
use Rattle.journal_text.specs.declared.faults.JournalFault.{JournalFault}
use Rattle.journal_text.specs.declared.faults.JournalFault.TheVariants as fault
use Rattle.journal_convert.specs.Converting.{NotConverted}
use Rattle.journal_convert.specs.Problems.{of_fault, of_piece}
use Rattle.journal_convert.specs.Inner.Pieces.{EndSays, IsConverting, IsFaultOf, ReadFrom}
use Rattle.journal_convert.specs.declared.problem.ConvertProblem.{ConvertProblem}
use Rattle.journal_convert.specs.declared.problem.ConvertProblem.TheVariants as problem

-- what stops the entries of a piece
pub line_fault : CutsAgree → (text : List ℕ) (b : ℕ) (rs : List Record) (old new : Pending) (f : JournalFault) → IsReadTo text b rs old → length text ≤ 2 ^ 62 → NextGives old new (Err f) → IsFaultOf text (of_fault f)
line_fault laws text b rs old new (fault.BadHeader n) r l g = λ more. laws.faults text more b rs old new (fault.BadHeader n) r (omega (arith, l)) g (λ e. cc)
line_fault laws text b rs old new (fault.BadRecord n) r l g = λ more. laws.faults text more b rs old new (fault.BadRecord n) r (omega (arith, l)) g (λ e. cc)
line_fault laws text b rs old new (fault.Truncated n) r l g = absurd g
line_fault laws text b rs old new (fault.AfterEnd n) r l g = λ more. laws.faults text more b rs old new (fault.AfterEnd n) r (omega (arith, l)) g (λ e. cc)
line_fault laws text b rs old new fault.NoMemory r l g = tt

-- what is wrong at its end
pub end_fault : CutsAgree → (text : List ℕ) (b : ℕ) (rs : List Record) (p : Pending) (f : JournalFault) → IsReadTo text b rs p → length text ≤ 2 ^ 62 → GivesNone p → FinishGives p f → EndSays text b rs (Err (of_fault f))
end_fault laws text b rs p (fault.Truncated n) r l g e = laws.cuts text b rs p (fault.Truncated n) r (omega (arith, l)) g e
end_fault laws text b rs p (fault.BadHeader n) r l g e = absurd e
end_fault laws text b rs p (fault.BadRecord n) r l g e = absurd e
end_fault laws text b rs p (fault.AfterEnd n) r l g e = absurd e
end_fault laws text b rs p fault.NoMemory r l g e = absurd e

never_missing : (text : List ℕ) (b : ℕ) (rs : List Record) (e : ConvertProblem) → EndSays text b rs (Err e) → e ≢ problem.Missing
never_missing text b rs problem.Failed h = absurd h
never_missing text b rs problem.Missing h = absurd h
never_missing text b rs problem.TooLong h = absurd h
never_missing text b rs (problem.Text f) h = λ e. cc
never_missing text b rs problem.NoMemory h = λ e. cc

never_failed : (text : List ℕ) (b : ℕ) (rs : List Record) (e : ConvertProblem) → EndSays text b rs (Err e) → e ≢ problem.Failed
never_failed text b rs problem.Failed h = absurd h
never_failed text b rs problem.Missing h = absurd h
never_failed text b rs problem.TooLong h = absurd h
never_failed text b rs (problem.Text f) h = λ e. cc
never_failed text b rs problem.NoMemory h = λ e. cc

-- what the end says is neither that the file is missing nor that a call has failed
pub end_missing : {T : Type 0} (text : List ℕ) (b : ℕ) (rs : List Record) (e : ConvertProblem) (r : Result T ConvertProblem) → EndSays text b rs (Err e) → r ≡ Err e → r ≢ Err problem.Missing
end_missing {T} text b rs e r h is m = never_missing text b rs e h (cc)

pub end_failed : {T : Type 0} (text : List ℕ) (b : ℕ) (rs : List Record) (e : ConvertProblem) (r : Result T ConvertProblem) → EndSays text b rs (Err e) → r ≡ Err e → r ≢ Err problem.Failed
end_failed {T} text b rs e r h is m = never_failed text b rs e h (cc)

begins_empty : (files : Option Files) (name : Word) → IfSome files (λ told. FileBegins told name [])
begins_empty None name = tt
begins_empty (Some told) name = λ bytes there. (bytes, refl)

-- before the first piece
pub first : CutsAgree → (files : Option Files) (name : Word) (from : ℕ) (rs : List Record) (p : Pending) → from ≡ 0 → rs ≡ [] → p ≡ empty_reader → IsConverting files name from 0 rs p
first laws files name from rs p e f h =
    rw (e, f, h) (record {
      text = [];
      so_far = record { size = refl; begins = begins_empty files name };
      short = omega arith;
      read = laws.begins;
      none = record { no_line = tt; no_byte = λ n. refl };
    })

-- a piece more is pushed
pub pushed : CutsAgree → (text more : List ℕ) (b : ℕ) (rs : List Record) (old new : Pending) → IsReadTo text b rs old → new ≡ record old { held = old.held ++ more } → IsReadTo (text ++ more) b rs new
pushed laws text more b rs old new r e = rw e (laws.pushes text more b rs old r)

-- it is one of a file that told the same before
pub read_more : (files now : Option Files) (name text more : List ℕ) (next : ℕ) (o : Option (List ℕ)) → now ≡ files → o ≡ Some more → ComesNext now name text next o → IsReadSoFar files name (text ++ more) next
read_more files now name text more next o e is h = rw (sym e) ((subst (λ (p : Option (List ℕ)). ComesNext now name text next p) is h).0)

pub is_there : (files now : Option Files) (name : Word) → now ≡ files → IfSome now (λ told. IsSome (file_of told name)) → IfSome files (λ told. IsSome (file_of told name))
is_there files now name e h = rw (sym e) h

-- or the end
pub is_whole : (files now : Option Files) (name text : List ℕ) (next : ℕ) (o : Option (List ℕ)) → now ≡ files → o ≡ None → ComesNext now name text next o → IfSome files (λ told. file_of told name ≡ Some text)
is_whole files now name text next o e is h = rw (sym e) (subst (λ (p : Option (List ℕ)). ComesNext now name text next p) is h)

pub read_before : (files now : Option Files) (name text : List ℕ) (from : ℕ) → now ≡ files → IsReadSoFar files name text from → IsReadSoFar now name text from
read_before files now name text from e h = rw e h

pub within : (files : Option Files) (name text : List ℕ) (from : ℕ) → from ≤ 2 ^ 62 → IsReadSoFar files name text from → length text ≤ 2 ^ 62
within files name text from l h = subst (λ (n : ℕ). n ≤ 2 ^ 62) (sym h.size) l

found : (o : Option (List ℕ)) → IsSome o → (bytes : List ℕ) × (o ≡ Some bytes)
found None h = absurd (cc)
found (Some bytes) h = (bytes, refl)

fault_of : (told : Files) (name : Word) (text : List ℕ) (e : ConvertProblem) → FileBegins told name text → IsSome (file_of told name) → IsFaultOf text e → NotConverted name told e
fault_of told name text problem.Failed begins there h = absurd h
fault_of told name text problem.Missing begins there h = absurd h
fault_of told name text problem.TooLong begins there h = absurd h
fault_of told name text (problem.Text f) begins there h =
    let file = found (file_of told name) there in
    let rest = begins file.0 file.1 in
    (file.0, (file.1, subst (λ (bytes : List ℕ). IsFault bytes f) (sym rest.1) (h rest.0)))
fault_of told name text problem.NoMemory begins there h = tt

-- a fault of what is read so far is one of the file
pub piece_fault : (files : Option Files) (name : Word) (text : List ℕ) (from : ℕ) (e : ConvertProblem) → IsReadSoFar files name text from → IfSome files (λ told. IsSome (file_of told name)) → IsFaultOf text e → IfSome files (λ told. NotConverted name told e)
piece_fault None name text from e read there h = tt
piece_fault (Some told) name text from e read there h = fault_of told name text e read.begins there h

end_of : (told : Files) (name : Word) (text : List ℕ) (b : ℕ) (rs : List Record) (e : ConvertProblem) → file_of told name ≡ Some text → EndSays text b rs (Err e) → NotConverted name told e
end_of told name text b rs problem.Failed is h = absurd h
end_of told name text b rs problem.Missing is h = absurd h
end_of told name text b rs problem.TooLong is h = absurd h
end_of told name text b rs (problem.Text f) is h = (text, (is, h))
end_of told name text b rs problem.NoMemory is h = tt

-- so is one of the whole
pub whole_fault : (files : Option Files) (name : Word) (text : List ℕ) (b : ℕ) (rs : List Record) (e : ConvertProblem) → IfSome files (λ told. file_of told name ≡ Some text) → EndSays text b rs (Err e) → IfSome files (λ told. NotConverted name told e)
whole_fault None name text b rs e is h = tt
whole_fault (Some told) name text b rs e is h = end_of told name text b rs e is h

-- and where the whole has none, the file is a journal
pub whole_read : (files : Option Files) (name : Word) (text : List ℕ) (b : ℕ) (rs : List Record) → IfSome files (λ told. file_of told name ≡ Some text) → IsJournal text b rs → IfSome files (ReadFrom name b rs)
whole_read None name text b rs is h = tt
whole_read (Some told) name text b rs is h = (text, (is, h))

too_long : (told : Files) (name : Word) (text : List ℕ) → IsTooLong told name text → NotConverted name told problem.TooLong
too_long told name text h = (h.0, (h.1.0, h.1.1.0))

stopped : (told : Files) (name : Word) (text : List ℕ) (e : PieceProblem) → StopsBy (Some told) name text e → NotConverted name told (of_piece e)
stopped told name text piece.Failed h = tt
stopped told name text piece.Missing h = h.1
stopped told name text piece.TooLong h = too_long told name text h
stopped told name text piece.NoMemory h = tt

-- nor is it converted where no piece comes
pub no_piece : (files now : Option Files) (name text : List ℕ) (e : PieceProblem) → now ≡ files → StopsBy now name text e → IfSome files (λ told. NotConverted name told (of_piece e))
no_piece None now name text e is h = tt
no_piece (Some told) now name text e is h = stopped told name text e (subst (λ (f : Option Files). StopsBy f name text e) is h)
