-- Reading a journal piece by piece.
use Rattle.std.proofs.Common.{◌≡◌, ◌≢◌, ℕ, zero, suc, ◌+◌, ◌^◌, ◌<◌, ◌≤◌, List, [], ◌∷◌, ◌++◌, length, take, drop, Option, Some, None, IfSome, Result, Ok, Err, IfOk, IfErr, refl, ap, sym, subst, ◌∙◌, arith, append_assoc, Bool, true, false}
use Rattle.std.proofs.lemmas.List.{append-nil, length-append}
use Rattle.std.specs.Option.{option_map}
use Rattle.std.specs.Prelude.{◌==◌}
use Rattle.rm_base.specs.Files.{Files, file_of}
use Rattle.rm_base.specs.Shelves.{GivesPiece}
use Rattle.rm_model.specs.declared.parts.Model.{Model}
use Rattle.gate_graph.specs.Circuit.{Circuit, net_of}
use Rattle.journal_reading.specs.declared.faults.JournalFault.{JournalFault}
use Rattle.journal_reading.specs.declared.faults.JournalFault.TheVariants as fault
use Rattle.journal_reading.specs.Faults.{IsFault}
use Rattle.journal_reading.specs.Laws.{CutsAgree}
use Rattle.journal_reading.specs.Streams.{GivesNone, Pending, pushed as pushed_on}
use Rattle.journal_audit.specs.Audited.{HasSaid}
use Rattle.journal_audit.specs.Judging.{IsOpen}
use Rattle.journal_audit.specs.Inner.Judging.{IsTextProblem}
use Rattle.journal_audit.specs.Inner.Stages.{IsJudged}
use Rattle.journal_audit.specs.Inner.Turns.{EndsAccepted, EndsWith, FileBegins, IsInside, IsJournalProblem, IsReadSoFar, TurnSays}
use Rattle.journal_audit.specs.declared.problem.AuditProblem.{AuditProblem}
use Rattle.journal_audit.specs.declared.problem.AuditProblem.TheVariants.{Fault, Netlist, NoJournal, NoMemory, NoOutput, Refused, Text, TooLong}
use Rattle.journal_audit.specs.declared.reading.Turn.{Turn}
use Rattle.journal_audit.specs.declared.reading.Turn.TheVariants.{Ends, GoesOn}
use Rattle.journal_audit.specs.declared.stage.Stage.{Stage}
use Rattle.journal_audit.specs.declared.tally.Tally.{Tally}
use Rattle.journal_audit.specs.Inner.Tallies.{IsAcceptedWith}
use Rattle.journal_audit.proofs.Judged.{opened, pushed}
use Rattle.rm_base.specs.Words.{Word}

-- PIECES OF A FILE
drop_seam : (xs ys : List ℕ) → drop (length xs) (xs ++ ys) ≡ ys
drop_seam [] ys = refl
drop_seam (x ∷ xs) ys = drop_seam xs ys

take_seam : (xs ys : List ℕ) → take (length xs) (xs ++ ys) ≡ xs
take_seam [] ys = refl
take_seam (x ∷ xs) ys = ap (λ (zs : List ℕ). x ∷ zs) (take_seam xs ys)

take_and_drop : (n : ℕ) (xs : List ℕ) → xs ≡ take n xs ++ drop n xs
take_and_drop zero xs = refl
take_and_drop (suc n) [] = refl
take_and_drop (suc n) (x ∷ xs) = ap (λ (zs : List ℕ). x ∷ zs) (take_and_drop n xs)

nothing_left : (most : ℕ) (rest : List ℕ) → 0 < most → take most rest ≡ [] → rest ≡ []
nothing_left zero rest l e = absurd (omega (arith, l))
nothing_left (suc n) [] l e = refl
nothing_left (suc n) (x ∷ xs) l e = cc

-- the file, and what is left of it behind the piece
pub record PieceAt (files : Files) (journal : Word) (text piece : List ℕ) : Type 0 where
  pub bytes : List ℕ
  pub there : file_of files journal ≡ Some bytes
  pub after : List ℕ
  pub is : bytes ≡ (text ++ piece) ++ after
  pub ends : piece ≡ [] → bytes ≡ text

piece_found : (o : Option (List ℕ)) (from most : ℕ) (piece : List ℕ) → Some piece ≡ option_map (λ (bytes : List ℕ). take most (drop from bytes)) o → (bytes : List ℕ) × ((o ≡ Some bytes) × (piece ≡ take most (drop from bytes)))
piece_found None from most piece e = cc
piece_found (Some bytes) from most piece e = (bytes, (refl, cc))

pub piece_at : (files : Files) (journal : Word) (text piece : List ℕ) (from most : ℕ) → 0 < most → length text ≡ from → FileBegins files journal text → GivesPiece (Some files) journal from most (Some piece) → PieceAt files journal text piece
piece_at files journal text piece from most some size begins gives =
    let found = piece_found (file_of files journal) from most piece gives in
    let rest = begins found.0 found.1.0 in
    let left : drop from found.0 ≡ rest.0 = ap (λ (n : ℕ). drop n found.0) (sym size) ∙ ap (λ (xs : List ℕ). drop (length text) xs) rest.1 ∙ drop_seam text rest.0 in
    let piece_is : piece ≡ take most rest.0 = found.1.1 ∙ ap (λ (xs : List ℕ). take most xs) left in
    let parts : rest.0 ≡ piece ++ drop most rest.0 = take_and_drop most rest.0 ∙ ap (λ (xs : List ℕ). xs ++ drop most rest.0) (sym piece_is) in
    record {
      bytes = found.0;
      there = found.1.0;
      after = drop most rest.0;
      is = rest.1 ∙ ap (λ (xs : List ℕ). text ++ xs) parts ∙ sym (append_assoc text piece (drop most rest.0));
      ends = λ e. rest.1 ∙ ap (λ (xs : List ℕ). text ++ xs) (nothing_left most rest.0 some (sym piece_is ∙ e)) ∙ append-nil text;
    }

same_bytes : (o : Option (List ℕ)) (a b : List ℕ) → o ≡ Some a → o ≡ Some b → a ≡ b
same_bytes o a b e f = cc

-- THE TURN GOES ON
begins_on : (files : Option Files) (journal : Word) (text piece : List ℕ) (from most : ℕ) → 0 < most → length text ≡ from → IfSome files (λ told. FileBegins told journal text) → GivesPiece files journal from most (Some piece) → IfSome files (λ told. FileBegins told journal (text ++ piece))
begins_on None journal text piece from most some size begins gives = tt
begins_on (Some told) journal text piece from most some size begins gives =
    let at = piece_at told journal text piece from most some size begins gives in
    λ bytes there. (at.after, same_bytes (file_of told journal) bytes at.bytes there at.there ∙ at.is)

pub goes_on : (files : Option Files) (m : Model) (journal : Word) (from most : ℕ) (old new : Pending) (stage after : Stage) (piece : List ℕ) → 0 < most → 0 < length piece → (s : IsReadSoFar files m journal from old stage) → GivesPiece files journal from most (Some piece)
    → IsJudged m (s.text ++ piece) new after → GivesNone new → TurnSays files m journal from new (GoesOn after (from + length piece))
goes_on files m journal from most old new stage after piece some more s gives judged none =
    let long : length (s.text ++ piece) ≡ length s.text + length piece = length-append s.text piece in (
      record {
        text = s.text ++ piece;
        size = omega (arith, long, s.size);
        begins = begins_on files journal s.text piece from most some s.size s.begins gives;
        judged = judged;
        none = none;
      },
      omega (arith, more),
    )

-- A FAULT OR A REFUSAL
problem_at : (m : Model) (files : Files) (journal : Word) (bytes text : List ℕ) (problem : AuditProblem) → file_of files journal ≡ Some bytes → bytes ≡ text → IsTextProblem m text problem → IsJournalProblem m files journal problem
problem_at m files journal bytes text Fault e is p = tt
problem_at m files journal bytes text NoMemory e is p = tt
problem_at m files journal bytes text NoJournal e is p = absurd p
problem_at m files journal bytes text NoOutput e is p = absurd p
problem_at m files journal bytes text TooLong e is p = absurd p
problem_at m files journal bytes text (Netlist byte) e is p = absurd p
problem_at m files journal bytes text (Text f) e is p = (bytes, (e, subst (λ (t : List ℕ). IsTextProblem m t (Text f)) (sym is) p))
problem_at m files journal bytes text (Refused r) e is p = (bytes, (e, subst (λ (t : List ℕ). IsTextProblem m t (Refused r)) (sym is) p))

pub turn_problem : (files : Option Files) (m : Model) (journal : Word) (from most : ℕ) (old : Pending) (stage : Stage) (piece : List ℕ) (problem : AuditProblem) → 0 < most → (s : IsReadSoFar files m journal from old stage) → GivesPiece files journal from most (Some piece)
    → ((more : List ℕ) → IsTextProblem m ((s.text ++ piece) ++ more) problem) → IfSome files (λ told. IsJournalProblem m told journal problem)
turn_problem None m journal from most old stage piece problem some s gives p = tt
turn_problem (Some told) m journal from most old stage piece problem some s gives p =
    let at = piece_at told journal s.text piece from most some s.size s.begins gives in
    problem_at m told journal at.bytes ((s.text ++ piece) ++ at.after) problem at.there at.is (p at.after)

-- the same of a journal that ends here
pub end_problem : (files : Option Files) (m : Model) (journal : Word) (from most : ℕ) (old : Pending) (stage : Stage) (piece : List ℕ) (problem : AuditProblem) → 0 < most → piece ≡ [] → (s : IsReadSoFar files m journal from old stage) → GivesPiece files journal from most (Some piece)
    → IsTextProblem m s.text problem → IfSome files (λ told. IsJournalProblem m told journal problem)
end_problem None m journal from most old stage piece problem some empty s gives p = tt
end_problem (Some told) m journal from most old stage piece problem some empty s gives p =
    let at = piece_at told journal s.text piece from most some s.size s.begins gives in
    problem_at m told journal at.bytes s.text problem at.there (at.ends empty) p

pub too_long : (files : Option Files) (m : Model) (journal : Word) (from most : ℕ) (old : Pending) (stage : Stage) (piece : List ℕ) → 0 < most → 0 < length piece → from ≡ 2 ^ 62 → IsReadSoFar files m journal from old stage → GivesPiece files journal from most (Some piece) → IfSome files (λ told. IsJournalProblem m told journal TooLong)
too_long None m journal from most old stage piece some more limit s gives = tt
too_long (Some told) m journal from most old stage piece some more limit s gives =
    let at = piece_at told journal s.text piece from most some s.size s.begins gives in
    let long : length at.bytes ≡ length s.text + length piece + length at.after = ap (λ (xs : List ℕ). length xs) at.is ∙ length-append (s.text ++ piece) at.after ∙ ap (λ (n : ℕ). n + length at.after) (length-append s.text piece) in
    let size : length s.text ≡ 2 ^ 62 = s.size ∙ limit in
    let first : take (2 ^ 62) at.bytes ≡ s.text =
    ap (λ (n : ℕ). take n at.bytes) (sym size) ∙ ap (λ (xs : List ℕ). take (length s.text) xs) (at.is ∙ append_assoc s.text piece at.after) ∙ take_seam s.text (piece ++ at.after) in
    (at.bytes, (at.there, (omega (arith, long, size, more), subst (λ (t : List ℕ). IsOpen m t) (sym first) (opened m s.text old stage s.judged s.none))))

-- THE JOURNAL IS ACCEPTED
pub ends_accepted : (files : Option Files) (m : Model) (journal : Word) (from most : ℕ) (old : Pending) (stage : Stage) (piece : List ℕ) (g : Circuit) (t : Tally) → 0 < most → piece ≡ [] → (s : IsReadSoFar files m journal from old stage) → GivesPiece files journal from most (Some piece)
    → IsAcceptedWith m s.text (net_of g) t → EndsAccepted files m journal (net_of g) t
ends_accepted files m journal from most old stage piece g t some empty s gives a = record {
  is_last = record { budget = a.accepted.budget; records = a.accepted.records; accepted = a.accepted.accepted; said = a.said };
  told = told_case files s.begins gives;
}
  where
    told_case : (o : Option Files) → IfSome o (λ told. FileBegins told journal s.text) → GivesPiece o journal from most (Some piece) → IfSome o (λ told. HasSaid m told journal (net_of g) t.count t.verdicts)
    told_case None b h = tt
    told_case (Some told) b h =
        let at = piece_at told journal s.text piece from most some s.size b h in
        record {
          is = record { text = s.text; there = at.there ∙ ap (λ (bytes : List ℕ). Some bytes) (at.ends empty); short = s.judged.short; accepted = a.accepted };
          said = a.said;
        }

pub turn_ends : (files : Option Files) (m : Model) (journal : Word) (from most : ℕ) (old new : Pending) (stage : Stage) (piece : List ℕ) (t : Turn) → 0 < most → piece ≡ [] → (s : IsReadSoFar files m journal from old stage) → GivesPiece files journal from most (Some piece) → EndsWith m s.text t → TurnSays files m journal from new t
turn_ends files m journal from most old new stage piece (GoesOn after now) some empty s gives e = absurd e
turn_ends files m journal from most old new stage piece (Ends g count) some empty s gives e = ends_accepted files m journal from most old stage piece g count some empty s gives e

-- a problem of the text is one of the journal itself
pub no_memory_fault : (text : List ℕ) (f : JournalFault) → IsFault text f → f ≢ fault.NoMemory
no_memory_fault text f p e = subst (λ (x : JournalFault). IsFault text x) e p

pub inside : (m : Model) (text : List ℕ) (problem : AuditProblem) → IsTextProblem m text problem → IsInside problem
inside m text NoMemory p = tt
inside m text (Text f) p = no_memory_fault text f p.fault_is
inside m text (Refused r) p = p.0
inside m text Fault p = absurd p
inside m text NoJournal p = absurd p
inside m text NoOutput p = absurd p
inside m text TooLong p = absurd p
inside m text (Netlist byte) p = absurd p

-- a piece is pushed
pub push_judged : CutsAgree → (m : Model) (text piece : List ℕ) (old new : Pending) (stage : Stage) → length text + length piece ≤ 2 ^ 62 → new ≡ pushed_on old piece → IsJudged m text old stage → IsJudged m (text ++ piece) new stage
push_judged cuts m text piece old new stage l e j = subst (λ (p : Pending). IsJudged m (text ++ piece) p stage) (sym e) (pushed cuts m text piece old stage l j)

piece_length : (n : ℕ) (xs : List ℕ) → length (take n xs) ≤ n
piece_length zero xs = omega arith
piece_length (suc n) [] = omega arith
piece_length (suc n) (x ∷ xs) = let h : length (take n xs) ≤ n = piece_length n xs in omega (arith, h)

-- a piece has as many bytes as were asked for at most
pub piece_short : (files : Option Files) (journal : Word) (from most : ℕ) (piece : List ℕ) → GivesPiece files journal from most (Some piece) → length piece ≤ most
piece_short None journal from most piece gives = gives
piece_short (Some told) journal from most piece gives =
    let found = piece_found (file_of told journal) from most piece gives in
    subst (λ (xs : List ℕ). length xs ≤ most) (sym found.1.1) (piece_length most (drop from found.0))

pub err_weaker : {V E : Type 0} (r : Result V E) (P Q : E → Type 0) → ((e : E) → P e → Q e) → IfErr r P → IfErr r Q
err_weaker (Ok x) P Q f h = tt
err_weaker (Err e) P Q f h = f e h

pub ok_weaker : {V E : Type 0} (r : Result V E) (P Q : V → Type 0) → ((v : V) → P v → Q v) → IfOk r P → IfOk r Q
ok_weaker (Ok x) P Q f h = f x h
ok_weaker (Err e) P Q f h = tt

-- bytes that aren't empty
pub some_bytes : (xs : List ℕ) (b : Bool) → b ≡ (length xs == 0) → b ≡ false → 0 < length xs
some_bytes [] b e f =
    let never : true ≡ false → ⊥ = λ h. cc in
    absurd (never (sym e ∙ f))
some_bytes (x ∷ xs) b e f = omega arith

pub no_bytes : (piece : List ℕ) → length piece ≡ 0 → piece ≡ []
no_bytes [] e = refl
no_bytes (x ∷ xs) e = absurd (omega (arith, e))
