-- How a run ends that reports a problem, or that has done its work and can't print it.
use Rattle.std.proofs.Common.{◌≡◌, ℕ, Bool, List, refl, sym, ◌∙◌, arith, inl, inr, subst}
use Rattle.std.specs.Prelude.{Option, None, Some}
use Rattle.rm_base.specs.Files.{Files}
use Rattle.word_reading.specs.Words.{Asked, opt, check, demo, flat, tests, replay, convert, equal, judge, optcare, cut, sew}
use Rattle.rambo_cli.specs.declared.work.Done.{Done}
use Rattle.rambo_cli.specs.declared.work.Done.TheVariants.{Optimised, Accepted, Flattened, Tested, Replayed, Converted, Compared, Judged, Cared, Cut, Sewn}
use Rattle.rambo_cli.specs.declared.verdict.Verdict.{Verdict}
use Rattle.rambo_cli.specs.declared.verdict.Verdict.TheVariants.{Equal, Differ, Undecided}
use Rattle.rambo_cli.specs.declared.problem.TextProblem.TheVariants as text
use Rattle.rambo_cli.specs.declared.problem.Problem.{Problem}
use Rattle.rambo_cli.specs.declared.problem.Problem.TheVariants.{Words, Text, Limit, Missing, Fault, Journal, Record, Netlist, Second, Unlike, CareShape, Window, Proof, Memory}
use Rattle.rambo_cli.specs.Commands.{contract_of}
use Rattle.rambo_cli.specs.Contract.{Contract, IsCause}
use Rattle.rambo_cli.specs.Problems.{KeepsFiles, done_status, done_text, line_of, status_of}
use Rattle.rambo_cli.specs.Verdicts.{verdict_status}
use Rattle.rambo_cli.specs.Outcome.{EndsBy, EndsDone, EndsFaulty, EndsRefused, MayPut, Puts, PutsUnlessFailed}
use Rattle.rambo_cli.specs.Inner.Problems.{HasEnded, IsReported}

-- a cause that isn't of the outside is found of the files
finds : (c : Contract) (problem : Problem) (files : Option Files) (m n : ℕ) → (status_of problem ≡ 3 → ⊥) → (status_of problem ≡ 4 → ⊥) → IsCause c files m n problem → c.Finds files problem
finds c Words files m n three four h = h
finds c (Text kind place) files m n three four h = h
finds c (Limit q count) files m n three four h = h
finds c Missing files m n three four h = h
finds c Fault files m n three four h = absurd (three refl)
finds c (Journal f) files m n three four h = h
finds c (Record r) files m n three four h = h
finds c (Netlist byte) files m n three four h = h
finds c (Second found) files m n three four h = h
finds c (Unlike list at) files m n three four h = h
finds c CareShape files m n three four h = h
finds c (Window number stop) files m n three four h = h
finds c (Proof found) files m n three four h = h
finds c Memory files m n three four h = absurd (four refl)

pub reported_by : (k : ℕ) → (k ≡ 3 → ⊥) → (k ≡ 4 → ⊥) → (w : Bool) (problem : Problem) (status : ℕ) (c : Contract) (files : Option Files) (m n : ℕ) (before after : Option (List ℕ)) (i j : ℕ)
    → IsReported w problem status before after i j → IsCause c files m n problem → status ≡ k → EndsBy k c files before after
reported_by k three four w problem status c files m n before after i j r h e = elim r [
  | inl told ↦
      let is : status_of problem ≡ k = sym told.0 ∙ e in
      (problem, (is, (told.1, finds c problem files m n (λ q. three (sym is ∙ q)) (λ q. four (sym is ∙ q)) h)))
  | inr other ↦ elim other [ inl failed ↦ absurd (three (sym e ∙ failed.0)) | inr spent ↦ absurd (four (sym e ∙ spent.0)) ]
]

words_alone : (problem : Problem) → status_of problem ≡ 2 → problem ≡ Words
words_alone Words e = refl
words_alone (Text kind place) e = absurd (omega (arith, e))
words_alone (Limit q count) e = absurd (omega (arith, e))
words_alone Missing e = absurd (omega (arith, e))
words_alone Fault e = absurd (omega (arith, e))
words_alone (Journal f) e = absurd (omega (arith, e))
words_alone (Record r) e = absurd (omega (arith, e))
words_alone (Netlist byte) e = absurd (omega (arith, e))
words_alone (Second (text.Fault kind place)) e = absurd (omega (arith, e))
words_alone (Second (text.Limit q count)) e = absurd (omega (arith, e))
words_alone (Unlike list at) e = absurd (omega (arith, e))
words_alone CareShape e = absurd (omega (arith, e))
words_alone (Window number stop) e = absurd (omega (arith, e))
words_alone (Proof found) e = absurd (omega (arith, e))
words_alone Memory e = absurd (omega (arith, e))

nothing_asked : (words : Option Asked) (files : Option Files) → (contract_of words).Finds files Words → words ≡ None
nothing_asked None files h = refl
nothing_asked (Some (opt input output journal settings)) files h = absurd h
nothing_asked (Some (check input journal output)) files h = absurd h
nothing_asked (Some (demo seed settings)) files h = absurd h
nothing_asked (Some (flat input output)) files h = absurd h
nothing_asked (Some (tests input journal output patterns)) files h = absurd h
nothing_asked (Some (replay input journal output)) files h = absurd h
nothing_asked (Some (convert from to)) files h = absurd h
nothing_asked (Some (equal first second proof settings)) files h = absurd h
nothing_asked (Some (judge first second proof)) files h = absurd h
nothing_asked (Some (optcare input care output vectors settings)) files h = absurd h
nothing_asked (Some (cut input width prefix shift)) files h = absurd h
nothing_asked (Some (sew input width prefix output shift)) files h = absurd h

pub refused : (w : Bool) (problem : Problem) (status : ℕ) (words : Option Asked) (files : Option Files) (m n : ℕ) (before after : Option (List ℕ)) (i j : ℕ)
    → IsReported w problem status before after i j → IsCause (contract_of words) files m n problem → status ≡ 2 → EndsRefused words before after
refused w problem status words files m n before after i j r h e =
    let ends = reported_by 2 (λ q. omega (arith, q)) (λ q. omega (arith, q)) w problem status (contract_of words) files m n before after i j r h e in
    let is : ends.0 ≡ Words = words_alone ends.0 ends.1.0 in
    (nothing_asked words files (subst (λ (p : Problem). (contract_of words).Finds files p) is ends.1.1.1), subst (λ (p : Problem). Puts before after (line_of p)) is ends.1.1.0)

faulty_with : (problem : Problem) (c : Contract) (files : Option Files) (m n k l : ℕ) → status_of problem ≡ 3 → IsCause c files m n problem → EndsFaulty c files m n k l
faulty_with Words c files m n k l e h = absurd (omega (arith, e))
faulty_with (Text kind place) c files m n k l e h = absurd (omega (arith, e))
faulty_with (Limit q count) c files m n k l e h = absurd (omega (arith, e))
faulty_with Missing c files m n k l e h = inr (inr h)
faulty_with Fault c files m n k l e h = inl h
faulty_with (Journal f) c files m n k l e h = absurd (omega (arith, e))
faulty_with (Record r) c files m n k l e h = absurd (omega (arith, e))
faulty_with (Netlist byte) c files m n k l e h = absurd (omega (arith, e))
faulty_with (Second (text.Fault kind place)) c files m n k l e h = absurd (omega (arith, e))
faulty_with (Second (text.Limit q count)) c files m n k l e h = absurd (omega (arith, e))
faulty_with (Unlike list at) c files m n k l e h = absurd (omega (arith, e))
faulty_with CareShape c files m n k l e h = absurd (omega (arith, e))
faulty_with (Window number stop) c files m n k l e h = absurd (omega (arith, e))
faulty_with (Proof found) c files m n k l e h = absurd (omega (arith, e))
faulty_with Memory c files m n k l e h = absurd (omega (arith, e))

pub faulty : (w : Bool) (problem : Problem) (status : ℕ) (c : Contract) (files : Option Files) (m n : ℕ) (before after : Option (List ℕ)) (k l : ℕ) → IsReported w problem status before after k l → IsCause c files m n problem → status ≡ 3 → EndsFaulty c files m n k l
faulty w problem status c files m n before after k l r h e = elim r [
  | inl told ↦ faulty_with problem c files m n k l (sym told.0 ∙ e) h
  | inr other ↦ elim other [ inl failed ↦ inr (inl failed.1.0) | inr spent ↦ absurd (omega (arith, spent.0, e)) ]
]

-- what is printed with status 3
line_with : (problem : Problem) (c : Contract) (files after : Option Files) (m n : ℕ) (old new : Option (List ℕ)) (k l : ℕ) → status_of problem ≡ 3 → Puts old new (line_of problem) → IsCause c files m n problem → KeepsFiles problem files after → PutsUnlessFailed c files after m n old new k l
line_with Words c files after m n old new k l e put h kept = absurd (omega (arith, e))
line_with (Text kind place) c files after m n old new k l e put h kept = absurd (omega (arith, e))
line_with (Limit q count) c files after m n old new k l e put h kept = absurd (omega (arith, e))
line_with Missing c files after m n old new k l e put h kept = inl (inr (h, kept), put)
line_with Fault c files after m n old new k l e put h kept = inl (inl h, put)
line_with (Journal f) c files after m n old new k l e put h kept = absurd (omega (arith, e))
line_with (Record r) c files after m n old new k l e put h kept = absurd (omega (arith, e))
line_with (Netlist byte) c files after m n old new k l e put h kept = absurd (omega (arith, e))
line_with (Second (text.Fault kind place)) c files after m n old new k l e put h kept = absurd (omega (arith, e))
line_with (Second (text.Limit q count)) c files after m n old new k l e put h kept = absurd (omega (arith, e))
line_with (Unlike list at) c files after m n old new k l e put h kept = absurd (omega (arith, e))
line_with CareShape c files after m n old new k l e put h kept = absurd (omega (arith, e))
line_with (Window number stop) c files after m n old new k l e put h kept = absurd (omega (arith, e))
line_with (Proof found) c files after m n old new k l e put h kept = absurd (omega (arith, e))
line_with Memory c files after m n old new k l e put h kept = absurd (omega (arith, e))

memory_line_put : (c : Contract) (files after : Option Files) (m n : ℕ) → MayPut c files after m n (line_of Memory)
memory_line_put c files after m n = inr (Memory, (tt, (tt, refl)))

pub reported_line : (w : Bool) (problem : Problem) (status : ℕ) (c : Contract) (files after : Option Files) (m n : ℕ) (old new : Option (List ℕ)) (k l : ℕ) → IsReported w problem status old new k l → IsCause c files m n problem → KeepsFiles problem files after → status ≡ 3
    → PutsUnlessFailed c files after m n old new k l
reported_line w problem status c files after m n old new k l r h kept e = elim r [
  | inl told ↦ line_with problem c files after m n old new k l (sym told.0 ∙ e) told.1 h kept
  | inr other ↦ elim other [
    | inl failed ↦ elim failed.1.1 [
      | inl own ↦ inr (failed.1.0, (line_of problem, (inr (problem, (h, (kept, refl))), own)))
      | inr memory ↦ inr (failed.1.0, (line_of Memory, (memory_line_put c files after m n, memory)))
    ]
    | inr spent ↦ absurd (omega (arith, spent.0, e))
  ]
]

-- the status of what is decided
verdict_never_3 : (verdict : Verdict) → verdict_status verdict ≡ 3 → ⊥
verdict_never_3 Equal e = omega (arith, e)
verdict_never_3 (Differ bits) e = omega (arith, e)
verdict_never_3 (Undecided budget) e = omega (arith, e)

-- the status of what is done
pub never_3 : (done : Done) → done_status done ≡ 3 → ⊥
never_3 (Optimised figures) e = omega (arith, e)
never_3 (Accepted count) e = omega (arith, e)
never_3 (Flattened instances covers) e = omega (arith, e)
never_3 (Tested counts) e = omega (arith, e)
never_3 (Replayed count stop) e = omega (arith, e)
never_3 (Converted count) e = omega (arith, e)
never_3 (Compared verdict) e = verdict_never_3 verdict e
never_3 (Judged count verdict) e = omega (arith, e)
never_3 (Cared figures) e = omega (arith, e)
never_3 (Cut windows signals) e = omega (arith, e)
never_3 (Sewn windows replayed wires before) e = omega (arith, e)

pub ended_line : (w : Bool) (done : Done) (status : ℕ) (c : Contract) (files after : Option Files) (m n : ℕ) (old new : Option (List ℕ)) (k l : ℕ) → HasEnded w (done_status done) (done_text done) status old new k l → c.Does files after done → status ≡ 3
    → PutsUnlessFailed c files after m n old new k l
ended_line w done status c files after m n old new k l h has e = elim h [
  | inl told ↦ absurd (never_3 done (sym told.0 ∙ e))
  | inr other ↦ elim other [
    | inl failed ↦ elim failed.1.1 [
      | inl own ↦ inr (failed.1.0, (done_text done, (inl (done, (has, refl)), own)))
      | inr memory ↦ inr (failed.1.0, (line_of Memory, (memory_line_put c files after m n, memory)))
    ]
    | inr spent ↦ absurd (omega (arith, spent.0, e))
  ]
]

-- a run that has done its work with such a status
pub ended_by : (k : ℕ) → (k ≡ 3 → ⊥) → (k ≡ 4 → ⊥) → (w : Bool) (done : Done) (status : ℕ) (c : Contract) (files after : Option Files) (old new : Option (List ℕ)) (i j : ℕ)
    → HasEnded w (done_status done) (done_text done) status old new i j → c.Does files after done → status ≡ k → EndsDone k c files after old new
ended_by k three four w done status c files after old new i j h has e = elim h [
  | inl told ↦ (done, (sym told.0 ∙ e, (told.1, has)))
  | inr other ↦ elim other [ inl failed ↦ absurd (three (sym e ∙ failed.0)) | inr spent ↦ absurd (four (sym e ∙ spent.0)) ]
]

-- and none with a status that nothing done has
pub ended_never : (k : ℕ) (A : Type 0) → (k ≡ 3 → ⊥) → (k ≡ 4 → ⊥) → (w : Bool) (done : Done) (status : ℕ) (old new : Option (List ℕ)) (i j : ℕ)
    → HasEnded w (done_status done) (done_text done) status old new i j → (done_status done ≡ k → ⊥) → status ≡ k → A
ended_never k A three four w done status old new i j h never e = elim h [
  | inl told ↦ absurd (never (sym told.0 ∙ e))
  | inr other ↦ elim other [ inl failed ↦ absurd (three (sym e ∙ failed.0)) | inr spent ↦ absurd (four (sym e ∙ spent.0)) ]
]
