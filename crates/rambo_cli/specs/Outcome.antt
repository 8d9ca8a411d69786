-- How a run ends, by its status and the contract of its command.
use Rattle.std.specs.Prelude.{◌≡◌, ◌⊎◌, ◌++◌, ℕ, Bool, List, Option, None, IsTrue, take}
use Rattle.std.specs.Option.{option_map}
use Rattle.rm_base.specs.Causes.{Rose}
use Rattle.rm_base.specs.Files.{Files}
use Rattle.word_reading.specs.Words.{Asked}
use Rattle.rambo_cli.specs.Contract.{Contract, IsCause, StoreFails}
use Rattle.rambo_cli.specs.Lines.{memory_line, shelf_line, words_line}
use Rattle.rambo_cli.specs.Problems.{KeepsFiles, done_status, done_text, line_of, status_of}
use Rattle.rambo_cli.specs.declared.work.Done.{Done}
use Rattle.rambo_cli.specs.declared.problem.Problem.{Problem}
use Rattle.rambo_cli.specs.declared.problem.Problem.TheVariants.{Missing}

abbrev pub Puts : Option (List ℕ) → Option (List ℕ) → List ℕ → Type 0
Puts old new line = new ≡ option_map (λ w. w ++ line) old

-- the command is done, with what has this status, and its line or its summary is printed
abbrev pub EndsDone : ℕ → Contract → Option Files → Option Files → Option (List ℕ) → Option (List ℕ) → Type 0
EndsDone status c old new before after = (done : Done) × ((done_status done ≡ status) × (Puts before after (done_text done) × c.Does old new done))

-- a problem of this status is printed, and the command finds it of the files
abbrev pub EndsBy : ℕ → Contract → Option Files → Option (List ℕ) → Option (List ℕ) → Type 0
EndsBy status c files before after = (problem : Problem) × ((status_of problem ≡ status) × (Puts before after (line_of problem) × c.Finds files problem))

-- 2: the words ask for no command
abbrev pub EndsRefused : Option Asked → Option (List ℕ) → Option (List ℕ) → Type 0
EndsRefused words before after = (words ≡ None) × Puts before after words_line

-- 3: a call of the file store has failed, or one of standard output, or a file is missing in its turn
abbrev pub EndsFaulty : Contract → Option Files → ℕ → ℕ → ℕ → ℕ → Type 0
EndsFaulty c files store_before store_after sink_before sink_after =
    StoreFails c store_before store_after ⊎ (Rose sink_before sink_after ⊎ c.Finds files Missing)

-- 4: the line is printed, unless the sink is one that may want memory, and has printed nothing
abbrev pub EndsWithoutMemory : Bool → Option (List ℕ) → Option (List ℕ) → Type 0
EndsWithoutMemory may_want before after = Puts before after memory_line ⊎ (IsTrue may_want × (after ≡ before))

-- a beginning of the line is printed
abbrev pub BeginsLine : List ℕ → Option (List ℕ) → Option (List ℕ) → Type 0
BeginsLine line old new = (k : ℕ) × (new ≡ option_map (λ w. w ++ take k line) old)

-- what a run prints: the text of what it has done, or the line of what kept it from that
abbrev pub MayPut : Contract → Option Files → Option Files → ℕ → ℕ → List ℕ → Type 0
MayPut c files after before now line =
    ((done : Done) × (c.Does files after done × (line ≡ done_text done)))
    ⊎ ((problem : Problem) × (IsCause c files before now problem × (KeepsFiles problem files after × (line ≡ line_of problem))))

-- the line of a failing file store is printed: a call has failed, or a file is missing in its turn and none has changed; or the sink
-- has failed, and has a beginning of what the run prints behind what it had
abbrev pub PutsUnlessFailed : Contract → Option Files → Option Files → ℕ → ℕ → Option (List ℕ) → Option (List ℕ) → ℕ → ℕ → Type 0
PutsUnlessFailed c files after store_before store_now old new before now =
    ((StoreFails c store_before store_now ⊎ (c.Finds files Missing × (after ≡ files))) × Puts old new shelf_line)
    ⊎ (Rose before now × ((line : List ℕ) × (MayPut c files after store_before store_now line × BeginsLine line old new)))

-- the statuses of two models that are compared: the same, different, undecided, with unlike names; or memory ran out
abbrev pub IsComparedBy : ℕ → Type 0
IsComparedBy status = (status ≡ 0) ⊎ ((status ≡ 7) ⊎ ((status ≡ 8) ⊎ ((status ≡ 9) ⊎ (status ≡ 4))))
