-- Good words and files leave no problem but those of the outside.
use Rattle.std.proofs.Common.{◌≡◌, ◌≤◌, ◌<◌, ◌^◌, ◌⊎◌, ℕ, Bool, List, length, refl, sym, ◌∙◌, ap, subst, arith, inl, inr}
use Rattle.std.specs.Prelude.{Option, None, Some, IfSome, IsSome, IsSomeAnd}
use Rattle.rm_base.specs.Causes.{Rose}
use Rattle.rm_base.specs.Files.{Files, file_of}
use Rattle.rm_model.specs.declared.parts.Model.{Model}
use Rattle.blif_format.specs.Laws.{ReadsOnce}
use Rattle.blif_flatten.specs.FirstFault.{first_fault as first_hierarchy_fault}
use Rattle.blif_format.specs.declared.refusal.ReadRefusal.TheVariants as refusal
use Rattle.journal_audit.specs.Audited.{ProblemsExclude, IsProblem, IsOfFiles}
use Rattle.journal_audit.specs.declared.problem.AuditProblem.{AuditProblem}
use Rattle.journal_audit.specs.declared.problem.AuditProblem.TheVariants as audit
use Rattle.journal_text.specs.Cutting.{JournalsAreOne}
use Rattle.word_reading.specs.Words.{Asked, opt, check, demo, flat, tests, replay, convert, equal, judge, optcare, cut, sew}
use Rattle.cover_decompose.specs.Count.{decomposed}
use Rattle.rambo_cli.specs.Check.{AreThere, Audited, CheckFinds, HasPassed}
use Rattle.rambo_cli.specs.Commands.{contract_of}
use Rattle.rambo_cli.proofs.ConvertedFiles.{convert_finds_none}
use Rattle.rambo_cli.proofs.JudgedFiles.{flaw_judged, proved_finds_none}
use Rattle.rambo_cli.proofs.TextsFound.{none_or_some, present, read_finds_none, said_good, same_model, together, weaker}
use Rattle.rambo_cli.specs.Contract.{Contract, IsCause, StoreFails}
use Rattle.rambo_cli.specs.Files.{Holds}
use Rattle.rambo_cli.specs.Cut.{CanBeCut, CutFinds, HasManyWindows}
use Rattle.rambo_cli.specs.Flat.{CanBeFlattened, ExceedsFlat, FlatFinds, HasFlatFault, flat_limits, wide_limits}
use Rattle.rambo_cli.specs.Input.{CanBeOptimised}
use Rattle.rambo_cli.specs.Problems.{status_of}
use Rattle.rambo_cli.specs.Replay.{CanBeReplayed, ReplayFinds}
use Rattle.rambo_cli.specs.Sew.{CanBeSewn, HasNoJournal, IsLongWindow, SewFinds}
use Rattle.rambo_cli.specs.Windows.{window_journal}
use Rattle.rambo_cli.specs.Inner.Complete.{GoodRunsAreDone, IsOutsideOf, JudgedRunsAreTold}
use Rattle.rambo_cli.specs.Inner.Problems.{IsReported, HasEnded}
use Rattle.rambo_cli.specs.Written.{IsSaid}
use Rattle.rambo_cli.specs.declared.input_model.FlatLimits.{FlatLimits}
use Rattle.rambo_cli.specs.declared.problem.Problem.{Problem}
use Rattle.rambo_cli.specs.declared.problem.Problem.TheVariants.{Words, Text, Limit, Missing, Fault, Journal, Record, Netlist, Second, Unlike, CareShape, Window, Proof, Memory}
use Rattle.rm_base.specs.Words.{Word}

-- nor of one that can be flattened
flat_finds_none : (limits : FlatLimits) (input : Word) (told : Files) (problem : Problem) → Holds told input (CanBeFlattened limits) → FlatFinds limits input (Some told) problem → ⊥
flat_finds_none limits input told (Text kind place) good h =
    together (file_of told input) (CanBeFlattened limits) (λ text. HasFlatFault limits text kind place) good h
    (λ text fine fault. none_or_some (first_hierarchy_fault limits.tokens text) (refusal.Fault kind place) fine.faultless fault.fault)
flat_finds_none limits input told (Limit quantity count) good h =
    together (file_of told input) (CanBeFlattened limits) (λ text. ExceedsFlat limits text quantity count) good h
    (λ text fine over. elim over [
      | inl long ↦ omega (arith, long.long, fine.short)
      | inr at ↦ none_or_some (first_hierarchy_fault limits.tokens text) (refusal.Limit quantity count at.place) fine.faultless at.fault
    ])
flat_finds_none limits input told Missing good h = present (file_of told input) (CanBeFlattened limits) good h
flat_finds_none limits input told Fault good h = h
flat_finds_none limits input told Memory good h = h
flat_finds_none limits input told Words good h = h
flat_finds_none limits input told (Journal f) good h = h
flat_finds_none limits input told (Record r) good h = h
flat_finds_none limits input told (Netlist byte) good h = h
flat_finds_none limits input told (Second found) good h = h
flat_finds_none limits input told (Unlike list at) good h = h
flat_finds_none limits input told CareShape good h = h
flat_finds_none limits input told (Window number stop) good h = h
flat_finds_none limits input told (Proof found) good h = h

-- nor, for `cut`, of one that can be cut
can_be_flattened : (width shift : ℕ) (input : Word) (told : Files) → Holds told input (CanBeCut width shift) → Holds told input (CanBeFlattened wide_limits)
can_be_flattened width shift input told good = go (file_of told input) good
  where
    go : (o : Option (List ℕ)) → IsSomeAnd o (CanBeCut width shift) → IsSomeAnd o (CanBeFlattened wide_limits)
    go None h = h
    go (Some text) h = h.flattened

cut_finds_none : (input : Word) (width shift : ℕ) (told : Files) (problem : Problem) → Holds told input (CanBeCut width shift) → CutFinds input width shift (Some told) problem → ⊥
cut_finds_none input width shift told (Limit quantity count) good h = elim h [
  | inl read ↦ flat_finds_none wide_limits input told (Limit quantity count) (can_be_flattened width shift input told good) read
  | inr many ↦
      together (file_of told input) (CanBeCut width shift) (λ text. HasManyWindows width shift text quantity count) good many
      (λ text fine more. not_more (fine.few more.model more.instances more.flat) more.many)
]
  where
    not_more : {a b : ℕ} → a ≤ b → b < a → ⊥
    not_more le lt = omega (arith, le, lt)
cut_finds_none input width shift told (Text kind place) good h = flat_finds_none wide_limits input told (Text kind place) (can_be_flattened width shift input told good) h
cut_finds_none input width shift told Missing good h = flat_finds_none wide_limits input told Missing (can_be_flattened width shift input told good) h
cut_finds_none input width shift told Fault good h = h
cut_finds_none input width shift told Memory good h = h
cut_finds_none input width shift told Words good h = h
cut_finds_none input width shift told (Journal f) good h = h
cut_finds_none input width shift told (Record r) good h = h
cut_finds_none input width shift told (Netlist byte) good h = h
cut_finds_none input width shift told (Second found) good h = h
cut_finds_none input width shift told (Unlike list at) good h = h
cut_finds_none input width shift told CareShape good h = h
cut_finds_none input width shift told (Window number stop) good h = h
cut_finds_none input width shift told (Proof found) good h = h

-- nor where the journal is there beside it
replay_finds_none : (input journal : Word) (told : Files) (problem : Problem) → CanBeReplayed input journal told → ReplayFinds input journal (Some told) problem → ⊥
replay_finds_none input journal told (Text kind place) good h = read_finds_none decomposed input told (Text kind place) good.input_is h
replay_finds_none input journal told (Limit quantity count) good h = elim h [
  | inl read ↦ read_finds_none decomposed input told (Limit quantity count) good.input_is read
  | inr long ↦ together (file_of told journal) (λ text. length text ≤ 2 ^ 62) (λ text. 2 ^ 62 < length text) good.journal_is long.1 (λ text few many. omega (arith, few, many))
]
replay_finds_none input journal told Missing good h = elim h [
  | inl read ↦ read_finds_none decomposed input told Missing good.input_is read
  | inr absent ↦ present (file_of told journal) (λ text. length text ≤ 2 ^ 62) good.journal_is absent
]
replay_finds_none input journal told Fault good h = h
replay_finds_none input journal told Memory good h = h
replay_finds_none input journal told Words good h = h
replay_finds_none input journal told (Journal f) good h = h
replay_finds_none input journal told (Record r) good h = h
replay_finds_none input journal told (Netlist byte) good h = h
replay_finds_none input journal told (Second found) good h = h
replay_finds_none input journal told (Unlike list at) good h = h
replay_finds_none input journal told CareShape good h = h
replay_finds_none input journal told (Window number stop) good h = h
replay_finds_none input journal told (Proof found) good h = h

-- no journal is longer than is read
not_long : (prefix : Word) (told : Files) (problem : Problem) → ((number : ℕ) → IfSome (file_of told (window_journal prefix number)) (λ text. length text ≤ 2 ^ 62)) → IsLongWindow prefix (Some told) problem → ⊥
not_long prefix told problem short long = clash (file_of told (window_journal prefix long.1.0)) (short long.1.0) long.1.1
  where
    clash : (o : Option (List ℕ)) → IfSome o (λ text. length text ≤ 2 ^ 62) → IsSomeAnd o (λ text. 2 ^ 62 < length text) → ⊥
    clash None few many = many
    clash (Some text) few many = omega (arith, few, many)

short_if_none : (o : Option (List ℕ)) → o ≡ None → IfSome o (λ text. length text ≤ 2 ^ 62)
short_if_none None e = tt
short_if_none (Some text) e = cc

not_both : (o : Option (List ℕ)) (text : List ℕ) → o ≡ None → o ≡ Some text → ⊥
not_both o text e f = cc

-- nor where no journal stands beside one that can be cut
sew_finds_none : (input : Word) (width : ℕ) (prefix : Word) (shift : ℕ) (told : Files) (problem : Problem) → HasNoJournal input width prefix shift told → SewFinds input width prefix shift (Some told) problem → ⊥
sew_finds_none input width prefix shift told (Limit quantity count) good h = elim h [
  | inl read ↦ cut_finds_none input width shift told (Limit quantity count) good.input_is read
  | inr long ↦ not_long prefix told (Limit quantity count) (λ number. short_if_none (file_of told (window_journal prefix number)) (good.journals_are number)) long
]
sew_finds_none input width prefix shift told (Window number stop) good h = not_both (file_of told (window_journal prefix number)) h.taken.0 (good.journals_are number) h.taken.1.0
sew_finds_none input width prefix shift told (Text kind place) good h = cut_finds_none input width shift told (Text kind place) good.input_is h
sew_finds_none input width prefix shift told Missing good h = cut_finds_none input width shift told Missing good.input_is h
sew_finds_none input width prefix shift told Fault good h = h
sew_finds_none input width prefix shift told Memory good h = h
sew_finds_none input width prefix shift told Words good h = h
sew_finds_none input width prefix shift told (Journal f) good h = h
sew_finds_none input width prefix shift told (Record r) good h = h
sew_finds_none input width prefix shift told (Netlist byte) good h = h
sew_finds_none input width prefix shift told (Second found) good h = h
sew_finds_none input width prefix shift told (Unlike list at) good h = h
sew_finds_none input width prefix shift told CareShape good h = h
sew_finds_none input width prefix shift told (Proof found) good h = h

-- where nothing is found, what keeps a run from its end is of the outside
outside_alone : (c : Contract) (files : Option Files) (m n : ℕ) (problem : Problem) → (c.Finds files problem → ⊥) → IsCause c files m n problem → IsOutsideOf c m n problem
outside_alone c files m n Fault none h = inr (refl, h)
outside_alone c files m n Memory none h = inl refl
outside_alone c files m n Words none h = absurd (none h)
outside_alone c files m n (Text kind place) none h = absurd (none h)
outside_alone c files m n (Limit quantity count) none h = absurd (none h)
outside_alone c files m n Missing none h = absurd (none h)
outside_alone c files m n (Journal f) none h = absurd (none h)
outside_alone c files m n (Record r) none h = absurd (none h)
outside_alone c files m n (Netlist byte) none h = absurd (none h)
outside_alone c files m n (Second found) none h = absurd (none h)
outside_alone c files m n (Unlike list at) none h = absurd (none h)
outside_alone c files m n CareShape none h = absurd (none h)
outside_alone c files m n (Window number stop) none h = absurd (none h)
outside_alone c files m n (Proof found) none h = absurd (none h)

module _ (once : ReadsOnce) (exclude : ProblemsExclude) where
  no_problem : (input journal output : Word) (told : Files) (count : ℕ) (found : AuditProblem) → HasPassed input journal output count told → IsOfFiles found → Audited input journal output found told → ⊥
  no_problem input journal output told count found passed of_files audited =
      together (file_of told input) (λ text. IsSaid text passed.0) (λ text. IsSaid text audited.0) passed.1.0 audited.1.0
      (λ text one two. same_model once passed.0 audited.0 ⊥ text
      (λ same. exclude passed.0 told journal output found count of_files (subst (λ (m : Model). IsProblem m told journal output found) (sym same) audited.1.1.1) passed.1.1.1.0)
      one two)

  check_finds_none : (input journal output : Word) (told : Files) (count : ℕ) (problem : Problem) → HasPassed input journal output count told → CheckFinds input journal output (Some told) problem → ⊥
  check_finds_none input journal output told count problem passed h = go problem h
    where
      good : Holds told input CanBeOptimised
      good = weaker (file_of told input) (λ text. IsSaid text passed.0) CanBeOptimised passed.1.0 (λ text said. said_good once decomposed passed.0 text passed.1.1.0 said)

      go : (p : Problem) → CheckFinds input journal output (Some told) p → ⊥
      go (Text kind place) f = read_finds_none decomposed input told (Text kind place) good f
      go (Limit quantity bytes) f = elim f [
        | inl read ↦ read_finds_none decomposed input told (Limit quantity bytes) good read
        | inr long ↦ no_problem input journal output told count audit.TooLong passed tt long.1
      ]
      go Missing f = elim f [
        | inl read ↦ read_finds_none decomposed input told Missing good read
        | inr other ↦ elim other [
          | inl one ↦ no_problem input journal output told count audit.NoJournal passed tt one
          | inr two ↦ no_problem input journal output told count audit.NoOutput passed tt two
        ]
      ]
      go Fault f = f
      go Memory f = f
      go Words f = f
      go (Journal x) f = no_problem input journal output told count (audit.Text x) passed tt f
      go (Record r) f = no_problem input journal output told count (audit.Refused r) passed tt f
      go (Netlist byte) f = no_problem input journal output told count (audit.Netlist byte) passed tt f
      go (Second found) f = f
      go (Unlike list at) f = f
      go CareShape f = f
      go (Window number stop) f = f
      go (Proof found) f = f

  pub good_runs_are_done : JournalsAreOne → GoodRunsAreDone
  good_runs_are_done ones None files m n problem good h = absurd good
  good_runs_are_done ones (Some (opt input output journal settings)) None m n problem good h = absurd good
  good_runs_are_done ones (Some (opt input output journal settings)) (Some told) m n problem good h =
      outside_alone (contract_of (Some (opt input output journal settings))) (Some told) m n problem (read_finds_none decomposed input told problem good) h
  good_runs_are_done ones (Some (check input journal output)) None m n problem good h = absurd good
  good_runs_are_done ones (Some (check input journal output)) (Some told) m n problem good h =
      outside_alone (contract_of (Some (check input journal output))) (Some told) m n problem (check_finds_none input journal output told good.0 problem good.1) h
  good_runs_are_done ones (Some (demo seed settings)) files m n problem good h =
      outside_alone (contract_of (Some (demo seed settings))) files m n problem (λ (x : ⊥). x) h
  good_runs_are_done ones (Some (flat input output)) None m n problem good h = absurd good
  good_runs_are_done ones (Some (flat input output)) (Some told) m n problem good h =
      outside_alone (contract_of (Some (flat input output))) (Some told) m n problem (flat_finds_none flat_limits input told problem good) h
  good_runs_are_done ones (Some (cut input width prefix shift)) None m n problem good h = absurd good
  good_runs_are_done ones (Some (cut input width prefix shift)) (Some told) m n problem good h =
      outside_alone (contract_of (Some (cut input width prefix shift))) (Some told) m n problem (cut_finds_none input width shift told problem good) h
  good_runs_are_done ones (Some (sew input width prefix output shift)) None m n problem good h = absurd good
  good_runs_are_done ones (Some (sew input width prefix output shift)) (Some told) m n problem good h =
      outside_alone (contract_of (Some (sew input width prefix output shift))) (Some told) m n problem (sew_finds_none input width prefix shift told problem good) h
  good_runs_are_done ones (Some (tests input journal output patterns)) None m n problem good h = absurd good
  good_runs_are_done ones (Some (tests input journal output patterns)) (Some told) m n problem good h =
      outside_alone (contract_of (Some (tests input journal output patterns))) (Some told) m n problem (check_finds_none input journal output told good.0 problem good.1) h
  good_runs_are_done ones (Some (replay input journal output)) None m n problem good h = absurd good
  good_runs_are_done ones (Some (replay input journal output)) (Some told) m n problem good h =
      outside_alone (contract_of (Some (replay input journal output))) (Some told) m n problem (replay_finds_none input journal told problem good) h
  good_runs_are_done ones (Some (convert from to)) None m n problem good h = absurd good
  good_runs_are_done ones (Some (convert from to)) (Some told) m n problem good h =
      outside_alone (contract_of (Some (convert from to))) (Some told) m n problem (convert_finds_none ones from told problem good) h
  good_runs_are_done ones (Some (equal first second proof settings)) files m n problem good h = absurd good
  good_runs_are_done ones (Some (judge first second proof)) None m n problem good h = absurd good
  good_runs_are_done ones (Some (judge first second proof)) (Some told) m n problem good h =
      outside_alone (contract_of (Some (judge first second proof))) (Some told) m n problem (proved_finds_none once first second proof told problem good) h
  good_runs_are_done ones (Some (optcare input care output vectors settings)) files m n problem good h = absurd good

held : (o : Option (List ℕ)) → IsSome o → o ≡ None → ⊥
held None h e = cc
held (Some text) h e = cc

short_enough : (o : Option (List ℕ)) (text : List ℕ) → IsSomeAnd o (λ t. length t ≤ 2 ^ 62) → o ≡ Some text → 2 ^ 62 < length text → ⊥
short_enough None text h e long = h
short_enough (Some t) text h e long = let same : t ≡ text = cc in let few : length text ≤ 2 ^ 62 = subst (λ (x : List ℕ). length x ≤ 2 ^ 62) same h in omega (arith, few, long)

-- a journal and an output that are there, and an input that can be optimised: only the journal and the output are found at fault
judged : (input journal output : Word) (told : Files) (problem : Problem) → AreThere input journal output told → CheckFinds input journal output (Some told) problem → status_of problem ≡ 6
judged input journal output told (Text kind place) there h = absurd (read_finds_none decomposed input told (Text kind place) there.input_is h)
judged input journal output told (Limit quantity count) there h = elim h [
  | inl read ↦ absurd (read_finds_none decomposed input told (Limit quantity count) there.input_is read)
  | inr long ↦ absurd (short_enough (file_of told journal) long.1.1.1.1.0 there.journal_is long.1.1.1.1.1.0 long.1.1.1.1.1.1.0)
]
judged input journal output told Missing there h = elim h [
  | inl read ↦ absurd (read_finds_none decomposed input told Missing there.input_is read)
  | inr other ↦ elim other [
    | inl one ↦ absurd (present (file_of told journal) (λ t. length t ≤ 2 ^ 62) there.journal_is one.1.1.1)
    | inr two ↦ absurd (held (file_of told output) there.output_is two.1.1.1.1.1.1)
  ]
]
judged input journal output told Fault there h = absurd h
judged input journal output told Memory there h = absurd h
judged input journal output told Words there h = absurd h
judged input journal output told (Journal f) there h = refl
judged input journal output told (Record r) there h = refl
judged input journal output told (Netlist byte) there h = refl
judged input journal output told (Second found) there h = absurd h
judged input journal output told (Unlike list at) there h = absurd h
judged input journal output told CareShape there h = absurd h
judged input journal output told (Window number stop) there h = absurd h
judged input journal output told (Proof found) there h = absurd h

-- journals of windows that can be read: only one of them is found at fault
sew_judged : (input : Word) (width : ℕ) (prefix : Word) (shift : ℕ) (told : Files) (problem : Problem) → CanBeSewn input width prefix shift told → SewFinds input width prefix shift (Some told) problem → status_of problem ≡ 6
sew_judged input width prefix shift told (Limit quantity count) good h = elim h [
  | inl read ↦ absurd (cut_finds_none input width shift told (Limit quantity count) good.input_is read)
  | inr long ↦ absurd (not_long prefix told (Limit quantity count) good.journals_are long)
]
sew_judged input width prefix shift told (Window number stop) good h = refl
sew_judged input width prefix shift told (Text kind place) good h = absurd (cut_finds_none input width shift told (Text kind place) good.input_is h)
sew_judged input width prefix shift told Missing good h = absurd (cut_finds_none input width shift told Missing good.input_is h)
sew_judged input width prefix shift told Fault good h = absurd h
sew_judged input width prefix shift told Memory good h = absurd h
sew_judged input width prefix shift told Words good h = absurd h
sew_judged input width prefix shift told (Journal f) good h = absurd h
sew_judged input width prefix shift told (Record r) good h = absurd h
sew_judged input width prefix shift told (Netlist byte) good h = absurd h
sew_judged input width prefix shift told (Second found) good h = absurd h
sew_judged input width prefix shift told (Unlike list at) good h = absurd h
sew_judged input width prefix shift told CareShape good h = absurd h
sew_judged input width prefix shift told (Proof found) good h = absurd h

pub or_outside : (k : ℕ) (c : Contract) (files : Option Files) (m n : ℕ) (problem : Problem) → (c.Finds files problem → status_of problem ≡ k) → IsCause c files m n problem → (status_of problem ≡ k) ⊎ IsOutsideOf c m n problem
or_outside k c files m n Fault is h = inr (inr (refl, h))
or_outside k c files m n Memory is h = inr (inl refl)
or_outside k c files m n Words is h = inl (is h)
or_outside k c files m n (Text kind place) is h = inl (is h)
or_outside k c files m n (Limit quantity count) is h = inl (is h)
or_outside k c files m n Missing is h = inl (is h)
or_outside k c files m n (Journal f) is h = inl (is h)
or_outside k c files m n (Record r) is h = inl (is h)
or_outside k c files m n (Netlist byte) is h = inl (is h)
or_outside k c files m n (Second found) is h = inl (is h)
or_outside k c files m n (Unlike list at) is h = inl (is h)
or_outside k c files m n CareShape is h = inl (is h)
or_outside k c files m n (Window number stop) is h = inl (is h)
or_outside k c files m n (Proof found) is h = inl (is h)

pub judged_runs_are_told : JudgedRunsAreTold
judged_runs_are_told None files m n problem there h = absurd there
judged_runs_are_told (Some (opt input output journal settings)) files m n problem there h = absurd there
judged_runs_are_told (Some (check input journal output)) None m n problem there h = absurd there
judged_runs_are_told (Some (check input journal output)) (Some told) m n problem there h =
    or_outside 6 (contract_of (Some (check input journal output))) (Some told) m n problem (judged input journal output told problem there) h
judged_runs_are_told (Some (demo seed settings)) files m n problem there h = absurd there
judged_runs_are_told (Some (flat input output)) files m n problem there h = absurd there
judged_runs_are_told (Some (cut input width prefix shift)) files m n problem there h = absurd there
judged_runs_are_told (Some (sew input width prefix output shift)) None m n problem there h = absurd there
judged_runs_are_told (Some (sew input width prefix output shift)) (Some told) m n problem there h =
    or_outside 6 (contract_of (Some (sew input width prefix output shift))) (Some told) m n problem (sew_judged input width prefix shift told problem there) h
judged_runs_are_told (Some (replay input journal output)) files m n problem there h = absurd there
judged_runs_are_told (Some (convert from to)) files m n problem there h = absurd there
judged_runs_are_told (Some (equal first second proof settings)) files m n problem there h = absurd there
judged_runs_are_told (Some (judge first second proof)) None m n problem there h = absurd there
judged_runs_are_told (Some (judge first second proof)) (Some told) m n problem there h =
    or_outside 6 (contract_of (Some (judge first second proof))) (Some told) m n problem (flaw_judged first second proof told problem there) h
judged_runs_are_told (Some (optcare input care output vectors settings)) files m n problem there h = absurd there
judged_runs_are_told (Some (tests input journal output patterns)) None m n problem there h = absurd there
judged_runs_are_told (Some (tests input journal output patterns)) (Some told) m n problem there h =
    or_outside 6 (contract_of (Some (tests input journal output patterns))) (Some told) m n problem (judged input journal output told problem there) h

-- so a run that reports a problem of good words and files ends with 4, where nothing outside fails
pub reported_done : (law : GoodRunsAreDone) (may_want : Bool) (problem : Problem) (status : ℕ) (words : Option Asked) (files : Option Files) (m n : ℕ) (old new : Option (List ℕ)) (k l : ℕ) → IsReported may_want problem status old new k l → IsCause (contract_of words) files m n problem
    → (contract_of words).IsGood files → (StoreFails (contract_of words) m n → ⊥) → (Rose k l → ⊥) → (status ≡ 0) ⊎ (status ≡ 4)
reported_done law may_want problem status words files m n old new k l r cause good shelf_stands sink_stands = elim r [
  | inl told ↦ elim (law words files m n problem good cause) [
    | inl memory ↦ inr (told.0 ∙ ap status_of memory)
    | inr fault ↦ absurd (shelf_stands fault.1)
  ]
  | inr other ↦ elim other [ inl failed ↦ absurd (sink_stands failed.1.0) | inr spent ↦ inr spent.0 ]
]

-- and one that has done its work with 0 or 4, where what is done has status 0
pub ended_done : (may_want : Bool) (k : ℕ) (text : List ℕ) (status : ℕ) (old new : Option (List ℕ)) (i l : ℕ) → k ≡ 0 → HasEnded may_want k text status old new i l → (Rose i l → ⊥) → (status ≡ 0) ⊎ (status ≡ 4)
ended_done may_want k text status old new i l zero h sink_stands = elim h [
  | inl told ↦ inl (told.0 ∙ zero)
  | inr other ↦ elim other [ inl failed ↦ absurd (sink_stands failed.1.0) | inr spent ↦ inr spent.0 ]
]

-- a run that reports a problem of what it judges ends with 6 or 4
pub reported_judged : (law : JudgedRunsAreTold) (may_want : Bool) (problem : Problem) (status : ℕ) (words : Option Asked) (files : Option Files) (m n : ℕ) (old new : Option (List ℕ)) (k l : ℕ) → IsReported may_want problem status old new k l → IsCause (contract_of words) files m n problem
    → (contract_of words).IsJudged files → (StoreFails (contract_of words) m n → ⊥) → (Rose k l → ⊥) → (status ≡ 0) ⊎ ((status ≡ 6) ⊎ (status ≡ 4))
reported_judged law may_want problem status words files m n old new k l r cause there shelf_stands sink_stands = elim r [
  | inl told ↦ elim (law words files m n problem there cause) [
    | inl six ↦ inr (inl (told.0 ∙ six))
    | inr outside ↦ elim outside [ inl memory ↦ inr (inr (told.0 ∙ ap status_of memory)) | inr fault ↦ absurd (shelf_stands fault.1) ]
  ]
  | inr other ↦ elim other [ inl failed ↦ absurd (sink_stands failed.1.0) | inr spent ↦ inr (inr spent.0) ]
]

-- and one that has done its work with 0 or 4
pub ended_judged : (may_want : Bool) (k : ℕ) (text : List ℕ) (status : ℕ) (old new : Option (List ℕ)) (i l : ℕ) → k ≡ 0 → HasEnded may_want k text status old new i l → (Rose i l → ⊥) → (status ≡ 0) ⊎ ((status ≡ 6) ⊎ (status ≡ 4))
ended_judged may_want k text status old new i l zero h sink_stands = elim h [
  | inl told ↦ inl (told.0 ∙ zero)
  | inr other ↦ elim other [ inl failed ↦ absurd (sink_stands failed.1.0) | inr spent ↦ inr (inr spent.0) ]
]
