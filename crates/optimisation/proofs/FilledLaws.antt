-- From the rounds to all that stands behind the header, or to what is left of it.
use Rattle.std.proofs.Common.{ℕ, ◌≤◌, List, [], ◌∷◌, ◌++◌, Option, refl, sym, ◌∙◌, ap, subst, append_assoc}
use Rattle.rm_base.specs.Files.{Files}
use Rattle.rm_base.specs.declared.numbers.Fault.{Fault}
use Rattle.rm_base.specs.declared.settings.Settings.{Settings}
use Rattle.gate_net.specs.Net.{Net}
use Rattle.gate_graph.specs.Circuit.{net_of}
use Rattle.journal_check.specs.Accepts.{IsAcceptedFrom}
use Rattle.journal_text.specs.Joining.{RunsJoin, TextsAppend}
use Rattle.journal_ranges.proofs.Public.{fits_then}
use Rattle.journal_ranges.specs.Ranges.{AreFit, FittingAreEntries}
use Rattle.journal_text.specs.Runs.{AcceptedRunsAreWritable, AcceptedTo, AreWritable, HasAppended, HasAppendedPart, records_text}
use Rattle.journal_text.specs.Text.{AreEntries, entry_text, journal_entries}
use Rattle.journal_text.specs.declared.record.Record.{Record}
use Rattle.journal_text.specs.declared.record.Entry.TheVariants.{End}
use Rattle.closing_pass.specs.Recording.{AreRecordable, verdict_records}
use Rattle.podem.specs.declared.verdict.Verdict.{Verdict}
use Rattle.podem.specs.declared.verdict.Verdict.TheVariants.{Detected, Refuted, Spent}
use Rattle.optimisation.specs.Inner.Turned.{HasTurns}
use Rattle.optimisation.specs.Inner.Filled.{IsFilled, IsLeftWhole}
use Rattle.optimisation.specs.declared.rounds.Rounds.{Rounds}
use Rattle.optimisation.proofs.VerdictLaws.{settled_of}
use Rattle.journal_text.proofs.Public.{records_then}

-- what was found of the faults has lines
writable_verdicts : (verdicts : List (Fault × Verdict)) → AreRecordable verdicts → AreWritable (verdict_records verdicts)
writable_verdicts [] h = tt
writable_verdicts ((fault, Detected vector) ∷ verdicts) h = (h.0, writable_verdicts verdicts h.1)
writable_verdicts ((fault, Refuted tree) ∷ verdicts) h = absurd h.0
writable_verdicts ((fault, Spent tree) ∷ verdicts) h = (h.0, writable_verdicts verdicts h.1)

-- so have all records, and their numbers are in range
valid_records : RunsJoin → AcceptedRunsAreWritable → FittingAreEntries → (start after : Net) (budget : ℕ) (rs : List Record) (verdicts : List (Fault × Verdict)) → 1 ≤ budget → budget ≤ 1048576 → AcceptedTo start rs after → AreFit rs → AreRecordable verdicts → AreFit (verdict_records verdicts)
    → AreEntries (journal_entries budget (rs ++ verdict_records verdicts))
valid_records join writable fitting start after budget rs verdicts low high accepted fit recordable fits =
    fitting budget (rs ++ verdict_records verdicts) low high (join.writable rs (verdict_records verdicts) (writable start after rs accepted) (writable_verdicts verdicts recordable)) (fits_then rs (verdict_records verdicts) fit fits)

-- the steps, the verdicts and the end
pub filled : (join : RunsJoin) (writable : AcceptedRunsAreWritable) (fitting : FittingAreEntries) (texts : TextsAppend) (start : Net) (settings : Settings) (rounds : Rounds) (old one two new : Option Files) (name : List ℕ) → HasTurns start settings settings.perturb rounds old one name → 1 ≤ settings.budget → settings.budget ≤ 1048576 → AreRecordable rounds.report.verdicts.items → AreFit (verdict_records rounds.report.verdicts.items)
    → HasAppended one two name (records_text (verdict_records rounds.report.verdicts.items)) → HasAppended two new name (entry_text End) → IsFilled start settings rounds old new name
filled join writable fitting texts start settings rounds old one two new name ended low high recordable fits verdicts end =
    let rs : List Record = ended.records in
    let vs : List Record = verdict_records rounds.report.verdicts.items in
    record {
      records = rs;
      run = ended.run;
      closed = ended.closed;
      valid = valid_records join writable fitting start (net_of rounds.last.graph) settings.budget rs rounds.report.verdicts.items low high ended.run.accepted ended.fit recordable fits;
      written = subst (λ (text : List ℕ). HasAppended old new name text) (sym (ap (λ (text : List ℕ). text ++ entry_text End) (records_then rs vs) ∙ append_assoc (records_text rs) (records_text vs) (entry_text End)))
          (texts.follows old one new name (records_text rs) (records_text vs ++ entry_text End) ended.written (texts.follows one two new name (records_text vs) (entry_text End) verdicts end));
    }

-- all the records are accepted
records_accepted : (start : Net) (settings : Settings) (rounds : Rounds) (old one : Option Files) (name : List ℕ) → (ended : HasTurns start settings settings.perturb rounds old one name)
    → IsAcceptedFrom start settings.budget (ended.records ++ verdict_records rounds.report.verdicts.items) (net_of rounds.last.graph)
records_accepted start settings rounds old one name ended = record {
  steps = ended.records;
  verdicts = verdict_records rounds.report.verdicts.items;
  parts = refl;
  leads = ended.run.accepted;
  tidy = ended.run.tidy;
  settled = settled_of (net_of rounds.last.graph) settings.budget rounds.report.verdicts.items ended.closed;
}

-- a part of the verdicts
pub left_in_verdicts : (texts : TextsAppend) (start : Net) (settings : Settings) (rounds : Rounds) (old one new : Option Files) (name : List ℕ) → HasTurns start settings settings.perturb rounds old one name
    → HasAppendedPart one new name (records_text (verdict_records rounds.report.verdicts.items)) → IsLeftWhole start settings.budget old new name
left_in_verdicts texts start settings rounds old one new name ended part =
    let rs : List Record = ended.records in
    let vs : List Record = verdict_records rounds.report.verdicts.items in
    record {
      records = rs ++ vs;
      last = net_of rounds.last.graph;
      accepted = records_accepted start settings rounds old one name ended;
      written = subst (λ (text : List ℕ). HasAppendedPart old new name (text ++ entry_text End)) (sym (records_then rs vs))
          (texts.longer old new name (records_text rs ++ records_text vs) (entry_text End) (texts.part old one new name (records_text rs) (records_text vs) ended.written part));
    }

-- all the verdicts and a part of the end
pub left_in_end : (texts : TextsAppend) (start : Net) (settings : Settings) (rounds : Rounds) (old one two new : Option Files) (name : List ℕ) → HasTurns start settings settings.perturb rounds old one name
    → HasAppended one two name (records_text (verdict_records rounds.report.verdicts.items)) → HasAppendedPart two new name (entry_text End) → IsLeftWhole start settings.budget old new name
left_in_end texts start settings rounds old one two new name ended verdicts part =
    let rs : List Record = ended.records in
    let vs : List Record = verdict_records rounds.report.verdicts.items in
    record {
      records = rs ++ vs;
      last = net_of rounds.last.graph;
      accepted = records_accepted start settings rounds old one name ended;
      written = subst (λ (text : List ℕ). HasAppendedPart old new name (text ++ entry_text End)) (sym (records_then rs vs))
          (texts.part old two new name (records_text rs ++ records_text vs) (entry_text End)
          (texts.follows old one two name (records_text rs) (records_text vs) ended.written verdicts)
          part);
    }
