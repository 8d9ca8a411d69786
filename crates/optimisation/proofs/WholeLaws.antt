-- A journal from its header to its end, and what it holds where a run ends early.
use Rattle.std.proofs.Common.{◌≡◌, ℕ, ◌+◌, Bool, List, [], ◌++◌, take, length, Option, inl, inr, refl, sym, ◌∙◌, ap, subst, arith}
use Rattle.std.specs.Option.{option_map}
use Rattle.rm_base.specs.Files.{Files, put_file}
use Rattle.rm_base.specs.declared.settings.Settings.{Settings}
use Rattle.rm_model.specs.declared.parts.Model.{Model}
use Rattle.gate_net.specs.Net.{Net, IsWellFormed, gate_count, wire_count}
use Rattle.gate_graph.specs.Circuit.{net_of}
use Rattle.cover_decompose.specs.Count.{decomposed}
use Rattle.cover_decompose.specs.Decomposition.{net_of_model}
use Rattle.journal_text.specs.Runs.{AcceptedRunsKeep, IsStopped, records_text, steps_of}
use Rattle.journal_text.specs.Text.{entry_text}
use Rattle.journal_text.specs.declared.record.Record.{Record}
use Rattle.journal_text.specs.declared.record.Entry.TheVariants.{Header, End}
use Rattle.closing_pass.specs.Recording.{verdict_records}
use Rattle.optimisation.specs.Allowed.{IsAllowed}
use Rattle.optimisation.specs.Turns.{IsTurnedRun}
use Rattle.optimisation.specs.Begun.{BeginsSteps, HasBegun}
use Rattle.optimisation.specs.Inner.Begun.{BeginsHeader}
use Rattle.optimisation.specs.Inner.Filled.{IsFilled, IsLeft, IsLeftWhole}
use Rattle.optimisation.specs.Whole.{IsWhole}
use Rattle.optimisation.specs.Tests.{hits_among, spents_among}
use Rattle.optimisation.specs.declared.optimised.Figures.{Figures}
use Rattle.optimisation.specs.declared.rounds.Rounds.{Rounds}
use Rattle.optimisation.proofs.Texts.{put_then, take_front, whole_text}
use Rattle.optimisation.proofs.VerdictLaws.{searched, settled_of}
use Rattle.rm_base.proofs.Public.{take_of_longer}

-- a beginning of the header
pub header_begun : (m : Model) (budget : ℕ) (name : List ℕ) (old new : Option Files) → BeginsHeader budget name old new → HasBegun m budget name old new
header_begun m budget name old new h = elim h [
  | inl same ↦ inl same
  | inr part ↦ inr (take part.0 (entry_text (Header budget)), (inl (at part.0), part.1))
]
  where
    at : (k : ℕ) → BeginsSteps m budget (take k (entry_text (Header budget)))
    at k =
        let cut = take_of_longer (entry_text (Header budget)) [] k in
        record { records = []; last = net_of_model m; accepted = refl; kept = cut.0; are = cut.1 }

-- the header and a beginning of the steps
stopped_begun : (m : Model) (budget : ℕ) (name : List ℕ) (old opened new : Option Files) → opened ≡ option_map (put_file name (entry_text (Header budget))) old → IsStopped (net_of_model m) opened new name → HasBegun m budget name old new
stopped_begun m budget name old opened new e s =
    let H : List ℕ = entry_text (Header budget) in
    inr (
      H ++ take s.written.0 (records_text s.records),
      (
        inl (record { records = s.records; last = s.after; accepted = s.accepted; kept = length H + s.written.0; are = take_front H (records_text s.records) s.written.0 }),
        put_then name H (take s.written.0 (records_text s.records)) old opened new e s.written.1,
      ),
    )

-- the header and a beginning of all records and the end
whole_begun : (m : Model) (budget : ℕ) (name : List ℕ) (old opened new : Option Files) → opened ≡ option_map (put_file name (entry_text (Header budget))) old → IsLeftWhole (net_of_model m) budget opened new name → HasBegun m budget name old new
whole_begun m budget name old opened new e s =
    let H : List ℕ = entry_text (Header budget) in
    let R : List ℕ = records_text s.records ++ entry_text End in
    inr (
      H ++ take s.written.0 R,
      (
        inr (record { records = s.records; last = s.last; accepted = s.accepted; kept = length H + s.written.0; are = take_front H R s.written.0 ∙ ap (take (length H + s.written.0)) (sym (whole_text budget s.records)) }),
        put_then name H (take s.written.0 R) old opened new e s.written.1,
      ),
    )

pub left_begun : (m : Model) (budget : ℕ) (name : List ℕ) (old opened new : Option Files) → opened ≡ option_map (put_file name (entry_text (Header budget))) old → IsLeft (net_of_model m) budget opened new name → HasBegun m budget name old new
left_begun m budget name old opened new e h = elim h [
  | inl stopped ↦ stopped_begun m budget name old opened new e stopped
  | inr whole ↦ whole_begun m budget name old opened new e whole
]

-- a journal that was filled is whole
pub filled_whole : (keep : AcceptedRunsKeep) (m : Model) (settings : Settings) (rounds : Rounds) (f : Figures) (old opened new : Option Files) (name : List ℕ) → IsWellFormed (net_of_model m) → wire_count (net_of_model m) ≡ decomposed m
    → opened ≡ option_map (put_file name (entry_text (Header settings.budget))) old → IsFilled (net_of_model m) settings rounds opened new name → IsAllowed settings rounds.last.limit f.work
    → f.wires_before ≡ decomposed m → f.gates_before ≡ gate_count (net_of_model m) → f.wires ≡ wire_count (net_of rounds.last.graph) → f.gates ≡ gate_count (net_of rounds.last.graph)
    → f.made ≡ rounds.last.made → f.tries ≡ rounds.last.tries → f.settled ≡ rounds.last.settled
    → f.tested ≡ hits_among (verdict_records rounds.report.verdicts.items) → f.spent ≡ spents_among (verdict_records rounds.report.verdicts.items)
    → IsWhole m settings (net_of rounds.last.graph) f old new name
filled_whole keep m settings rounds f old opened new name formed wires e h allowed wires_before gates_before wires_after gates_after made tries settled tested spent =
    let H : List ℕ = entry_text (Header settings.budget) in
    let net : Net = net_of rounds.last.graph in
    let verdicts : List Record = verdict_records rounds.report.verdicts.items in
    record {
      steps = h.records;
      verdicts = verdicts;
      written = put_then name H (records_text (h.records ++ verdicts) ++ entry_text End) old opened new e h.written
          ∙ ap (λ (text : List ℕ). option_map (put_file name text) old) (sym (whole_text settings.budget (h.records ++ verdicts)));
      over = record {
        led = h.run.accepted;
        tidy = h.run.tidy;
        keeps = keep (net_of_model m) net h.records formed h.run.accepted;
        fewer = omega (arith, h.run.fewer, wires);
        settled = settled_of net settings.budget rounds.report.verdicts.items h.closed;
        searched = searched net settings.budget rounds.report.verdicts.items h.closed;
        limit = rounds.last.limit;
        allowed = allowed;
        run = subst (λ (b : Bool). IsTurnedRun (net_of_model m) (steps_of h.records) settings.merge settings.perturb settings.depth rounds.last.limit f.tries b) (sym settled)
            (subst (λ (k : ℕ). IsTurnedRun (net_of_model m) (steps_of h.records) settings.merge settings.perturb settings.depth rounds.last.limit k rounds.last.settled) (sym tries) h.run.run);
        figures = record {
          wires_before = wires_before;
          gates_before = gates_before;
          wires = wires_after;
          gates = gates_after;
          made = made ∙ h.run.counted;
          tested = tested;
          spent = spent;
        };
        valid = h.valid;
      };
    }
