-- Beside Optcare.antt: what optimising two models that were read leaves, before it is written.
use Rattle.std.specs.Prelude.{◌≡◌, ◌≤◌, ℕ, List, true, false}
use Rattle.rm_base.specs.Causes.{Rose}
use Rattle.rm_base.specs.declared.settings.Made.{Made}
use Rattle.rm_base.specs.declared.settings.Settings.{Settings}
use Rattle.rm_model.specs.Value.{IsRanked}
use Rattle.rm_model.specs.WellFormed.{IsWellFormed as IsModel}
use Rattle.rm_model.specs.declared.parts.Model.{Model}
use Rattle.blif_format.specs.Text.{text_of}
use Rattle.blif_format.specs.declared.refusal.Quantity.TheVariants.{Pins}
use Rattle.blif_reader.specs.Limits.{IsWithinLimits}
use Rattle.gate_graph.specs.Circuit.{Circuit, net_of}
use Rattle.gate_net.specs.Net.{IsWellFormed, gate_count, wire_count}
use Rattle.cover_decompose.specs.Count.{decomposed}
use Rattle.cover_decompose.specs.Decomposition.{net_of_model}
use Rattle.graph_to_model.specs.Fits.{Fits}
use Rattle.graph_to_model.specs.Laws.{AreFew}
use Rattle.graph_to_model.specs.NetModel.{model_of_net}
use Rattle.journal_text.specs.Runs.{AreWritable}
use Rattle.journal_text.specs.Text.{journal_text}
use Rattle.journal_text.specs.declared.record.Record.{Record}
use Rattle.optimisation.specs.Tests.{hits_among, spents_among}
use Rattle.wire_edit.specs.Order.{IsTidy}
use Rattle.care_opt.specs.Done.{AreTestsOf, IsOptimisedOn}
use Rattle.care_opt.specs.EquivalentOn.{EquivalentOn}
use Rattle.care_opt.specs.declared.done.CareDone.{CareDone}
use Rattle.care_opt.specs.declared.refusal.CareRefusal.{CareRefusal}
use Rattle.care_opt.specs.declared.refusal.CareRefusal.TheVariants as care
use Rattle.rambo_cli.specs.Optcare.{IsCaredInto, Misfits}
use Rattle.rambo_cli.specs.Written.{most_pins}
use Rattle.rambo_cli.specs.declared.caring.Cared.{Cared}
use Rattle.rambo_cli.specs.declared.summary.CareFigures.{CareFigures}
use Rattle.rambo_cli.specs.declared.problem.NameList.TheVariants.{Sources}
use Rattle.rambo_cli.specs.declared.problem.TextProblem.TheVariants as found
use Rattle.rambo_cli.specs.declared.problem.Problem.{Problem}
use Rattle.rambo_cli.specs.declared.problem.Problem.TheVariants.{Limit, Second, Fault, Unlike, CareShape, Memory}

-- the problem that optimising under a care model ends with
abbrev pub care_problem : CareRefusal → Problem
care_problem care.Shape = CareShape
care_problem (care.UnlikeSources at) = Unlike Sources at
care_problem (care.Limit false pins) = Limit Pins pins
care_problem (care.Limit true pins) = Second (found.Limit Pins pins)
care_problem care.NoMemory = Memory

-- the counts of the steps that were made
abbrev pub made_of : CareDone → Made
made_of d = record { adds = 0; fixes = d.fixes; local = d.local }

-- a call of the store has failed, or memory ran out
abbrev pub IsCutShort : ℕ → ℕ → Problem → Type 0
IsCutShort before now Fault = Rose before now
IsCutShort before now Memory = Unit {0}
IsCutShort before now _ = ⊥

-- the second model is no care model for the first, or memory ran out
abbrev pub IsMisfit : Model → Model → Problem → Type 0
IsMisfit m c Memory = Unit {0}
IsMisfit m c problem = Misfits m c problem

-- what optimising gives: the graph of what remains, the counts of steps, and the records
pub record IsCareDone (m c : Model) (settings : Settings) (graph : Circuit) (made : Made) (records : List Record) : Type 0 where
  pub optimised : IsOptimisedOn m c settings.depth settings.budget graph made records
  pub is_tidy : IsTidy (net_of graph)
  pub fits : Fits (net_of graph) m
  pub fewer : wire_count (net_of graph) ≤ decomposed m
  pub equivalent : EquivalentOn m (model_of_net m (net_of graph)) c
  pub tests : AreTestsOf (net_of graph) c records

-- the figures of that
pub record AreFiguresOf (m : Model) (graph : Circuit) (made : Made) (records : List Record) (f : CareFigures) : Type 0 where
  pub wires_before : f.wires_before ≡ decomposed m
  pub gates_before : f.gates_before ≡ gate_count (net_of_model m)
  pub wires : f.wires ≡ wire_count (net_of graph)
  pub gates : f.gates ≡ gate_count (net_of graph)
  pub made_are : f.made ≡ made
  pub tested : f.tested ≡ hits_among records
  pub spent : f.spent ≡ spents_among records

-- what is to be written for the two models
pub record IsCared (m c : Model) (settings : Settings) (cared : Cared) : Type 0 where
  pub into : IsCaredInto m c settings cared.figures (journal_text settings.budget cared.records.items) cared.text.items
  pub writable : AreWritable cared.records.items

-- each record has a line, and both texts are what is said of the two models
pub record IsCareWritten (m c : Model) (settings : Settings) (graph : Circuit) (records : List Record) (figures : CareFigures) : Type 0 where
  pub into : IsCaredInto m c settings figures (journal_text settings.budget records) (text_of (model_of_net m (net_of graph)))
  pub writable : AreWritable records

abbrev pub CaredNetsAreWritten : Type 0
CaredNetsAreWritten =
    (m c : Model) (settings : Settings) (graph : Circuit) (made : Made) (records : List Record) (figures : CareFigures) → IsModel m → IsRanked m → IsWithinLimits m → decomposed m ≤ most_pins → IsWellFormed (net_of graph) → AreFew (net_of graph) m
    → IsCareDone m c settings graph made records → AreFiguresOf m graph made records figures → IsCareWritten m c settings graph records figures
