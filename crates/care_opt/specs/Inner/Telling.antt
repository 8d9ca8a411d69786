-- What the extract of a gated net that was worked on says of the models.
use Rattle.std.specs.Prelude.{List, length, ℕ, ◌<◌, ◌^◌, ◌≡◌, ◌≤◌}
use Rattle.cover_decompose.specs.Count.{decomposed}
use Rattle.gate_graph.specs.Circuit.{Circuit, net_of}
use Rattle.gate_net.specs.Net.{IsWellFormed as IsNet, wire_count}
use Rattle.graph_to_model.specs.Fits.{Fits}
use Rattle.graph_to_model.specs.NetModel.{model_of_net}
use Rattle.joined_nets.specs.Ready.{IsReady}
use Rattle.journal_text.specs.declared.record.Record.{Record}
use Rattle.rm_base.specs.declared.settings.Made.{Made}
use Rattle.rm_model.specs.declared.parts.Model.{Model}
use Rattle.wire_edit.specs.Order.{IsTidy}
use Rattle.care_opt.specs.Done.{AreTestsOf, IsOptimisedOn}
use Rattle.care_opt.specs.EquivalentOn.{EquivalentOn, IsCareOf}
use Rattle.care_opt.specs.Gated.{main_bound, models_gated}
use Rattle.care_opt.specs.Inner.Passing.{IsExtractedFrom, IsSomeGated}

-- all that is said of the graph
pub record IsAllOf (m c : Model) (depth budget : ℕ) (graph : Circuit) (made : Made) (records : List Record) : Type 0 where
  pub optimised : IsOptimisedOn m c depth budget graph made records
  pub is_tidy : IsTidy (net_of graph)
  pub fits : Fits (net_of graph) m
  pub fewer : wire_count (net_of graph) ≤ decomposed m
  pub equivalent : EquivalentOn m (model_of_net m (net_of graph)) c
  pub tests : AreTestsOf (net_of graph) c records

-- of models whose gated net was worked on, wherever the nets are those of graphs
abbrev pub CaresTell : Type 0
CaresTell =
    (m c : Model) (bound depth budget : ℕ) (start graph : Circuit) (made : Made) (records : List Record) → IsReady m → IsReady c → IsCareOf m c → net_of start ≡ models_gated m c → IsNet (net_of start) → IsNet (net_of graph) → length (net_of graph).nodes < 2 ^ 64
    → bound ≡ main_bound m → IsExtractedFrom bound (net_of start) depth budget graph made records → IsAllOf m c depth budget graph made records

-- the gated net of the models is one
abbrev pub GatedStand : Type 0
GatedStand = (m c : Model) (bound : ℕ) (start : Circuit) → IsReady m → IsReady c → IsCareOf m c → net_of start ≡ models_gated m c → IsNet (net_of start) → bound ≡ main_bound m → IsSomeGated bound (net_of start)
