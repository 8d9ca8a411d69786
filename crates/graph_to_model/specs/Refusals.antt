-- Why a net has no model.
use Rattle.std.specs.Prelude.{◌≡◌, Some}
use Rattle.gate_net.specs.Net.{Net}
use Rattle.wire_edit.specs.declared.steps.Step.{Step}
use Rattle.wire_edit.specs.Order.{IsTidy, next_step}
use Rattle.graph_to_model.specs.declared.net_model.ModelRefusal.{ModelRefusal}
use Rattle.graph_to_model.specs.declared.net_model.ModelRefusal.TheVariants.{NotTidy, NoMemory}
use Rattle.wire_edit.specs.Steps.{gate_of_step}

-- the net is not tidy, and the next step is at that gate; or it is tidy, and memory was wanting
abbrev pub IsRefused : Net → ModelRefusal → Type 0
IsRefused net (NotTidy node) = (step : Step) × ((next_step net ≡ Some step) × (gate_of_step step ≡ node))
IsRefused net NoMemory = IsTidy net
