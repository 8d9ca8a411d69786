use Rattle.std.proofs.Common.{◌≡◌, drop}
use Rattle.std.specs.List.{list_all}
use Rattle.rm_model.specs.declared.parts.Model.{Model}
use Rattle.rm_model.specs.Value.{is_among}
use Rattle.blif_flatten.specs.CallFaults.{inward}
use Rattle.blif_flatten.specs.Inner.Interfaces.{IsInterface, bytes_of}
use Rattle.blif_flatten.proofs.calls.gives_inputs.Given as goal

abbrev pub invariant-loop-name : goal.invariant-loop-name
invariant-loop-name l = (m : Model) → IsInterface l.interface m → list_all (is_among l.given) (inward m) ≡ list_all (is_among l.given) (bytes_of (drop l.name-index l.interface.inward.names.items))
