-- What ends the steps, as it is told.
use Rattle.std.specs.Prelude.{Option, Some, None}
use Rattle.accepted_steps.specs.declared.stop.Stop.{Stop}
use Rattle.accepted_steps.specs.declared.stop.Stop.TheVariants.{Refused, Text}
use Rattle.accepted_steps.specs.declared.stop.Ended.{Ended}
use Rattle.accepted_steps.specs.declared.stop.Ended.TheVariants.{AtFault, AtRefusal, AtVerdict}

-- a verdict is told by nothing
abbrev pub stop_of : Ended → Option Stop
stop_of AtVerdict = None
stop_of (AtRefusal refusal) = Some (Refused refusal)
stop_of (AtFault f) = Some (Text f)
