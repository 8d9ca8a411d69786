-- What ends steps, as a refusal.
use Rattle.std.specs.Prelude.{◌≡◌, Option, None, Some}
use Rattle.accepted_steps.specs.declared.stop.Stop.{Stop}
use Rattle.window_parts.specs.declared.refusal.PartRefusal.{PartRefusal}
use Rattle.window_parts.specs.declared.refusal.PartRefusal.TheVariants.{Journal}

-- nothing refuses steps that end at a verdict or at the end
abbrev pub StoppedBy : Option Stop → PartRefusal → Type 0
StoppedBy None refusal = ⊥
StoppedBy (Some stop) refusal = refusal ≡ Journal stop
