use Rattle.std.proofs.Common.{arith}
use Rattle.std.proofs.lemmas.Grind.{common_steps}
use Rattle.std.proofs.lemmas.List.Elements.{filter_map-append}
use Rattle.rm_model.proofs.numbering.covers_among.Goals as goal

pub loop-signal-preserved : goal.loop-signal-preserved
loop-signal-preserved c = grind (arith, common_steps, filter_map-append)
