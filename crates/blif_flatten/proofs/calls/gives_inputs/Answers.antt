use Rattle.rm_model.specs.Value.{is_among}
use Rattle.blif_flatten.proofs.Formals.{inward-listed}
use Rattle.blif_flatten.proofs.calls.gives_inputs.Goals as goal

pub loop-name-init : goal.loop-name-init
loop-name-init c = λ m i. inward-listed (is_among c.args.given.now) c.args.interface.now m i
