use Rattle.demo_generator.proofs.Steps.{named_one}
use Rattle.demo_generator.proofs.names.signal_names.Goals as goal

pub loop-number-preserved : goal.loop-number-preserved
loop-number-preserved c = named_one c.args.first c.loop-number.number c.in_ok-signal_name.field-0 c.loop-number.names c.push.new.self
    c.loop-number.auto.number c.loop-number.invariant c.in_ok-signal_name.ensures c.in_ok-push.ensures.ok
