use Rattle.accepted_steps.proofs.SoFar.{cut_off}
use Rattle.accepted_steps.proofs.reading.last.Goals as goal

pub returns : goal.returns
returns c = λ m text t taking. cut_off c.cuts_agree.ensures c.places_tell.ensures m text c.args.reader.now t c.in-Err.fault taking c.requires.none c.in-Err.ensures.err
