use Rattle.rambo_cli.proofs.pairs.read_second.Goals as goal

pub returns-in-Err-clause-cause : goal.returns-in-Err-clause-cause
returns-in-Err-clause-cause g c = (c.in-Err.problem, (c.of_second.ensures, c.in-Err.ensures.cause))
