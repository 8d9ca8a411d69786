use Rattle.rambo_cli.proofs.Replacing.{appended_done, appended_begun}
use Rattle.rambo_cli.proofs.optimising.replace.Goals as goal

pub returns-clause-done : goal.returns-clause-done
returns-clause-done g c = appended_done _ _ _ _ _ _ c.in_ok-create.ensures.files c.append.ensures.files

pub returns-clause-begun : goal.returns-clause-begun
returns-clause-begun g c = appended_begun _ _ _ _ _ _ c.in_ok-create.ensures.files c.append.ensures.files
