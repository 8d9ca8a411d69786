use Rattle.journal_audit.proofs.Saying.{kept_none}
use Rattle.journal_audit.proofs.verdicts.push_none.Goals as goal

pub returns-clause-kept : goal.returns-clause-kept
returns-clause-kept c = rw c.in_ok-push.ensures.items (kept_none c.args.vectors.now c.args.numbers.now.items c.requires.kept)
