use Rattle.journal_audit.proofs.Saying.{kept_more}
use Rattle.journal_audit.proofs.verdicts.push_number.Goals as goal

pub returns-clause-kept : goal.returns-clause-kept
returns-clause-kept c = rw c.in_ok-push.ensures.items (kept_more c.args.vectors.now c.args.numbers.now.items c.args.number c.requires.within c.requires.kept)
