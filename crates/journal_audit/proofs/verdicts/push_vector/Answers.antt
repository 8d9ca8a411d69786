use Rattle.std.proofs.Common.{rules, ◌≡◌, ◌∙◌, ap, length, List, Bool, Some}
use Rattle.journal_audit.proofs.Saying.{said_more, vector_more}
use Rattle.journal_audit.proofs.verdicts.push_vector.Goals as goal

pub returns-clause-kept : goal.returns-clause-kept
returns-clause-kept c =
    let count : c.len-number.result ≡ length c.args.vectors.now.items = search (c.len-number.ensures, rules) in
    rw (c.in_ok-push.ensures.items, c.in_default.ensures.items, count) (vector_more c.args.vectors.now.items c.args.numbers.now.items c.args.vector c.requires.kept)

pub returns-clause-said : goal.returns-clause-said
returns-clause-said c =
    let count : c.len-number.result ≡ length c.args.vectors.now.items = search (c.len-number.ensures, rules) in
    rw (c.in_ok-push.ensures.items, c.in_default.ensures.items, count) (said_more c.args.vectors.now.items c.args.numbers.now.items c.args.vector c.requires.kept)
