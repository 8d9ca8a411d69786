use Rattle.std.proofs.Common.{inr}
use Rattle.rar_loop.proofs.Filtering.{asked_more, set_kept}
use Rattle.rar_loop.proofs.vectors.keep.Goals as goal

pub returns-then-number-len-clause-kept : goal.returns-then-number-len-clause-kept
returns-then-number-len-clause-kept c g w e = inr e

pub returns-in-Ok-clause-kept : goal.returns-in-Ok-clause-kept
returns-in-Ok-clause-kept c = set_kept c.args.turned.now.items c.args.gate.0 c.args.word

pub returns-in-Ok-clause-listed : goal.returns-in-Ok-clause-listed
returns-in-Ok-clause-listed c = λ listed. asked_more c.args.turned.now.items c.args.asked.now.items c.push.new.self.items c.args.gate c.args.word c.in-Ok.ensures.items listed

pub returns-in-Err-clause-kept : goal.returns-in-Err-clause-kept
returns-in-Err-clause-kept c g w e = inr e
