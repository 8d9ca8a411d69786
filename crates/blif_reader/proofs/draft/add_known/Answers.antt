use Rattle.std.proofs.Common.{subst}
use Rattle.blif_format.specs.declared.words.Command.{Command}
use Rattle.blif_reader.specs.Inner.Drafts.{IsKnown}
use Rattle.blif_reader.specs.Lines.{words_at}
use Rattle.blif_reader.proofs.ShapeLaws.{adds_cover, adds_latch}
use Rattle.blif_reader.proofs.draft.add_known.Goals as goal

pub returns-in_ok-cover_of-in-Names : goal.returns-in_ok-cover_of-in-Names
returns-in_ok-cover_of-in-Names c h = adds_cover c.args.command (words_at c.args.text.now c.args.words.now) c.args.draft.now c.in_ok-cover_of-in-Names.field-0 c.in-Names.is c.requires.closed c.in_ok-cover_of-in-Names.ensures.names c.in_ok-cover_of-in-Names.ensures.rows c.in_ok-cover_of-in-Names.ensures.on

pub returns-in_ok-push-in-Latch : goal.returns-in_ok-push-in-Latch
returns-in_ok-push-in-Latch c h = adds_latch c.args.command (words_at c.args.text.now c.args.words.now) c.args.draft.now c.in_ok-latch_of-in-Latch.field-0 c.push.new.self c.in-Latch.is c.requires.closed c.in_ok-push-in-Latch.ensures.ok (c.in_ok-latch_of-in-Latch.ensures.words (subst (λ (k : Command). IsKnown k (words_at c.args.text.now c.args.words.now)) c.in-Latch.is h)) c.in_ok-latch_of-in-Latch.ensures.fit
