use Rattle.std.proofs.Common.{sym, ◌∙◌}
use Rattle.blif_reader.proofs.PairLaws.{entry_absent, entry_placed}
use Rattle.blif_reader.proofs.name_uses.NameUses.get.Goals as goal

pub returns-in-Some : goal.returns-in-Some
returns-in-Some c x e = c.at.ensures ∙ entry_placed c.args.self.now x c.in-Some.place (sym e ∙ c.in-Some.is)

pub returns-in-None : goal.returns-in-None
returns-in-None c x e = sym (entry_absent c.args.self.now x (sym e ∙ c.in-None.is))
