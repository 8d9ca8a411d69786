use Rattle.std.proofs.Common.{◌∙◌, sym, ap}
use Rattle.blif_flatten.specs.Inner.Tokens.{sections_at}
use Rattle.blif_flatten.proofs.Joined.{lines-some, on-ok}
use Rattle.blif_flatten.proofs.reading.read_modules.Goals as goal

pub link_sections-requires-clause-some : goal.link_sections-requires-clause-some
link_sections-requires-clause-some c = λ none. lines-some c.args.text.now c.in-Ok-callable_of.ensures.ok (sym c.in-Ok.ensures.sections ∙ (ap (sections_at c.args.text.now) (sym c.as_slice.ensures.value) ∙ ap (sections_at c.args.text.now) none))

pub returns-clause-some : goal.returns-clause-some
returns-clause-some c = on-ok c.link_sections.result (lines-some c.args.text.now c.in-Ok-callable_of.ensures.ok)
