use Rattle.blif_flatten.proofs.Lines.{few-tokens}
use Rattle.blif_flatten.proofs.models.module_of.Goals as goal

pub count_tokens-requires : goal.count_tokens-requires
count_tokens-requires c = few-tokens c.args.text.now c.args.section.now c.items-3.result.now c.items-4.result.now c.items-3.ensures c.items-4.ensures c.requires.within.few
