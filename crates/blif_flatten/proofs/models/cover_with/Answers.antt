use Rattle.blif_flatten.proofs.Lines.{cover-with}
use Rattle.blif_flatten.proofs.models.cover_with.Goals as goal

pub returns : goal.returns
returns c = cover-with c.args.text.now c.args.words.now c.args.rows.now c.in_ok-cover.cover c.is_on.result c.in_ok-cover-2.field-0 c.in_ok-cover.ensures.names c.is_on.ensures c.in_ok-cover-2.ensures
