use Rattle.std.proofs.Common.{◌∙◌}
use Rattle.rm_model.proofs.FormLemmas.{formed-exactly, used-among}
use Rattle.rm_model.proofs.form.is_well_formed.Goals as goal

pub returns : goal.returns
returns c =
    formed-exactly c.args.model.now c.in_ok-once.once c.names_are_tokens-tokens.result c.all_among-known.result c.parts_are_formed-formed.result c.all_of.result c.all_of.ensures c.in_ok-once.ensures c.names_are_tokens-tokens.ensures
    (c.all_among-known.ensures ∙ used-among c.args.model.now c.in_ok-table.table c.as_slice.result.now c.as_slice-5.result.now c.in_ok-table.ensures (c.as_slice.ensures.value ∙ c.in_ok-driven.ensures) (c.as_slice-5.ensures.value ∙ c.in_ok-used.ensures))
    c.parts_are_formed-formed.ensures
