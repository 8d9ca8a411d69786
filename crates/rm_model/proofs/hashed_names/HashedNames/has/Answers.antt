use Rattle.std.proofs.Common.{◌∙◌, ap, List}
use Rattle.rm_base.specs.Words.{Word}
use Rattle.rm_model.specs.Value.{is_among}
use Rattle.rm_model.proofs.HashedLemmas.{among-map}
use Rattle.rm_model.proofs.hashed_names.HashedNames.has.Goals as goal

pub returns : goal.returns
returns c = c.contains.ensures ∙ (among-map (λ k. k.bytes.now) c.self.inside.names.keys c.args.name.now ∙ ap (λ (l : List Word). is_among l c.args.name.now) c.self.view_is)
