use Rattle.std.proofs.Common.{◌∙◌, ap, List}
use Rattle.rm_base.specs.Words.{Word}
use Rattle.rm_model.specs.Numbers.{place_of}
use Rattle.rm_model.proofs.HashedLemmas.{position-place}
use Rattle.rm_model.proofs.hashed_names.HashedNames.place.Goals as goal

pub returns-clause-place : goal.returns-clause-place
returns-clause-place c = c.get_index_of.ensures.index ∙ (position-place (λ k. k.bytes.now) c.self.inside.names.keys c.args.name.now ∙ ap (λ (l : List Word). place_of l c.args.name.now) c.self.view_is)
