use Rattle.std.proofs.Common.{◌||◌, List, ap, map, ◌∙◌}
use Rattle.rm_model.specs.declared.hashed_names.WholeName.{WholeName}
use Rattle.rm_base.specs.Words.{Word}
use Rattle.rm_model.specs.Words.{is_word}
use Rattle.rm_model.specs.Value.{is_among}
use Rattle.rm_model.proofs.HashedLemmas.{among-included}
use Rattle.rm_model.proofs.hashed_names.HashedNames.include.Goals as goal

pub returns : goal.returns
returns c = λ x.
    ap (λ (l : List WholeName). is_among (map (λ (k : WholeName). k.bytes.now) l) x) c.in_ok-insert.ensures.keys
    ∙ (among-included (λ (k : WholeName). k.bytes.now) c.self.inside.names.keys _ x
    ∙ ap (λ (l : List Word). is_among l x || is_word x c.args.name.now) c.self.view_is)
