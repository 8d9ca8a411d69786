use Rattle.std.proofs.Common.{◌≡◌, ◌∷◌, [], ◌++◌, List, ap, map, ◌∙◌, false}
use Rattle.rm_model.specs.declared.hashed_names.WholeName.{WholeName}
use Rattle.rm_base.specs.Words.{Word}
use Rattle.rm_model.specs.Value.{is_among}
use Rattle.rm_model.proofs.HashedLemmas.{map-inserted}
use Rattle.rm_model.proofs.hashed_names.HashedNames.push.Goals as goal

pub returns-clause-ok : goal.returns-clause-ok
returns-clause-ok c =
    let new : is_among (map (λ (k : WholeName). k.bytes.now) c.self.inside.names.keys) c.args.name.now ≡ false = ap (λ (l : List Word). is_among l c.args.name.now) c.self.view_is ∙ c.requires in
    ap (λ (l : List WholeName). map (λ (k : WholeName). k.bytes.now) l) c.in_ok-insert.ensures.keys
    ∙ (map-inserted (λ (k : WholeName). k.bytes.now) c.self.inside.names.keys _ new
    ∙ ap (λ (l : List Word). l ++ c.args.name.now ∷ []) c.self.view_is)
