use Rattle.std.proofs.Common.{List, ap, map, sym, ◌∙◌}
use Rattle.rm_model.specs.Numbers.{place_of}
use Rattle.blif_reader.specs.declared.names.NameUse.{NameUse}
use Rattle.blif_reader.proofs.PairLaws.{pair_names}
use Rattle.blif_reader.proofs.name_uses.NameUses.find.Goals as goal
use Rattle.rm_base.specs.Words.{Word}

pub returns : goal.returns
returns c =
    c.place.ensures.place
    ∙ (ap (λ (l : List Word). place_of l c.args.name.now) (sym (pair_names c.self.inside.names c.self.inside.entries.items c.self.invariant.same))
    ∙ ap (λ (l : List (Word × NameUse)). place_of (map (λ (p : Word × NameUse). p.0) l) c.args.name.now) c.self.view_is)
