use Rattle.std.proofs.Common.{◌≡◌, List, length, ap, ◌∙◌, arith}
use Rattle.blif_reader.specs.declared.names.NameUse.{NameUse}
use Rattle.blif_reader.proofs.PairLaws.{pair_count}
use Rattle.blif_reader.proofs.name_uses.NameUses.len.Goals as goal
use Rattle.rm_base.specs.Words.{Word}

pub returns : goal.returns
returns c =
    let count : c.len.result ≡ length c.self.inside.entries.items = omega (arith, c.len.ensures, c.self.inside.entries.ok.0) in
    count ∙ (pair_count c.self.inside.names c.self.inside.entries.items c.self.invariant.same ∙ ap (λ (l : List (Word × NameUse)). length l) c.self.view_is)
