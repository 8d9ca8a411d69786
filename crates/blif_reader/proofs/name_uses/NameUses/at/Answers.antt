use Rattle.std.proofs.Common.{◌<◌, ◌≤◌, List, length, refl, ap, sym, ◌∙◌, arith}
use Rattle.std.specs.Prelude.{slice_get}
use Rattle.std.specs.Option.{option_map}
use Rattle.std.proofs.lemmas.Option.{slice_get_read, slice_get_past}
use Rattle.blif_reader.specs.declared.names.NameUse.{NameUse}
use Rattle.blif_reader.proofs.PairLaws.{entry_at}
use Rattle.blif_reader.proofs.name_uses.NameUses.at.Goals as goal
use Rattle.rm_base.specs.Words.{Word}

pub returns-then-index-len : goal.returns-then-index-len
returns-then-index-len c =
    let within : c.args.index < length c.self.inside.entries.items = omega (arith, c.if-index-len.true, c.len.ensures, c.self.inside.entries.ok.0) in
    sym (slice_get_read c.self.inside.entries.items (length c.self.inside.entries.items) c.args.index c.index.result.now refl within c.index.ensures)
    ∙ (entry_at c.self.inside.names c.self.inside.entries.items c.args.index c.self.invariant.same
    ∙ ap (λ (l : List (Word × NameUse)). option_map (λ (p : Word × NameUse). p.1) (slice_get l c.args.index)) c.self.view_is)

pub returns : goal.returns
returns c =
    let past : length c.self.inside.entries.items ≤ c.args.index = omega (arith, c.if-index-len.false, c.len.ensures, c.self.inside.entries.ok.0) in
    sym (slice_get_past c.self.inside.entries.items c.args.index past)
    ∙ (entry_at c.self.inside.names c.self.inside.entries.items c.args.index c.self.invariant.same
    ∙ ap (λ (l : List (Word × NameUse)). option_map (λ (p : Word × NameUse). p.1) (slice_get l c.args.index)) c.self.view_is)
