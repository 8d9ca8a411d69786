use Rattle.std.proofs.Common.{List, ap, sym, ◌∙◌}
use Rattle.refutation.specs.declared.items.Item.{Item}
use Rattle.journal_binary.specs.Inner.Parts.{whole_of}
use Rattle.journal_binary.proofs.Going.{bits_whole, items_whole}
use Rattle.journal_binary.proofs.parts.take_whole.Goals as goal

pub returns-in-Items-clause-record : goal.returns-in-Items-clause-record
returns-in-Items-clause-record c bytes =
    items_whole c.args.part.now c.in-Items.what c.in-Items.tree c.in-Items.left c.whole_of.result bytes (sym c.in-Items.ensures.value) c.requires
    (c.whole_of.ensures ∙ ap (λ (tree : List Item). whole_of c.in-Items.what tree) c.finish.ensures)

pub returns-in-Bits-clause-record : goal.returns-in-Bits-clause-record
returns-in-Bits-clause-record c bytes = bits_whole c.args.part.now c.in-Bits.fault c.in-Bits.values c.in-Bits.left c.of.result bytes (sym c.in-Bits.ensures.value) c.requires c.of.ensures
