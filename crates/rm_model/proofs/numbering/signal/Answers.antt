use Rattle.std.proofs.Common.{◌∙◌, sym, ap, List, ℕ}
use Rattle.rm_model.specs.Numbers.{place_of}
use Rattle.rm_model.proofs.NumberingLemmas.{number-there}
use Rattle.rm_model.proofs.numbering.signal.Goals as goal

pub unreachable-requires : goal.unreachable-requires
unreachable-requires c = number-there c.args.table.now c.args.name.now c.requires.there (ap (λ (x : List ℕ). place_of c.args.table.now x) (sym c.items.ensures) ∙ (sym c.place.ensures.place ∙ c.in-None.is))
