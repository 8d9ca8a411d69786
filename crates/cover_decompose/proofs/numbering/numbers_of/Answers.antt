use Rattle.std.proofs.Common.{Global, Vec, map, ℕ}
use Rattle.cover_decompose.proofs.NumberingLemmas.{numbered}
use Rattle.cover_decompose.proofs.numbering.numbers_of.Goals as goal

pub returns-clause-numbered : goal.returns-clause-numbered
returns-clause-numbered c =
    numbered c.args.model.now (map (λ (v : Vec ℕ Global). v.items) c.numbering.result.now.inputs.items) c.numbering.result.now.observed.items c.requires.formed
    c.numbering.ensures.numbers.inputs_are c.numbering.ensures.numbers.observed_are
