use Rattle.std.proofs.Common.{arith, length, ap}
use Rattle.rm_model.specs.declared.parts.Model.{Model}
use Rattle.cover_decompose.proofs.whole_count.count_taken.Goals as goal

pub taken_places-requires-clause-signals : goal.taken_places-requires-clause-signals
taken_places-requires-clause-signals c = omega (arith, c.requires.room, c.numbers_of-numbering.ensures.sources, ap (λ (m : Model). length m.covers) c.model.ensures)

pub wire_count-requires-clause-signals : goal.wire_count-requires-clause-signals
wire_count-requires-clause-signals c = omega (arith, c.requires.room, c.numbers_of-numbering.ensures.sources, ap (λ (m : Model). length m.covers) c.model-2.ensures)
