use Rattle.refutation.specs.FactSets.{held_by}
use Rattle.refutation.proofs.Public.{known_held}
use Rattle.candidate_wires.proofs.known.known_among.Goals as goal

pub known_in_order-requires-clause-all : goal.known_in_order-requires-clause-all
known_in_order-requires-clause-all c x value usable =
    rw c.as_slice.ensures.value (c.in_ok-numbers.ensures.goods x value (c.requires.added x value (known_held (held_by c.args.facts.now) x value usable.known)))
