use Rattle.std.proofs.Common.{drop, map}
use Rattle.cover_decompose.specs.Inner.Tally.{covers_tally}
use Rattle.cover_decompose.proofs.Steps.{TallyLeft}
use Rattle.cover_decompose.proofs.count.sum_of_wires.Given as goal

abbrev pub invariant-loop-place : goal.invariant-loop-place
invariant-loop-place l =
    TallyLeft (covers_tally l.initial.seen (map (λ ks. ks.items) l.inputs) l.covers l.taken)
    (covers_tally l.seen (map (λ ks. ks.items) l.inputs) l.covers (drop l.place-index l.taken)) l.wires
