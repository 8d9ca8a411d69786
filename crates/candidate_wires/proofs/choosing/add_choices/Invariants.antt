use Rattle.std.proofs.Common.{◌≡◌, ◌++◌, List, length}
use Rattle.gate_net.specs.Net.{Net}
use Rattle.gate_net.specs.Values.{IsJunction}
use Rattle.refutation.specs.Facts.{Held}
use Rattle.refutation.specs.Reaching.{MarksReached}
use Rattle.candidate_wires.proofs.Choices.{AreChosen}
use Rattle.candidate_wires.specs.Inner.Parts.{AreKnown, MarksDrivers}
use Rattle.candidate_wires.specs.declared.candidate.Candidate.{Candidate}
use Rattle.candidate_wires.proofs.choosing.add_choices.Given as goal

abbrev pub invariant-loop-source : goal.invariant-loop-source
invariant-loop-source l =
    (more : List Candidate) × ((l.found.items ≡ l.fn.found.items ++ more) × ((net : Net) (held : Held) → IsJunction net l.gate.0 l.control → MarksReached net l.gate.0 l.reached → MarksDrivers net l.gate.0 l.driving → AreKnown net held (length net.nodes) l.sources → AreChosen net held l.gate.0 l.sources l.source-index more))
