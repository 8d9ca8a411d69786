use Rattle.candidate_wires.proofs.OnePairs.{pairs_are_one, pairs_before_are_one}
use Rattle.candidate_wires.proofs.Turns.{turns_are_whole}
use Rattle.candidate_wires.proofs.laws.pairs_are_one.Goals as goal

pub returns : goal.returns
returns c = record { pairs = pairs_are_one; before = pairs_before_are_one; whole = turns_are_whole }
