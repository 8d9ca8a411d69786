-- A turn of a net has one list of pairs.
use Rattle.std.proofs.Common.{List, [], ap, map, subst, sym, ℕ, ◌++◌, ◌∙◌, ◌∷◌, ◌≡◌}
use Rattle.std.specs.Prelude.{slice_get, take}
use Rattle.gate_net.specs.Net.{Net}
use Rattle.rm_base.specs.declared.numbers.Fault.{Fault}
use Rattle.candidate_wires.proofs.Once.{before_one}
use Rattle.candidate_wires.proofs.OneList.{candidates_of_once, candidates_of_one}
use Rattle.candidate_wires.proofs.Turns.{turn_once}
use Rattle.candidate_wires.specs.Laws.{PairsAreOne, PairsBeforeAreOne}
use Rattle.candidate_wires.specs.Pairs.{ArePairsOf, paired, turn_of}
use Rattle.candidate_wires.specs.declared.candidate.Candidate.{Candidate}
use Rattle.candidate_wires.specs.declared.candidate.Pair.{Pair}

pairs_of_one : (net : Net) (faults : List Fault) (ps qs : List Pair) → ArePairsOf net faults ps → ArePairsOf net faults qs → ps ≡ qs
pairs_of_one net [] ps qs one other = one ∙ sym other
pairs_of_one net (fault ∷ faults) ps qs (here, (are, (rest, (are_rest, e)))) (here', (are', (rest', (are_rest', e')))) =
    let front : here ≡ here' = candidates_of_one net fault here here' are are' in
    let back : rest ≡ rest' = pairs_of_one net faults rest rest' are_rest are_rest' in
    e ∙ ap (λ (q : List Candidate). map (paired fault) q ++ rest) front ∙ ap (λ (q : List Pair). map (paired fault) here' ++ q) back ∙ sym e'

pub pairs_are_one : PairsAreOne
pairs_are_one net start ps qs well one other = pairs_of_one net (turn_of net start) ps qs one other

pub pairs_before_are_one : PairsBeforeAreOne
pairs_before_are_one net start pair ps qs well one other =
    let faults : one.earlier ≡ other.earlier = before_one (turn_of net start) one.earlier one.later other.earlier other.later pair.fault (turn_once net start) one.split other.split in
    let earlier : one.of_earlier ≡ other.of_earlier = pairs_of_one net other.earlier one.of_earlier other.of_earlier (subst (λ (fs : List Fault). ArePairsOf net fs one.of_earlier) faults one.are_of_earlier) other.are_of_earlier in
    let here : one.here ≡ other.here = candidates_of_one net pair.fault one.here other.here one.are_here other.are_here in
    let place : one.place ≡ other.place = candidates_of_once net pair.fault one.here well.acyclic one.are_here one.place other.place pair.candidate one.is_here (ap (λ (q : List Candidate). slice_get q other.place) here ∙ other.is_here) in
    one.are
    ∙ ap (λ (q : List Pair). q ++ map (paired pair.fault) (take one.place one.here)) earlier
    ∙ ap (λ (q : List Candidate). other.of_earlier ++ map (paired pair.fault) (take one.place q)) here
    ∙ ap (λ (n : ℕ). other.of_earlier ++ map (paired pair.fault) (take n other.here)) place
    ∙ sym other.are
