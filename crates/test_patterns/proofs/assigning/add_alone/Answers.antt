use Rattle.std.proofs.Common.{ℕ, List, Bool, Option, Some, ◌≡◌, ◌∙◌, length, map, subst, sym, ap}
use Rattle.std.specs.Prelude.{slice_get}
use Rattle.std.proofs.lemmas.Bool.{ltb-true}
use Rattle.rm_base.proofs.Public.{read_stands, some_is}
use Rattle.gate_graph.specs.Circuit.{net_of}
use Rattle.test_patterns.specs.Inner.Drafts.{IsExtended}
use Rattle.test_patterns.specs.Inner.Groups.{AreGathered, bit_word}
use Rattle.test_patterns.specs.declared.gathering.Caught.{Caught}
use Rattle.test_patterns.proofs.Assigned.{alone_lane, on_ok}
use Rattle.test_patterns.proofs.assigning.add_alone.Goals as goal

pub returns-clause-extended : goal.returns-clause-extended
returns-clause-extended c =
    let words = c.simulate64.new.self.words in
    let is : words ≡ map bit_word c.in-Some.vector.now = c.simulate64.ensures.words ∙ (c.as_slice.ensures.value ∙ (c.in_ok-words.ensures ∙ ap (λ (v : List Bool). map bit_word v) c.values.ensures)) in
    let there : slice_get c.args.known.now.vectors.now c.args.number ≡ Some c.in-Some.vector.now =
    read_stands c.args.known.now.vectors.now c.args.number c.in-Some.vector.now (ltb-true c.args.number (length c.args.known.now.vectors.now) (sym c.in-Some.ensures.lookup.0)) c.in-Some.ensures.lookup.1 in
    let gathered = subst (λ (fs : List (Option ℕ)). AreGathered (net_of c.args.known.now.graph.now) c.args.known.now.faults.now c.args.known.now.numbers.now fs words c.as_slice-3.result.now) c.as_slice-2.ensures.value
    (subst (λ (cs : List Caught). AreGathered (net_of c.args.known.now.graph.now) c.args.known.now.faults.now c.args.known.now.numbers.now c.as_slice-2.result.now words cs) (sym c.as_slice-3.ensures.value) c.in_ok-caught.ensures.gathered) in
    on_ok c.add_lane_pattern.result
    (λ x v e. subst (IsExtended (net_of c.args.known.now.graph.now) c.args.known.now.faults.now c.args.known.now.vectors.now c.args.known.now.numbers.now c.add_lane_pattern.new.set.patterns.items c.args.set.now.firsts.items c.add_lane_pattern.new.set.firsts.items) (some_is c.in-Some.vector.now v (sym there ∙ e)) x)
    (c.add_lane_pattern.ensures (net_of c.args.known.now.graph.now) c.args.known.now.faults.now c.args.known.now.vectors.now c.args.known.now.numbers.now words c.in-Some.vector.now c.requires.draft gathered (alone_lane words c.in-Some.vector.now is) (c.requires.long c.in-Some.vector.now there) there)
