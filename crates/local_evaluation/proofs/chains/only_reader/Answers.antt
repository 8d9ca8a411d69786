use Rattle.std.proofs.Common.{◌∙◌, ap, inl, inr, sym}
use Rattle.rm_base.specs.declared.numbers.NodeId.{NodeId}
use Rattle.local_evaluation.proofs.Readers.{no_reader, one_reader, two_readers}
use Rattle.local_evaluation.proofs.Yielding.{yielded_more}
use Rattle.local_evaluation.proofs.chains.only_reader.Goals as goal
use Rattle.rm_base.proofs.Public.{last_cases}

pub returns-in_default : goal.returns-in_default
returns-in_default c = no_reader c.args.graph.now c.args.node.0 c.readers_listed.ensures c.readers_of-readers.result c.readers_of-readers.ensures c.in_default.ensures.steps.0

pub returns-then-other-gate : goal.returns-then-other-gate
returns-then-other-gate c =
    two_readers c.args.graph.now c.args.node.0 c.readers_listed.ensures c.readers_of-readers.result c.readers_of-readers.ensures c.in-Some.gate _ c.in-Some.ensures.steps c.loop-other.yielded c.in-Some-other.other _ _
    (sym c.into_iter-other-iterator.ensures.into_iter_gives ∙ c.loop-other.invariant.all) c.in-Some-other.ensures.steps c.if-other-gate.true

pub loop-other-preserved : goal.loop-other-preserved
loop-other-preserved c = record {
  all = yielded_more (λ (d : NodeId). d.0) c.into_iter-other-iterator.result c.loop-other.yielded c.in-Some-other.other _ _ c.loop-other.invariant.all c.in-Some-other.ensures.steps;
  same = λ k place e. elim (last_cases c.loop-other.yielded c.in-Some-other.other k place e) [ inl before ↦ c.loop-other.invariant.same k place before | inr is ↦ ap (λ (d : NodeId). d.0) is ∙ c.if-other-gate.false ];
}

pub returns : goal.returns
returns c =
    one_reader c.args.graph.now c.args.node.0 c.readers_listed.ensures c.readers_of-readers.result c.readers_of-readers.ensures c.in-Some.gate _ c.in-Some.ensures.steps c.loop-other.yielded _
    (sym c.into_iter-other-iterator.ensures.into_iter_gives ∙ c.loop-other.invariant.all) c.in-None.ensures.steps.0 c.loop-other.invariant.same
