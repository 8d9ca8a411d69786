use Rattle.std.proofs.Common.{List, Some, ap, map, subst, sym, append_assoc, append-nil, ℕ, ◌++◌, ◌∙◌, ◌∷◌, [], ◌≡◌}
use Rattle.std.specs.Option.{option_map}
use Rattle.std.proofs.lemmas.Option.{slice_get-map}
use Rattle.std.specs.Prelude.{slice_get}
use Rattle.gate_graph.specs.Circuit.{fanouts_of}
use Rattle.local_evaluation.proofs.Public.{yielded_more}
use Rattle.rm_base.specs.declared.numbers.NodeId.{NodeId}
use Rattle.changed_nodes.specs.Changing.{IsUnlisted}
use Rattle.changed_nodes.proofs.Noting.{unlisted_append}
use Rattle.changed_nodes.proofs.changes.add_readers.Goals as goal
use Rattle.rm_base.specs.Numbers.{numbers_of}

pub loop-reader-init : goal.loop-reader-init
loop-reader-init c = record { all = sym (c.into_iter-reader-iterator.ensures.into_iter_gives ∙ c.readers_of-reader-items.ensures); nodes = sym (append-nil c.args.nodes.now.items) }

pub loop-reader-preserved : goal.loop-reader-preserved
loop-reader-preserved c = record {
  all = yielded_more (λ n. n.0) (map (λ place. place.0) (fanouts_of c.args.graph.now c.args.node.0)) c.loop-reader.yielded c.in-Some.reader _ _ c.loop-reader.invariant.all c.in-Some.ensures.steps;
  nodes = c.in_ok-push.ensures.items ∙ ap (λ (ns : List NodeId). ns ++ c.in-Some.reader ∷ []) c.loop-reader.invariant.nodes ∙ append_assoc c.args.nodes.now.items c.loop-reader.yielded (c.in-Some.reader ∷ []);
}

pub returns : goal.returns
returns c y none =
    let split : IsUnlisted (numbers_of c.args.nodes.now.items) y × IsUnlisted (numbers_of c.loop-reader.yielded) y =
    unlisted_append c.args.nodes.now.items c.loop-reader.yielded y (subst (λ (ns : List NodeId). IsUnlisted (numbers_of ns) y) c.loop-reader.invariant.nodes none) in (
      split.0,
      λ p reads.
          let found = c.readers_listed.ensures.all c.args.node.0 (y, p) reads in
          let there : slice_get (map (λ (place : ℕ × ℕ). place.0) (fanouts_of c.args.graph.now c.args.node.0)) found.0 ≡ Some y = slice_get-map (λ (place : ℕ × ℕ). place.0) (fanouts_of c.args.graph.now c.args.node.0) found.0 ∙ ap (option_map (λ (place : ℕ × ℕ). place.0)) found.1 in
          let all : map (λ (place : ℕ × ℕ). place.0) (fanouts_of c.args.graph.now c.args.node.0) ≡ numbers_of c.loop-reader.yielded = c.loop-reader.invariant.all ∙ ap (λ (rest : List ℕ). numbers_of c.loop-reader.yielded ++ rest) c.in-None.ensures.steps.0 ∙ append-nil (numbers_of c.loop-reader.yielded) in
          split.1 found.0 (subst (λ (xs : List ℕ). slice_get xs found.0 ≡ Some y) all there),
    )
