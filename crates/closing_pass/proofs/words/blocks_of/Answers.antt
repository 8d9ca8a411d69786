use Rattle.std.proofs.Common.{List, [], ap, append-nil, arith, drop, map, subst, sym, take, ◌∙◌, ◌≡◌, ℕ, Bool}
use Rattle.closing_pass.specs.Inner.Blocks.{AreBlocksOf}
use Rattle.closing_pass.specs.Inner.Findings.{AreLong, ArePacked}
use Rattle.closing_pass.proofs.BlockLaws.{block_more, drop_most, long_block, long_rest, none_left, take_most}
use Rattle.closing_pass.proofs.words.blocks_of.Goals as goal

pub words_of-requires-clause-long : goal.words_of-requires-clause-long
words_of-requires-clause-long c = subst (λ (vs : List (List Bool)). AreLong vs c.args.sources) (sym c.split_at.ensures.front) (long_block c.loop-rest.rest.now c.min.result c.args.sources c.loop-rest.invariant.long)

pub loop-rest-preserved : goal.loop-rest-preserved
loop-rest-preserved c =
    let inv = c.loop-rest.invariant in
    let front : c.split_at.result.0.now ≡ take 64 c.loop-rest.rest.now = c.split_at.ensures.front ∙ ap (λ (n : ℕ). take n c.loop-rest.rest.now) c.min.ensures ∙ take_most c.loop-rest.rest.now in
    let back : c.split_at.result.1.now ≡ drop 64 c.loop-rest.rest.now = c.split_at.ensures.back ∙ ap (λ (n : ℕ). drop n c.loop-rest.rest.now) c.min.ensures ∙ drop_most c.loop-rest.rest.now in
    record {
      long = rw back (long_rest c.loop-rest.rest.now 64 c.args.sources inv.long);
      blocks = rw (c.in_ok-push.ensures.items, back) (block_more (λ w. w.items) c.args.vectors.now c.loop-rest.rest.now c.loop-rest.blocks.items _ inv.blocks (subst (λ (vs : List (List Bool)). ArePacked vs c.in_ok-words_of.field-0.items) front c.in_ok-words_of.ensures.packed));
    }

pub returns : goal.returns
returns c =
    let none : c.loop-rest.rest.now ≡ [] = none_left c.loop-rest.rest.now (omega (arith, c.loop-rest-test.false)) in
    subst (AreBlocksOf c.args.vectors.now) (append-nil (map (λ w. w.items) c.loop-rest.blocks.items)) (c.loop-rest.invariant.blocks [] none)
