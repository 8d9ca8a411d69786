use Rattle.std.proofs.Common.{◌≡◌, ◌*◌, ◌<◌, ◌≤◌, ℕ, List, Bool, false, sym, ap, ◌∙◌, arith}
use Rattle.wire_edit.specs.Inner.Marked.{is_marked}
use Rattle.wire_edit.proofs.Marking.{clear_fewer}
use Rattle.wire_edit.proofs.Blocks.{block_emptied, none_blocked}
use Rattle.wire_edit.proofs.worklist.Worklist.least.Goals as goal

pub loop-block-smaller : goal.loop-block-smaller
loop-block-smaller c =
    let e = clear_fewer c.loop-block.self-inside.blocks.items c.in-Some.block (ap (λ (bs : List Bool). is_marked bs c.in-Some.block) (sym c.deref.ensures.value) ∙ c.in-Some.ensures.1.1.0) in
    omega (arith, e)

pub loop-block-preserved : goal.loop-block-preserved
loop-block-preserved c =
    let i = c.loop-block.self-inside in
    let none : (k : ℕ) → c.in-Some.block * 256 ≤ k → k < c.min-end.result → is_marked c.deref-in-Some.result.now k ≡ false = c.in_default-first_mark.ensures in
    record {
      blocked = block_emptied i.marks.items i.blocks.items c.in-Some.block c.min-end.result c.loop-block.invariant.blocked (λ le. omega (arith, le, c.min-end.ensures, c.len-in-Some.ensures, i.marks.ok.0))
          (λ lt. omega (arith, lt, c.min-end.ensures, c.len-in-Some.ensures, i.marks.ok.0)) (λ k le lt. ap (λ (bs : List Bool). is_marked bs k) (sym c.deref-in-Some.ensures.value) ∙ none k (omega (arith, le)) lt);
      same = c.loop-block.invariant.same;
    }

pub returns-clause-least : goal.returns-clause-least
returns-clause-least c =
    let i = c.loop-block.self-inside in
    let none : (k : ℕ) → 0 ≤ k → k < c.len.result → is_marked c.deref.result.now k ≡ false = c.in_default.ensures in
    none_blocked i.marks.items i.blocks.items c.loop-block.invariant.blocked (λ k lt. ap (λ (bs : List Bool). is_marked bs k) (sym c.deref.ensures.value) ∙ none k (omega arith) (omega (arith, lt, c.len.ensures, i.blocks.ok.0)))
