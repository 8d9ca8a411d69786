use Rattle.std.proofs.Common.{arith, inl, inr, refl, ap, ◌∙◌}
use Rattle.cover_decompose.specs.Count.{decomposed}
use Rattle.rambo_cli.proofs.SewTexts.{sewn_text}
use Rattle.rambo_cli.proofs.stitching.chosen_text.Goals as goal

pub returns-then-made-own : goal.returns-then-made-own
returns-then-made-own c = λ parts same.
    sewn_text c.written_texts_read.ensures c.args.own.now.ranked c.args.made.now.ranked parts c.args.made.now.wires c.args.own.now.wires (inl same) c.requires.made c.requires.wires c.requires.counted (omega (arith, c.if-made-own.true))
    c.text_with.result c.text_with.ensures.text c.text_with.ensures.wires c.text_with.ensures.before

pub returns : goal.returns
returns c = λ parts same.
    let more = c.requires.wires ∙ ap decomposed same in
    sewn_text c.written_texts_read.ensures c.args.own.now.ranked c.args.own.now.ranked parts c.args.own.now.wires c.args.own.now.wires (inr (refl, omega (arith, c.if-made-own.false, more, c.requires.counted)))
    (c.windows_may_stay.ensures c.args.own.now.ranked c.requires.formed c.requires.ranked) c.requires.counted c.requires.counted (omega arith)
    c.text_with-2.result c.text_with-2.ensures.text c.text_with-2.ensures.wires c.text_with-2.ensures.before
