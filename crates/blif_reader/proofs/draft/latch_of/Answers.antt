use Rattle.std.proofs.Common.{◌≡◌, ◌∙◌, ap, get_or, List, ◌++◌, ◌∷◌}
use Rattle.blif_format.specs.Text.{init_words, timing_words}
use Rattle.blif_reader.specs.Lines.{words_at, timing_part}
use Rattle.blif_reader.proofs.LatchLaws.{word_at, whole_latch}
use Rattle.blif_reader.proofs.draft.latch_of.Goals as goal
use Rattle.rm_base.specs.Words.{Word}

pub returns-clause-words : goal.returns-clause-words
returns-clause-words c h =
    let one : c.in_ok-input.input ≡ word_at c.args.text.now (get_or c.args.words.now 0 (record { start = 0; end = 0; place = record { line = 0; column = 0 } })) = c.in_ok-input.ensures in
    let two : c.in_ok-output.output ≡ word_at c.args.text.now (get_or c.args.words.now 1 (record { start = 0; end = 0; place = record { line = 0; column = 0 } })) = c.in_ok-output.ensures in
    ap (λ (w : Word). (w ∷ c.in_ok-output.output ∷ timing_words c.in_ok-timing.timing) ++ init_words c.latch_init-init.result) one
    ∙ ap (λ (w : Word). (word_at c.args.text.now (get_or c.args.words.now 0 (record { start = 0; end = 0; place = record { line = 0; column = 0 } })) ∷ w ∷ timing_words c.in_ok-timing.timing) ++ init_words c.latch_init-init.result) two
    ∙ ap (λ (ws : List Word). (word_at c.args.text.now (get_or c.args.words.now 0 (record { start = 0; end = 0; place = record { line = 0; column = 0 } })) ∷ word_at c.args.text.now (get_or c.args.words.now 1 (record { start = 0; end = 0; place = record { line = 0; column = 0 } })) ∷ ws) ++ init_words c.latch_init-init.result) (c.in_ok-timing.ensures.words h)
    ∙ ap (λ (ws : List Word). (word_at c.args.text.now (get_or c.args.words.now 0 (record { start = 0; end = 0; place = record { line = 0; column = 0 } })) ∷ word_at c.args.text.now (get_or c.args.words.now 1 (record { start = 0; end = 0; place = record { line = 0; column = 0 } })) ∷ timing_part (words_at c.args.text.now c.args.words.now)) ++ ws) (c.latch_init-init.ensures.words h)
    ∙ whole_latch c.args.text.now c.args.words.now (record { start = 0; end = 0; place = record { line = 0; column = 0 } }) h
