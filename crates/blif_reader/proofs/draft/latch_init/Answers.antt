use Rattle.std.proofs.Common.{◌≡◌, subst, ◌∷◌, true, Some, []}
use Rattle.rm_model.specs.Value.{is_among}
use Rattle.blif_format.specs.Text.{init_words}
use Rattle.blif_format.specs.FirstFault.{init_values}
use Rattle.blif_reader.proofs.LatchLaws.{init_three, init_five, init_none}
use Rattle.blif_reader.proofs.draft.latch_init.Goals as goal
use Rattle.rm_base.specs.Words.{Word}

pub returns-then-words-eq3-clause-words : goal.returns-then-words-eq3-clause-words
returns-then-words-eq3-clause-words c h = init_three c.args.text.now c.args.words.now (record { start = 0; end = 0; place = record { line = 0; column = 0 } }) c.init_of.result c.if-words-eq3.true (λ e. subst (λ (w : Word). is_among init_values w ≡ true → init_words (Some c.init_of.result) ≡ w ∷ []) c.word_of.ensures c.init_of.ensures.words e) h

pub returns-then-words-gt4-clause-words : goal.returns-then-words-gt4-clause-words
returns-then-words-gt4-clause-words c h = init_five c.args.text.now c.args.words.now (record { start = 0; end = 0; place = record { line = 0; column = 0 } }) c.init_of-then-words-gt4.result c.if-words-gt4.true (λ e. subst (λ (w : Word). is_among init_values w ≡ true → init_words (Some c.init_of-then-words-gt4.result) ≡ w ∷ []) c.word_of-then-words-gt4.ensures c.init_of-then-words-gt4.ensures.words e) h

pub returns-clause-words : goal.returns-clause-words
returns-clause-words c h = init_none c.args.text.now c.args.words.now c.if-words-eq3.false c.if-words-gt4.false h
