use Rattle.blif_flatten.proofs.Lines.{include-go, include-all}
use Rattle.std.proofs.Common.{get_or, ◌++◌, ◌∷◌, [], subst, take}
use Rattle.rm_base.specs.Words.{Word}
use Rattle.blif_reader.specs.Lines.{words_at}
use Rattle.blif_flatten.specs.Inner.Interfaces.{AreFormals, no_token}
use Rattle.blif_flatten.proofs.Formals.{token-at}
use Rattle.blif_flatten.proofs.interfaces.include_words.Goals as goal

pub loop-word-preserved : goal.loop-word-preserved
loop-word-preserved c = λ had are.
    include-go c.include.new.formals c.args.text.now had c.args.words.now c.loop-word.word-index (get_or c.args.words.now c.loop-word.word-index no_token) (token-at c.args.words.now c.loop-word.word-index no_token c.loop-word-test.true)
    (subst (λ (w : Word). AreFormals c.include.new.formals ((had ++ words_at c.args.text.now (take c.loop-word.word-index c.args.words.now)) ++ w ∷ [])) c.word_of.ensures (c.in_ok-include.ensures (had ++ words_at c.args.text.now (take c.loop-word.word-index c.args.words.now)) (c.loop-word.invariant had are)))

pub returns : goal.returns
returns c = λ had are. include-all c.loop-word.formals c.args.text.now had c.args.words.now c.loop-word.word-index c.loop-word-test.false (c.loop-word.invariant had are)
