use Rattle.std.proofs.Common.{◌∙◌, ap, get_or, ◌++◌, map}
use Rattle.blif_lines.specs.Reading.{spot_of}
use Rattle.blif_flatten.specs.Calls.{connection_of}
use Rattle.blif_flatten.specs.Instances.{pin_in}
use Rattle.blif_flatten.specs.Inner.Interfaces.{no_token, pins_at}
use Rattle.blif_flatten.proofs.Lines.{option-cons}
use Rattle.blif_flatten.proofs.Formals.{mapped-go, token-at}
use Rattle.blif_flatten.proofs.links.pins_of.Goals as goal

pub loop-word-preserved : goal.loop-word-preserved
loop-word-preserved c = λ m i.
    mapped-go c.args.text.now c.args.words.now c.loop-word.word-index (get_or c.args.words.now c.loop-word.word-index no_token) (token-at c.args.words.now c.loop-word.word-index no_token c.loop-word-test.true) (pin_in m) c.loop-word.pins c.push_pin.new.pins (map (pin_in m) (pins_at c.args.text.now c.args.words.now)) (c.loop-word.invariant m i)
    (c.in_ok-push_pin.ensures m i ∙ ap (λ xs. c.loop-word.pins ++ xs) (option-cons (pin_in m) (connection_of (spot_of c.args.text.now (get_or c.args.words.now c.loop-word.word-index no_token)))))
