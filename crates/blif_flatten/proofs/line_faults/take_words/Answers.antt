use Rattle.std.proofs.Common.{◌≤◌, sym, subst, map, get_or, length, ℕ}
use Rattle.std.proofs.lemmas.List.{length-map}
use Rattle.blif_lines.specs.Reading.{spot_of}
use Rattle.blif_format.specs.Uses.{least_words}
use Rattle.blif_reader.proofs.Public.{map_at, part_there}
use Rattle.blif_flatten.specs.Inner.Interfaces.{no_token}
use Rattle.blif_flatten.proofs.Words.{words-refuse, words-go, words-end, words-all}
use Rattle.blif_flatten.proofs.line_faults.take_words.Goals as goal

pub returns-in-Err-clause-err : goal.returns-in-Err-clause-err
returns-in-Err-clause-err c =
    words-refuse c.args.outputs.now c.loop-i.outputs c.args.command (map (spot_of c.args.text.now) c.args.words.now) c.loop-i.i c.part_at.result (spot_of c.args.text.now (get_or c.args.words.now c.loop-i.i no_token)) c.loop-i.invariant.1 (map_at (spot_of c.args.text.now) c.args.words.now c.loop-i.i no_token c.loop-i-test.true) (part_there c.args.command c.args.text.now c.args.words.now c.loop-i.i c.part_at.result c.part_at.ensures) (spot_of c.args.text.now c.args.first.now) c.in-Err.refusal c.in-Err.ensures.err

pub loop-i-preserved : goal.loop-i-preserved
loop-i-preserved c =
    words-go c.args.outputs.now c.loop-i.outputs c.args.command (map (spot_of c.args.text.now) c.args.words.now) c.loop-i.i c.part_at.result (spot_of c.args.text.now (get_or c.args.words.now c.loop-i.i no_token)) c.loop-i.invariant.1 (map_at (spot_of c.args.text.now) c.args.words.now c.loop-i.i no_token c.loop-i-test.true) (part_there c.args.command c.args.text.now c.args.words.now c.loop-i.i c.part_at.result c.part_at.ensures) c.take_part.new.outputs c.loop-i.invariant.0 c.in-Ok.ensures.ok

pub returns-clause-faultless : goal.returns-clause-faultless
returns-clause-faultless c =
    let far : length c.args.words.now ≤ c.loop-i.i = c.loop-i-test.false in
    let long : length (map (spot_of c.args.text.now) c.args.words.now) ≤ c.loop-i.i = subst (λ (n : ℕ). n ≤ c.loop-i.i) (sym (length-map c.args.words.now (spot_of c.args.text.now))) far in
    let enough : c.least_words.result ≤ length c.args.words.now = c.if-count-least_words.false in
    let least : least_words c.args.command ≤ length (map (spot_of c.args.text.now) c.args.words.now) = subst (λ (n : ℕ). n ≤ length (map (spot_of c.args.text.now) c.args.words.now)) c.least_words.ensures (subst (λ (n : ℕ). c.least_words.result ≤ n) (sym (length-map c.args.words.now (spot_of c.args.text.now))) enough) in
    words-end c.args.outputs.now c.loop-i.outputs c.args.command (map (spot_of c.args.text.now) c.args.words.now) c.loop-i.i long (spot_of c.args.text.now c.args.first.now) c.loop-i.invariant.1 least

pub returns-clause-outputs : goal.returns-clause-outputs
returns-clause-outputs c =
    let far : length c.args.words.now ≤ c.loop-i.i = c.loop-i-test.false in
    let long : length (map (spot_of c.args.text.now) c.args.words.now) ≤ c.loop-i.i = subst (λ (n : ℕ). n ≤ c.loop-i.i) (sym (length-map c.args.words.now (spot_of c.args.text.now))) far in
    words-all c.args.outputs.now c.loop-i.outputs c.args.command (map (spot_of c.args.text.now) c.args.words.now) c.loop-i.i long c.loop-i.invariant.0
