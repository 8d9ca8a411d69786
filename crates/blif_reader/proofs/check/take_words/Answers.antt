use Rattle.std.proofs.Common.{◌++◌, ◌∙◌, ◌≤◌, sym, ap, subst, List, map, take, get_or, length, ℕ, Bool}
use Rattle.std.specs.List.{filter_map}
use Rattle.std.proofs.lemmas.Bool.{le-ltb}
use Rattle.std.proofs.lemmas.List.{length-map}
use Rattle.blif_lines.specs.Reading.{spot_of}
use Rattle.blif_format.specs.Uses.{Use, use_of, parts_of, least_words}
use Rattle.blif_format.specs.FirstFault.{fault_if}
use Rattle.blif_format.specs.declared.refusal.FaultKind.TheVariants.{MissingWord}
use Rattle.blif_reader.specs.Inner.Tally.{IsTally}
use Rattle.blif_reader.proofs.PartLaws.{words_refuse, words_go, words_end, map_at, part_there, parts_length, take_whole}
use Rattle.blif_reader.proofs.check.take_words.Goals as goal

pub returns-in-Err-clause-err : goal.returns-in-Err-clause-err
returns-in-Err-clause-err c had is =
    let i = c.loop-i.invariant had is in
    words_refuse had (had ++ filter_map use_of (take c.loop-i.i (parts_of c.args.command (map (spot_of c.args.text.now) c.args.words.now)))) (spot_of c.args.text.now c.args.first.now) c.args.command (map (spot_of c.args.text.now) c.args.words.now) c.loop-i.i c.part_at.result (spot_of c.args.text.now (get_or c.args.words.now c.loop-i.i (record { start = 0; end = 0; place = record { line = 0; column = 0 } }))) c.in-Err.refusal i.1 (map_at (spot_of c.args.text.now) c.args.words.now c.loop-i.i (record { start = 0; end = 0; place = record { line = 0; column = 0 } }) c.loop-i-test.true) (part_there c.args.command c.args.text.now c.args.words.now c.loop-i.i c.part_at.result c.part_at.ensures) (c.in-Err.ensures.err (had ++ filter_map use_of (take c.loop-i.i (parts_of c.args.command (map (spot_of c.args.text.now) c.args.words.now)))) i.0)

pub loop-i-preserved : goal.loop-i-preserved
loop-i-preserved c had is =
    let i = c.loop-i.invariant had is in
    let t = c.in-Ok.ensures.ok (had ++ filter_map use_of (take c.loop-i.i (parts_of c.args.command (map (spot_of c.args.text.now) c.args.words.now)))) i.0 in
    let g = words_go had had c.args.command (map (spot_of c.args.text.now) c.args.words.now) c.loop-i.i c.part_at.result (spot_of c.args.text.now (get_or c.args.words.now c.loop-i.i (record { start = 0; end = 0; place = record { line = 0; column = 0 } }))) i.1 (map_at (spot_of c.args.text.now) c.args.words.now c.loop-i.i (record { start = 0; end = 0; place = record { line = 0; column = 0 } }) c.loop-i-test.true) (part_there c.args.command c.args.text.now c.args.words.now c.loop-i.i c.part_at.result c.part_at.ensures) t.faultless in
    (subst (λ (us : List Use). IsTally us c.take_part.new.names) g.0 t.tallied, g.1)

pub returns-clause-ok : goal.returns-clause-ok
returns-clause-ok c had is =
    let i = c.loop-i.invariant had is in
    let far : length c.args.words.now ≤ c.loop-i.i = c.loop-i-test.false in
    let long : length (map (spot_of c.args.text.now) c.args.words.now) ≤ c.loop-i.i = subst (λ (n : ℕ). n ≤ c.loop-i.i) (sym (length-map c.args.words.now (spot_of c.args.text.now))) far in
    let enough : c.least_words.result ≤ length c.args.words.now = c.if-count-least_words.false in
    let least : least_words c.args.command ≤ length (map (spot_of c.args.text.now) c.args.words.now) = subst (λ (n : ℕ). n ≤ length (map (spot_of c.args.text.now) c.args.words.now)) c.least_words.ensures (subst (λ (n : ℕ). c.least_words.result ≤ n) (sym (length-map c.args.words.now (spot_of c.args.text.now))) enough) in record {
      faultless = words_end had (spot_of c.args.text.now c.args.first.now) c.args.command (map (spot_of c.args.text.now) c.args.words.now) c.loop-i.i i.1 long ∙ ap (λ (t : Bool). fault_if t MissingWord (spot_of c.args.text.now c.args.first.now).place) (le-ltb (length (map (spot_of c.args.text.now) c.args.words.now)) (least_words c.args.command) least);
      tallied = subst (λ ps. IsTally (had ++ filter_map use_of ps) c.loop-i.names) (take_whole (parts_of c.args.command (map (spot_of c.args.text.now) c.args.words.now)) c.loop-i.i (subst (λ (n : ℕ). n ≤ c.loop-i.i) (sym (parts_length c.args.command (map (spot_of c.args.text.now) c.args.words.now))) long)) i.0;
    }
