use Rattle.std.proofs.Common.{◌∙◌, ◌++◌, Bool, List, ℕ, [], ap}
use Rattle.std.specs.Prelude.{slice_index_or}
use Rattle.std.proofs.lemmas.Option.{slice_get-get_or}
use Rattle.rm_base.proofs.Public.{map_at}
use Rattle.pattern_text.specs.Text.{chosen, pattern_line, pattern_lines}
use Rattle.pattern_text.proofs.Adding.{pattern_more}
use Rattle.pattern_text.proofs.text.add_patterns.Goals as goal

pub loop-at-preserved : goal.loop-at-preserved
loop-at-preserved c =
    let number = slice_index_or c.args.patterns.now c.loop-at.at 0 in
    let there = slice_get-get_or c.args.patterns.now c.loop-at.at 0 c.loop-at-test.true in
    pattern_more c.loop-at.text.items c.add_pattern.new.text.items (c.args.text.now.items ++ pattern_lines 0 (chosen c.args.vectors.now c.args.patterns.now)) (chosen c.args.vectors.now c.args.patterns.now) c.loop-at.at
    (slice_index_or c.args.vectors.now number []) (map_at (λ (n : ℕ). slice_index_or c.args.vectors.now n []) c.args.patterns.now c.loop-at.at number there)
    (c.in_ok-add_pattern.ensures ∙ ap (λ (bits : List Bool). c.loop-at.text.items ++ pattern_line c.loop-at.at bits) c.values_at.ensures) c.loop-at.invariant
