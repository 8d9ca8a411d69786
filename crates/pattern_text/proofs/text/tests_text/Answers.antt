use Rattle.std.proofs.Common.{◌++◌, ◌∙◌, List, ap}
use Rattle.rm_model.specs.declared.parts.Cover.{Cover}
use Rattle.pattern_text.specs.Text.{chosen, fault_lines}
use Rattle.pattern_text.proofs.FaultLines.{gates}
use Rattle.pattern_text.proofs.WholeText.{whole_text}
use Rattle.pattern_text.proofs.text.tests_text.Goals as goal

pub returns : goal.returns
returns c =
    whole_text c.args.model.now (record { patterns = chosen c.args.vectors.now c.args.patterns.now; firsts = c.args.firsts.now; lasts = c.args.lasts.now }) c.new-text.result.items c.add_head.new.text.items
    c.add_patterns.new.text.items c.add_covers.new.text.items c.add_counts.new.text.items c.count_tests.result c.new-text.ensures.items c.in_ok-add_head.ensures c.in_ok-add_patterns.ensures
    (c.in_ok-add_covers.ensures ∙ ap (λ (cs : List Cover). c.add_patterns.new.text.items ++ fault_lines (gates cs) c.args.firsts.now) c.items.ensures) c.in_ok-add_counts.ensures (c.count_tests.ensures c.args.vectors.now)
