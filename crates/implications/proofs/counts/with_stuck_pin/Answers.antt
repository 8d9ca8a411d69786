use Rattle.std.proofs.Common.{not}
use Rattle.implications.proofs.Counted.{stuck_counted}
use Rattle.implications.proofs.counts.with_stuck_pin.Goals as goal
use Rattle.std.proofs.Common.{length-set, sym, ◌∙◌, Some}

pub returns : goal.returns
returns c os p h there = record {
  controlled = stuck_counted c.args.c os p c.args.driven c.args.value c.args.count.controlled c.replace_one-controlled.result c.is_value.result c.is_value-2.result c.replace_one-controlled.ensures c.is_value.ensures c.is_value-2.ensures h.controlled there;
  passing = stuck_counted (not c.args.c) os p c.args.driven c.args.value c.args.count.passing c.replace_one-passing.result c.is_value-3.result c.is_value-4.result c.replace_one-passing.ensures c.is_value-3.ensures c.is_value-4.ensures h.passing there;
  pins = h.pins ∙ sym (length-set os p (Some c.args.value));
}
