use Rattle.std.proofs.Common.{◌++◌, ◌+◌, ◌-◌, List, map, ◌∙◌, ap}
use Rattle.rm_model.specs.declared.parts.Literal.{Literal}
use Rattle.graph_to_model.specs.NetModel.{row_per_pin}
use Rattle.graph_to_model.specs.Inner.Making.{before}
use Rattle.graph_to_model.proofs.Lists.{row_step, rows_first}
use Rattle.graph_to_model.proofs.gates.rows_per_pin.Goals as goal

pub loop-at-init : goal.loop-at-init
loop-at-init c = rows_first c.new-rows.result.items c.args.count c.new-rows.ensures.items

pub loop-at-preserved : goal.loop-at-preserved
loop-at-preserved c =
    ap (λ (l : List (List Literal)). l ++ map (before (c.loop-at.at + 1)) (row_per_pin (c.args.count - (c.loop-at.at + 1)))) c.in_ok-push.ensures.items
    ∙ row_step c.loop-at.rows.items _ c.loop-at.at c.args.count c.loop-at-test.true c.in_ok-unit_row.ensures c.loop-at.invariant
