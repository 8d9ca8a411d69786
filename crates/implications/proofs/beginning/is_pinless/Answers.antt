use Rattle.std.proofs.Common.{refl, sym, ◌∙◌}
use Rattle.gate_graph.specs.Circuit.{net_of}
use Rattle.implications.proofs.BeginsOutside.{none_told, pinless_told}
use Rattle.implications.proofs.beginning.is_pinless.Goals as goal

pub returns : goal.returns
returns c =
    let none = none_told c.driver.result c.is_none.result c.is_none.ensures in
    let told = pinless_told (net_of c.args.graph.now) c.args.node.0 c.in-Some.kind c.driver.result (sym c.in-Some.is ∙ c.kind.ensures) (c.if-not-is_gate.ensures.0 refl) c.driver.ensures in
    (λ e. told.0 (none.0 e), λ e. none.1 (told.1 e))
