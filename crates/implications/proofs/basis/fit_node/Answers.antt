use Rattle.std.proofs.Common.{inl}
use Rattle.gate_graph.specs.Circuit.{net_of}
use Rattle.implications.proofs.Bases.{fits_more, live_known}
use Rattle.implications.proofs.basis.fit_node.Goals as goal

pub returns-else-is_pinless-clause-fits : goal.returns-else-is_pinless-clause-fits
returns-else-is_pinless-clause-fits c =
    fits_more (net_of c.args.graph.now) c.args.node.0 c.args.facts.now c.insert.new.self c.args.pinless.now.items c.args.pinless.now.items
    (live_known (net_of c.args.graph.now) c.args.node.0 c.kind.result c.is_none.result c.kind.ensures c.is_none.ensures c.if-is_none.false) c.insert.ensures.facts (λ y listed. listed)
    (λ pinless. let wrong = c.is_pinless.ensures.1 pinless in let off = c.if-is_pinless.false in cc) (λ k n there. inl there)
