use Rattle.refutation.proofs.Parities.{one_any, one_found, one_rest}
use Rattle.refutation.specs.FactSets.{held_by}
use Rattle.refutation.proofs.pin_scans.one_differs.Goals as goal

pub returns-then-scan-ne1 : goal.returns-then-scan-ne1
returns-then-scan-ne1 c = (λ wrong. cc, λ h. absurd (c.if-scan-ne1.true (one_rest c.look_at_facts-scan.result (held_by c.args.facts.now) c.args.drivers c.look_at_facts-scan.ensures h)))

pub returns : goal.returns
returns c = (
  one_found c.look_at_facts-scan.result (held_by c.args.facts.now) c.args.drivers c.look_at_facts-scan.ensures c.if-scan-ne1.false,
  one_any c.look_at_facts-scan.result (held_by c.args.facts.now) c.args.drivers c.look_at_facts-scan.ensures,
)
