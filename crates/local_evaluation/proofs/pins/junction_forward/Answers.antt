use Rattle.std.proofs.lemmas.Bool.{ne_eqb, eq-eqb}
use Rattle.local_evaluation.proofs.Looks.{scan_forward}
use Rattle.local_evaluation.proofs.pins.junction_forward.Goals as goal

pub returns-then-scan-eq0 : goal.returns-then-scan-eq0
returns-then-scan-eq0 c os h = rw (c.if-scan.false, eq-eqb c.args.scan.rest 0 c.if-scan-eq0.true) at (scan_forward c.args.scan c.args.value os h)

pub returns : goal.returns
returns c os h = rw (c.if-scan.false, ne_eqb c.args.scan.rest 0 c.if-scan-eq0.false) at (scan_forward c.args.scan c.args.value os h)
