use Rattle.std.proofs.Common.{sym, ◌∙◌}
use Rattle.std.proofs.lemmas.Bool.{ne_eqb, eq-eqb}
use Rattle.local_evaluation.proofs.Looks.{scan_none, scan_one, scan_many}
use Rattle.local_evaluation.proofs.pins.others_pass.Goals as goal

pub returns-then-scan-eq0 : goal.returns-then-scan-eq0
returns-then-scan-eq0 c v os h = eq-eqb c.args.scan.rest 0 c.if-scan-eq0.true ∙ sym (scan_none c.args.scan v os c.args.q h c.if-scan-eq0.true)

pub returns-then-scan-eq1 : goal.returns-then-scan-eq1
returns-then-scan-eq1 c v os h = sym (scan_one c.args.scan v os c.args.q h c.if-scan-eq1.true)

pub returns-else-scan-eq1 : goal.returns-else-scan-eq1
returns-else-scan-eq1 c v os h = ne_eqb c.args.scan.rest 1 c.if-scan-eq1.false ∙ sym (scan_many c.args.scan v os c.args.q h c.if-scan-eq0.false c.if-scan-eq1.false)
