use Rattle.std.proofs.Common.{false, sym, true, ◌∙◌}
use Rattle.gate_net.proofs.Public.{is_known_true}
use Rattle.implications.proofs.Pulling.{equal_all, equal_any, equal_known, equal_many, equal_one, equal_open, not_known_false}
use Rattle.implications.proofs.pulls.equal_pull.Goals as goal

pub returns-then-is_value : goal.returns-then-is_value
returns-then-is_value c os h = equal_known c.args.scan os c.args.known h c.if-scan-eq0.true (is_known_true true c.args.known (sym c.is_value.ensures ∙ c.if-is_value.true))

pub returns-then-scan-eq0 : goal.returns-then-scan-eq0
returns-then-scan-eq0 c os h = equal_all c.args.scan os c.args.known h c.if-scan-eq0.true (not_known_false true c.args.known (sym c.is_value.ensures ∙ c.if-is_value.false))

pub returns-then-not-is_value : goal.returns-then-not-is_value
returns-then-not-is_value c os h = equal_open c.args.scan os c.args.known h c.if-scan-eq0.false (not_known_false false c.args.known (sym c.if-not-is_value.ensures))

pub returns-then-scan : goal.returns-then-scan
returns-then-scan c os h = equal_any c.args.scan os c.args.known h c.if-scan-eq0.false c.if-scan.true

pub returns-then-scan-eq1 : goal.returns-then-scan-eq1
returns-then-scan-eq1 c os h = equal_one c.args.scan os c.args.known h c.if-scan-eq1.true c.if-scan.false (is_known_true false c.args.known (sym c.if-not-is_value.ensures))

pub returns : goal.returns
returns c os h = equal_many c.args.scan os c.args.known h c.if-scan-eq0.false c.if-scan-eq1.false
