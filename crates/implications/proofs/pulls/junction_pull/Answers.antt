use Rattle.std.proofs.Common.{Some, ap, sym, ◌∙◌}
use Rattle.gate_net.proofs.Public.{is_known_true}
use Rattle.implications.proofs.Pulling.{not_known_false, other_one, pull_known, pull_many, pull_one, pull_other, pull_unknown}
use Rattle.implications.proofs.pulls.junction_pull.Goals as goal
use Rattle.refutation.proofs.Public.{never_other}

pub returns-then-is_value : goal.returns-then-is_value
returns-then-is_value c os h =
    pull_known c.args.c c.in-Some.value os c.args.known (sym (c.junction_forward.ensures os h) ∙ c.in-Some.is) (is_known_true c.in-Some.value c.args.known (sym c.is_value.ensures ∙ c.if-is_value.true))

pub returns-in-Some : goal.returns-in-Some
returns-in-Some c os h = (sym (c.junction_forward.ensures os h) ∙ c.in-Some.is, not_known_false c.in-Some.value c.args.known (sym c.is_value.ensures ∙ c.if-is_value.false))

pub returns-in_err-value : goal.returns-in_err-value
returns-in_err-value c os h = rw c.from_residual.ensures (pull_unknown c.args.c os c.args.known (sym (c.junction_forward.ensures os h) ∙ c.in_default.is) c.in_err-value.was)

pub returns-then-value-c : goal.returns-then-value-c
returns-then-value-c c os h = pull_other c.args.scan c.args.c c.in_ok-value.value os c.args.known h (sym (c.junction_forward.ensures os h) ∙ c.in_default.is) c.in_ok-value.was (other_one c.in_ok-value.value c.args.c c.if-value-c.true)

pub returns-then-scan-eq1 : goal.returns-then-scan-eq1
returns-then-scan-eq1 c os h = pull_one c.args.scan c.args.c c.in_ok-value.value os c.args.known h (sym (c.junction_forward.ensures os h) ∙ c.in_default.is) c.in_ok-value.was (never_other c.in_ok-value.value c.args.c c.if-value-c.false) c.if-scan-eq1.true

pub returns : goal.returns
returns c os h = pull_many c.args.scan c.args.c os c.args.known h (sym (c.junction_forward.ensures os h) ∙ c.in_default.is) (c.in_ok-value.was ∙ ap Some (never_other c.in_ok-value.value c.args.c c.if-value-c.false)) c.if-scan-eq1.false
