use Rattle.std.proofs.Common.{◌∙◌, ℕ, ap, sym, drop}
use Rattle.pattern_text.proofs.FaultLines.{behind_gate}
use Rattle.pattern_text.proofs.faults.behind.Goals as goal

pub returns-then-is_gate_cover : goal.returns-then-is_gate_cover
returns-then-is_gate_cover c = behind_gate c.args.cover.now c.args.firsts.now c.rest_of.result.now c.rest_of-then-is_gate_cover.result.now (sym c.if-is_gate_cover.ensures)
    (c.rest_of.ensures ∙ ap (λ (n : ℕ). drop n c.args.firsts.now) c.len-count.ensures) (c.rest_of-then-is_gate_cover.ensures ∙ ap (λ (n : ℕ). drop n c.rest_of.result.now) c.len-count.ensures)
