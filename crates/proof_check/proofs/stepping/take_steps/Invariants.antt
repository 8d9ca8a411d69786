use Rattle.std.proofs.Common.{drop, ℕ, ◌+◌, ◌≡◌}
use Rattle.gate_net.specs.Net.{Net}
use Rattle.journal_text.specs.Runs.{AreWritable}
use Rattle.proof_check.specs.Inner.Stepping.{IsGoing, standing}
use Rattle.proof_check.proofs.stepping.take_steps.Given as goal

abbrev pub invariant-loop-given : goal.invariant-loop-given
invariant-loop-given l = record {
  counts : l.number ≡ l.given-index + 1;
  left : AreWritable (drop l.given-index l.records);
  going : (net : Net) (budget : ℕ) → l.initial.replay ≡ standing net budget 1 → IsGoing net budget l.records l.given-index l.replay;
}
