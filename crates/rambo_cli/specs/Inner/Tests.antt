-- Beside Tests.antt: what an accepted journal says of the faults of its last net, and what is to be written.
use Rattle.std.specs.Prelude.{◌≡◌, length}
use Rattle.rm_model.specs.declared.parts.Model.{Model}
use Rattle.gate_net.specs.Net.{Net}
use Rattle.gate_net.specs.Faults.{faults_of}
use Rattle.gate_graph.specs.Circuit.{net_of}
use Rattle.graph_to_model.specs.NetModel.{model_of_net}
use Rattle.journal_audit.specs.Audited.{IsLast}
use Rattle.journal_audit.specs.Verdicts.{AreVerdictsAt, VerdictList, said_in}
use Rattle.journal_audit.specs.declared.auditing.Audited.{Audited}
use Rattle.test_patterns.specs.Classes.{AreLast}
use Rattle.test_patterns.specs.TestSets.{AreKnown}
use Rattle.pattern_text.specs.Text.{Tests, counts_of, tests_text}
use Rattle.rambo_cli.specs.Tests.{AreTestsOf}
use Rattle.rambo_cli.specs.declared.testing.Written.{Written}

-- each fault of the net has a verdict, and the vector of a hit detects its fault
pub record VerdictsTell (net : Net) (v : VerdictList) : Type 0 where
  pub size : length v.numbers ≡ length (faults_of net)
  pub known : AreKnown net (faults_of net) v.vectors v.numbers

abbrev pub AcceptedVerdictsTell : Type 0
AcceptedVerdictsTell = (m : Model) (last : Net) (v : VerdictList) → AreVerdictsAt v.vectors v.numbers → IsLast m last v → VerdictsTell last v

-- the text is that of patterns for the model of the last net, and the counts are theirs
pub record IsWritten (m : Model) (a : Audited) (w : Written) : Type 0 where
  pub t : Tests
  pub tests : AreTestsOf (model_of_net m (net_of a.graph)) (said_in a.verdicts) t
  pub classes : AreLast (net_of a.graph) (faults_of (net_of a.graph)) t.lasts
  pub text : w.text.items ≡ tests_text (model_of_net m (net_of a.graph)) t
  pub counts : w.counts ≡ counts_of t
