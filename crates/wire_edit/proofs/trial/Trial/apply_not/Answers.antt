use Rattle.std.proofs.Common.{ℕ, [], ◌∷◌, subst}
use Rattle.gate_graph.specs.Circuit.{net_of}
use Rattle.gate_net.specs.Net.{Net}
use Rattle.gate_net.specs.Edits.{IsLeastFree, MakesGate}
use Rattle.gate_net.specs.declared.Kind.TheVariants.{Not}
use Rattle.wire_edit.specs.Tried.{Tried}
use Rattle.wire_edit.proofs.LiveNodes.{least_one}
use Rattle.wire_edit.proofs.trial.Trial.apply_not.Goals as goal

pub returns-clause-made : goal.returns-clause-made
returns-clause-made c =
    let net : Net = net_of c.args.self.now.graph in
    let made = c.in_ok-apply.ensures.readers in
    let least : IsLeastFree net c.least_free-number.result.0 = subst (λ (t : Tried). IsLeastFree (net_of t.graph) c.least_free-number.result.0) c.self.view_is c.least_free-number.ensures in
    subst (λ (n : ℕ). MakesGate net (net_of c.apply.new.self.graph) Not (c.args.node.0 ∷ []) n) (least_one net made.0.0 c.least_free-number.result.0 made.0.1.0.number least) made.0.1.0
