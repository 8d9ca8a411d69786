use Rattle.std.proofs.Common.{Some, [], subst, ℕ, ◌∷◌, ◌≡◌}
use Rattle.std.specs.Prelude.{slice_get}
use Rattle.gate_graph.specs.Changes.{Edits}
use Rattle.gate_graph.specs.Circuit.{Circuit, net_of}
use Rattle.gate_graph.specs.declared.editing.Edit.{Edit}
use Rattle.gate_net.specs.Edits.{DiffersAt}
use Rattle.gate_net.specs.Net.{Reads}
use Rattle.fault_sim.proofs.ChangedNodes.{drivers_changed, if_ok, least_same, node_changed, one_changed, readers_changed}
use Rattle.gate_net.specs.Edits.{IsSameBut}
use Rattle.fault_sim.proofs.changed.changed_by.Goals as goal
use Rattle.rm_base.specs.Numbers.{numbers_of}

pub returns-in-Append : goal.returns-in-Append
returns-in-Append c =
    if_ok c.one_node.result (λ ns. numbers_of ns.items ≡ c.in-Append.gate.0 ∷ [])
    (λ ns. (after : Circuit) → Edits c.args.graph.now c.args.edit.now after → IsSameBut (net_of c.args.graph.now) (net_of after) (numbers_of ns.items))
    (λ ns one after made. (let edits = subst (λ (e : Edit). Edits c.args.graph.now e after) c.in-Append.is made in drivers_changed (net_of c.args.graph.now) (net_of after) c.in-Append.gate.0 _ (numbers_of ns.items) edits.0 one)) c.one_node.ensures

pub returns-in-Remove : goal.returns-in-Remove
returns-in-Remove c =
    if_ok c.one_node-in-Remove.result (λ ns. numbers_of ns.items ≡ c.in-Remove.gate.0 ∷ [])
    (λ ns. (after : Circuit) → Edits c.args.graph.now c.args.edit.now after → IsSameBut (net_of c.args.graph.now) (net_of after) (numbers_of ns.items))
    (λ ns one after made. (let edits = subst (λ (e : Edit). Edits c.args.graph.now e after) c.in-Remove.is made in drivers_changed (net_of c.args.graph.now) (net_of after) c.in-Remove.gate.0 _ (numbers_of ns.items) edits.0 one)) c.one_node-in-Remove.ensures

pub returns-in-Redrive : goal.returns-in-Redrive
returns-in-Redrive c =
    if_ok c.one_node-in-Redrive.result (λ ns. numbers_of ns.items ≡ c.in-Redrive.gate.0 ∷ [])
    (λ ns. (after : Circuit) → Edits c.args.graph.now c.args.edit.now after → IsSameBut (net_of c.args.graph.now) (net_of after) (numbers_of ns.items))
    (λ ns one after made. (let edits = subst (λ (e : Edit). Edits c.args.graph.now e after) c.in-Redrive.is made in drivers_changed (net_of c.args.graph.now) (net_of after) c.in-Redrive.gate.0 _ (numbers_of ns.items) edits.0 one)) c.one_node-in-Redrive.ensures

pub returns-in-Retire : goal.returns-in-Retire
returns-in-Retire c =
    if_ok c.one_node-in-Retire.result (λ ns. numbers_of ns.items ≡ c.in-Retire.gate.0 ∷ [])
    (λ ns. (after : Circuit) → Edits c.args.graph.now c.args.edit.now after → IsSameBut (net_of c.args.graph.now) (net_of after) (numbers_of ns.items))
    (λ ns one after made. (let edits = subst (λ (e : Edit). Edits c.args.graph.now e after) c.in-Retire.is made in one_changed (net_of c.args.graph.now) (net_of after) c.in-Retire.gate.0 (numbers_of ns.items) edits.0.0 one)) c.one_node-in-Retire.ensures

pub returns-in-Readers : goal.returns-in-Readers
returns-in-Readers c =
    if_ok c.readers.result (λ ns. (z p : ℕ) → Reads (net_of c.args.graph.now) z p c.in-Readers.from.0 → (k : ℕ) × (slice_get (numbers_of ns.items) k ≡ Some z))
    (λ ns. (after : Circuit) → Edits c.args.graph.now c.args.edit.now after → IsSameBut (net_of c.args.graph.now) (net_of after) (numbers_of ns.items))
    (λ ns listed after made. (let edits = subst (λ (e : Edit). Edits c.args.graph.now e after) c.in-Readers.is made in
    readers_changed (net_of c.args.graph.now) (net_of after) c.in-Readers.from.0 c.in-Readers.to.0 (numbers_of ns.items) edits.0 listed)) c.readers.ensures

pub returns-in-NewNot : goal.returns-in-NewNot
returns-in-NewNot c =
    if_ok c.one_node-in-NewNot.result (λ ns. numbers_of ns.items ≡ c.first_free.result.0 ∷ [])
    (λ ns. (after : Circuit) → Edits c.args.graph.now c.args.edit.now after → IsSameBut (net_of c.args.graph.now) (net_of after) (numbers_of ns.items))
    (λ ns one after made. (let edits = subst (λ (e : Edit). Edits c.args.graph.now e after) c.in-NewNot.is made in
    let same : edits.0.0 ≡ c.first_free.result.0 = least_same (net_of c.args.graph.now) edits.0.0 c.first_free.result.0 edits.0.1.0.number c.first_free.ensures in
    one_changed (net_of c.args.graph.now) (net_of after) c.first_free.result.0 (numbers_of ns.items) (subst (λ x. DiffersAt (net_of c.args.graph.now) (net_of after) x) same edits.0.1.0.differs) one)) c.one_node-in-NewNot.ensures

pub returns-in-ToNot : goal.returns-in-ToNot
returns-in-ToNot c =
    if_ok c.one_node-in-ToNot.result (λ ns. numbers_of ns.items ≡ c.in-ToNot.gate.0 ∷ [])
    (λ ns. (after : Circuit) → Edits c.args.graph.now c.args.edit.now after → IsSameBut (net_of c.args.graph.now) (net_of after) (numbers_of ns.items))
    (λ ns one after made. (let edits = subst (λ (e : Edit). Edits c.args.graph.now e after) c.in-ToNot.is made in node_changed (net_of c.args.graph.now) (net_of after) c.in-ToNot.gate.0 _ (numbers_of ns.items) edits.0 one)) c.one_node-in-ToNot.ensures
