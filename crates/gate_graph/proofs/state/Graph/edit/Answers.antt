use Rattle.gate_graph.proofs.state.Graph.edit.Goals as goal

pub returns-in-Readers-clause-edits : goal.returns-in-Readers-clause-edits
returns-in-Readers-clause-edits c = rw c.in-Readers.is (c.reread.ensures.net, (c.reread.ensures.readers, c.reread.ensures.uses))
