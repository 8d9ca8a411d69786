use Rattle.std.proofs.Common.{◌≡◌, Some, refl, slice_get}
use Rattle.gate_graph.specs.Circuit.{net_of}
use Rattle.rar_loop.proofs.Filtering.{for_more}
use Rattle.rar_loop.proofs.vectors.Vectors.turned_at.Goals as goal

pub returns-in-Some-clause-turned : goal.returns-in-Some-clause-turned
returns-in-Some-clause-turned c i h t =
    let kept : slice_get c.args.self.now.turned.items c.args.gate.0 ≡ Some (Some c.in-Some.word) = rw c.as_slice.ensures.value at (c.in-Some.ensures c.in-Some.word refl) in
    c.requires.vectors.turned c.args.gate.0 c.in-Some.word kept i h t

pub returns-clause-vectors : goal.returns-clause-vectors
returns-clause-vectors c =
    for_more (net_of c.args.graph.now) c.args.self.now _ c.args.gate.0 c.turned_by-word.result c.requires.vectors c.turned_by-word.ensures.same c.turned_by-word.ensures.right refl refl (c.keep.ensures.listed c.requires.vectors.listed) c.turned_by-word.ensures.turned c.keep.ensures.kept
