use Rattle.std.proofs.Common.{◌≡◌, ap, sym, ◌∙◌, arith}
use Rattle.gate_graph.specs.Wirings.{kind_at}
use Rattle.gate_graph.specs.Inner.Wirings.{free_bit}
use Rattle.gate_graph.proofs.Numbers.{free-set, free-some, free-room}
use Rattle.gate_graph.proofs.undoing.set_kind.Goals as goal

pub count_free-requires-clause-some : goal.count_free-requires-clause-some
count_free-requires-clause-some c none =
    let was : c.stored_kind-was.result ≡ kind_at c.args.kinds.now.items c.args.node = rw c.deref.ensures.value at c.stored_kind-was.ensures in
    omega (arith, c.requires.free, free-some c.args.kinds.now.items c.args.node c.requires.node (sym was ∙ none))

pub count_free-requires-clause-room : goal.count_free-requires-clause-room
count_free-requires-clause-room c live =
    let was : c.stored_kind-was.result ≡ kind_at c.args.kinds.now.items c.args.node = rw c.deref.ensures.value at c.stored_kind-was.ensures in
    omega (arith, c.requires.free, c.requires.few, free-room c.args.kinds.now.items c.args.node c.requires.node (λ none. live (was ∙ none)))

pub returns-clause-count : goal.returns-clause-count
returns-clause-count c = free-set c.args.kinds.now.items c.args.node c.args.kind c.requires.node

pub returns-clause-free : goal.returns-clause-free
returns-clause-free c =
    let was : c.stored_kind-was.result ≡ kind_at c.args.kinds.now.items c.args.node = rw c.deref.ensures.value at c.stored_kind-was.ensures in
    omega (arith, c.count_free.ensures, ap free_bit was, c.requires.free, free-set c.args.kinds.now.items c.args.node c.args.kind c.requires.node)
