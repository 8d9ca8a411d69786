use Rattle.std.proofs.Common.{◌≡◌, ℕ, take}
use Rattle.pin_pool.specs.Inner.Links.{lists_of}
use Rattle.pin_pool.specs.Inner.Marks.{is_listed, is_marked}
use Rattle.pin_pool.specs.declared.links.Side.TheVariants.{Gate}
use Rattle.pin_pool.proofs.copying.mark_linked.Given as goal

abbrev pub invariant-loop-ends : goal.invariant-loop-ends
invariant-loop-ends l = (q : ℕ) → is_marked l.marks q ≡ is_listed q (take l.ends-index (lists_of Gate l.pins l.gates))
