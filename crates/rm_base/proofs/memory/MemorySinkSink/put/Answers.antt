use Rattle.std.proofs.Common.{◌≡◌, ◌/◌, ◌++◌, length, take, ap, arith}
use Rattle.std.specs.Prelude.{Some}
use Rattle.std.proofs.lemmas.Grind.{common_steps}
use Rattle.rm_base.proofs.memory.MemorySinkSink.put.Goals as goal

pub returns-then-next_fails-clause-written : goal.returns-then-next_fails-clause-written
returns-then-next_fails-clause-written c =
    let half : c.extend_from_slice.new.self.items ≡ c.args.self.now.written ++ take (length c.args.bytes.now / 2) c.args.bytes.now = grind (arith, common_steps) in
    (length c.args.bytes.now / 2, ap Some half)
