use Rattle.std.proofs.Common.{◌≡◌, ◌/◌, length, take, ap, arith}
use Rattle.std.specs.Prelude.{Some}
use Rattle.std.proofs.lemmas.Grind.{common_steps}
use Rattle.rm_base.specs.Files.{append_file}
use Rattle.rm_base.specs.Inner.Kept.{files_of}
use Rattle.rm_base.proofs.memory.MemoryShelfShelf.append.Goals as goal

pub returns-then-next_fails-clause-files : goal.returns-then-next_fails-clause-files
returns-then-next_fails-clause-files c =
    let half : files_of c.append.new.kept ≡ append_file c.args.name.now (take (length c.args.bytes.now / 2) c.args.bytes.now) c.args.self.now.files = grind (arith, common_steps) in
    (length c.args.bytes.now / 2, ap Some half)
