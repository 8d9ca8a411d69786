use Rattle.std.proofs.Common.{arith, refl}
use Rattle.journal_binary.proofs.Turns.{turn_rest}
use Rattle.journal_binary.proofs.reader.BinaryReader.read_rest.Goals as goal

pub returns : goal.returns
returns c =
    let s = c.self in
    (refl, turn_rest c.args.self.now s.inside.awaited s.inside.number s.inside.left s.inside.bytes.items s.inside.start s.view_is c.requires s.invariant.first (λ e. let h = s.inside.bytes.ok.0 in let l = c.len.ensures in c.if-self-len.false (omega arith)))
