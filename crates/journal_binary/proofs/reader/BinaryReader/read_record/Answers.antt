use Rattle.std.proofs.Common.{drop, subst}
use Rattle.journal_binary.specs.Fronts.{bad, got, short}
use Rattle.journal_binary.specs.Inner.Answers.{Stopped}
use Rattle.journal_binary.specs.Inner.Parts.{made}
use Rattle.journal_binary.specs.declared.fronts.Stop.{Stop}
use Rattle.journal_binary.proofs.Turns.{turn_given, turn_read, turn_wrong}
use Rattle.journal_binary.proofs.reader.BinaryReader.read_record.Goals as goal

pub returns-in-Err-Early : goal.returns-in-Err-Early
returns-in-Err-Early c =
    let s = c.self.inside in (
      c.self.view_is,
      turn_read c.args.self.now s.awaited s.number s.left s.bytes.items c.deref.result.now s.start s.seen c.read_on.new.seen s.part c.read_on.new.part short c.self.view_is c.requires.awaited c.requires.some
          c.self.invariant.goes c.deref.ensures.value c.in-Err-Early.ensures.goes (subst (λ (s : Stop). Stopped s (made c.read_on.new.part (drop c.read_on.new.seen c.deref.result.now))) c.in-Err-Early.field-0-is c.in-Err-Early.ensures.err),
    )

pub returns-in-Err-Wrong : goal.returns-in-Err-Wrong
returns-in-Err-Wrong c =
    let s = c.self.inside in (
      c.self.view_is,
      turn_wrong c.args.self.now s.awaited s.number s.left (drop s.start s.bytes.items) c.self.view_is
          (turn_read c.args.self.now s.awaited s.number s.left s.bytes.items c.deref.result.now s.start s.seen c.read_on.new.seen s.part c.read_on.new.part bad c.self.view_is c.requires.awaited c.requires.some
          c.self.invariant.goes c.deref.ensures.value c.in-Err-Wrong.ensures.goes (subst (λ (s : Stop). Stopped s (made c.read_on.new.part (drop c.read_on.new.seen c.deref.result.now))) c.in-Err-Wrong.field-0-is c.in-Err-Wrong.ensures.err)),
    )

pub returns : goal.returns
returns c =
    let s = c.self.inside in
    turn_given c.args.self.now s.awaited s.number s.left c.saturating_add-self-inside.result (drop s.start s.bytes.items) s.bytes.items c.deref.result.now c.read_on.new.seen c.take_whole.result c.self.view_is c.requires.awaited
    (turn_read c.args.self.now s.awaited s.number s.left s.bytes.items c.deref.result.now s.start s.seen c.read_on.new.seen s.part c.read_on.new.part (got c.take_whole.result (drop c.read_on.new.seen c.deref.result.now))
    c.self.view_is c.requires.awaited c.requires.some c.self.invariant.goes c.deref.ensures.value c.in-Ok.ensures.goes (c.take_whole.ensures.record (drop c.read_on.new.seen c.deref.result.now)))
    c.deref.ensures.value c.saturating_add-self-inside.ensures
