use Rattle.blif_writer.proofs.WrittenLaws.{longer_line_put}
use Rattle.blif_writer.proofs.lines.put_line_and.Goals as goal

pub returns : goal.returns
returns c =
    longer_line_put c.args.out.now.items c.put.new.out.items c.put_words.new.out.items c.put_word.new.out.items c.push.new.self.items c.args.first.now c.args.words.now c.args.last.now
    c.in_ok-put.ensures c.in_ok-put_words.ensures c.in_ok-put_word.ensures c.in_ok-push.ensures.items
