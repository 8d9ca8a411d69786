use Rattle.blif_writer.proofs.WrittenLaws.{line_put}
use Rattle.blif_writer.proofs.lines.put_line.Goals as goal

pub returns : goal.returns
returns c = line_put c.args.out.now.items c.put.new.out.items c.put_words.new.out.items c.push.new.self.items c.args.first.now c.args.words.now c.in_ok-put.ensures c.in_ok-put_words.ensures c.in_ok-push.ensures.items
