use Rattle.blif_flatten.proofs.Lines.{row-go}
use Rattle.std.proofs.Common.{◌∙◌, ◌≡◌, subst, sym, List, false}
use Rattle.rm_base.proofs.Public.{read_stands}
use Rattle.blif_lines.specs.declared.line.Token.{Token}
use Rattle.blif_format.specs.Grammar.{is_dotted}
use Rattle.blif_reader.specs.Lines.{words_at}
use Rattle.blif_flatten.proofs.models.row_count.Goals as goal

pub loop-i-preserved : goal.loop-i-preserved
loop-i-preserved c =
    row-go c.args.text.now c.args.lines.now c.loop-i.i c.index-lines-i.result (read_stands c.args.lines.now c.loop-i.i c.index-lines-i.result c.loop-i-test.true c.index-lines-i.is)
    (subst (λ (l : List Token). is_dotted (words_at c.args.text.now l) ≡ false) c.items.ensures (sym c.is_dotted_line.ensures ∙ c.if-is_dotted_line.false)) c.loop-i.invariant
