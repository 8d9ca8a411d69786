-- The written text of a model says that model, and has no layout fault.
use Rattle.std.proofs.Common.{List, subst, sym}
use Rattle.rm_model.specs.WellFormed.{IsWellFormed}
use Rattle.rm_model.specs.Value.{IsRanked}
use Rattle.rm_model.specs.declared.parts.Model.{Model}
use Rattle.blif_lines.specs.Layout.{layout, lines_of}
use Rattle.blif_format.specs.Grammar.{Reads}
use Rattle.blif_format.specs.Laws.{AreFlawless, WrittenTextsRead}
use Rattle.blif_format.specs.Text.{Line, model_lines, text_of}
use Rattle.blif_writer.proofs.LineLaws.{lines_flawless, lines_of-text_of_lines}
use Rattle.blif_writer.proofs.ReadLaws.{model_lines_read}
use Rattle.blif_writer.proofs.TokenLaws.{model_lines_tokens}

pub text_flawless : (m : Model) → IsWellFormed m → AreFlawless (layout (text_of m))
text_flawless m good = lines_flawless (model_lines m) (model_lines_tokens m good)

pub text_reads : (m : Model) → IsWellFormed m → IsRanked m → Reads (lines_of (text_of m)) m
text_reads m good ranked =
    let P : List Line → Type 0 = λ ls. Reads ls m in
    subst P (sym (lines_of-text_of_lines (model_lines m) (model_lines_tokens m good))) (model_lines_read m good ranked)

pub written_texts_read : WrittenTextsRead
written_texts_read m good ranked = (text_flawless m good, text_reads m good ranked)
