use Rattle.blif_flatten.proofs.Lines.{model-of}
use Rattle.std.proofs.Common.{◌∙◌, ap, List}
use Rattle.blif_lines.specs.declared.line.Token.{Token}
use Rattle.blif_reader.specs.Lines.{words_at}
use Rattle.blif_flatten.specs.Sections.{second_word}
use Rattle.blif_flatten.proofs.models.model_of.Goals as goal

pub returns : goal.returns
returns c =
    model-of c.args.text.now c.args.section.now c.items-body.result.now _ c.items-body.ensures
    (c.in_ok-name.ensures ∙ ap (λ (l : List Token). second_word (words_at c.args.text.now l)) c.items.ensures)
    c.in_ok-inputs.ensures c.in_ok-clocks.ensures c.in_ok-outputs.ensures c.in_ok-latches.ensures c.in_ok-covers.ensures
