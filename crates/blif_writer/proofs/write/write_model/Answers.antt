use Rattle.std.proofs.Common.{◌≡◌, ℕ, List, ◌++◌, ap, ◌∙◌, subst, sym}
use Rattle.std.specs.List.{flat_map}
use Rattle.blif_lines.specs.Layout.{layout, lines_of}
use Rattle.blif_format.specs.FirstFault.{first_fault}
use Rattle.blif_format.specs.Grammar.{Reads}
use Rattle.blif_format.specs.Laws.{AreFlawless, IsAtMostLimit}
use Rattle.blif_format.specs.Text.{text_of}
use Rattle.blif_writer.specs.Inner.Written.{cover_text, latch_text}
use Rattle.blif_writer.proofs.TextReads.{text_flawless, text_reads}
use Rattle.blif_writer.proofs.WrittenLaws.{model_put}
use Rattle.blif_writer.proofs.write.write_model.Goals as goal

pub returns : goal.returns
returns c =
    let latches = c.in_ok-put_latches.ensures ∙ ap (λ ls. c.put_head.new.out.items ++ flat_map latch_text ls) c.items.ensures in
    let covers = c.in_ok-put_covers.ensures ∙ ap (λ cs. c.put_latches.new.out.items ++ flat_map cover_text cs) c.items-2.ensures in
    let whole : c.put.new.out.items ≡ text_of c.args.model.now =
    model_put c.args.model.now c.new-out.result.items c.put_head.new.out.items c.put_latches.new.out.items c.put_covers.new.out.items c.put.new.out.items
    c.new-out.ensures.items c.in_ok-put_head.ensures latches covers c.in_ok-put.ensures in
    record {
      text = whole;
      flawless = λ good. subst (λ (t : List ℕ). AreFlawless (layout t)) (sym whole) (text_flawless c.args.model.now good);
      faultless = λ good ranked. subst (λ (t : List ℕ). IsAtMostLimit (first_fault t)) (sym whole)
          (c.read_texts_are_faultless.ensures (text_of c.args.model.now) c.args.model.now (text_flawless c.args.model.now good) (text_reads c.args.model.now good ranked));
      reads = λ good ranked. subst (λ (t : List ℕ). Reads (lines_of t) c.args.model.now) (sym whole) (text_reads c.args.model.now good ranked);
    }
