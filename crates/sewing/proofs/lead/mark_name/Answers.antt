use Rattle.std.proofs.Common.{◌∙◌, ap, arith, sym, subst, List, Bool}
use Rattle.rm_base.specs.Words.{Word}
use Rattle.rm_model.specs.Words.{is_word}
use Rattle.sewing.specs.Inner.Making.{AreMarkedBy, has_lead, value_from}
use Rattle.sewing.specs.Names.{numbered_lead}
use Rattle.sewing.proofs.Marks.{far-number, is-so, not-so, other-text, this-text}
use Rattle.sewing.proofs.lead.mark_name.Goals as goal

pub returns-then-number-len-clause-marked : goal.returns-then-number-len-clause-marked
returns-then-number-len-clause-marked c =
    far-number c.args.name.now c.args.marks.now.items c.value_of-number.result (c.value_of-number.ensures ∙ ap (value_from 0) c.head-start.ensures) c.requires.few
    (omega (arith, c.if-number-len.true, c.len.ensures))

pub returns-then-ne-clause-marked : goal.returns-then-ne-clause-marked
returns-then-ne-clause-marked c =
    other-text c.args.name.now c.args.marks.now.items c.value_of-number.result (c.value_of-number.ensures ∙ ap (value_from 0) c.head-start.ensures) c.requires.few
    (ap (λ (w : Word). is_word (numbered_lead c.value_of-number.result) w) (sym c.head-start.ensures) ∙ (ap (λ (w : Word). is_word w c.head-start.result.now) (sym (c.as_slice.ensures.value ∙ c.in_ok-text.ensures)) ∙ not-so (is_word c.as_slice.result.now c.head-start.result.now) c.if-ne.ensures))

pub returns-clause-marked : goal.returns-clause-marked
returns-clause-marked c =
    subst (λ (bs : List Bool). AreMarkedBy (λ t. has_lead t c.args.name.now) c.args.marks.now.items bs) (sym c.set_mark.ensures)
    (this-text c.args.name.now c.args.marks.now.items c.value_of-number.result (c.value_of-number.ensures ∙ ap (value_from 0) c.head-start.ensures) c.requires.few
    (omega (arith, c.if-number-len.false, c.len.ensures))
    (ap (λ (w : Word). is_word (numbered_lead c.value_of-number.result) w) (sym c.head-start.ensures) ∙ (ap (λ (w : Word). is_word w c.head-start.result.now) (sym (c.as_slice.ensures.value ∙ c.in_ok-text.ensures)) ∙ is-so (is_word c.as_slice.result.now c.head-start.result.now) c.if-ne.ensures)))
