use Rattle.std.proofs.Common.{◌∙◌, ap, arith, sym, subst, List, Bool}
use Rattle.rm_base.specs.Words.{Word}
use Rattle.rm_model.specs.Words.{is_word}
use Rattle.blif_flatten.specs.Inner.Leads.{AreMarkedBy, head, value_from}
use Rattle.blif_flatten.proofs.Leads.{far-number, is-so, not-so, other-text, this-text}
use Rattle.blif_flatten.proofs.lead.mark_head.Goals as goal

pub returns-then-number-len-clause-marked : goal.returns-then-number-len-clause-marked
returns-then-number-len-clause-marked c =
    far-number c.args.before.now c.args.marks.now.items c.value_of-number.result (c.value_of-number.ensures ∙ ap (value_from 0) c.behind_first.ensures) c.requires.few
    (omega (arith, c.if-number-len.true, c.len.ensures))

pub returns-then-ne-clause-marked : goal.returns-then-ne-clause-marked
returns-then-ne-clause-marked c =
    other-text c.args.before.now c.args.marks.now.items c.value_of-number.result (c.value_of-number.ensures ∙ ap (value_from 0) c.behind_first.ensures) c.requires.few
    (ap (λ (w : Word). is_word w c.args.before.now) (sym (c.as_slice.ensures.value ∙ c.in_ok-text.ensures)) ∙ not-so (is_word c.as_slice.result.now c.args.before.now) c.if-ne.ensures)

pub returns-clause-marked : goal.returns-clause-marked
returns-clause-marked c =
    subst (λ (bs : List Bool). AreMarkedBy (λ t. is_word (head t) c.args.before.now) c.args.marks.now.items bs) (sym c.set_mark.ensures)
    (this-text c.args.before.now c.args.marks.now.items c.value_of-number.result (c.value_of-number.ensures ∙ ap (value_from 0) c.behind_first.ensures) c.requires.few
    (omega (arith, c.if-number-len.false, c.len.ensures))
    (ap (λ (w : Word). is_word w c.args.before.now) (sym (c.as_slice.ensures.value ∙ c.in_ok-text.ensures)) ∙ is-so (is_word c.as_slice.result.now c.args.before.now) c.if-ne.ensures))
