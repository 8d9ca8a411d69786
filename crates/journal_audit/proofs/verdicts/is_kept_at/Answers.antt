use Rattle.std.proofs.Common.{◌≡◌, ◌∙◌, Bool, List, Some, ap, length, sym}
use Rattle.std.proofs.lemmas.Bool.{ltb-true}
use Rattle.rm_base.proofs.Public.{read_stands}
use Rattle.journal_audit.proofs.Saying.{same_values}
use Rattle.journal_audit.proofs.verdicts.is_kept_at.Goals as goal

pub returns-in-Some : goal.returns-in-Some
returns-in-Some c = λ t.
    read_stands c.args.vectors.now c.args.number c.in-Some.kept.now (ltb-true c.args.number (length c.args.vectors.now) (sym c.in-Some.ensures.lookup.0)) c.in-Some.ensures.lookup.1
    ∙ ap (λ (v : List Bool). Some v) (sym c.values.ensures ∙ same_values c.values.result.now c.args.vector.now (sym c.eq.ensures ∙ t))
