use Rattle.std.proofs.Common.{◌≡◌, ◌∙◌, ◌+◌, ◌++◌, ◌∷◌, [], ap, arith, length, sym, List, Option, Bool}
use Rattle.std.proofs.lemmas.List.{length-append}
use Rattle.journal_audit.specs.Verdicts.{said_of_record}
use Rattle.journal_audit.proofs.Saying.{said_append}
use Rattle.journal_audit.proofs.tally.Tally.push.Goals as goal

pub returns : goal.returns
returns c = λ records t.
    let long : length (records ++ c.args.given.now ∷ []) ≡ length records + 1 = length-append records (c.args.given.now ∷ []) in
    record {
      counts = omega (arith, t.counts, long);
      said = c.in_ok-push.ensures ∙ (ap (λ (ys : List (Option (List Bool))). ys ++ said_of_record c.args.given.now) t.said ∙ sym (said_append records c.args.given.now));
    }
