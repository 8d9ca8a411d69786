use Rattle.std.proofs.Common.{Bor, List, ap, drop, length, subst, sym, ℕ, ◌+◌, ◌∙◌, ◌≡◌, ◌≤◌}
use Rattle.journal_binary.specs.Fronts.{got}
use Rattle.journal_binary.specs.Inner.Answers.{Stopped}
use Rattle.journal_binary.specs.Inner.Openings.{read_opening}
use Rattle.journal_binary.specs.Inner.Parts.{Continues, made}
use Rattle.journal_binary.specs.declared.fronts.Stop.{Stop}
use Rattle.journal_binary.specs.declared.openings.Opened.{Opened}
use Rattle.journal_binary.specs.declared.parts.Part.{Part}
use Rattle.journal_binary.proofs.Steady.{opening_steady}
use Rattle.journal_binary.proofs.Going.{goes_opened, stopped_opening}
use Rattle.journal_binary.proofs.parts.open_part.Goals as goal

pub returns-in-Err-clause-err : goal.returns-in-Err-clause-err
returns-in-Err-clause-err c =
    subst (λ (s : Stop). Stopped s (made c.args.part.now (drop c.args.seen.now c.args.bytes.now))) (sym c.from.ensures)
    (stopped_opening (λ (x : Opened × Bor (List ℕ)). (x.0, x.1.now)) (drop c.args.seen.now c.args.bytes.now) c.in-Err.lack c.args.part.now c.requires.between (c.in-Err.ensures ∙ ap read_opening c.rest_from-left.ensures))

pub taken-requires : goal.taken-requires
taken-requires c = opening_steady.ends c.rest_from-left.result.now c.in-Ok.read.1.now c.in-Ok.read.0 (sym c.in-Ok.ensures)

pub returns-clause-goes : goal.returns-clause-goes
returns-clause-goes c =
    let left : List ℕ = c.rest_from-left.result.now in
    let is : left ≡ drop c.args.seen.now c.args.bytes.now = c.rest_from-left.ensures in
    subst (λ (p : Part). Continues (made p) (made c.begin.result) c.args.bytes.now c.args.seen.now (c.args.seen.now + c.taken.result)) (sym c.requires.between)
    (goes_opened c.args.bytes.now c.args.seen.now c.taken.result c.in-Ok.read.0 c.begin.result c.requires.within (subst (λ (xs : List ℕ). c.taken.result ≤ length xs) is c.taken.ensures.within)
    (sym (ap read_opening is) ∙ sym c.in-Ok.ensures ∙ ap (λ (xs : List ℕ). got c.in-Ok.read.0 xs) (sym c.taken.ensures.left) ∙ ap (λ (xs : List ℕ). got c.in-Ok.read.0 (drop c.taken.result xs)) is) c.begin.ensures.made)
