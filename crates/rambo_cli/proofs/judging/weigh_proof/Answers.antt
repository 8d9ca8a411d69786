use Rattle.std.proofs.Common.{subst, sym}
use Rattle.rambo_cli.specs.Inner.Judge.{IsRefusedFor}
use Rattle.rambo_cli.proofs.JudgedProofs.{refused_for}
use Rattle.rambo_cli.proofs.judging.weigh_proof.Goals as goal

pub returns-in-Err-clause-refused : goal.returns-in-Err-clause-refused
returns-in-Err-clause-refused c =
    subst (IsRefusedFor c.args.pair.now.model c.args.pair.now.other c.args.text.now) (sym c.from.ensures)
    (refused_for c.args.pair.now.model c.args.pair.now.other c.args.text.now c.in-Err.refusal c.in-Err.ensures.why c.in-Err.ensures.refused)
