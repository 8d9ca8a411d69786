use Rattle.std.proofs.Common.{arith, refl}
use Rattle.rambo_cli.proofs.JudgedProofs.{proof_above, proof_whole}
use Rattle.rambo_cli.proofs.judging.read_proof.Goals as goal

pub returns-then-len-gt-MOST_BYTES-clause-cause : goal.returns-then-len-gt-MOST_BYTES-clause-cause
returns-then-len-gt-MOST_BYTES-clause-cause g c =
    (refl, proof_above 4611686018427387904 c.in_ok-text.text.items (g.S.Shelf.files c.args.shelf.now) c.args.proof.now (let long = c.if-len-gt-MOST_BYTES.true in let size = c.len.ensures in omega (arith, long, size)) c.in_ok-text.ensures.found)

pub returns-clause-read : goal.returns-clause-read
returns-clause-read g c =
    proof_whole 4611686018427387904 c.in_ok-text.text.items (g.S.Shelf.files c.args.shelf.now) c.args.proof.now (let short = c.if-len-gt-MOST_BYTES.false in let size = c.len.ensures in omega (arith, short, size)) c.in_ok-text.ensures.found
