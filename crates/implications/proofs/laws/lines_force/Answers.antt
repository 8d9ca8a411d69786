use Rattle.implications.proofs.laws.lines_force.Goals as goal
use Rattle.refutation.proofs.Public.{leads_within, opposed_within}

pub returns-clause-lead : goal.returns-clause-lead
returns-clause-lead c net fault start after lines leads s within free closed = leads_within net fault s free closed lines start after within leads

pub returns-clause-clash : goal.returns-clause-clash
returns-clause-clash c net fault start (lines, (after, (leads, (x, opposed)))) s within free closed =
    free x (opposed_within after s (leads_within net fault s free closed lines start after within leads) x opposed)
