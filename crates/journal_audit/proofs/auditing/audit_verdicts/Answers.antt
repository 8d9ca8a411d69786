use Rattle.std.proofs.Common.{IfSome, ◌∙◌}
use Rattle.gate_graph.specs.Circuit.{net_of}
use Rattle.journal_audit.specs.Audited.{IsProblem}
use Rattle.journal_audit.specs.declared.problem.AuditProblem.{AuditProblem}
use Rattle.journal_audit.proofs.Concluding.{compared_problem, last_fits, passed_with}
use Rattle.journal_audit.proofs.auditing.audit_verdicts.Goals as goal
use Rattle.journal_check.proofs.Public.{handed_on}

pub net_text-requires-clause-fits : goal.net_text-requires-clause-fits
net_text-requires-clause-fits g c =
    last_fits c.accepted_stand.ensures c.args.model.now (net_of c.in_ok-graph.graph) c.in_ok-graph.tally.verdicts c.requires.formed c.requires.ranked c.in_ok-graph.ensures.accepted.is_last

pub returns-in_err-compare_output-clause-problem : goal.returns-in_err-compare_output-clause-problem
returns-in_err-compare_output-clause-problem g c =
    handed_on c.from_residual-in_err-compare_output.result c.in_err-compare_output.field-0.0 (λ (p : AuditProblem). IfSome (g.S.Shelf.files c.args.shelf.now) (λ told. IsProblem c.args.model.now told c.args.journal.now c.args.output.now p)) c.from_residual-in_err-compare_output.ensures.1
    (compared_problem (g.S.Shelf.files c.args.shelf.now) (g.S.Shelf.files c.journal_net.new.shelf) c.args.model.now c.args.journal.now c.args.output.now (net_of c.in_ok-graph.graph) c.in_ok-graph.tally c.as_slice.result.now c.in_err-compare_output.field-0.0
    c.journal_net.ensures.files c.in_ok-graph.ensures.accepted (c.as_slice.ensures.value ∙ c.in_ok-text.ensures.text) c.in_err-compare_output.ensures.says)

pub returns-clause-fits : goal.returns-clause-fits
returns-clause-fits g c =
    last_fits c.accepted_stand.ensures c.args.model.now (net_of c.in_ok-graph.graph) c.in_ok-graph.tally.verdicts c.requires.formed c.requires.ranked c.in_ok-graph.ensures.accepted.is_last

pub returns-clause-passed : goal.returns-clause-passed
returns-clause-passed g c =
    passed_with (g.S.Shelf.files c.args.shelf.now) (g.S.Shelf.files c.journal_net.new.shelf) c.args.model.now c.args.journal.now c.args.output.now
    (record { graph = c.in_ok-graph.graph; count = c.in_ok-graph.tally.count; verdicts = c.in_ok-graph.tally.verdicts }) c.as_slice.result.now c.in_ok-compare_output.field-0
    c.journal_net.ensures.files c.in_ok-graph.ensures.accepted.told c.in_ok-text.ensures.few (c.as_slice.ensures.value ∙ c.in_ok-text.ensures.text) c.in_ok-compare_output.ensures.says
