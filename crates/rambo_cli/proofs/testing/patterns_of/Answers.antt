use Rattle.std.proofs.Common.{ℕ, Bool, List, Option, sym, ◌∙◌, ap, subst}
use Rattle.rm_model.specs.WellFormed.{IsWellFormed}
use Rattle.rm_model.specs.declared.parts.Model.{Model}
use Rattle.gate_net.specs.Faults.{faults_of}
use Rattle.gate_graph.specs.Circuit.{net_of}
use Rattle.graph_to_model.specs.NetModel.{model_of_net}
use Rattle.test_patterns.specs.Classes.{AreLast}
use Rattle.test_patterns.specs.TestSets.{AreTests}
use Rattle.rambo_cli.proofs.PatternFiles.{each_known, known_tests, written_tests}
use Rattle.rambo_cli.proofs.Patterns.{verdicts_tell}
use Rattle.rambo_cli.proofs.testing.patterns_of.Goals as goal

pub compact-requires-clause-known : goal.compact-requires-clause-known
compact-requires-clause-known c =
    known_tests verdicts_tell c.args.model.now (net_of c.args.audited.now.graph) c.args.audited.now.verdicts c.vectors-vectors.result.now c.numbers-numbers.result.now c.vectors-vectors.ensures.vectors c.numbers-numbers.ensures
    c.vectors-vectors.ensures.kept c.requires.last

pub compact-requires-clause-size : goal.compact-requires-clause-size
compact-requires-clause-size c =
    each_known verdicts_tell c.args.model.now (net_of c.args.audited.now.graph) c.args.audited.now.verdicts c.numbers-numbers.result.now c.numbers-numbers.ensures c.vectors-vectors.ensures.kept c.requires.last

pub tests_text-requires : goal.tests_text-requires
tests_text-requires c =
    let net = net_of c.args.audited.now.graph in
    let last = c.requires.last in
    let told = c.accepted_journals_tell.ensures c.args.model.now last.budget last.records net last.accepted in
    let is = c.tidy_nets_have_models.ensures net c.args.model.now told.form told.tidy c.requires.usable.formed c.requires.fits c.requires.few in
    record { formed = subst IsWellFormed (sym (c.in_ok-out.ensures.model ∙ ap (λ (m : Model). model_of_net m net) c.model.ensures)) is.well_formed }

pub returns : goal.returns
returns c =
    let net = net_of c.args.audited.now.graph in
    let tests = subst (λ (firsts : List (Option ℕ)). AreTests net (faults_of net) c.vectors-vectors.result.now c.numbers-numbers.result.now c.as_slice-patterns.result.now firsts) (sym c.as_slice-firsts.ensures.value)
    (subst (λ (patterns : List ℕ). AreTests net (faults_of net) c.vectors-vectors.result.now c.numbers-numbers.result.now patterns c.in_ok-set.set.firsts.items) (sym c.as_slice-patterns.ensures.value) c.in_ok-set.ensures.tests) in
    let classes = subst (λ (lasts : List Bool). AreLast net (faults_of net) lasts) (sym c.as_slice-lasts.ensures.value) c.in_ok-set.ensures.classes in
    written_tests c.tidy_nets_have_model_faults.ensures.vectors c.tidy_nets_have_model_faults.ensures.alike c.accepted_journals_tell.ensures c.args.model.now c.args.audited.now
    (record { text = c.in_ok-text.text; counts = c.count_tests-counts.result }) c.vectors-vectors.result.now c.numbers-numbers.result.now c.as_slice-patterns.result.now c.as_slice-firsts.result.now c.as_slice-lasts.result.now c.in_ok-out.out
    c.requires.usable c.requires.last c.requires.fits c.requires.few c.vectors-vectors.ensures.vectors c.numbers-numbers.ensures c.vectors-vectors.ensures.kept tests classes
    (c.in_ok-out.ensures.model ∙ ap (λ (m : Model). model_of_net m net) c.model.ensures) c.in_ok-text.ensures (c.count_tests-counts.ensures c.vectors-vectors.result.now)
