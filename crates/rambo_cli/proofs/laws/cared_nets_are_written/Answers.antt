use Rattle.std.proofs.Common.{◌≤◌, ◌+◌, ◌^◌, ◌∙◌, ℕ, refl, sym, subst, arith}
use Rattle.blif_format.specs.FirstFault.{first_fault}
use Rattle.blif_format.specs.Text.{text_of}
use Rattle.gate_graph.specs.Circuit.{net_of}
use Rattle.graph_to_model.specs.NetModel.{model_of_net}
use Rattle.care_opt.specs.Extract.{main_faults}
use Rattle.care_opt.specs.Gated.{main_bound}
use Rattle.rambo_cli.proofs.Cares.{all_writable, care_tested, never_spent}
use Rattle.rambo_cli.proofs.Limited.{no_fault, written_within}
use Rattle.rambo_cli.proofs.laws.cared_nets_are_written.Goals as goal

pub returns : goal.returns
returns c = λ m cares settings graph made records figures model ranked limits most formed few done figures_are.
    let net = net_of graph in
    let is = c.tidy_nets_have_models.ensures net m formed done.is_tidy model done.fits few in
    let text = c.written_texts_read.ensures (model_of_net m net) is.well_formed is.ranked in
    let same = c.tidy_nets_have_model_faults.ensures.faults net m formed done.is_tidy model done.fits few in
    let small = c.tidy_nets_have_small_models.ensures net m formed done.is_tidy model done.fits few in
    let fewer = done.fewer in
    let within = written_within m model limits net small (omega (arith, fewer, most)) in
    let o = done.optimised in
    let l = o.is_last in
    let written_wires = is.wires in
    let own = l.sources in
    let theirs = done.fits.sources in
    let bound : ℕ = main_bound m in
    record {
      into = record {
        net = net;
        last = o.last;
        steps = o.steps;
        records = records;
        spelled = refl;
        of_the_grammar = text.1;
        acyclic = is.ranked;
        faultless = no_fault (first_fault (text_of (model_of_net m net))) (c.read_texts_are_faultless.ensures (text_of (model_of_net m net)) (model_of_net m net) text.0 text.1) (c.texts_keep_limits.ensures.kept (text_of (model_of_net m net)) (model_of_net m net) text.1 within);
        same_where_cared = done.equivalent;
        no_more_wires = omega (arith, written_wires, fewer);
        reached = l.reached;
        is_tidy = l.is_tidy;
        extracted = l.extracted;
        unrefuted = l.unrefuted;
        recorded_as = refl;
        closed = o.closed;
        tested = care_tested c.extracts_keep_faults.ensures bound settings.budget o.last net l.extracted (model_of_net m net) cares records c.tidy_nets_have_model_faults.ensures.vectors same o.closed done.tests;
        decided = λ enough. never_spent o.last settings.budget (main_faults bound o.last) records o.closed (subst (λ (n : ℕ). 2 ^ (n + 1) ≤ settings.budget) (sym own) enough);
        figures_are = record {
          wires_before = figures_are.wires_before;
          gates_before = figures_are.gates_before;
          wires = figures_are.wires;
          gates = figures_are.gates;
          made = figures_are.made_are ∙ l.counted;
          tested = figures_are.tested;
          spent = figures_are.spent;
        };
      };
      writable = all_writable c.extracts_keep_faults.ensures bound settings.budget o.last net l.extracted c.tidy_nets_have_sources.ensures records formed done.is_tidy (own ∙ sym theirs) o.closed;
    }
