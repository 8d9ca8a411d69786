use Rattle.std.proofs.Common.{◌≡◌, ℕ, Bool, IsTrue, sym, ◌∙◌, ap, subst}
use Rattle.std.specs.Prelude.{bit_and}
use Rattle.gate_graph.specs.Circuit.{net_of}
use Rattle.fault_sim.specs.Words.{lane}
use Rattle.rar_loop.specs.Inner.Kept.{lanes_with, wanted}
use Rattle.rar_loop.proofs.Filtering.{wire_open}
use Rattle.rar_loop.proofs.vectors.Vectors.detect_wire.Goals as goal

pub returns-clause-stays : goal.returns-clause-stays
returns-clause-stays c = λ some may depth.
    let found = c.any.ensures some in
    let same : c.lanes_having.result ≡ lanes_with (wanted c.args.candidate.now.fresh c.in-Some.control) c.value-word.result = c.lanes_having.ensures ∙ ap (λ (b : Bool). lanes_with b c.value-word.result) c.value_for.ensures in
    wire_open c.detected_faults_stay_open.ensures.sets c.outside_is_equal.ensures c.steps_keep.ensures.form (net_of c.args.graph.now) c.args.candidate.now may c.well_formed-2.ensures.net c.turned_at-turned.new.self c.turned_at-turned.ensures.vectors c.in-Some.control (sym c.in-Some.ensures)
    c.turned_at-turned.result c.turned_at-turned.ensures.turned c.value-word.result c.value-word.ensures found.0 found.1.0 (subst (λ (w : ℕ). IsTrue (lane found.0 (bit_and c.turned_at-turned.result w))) same found.1.1) depth
