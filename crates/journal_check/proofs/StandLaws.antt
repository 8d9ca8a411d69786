-- What accepted steps keep, one after another.
use Rattle.std.proofs.Common.{◌≡◌, ℕ, ◌+◌, ◌<◌, Bool, false, List, length, refl, ap, sym, subst, ◌∙◌}
use Rattle.std.proofs.lemmas.List.{length-map}
use Rattle.std.proofs.lemmas.Option.{slice_get_within}
use Rattle.rm_model.specs.Value.{source_names}
use Rattle.rm_model.specs.declared.parts.Model.{Model}
use Rattle.gate_net.specs.Net.{Net, IsWellFormed, node_at, plain_node, source_count}
use Rattle.gate_net.specs.declared.Kind.TheVariants.{Source}
use Rattle.gate_net.specs.Laws.{ValuesExist}
use Rattle.wire_edit.specs.Tests.{is_gate}
use Rattle.cover_decompose.specs.StandsFor.{HasPoints, StandsFor}
use Rattle.journal_text.specs.declared.record.Record.{Record}
use Rattle.journal_text.specs.Accepted.{Keeps}
use Rattle.journal_text.specs.Runs.{AcceptedRunsKeep}
use Rattle.journal_check.specs.Accepts.{IsAcceptedFrom}

source_no_gate : (net : Net) (x : ℕ) → node_at net x ≡ plain_node Source → is_gate net x ≡ false
source_no_gate net x e = rw e refl

still_stands : ValuesExist → (net after : Net) (m : Model) → IsWellFormed net → StandsFor net m → Keeps net after → StandsFor after m
still_stands exist net after m form s k =
    let none : ℕ → Bool = λ x. false in
    let before = exist net form.acyclic none in
    let behind = exist after k.form.acyclic none in
    let same = k.values none before.0 behind.0 before.1.0 behind.1.0 in
    record {
      sources = k.sources ∙ s.sources;
      observed = sym (length-map after.observed behind.0) ∙ ap length (sym same) ∙ length-map net.observed before.0 ∙ s.observed;
      values = λ a w v good consistent assigned.
          let u = exist net form.acyclic a in
          sym (k.values a u.0 w u.1.0 good) ∙ s.values a u.0 v u.1.0 consistent assigned;
    }

still_points : (net after : Net) (m : Model) → IsWellFormed net → StandsFor net m → HasPoints net m → Keeps net after → HasPoints after m
still_points net after m form s p k = record {
  same = λ i j x e f. k.observed.together i j (p.same i j x e f);
  own = λ i n x e f.
      let small : n < source_count net = subst (λ (c : ℕ). n < c) (sym s.sources) (slice_get_within (source_names m) n x f) in
      k.observed.stays i (2 + n) (p.own i n x e f) (source_no_gate net (2 + n) (form.sources.first n small));
}

pub last_stands : ValuesExist → AcceptedRunsKeep → (m : Model) (net : Net) (budget : ℕ) (records : List Record) (last : Net) → IsWellFormed net → StandsFor net m → HasPoints net m → IsAcceptedFrom net budget records last → StandsFor last m × HasPoints last m
last_stands exist keep m net budget records last form stands points a =
    let k = keep net last a.steps form a.leads in
    (still_stands exist net last m form stands k, still_points net last m form stands points k)
