use Rattle.std.proofs.Common.{◌∙◌, sym, ap, subst, ℕ, length}
use Rattle.std.proofs.Common.{refl, ◌≤◌, not, Option}
use Rattle.std.specs.Prelude.{is_some}
use Rattle.blif_reader.specs.Inner.Tally.{more_if}
use Rattle.blif_reader.specs.declared.names.NameUse.{NameUse}
use Rattle.blif_reader.specs.Inner.Tally.{IsTally}
use Rattle.blif_reader.specs.Inner.Views.{tally}
use Rattle.blif_reader.proofs.TallyLaws.{refuses_use, accepts_use, keeps_limits, KeepsLimits, length_after}
use Rattle.blif_reader.proofs.names.Names.take.Goals as goal

pub returns-in-Err-clause-err : goal.returns-in-Err-clause-err
returns-in-Err-clause-err c had is =
    refuses_use had (tally c.self.inside) c.args.earlier (record { role = c.args.role; name = c.args.name.now; place = c.args.place }) c.get-entry.result c.flags_of-flags.result c.counts_with-counts.result c.in-Err.refusal (subst (IsTally had) (sym c.self.view_is) is) (c.get-entry.ensures c.args.name.now c.find-found.ensures) c.flags_of-flags.ensures c.counts_with-counts.ensures.sources c.counts_with-counts.ensures.observed (c.counts_with-counts.ensures.signals ∙ ap (λ (n : ℕ). more_if (not (is_some c.get-entry.result)) n) c.len.ensures) c.in-Err.ensures

pub invariant_of-self : goal.invariant_of-self
invariant_of-self c =
    let k : KeepsLimits c.counts_with-counts.result = keeps_limits c.flags_of-flags.result c.counts_with-counts.result c.args.role c.args.name.now c.args.earlier c.args.place c.in-Ok.ensures in
    record {
      sources = k.sources;
      observed = k.observed;
      signals = subst (λ (n : ℕ). n ≤ 131072) (sym (
          ap length c.in-Ok-put.ensures.ok
          ∙ length_after c.self.inside.entries c.args.name.now _
          ∙ ap (λ (o : Option NameUse). more_if (not (is_some o)) (length c.self.inside.entries)) (sym (c.get-entry.ensures c.args.name.now c.find-found.ensures))
          ∙ ap (λ (n : ℕ). more_if (not (is_some c.get-entry.result)) n) (sym c.len.ensures)
          ∙ sym c.counts_with-counts.ensures.signals)) k.signals;
    }

pub returns-in-Ok-put-clause-ok : goal.returns-in-Ok-put-clause-ok
returns-in-Ok-put-clause-ok c had is =
    let t = accepts_use had (tally c.self.inside) (record { entries = c.put.new.self; sources = c.counts_with-counts.result.sources; observed = c.counts_with-counts.result.observed }) c.args.earlier (record { role = c.args.role; name = c.args.name.now; place = c.args.place }) c.get-entry.result c.flags_of-flags.result c.with_role.result c.place_of.result c.counts_with-counts.result (subst (IsTally had) (sym c.self.view_is) is) (c.get-entry.ensures c.args.name.now c.find-found.ensures) c.flags_of-flags.ensures c.counts_with-counts.ensures.sources c.counts_with-counts.ensures.observed (c.counts_with-counts.ensures.signals ∙ ap (λ (n : ℕ). more_if (not (is_some c.get-entry.result)) n) c.len.ensures) c.in-Ok.ensures c.with_role.ensures c.place_of.ensures c.in-Ok-put.ensures.ok refl refl in
    record { faultless = t.0; tallied = t.1 }
