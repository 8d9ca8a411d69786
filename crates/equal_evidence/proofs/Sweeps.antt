-- Models whose miter is swept to One compute the same.
use Rattle.std.proofs.Common.{Bool, List, [], ap, map, refl, suc, sym, true, ℕ, ◌∙◌, ◌∷◌, ◌≡◌}
use Rattle.cover_decompose.specs.Spelled.{plain_net}
use Rattle.gate_net.specs.Laws.{ValuesExist}
use Rattle.gate_net.specs.Net.{IsWellFormed, drivers_in, node_at}
use Rattle.gate_net.specs.Values.{IsUndetected, node_value}
use Rattle.journal_text.specs.Accepted.{Keeps}
use Rattle.journal_text.specs.Runs.{AcceptedRunsKeep}
use Rattle.journal_text.specs.declared.record.Record.{Record}
use Rattle.rm_model.specs.declared.parts.Model.{Model}
use Rattle.equal_miter.specs.Equal.{models_fault, models_miter}
use Rattle.equal_miter.specs.Miter.{some_difference}
use Rattle.equal_miter.specs.ModelLaws.{UndetectedMeansSame}
use Rattle.equal_evidence.specs.Laws.{SweptMeansSame}
use Rattle.equal_evidence.specs.Shown.{IsSwept}
use Rattle.equal_evidence.proofs.Last.{observed_last, stuck}

heads : (b c : Bool) → ◌≡◌ {A = List Bool} (b ∷ []) (c ∷ []) → b ≡ c
heads b c e = cc

module _ (exist : ValuesExist) (runs_keep : AcceptedRunsKeep) (m n : Model) (records : List Record) (formed : IsWellFormed (models_miter m n)) (swept : IsSwept (models_miter m n) records) where
  last : ℕ
  last = suc (some_difference (plain_net m) (plain_net n))

  keeps : Keeps (models_miter m n) swept.after
  keeps = runs_keep (models_miter m n) swept.after records formed swept.accepted

  -- the observed node is 1 under every assignment
  always_one : (a v : ℕ → Bool) → ((x : ℕ) → v x ≡ node_value (node_at (models_miter m n) x) (a x) (map v (drivers_in (node_at (models_miter m n) x)))) → v last ≡ true
  unfolding last
  always_one a v good =
      let w = exist swept.after keeps.form.acyclic a in
      let same : v (suc (some_difference (plain_net m) (plain_net n))) ∷ [] ≡ map w.0 swept.after.observed = keeps.values a v w.0 good w.1.0 in
      let one : w.0 1 ≡ true = w.1.0 1 ∙ ap (λ (o : _). node_value o (a 1) (map w.0 (drivers_in o))) keeps.form.constants.one_is in
      heads (v (suc (some_difference (plain_net m) (plain_net n)))) true (same ∙ (ap (λ (l : List ℕ). map w.0 l) swept.one ∙ ap (λ (b : Bool). let l : List Bool = b ∷ [] in l) one))

  pub undetected : IsUndetected (models_miter m n) (models_fault m n)
  unfolding last
  undetected a (v, (f, (run, (x, (seen, ne))))) =
      let at : x ≡ suc (some_difference (plain_net m) (plain_net n)) = observed_last (plain_net m) (plain_net n) x seen in
      let bad : f (suc (some_difference (plain_net m) (plain_net n))) ≡ true = stuck (plain_net m) (plain_net n) a f run.faulty in
      ne (ap v at ∙ (always_one a v run.good ∙ (sym bad ∙ ap f (sym at))))

pub swept_means_same : ValuesExist → AcceptedRunsKeep → UndetectedMeansSame → SweptMeansSame
swept_means_same exist runs_keep same m n records h formed swept = same m n h formed.acyclic (undetected exist runs_keep m n records formed swept)
