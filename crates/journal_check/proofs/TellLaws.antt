-- What an accepted journal says of its last net.
use Rattle.std.proofs.Common.{◌≡◌, ℕ, zero, suc, ◌<◌, List, [], ◌∷◌, ◌++◌, Contains, length, refl, sym, subst, arith}
use Rattle.std.specs.Prelude.{slice_index_or}
use Rattle.rm_base.specs.declared.numbers.Fault.{Fault}
use Rattle.rm_model.specs.declared.parts.Model.{Model}
use Rattle.gate_net.specs.Net.{Net, IsWellFormed}
use Rattle.cover_decompose.specs.Decomposition.{net_of_model}
use Rattle.journal_text.specs.declared.record.Record.{Record}
use Rattle.journal_text.specs.Runs.{AcceptedRunsKeep}
use Rattle.journal_check.specs.Accepts.{IsAccepted}
use Rattle.journal_check.specs.Laws.{AcceptedTell}
use Rattle.journal_check.specs.Verdicts.{SettleAll, Settles}

settled_at : (net : Net) (budget : ℕ) (fs : List Fault) (rs : List Record) (f : Fault) (k : ℕ) → SettleAll net budget fs rs → k < length fs → slice_index_or fs k f ≡ f → (r : Record) × (Contains rs r × Settles net budget f r)
settled_at net budget [] rs f k h l e = absurd (omega arith)
settled_at net budget (g ∷ fs) [] f k h l e = absurd h
settled_at net budget (g ∷ fs) (r ∷ rs) f zero h l e = (r, ((0, omega arith, refl), subst (λ (x : Fault). Settles net budget x r) e h.0))
settled_at net budget (g ∷ fs) (r ∷ rs) f (suc k) h l e =
    let rest = settled_at net budget fs rs f k h.1 (omega (arith, l)) e in
    let at = rest.1.0 in
    (rest.0, ((suc at.0, omega (arith, at.1), at.2), rest.1.1))

behind : (steps verdicts : List Record) (r : Record) → Contains verdicts r → Contains (steps ++ verdicts) r
behind [] verdicts r c = c
behind (s ∷ steps) verdicts r c = let rest = behind steps verdicts r c in (suc rest.0, omega (arith, rest.1), rest.2)

pub accepted_tell : AcceptedRunsKeep → (m : Model) (budget : ℕ) (records : List Record) (last : Net) → IsWellFormed (net_of_model m) → IsAccepted m budget records last → AcceptedTell m budget records last
accepted_tell keep m budget records last well a =
    let k = keep (net_of_model m) last a.steps well a.leads in
    record {
      form = k.form;
      keeps = k;
      tidy = a.tidy;
      settled = λ f c.
          let at = settled_at last budget _ a.verdicts f c.0 a.settled c.1 c.2 in
          (at.0, (subst (λ (rs : List Record). Contains rs at.0) (sym a.parts) (behind a.steps a.verdicts at.0 at.1.0), at.1.1));
    }
