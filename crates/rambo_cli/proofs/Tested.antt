-- Each fault of the written model has its record.
use Rattle.std.proofs.Common.{◌≡◌, ℕ, zero, suc, Bool, Some, List, [], ◌∷◌, refl, sym, ◌∙◌, ap, subst}
use Rattle.std.specs.Prelude.{slice_get}
use Rattle.rm_base.specs.declared.numbers.Fault.{Fault}
use Rattle.rm_model.specs.declared.parts.Cover.{Cover}
use Rattle.rm_model.specs.declared.parts.Model.{Model}
use Rattle.gate_net.specs.Net.{Net}
use Rattle.gate_net.specs.Values.{Detects}
use Rattle.podem.specs.Verdicts.{IsSpent}
use Rattle.gate_net.specs.Faults.{assigned, fault_at, faults_of, gates_of}
use Rattle.model_faults.specs.Laws.{HasModelFaults, AreListedOnce, VectorsGive}
use Rattle.model_faults.specs.ModelFaults.{gate_covers_of}
use Rattle.journal_text.specs.declared.record.Record.{Record}
use Rattle.journal_text.specs.declared.record.Record.TheVariants.{Step, Hit, Spent}
use Rattle.journal_check.specs.Verdicts.{SettleAll, Settles}
use Rattle.optimisation.specs.Tests.{AreSearched}
use Rattle.rambo_cli.specs.Headline.{Answers, AreTested}

-- the record at a fault's place settles it
settled_at : (net : Net) (budget : ℕ) (faults : List Fault) (records : List Record) → SettleAll net budget faults records → (j : ℕ) (fault : Fault) → slice_get faults j ≡ Some fault
    → (r : Record) × ((slice_get records j ≡ Some r) × Settles net budget fault r)
settled_at net budget [] records all zero fault e = absurd cc
settled_at net budget [] records all (suc j) fault e = absurd cc
settled_at net budget (f ∷ fs) [] all j fault e = absurd all
settled_at net budget (f ∷ fs) (r ∷ rs) all zero fault e = let same : f ≡ fault = cc in (r, (refl, subst (λ (g : Fault). Settles net budget g r) same all.0))
settled_at net budget (f ∷ fs) (r ∷ rs) all (suc j) fault e = settled_at net budget fs rs all.1 j fault e

-- a record at some place is that of the fault at this place
fault_there : (net : Net) (budget : ℕ) (faults : List Fault) (records : List Record) → SettleAll net budget faults records → (j : ℕ) (r : Record) → slice_get records j ≡ Some r
    → (f : Fault) × ((slice_get faults j ≡ Some f) × Settles net budget f r)
fault_there net budget [] [] all zero r e = absurd cc
fault_there net budget [] [] all (suc j) r e = absurd cc
fault_there net budget [] (q ∷ qs) all j r e = absurd all
fault_there net budget (f ∷ fs) [] all j r e = absurd all
fault_there net budget (f ∷ fs) (q ∷ qs) all zero r e = let same : q ≡ r = cc in (f, (refl, subst (λ (s : Record). Settles net budget f s) same all.0))
fault_there net budget (f ∷ fs) (q ∷ qs) all (suc j) r e = fault_there net budget fs qs all.1 j r e

-- the fault of which a record settles
same_fault : (net : Net) (budget : ℕ) (f fault : Fault) (written : Model) (verdicts : List Record) (cover : Cover) (r : Record) → Settles net budget f r → Answers written net budget verdicts fault cover r → f ≡ fault
same_fault net budget f fault written verdicts cover (Step s tree) settles answers = absurd answers
same_fault net budget f fault written verdicts cover (Hit given vector) settles answers = sym settles.0 ∙ answers.0
same_fault net budget f fault written verdicts cover (Spent given tree) settles answers = sym settles.0 ∙ answers.0

module _ (net : Net) (written : Model) (budget : ℕ) (verdicts : List Record) (same : HasModelFaults net written) (once : AreListedOnce net) (give : VectorsGive)
    (all : SettleAll net budget (faults_of net) verdicts) (searched : AreSearched net budget verdicts) where
  answered : (k position gate : ℕ) (value : Bool) (cover : Cover) → slice_get (gates_of net) k ≡ Some gate → slice_get (gate_covers_of written) k ≡ Some cover
      → (j : ℕ) (r : Record) → slice_get verdicts j ≡ Some r → Settles net budget (fault_at gate position value) r → Answers written net budget verdicts (fault_at gate position value) cover r
  answered k position gate value cover is_gate is_cover j (Step s tree) e settles = absurd settles
  answered k position gate value cover is_gate is_cover j (Hit given vector) e settles =
      let pair = same.each k gate cover is_gate is_cover in
      (settles.0, pair.to_model position value (assigned vector) vector settles.1.size (give vector) settles.1.detects)
  answered k position gate value cover is_gate is_cover j (Spent given tree) e settles =
      (settles.0, (subst (λ (f : Fault). IsSpent net f budget tree) settles.0 (searched.open_searches j given tree e), λ place other vector at detects. searched.undetected j place given other tree vector e at (subst (λ (f : Fault). Detects net f (assigned vector)) (sym settles.0) detects)))

  pub tested : AreTested written net budget verdicts
  tested k position value cover is_cover within =
      let at = same.listed k position value cover is_cover within in
      let gate : ℕ = at.0 in
      let listed = at.1.1 in
      let said = settled_at net budget (faults_of net) verdicts all listed.0 (fault_at gate position value) listed.1 in
      record {
        gate = gate;
        gate_is = at.1.0;
        place = listed.0;
        said = said.0;
        stands = said.1.0;
        answers = answered k position gate value cover at.1.0 is_cover listed.0 said.0 said.1.0 said.1.1;
        once = λ other again e answers.
            let there = fault_there net budget (faults_of net) verdicts all other again e in
            let is : there.0 ≡ fault_at gate position value = same_fault net budget there.0 (fault_at gate position value) written verdicts cover again there.1.1 answers in
            once.once other listed.0 (fault_at gate position value) (there.1.0 ∙ ap (λ (f : Fault). Some f) is) listed.1;
      }
