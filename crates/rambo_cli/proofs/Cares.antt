-- From what optimising under a care model leaves to what `optcare` says of its output and its tests.
use Rattle.std.proofs.Common.{◌≡◌, ◌≢◌, ◌≤◌, ◌+◌, ◌^◌, ◌∙◌, ◌∷◌, ℕ, zero, suc, Bool, List, [], length, map, refl, sym, ap, subst, arith}
use Rattle.std.specs.Prelude.{Some, false, slice_get, true}
use Rattle.std.specs.List.{AllZip}
use Rattle.rm_base.specs.declared.numbers.Fault.{Fault}
use Rattle.rm_model.specs.declared.parts.Cover.{Cover}
use Rattle.rm_model.specs.declared.parts.Model.{Model}
use Rattle.gate_net.specs.Faults.{assigned, fault_at, faults_of, gates_of}
use Rattle.gate_net.specs.Net.{IsWellFormed, Net, source_count}
use Rattle.podem.specs.Verdicts.{IsSpent}
use Rattle.refutation.specs.Branches.{Branch, clash, here, items_of, line, quiet, split, untried}
use Rattle.cover_decompose.specs.Count.{decomposed}
use Rattle.journal_text.specs.Runs.{AreWritable}
use Rattle.journal_text.specs.Text.{IsWritableRecord}
use Rattle.journal_text.specs.declared.record.Record.{Record}
use Rattle.journal_text.specs.declared.record.Record.TheVariants as kept
use Rattle.joined_nets.specs.Ready.{IsReady}
use Rattle.model_faults.specs.Laws.{HasModelFaults, VectorsGive}
use Rattle.model_faults.specs.ModelFaults.{gate_covers_of}
use Rattle.closing_pass.specs.Recording.{TidyNetsHaveSources}
use Rattle.wire_edit.specs.Order.{IsTidy}
use Rattle.care_opt.specs.Done.{AreRecordsOf, AreTestsOf, IsRecordOf, IsTestOf}
use Rattle.care_opt.specs.Extract.{extract, main_faults, main_nodes, new_number}
use Rattle.care_opt.specs.Laws.{ExtractsKeepFaults, renumbered}
use Rattle.care_opt.specs.Refusals.{IsCareRefused}
use Rattle.care_opt.specs.declared.refusal.CareRefusal.{CareRefusal}
use Rattle.care_opt.specs.declared.refusal.CareRefusal.TheVariants as care
use Rattle.rambo_cli.specs.Headline.{NoneIsSpent}
use Rattle.rambo_cli.specs.Inner.Optcare.{IsMisfit, care_problem}
use Rattle.rambo_cli.specs.Inner.Written.{IsUsable}
use Rattle.rambo_cli.specs.Optcare.{AreCareTested, CareAnswers}

-- a model that was read can be decomposed
pub ready : (m : Model) → IsUsable m → IsReady m
ready m usable = record { formed = usable.formed; ranked = usable.ranks; covers = usable.covers; sources = usable.sources; observed = usable.observed; fits = usable.fits }

-- why the second model is no care model for the first
pub misfit_for : (m c : Model) (refusal : CareRefusal) → decomposed m ≤ 65536 → decomposed c ≤ 65536 → IsCareRefused m c refusal → IsMisfit m c (care_problem refusal)
misfit_for m c care.Shape few more h = h
misfit_for m c (care.UnlikeSources at) few more h = h
misfit_for m c (care.Limit false pins) few more h = let many = h.1.0 in absurd (omega (arith, few, many))
misfit_for m c (care.Limit true pins) few more h = let many = h.1.1.0 in absurd (omega (arith, more, many))
misfit_for m c care.NoMemory few more h = tt

-- what stands at a place of two lists that go together
zipped : {A B : Type 0} (R : A → B → Type 0) (xs : List A) (ys : List B) → AllZip R xs ys → (k : ℕ) (x : A) → slice_get xs k ≡ Some x → (y : B) × ((slice_get ys k ≡ Some y) × R x y)
zipped R [] ys h zero x e = absurd cc
zipped R [] ys h (suc k) x e = absurd cc
zipped R (a ∷ xs) [] h k x e = absurd h
zipped {A} R (a ∷ xs) (b ∷ ys) h zero x e = let same : a ≡ x = cc in (b, (refl, subst (λ (i : A). R i b) same h.0))
zipped R (a ∷ xs) (b ∷ ys) h (suc k) x e = zipped R xs ys h.1 k x e

zipped_back : {A B : Type 0} (R : A → B → Type 0) (xs : List A) (ys : List B) → AllZip R xs ys → (k : ℕ) (y : B) → slice_get ys k ≡ Some y → (x : A) × R x y
zipped_back R [] [] h zero y e = absurd cc
zipped_back R [] [] h (suc k) y e = absurd cc
zipped_back R [] (b ∷ ys) h k y e = absurd h
zipped_back R (a ∷ xs) [] h k y e = absurd h
zipped_back {B = B} R (a ∷ xs) (b ∷ ys) h zero y e = let same : b ≡ y = cc in (a, subst (λ (i : B). R a i) same h.0)
zipped_back R (a ∷ xs) (b ∷ ys) h (suc k) y e = zipped_back R xs ys h.1 k y e

-- what an item of a mapped list comes from
made_from : {A B : Type 0} (f : A → B) (xs : List A) (k : ℕ) (y : B) → slice_get (map f xs) k ≡ Some y → (x : A) × ((slice_get xs k ≡ Some x) × (f x ≡ y))
made_from f [] zero y e = absurd cc
made_from f [] (suc k) y e = absurd cc
made_from f (a ∷ xs) zero y e = (a, (refl, cc))
made_from f (a ∷ xs) (suc k) y e = made_from f xs k y e

-- a budget that suffices for every search leaves none spent
spent_never : (net : Net) (budget : ℕ) (fault : Fault) (own : Fault) (items : _) → 2 ^ (source_count net + 1) ≤ budget → IsRecordOf net budget fault (kept.Spent own items) → ⊥
spent_never net budget fault own items enough h = h.1.1 enough

pub never_spent : (net : Net) (budget : ℕ) (faults : List Fault) (records : List Record) → AreRecordsOf net budget faults records → 2 ^ (source_count net + 1) ≤ budget → NoneIsSpent records
never_spent net budget faults records h enough place fault tree at =
    let one = zipped_back (IsRecordOf net budget) faults records h place (kept.Spent fault tree) at in
    spent_never net budget one.0 fault tree enough one.1

-- a tree has an item
has_item : (t : Branch) → items_of t ≢ []
has_item (line l t) e = absurd cc
has_item (split x first t u) e = absurd cc
has_item (clash x) e = absurd cc
has_item quiet e = absurd cc
has_item here e = absurd cc
has_item untried e = absurd cc

no_bits : (vector : List Bool) (count : ℕ) → length vector ≡ count → count ≢ 0 → vector ≢ []
no_bits vector count size some none = some (sym size ∙ ap (λ (l : List Bool). length l) none)

-- each record has a line
writable_one : (net : Net) (budget : ℕ) (fault : Fault) (r : Record) → source_count net ≢ 0 → IsRecordOf net budget fault r → IsWritableRecord r
writable_one net budget fault (kept.Hit own vector) some h = no_bits vector (source_count net) h.1.size some
writable_one net budget fault (kept.Spent own tree) some h = λ none. has_item h.1.0.tree (sym h.1.0.same ∙ none)
writable_one net budget fault (kept.Step step tree) some h = absurd h

writable_each : (net : Net) (budget : ℕ) (faults : List Fault) (records : List Record) → source_count net ≢ 0 → AreRecordsOf net budget faults records → AreWritable records
writable_each net budget [] [] some h = tt
writable_each net budget [] (r ∷ rs) some h = absurd h
writable_each net budget (f ∷ fs) [] some h = absurd h
writable_each net budget (f ∷ fs) (r ∷ rs) some h = (writable_one net budget f r some h.0, writable_each net budget fs rs some h.1)

writable_all : (net : Net) (budget : ℕ) (faults : List Fault) (records : List Record) → ((f : Fault) (fs : List Fault) → faults ≡ f ∷ fs → source_count net ≢ 0) → AreRecordsOf net budget faults records → AreWritable records
writable_all net budget [] [] some h = tt
writable_all net budget [] (r ∷ rs) some h = absurd h
writable_all net budget (f ∷ fs) records some h = writable_each net budget (f ∷ fs) records (some f fs refl) h

module _ (keep : ExtractsKeepFaults) (bound budget : ℕ) (last net : Net) (is : net ≡ extract bound last) where
  faults_are : faults_of net ≡ map (renumbered bound last) (main_faults bound last)
  faults_are = ap (λ (n : Net). faults_of n) is ∙ keep bound last

  -- a net with a main fault has a source
  pub all_writable : (have : TidyNetsHaveSources) (records : List Record) → IsWellFormed net → IsTidy net → source_count last ≡ source_count net → AreRecordsOf last budget (main_faults bound last) records → AreWritable records
  all_writable have records formed is_tidy sources h =
      writable_all last budget (main_faults bound last) records
      (λ f fs e none.
      let first : slice_get (faults_of net) 0 ≡ Some (renumbered bound last f) = ap (λ (l : List Fault). slice_get l 0) (faults_are ∙ ap (λ (l : List Fault). map (renumbered bound last) l) e) in
      have net 0 (renumbered bound last f) formed is_tidy first (sym sources ∙ none))
      h

  module _ (m c : Model) (records : List Record) (give : VectorsGive) (same : HasModelFaults net m) (closed : AreRecordsOf last budget (main_faults bound last) records) (tests : AreTestsOf net c records) where
    -- a record of a main fault, whose vector detects the fault of the extract, is one of the model's fault
    answered : (k position gate : ℕ) (value : Bool) (cover : Cover) (own : Fault) (r : Record) → slice_get (gates_of net) k ≡ Some gate → slice_get (gate_covers_of m) k ≡ Some cover → IsRecordOf last budget own r → IsTestOf net c (fault_at gate position value) r
        → (fault : Fault) → own ≡ fault → fault.position ≡ position → fault.value ≡ value → CareAnswers m c last budget fault cover r
    answered k position gate value cover own (kept.Hit given vector) is_gate is_cover of test fault e p v =
        let pair = same.each k gate cover is_gate is_cover in
        (of.0 ∙ e, (test.1, rw (p, v) (pair.to_model position value (assigned vector) vector test.0.size (give vector) test.0.detects)))
    answered k position gate value cover own (kept.Spent given tree) is_gate is_cover of test fault e p v = (of.0 ∙ e, subst (λ (f : Fault). IsSpent last f budget tree) e of.1.0)
    answered k position gate value cover own (kept.Step step tree) is_gate is_cover of test fault e p v = absurd of

    one_record : (r s : Record) (j : ℕ) → slice_get records j ≡ Some r → slice_get records j ≡ Some s → r ≡ s
    one_record r s j e f = cc

    pub care_tested : AreCareTested m c bound last budget records
    care_tested k position value cover is_cover within =
        let at = same.listed k position value cover is_cover within in
        let gate : ℕ = at.0 in
        let listed = at.1.1 in
        let own = made_from (renumbered bound last) (main_faults bound last) listed.0 (fault_at gate position value) (ap (λ (l : List Fault). slice_get l listed.0) (sym faults_are) ∙ listed.1) in
        let x : Fault = own.0 in
        let number : new_number (main_nodes bound last) x.gate.0 ≡ gate = ap (λ (f : Fault). f.gate.0) own.1.1 in
        let p : x.position ≡ position = ap (λ (f : Fault). f.position) own.1.1 in
        let v : x.value ≡ value = ap (λ (f : Fault). f.value) own.1.1 in
        let whole : x ≡ fault_at x.gate.0 position value = ap (λ (i : ℕ). fault_at x.gate.0 i x.value) p ∙ ap (λ (b : Bool). fault_at x.gate.0 position b) v in
        let said = zipped (IsRecordOf last budget) (main_faults bound last) records closed listed.0 x own.1.0 in
        let test = zipped (IsTestOf net c) (faults_of net) records tests listed.0 (fault_at gate position value) listed.1 in
        let agree : test.0 ≡ said.0 = one_record test.0 said.0 listed.0 test.1.0 said.1.0 in
        record {
          gate = x.gate.0;
          gate_is = ap (λ (n : Net). slice_get (gates_of n) k) (sym is) ∙ (at.1.0 ∙ ap (λ (i : ℕ). Some i) (sym number));
          place = listed.0;
          fault_is = own.1.0 ∙ ap (λ (f : Fault). Some f) whole;
          said = said.0;
          stands = said.1.0;
          answers = answered k position gate value cover x said.0 at.1.0 is_cover said.1.1 (subst (λ (r : Record). IsTestOf net c (fault_at gate position value) r) agree test.1.1) (fault_at x.gate.0 position value) whole refl refl;
        }
