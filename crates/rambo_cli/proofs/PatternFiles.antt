-- From patterns of the last net's model to what `tests` says of the files.
use Rattle.std.proofs.Common.{◌≡◌, ◌≤◌, ℕ, Bool, List, take, length, refl, sym, ◌∙◌, ap, ap₂, subst, inl, inr, arith, Err}
use Rattle.std.specs.Prelude.{Option, None, Some, IfSome}
use Rattle.std.specs.Option.{option_map}
use Rattle.rm_base.specs.Causes.{HasCause}
use Rattle.rm_base.specs.Files.{Files, put_file}
use Rattle.rm_base.specs.Words.{Word}
use Rattle.rm_base.specs.declared.outside.OutsideFault.{OutsideFault}
use Rattle.rm_base.specs.declared.outside.OutsideFault.TheVariants.{Failed, NoMemory}
use Rattle.rm_model.specs.declared.parts.Model.{Model}
use Rattle.rm_model.specs.Value.{Equivalent}
use Rattle.gate_net.specs.Net.{Net}
use Rattle.gate_net.specs.Faults.{faults_of}
use Rattle.gate_graph.specs.Circuit.{net_of}
use Rattle.cover_decompose.specs.Count.{decomposed}
use Rattle.graph_to_model.specs.NetModel.{model_of_net}
use Rattle.graph_to_model.specs.Fits.{Fits}
use Rattle.graph_to_model.specs.Laws.{AreFew}
use Rattle.model_faults.specs.Laws.{TidyNetsListAlike, VectorsGive}
use Rattle.journal_check.specs.Laws.{AcceptedJournalsTell}
use Rattle.journal_audit.specs.Audited.{IsLast, PassedWith}
use Rattle.journal_audit.specs.Verdicts.{AreVerdictsAt, VerdictList}
use Rattle.journal_audit.specs.declared.auditing.Audited.{Audited}
use Rattle.test_patterns.specs.Classes.{AreLast}
use Rattle.test_patterns.specs.TestSets.{AreKnown, AreTests}
use Rattle.pattern_text.specs.Text.{chosen, counts_of, tests_text}
use Rattle.rambo_cli.specs.Contract.{Caused}
use Rattle.rambo_cli.specs.Files.{Holds, IfTold}
use Rattle.rambo_cli.specs.Problems.{KeepsFiles}
use Rattle.rambo_cli.specs.Tests.{AreTestsOf, BeginsTests, HasTests, HasWrittenTests}
use Rattle.rambo_cli.specs.Written.{IsSaid}
use Rattle.rambo_cli.specs.declared.problem.Problem.{Problem}
use Rattle.rambo_cli.specs.declared.testing.Written.{Written}
use Rattle.rambo_cli.specs.Inner.Composition.{PassedAuditsTell}
use Rattle.rambo_cli.specs.Inner.Files.{BeginsFile}
use Rattle.rambo_cli.specs.Inner.Problems.{outside_problem}
use Rattle.rambo_cli.specs.Inner.Tests.{AcceptedVerdictsTell, IsWritten}
use Rattle.rambo_cli.specs.Inner.Written.{IsUsable}
use Rattle.rambo_cli.proofs.Patterns.{model_tests, verdicts_tell}
use Rattle.rambo_cli.proofs.Rising.{risen_after}

-- what is known of the faults by the journal's vectors
pub known_tests : (accepted : AcceptedVerdictsTell) (m : Model) (last : Net) (v : VerdictList) (vectors : List (List Bool)) (numbers : List (Option ℕ)) → vectors ≡ v.vectors → numbers ≡ v.numbers → AreVerdictsAt v.vectors v.numbers → IsLast m last v
    → AreKnown last (faults_of last) vectors numbers
known_tests accepted m last v vectors numbers e f kept l = rw (e, f) ((accepted m last v kept l).known)

pub each_known : (accepted : AcceptedVerdictsTell) (m : Model) (last : Net) (v : VerdictList) (numbers : List (Option ℕ)) → numbers ≡ v.numbers → AreVerdictsAt v.vectors v.numbers → IsLast m last v → length numbers ≡ length (faults_of last)
each_known accepted m last v numbers f kept l = rw f ((accepted m last v kept l).size)

-- few patterns of a net, written for its model
pub written_tests : (give : VectorsGive) (list_alike : TidyNetsListAlike) (accepted : AcceptedJournalsTell) (m : Model) (a : Audited) (w : Written) (vectors : List (List Bool)) (numbers : List (Option ℕ)) (patterns : List ℕ)
    (firsts : List (Option ℕ)) (lasts : List Bool) (out : Model)
    → IsUsable m → IsLast m (net_of a.graph) a.verdicts → Fits (net_of a.graph) m → AreFew (net_of a.graph) m → vectors ≡ a.verdicts.vectors → numbers ≡ a.verdicts.numbers → AreVerdictsAt a.verdicts.vectors a.verdicts.numbers
    → AreTests (net_of a.graph) (faults_of (net_of a.graph)) vectors numbers patterns firsts → AreLast (net_of a.graph) (faults_of (net_of a.graph)) lasts → out ≡ model_of_net m (net_of a.graph)
    → w.text.items ≡ tests_text out (record { patterns = chosen vectors patterns; firsts = firsts; lasts = lasts }) → w.counts ≡ counts_of (record { patterns = chosen vectors patterns; firsts = firsts; lasts = lasts }) → IsWritten m a w
written_tests give list_alike accepted m a w vectors numbers patterns firsts lasts out usable last fits few e f kept tests classes out_is text counts =
    let net = net_of a.graph in
    let told = accepted m last.budget last.records net last.accepted in
    let alike = list_alike net m told.form told.tidy usable.formed fits few in
    let own : AreTests net (faults_of net) a.verdicts.vectors a.verdicts.numbers patterns firsts =
    subst (λ (ns : List (Option ℕ)). AreTests net (faults_of net) a.verdicts.vectors ns patterns firsts) f (subst (λ (vs : List (List Bool)). AreTests net (faults_of net) vs numbers patterns firsts) e tests) in
    record {
      t = record { patterns = chosen a.verdicts.vectors patterns; firsts = firsts; lasts = lasts };
      tests = model_tests net (model_of_net m net) a.verdicts patterns firsts lasts give alike kept (verdicts_tell m net a.verdicts kept last) own;
      classes = classes;
      text = text ∙ ap₂ (λ (o : Model) (vs : List (List Bool)). tests_text o (record { patterns = chosen vs patterns; firsts = firsts; lasts = lasts })) out_is e;
      counts = counts ∙ ap (λ (vs : List (List Bool)). counts_of (record { patterns = chosen vs patterns; firsts = firsts; lasts = lasts })) e;
    }

-- a call of the store that fails
pub store_cause : {T : Type 0} (Finds : Problem → Type 0) (found : OutsideFault) (before first mid now : ℕ) → before ≤ first → first ≤ mid → HasCause {T = T} mid now (Err found) → Caused Finds before now (outside_problem found)
store_cause Finds Failed before first mid now e f h = risen_after before mid now (omega (arith, e, f)) (h.failed refl)
store_cause Finds NoMemory before first mid now e f h = tt

pub store_keeps : {A : Type 0} (found : OutsideFault) (old new : A) → KeepsFiles (outside_problem found) old new
store_keeps Failed old new = tt
store_keeps NoMemory old new = tt

-- nothing has changed
pub tests_kept : (input journal output patterns : Word) (files new : Option Files) → new ≡ files → IfTold files new (BeginsTests input journal output patterns)
tests_kept input journal output patterns None new e = tt
tests_kept input journal output patterns (Some old) new e = subst (λ (o : Option Files). IfTold (Some old) o (BeginsTests input journal output patterns)) (sym e) (inl refl)

module _ (tell : PassedAuditsTell) (m : Model) (input journal output patterns : Word) (a : Audited) (w : Written) (usable : IsUsable m) (few : decomposed m ≤ 65536) (made : IsWritten m a w) where
  abbrev pub out : Model
  out = model_of_net m (net_of a.graph)

  has_tests : (told : Files) → PassedWith m told journal output a → HasTests m journal output told out made.t
  has_tests told p = record {
    records = a.count;
    passed = p.is;
    out_is = ap (λ (net : Net). model_of_net m net) (sym p.last_is);
    same_function = subst (λ (net : Net). Equivalent m (model_of_net m net)) p.last_is (tell m told journal output a.count usable.formed usable.ranked usable.ranks p.is);
    tests = subst (λ (said : List (Option (List Bool))). AreTestsOf out said made.t) p.said made.tests;
    classes = subst (λ (net : Net). AreLast net (faults_of net) made.t.lasts) (sym p.last_is) made.classes;
  }

  module _ (bytes : List ℕ) (same : bytes ≡ w.text.items) where
    text_is : bytes ≡ tests_text out made.t
    text_is = same ∙ made.text

    pub tests_done : (files read audited new : Option Files) → read ≡ files → audited ≡ read → IfSome files (λ told. Holds told input (λ text. IsSaid text m)) → IfSome read (λ told. PassedWith m told journal output a)
        → new ≡ option_map (put_file patterns bytes) audited → IfTold files new (HasWrittenTests input journal output patterns w.counts)
    tests_done None read audited new e f said passed done = tt
    tests_done (Some old) read audited new e f said passed done =
        let p : PassedWith m old journal output a = subst (λ (o : Option Files). IfSome o (λ told. PassedWith m told journal output a)) e passed in
        let is : new ≡ Some (put_file patterns bytes old) = done ∙ ap (option_map (put_file patterns bytes)) (f ∙ e) in
        subst (λ (o : Option Files). IfTold (Some old) o (HasWrittenTests input journal output patterns w.counts)) (sym is)
        (record { model = m; input_is = said; few = few; out = out; t = made.t; has = has_tests old p; files = ap (λ (xs : List ℕ). put_file patterns xs old) text_is; counts_are = made.counts })

    pub tests_begun : (files read audited new : Option Files) → read ≡ files → audited ≡ read → IfSome files (λ told. Holds told input (λ text. IsSaid text m)) → IfSome read (λ told. PassedWith m told journal output a)
        → BeginsFile patterns bytes audited new → IfTold files new (BeginsTests input journal output patterns)
    tests_begun None read audited new e f said passed begun = tt
    tests_begun (Some old) read audited new e f said passed (inl kept) = tests_kept input journal output patterns (Some old) new (kept ∙ f ∙ e)
    tests_begun (Some old) read audited new e f said passed (inr (k, begun)) =
        let p : PassedWith m old journal output a = subst (λ (o : Option Files). IfSome o (λ told. PassedWith m told journal output a)) e passed in
        let is : new ≡ Some (put_file patterns (take k bytes) old) = begun ∙ ap (option_map (put_file patterns (take k bytes))) (f ∙ e) in
        subst (λ (o : Option Files). IfTold (Some old) o (BeginsTests input journal output patterns)) (sym is)
        (inr (record { model = m; input_is = said; out = out; t = made.t; has = has_tests old p; length = k; files = ap (λ (xs : List ℕ). put_file patterns (take k xs) old) text_is }))
