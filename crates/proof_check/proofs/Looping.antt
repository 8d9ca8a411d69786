-- Steps of a replay, one after another.
use Rattle.std.proofs.Common.{Err, IfErr, IfOk, IsErrAnd, List, None, Ok, OnOk, Result, Some, [], add-one, ap, arith, drop, length, refl, subst, suc, sym, take, take-append-drop, ℕ, ◌+◌, ◌++◌, ◌<◌, ◌^◌, ◌∙◌, ◌∷◌, ◌≡◌, ◌≢◌, ◌≤◌, length-take}
use Rattle.std.specs.Prelude.{slice_get}
use Rattle.std.proofs.lemmas.Grind.{common_steps}
use Rattle.gate_graph.specs.Circuit.{Circuit, net_of}
use Rattle.gate_net.specs.Net.{Net}
use Rattle.journal_check.specs.Replaying.{Position, editing, next_number}
use Rattle.journal_check.specs.Standing.{Standing}
use Rattle.journal_text.specs.Runs.{AcceptedTo, AreWritable}
use Rattle.journal_text.specs.Text.{IsWritableRecord}
use Rattle.journal_text.specs.declared.record.Record.{Record}
use Rattle.journal_text.specs.declared.record.Record.TheVariants as kept
use Rattle.journal_text.proofs.Public.{accepted_then}
use Rattle.rm_base.proofs.Public.{drop_stands, slice_get_below, take_one_more}
use Rattle.rm_base.specs.Numbers.{one_number}
use Rattle.wire_edit.specs.Steps.{stepped}
use Rattle.equal_evidence.specs.Shown.{IsSwept}
use Rattle.proof_check.specs.Flaws.{EndsElsewhere, IsRunFlaw, StandsAt}
use Rattle.proof_check.specs.Inner.Stepping.{Advances, HasGone, IsGoing, IsStepFlaw, standing}
use Rattle.proof_check.specs.declared.refusal.JudgeRefusal.{JudgeRefusal}
use Rattle.proof_check.specs.declared.refusal.JudgeRefusal.TheVariants as refusal

-- what holds of the error holds of the answer that hands it on
pub handed_on : {V E : Type 0} (r : Result V E) (e : E) (P : E → Type 0) → IsErrAnd r (λ q. q ≡ e) → P e → IfErr r P
handed_on (Ok x) e P h p = tt
handed_on (Err q) e P h p = subst P (sym h) p

pub no_ok : {V E : Type 0} (r : Result V E) (Q : E → Type 0) (P : Type 0) → IsErrAnd r Q → OnOk r P
no_ok (Ok x) Q P h = absurd h
no_ok (Err q) Q P h = tt

pub none_given : {V E : Type 0} (r : Result V E) (Q : E → Type 0) (P : V → Type 0) → IsErrAnd r Q → IfOk r P
none_given (Ok x) Q P h = absurd h
none_given (Err q) Q P h = tt

pub going_first : (net : Net) (budget : ℕ) (records : List Record) (s : Standing) → s ≡ standing net budget 1 → IsGoing net budget records 0 s
going_first net budget records s e = record { at = net; accepted = refl; stands = e }

counted_on : (k : ℕ) → k < 2 ^ 63 → next_number (k + 1) ≡ k + 1 + 1
counted_on k small = omega (arith, small)

one_more : (net : Net) (budget : ℕ) (records : List Record) (k : ℕ) (r : Record) (s t : Standing) (g : IsGoing net budget records k s) → slice_get records k ≡ Some r → k < 2 ^ 63 → Advances g.at budget (k + 1) r t → IsGoing net budget records (k + 1) t
one_more net budget records k (kept.Step step tree) s t g here small a = record {
  at = stepped g.at step;
  accepted = subst (λ (rs : List Record). AcceptedTo net rs (stepped g.at step)) (sym (take_one_more records k (kept.Step step tree) here))
      (accepted_then net g.at (stepped g.at step) (take k records) (kept.Step step tree ∷ []) g.accepted (a.0, refl));
  stands = a.1 ∙ ap (λ (n : ℕ). standing (stepped g.at step) budget n) (counted_on k small);
}
one_more net budget records k (kept.Hit f v) s t g here small a = absurd a
one_more net budget records k (kept.Spent f v) s t g here small a = absurd a

pub going_more : (net : Net) (budget : ℕ) (records : List Record) (k number : ℕ) (r : Record) (s t : Standing) → IsGoing net budget records k s → slice_get records k ≡ Some r → k < 2 ^ 63 → number ≡ k + 1
    → ((at : Net) (b : ℕ) → s ≡ standing at b number → Advances at b number r t) → IsGoing net budget records (k + 1) t
going_more net budget records k number r s t g here small is made =
    one_more net budget records k r s t g here small
    (subst (λ (n : ℕ). Advances g.at budget n r t) is (made g.at budget (g.stands ∙ ap (λ (n : ℕ). standing g.at budget n) (sym is))))

stands_there : (net : Net) (budget : ℕ) (records : List Record) (k number : ℕ) (r : Record) (s : Standing) → (g : IsGoing net budget records k s) → slice_get records k ≡ Some r → number ≡ k + 1 → StandsAt net records g.at number r
stands_there net budget records k number r s g here is =
    let lt : k < length records = slice_get_below records k (λ e. let bad : Some r ≡ None = sym here ∙ e in cc) in
    let size : length (take k records) ≡ k = omega (arith, lt, length-take k records) in
    record {
      before = take k records;
      behind = drop (suc k) records;
      parts = sym (take-append-drop k records) ∙ ap (λ (rs : List Record). take k records ++ rs) (drop_stands records k r here);
      accepted = g.accepted;
      counts = is ∙ omega (arith, size);
    }

run_flaw : (net at : Net) (budget : ℕ) (records : List Record) (number : ℕ) (r : Record) (j : JudgeRefusal) → StandsAt net records at number r → IsStepFlaw at budget number r j → IsRunFlaw net budget records j
run_flaw net at budget records number r (refusal.NoStep n) s f = (at, (r, (subst (λ (i : ℕ). StandsAt net records at i r) (sym f.0) s, f.1)))
run_flaw net at budget records number r (refusal.Record j) s f = (at, (r, (subst (λ (i : ℕ). StandsAt net records at i r) (sym f.0) s, f.1)))
run_flaw net at budget records number r (refusal.UnlikeSources i) s f = absurd f
run_flaw net at budget records number r (refusal.UnlikeObserved i) s f = absurd f
run_flaw net at budget records number r (refusal.Text t) s f = absurd f
run_flaw net at budget records number r refusal.NotOne s f = absurd f
run_flaw net at budget records number r (refusal.Tree t) s f = absurd f
run_flaw net at budget records number r refusal.VectorMisses s f = absurd f
run_flaw net at budget records number r (refusal.SpentShort edges given) s f = absurd f
run_flaw net at budget records number r refusal.NoMemory s f = absurd f

pub stops : (net : Net) (budget : ℕ) (records : List Record) (k number : ℕ) (r : Record) (s : Standing) (j : JudgeRefusal) → IsGoing net budget records k s → slice_get records k ≡ Some r → number ≡ k + 1
    → ((at : Net) (b : ℕ) → s ≡ standing at b number → IsStepFlaw at b number r j) → IsRunFlaw net budget records j
stops net budget records k number r s j g here is flaw =
    run_flaw net g.at budget records number r j (stands_there net budget records k number r s g here is)
    (flaw g.at budget (g.stands ∙ ap (λ (n : ℕ). standing g.at budget n) (sym is)))

pub writable_here : (records : List Record) (k : ℕ) (r : Record) → slice_get records k ≡ Some r → AreWritable (drop k records) → IsWritableRecord r × AreWritable (drop (k + 1) records)
writable_here records k r here w =
    let both = subst (λ (rs : List Record). AreWritable rs) (drop_stands records k r here) w in
    (both.0, subst (λ (n : ℕ). AreWritable (drop n records)) (sym (add-one k)) both.1)

take_whole : (xs : List Record) (n : ℕ) → length xs ≤ n → take n xs ≡ xs
take_whole xs n l = grind (arith, common_steps)

pub going_whole : (net : Net) (budget : ℕ) (records : List Record) (k : ℕ) (s : Standing) → length records ≤ k → IsGoing net budget records k s → HasGone net records s
going_whole net budget records k s le g = record {
  at = g.at;
  accepted = subst (λ (rs : List Record). AcceptedTo net rs g.at) (take_whole records k le) g.accepted;
  stands = ap (λ (t : Standing). t.position) g.stands;
}

-- the last net observes One alone, or something else
pub swept_there : (net : Net) (records : List Record) (s : Standing) (last : Circuit) → HasGone net records s → ((n : Net) → s.position ≡ editing n → net_of last ≡ n) → (net_of last).observed ≡ one_number ∷ [] → IsSwept net records
swept_there net records s last g is one = record { after = g.at; accepted = g.accepted; one = ap (λ (n : Net). n.observed) (sym (is g.at g.stands)) ∙ one }

pub elsewhere : (net : Net) (records : List Record) (s : Standing) (last : Circuit) → HasGone net records s → ((n : Net) → s.position ≡ editing n → net_of last ≡ n) → (net_of last).observed ≢ one_number ∷ [] → EndsElsewhere net records
elsewhere net records s last g is other = record { after = g.at; accepted = g.accepted; other = λ e. other (ap (λ (n : Net). n.observed) (is g.at g.stands) ∙ e) }
