-- Evidence with a flaw shows nothing.
use Rattle.std.proofs.Common.{List, ap, subst, sym, ℕ, ◌*◌, ◌-◌, ◌++◌, ◌∙◌, ◌∷◌, ◌≡◌}
use Rattle.equal_evidence.specs.Shown.{IsSpentTree, IsSwept}
use Rattle.equal_evidence.specs.declared.evidence.Evidence.{Evidence}
use Rattle.equal_evidence.specs.declared.evidence.Evidence.TheVariants.{Merged, Plain}
use Rattle.equal_miter.specs.declared.likeness.Likeness.TheVariants.{Differ, Same, Undecided}
use Rattle.gate_net.specs.Net.{Net}
use Rattle.journal_check.specs.Replaying.{Leads, editing, refused}
use Rattle.journal_check.specs.Verdicts.{edges_of}
use Rattle.journal_check.specs.declared.refusal.Why.{Why}
use Rattle.journal_text.specs.Runs.{AcceptedTo}
use Rattle.journal_text.specs.declared.record.Record.{Record}
use Rattle.journal_text.specs.declared.record.Record.TheVariants as kept
use Rattle.proof_check.specs.Flaws.{EndsElsewhere, IsNoStep, IsRunFlaw, IsShort, IsSpentFlaw, IsTreeFlaw, StandsAt}
use Rattle.proof_check.specs.Laws.{FlawsHide}
use Rattle.proof_check.specs.declared.refusal.JudgeRefusal.{JudgeRefusal}
use Rattle.proof_check.specs.declared.refusal.JudgeRefusal.TheVariants as refusal
use Rattle.refutation.specs.Branches.{AreAccepted, AreAcceptedPartial}
use Rattle.refutation.specs.Laws.{EdgesAreCounted}
use Rattle.refutation.specs.declared.items.Form.TheVariants.{Closed, Partial}
use Rattle.refutation.specs.declared.items.Item.{Item}
use Rattle.refutation_check.specs.Laws.{AcceptedAreNotRefused}
use Rattle.rm_base.specs.declared.numbers.Fault.{Fault}
use Rattle.wire_edit.specs.Rooms.{ApplicableIsMade}
use Rattle.proof_check.proofs.Answered.{step_never}
use Rattle.proof_check.proofs.Runs.{accepted_once, accepted_rest}

module _ (none : AcceptedAreNotRefused) (counted : EdgesAreCounted) (made : ApplicableIsMade) where
  tree_hides : (net : Net) (fault : Fault) (items : List Item) (r : JudgeRefusal) → IsTreeFlaw net fault items r → AreAccepted net fault items → ⊥
  tree_hides net fault items (refusal.Tree c) f a = none net fault Closed items c a f
  tree_hides net fault items (refusal.UnlikeSources at) f a = f
  tree_hides net fault items (refusal.UnlikeObserved at) f a = f
  tree_hides net fault items (refusal.Text t) f a = f
  tree_hides net fault items (refusal.NoStep n) f a = f
  tree_hides net fault items (refusal.Record j) f a = f
  tree_hides net fault items refusal.NotOne f a = f
  tree_hides net fault items refusal.VectorMisses f a = f
  tree_hides net fault items (refusal.SpentShort edges given) f a = f
  tree_hides net fault items refusal.NoMemory f a = f

  spent_partial : (net : Net) (fault : Fault) (budget : ℕ) (items : List Item) → IsSpentTree net fault budget items → AreAcceptedPartial net fault items
  spent_partial net fault budget items s = (s.tree, (s.same, s.accepted))

  pub spent_edges : (net : Net) (fault : Fault) (budget : ℕ) (items : List Item) → IsSpentTree net fault budget items → edges_of items ≡ budget
  spent_edges net fault budget items s = ap edges_of s.same ∙ (sym (counted s.tree) ∙ s.size)

  spent_hides : (net : Net) (fault : Fault) (budget : ℕ) (items : List Item) (r : JudgeRefusal) → IsSpentFlaw net fault budget items r → IsSpentTree net fault budget items → ⊥
  spent_hides net fault budget items (refusal.Tree c) f s = none net fault Partial items c (spent_partial net fault budget items s) f
  spent_hides net fault budget items (refusal.SpentShort edges given) f s = f.1.other (f.1.edges_are ∙ spent_edges net fault budget items s)
  spent_hides net fault budget items (refusal.UnlikeSources at) f s = f
  spent_hides net fault budget items (refusal.UnlikeObserved at) f s = f
  spent_hides net fault budget items (refusal.Text t) f s = f
  spent_hides net fault budget items (refusal.NoStep n) f s = f
  spent_hides net fault budget items (refusal.Record j) f s = f
  spent_hides net fault budget items refusal.NotOne f s = f
  spent_hides net fault budget items refusal.VectorMisses f s = f
  spent_hides net fault budget items refusal.NoMemory f s = f

  no_step_led : (at after : Net) (r : Record) (behind : List Record) → IsNoStep r → AcceptedTo at (r ∷ behind) after → ⊥
  no_step_led at after (kept.Step s tree) behind f a = f
  no_step_led at after (kept.Hit g v) behind f a = a
  no_step_led at after (kept.Spent g t) behind f a = a

  no_refused_led : (budget : ℕ) (at after : Net) (r : Record) (behind : List Record) (w : Why) → Leads budget (editing at) r (refused w) → AcceptedTo at (r ∷ behind) after → ⊥
  no_refused_led budget at after (kept.Step s tree) behind w f a = step_never none made at s tree w a.0 f
  no_refused_led budget at after (kept.Hit g v) behind w f a = a
  no_refused_led budget at after (kept.Spent g t) behind w f a = a

  there : (net at : Net) (records : List Record) (number : ℕ) (r : Record) → (s : StandsAt net records at number r) → (w : IsSwept net records) → AcceptedTo at (r ∷ s.behind) w.after
  there net at records number r s w = accepted_rest net at w.after s.before (r ∷ s.behind) s.accepted (subst (λ (rs : List Record). AcceptedTo net rs w.after) s.parts w.accepted)

  run_hides : (net : Net) (budget : ℕ) (records : List Record) (r : JudgeRefusal) → IsRunFlaw net budget records r → IsSwept net records → ⊥
  run_hides net budget records (refusal.NoStep n) (at, (r, (s, f))) w = no_step_led at w.after r s.behind f (there net at records n r s w)
  run_hides net budget records (refusal.Record j) (at, (r, (s, f))) w = no_refused_led budget at w.after r s.behind j.why f (there net at records j.number r s w)
  run_hides net budget records refusal.NotOne e w = e.other (ap (λ (n : Net). n.observed) (accepted_once net e.after w.after records e.accepted w.accepted) ∙ w.one)
  run_hides net budget records (refusal.UnlikeSources at) f w = f
  run_hides net budget records (refusal.UnlikeObserved at) f w = f
  run_hides net budget records (refusal.Text t) f w = f
  run_hides net budget records (refusal.Tree c) f w = f
  run_hides net budget records refusal.VectorMisses f w = f
  run_hides net budget records (refusal.SpentShort edges given) f w = f
  run_hides net budget records refusal.NoMemory f w = f

  pub flaws_hide : FlawsHide
  flaws_hide net fault budget (Plain (Same items)) r f s = tree_hides net fault items r f s
  flaws_hide net fault budget (Plain (Differ bits)) r f s = f.1 s
  flaws_hide net fault budget (Plain (Undecided items)) r f s = spent_hides net fault budget items r f s
  flaws_hide net fault budget (Merged records) r f s = run_hides net budget records r f s
