-- Accepted steps one after another: what they keep, and that they can be written.
use Rattle.std.proofs.Common.{◌≡◌, ◌≢◌, ℕ, zero, suc, ◌+◌, ◌<◌, ◌≤◌, Bool, true, false, not, Option, Some, None, List, [], ◌∷◌, refl, sym, subst, ◌∙◌, arith}
use Rattle.std.specs.Prelude.{map}
use Rattle.rm_base.specs.declared.numbers.Fault.{Fault}
use Rattle.gate_net.specs.declared.Kind.{Kind}
use Rattle.gate_net.specs.declared.Kind.TheVariants.{Source, Zero, One, And, Or, Not, Xor}
use Rattle.gate_net.specs.Net.{Node, Net, IsWellFormed, node_at, plain_node, source_count}
use Rattle.gate_net.specs.Edits.{last_pin}
use Rattle.gate_net.specs.Laws.{KeepsPlaces, ValuesExist}
use Rattle.refutation.specs.declared.items.Item.{Item}
use Rattle.refutation.specs.Branches.{AreAccepted, line, split, clash, quiet, here, untried}
use Rattle.wire_edit.specs.declared.steps.Step.{Step}
use Rattle.wire_edit.specs.declared.steps.Step.TheVariants.{Add, Fix, NewNot, Const, Same, NoPins, OnePin, Twice, Twin, Dead}
use Rattle.wire_edit.specs.Tests.{is_gate}
use Rattle.wire_edit.specs.Steps.{stepped}
use Rattle.wire_edit.specs.Laws.{KeepsObserved}
use Rattle.journal_text.specs.declared.record.Record.{Record}
use Rattle.journal_text.specs.declared.record.Record.TheVariants as kept
use Rattle.journal_text.specs.Accepted.{AcceptedStepsKeep, IsJustified, Keeps}
use Rattle.journal_text.specs.Runs.{AcceptedTo, AreWritable}
use Rattle.journal_text.specs.Text.{HasItsTree}

live_node : (net : Net) (x : ℕ) (o : Option Node) → node_at net x ≡ o → node_at net x ≢ None → (n : Node) × (node_at net x ≡ Some n)
live_node net x None e live = absurd (live e)
live_node net x (Some n) e live = (n, e)

-- a source or a constant of a well formed net is one of each that has as many sources
stays_plain : (net after : Net) (x : ℕ) → IsWellFormed net → IsWellFormed after → source_count after ≡ source_count net → node_at net x ≢ None → is_gate net x ≡ false → is_gate after x ≡ false
stays_plain net after x form formed same live plain =
    let n : (n : Node) × (node_at net x ≡ Some n) = live_node net x (node_at net x) refl live in
    at n.0.kind n.0.drivers n.1
  where
    differ : false ≡ true → ⊥
    differ e = cc

    source_plain : node_at after x ≡ plain_node Source → is_gate after x ≡ false
    source_plain e = rw e refl

    zero_plain : node_at after x ≡ plain_node Zero → is_gate after x ≡ false
    zero_plain e = rw e refl

    one_plain : node_at after x ≡ plain_node One → is_gate after x ≡ false
    one_plain e = rw e refl

    source_at : (2 ≤ x) × (x < 2 + source_count net) → node_at after x ≡ plain_node Source
    source_at (low, high) =
        let k : (k : ℕ) × (2 + k ≡ x) = less x low in
        let small : k.0 < source_count after = omega (arith, same, high, k.1) in
        subst (λ (y : ℕ). node_at after y ≡ plain_node Source) k.1 (formed.sources.first k.0 small)
      where
        less : (y : ℕ) → 2 ≤ y → (k : ℕ) × (2 + k ≡ y)
        less zero le = absurd (omega (arith, le))
        less (suc zero) le = absurd (omega (arith, le))
        less (suc (suc k)) le = (k, omega arith)

    at : (kind : Kind) (drivers : List ℕ) → node_at net x ≡ Some (record { kind = kind; drivers = drivers }) → is_gate after x ≡ false
    at Source drivers e = source_plain (source_at (form.sources.only x (drivers, e)))
    at Zero drivers e = zero_plain (subst (λ (y : ℕ). node_at after y ≡ plain_node Zero) (sym (form.only_zero x (drivers, e))) formed.constants.zero_is)
    at One drivers e = one_plain (subst (λ (y : ℕ). node_at after y ≡ plain_node One) (sym (form.only_one x (drivers, e))) formed.constants.one_is)
    at And drivers e = absurd (differ (sym plain ∙ rw e refl))
    at Or drivers e = absurd (differ (sym plain ∙ rw e refl))
    at Not drivers e = absurd (differ (sym plain ∙ rw e refl))
    at Xor drivers e = absurd (differ (sym plain ∙ rw e refl))

observed_then : (net mid after : Net) → IsWellFormed net → IsWellFormed mid → source_count mid ≡ source_count net → KeepsObserved net mid → KeepsObserved mid after → KeepsObserved net after
observed_then net mid after form formed same first second = record {
  together = λ j k e. second.together j k (first.together j k e);
  stays = λ k x e plain. second.stays k x (first.stays k x e plain) (stays_plain net mid x form formed same (form.observed_live x (k, e)) plain);
}

values_then : ValuesExist → (net mid after : Net) → IsWellFormed mid → KeepsPlaces net mid → KeepsPlaces mid after → KeepsPlaces net after
values_then exist net mid after formed first second = λ a v w good good_after.
    let u = exist mid formed.acyclic a in
    first a v u.0 good u.1.0 ∙ second a u.0 w u.1.0 good_after

keeps_none : ValuesExist → (net : Net) → IsWellFormed net → Keeps net net
keeps_none exist net form = record {
  form = form;
  sources = refl;
  observed = record { together = λ j k e. e; stays = λ k x e plain. e };
  values = λ a v w good again.
      let u = exist net form.acyclic a in
      same_map v w net.observed (λ x. sym (u.1.1 v good x) ∙ u.1.1 w again x);
}
  where
    same_map : (v w : ℕ → Bool) (xs : List ℕ) → ((x : ℕ) → v x ≡ w x) → map v xs ≡ map w xs
    same_map v w [] same = refl
    same_map v w (x ∷ xs) same = let e : v x ≡ w x = same x in let rest : map v xs ≡ map w xs = same_map v w xs same in rw (e, rest) refl

keeps_then : ValuesExist → (net mid after : Net) → IsWellFormed net → Keeps net mid → Keeps mid after → Keeps net after
keeps_then exist net mid after form first second = record {
  form = second.form;
  sources = second.sources ∙ first.sources;
  observed = observed_then net mid after form first.form first.sources first.observed second.observed;
  values = values_then exist net mid after first.form first.values second.values;
}

pub runs_keep : ValuesExist → AcceptedStepsKeep → (net after : Net) (records : List Record) → IsWellFormed net → AcceptedTo net records after → Keeps net after
runs_keep exist keep net after [] form a = subst (λ (n : Net). Keeps net n) (sym a) (keeps_none exist net form)
runs_keep exist keep net after (kept.Step step tree ∷ records) form a =
    let one : Keeps net (stepped net step) = keep net step tree form a.0 in
    keeps_then exist net (stepped net step) after form one (runs_keep exist keep (stepped net step) after records one.form a.1)
runs_keep exist keep net after (kept.Hit fault vector ∷ records) form a = absurd a
runs_keep exist keep net after (kept.Spent fault tree ∷ records) form a = absurd a

-- WRITING
-- an accepted closed tree isn't empty
pub accepted_some : (net : Net) (fault : Fault) (tree : List Item) → AreAccepted net fault tree → tree ≢ []
accepted_some net fault tree (line l t, (e, closed)) = λ none. cc (e, none)
accepted_some net fault tree (split x first t u, (e, closed)) = λ none. cc (e, none)
accepted_some net fault tree (clash x, (e, closed)) = λ none. cc (e, none)
accepted_some net fault tree (quiet, (e, closed)) = λ none. cc (e, none)
accepted_some net fault tree (here, (e, closed)) = λ none. cc (e, none)
accepted_some net fault tree (untried, (e, closed)) = λ none. cc (e, none)

justified_tree : (net : Net) (step : Step) (tree : List Item) → IsJustified net step tree → HasItsTree step tree
justified_tree net (Add gate node) tree j = accepted_some (stepped net (Add gate node)) (last_pin net gate.0 (not j.0)) tree j.1.1
justified_tree net (Fix gate position value) tree j = accepted_some net (record { gate = gate; position = position; value = value }) tree j
justified_tree net (NewNot node) tree j = j
justified_tree net (Const gate position) tree j = j
justified_tree net (Same gate position) tree j = j
justified_tree net (NoPins gate) tree j = j
justified_tree net (OnePin gate) tree j = j
justified_tree net (Twice gate) tree j = j
justified_tree net (Twin gate other) tree j = j
justified_tree net (Dead gate) tree j = j

pub runs_writable : (net after : Net) (records : List Record) → AcceptedTo net records after → AreWritable records
runs_writable net after [] a = tt
runs_writable net after (kept.Step step tree ∷ records) a = (justified_tree net step tree a.0.justified, runs_writable (stepped net step) after records a.1)
runs_writable net after (kept.Hit fault vector ∷ records) a = absurd a
runs_writable net after (kept.Spent fault tree ∷ records) a = absurd a
