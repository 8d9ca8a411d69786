-- Runs of accepted steps, parted and unique.
use Rattle.std.proofs.Common.{List, [], ap, refl, subst, sym, ℕ, ◌++◌, ◌∙◌, ◌∷◌, ◌≡◌}
use Rattle.gate_net.specs.Net.{Net}
use Rattle.journal_text.specs.Runs.{AcceptedTo}
use Rattle.journal_text.specs.declared.record.Record.{Record}
use Rattle.journal_text.specs.declared.record.Record.TheVariants as kept
use Rattle.wire_edit.specs.Steps.{stepped}

-- records lead to one net
pub accepted_once : (net a b : Net) (rs : List Record) → AcceptedTo net rs a → AcceptedTo net rs b → a ≡ b
accepted_once net a b [] p q = p ∙ sym q
accepted_once net a b (kept.Step s tree ∷ rs) p q = accepted_once (stepped net s) a b rs p.1 q.1
accepted_once net a b (kept.Hit f v ∷ rs) p q = absurd p
accepted_once net a b (kept.Spent f t ∷ rs) p q = absurd p

-- a run goes on where its beginning leads
pub accepted_rest : (net at after : Net) (before rest : List Record) → AcceptedTo net before at → AcceptedTo net (before ++ rest) after → AcceptedTo at rest after
accepted_rest net at after [] rest p q = subst (λ (n : Net). AcceptedTo n rest after) (sym p) q
accepted_rest net at after (kept.Step s tree ∷ before) rest p q = accepted_rest (stepped net s) at after before rest p.1 q.1
accepted_rest net at after (kept.Hit f v ∷ before) rest p q = absurd p
accepted_rest net at after (kept.Spent f t ∷ before) rest p q = absurd p
