use Rattle.std.proofs.Common.{arith, ◌≡◌, ◌∙◌, ap, sym, ℕ, List, [], Some, None}
use Rattle.std.specs.Prelude.{slice_get}
use Rattle.gate_graph.specs.Circuit.{fanouts_of}
use Rattle.test_nets.proofs.editing.is_unread.Goals as goal

-- no place stands in an empty list
nowhere : (xs : List (ℕ × ℕ)) (place : ℕ × ℕ) → xs ≡ [] → (k : ℕ) × (slice_get xs k ≡ Some place) → ⊥
nowhere xs place e at = let wrong : None ≡ Some place = ap (λ (l : List (ℕ × ℕ)). slice_get l at.0) (sym e) ∙ at.1 in cc

pub returns : goal.returns
returns c e = record {
  unread = λ y position reads. nowhere (fanouts_of c.args.graph.now c.args.node.0) (y, position) (sym c.loop.invariant ∙ c.in-None.ensures.steps.0) (c.readers_listed.ensures.all c.args.node.0 (y, position) reads);
  unobserved = λ o. (let t = c.is_observed.ensures.1 o in let f = c.if-is_observed.false in absurd (grind (arith, t, f)));
}
