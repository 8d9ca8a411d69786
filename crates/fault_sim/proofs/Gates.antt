-- Which nodes are gates.
use Rattle.std.proofs.Common.{Option, Some, subst, sym, ℕ, ◌∙◌, ◌≡◌}
use Rattle.std.specs.Prelude.{T}
use Rattle.gate_net.specs.Meaning.{family, is_gate_family}
use Rattle.gate_net.specs.declared.Family.{Family}
use Rattle.gate_net.specs.declared.Family.TheVariants.{Input}
use Rattle.gate_net.specs.declared.Kind.{Kind}
use Rattle.gate_net.specs.declared.Kind.TheVariants.{Source}
use Rattle.gate_net.specs.Net.{IsGate, IsKind, Net, kind_of}
use Rattle.refutation.proofs.Public.{kind_is, source_is}

-- a node of a kind that means a gate is one
pub gate_is : (net : Net) (x : ℕ) (o : Option Kind) (kind : Kind) (f : Family) → o ≡ Some kind → o ≡ kind_of net x → f ≡ family kind → T (is_gate_family f) → IsGate net x
gate_is net x o kind f is e means gate =
    let P : Family → Type 0 = λ g. T (is_gate_family g) in
    (kind, (kind_is net x kind (sym is ∙ e), subst P means gate))

-- and one of a kind that means an input is a source
pub input_is : (net : Net) (x : ℕ) (o : Option Kind) (kind : Kind) → o ≡ Some kind → o ≡ kind_of net x → Input ≡ family kind → IsKind net x Source
input_is net x o kind is e means =
    let P : Kind → Type 0 = λ k. IsKind net x k in
    subst P (source_is kind means) (kind_is net x kind (sym is ∙ e))
