-- Sources and constants are no gates.
use Rattle.std.proofs.Common.{◌≡◌, ◌<◌, ◌+◌, ℕ, zero, suc, false, refl, subst, arith}
use Rattle.gate_net.specs.declared.Kind.TheVariants.{Source}
use Rattle.gate_net.specs.Net.{Net, node_at, IsWellFormed, plain_node, source_count}
use Rattle.wire_edit.specs.Tests.{is_gate}

pub no_gate_below : (net : Net) → IsWellFormed net → (x : ℕ) → x < 2 + source_count net → is_gate net x ≡ false
no_gate_below net formed zero h = rw formed.constants.zero_is refl
no_gate_below net formed (suc zero) h = rw formed.constants.one_is refl
no_gate_below net formed (suc (suc k)) h =
    let place : 2 + k ≡ suc (suc k) = omega arith in
    let plain : node_at net (suc (suc k)) ≡ plain_node Source = subst (λ (z : ℕ). node_at net z ≡ plain_node Source) place (formed.sources.first k (omega arith)) in
    rw plain refl
