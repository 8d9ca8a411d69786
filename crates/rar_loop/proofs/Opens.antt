-- An open set excludes a clash by direct implication, so what was tried in vain doesn't gain.
use Rattle.std.proofs.Common.{◌≡◌, ℕ, zero, suc, ◌<◌, ◌≤◌, ◌⊎◌, inl, inr, Bool, not, Option, Some, List, sym, ◌∙◌, ap, subst, arith}
use Rattle.rm_base.specs.declared.numbers.Fault.{Fault}
use Rattle.gate_net.specs.Net.{Net, wire_count}
use Rattle.gate_net.specs.Edits.{last_pin}
use Rattle.refutation.specs.Closing.{Clashes, IsClosedUnderLines}
use Rattle.refutation.specs.Facts.{Held}
use Rattle.refutation.specs.Learning.{IsClosedAt}
use Rattle.refutation.specs.Laws.{ClosedHasAll}
use Rattle.wire_edit.proofs.Public.{tidies_to_one}
use Rattle.candidate_wires.specs.declared.candidate.Pair.{Pair}
use Rattle.candidate_wires.specs.Gains.{with_candidate, Gains, SomeClashes}
use Rattle.journal_text.specs.declared.record.Record.{Record}
use Rattle.refutation.specs.Detected.{HasOpenSet}
use Rattle.rar_loop.specs.Swept.{IsSwept}
use Rattle.rar_loop.specs.Inner.Trying.{CostsWires, IsNewPinOpen, IsReplaced}

closed_lines : (net : Net) (fault : Fault) (depth : ℕ) (held : Held) → IsClosedAt net fault depth held → IsClosedUnderLines net fault held
closed_lines net fault zero held c = c
closed_lines net fault (suc depth) held c = c.0

pub open_excludes : ClosedHasAll → (net : Net) (fault : Fault) (depth : ℕ) → HasOpenSet net fault depth → Clashes net fault → ⊥
open_excludes law net fault depth (held, (free, closed)) clash = (law net fault held (closed_lines net fault depth held closed) free).1 clash

pub open_pin_fails : ClosedHasAll → (net : Net) (pair : Pair) (depth : ℕ) → IsNewPinOpen net pair.candidate depth → Gains net pair → ⊥
open_pin_fails law net pair depth (c, (is, open_set)) gains =
    let same : ◌≡◌ {A = Option Bool} (Some c) (Some gains.new_pin.0) = sym is ∙ gains.new_pin.1.0 in
    let e : c ≡ gains.new_pin.0 = cc in
    open_excludes law (with_candidate net pair.candidate) (last_pin net pair.candidate.gate.0 (not gains.new_pin.0)) depth
    (subst (λ (b : Bool). HasOpenSet (with_candidate net pair.candidate) (last_pin net pair.candidate.gate.0 (not b)) depth) e open_set) gains.new_pin.1.1

pub open_target_fails : ClosedHasAll → (net : Net) (pair : Pair) (depth : ℕ) → HasOpenSet (with_candidate net pair.candidate) pair.fault depth → Gains net pair → ⊥
open_target_fails law net pair depth open_set gains = open_excludes law (with_candidate net pair.candidate) pair.fault depth open_set gains.target

-- nor does one that costs wires
pub costs_fail : (net : Net) (pair : Pair) → CostsWires net pair → Gains net pair → ⊥
costs_fail net pair costs gains =
    let same : gains.after ≡ costs.0 = tidies_to_one gains.tidied costs.1.0 in
    elim gains.pays [
      | inl lt ↦ let more : wire_count net < wire_count gains.after = subst (λ (n : Net). wire_count net < wire_count n) (sym same) costs.1.1 in absurd (omega (arith, lt, more))
      | inr e ↦ let more : wire_count net < wire_count gains.after = subst (λ (n : Net). wire_count net < wire_count n) (sym same) costs.1.1 in absurd (omega (arith, e.0, more))
    ]

swept_none : ClosedHasAll → (net : Net) (depth : ℕ) → IsSwept net depth → SomeClashes net → ⊥
swept_none law net depth swept (fault, (pin, clash)) = open_excludes law net fault depth (swept fault pin) clash

pub no_fewer_fails : ClosedHasAll → (net after : Net) (pair : Pair) (depth : ℕ) (records : List Record) → IsReplaced net pair depth records after → wire_count net ≤ wire_count after → Gains net pair → ⊥
no_fewer_fails law net after pair depth records r le gains =
    let same : gains.after ≡ r.mid = tidies_to_one gains.tidied r.tidied in
    let pays : (wire_count r.mid < wire_count net) ⊎ ((wire_count r.mid ≡ wire_count net) × SomeClashes r.mid) = subst (λ (n : Net). (wire_count n < wire_count net) ⊎ ((wire_count n ≡ wire_count net) × SomeClashes n)) same gains.pays in
    elim r.swept.pays [
      | inl stays ↦ at_same stays pays
      | inr falls ↦ elim pays [ inl lt ↦ absurd (omega (arith, lt, falls, le)) | inr e ↦ absurd (omega (arith, e.0, falls, le)) ]
    ]
  where
    at_same : after ≡ r.mid → (wire_count r.mid < wire_count net) ⊎ ((wire_count r.mid ≡ wire_count net) × SomeClashes r.mid) → ⊥
    at_same stays (inl lt) = let w : wire_count after ≡ wire_count r.mid = ap wire_count stays in absurd (omega (arith, lt, w, le))
    at_same stays (inr e) = swept_none law r.mid depth (subst (λ (n : Net). IsSwept n depth) stays r.swept.swept) e.1
