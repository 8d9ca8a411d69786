-- A pin that is added keeps the values.
use Rattle.std.proofs.Common.{Bool, Some, [], ap, inl, inr, length, map, not, refl, sym, ℕ, ◌++◌, ◌∙◌, ◌∷◌, ◌≡◌}
use Rattle.std.proofs.lemmas.Bool.Decides.{eqb_tells}
use Rattle.std.specs.Prelude.{slice_set}
use Rattle.gate_net.proofs.AlongPins.{reads_elsewhere, reads_there}
use Rattle.gate_net.proofs.Edited.{node_at-other, node_at-there, undetected_same}
use Rattle.gate_net.proofs.Junctions.{gate_more}
use Rattle.gate_net.specs.Edits.{last_pin, with_pin}
use Rattle.gate_net.specs.Laws.{AddsKeep}
use Rattle.gate_net.specs.Net.{IsKind, Net, drivers_in, drivers_of, node_at}
use Rattle.gate_net.specs.Values.{AreFaultyValues, AreGoodValues, controlling, faulty_reads, gate_value, node_value}
use Rattle.gate_net.specs.declared.Kind.{Kind}
use Rattle.rm_base.specs.declared.numbers.Fault.{Fault}
use Rattle.rm_base.proofs.Public.{map_last_set}

module _ (net : Net) (gate driver : ℕ) (kind : Kind) (c : Bool) (is : IsKind net gate kind) (control : controlling kind ≡ Some c) (a v : ℕ → Bool) (good : AreGoodValues net a v) where
  abbrev after : Net
  after = with_pin net gate driver

  abbrev fault : Fault
  fault = last_pin net gate (not c)

  drivers_are : drivers_of net gate ≡ is.0
  drivers_are = rw is.1 refl

  at_gate : v gate ≡ node_value (node_at after gate) (a gate) (faulty_reads after fault (λ b. b) v gate)
  at_gate =
      good gate ∙ ap (λ o. node_value o (a gate) (map v (drivers_in o))) is.1
      ∙ sym (gate_more kind c (a gate) (map v is.0) control)
      ∙ ap (gate_value kind (a gate)) (sym (map_last_set v is.0 driver (not c))
      ∙ ap (λ ds. slice_set (map v (ds ++ driver ∷ [])) (length ds) (not c)) (sym drivers_are)
      ∙ sym (ap (λ o. slice_set (map v (drivers_in o)) (length (drivers_of net gate)) (not c)) (node_at-there net gate (drivers_of net gate ++ driver ∷ []) _ is.1))
      ∙ sym (reads_there after fault (λ b. b) v))
      ∙ ap (λ o. node_value o (a gate) (faulty_reads after fault (λ b. b) v gate)) (sym (node_at-there net gate (drivers_of net gate ++ driver ∷ []) _ is.1))

  added_faulty : AreFaultyValues after fault a v
  added_faulty x = elim (eqb_tells x gate) [
    | inl t ↦ rw t.1 at_gate
    | inr t ↦ good x ∙ sym (ap (λ o. node_value o (a x) (map v (drivers_in o))) (node_at-other net gate (drivers_of net gate ++ driver ∷ []) x t.1))
        ∙ ap (node_value (node_at after x) (a x)) (sym (reads_elsewhere after fault (λ b. b) v x t.1))
  ]

pub adds_keep : AddsKeep
adds_keep net gate driver kind c is control undetected a v w good after x observed =
    sym (undetected_same (with_pin net gate driver) (last_pin net gate (not c)) undetected a w v (record { good = after; faulty = added_faulty net gate driver kind c is control a v good }) x observed)
