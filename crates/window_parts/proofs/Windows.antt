-- A window has no sources but its inputs, and nothing is observed of it but its outputs.
use Rattle.std.proofs.Common.{◌≡◌, ◌≤◌, ◌<◌, ◌+◌, ◌∙◌, List, [], ◌++◌, length, Result, subst, sym, arith}
use Rattle.std.specs.Prelude.{IfOk, IfSome, Option, None, Some, Ok, Err}
use Rattle.std.proofs.lemmas.List.{append-nil}
use Rattle.rm_base.specs.Words.{Word}
use Rattle.rm_model.specs.Ranks.{first_without_rank}
use Rattle.rm_model.specs.Value.{observed_names, source_names}
use Rattle.rm_model.specs.declared.parts.Model.{Model}
use Rattle.cover_decompose.specs.Count.{decomposed}
use Rattle.window_cut.specs.Laws.{IsStandalone}
use Rattle.window_parts.specs.Inner.Ready.{HasFewSignals, IsReady}
use Rattle.window_parts.specs.Part.{IsWithinRun}

pub sources_are : (w : Model) → IsStandalone w → source_names w ≡ w.inputs
sources_are w alone = rw (alone.no_clocks, alone.no_latches) (append-nil (w.inputs ++ []) ∙ append-nil w.inputs)

pub observed_are : (w : Model) → IsStandalone w → observed_names w ≡ w.outputs
observed_are w alone = rw alone.no_latches (append-nil (w.outputs ++ []) ∙ append-nil w.outputs)

-- few enough to be numbered
pub room_of : (w : Model) → IsStandalone w → HasFewSignals w → length (source_names w) + length w.covers < 4294967296
room_of w alone few = subst (λ (xs : List Word). length xs + length w.covers < 4294967296) (sym (sources_are w alone)) few.signals

-- few enough for a run
pub within_of : (w : Model) → HasFewSignals w → decomposed w ≤ 65536 → IsWithinRun w
within_of w few wires = record { inputs = few.inputs; outputs = few.outputs; signals = few.signals; wires = wires }

pub few_of : (w : Model) → IsWithinRun w → HasFewSignals w
few_of w within = record { inputs = within.inputs; outputs = within.outputs; signals = within.signals }

-- so that it can be decomposed, and its steps made again
pub ready_of : (w m : Model) → m ≡ w → IsStandalone w → first_without_rank w ≡ None → IsWithinRun w → IsReady m
ready_of w m same alone ranks within = subst (λ (x : Model). IsReady x) (sym same) (record {
  formed = alone.formed;
  ranked = alone.ranked;
  ranks = ranks;
  covers = omega (arith, within.signals);
  sources = subst (λ (xs : List Word). length xs ≤ 1024) (sym (sources_are w alone)) within.inputs;
  observed = subst (λ (xs : List Word). length xs ≤ 4096) (sym (observed_are w alone)) within.outputs;
  few = within.wires;
})

pub ready_found : {E : Type 0} (w : Model) (r : Result (Option Model) E) → IsStandalone w → first_without_rank w ≡ None → IfOk r (λ o. IfSome o (λ m. m ≡ w)) → IfOk r (λ o. IfSome o (λ m. IsWithinRun w)) → IfOk r (λ o. IfSome o IsReady)
ready_found w (Err e) alone ranks same within = tt
ready_found w (Ok None) alone ranks same within = tt
ready_found w (Ok (Some m)) alone ranks same within = ready_of w m same alone ranks within
