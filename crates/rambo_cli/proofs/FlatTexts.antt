-- From the flat text of what was read to what `flat` says of the files.
use Rattle.std.proofs.Common.{◌≡◌, ◌≤◌, ◌+◌, ◌⊎◌, ℕ, List, take, length, refl, sym, ◌∙◌, ap, subst, inl, inr, Result, Ok, Err}
use Rattle.std.specs.Prelude.{Option, None, Some, IfErr, IfOk, IfSome}
use Rattle.std.specs.Option.{option_map}
use Rattle.rm_base.specs.Files.{Files, put_file}
use Rattle.rm_base.specs.Words.{Word}
use Rattle.rm_model.specs.declared.parts.Model.{Model}
use Rattle.blif_lines.specs.Layout.{lines_of}
use Rattle.blif_format.specs.FirstFault.{first_fault as first_flat_fault}
use Rattle.blif_format.specs.Grammar.{Reads}
use Rattle.blif_format.specs.Laws.{IsAtMostLimit}
use Rattle.blif_format.specs.Text.{text_of}
use Rattle.blif_format.specs.declared.refusal.Quantity.{Quantity}
use Rattle.blif_format.specs.declared.refusal.ReadRefusal.{ReadRefusal}
use Rattle.blif_format.specs.declared.refusal.ReadRefusal.TheVariants as refusal
use Rattle.blif_reader.specs.Meant.{IsRefusal}
use Rattle.blif_flatten.specs.FirstFault.{first_fault}
use Rattle.rambo_cli.specs.Contract.{Caused}
use Rattle.rambo_cli.specs.Files.{Holds, IfTold}
use Rattle.rambo_cli.specs.Flat.{BeginsFlat, ExceedsFlat, ExceedsFlatAt, FlatFinds, HasFlatFault, HasFlattened, IsFlat, IsFlattenedInto, IsOverlong, flat_limits}
use Rattle.rambo_cli.specs.Inner.Files.{BeginsFile}
use Rattle.rambo_cli.specs.Inner.Problems.{FlatTextCause, read_problem}
use Rattle.rambo_cli.specs.declared.input_model.FlatLimits.{FlatLimits}
use Rattle.rambo_cli.specs.declared.input_model.FlatModel.{FlatModel}
use Rattle.rambo_cli.specs.declared.problem.Problem.{Problem}
use Rattle.rambo_cli.specs.declared.problem.Problem.TheVariants.{Words, Text, Limit, Missing, Fault, Journal, Record, Netlist, Second, Unlike, CareShape, Window, Proof, Memory}
use Rattle.rambo_cli.proofs.Pieces.{held, longer, shorter}

-- a refusal of a short text is why it has no flat text
pub refused_flat : (limits : FlatLimits) (text : List ℕ) (e : ReadRefusal) → length text ≤ limits.bytes → IsRefusal e (first_fault limits.tokens text) → FlatTextCause limits text (read_problem e)
refused_flat limits text (refusal.Fault kind place) short h = record { short = short; fault = h }
refused_flat limits text (refusal.Limit quantity count place) short h = inr (record { short = short; place = place; fault = h })
refused_flat limits text refusal.NoMemory short h = tt

flat_whole : (limits : FlatLimits) (model : Model) (instances : ℕ) (bytes : List ℕ) → IsFlat limits (take (limits.bytes + 1) bytes) model instances → IsFlat limits bytes model instances
flat_whole limits model instances bytes h = subst (λ (text : List ℕ). IsFlat limits text model instances) (shorter limits.bytes bytes h.short) h

overlong_whole : (limits : FlatLimits) (quantity : Quantity) (count : ℕ) (bytes : List ℕ) → IsOverlong limits (take (limits.bytes + 1) bytes) quantity count → IsOverlong limits bytes quantity count
overlong_whole limits quantity count bytes h = record { long = longer (limits.bytes + 1) limits.bytes bytes h.long; named = h.named; counted = h.counted }

module _ (limits : FlatLimits) (text : List ℕ) (files : Option Files) (name : Word) (found : IfSome files (λ told. Holds told name (λ bytes. text ≡ take (limits.bytes + 1) bytes))) where
  -- what holds of the bytes that were read holds of the file
  held_whole : (P : List ℕ → Type 0) → ((bytes : List ℕ) → P (take (limits.bytes + 1) bytes) → P bytes) → P text → IfSome files (λ told. Holds told name P)
  held_whole P whole h = held (λ bytes. text ≡ take (limits.bytes + 1) bytes) P (λ bytes e. whole bytes (subst P e h)) files name found

  pub flat_read : (r : Result FlatModel Problem) → IfOk r (λ f. IsFlat limits text f.model f.instances) → IfOk r (λ f. IfSome files (λ told. Holds told name (λ bytes. IsFlat limits bytes f.model f.instances)))
  flat_read (Err p) h = tt
  flat_read (Ok f) h = held_whole (λ bytes. IsFlat limits bytes f.model f.instances) (flat_whole limits f.model f.instances) h

  fault_found : (problem : Problem) (before now : ℕ) → FlatTextCause limits text problem → Caused (FlatFinds limits name files) before now problem
  fault_found (Text kind place) before now h =
      held_whole (λ bytes. HasFlatFault limits bytes kind place) (λ bytes f. subst (λ (t : List ℕ). HasFlatFault limits t kind place) (shorter limits.bytes bytes f.short) f) h
  fault_found (Limit quantity count) before now h =
      held_whole (λ bytes. ExceedsFlat limits bytes quantity count)
      (λ bytes f. elim f [
        | inl long ↦ inl (overlong_whole limits quantity count bytes long)
        | inr at ↦ inr (subst (λ (t : List ℕ). ExceedsFlatAt limits t quantity count) (shorter limits.bytes bytes at.short) at)
      ]) h
  fault_found Memory before now h = tt
  fault_found Words before now h = absurd h
  fault_found Missing before now h = absurd h
  fault_found Fault before now h = absurd h
  fault_found (Journal f) before now h = absurd h
  fault_found (Record r) before now h = absurd h
  fault_found (Netlist byte) before now h = absurd h
  fault_found (Second found) before now h = absurd h
  fault_found (Unlike list at) before now h = absurd h
  fault_found CareShape before now h = absurd h
  fault_found (Window number stop) before now h = absurd h
  fault_found (Proof found) before now h = absurd h

  pub flat_cause : {V : Type 0} (r : Result V Problem) (before now : ℕ) → IfErr r (FlatTextCause limits text) → IfErr r (Caused (FlatFinds limits name files) before now)
  flat_cause (Ok f) before now h = tt
  flat_cause (Err p) before now h = fault_found p before now h

-- nothing has changed, or the output holds a beginning
abbrev BeginsOrKeeps : Word → Word → Files → Files → Type 0
BeginsOrKeeps input output before after = (after ≡ before) ⊎ BeginsFlat input output before after

pub flat_kept : (input output : Word) (old new : Option Files) → new ≡ old → IfTold old new (BeginsOrKeeps input output)
flat_kept input output None new e = tt
flat_kept input output (Some told) new e = subst (λ (o : Option Files). IfTold (Some told) o (BeginsOrKeeps input output)) (sym e) (inl refl)

-- what is written for a file with this flat model
pub flat_of : (input : Word) (model : Model) (instances covers : ℕ) (text : List ℕ) (files : Option Files) → covers ≡ length model.covers → text ≡ text_of model → Reads (lines_of text) model → IsAtMostLimit (first_flat_fault text)
    → IfSome files (λ told. Holds told input (λ bytes. IsFlat flat_limits bytes model instances)) → IfSome files (λ told. Holds told input (λ bytes. IsFlattenedInto bytes instances covers text))
flat_of input model instances covers text files counted spelled reads faultless flat =
    held (λ bytes. IsFlat flat_limits bytes model instances) (λ bytes. IsFlattenedInto bytes instances covers text)
    (λ bytes h. record { short = h.short; model = model; flat = h.flat; counted = counted; spelled = spelled; of_the_grammar = reads; faultless = faultless })
    files input flat

module _ (input output : Word) (instances covers : ℕ) (text written : List ℕ) (same : written ≡ text) (mid new : Option Files) where
  pub flat_written : (old : Option Files) → mid ≡ old → IfSome old (λ told. Holds told input (λ bytes. IsFlattenedInto bytes instances covers text))
      → new ≡ option_map (put_file output written) mid → IfTold old new (HasFlattened input output instances covers)
  flat_written None kept result e = tt
  flat_written (Some told) kept result e =
      subst (λ (o : Option Files). IfTold (Some told) o (HasFlattened input output instances covers))
      (sym (e ∙ ap (option_map (put_file output written)) kept))
      (record { written = text; result = result; files = ap (λ (t : List ℕ). put_file output t told) same })

  pub flat_begun : (old : Option Files) → mid ≡ old → IfSome old (λ told. Holds told input (λ bytes. IsFlattenedInto bytes instances covers text))
      → BeginsFile output written mid new → IfTold old new (BeginsOrKeeps input output)
  flat_begun None kept result begun = tt
  flat_begun (Some told) kept result begun = elim begun [
    | inl unchanged ↦ flat_kept input output (Some told) new (unchanged ∙ kept)
    | inr part ↦
        subst (λ (o : Option Files). IfTold (Some told) o (BeginsOrKeeps input output))
        (sym (part.1 ∙ ap (option_map (put_file output (take part.0 written))) kept))
        (inr (record { instances = instances; covers = covers; written = text; result = result; count = part.0; files = ap (λ (t : List ℕ). put_file output (take part.0 t) told) same }))
  ]
