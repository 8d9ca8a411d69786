-- What the code keeps of the models that are called.
use Rattle.std.specs.Prelude.{◌≡◌, ℕ, not, List, [], ◌∷◌, ◌++◌, map, drop, get_or, length, slice_get, Option, None, Some}
use Rattle.std.specs.Borrow.{Bor}
use Rattle.std.specs.List.{filter_map}
use Rattle.rm_base.specs.declared.numbers.Place.{Place}
use Rattle.blif_lines.specs.Reading.{spot_of}
use Rattle.blif_lines.specs.declared.line.Token.{Token}
use Rattle.blif_format.specs.declared.refusal.FaultKind.TheVariants.{MissingPin}
use Rattle.blif_format.specs.FirstFault.{or_else, fault_if}
use Rattle.blif_reader.specs.Lines.{spots_at}
use Rattle.blif_flatten.specs.declared.calls.Callable.{Callable}
use Rattle.rm_base.specs.Words.{Word}
use Rattle.rm_model.specs.Value.{is_among}
use Rattle.rm_model.specs.declared.parts.Model.{Model}
use Rattle.blif_format.specs.declared.refusal.ReadRefusal.{ReadRefusal}
use Rattle.blif_flatten.specs.declared.interfaces.Formals.{Formals}
use Rattle.blif_flatten.specs.declared.interfaces.Interface.{Interface}
use Rattle.blif_flatten.specs.declared.modules.Module.{Module}
use Rattle.blif_flatten.specs.declared.modules.Link.{Link}
use Rattle.blif_flatten.specs.Calls.{Call, Connection, connection_of}
use Rattle.blif_flatten.specs.CallFaults.{inward, call_fault, formals_fault, gives_inputs, module_name, place_named}
use Rattle.blif_flatten.specs.Instances.{link_of}

abbrev pub bytes_of : List (Bor Word) → List Word
bytes_of names = map (λ (k : Bor Word). k.now) names

-- the names, each once
pub record AreFormals (f : Formals) (names : List Word) : Type 0 where
  pub listed : bytes_of f.names.items ≡ f.table
  pub among : (x : Word) → is_among f.table x ≡ is_among names x

pub record IsInterface (i : Interface) (m : Model) : Type 0 where
  pub inward_are : AreFormals i.inward (inward m)
  pub outputs_are : AreFormals i.outputs m.outputs

-- those of the modules, in order
pub record AreInterfaces (interfaces : List Interface) (modules : List Module) : Type 0 where
  pub count : length interfaces ≡ length modules
  pub each : (k : ℕ) (i : Interface) (m : Module) → slice_get interfaces k ≡ Some i → slice_get modules k ≡ Some m → IsInterface i m.model

-- the code's models that calls name are these
pub record IsCallable (c : Callable) (modules : List Module) : Type 0 where
  pub names_are : c.names ≡ map module_name modules
  pub interfaces_are : AreInterfaces c.interfaces.items modules

-- the name is that of a module, which has the interface
pub record Names (modules : List Module) (name : Word) (i : Interface) : Type 0 where
  pub place : ℕ
  pub found : place_named modules name ≡ Some place
  pub callee : Module
  pub there : slice_get modules place ≡ Some callee
  pub interface : IsInterface i callee.model

abbrev pub pins_at : Word → List Token → List Connection
pins_at text pins = filter_map connection_of (spots_at text pins)

abbrev pub no_token : Token
no_token = record { start = 0; end = 0; place = record { line = 0; column = 0 } }

-- the call that a line of two tokens or more is
abbrev pub call_at : Word → List Token → Call
call_at text line = record {
  place = (get_or line 0 no_token).place;
  callee = (spot_of text (get_or line 1 no_token)).word;
  callee_place = (get_or line 1 no_token).place;
  pins = pins_at text (drop 2 line);
}

-- a formal that the model has and that isn't given yet is given; a word that is no pin gives none
abbrev pub TakesFormal : Model → List Word → Option Connection → List Word → Type 0
TakesFormal m given None after = after ≡ given
TakesFormal m given (Some p) after = (formals_fault m given (p ∷ []) ≡ None) × (after ≡ given ++ p.formal ∷ [])

abbrev pub pins_fault_in : Model → Place → List Connection → Option ReadRefusal
pins_fault_in m place pins = or_else (formals_fault m [] pins) (fault_if (not (gives_inputs m pins)) MissingPin place)

-- the fault of a line that may be a call
abbrev pub fault_of_call : List Module → Option Call → Option ReadRefusal
fault_of_call modules None = None
fault_of_call modules (Some c) = call_fault modules c

-- the link of a line that may be a call
abbrev pub link_of_call : List Module → Option Call → Option Link
link_of_call modules None = None
link_of_call modules (Some c) = link_of modules c
