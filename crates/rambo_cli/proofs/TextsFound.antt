-- Nothing is found of texts that can be optimised.
use Rattle.std.proofs.Common.{◌≡◌, ◌≤◌, ℕ, List, arith, inl, inr, subst}
use Rattle.std.specs.Prelude.{Option, None, Some, IsSomeAnd}
use Rattle.rm_base.specs.Files.{Files, file_of}
use Rattle.rm_base.specs.Words.{Word}
use Rattle.rm_base.specs.declared.numbers.Place.{Place}
use Rattle.rm_model.specs.declared.parts.Model.{Model}
use Rattle.blif_lines.specs.Layout.{lines_of}
use Rattle.blif_format.specs.Laws.{ReadsOnce}
use Rattle.blif_format.specs.FirstFault.{first_fault}
use Rattle.blif_format.specs.declared.refusal.FaultKind.{FaultKind}
use Rattle.blif_format.specs.declared.refusal.ReadRefusal.{ReadRefusal}
use Rattle.blif_format.specs.declared.refusal.ReadRefusal.TheVariants as refusal
use Rattle.blif_format.specs.declared.refusal.Quantity.{Quantity}
use Rattle.rambo_cli.specs.Files.{Holds}
use Rattle.rambo_cli.specs.Input.{FindsBy, IsGoodBy}
use Rattle.rambo_cli.specs.Pairs.{AreRead, CanBeCompared, PairFinds}
use Rattle.rambo_cli.specs.Written.{ExceedsBy, HasFault, IsSaid}
use Rattle.rambo_cli.specs.declared.problem.TextProblem.TheVariants as found
use Rattle.rambo_cli.specs.declared.problem.Problem.{Problem}
use Rattle.rambo_cli.specs.declared.problem.Problem.TheVariants.{Words, Text, Limit, Missing, Fault, Journal, Record, Netlist, Second, Unlike, CareShape, Window, Proof, Memory}

-- of one file two facts hold together
pub together : (o : Option (List ℕ)) (P Q : List ℕ → Type 0) → IsSomeAnd o P → IsSomeAnd o Q → ((text : List ℕ) → P text → Q text → ⊥) → ⊥
together None P Q p q never = p
together (Some text) P Q p q never = never text p q

pub weaker : (o : Option (List ℕ)) (P Q : List ℕ → Type 0) → IsSomeAnd o P → ((text : List ℕ) → P text → Q text) → IsSomeAnd o Q
weaker None P Q p f = p
weaker (Some text) P Q p f = f text p

pub present : (o : Option (List ℕ)) (P : List ℕ → Type 0) → IsSomeAnd o P → o ≡ None → ⊥
present None P p e = p
present (Some text) P p e = cc

pub none_or_some : (o : Option ReadRefusal) (r : ReadRefusal) → o ≡ None → o ≡ Some r → ⊥
none_or_some o r e f = cc

no_fault : (wires : Model → ℕ) (kind : FaultKind) (place : Place) (text : List ℕ) → IsGoodBy wires text → HasFault text kind place → ⊥
no_fault wires kind place text good fault = none_or_some (first_fault text) (refusal.Fault kind place) good.faultless fault.fault

no_limit : (wires : Model → ℕ) (quantity : Quantity) (count : ℕ) (text : List ℕ) → IsGoodBy wires text → ExceedsBy wires text quantity count → ⊥
no_limit wires quantity count text good h = elim h [
  | inl long ↦ omega (arith, long.long, good.short)
  | inr short ↦ elim short [
    | inl at ↦ none_or_some (first_fault text) (refusal.Limit quantity count at.place) good.faultless at.fault
    | inr pins ↦ omega (arith, pins.many, good.few pins.model pins.reads)
  ]
]

-- nothing is found of an input that can be optimised
pub read_finds_none : (wires : Model → ℕ) (input : Word) (told : Files) (problem : Problem) → Holds told input (IsGoodBy wires) → FindsBy wires input (Some told) problem → ⊥
read_finds_none wires input told (Text kind place) good h = together (file_of told input) (IsGoodBy wires) (λ text. HasFault text kind place) good h (no_fault wires kind place)
read_finds_none wires input told (Limit quantity count) good h = together (file_of told input) (IsGoodBy wires) (λ text. ExceedsBy wires text quantity count) good h (no_limit wires quantity count)
read_finds_none wires input told Missing good h = present (file_of told input) (IsGoodBy wires) good h
read_finds_none wires input told Fault good h = h
read_finds_none wires input told Memory good h = h
read_finds_none wires input told Words good h = h
read_finds_none wires input told (Journal f) good h = h
read_finds_none wires input told (Record r) good h = h
read_finds_none wires input told (Netlist byte) good h = h
read_finds_none wires input told (Second found) good h = h
read_finds_none wires input told (Unlike list at) good h = h
read_finds_none wires input told CareShape good h = h
read_finds_none wires input told (Window number stop) good h = h
read_finds_none wires input told (Proof found) good h = h

-- nor of two texts that can
pub pair_finds_none : (wires : Model → ℕ) (first second : Word) (told : Files) (problem : Problem) → CanBeCompared wires first second told → PairFinds wires first second (Some told) problem → ⊥
pair_finds_none wires first second told (Text kind place) good h = read_finds_none wires first told (Text kind place) good.first_is h
pair_finds_none wires first second told (Limit quantity count) good h = read_finds_none wires first told (Limit quantity count) good.first_is h
pair_finds_none wires first second told Missing good h = elim h [
  | inl one ↦ read_finds_none wires first told Missing good.first_is one
  | inr two ↦ read_finds_none wires second told Missing good.second_is two.1
]
pair_finds_none wires first second told (Second (found.Fault kind place)) good h = read_finds_none wires second told (Text kind place) good.second_is h.1
pair_finds_none wires first second told (Second (found.Limit quantity count)) good h = read_finds_none wires second told (Limit quantity count) good.second_is h.1
pair_finds_none wires first second told Fault good h = h
pair_finds_none wires first second told Memory good h = h
pair_finds_none wires first second told Words good h = h
pair_finds_none wires first second told (Journal f) good h = h
pair_finds_none wires first second told (Record r) good h = h
pair_finds_none wires first second told (Netlist byte) good h = h
pair_finds_none wires first second told (Unlike list at) good h = h
pair_finds_none wires first second told CareShape good h = h
pair_finds_none wires first second told (Window number stop) good h = h
pair_finds_none wires first second told (Proof found) good h = h

module _ (once : ReadsOnce) where
  pub said_good : (wires : Model → ℕ) (model : Model) (text : List ℕ) → wires model ≤ 65536 → IsSaid text model → IsGoodBy wires text
  said_good wires model text few said = record {
    short = said.short;
    faultless = said.faultless;
    few = λ other reads. subst (λ (m : Model). wires m ≤ 65536) (once (lines_of text) model other said.reads reads) few;
  }

  pub same_model : (model other : Model) (P : Type 0) (text : List ℕ) → (model ≡ other → P) → IsSaid text model → IsSaid text other → P
  same_model model other P text f one two = f (once (lines_of text) model other one.reads two.reads)

  pub pair_good : (wires : Model → ℕ) (m n : Model) (first second : Word) (told : Files) → AreRead wires first second m n told → CanBeCompared wires first second told
  pair_good wires m n first second told read = record {
    first_is = weaker (file_of told first) (λ text. IsSaid text m) (IsGoodBy wires) read.first_is (λ text said. said_good wires m text read.few said);
    second_is = weaker (file_of told second) (λ text. IsSaid text n) (IsGoodBy wires) read.second_is (λ text said. said_good wires n text read.second_few said);
  }
