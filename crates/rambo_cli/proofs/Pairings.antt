-- From what is found of two texts, one after the other, to what is said of both.
use Rattle.std.proofs.Common.{◌≡◌, ◌≤◌, ℕ, sym, subst, inl, inr}
use Rattle.std.specs.Prelude.{Option, None, Some, IfSome}
use Rattle.rm_base.specs.Files.{Files, file_of}
use Rattle.rm_base.specs.Words.{Word}
use Rattle.rm_model.specs.declared.parts.Model.{Model}
use Rattle.blif_format.specs.Laws.{ReadsOnce}
use Rattle.cover_decompose.specs.Count.{decomposed}
use Rattle.cover_decompose.specs.Spelled.{plain_decomposed}
use Rattle.rambo_cli.specs.Contract.{Caused}
use Rattle.rambo_cli.specs.Files.{Holds, OfFile}
use Rattle.rambo_cli.specs.Input.{CauseBy, IsGoodBy}
use Rattle.rambo_cli.specs.Pairs.{AreRead, PairFinds}
use Rattle.rambo_cli.specs.Written.{IsSaid}
use Rattle.rambo_cli.specs.Inner.Pairs.{IsOfSecond, second_problem, wires_by}
use Rattle.rambo_cli.specs.declared.pairs.Parities.{Parities}
use Rattle.rambo_cli.specs.declared.pairs.Parities.TheVariants.{AsGates, ByRows}
use Rattle.rambo_cli.specs.declared.problem.Problem.{Problem}
use Rattle.rambo_cli.specs.declared.problem.Problem.TheVariants.{Words, Text, Limit, Missing, Fault, Journal, Record, Netlist, Second, Unlike, CareShape, Window, Proof, Memory}
use Rattle.rambo_cli.proofs.TextsFound.{said_good, weaker}
use Rattle.rambo_cli.proofs.Rising.{risen_after}

-- a cause that stands for either count stands for the one that is asked for
pub either : (parities : Parities) (name : Word) (files : Option Files) (before now : ℕ) (problem : Problem) → CauseBy decomposed name files before now problem → CauseBy plain_decomposed name files before now problem → CauseBy (wires_by parities) name files before now problem
either AsGates name files before now problem own plain = own
either ByRows name files before now problem own plain = plain

-- what is found of the first text
pub first_cause : (wires : Model → ℕ) (first second : Word) (files : Option Files) (before now : ℕ) (problem : Problem) → CauseBy wires first files before now problem → Caused (PairFinds wires first second files) before now problem
first_cause wires first second files before now Fault h = h
first_cause wires first second files before now Memory h = tt
first_cause wires first second files before now Words h = absurd h
first_cause wires first second files before now (Text kind place) h = h
first_cause wires first second files before now (Limit quantity count) h = h
first_cause wires first second files before now Missing h = inl h
first_cause wires first second files before now (Journal f) h = absurd h
first_cause wires first second files before now (Record r) h = absurd h
first_cause wires first second files before now (Netlist byte) h = absurd h
first_cause wires first second files before now (Second found) h = absurd h
first_cause wires first second files before now (Unlike list at) h = absurd h
first_cause wires first second files before now CareShape h = absurd h
first_cause wires first second files before now (Window number stop) h = absurd h
first_cause wires first second files before now (Proof found) h = absurd h

-- a first text that says a model within the limits can be optimised
first_good : (wires : Model → ℕ) (once : ReadsOnce) (m : Model) (first : Word) (files : Option Files) → wires m ≤ 65536 → IfSome files (λ told. Holds told first (λ text. IsSaid text m)) → OfFile first files (IsGoodBy wires)
first_good wires once m first None few said = tt
first_good wires once m first (Some told) few said = weaker (file_of told first) (λ text. IsSaid text m) (IsGoodBy wires) said (λ text is. said_good once wires m text few is)

-- and of the second one behind it
own_cause : (wires : Model → ℕ) (first second : Word) (files : Option Files) (before mid now : ℕ) (own : Problem) → before ≤ mid → OfFile first files (IsGoodBy wires) → CauseBy wires second files mid now own → Caused (PairFinds wires first second files) before now (second_problem own)
own_cause wires first second files before mid now Fault later good h = risen_after before mid now later h
own_cause wires first second files before mid now Memory later good h = tt
own_cause wires first second files before mid now Words later good h = absurd h
own_cause wires first second files before mid now (Text kind place) later good h = (good, h)
own_cause wires first second files before mid now (Limit quantity count) later good h = (good, h)
own_cause wires first second files before mid now Missing later good h = inr (good, h)
own_cause wires first second files before mid now (Journal f) later good h = absurd h
own_cause wires first second files before mid now (Record r) later good h = absurd h
own_cause wires first second files before mid now (Netlist byte) later good h = absurd h
own_cause wires first second files before mid now (Second found) later good h = absurd h
own_cause wires first second files before mid now (Unlike list at) later good h = absurd h
own_cause wires first second files before mid now CareShape later good h = absurd h
own_cause wires first second files before mid now (Window number stop) later good h = absurd h
own_cause wires first second files before mid now (Proof found) later good h = absurd h

pub second_cause : (wires : Model → ℕ) (once : ReadsOnce) (m : Model) (first second : Word) (old read : Option Files) (before mid now : ℕ) (problem : Problem) → read ≡ old → before ≤ mid → wires m ≤ 65536 → IfSome old (λ told. Holds told first (λ text. IsSaid text m))
    → IsOfSecond (CauseBy wires second read mid now) problem → Caused (PairFinds wires first second old) before now problem
second_cause wires once m first second old read before mid now problem same later few said cause =
    subst (Caused (PairFinds wires first second old) before now) (sym cause.1.0)
    (own_cause wires first second old before mid now cause.0 later (first_good wires once m first old few said) (subst (λ (o : Option Files). CauseBy wires second o mid now cause.0) same cause.1.1))

-- both texts are read
pub both_read : (wires : Model → ℕ) (m n : Model) (first second : Word) (old read : Option Files) → read ≡ old → wires m ≤ 65536 → wires n ≤ 65536 → IfSome old (λ told. Holds told first (λ text. IsSaid text m)) → IfSome read (λ told. Holds told second (λ text. IsSaid text n))
    → IfSome old (AreRead wires first second m n)
both_read wires m n first second None read same few more said other = tt
both_read wires m n first second (Some told) read same few more said other =
    record { first_is = said; second_is = subst (λ (o : Option Files). IfSome o (λ told. Holds told second (λ text. IsSaid text n))) same other; few = few; second_few = more }
