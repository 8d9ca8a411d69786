-- The problems of the second of two texts, and how the wires of both are counted.
use Rattle.std.specs.Prelude.{◌≡◌, ℕ}
use Rattle.cover_decompose.specs.Count.{decomposed}
use Rattle.cover_decompose.specs.Spelled.{plain_decomposed}
use Rattle.rm_model.specs.declared.parts.Model.{Model}
use Rattle.rambo_cli.specs.declared.pairs.Parities.{Parities}
use Rattle.rambo_cli.specs.declared.pairs.Parities.TheVariants.{AsGates, ByRows}
use Rattle.rambo_cli.specs.declared.problem.TextProblem.TheVariants as found
use Rattle.rambo_cli.specs.declared.problem.Problem.{Problem}
use Rattle.rambo_cli.specs.declared.problem.Problem.TheVariants.{Words, Text, Limit, Missing, Fault, Journal, Record, Netlist, Second, Unlike, CareShape, Window, Proof, Memory}

-- a problem of a text as one of the second text
abbrev pub second_problem : Problem → Problem
second_problem (Text kind place) = Second (found.Fault kind place)
second_problem (Limit quantity count) = Second (found.Limit quantity count)
second_problem Words = Words
second_problem Missing = Missing
second_problem Fault = Fault
second_problem (Journal f) = Journal f
second_problem (Record r) = Record r
second_problem (Netlist byte) = Netlist byte
second_problem (Second found) = Second found
second_problem (Unlike list at) = Unlike list at
second_problem CareShape = CareShape
second_problem (Window number stop) = Window number stop
second_problem (Proof found) = Proof found
second_problem Memory = Memory

-- it is such a problem, of which this holds
abbrev pub IsOfSecond : (Problem → Type 0) → Problem → Type 0
IsOfSecond P problem = (own : Problem) × ((problem ≡ second_problem own) × P own)

-- the wires of the decomposition, with parity covers so
abbrev pub wires_by : Parities → Model → ℕ
wires_by AsGates = decomposed
wires_by ByRows = plain_decomposed
