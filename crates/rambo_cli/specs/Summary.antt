-- The summary of a run: five lines, and four where no wire is added.
use Rattle.std.specs.Prelude.{ℕ, Bool, List, [], ◌∷◌, ◌++◌, codes, if◌then◌else◌}
use Rattle.std.specs.Fmt.{decimal}
use Rattle.optimisation.specs.declared.optimised.Figures.{Figures}
use Rattle.rambo_cli.specs.declared.summary.CareFigures.{CareFigures}

abbrev pub settled_word : Bool → List ℕ
settled_word settled = if settled then codes "settled" else codes "spent"

-- `wires D W`: those of the decomposition and those written
abbrev pub wires_line : Figures → List ℕ
wires_line f = codes "wires " ++ (decimal f.wires_before ++ (codes " " ++ (decimal f.wires ++ 10 ∷ [])))

-- `gates D W`
abbrev pub gates_line : Figures → List ℕ
gates_line f = codes "gates " ++ (decimal f.gates_before ++ (codes " " ++ (decimal f.gates ++ 10 ∷ [])))

-- `steps ADDS FIXES LOCAL`
abbrev pub steps_line : Figures → List ℕ
steps_line f = codes "steps " ++ (decimal f.made.adds ++ (codes " " ++ (decimal f.made.fixes ++ (codes " " ++ (decimal f.made.local ++ 10 ∷ [])))))

-- `tries T settled`, or `spent` for `settled`
abbrev pub tries_line : Figures → List ℕ
tries_line f = codes "tries " ++ (decimal f.tries ++ (codes " " ++ (settled_word f.settled ++ 10 ∷ [])))

-- `faults HIT SPENT`
abbrev pub faults_line : Figures → List ℕ
faults_line f = codes "faults " ++ (decimal f.tested ++ (codes " " ++ (decimal f.spent ++ 10 ∷ [])))

abbrev pub summary_text : Figures → List ℕ
summary_text f = wires_line f ++ (gates_line f ++ (steps_line f ++ (tries_line f ++ faults_line f)))

-- the lines `wires`, `gates`, `steps` and `faults` of `optcare`
abbrev pub care_text : CareFigures → List ℕ
care_text f =
    (codes "wires " ++ (decimal f.wires_before ++ (codes " " ++ (decimal f.wires ++ 10 ∷ []))))
    ++ ((codes "gates " ++ (decimal f.gates_before ++ (codes " " ++ (decimal f.gates ++ 10 ∷ []))))
    ++ ((codes "steps " ++ (decimal f.made.adds ++ (codes " " ++ (decimal f.made.fixes ++ (codes " " ++ (decimal f.made.local ++ 10 ∷ []))))))
    ++ (codes "faults " ++ (decimal f.tested ++ (codes " " ++ (decimal f.spent ++ 10 ∷ []))))))
