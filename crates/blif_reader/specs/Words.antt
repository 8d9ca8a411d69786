-- The parts of a model by the words of their lines.
use Rattle.std.specs.Prelude.{◌==◌, ◌≢◌, ◌≤◌, ℕ, List, [], ◌∷◌, map, length, codes, IfSome, Option, None, Some, if◌then◌else◌}
use Rattle.rm_base.specs.Words.{Word}
use Rattle.rm_model.specs.Words.{is_word}
use Rattle.rm_model.specs.Value.{control_of}
use Rattle.rm_model.specs.declared.parts.Literal.{Literal}
use Rattle.rm_model.specs.declared.parts.Literal.TheVariants.{Zero, One, Any}
use Rattle.rm_model.specs.declared.parts.LatchKind.{LatchKind}
use Rattle.rm_model.specs.declared.parts.LatchKind.TheVariants.{Fe, Re, Ah, Al, As}
use Rattle.rm_model.specs.declared.parts.Timing.{Timing}
use Rattle.rm_model.specs.declared.parts.Latch.{Latch}

abbrev pub literal_from : ℕ → Literal
literal_from b = if b == 48 then Zero else (if b == 49 then One else Any)

abbrev pub kind_from : Word → LatchKind
kind_from w =
    if is_word (codes "fe") w then Fe
    else (if is_word (codes "re") w then Re
    else (if is_word (codes "ah") w then Ah
    else (if is_word (codes "al") w then Al else As)))

abbrev pub control_from : Word → Option Word
control_from w = if is_word (codes "NIL") w then None else Some w

abbrev pub timing_from : Word → Word → Timing
timing_from kind control = record { kind = kind_from kind; control = control_from control }

abbrev pub init_from : Word → ℕ
init_from w =
    if is_word (codes "0") w then 0
    else (if is_word (codes "1") w then 1
    else (if is_word (codes "2") w then 2 else 3))

abbrev pub latch_with : Word → Word → Option Timing → Option ℕ → Latch
latch_with input output timing init = record { input = input; output = output; timing = timing; init = init }

-- a latch by the words behind `.latch`
abbrev pub latch_from : List Word → Latch
latch_from (a ∷ b ∷ []) = latch_with a b None None
latch_from (a ∷ b ∷ c ∷ []) = latch_with a b None (Some (init_from c))
latch_from (a ∷ b ∷ c ∷ d ∷ []) = latch_with a b (Some (timing_from c d)) None
latch_from (a ∷ b ∷ c ∷ d ∷ e ∷ ws) = latch_with a b (Some (timing_from c d)) (Some (init_from e))
latch_from words = latch_with [] [] None None

-- what a text can say of a latch: its init value, and a control that isn't `NIL`
abbrev pub IsFitLatch : Latch → Type 0
IsFitLatch l = IfSome l.init (λ n. n ≤ 3) × IfSome (control_of l) (λ x. x ≢ codes "NIL")
