-- Numbers drawn one after another: each draw steps the state, and answers from its upper bits.
use Rattle.std.specs.Prelude.{◌+◌, ◌*◌, ◌/◌, ◌%◌, ◌^◌, ℕ, zero, suc, List, [], ◌∷◌}

-- the state after one more draw
abbrev pub next_state : ℕ → ℕ
next_state x = (x * 6364136223846793005 + 1442695040888963407) % 2 ^ 64

-- what a draw below k answers, at the state that it stepped to
abbrev pub answer : ℕ → ℕ → ℕ
answer k x = (x / 2 ^ 33) % k

-- the state after so many draws
unfoldable pub after : ℕ → ℕ → ℕ
after zero x = x
after (suc n) x = after n (next_state x)

-- what so many draws below k answer
unfoldable pub drawn : ℕ → ℕ → ℕ → List ℕ
drawn zero k x = []
drawn (suc n) k x = answer k (next_state x) ∷ drawn n k (next_state x)
