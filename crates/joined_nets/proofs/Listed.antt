-- Nodes in lists.
use Rattle.std.proofs.Common.{List, [], ap, arith, drop, length, suc, zero, ℕ, ◌++◌, ◌+◌, ◌-◌, ◌<◌, ◌∷◌, ◌≡◌, ◌≤◌, ◌≢◌}
use Rattle.std.specs.Prelude.{None, Option, Some, slice_get}
use Rattle.gate_net.specs.Net.{Net, Node, flatten_option, node_at}
use Rattle.rm_base.proofs.Public.{slice_get_below}

pub drop_at : {A : Type 0} (xs : List A) (n x : ℕ) (o : A) → n ≤ x → slice_get xs x ≡ Some o → slice_get (drop n xs) (x - n) ≡ Some o
drop_at xs zero x o le e = let same : x - 0 ≡ x = omega arith in rw same e
drop_at [] (suc n) x o le e = cc
drop_at (y ∷ ys) (suc n) zero o le e = absurd (omega arith)
drop_at (y ∷ ys) (suc n) (suc x) o le e = let same : suc x - suc n ≡ x - n = omega arith in rw same (drop_at ys n x o (omega arith) e)

pub back_at : {A : Type 0} (xs ys : List A) (k : ℕ) (o : A) → slice_get ys k ≡ Some o → slice_get (xs ++ ys) (length xs + k) ≡ Some o
back_at [] ys k o e = let same : 0 + k ≡ k = omega arith in rw same e
back_at (x ∷ xs) ys k o e = let same : suc (length xs) + k ≡ suc (length xs + k) = omega arith in rw same (back_at xs ys k o e)

-- a live node has a number below the length
pub live_below : (net : Net) (x : ℕ) → node_at net x ≢ None → x < length net.nodes
live_below net x live = slice_get_below net.nodes x (λ e. live (ap (λ (o : Option (Option Node)). flatten_option o) e))
