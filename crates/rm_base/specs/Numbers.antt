-- The numbers of nodes and of pins.
use Rattle.std.specs.Prelude.{ℕ, Bool, true, false, List, map}
use Rattle.rm_base.specs.declared.numbers.NodeId.{NodeId}

-- no node and no pin has this number or a greater one, and there are at most so many of either
abbrev pub number_bound : ℕ
number_bound = 4294967295

-- 1 where it holds
abbrev pub one_if : Bool → ℕ
one_if true = 1
one_if false = 0

-- the constant Zero
abbrev pub zero_number : ℕ
zero_number = 0

-- the constant One
abbrev pub one_number : ℕ
one_number = 1

-- the first source: source k is node first_source + k
abbrev pub first_source : ℕ
first_source = 2

-- the numbers of nodes
abbrev pub numbers_of : List NodeId → List ℕ
numbers_of nodes = map (λ (n : NodeId). n.0) nodes
