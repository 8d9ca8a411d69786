-- Facts on nodes: which are held, which are true, and what is known by them.
use Rattle.std.specs.Prelude.{Bool, IsTrue, None, Option, Some, false, nat_eq, not, true, ℕ, ◌&&◌, ◌||◌, ◌≡◌, ◌⊎◌}
use Rattle.gate_net.specs.Values.{same_bool}
use Rattle.refutation.specs.declared.reasoning.Fact.{Fact}
use Rattle.refutation.specs.declared.reasoning.Fact.TheVariants.{Differs, Equal, Faulty, Good}

-- which facts are held on which nodes
abbrev pub Held : Type 0
Held = ℕ → Fact → Bool

abbrev pub none_held : Held
none_held x fact = false

abbrev pub same_fact : Fact → Fact → Bool
same_fact (Good b) (Good c) = same_bool b c
same_fact (Faulty b) (Faulty c) = same_bool b c
same_fact Equal Equal = true
same_fact Differs Differs = true
same_fact _ _ = false

-- the fact is held too
abbrev pub with_fact : Held → ℕ → Fact → Held
with_fact held x fact y other = (nat_eq y x && same_fact other fact) || held y other

-- the fact is held no longer
abbrev pub without_fact : Held → ℕ → Fact → Held
without_fact held x fact y other = not (nat_eq y x && same_fact other fact) && held y other

-- two opposed facts are held on the node
abbrev pub AreOpposed : Held → ℕ → Type 0
AreOpposed held x =
    (IsTrue (held x (Good false)) × IsTrue (held x (Good true)))
    ⊎ ((IsTrue (held x (Faulty false)) × IsTrue (held x (Faulty true))) ⊎ (IsTrue (held x Equal) × IsTrue (held x Differs)))

-- the one of two values of which alone the fact is held
abbrev pub one_of : Bool → Bool → Option Bool
one_of true false = Some false
one_of false true = Some true
one_of _ _ = None

abbrev pub known_good : Held → ℕ → Option Bool
known_good held x = one_of (held x (Good false)) (held x (Good true))

abbrev pub known_faulty : Held → ℕ → Option Bool
known_faulty held x = one_of (held x (Faulty false)) (held x (Faulty true))

-- Some true where it is known to be equal, Some false where it is known to differ
abbrev pub known_equal : Held → ℕ → Option Bool
known_equal held x = one_of (held x Differs) (held x Equal)

-- what the fact says of the node's good and faulty values
abbrev pub IsTrueFact : (ℕ → Bool) → (ℕ → Bool) → ℕ → Fact → Type 0
IsTrueFact v f x (Good b) = v x ≡ b
IsTrueFact v f x (Faulty b) = f x ≡ b
IsTrueFact v f x Equal = v x ≡ f x
IsTrueFact v f x Differs = v x ≡ not (f x)

-- each fact that is held is true
abbrev pub AreTrueFacts : (ℕ → Bool) → (ℕ → Bool) → Held → Type 0
AreTrueFacts v f held = (x : ℕ) (fact : Fact) → held x fact ≡ true → IsTrueFact v f x fact
