-- Where more facts are held, no more are missing.
use Rattle.std.proofs.Common.{Bool, List, [], arith, false, length, suc, true, zero, ◌∷◌, ◌≡◌, ◌≤◌}
use Rattle.std.specs.Prelude.{IsTrue}
use Rattle.refutation.specs.Closing.{IsWithin}
use Rattle.refutation.specs.FactSets.{held_by, if_not, is_marked, missing, unmarked}
use Rattle.refutation.specs.declared.held.NodeFacts.{NodeFacts}
use Rattle.refutation.specs.declared.reasoning.Fact.{Fact}
use Rattle.refutation.specs.declared.reasoning.Fact.TheVariants.{Differs, Equal, Faulty, Good}

if_not_less : (a b : Bool) → (IsTrue a → IsTrue b) → if_not b ≤ if_not a
if_not_less true true f = omega arith
if_not_less true false f = let wrong : false ≡ true = f refl' in cc
  where
    refl' : true ≡ true
    refl' = cc
if_not_less false true f = omega arith
if_not_less false false f = omega arith

unmarked_less : (m n : NodeFacts) → ((fact : Fact) → IsTrue (is_marked m fact) → IsTrue (is_marked n fact)) → unmarked n ≤ unmarked m
unmarked_less m n f =
    let a : if_not n.good_is_0 ≤ if_not m.good_is_0 = if_not_less m.good_is_0 n.good_is_0 (f (Good false)) in
    let b : if_not n.good_is_1 ≤ if_not m.good_is_1 = if_not_less m.good_is_1 n.good_is_1 (f (Good true)) in
    let c : if_not n.faulty_is_0 ≤ if_not m.faulty_is_0 = if_not_less m.faulty_is_0 n.faulty_is_0 (f (Faulty false)) in
    let d : if_not n.faulty_is_1 ≤ if_not m.faulty_is_1 = if_not_less m.faulty_is_1 n.faulty_is_1 (f (Faulty true)) in
    let e : if_not n.equal ≤ if_not m.equal = if_not_less m.equal n.equal (f Equal) in
    let g : if_not n.differs ≤ if_not m.differs = if_not_less m.differs n.differs (f Differs) in
    omega arith

pub missing_within : (old new : List NodeFacts) → length new ≡ length old → IsWithin (held_by old) (held_by new) → missing new ≤ missing old
missing_within [] [] size within = omega arith
missing_within [] (n ∷ new) size within = cc
missing_within (m ∷ old) [] size within = cc
missing_within (m ∷ old) (n ∷ new) size within =
    let first : unmarked n ≤ unmarked m = unmarked_less m n (λ fact e. within zero fact e) in
    let rest : missing new ≤ missing old = missing_within old new (omega arith) (λ x fact e. within (suc x) fact e) in
    omega arith
