-- Blocks of kept vectors.
use Rattle.std.proofs.Common.{◌≡◌, ℕ, suc, ◌+◌, ◌-◌, ◌<◌, ◌≤◌, ◌⊎◌, inl, inr, Bool, Some, List, [], ◌∷◌, ◌++◌, length, map, min, take, drop, refl, sym, ◌∙◌, ap, subst, append_assoc, arith}
use Rattle.std.specs.Prelude.{slice_get}
use Rattle.std.proofs.Math.Nat.{min_comm}
use Rattle.std.proofs.lemmas.List.{drop_min, map-append, take_min}
use Rattle.podem.specs.declared.verdict.Verdict.{Verdict}
use Rattle.rm_base.specs.declared.numbers.Fault.{Fault}
use Rattle.closing_pass.specs.Blocks.{HaveVector, HaveVectors}
use Rattle.closing_pass.specs.Inner.Blocks.{AreBlocksOf, AreKept}
use Rattle.closing_pass.specs.Inner.Findings.{AreLong, ArePacked}
use Rattle.closing_pass.proofs.Standing.{stands_dropped, stands_taken, taken_stands}
use Rattle.closing_pass.proofs.Tries.{lt_or_le}

-- with one more block
pub block_more : {A : Type 0} (f : A → List ℕ) (vectors rest : List (List Bool)) (done : List A) (words : A)
    → ((more : List (List ℕ)) → AreBlocksOf rest more → AreBlocksOf vectors (map f done ++ more)) → ArePacked (take 64 rest) (f words)
    → (more : List (List ℕ)) → AreBlocksOf (drop 64 rest) more → AreBlocksOf vectors (map f (done ++ words ∷ []) ++ more)
block_more f vectors rest done words h packed more are =
    let e : map f (done ++ words ∷ []) ++ more ≡ map f done ++ (f words ∷ more) = ap (λ (l : List (List ℕ)). l ++ more) (map-append f done (words ∷ [])) ∙ append_assoc (map f done) (f words ∷ []) more in
    subst (AreBlocksOf vectors) (sym e) (h (f words ∷ more) (packed, are))

-- at most 64 of them
pub take_most : (rest : List (List Bool)) → take (min (length rest) 64) rest ≡ take 64 rest
take_most rest = ap (λ (n : ℕ). take n rest) (min_comm (length rest) 64) ∙ take_min 64 rest

pub drop_most : (rest : List (List Bool)) → drop (min (length rest) 64) rest ≡ drop 64 rest
drop_most rest = ap (λ (n : ℕ). drop n rest) (min_comm (length rest) 64) ∙ drop_min 64 rest

pub none_left : (rest : List (List Bool)) → length rest ≡ 0 → rest ≡ []
none_left [] e = refl
none_left (v ∷ rest) e = absurd (omega (arith, e))

-- what is left has as many values a vector
pub long_rest : (rest : List (List Bool)) (n sources : ℕ) → AreLong rest sources → AreLong (drop n rest) sources
long_rest rest n sources long k v is = long (n + k) v (sym (stands_dropped rest n k) ∙ is)

pub long_block : (rest : List (List Bool)) (n sources : ℕ) → AreLong rest sources → AreLong (take n rest) sources
long_block rest n sources long k v is = long k v (stands_taken rest n k v is)

-- each vector is in a lane of a block
pub blocks_have : (vectors : List (List Bool)) (blocks : List (List ℕ)) → AreBlocksOf vectors blocks → (n : ℕ) (v : List Bool) → slice_get vectors n ≡ Some v → HaveVector blocks v
blocks_have vectors [] none n v is = absurd (no_more vectors none n v is)
  where
    no_more : (vs : List (List Bool)) → vs ≡ [] → (k : ℕ) (u : List Bool) → slice_get vs k ≡ Some u → ⊥
    no_more [] e k u there = absurd (cc)
    no_more (w ∷ vs) e k u there = absurd (cc)
blocks_have vectors (words ∷ blocks) (packed, are) n v is = at (lt_or_le n 64) (λ k there. blocks_have (drop 64 vectors) blocks are k v there)
  where
    later : HaveVector blocks v → HaveVector (words ∷ blocks) v
    later (k, i, (lane, (ws, (there, same)))) = (suc k, i, (lane, (ws, (there, same))))

    at : (n < 64) ⊎ (64 ≤ n) → ((k : ℕ) → slice_get (drop 64 vectors) k ≡ Some v → HaveVector blocks v) → HaveVector (words ∷ blocks) v
    at (inl lt) rest = (0, n, (lt, (words, (refl, packed n v (taken_stands vectors 64 n lt ∙ is)))))
    at (inr le) rest = let e : 64 + (n - 64) ≡ n = omega (arith, le) in later (rest (n - 64) (stands_dropped vectors 64 (n - 64) ∙ ap (slice_get vectors) e ∙ is))

-- the blocks have all vectors of verdicts, where these are kept
pub blocks_have_all : (kept : List (List Bool)) (blocks : List (List ℕ)) (verdicts : List (Fault × Verdict)) → AreBlocksOf kept blocks → AreKept kept verdicts → HaveVectors blocks verdicts
blocks_have_all kept blocks verdicts are all j fault vector is =
    let k : (n : ℕ) × (slice_get kept n ≡ Some vector) = all j fault vector is in
    blocks_have kept blocks are k.0 vector k.1
