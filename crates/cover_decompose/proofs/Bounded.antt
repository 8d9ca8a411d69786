-- A decomposition has no more wires than its rows and literals allow.
use Rattle.std.proofs.Common.{◌≡◌, ◌≤◌, ◌<◌, ◌+◌, ℕ, zero, suc, Bool, true, false, List, [], ◌∷◌, ◌++◌, map, filter, length, refl, sym, ◌∙◌, arith, nat_eq, inl, inr, length-append}
use Rattle.std.specs.Prelude.{Option, None, Some, if◌then◌else◌, sum_by, unwrap_or}
use Rattle.std.specs.List.{flat_map, zip}
use Rattle.std.proofs.lemmas.List.Sums.{sum_by-cons, sum_by-append}
use Rattle.std.proofs.lemmas.Bool.Decides.{eqb_tells}
use Rattle.rm_model.specs.Value.{is_among, observed_names}
use Rattle.rm_model.specs.Ranks.{ranks_of}
use Rattle.rm_model.specs.declared.parts.Literal.{Literal}
use Rattle.rm_model.specs.declared.parts.Literal.TheVariants.{Zero, One, Any}
use Rattle.rm_model.specs.declared.parts.Cover.{Cover}
use Rattle.cover_decompose.specs.Needed.{taken, of_rank, of_ranks, covers_by_rank, is_needed, needed_of}
use Rattle.cover_decompose.specs.Count.{literal_count, joining, cover_wires, wires_by, zero_names, cover_zero_names, new_count, zero_names_by}
use Rattle.cover_decompose.specs.Parity.{parity_ending}
use Rattle.cover_decompose.proofs.Parities.{IsParity, is_parity}
use Rattle.rm_model.specs.Size.{rows_weight, covers_weight}
use Rattle.cover_decompose.specs.Bounds.{WiresAreBounded}
use Rattle.rm_base.specs.Words.{Word}

abbrev weight : Cover → ℕ
weight c = rows_weight c.rows + 1

literals_le : (ls : List Literal) → literal_count ls ≤ length ls
literals_le [] = omega arith
literals_le (Any ∷ ls) = let h : literal_count ls ≤ length ls = literals_le ls in omega arith
literals_le (Zero ∷ ls) = let h : literal_count ls ≤ length ls = literals_le ls in omega arith
literals_le (One ∷ ls) = let h : literal_count ls ≤ length ls = literals_le ls in omega arith

joining_le : (n : ℕ) → joining n ≤ n
joining_le zero = omega arith
joining_le (suc zero) = omega arith
joining_le (suc (suc n)) = omega arith

names_le : (xs : List Word) (ls : List Literal) → length (zero_names xs ls) ≤ length ls
names_le [] ls = omega arith
names_le (x ∷ xs) [] = omega arith
names_le (x ∷ xs) (Zero ∷ ls) = let h : length (zero_names xs ls) ≤ length ls = names_le xs ls in omega arith
names_le (x ∷ xs) (One ∷ ls) = let h : length (zero_names xs ls) ≤ length ls = names_le xs ls in omega arith
names_le (x ∷ xs) (Any ∷ ls) = let h : length (zero_names xs ls) ≤ length ls = names_le xs ls in omega arith

new_le : (earlier xs : List Word) → new_count earlier xs ≤ length xs
new_le earlier [] = omega arith
new_le earlier (x ∷ xs) = by_test (is_among earlier x) (new_le earlier xs) (new_le (x ∷ earlier) xs)
  where
    by_test : (b : Bool) → new_count earlier xs ≤ length xs → new_count (x ∷ earlier) xs ≤ length xs → (if b then new_count earlier xs else suc (new_count (x ∷ earlier) xs)) ≤ suc (length xs)
    by_test true old new = omega arith
    by_test false old new = omega arith

-- wires of the rows, their number and the names that they read as 0
rows_le : (inputs : List Word) (rows : List (List Literal)) → sum_by (λ row. joining (literal_count row)) rows + length rows + length (flat_map (zero_names inputs) rows) ≤ rows_weight rows
rows_le inputs [] = omega arith
rows_le inputs (r ∷ rs) =
    let cons : sum_by (λ row. joining (literal_count row)) (r ∷ rs) ≡ joining (literal_count r) + sum_by (λ row. joining (literal_count row)) rs = sum_by-cons (λ row. joining (literal_count row)) r rs in
    let names : length (zero_names inputs r ++ flat_map (zero_names inputs) rs) ≡ length (zero_names inputs r) + length (flat_map (zero_names inputs) rs) = length-append (zero_names inputs r) (flat_map (zero_names inputs) rs) in
    let one : length (zero_names inputs r) ≤ length r = names_le inputs r in
    let two : literal_count r ≤ length r = literals_le r in
    let three : joining (literal_count r) ≤ literal_count r = joining_le (literal_count r) in
    let rest : sum_by (λ row. joining (literal_count row)) rs + length rs + length (flat_map (zero_names inputs) rs) ≤ rows_weight rs = rows_le inputs rs in
    omega arith

closing : (b : Bool) → (if b then 0 else 1) ≤ 1
closing true = omega arith
closing false = omega arith

sum_le : (c : Cover) (o : Option Bool) → parity_ending c ≡ o → wires_by o c + length (zero_names_by o c) ≤ weight c
sum_le c (Some ends) e =
    let h : IsParity c ends = is_parity c ends e in
    let end : (if ends then 0 else 1) ≤ 1 = closing ends in
    omega (arith, h.weight, end)
sum_le c None e =
    let rows : sum_by (λ row. joining (literal_count row)) c.rows + length c.rows + length (flat_map (zero_names c.inputs) c.rows) ≤ rows_weight c.rows = rows_le c.inputs c.rows in
    let count : joining (length c.rows) ≤ length c.rows = joining_le (length c.rows) in
    let end : (if c.on then 0 else 1) ≤ 1 = closing c.on in
    omega arith

cover_le : (c : Cover) → cover_wires c + length (cover_zero_names c) ≤ weight c
cover_le c = sum_le c (parity_ending c) refl

covers_le : (cs : List Cover) → sum_by cover_wires cs + length (flat_map cover_zero_names cs) ≤ sum_by weight cs
covers_le [] = omega arith
covers_le (c ∷ cs) =
    let wires : sum_by cover_wires (c ∷ cs) ≡ cover_wires c + sum_by cover_wires cs = sum_by-cons cover_wires c cs in
    let weights : sum_by weight (c ∷ cs) ≡ weight c + sum_by weight cs = sum_by-cons weight c cs in
    let names : length (cover_zero_names c ++ flat_map cover_zero_names cs) ≡ length (cover_zero_names c) + length (flat_map cover_zero_names cs) = length-append (cover_zero_names c) (flat_map cover_zero_names cs) in
    let one : cover_wires c + length (cover_zero_names c) ≤ weight c = cover_le c in
    let rest : sum_by cover_wires cs + length (flat_map cover_zero_names cs) ≤ sum_by weight cs = covers_le cs in
    omega arith

needed_le : (observed : List Word) (cs : List Cover) → sum_by weight (needed_of observed cs) ≤ sum_by weight cs
needed_le observed [] = omega arith
needed_le observed (c ∷ cs) = by_test (is_needed observed (needed_of observed cs) c.output) (needed_le observed cs)
  where
    by_test : (b : Bool) → sum_by weight (needed_of observed cs) ≤ sum_by weight cs → sum_by weight (if b then c ∷ needed_of observed cs else needed_of observed cs) ≤ sum_by weight (c ∷ cs)
    by_test true h =
        let left : sum_by weight (c ∷ needed_of observed cs) ≡ weight c + sum_by weight (needed_of observed cs) = sum_by-cons weight c (needed_of observed cs) in
        let right : sum_by weight (c ∷ cs) ≡ weight c + sum_by weight cs = sum_by-cons weight c cs in omega arith
    by_test false h = let right : sum_by weight (c ∷ cs) ≡ weight c + sum_by weight cs = sum_by-cons weight c cs in omega arith

-- what one cover adds to the ranks from n on
abbrev added : ℕ → ℕ → ℕ × Cover → ℕ
added n zero p = 0
added n (suc count) p = (if nat_eq p.0 n then weight p.1 else 0) + added (suc n) count p

rank_cons : (p : ℕ × Cover) (ranked : List (ℕ × Cover)) (n : ℕ) → sum_by weight (of_rank (p ∷ ranked) n) ≡ (if nat_eq p.0 n then weight p.1 else 0) + sum_by weight (of_rank ranked n)
rank_cons p ranked n = by_test (nat_eq p.0 n)
  where
    by_test : (b : Bool) → sum_by weight (map (λ (q : ℕ × Cover). q.1) (if b then p ∷ filter (λ (q : ℕ × Cover). nat_eq q.0 n) ranked else filter (λ (q : ℕ × Cover). nat_eq q.0 n) ranked)) ≡ (if b then weight p.1 else 0) + sum_by weight (of_rank ranked n)
    by_test true = sum_by-cons weight p.1 (of_rank ranked n)
    by_test false = omega arith

ranks_cons : (p : ℕ × Cover) (ranked : List (ℕ × Cover)) (n count : ℕ) → sum_by weight (of_ranks (p ∷ ranked) n count) ≡ added n count p + sum_by weight (of_ranks ranked n count)
ranks_cons p ranked n zero = omega arith
ranks_cons p ranked n (suc count) =
    let one : sum_by weight (of_rank (p ∷ ranked) n ++ of_ranks (p ∷ ranked) (suc n) count) ≡ sum_by weight (of_rank (p ∷ ranked) n) + sum_by weight (of_ranks (p ∷ ranked) (suc n) count) = sum_by-append weight (of_rank (p ∷ ranked) n) (of_ranks (p ∷ ranked) (suc n) count) in
    let two : sum_by weight (of_rank ranked n ++ of_ranks ranked (suc n) count) ≡ sum_by weight (of_rank ranked n) + sum_by weight (of_ranks ranked (suc n) count) = sum_by-append weight (of_rank ranked n) (of_ranks ranked (suc n) count) in
    let here : sum_by weight (of_rank (p ∷ ranked) n) ≡ (if nat_eq p.0 n then weight p.1 else 0) + sum_by weight (of_rank ranked n) = rank_cons p ranked n in
    let rest : sum_by weight (of_ranks (p ∷ ranked) (suc n) count) ≡ added (suc n) count p + sum_by weight (of_ranks ranked (suc n) count) = ranks_cons p ranked (suc n) count in
    omega arith

none_added : (n count : ℕ) (p : ℕ × Cover) → p.0 < n → added n count p ≡ 0
none_added n zero p h = refl
none_added n (suc count) p h = by_test (nat_eq p.0 n) refl (none_added (suc n) count p (omega arith))
  where
    by_test : (b : Bool) → nat_eq p.0 n ≡ b → added (suc n) count p ≡ 0 → (if b then weight p.1 else 0) + added (suc n) count p ≡ 0
    by_test true e rest = elim (eqb_tells p.0 n) [ inl t ↦ absurd (omega (arith, t.1)) | inr f ↦ let bad : true ≡ false = sym e ∙ f.0 in absurd cc ]
    by_test false e rest = omega arith

added_le : (n count : ℕ) (p : ℕ × Cover) → added n count p ≤ weight p.1
added_le n zero p = omega arith
added_le n (suc count) p = by_test (nat_eq p.0 n) refl (added_le (suc n) count p)
  where
    by_test : (b : Bool) → nat_eq p.0 n ≡ b → added (suc n) count p ≤ weight p.1 → (if b then weight p.1 else 0) + added (suc n) count p ≤ weight p.1
    by_test true e rest = elim (eqb_tells p.0 n) [
      | inl t ↦ let none : added (suc n) count p ≡ 0 = none_added (suc n) count p (omega (arith, t.1)) in omega arith
      | inr f ↦ let bad : true ≡ false = sym e ∙ f.0 in absurd cc
    ]
    by_test false e rest = omega arith

no_ranks : (n count : ℕ) → sum_by weight (of_ranks [] n count) ≡ 0
no_ranks n zero = refl
no_ranks n (suc count) = no_ranks (suc n) count

ranked_le : (ranks : List ℕ) (cs : List Cover) (n count : ℕ) → sum_by weight (of_ranks (zip ranks cs) n count) ≤ sum_by weight cs
ranked_le [] cs n count = let none : sum_by weight (of_ranks [] n count) ≡ 0 = no_ranks n count in omega arith
ranked_le (r ∷ ranks) [] n count = let none : sum_by weight (of_ranks [] n count) ≡ 0 = no_ranks n count in omega arith
ranked_le (r ∷ ranks) (c ∷ cs) n count =
    let first : sum_by weight (of_ranks ((r, c) ∷ zip ranks cs) n count) ≡ added n count (r, c) + sum_by weight (of_ranks (zip ranks cs) n count) = ranks_cons (r, c) (zip ranks cs) n count in
    let own : added n count (r, c) ≤ weight c = added_le n count (r, c) in
    let rest : sum_by weight (of_ranks (zip ranks cs) n count) ≤ sum_by weight cs = ranked_le ranks cs n count in
    let right : sum_by weight (c ∷ cs) ≡ weight c + sum_by weight cs = sum_by-cons weight c cs in
    omega arith

weights_are : (cs : List Cover) → sum_by weight cs ≡ covers_weight cs
weights_are [] = refl
weights_are (c ∷ cs) =
    let cons : sum_by weight (c ∷ cs) ≡ weight c + sum_by weight cs = sum_by-cons weight c cs in
    let rest : sum_by weight cs ≡ covers_weight cs = weights_are cs in omega arith

pub wires_are_bounded : WiresAreBounded
wires_are_bounded m =
    let all : sum_by cover_wires (taken m) + length (flat_map cover_zero_names (taken m)) ≤ sum_by weight (taken m) = covers_le (taken m) in
    let new : new_count [] (flat_map cover_zero_names (taken m)) ≤ length (flat_map cover_zero_names (taken m)) = new_le [] (flat_map cover_zero_names (taken m)) in
    let needed : sum_by weight (taken m) ≤ sum_by weight (covers_by_rank m) = needed_le (observed_names m) (covers_by_rank m) in
    let ranked : sum_by weight (covers_by_rank m) ≤ sum_by weight m.covers = ranked_le (map (λ r. unwrap_or r 0) (ranks_of m)) m.covers 0 (length m.covers) in
    let weights : sum_by weight m.covers ≡ covers_weight m.covers = weights_are m.covers in
    omega arith
