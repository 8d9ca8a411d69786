-- A decomposition has as many wires as are counted over the covers.
use Rattle.std.proofs.Common.{◌≡◌, ◌+◌, ℕ, suc, Bool, true, false, cond, List, [], ◌∷◌, ◌++◌, length, map, refl, sym, ap, subst, ◌∙◌, arith}
use Rattle.std.specs.Prelude.{Some, None, Option, is_some, ◌||◌, sum_by}
use Rattle.std.specs.List.{AllByRecursion, flat_map}
use Rattle.rm_model.specs.Words.{is_word}
use Rattle.rm_model.specs.Value.{is_among}
use Rattle.rm_model.specs.declared.parts.Literal.{Literal}
use Rattle.rm_model.specs.declared.parts.Literal.TheVariants.{Zero, One, Any}
use Rattle.rm_model.specs.declared.parts.Cover.{Cover}
use Rattle.gate_net.specs.declared.Kind.{Kind}
use Rattle.gate_net.specs.declared.Kind.TheVariants.{And, Or, Not, Xor}
use Rattle.gate_net.specs.Net.{Node}
use Rattle.cover_decompose.specs.Decomposition.{State, with_entry, with_gate, with_not, literals, joined, term, terms, closed, node_by, with_cover, with_covers}
use Rattle.cover_decompose.specs.Count.{literal_count, joining, cover_wires, wires_by, zero_names, cover_zero_names, new_count, zero_names_by}
use Rattle.cover_decompose.specs.Parity.{parity_ending}
use Rattle.cover_decompose.proofs.Parities.{is_parity}
use Rattle.cover_decompose.proofs.Sums.{total, total-append, sum-total}
use Rattle.rm_base.specs.Words.{Word}

abbrev pub wires : State → ℕ
wires s = total (λ (n : Node). length n.drivers) s.made

-- the earlier names and these, each once
abbrev pub seen : List Word → List Word → List Word
seen earlier [] = earlier
seen earlier (x ∷ xs) = cond (is_among earlier x) (seen earlier xs) (seen (x ∷ earlier) xs)

pub seen-append : (earlier xs ys : List Word) → seen earlier (xs ++ ys) ≡ seen (seen earlier xs) ys
seen-append earlier [] ys = refl
seen-append earlier (x ∷ xs) ys = by_test (is_among earlier x) (seen-append earlier xs ys) (seen-append (x ∷ earlier) xs ys)
  where
    by_test : (b : Bool) → seen earlier (xs ++ ys) ≡ seen (seen earlier xs) ys → seen (x ∷ earlier) (xs ++ ys) ≡ seen (seen (x ∷ earlier) xs) ys → cond b (seen earlier (xs ++ ys)) (seen (x ∷ earlier) (xs ++ ys)) ≡ seen (cond b (seen earlier xs) (seen (x ∷ earlier) xs)) ys
    by_test true a b = a
    by_test false a b = b

pub new_count-append : (earlier xs ys : List Word) → new_count earlier (xs ++ ys) ≡ new_count earlier xs + new_count (seen earlier xs) ys
new_count-append earlier [] ys = omega arith
new_count-append earlier (x ∷ xs) ys = by_test (is_among earlier x) (new_count-append earlier xs ys) (new_count-append (x ∷ earlier) xs ys)
  where
    by_test : (b : Bool) → new_count earlier (xs ++ ys) ≡ new_count earlier xs + new_count (seen earlier xs) ys → new_count (x ∷ earlier) (xs ++ ys) ≡ new_count (x ∷ earlier) xs + new_count (seen (x ∷ earlier) xs) ys
        → cond b (new_count earlier (xs ++ ys)) (suc (new_count (x ∷ earlier) (xs ++ ys))) ≡ cond b (new_count earlier xs) (suc (new_count (x ∷ earlier) xs)) + new_count (cond b (seen earlier xs) (seen (x ∷ earlier) xs)) ys
    by_test true a b = a
    by_test false a b = omega arith

-- a Not is there for exactly these names
abbrev pub NotsAre : List Word → (Word → Option ℕ) → Type 0
NotsAre earlier not_of = (x : Word) → is_some (not_of x) ≡ is_among earlier x

nots_more : (earlier : List Word) (not_of : Word → Option ℕ) (x : Word) (n : ℕ) → NotsAre earlier not_of → NotsAre (x ∷ earlier) (with_entry not_of x (Some n))
nots_more earlier not_of x n h y = by_test (is_word y x)
  where
    by_test : (b : Bool) → is_some (cond b (Some n) (not_of y)) ≡ (b || is_among earlier y)
    by_test true = refl
    by_test false = h y

gate_wires : (s : State) (kind : Kind) (drivers : List ℕ) → wires (with_gate s kind drivers) ≡ wires s + length drivers
gate_wires s kind drivers =
    let e : total (λ (n : Node). length n.drivers) (s.made ++ record { kind = kind; drivers = drivers } ∷ []) ≡ total (λ (n : Node). length n.drivers) s.made + (length drivers + 0) = total-append (λ (n : Node). length n.drivers) s.made (record { kind = kind; drivers = drivers } ∷ []) in
    omega arith

-- a state after another, with so many more wires, and Nots for these names
pub record Counts (s t : State) (n : ℕ) (earlier : List Word) : Type 0 where
  pub wires_are : wires t ≡ wires s + n
  pub nots : NotsAre earlier t.not_of

not_wires : (s : State) (x : Word) (o : Option ℕ) (earlier : List Word) → s.not_of x ≡ o → NotsAre earlier s.not_of → Counts s (with_not s x o).0 (new_count earlier (x ∷ [])) (seen earlier (x ∷ []))
not_wires s x (Some n) earlier e h =
    let there : is_among earlier x ≡ true = sym (h x) ∙ ap (λ (o : Option ℕ). is_some o) e in
    record {
      wires_are = rw there (omega arith);
      nots = let P : List Word → Type 0 = λ l. NotsAre l s.not_of in subst P (ap (λ (b : Bool). cond b earlier (x ∷ earlier)) (sym there)) h;
    }
not_wires s x None earlier e h =
    let there : is_among earlier x ≡ false = sym (h x) ∙ ap (λ (o : Option ℕ). is_some o) e in
    let made : wires (with_gate s Not (s.node_of x ∷ [])) ≡ wires s + 1 = gate_wires s Not (s.node_of x ∷ []) in
    record {
      wires_are = rw there made;
      nots = let P : List Word → Type 0 = λ l. NotsAre l (with_entry s.not_of x (Some (length s.made))) in subst P (ap (λ (b : Bool). cond b earlier (x ∷ earlier)) (sym there)) (nots_more earlier s.not_of x (length s.made) h);
    }

then_counts : (s t u : State) (n k : ℕ) (first second : List Word) → Counts s t n first → Counts t u k second → Counts s u (n + k) second
then_counts s t u n k first second g h = record { wires_are = let a : wires t ≡ wires s + n = g.wires_are in let b : wires u ≡ wires t + k = h.wires_are in omega arith; nots = h.nots }

counts_same : (s t : State) (n k : ℕ) (first second : List Word) → n ≡ k → first ≡ second → Counts s t n first → Counts s t k second
counts_same s t n k first second e f h = record { wires_are = h.wires_are ∙ ap (λ (i : ℕ). wires s + i) e; nots = let P : List Word → Type 0 = λ l. NotsAre l t.not_of in subst P f h.nots }

counts_none : (s : State) (earlier : List Word) → NotsAre earlier s.not_of → Counts s s 0 earlier
counts_none s earlier h = record { wires_are = omega arith; nots = h }

pub literals_wires : (s : State) (xs : List Word) (ls : List Literal) (earlier : List Word) → NotsAre earlier s.not_of → Counts s (literals s xs ls).0 (new_count earlier (zero_names xs ls)) (seen earlier (zero_names xs ls))
literals_wires s [] [] earlier h = counts_none s earlier h
literals_wires s [] (l ∷ ls) earlier h = counts_none s earlier h
literals_wires s (x ∷ xs) [] earlier h = counts_none s earlier h
literals_wires s (x ∷ xs) (One ∷ ls) earlier h = literals_wires s xs ls earlier h
literals_wires s (x ∷ xs) (Any ∷ ls) earlier h = literals_wires s xs ls earlier h
literals_wires s (x ∷ xs) (Zero ∷ ls) earlier h =
    let t : State = (with_not s x (s.not_of x)).0 in
    let here = not_wires s x (s.not_of x) earlier refl h in
    let rest = literals_wires t xs ls (seen earlier (x ∷ [])) here.nots in
    counts_same s (literals t xs ls).0 (new_count earlier (x ∷ []) + new_count (seen earlier (x ∷ [])) (zero_names xs ls)) (new_count earlier (x ∷ zero_names xs ls)) (seen (seen earlier (x ∷ [])) (zero_names xs ls)) (seen earlier (x ∷ zero_names xs ls))
    (sym (new_count-append earlier (x ∷ []) (zero_names xs ls))) (sym (seen-append earlier (x ∷ []) (zero_names xs ls)))
    (then_counts s t (literals t xs ls).0 (new_count earlier (x ∷ [])) (new_count (seen earlier (x ∷ [])) (zero_names xs ls)) (seen earlier (x ∷ [])) (seen (seen earlier (x ∷ [])) (zero_names xs ls)) here rest)

pub literals_length : (s : State) (xs : List Word) (ls : List Literal) → length ls ≡ length xs → length (literals s xs ls).1 ≡ literal_count ls
literals_length s [] [] e = refl
literals_length s [] (l ∷ ls) e = absurd (omega arith)
literals_length s (x ∷ xs) [] e = absurd (omega arith)
literals_length s (x ∷ xs) (One ∷ ls) e = ap (λ (n : ℕ). suc n) (literals_length s xs ls (omega arith))
literals_length s (x ∷ xs) (Any ∷ ls) e = literals_length s xs ls (omega arith)
literals_length s (x ∷ xs) (Zero ∷ ls) e = ap (λ (n : ℕ). suc n) (literals_length (with_not s x (s.not_of x)).0 xs ls (omega arith))

joined_wires : (s : State) (kind : Kind) (empty : ℕ) (ns : List ℕ) (earlier : List Word) → NotsAre earlier s.not_of → Counts s (joined kind empty s ns).0 (joining (length ns)) earlier
joined_wires s kind empty [] earlier h = counts_none s earlier h
joined_wires s kind empty (n ∷ []) earlier h = counts_none s earlier h
joined_wires s kind empty (n ∷ k ∷ ns) earlier h = record { wires_are = gate_wires s kind (n ∷ k ∷ ns); nots = h }

term_wires : (s : State) (xs : List Word) (row : List Literal) (earlier : List Word) → length row ≡ length xs → NotsAre earlier s.not_of → Counts s (term s xs row).0 (new_count earlier (zero_names xs row) + joining (literal_count row)) (seen earlier (zero_names xs row))
term_wires s xs row earlier len h =
    let t : State = (literals s xs row).0 in
    let ns : List ℕ = (literals s xs row).1 in
    let lits = literals_wires s xs row earlier h in
    then_counts s t (term s xs row).0 (new_count earlier (zero_names xs row)) (joining (literal_count row)) (seen earlier (zero_names xs row)) (seen earlier (zero_names xs row)) lits
    (counts_same t (term s xs row).0 (joining (length ns)) (joining (literal_count row)) (seen earlier (zero_names xs row)) (seen earlier (zero_names xs row)) (ap joining (literals_length s xs row len)) refl (joined_wires t And 1 ns (seen earlier (zero_names xs row)) lits.nots))

pub terms_wires : (s : State) (xs : List Word) (rows : List (List Literal)) (earlier : List Word) → AllByRecursion (λ (r : List Literal). length r ≡ length xs) rows → NotsAre earlier s.not_of
    → Counts s (terms s xs rows).0 (total (λ row. joining (literal_count row)) rows + new_count earlier (flat_map (zero_names xs) rows)) (seen earlier (flat_map (zero_names xs) rows))
terms_wires s xs [] earlier len h = counts_none s earlier h
terms_wires s xs (r ∷ rs) earlier len h =
    let t : State = (term s xs r).0 in
    let zs : List Word = zero_names xs r in
    let rest_names : List Word = flat_map (zero_names xs) rs in
    let first = term_wires s xs r earlier len.0 h in
    let rest = terms_wires t xs rs (seen earlier zs) len.1 first.nots in
    let count : new_count earlier (zs ++ rest_names) ≡ new_count earlier zs + new_count (seen earlier zs) rest_names = new_count-append earlier zs rest_names in
    counts_same s (terms t xs rs).0 ((new_count earlier zs + joining (literal_count r)) + (total (λ row. joining (literal_count row)) rs + new_count (seen earlier zs) rest_names)) ((joining (literal_count r) + total (λ row. joining (literal_count row)) rs) + new_count earlier (zs ++ rest_names))
    (seen (seen earlier zs) rest_names) (seen earlier (zs ++ rest_names)) (omega arith) (sym (seen-append earlier zs rest_names))
    (then_counts s t (terms t xs rs).0 (new_count earlier zs + joining (literal_count r)) (total (λ row. joining (literal_count row)) rs + new_count (seen earlier zs) rest_names) (seen earlier zs) (seen (seen earlier zs) rest_names) first rest)

pub terms_length : (s : State) (xs : List Word) (rows : List (List Literal)) → length (terms s xs rows).1 ≡ length rows
terms_length s xs [] = refl
terms_length s xs (r ∷ rs) = ap (λ (n : ℕ). suc n) (terms_length (term s xs r).0 xs rs)

closed_wires : (on : Bool) (t : State × ℕ) (earlier : List Word) → NotsAre earlier t.0.not_of → Counts t.0 (closed on t).0 (cond on 0 1) earlier
closed_wires true t earlier h = counts_none t.0 earlier h
closed_wires false t earlier h = record { wires_are = gate_wires t.0 Not (t.1 ∷ []); nots = h }

abbrev pub AreEven : Cover → Type 0
AreEven c = AllByRecursion (λ (r : List Literal). length r ≡ length c.inputs) c.rows

-- an Xor of two nodes, and the Not that may close it
parity_counts : (s : State) (c : Cover) (ends : Bool) (earlier : List Word) → parity_ending c ≡ Some ends → NotsAre earlier s.not_of → Counts s (node_by (Some ends) s c).0 (wires_by (Some ends) c + 0) earlier
parity_counts s c ends earlier p h =
    let drivers : List ℕ = map s.node_of c.inputs in
    let two : length drivers ≡ 2 = ap (λ (l : List Word). length (map s.node_of l)) (is_parity c ends p).inputs.2 in
    let made : wires (with_gate s Xor drivers) ≡ wires s + length drivers = gate_wires s Xor drivers in
    let sum : Counts s (with_gate s Xor drivers) 2 earlier = record { wires_are = made ∙ ap (λ (n : ℕ). wires s + n) two; nots = h } in
    counts_same s (node_by (Some ends) s c).0 (2 + cond ends 0 1) (wires_by (Some ends) c + 0) earlier earlier (omega arith) refl
    (then_counts s (with_gate s Xor drivers) (node_by (Some ends) s c).0 2 (cond ends 0 1) earlier earlier sum (closed_wires ends (with_gate s Xor drivers, length s.made) earlier h))

sum_counts : (o : Option Bool) (s : State) (c : Cover) (earlier : List Word) → parity_ending c ≡ o → AreEven c → NotsAre earlier s.not_of → Counts s (node_by o s c).0 (wires_by o c + new_count earlier (zero_names_by o c)) (seen earlier (zero_names_by o c))
sum_counts (Some ends) s c earlier p len h = parity_counts s c ends earlier p h
sum_counts None s c earlier p len h =
    let t : State = (terms s c.inputs c.rows).0 in
    let ns : List ℕ = (terms s c.inputs c.rows).1 in
    let sum : State × ℕ = joined Or 0 t ns in
    let names : List Word = seen earlier (zero_names_by None c) in
    let rows = terms_wires s c.inputs c.rows earlier len h in
    let summed = counts_same t sum.0 (joining (length ns)) (joining (length c.rows)) names names (ap joining (terms_length s c.inputs c.rows)) refl (joined_wires t Or 0 ns names rows.nots) in
    let end = closed_wires c.on sum names summed.nots in
    let literal_wires : ℕ = total (λ row. joining (literal_count row)) c.rows in
    let is : sum_by (λ row. joining (literal_count row)) c.rows ≡ literal_wires = sum-total (λ row. joining (literal_count row)) c.rows in
    let new : ℕ = new_count earlier (zero_names_by None c) in
    let all = then_counts s sum.0 (node_by None s c).0 ((literal_wires + new) + joining (length c.rows)) (cond c.on 0 1) names names (then_counts s t sum.0 (literal_wires + new) (joining (length c.rows)) names names rows summed) end in
    record { wires_are = all.wires_are ∙ ap (λ (n : ℕ). wires s + n) (count_is literal_wires (sum_by (λ row. joining (literal_count row)) c.rows) new (joining (length c.rows)) (cond c.on 0 1) is); nots = all.nots }
  where
    count_is : (l k n j o : ℕ) → k ≡ l → ((l + n) + j) + o ≡ ((k + j) + o) + n
    count_is l k n j o e = omega arith

cover_counts : (s : State) (c : Cover) (earlier : List Word) → AreEven c → NotsAre earlier s.not_of → Counts s (with_cover s c) (cover_wires c + new_count earlier (cover_zero_names c)) (seen earlier (cover_zero_names c))
cover_counts s c earlier len h = let sum = sum_counts (parity_ending c) s c earlier refl len h in record { wires_are = sum.wires_are; nots = sum.nots }

pub covers_counts : (s : State) (cs : List Cover) (earlier : List Word) → AllByRecursion AreEven cs → NotsAre earlier s.not_of → wires (with_covers s cs) ≡ wires s + (total cover_wires cs + new_count earlier (flat_map cover_zero_names cs))
covers_counts s [] earlier len h = omega arith
covers_counts s (c ∷ cs) earlier len h =
    let here = cover_counts s c earlier len.0 h in
    let zs : List Word = cover_zero_names c in
    let rest_names : List Word = flat_map cover_zero_names cs in
    let rest : wires (with_covers (with_cover s c) cs) ≡ wires (with_cover s c) + (total cover_wires cs + new_count (seen earlier zs) rest_names) = covers_counts (with_cover s c) cs (seen earlier zs) len.1 here.nots in
    let made : wires (with_cover s c) ≡ wires s + (cover_wires c + new_count earlier zs) = here.wires_are in
    let count : new_count earlier (zs ++ rest_names) ≡ new_count earlier zs + new_count (seen earlier zs) rest_names = new_count-append earlier zs rest_names in
    rest ∙ sums (wires s) (wires (with_cover s c)) (cover_wires c) (new_count earlier zs) (total cover_wires cs) (new_count (seen earlier zs) rest_names) (new_count earlier (zs ++ rest_names)) made count
  where
    sums : (s t c n r k both : ℕ) → t ≡ s + (c + n) → both ≡ n + k → t + (r + k) ≡ s + ((c + r) + both)
    sums s t c n r k both e f = omega arith
