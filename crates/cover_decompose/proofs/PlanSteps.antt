-- One step of the loops of a plan: what is done, and what is left from a place on.
use Rattle.std.proofs.Common.{◌≡◌, ◌<◌, ◌≤◌, ◌+◌, ℕ, zero, suc, List, [], ◌∷◌, ◌++◌, length, get_or, drop, refl, sym, ap, ◌∙◌, arith, append_assoc, drop-cons, add-one}
use Rattle.std.specs.Prelude.{None, Option, Some, slice_get, replicate}
use Rattle.std.specs.Option.{option_to_list}
use Rattle.gate_net.specs.Net.{Node}
use Rattle.rm_model.specs.declared.parts.Cover.{Cover}
use Rattle.rm_model.specs.declared.parts.Literal.{Literal}
use Rattle.cover_decompose.specs.Inner.Plan.{Planned, counting, cover_planned, covers_planned, one_planned, literal_planned, literals_planned, term_planned, terms_planned}
use Rattle.rm_base.proofs.Public.{drop_end}

pub drop_at : {A : Type 0} (xs : List A) (n : ℕ) (x : A) → n < length xs → x ≡ get_or xs n x → drop n xs ≡ x ∷ drop (n + 1) xs
drop_at xs n x lt e = drop-cons xs n x lt ∙ (ap (λ (y : _). y ∷ drop (suc n) xs) (sym e) ∙ rw add-one refl)

-- what the literals from the place on make, after those before it
pub record LiteralsLeft (p : Planned) (inputs : List ℕ) (row : List Literal) (q : Planned) (done : List ℕ) (i : ℕ) : Type 0 where
  pub plan : (literals_planned p inputs row).0 ≡ (literals_planned q (drop i inputs) (drop i row)).0
  pub nodes : (literals_planned p inputs row).1 ≡ done ++ (literals_planned q (drop i inputs) (drop i row)).1
  pub kept : length q.nodes ≡ length p.nodes

pub no_literals : (p : Planned) (ks : List ℕ) → literals_planned p ks [] ≡ (p, [])
no_literals p [] = refl
no_literals p (k ∷ ks) = refl

pub literals_start : (p : Planned) (inputs : List ℕ) (row : List Literal) → LiteralsLeft p inputs row p [] 0
literals_start p inputs row = record { plan = refl; nodes = refl; kept = refl }

pub literals_step : (p : Planned) (inputs : List ℕ) (row : List Literal) (q r : Planned) (done more : List ℕ) (i k : ℕ) (l : Literal)
    → LiteralsLeft p inputs row q done i → i < length inputs → i < length row → k ≡ get_or inputs i k → l ≡ get_or row i l
    → r ≡ (literal_planned q k l).0 → more ≡ done ++ option_to_list (literal_planned q k l).1 → length r.nodes ≡ length q.nodes → LiteralsLeft p inputs row r more (i + 1)
literals_step p inputs row q r done more i k l h lt lr ek el er em kept =
    let di : drop i inputs ≡ k ∷ drop (i + 1) inputs = drop_at inputs i k lt ek in
    let dr : drop i row ≡ l ∷ drop (i + 1) row = drop_at row i l lr el in
    record {
      plan = h.plan ∙ rw (di, dr, er) refl;
      nodes = h.nodes ∙ rw (di, dr, er, em) (sym (append_assoc done (option_to_list (literal_planned q k l).1) (literals_planned (literal_planned q k l).0 (drop (i + 1) inputs) (drop (i + 1) row)).1));
      kept = kept ∙ h.kept;
    }

pub literals_end : (p : Planned) (inputs : List ℕ) (row : List Literal) (q : Planned) (done : List ℕ) (i : ℕ) → LiteralsLeft p inputs row q done i → length row ≤ i → (q ≡ (literals_planned p inputs row).0) × (done ≡ (literals_planned p inputs row).1)
literals_end p inputs row q done i h le =
    let none : drop i row ≡ [] = drop_end row i le in
    let left : literals_planned q (drop i inputs) (drop i row) ≡ (q, []) = rw none (no_literals q (drop i inputs)) in
    (sym (h.plan ∙ ap (λ (t : Planned × List ℕ). t.0) left), sym (h.nodes ∙ (ap (λ (t : Planned × List ℕ). done ++ t.1) left ∙ append_nothing done)))
  where
    append_nothing : (xs : List ℕ) → xs ++ [] ≡ xs
    append_nothing [] = refl
    append_nothing (x ∷ xs) = ap (λ (ys : List ℕ). x ∷ ys) (append_nothing xs)

-- the same for the rows of a cover
pub record TermsLeft (p : Planned) (inputs : List ℕ) (rows : List (List Literal)) (q : Planned) (done : List ℕ) (i : ℕ) : Type 0 where
  pub plan : (terms_planned p inputs rows).0 ≡ (terms_planned q inputs (drop i rows)).0
  pub nodes : (terms_planned p inputs rows).1 ≡ done ++ (terms_planned q inputs (drop i rows)).1
  pub kept : length q.nodes ≡ length p.nodes

pub terms_start : (p : Planned) (inputs : List ℕ) (rows : List (List Literal)) → TermsLeft p inputs rows p [] 0
terms_start p inputs rows = record { plan = refl; nodes = refl; kept = refl }

pub terms_step : (p : Planned) (inputs : List ℕ) (rows : List (List Literal)) (q r : Planned) (done more : List ℕ) (i n : ℕ) (row : List Literal)
    → TermsLeft p inputs rows q done i → i < length rows → row ≡ get_or rows i row
    → r ≡ (term_planned q inputs row).0 → n ≡ (term_planned q inputs row).1 → more ≡ done ++ n ∷ [] → length r.nodes ≡ length q.nodes → TermsLeft p inputs rows r more (i + 1)
terms_step p inputs rows q r done more i n row h lr el er en em kept =
    let dr : drop i rows ≡ row ∷ drop (i + 1) rows = drop_at rows i row lr el in
    record {
      plan = h.plan ∙ rw (dr, er) refl;
      nodes = h.nodes ∙ rw (dr, er, em, en) (sym (append_assoc done ((term_planned q inputs row).1 ∷ []) (terms_planned (term_planned q inputs row).0 inputs (drop (i + 1) rows)).1));
      kept = kept ∙ h.kept;
    }

pub terms_end : (p : Planned) (inputs : List ℕ) (rows : List (List Literal)) (q : Planned) (done : List ℕ) (i : ℕ) → TermsLeft p inputs rows q done i → length rows ≤ i → (q ≡ (terms_planned p inputs rows).0) × (done ≡ (terms_planned p inputs rows).1)
terms_end p inputs rows q done i h le =
    let none : drop i rows ≡ [] = drop_end rows i le in
    let left : terms_planned q inputs (drop i rows) ≡ (q, []) = rw none refl in
    (sym (h.plan ∙ ap (λ (t : Planned × List ℕ). t.0) left), sym (h.nodes ∙ (ap (λ (t : Planned × List ℕ). done ++ t.1) left ∙ append_nothing done)))
  where
    append_nothing : (xs : List ℕ) → xs ++ [] ≡ xs
    append_nothing [] = refl
    append_nothing (x ∷ xs) = ap (λ (ys : List ℕ). x ∷ ys) (append_nothing xs)

counting_push : (n i : ℕ) → counting n i ++ (n + i) ∷ [] ≡ counting n (suc i)
counting_push n zero = let e : n + 0 ≡ n = omega arith in rw e refl
counting_push n (suc i) = let e : n + suc i ≡ suc n + i = omega arith in rw e (ap (λ (l : List ℕ). n ∷ l) (counting_push (suc n) i))

pub counting_more : (n i : ℕ) → counting n i ++ (n + i) ∷ [] ≡ counting n (i + 1)
counting_more n i = counting_push n i ∙ rw add-one refl

replicate_push : {A : Type 0} (n : ℕ) (x : A) → replicate n x ++ x ∷ [] ≡ replicate (suc n) x
replicate_push zero x = refl
replicate_push (suc n) x = ap (λ (l : List _). x ∷ l) (replicate_push n x)

pub replicate_more : {A : Type 0} (n : ℕ) (x : A) → replicate n x ++ x ∷ [] ≡ replicate (n + 1) x
replicate_more n x = replicate_push n x ∙ rw add-one refl

pub nodes_more : (done more : List Node) (n : ℕ) (x : Node) (first : List Node) → done ≡ first ++ replicate n x → more ≡ done ++ x ∷ [] → more ≡ first ++ replicate (n + 1) x
nodes_more done more n x first e f = f ∙ (ap (λ (l : List Node). l ++ x ∷ []) e ∙ (append_assoc first (replicate n x) (x ∷ []) ∙ ap (λ (l : List Node). first ++ l) (replicate_more n x)))

pub record CoversLeft (p : Planned) (covers : List Cover) (inputs : List (List ℕ)) (first : ℕ) (places : List ℕ) (q : Planned) (i : ℕ) : Type 0 where
  pub plan : covers_planned p covers inputs first places ≡ covers_planned q covers inputs first (drop i places)
  pub kept : length q.nodes ≡ length p.nodes

pub covers_start : (p : Planned) (covers : List Cover) (inputs : List (List ℕ)) (first : ℕ) (places : List ℕ) → CoversLeft p covers inputs first places p 0
covers_start p covers inputs first places = record { plan = refl; kept = refl }

pub covers_step : (p : Planned) (covers : List Cover) (inputs : List (List ℕ)) (first : ℕ) (places : List ℕ) (q r : Planned) (i k : ℕ)
    → CoversLeft p covers inputs first places q i → i < length places → k ≡ get_or places i k → r ≡ one_planned q (slice_get covers k) (slice_get inputs k) (first + k) → length r.nodes ≡ length q.nodes → CoversLeft p covers inputs first places r (i + 1)
covers_step p covers inputs first places q r i k h lt e er kept =
    let d : drop i places ≡ k ∷ drop (i + 1) places = drop_at places i k lt e in
    record { plan = h.plan ∙ rw (d, er) refl; kept = kept ∙ h.kept }

pub covers_end : (p : Planned) (covers : List Cover) (inputs : List (List ℕ)) (first : ℕ) (places : List ℕ) (q : Planned) (i : ℕ) → CoversLeft p covers inputs first places q i → length places ≤ i → q ≡ covers_planned p covers inputs first places
covers_end p covers inputs first places q i h le = let none : drop i places ≡ [] = drop_end places i le in sym (h.plan ∙ rw none refl)

pub planned_there : (p : Planned) (covers : List Cover) (inputs : List (List ℕ)) (first k : ℕ) (c : Cover) (ks : List ℕ) → slice_get covers k ≡ Some c → slice_get inputs k ≡ Some ks → one_planned p (slice_get covers k) (slice_get inputs k) (first + k) ≡ cover_planned p ks (first + k) c
planned_there p covers inputs first k c ks e f = rw (e, f) refl

pub length-many : {A : Type 0} (n : ℕ) (x : A) → length (replicate n x) ≡ n
length-many zero x = refl
length-many (suc n) x = ap (λ (k : ℕ). suc k) (length-many n x)

pub length-numbers : (n sources covers : ℕ) → length (counting n sources ++ replicate covers 0) ≡ sources + covers
length-numbers n zero covers = length-many covers 0 ∙ omega arith
length-numbers n (suc sources) covers = let r : length (counting (suc n) sources ++ replicate covers 0) ≡ sources + covers = length-numbers (suc n) sources covers in omega arith

pub start-even : (sources covers : ℕ) → length (let none : Option ℕ = None in replicate (sources + covers) none) ≡ length (counting 2 sources ++ replicate covers 0)
start-even sources covers = length-many (sources + covers) None ∙ sym (length-numbers 2 sources covers)
