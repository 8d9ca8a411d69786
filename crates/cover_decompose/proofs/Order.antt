-- The covers by rank read only what comes before them, and so do the needed ones among themselves.
use Rattle.std.proofs.Common.{◌≡◌, ◌<◌, ◌≤◌, ◌+◌, ℕ, zero, suc, Bool, true, false, cond, List, [], ◌∷◌, ◌++◌, refl, sym, ap, ◌∙◌, ◌⊎◌, inl, inr, arith, ◌≢◌}
use Rattle.std.specs.Prelude.{◌==◌, filter}
use Rattle.std.specs.List.{list_any, AllByRecursion}
use Rattle.std.proofs.lemmas.Bool.Decides.{eqb_tells}
use Rattle.std.proofs.lemmas.Bool.{or_cases, or_left, or_right}
use Rattle.rm_model.specs.Words.{is_word}
use Rattle.rm_model.specs.Value.{is_among}
use Rattle.rm_model.specs.declared.parts.Cover.{Cover}
use Rattle.cover_decompose.specs.Needed.{of_rank, of_ranks, is_needed, needed_of}
use Rattle.cover_decompose.proofs.Members.{among_in}
use Rattle.rm_base.proofs.Public.{all_from_members, all_in, in_append, in_filter, in_filtered, in_left, in_map, in_mapped, in_right}
use Rattle.rm_base.specs.Members.{In}
use Rattle.rm_base.specs.Words.{Word}
use Rattle.rm_model.proofs.Public.{is_word-same, same_word}

abbrev pub outputs_onto : List Word → List Cover → List Word
outputs_onto done [] = done
outputs_onto done (c ∷ cs) = outputs_onto (c.output ∷ done) cs

abbrev pub AreAmong : List Word → List Word → Type 0
AreAmong done xs = AllByRecursion (λ x. is_among done x ≡ true) xs

-- each cover reads names that are there when its turn comes
abbrev pub Reading : List Word → List Cover → Type 0
Reading done [] = Unit {0}
Reading done (c ∷ cs) = AreAmong done c.inputs × Reading (c.output ∷ done) cs

abbrev pub Covers : List Word → List Word → Type 0
Covers xs ys = (x : Word) → is_among xs x ≡ true → is_among ys x ≡ true

among_one_more : (y : Word) (xs : List Word) → Covers xs (y ∷ xs)
among_one_more y xs x h = or_right (is_word x y) (is_among xs x) h

covers_more : (y : Word) (xs ys : List Word) → Covers xs ys → Covers (y ∷ xs) (y ∷ ys)
covers_more y xs ys h x e = elim (or_cases (is_word x y) (is_among xs x) e) [ inl a ↦ or_left (is_word x y) (is_among ys x) a | inr b ↦ or_right (is_word x y) (is_among ys x) (h x b) ]

among_more : (xs ys zs : List Word) → Covers xs ys → AreAmong xs zs → AreAmong ys zs
among_more xs ys [] h r = tt
among_more xs ys (z ∷ zs) h r = (h z r.0, among_more xs ys zs h r.1)

reading_more : (xs ys : List Word) (cs : List Cover) → Covers xs ys → Reading xs cs → Reading ys cs
reading_more xs ys [] h r = tt
reading_more xs ys (c ∷ cs) h r = (among_more xs ys c.inputs h r.0, reading_more (c.output ∷ xs) (c.output ∷ ys) cs (covers_more c.output xs ys h) r.1)

pub onto_keeps : (done : List Word) (cs : List Cover) → Covers done (outputs_onto done cs)
onto_keeps done [] x h = h
onto_keeps done (c ∷ cs) x h = onto_keeps (c.output ∷ done) cs x (among_one_more c.output done x h)

pub onto_outputs : (done : List Word) (cs : List Cover) (c : Cover) → In cs c → is_among (outputs_onto done cs) c.output ≡ true
onto_outputs done [] c h = absurd h
onto_outputs done (d ∷ cs) c (inl e) =
    onto_keeps (d.output ∷ done) cs c.output (or_left (is_word c.output d.output) (is_among done c.output) (let same : d.output ≡ c.output = ap (λ (k : Cover). k.output) e in rw same (is_word-same c.output)))
onto_outputs done (d ∷ cs) c (inr h) = onto_outputs (d.output ∷ done) cs c h

reading_append : (done : List Word) (cs ds : List Cover) → Reading done cs → Reading (outputs_onto done cs) ds → Reading done (cs ++ ds)
reading_append done [] ds r s = s
reading_append done (c ∷ cs) ds r s = (r.0, reading_append (c.output ∷ done) cs ds r.1 s)

-- covers that read what is there at once
reading_at_once : (done : List Word) (cs : List Cover) → ((c : Cover) → In cs c → AreAmong done c.inputs) → Reading done cs
reading_at_once done [] h = tt
reading_at_once done (c ∷ cs) h =
    (h c (inl refl), reading_more done (c.output ∷ done) cs (among_one_more c.output done) (reading_at_once done cs (λ d m. h d (inr m))))

in_pair : (ranked : List (ℕ × Cover)) (p : ℕ × Cover) (n : ℕ) (c : Cover) → In ranked p → p.0 ≡ n → p.1 ≡ c → In ranked (n, c)
in_pair ranked p n c h e f = rw (← e, ← f) h

pub of_rank-in : (ranked : List (ℕ × Cover)) (n : ℕ) (c : Cover) → In (of_rank ranked n) c → In ranked (n, c)
of_rank-in ranked n c h =
    let r = in_map (λ (p : ℕ × Cover). p.1) (filter (λ p. p.0 == n) ranked) c h in
    let f = in_filter (λ (p : ℕ × Cover). p.0 == n) ranked r.0 r.1.0 in
    let is : r.0.0 ≡ n = elim (eqb_tells r.0.0 n) [ inl e ↦ e.1 | inr e ↦ let no : true ≡ false = sym f.1 ∙ e.0 in absurd cc ] in
    in_pair ranked r.0 n c f.0 is r.1.1

pub in-of_rank : (ranked : List (ℕ × Cover)) (n : ℕ) (c : Cover) → In ranked (n, c) → In (of_rank ranked n) c
in-of_rank ranked n c h =
    let same : (n == n) ≡ true = elim (eqb_tells n n) [ inl e ↦ e.0 | inr e ↦ absurd (e.1 refl) ] in
    in_mapped (λ (p : ℕ × Cover). p.1) (filter (λ p. p.0 == n) ranked) (n, c) (in_filtered (λ (p : ℕ × Cover). p.0 == n) ranked (n, c) h same)

pub in-of_ranks : (ranked : List (ℕ × Cover)) (first count n : ℕ) (c : Cover) → In ranked (n, c) → first ≤ n → n < first + count → In (of_ranks ranked first count) c
in-of_ranks ranked first zero n c h le lt = absurd (omega arith)
in-of_ranks ranked first (suc count) n c h le lt =
    elim (eqb_tells first n) [
      | inl e ↦ in_left (of_rank ranked first) (of_ranks ranked (suc first) count) c (in-of_rank ranked first c (rw e.1 h))
      | inr e ↦ in_right (of_rank ranked first) (of_ranks ranked (suc first) count) c (in-of_ranks ranked (suc first) count n c h (let ne : first ≢ n = e.1 in omega arith) (omega arith))
    ]

pub of_ranks-in : (ranked : List (ℕ × Cover)) (first count : ℕ) (c : Cover) → In (of_ranks ranked first count) c → (n : ℕ) × In ranked (n, c)
of_ranks-in ranked first zero c h = absurd h
of_ranks-in ranked first (suc count) c h =
    elim (in_append (of_rank ranked first) (of_ranks ranked (suc first) count) c h) [
      | inl a ↦ (first, of_rank-in ranked first c a)
      | inr b ↦ of_ranks-in ranked (suc first) count c b
    ]

-- what each cover reads is a source, or the output of a cover of a lower rank
abbrev pub ReadsLower : List Word → List (ℕ × Cover) → Type 0
ReadsLower sources ranked =
    (n : ℕ) (c : Cover) → In ranked (n, c) → (x : Word) → In c.inputs x → (is_among sources x ≡ true) ⊎ ((k : ℕ) × ((d : Cover) × (In ranked (k, d) × ((k < n) × (d.output ≡ x)))))

-- the sources are there, and the outputs of all covers of lower ranks
pub record Lower (first : List Word) (ranked : List (ℕ × Cover)) (n : ℕ) (done : List Word) : Type 0 where
  pub sources : Covers first done
  pub outputs : (k : ℕ) (d : Cover) → In ranked (k, d) → k < n → is_among done d.output ≡ true

reading_rank : (sources : List Word) (ranked : List (ℕ × Cover)) (n : ℕ) (done : List Word) → ReadsLower sources ranked → Lower sources ranked n done → (c : Cover) → In (of_rank ranked n) c → AreAmong done c.inputs
reading_rank sources ranked n done lower l c h =
    all_from_members (λ x. is_among done x ≡ true) c.inputs
    (λ x m. elim (lower n c (of_rank-in ranked n c h) x m) [
      | inl s ↦ l.sources x s
      | inr r ↦ let there : is_among done r.1.0.output ≡ true = l.outputs r.0 r.1.0 r.1.1.0 r.1.1.1.0 in rw (← r.1.1.1.1) there
    ])

lower_next : (sources : List Word) (ranked : List (ℕ × Cover)) (n : ℕ) (done : List Word) → Lower sources ranked n done → Lower sources ranked (suc n) (outputs_onto done (of_rank ranked n))
lower_next sources ranked n done l = record {
  sources = λ x h. onto_keeps done (of_rank ranked n) x (l.sources x h);
  outputs = λ k d h lt. elim (eqb_tells k n) [
    | inl e ↦ onto_outputs done (of_rank ranked n) d (in-of_rank ranked n d (rw (← e.1) h))
    | inr e ↦ onto_keeps done (of_rank ranked n) d.output (l.outputs k d h (let ne : k ≢ n = e.1 in omega arith))
  ];
}

pub reading_ranks : (sources : List Word) (ranked : List (ℕ × Cover)) (first count : ℕ) (done : List Word) → ReadsLower sources ranked → Lower sources ranked first done → Reading done (of_ranks ranked first count)
reading_ranks sources ranked first zero done lower l = tt
reading_ranks sources ranked first (suc count) done lower l =
    reading_append done (of_rank ranked first) (of_ranks ranked (suc first) count)
    (reading_at_once done (of_rank ranked first) (reading_rank sources ranked first done lower l))
    (reading_ranks sources ranked (suc first) count (outputs_onto done (of_rank ranked first)) lower (lower_next sources ranked first done l))

-- of the names that are there, those that are needed are kept
abbrev pub Keeps : List Word → List Word → List Cover → List Word → Type 0
Keeps observed full later kept = (x : Word) → is_among full x ≡ true → is_needed observed later x ≡ true → is_among kept x ≡ true

needed_later : (observed : List Word) (c : Cover) (later : List Cover) (x : Word) → is_needed observed later x ≡ true → is_needed observed (c ∷ later) x ≡ true
needed_later observed c later x h =
    elim (or_cases (is_among observed x) (list_any (λ (d : Cover). is_among d.inputs x) later) h) [
      | inl a ↦ or_left (is_among observed x) (list_any (λ (d : Cover). is_among d.inputs x) (c ∷ later)) a
      | inr b ↦ or_right (is_among observed x) (list_any (λ (d : Cover). is_among d.inputs x) (c ∷ later)) (or_right (is_among c.inputs x) (list_any (λ (d : Cover). is_among d.inputs x) later) b)
    ]

needed_here : (observed : List Word) (c : Cover) (later : List Cover) (x : Word) → is_among c.inputs x ≡ true → is_needed observed (c ∷ later) x ≡ true
needed_here observed c later x h =
    or_right (is_among observed x) (list_any (λ (d : Cover). is_among d.inputs x) (c ∷ later)) (or_left (is_among c.inputs x) (list_any (λ (d : Cover). is_among d.inputs x) later) h)

among_cases : (y : Word) (xs : List Word) (x : Word) → is_among (y ∷ xs) x ≡ true → (x ≡ y) ⊎ (is_among xs x ≡ true)
among_cases y xs x h = elim (or_cases (is_word x y) (is_among xs x) h) [ inl a ↦ inl (same_word x y a) | inr b ↦ inr b ]

-- where the cover isn't needed, its output isn't kept
keeps_without : (observed full kept : List Word) (c : Cover) (later : List Cover) → is_needed observed later c.output ≡ false → Keeps observed full later kept → Keeps observed (c.output ∷ full) later kept
keeps_without observed full kept c later unneeded h x e need =
    elim (among_cases c.output full x e) [
      | inl same ↦ let bad : true ≡ false = sym need ∙ (ap (λ (y : Word). is_needed observed later y) same ∙ unneeded) in absurd cc
      | inr there ↦ h x there need
    ]

keeps_with : (observed full kept : List Word) (c : Cover) (later : List Cover) → Keeps observed full (c ∷ later) kept → Keeps observed (c.output ∷ full) later (c.output ∷ kept)
keeps_with observed full kept c later h x e need =
    elim (among_cases c.output full x e) [
      | inl same ↦ let here : is_word x c.output ≡ true = rw same (is_word-same c.output) in or_left (is_word x c.output) (is_among kept x) here
      | inr there ↦ or_right (is_word x c.output) (is_among kept x) (h x there (needed_later observed c later x need))
    ]

-- what the needed covers read, needed covers give
pub reading_needed : (observed full kept : List Word) (cs : List Cover) → Reading full cs → Keeps observed full (needed_of observed cs) kept → Reading kept (needed_of observed cs)
reading_needed observed full kept [] r h = tt
reading_needed observed full kept (c ∷ cs) r h = by_need (is_needed observed (needed_of observed cs) c.output) refl (λ more. reading_needed observed (c.output ∷ full) more cs r.1) h
  where
    inputs_kept : Keeps observed full (c ∷ needed_of observed cs) kept → AreAmong kept c.inputs
    inputs_kept h = all_from_members (λ x. is_among kept x ≡ true) c.inputs (λ x m. h x (all_in (λ y. is_among full y ≡ true) c.inputs x r.0 m) (needed_here observed c (needed_of observed cs) x (among_in c.inputs x m)))

    by_need : (b : Bool) → is_needed observed (needed_of observed cs) c.output ≡ b → ((more : List Word) → Keeps observed (c.output ∷ full) (needed_of observed cs) more → Reading more (needed_of observed cs))
        → Keeps observed full (cond b (c ∷ needed_of observed cs) (needed_of observed cs)) kept → Reading kept (cond b (c ∷ needed_of observed cs) (needed_of observed cs))
    by_need true is next h = (inputs_kept h, next (c.output ∷ kept) (keeps_with observed full kept c (needed_of observed cs) h))
    by_need false is next h = next kept (keeps_without observed full kept c (needed_of observed cs) is h)

-- and the observed names
pub observed_kept : (observed full kept : List Word) (cs : List Cover) → Keeps observed full (needed_of observed cs) kept → (x : Word) → is_among observed x ≡ true → is_among (outputs_onto full cs) x ≡ true → is_among (outputs_onto kept (needed_of observed cs)) x ≡ true
observed_kept observed full kept [] h x seen there = h x there (or_left (is_among observed x) false seen)
observed_kept observed full kept (c ∷ cs) h x seen there = by_need (is_needed observed (needed_of observed cs) c.output) refl (λ more k. observed_kept observed (c.output ∷ full) more cs k x seen there) h
  where
    by_need : (b : Bool) → is_needed observed (needed_of observed cs) c.output ≡ b → ((more : List Word) → Keeps observed (c.output ∷ full) (needed_of observed cs) more → is_among (outputs_onto more (needed_of observed cs)) x ≡ true)
        → Keeps observed full (cond b (c ∷ needed_of observed cs) (needed_of observed cs)) kept → is_among (outputs_onto kept (cond b (c ∷ needed_of observed cs) (needed_of observed cs))) x ≡ true
    by_need true is next h = next (c.output ∷ kept) (keeps_with observed full kept c (needed_of observed cs) h)
    by_need false is next h = next kept (keeps_without observed full kept c (needed_of observed cs) is h)
