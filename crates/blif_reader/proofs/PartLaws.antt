-- The words behind a command, by their indices.
use Rattle.std.proofs.Common.{◌≡◌, ℕ, zero, suc, ◌+◌, ◌≤◌, ◌<◌, List, [], ◌∷◌, ◌++◌, map, length, take, drop, Bool, false, inl, inr, refl, sym, ◌∙◌, ap, arith, add-one, append_assoc, Option, None, Some}
use Rattle.std.specs.Prelude.{if◌then◌else◌, slice_get, ◌==◌, nat_lt}
use Rattle.std.specs.List.{filter_map}
use Rattle.std.proofs.Common.{get_or, subst}
use Rattle.std.proofs.lemmas.List.{drop_all, length-map}
use Rattle.blif_lines.specs.Reading.{spot_of}
use Rattle.blif_lines.specs.declared.line.Token.{Token}
use Rattle.std.proofs.lemmas.Bool.Decides.{eqb_tells}
use Rattle.std.proofs.lemmas.List.Elements.{filter_map-append}
use Rattle.blif_lines.specs.Layout.{Spot}
use Rattle.blif_format.specs.Uses.{all_are, in_parts, names_parts, latch_parts, parts_of, Use, use_of}
use Rattle.blif_format.specs.declared.words.Command.{Command}
use Rattle.blif_format.specs.declared.words.Command.TheVariants.{Model, Inputs, Outputs, Clock, Names, Latch, End}
use Rattle.blif_format.specs.declared.words.Role.TheVariants.{Input, ClockInput, Output, CoverInput, CoverOutput, LatchInput, LatchOutput, Control}
use Rattle.blif_format.specs.declared.words.Part.{Part}
use Rattle.blif_format.specs.declared.words.Part.TheVariants.{Title, Name, LatchType, Init, Extra}
use Rattle.blif_format.specs.FirstFault.{or_else, fault_if, part_fault, parts_fault, command_fault}
use Rattle.blif_format.specs.Uses.{least_words}
use Rattle.blif_format.specs.declared.refusal.FaultKind.TheVariants.{MissingWord}
use Rattle.blif_format.specs.declared.refusal.ReadRefusal.{ReadRefusal}
use Rattle.blif_format.specs.declared.refusal.ReadRefusal.TheVariants.{Fault, Limit, NoMemory}
use Rattle.blif_reader.specs.Meant.{IsRefusal}
use Rattle.blif_reader.specs.Parts.{latch_part_at, part_in}
use Rattle.rm_base.proofs.Public.{take_one_more}

some_is : (t s : Spot) → Some t ≡ Some s → t ≡ s
some_is t s h = cc

abbrev pair_of : Part → Spot → Option (Part × Spot)
pair_of p s = Some (p, s)

here : (p : Part) (t s : Spot) → Some t ≡ Some s → pair_of p t ≡ pair_of p s
here p t s h = ap (pair_of p) (some_is t s h)

all_at : (p : Part) (ss : List Spot) (i : ℕ) (s : Spot) → slice_get ss i ≡ Some s → slice_get (all_are p ss) i ≡ Some (p, s)
all_at p [] i s h = cc
all_at p (t ∷ ts) zero s h = let same : t ≡ s = cc in ap (pair_of p) same
all_at p (t ∷ ts) (suc i) s h = all_at p ts i s h

names_at : (ss : List Spot) (i : ℕ) (s : Spot) → slice_get ss i ≡ Some s → slice_get (names_parts ss) i ≡ Some (part_in Names (length ss) i, s)
names_at [] i s h = cc
names_at (a ∷ []) zero s h = let same : a ≡ s = cc in ap (pair_of (Name CoverOutput)) same
names_at (a ∷ []) (suc i) s h = cc
names_at (a ∷ b ∷ ss) zero s h = here (Name CoverInput) a s h ∙ ap (λ (t : Bool). Some ((if t then Name CoverOutput else Name CoverInput), s)) (sym (not_last (length ss)))
  where
    not_last : (n : ℕ) → (0 + 1 == suc (suc n)) ≡ false
    not_last n = elim (eqb_tells (0 + 1) (suc (suc n))) [ inl t ↦ absurd (let e : 0 + 1 ≡ suc (suc n) = t.1 in omega arith) | inr t ↦ t.0 ]
names_at (a ∷ b ∷ ss) (suc i) s h = names_at (b ∷ ss) i s h ∙ ap (λ (t : Bool). Some ((if t then Name CoverOutput else Name CoverInput), s)) (same_test (i + 1) (suc (length ss)) (suc i + 1) (suc (suc (length ss))) (omega arith) refl)
  where
    same_test : (m n k l : ℕ) → k ≡ suc m → l ≡ suc n → (m == n) ≡ (k == l)
    same_test m n k l e f = elim (eqb_tells m n) [
      | inl t ↦ elim (eqb_tells k l) [ inl u ↦ t.0 ∙ sym u.0 | inr u ↦ absurd (u.1 (let g : m ≡ n = t.1 in omega arith)) ]
      | inr t ↦ elim (eqb_tells k l) [ inl u ↦ absurd (t.1 (let g : k ≡ l = u.1 in omega arith)) | inr u ↦ t.0 ∙ sym u.0 ]
    ]

title_at : (ss : List Spot) (i : ℕ) (s : Spot) → slice_get ss i ≡ Some s → slice_get (in_parts (Title ∷ []) ss) i ≡ Some (part_in Model (length ss) i, s)
title_at [] i s h = cc
title_at (a ∷ ss) zero s h = here Title a s h
title_at (a ∷ []) (suc i) s h = cc
title_at (a ∷ b ∷ ss) (suc i) s h = all_at Extra (b ∷ ss) i s h ∙ ap (λ (t : Bool). Some ((if t then Title else Extra), s)) (sym (not_first i))
  where
    not_first : (n : ℕ) → (suc n == 0) ≡ false
    not_first n = elim (eqb_tells (suc n) 0) [ inl t ↦ absurd (let e : suc n ≡ 0 = t.1 in omega arith) | inr t ↦ t.0 ]

long : (n k : ℕ) → suc (suc (suc (suc n))) ≡ k → (k == 3) ≡ false
long n k e = elim (eqb_tells k 3) [ inl t ↦ absurd (let f : k ≡ 3 = t.1 in omega arith) | inr t ↦ t.0 ]

latch_at : (ss : List Spot) (i : ℕ) (s : Spot) → slice_get ss i ≡ Some s → slice_get (in_parts (latch_parts ss) ss) i ≡ Some (latch_part_at (length ss) i, s)
latch_at [] i s h = cc
latch_at (a ∷ []) zero s h = here (Name LatchInput) a s h
latch_at (a ∷ []) (suc i) s h = cc
latch_at (a ∷ b ∷ []) zero s h = here (Name LatchInput) a s h
latch_at (a ∷ b ∷ []) (suc zero) s h = here (Name LatchOutput) b s h
latch_at (a ∷ b ∷ []) (suc (suc i)) s h = cc
latch_at (a ∷ b ∷ c ∷ []) zero s h = here (Name LatchInput) a s h
latch_at (a ∷ b ∷ c ∷ []) (suc zero) s h = here (Name LatchOutput) b s h
latch_at (a ∷ b ∷ c ∷ []) (suc (suc zero)) s h = here Init c s h
latch_at (a ∷ b ∷ c ∷ []) (suc (suc (suc i))) s h = cc
latch_at (a ∷ b ∷ c ∷ d ∷ []) zero s h = here (Name LatchInput) a s h
latch_at (a ∷ b ∷ c ∷ d ∷ []) (suc zero) s h = here (Name LatchOutput) b s h
latch_at (a ∷ b ∷ c ∷ d ∷ []) (suc (suc zero)) s h = here LatchType c s h
latch_at (a ∷ b ∷ c ∷ d ∷ []) (suc (suc (suc zero))) s h = here (Name Control) d s h
latch_at (a ∷ b ∷ c ∷ d ∷ []) (suc (suc (suc (suc i)))) s h = cc
latch_at (a ∷ b ∷ c ∷ d ∷ e ∷ ss) zero s h = here (Name LatchInput) a s h
latch_at (a ∷ b ∷ c ∷ d ∷ e ∷ ss) (suc zero) s h = here (Name LatchOutput) b s h
latch_at (a ∷ b ∷ c ∷ d ∷ e ∷ ss) (suc (suc zero)) s h = here LatchType c s h ∙ ap (λ (t : Bool). Some ((if t then Init else LatchType), s)) (sym (long (suc (length ss)) (length (a ∷ b ∷ c ∷ d ∷ e ∷ ss)) refl))
latch_at (a ∷ b ∷ c ∷ d ∷ e ∷ ss) (suc (suc (suc zero))) s h = here (Name Control) d s h
latch_at (a ∷ b ∷ c ∷ d ∷ e ∷ ss) (suc (suc (suc (suc zero)))) s h = here Init e s h
latch_at (a ∷ b ∷ c ∷ d ∷ e ∷ []) (suc (suc (suc (suc (suc i))))) s h = cc
latch_at (a ∷ b ∷ c ∷ d ∷ e ∷ f ∷ ss) (suc (suc (suc (suc (suc i))))) s h = all_at Extra (f ∷ ss) i s h

pub part_at : (k : Command) (ss : List Spot) (i : ℕ) (s : Spot) → slice_get ss i ≡ Some s → slice_get (parts_of k ss) i ≡ Some (part_in k (length ss) i, s)
part_at Model ss i s h = title_at ss i s h
part_at Inputs ss i s h = all_at (Name Input) ss i s h
part_at Outputs ss i s h = all_at (Name Output) ss i s h
part_at Clock ss i s h = all_at (Name ClockInput) ss i s h
part_at Names ss i s h = names_at ss i s h
part_at Latch ss i s h = latch_at ss i s h
part_at End ss i s h = all_at Extra ss i s h

pub drop_here : {A : Type 0} (xs : List A) (i : ℕ) (x : A) → slice_get xs i ≡ Some x → drop i xs ≡ x ∷ drop (i + 1) xs
drop_here {A = A} xs i x h = go xs i h ∙ ap (λ n. x ∷ drop n xs) (sym (add-one i))
  where
    go : (xs : List A) (i : ℕ) → slice_get xs i ≡ Some x → drop i xs ≡ x ∷ drop (suc i) xs
    go [] i h = cc
    go (y ∷ ys) zero h = let same : y ≡ x = cc in ap (λ z. z ∷ ys) same
    go (y ∷ ys) (suc i) h = go ys i h

is_first : (e : ReadRefusal) (f g : Option ReadRefusal) → ((r : ReadRefusal) → f ≡ Some r → g ≡ Some r) → IsRefusal e f → IsRefusal e g
is_first NoMemory f g h r = tt
is_first (Fault kind place) f g h r = h (Fault kind place) r
is_first (Limit quantity count place) f g h r = h (Limit quantity count place) r

parts_first : (had : List Use) (i : ℕ) (p : Part × Spot) (ps : List (Part × Spot)) (r : ReadRefusal) → part_fault had i p ≡ Some r → parts_fault had i (p ∷ ps) ≡ Some r
parts_first had i p ps r e = ap (λ o. or_else o (parts_fault (had ++ filter_map use_of (p ∷ [])) (i + 1) ps)) e

pub words_refuse : (had had' : List Use) (first : Spot) (k : Command) (ss : List Spot) (i : ℕ) (part : Part) (s : Spot) (e : ReadRefusal) → parts_fault had 0 (parts_of k ss) ≡ parts_fault had' i (drop i (parts_of k ss)) → slice_get ss i ≡ Some s → part ≡ part_in k (length ss) i → IsRefusal e (part_fault had' i (part, s)) → IsRefusal e (command_fault had first k ss)
words_refuse had had' first k ss i part s e same at is r =
    let there : slice_get (parts_of k ss) i ≡ Some (part, s) = part_at k ss i s at ∙ ap (λ (p : Part). Some (p, s)) (sym is) in
    let rest : drop i (parts_of k ss) ≡ (part, s) ∷ drop (i + 1) (parts_of k ss) = drop_here (parts_of k ss) i (part, s) there in
    is_first e (part_fault had' i (part, s)) (command_fault had first k ss) (λ r f.
    ap (λ o. or_else o (fault_if (nat_lt (length ss) (least_words k)) MissingWord first.place)) (same ∙ ap (parts_fault had' i) rest ∙ parts_first had' i (part, s) (drop (i + 1) (parts_of k ss)) r f)) r

pub words_go : (had had' : List Use) (k : Command) (ss : List Spot) (i : ℕ) (part : Part) (s : Spot) → parts_fault had 0 (parts_of k ss) ≡ parts_fault (had ++ filter_map use_of (take i (parts_of k ss))) i (drop i (parts_of k ss)) → slice_get ss i ≡ Some s → part ≡ part_in k (length ss) i → part_fault (had ++ filter_map use_of (take i (parts_of k ss))) i (part, s) ≡ None → ((had ++ filter_map use_of (take i (parts_of k ss))) ++ filter_map use_of ((part, s) ∷ []) ≡ had ++ filter_map use_of (take (i + 1) (parts_of k ss))) × (parts_fault had 0 (parts_of k ss) ≡ parts_fault (had ++ filter_map use_of (take (i + 1) (parts_of k ss))) (i + 1) (drop (i + 1) (parts_of k ss)))
words_go had had' k ss i part s same at is none =
    let there : slice_get (parts_of k ss) i ≡ Some (part, s) = part_at k ss i s at ∙ ap (λ (p : Part). Some (p, s)) (sym is) in
    let rest : drop i (parts_of k ss) ≡ (part, s) ∷ drop (i + 1) (parts_of k ss) = drop_here (parts_of k ss) i (part, s) there in
    let more : had ++ filter_map use_of (take (i + 1) (parts_of k ss)) ≡ (had ++ filter_map use_of (take i (parts_of k ss))) ++ filter_map use_of ((part, s) ∷ []) =
    ap (λ ps. had ++ filter_map use_of ps) (take_one_more (parts_of k ss) i (part, s) there) ∙ ap (λ us. had ++ us) (filter_map-append use_of (take i (parts_of k ss)) ((part, s) ∷ [])) ∙ sym (append_assoc had (filter_map use_of (take i (parts_of k ss))) (filter_map use_of ((part, s) ∷ []))) in (
      sym more,
      same
          ∙ ap (parts_fault (had ++ filter_map use_of (take i (parts_of k ss))) i) rest
          ∙ ap (λ o. or_else o (parts_fault ((had ++ filter_map use_of (take i (parts_of k ss))) ++ filter_map use_of ((part, s) ∷ [])) (i + 1) (drop (i + 1) (parts_of k ss)))) none
          ∙ ap (λ us. parts_fault us (i + 1) (drop (i + 1) (parts_of k ss))) (sym more),
    )

all_length : (p : Part) (ss : List Spot) → length (all_are p ss) ≡ length ss
all_length p [] = refl
all_length p (s ∷ ss) = ap suc (all_length p ss)

in_length : (ps : List Part) (ss : List Spot) → length (in_parts ps ss) ≡ length ss
in_length ps [] = refl
in_length [] (s ∷ ss) = all_length Extra (s ∷ ss)
in_length (p ∷ ps) (s ∷ ss) = ap suc (in_length ps ss)

names_length : (ss : List Spot) → length (names_parts ss) ≡ length ss
names_length [] = refl
names_length (s ∷ []) = refl
names_length (s ∷ t ∷ ss) = ap suc (names_length (t ∷ ss))

pub parts_length : (k : Command) (ss : List Spot) → length (parts_of k ss) ≡ length ss
parts_length Model ss = in_length (Title ∷ []) ss
parts_length Inputs ss = all_length (Name Input) ss
parts_length Outputs ss = all_length (Name Output) ss
parts_length Clock ss = all_length (Name ClockInput) ss
parts_length Names ss = names_length ss
parts_length Latch ss = in_length (latch_parts ss) ss
parts_length End ss = all_length Extra ss

pub take_whole : {A : Type 0} (xs : List A) (i : ℕ) → length xs ≤ i → take i xs ≡ xs
take_whole [] zero h = refl
take_whole [] (suc i) h = refl
take_whole (x ∷ xs) zero h = absurd (omega arith)
take_whole (x ∷ xs) (suc i) h = ap (λ ys. x ∷ ys) (take_whole xs i (omega arith))

pub map_at : {A B : Type 0} (f : A → B) (xs : List A) (i : ℕ) (d : A) → i < length xs → slice_get (map f xs) i ≡ Some (f (get_or xs i d))
map_at f [] i d h = absurd (omega arith)
map_at f (x ∷ xs) zero d h = refl
map_at f (x ∷ xs) (suc i) d h = map_at f xs i d (omega arith)

pub part_there : (k : Command) (text : List ℕ) (words : List Token) (i : ℕ) (part : Part) → part ≡ part_in k (length words) i → part ≡ part_in k (length (map (spot_of text) words)) i
part_there k text words i part e = e ∙ ap (λ (n : ℕ). part_in k n i) (sym (length-map words (spot_of text)))

pub words_end : (had : List Use) (first : Spot) (k : Command) (ss : List Spot) (i : ℕ) → parts_fault had 0 (parts_of k ss) ≡ parts_fault (had ++ filter_map use_of (take i (parts_of k ss))) i (drop i (parts_of k ss)) → length ss ≤ i → command_fault had first k ss ≡ fault_if (nat_lt (length ss) (least_words k)) MissingWord first.place
words_end had first k ss i same h =
    let short : length (parts_of k ss) ≤ i = subst (λ (n : ℕ). n ≤ i) (sym (parts_length k ss)) h in
    ap (λ o. or_else o (fault_if (nat_lt (length ss) (least_words k)) MissingWord first.place)) (same ∙ ap (parts_fault (had ++ filter_map use_of (take i (parts_of k ss))) i) (drop_all i (parts_of k ss) short))
