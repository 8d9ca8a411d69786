-- The walk with a stack gives what the tree of instances gives.
use Rattle.std.proofs.Common.{◌≡◌, ◌<◌, ◌+◌, ◌*◌, ℕ, zero, suc, List, [], ◌∷◌, ◌++◌, map, length, drop, Option, None, Some, refl, sym, ap, ◌∙◌, subst, arith}
use Rattle.std.specs.Prelude.{slice_get, reverse}
use Rattle.std.proofs.lemmas.List.{append_assoc, append-nil, reverse-append}
use Rattle.rm_base.specs.Words.{Word}
use Rattle.rm_base.proofs.Public.{stands_below}
use Rattle.rm_base.specs.declared.numbers.Place.{Place}
use Rattle.rm_model.specs.declared.parts.Cover.{Cover}
use Rattle.rm_model.specs.declared.parts.Latch.{Latch}
use Rattle.blif_flatten.specs.declared.modules.Pin.{Pin}
use Rattle.blif_flatten.specs.declared.modules.Link.{Link}
use Rattle.blif_flatten.specs.declared.modules.Module.{Module}
use Rattle.blif_flatten.specs.declared.pieces.Pieces.{Pieces}
use Rattle.blif_flatten.specs.declared.walk.Frame.{Frame}
use Rattle.blif_flatten.specs.declared.walk.Caller.{Caller}
use Rattle.blif_flatten.specs.Instances.{Calls, Done, Then, then_call, all_calls, calls_in, instance_count, name_in, whole}
use Rattle.blif_flatten.specs.Flat.{renamed_cover, renamed_latch, input_pins, output_pins, copies_in, copies_out, covers_in, latches_in, places_in}
use Rattle.blif_flatten.specs.Inner.Walk.{no_pieces, joined, entered, pieces_behind, pieces_in, remaining, closing, closing_by, closing_link, due, due_count, due_steps, after, inner, Steps}
use Rattle.blif_flatten.specs.Laws.{AreRankedBy}
use Rattle.blif_flatten.specs.Recursion.{links_in, links_of}

-- PIECES

pub same-pieces : (a b : Pieces) → a.covers ≡ b.covers → a.latches ≡ b.latches → a.places ≡ b.places → a ≡ b
same-pieces a b e f g =
    ap (λ (cs : List Cover). let r : Pieces = record { covers = cs; latches = a.latches; places = a.places } in r) e
    ∙ (ap (λ (ls : List Latch). let r : Pieces = record { covers = b.covers; latches = ls; places = a.places } in r) f
    ∙ ap (λ (ps : List Place). let r : Pieces = record { covers = b.covers; latches = b.latches; places = ps } in r) g)

pub joined-assoc : (a b c : Pieces) → joined (joined a b) c ≡ joined a (joined b c)
joined-assoc a b c =
    same-pieces (joined (joined a b) c) (joined a (joined b c))
    (append_assoc a.covers b.covers c.covers) (append_assoc a.latches b.latches c.latches) (append_assoc a.places b.places c.places)

pub joined-none : (a : Pieces) → joined a no_pieces ≡ a
joined-none a = same-pieces (joined a no_pieces) a (append-nil a.covers) (append-nil a.latches) (append-nil a.places)

regrouped : {A : Type 0} (a b c d e : List A) → (a ++ b) ++ (c ++ (d ++ e)) ≡ (a ++ ((b ++ c) ++ d)) ++ e
regrouped a b c d e =
    append_assoc a b (c ++ (d ++ e))
    ∙ (ap (λ xs. a ++ xs) (sym (append_assoc b c (d ++ e)) ∙ sym (append_assoc (b ++ c) d e))
    ∙ sym (append_assoc a ((b ++ c) ++ d) e))

-- the pieces of the tree are the covers, latches and places of the definition
pub record ArePieces (before : Word) (outer i : ℕ) (calls : Calls) : Type 0 where
  pub covers : (pieces_in before outer i calls).covers ≡ covers_in before outer i calls
  pub latches : (pieces_in before outer i calls).latches ≡ latches_in before i calls
  pub places : (pieces_in before outer i calls).places ≡ places_in calls

pub pieces-are : (before : Word) (outer i : ℕ) (calls : Calls) → ArePieces before outer i calls
pieces-are before outer i Done = record { covers = refl; latches = refl; places = refl }
pieces-are before outer i (Then l m inside behind) =
    let a = pieces-are before i (i + 1) inside in
    let b = pieces-are before outer (i + 1 + instance_count inside) behind in
    let ins : List Cover = copies_in before outer i (input_pins l) in
    let own : List Cover = map (renamed_cover (name_in before i)) m.model.covers in
    let outs : List Cover = copies_out before outer i (output_pins l) in
    let latches : List Latch = map (renamed_latch (name_in before i)) m.model.latches in
    let first : List Place = map (λ (p : Pin). l.place) (input_pins l) in
    let last : List Place = map (λ (p : Pin). l.place) (output_pins l) in
    record {
      covers = ap (λ (cs : List Cover). (ins ++ own) ++ (cs ++ (outs ++ (pieces_in before outer (i + 1 + instance_count inside) behind).covers))) a.covers
          ∙ (ap (λ (cs : List Cover). (ins ++ own) ++ (covers_in before i (i + 1) inside ++ (outs ++ cs))) b.covers
          ∙ regrouped ins own (covers_in before i (i + 1) inside) outs (covers_in before outer (i + 1 + instance_count inside) behind));
      latches = ap (λ (ls : List Latch). latches ++ (ls ++ (pieces_in before outer (i + 1 + instance_count inside) behind).latches)) a.latches
          ∙ (ap (λ (ls : List Latch). latches ++ (latches_in before (i + 1) inside ++ ls)) b.latches
          ∙ sym (append_assoc latches (latches_in before (i + 1) inside) (latches_in before (i + 1 + instance_count inside) behind)));
      places = ap (λ (ps : List Place). (first ++ m.places) ++ (ps ++ (last ++ (pieces_in before outer (i + 1 + instance_count inside) behind).places))) a.places
          ∙ (ap (λ (ps : List Place). (first ++ m.places) ++ (places_in inside ++ (last ++ ps))) b.places
          ∙ regrouped first m.places (places_in inside) last (places_in behind));
    }

-- DEPTH

-- all calls by two ways to go inside that agree on every module that is called
all_calls-agree : (f g : List Link → Calls) (modules : List Module) (ls : List Link)
    → ((j : ℕ) (l : Link) (m : Module) → slice_get ls j ≡ Some l → slice_get modules l.called ≡ Some m → f m.links ≡ g m.links)
    → all_calls f modules ls ≡ all_calls g modules ls
all_calls-agree f g modules [] same = refl
all_calls-agree f g modules (l ∷ ls) same = go (slice_get modules l.called) refl (all_calls-agree f g modules ls (λ j l2 m at there. same (suc j) l2 m at there))
  where
    go : (o : Option Module) → slice_get modules l.called ≡ o → all_calls f modules ls ≡ all_calls g modules ls → then_call l f o (all_calls f modules ls) ≡ then_call l g o (all_calls g modules ls)
    go None is rest = rest
    go (Some m) is rest =
        ap (λ (c : Calls). Then l m c (all_calls f modules ls)) (same zero l m refl is) ∙ ap (λ (c : Calls). Then l m (g m.links) c) rest

-- any depth above its rank is deep enough for a module
pub depth-enough : (modules : List Module) (rank : ℕ → ℕ) → AreRankedBy modules rank → (n p k : ℕ) (m : Module) → slice_get modules k ≡ Some m → rank k < n → rank k < p
    → calls_in n modules m.links ≡ calls_in p modules m.links
depth-enough modules rank ranked zero p k m at lt small = absurd (omega (arith, lt))
depth-enough modules rank ranked (suc n) zero k m at lt small = absurd (omega (arith, small))
depth-enough modules rank ranked (suc n) (suc p) k m at lt small =
    all_calls-agree (calls_in n modules) (calls_in p modules) modules m.links
    (λ j l d link there.
    let lower : rank l.called < rank k = ranked.lower k j m l at link in
    depth-enough modules rank ranked n p l.called d there (omega (arith, lower, lt)) (omega (arith, lower, small)))

pub whole-again : (modules : List Module) (rank : ℕ → ℕ) → AreRankedBy modules rank → (k : ℕ) (m : Module) → slice_get modules k ≡ Some m
    → whole modules m.links ≡ all_calls (whole modules) modules m.links
whole-again modules rank ranked k m at =
    let small : rank k < length modules = ranked.small k m at in
    depth-enough modules rank ranked (length modules) (suc (length modules)) k m at small (omega (arith, small))

-- STEPS

drop-none : {A : Type 0} (xs : List A) (i : ℕ) → slice_get xs i ≡ None → drop i xs ≡ []
drop-none [] zero e = refl
drop-none [] (suc i) e = refl
drop-none (x ∷ xs) zero e = absurd cc
drop-none (x ∷ xs) (suc i) e = drop-none xs i e

drop-one : {A : Type 0} (xs : List A) (i : ℕ) (x : A) → slice_get xs i ≡ Some x → drop i xs ≡ x ∷ drop (suc i) xs
drop-one [] zero x e = absurd cc
drop-one [] (suc i) x e = absurd cc
drop-one (y ∷ xs) zero x e = let same : y ≡ x = cc in ap (λ z. z ∷ xs) same
drop-one (y ∷ xs) (suc i) x e = drop-one xs i x e

remaining-none : (modules : List Module) (f : Frame) → slice_get (links_of modules f.called) f.next ≡ None → remaining modules f ≡ Done
remaining-none modules f e = ap (λ (ls : List Link). all_calls (whole modules) modules ls) (drop-none (links_of modules f.called) f.next e)

pub step-out : (before : Word) (modules : List Module) (n : ℕ) (f : Frame) (fs : List Frame) → slice_get (links_of modules f.called) f.next ≡ None
    → Steps before modules n f fs (closing before modules f) n fs
step-out before modules n f fs e =
    let none : remaining modules f ≡ Done = remaining-none modules f e in
    record {
      pieces = ap (λ (c : Calls). joined (pieces_in before f.instance n c) (joined (closing before modules f) (due before modules (n + instance_count c) fs))) none
          ∙ ap (λ (k : ℕ). joined (closing before modules f) (due before modules k fs)) (plus-zero n);
      count = zero-plus n (due_count modules fs) ∙ ap (λ (c : Calls). n + (instance_count c + due_count modules fs)) (sym none);
      less = subst (λ (c : Calls). due_steps modules fs < (1 + 2 * instance_count c) + due_steps modules fs) (sym none) (omega arith);
    }
  where
    plus-zero : (n : ℕ) → n + 0 ≡ n
    plus-zero n = omega arith

    zero-plus : (n d : ℕ) → n + d ≡ n + (0 + d)
    zero-plus n d = omega arith

remaining-one : (modules : List Module) (f : Frame) (l : Link) → slice_get (links_of modules f.called) f.next ≡ Some l
    → remaining modules f ≡ then_call l (whole modules) (slice_get modules l.called) (remaining modules (after f))
remaining-one modules f l e =
    ap (λ (ls : List Link). all_calls (whole modules) modules ls) (drop-one (links_of modules f.called) f.next l e)
    ∙ ap (λ (i : ℕ). all_calls (whole modules) modules (l ∷ drop i (links_of modules f.called))) (plus-one f.next)
  where
    plus-one : (n : ℕ) → suc n ≡ n + 1
    plus-one n = omega arith

remaining-then : (modules : List Module) (f : Frame) (l : Link) (m : Module) → slice_get (links_of modules f.called) f.next ≡ Some l → slice_get modules l.called ≡ Some m
    → remaining modules f ≡ Then l m (whole modules m.links) (remaining modules (after f))
remaining-then modules f l m e there =
    remaining-one modules f l e ∙ ap (λ (o : Option Module). then_call l (whole modules) o (remaining modules (after f))) there

remaining-inner : (modules : List Module) (rank : ℕ → ℕ) → AreRankedBy modules rank → (n : ℕ) (f : Frame) (l : Link) (m : Module) → slice_get modules l.called ≡ Some m
    → remaining modules (inner n f l) ≡ whole modules m.links
remaining-inner modules rank ranked n f l m there =
    ap (λ (o : Option Module). all_calls (whole modules) modules (links_in o)) there ∙ sym (whole-again modules rank ranked l.called m there)

pub step-in : (before : Word) (modules : List Module) (rank : ℕ → ℕ) → AreRankedBy modules rank → (n : ℕ) (f : Frame) (fs : List Frame) (l : Link) (m : Module)
    → slice_get (links_of modules f.called) f.next ≡ Some l → slice_get modules l.called ≡ Some m
    → Steps before modules n f fs (entered before f.instance n l m) (n + 1) (inner n f l ∷ after f ∷ fs)
step-in before modules rank ranked n f fs l m e there =
    let W : Calls = whole modules m.links in
    let R : Calls = remaining modules (after f) in
    let is : remaining modules f ≡ Then l m W R = remaining-then modules f l m e there in
    let within : remaining modules (inner n f l) ≡ W = remaining-inner modules rank ranked n f l m there in
    let closes : closing before modules (inner n f l) ≡ pieces_behind before f.instance n l = closes-with before modules n f l e in
    let first : Pieces = entered before f.instance n l m in
    let a : Pieces = pieces_in before n (n + 1) W in
    let b : Pieces = pieces_behind before f.instance n l in
    let c : Pieces = pieces_in before f.instance (n + 1 + instance_count W) R in
    let z : Pieces = closing before modules f in
    let d : Pieces = due before modules (n + 1 + instance_count W + instance_count R) fs in
    let numbers : n + (1 + (instance_count W + instance_count R)) ≡ n + 1 + instance_count W + instance_count R = omega arith in
    record {
      pieces =
          ap (λ (k : Calls). joined (pieces_in before f.instance n k) (joined z (due before modules (n + instance_count k) fs))) is
          ∙ (ap (λ (k : ℕ). joined (joined first (joined a (joined b c))) (joined z (due before modules k fs))) numbers
          ∙ (regroup first a b c (joined z d)
          ∙ sym (ap (λ (k : Calls). joined first (joined (pieces_in before n (n + 1) k) (joined (closing before modules (inner n f l)) (joined (pieces_in before f.instance (n + 1 + instance_count k) R) (joined z (due before modules (n + 1 + instance_count k + instance_count R) fs)))))) within
          ∙ ap (λ (q : Pieces). joined first (joined a (joined q (joined c (joined z d))))) closes)));
      count =
          ap (λ (k : Calls). n + 1 + (instance_count k + (instance_count R + due_count modules fs))) within
          ∙ (counts n (instance_count W) (instance_count R) (due_count modules fs)
          ∙ ap (λ (k : Calls). n + (instance_count k + due_count modules fs)) (sym is));
      less =
          subst (λ (k : Calls). (1 + 2 * instance_count k) + ((1 + 2 * instance_count R) + due_steps modules fs) < (1 + 2 * instance_count (remaining modules f)) + due_steps modules fs) (sym within)
          (subst (λ (k : Calls). (1 + 2 * instance_count W) + ((1 + 2 * instance_count R) + due_steps modules fs) < (1 + 2 * instance_count k) + due_steps modules fs) (sym is)
          (fewer (instance_count W) (instance_count R) (due_steps modules fs)));
    }
  where
    regroup : (first a b c y : Pieces) → joined (joined first (joined a (joined b c))) y ≡ joined first (joined a (joined b (joined c y)))
    regroup first a b c y =
        joined-assoc first (joined a (joined b c)) y
        ∙ ap (λ (p : Pieces). joined first p) (joined-assoc a (joined b c) y ∙ ap (λ (p : Pieces). joined a p) (joined-assoc b c y))

    counts : (n w r s : ℕ) → n + 1 + (w + (r + s)) ≡ n + ((1 + (w + r)) + s)
    counts n w r s = omega arith

    fewer : (w r s : ℕ) → (1 + 2 * w) + ((1 + 2 * r) + s) < (1 + 2 * (1 + (w + r))) + s
    fewer w r s = omega arith

    closes-with : (before : Word) (modules : List Module) (n : ℕ) (f : Frame) (l : Link) → slice_get (links_of modules f.called) f.next ≡ Some l → closing before modules (inner n f l) ≡ pieces_behind before f.instance n l
    closes-with before modules n f l e = ap (λ (o : Option Link). elim o [ None ↦ no_pieces | Some k ↦ pieces_behind before f.instance n k ]) e

-- what is called is there
pub known_call : (modules : List Module) (rank : ℕ → ℕ) → AreRankedBy modules rank → (k j : ℕ) (l : Link) → slice_get (links_of modules k) j ≡ Some l → l.called < length modules
known_call modules rank ranked k j l e = go (slice_get modules k) refl e
  where
    go : (o : Option Module) → slice_get modules k ≡ o → slice_get (links_in o) j ≡ Some l → l.called < length modules
    go None is at = absurd (none j at)
      where
        none : (j : ℕ) → slice_get [] j ≡ Some l → ⊥
        none zero e = absurd cc
        none (suc j) e = absurd cc
    go (Some m) is at = ranked.known k j m l is at

-- where the call of a frame isn't there, nothing is due behind it
pub close-none : (before : Word) (modules : List Module) (f : Frame) (caller : Caller) (out : Pieces) → f.caller ≡ Some caller → slice_get (links_of modules caller.called) caller.link ≡ None
    → out ≡ joined out (closing before modules f)
close-none before modules f caller out is at =
    sym (ap (λ (o : Option Caller). joined out (closing_by before modules f.instance o)) is
    ∙ (ap (λ (o : Option Link). joined out (closing_link before caller.instance f.instance o)) at ∙ joined-none out))

pub close-some : (before : Word) (modules : List Module) (f : Frame) (caller : Caller) (l : Link) (out out2 : Pieces) → f.caller ≡ Some caller → slice_get (links_of modules caller.called) caller.link ≡ Some l
    → out2 ≡ joined out (pieces_behind before caller.instance f.instance l) → out2 ≡ joined out (closing before modules f)
close-some before modules f caller l out out2 is at e =
    e ∙ sym (ap (λ (o : Option Caller). joined out (closing_by before modules f.instance o)) is
    ∙ ap (λ (o : Option Link). joined out (closing_link before caller.instance f.instance o)) at)

reverse-one : (fs : List Frame) (f : Frame) → reverse (fs ++ f ∷ []) ≡ f ∷ reverse fs
reverse-one fs f = reverse-append fs (f ∷ [])

pub step-in-stack : (before : Word) (modules : List Module) (ranked : (rank : ℕ → ℕ) × AreRankedBy modules rank) (n : ℕ) (f : Frame) (stack after2 : List Frame) (l : Link) (m : Module) (out out2 : Pieces)
    → slice_get (links_of modules f.called) f.next ≡ Some l → slice_get modules l.called ≡ Some m
    → out2 ≡ joined out (entered before f.instance n l m) → after2 ≡ (stack ++ after f ∷ []) ++ inner n f l ∷ []
    → (done : Pieces) × ((out2 ≡ joined out done) × Steps before modules n f (reverse stack) done (n + 1) (reverse after2))
step-in-stack before modules ranked n f stack after2 l m out out2 at there e is =
    let frames : reverse after2 ≡ inner n f l ∷ after f ∷ reverse stack =
    ap reverse is ∙ (reverse-one (stack ++ after f ∷ []) (inner n f l) ∙ ap (λ (fs : List Frame). inner n f l ∷ fs) (reverse-one stack (after f))) in (
      entered before f.instance n l m,
      (
        e,
        subst (λ (fs : List Frame). Steps before modules n f (reverse stack) (entered before f.instance n l m) (n + 1) fs) (sym frames)
            (step-in before modules ranked.0 ranked.1 n f (reverse stack) l m at there),
      ),
    )

pub step-out-stack : (before : Word) (modules : List Module) (n : ℕ) (f : Frame) (stack : List Frame) (out out2 : Pieces)
    → slice_get (links_of modules f.called) f.next ≡ None → out2 ≡ joined out (closing before modules f)
    → (done : Pieces) × ((out2 ≡ joined out done) × Steps before modules n f (reverse stack) done n (reverse stack))
step-out-stack before modules n f stack out out2 at e = (closing before modules f, (e, step-out before modules n f (reverse stack) at))

-- the loop's facts after a step
pub walk-on : (before : Word) (modules : List Module) (n n2 : ℕ) (f : Frame) (stack rest after2 : List Frame) (out out2 all : Pieces) (count : ℕ)
    → stack ≡ rest ++ f ∷ [] → (done : Pieces) × ((out2 ≡ joined out done) × Steps before modules n f (reverse rest) done n2 (reverse after2))
    → joined out (due before modules n (reverse stack)) ≡ all → n + due_count modules (reverse stack) ≡ count
    → ((joined out2 (due before modules n2 (reverse after2)) ≡ all) × (n2 + due_count modules (reverse after2) ≡ count)) × (due_steps modules (reverse after2) < due_steps modules (reverse stack))
walk-on before modules n n2 f stack rest after2 out out2 all count is taken had counted =
    let frames : reverse stack ≡ f ∷ reverse rest = ap reverse is ∙ reverse-one rest f in
    let steps : Steps before modules n f (reverse rest) taken.0 n2 (reverse after2) = taken.1.1 in (
      (
        ap (λ (p : Pieces). joined p (due before modules n2 (reverse after2))) taken.1.0
            ∙ (joined-assoc out taken.0 (due before modules n2 (reverse after2))
            ∙ (ap (λ (p : Pieces). joined out p) (sym steps.pieces) ∙ (ap (λ (fs : List Frame). joined out (due before modules n fs)) (sym frames) ∙ had))),
        steps.count ∙ (ap (λ (fs : List Frame). n + due_count modules fs) (sym frames) ∙ counted),
      ),
      subst (λ (fs : List Frame). due_steps modules (reverse after2) < due_steps modules fs) (sym frames) steps.less,
    )

-- the first frame, that of the top
abbrev pub top_frame : ℕ → Frame
top_frame top = record { called = top; next = 0; instance = 0; caller = None }

top-remaining : (modules : List Module) (ranked : (rank : ℕ → ℕ) × AreRankedBy modules rank) (top : ℕ) → top < length modules → remaining modules (top_frame top) ≡ whole modules (links_of modules top)
top-remaining modules ranked top lt =
    let there : (m : Module) × (slice_get modules top ≡ Some m) = stands_below modules top lt in
    let links : links_of modules top ≡ there.0.links = ap (λ (o : Option Module). links_in o) there.1 in
    ap (λ (ls : List Link). all_calls (whole modules) modules ls) links
    ∙ (sym (whole-again modules ranked.0 ranked.1 top there.0 there.1) ∙ ap (λ (ls : List Link). whole modules ls) (sym links))

pub walk-start : (before : Word) (modules : List Module) (ranked : (rank : ℕ → ℕ) × AreRankedBy modules rank) (top : ℕ) (start : Pieces) (stack : List Frame) → top < length modules → stack ≡ top_frame top ∷ []
    → (joined start (due before modules 1 (reverse stack)) ≡ joined start (pieces_in before 0 1 (whole modules (links_of modules top))))
    × (1 + due_count modules (reverse stack) ≡ 1 + instance_count (whole modules (links_of modules top)))
walk-start before modules ranked top start stack lt is =
    let first : remaining modules (top_frame top) ≡ whole modules (links_of modules top) = top-remaining modules ranked top lt in
    let frames : reverse stack ≡ top_frame top ∷ [] = ap reverse is in (
      ap (λ (fs : List Frame). joined start (due before modules 1 fs)) frames
          ∙ (ap (λ (p : Pieces). joined start p) (joined-none (pieces_in before 0 1 (remaining modules (top_frame top))))
          ∙ ap (λ (c : Calls). joined start (pieces_in before 0 1 c)) first),
      ap (λ (fs : List Frame). 1 + due_count modules fs) frames ∙ (plus-none (instance_count (remaining modules (top_frame top))) ∙ ap (λ (c : Calls). 1 + instance_count c) first),
    )
  where
    plus-none : (n : ℕ) → 1 + (n + 0) ≡ 1 + n
    plus-none n = omega arith

pub walk-end : (before : Word) (modules : List Module) (n : ℕ) (stack : List Frame) (out all : Pieces) (count : ℕ) → stack ≡ []
    → joined out (due before modules n (reverse stack)) ≡ all → n + due_count modules (reverse stack) ≡ count → (out ≡ all) × (n ≡ count)
walk-end before modules n stack out all count is had counted =
    let frames : reverse stack ≡ [] = ap reverse is in (
      sym (joined-none out) ∙ (ap (λ (fs : List Frame). joined out (due before modules n fs)) (sym frames) ∙ had),
      plus-zero n ∙ (ap (λ (fs : List Frame). n + due_count modules fs) (sym frames) ∙ counted),
    )
  where
    plus-zero : (n : ℕ) → n ≡ n + 0
    plus-zero n = omega arith
