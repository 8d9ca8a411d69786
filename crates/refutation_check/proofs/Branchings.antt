-- Branches that are left while facts come and go.
use Rattle.std.proofs.Common.{Bool, List, [], ap, arith, false, length, length-append, map, not, refl, sym, take, true, ℕ, ◌++◌, ◌<◌, ◌∙◌, ◌∷◌, ◌≡◌, ◌≤◌}
use Rattle.std.proofs.lemmas.List.{length-map, length-take-le, nil_from_length, take-append-le, take-take, take_all}
use Rattle.refutation.specs.Facts.{with_fact}
use Rattle.refutation.specs.Stack.{Due, MayEnd, no_tree, tree, untried_for}
use Rattle.refutation.specs.declared.items.Form.{Form}
use Rattle.refutation.specs.declared.items.Form.TheVariants.{Closed, Partial}
use Rattle.refutation.specs.declared.reasoning.Fact.{Fact}
use Rattle.refutation.specs.declared.reasoning.Fact.TheVariants.{Good}
use Rattle.refutation_check.specs.Inner.Notes.{HasMore, Notes, held_of}
use Rattle.refutation_check.specs.Inner.Standing.{Climb, IsClimbing, Moves, left_in, left_of, others_of}
use Rattle.refutation_check.specs.declared.branches.Branches.{Branches}
use Rattle.refutation_check.specs.declared.branches.Pending.{Pending}
use Rattle.refutation_check.specs.declared.trail.HeldFact.{HeldFact}
use Rattle.rm_base.specs.declared.numbers.NodeId.{NodeId}

-- the second branch that the last split left
pub others-push : (t : List HeldFact) (ps : List Pending) (p : Pending) → others_of t (ps ++ p ∷ []) ≡ tree (with_fact (held_of (take p.mark t)) p.node.0 (Good (not p.first))) ∷ others_of t ps
others-push t [] p = refl
others-push t (q ∷ ps) p = ap (λ hs. hs ++ tree (with_fact (held_of (take q.mark t)) q.node.0 (Good (not q.first))) ∷ []) (others-push t ps p)

-- there is one where something is pending
pub some_others : (t : List HeldFact) (ps : List Pending) (f : Due → Due) → map f (others_of t ps) ≡ [] → ps ≡ []
some_others t [] f e = refl
some_others t (p ∷ ps) f e =
    let size : length (map f (others_of t (p ∷ ps))) ≡ length (others_of t (p ∷ ps)) = length-map (others_of t (p ∷ ps)) f in
    let none : length (map f (others_of t (p ∷ ps))) ≡ 0 = ap (λ (ds : List Due). length ds) e in
    absurd (omega (arith, size, none, length-append (others_of t ps) (tree (with_fact (held_of (take p.mark t)) p.node.0 (Good (not p.first))) ∷ [])))

-- CLIMBING
-- the last mark, and the marks before it
pub record ClimbsTo (n low high : ℕ) (ps : List Pending) (p : Pending) : Type 0 where
  pub before : Climb n low ps p.mark
  pub within : p.node.0 < n
  pub mark : p.mark ≤ high

pub climb_last : (n low high : ℕ) (ps : List Pending) (p : Pending) → Climb n low (ps ++ p ∷ []) high → ClimbsTo n low high ps p
climb_last n low high [] p c = record { before = c.1.0; within = c.0; mark = c.1.1 }
climb_last n low high (q ∷ ps) p c =
    let rest : ClimbsTo n q.mark high ps p = climb_last n q.mark high ps p c.1.1 in
    record { before = (c.0, (c.1.0, rest.before)); within = rest.within; mark = rest.mark }

pub climb_popped : (b : Branches) (ps : List Pending) (p : Pending) → b.pending.items ≡ ps ++ p ∷ [] → IsClimbing b → ClimbsTo b.trail.numbers 0 (length b.trail.entries) ps p
climb_popped b ps p popped c = climb_last b.trail.numbers 0 (length b.trail.entries) ps p (rw popped at c)

pub climb_more : (n low middle high : ℕ) (ps : List Pending) → Climb n low ps middle → middle ≤ high → Climb n low ps high
climb_more n low middle high [] c h = omega arith
climb_more n low middle high (q ∷ ps) c h = (c.0, (c.1.0, climb_more n q.mark middle high ps c.1.1 h))

pub climb_push : (n low high : ℕ) (ps : List Pending) (p : Pending) → Climb n low ps p.mark → p.node.0 < n → p.mark ≤ high → Climb n low (ps ++ p ∷ []) high
climb_push n low high [] p c in_range h = (in_range, (c, h))
climb_push n low high (q ∷ ps) p c in_range h = (c.0, (c.1.0, climb_push n q.mark high ps p c.1.1 in_range h))

climb_le : (n low high : ℕ) (ps : List Pending) → Climb n low ps high → low ≤ high
climb_le n low high [] c = c
climb_le n low high (q ∷ ps) c = let rest : q.mark ≤ high = climb_le n q.mark high ps c.1.1 in omega (arith, c.1.0)

-- the second branches see only what came before their marks
pub others_same : (n low high : ℕ) (t s : List HeldFact) (ps : List Pending) → Climb n low ps high → take high t ≡ take high s → others_of t ps ≡ others_of s ps
others_same n low high t s [] c e = refl
others_same n low high t s (q ∷ ps) c e =
    let le : q.mark ≤ high = climb_le n q.mark high ps c.1.1 in
    let front : take q.mark t ≡ take q.mark s = sym (take-take q.mark high t le) ∙ ap (λ (r : List HeldFact). take q.mark r) e ∙ take-take q.mark high s le in
    rw (front) (ap (λ hs. hs ++ tree (with_fact (held_of (take q.mark s)) q.node.0 (Good (not q.first))) ∷ []) (others_same n q.mark high t s ps c.1.1 e))

-- MOVES
pub open_left : (b : Branches) → b.stopped ≡ false → left_of b ≡ tree (held_of b.trail.entries) ∷ others_of b.trail.entries b.pending.items
open_left b e = ap (λ (s : Bool). left_in s b.trail.entries b.pending.items) e

pub stopped_left : (b : Branches) → b.stopped ≡ true → left_of b ≡ untried_for (others_of b.trail.entries b.pending.items)
stopped_left b e = ap (λ (s : Bool). left_in s b.trail.entries b.pending.items) e

-- nothing is left once a tree has ended and nothing is pending
pub none_left : (b : Branches) → b.stopped ≡ true → length b.pending.items ≡ 0 → left_of b ≡ []
none_left b stopped none = stopped_left b stopped ∙ ap (λ (ps : List Pending). untried_for (others_of b.trail.entries ps)) (nil_from_length b.pending.items none)

pub none_pending : (b : Branches) → b.stopped ≡ true → left_of b ≡ [] → length b.pending.items ≡ 0
none_pending b stopped none = ap (λ (ps : List Pending). length ps) (some_others b.trail.entries b.pending.items (λ d. no_tree) (sym (stopped_left b stopped) ∙ none))

-- facts came after what the marks see
module _ (t s more : List HeldFact) (is : s ≡ t ++ more) (n : ℕ) (ps : List Pending) (c : Climb n 0 ps (length t)) where
  pub more_same : others_of s ps ≡ others_of t ps
  more_same = rw is (others_same n 0 (length t) (t ++ more) t ps c (take-append-le (length t) t more (omega arith)))

  pub more_climbs : Climb n 0 ps (length s)
  more_climbs = climb_more n 0 (length t) (length s) ps c (rw is (omega (arith, length-append t more)))

-- a fact more in the branch
pub held_moves : (b b' : Branches) (x : ℕ) (fact : Fact) → IsClimbing b → b.stopped ≡ false → b'.stopped ≡ b.stopped → b'.pending.items ≡ b.pending.items → HasMore b.trail b'.trail → held_of b'.trail.entries ≡ with_fact (held_of b.trail.entries) x fact → Moves (tree (with_fact (held_of b.trail.entries) x fact) ∷ others_of b.trail.entries b.pending.items) b b'
held_moves b b' x fact c opened kept pending more held = record {
  climbs = rw (more.numbers, pending) (more_climbs b.trail.entries b'.trail.entries more.entries.0 more.entries.1 b.trail.numbers b.pending.items c);
  numbers = more.numbers;
  left_is =
      rw (open_left b' (kept ∙ opened), held, pending, more_same b.trail.entries b'.trail.entries more.entries.0 more.entries.1 b.trail.numbers b.pending.items c) refl;
}

-- a split: the first branch is read, and the second one is left
pub split_moves : (b b' : Branches) (x : NodeId) (first : Bool) (mark : ℕ) → mark ≡ length b.trail.entries → IsClimbing b → b.stopped ≡ false → b'.stopped ≡ b.stopped → x.0 < b.trail.numbers → b'.pending.items ≡ b.pending.items ++ (record { mark = mark; node = x; first = first }) ∷ [] → HasMore b.trail b'.trail → held_of b'.trail.entries ≡ with_fact (held_of b.trail.entries) x.0 (Good first)
    → Moves (tree (with_fact (held_of b.trail.entries) x.0 (Good first)) ∷ tree (with_fact (held_of b.trail.entries) x.0 (Good (not first))) ∷ others_of b.trail.entries b.pending.items) b b'
split_moves b b' x first mark at c opened kept within pushed more held =
    let t : List HeldFact = b.trail.entries in
    let s : List HeldFact = b'.trail.entries in
    let p : Pending = record { mark = mark; node = x; first = first } in
    let longer : length t ≤ length s = rw more.entries.1 (omega (arith, length-append t more.entries.0)) in
    let front : take mark s ≡ t = rw (more.entries.1, at) (take-append-le (length t) t more.entries.0 (omega arith) ∙ take_all (length t) t (omega arith)) in
    record {
      climbs = rw (more.numbers, pushed) (climb_push b.trail.numbers 0 (length s) b.pending.items p (rw at c) within (rw at longer));
      numbers = more.numbers;
      left_is =
          rw (open_left b' (kept ∙ opened), held, pushed, others-push s b.pending.items p, front, more_same t s more.entries.0 more.entries.1 b.trail.numbers b.pending.items c) refl;
    }

-- a branch that isn't the last may end
pub may_end : (form : Form) (t : List HeldFact) (all ps : List Pending) (p : Pending) → all ≡ ps ++ p ∷ [] → MayEnd form (others_of t all)
may_end Closed t all ps p popped = tt
may_end Partial t all ps p popped = λ none.
    let some : others_of t all ≡ tree (with_fact (held_of (take p.mark t)) p.node.0 (Good (not p.first))) ∷ others_of t ps = ap (others_of t) popped ∙ others-push t ps p in
    cc

-- the end of a branch: the facts since its split are taken back, and the second branch is read
pub end_moves : (b b' : Branches) (ps : List Pending) (p : Pending) (u : Notes) → IsClimbing b → b.stopped ≡ false → b'.stopped ≡ b.stopped → b.pending.items ≡ ps ++ p ∷ [] → b'.pending.items ≡ ps → u ≡ record b.trail { entries = take p.mark b.trail.entries } → HasMore u b'.trail → held_of b'.trail.entries ≡ with_fact (held_of u.entries) p.node.0 (Good (not p.first))
    → Moves (others_of b.trail.entries b.pending.items) b b'
end_moves b b' ps p u c opened kept popped pending undone more held =
    let t : List HeldFact = b.trail.entries in
    let s : List HeldFact = b'.trail.entries in
    let to : ClimbsTo b.trail.numbers 0 (length t) ps p = climb_popped b ps p popped c in
    let back : u.entries ≡ take p.mark t = ap (λ (w : Notes). w.entries) undone in
    let is : s ≡ take p.mark t ++ more.entries.0 = more.entries.1 ∙ ap (λ (r : List HeldFact). r ++ more.entries.0) back in
    let size : length (take p.mark t) ≡ p.mark = length-take-le p.mark t to.mark in
    let front : take p.mark s ≡ take p.mark t = rw is (take-append-le p.mark (take p.mark t) more.entries.0 (omega (arith, size)) ∙ take-take p.mark p.mark t (omega arith)) in
    let longer : p.mark ≤ length s = rw is (omega (arith, length-append (take p.mark t) more.entries.0, size)) in
    let numbers : b'.trail.numbers ≡ b.trail.numbers = more.numbers ∙ ap (λ (w : Notes). w.numbers) undone in
    let rest : others_of s ps ≡ others_of t ps = others_same b.trail.numbers 0 p.mark s t ps to.before front in
    let now : held_of s ≡ with_fact (held_of (take p.mark t)) p.node.0 (Good (not p.first)) = held ∙ ap (λ (r : List HeldFact). with_fact (held_of r) p.node.0 (Good (not p.first))) back in
    record {
      climbs = rw (numbers, pending) (climb_more b.trail.numbers 0 p.mark (length s) ps to.before longer);
      numbers = numbers;
      left_is = rw (open_left b' (kept ∙ opened), now, pending, rest, popped, others-push t ps p) refl;
    }

pub stop_moves : (b b' : Branches) → IsClimbing b → b'.stopped ≡ true → b'.pending.items ≡ b.pending.items → b'.trail ≡ b.trail → Moves (untried_for (others_of b.trail.entries b.pending.items)) b b'
stop_moves b b' c stopped pending trail = record {
  climbs = rw (trail, pending) c;
  numbers = ap (λ (w : Notes). w.numbers) trail;
  left_is = rw (stopped_left b' stopped, trail, pending) refl;
}

pub pass_moves : (b b' : Branches) (p : Pending) → IsClimbing b → b.stopped ≡ true → b'.stopped ≡ b.stopped → b.pending.items ≡ b'.pending.items ++ p ∷ [] → b'.trail ≡ b.trail → (left : List Due) × ((left_of b ≡ no_tree ∷ left) × Moves left b b')
pass_moves b b' p c stopped kept popped trail =
    let to : ClimbsTo b.trail.numbers 0 (length b.trail.entries) b'.pending.items p = climb_popped b b'.pending.items p popped c in (
      untried_for (others_of b.trail.entries b'.pending.items),
      (
        stopped_left b stopped ∙ ap untried_for (ap (others_of b.trail.entries) popped ∙ others-push b.trail.entries b'.pending.items p),
        record {
          climbs = rw trail (climb_more b.trail.numbers 0 p.mark (length b.trail.entries) b'.pending.items to.before to.mark);
          numbers = ap (λ (w : Notes). w.numbers) trail;
          left_is = rw (stopped_left b' (kept ∙ stopped), trail) refl;
        },
      ),
    )
