-- From the end of a branch to the splits above it.
use Rattle.std.proofs.Common.{Bool, List, Option, Some, [], ap, arith, false, length, refl, subst, sym, true, ℕ, ◌++◌, ◌+◌, ◌-◌, ◌<◌, ◌∙◌, ◌∷◌, ◌≡◌, ◌≢◌, ◌≤◌}
use Rattle.gate_net.specs.Net.{Net}
use Rattle.podem.proofs.Splitting.{closes_split, last_same, spends_first, spends_second}
use Rattle.podem.proofs.Telling.{tells_more}
use Rattle.podem.specs.Inner.Branching.{ClosesBranch, EndsBranch, SpendsBranch, Tells}
use Rattle.podem.specs.Inner.Going.{AreOpen, CanSplit, ClosesAt, ClosesFirst, HasClosedFirst, IsUnder, SpendsAt, Start}
use Rattle.podem.specs.Inner.Waiting.{value_of, waits}
use Rattle.podem.specs.declared.branching.End.TheVariants.{Closed, Spent}
use Rattle.podem.specs.declared.choosing.Goal.{Goal}
use Rattle.podem.specs.declared.splits.OpenSplit.{OpenSplit}
use Rattle.refutation.specs.Facts.{Held, with_fact}
use Rattle.refutation.specs.declared.items.Item.{Item}
use Rattle.refutation.specs.declared.items.Item.TheVariants.{Split, Untried}
use Rattle.refutation.specs.declared.reasoning.Fact.TheVariants.{Good}
use Rattle.rm_base.specs.declared.numbers.Fault.{Fault}
use Rattle.ternary_sim.specs.Tracking.{Gets}
use Rattle.ternary_sim.specs.declared.marks.NodeMarks.{NodeMarks}

abbrev pub at_of : List NodeMarks → List Item → ℕ → Start
at_of marks items left = record { marks = marks; items = items; left = left }

pub length-snoc : {A : Type 0} (xs : List A) (x : A) → length (xs ++ x ∷ []) ≡ length xs + 1
length-snoc [] x = refl
length-snoc (y ∷ xs) x = let e : length (xs ++ x ∷ []) ≡ length xs + 1 = length-snoc xs x in omega (arith, e)

-- so many values were given
pub enough_given : (net : Net) (fault : Fault) (root : Start) (splits : List OpenSplit) (before : List (List NodeMarks)) (at : Start) → AreOpen net fault root splits before at → length splits ≤ length before
enough_given net fault root [] before at h = omega arith
enough_given net fault root (s ∷ rest) before at (above, earlier, h) =
    let less : length rest ≤ length earlier = enough_given net fault root rest earlier above h.3 in
    let size : length before ≡ length earlier + 1 = ap length h.0 ∙ length-snoc earlier above.marks in
    omega (arith, less, size)

module _ (net : Net) (fault : Fault) where
  -- the facts under a split
  tells_under : (second : Bool) (choice : Goal) (above at : Start) → IsUnder net fault second choice above at → (held : Held) → Tells net above.marks held → Tells net at.marks (with_fact held choice.node.0 (Good (value_of second choice)))
  tells_under second choice above at under held tells = tells_more net fault above.marks held tells at.marks choice.node.0 (value_of second choice) under.can.may.unknown under.gets

  -- the second branch is closed, and with it the split
  closes_second : (choice : Goal) (above at : Start) → IsUnder net fault true choice above at → (tree : List Item) (left : ℕ) → EndsBranch net fault at.marks at.items tree at.left left Closed → EndsBranch net fault above.marks above.items tree above.left left Closed
  closes_second choice above at under tree left closed held tells =
      let between : ℕ = under.written.0 in
      let done : HasClosedFirst net fault choice above at.items between = under.written.1.1 in
      let below : ClosesBranch net fault (with_fact held choice.node.0 (Good (value_of true choice))) at.items tree (between - 1) left =
      subst (λ (n : ℕ). ClosesBranch net fault (with_fact held choice.node.0 (Good (value_of true choice))) at.items tree n left) under.written.1.0
      (closed (with_fact held choice.node.0 (Good (value_of true choice))) (tells_under true choice above at under held tells)) in
      closes_split net fault above.marks under.can.whole under.can.undetected under.can.loud choice.node choice.value under.can.may held tells above.items at.items tree above.left between left under.can.some (above.items ++ Split choice.node choice.value ∷ []) refl (done.first held tells) done.more below

  -- the first branch is closed
  closes_first : (choice : Goal) (above at : Start) → IsUnder net fault false choice above at → (tree : List Item) (left : ℕ) → EndsBranch net fault at.marks at.items tree at.left left Closed → 0 < left → HasClosedFirst net fault choice above tree left
  closes_first choice above at under tree left closed more = record {
    more = more;
    first = λ held tells.
        subst (λ (is : List Item). ClosesBranch net fault (with_fact held choice.node.0 (Good choice.value)) is tree (above.left - 1) left) under.written.0
        (subst (λ (n : ℕ). ClosesBranch net fault (with_fact held choice.node.0 (Good choice.value)) at.items tree n left) under.written.1
        (closed (with_fact held choice.node.0 (Good choice.value)) (tells_under false choice above at under held tells)));
  }

  -- the second branch was stopped, and with it the split
  stops_second : (choice : Goal) (above at : Start) → IsUnder net fault true choice above at → (tree : List Item) → ((held : Held) → Tells net at.marks held → SpendsBranch net fault held at.items tree at.left) → (held : Held) → Tells net above.marks held → SpendsBranch net fault held above.items tree above.left
  stops_second choice above at under tree spent held tells =
      let between : ℕ = under.written.0 in
      let done : HasClosedFirst net fault choice above at.items between = under.written.1.1 in
      let below : SpendsBranch net fault (with_fact held choice.node.0 (Good (value_of true choice))) at.items tree (between - 1) =
      subst (λ (n : ℕ). SpendsBranch net fault (with_fact held choice.node.0 (Good (value_of true choice))) at.items tree n) under.written.1.0
      (spent (with_fact held choice.node.0 (Good (value_of true choice))) (tells_under true choice above at under held tells)) in
      spends_second net fault above.marks under.can.whole under.can.undetected under.can.loud choice.node choice.value under.can.may held tells above.items at.items tree above.left between between under.can.some (above.items ++ Split choice.node choice.value ∷ []) refl (done.first held tells) done.more below

  -- the first branch was stopped, and the second one stays untried
  stops_first : (choice : Goal) (above at : Start) → IsUnder net fault false choice above at → (tree : List Item) → ((held : Held) → Tells net at.marks held → SpendsBranch net fault held at.items tree at.left) → (held : Held) → Tells net above.marks held → SpendsBranch net fault held above.items (tree ++ Untried ∷ []) above.left
  stops_first choice above at under tree spent held tells =
      let below : SpendsBranch net fault (with_fact held choice.node.0 (Good choice.value)) (above.items ++ Split choice.node choice.value ∷ []) tree (above.left - 1) =
      subst (λ (is : List Item). SpendsBranch net fault (with_fact held choice.node.0 (Good choice.value)) is tree (above.left - 1)) under.written.0
      (subst (λ (n : ℕ). SpendsBranch net fault (with_fact held choice.node.0 (Good choice.value)) at.items tree n) under.written.1
      (spent (with_fact held choice.node.0 (Good choice.value)) (tells_under false choice above at under held tells))) in
      spends_first net fault above.marks under.can.whole under.can.undetected under.can.loud choice.node choice.value under.can.may held tells above.items tree (tree ++ Untried ∷ []) above.left above.left above.left under.can.some (above.items ++ Split choice.node choice.value ∷ []) refl below refl

module _ (net : Net) (fault : Fault) (root : Start) (s : OpenSplit) (rest : List OpenSplit) where
  -- a closed branch closes the split whose second one it is
  pub closes_up : (before earlier : List (List NodeMarks)) (marks marks' : List NodeMarks) (tree : List Item) (left : ℕ) → s.second ≡ true → before ≡ earlier ++ marks' ∷ [] → ClosesAt net fault root (s ∷ rest) before marks tree left → ClosesAt net fault root rest earlier marks' tree left
  closes_up before earlier marks marks' tree left second back h =
      let above : Start = h.opened.0 in
      let same : (h.opened.1 ≡ earlier) × (above.marks ≡ marks') = last_same h.opened.1 earlier above.marks marks' (sym h.opened.2.0 ∙ back) in
      let under : IsUnder net fault true s.choice above (at_of marks h.items h.from) = subst (λ (b : Bool). IsUnder net fault b s.choice above (at_of marks h.items h.from)) second h.opened.2.2 in
      let closed : EndsBranch net fault above.marks above.items tree above.left left Closed = closes_second net fault s.choice above (at_of marks h.items h.from) under tree left h.closed in
      let more : waits rest ≡ true → 0 < left = λ w. h.some (rw (second, h.opened.2.1) w) in
      let up : ClosesAt net fault root rest h.opened.1 above.marks tree left = record { items = above.items; from = above.left; opened = h.opened.2.3; closed = closed; some = more } in
      subst (λ (ms : List NodeMarks). ClosesAt net fault root rest earlier ms tree left) same.1
      (subst (λ (b : List (List NodeMarks)). ClosesAt net fault root rest b above.marks tree left) same.0 up)

  -- a closed branch is the first one of its split
  pub closes_one : (before earlier : List (List NodeMarks)) (marks marks' : List NodeMarks) (tree : List Item) (left : ℕ) → s.second ≡ false → before ≡ earlier ++ marks' ∷ [] → ClosesAt net fault root (s ∷ rest) before marks tree left → ClosesFirst net fault root rest earlier marks' tree left s
  closes_one before earlier marks marks' tree left second back h =
      let above : Start = h.opened.0 in
      let same : (h.opened.1 ≡ earlier) × (above.marks ≡ marks') = last_same h.opened.1 earlier above.marks marks' (sym h.opened.2.0 ∙ back) in
      let under : IsUnder net fault false s.choice above (at_of marks h.items h.from) = subst (λ (b : Bool). IsUnder net fault b s.choice above (at_of marks h.items h.from)) second h.opened.2.2 in
      let more : 0 < left = h.some (rw second refl) in
      let up : ClosesFirst net fault root rest h.opened.1 above.marks tree left s = record { items = above.items; from = above.left; opened = h.opened.2.3; can = under.can; waiting = h.opened.2.1; closed = closes_first net fault s.choice above (at_of marks h.items h.from) under tree left h.closed more } in
      subst (λ (ms : List NodeMarks). ClosesFirst net fault root rest earlier ms tree left s) same.1
      (subst (λ (b : List (List NodeMarks)). ClosesFirst net fault root rest b above.marks tree left s) same.0 up)

  pub stops_up : (tree : List Item) → s.second ≡ true → SpendsAt net fault root (s ∷ rest) tree → SpendsAt net fault root rest tree
  stops_up tree second h =
      let above : Start = h.opened.0 in
      let under : IsUnder net fault true s.choice above h.at = subst (λ (b : Bool). IsUnder net fault b s.choice above h.at) second h.opened.2.2 in
      record { before = h.opened.1; at = above; opened = h.opened.2.3; spent = stops_second net fault s.choice above h.at under tree h.spent }

  pub stops_one : (tree tree' : List Item) → s.second ≡ false → tree' ≡ tree ++ Untried ∷ [] → SpendsAt net fault root (s ∷ rest) tree → SpendsAt net fault root rest tree'
  stops_one tree tree' second e h =
      let above : Start = h.opened.0 in
      let under : IsUnder net fault false s.choice above h.at = subst (λ (b : Bool). IsUnder net fault b s.choice above h.at) second h.opened.2.2 in
      subst (λ (is : List Item). SpendsAt net fault root rest is) (sym e)
      (record { before = h.opened.1; at = above; opened = h.opened.2.3; spent = stops_first net fault s.choice above h.at under tree h.spent })

pub root_closed : (net : Net) (fault : Fault) (root : Start) (before : List (List NodeMarks)) (marks : List NodeMarks) (tree : List Item) (left : ℕ) → ClosesAt net fault root [] before marks tree left → EndsBranch net fault root.marks root.items tree root.left left Closed
root_closed net fault root before marks tree left h = subst (λ (at : Start). EndsBranch net fault at.marks at.items tree at.left left Closed) h.opened h.closed

pub root_stopped : (net : Net) (fault : Fault) (root : Start) (tree : List Item) → SpendsAt net fault root [] tree → (left : ℕ) → EndsBranch net fault root.marks root.items tree root.left left Spent
root_stopped net fault root tree h left = subst (λ (at : Start). (held : Held) → Tells net at.marks held → SpendsBranch net fault held at.items tree at.left) h.opened h.spent

-- one split more, whose first branch is entered
pub opens_first : (net : Net) (fault : Fault) (root : Start) (splits : List OpenSplit) (before after : List (List NodeMarks)) (marks marks' : List NodeMarks) (items tree : List Item) (left left' : ℕ) (choice : Goal) (waiting : Bool) → AreOpen net fault root splits before (at_of marks items left) → CanSplit net fault marks choice left → waiting ≡ waits splits
    → after ≡ before ++ marks ∷ [] → tree ≡ items ++ Split choice.node choice.value ∷ [] → left' ≡ left - 1 → Gets net marks marks' choice.node.0 (value_of false choice) → AreOpen net fault root (record { choice = choice; second = false; waiting = waiting } ∷ splits) after (at_of marks' tree left')
opens_first net fault root splits before after marks marks' items tree left left' choice waiting opened can waits_is after_is tree_is left_is gets =
    (at_of marks items left, before, (after_is, waits_is, record { can = can; gets = gets; written = (tree_is, left_is) }, opened))

-- the second branch of a split is entered after the first one
pub opens_second : (net : Net) (fault : Fault) (root : Start) (splits : List OpenSplit) (before after : List (List NodeMarks)) (marks marks' : List NodeMarks) (tree : List Item) (left left' : ℕ) (s : OpenSplit) → ClosesFirst net fault root splits before marks tree left s
    → after ≡ before ++ marks ∷ [] → left' ≡ left - 1 → Gets net marks marks' s.choice.node.0 (value_of true s.choice) → AreOpen net fault root (record { choice = s.choice; second = true; waiting = s.waiting } ∷ splits) after (at_of marks' tree left')
opens_second net fault root splits before after marks marks' tree left left' s f after_is left_is gets =
    (at_of marks f.items f.from, before, (after_is, f.waiting, record { can = f.can; gets = gets; written = (left, (left_is, f.closed)) }, f.opened))
