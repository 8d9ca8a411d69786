-- Forward reading node by node in an order.
use Rattle.std.proofs.Common.{Bool, List, None, Option, Some, ap, arith, false, get_or-set_other, get_or-set_same, inl, inr, length, map, refl, sym, true, ℕ, ◌+◌, ◌<◌, ◌||◌, ◌∙◌, ◌≡◌, ◌≢◌, ◌≤◌}
use Rattle.std.proofs.lemmas.Bool.{ne_eqb}
use Rattle.std.proofs.lemmas.Bool.Decides.{eqb_tells}
use Rattle.std.specs.List.{list_all}
use Rattle.std.specs.Option.{option_map_or}
use Rattle.std.specs.Prelude.{if◌then◌else◌, nat_eq, slice_get, slice_set}
use Rattle.std.proofs.Math.Bool.{or-true}
use Rattle.gate_graph.specs.Order.{IsOrder}
use Rattle.gate_net.specs.Forward.{AgreeOn, IsForwardReading, Marking, both_known_same, equal_forward, is_idle, is_known, node_forward}
use Rattle.gate_net.proofs.Public.{list_all_agree, node_live, reads_agree}
use Rattle.gate_net.specs.Net.{IsLive, IsWellFormed, Net, Node, Reads, drivers_in, drivers_of, node_at}
use Rattle.gate_net.specs.Values.{HasPin, faulty_reads}
use Rattle.local_evaluation.proofs.Public.{live_below, reader_live}
use Rattle.local_evaluation.specs.Pins.{AreBelow}
use Rattle.rm_base.specs.declared.numbers.Fault.{Fault}
use Rattle.ternary_sim.specs.Marks.{IsReadAt, equal_at, faulty_at, good_at, mark_at, marking, no_marks}
use Rattle.ternary_sim.specs.Inner.Sims.{AreRead, IsMarked}
use Rattle.ternary_sim.specs.declared.marks.NodeMarks.{NodeMarks}
use Rattle.rm_base.proofs.Public.{map_agree, slice_get_below}

-- an order in which the drivers of each node come before it
pub record IsWalk (net : Net) (order : List ℕ) : Type 0 where
  pub all : (x : ℕ) → IsLive net x → (k : ℕ) × (slice_get order k ≡ Some x)
  pub live : (k x : ℕ) → slice_get order k ≡ Some x → IsLive net x
  pub once : (k l x : ℕ) → slice_get order k ≡ Some x → slice_get order l ≡ Some x → k ≡ l
  pub before : (k y p x : ℕ) → slice_get order k ≡ Some y → Reads net y p x → (j : ℕ) × ((j < k) × (slice_get order j ≡ Some x))

not_dead : (net : Net) (x : ℕ) → IsLive net x → node_at net x ≢ None
not_dead net x live dead = let is : node_at net x ≡ Some (record { kind = live.0; drivers = live.1.0 }) = live.1.1 in cc

pub walk_from : (net : Net) (order : List ℕ) → IsWellFormed net → IsOrder net order → IsWalk net order
walk_from net order formed given = record {
  all = λ x live. given.all x (not_dead net x live);
  live = λ k x e. node_live net x (given.live k x e);
  once = given.once;
  before = λ k y p x there reads. let at : (j : ℕ) × (slice_get order j ≡ Some x) = given.all x (formed.drivers_live y p x reads) in (at.0, (given.before at.0 k x y p at.1 there reads, at.1));
}

pub order_below : (net : Net) (order : List ℕ) → IsOrder net order → AreBelow order (length net.nodes)
order_below net order given k x e = live_below net x (given.live k x e)

-- two markings agree on the drivers of the node
abbrev pub AgreeOnDrivers : Net → Marking → Marking → ℕ → Type 0
AgreeOnDrivers net m n x = (p d : ℕ) → Reads net x p d → AgreeOn m n d

idle_agree : (net : Net) (fault : Fault) (m n : Marking) → AgreeOnDrivers net m n fault.gate.0 → is_idle net fault m.good ≡ is_idle net fault n.good
idle_agree net fault m n h = at (slice_get (drivers_of net fault.gate.0) fault.position) refl
  where
    at : (o : Option ℕ) → slice_get (drivers_of net fault.gate.0) fault.position ≡ o → option_map_or (λ d. is_known fault.value (m.good d)) o false ≡ option_map_or (λ d. is_known fault.value (n.good d)) o false
    at None e = refl
    at (Some d) e = ap (is_known fault.value) (h fault.position d e).good

equal_agree : (net : Net) (fault : Fault) (m n : Marking) (x : ℕ) → AgreeOnDrivers net m n x → (if nat_eq x fault.gate.0 then is_idle net fault m.good else list_all m.equal (drivers_of net x)) ≡ (if nat_eq x fault.gate.0 then is_idle net fault n.good else list_all n.equal (drivers_of net x))
equal_agree net fault m n x h = elim (eqb_tells x fault.gate.0) [
  | inl t ↦ rw t.0 (idle_agree net fault m n (rw t.1 at h))
  | inr t ↦ rw t.0 (list_all_agree m.equal n.equal (drivers_of net x) (λ p d e. (h p d e).equal))
]

pub read_agrees : (net : Net) (fault : Fault) (known : ℕ → Option Bool) (m n : Marking) (x : ℕ) (r : NodeMarks) → AgreeOnDrivers net m n x → IsReadAt net fault known m x r → IsReadAt net fault known n x r
read_agrees net fault known m n x r h read = record {
  good = read.good ∙ ap (node_forward (node_at net x) (known x)) (map_agree m.good n.good (drivers_of net x) (λ p d e. (h p d e).good));
  faulty = read.faulty ∙ ap (node_forward (node_at net x) (known x)) (reads_agree net fault Some m.faulty n.faulty x (λ p d e. (h p d e).faulty));
  equal = read.equal ∙ ap (λ b. both_known_same r.good r.faulty || b) (equal_agree net fault m n x h);
}

-- WRITING ONE NODE'S MARKS
mark_same : (marks : List NodeMarks) (x : ℕ) (r : NodeMarks) → x < length marks → mark_at (slice_set marks x r) x ≡ r
mark_same marks x r h = get_or-set_same marks x r no_marks h

pub mark_other : (marks : List NodeMarks) (x y : ℕ) (r : NodeMarks) → y ≢ x → mark_at (slice_set marks x r) y ≡ mark_at marks y
mark_other marks x y r ne = get_or-set_other marks x y r no_marks ne

pub agree_other : (marks : List NodeMarks) (x y : ℕ) (r : NodeMarks) → y ≢ x → AgreeOn (marking marks) (marking (slice_set marks x r)) y
agree_other marks x y r ne =
    let same : mark_at marks y ≡ mark_at (slice_set marks x r) y = sym (mark_other marks x y r ne) in
    record { good = ap (λ (m : NodeMarks). m.good) same; faulty = ap (λ (m : NodeMarks). m.faulty) same; equal = ap (λ (m : NodeMarks). m.equal) same }

module _ (net : Net) (fault : Fault) (known : ℕ → Option Bool) (order : List ℕ) (fits : IsWalk net order) where
  -- the drivers of a node of the order up to i are written at other places
  apart : (i k x y : ℕ) → k ≤ i → slice_get order i ≡ Some x → slice_get order k ≡ Some y → (p d : ℕ) → Reads net y p d → d ≢ x
  apart i k x y h there there' p d reads e =
      let found : (j : ℕ) × ((j < k) × (slice_get order j ≡ Some d)) = fits.before k y p d there' reads in
      let same : found.0 ≡ i = fits.once found.0 i x (found.1.1 ∙ ap Some e) there in
      let less : found.0 < k = found.1.0 in
      absurd (omega arith)

  pub read_more : (marks : List NodeMarks) (i x : ℕ) (r : NodeMarks) → slice_get order i ≡ Some x → x < length marks → AreRead net fault known order marks i → IsReadAt net fault known (marking marks) x r → AreRead net fault known order (slice_set marks x r) (i + 1)
  read_more marks i x r there within read at_x k y less there' = elim (eqb_tells y x) [
    | inl t ↦ rw (t.1, mark_same marks x r within)
        (read_agrees net fault known (marking marks) (marking (slice_set marks x r)) x r
        (λ p d reads. agree_other marks x d r (apart i i x x (omega arith) there there p d reads)) at_x)
    | inr t ↦
        let ne : k ≢ i = (λ e. let moved : slice_get order k ≡ slice_get order i = ap (slice_get order) e in let is : y ≡ x = cc in t.1 is) in
        let below : k < i = omega arith in
        rw (mark_other marks x y r t.1)
        (read_agrees net fault known (marking marks) (marking (slice_set marks x r)) y (mark_at marks y)
        (λ p d reads. agree_other marks x d r (apart i k x y (omega arith) there there' p d reads)) (read k y below there'))
  ]

  -- when all have been read, the marks are the forward reading
  pub all_read : (marks : List NodeMarks) → IsMarked order marks → HasPin net fault → AreRead net fault known order marks (length order) → IsForwardReading net fault known (marking marks)
  all_read marks marked stuck read = record { good = λ x. good_of x (node_at net x) refl; faulty = λ x. faulty_of x (node_at net x) refl; equal = λ x. equal_of x (node_at net x) refl }
    where
      live : (x : ℕ) (n : Node) → node_at net x ≡ Some n → IsReadAt net fault known (marking marks) x (mark_at marks x)
      live x n is =
          let found : (k : ℕ) × (slice_get order k ≡ Some x) = fits.all x (n.kind, (n.drivers, is)) in
          read found.0 x (slice_get_below order found.0 (λ none. let wrong : Some x ≡ None = sym found.1 ∙ none in cc)) found.1

      dead : (x : ℕ) → node_at net x ≡ None → mark_at marks x ≡ no_marks
      dead x is = marked.others x (λ k there. let alive : IsLive net x = fits.live k x there in let wrong : node_at net x ≡ Some (record { kind = alive.0; drivers = alive.1.0 }) = alive.1.1 in cc)

      good_of : (x : ℕ) (o : Option Node) → node_at net x ≡ o → good_at marks x ≡ node_forward (node_at net x) (known x) (map (good_at marks) (drivers_of net x))
      good_of x None is = ap (λ (m : NodeMarks). m.good) (dead x is) ∙ ap (λ o. node_forward o (known x) (map (good_at marks) (drivers_in o))) (sym is)
      good_of x (Some n) is = (live x n is).good

      faulty_of : (x : ℕ) (o : Option Node) → node_at net x ≡ o → faulty_at marks x ≡ node_forward (node_at net x) (known x) (faulty_reads net fault Some (faulty_at marks) x)
      faulty_of x None is = ap (λ (m : NodeMarks). m.faulty) (dead x is) ∙ ap (λ o. node_forward o (known x) (faulty_reads net fault Some (faulty_at marks) x)) (sym is)
      faulty_of x (Some n) is = (live x n is).faulty

      gate_lives : (x : ℕ) → node_at net x ≡ None → x ≢ fault.gate.0
      gate_lives x is e = let alive : IsLive net fault.gate.0 = reader_live net fault.gate.0 fault.position stuck.0 stuck.1 in
          let wrong : node_at net x ≡ Some (record { kind = alive.0; drivers = alive.1.0 }) = rw e alive.1.1 in cc

      equal_of : (x : ℕ) (o : Option Node) → node_at net x ≡ o → equal_at marks x ≡ equal_forward net fault (marking marks) x
      equal_of x (Some n) is = (live x n is).equal
      equal_of x None is =
          let others : (if nat_eq x fault.gate.0 then is_idle net fault (good_at marks) else list_all (equal_at marks) (drivers_of net x)) ≡ true =
          rw (ne_eqb x fault.gate.0 (gate_lives x is)) (ap (λ o. list_all (equal_at marks) (drivers_in o)) is) in
          ap (λ (m : NodeMarks). m.equal) (dead x is)
          ∙ sym (ap (λ b. both_known_same (good_at marks x) (faulty_at marks x) || b) others ∙ or-true (both_known_same (good_at marks x) (faulty_at marks x)))
