-- Which nodes a step changes.
use Rattle.std.proofs.Common.{◌≡◌, ◌≢◌, ◌<◌, ℕ, zero, suc, inl, inr, Bool, Option, Some, None, true, false, List, [], ◌∷◌, ◌++◌, length, map, refl, sym, ◌∙◌, ap, subst, get_or, Result, Ok, Err, arith}
use Rattle.std.specs.Prelude.{OnOk, slice_get, if◌then◌else◌, not}
use Rattle.std.specs.Option.{option_map, option_and_then}
use Rattle.std.proofs.lemmas.Bool.Decides.{eqb_tells}
use Rattle.std.proofs.lemmas.Option.{slice_get-map}
use Rattle.rm_base.specs.declared.numbers.NodeId.{NodeId}
use Rattle.gate_net.proofs.Public.{drivers_redirected, node_at-moved, node_at-other, with_node-other}
use Rattle.gate_net.specs.Edits.{DiffersAt, IsSameBut, constant_node, node_redirected, redirected, with_drivers, with_readers_moved, without}
use Rattle.gate_net.specs.Net.{Net, Node, Reads, drivers_in, drivers_of, kind_in, node_at}
use Rattle.gate_net.specs.Values.{same_bool}
use Rattle.gate_net.specs.declared.Family.{Family}
use Rattle.gate_net.specs.declared.Family.TheVariants.{Constant, Input, Junction, Parity}
use Rattle.gate_net.specs.declared.Kind.{Kind}
use Rattle.gate_net.specs.declared.Kind.TheVariants.{And, Not, One, Or, Source, Xor, Zero}
use Rattle.gate_graph.specs.Changes.{Edits}
use Rattle.gate_graph.specs.Circuit.{Circuit, net_of}
use Rattle.wire_edit.proofs.Public.{applies_changes, constant_cases}
use Rattle.wire_edit.specs.Changes.{Change, append, remove, fix, readers, new_not, retire, to_not}
use Rattle.wire_edit.specs.Inner.Changes.{CanChange}
use Rattle.wire_edit.specs.Edited.{edit_of, IsNewNot}
use Rattle.wire_edit.specs.Laws.{IsTidying}
use Rattle.wire_edit.specs.Steps.{change_of, constant_change, empty_node, or_zero, other_driver, same_change}
use Rattle.wire_edit.specs.Tests.{constant_at, control_of, driver_at, family_in, family_of, is_xor, is_xor_kind, other_position, second_driver}
use Rattle.wire_edit.specs.declared.steps.Step.{Step}
use Rattle.wire_edit.specs.declared.steps.Step.TheVariants.{Add, Fix, NewNot, Const, Same, NoPins, OnePin, Twice, Twin, Dead}
use Rattle.changed_nodes.specs.declared.changes.Changed.{Changed}
use Rattle.changed_nodes.specs.Changing.{AreNoted, HasListed, HasNoted, IsNoted, IsUnlisted, ListsNoted, NotesOn, passed_driver}
use Rattle.rm_base.specs.Numbers.{numbers_of}
use Rattle.wire_edit.specs.Removals.{ReadsNoConstants}

pub on_ok : {A E : Type 0} (r : Result A E) (P Q : Type 0) → (P → Q) → OnOk r P → OnOk r Q
on_ok (Ok a) P Q f p = f p
on_ok (Err e) P Q f p = tt

-- LISTS
front_in : (xs ys : List NodeId) (y k : ℕ) → slice_get (numbers_of xs) k ≡ Some y → slice_get (numbers_of (xs ++ ys)) k ≡ Some y
front_in [] ys y k e = cc
front_in (x ∷ xs) ys y zero e = e
front_in (x ∷ xs) ys y (suc k) e = front_in xs ys y k e

back_in : (xs ys : List NodeId) (y k : ℕ) → slice_get (numbers_of ys) k ≡ Some y → (j : ℕ) × (slice_get (numbers_of (xs ++ ys)) j ≡ Some y)
back_in [] ys y k e = (k, e)
back_in (x ∷ xs) ys y k e = let r : (j : ℕ) × (slice_get (numbers_of (xs ++ ys)) j ≡ Some y) = back_in xs ys y k e in (suc r.0, r.1)

pub unlisted_append : (xs ys : List NodeId) (y : ℕ) → IsUnlisted (numbers_of (xs ++ ys)) y → IsUnlisted (numbers_of xs) y × IsUnlisted (numbers_of ys) y
unlisted_append xs ys y none = (λ k e. none k (front_in xs ys y k e), λ k e. (let r = back_in xs ys y k e in none r.0 r.1))

pub listed_last : (nodes : List NodeId) (node : NodeId) (more : List NodeId) → more ≡ nodes ++ node ∷ [] → HasListed nodes more node.0
listed_last nodes node more is y none =
    let split = unlisted_append nodes (node ∷ []) y (subst (λ (ns : List NodeId). IsUnlisted (numbers_of ns) y) is none) in
    (split.0, λ same. split.1 0 (ap Some (sym same)))

-- ONE CHANGE
reads_still : (net after : Net) (x p d : ℕ) → node_at after x ≡ node_at net x → Reads net x p d → Reads after x p d
reads_still net after x p d same reads = ap (λ (o : Option Node). slice_get (drivers_in o) p) same ∙ reads

-- what was noted before a change is noted after it where the change itself is
pub noted_on : (before net after : Net) (gates new_drivers gates' new_drivers' : List ℕ) → ((y : ℕ) → IsUnlisted gates' y → IsUnlisted gates y) → ((y : ℕ) → IsUnlisted new_drivers' y → IsUnlisted new_drivers y)
    → IsNoted net after gates' new_drivers' → IsNoted before net gates new_drivers → IsNoted before after gates' new_drivers'
noted_on before net after gates new_drivers gates' new_drivers' more_gates more_new_drivers one noted x unlisted none =
    let same : node_at after x ≡ node_at net x = one x unlisted none in
    same ∙ noted x (more_gates x unlisted) (λ p d reads. (let r = none p d (reads_still net after x p d same reads) in (r.0, more_new_drivers d r.1)))

redirected_there : (from to : ℕ) → redirected from to from ≡ to
redirected_there from to = elim (eqb_tells from from) [ inl t ↦ rw t.0 refl | inr t ↦ absurd (t.1 refl) ]

redirected_other : (from to d : ℕ) → d ≢ from → redirected from to d ≡ d
redirected_other from to d ne = elim (eqb_tells d from) [ inl t ↦ absurd (ne t.1) | inr t ↦ rw t.0 refl ]

-- the drivers of a node whose readers' drivers moved
pub moved_drivers : (net : Net) (from to x : ℕ) → drivers_of (with_readers_moved net from to) x ≡ map (redirected from to) (drivers_of net x)
moved_drivers net from to x = ap drivers_in (node_at-moved net from to x) ∙ drivers_redirected from to (node_at net x)

moved_at : (net : Net) (from to x p : ℕ) → slice_get (drivers_of (with_readers_moved net from to) x) p ≡ option_map (redirected from to) (slice_get (drivers_of net x) p)
moved_at net from to x p = ap (λ (ds : List ℕ). slice_get ds p) (moved_drivers net from to x) ∙ slice_get-map (redirected from to) (drivers_of net x) p

unread_same : (from to : ℕ) (ds : List ℕ) → ((p : ℕ) → slice_get ds p ≡ Some from → ⊥) → map (redirected from to) ds ≡ ds
unread_same from to [] none = refl
unread_same from to (d ∷ ds) none = elim (eqb_tells d from) [
  | inl same ↦ absurd (none 0 (ap Some same.1))
  | inr other ↦ let rest : map (redirected from to) ds ≡ ds = unread_same from to ds (λ p e. none (suc p) e) in rw (other.0, rest) refl
]

moved_same : (net : Net) (from to : ℕ) (gates new_drivers : List ℕ) → (1 < to → IsUnlisted new_drivers to → ⊥) → IsNoted net (with_readers_moved net from to) gates new_drivers
moved_same net from to gates new_drivers covers x unlisted none = node_at-moved net from to x ∙ at (node_at net x) refl
  where
    unread : (p : ℕ) → slice_get (drivers_of net x) p ≡ Some from → ⊥
    unread p e =
        let r = none p to (moved_at net from to x p ∙ ap (option_map (redirected from to)) e ∙ ap Some (redirected_there from to)) in
        covers r.0 r.1

    at : (o : Option Node) → node_at net x ≡ o → node_redirected from to (node_at net x) ≡ node_at net x
    at None is = rw is refl
    at (Some n) is =
        let same : map (redirected from to) n.drivers ≡ n.drivers = unread_same from to n.drivers (λ p e. unread p (ap (λ (o : Option Node). slice_get (drivers_in o) p) is ∙ e)) in
        rw is (ap (λ (ds : List ℕ). Some (record n { drivers = ds })) same)

-- the lists have what the change changes
abbrev pub Covers : Change → List ℕ → List ℕ → Type 0
Covers (append gate driver) gates new_drivers = IsUnlisted gates gate → ⊥
Covers (remove gate position) gates new_drivers = IsUnlisted gates gate → ⊥
Covers (fix gate position value) gates new_drivers = IsUnlisted gates gate → ⊥
Covers (readers from to) gates new_drivers = 1 < to → IsUnlisted new_drivers to → ⊥
Covers (new_not driver) gates new_drivers = ⊥
Covers (retire gate) gates new_drivers = IsUnlisted gates gate → ⊥
Covers (to_not gate position) gates new_drivers = IsUnlisted gates gate → ⊥

driven : (net after : Net) (gate : ℕ) (drivers gates new_drivers : List ℕ) → (IsUnlisted gates gate → ⊥) → after ≡ with_drivers net gate drivers → IsNoted net after gates new_drivers
driven net after gate drivers gates new_drivers covers is x unlisted none =
    ap (λ (n : Net). node_at n x) is ∙ node_at-other net gate drivers x (λ same. covers (subst (IsUnlisted gates) same unlisted))

pub edit_noted : (v w : Circuit) (change : Change) (gates new_drivers : List ℕ) → Covers change gates new_drivers → Edits v (edit_of change) w → IsNoted (net_of v) (net_of w) gates new_drivers
edit_noted v w (append gate driver) gates new_drivers covers edits = driven (net_of v) (net_of w) gate _ gates new_drivers covers edits.0
edit_noted v w (remove gate position) gates new_drivers covers edits = driven (net_of v) (net_of w) gate _ gates new_drivers covers edits.0
edit_noted v w (fix gate position value) gates new_drivers covers edits = driven (net_of v) (net_of w) gate _ gates new_drivers covers edits.0
edit_noted v w (readers from to) gates new_drivers covers edits = subst (λ (n : Net). IsNoted (net_of v) n gates new_drivers) (sym edits.0) (moved_same (net_of v) from to gates new_drivers covers)
edit_noted v w (new_not driver) gates new_drivers covers edits = absurd covers
edit_noted v w (retire gate) gates new_drivers covers edits = λ x unlisted none. edits.0.0.others x (λ same. covers (subst (IsUnlisted gates) same unlisted))
edit_noted v w (to_not gate position) gates new_drivers covers edits = λ x unlisted none.
    ap (λ (n : Net). node_at n x) edits.0 ∙ with_node-other (net_of v) gate (record { kind = Not; drivers = without (drivers_of (net_of v) gate) position }) x (λ same. covers (subst (IsUnlisted gates) same unlisted))

-- STEPS
pub const_covers : (gate p other : ℕ) (family : Family) (constant : Option Bool) (gates new_drivers : List ℕ) → (IsUnlisted gates gate → ⊥)
    → (family ≡ Parity false → constant ≡ Some false → 1 < other → IsUnlisted new_drivers other → ⊥) → Covers (constant_change gate p other family constant) gates new_drivers
const_covers gate p other family None gates new_drivers covers passes = covers
const_covers gate p other Input (Some b) gates new_drivers covers passes = covers
const_covers gate p other (Constant c) (Some b) gates new_drivers covers passes = covers
const_covers gate p other (Junction c) (Some b) gates new_drivers covers passes = at (same_bool b c)
  where
    low : (d : Bool) → 1 < constant_node d → ⊥
    low true lt = omega (arith, lt)
    low false lt = omega (arith, lt)

    at : (t : Bool) → Covers (if t then readers gate (constant_node c) else remove gate p) gates new_drivers
    at true = λ lt. absurd (low c lt)
    at false = covers
const_covers gate p other (Parity true) (Some b) gates new_drivers covers passes = λ lt. absurd (low (not b) lt)
  where
    low : (c : Bool) → 1 < constant_node c → ⊥
    low true lt = omega (arith, lt)
    low false lt = omega (arith, lt)
const_covers gate p other (Parity false) (Some true) gates new_drivers covers passes = covers
const_covers gate p other (Parity false) (Some false) gates new_drivers covers passes = passes refl refl

pub same_covers : (gate p : ℕ) (at_xor : Bool) (gates new_drivers : List ℕ) → (IsUnlisted gates gate → ⊥) → Covers (same_change gate p at_xor) gates new_drivers
same_covers gate p true gates new_drivers covers = λ lt. absurd (omega (arith, lt))
same_covers gate p false gates new_drivers covers = covers

pub empty_covers : (gate : ℕ) (control : Option Bool) (gates new_drivers : List ℕ) → Covers (readers gate (empty_node control)) gates new_drivers
empty_covers gate None gates new_drivers lt = absurd (omega (arith, lt))
empty_covers gate (Some true) gates new_drivers lt = absurd (omega (arith, lt))
empty_covers gate (Some false) gates new_drivers lt = absurd (omega (arith, lt))

-- a driver that isn't the node whose readers move is still one
driver_still : (net : Net) (from to x p d : ℕ) → slice_get (drivers_of net x) p ≡ Some d → d ≢ from → slice_get (drivers_of (with_readers_moved net from to) x) p ≡ Some d
driver_still net from to x p d e ne = moved_at net from to x p ∙ ap (option_map (redirected from to)) e ∙ ap Some (redirected_other from to d ne)

-- the new driver of a gate of one pin, and of a Not of a Not, as the graph afterwards tells it
pub one_new_driver : (net after : Net) (gate : ℕ) (found : Option ℕ) (gates new_drivers : List ℕ) → after ≡ with_readers_moved net gate (or_zero (driver_at net gate 0)) → or_zero (driver_at net gate 0) ≢ gate → found ≡ driver_at after gate 0
    → ((d : ℕ) → found ≡ Some d → IsUnlisted new_drivers d → ⊥) → Covers (readers gate (or_zero (driver_at net gate 0))) gates new_drivers
one_new_driver net after gate found gates new_drivers is ne tells listed = at (driver_at net gate 0) refl
  where
    at : (o : Option ℕ) → driver_at net gate 0 ≡ o → 1 < or_zero (driver_at net gate 0) → IsUnlisted new_drivers (or_zero (driver_at net gate 0)) → ⊥
    at None e lt none = let z : or_zero (driver_at net gate 0) ≡ 0 = ap or_zero e in omega (arith, lt, z)
    at (Some d) e lt none =
        let to : or_zero (driver_at net gate 0) ≡ d = ap or_zero e in
        let there : driver_at after gate 0 ≡ Some d = ap (λ (n : Net). driver_at n gate 0) is ∙ driver_still net gate (or_zero (driver_at net gate 0)) gate 0 d e (λ same. ne (to ∙ same)) in
        listed d (tells ∙ there) (subst (IsUnlisted new_drivers) to none)

pub second_new_driver : (net after : Net) (gate : ℕ) (found : Option ℕ) (gates new_drivers : List ℕ) → after ≡ with_readers_moved net gate (or_zero (second_driver net gate)) → or_zero (second_driver net gate) ≢ gate → found ≡ second_driver after gate
    → ((d : ℕ) → found ≡ Some d → IsUnlisted new_drivers d → ⊥) → Covers (readers gate (or_zero (second_driver net gate))) gates new_drivers
second_new_driver net after gate found gates new_drivers is ne tells listed = at (driver_at net gate 0) refl
  where
    to : ℕ
    to = or_zero (second_driver net gate)

    inner : (m : ℕ) → driver_at net gate 0 ≡ Some m → (o : Option ℕ) → driver_at net m 0 ≡ o → 1 < to → IsUnlisted new_drivers to → ⊥
    inner m e None f lt none =
        let z : to ≡ 0 = ap (λ (o : Option ℕ). or_zero (option_and_then (λ k. driver_at net k 0) o)) e ∙ ap or_zero f in
        omega (arith, lt, z)
    inner m e (Some d) f lt none =
        let new_driver : to ≡ d = ap (λ (o : Option ℕ). or_zero (option_and_then (λ k. driver_at net k 0) o)) e ∙ ap or_zero f in
        let apart : m ≢ gate = λ same. (let g : ◌≡◌ {A = Option ℕ} (Some d) (Some m) = sym f ∙ ap (λ (k : ℕ). driver_at net k 0) same ∙ e in let dm : d ≡ m = cc in ne (new_driver ∙ dm ∙ same)) in
        let first : driver_at after gate 0 ≡ Some m = ap (λ (n : Net). driver_at n gate 0) is ∙ driver_still net gate to gate 0 m e apart in
        let second : driver_at after m 0 ≡ Some d = ap (λ (n : Net). driver_at n m 0) is ∙ driver_still net gate to m 0 d f (λ same. ne (new_driver ∙ same)) in
        let there : second_driver after gate ≡ Some d = ap (option_and_then (λ k. driver_at after k 0)) first ∙ second in
        listed d (tells ∙ there) (subst (IsUnlisted new_drivers) new_driver none)

    at : (o : Option ℕ) → driver_at net gate 0 ≡ o → 1 < to → IsUnlisted new_drivers to → ⊥
    at None e lt none =
        let z : to ≡ 0 = ap (λ (o : Option ℕ). or_zero (option_and_then (λ k. driver_at net k 0) o)) e in
        omega (arith, lt, z)
    at (Some m) e lt none = inner m e (driver_at net m 0) refl lt none

-- an Xor stays one where readers move
xor_family : (o : Option Kind) → family_in o ≡ Parity false → is_xor_kind o ≡ true
xor_family None e = cc
xor_family (Some Source) e = cc
xor_family (Some Zero) e = cc
xor_family (Some One) e = cc
xor_family (Some And) e = cc
xor_family (Some Or) e = cc
xor_family (Some Not) e = let wrong : true ≡ false = cc in cc
xor_family (Some Xor) e = refl

kind_still : (from to : ℕ) (o : Option Node) → kind_in (node_redirected from to o) ≡ kind_in o
kind_still from to None = refl
kind_still from to (Some n) = refl

xor_still : (net : Net) (from to x : ℕ) → family_of net x ≡ Parity false → is_xor (with_readers_moved net from to) x ≡ true
xor_still net from to x e = ap is_xor_kind (ap kind_in (node_at-moved net from to x) ∙ kind_still from to (node_at net x)) ∙ xor_family (kind_in (node_at net x)) e

-- the new driver of an Xor's readers, as the graph afterwards tells it
pub passed_new_driver : (net after : Net) (gate p : ℕ) (found : Option ℕ) (new_drivers : List ℕ) → after ≡ with_readers_moved net gate (other_driver net gate p) → other_driver net gate p ≢ gate → family_of net gate ≡ Parity false
    → found ≡ passed_driver after gate p → ((d : ℕ) → found ≡ Some d → IsUnlisted new_drivers d → ⊥) → 1 < other_driver net gate p → IsUnlisted new_drivers (other_driver net gate p) → ⊥
passed_new_driver net after gate p found new_drivers is ne family tells listed = at (driver_at net gate (other_position p)) refl
  where
    to : ℕ
    to = other_driver net gate p

    at : (o : Option ℕ) → driver_at net gate (other_position p) ≡ o → 1 < to → IsUnlisted new_drivers to → ⊥
    at None e lt none = let z : to ≡ 0 = ap or_zero e in omega (arith, lt, z)
    at (Some d) e lt none =
        let new_driver : to ≡ d = ap or_zero e in
        let there : driver_at after gate (other_position p) ≡ Some d = ap (λ (n : Net). driver_at n gate (other_position p)) is ∙ driver_still net gate to gate (other_position p) d e (λ same. ne (new_driver ∙ same)) in
        let xor : is_xor after gate ≡ true = ap (λ (n : Net). is_xor n gate) is ∙ xor_still net gate to gate family in
        let passed : passed_driver after gate p ≡ Some d = rw xor there in
        listed d (tells ∙ passed) (subst (IsUnlisted new_drivers) new_driver none)

-- NOTES
-- a step's change is noted where the new lists have the old ones and what the change changes
pub notes_step : (v w : Circuit) (change : Change) (old new : Changed) → ((y : ℕ) → IsUnlisted (numbers_of new.gates.items) y → IsUnlisted (numbers_of old.gates.items) y) → ((y : ℕ) → IsUnlisted (numbers_of new.new_drivers.items) y → IsUnlisted (numbers_of old.new_drivers.items) y)
    → Covers change (numbers_of new.gates.items) (numbers_of new.new_drivers.items) → Edits v (edit_of change) w → NotesOn (net_of v) (net_of w) old new
notes_step v w change old new gates new_drivers covers edits before noted =
    noted_on before (net_of v) (net_of w) (numbers_of old.gates.items) (numbers_of old.new_drivers.items) (numbers_of new.gates.items) (numbers_of new.new_drivers.items) gates new_drivers
    (edit_noted v w change (numbers_of new.gates.items) (numbers_of new.new_drivers.items) covers edits) noted

-- of a gate that came
pub notes_made : (net after : Net) (gate : ℕ) (old new : Changed) → HasListed old.gates.items new.gates.items gate → new.new_drivers.items ≡ old.new_drivers.items → DiffersAt net after gate → NotesOn net after old new
notes_made net after gate old new listed new_drivers differs before noted =
    noted_on before net after (numbers_of old.gates.items) (numbers_of old.new_drivers.items) (numbers_of new.gates.items) (numbers_of new.new_drivers.items) (λ y u. (listed y u).0) (λ y u. subst (λ (ns : List NodeId). IsUnlisted (numbers_of ns) y) new_drivers u)
    (λ x u none. differs.others x (λ same. (listed x u).1 same)) noted

-- the nodes that are listed for a tidy net
pub same_listed : (before net : Net) (changed : Changed) (nodes : List NodeId) → ReadsNoConstants net → AreNoted before net changed → ListsNoted net changed nodes → IsSameBut before net (numbers_of nodes)
same_listed before net changed nodes none noted listed x u = noted x (listed x u).0 (λ p d reads. (none x p d reads, (listed x u).1 p d reads))

-- a step that changes its gate
pub gate_noted : (w : Circuit) (step : Step) (gate : ℕ) (old new : Changed) → ((net : Net) (gates new_drivers : List ℕ) → (IsUnlisted gates gate → ⊥) → Covers (change_of net step) gates new_drivers) → HasListed old.gates.items new.gates.items gate → new.new_drivers.items ≡ old.new_drivers.items → HasNoted step w old new
gate_noted w step gate old new covers listed new_drivers v well applies none edits =
    notes_step v w (change_of (net_of v) step) old new (λ y u. (listed y u).0) (λ y u. subst (λ (ns : List NodeId). IsUnlisted (numbers_of ns) y) new_drivers u) (covers (net_of v) (numbers_of new.gates.items) (numbers_of new.new_drivers.items) (λ u. (listed gate u).1 refl)) edits

-- a step that moves readers to a node, which is listed where it is no constant
pub new_driver_noted : (v w : Circuit) (change : Change) (old new : Changed) → new.gates.items ≡ old.gates.items → ((y : ℕ) → IsUnlisted (numbers_of new.new_drivers.items) y → IsUnlisted (numbers_of old.new_drivers.items) y)
    → Covers change (numbers_of new.gates.items) (numbers_of new.new_drivers.items) → Edits v (edit_of change) w → NotesOn (net_of v) (net_of w) old new
new_driver_noted v w change old new gates new_drivers covers edits = notes_step v w change old new (λ y u. subst (λ (ns : List NodeId). IsUnlisted (numbers_of ns) y) gates u) new_drivers covers edits

new_drivers_more : (found : Option NodeId) (old new : List NodeId) → ((node : NodeId) → found ≡ Some node → HasListed old new node.0) → (found ≡ None → new ≡ old) → (y : ℕ) → IsUnlisted (numbers_of new) y → IsUnlisted (numbers_of old) y
new_drivers_more None old new some none y u = subst (λ (ns : List NodeId). IsUnlisted (numbers_of ns) y) (none refl) u
new_drivers_more (Some node) old new some none y u = (some node refl y u).0

new_drivers_have : (found : Option NodeId) (old new : List NodeId) → ((node : NodeId) → found ≡ Some node → HasListed old new node.0) → (d : ℕ) → option_map (λ (n : NodeId). n.0) found ≡ Some d → IsUnlisted (numbers_of new) d → ⊥
new_drivers_have None old new some d e u = cc
new_drivers_have (Some node) old new some d e u = let same : node.0 ≡ d = cc in (some node refl d u).1 (sym same)

pub one_noted : (w : Circuit) (gate : NodeId) (found : Option NodeId) (old new : Changed) → option_map (λ (n : NodeId). n.0) found ≡ slice_get (drivers_of (net_of w) gate.0) 0 → new.gates.items ≡ old.gates.items
    → ((node : NodeId) → found ≡ Some node → HasListed old.new_drivers.items new.new_drivers.items node.0) → (found ≡ None → new.new_drivers.items ≡ old.new_drivers.items) → HasNoted (OnePin gate) w old new
one_noted w gate found old new tells gates some none v well applies not_new edits =
    let can = applies_changes (net_of v) (OnePin gate) well applies in
    new_driver_noted v w (change_of (net_of v) (OnePin gate)) old new gates (new_drivers_more found old.new_drivers.items new.new_drivers.items some none)
    (one_new_driver (net_of v) (net_of w) gate.0 (option_map (λ (n : NodeId). n.0) found) (numbers_of new.gates.items) (numbers_of new.new_drivers.items) edits.0 can.1.1.0 tells (new_drivers_have found old.new_drivers.items new.new_drivers.items some)) edits

pub second_noted : (w : Circuit) (gate : NodeId) (found : Option NodeId) (old new : Changed) → option_map (λ (n : NodeId). n.0) found ≡ second_driver (net_of w) gate.0 → new.gates.items ≡ old.gates.items
    → ((node : NodeId) → found ≡ Some node → HasListed old.new_drivers.items new.new_drivers.items node.0) → (found ≡ None → new.new_drivers.items ≡ old.new_drivers.items) → HasNoted (Twice gate) w old new
second_noted w gate found old new tells gates some none v well applies not_new edits =
    let can = applies_changes (net_of v) (Twice gate) well applies in
    new_driver_noted v w (change_of (net_of v) (Twice gate)) old new gates (new_drivers_more found old.new_drivers.items new.new_drivers.items some none)
    (second_new_driver (net_of v) (net_of w) gate.0 (option_map (λ (n : NodeId). n.0) found) (numbers_of new.gates.items) (numbers_of new.new_drivers.items) edits.0 can.1.1.0 tells (new_drivers_have found old.new_drivers.items new.new_drivers.items some)) edits

pub twin_noted : (w : Circuit) (gate other : NodeId) (old new : Changed) → HasListed old.new_drivers.items new.new_drivers.items other.0 → new.gates.items ≡ old.gates.items → HasNoted (Twin gate other) w old new
twin_noted w gate other old new listed gates v well applies none edits =
    new_driver_noted v w (change_of (net_of v) (Twin gate other)) old new gates (λ y u. (listed y u).0) (λ lt u. (listed other.0 u).1 refl) edits

pub empty_noted : (w : Circuit) (gate : NodeId) (same : Changed) → HasNoted (NoPins gate) w same same
empty_noted w gate same v well applies none edits =
    new_driver_noted v w (change_of (net_of v) (NoPins gate)) same same refl (λ y u. u) (empty_covers gate.0 (control_of (net_of v) gate.0) (numbers_of same.gates.items) (numbers_of same.new_drivers.items)) edits

pub not_noted : (w : Circuit) (x : NodeId) (same : Changed) → HasNoted (NewNot x) w same same
not_noted w x same v well applies none edits = absurd (none tt)

pub same_noted : (w : Circuit) (gate : NodeId) (position : ℕ) (old new : Changed) → HasListed old.gates.items new.gates.items gate.0 → new.new_drivers.items ≡ old.new_drivers.items → HasNoted (Same gate position) w old new
same_noted w gate position old new listed new_drivers = gate_noted w (Same gate position) gate.0 old new (λ net gates new_drivers covers. same_covers gate.0 position (is_xor net gate.0) gates new_drivers covers) listed new_drivers

pub const_noted : (w : Circuit) (gate : NodeId) (position : ℕ) (found : Option NodeId) (old mid new : Changed) → option_map (λ (n : NodeId). n.0) found ≡ passed_driver (net_of w) gate.0 position
    → HasListed old.gates.items mid.gates.items gate.0 → mid.new_drivers.items ≡ old.new_drivers.items → new.gates.items ≡ mid.gates.items
    → ((node : NodeId) → found ≡ Some node → HasListed mid.new_drivers.items new.new_drivers.items node.0) → (found ≡ None → new.new_drivers.items ≡ mid.new_drivers.items) → HasNoted (Const gate position) w old new
const_noted w gate position found old mid new tells listed new_drivers gates some none v well applies not_new edits =
    notes_step v w change old new (λ y u. (listed y (earlier y u)).0)
    (λ y u. subst (λ (ns : List NodeId). IsUnlisted (numbers_of ns) y) new_drivers (new_drivers_more found mid.new_drivers.items new.new_drivers.items some none y u))
    (const_covers gate.0 position other (family_of (net_of v) gate.0) (constant_at (net_of v) gate.0 position) (numbers_of new.gates.items) (numbers_of new.new_drivers.items)
    (λ u. (listed gate.0 (earlier gate.0 u)).1 refl) passes) edits
  where
    change : Change
    change = change_of (net_of v) (Const gate position)

    other : ℕ
    other = other_driver (net_of v) gate.0 position

    earlier : (y : ℕ) → IsUnlisted (numbers_of new.gates.items) y → IsUnlisted (numbers_of mid.gates.items) y
    earlier y u = subst (λ (ns : List NodeId). IsUnlisted (numbers_of ns) y) gates u

    passes : family_of (net_of v) gate.0 ≡ Parity false → constant_at (net_of v) gate.0 position ≡ Some false → 1 < other → IsUnlisted (numbers_of new.new_drivers.items) other → ⊥
    passes family constant =
        let moves : change ≡ readers gate.0 other =
        ap (λ (f : Family). constant_change gate.0 position other f (constant_at (net_of v) gate.0 position)) family
        ∙ ap (λ (o : Option Bool). constant_change gate.0 position other (Parity false) o) constant in
        let made = subst (λ (c : Change). Edits v (edit_of c) w) moves edits in
        let can = subst (λ (c : Change). CanChange (net_of v) c) moves (applies_changes (net_of v) (Const gate position) well applies) in
        passed_new_driver (net_of v) (net_of w) gate.0 position (option_map (λ (n : NodeId). n.0) found) (numbers_of new.new_drivers.items) made.0 can.1.1.0 family tells
        (new_drivers_have found mid.new_drivers.items new.new_drivers.items some)

-- tidying makes no node
same_no_not : (gate p : ℕ) (at_xor : Bool) → IsNewNot (same_change gate p at_xor) → ⊥
same_no_not gate p true n = n
same_no_not gate p false n = n

pub tidying_no_not : (net : Net) (step : Step) → IsTidying step → IsNewNot (change_of net step) → ⊥
tidying_no_not net (Add gate y) t n = n
tidying_no_not net (Fix gate position value) t n = n
tidying_no_not net (NewNot y) t n = absurd t
tidying_no_not net (Const gate position) t n = constant_cases (λ (c : Change). IsNewNot c → ⊥) gate.0 position (other_driver net gate.0 position) (family_of net gate.0) (constant_at net gate.0 position) (λ m. m) (λ m. m) (λ to m. m) n
tidying_no_not net (Same gate position) t n = same_no_not gate.0 position (is_xor net gate.0) n
tidying_no_not net (NoPins gate) t n = n
tidying_no_not net (OnePin gate) t n = n
tidying_no_not net (Twice gate) t n = n
tidying_no_not net (Twin gate other) t n = n
tidying_no_not net (Dead gate) t n = n

-- PLACES
pub number_there : (nodes : List NodeId) (k : ℕ) (node : NodeId) → k < length nodes → node ≡ get_or nodes k node → slice_get (numbers_of nodes) k ≡ Some node.0
number_there [] k node lt is = absurd (omega (arith, lt))
number_there (n ∷ nodes) zero node lt is = ap (λ (m : NodeId). Some m.0) (sym is)
number_there (n ∷ nodes) (suc k) node lt is = number_there nodes k node (omega (arith, lt)) is

pub within_numbers : (nodes : List NodeId) (k x : ℕ) → slice_get (numbers_of nodes) k ≡ Some x → k < length nodes
within_numbers [] k x e = cc
within_numbers (n ∷ nodes) zero x e = omega arith
within_numbers (n ∷ nodes) (suc k) x e = let lt : k < length nodes = within_numbers nodes k x e in omega (arith, lt)

-- what differs from a first net among some nodes, and from there among others, differs among both
pub same_through : (served before net : Net) (added nodes all : List NodeId) → IsSameBut before served (numbers_of added) → IsSameBut before net (numbers_of nodes) → all ≡ nodes ++ added → IsSameBut served net (numbers_of all)
same_through served before net added nodes all near far is x none =
    let split = unlisted_append nodes added x (subst (λ (ns : List NodeId). IsUnlisted (numbers_of ns) x) is none) in
    far x split.0 ∙ sym (near x split.1)

pub same_back : (now graph net : Net) (nodes all : List NodeId) → graph ≡ now → all ≡ nodes → IsSameBut now net (numbers_of nodes) → IsSameBut net graph (numbers_of all)
same_back now graph net nodes all is same other x none =
    ap (λ (n : Net). node_at n x) is ∙ sym (other x (subst (λ (ns : List NodeId). IsUnlisted (numbers_of ns) x) same none))
