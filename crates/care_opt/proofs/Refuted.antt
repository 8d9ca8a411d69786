-- What refuting answers, and what passing over gates and faults collects.
use Rattle.std.proofs.Common.{Bool, List, None, Option, Some, [], ap, arith, false, inl, inr, length, refl, subst, suc, sym, take, true, zero, ℕ, ◌*◌, ◌++◌, ◌+◌, ◌-◌, ◌<◌, ◌∙◌, ◌∷◌, ◌≡◌, ◌≤◌}
use Rattle.std.specs.Prelude.{IfSome, if◌then◌else◌, slice_get, ◌||◌}
use Rattle.std.specs.List.{AllZip}
use Rattle.std.proofs.lemmas.Bool.{cases_lt}
use Rattle.std.proofs.lemmas.Option.{slice_get_within}
use Rattle.gate_graph.specs.Circuit.{net_of}
use Rattle.gate_net.specs.Net.{Net}
use Rattle.gate_net.specs.Values.{HasPin}
use Rattle.recursive_learning.specs.Serving.{IsRefuted}
use Rattle.refutation.specs.Detected.{HasOpenSet}
use Rattle.refutation.specs.FactSets.{held_by}
use Rattle.refutation.specs.declared.held.NodeFacts.{NodeFacts}
use Rattle.refutation.specs.declared.items.Item.{Item}
use Rattle.rm_base.proofs.Public.{some_is, take_one_more}
use Rattle.rm_base.specs.declared.numbers.Fault.{Fault}
use Rattle.rm_base.specs.declared.settings.Made.{Made}
use Rattle.wire_edit.specs.Tried.{Tried}
use Rattle.wire_edit.specs.Work.{work}
use Rattle.care_opt.specs.Extract.{main_faults}
use Rattle.care_opt.specs.Done.{IsRecordOf}
use Rattle.care_opt.specs.Gated.{IsMainFault}
use Rattle.care_opt.specs.Inner.Passing.{IsJudged, IsPassed}
use Rattle.care_opt.specs.declared.closing.Passed.{Passed}
use Rattle.care_opt.specs.declared.closing.Passed.TheVariants.{Closed, Refuted}
use Rattle.journal_text.specs.declared.record.Record.{Record}
use Rattle.care_opt.specs.Inner.Working.{HasFallen, HasTree, IsFoundAt, IsLooked, Works}
use Rattle.care_opt.proofs.MainFaults.{all_placed, all_main, main_listed}

refuted_of : (net : Net) (fault : Fault) (depth : ℕ) (facts : List NodeFacts) (items : List Item) → IsRefuted net fault depth facts (Some items) → HasTree net fault
refuted_of net fault depth facts items (clash, accepted) = (items, accepted)

open_of : (net : Net) (fault : Fault) (depth : ℕ) (facts : List NodeFacts) → IsRefuted net fault depth facts None → HasOpenSet net fault depth
open_of net fault depth facts (least, long) = (held_by facts, (least.free, least.closed))

pub looked_some : (net : Net) (fault : Fault) (depth : ℕ) (facts : List NodeFacts) (o : Option (List Item)) (items : List Item) → o ≡ Some items → IsRefuted net fault depth facts o → IsLooked net fault depth true
looked_some net fault depth facts o items is r = refuted_of net fault depth facts items (subst (λ (q : Option (List Item)). IsRefuted net fault depth facts q) is r)

pub looked_none : (net : Net) (fault : Fault) (depth : ℕ) (facts : List NodeFacts) (o : Option (List Item)) → o ≡ None → IsRefuted net fault depth facts o → IsLooked net fault depth false
looked_none net fault depth facts o is r = open_of net fault depth facts (subst (λ (q : Option (List Item)). IsRefuted net fault depth facts q) is r)

pub tree_of : (net : Net) (fault : Fault) (depth : ℕ) (b : Bool) → b ≡ true → IsLooked net fault depth b → HasTree net fault
tree_of net fault depth true is r = r
tree_of net fault depth false is r = absurd cc

pub set_of : (net : Net) (fault : Fault) (depth : ℕ) (b : Bool) → b ≡ false → IsLooked net fault depth b → HasOpenSet net fault depth
set_of net fault depth false is r = r
set_of net fault depth true is r = absurd cc

pub found_main : (bound : ℕ) (net : Net) (gate : ℕ) (fault : Fault) (o : Option Fault) → gate < bound → o ≡ Some fault → IsFoundAt net gate o → IsMainFault bound net fault × HasTree net fault
found_main bound net gate fault o lt is found =
    let f : IsFoundAt net gate (Some fault) = subst (λ (q : Option Fault). IsFoundAt net gate q) is found in
    let same = f.0 in
    ((omega (arith, same, lt), f.1.0), f.1.1)

-- one gate after another
pub fell_next : (bound : ℕ) (a b c : Tried) (m n : Made) (fixed found either : Bool) → either ≡ (fixed || found) → HasFallen fixed a b → (work (net_of b.graph) ≤ work (net_of a.graph)) → HasFallen found b c → Works bound b c m n → HasFallen either a c
fell_next bound a b c m n fixed found either is first le second works = subst (λ (t : Bool). HasFallen t a c) (sym is) (by_both fixed found first second)
  where
    by_both : (fixed found : Bool) → HasFallen fixed a b → HasFallen found b c → HasFallen (fixed || found) a c
    by_both true found first second = let less = works.less in omega (arith, less, first)
    by_both false true first second = omega (arith, le, second)
    by_both false false first second = tt

pub gate_falls : (bound : ℕ) (b c : Tried) (m n : Made) (found : Bool) (gate next : ℕ) → next ≡ (if found then gate else gate + 1) → gate < 4294967296 → HasFallen found b c → Works bound b c m n
    → work (net_of c.graph) * 4294967296 + (4294967296 - next) < work (net_of b.graph) * 4294967296 + (4294967296 - gate)
gate_falls bound b c m n found gate next is lt fell works = by_found found is fell
  where
    by_found : (found : Bool) → next ≡ (if found then gate else gate + 1) → HasFallen found b c → work (net_of c.graph) * 4294967296 + (4294967296 - next) < work (net_of b.graph) * 4294967296 + (4294967296 - gate)
    by_found true same less = omega (arith, same, less, lt)
    by_found false same less = let le = works.less in omega (arith, same, le, lt)

-- lists that grow together
pub zip_push : {A B : Type 0} (R : A → B → Type 0) (xs : List A) (ys : List B) (x : A) (y : B) → AllZip R xs ys → R x y → AllZip R (xs ++ x ∷ []) (ys ++ y ∷ [])
zip_push R [] [] x y h r = (r, tt)
zip_push R [] (z ∷ ys) x y h r = absurd h
zip_push R (w ∷ xs) [] x y h r = absurd h
zip_push R (w ∷ xs) (z ∷ ys) x y h r = (h.0, zip_push R xs ys x y h.1 r)

pub zip_one_more : {A B : Type 0} (R : A → B → Type 0) (xs : List A) (ys zs : List B) (k : ℕ) (x : A) (y : B) → slice_get xs k ≡ Some x → zs ≡ ys ++ y ∷ [] → AllZip R (take k xs) ys → R x y → AllZip R (take (k + 1) xs) zs
zip_one_more R xs ys zs k x y at pushed h r = subst (λ (l : List _). AllZip R l zs) (sym (take_one_more xs k x at)) (subst (λ (l : List _). AllZip R (take k xs ++ x ∷ []) l) (sym pushed) (zip_push R (take k xs) ys x y h r))

-- the faults that were looked at
pub open_more : (net : Net) (depth : ℕ) (faults : List Fault) (at : ℕ) (fault : Fault) → slice_get faults at ≡ Some fault → ((k : ℕ) (f : Fault) → k < at → slice_get faults k ≡ Some f → HasOpenSet net f depth) → HasOpenSet net fault depth
    → (k : ℕ) (f : Fault) → k < at + 1 → slice_get faults k ≡ Some f → HasOpenSet net f depth
open_more net depth faults at fault there before here k f lt is = elim (cases_lt k at) [
  | inl less ↦ before k f less is
  | inr more ↦
      let same : k ≡ at = omega (arith, lt, more) in
      let eq : fault ≡ f = some_is fault f (sym there ∙ (ap (λ (i : ℕ). slice_get faults i) (sym same) ∙ is)) in
      subst (λ (g : Fault). HasOpenSet net g depth) eq here
]

all_taken : {A : Type 0} (xs : List A) (k : ℕ) → length xs ≤ k → take k xs ≡ xs
all_taken [] zero le = refl
all_taken [] (suc k) le = refl
all_taken (x ∷ xs) zero le = absurd (omega (arith, le))
all_taken (x ∷ xs) (suc k) le = ap (λ (l : List _). x ∷ l) (all_taken xs k (omega (arith, le)))

pub all_judged : (net : Net) (depth budget : ℕ) (faults : List Fault) (at : ℕ) (records : List Record) → length faults ≤ at → AllZip (IsRecordOf net budget) (take at faults) records → ((k : ℕ) (f : Fault) → k < at → slice_get faults k ≡ Some f → HasOpenSet net f depth)
    → AllZip (IsRecordOf net budget) faults records × ((k : ℕ) (f : Fault) → slice_get faults k ≡ Some f → HasOpenSet net f depth)
all_judged net depth budget faults at records le zip unrefuted =
    (subst (λ (l : List Fault). AllZip (IsRecordOf net budget) l records) (all_taken faults at le) zip, λ k f is. unrefuted k f (let within = slice_get_within faults k f is in omega (arith, within, le)) is)

-- a pass through all main faults
pub passed_of : (bound : ℕ) (net : Net) (depth budget : ℕ) (faults : List Fault) (passed : Passed) → faults ≡ main_faults bound net → IsJudged net depth budget faults passed → IsPassed bound net depth budget passed
passed_of bound net depth budget faults (Closed records) are judged =
    (subst (λ (l : List Fault). AllZip (IsRecordOf net budget) l records.items) are judged.0, λ fault main. let at = main_listed bound net fault main in judged.1 at.0 fault (ap (λ (l : List Fault). slice_get l at.0) are ∙ at.1))
passed_of bound net depth budget faults (Refuted fault) are judged =
    (all_placed (IsMainFault bound net) (main_faults bound net) judged.0.0 fault (all_main bound net) (ap (λ (l : List Fault). slice_get l judged.0.0) (sym are) ∙ judged.0.1), judged.1)

pub pins_of : (bound : ℕ) (net : Net) (faults : List Fault) → faults ≡ main_faults bound net → (k : ℕ) (fault : Fault) → slice_get faults k ≡ Some fault → HasPin net fault
pins_of bound net faults are k fault at = (all_placed (IsMainFault bound net) (main_faults bound net) k fault (all_main bound net) (ap (λ (l : List Fault). slice_get l k) (sym are) ∙ at)).1

pub fault_of : (bound : ℕ) (net : Net) (depth budget : ℕ) (passed : Passed) (fault : Fault) → passed ≡ Refuted fault → IsPassed bound net depth budget passed → IsMainFault bound net fault × HasTree net fault
fault_of bound net depth budget passed fault is p = subst (λ (q : Passed). IsPassed bound net depth budget q) is p

pub if_some : {A P : Type 0} (o : Option A) → P → IfSome o (λ _. P)
if_some None p = tt
if_some (Some x) p = p
