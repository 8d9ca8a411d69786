-- The head of a body and what stands behind it are the bytes that are written.
use Rattle.std.proofs.Common.{◌≡◌, ℕ, ◌+◌, ◌<◌, ◌≤◌, Bool, true, false, List, [], ◌++◌, length, refl, ap, subst, ◌∙◌, arith, ◌&&◌, nat_le, if◌then◌else◌}
use Rattle.std.specs.List.{AllByRecursion, flat_map}
use Rattle.std.proofs.lemmas.Bool.{leb-true}
use Rattle.std.proofs.lemmas.List.{append-nil}
use Rattle.rm_base.proofs.Public.{and_first, and_second}
use Rattle.journal_text.specs.Text.{IsEntry, IsNumber}
use Rattle.journal_text.specs.declared.record.Record.{Record}
use Rattle.journal_text.specs.declared.record.Entry.TheVariants as entry
use Rattle.journal_binary.specs.Binary.{body_text, eight, four, record_bytes}
use Rattle.journal_binary.specs.Faults.{IsBody}
use Rattle.journal_binary.specs.Fronts.{Front, bad, got, in_range, read_eight, read_four, read_head, read_record, short, then_read}
use Rattle.journal_binary.specs.Laws.{AreBytes}
use Rattle.journal_binary.proofs.Steady.{then_got}
use Rattle.journal_binary.proofs.Runs.{got_rest, got_value}
use Rattle.journal_binary.proofs.Spelled.{IsAny, Spells, all_back, bytes_behind, eight_spelled, four_spelled, many_spelled, record_spelled}

-- the parts of a head
pub record HeadParts (bytes rest : List ℕ) (budget count : ℕ) : Type 0 where
  pub middle : List ℕ
  pub first : read_four bytes ≡ got budget middle
  pub second : read_eight middle ≡ got count rest
  pub low : 1 ≤ budget
  pub high : budget ≤ 1048576

pub record InRange (v budget : ℕ) (middle rest : List ℕ) : Type 0 where
  pub value : v ≡ budget
  pub left : middle ≡ rest
  pub within : nat_le 1 budget && nat_le budget 1048576 ≡ true

range_by : (v budget : ℕ) (middle rest : List ℕ) (p : Bool) → nat_le 1 v && nat_le v 1048576 ≡ p → (if p then got v middle else bad) ≡ got budget rest → InRange v budget middle rest
range_by v budget middle rest true h e =
    let is : v ≡ budget = got_value v budget middle rest e in
    record { value = is; left = got_rest v budget middle rest e; within = subst (λ (n : ℕ). nat_le 1 n && nat_le n 1048576 ≡ true) is h }
range_by v budget middle rest false h e = cc

count_is : (v budget count : ℕ) (x : Front ℕ) (rest : List ℕ) → then_read {B = ℕ × ℕ} x (λ count rest. got (v, count) rest) ≡ got (budget, count) rest → (v ≡ budget) × (x ≡ got count rest)
count_is v budget count (got n middle) rest e =
    let both : (v, n) ≡ (budget, count) = got_value (v, n) (budget, count) middle rest e in
    (ap (λ (h : ℕ × ℕ). h.0) both, ap (λ (h : ℕ × ℕ). got h.1 middle) both ∙ ap (λ (xs : List ℕ). got count xs) (got_rest (v, n) (budget, count) middle rest e))
count_is v budget count bad rest e = cc
count_is v budget count short rest e = cc

head_by : (bytes middle rest : List ℕ) (v budget count : ℕ) → read_four bytes ≡ got v middle → InRange v budget middle rest → (after : List ℕ) → read_eight rest ≡ got count after → HeadParts bytes after budget count
head_by bytes middle rest v budget count e r after f = record {
  middle = rest;
  first = e ∙ ap (λ (n : ℕ). got n middle) r.value ∙ ap (λ (xs : List ℕ). got budget xs) r.left;
  second = f;
  low = leb-true 1 budget (and_first (nat_le 1 budget) (nat_le budget 1048576) r.within);
  high = leb-true budget 1048576 (and_second (nat_le 1 budget) (nat_le budget 1048576) r.within);
}

pub head_parts : (bytes rest : List ℕ) (budget count : ℕ) → read_head bytes ≡ got (budget, count) rest → HeadParts bytes rest budget count
unfolding read_head
head_parts bytes rest budget count e =
    let g = then_got (then_read (read_four bytes) in_range) (λ budget rest. then_read (read_eight rest) (λ count rest. got (budget, count) rest)) (budget, count) rest e in
    let k = then_got (read_four bytes) in_range g.value g.middle g.first in
    let two : (g.value ≡ budget) × (read_eight g.middle ≡ got count rest) = count_is g.value budget count (read_eight g.middle) rest g.second in
    let r : InRange k.value g.value k.middle g.middle = range_by k.value g.value k.middle g.middle (nat_le 1 k.value && nat_le k.value 1048576) refl k.second in
    subst (λ (n : ℕ). HeadParts bytes rest n count) two.0 (head_by bytes k.middle g.middle k.value g.value count k.first r rest two.1)

pub head_spelled : (bytes rest : List ℕ) (budget count : ℕ) → AreBytes bytes → HeadParts bytes rest budget count → bytes ≡ four budget ++ (eight count ++ rest)
head_spelled bytes rest budget count ok h =
    let first : Spells four IsNumber bytes h.middle budget = four_spelled bytes h.middle budget ok h.first in
    let second : Spells eight IsAny h.middle rest count = eight_spelled h.middle rest count (bytes_behind four IsNumber bytes h.middle budget ok first) h.second in
    first.is ∙ ap (λ (xs : List ℕ). four budget ++ xs) second.is

pub body_spelled : (bytes : List ℕ) (budget : ℕ) (records : List Record) → AreBytes bytes → IsBody bytes budget records → bytes ≡ body_text budget records
body_spelled bytes budget records ok b =
    let none : length records + 0 ≡ length records = omega arith in
    let head : bytes ≡ four budget ++ (eight (length records + 0) ++ b.behind) = head_spelled bytes b.behind budget (length records + 0) ok (head_parts bytes b.behind budget (length records + 0) b.head) in
    let ok2 : AreBytes b.behind = all_back (λ (b : ℕ). b < 256) (eight (length records + 0)) b.behind (all_back (λ (b : ℕ). b < 256) (four budget) (eight (length records + 0) ++ b.behind) (subst AreBytes head ok)) in
    let all : Spells (λ (rs : List Record). flat_map record_bytes rs) (λ (rs : List Record). AllByRecursion (λ (r : Record). IsEntry (entry.Record r)) rs) b.behind [] records =
    many_spelled read_record record_bytes (λ (r : Record). IsEntry (entry.Record r)) (length records) record_spelled b.behind [] records ok2 b.read in
    head ∙ ap (λ (n : ℕ). four budget ++ (eight n ++ b.behind)) none ∙ ap (λ (xs : List ℕ). four budget ++ (eight (length records) ++ xs)) (all.is ∙ append-nil (flat_map record_bytes records))
