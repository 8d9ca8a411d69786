-- Records whose numbers are machine words.
use Rattle.std.proofs.Common.{List, [], ap, arith, length, refl, subst, suc, sym, take, zero, ℕ, ◌++◌, ◌+◌, ◌<◌, ◌∙◌, ◌∷◌, ◌≡◌, ◌≤◌}
use Rattle.std.specs.List.{AllByRecursion}
use Rattle.std.specs.Prelude.{get_or}
use Rattle.journal_ranges.specs.Ranges.{AreFit}
use Rattle.journal_text.specs.Runs.{AreWritable}
use Rattle.journal_text.specs.Text.{AreEntries, AreItems, Fits, IsEntry, IsItem, journal_entries, record_entries}
use Rattle.journal_text.specs.declared.record.Entry.{Entry}
use Rattle.journal_text.specs.declared.record.Entry.TheVariants as entry
use Rattle.journal_text.specs.declared.record.Record.{Record}
use Rattle.refutation.specs.declared.items.Item.{Item}

pub fits_then : (a b : List Record) → AreFit a → AreFit b → AreFit (a ++ b)
fits_then [] b p q = q
fits_then (x ∷ a) b p q = (p.0, fits_then a b p.1 q)

-- records that have lines and fit, and an entry behind them, are entries
entries_then : (records : List Record) (e : Entry) → IsEntry e → AreWritable records → AreFit records → AreEntries (record_entries records ++ e ∷ [])
entries_then [] e valid w f = (valid, tt)
entries_then (r ∷ records) e valid w f = (record { writable = w.0; fits = f.0 }, entries_then records e valid w.1 f.1)

pub are_entries : (budget : ℕ) (records : List Record) → 1 ≤ budget → budget ≤ 1048576 → AreWritable records → AreFit records → AreEntries (journal_entries budget records)
are_entries budget records low high w f = (record { writable = (low, high); fits = tt }, entries_then records entry.End (record { writable = tt; fits = tt }) w f)

-- one more of a list
pub fits_more : (xs : List Record) (i : ℕ) (x : Record) → i < length xs → x ≡ get_or xs i x → AreFit (take i xs) → Fits (entry.Record x) → AreFit (take (i + 1) xs)
fits_more [] i x l e p q = absurd (omega arith)
fits_more (y ∷ []) zero x l e p q = (subst (λ (z : Record). Fits (entry.Record z)) e q, tt)
fits_more (y ∷ z ∷ ys) zero x l e p q = (subst (λ (z : Record). Fits (entry.Record z)) e q, tt)
fits_more (y ∷ ys) (suc i) x l e p q =
    let n : suc i + 1 ≡ suc (i + 1) = omega arith in
    subst (λ (k : ℕ). AreFit (take k (y ∷ ys))) (sym n) (p.0, fits_more ys i x (omega arith) e p.1 q)

pub items_more : (xs : List Item) (i : ℕ) (d : Item) → i < length xs → AreItems (take i xs) → IsItem (get_or xs i d) → AreItems (take (i + 1) xs)
items_more [] i d l p q = absurd (omega arith)
items_more (y ∷ []) zero d l p q = (q, tt)
items_more (y ∷ z ∷ ys) zero d l p q = (q, tt)
items_more (y ∷ ys) (suc i) d l p q =
    let n : suc i + 1 ≡ suc (i + 1) = omega arith in
    subst (λ (k : ℕ). AreItems (take k (y ∷ ys))) (sym n) (p.0, items_more ys i d (omega arith) p.1 q)
