-- Lines of records, one after another.
use Rattle.std.proofs.Common.{List, add-one, ap, append_assoc, drop, length, refl, subst, sym, ℕ, ◌++◌, ◌+◌, ◌∙◌, ◌∷◌, ◌≡◌, ◌≤◌, suc, []}
use Rattle.std.specs.Prelude.{Some, slice_get}
use Rattle.std.proofs.lemmas.List.{append-nil}
use Rattle.journal_text.specs.Runs.{AreWritable, records_text}
use Rattle.journal_text.specs.Text.{AreEntries, IsWritableRecord, entry_text, record_entries}
use Rattle.equal_evidence.specs.Evidence.{IsWritable, IsWritten}
use Rattle.equal_evidence.specs.Laws.{ProofsAreWritable}
use Rattle.equal_evidence.specs.declared.evidence.Evidence.{Evidence}
use Rattle.equal_evidence.specs.declared.evidence.Evidence.TheVariants.{Merged, Plain}
use Rattle.journal_text.specs.declared.record.Entry.TheVariants as entry
use Rattle.journal_text.specs.declared.record.Record.{Record}
use Rattle.rm_base.proofs.Public.{drop_end, drop_stands}

-- so many lines are put, and the others can be
pub record IsPut (first : List ℕ) (records : List Record) (out : List ℕ) (k : ℕ) : Type 0 where
  pub text : out ++ records_text (drop k records) ≡ first ++ records_text records
  pub left : AreWritable (drop k records)

pub put_first : (first out : List ℕ) (records : List Record) → out ≡ first → AreWritable records → IsPut first records out 0
put_first first out records e w = record { text = ap (λ (l : List ℕ). l ++ records_text records) e; left = w }

pub put_here : (first out : List ℕ) (records : List Record) (k : ℕ) (r : Record) → slice_get records k ≡ Some r → IsPut first records out k → IsWritableRecord r
put_here first out records k r at p = (subst (λ (rs : List Record). AreWritable rs) (drop_stands records k r at) p.left).0

pub put_more : (first out more : List ℕ) (records : List Record) (k : ℕ) (r : Record) → slice_get records k ≡ Some r → IsPut first records out k → more ≡ out ++ entry_text (entry.Record r) → IsPut first records more (k + 1)
put_more first out more records k r at p e =
    let rest : drop k records ≡ r ∷ drop (suc k) records = drop_stands records k r at in
    subst (λ (n : ℕ). IsPut first records more n) (sym (add-one k))
    (record {
      text = ap (λ (l : List ℕ). l ++ records_text (drop (suc k) records)) e
          ∙ (append_assoc out (entry_text (entry.Record r)) (records_text (drop (suc k) records))
          ∙ (ap (λ (rs : List Record). out ++ records_text rs) (sym rest) ∙ p.text));
      left = (subst (λ (rs : List Record). AreWritable rs) rest p.left).1;
    })

pub put_last : (first out : List ℕ) (records : List Record) (k : ℕ) → length records ≤ k → IsPut first records out k → out ≡ first ++ records_text records
put_last first out records k le p = sym (append-nil out) ∙ (ap (λ (rs : List Record). out ++ records_text rs) (sym (drop_end records k le)) ∙ p.text)

pub entries_writable : (records : List Record) → AreEntries (record_entries records) → AreWritable records
entries_writable [] v = tt
entries_writable (r ∷ records) v = (v.0.writable, entries_writable records v.1)

written_writable : (e : Evidence) → IsWritten e → IsWritable e
written_writable (Plain l) w = tt
written_writable (Merged records) w = entries_writable records w

pub proofs_writable : ProofsAreWritable
proofs_writable text budget e p = written_writable e p.written
