-- Records and trees that a text can have.
use Rattle.std.proofs.Common.{List, [], ℕ, ◌∷◌, ◌≡◌, ◌≢◌}
use Rattle.equal_evidence.specs.Evidence.{IsWritten}
use Rattle.equal_evidence.specs.declared.evidence.Evidence.TheVariants.{Plain}
use Rattle.equal_miter.specs.Likeness.{IsLikeness}
use Rattle.equal_miter.specs.declared.likeness.Likeness.TheVariants.{Same, Undecided}
use Rattle.journal_ranges.specs.Ranges.{AreFit}
use Rattle.journal_text.specs.Runs.{AreWritable}
use Rattle.journal_text.specs.Text.{AreEntries, AreItems, record_entries}
use Rattle.journal_text.specs.declared.record.Record.{Record}
use Rattle.refutation.specs.Branches.{Branch, clash, here, items_of, line, quiet, split, untried}
use Rattle.refutation.specs.declared.items.Item.{Item}
use Rattle.rm_model.specs.declared.parts.Model.{Model}

-- records that fit and have lines are entries
pub fit_entries : (records : List Record) → AreWritable records → AreFit records → AreEntries (record_entries records)
fit_entries [] w f = tt
fit_entries (r ∷ records) w f = (record { writable = w.0; fits = f.0 }, fit_entries records w.1 f.1)

-- a tree has an item
some_items : (items : List Item) (t : Branch) → items ≡ items_of t → items ≢ []
some_items items (line l t) e = λ none. cc (e, none)
some_items items (split x first t u) e = λ none. cc (e, none)
some_items items (clash x) e = λ none. cc (e, none)
some_items items quiet e = λ none. cc (e, none)
some_items items here e = λ none. cc (e, none)
some_items items untried e = λ none. cc (e, none)

-- a tree that an answer has can be read from its text
pub same_written : (m n : Model) (budget : ℕ) (items : List Item) → AreItems items → IsLikeness m n budget (Same items) → IsWritten (Plain (Same items))
same_written m n budget items fits l = (some_items items l.0.0 l.0.1.0, fits)

pub spent_written : (m n : Model) (budget : ℕ) (items : List Item) → AreItems items → IsLikeness m n budget (Undecided items) → IsWritten (Plain (Undecided items))
spent_written m n budget items fits l = (some_items items l.tree l.same, fits)
