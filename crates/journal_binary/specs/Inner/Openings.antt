-- Beside Fronts.antt: the opening of a record, up to the first of its items or bits.
use Rattle.std.specs.Prelude.{ℕ, List, [], ◌∷◌, Option, Some, None}
use Rattle.rm_base.specs.declared.numbers.NodeId.{NodeId}
use Rattle.wire_edit.specs.Order.{node}
use Rattle.wire_edit.specs.declared.steps.Step.{Step}
use Rattle.wire_edit.specs.declared.steps.Step.TheVariants as step
use Rattle.journal_text.specs.declared.keywords.Keyword.{Keyword}
use Rattle.journal_text.specs.declared.keywords.Keyword.TheVariants as keyword
use Rattle.journal_binary.specs.Fronts.{Front, bad, got, keyword_among, read_count, read_fault, read_four, record_keywords, short, then_read}
use Rattle.journal_binary.specs.declared.openings.Begun.TheVariants as begun
use Rattle.journal_binary.specs.declared.openings.Opened.{Opened}
use Rattle.journal_binary.specs.declared.openings.Opened.TheVariants as opened
use Rattle.journal_binary.specs.declared.openings.OneStep.{OneStep}
use Rattle.journal_binary.specs.declared.openings.OneStep.TheVariants as of_one
use Rattle.journal_binary.specs.declared.openings.TwoStep.{TwoStep}
use Rattle.journal_binary.specs.declared.openings.TwoStep.TheVariants as of_two
use Rattle.journal_binary.specs.declared.openings.Head.{Head}
use Rattle.journal_binary.specs.declared.openings.Head.TheVariants as head

abbrev pub one_step : OneStep → NodeId → Step
one_step of_one.NewNot x = step.NewNot x
one_step of_one.NoPins x = step.NoPins x
one_step of_one.OnePin x = step.OnePin x
one_step of_one.Twice x = step.Twice x
one_step of_one.Dead x = step.Dead x

abbrev pub two_step : TwoStep → NodeId → ℕ → Step
two_step of_two.Const x q = step.Const x q
two_step of_two.Same x q = step.Same x q
two_step of_two.Twin x q = step.Twin x (node q)

-- the keyword of a head
abbrev pub head_keyword : Head → Keyword
head_keyword head.Add = keyword.Add
head_keyword head.Fix = keyword.Fix
head_keyword (head.One of_one.NewNot) = keyword.NewNot
head_keyword (head.One of_one.NoPins) = keyword.NoPins
head_keyword (head.One of_one.OnePin) = keyword.OnePin
head_keyword (head.One of_one.Twice) = keyword.Twice
head_keyword (head.One of_one.Dead) = keyword.Dead
head_keyword (head.Two of_two.Const) = keyword.Const
head_keyword (head.Two of_two.Same) = keyword.Same
head_keyword (head.Two of_two.Twin) = keyword.Twin
head_keyword head.Hit = keyword.Hit
head_keyword head.Spent = keyword.Spent

-- a local step has no items
abbrev pub bare : Step → Opened
bare s = opened.Items (begun.Step s) 0

abbrev pub open_one : (NodeId → Step) → List ℕ → Front Opened
open_one f bytes = then_read (read_four bytes) (λ n rest. got (bare (f (node n))) rest)

abbrev pub open_two : (NodeId → ℕ → Step) → List ℕ → Front Opened
open_two f bytes = then_read (read_four bytes) (λ n rest. then_read (read_four rest) (λ q rest. got (bare (f (node n) q)) rest))

abbrev pub open_add : List ℕ → Front Opened
open_add bytes =
    then_read (read_four bytes) (λ gate rest. then_read (read_four rest) (λ driver rest. then_read (read_count rest) (λ n rest.
    got (opened.Items (begun.Step (step.Add (node gate) (node driver))) n) rest)))

abbrev pub open_fix : List ℕ → Front Opened
open_fix bytes = then_read (read_fault bytes) (λ f rest. then_read (read_count rest) (λ n rest. got (opened.Items (begun.Step (step.Fix f.gate f.position f.value)) n) rest))

abbrev pub open_hit : List ℕ → Front Opened
open_hit bytes = then_read (read_fault bytes) (λ f rest. then_read (read_count rest) (λ n rest. got (opened.Bits f n) rest))

abbrev pub open_spent : List ℕ → Front Opened
open_spent bytes = then_read (read_fault bytes) (λ f rest. then_read (read_count rest) (λ n rest. got (opened.Items (begun.Spent f) n) rest))

-- what stands behind the byte of a keyword, up to the first item or bit
abbrev pub open_fields : Keyword → List ℕ → Front Opened
open_fields keyword.Add bytes = open_add bytes
open_fields keyword.Fix bytes = open_fix bytes
open_fields keyword.NewNot bytes = open_one (λ x. step.NewNot x) bytes
open_fields keyword.Const bytes = open_two (λ x q. step.Const x q) bytes
open_fields keyword.Same bytes = open_two (λ x q. step.Same x q) bytes
open_fields keyword.NoPins bytes = open_one (λ x. step.NoPins x) bytes
open_fields keyword.OnePin bytes = open_one (λ x. step.OnePin x) bytes
open_fields keyword.Twice bytes = open_one (λ x. step.Twice x) bytes
open_fields keyword.Twin bytes = open_two (λ x q. step.Twin x (node q)) bytes
open_fields keyword.Dead bytes = open_one (λ x. step.Dead x) bytes
open_fields keyword.Hit bytes = open_hit bytes
open_fields keyword.Spent bytes = open_spent bytes
open_fields keyword.Header bytes = bad
open_fields keyword.End bytes = bad

abbrev pub open_keyword : Option Keyword → List ℕ → Front Opened
open_keyword None bytes = bad
open_keyword (Some k) bytes = open_fields k bytes

-- the opening at the front
unfoldable pub read_opening : List ℕ → Front Opened
read_opening [] = short
read_opening (b ∷ bytes) = open_keyword (keyword_among record_keywords b) bytes
