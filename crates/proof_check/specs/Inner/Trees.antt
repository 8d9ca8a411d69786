-- What is found of a tree.
use Rattle.std.specs.Prelude.{List, ◌≡◌, ◌≢◌}
use Rattle.gate_net.specs.Net.{Net}
use Rattle.refutation.specs.declared.items.Form.{Form}
use Rattle.refutation.specs.declared.items.Item.{Item}
use Rattle.refutation_check.specs.FirstRefusal.{IsFirstRefusal}
use Rattle.refutation_check.specs.declared.refusals.CheckRefusal.{CheckRefusal}
use Rattle.refutation_check.specs.declared.refusals.CheckRefusal.TheVariants as check
use Rattle.rm_base.specs.declared.numbers.Fault.{Fault}
use Rattle.proof_check.specs.declared.refusal.JudgeRefusal.{JudgeRefusal}
use Rattle.proof_check.specs.declared.refusal.JudgeRefusal.TheVariants.{NoMemory, Tree}

-- the refusal of a tree, as one of a proof
abbrev pub refusal_of_tree : CheckRefusal → JudgeRefusal
refusal_of_tree check.NoMemory = NoMemory
refusal_of_tree r = Tree r

-- the tree is refused so
abbrev pub IsRefusedTree : Net → Fault → Form → List Item → JudgeRefusal → Type 0
IsRefusedTree net fault form items (Tree r) = IsFirstRefusal net fault form items r
IsRefusedTree net fault form items _ = ⊥
