use Rattle.std.proofs.Common.{◌≡◌, subst, arith, List, Some, None}
use Rattle.std.specs.Prelude.{slice_get}
use Rattle.blif_flatten.specs.declared.modules.Module.{Module}
use Rattle.blif_flatten.specs.FirstFault.{size_fault, tree_of}
use Rattle.blif_flatten.proofs.Joined.{flat-few, joined-few}
use Rattle.blif_flatten.proofs.Placed.{joined-light, joined-placed}
use Rattle.blif_flatten.proofs.reading.join_modules.Goals as goal

pub flatten_modules-requires-clause-few : goal.flatten_modules-requires-clause-few
flatten_modules-requires-clause-few c =
    let few = joined-few c.args.most c.args.linked.modules.items c.as_slice-3.result.now c.as_slice-3.ensures.value c.requires.some c.requires.positive (subst (λ (ms : List Module). (top : Module) → slice_get ms 0 ≡ Some top → size_fault c.args.most top (tree_of ms top) ≡ None) c.as_slice.ensures.value c.in-Ok.ensures.ok) in
    omega (arith, few)

pub returns-in-Ok-flatten_modules-clause-few : goal.returns-in-Ok-flatten_modules-clause-few
returns-in-Ok-flatten_modules-clause-few c =
    let few = flat-few c.args.most c.args.linked.modules.items c.as_slice-3.result.now _ c.in-Ok-flatten_modules.flat c.as_slice-3.ensures.value c.requires.some c.requires.positive (subst (λ (ms : List Module). (top : Module) → slice_get ms 0 ≡ Some top → size_fault c.args.most top (tree_of ms top) ≡ None) c.as_slice.ensures.value c.in-Ok.ensures.ok) c.in-Ok-flatten_modules.ensures in
    omega (arith, few, c.ranges.most.fits)

pub returns-in-Ok-flatten_modules-clause-placed : goal.returns-in-Ok-flatten_modules-clause-placed
returns-in-Ok-flatten_modules-clause-placed c = joined-placed c.args.linked.modules.items c.as_slice-3.result.now _ c.in-Ok-flatten_modules.flat c.as_slice-3.ensures.value c.requires.some c.requires.light c.in-Ok-flatten_modules.ensures

pub returns-in-Ok-flatten_modules-clause-few_covers : goal.returns-in-Ok-flatten_modules-clause-few_covers
returns-in-Ok-flatten_modules-clause-few_covers c =
    let few = joined-light c.args.most c.args.linked.modules.items c.as_slice-3.result.now _ c.in-Ok-flatten_modules.flat c.as_slice-3.ensures.value c.requires.some c.requires.light (subst (λ (ms : List Module). (top : Module) → slice_get ms 0 ≡ Some top → size_fault c.args.most top (tree_of ms top) ≡ None) c.as_slice.ensures.value c.in-Ok.ensures.ok) c.in-Ok-flatten_modules.ensures in
    omega (arith, few, c.ranges.most.fits)
