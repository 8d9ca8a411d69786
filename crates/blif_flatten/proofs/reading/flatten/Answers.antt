use Rattle.std.proofs.Common.{◌∙◌, ap, List}
use Rattle.std.specs.Prelude.{slice_get}
use Rattle.blif_flatten.specs.declared.modules.Module.{Module}
use Rattle.blif_flatten.specs.Sections.{sections_of}
use Rattle.blif_flatten.specs.Instances.{modules_of}
use Rattle.blif_flatten.proofs.FormedText.{joined-formed}
use Rattle.blif_flatten.proofs.Joined.{rank-refused, size-refused, some-module, top-at, whole-flat}
use Rattle.blif_flatten.proofs.reading.flatten.Goals as goal

pub returns-in-Err-join_modules-clause-fault : goal.returns-in-Err-join_modules-clause-fault
returns-in-Err-join_modules-clause-fault c =
    let t = some-module (sections_of c.args.text.now) c.in-Ok.ensures.some in
    let is = c.in-Ok.ensures.linked in
    let at = ap (λ (ms : List Module). slice_get ms 0) is.modules_are ∙ top-at (modules_of (sections_of c.args.text.now)) t.0 t.1.0 t.1.1 in
    size-refused c.args.most c.args.text.now c.in-Ok.ensures.lines c.in-Ok.ensures.names t.0 t.1.0 c.in-Ok.linked.modules.items c.in-Err-join_modules.refusal t.1.1 is.modules_are (c.in-Err-join_modules.ensures.err t.0 at)

pub check_flat-requires-clause-formed : goal.check_flat-requires-clause-formed
check_flat-requires-clause-formed c =
    let t = some-module (sections_of c.args.text.now) c.in-Ok.ensures.some in
    let is = c.in-Ok.ensures.linked in
    let at = ap (λ (ms : List Module). slice_get ms 0) is.modules_are ∙ top-at (modules_of (sections_of c.args.text.now)) t.0 t.1.0 t.1.1 in
    joined-formed c.args.text.now c.requires c.in-Ok.ensures.lines c.in-Ok.ensures.names is.ranked t.0 (top-at (modules_of (sections_of c.args.text.now)) t.0 t.1.0 t.1.1) c.in-Ok.linked.modules.items c.in-Ok.linked.lead.items c.in-Ok-join_modules.flat is.modules_are is.lead_is (c.in-Ok-join_modules.ensures.flat t.0 at) c.in-Ok-join_modules.ensures.few

pub returns-in-Ok-check_flat-clause-flat : goal.returns-in-Ok-check_flat-clause-flat
returns-in-Ok-check_flat-clause-flat c =
    let t = some-module (sections_of c.args.text.now) c.in-Ok.ensures.some in
    let is = c.in-Ok.ensures.linked in
    let at = ap (λ (ms : List Module). slice_get ms 0) is.modules_are ∙ top-at (modules_of (sections_of c.args.text.now)) t.0 t.1.0 t.1.1 in
    let formed = joined-formed c.args.text.now c.requires c.in-Ok.ensures.lines c.in-Ok.ensures.names is.ranked t.0 (top-at (modules_of (sections_of c.args.text.now)) t.0 t.1.0 t.1.1) c.in-Ok.linked.modules.items c.in-Ok.linked.lead.items c.in-Ok-join_modules.flat is.modules_are is.lead_is (c.in-Ok-join_modules.ensures.flat t.0 at) c.in-Ok-join_modules.ensures.few in
    whole-flat c.args.most c.args.text.now c.in-Ok.ensures.lines c.in-Ok.ensures.names t.0 t.1.0 c.in-Ok.linked.modules.items c.in-Ok.linked.lead.items c.in-Ok-join_modules.flat t.1.1 is.modules_are is.lead_is (c.in-Ok-join_modules.ensures.size t.0 at) (c.in-Ok-join_modules.ensures.flat t.0 at) c.in-Ok-check_flat.found.model c.in-Ok-check_flat.found.instances c.in-Ok-check_flat.ensures.model c.in-Ok-check_flat.ensures.count formed c.in-Ok-check_flat.ensures.ranked c.in-Ok-check_flat.ensures.ok

pub returns-in-Err-check_flat-clause-fault : goal.returns-in-Err-check_flat-clause-fault
returns-in-Err-check_flat-clause-fault c =
    let t = some-module (sections_of c.args.text.now) c.in-Ok.ensures.some in
    let is = c.in-Ok.ensures.linked in
    let at = ap (λ (ms : List Module). slice_get ms 0) is.modules_are ∙ top-at (modules_of (sections_of c.args.text.now)) t.0 t.1.0 t.1.1 in
    rank-refused c.args.most c.args.text.now c.in-Ok.ensures.lines c.in-Ok.ensures.names t.0 t.1.0 c.in-Ok.linked.modules.items c.in-Ok.linked.lead.items c.in-Ok-join_modules.flat t.1.1 is.modules_are is.lead_is (c.in-Ok-join_modules.ensures.size t.0 at) (c.in-Ok-join_modules.ensures.flat t.0 at) c.in-Err-check_flat.refusal c.in-Err-check_flat.ensures.err
