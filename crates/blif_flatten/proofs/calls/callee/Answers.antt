use Rattle.std.proofs.Common.{◌∙◌, sym, subst, ap, refl, List}
use Rattle.std.specs.Prelude.{slice_get}
use Rattle.rm_base.specs.Words.{Word}
use Rattle.blif_flatten.specs.Inner.Interfaces.{Names}
use Rattle.blif_flatten.specs.declared.interfaces.Interface.{Interface}
use Rattle.blif_flatten.proofs.Formals.{called-names, called-there}
use Rattle.blif_flatten.proofs.calls.callee.Goals as goal

pub returns-in-Some-interface_at-clause-some : goal.returns-in-Some-interface_at-clause-some
returns-in-Some-interface_at-clause-some c = λ modules known.
    subst (λ (w : Word). Names modules w c.in-Some-interface_at.interface.now) c.word_of.ensures (called-names c.args.callable.now modules c.word_of.result.now c.in-Some.place c.in-Some-interface_at.interface.now known (sym c.in-Some.ensures.place)
    (ap (λ (xs : List Interface). slice_get xs c.in-Some.place) (sym c.as_slice.ensures.value) ∙ c.in-Some-interface_at.ensures.some))

pub returns-in-None-clause-none : goal.returns-in-None-clause-none
returns-in-None-clause-none c = λ modules known _.
    absurd (called-there c.args.callable.now modules _ c.in-Some.place known (sym c.in-Some.ensures.place)
    (ap (λ (xs : List Interface). slice_get xs c.in-Some.place) (sym c.as_slice.ensures.value) ∙ c.in-None.ensures.none refl))
