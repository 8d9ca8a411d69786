use Rattle.std.proofs.Common.{◌∙◌, ap, sym, subst}
use Rattle.pin_pool.specs.Ring.{IsApart, without}
use Rattle.pin_pool.specs.Pins.{Pins, list_of}
use Rattle.pin_pool.specs.Rings.{Rings, rings_of, IsLinked}
use Rattle.pin_pool.proofs.Fingers.{has-there, pointed-after}
use Rattle.pin_pool.proofs.pool_calls.Pool.unlink_at.Goals as goal

pub unlink-slot-requires : goal.unlink-slot-requires
unlink-slot-requires c = (c.args.gate, has-there _ c.args.position c.args.pin.0 c.requires)

pub invariant_of-self : goal.invariant_of-self
invariant_of-self c =
    let e = c.unlink-slot.ensures in (
      c.self-2.invariant.0,
      (
        pointed-after c.self.inside.store c.self-2.inside.store c.args.pin.0 c.args.gate c.args.position c.after-next.result
            (subst (λ (v : Pins). IsApart (list_of v.inputs c.args.gate)) (sym c.self.view_is) (e.was_valid.rings.inputs.apart c.args.gate))
            (rw (← c.self.view_is) at c.requires)
            (ap (λ (v : Pins). list_of v.inputs c.args.gate) c.self-2.view_is
            ∙ ap (λ (r : Rings). r.inputs c.args.gate) e.rings
            ∙ ap (λ (v : Pins). without c.args.pin.0 (list_of v.inputs c.args.gate)) (sym c.self.view_is))
            c.after-next.ensures,
        c.self-2.invariant.1.1,
      ),
    )

pub returns-clause-others : goal.returns-clause-others
returns-clause-others c = λ q ne l. subst (λ (v : Pins). IsLinked (rings_of v) q) (sym c.self-2.view_is) (c.unlink-slot.ensures.others q ne l)
