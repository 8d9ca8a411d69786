use Rattle.std.proofs.Common.{◌≡◌, ℕ, List, Bool, length, ap, ◌∙◌, ◌+◌, arith}
use Rattle.std.specs.FinSet as set
use Rattle.pin_pool.specs.Inner.Links.{lists_of}
use Rattle.pin_pool.specs.Inner.Marks.{is_listed, is_marked, unmarked_from}
use Rattle.pin_pool.specs.Pins.{Pins}
use Rattle.pin_pool.specs.declared.links.Side.TheVariants.{Gate}
use Rattle.pin_pool.specs.declared.links.Pin.{Pin}
use Rattle.pin_pool.specs.declared.links.Ends.{Ends}
use Rattle.pin_pool.proofs.Copied.{copied-all, taken-all, count-all}
use Rattle.pin_pool.proofs.PoolLemmas.{written}
use Rattle.pin_pool.proofs.store.Store.copy.Goals as goal

pub invariant_of-result : goal.invariant_of-result
invariant_of-result c =
    let i = c.self.inside in
    let mark : (q : ℕ) → is_marked c.mark_linked.new.marks q ≡ is_listed q (lists_of Gate i.pins.items i.gates.items) = λ q. c.mark_linked.ensures q ∙ ap (λ (ps : List Pin). is_listed q (lists_of Gate ps c.deref-2.result.now)) c.deref.ensures.value ∙ ap (λ (es : List Ends). is_listed q (lists_of Gate i.pins.items es)) c.deref-2.ensures.value in
    let count : length c.mark_linked.new.marks ≡ length i.pins.items = omega (arith, c.mark_linked.auto.marks, ap (λ (l : List Bool). length l) c.deref_mut.ensures.value, c.in_ok-marks.ensures.len, c.in_ok-marks.marks.ok.0, c.len.ensures, i.pins.ok.0) in
    let all = written c.in_ok-marks.marks.items c.deref_mut.result.now c.mark_linked.new.marks c.in_ok-marks.marks.len c.deref_mut.ensures.value c.mark_linked.auto.marks c.in_ok-marks.marks.ok.0 in
    let free : c.in_ok-free.free.items ≡ unmarked_from 0 c.mark_linked.new.marks = c.in_ok-free.ensures.numbers ∙ ap (λ (l : List Bool). unmarked_from 0 l) (c.deref-3.ensures.value ∙ all) in
    copied-all i.pins.items _ i.free.items _ _ _ i.gates.items _ i.drivers.items _ c.mark_linked.new.marks c.self.invariant (c.in_ok-from_slice.ensures.items ∙ c.deref-4.ensures.value) (c.in_ok-from_slice-2.ensures.items ∙ c.deref-5.ensures.value) (c.in_ok-from_slice-3.ensures.items ∙ c.deref-6.ensures.value) count mark free (omega (arith, c.in_ok-free.ensures.room, ap (λ (l : List Bool). length l) (c.deref-3.ensures.value ∙ all))) (rw (← c.self.view_is) at c.requires)

pub returns-clause-taken : goal.returns-clause-taken
returns-clause-taken c =
    let i = c.self.inside in
    let mark : (q : ℕ) → is_marked c.mark_linked.new.marks q ≡ is_listed q (lists_of Gate i.pins.items i.gates.items) = λ q. c.mark_linked.ensures q ∙ ap (λ (ps : List Pin). is_listed q (lists_of Gate ps c.deref-2.result.now)) c.deref.ensures.value ∙ ap (λ (es : List Ends). is_listed q (lists_of Gate i.pins.items es)) c.deref-2.ensures.value in
    let count : length c.mark_linked.new.marks ≡ length i.pins.items = omega (arith, c.mark_linked.auto.marks, ap (λ (l : List Bool). length l) c.deref_mut.ensures.value, c.in_ok-marks.ensures.len, c.in_ok-marks.marks.ok.0, c.len.ensures, i.pins.ok.0) in
    let all = written c.in_ok-marks.marks.items c.deref_mut.result.now c.mark_linked.new.marks c.in_ok-marks.marks.len c.deref_mut.ensures.value c.mark_linked.auto.marks c.in_ok-marks.marks.ok.0 in
    let free : c.in_ok-free.free.items ≡ unmarked_from 0 c.mark_linked.new.marks = c.in_ok-free.ensures.numbers ∙ ap (λ (l : List Bool). unmarked_from 0 l) (c.deref-3.ensures.value ∙ all) in
    taken-all i.pins.items _ i.free.items _ _ i.gates.items _ i.drivers.items c.mark_linked.new.marks c.self.invariant (c.in_ok-from_slice.ensures.items ∙ c.deref-4.ensures.value) (c.in_ok-from_slice-2.ensures.items ∙ c.deref-5.ensures.value) count mark free

pub returns-clause-pins : goal.returns-clause-pins
returns-clause-pins c =
    let i = c.self.inside in
    let mark : (q : ℕ) → is_marked c.mark_linked.new.marks q ≡ is_listed q (lists_of Gate i.pins.items i.gates.items) = λ q. c.mark_linked.ensures q ∙ ap (λ (ps : List Pin). is_listed q (lists_of Gate ps c.deref-2.result.now)) c.deref.ensures.value ∙ ap (λ (es : List Ends). is_listed q (lists_of Gate i.pins.items es)) c.deref-2.ensures.value in
    let count : length c.mark_linked.new.marks ≡ length i.pins.items = omega (arith, c.mark_linked.auto.marks, ap (λ (l : List Bool). length l) c.deref_mut.ensures.value, c.in_ok-marks.ensures.len, c.in_ok-marks.marks.ok.0, c.len.ensures, i.pins.ok.0) in
    let all = written c.in_ok-marks.marks.items c.deref_mut.result.now c.mark_linked.new.marks c.in_ok-marks.marks.len c.deref_mut.ensures.value c.mark_linked.auto.marks c.in_ok-marks.marks.ok.0 in
    let free : c.in_ok-free.free.items ≡ unmarked_from 0 c.mark_linked.new.marks = c.in_ok-free.ensures.numbers ∙ ap (λ (l : List Bool). unmarked_from 0 l) (c.deref-3.ensures.value ∙ all) in
    count-all i.pins.items _ i.free.items _ _ i.gates.items i.drivers.items c.mark_linked.new.marks c.self.invariant (c.in_ok-from_slice.ensures.items ∙ c.deref-4.ensures.value) count mark free
    ∙ ap (λ (v : Pins). set.len v.taken + v.spare) c.self.view_is
