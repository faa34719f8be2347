use Rattle.std.proofs.Common.{◌≡◌, ◌-◌, ap, arith, map, drop}
use Rattle.std.proofs.lemmas.List.{drop_all}
use Rattle.at_store.specs.Told.{kids_size, slots_size, size_told}
use Rattle.at_store.specs.View.{kept_view, memory_of}
use Rattle.at_store.proofs.Sized.{size_none, size_above}
use Rattle.at_store.proofs.marks.+size.Goals as goal

pub list_size-returns : goal.list_size-returns
list_size-returns t c =
    let f = size_told (memory_of c.args.slab.now) c.args.levels in
    let none : kids_size f (drop c.loop-kid.kid-index c.args.kids.now) ≡ 0 = ap (kids_size f) (drop_all c.loop-kid.kid-index c.args.kids.now c.loop-kid-test.false) in
    omega (arith, none, c.loop-kid.invariant.0, c.loop-kid.invariant.1)

pub size_at-returns-then-levels-eq0 : goal.size_at-returns-then-levels-eq0
size_at-returns-then-levels-eq0 t c = omega (arith, size_none (memory_of c.args.slab.now) c.args.levels c.args.node c.if-levels-eq0.true)

pub size_at-returns : goal.size_at-returns
size_at-returns t c =
    let memory = memory_of c.args.slab.now in
    let f = size_told memory (c.args.levels - 1) in
    let none : slots_size f (map kept_view (drop c.loop-slot.slot-index c.slots_at-slot-items.result.now)) ≡ 0 =
    ap (λ xs. slots_size f (map kept_view xs))
    (drop_all c.loop-slot.slot-index c.slots_at-slot-items.result.now c.loop-slot-test.false) in
    let whole = ap (slots_size f) c.slots_at-slot-items.ensures in
    omega (arith, none, whole, size_above memory c.args.levels c.args.node (omega (arith, c.if-levels-eq0.false)), c.loop-slot.invariant.0, c.loop-slot.invariant.1)
