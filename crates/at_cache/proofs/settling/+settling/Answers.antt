use Rattle.at_cache.proofs.Common.{ap, is_some, subst, sym, take_all, ◌∙◌, true≢false, same_Some, value_view, Standing, Info, memory_of, AreTaken, instances_in, kept_held, trace_of, AreAllKept, none_in}
use Rattle.at_cache.proofs.of_cut.Goes.{goes_at, goes_none, goes_then, has_shown, is_on, is_pair, links_taken, trace_slot, value_kept, value_slot}
use Rattle.at_cache.proofs.settling.+settling.Goals as goal

pub settle_all-loop-slot-init : goal.settle_all-loop-slot-init
settle_all-loop-slot-init t c lists whole taken i trace traced uses =
    (goes_none lists c.args.entries.now i _ _ whole, λ u h. absurd (none_in u h))

pub settle_all-returns-then-not-settle_at : goal.settle_all-returns-then-not-settle_at
settle_all-returns-then-not-settle_at t c lists whole taken i trace traced uses =
    let before = c.loop-slot.invariant lists whole taken i trace traced uses in
    let (goes, more) = goes_at lists c.args.entries.now c.args.slots.now c.loop-slot.slot-index i _ _ _ _ _ _ trace
    c.loop-slot-test.true taken traced uses
    before c.settle_at.result (c.settle_at.ensures lists before.0.whole) in
    (goes, λ h. absurd (true≢false (sym h)))

pub settle_all-loop-slot-preserved : goal.settle_all-loop-slot-preserved
settle_all-loop-slot-preserved t c lists whole taken i trace traced uses =
    let before = c.loop-slot.invariant lists whole taken i trace traced uses in
    let (goes, more) = goes_at lists c.args.entries.now c.args.slots.now c.loop-slot.slot-index i _ _ _ _ _ _ trace
    c.loop-slot-test.true taken traced uses
    before c.settle_at.result (c.settle_at.ensures lists before.0.whole) in
    (goes, more c.if-not-settle_at.false)

pub settle_all-returns : goal.settle_all-returns
settle_all-returns t c lists whole taken i trace traced uses =
    let (goes, all) = c.loop-slot.invariant lists whole taken i trace traced uses in (
      goes,
      λ h. subst (λ ps. AreAllKept (kept_held lists c.args.entries.now c.loop-slot.standings.items c.loop-slot.counts.puts)
          (instances_in (memory_of c.args.entries.now) ps))
          (take_all c.loop-slot.slot-index c.args.slots.now c.loop-slot-test.false) all,
    )

pub settle_below-returns-then-standing : goal.settle_below-returns-then-standing
settle_below-returns-then-standing t c lists whole e there = (
  goes_none lists c.args.entries.now e.instance _ _ whole,
  λ h. value_kept lists c.args.entries.now c.args.standings.now.items c.args.counts.now.puts c.args.slot e there
      (ap (λ (z : Standing). z.holds) (sym (rw c.as_slice.ensures.value at c.standing_at-standing.ensures)) ∙ c.if-standing.true)
      (ap (λ (y : Info). is_some y.value) (sym (is_pair c.args.entries.now c.args.slot e _ c.in-Some.ensures there))
      ∙ has_shown value_view c.in-Some.entry.now.value
      ∙ sym c.is_some.ensures
      ∙ h),
)

pub settle_below-returns-then-not-standing : goal.settle_below-returns-then-not-standing
settle_below-returns-then-not-standing t c lists whole e there =
    (goes_none lists c.args.entries.now e.instance _ _ whole, λ h. absurd (true≢false (sym h)))

pub settle_below-returns-then-not-settle_all : goal.settle_below-returns-then-not-settle_all
settle_below-returns-then-not-settle_all t c lists whole e there =
    let m = memory_of c.args.entries.now in
    let traced = ap (λ (z : Standing). z.traced) (sym (rw c.as_slice.ensures.value at c.standing_at-standing.ensures))
    ∙ is_on c.standing_at-standing.result.traced c.if-not-standing.false in
    let (v, valued) = value_slot lists c.args.entries.now c.args.standings.now.items c.args.counts.now c.args.slot e whole
    there traced in
    let same = c.as_slice-2.ensures ∙ ap (λ (y : Info). y.links)
    (is_pair c.args.entries.now c.args.slot e _ c.in-Some.ensures there) in
    let taken = subst (AreTaken m) (sym same) (links_taken lists c.args.entries.now c.args.standings.now.items
    c.args.counts.now.puts c.args.slot e whole.tied there traced) in
    let (goes, all) = c.settle_all.ensures lists whole taken e.instance (trace_of lists m c.args.slot e v)
    (trace_slot lists c.args.entries.now c.args.standings.now.items c.args.slot e v there traced valued)
    (ap (instances_in m) (sym same)) in
    (goes, λ h. absurd (true≢false (sym h)))

pub settle_below-returns : goal.settle_below-returns
settle_below-returns t c lists whole e there =
    let m = memory_of c.args.entries.now in
    let traced = ap (λ (z : Standing). z.traced) (sym (rw c.as_slice.ensures.value at c.standing_at-standing.ensures))
    ∙ is_on c.standing_at-standing.result.traced c.if-not-standing.false in
    let (v, valued) = value_slot lists c.args.entries.now c.args.standings.now.items c.args.counts.now c.args.slot e whole
    there traced in
    let same = c.as_slice-2.ensures ∙ ap (λ (y : Info). y.links)
    (is_pair c.args.entries.now c.args.slot e _ c.in-Some.ensures there) in
    let taken = subst (AreTaken m) (sym same) (links_taken lists c.args.entries.now c.args.standings.now.items
    c.args.counts.now.puts c.args.slot e whole.tied there traced) in
    let (goes, all) = c.settle_all.ensures lists whole taken e.instance (trace_of lists m c.args.slot e v)
    (trace_slot lists c.args.entries.now c.args.standings.now.items c.args.slot e v there traced valued)
    (ap (instances_in m) (sym same)) in
    let kept = all c.if-not-settle_all.false in
    let (again, value) = c.keep_again.ensures lists goes.whole (
      goes.traced c.args.slot ∙ traced,
      λ f in_f. subst (λ ps. AreAllKept (kept_held lists c.args.entries.now c.settle_all.new.standings.items
          c.settle_all.new.counts.puts) (instances_in m ps))
          (same ∙ ap (λ (y : Info). y.links) (same_Some e f (sym there ∙ in_f))) kept,
    ) e there in
    (goes_then lists c.args.entries.now e.instance _ _ _ _ _ _ goes again, value)

pub settle_at-returns-then-is_verified : goal.settle_at-returns-then-is_verified
settle_at-returns-then-is_verified t c lists whole e there =
    let same = sym (rw c.as_slice.ensures.value at c.standing_at.ensures) in (
      goes_none lists c.args.entries.now e.instance _ _ whole,
      λ h. value_kept lists c.args.entries.now c.args.standings.now.items c.args.counts.now.puts c.args.slot e there
          (ap (λ (z : Standing). z.holds) same ∙ c.is_verified.ensures.holds c.if-is_verified.true)
          (whole.valued c.args.slot e there (ap (λ (z : Standing). z.traced) same
          ∙ c.is_verified.ensures.traced c.if-is_verified.true)),
    )

pub settle_at-returns : goal.settle_at-returns
settle_at-returns t c = c.settle_below.ensures
