use Rattle.std.proofs.Common.{◌∙◌, ◌+◌, sym, subst, arith, map, take, append-nil}
use Rattle.std.specs.Prelude.{◌++◌}
use Rattle.at_class.specs.Taken.{AreTaken, IsFirstBelow, is_taken_at}
use Rattle.at_class.specs.View.{part_view}
use Rattle.at_class.proofs.Taking.{all_gone_over, begins_on, begins_same, first_more, first_of_all, none_first, one_more, taken_here}
use Rattle.at_class.proofs.taken.TakenNames.take_all.Goals as goal

pub loop-i-init : goal.loop-i-init
loop-i-init c =
    let old = c.args.self.now in (
      (begins_same old.names.keys, begins_same old.accessors.keys),
      λ before k. (subst (λ ps. AreTaken ps old.names.keys old.accessors.keys) (sym (append-nil before)) k, none_first before (map part_view c.args.parts.now)),
    )

pub loop-i-preserved : goal.loop-i-preserved
loop-i-preserved c =
    let first = c.args.self.now in
    let old = c.loop-i.self in
    let new = c.take.new.self in
    let parts = c.args.parts.now in
    let i = c.loop-i.i in
    let p = c.index-parts-i.result in
    let so_far = c.loop-i.invariant in
    let one = c.in_ok-is_taken.ensures in (
      (
        begins_on first.names.keys old.names.keys new.names.keys so_far.0.0 one.0.0,
        begins_on first.accessors.keys old.accessors.keys new.accessors.keys so_far.0.1 one.0.1,
      ),
      λ before k.
          let w = so_far.1 before k in
          let o = one.1 (before ++ map part_view (take i parts)) w.0 in (
            subst (λ ps. AreTaken ps new.names.keys new.accessors.keys) (one_more before parts i p (omega arith) c.index-parts-i.is) o.0,
            subst (IsFirstBelow (is_taken_at before (map part_view parts)) (i + 1)) (sym c.or_this-twice.ensures)
                (first_more (is_taken_at before (map part_view parts)) i c.loop-i.twice c.in_ok-is_taken.is_taken (o.1 ∙ taken_here before parts i p (omega arith) c.index-parts-i.is) w.1),
          ),
    )

pub returns : goal.returns
returns c = (
  c.loop-i.invariant.0,
  λ before k.
      let w = c.loop-i.invariant.1 before k in (
        subst (λ ps. AreTaken ps c.loop-i.self.names.keys c.loop-i.self.accessors.keys) (all_gone_over before c.args.parts.now c.loop-i.i (omega arith)) w.0,
        first_of_all before c.args.parts.now c.loop-i.i c.loop-i.twice (omega arith) w.1,
      ),
)
