use Rattle.std.proofs.Common.{arith, ◌∙◌, length}
use Rattle.std.specs.Prelude.{nat_eq}
use Rattle.std.specs.List.{list_any}
use Rattle.at_complete.specs.Hierarchies.{listed_at}
use Rattle.at_complete.proofs.Children.{listed_next, none_listed, listed_all, parent_there}
use Rattle.at_complete.proofs.hierarchy.Hierarchy.of.Goals as goal

pub loop-position-init : goal.loop-position-init
loop-position-init c = record {
  count = c.in_ok-below.ensures.count ∙ c.len-count.ensures.len;
  listed = λ x d. none_listed c.args.classes.now x d (listed_at c.in_ok-below.below.items x) (c.in_ok-below.ensures.empty x);
}

pub loop-position-preserved : goal.loop-position-preserved
loop-position-preserved c = record {
  count = c.in_ok-list_below.ensures.count ∙ c.loop-position.invariant.count;
  listed = listed_next c.args.classes.now c.loop-position.position c.new-class.result c.parent.result
      (λ x d. list_any (nat_eq d) (listed_at c.loop-position.below.items x))
      (λ x d. list_any (nat_eq d) (listed_at c.list_below.new.below.items x))
      c.new-class.ensures c.parent.ensures.found c.loop-position.invariant.listed c.in_ok-list_below.ensures.listed;
}

pub list_below-requires : goal.list_below-requires
list_below-requires c = parent_there c.args.classes.now c.len-count.ensures.sound c.new-class.result
    (length c.loop-position.below.items) c.parent.result c.parent.ensures.found c.loop-position.invariant.count

pub returns : goal.returns
returns c =
    listed_all c.args.classes.now c.loop-position.position
    (λ x d. list_any (nat_eq d) (listed_at c.loop-position.below.items x)) (omega (
      arith,
      c.len-count.ensures.len,
      c.loop-position-test.false,
      c.loop-position.auto,
    )) c.loop-position.invariant.listed
