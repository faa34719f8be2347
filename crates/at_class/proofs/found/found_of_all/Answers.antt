use Rattle.std.proofs.Common.{◌≡◌, arith, subst, length}
use Rattle.at_class.specs.View.{classes_view}
use Rattle.at_class.specs.Ways.{AreFound, IsFound}
use Rattle.at_class.proofs.Descents.{found_more, found_none}
use Rattle.at_class.proofs.found.found_of_all.Goals as goal

pub go_over-requires : goal.go_over-requires
go_over-requires c = (c.requires, c.in_ok-inspection.ensures (classes_view c.args.classes.now))

pub loop-position-init : goal.loop-position-init
loop-position-init c = (c.in_ok-go_over.ensures, found_none (classes_view c.args.classes.now) c.new-all.result.items c.new-all.ensures.items)

pub of-requires : goal.of-requires
of-requires c = (c.requires, c.loop-position.invariant.0)

pub loop-position-preserved : goal.loop-position-preserved
loop-position-preserved c = (
  c.in_ok-found.ensures.1,
  found_more (classes_view c.args.classes.now) c.loop-position.all.items c.push.new.self.items c.loop-position.position c.in_ok-found.found c.loop-position.invariant.1
      (subst (λ k. IsFound (classes_view c.args.classes.now) k c.in_ok-found.found) c.new-in-loop-position.ensures c.in_ok-found.ensures.0) c.in_ok-push.ensures.items,
)

pub returns : goal.returns
returns c =
    let n : c.loop-position.position ≡ length c.args.classes.now = omega arith in
    subst (AreFound (classes_view c.args.classes.now) c.loop-position.all.items) n c.loop-position.invariant.1
