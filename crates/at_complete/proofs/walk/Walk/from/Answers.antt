use Rattle.std.proofs.Common.{subst, []}
use Rattle.std.specs.Prelude.{nat_eq}
use Rattle.at_complete.specs.Walks.{Meets}
use Rattle.at_complete.proofs.walk.Walk.from.Goals as goal

pub returns : goal.returns
returns c =
    subst (λ ms. Meets (λ d. nat_eq d c.args.class) ms c.meet.new.self.met.items [] c.meet.new.self.pending.items) c.in_ok-walk.ensures.met
    (subst (λ ps. Meets (λ d. nat_eq d c.args.class) c.in_ok-walk.walk.met.items c.meet.new.self.met.items ps c.meet.new.self.pending.items) c.in_ok-walk.ensures.pending c.in_ok-meet.ensures)
