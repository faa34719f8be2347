use Rattle.std.proofs.Common.{refl}
use Rattle.at_body.proofs.SamenessLemmas.{same_behind}
use Rattle.at_body.proofs.inst.InstPartialEq.eq.Goals as goal

pub returns : goal.returns
returns c = same_behind c.args.self.now c.args.other.now c.self.inside.arguments c.other.inside.arguments c.are_same.ensures
    (rw (← c.self.view_is, ← c.other.view_is) c.if-ne.ensures) (rw (← c.self.view_is, ← c.other.view_is) c.if-ne-2.ensures)
    (rw (← c.self.view_is) refl) (rw (← c.other.view_is) refl)
