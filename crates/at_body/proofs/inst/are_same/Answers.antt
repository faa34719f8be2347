use Rattle.std.proofs.Common.{refl}
use Rattle.at_body.proofs.inst.are_same.Goals as goal

pub returns-then-are_none : goal.returns-then-are_none
returns-then-are_none c =
    rw (c.are_none.ensures.passed c.if-are_none.true, c.are_none.ensures.others c.if-are_none.true) refl
