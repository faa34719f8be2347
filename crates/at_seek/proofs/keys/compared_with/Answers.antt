use Rattle.std.proofs.Common.{refl}
use Rattle.at_rules.specs.Bodies.{body_view}
use Rattle.at_seek.proofs.Tests.{told_backward, told_forward}
use Rattle.at_seek.proofs.keys.compared_with.Goals as goal

pub returns-then-is_argument : goal.returns-then-is_argument
returns-then-is_argument c =
    told_backward c.own_token.result (body_view c.args.one.now) (body_view c.args.other.now) (c.if-is_argument.ensures refl) c.own_token.ensures

pub returns-then-is_argument-2 : goal.returns-then-is_argument-2
returns-then-is_argument-2 c =
    told_forward c.own_token-then-is_argument-2.result (body_view c.args.one.now) (body_view c.args.other.now) (c.if-is_argument-2.ensures refl)
    c.own_token-then-is_argument-2.ensures
