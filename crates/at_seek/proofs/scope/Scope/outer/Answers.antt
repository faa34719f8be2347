use Rattle.std.proofs.Common.{◌≡◌, ◌-◌, suc, arith, refl}
use Rattle.at_rules.specs.Bodies.{kind_view}
use Rattle.at_seek.specs.Finding.{kinds_in}
use Rattle.at_seek.proofs.Tests.{outer_text}
use Rattle.at_seek.proofs.scope.Scope.outer.Goals as goal

pub returns-then-is_text_kind : goal.returns-then-is_text_kind
returns-then-is_text_kind c = λ h.
    let is : c.args.name ≡ suc (c.args.name - 1) = omega (arith, c.if-name-eq0.false) in
    outer_text (kinds_in c.args.self.now h) c.args.name (c.args.name - 1) (kind_view c.in_ok-kind.kind) is (c.in_ok-kind.ensures h) (c.is_text_kind.ensures c.if-is_text_kind.true)
