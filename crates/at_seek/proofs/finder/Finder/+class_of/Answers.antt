use Rattle.std.proofs.Common.{◌≡◌, IfSome, ap, refl, subst, sym, ◌∙◌}
use Rattle.at_model.specs.Bodies.{Call, CastTo, Child, Name, This}
use Rattle.at_model.specs.Kinds.{HasKind}
use Rattle.at_model.specs.Kinds as has
use Rattle.at_model.specs.Rules.{Class}
use Rattle.at_rules.specs.Bodies.{bodies_view, body_view}
use Rattle.at_seek.specs.Finding.{kinds_in}
use Rattle.at_seek.proofs.Found.{call_told, same_kind}
use Rattle.at_seek.proofs.finder.Finder.+class_of.Goals as goal

pub returns-in-This : goal.returns-in-This
returns-in-This t c = λ rules h over.
    let view : This ≡ body_view c.args.body.now = rw c.in-This.is refl in
    subst (λ e. HasKind rules (kinds_in c.args.scope.now h) e (Class c.args.scope.now.this)) view has.this

pub returns-in-Name : goal.returns-in-Name
returns-in-Name t c = λ rules h over.
    let view : body_view c.args.body.now ≡ Name c.in-Name.name = rw c.in-Name.is refl in
    same_kind rules (kinds_in c.args.scope.now h) c.class_named.result _ _ view (c.class_named.ensures rules h)

pub returns-in_ok-class-in-Child : goal.returns-in_ok-class-in-Child
returns-in_ok-class-in-Child t c = λ rules h over.
    let s = kinds_in c.args.scope.now h in
    let e = body_view c.deref.result.now in
    let view : body_view c.args.body.now ≡ Child e c.in-Child.part = rw (c.in-Child.is, ← c.deref.ensures) refl in
    same_kind rules s c.child.result _ _ view (c.child.ensures rules s e over (c.in_ok-class-in-Child.ensures rules h over))

pub returns-in_ok-class-in-CastTo : goal.returns-in_ok-class-in-CastTo
returns-in_ok-class-in-CastTo t c = λ rules h over.
    let s = kinds_in c.args.scope.now h in
    let e = body_view c.deref-in-CastTo.result.now in
    let view : body_view c.args.body.now ≡ CastTo c.in-CastTo.target e = rw (c.in-CastTo.is, ← c.deref-in-CastTo.ensures) refl in
    same_kind rules s c.cast.result _ _ view (c.cast.ensures rules s e over (c.in_ok-class-in-CastTo.ensures rules h over))

pub returns-in_ok-class-in-Call : goal.returns-in_ok-class-in-Call
returns-in_ok-class-in-Call t c = λ rules h over.
    let s = kinds_in c.args.scope.now h in
    let e = body_view c.deref-in-Call.result.now in
    let view = call_told _ _ _ _ _ _ c.in-Call.is c.deref-in-Call.ensures c.deref-in-Call-2.ensures.value in
    same_kind rules s c.asked.result _ _ view (c.asked.ensures rules s e over (c.in_ok-class-in-Call.ensures rules h over))
