use Rattle.std.proofs.Common.{◌≡◌, refl, sym, ◌∙◌}
use Rattle.at_model.specs.Bodies.{And}
use Rattle.at_rules.specs.Bodies.{body_view}
use Rattle.at_seek.specs.Finding.{kinds_in}
use Rattle.at_seek.proofs.Found.{begins_and, call_told, same_begins}
use Rattle.at_seek.proofs.finder.Finder.+begins.Goals as goal

pub returns-in-And : goal.returns-in-And
returns-in-And t c = λ rules h over.
    let s = kinds_in c.args.scope.now h in
    let e = body_view c.deref.result.now in
    let f = body_view c.in-And.field-1.value in
    let view : body_view c.args.test.now ≡ And e f = rw (c.in-And.is, ← c.deref.ensures) refl in
    same_begins rules s c.args.element c.begins.result _ _ view (begins_and rules s c.args.element e f c.begins.result (c.begins.ensures rules h over))

pub returns-in-Call : goal.returns-in-Call
returns-in-Call t c = λ rules h over.
    let s = kinds_in c.args.scope.now h in
    let view = call_told _ _ _ _ _ _ c.in-Call.is c.deref-in-Call.ensures c.deref-in-Call-2.ensures.value in
    same_begins rules s c.args.element c.asks.result _ _ view (c.asks.ensures rules h over)
