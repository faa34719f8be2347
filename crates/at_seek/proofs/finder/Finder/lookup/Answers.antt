use Rattle.std.proofs.Common.{◌≡◌, refl}
use Rattle.at_model.specs.Bodies.{Exists, First}
use Rattle.at_rules.specs.Bodies.{body_view}
use Rattle.at_seek.specs.Finding.{kinds_in}
use Rattle.at_seek.proofs.Found.{may_any, may_first}
use Rattle.at_seek.proofs.finder.Finder.lookup.Goals as goal

pub returns-in-Exists : goal.returns-in-Exists
returns-in-Exists c = λ rules h over.
    let list = body_view c.deref.result.now in
    let test = body_view c.deref-in-Exists.result.now in
    let view : body_view c.args.body.now ≡ Exists list c.in-Exists.part test = rw (c.in-Exists.is, ← c.deref.ensures, ← c.deref-in-Exists.ensures) refl in
    may_any rules (kinds_in c.args.scope.now h) h c.lookup_in.result _ list test c.in-Exists.part view (c.lookup_in.ensures rules h over)

pub returns-in-First : goal.returns-in-First
returns-in-First c = λ rules h over.
    let list = body_view c.deref-in-First.result.now in
    let test = body_view c.deref-in-First-2.result.now in
    let view : body_view c.args.body.now ≡ First list c.in-First.part test = rw (c.in-First.is, ← c.deref-in-First.ensures, ← c.deref-in-First-2.ensures) refl in
    may_first rules (kinds_in c.args.scope.now h) h c.lookup_in-in-First.result _ list test c.in-First.part view (c.lookup_in-in-First.ensures rules h over)
