use Rattle.at_rules.specs.Bodies.{body_view}
use Rattle.at_rules.specs.declared.body.Lookup.{Lookup}
use Rattle.at_seek.specs.Finding.{kinds_in}
use Rattle.at_seek.proofs.Found.{may_in}
use Rattle.at_seek.proofs.finder.Finder.lookup_in.Goals as goal

pub returns : goal.returns
returns c = λ rules h over.
    let l : Lookup = record { part = c.in_ok-place.place; key = c.in_ok-found.found.0; sought = c.in_ok-found.found.1 } in
    may_in rules (kinds_in c.args.scope.now h) (kinds_in c.in_ok-inside.inside h) c.in_ok-lookup.lookup.value l (body_view c.args.list.now) (body_view c.args.test.now)
    c.args.part c.in_ok-element.element c.in_ok-lookup.ensures (c.in_ok-element.ensures rules h over) (c.in_ok-inside.ensures h) c.in_ok-place.ensures
    (c.in_ok-found.ensures rules h over)
