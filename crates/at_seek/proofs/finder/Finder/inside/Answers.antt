use Rattle.at_rules.specs.Bodies.{body_view}
use Rattle.at_seek.specs.Finding.{kinds_in}
use Rattle.at_seek.proofs.Found.{is_inside}
use Rattle.at_seek.proofs.finder.Finder.inside.Goals as goal

pub returns : goal.returns
returns c = λ rules h over.
    is_inside rules (kinds_in c.args.scope.now h) h (body_view c.args.list.now) c.args.part c.in_ok-element.element c.within.result
    (c.in_ok-element.ensures rules h over) (c.within.ensures h)
