use Rattle.at_rules.specs.Bodies.{body_view}
use Rattle.at_seek.specs.Finding.{kinds_in}
use Rattle.at_seek.proofs.Found.{elements_of}
use Rattle.at_seek.proofs.finder.Finder.element.Goals as goal

pub returns : goal.returns
returns c = λ rules h over.
    elements_of rules c.args.self.now (kinds_in c.args.scope.now h) (body_view c.args.list.now) c.element_of.result c.in_ok-class.class c.args.part over
    c.element_of.ensures (c.in_ok-class.ensures rules h over)
