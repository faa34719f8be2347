use Rattle.at_seek.specs.Finding.{kinds_in}
use Rattle.at_seek.proofs.Found.{name_kind}
use Rattle.at_seek.proofs.scope.Scope.class_named.Goals as goal

pub returns : goal.returns
returns c = λ rules h.
    name_kind rules (kinds_in c.args.self.now h) c.args.name _ c.class_in.result (c.in_ok-kind.ensures h) c.class_in.ensures
