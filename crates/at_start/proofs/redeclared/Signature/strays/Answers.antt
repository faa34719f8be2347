use Rattle.std.proofs.Common.{◌∙◌, sym}
use Rattle.at_start.proofs.Rereading.{none_strays, not_some}
use Rattle.at_start.proofs.redeclared.Signature.strays.Goals as goal

pub returns-then-not-has_superclass : goal.returns-then-not-has_superclass
returns-then-not-has_superclass c =
    sym (none_strays c.args.classes.now c.args.self.now c.args.among.now (not_some (sym c.has_superclass.ensures
    ∙ c.if-not-has_superclass.true)))
