use Rattle.std.proofs.Common.{List, subst, sym}
use Rattle.at_model.specs.Rules.{Attribute}
use Rattle.at_model.specs.of_fixpoints.FormKinds.{AreBoolean}
use Rattle.at_rules.specs.Circular.{AreCircularLazy}
use Rattle.at_seek.proofs.EquationsKept.{well_formed}
use Rattle.at_start.proofs.searches.served.Goals as goal

-- both are said of the attributes, which are the same
pub returns-then-index-clause-circular : goal.returns-then-index-clause-circular
returns-then-index-clause-circular c =
    let also = c.sought.result in
    let same = sym c.sought.ensures.sought.attributes in record {
      lazy = subst (λ (as' : List Attribute). AreCircularLazy (record also { attributes = as' })) same c.requires.circular.lazy;
      boolean = subst (λ (as' : List Attribute). AreBoolean (record also { attributes = as' })) same c.requires.circular.boolean;
    }

pub returns-then-index-clause-well_formed : goal.returns-then-index-clause-well_formed
returns-then-index-clause-well_formed c =
    well_formed c.args.rules c.sought.result c.sought.ensures.sought c.requires.well_formed
