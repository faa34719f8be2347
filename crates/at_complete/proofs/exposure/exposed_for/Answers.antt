use Rattle.std.proofs.Common.{subst}
use Rattle.std.specs.Prelude.{true}
use Rattle.at_model.specs.Classes.{AreSound}
use Rattle.at_model.specs.Rules.{attribute_name}
use Rattle.at_complete.specs.Completing.{IsMarking}
use Rattle.at_complete.proofs.Exposing.{marked}
use Rattle.at_complete.proofs.exposure.exposed_for.Goals as goal

pub returns : goal.returns
returns c =
    let both = subst (λ k. AreSound k × IsMarking k c.in_ok-exposed.exposed c.in_ok-marked.marked) c.classes.ensures c.in_ok-marked.ensures in
    marked c.args.rules.now both.0 (attribute_name c.args.rules.now c.args.attribute) c.in_ok-exposed.exposed.met.items
    c.in_ok-marked.marked.met.items (λ x. true) (λ x. true) c.in_ok-exposed.ensures both.1
