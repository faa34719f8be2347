use Rattle.std.proofs.Common.{ap, sym, ◌∙◌}
use Rattle.std.specs.Prelude.{is_some}
use Rattle.at_model.specs.Rules.{attribute_name}
use Rattle.at_complete.specs.Completing.{walk_for}
use Rattle.at_complete.proofs.Attributes.{meets_more}
use Rattle.at_complete.proofs.exposure.note_exposed.Goals as goal

pub returns-then-contains_key : goal.returns-then-contains_key
returns-then-contains_key c = (ap (λ n. is_some (walk_for n c.args.exposed.now)) (sym c.name_of-name.ensures) ∙ sym c.contains_key.ensures ∙ c.if-contains_key.true, c.requires.1)

pub returns : goal.returns
returns c =
    let rules = c.args.rules.now in
    let name = c.name_of-name.ensures in (
      ap (λ n. is_some (walk_for n c.insert.new.self)) (sym name) ∙ ap is_some c.in_ok-insert.ensures.updates.1,
      meets_more rules c.name_of-name.result (attribute_name rules c.args.attribute) c.args.exposed.now
          c.insert.new.self c.in_ok-classes.classes name c.in_ok-insert.ensures.updates.0 c.in_ok-classes.ensures
          c.requires.1,
    )
