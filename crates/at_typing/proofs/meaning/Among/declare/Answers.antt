use Rattle.std.proofs.Common.{◌∙◌, ap}
use Rattle.indexmap.specs.IndexMap.{insert_entry}
use Rattle.at_typing.specs.Seen.{same_key}
use Rattle.at_typing.proofs.meaning.Among.declare.Goals as goal

pub returns-clause-declared : goal.returns-clause-declared
returns-clause-declared c = (
  c.in_ok-class.attribute,
  c.in_ok-class.ensures,
  c.in_ok-put.ensures.entries ∙ ap (λ j. insert_entry same_key c.args.meant.now.attributes.entries (j, c.args.numbered.now.name) c.in_ok-class.attribute) c.index.ensures,
)
