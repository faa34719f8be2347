use Rattle.std.proofs.Common.{◌∙◌, ap}
use Rattle.indexmap.specs.IndexMap.{insert_entry}
use Rattle.at_typing.specs.Seen.{same_place}
use Rattle.at_typing.proofs.meaning.Among.add_inherited.Goals as goal

pub returns-clause-added : goal.returns-clause-added
returns-clause-added c = (
  (_, c.in_ok-body.body),
  c.in_ok-body.ensures,
  c.in_ok-put.ensures.entries ∙ ap (λ j. insert_entry same_place c.args.meant.now.inherited.entries (j, c.args.part, c.args.numbered.now.name) c.in_ok-body.body) c.index.ensures,
)
