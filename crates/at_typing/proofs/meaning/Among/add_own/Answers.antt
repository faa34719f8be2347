use Rattle.std.proofs.Common.{◌∙◌, ap₂}
use Rattle.indexmap.specs.IndexMap.{insert_entry}
use Rattle.at_typing.specs.Seen.{same_key}
use Rattle.at_typing.proofs.meaning.Among.add_own.Goals as goal

pub returns-clause-added : goal.returns-clause-added
returns-clause-added c = (
  (c.in_ok-attribute.attribute, c.in_ok-attribute.body),
  c.in_ok-attribute.ensures,
  c.in_ok-put.ensures.entries ∙ ap₂ (λ j k. insert_entry same_key c.args.meant.now.own.entries (j, k) c.in_ok-attribute.body) c.index.ensures c.index-2.ensures,
)
