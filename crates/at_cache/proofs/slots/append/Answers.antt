use Rattle.at_cache.proofs.Common.{◌∙◌, same_instance}
use Rattle.indexmap.proofs.MapLemmas.{absent_from_lookup, insert_entry-absent}
use Rattle.at_cache.proofs.slots.append.Goals as goal

pub returns-in-Ok-clause-entries : goal.returns-in-Ok-clause-entries
returns-in-Ok-clause-entries c = c.in-Ok.ensures.entries ∙ insert_entry-absent same_instance c.args.instance c.args.entry c.args.entries.now.entries (absent_from_lookup (same_instance c.args.instance) c.args.entries.now.entries c.requires)
