use Rattle.std.proofs.Common.{rules, is_some}
use Rattle.std.proofs.lemmas.Fn.{filter_same}
use Rattle.at_store.specs.Shown.{path}
use Rattle.at_engine.proofs.marks.noted.Noted.keep_live.Goals as goal

pub returns : goal.returns
returns c = filter_same _ (λ m. is_some (path c.args.there.now.store.now m.node)) _ (λ m b f' k. search rules) _ _ c.retain.ensures.filtered
