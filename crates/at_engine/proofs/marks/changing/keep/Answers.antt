use Rattle.std.proofs.Common.{◌∙◌, ap, is_some, rules}
use Rattle.indexmap.proofs.CallerLemmas.{filter-RetainsPairs}
use Rattle.at_store.specs.Shown.{path}
use Rattle.at_engine.specs.Marks.{listed}
use Rattle.at_engine.proofs.of_marks.Keys.{listed_live}
use Rattle.at_engine.proofs.marks.changing.keep.Goals as goal

pub returns : goal.returns
returns c =
    let look = path c.args.there.now.store.now in
    ap listed (filter-RetainsPairs _ (λ e. is_some (look e.1)) _ (λ k v b w f' t. (search rules, search rules, search rules)) _ _ c.retain.ensures.filtered) ∙ listed_live look c.args.items.now.entries
