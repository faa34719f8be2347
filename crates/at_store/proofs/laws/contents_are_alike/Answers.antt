use Rattle.std.proofs.Common.{sym, subst}
use Rattle.at_model.specs.Trees.{Tree}
use Rattle.at_model.specs.Meaning.{content}
use Rattle.at_model.specs.Alike.{AlikeAt, Names}
use Rattle.at_store.specs.Numbers.{contents, path_in}
use Rattle.at_store.proofs.Relabelled.{contents_alike}
use Rattle.at_store.proofs.laws.contents_are_alike.Goals as goal

pub returns : goal.returns
returns c = λ numbers tree class apart same l. subst (λ (t : Tree). AlikeAt (Names (λ k. path_in k numbers)) (contents numbers t) (content t) l) (sym same) (contents_alike class numbers apart l)
