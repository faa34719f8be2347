use Rattle.std.proofs.Common.{ℕ, List, ap, position, ◌∙◌}
use Rattle.at_jrag.specs.Syntax.{KindWord}
use Rattle.at_typing.specs.Ruling.{names_class, words_view}
use Rattle.at_typing.proofs.written.first_named.Goals as goal

pub returns-in-Class : goal.returns-in-Class
returns-in-Class c =
    rw c.in-Class.is
    (c.attribute_at.ensures ∙ c.position_of.ensures ∙ ap (λ (text : List ℕ). position (λ (w : KindWord). names_class text w.kind) (words_view c.args.words.now)) c.as_str.ensures.value)
