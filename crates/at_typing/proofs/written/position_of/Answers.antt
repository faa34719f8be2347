use Rattle.std.proofs.Common.{◌∙◌, sym}
use Rattle.std.specs.Borrow.{Bor}
use Rattle.at_class.proofs.Named.{position-map}
use Rattle.at_jrag.specs.Syntax.{KindWord}
use Rattle.at_jrag.specs.View.{kind_word_view}
use Rattle.at_jrag.specs.declared.syntax.KindWord.{KindWord as KindWordValue}
use Rattle.at_typing.specs.Ruling.{names_class}
use Rattle.at_typing.proofs.written.position_of.Goals as goal

pub returns : goal.returns
returns c = c.position_named.ensures ∙ sym (position-map (λ (w : KindWord). names_class c.args.name.now w.kind) (λ (w : Bor KindWordValue). kind_word_view w.now) c.args.words.now)
