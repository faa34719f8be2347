use Rattle.std.proofs.lemmas.Result.{err_from_is_err_and}
use Rattle.at_jrag.specs.View.{kind_word_view, word_view}
use Rattle.at_typing.specs.Numbering.{numbered_view}
use Rattle.at_typing.proofs.Adding.{attribute_fault}
use Rattle.at_typing.proofs.meaning.Among.attribute.Goals as goal

pub returns-in_err-class : goal.returns-in_err-class
returns-in_err-class c =
    let p = err_from_is_err_and c.from_residual-in_err-class.result c.from_residual-in_err-class.ensures.1 in
    rw (p.1, p.2) (attribute_fault c.args.self.now.arguments c.args.self.now.classes.now
    (numbered_view c.args.numbered.now)
    (kind_word_view c.args.kind.now) c.in_ok-result.result (word_view c.class_word.result.now)
    c.in_err-class.field-0.0 c.in_ok-result.ensures c.class_word.ensures c.in_err-class.ensures)
