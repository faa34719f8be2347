use Rattle.std.proofs.Common.{◌∙◌, refl, sym, codes}
use Rattle.at_text.specs.Symbols.{placed}
use Rattle.at_jrag.proofs.SoundTokens.{word_is, fold_by}
use Rattle.at_jrag.proofs.reader.operators.fold_of.Goals as goal

pub returns-then-is_word : goal.returns-then-is_word
returns-then-is_word c =
    let t = placed c.args.token.now in
    let first = sym c.is_word.ensures.value ∙ c.if-is_word.true in
    (word_is (codes "exists") t first, fold_by t first refl refl)

pub returns-then-is_word-2 : goal.returns-then-is_word-2
returns-then-is_word-2 c =
    let t = placed c.args.token.now in
    let first = sym c.is_word.ensures.value ∙ c.if-is_word.false in
    let second = sym c.is_word-else-is_word.ensures.value ∙ c.if-is_word-2.true in
    (word_is (codes "first") t second, fold_by t first second refl)

pub returns-then-is_word-3 : goal.returns-then-is_word-3
returns-then-is_word-3 c =
    let t = placed c.args.token.now in
    let first = sym c.is_word.ensures.value ∙ c.if-is_word.false in
    let second = sym c.is_word-else-is_word.ensures.value ∙ c.if-is_word-2.false in
    let third = sym c.is_word-else-is_word-2.ensures.value ∙ c.if-is_word-3.true in
    (word_is (codes "sum") t third, fold_by t first second third)

pub returns-else-is_word-3 : goal.returns-else-is_word-3
returns-else-is_word-3 c =
    let t = placed c.args.token.now in
    let first = sym c.is_word.ensures.value ∙ c.if-is_word.false in
    let second = sym c.is_word-else-is_word.ensures.value ∙ c.if-is_word-2.false in
    fold_by t first second (sym c.is_word-else-is_word-2.ensures.value ∙ c.if-is_word-3.false)
