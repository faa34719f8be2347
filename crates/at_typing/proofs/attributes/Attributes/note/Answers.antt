use Rattle.std.proofs.Common.{refl, sym, ◌∙◌}
use Rattle.std.proofs.lemmas.Result.{on_ok_weaker}
use Rattle.at_typing.proofs.Keys.{notes_inherited, notes_of_class, notes_of_word}
use Rattle.at_typing.proofs.attributes.Attributes.note.Goals as goal

pub returns-then-is_inherited : goal.returns-then-is_inherited
returns-then-is_inherited c =
    on_ok_weaker c.note.result (λ noted. notes_inherited c.args.numbered.now c.args.attribute c.args.self.now
    _ (sym c.is_inherited.ensures ∙ c.if-is_inherited.true) refl refl noted) c.note.ensures.noted

pub returns-in-Known : goal.returns-in-Known
returns-in-Known c =
    on_ok_weaker c.note-in-Known.result (λ noted. notes_of_class c.args.numbered.now c.args.attribute c.args.self.now
    _ c.in-Known.class (sym c.is_inherited.ensures ∙ c.if-is_inherited.false) c.in-Known.is noted refl refl)
    c.note-in-Known.ensures.noted

pub returns-in-Unknown : goal.returns-in-Unknown
returns-in-Unknown c =
    on_ok_weaker c.note-in-Unknown.result (λ noted. notes_of_word c.args.numbered.now c.args.attribute c.args.self.now
    _ c.in-Unknown.word (sym c.is_inherited.ensures ∙ c.if-is_inherited.false) c.in-Unknown.is noted refl refl)
    c.note-in-Unknown.ensures.noted
