use Rattle.std.proofs.Common.{sym, ◌∙◌}
use Rattle.at_java.proofs.Fronts.{none_left, one_left, shorter, import_goes_on, import_begins, imports_end, imports_at_end}
use Rattle.at_java.proofs.reader.Reader.takes_import.Goals as goal

pub returns-in_default : goal.returns-in_default
returns-in_default c = imports_at_end c.args.within _ (none_left c.args.self.now.cursor.rest.now c.in_default.len_below)

pub returns-then-within : goal.returns-then-within
returns-then-within c =
    let r = one_left c.args.self.now.cursor.rest.now _ c.in-len1-up.len_at_least in
    (import_goes_on c.args.within c.is_sign.result _ _ _ r c.if-within.true c.is_sign.ensures.value, shorter _ _ _ r)

pub returns-then-is_word : goal.returns-then-is_word
returns-then-is_word c =
    let r = one_left c.args.self.now.cursor.rest.now _ c.in-len1-up.len_at_least in
    (import_begins c.args.within _ _ _ r c.if-within.false (sym c.is_word.ensures.value ∙ c.if-is_word.true), shorter _ _ _ r)

pub returns : goal.returns
returns c =
    let r = one_left c.args.self.now.cursor.rest.now _ c.in-len1-up.len_at_least in
    imports_end c.args.within _ _ _ r c.if-within.false (sym c.is_word.ensures.value ∙ c.if-is_word.false)
