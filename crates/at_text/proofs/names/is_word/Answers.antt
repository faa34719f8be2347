use Rattle.std.proofs.Common.{rules, tests, ◌≡◌, true, sym, ◌∙◌, ◌++◌}
use Rattle.std.specs.Prelude.{encode_utf8}
use Rattle.std.proofs.lemmas.Str.{chars_past_char, IsUtf8-past_char}
use Rattle.std.proofs.lemmas.Iterator.{YieldsList-from_chars}
use Rattle.std.proofs.lemmas.Iterator.Search.{all_from_yields_List}
use Rattle.at_model.specs.Names.{starts_name, continues_name}
use Rattle.at_text.proofs.names.is_word.Goals as goal

pub returns-then-starts_name : goal.returns-then-starts_name
returns-then-starts_name c =
    let text = c.args.text.now in
    let rest = c.next.new.self.rest.now in
    let split : text ≡ encode_utf8 c.in-Some.c ++ rest = sym c.chars-chars.ensures.rest ∙ c.in-Some.ensures.steps.0 in
    let starts : starts_name c.in-Some.c ≡ true = sym c.starts_name.ensures ∙ c.if-starts_name.true in
    let all = all_from_yields_List continues_name _ _ c.all.result c.all.ensures.ran (YieldsList-from_chars rest
    (IsUtf8-past_char text rest _ c.utf8.text split) (cc)) (λ x b q k. search (rules, tests)) in
    rw (chars_past_char text rest _ c.utf8.text split, starts) all
