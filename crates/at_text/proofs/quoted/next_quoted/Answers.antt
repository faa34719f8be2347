use Rattle.std.proofs.Common.{◌≡◌, ◌∙◌, ap, refl, arith, lit<, ◌∷◌}
use Rattle.std.specs.Str.Iter.{chars_rest}
use Rattle.std.proofs.lemmas.Str.{encode_ascii}
use Rattle.at_text.proofs.Spelling.{front_ends}
use Rattle.at_text.proofs.Characters.{no_escape, raw, plain}
use Rattle.at_text.proofs.quoted.next_quoted.Goals as goal
use Rattle.at_model.proofs.of_texts.QuotedTexts.{front}

pub returns-in_default-clause-form : goal.returns-in_default-clause-form
returns-in_default-clause-form c = λ value ends.
    let start : chars_rest c.args.chars.now ≡ 92 ∷ chars_rest c.next.new.self = c.in-Some-eq92.ensures.steps.0 ∙ rw (c.in-Some-eq92.field-0-test, encode_ascii 92 (lit< tt)) refl in
    front_ends _ value ends (ap front start ∙ no_escape _ _ _ c.in_default.ensures.steps.0 (λ e. omega arith) (λ e. omega arith) (λ e. omega arith) (λ e. omega arith))

pub returns-in-Some-clause-taken : goal.returns-in-Some-clause-taken
returns-in-Some-clause-taken c =
    rw (plain c.in-Some.c (λ e. omega arith) (λ e. omega arith) (λ e. omega arith) (λ e. omega arith)) c.in-Some.ensures.steps.0

pub returns-in-Some-eq10-clause-form : goal.returns-in-Some-eq10-clause-form
returns-in-Some-eq10-clause-form c = λ value ends. front_ends _ value ends (raw _ _ _ c.in-Some-eq10.ensures.steps.0 (omega arith) (omega arith))

pub returns-in-Some-eq10-2-clause-form : goal.returns-in-Some-eq10-2-clause-form
returns-in-Some-eq10-2-clause-form c = λ value ends. front_ends _ value ends (raw _ _ _ c.in-Some-eq10.ensures.steps.0 (omega arith) (omega arith))
