use Rattle.std.proofs.Common.{◌++◌, ◌∷◌, [], Some, None, refl, sym, ap, ◌∙◌, lit<}
use Rattle.std.proofs.lemmas.Str.Pattern.{strip_suffix_char}
use Rattle.at_protocol.proofs.Spaces.{two_parts, byte_inside}
use Rattle.at_protocol.proofs.line.arguments.call_parts.Goals as goal

pub returns-in_default : goal.returns-in_default
returns-in_default c = (refl, λ name inside one is. byte_inside 40 name (inside ++ 41 ∷ []) c.args.text.now (sym is) one c.in_default.ensures)

pub returns-in-Some-strip_suffix : goal.returns-in-Some-strip_suffix
returns-in-Some-strip_suffix c =
    let cut = c.in-Some.ensures in
    let end = strip_suffix_char 41 c.in-Some.rest.now (Some c.in-Some-strip_suffix.inside) c.in-Some-strip_suffix.ensures.cases (lit< tt) in
    (cut.0 ∙ ap (λ y. c.in-Some.name.now ++ 40 ∷ y) end, cut.1)

pub returns-in-None : goal.returns-in-None
returns-in-None c =
    let cut = c.in-Some.ensures in
    let none = strip_suffix_char 41 c.in-Some.rest.now None c.in-None.ensures.cases (lit< tt) in
    (refl, λ name inside one is. none inside (two_parts 40 c.in-Some.name.now name c.in-Some.rest.now (inside ++ 41 ∷ []) (sym cut.0 ∙ is) cut.1 one).1)
