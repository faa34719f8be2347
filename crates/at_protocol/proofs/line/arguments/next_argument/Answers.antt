use Rattle.std.proofs.Common.{◌≡◌, true, false, Some, None, lit<}
use Rattle.std.specs.Prelude.{slice_index}
use Rattle.std.proofs.lemmas.Result.{err_from_is_err_and}
use Rattle.std.proofs.lemmas.Str.Pattern.{split_parts, starts_char}
use Rattle.at_protocol.proofs.CallsLemmas.{comma_fails, end_fails}
use Rattle.at_protocol.proofs.line.arguments.next_argument.Goals as goal

pub returns-in_err-read_bare-in-Some : goal.returns-in_err-read_bare-in-Some
returns-in_err-read_bare-in-Some c =
    let p = err_from_is_err_and c.from_residual.result c.from_residual.ensures.1 in
    let text = c.args.text.now in
    let none : slice_index text 0 ≡ 34 → ⊥ = λ q. (let e : false ≡ true = (starts_char 34 text false c.if-starts_with.ensures.cases (lit< tt) (lit< tt)).1 q in cc) in
    let cut = split_parts 44 text (Some (c.in-Some.word, c.in-Some.rest)) c.in-Some.ensures.cases (lit< tt) in
    rw (p.1, p.2) (comma_fails _ _ _ _ none cut.0 cut.1 c.in_err-read_bare-in-Some.ensures)

pub returns-in_err-read_bare-in-None : goal.returns-in_err-read_bare-in-None
returns-in_err-read_bare-in-None c =
    let p = err_from_is_err_and c.from_residual-in_err-read_bare-in-None.result c.from_residual-in_err-read_bare-in-None.ensures.1 in
    let text = c.args.text.now in
    let none : slice_index text 0 ≡ 34 → ⊥ = λ q. (let e : false ≡ true = (starts_char 34 text false c.if-starts_with.ensures.cases (lit< tt) (lit< tt)).1 q in cc) in
    let alone = split_parts 44 text None c.in-None.ensures.cases (lit< tt) in
    rw (p.1, p.2) (end_fails _ _ none alone c.in_err-read_bare-in-None.ensures)
