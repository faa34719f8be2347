use Rattle.std.proofs.Common.{◌≡◌, false, true, refl, lit<}
use Rattle.std.specs.Prelude.{slice_index}
use Rattle.std.proofs.lemmas.Result.{err_from_is_err_and}
use Rattle.std.proofs.lemmas.Str.Pattern.{starts_char}
use Rattle.at_protocol.proofs.Arguments.{slash, dollar, place_fails, plain_answers}
use Rattle.at_protocol.proofs.line.arguments.read_bare.Goals as goal
use Rattle.at_protocol.proofs.line.arguments.read_bare.Goals.{then-starts_with-via-then-starts_with, then-starts_with-via-else-starts_with+then-starts_with-2}

pub returns-in_err-read_place : goal.returns-in_err-read_place
returns-in_err-read_place c =
    let p = err_from_is_err_and c.from_residual.result c.from_residual.ensures.1 in
    let word = c.args.word.now in
    elim c.then-starts_with.branch [
      | then-starts_with-via-then-starts_with w ↦
          rw (p.1, p.2) (place_fails word 47 slash ((starts_char 47 word true w.if-starts_with.ensures.cases (lit< tt) (lit< tt)).0 refl) _ c.in_err-read_place.ensures)
      | then-starts_with-via-else-starts_with+then-starts_with-2 w ↦
          rw (p.1, p.2) (place_fails word 36 dollar ((starts_char 36 word true w.if-starts_with-2.ensures.cases (lit< tt) (lit< tt)).0 refl) _ c.in_err-read_place.ensures)
    ]

pub returns : goal.returns
returns c =
    let word = c.args.word.now in
    let no_slash : slice_index word 0 ≡ 47 → ⊥ = λ q. (let e : false ≡ true = (starts_char 47 word false c.if-starts_with.ensures.cases (lit< tt) (lit< tt)).1 q in cc) in
    let no_dollar : slice_index word 0 ≡ 36 → ⊥ = λ q. (let e : false ≡ true = (starts_char 36 word false c.if-starts_with-2.ensures.cases (lit< tt) (lit< tt)).1 q in cc) in
    plain_answers word c.read_plain.result no_slash no_dollar c.read_plain.ensures
