use Rattle.std.proofs.Common.{None, lit<}
use Rattle.std.proofs.lemmas.Result.{err_from_is_err_and}
use Rattle.std.proofs.lemmas.Str.Pattern.{strip_prefix_char}
use Rattle.at_protocol.proofs.Places.{path_fails}
use Rattle.at_protocol.proofs.line.places.read_place.Goals as goal

pub returns-in_err-read_whole_path-in-None : goal.returns-in_err-read_whole_path-in-None
returns-in_err-read_whole_path-in-None c =
    let p = err_from_is_err_and c.from_residual.result c.from_residual.ensures.1 in
    let none = strip_prefix_char 36 c.args.word.now None c.in-None.ensures.cases (lit< tt) in
    rw (p.1, p.2) (path_fails _ _ none c.in_err-read_whole_path-in-None.ensures)
