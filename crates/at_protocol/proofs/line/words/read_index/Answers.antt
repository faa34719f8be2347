use Rattle.std.proofs.Common.{◌≡◌, sym, ◌∙◌, arith}
use Rattle.std.proofs.lemmas.Fmt.{decimal_injective}
use Rattle.at_protocol.proofs.line.words.read_index.Goals as goal

pub returns-in_default : goal.returns-in_default
returns-in_default c = λ n small is. c.in_default.ensures n (omega (arith, small)) is

pub returns-else-index-lt-MAX_INDEXES : goal.returns-else-index-lt-MAX_INDEXES
returns-else-index-lt-MAX_INDEXES c = λ n small is.
    let same : c.in-Some.index ≡ n = decimal_injective c.in-Some.index n (omega arith) (omega (arith, small)) (sym c.in-Some.ensures ∙ is) in
    omega (arith, c.if-index-lt-MAX_INDEXES.false, same, small)
