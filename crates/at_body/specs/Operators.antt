-- Which pieces are operators.
use Rattle.std.specs.Prelude.{Bool, true, false}
use Rattle.at_body.specs.declared.formula.Piece.{Piece}
use Rattle.at_body.specs.declared.formula.Piece.TheVariants as piece

-- it is an operator
abbrev pub is_operator : Piece → Bool
is_operator (piece.Known b) = false
is_operator (piece.Asks i) = false
is_operator piece.Both = true
is_operator piece.Either = true
