-- The loop that looks for a text that is too long among arguments.
use Rattle.std.proofs.Common.{◌≡◌, ℕ, ◌+◌, ◌<◌, ◌≤◌, List, length, drop, get_or, map, refl, ap, ◌∙◌, add-one, Option, Some, None}
use Rattle.std.proofs.Math.Seq.{drop-cons}
use Rattle.std.proofs.lemmas.List.{drop_all}
use Rattle.at_text.specs.declared.place.Place.{Place}
use Rattle.at_jrag.specs.Syntax.{to_exprs}
use Rattle.at_jrag.specs.View.{expr_view}
use Rattle.at_jrag.specs.declared.syntax.Expr.{Expr as ExprValue}
use Rattle.at_typing.specs.Declaring.{long_text, long_text_among}

abbrev pub among : List ExprValue → Option Place
among es = long_text_among (to_exprs (map expr_view es))

pub among_more : (es : List ExprValue) (k : ℕ) (e : ExprValue) → k < length es → e ≡ get_or es k e → long_text (expr_view e) ≡ None → among es ≡ among (drop k es) → among es ≡ among (drop (k + 1) es)
among_more es k e less is none so_far = so_far ∙ rw (drop-cons es k e less, ← is) (rw none (rw add-one refl))

pub among_here : (es : List ExprValue) (k : ℕ) (e : ExprValue) (at : Place) → k < length es → e ≡ get_or es k e → long_text (expr_view e) ≡ Some at → among es ≡ among (drop k es) → among es ≡ Some at
among_here es k e at less is some so_far = so_far ∙ rw (drop-cons es k e less, ← is) (rw some refl)

pub among_none : (es : List ExprValue) (k : ℕ) → length es ≤ k → among es ≡ among (drop k es) → among es ≡ None
among_none es k past so_far = so_far ∙ ap among (drop_all k es past)
