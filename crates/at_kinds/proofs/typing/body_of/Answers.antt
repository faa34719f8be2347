use Rattle.std.proofs.Common.{ap, sym, ◌∙◌}
use Rattle.at_jrag.specs.Syntax.{place}
use Rattle.at_jrag.specs.View.{expr_view}
use Rattle.at_kinds.specs.Judging.{and_then, fitting}
use Rattle.at_kinds.specs.Typed.{typed_view}
use Rattle.at_kinds.proofs.Parts.{not_fitting}
use Rattle.at_kinds.proofs.Seen.{seen_place}
use Rattle.at_kinds.proofs.typing.body_of.Goals as goal

pub returns-else-fits : goal.returns-else-fits
returns-else-fits c =
    let classes = c.args.scope.now.classes.now in
    let e = c.args.expr.now in
    rw c.refused.ensures (ap (and_then (fitting classes c.args.wanted (place (expr_view e)))) c.in_ok-typed.ensures
    ∙ not_fitting classes c.args.wanted (place (expr_view e)) e.at (typed_view c.in_ok-typed.typed) (seen_place e) (sym c.fits.ensures ∙ c.if-fits.false))
