use Rattle.std.proofs.Common.{◌∙◌, sym}
use Rattle.at_protocol.specs.LineView.{place_view}
use Rattle.at_engine.specs.Marks.{has_mark}
use Rattle.at_engine.proofs.of_marks.Marking.{both, neither, of_question}
use Rattle.at_engine.proofs.marks.using.has_asked.Goals as goal

pub returns-then-not-has_in : goal.returns-then-not-has_in
returns-then-not-has_in g c =
    let p = has_mark (g.M.Lookup.marks c.args.marks.now) c.args.session in
    sym (of_question p (place_view c.args.place.now) c.args.arguments.now ∙ neither _ _ (sym c.has_in.ensures ∙ c.if-not-has_in.true))

pub returns : goal.returns
returns g c =
    let p = has_mark (g.M.Lookup.marks c.args.marks.now) c.args.session in
    c.has_in_all.ensures ∙ sym (of_question p (place_view c.args.place.now) c.args.arguments.now ∙ both _ _ (sym c.has_in.ensures ∙ c.if-not-has_in.false))
