use Rattle.std.proofs.Common.{◌∙◌, List, ap}
use Rattle.std.specs.List.{flat_map, list_all}
use Rattle.std.specs.Prelude.{◌++◌}
use Rattle.at_model.specs.Machine.{marks_in, marks_in_argument}
use Rattle.at_protocol.specs.LineView.{arguments_view, place_view}
use Rattle.at_protocol.specs.declared.line.Argument.{Argument}
use Rattle.at_engine.specs.Marks.{has_mark}
use Rattle.at_engine.proofs.marks.using.has_used.Goals as goal

pub returns-in-Post : goal.returns-in-Post
returns-in-Post g c =
    let p = has_mark (g.M.Lookup.marks c.args.marks.now) c.args.session in
    rw c.in-Post.is (c.has_asked.ensures ∙ ap (λ (l : List Argument). list_all p (marks_in (place_view c.in-Post.place) ++ flat_map marks_in_argument (arguments_view l))) c.deref.ensures.value)

pub returns-in-Edit : goal.returns-in-Edit
returns-in-Edit g c = rw c.in-Edit.is c.has_named.ensures

pub returns-in-Show : goal.returns-in-Show
returns-in-Show g c = rw c.in-Show.is c.has_in.ensures

pub returns-in-Mark : goal.returns-in-Mark
returns-in-Mark g c = rw c.in-Mark.is c.has_in-in-Mark.ensures
