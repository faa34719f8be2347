use Rattle.std.proofs.Common.{◌≡◌, true≢false, is_some, ap, sym, ◌∙◌, arith}
use Rattle.at_model.specs.Lines.{From_root}
use Rattle.at_tree.specs.PathView.{path_view}
use Rattle.at_protocol.specs.LineView.{arguments_view, place_view}
use Rattle.at_protocol.proofs.Fronts.{front_is, is_bare, no_version, none_given, bare_parts, some_given, at_mark}
use Rattle.at_protocol.proofs.line.again.front_of.Goals as goal
use Rattle.at_protocol.proofs.line.again.front_of.Goals.{in_default-via-in-FromRoot+then-is_none+else-is_empty, in_default-via-in-FromRoot+else-is_none, in_default-via-in_default}

pub returns-in_ok-end-in-FromRoot-clause-found : goal.returns-in_ok-end-in-FromRoot-clause-found
returns-in_ok-end-in-FromRoot-clause-found c = λ session h.
    let steps = path_view c.in-FromRoot.field-0 in
    let from_root : place_view c.args.place.now ≡ From_root steps = ap place_view c.in-FromRoot.is in
    let empty = ap arguments_view (none_given c.args.arguments.now (sym c.is_empty.ensures ∙ c.if-is_empty.true)) in
    let bare = is_bare c.args.line.now c.args.attribute.now session c.args.expected (place_view c.args.place.now) steps (arguments_view c.args.arguments.now) (no_version c.args.expected c.if-is_none.ensures) from_root empty h in
    (steps, from_root, c.split_at.ensures.front ∙ front_is c.args.line.now c.args.attribute.now session c.in_ok-end-in-FromRoot.end steps bare (omega (arith, c.in_ok-end-in-FromRoot.ensures)))

pub returns-in_default-clause-none : goal.returns-in_default-clause-none
returns-in_default-clause-none c = λ session h steps bare.
    let is = bare_parts c.args.line.now c.args.attribute.now session c.args.expected (place_view c.args.place.now) (arguments_view c.args.arguments.now) steps h bare in
    elim c.in_default.branch [
      | in_default-via-in-FromRoot+then-is_none+else-is_empty w ↦ some_given c.args.arguments.now is.2 w.if-is_empty.ensures
      | in_default-via-in-FromRoot+else-is_none w ↦ true≢false (sym w.if-is_none.ensures ∙ ap is_some is.0)
      | in_default-via-in_default w ↦ at_mark (sym (ap place_view w.in_default.is) ∙ is.1)
    ]
