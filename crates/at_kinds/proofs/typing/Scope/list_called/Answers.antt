use Rattle.std.proofs.Common.{sym, subst, ◌∙◌, map}
use Rattle.std.proofs.lemmas.Result.{err_from_is_err_and}
use Rattle.at_kinds.specs.Judging.{called, list_named}
use Rattle.at_kinds.specs.Typed.{Judges, typed_view, list_view, scope_view}
use Rattle.at_kinds.proofs.Parts.{none_given, some_given, no_list_fault, no_list_kind, list_crowded, list_there}
use Rattle.at_kinds.proofs.typing.Scope.list_called.Goals as goal

pub returns-in_err-whole : goal.returns-in_err-whole
returns-in_err-whole c =
    let p = err_from_is_err_and c.from_residual.result c.from_residual.ensures.1 in
    rw (p.1, p.2) (no_list_fault c.args.fold c.args.at (list_named c.args.self.now.classes.now c.args.receiver.kind
    c.args.name.now) (called (scope_view c.args.self.now) c.args.at c.args.name.now (typed_view c.args.receiver)
    (map typed_view c.args.arguments.items)) (typed_view c.args.receiver) (map typed_view c.args.arguments.items)
    c.in_err-whole.field-0.0 (sym c.list_named.ensures ∙ c.in_default.is) c.in_err-whole.ensures)

pub returns-in_default : goal.returns-in_default
returns-in_default c = subst (λ j. Judges list_view j c.nodes_of.result) (sym
    (no_list_kind c.args.fold c.args.at (list_named c.args.self.now.classes.now c.args.receiver.kind c.args.name.now)
    (called (scope_view c.args.self.now) c.args.at c.args.name.now (typed_view c.args.receiver)
    (map typed_view c.args.arguments.items)) (typed_view c.args.receiver) (map typed_view c.args.arguments.items)
    c.in_ok-whole.whole (sym c.list_named.ensures ∙ c.in_default.is) c.in_ok-whole.ensures)) c.nodes_of.ensures

pub returns-then-not-is_empty : goal.returns-then-not-is_empty
returns-then-not-is_empty c =
    let g = some_given c.args.arguments (sym c.is_empty.ensures ∙ c.if-not-is_empty.true) in
    rw c.refused.ensures (list_crowded c.args.fold c.args.at (list_named c.args.self.now.classes.now
    c.args.receiver.kind c.args.name.now) c.in-Some.list (called (scope_view c.args.self.now) c.args.at
    c.args.name.now (typed_view c.args.receiver) (map typed_view c.args.arguments.items)) (typed_view
    c.args.receiver) (map typed_view c.args.arguments.items) g.0 g.1 (sym c.list_named.ensures ∙ c.in-Some.is) g.2)

pub returns : goal.returns
returns c = list_there c.args.fold c.args.at (list_named c.args.self.now.classes.now c.args.receiver.kind
    c.args.name.now) c.in-Some.list (called (scope_view c.args.self.now) c.args.at c.args.name.now
    (typed_view c.args.receiver) (map typed_view c.args.arguments.items)) (typed_view c.args.receiver)
    (map typed_view c.args.arguments.items) (sym c.list_named.ensures ∙ c.in-Some.is)
    (none_given c.args.arguments (sym c.is_empty.ensures ∙ c.if-not-is_empty.false))
