use Rattle.std.proofs.Common.{◌≡◌, [], ◌∷◌, ◌++◌, ap, ◌∙◌}
use Rattle.std.proofs.lemmas.Result.{err_from_is_err_and}
use Rattle.at_protocol.specs.LineView.{argument_view, arguments_view}
use Rattle.at_protocol.proofs.CallsLemmas.{first_fails, next_fails, wanted_first, wanted_next, wanted_some, wanted_pushed, smaller}
use Rattle.at_protocol.proofs.line.arguments.read_arguments.Goals as goal

pub returns-in_err-first : goal.returns-in_err-first
returns-in_err-first c =
    let p = err_from_is_err_and c.from_residual.result c.from_residual.ensures.1 in
    rw (p.1, p.2) (first_fails _ _ c.in_err-first.ensures)

pub loop-rest-init : goal.loop-rest-init
loop-rest-init c =
    let first = c.in_ok-first.first in
    let pushed : c.push.new.self.items ≡ [] ++ first ∷ [] = c.in_ok-push.ensures.items ∙ ap (λ xs. xs ++ first ∷ []) c.new-arguments.ensures.items in
    wanted_pushed c.args.text.now [] c.push.new.self.items first _ pushed (wanted_first c.args.text.now (argument_view first) _ c.in_ok-first.ensures)

pub returns-in_err-argument : goal.returns-in_err-argument
returns-in_err-argument c =
    let p = err_from_is_err_and c.from_residual-in_err-argument.result c.from_residual-in_err-argument.ensures.1 in
    let wanted = wanted_some c.args.text.now (arguments_view c.loop-rest.arguments.items) c.loop-rest.rest c.in-Some.text c.in-Some.is c.loop-rest.invariant in
    rw (p.1, p.2) (next_fails c.args.text.now c.in-Some.text.now (arguments_view c.loop-rest.arguments.items) _ wanted c.in_err-argument.ensures)

pub loop-rest-smaller : goal.loop-rest-smaller
loop-rest-smaller c = smaller c.loop-rest.rest c.in-Some.text (argument_view c.in_ok-argument.argument) c.in_ok-argument.behind c.in-Some.is c.in_ok-argument.ensures

pub loop-rest-preserved : goal.loop-rest-preserved
loop-rest-preserved c =
    let wanted = wanted_some c.args.text.now (arguments_view c.loop-rest.arguments.items) c.loop-rest.rest c.in-Some.text c.in-Some.is c.loop-rest.invariant in
    let next = wanted_next c.args.text.now c.in-Some.text.now (arguments_view c.loop-rest.arguments.items) (argument_view c.in_ok-argument.argument) _ wanted c.in_ok-argument.ensures in
    wanted_pushed c.args.text.now c.loop-rest.arguments.items c.push-in-Some.new.self.items c.in_ok-argument.argument _ c.in_ok-push-2.ensures.items next
