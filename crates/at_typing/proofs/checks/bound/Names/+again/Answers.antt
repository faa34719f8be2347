use Rattle.std.proofs.Common.{◌∙◌, ap, sym, arith}
use Rattle.at_jrag.specs.View.{expr_view}
use Rattle.at_typing.specs.Bound.{names_view}
use Rattle.at_typing.specs.Declaring.{is_bound_again}
use Rattle.at_typing.proofs.Binding.{among_here, among_more, among_end}
use Rattle.at_typing.proofs.checks.bound.Names.+again.Goals as goal

pub is_bound_among-returns-then-branch-clause-among : goal.is_bound_among-returns-then-branch-clause-among
is_bound_among-returns-then-branch-clause-among t c =
    let names = names_view c.args.self.now in
    let e = c.argument-item.result in
    let found = ap (λ ns. is_bound_again ns (expr_view e)) (sym c.loop-argument.invariant.0) ∙ sym c.in_ok-is_bound_again.ensures.again ∙ c.if-branch.true in
    sym (c.loop-argument.invariant.1 ∙ among_here names c.args.arguments.now c.loop-argument.argument-index e (omega arith) c.argument-item.is found)

pub is_bound_among-loop-argument-preserved : goal.is_bound_among-loop-argument-preserved
is_bound_among-loop-argument-preserved t c =
    let names = names_view c.args.self.now in
    let e = c.argument-item.result in
    let none = ap (λ ns. is_bound_again ns (expr_view e)) (sym c.loop-argument.invariant.0) ∙ sym c.in_ok-is_bound_again.ensures.again ∙ c.if-branch.false in (
      c.in_ok-is_bound_again.ensures.kept c.if-branch.false ∙ c.loop-argument.invariant.0,
      c.loop-argument.invariant.1
          ∙ among_more names c.args.arguments.now c.loop-argument.argument-index e (omega arith) c.argument-item.is none,
    )

pub is_bound_among-returns-clause-among : goal.is_bound_among-returns-clause-among
is_bound_among-returns-clause-among t c =
    sym (c.loop-argument.invariant.1 ∙ among_end (names_view c.args.self.now) c.args.arguments.now c.loop-argument.argument-index (omega arith))
