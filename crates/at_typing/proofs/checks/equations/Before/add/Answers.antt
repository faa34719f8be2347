use Rattle.std.proofs.Common.{◌≡◌}
use Rattle.std.specs.Prelude.{true, not}
use Rattle.at_typing.specs.EquationKeys.{has_equation, AddsEquation}
use Rattle.at_typing.proofs.Binding.{ok_also}
use Rattle.at_typing.proofs.EquationsBefore.{had, had_if}
use Rattle.at_typing.proofs.checks.equations.Before.add.Goals as goal

pub returns-then-not-branch-clause-new : goal.returns-then-not-branch-clause-new
returns-then-not-branch-clause-new c = had _ _ _ c.in_ok-add_own.ensures.new c.if-not-branch.true

pub returns-clause-new : goal.returns-clause-new
returns-clause-new c =
    ok_also _ (λ is_new. is_new ≡ not (has_equation c.args.self.now c.args.numbered.now)) c.add_inherited.result c.add_inherited.ensures.new
    (λ is_new so. had_if _ _ c.in_ok-add_own.field-0 is_new c.in_ok-add_own.ensures.new c.if-not-branch.false so)

pub returns-clause-added : goal.returns-clause-added
returns-clause-added c =
    ok_also _ (λ is_new. is_new ≡ true → AddsEquation c.args.numbered.now c.args.self.now _) c.add_inherited.result c.add_inherited.ensures.added
    (λ is_new added on. record { own = c.in_ok-add_own.ensures.added c.if-not-branch.false; inherited = added on })
