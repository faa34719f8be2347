use Rattle.std.proofs.Common.{◌≡◌, ◌∙◌, ap, refl, sym}
use Rattle.at_model.specs.Bodies as model
use Rattle.at_model.specs.Bodies.{Expr}
use Rattle.at_rules.specs.Bodies.{bodies_view, body_view}
use Rattle.at_rules.specs.declared.body.Body.{items_hidden-the_row-Body-0}
use Rattle.at_body.specs.Rest.{ev}
use Rattle.at_body.specs.declared.todo.Fold.TheVariants as fold
use Rattle.at_body.proofs.Entering.{call_view}
use Rattle.at_evaluate.proofs.Sought.{searched}
use Rattle.at_evaluate.proofs.form.form_of.Goals as goal

pub returns-in-Negate-clause-means : goal.returns-in-Negate-clause-means
returns-in-Negate-clause-means c = λ classes p. rw (c.in-Negate.is, ← c.deref.ensures) refl

pub returns-in-Not-clause-means : goal.returns-in-Not-clause-means
returns-in-Not-clause-means c = λ classes p. rw (c.in-Not.is, ← c.deref-in-Not.ensures) refl

pub returns-in-InstanceOf-clause-means : goal.returns-in-InstanceOf-clause-means
returns-in-InstanceOf-clause-means c = λ classes p. rw (c.in-InstanceOf.is, ← c.deref-in-InstanceOf.ensures) refl

pub returns-in-CastTo-clause-means : goal.returns-in-CastTo-clause-means
returns-in-CastTo-clause-means c = λ classes p. rw (c.in-CastTo.is, ← c.deref-in-CastTo.ensures) refl

pub returns-in-Child-clause-means : goal.returns-in-Child-clause-means
returns-in-Child-clause-means c = λ classes p. rw (c.in-Child.is, ← c.deref-in-Child.ensures) refl

pub returns-in-Count-clause-means : goal.returns-in-Count-clause-means
returns-in-Count-clause-means c = λ classes p. rw (c.in-Count.is, ← c.deref-in-Count.ensures) refl

pub returns-in-Has-clause-means : goal.returns-in-Has-clause-means
returns-in-Has-clause-means c = λ classes p. rw (c.in-Has.is, ← c.deref-in-Has.ensures) refl

pub returns-in-TokenOf-clause-means : goal.returns-in-TokenOf-clause-means
returns-in-TokenOf-clause-means c = λ classes p. rw (c.in-TokenOf.is, ← c.deref-in-TokenOf.ensures) refl

pub returns-in-Passed-clause-means : goal.returns-in-Passed-clause-means
returns-in-Passed-clause-means c = λ classes p. rw (c.in-Passed.is, ← c.deref-in-Passed.ensures) refl

pub returns-in-Arithmetic-clause-means : goal.returns-in-Arithmetic-clause-means
returns-in-Arithmetic-clause-means c = λ classes p. rw (c.in-Arithmetic.is, ← c.deref-in-Arithmetic.ensures, ← c.deref-in-Arithmetic-2.ensures) refl

pub returns-in-Compare-clause-means : goal.returns-in-Compare-clause-means
returns-in-Compare-clause-means c = λ classes p. rw (c.in-Compare.is, ← c.deref-in-Compare.ensures, ← c.deref-in-Compare-2.ensures) refl

pub returns-in-Join-clause-means : goal.returns-in-Join-clause-means
returns-in-Join-clause-means c = λ classes p. rw (c.in-Join.is, ← c.deref-in-Join.ensures, ← c.deref-in-Join-2.ensures) refl

pub returns-in-JoinInt-clause-means : goal.returns-in-JoinInt-clause-means
returns-in-JoinInt-clause-means c = λ classes p. rw (c.in-JoinInt.is, ← c.deref-in-JoinInt.ensures, ← c.deref-in-JoinInt-2.ensures) refl

pub returns-in-Same-clause-means : goal.returns-in-Same-clause-means
returns-in-Same-clause-means c = λ classes p. rw (c.in-Same.is, ← c.deref-in-Same.ensures, ← c.deref-in-Same-2.ensures) refl

pub returns-in-Differ-clause-means : goal.returns-in-Differ-clause-means
returns-in-Differ-clause-means c = λ classes p. rw (c.in-Differ.is, ← c.deref-in-Differ.ensures, ← c.deref-in-Differ-2.ensures) refl

pub returns-in-Equals-clause-means : goal.returns-in-Equals-clause-means
returns-in-Equals-clause-means c = λ classes p. rw (c.in-Equals.is, ← c.deref-in-Equals.ensures, ← c.deref-in-Equals-2.ensures) refl

pub returns-in-Element-clause-means : goal.returns-in-Element-clause-means
returns-in-Element-clause-means c = λ classes p. rw (c.in-Element.is, ← c.deref-in-Element.ensures, ← c.deref-in-Element-2.ensures) refl

pub returns-in-And-clause-means : goal.returns-in-And-clause-means
returns-in-And-clause-means c = λ classes p. rw (c.in-And.is, ← c.deref-in-And.ensures, ← c.deref-in-And-2.ensures) refl

pub returns-in-Or-clause-means : goal.returns-in-Or-clause-means
returns-in-Or-clause-means c = λ classes p. rw (c.in-Or.is, ← c.deref-in-Or.ensures, ← c.deref-in-Or-2.ensures) refl

pub returns-in-Choose-clause-means : goal.returns-in-Choose-clause-means
returns-in-Choose-clause-means c = λ classes p. rw (c.in-Choose.is, ← c.deref-in-Choose.ensures, ← c.deref-in-Choose-2.ensures, ← c.deref-in-Choose-3.ensures) refl

pub returns-in-Call-clause-means : goal.returns-in-Call-clause-means
returns-in-Call-clause-means c = λ classes p. ap (λ (e : Expr). ev classes e p) (call_view _ _ _ _ _ _ _ _ c.in-Call.is
    (items_hidden-the_row-Body-0 c.in-Call.passed ∙ sym c.deref-in-Call-2.ensures.value) c.deref-in-Call.ensures)

pub returns-in-Exists-clause-means : goal.returns-in-Exists-clause-means
returns-in-Exists-clause-means c = λ classes p. rw (c.in-Exists.is, ← c.deref-in-Exists.ensures, ← c.deref-in-Exists-2.ensures) refl

pub returns-in-First-clause-means : goal.returns-in-First-clause-means
returns-in-First-clause-means c = λ classes p. rw (c.in-First.is, ← c.deref-in-First.ensures, ← c.deref-in-First-2.ensures) refl

pub returns-in-Sum-clause-means : goal.returns-in-Sum-clause-means
returns-in-Sum-clause-means c = λ classes p. rw (c.in-Sum.is, ← c.deref-in-Sum.ensures, ← c.deref-in-Sum-2.ensures) refl

pub returns-in-SeekAny-clause-means : goal.returns-in-SeekAny-clause-means
returns-in-SeekAny-clause-means c = λ classes p.
    rw (c.in-SeekAny.is, ← c.deref-in-SeekAny.ensures, ← c.deref-in-SeekAny-2.ensures, ← c.deref-in-SeekAny-3.ensures) (
    searched classes p fold.Exists c.deref-in-SeekAny.result.now c.deref-in-SeekAny-2.result.now c.deref-in-SeekAny-3.result.now)

pub returns-in-SeekFirst-clause-means : goal.returns-in-SeekFirst-clause-means
returns-in-SeekFirst-clause-means c = λ classes p.
    rw (c.in-SeekFirst.is, ← c.deref-in-SeekFirst.ensures, ← c.deref-in-SeekFirst-2.ensures, ← c.deref-in-SeekFirst-3.ensures) (
    searched classes p fold.First c.deref-in-SeekFirst.result.now c.deref-in-SeekFirst-2.result.now c.deref-in-SeekFirst-3.result.now)
