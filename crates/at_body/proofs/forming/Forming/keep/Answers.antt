use Rattle.std.proofs.Common.{◌≡◌, ap, sym, ◌∙◌, true, false}
use Rattle.at_model.specs.of_fixpoints.Formulas.{is_known_as}
use Rattle.at_body.specs.Forms.{followed}
use Rattle.at_body.specs.Pieces.{top_of}
use Rattle.at_body.specs.declared.forming.Forming.{Forming}
use Rattle.at_body.specs.declared.task.Task.TheVariants.{Join}
use Rattle.at_body.specs.Stacked.{below}
use Rattle.at_body.specs.TypedForms.{AreTasks}
use Rattle.at_body.proofs.FormRuns.{kept_else, kept_known}
use Rattle.at_body.proofs.FormKinds.{join_kept}
use Rattle.at_body.proofs.forming.Forming.keep.Goals as goal

pub returns-then-is_known_as-clause-same : goal.returns-then-is_known_as-clause-same
returns-then-is_known_as-clause-same c = λ rules r. rw (c.drop_known.ensures) (kept_known rules c.args.self.now c.args.conjunction r (sym c.is_known_as.ensures ∙ c.if-is_known_as.true))

pub returns-clause-same : goal.returns-clause-same
returns-clause-same c = λ rules r. rw (c.in_ok-push.ensures) (kept_else rules c.args.self.now c.args.conjunction r c.requires (sym c.is_known_as.ensures ∙ c.if-is_known_as.false))

pub returns-clause-typed : goal.returns-clause-typed
returns-clause-typed c = λ rules at s is h. rw (c.in_ok-push.ensures) (join_kept rules at c.args.self.now c.args.conjunction s c.requires is h)
