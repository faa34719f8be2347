use Rattle.std.proofs.Common.{rules, ◌≡◌, take, ◌<◌, ◌∙◌, append_assoc, arith, ap, ◌++◌, length}
use Rattle.std.proofs.lemmas.Bool.Decides.{nat_tests}
use Rattle.at_model.specs.Paths.{path_text}
use Rattle.at_tree.specs.PathView.{steps_view}
use Rattle.at_tree.proofs.PathWritten.{steps_more, text_of_steps, keeps_front, on_err}
use Rattle.at_tree.proofs.path.write_steps.Goals as goal

pub returns-in_err-write_step-clause-text : goal.returns-in_err-write_step-clause-text
returns-in_err-write_step-clause-text c = let kept : take (length c.args.out.now.items) c.write_step.new.out.items ≡ c.args.out.now.items = keeps_front _ _ _ _ c.loop-step.invariant.0 c.in_err-write_step.ensures.text.err in record { ok = search rules; err = on_err _ kept }

pub loop-step-preserved : goal.loop-step-preserved
loop-step-preserved c =
    let more = steps_more c.deref-step-items.result.now c.loop-step.step-index c.step-item.result (omega arith) c.step-item.is in
    (c.in_ok-write_step.ensures.text.ok ∙ rw (c.loop-step.invariant.0, more) (simp append_assoc), omega (arith, c.loop-step.invariant.1, c.in_ok-write_step.ensures.grows))

pub returns-clause-text : goal.returns-clause-text
returns-clause-text c =
    let some : 0 < length c.deref-step-items.result.now = grind (arith, nat_tests, c.if-is_empty.ensures, c.deref-step-items.ensures.len) in
    record {
      err = search rules;
      ok = c.loop-step.invariant.0 ∙ ap (λ y. c.args.out.now.items ++ y) (text_of_steps c.deref-step-items.result.now c.loop-step.step-index some (omega arith) ∙ ap (λ ss. path_text (steps_view ss)) c.deref-step-items.ensures.value);
    }
