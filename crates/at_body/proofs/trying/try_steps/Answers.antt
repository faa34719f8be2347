use Rattle.at_store.specs.Shown.{contents}
use Rattle.std.proofs.Common.{◌∙◌, sym, ap, [], Some, nat_eq}
use Rattle.at_model.specs.Rules.{evaluation}
use Rattle.at_body.specs.Values.{value_view}
use Rattle.at_body.specs.Rest.{resumed}
use Rattle.at_body.specs.Trying.{onward}
use Rattle.at_body.specs.Typed.{class_shown}
use Rattle.at_body.proofs.of_typing.TypedShown.{shown_typed}
use Rattle.at_body.proofs.of_typing.TypedUses.{told}
use Rattle.at_body.proofs.OneTry.{goes_on, next_step}
use Rattle.at_body.proofs.trying.try_steps.Goals as goal

pub loop-step-init : goal.loop-step-init
loop-step-init g c = record { found = goes_on (contents c.args.store.now) (g.K.Known.value_of c.args.known.now) [] (evaluation c.args.rules.now nat_eq c.args.inst.now) ∙ ap (onward (contents c.args.store.now) (g.K.Known.value_of c.args.known.now)) c.in_ok-trial.ensures.found; typed = c.in_ok-trial.ensures.typed }

pub loop-step-preserved : goal.loop-step-preserved
loop-step-preserved g c = let h = rw c.in-Need.is at c.loop-step.invariant.found in record { found = h ∙ next_step (contents c.args.store.now) (g.K.Known.value_of c.args.known.now) _ c.in-Need.wanted (resumed c.args.rules.now.classes c.loop-step.trial) (value_view c.in_ok-copy-in-Some.field-0) _ (ap Some c.in_ok-copy-in-Some.ensures ∙ c.in-Some.ensures) c.in_ok-step-in-Some.ensures.found; typed = c.in_ok-step-in-Some.ensures.typed }

pub resume-requires-clause-over : goal.resume-requires-clause-over
resume-requires-clause-over g c = shown_typed c.args.rules.now c.args.store.now c.requires.asked.idle c.requires.asked.formed c.requires.asked.sound

pub resume-requires-clause-takes : goal.resume-requires-clause-takes
resume-requires-clause-takes g c = let h = rw c.in-Need.is at c.loop-step.invariant.typed in
    told c.args.rules.now (class_shown c.args.store.now) c.loop-step.trial c.in-Need.wanted (value_view c.in_ok-copy-in-Some.field-0) h (c.requires.known c.in-Need.wanted (value_view c.in_ok-copy-in-Some.field-0) h.instance (sym (ap Some c.in_ok-copy-in-Some.ensures ∙ c.in-Some.ensures)))
