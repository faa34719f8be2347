use Rattle.at_store.specs.Shown.{contents}
use Rattle.std.proofs.Common.{◌∙◌, sym, ap, [], Some, nat_eq}
use Rattle.at_model.specs.of_fixpoints.Evaluations.{evaluation}
use Rattle.at_body.specs.Forms.{told}
use Rattle.at_body.specs.Trying.{onward}
use Rattle.at_body.specs.Typed.{class_shown}
use Rattle.at_body.specs.Values.{value_view}
use Rattle.at_body.proofs.OneTry.{goes_on, next_step}
use Rattle.at_body.proofs.of_typing.TypedShown.{shown_typed}
use Rattle.at_body.proofs.trying_formula.try_forming.Goals as goal

pub loop-progress-init : goal.loop-progress-init
loop-progress-init g c =
    let look = contents c.args.store.now in
    let known = g.K.Known.value_of c.args.known.now in record {
      found = goes_on look known [] ((evaluation c.args.rules.now nat_eq).formula c.args.inst.now)
          ∙ ap (onward look known) c.in_ok-forming.ensures.found;
      typed = c.in_ok-forming.ensures.typed;
    }

pub loop-progress-preserved : goal.loop-progress-preserved
loop-progress-preserved g c =
    let h = rw c.in-Need.is at c.loop-progress.invariant.found in record {
      found = h ∙ next_step (contents c.args.store.now) (g.K.Known.value_of c.args.known.now) _ c.in-Need.wanted
          (told c.args.rules.now c.loop-progress.forming) (value_view c.in_ok-copy-in-Some.field-0) _
          (ap Some c.in_ok-copy-in-Some.ensures ∙ c.in-Some.ensures) c.in_ok-progress-in-Some.ensures.found;
      typed = c.in_ok-progress-in-Some.ensures.typed;
    }

pub resume-requires-clause-over : goal.resume-requires-clause-over
resume-requires-clause-over g c =
    shown_typed c.args.rules.now c.args.store.now c.requires.asked.idle c.requires.asked.formed c.requires.asked.sound

pub resume-requires-clause-takes : goal.resume-requires-clause-takes
resume-requires-clause-takes g c =
    let (u, waits, awaits) = rw c.in-Need.is at c.loop-progress.invariant.typed in
    let is = sym (ap Some c.in_ok-copy-in-Some.ensures ∙ c.in-Some.ensures) in (
      u,
      c.in-Need.wanted,
      waits,
      awaits,
      c.requires.known c.in-Need.wanted (value_view c.in_ok-copy-in-Some.field-0) awaits.waits.instance is,
    )
