-- What follows from each verdict.
use Rattle.std.proofs.Common.{◌≡◌, ◌+◌, List, refl, sym, subst}
use Rattle.at_model.specs.Trees.{Tree}
use Rattle.at_model.specs.Paths.{Node}
use Rattle.at_model.specs.Run.{Instance}
use Rattle.at_model.specs.Rules.{Rules}
use Rattle.at_model.specs.Meaning.{Answer}
use Rattle.at_model.specs.Edits.{Edit}
use Rattle.at_model.specs.Machine.{State, Marked, Verdict, Posted, Refuses, Tells, Leaves, Edits, Asks, Posts, Waits, AnswersIn, after, answer_form}
use Rattle.at_model.specs.Replies.{Done, Opened, Shows, Refused, Shown}
use Rattle.at_protocol.specs.ReplyView.{IsShown, code_view}
use Rattle.at_protocol.specs.Writable.{IsShownWritable}
use Rattle.at_protocol.specs.declared.reply.Refusal.{Refusal}
use Rattle.at_protocol.specs.declared.reply.Shown.{Shown as ShownValue}
use Rattle.at_protocol.specs.declared.reply.Form.{Form as FormValue}
use Rattle.at_protocol.specs.declared.reply.Form.TheVariants as form
use Rattle.at_engine.specs.Following.{Follows, IsAtOnce}
use Rattle.at_engine.specs.Telling.{IsToldAs}

module _ (rules : Rules) where
  pub as_verdict : (s : State) (v w : Verdict) (f : FormValue) (new : State) → v ≡ w → Follows rules s w f new → Follows rules s v f new
  as_verdict s v w f new e h = subst (λ (x : Verdict). Follows rules s x f new) (sym e) h

  pub refuses : (s : State) (v : Verdict) (r : Refusal) → v ≡ Refuses (code_view r) → Follows rules s v (form.Refused r) s
  refuses s v r e = as_verdict s v (Refuses (code_view r)) (form.Refused r) s e (record { form = Refused (code_view r); is_form = refl; says = refl; state = refl; writable = tt; kept = λ long. refl })

  pub tells : (s : State) (v : Verdict) (told : ShownValue) (is : Shown) → v ≡ Tells is → IsShown told is → IsShownWritable told → Follows rules s v (form.Shows told) s
  tells s v told is e h writable = as_verdict s v (Tells is) (form.Shows told) s e (record { form = Shows is; is_form = (is, h, refl); says = refl; state = refl; writable = writable; kept = λ long. refl })

  pub leaves : (s : State) (v : Verdict) (marks : List Marked) → v ≡ Leaves marks → Follows rules s v (form.Ok s.version) (record s { marks = marks })
  leaves s v marks e = as_verdict s v (Leaves marks) (form.Ok s.version) (record s { marks = marks }) e (record { form = Done s.version; is_form = refl; says = refl; state = refl; writable = tt; kept = λ long. absurd (long tt) })

  pub edits : (s : State) (v : Verdict) (e : Edit) (t : Tree) (new : State) → v ≡ Edits e t → new ≡ after s (Edits e t) → Follows rules s v (form.Ok (s.version + 1)) new
  edits s v e t new is state = as_verdict s v (Edits e t) (form.Ok (s.version + 1)) new is (record { form = Done (s.version + 1); is_form = refl; says = refl; state = state; writable = tt; kept = λ long. absurd (long tt) })

  pub asks : (s : State) (v : Verdict) (q : Instance Node) (a : Answer Node) (f : FormValue) → v ≡ Asks q → AnswersIn rules s.tree q a → IsToldAs rules s.tree a f → Follows rules s v f s
  asks s v q a f e answers told = as_verdict s v (Asks q) f s e (record { form = answer_form rules s.tree a; is_form = told.is_form; says = (a, answers, refl); state = refl; writable = told.writable; kept = λ long. refl })

  pub posts : (s : State) (v : Verdict) (q : Posted) (new : State) → v ≡ Posts q → new ≡ after s (Posts q) → Follows rules s v (form.Open q.number) new
  posts s v q new is state = as_verdict s v (Posts q) (form.Open q.number) new is (record { form = Opened q.number; is_form = refl; says = refl; state = state; writable = tt; kept = λ long. absurd (long tt) })

  -- what a line is told at once doesn't wait
  pub told_at_once : (s : State) (v : Verdict) (f : FormValue) (new : State) → Follows rules s v f new → IsAtOnce v
  told_at_once s (Refuses c) f new h = tt
  told_at_once s (Tells shown) f new h = tt
  told_at_once s (Leaves marks) f new h = tt
  told_at_once s (Edits e t) f new h = tt
  told_at_once s (Asks q) f new h = tt
  told_at_once s (Posts q) f new h = tt
  told_at_once s (Waits number) f new h = absurd h.says
