use Rattle.std.proofs.Common.{◌≡◌, ◌∙◌, ◌∷◌, ap, not, subst, sym}
use Rattle.at_store.specs.Shown.{IsIdle}
use Rattle.at_body.specs.Seeking.{candidates}
use Rattle.at_body.specs.declared.candidates.Candidates.{Candidates}
use Rattle.at_body.proofs.Seeks.{candidate_shape, next_room}
use Rattle.at_rules.specs.Bodies.{body_view}
use Rattle.at_body.specs.Forms.{load}
use Rattle.at_body.specs.Size.{size}
use Rattle.at_body.proofs.FormSeeks.{candidate_forms}
use Rattle.at_body.proofs.FormKinds.{known_typed}
use Rattle.at_body.proofs.forming.Forming.next_among.Goals as goal

pub returns-in_ok-push-in-Some-2-clause-same : goal.returns-in_ok-push-in-Some-2-clause-same
returns-in_ok-push-in-Some-2-clause-same c = λ rules. rw (c.in_ok-push-in-Some.ensures, c.in_ok-push-in-Some-2.ensures)
    (candidate_shape rules c.args.self.now c.args.positive c.args.mark c.args.body c.in-Some.next.0 c.args.among.now c.in_ok-boxed-in-Some.boxed
    (c.in-Some.ensures.found ∙ ap (λ (x : Candidates). c.in-Some.next.0 ∷ candidates x c.args.mark) (sym c.in_ok-boxed-in-Some.ensures.ok)))

pub returns-in_ok-push-in-Some-2-clause-typed : goal.returns-in_ok-push-in-Some-2-clause-typed
returns-in_ok-push-in-Some-2-clause-typed c = λ rules at look h. rw (c.in_ok-push-in-Some.ensures, c.in_ok-push-in-Some-2.ensures)
    (candidate_forms rules at c.args.self.now c.args.positive c.args.mark c.args.body c.in-Some.next.0 c.args.among.now c.in_ok-boxed-in-Some.boxed
    (c.in-Some.ensures.found ∙ ap (λ (x : Candidates). c.in-Some.next.0 ∷ candidates x c.args.mark) (sym c.in_ok-boxed-in-Some.ensures.ok))
    (subst (λ (x : Candidates). IsIdle x.store.now) (sym c.in_ok-boxed-in-Some.ensures.ok) c.requires.idle_store) h)

pub returns-in-None-clause-typed : goal.returns-in-None-clause-typed
returns-in-None-clause-typed c = λ rules at look h. known_typed rules at look c.known.result c.args.self.now _ h.kinds (not c.args.positive) h.stands c.known.ensures

pub returns-in_ok-push-in-Some-2-clause-less : goal.returns-in_ok-push-in-Some-2-clause-less
returns-in_ok-push-in-Some-2-clause-less c = rw (c.in_ok-push-in-Some-2.ensures)
    (next_room (size (body_view c.args.body.now)) c.args.mark (load c.args.self.now.tasks) c.args.among.now c.in_ok-boxed-in-Some.boxed.value c.in-Some.next.0
    (c.in-Some.ensures.found ∙ ap (λ (x : Candidates). c.in-Some.next.0 ∷ candidates x c.args.mark) (sym c.in_ok-boxed-in-Some.ensures.ok)))
