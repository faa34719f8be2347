use Rattle.std.proofs.Common.{◌≡◌, arith, refl, rules, subst, sym}
use Rattle.at_rules.specs.Bodies.{body_view}
use Rattle.at_store.specs.Shown.{IsIdle}
use Rattle.at_body.specs.Forms.{load}
use Rattle.at_body.specs.Size.{size}
use Rattle.at_body.specs.declared.candidates.Candidates.{Candidates}
use Rattle.at_body.proofs.FormRuns.{carried_by, element_done, right_done}
use Rattle.at_body.proofs.FormKinds.{element_decides, joins_completes, top_form, top_there}
use Rattle.at_body.proofs.FormSeeks.{candidate_decides, candidates_idle}
use Rattle.at_body.proofs.Seeks.{as_many, candidate_done}
use Rattle.at_body.proofs.forming.Forming.made.Goals as goal

pub returns-in-Right-clause-does : goal.returns-in-Right-clause-does
returns-in-Right-clause-does c =
    let top = top_there c.requires.typed.0 c.requires.typed.1 c.args.self.now c.args.task c.requires.typed.2 in
    rw c.in-Right.is (carried_by c.right.result _ _ _ _ _ _ c.right.new.self
    (λ r. right_done r c.args.self.now c.in-Right.conjunction c.in-Right.positive c.in-Right.right top) (omega arith)
    refl c.right.ensures.does)

pub returns-in_ok-join-in-Join-clause-does : goal.returns-in_ok-join-in-Join-clause-does
returns-in_ok-join-in-Join-clause-does c = record { same = search rules; less = search rules; reads = search rules }

pub returns-in_ok-join-in-Join-clause-typed : goal.returns-in_ok-join-in-Join-clause-typed
returns-in_ok-join-in-Join-clause-typed c = λ rules at look h. let h' = rw c.in-Join.is at h in joins_completes rules at c.args.self.now c.in-Join.conjunction c.join.new.self c.in_ok-join-in-Join.ensures h'

pub returns-in-Element-clause-does : goal.returns-in-Element-clause-does
returns-in-Element-clause-does c =
    let top = top_there c.requires.typed.0 c.requires.typed.1 c.args.self.now c.args.task c.requires.typed.2 in
    rw c.in-Element.is (carried_by c.decide.result _ _ _ _ _ _ c.decide.new.self
    (λ r. element_done r c.args.self.now c.in-Element.positive c.in-Element.body c.in-Element.others c.pop.new.self
    c.pop.ensures.left top)
    (omega arith) refl c.decide.ensures.does)

pub returns-in-Element-clause-typed : goal.returns-in-Element-clause-typed
returns-in-Element-clause-typed c = λ rules at look h.
    let h' = rw c.in-Element.is at h in
    c.decide.ensures.typed rules at look (top_form rules at c.args.self.now _ h) (element_decides rules at c.args.self.now c.in-Element.positive c.in-Element.body c.in-Element.others c.pop.new.self c.pop.ensures.left h')

pub decide_among-requires : goal.decide_among-requires
decide_among-requires c =
    let (r, a, h) = c.requires.typed in
    let h' = rw c.in-Among.is at h in
    record { top = top_there r a c.args.self.now c.args.task h; idle_store = subst (λ (x : Candidates). IsIdle x.store.now) (sym c.deref.ensures) (candidates_idle r a c.args.self.now c.in-Among.positive c.in-Among.mark c.in-Among.body c.in-Among.others h') }

pub returns-in-Among-clause-does : goal.returns-in-Among-clause-does
returns-in-Among-clause-does c =
    let top = top_there c.requires.typed.0 c.requires.typed.1 c.args.self.now c.args.task c.requires.typed.2 in
    rw c.in-Among.is (carried_by c.decide_among.result _ _ _ _ _ _ c.decide_among.new.self
    (λ r. candidate_done r c.args.self.now c.in-Among.positive c.in-Among.mark c.in-Among.body c.in-Among.others c.deref.result.now c.pop-in-Among.new.self
    c.deref.ensures c.pop-in-Among.ensures.left top)
    (as_many c.in-Among.mark (size (body_view c.in-Among.body.now)) (load c.args.self.now.tasks) c.deref.result.now c.in-Among.others.value c.deref.ensures) refl c.decide_among.ensures.does)

pub returns-in-Among-clause-typed : goal.returns-in-Among-clause-typed
returns-in-Among-clause-typed c = λ rules at look h.
    let h' = rw c.in-Among.is at h in
    c.decide_among.ensures.typed rules at look (top_form rules at c.args.self.now _ h)
    (candidate_decides rules at c.args.self.now c.in-Among.positive c.in-Among.mark c.in-Among.body c.in-Among.others c.deref.result.now c.pop-in-Among.new.self c.deref.ensures c.pop-in-Among.ensures.left h')
