-- A step has one reply, a refused line leaves the state, and only an accepted edit changes the tree and the version.
use Rattle.std.proofs.Common.{◌≡◌, refl, sym, ap, ◌∙◌}
use Rattle.at_model.specs.Trees.{Tree}
use Rattle.at_model.specs.Paths.{Node}
use Rattle.at_model.specs.Run.{Instance}
use Rattle.at_model.specs.Rules.{Rules}
use Rattle.at_model.specs.Meaning.{Answer, Outcomes, Circle, content}
use Rattle.at_model.specs.Lines.{Line}
use Rattle.at_model.specs.Replies.{Reply, Form, Refused, Code}
use Rattle.at_model.specs.Machine.{State, Verdict, Refuses, Tells, Leaves, Edits, Asks, Posts, Waits, AnswersIn, Says, after, Step, answer_form, verdict}
use Rattle.at_model.specs.of_fixpoints.Evaluations.{forms}
use Rattle.at_model.proofs.of_formulas.UniqueOutcomes.{once}
use Rattle.at_model.proofs.of_formulas.ClosedOnce.{not_both, closes_at_one}

-- each instance has at most one answer
abbrev pub AnswersOnce : Rules → Type 0
AnswersOnce rules = (t : Tree) (q : Instance Node) (a b : Answer Node) → AnswersIn rules t q a → AnswersIn rules t q b → a ≡ b

pub answers_once : (rules : Rules) → AnswersOnce rules
answers_once rules t q (Outcomes o) (Outcomes p) h k = ap Outcomes (once (content t) (forms rules) q o p h k)
answers_once rules t q (Outcomes o) (Circle j) h k = absurd (not_both (content t) (forms rules) q j o h k)
answers_once rules t q (Circle j) (Outcomes o) h k = absurd (not_both (content t) (forms rules) q j o k h)
answers_once rules t q (Circle i) (Circle j) h k = ap Circle (closes_at_one (content t) (forms rules) q i j h k)

pub says_once : (rules : Rules) → AnswersOnce rules → (old : State) (v : Verdict) (form told : Form) →
    Says rules old v form → Says rules old v told → form ≡ told
says_once rules single old (Refuses refusal) form told h k = h ∙ sym k
says_once rules single old (Tells shown) form told h k = h ∙ sym k
says_once rules single old (Leaves marks) form told h k = h ∙ sym k
says_once rules single old (Edits e t) form told h k = h ∙ sym k
says_once rules single old (Asks q) form told (a, p, f) (b, r, g) = f ∙ ap (answer_form rules old.tree) (single old.tree q a b p r) ∙ sym g
says_once rules single old (Posts q) form told h k = h ∙ sym k
says_once rules single old (Waits number) form told h k = absurd h

pub steps_once : (rules : Rules) → AnswersOnce rules → (old : State) (l : Line) (new other : State) (reply told : Reply) →
    Step rules old l new reply → Step rules old l other told → (new ≡ other) × (reply ≡ told)
steps_once rules single old l new other reply told h k =
    let session : reply.session ≡ told.session = h.session ∙ sym k.session in
    let done : reply.done ≡ told.done = h.done ∙ sym k.done in
    let form = says_once rules single old (verdict rules old l) reply.form told.form h.says k.says in
    (h.state ∙ sym k.state, λ i. record { session = session i; done = done i; form = form i })

-- what is told that it is refused has left the state
refused_after : (rules : Rules) (old : State) (v : Verdict) (form : Form) (refusal : Code) →
    Says rules old v form → form ≡ Refused refusal → after old v ≡ old
refused_after rules old (Refuses c) form refusal h e = refl
refused_after rules old (Tells shown) form refusal h e = refl
refused_after rules old (Leaves marks) form refusal h e = absurd cc
refused_after rules old (Edits by t) form refusal h e = absurd cc
refused_after rules old (Asks q) form refusal h e = refl
refused_after rules old (Posts q) form refusal h e = absurd cc
refused_after rules old (Waits number) form refusal h e = refl

pub refused_step : (rules : Rules) (old : State) (l : Line) (new : State) (reply : Reply) (refusal : Code) →
    Step rules old l new reply → reply.form ≡ Refused refusal → new ≡ old
refused_step rules old l new reply refusal h e = h.state ∙ refused_after rules old (verdict rules old l) reply.form refusal h.says e
