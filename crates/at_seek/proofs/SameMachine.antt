-- What the machine tells by rules that are searched for others, it tells by those.
use Rattle.std.proofs.Common.{◌≡◌, ℕ, Bool, List, [], ◌∷◌, Option, Some, None, refl, sym, ap, ◌∙◌, subst}
use Rattle.at_model.specs.Classes.{AreSound}
use Rattle.at_model.specs.Trees.{Tree}
use Rattle.at_model.specs.Paths.{Node}
use Rattle.at_model.specs.Run.{Value, Instance}
use Rattle.at_model.specs.Rules.{Rules, Kind, OwnEquation, InheritedEquation}
use Rattle.at_model.specs.Meaning.{Answer, Outcomes, Circle, Finds, Faults, content}
use Rattle.at_model.specs.Asking.{IsWellFormed}
use Rattle.at_model.specs.Enduring.{AreTokens}
use Rattle.at_model.specs.TypedRuns.{class_at, ClassAt, Texts, AreArguments, IsWellTyped}
use Rattle.at_model.specs.Instances.{AnyText, IsGiven}
use Rattle.at_model.specs.WellFormed.{AreWellFormed, IsTreeSound}
use Rattle.at_model.specs.of_fixpoints.Evaluations.{forms}
use Rattle.at_model.specs.of_fixpoints.Circles.{Answers}
use Rattle.at_model.specs.Lines.{Line, lines}
use Rattle.at_model.specs.Replies.{Reply, Form}
use Rattle.at_model.specs.Machine.{State, Verdict, Refuses, Tells, Leaves, Edits, Asks, Posts, Waits, verdict, after, answer_form, Says, Step, seen_by, line_of, Turns, stays, answers, runs_out, Answered, last, more, Handles, obeys, waits, refuses, Serves, handles, Given, spent, none_open, silent, telling, Runs, end, next, Outputs}
use Rattle.at_model.specs.Machine as machine
use Rattle.at_model.proofs.of_machines.Sound.{sound_turn, sound_served}
use Rattle.at_model.proofs.of_machines.TokensKept.{tokens_served}
use Rattle.at_model.proofs.of_machines.WellAsked.{well_asked}
use Rattle.at_model.proofs.of_typing.TypedQuestions.{typed_of_formed}
use Rattle.at_model.proofs.of_typing.TypedTogether.{any_text}
use Rattle.at_seek.specs.Sought.{IsSought}
use Rattle.at_seek.specs.Standing.{Stands}
use Rattle.at_seek.proofs.KindsKept.{other}
use Rattle.at_seek.proofs.EquationsKept.{as_other, sought_other}
use Rattle.at_seek.proofs.SameAnswers.{answers_to, answers_from}

with_any : (rules : Rules) (at : ClassAt Node) (Allowed : Texts) (vs : List (Value Node)) (ks : List Kind) → AreArguments rules.classes at Allowed vs ks
    → AreArguments rules.classes at AnyText vs ks
with_any rules at Allowed [] [] h = tt
with_any rules at Allowed (v ∷ vs) (k ∷ ks) h = (h.0, any_text v, with_any rules at Allowed vs ks h.2)
with_any rules at Allowed [] (k ∷ ks) h = absurd h
with_any rules at Allowed (v ∷ vs) [] h = absurd h

pub well_typed : (rules : Rules) (t : Tree) (q : Instance Node) → IsWellFormed rules t q → IsWellTyped rules (class_at t) AnyText q
well_typed rules t q formed =
    let w = typed_of_formed rules t q formed in
    record {
      class = w.class;
      declaration = w.declaration;
      node = w.node;
      attribute = w.attribute;
      declared = w.declared;
      arguments = with_any rules (class_at t) (IsGiven rules t q.arguments) q.arguments w.declaration.parameters w.arguments;
    }

pub formed_to : (rules also : Rules) → IsSought rules also → AreWellFormed rules → (t : Tree) → IsTreeSound rules.classes t → (q : Instance Node) (a : Answer Node)
    → IsWellFormed rules t q → Answers (content t) (forms rules) q a → Answers (content t) (forms also) q a
formed_to rules also s ok t sound q a formed h =
    subst (λ (x : Rules). Answers (content t) (forms x) q a) (as_other rules also s)
    (answers_to rules also.own also.inherited (sought_other rules also s) ok t sound q a (well_typed rules t q formed) h)

pub formed_from : (rules also : Rules) → IsSought rules also → AreWellFormed rules → (t : Tree) → IsTreeSound rules.classes t → (q : Instance Node) (a : Answer Node)
    → IsWellFormed rules t q → Answers (content t) (forms also) q a → Answers (content t) (forms rules) q a
formed_from rules also s ok t sound q a formed h =
    answers_from rules also.own also.inherited (sought_other rules also s) ok t sound q a (well_typed rules t q formed)
    (subst (λ (x : Rules). Answers (content t) (forms x) q a) (sym (as_other rules also s)) h)

module _ (rules : Rules) (own : List OwnEquation) (inherited : List InheritedEquation) (sought : IsSought rules (other rules own inherited))
    (ok : AreWellFormed rules) (classes : AreSound rules.classes) where
  abbrev others : Rules
  others = other rules own inherited

  tree_sound : (s : State) → Stands rules.classes s → IsTreeSound rules.classes s.tree
  tree_sound s h = record { conform = h.sound.tree_conforms; within = h.sound.tree_within; tokens = h.tokens }

  same_form : (t : Tree) (a : Answer Node) → answer_form others t a ≡ answer_form rules t a
  same_form t (Outcomes (Finds v)) = refl
  same_form t (Outcomes (Faults kind i)) = refl
  same_form t (Circle i) = refl

  says_from : (s : State) (v : Verdict) (form : Form) → IsTreeSound rules.classes s.tree → ((q : Instance Node) → v ≡ Asks q → IsWellFormed rules s.tree q)
      → Says others s v form → Says rules s v form
  says_from s (Refuses refusal) form sound asked h = h
  says_from s (Tells shown) form sound asked h = h
  says_from s (Leaves marks) form sound asked h = h
  says_from s (Edits e t) form sound asked h = h
  says_from s (Asks q) form sound asked (a, told, is) = (
    a,
    answers_from rules own inherited sought ok s.tree sound q a (well_typed rules s.tree q (asked q refl)) told,
    is ∙ same_form s.tree a,
  )
  says_from s (Posts q) form sound asked h = h
  says_from s (Waits number) form sound asked h = h

  same_verdict : (s : State) (l : Line) → verdict others s l ≡ verdict rules s l
  same_verdict s l = refl

  said_from : (s : State) (l : Line) (form : Form) → IsTreeSound rules.classes s.tree → Says others s (verdict others s l) form → Says rules s (verdict rules s l) form
  said_from s l form sound h =
      says_from s (verdict rules s l) form sound (λ q e. well_asked rules s l q e) (subst (λ (v : Verdict). Says others s v form) (same_verdict s l) h)

  step_from : (old : State) (l : Line) (new : State) (reply : Reply) → Stands rules.classes old → Step others old l new reply → Step rules old l new reply
  step_from old l new reply h step = record {
    session = step.session;
    done = step.done;
    state = step.state ∙ ap (after old) (same_verdict old l);
    says = said_from old l reply.form (tree_sound old h) step.says;
  }

  pub turn_from : (old : State) (number : ℕ) (new : State) (said : Option (Bool × Reply)) → Stands rules.classes old → Turns others old number new said
      → Turns rules old number new said
  turn_from old number _ _ h (stays q is) = stays q is
  turn_from old number _ _ h (answers q form is told) = answers q form is (said_from (seen_by q old) (line_of q) form (tree_sound old h) told)
  turn_from old number _ _ h (runs_out q is) = runs_out q is

  turned_tokens : (old : State) (number : ℕ) (new : State) (said : Option (Bool × Reply)) → AreTokens old.tree → Turns rules old number new said → AreTokens new.tree
  turned_tokens old number _ _ h (stays q is) = h
  turned_tokens old number _ _ h (answers q form is told) = h
  turned_tokens old number _ _ h (runs_out q is) = h

  turned_stands : (old : State) (number : ℕ) (new : State) (said : Option (Bool × Reply)) → Stands rules.classes old → Turns rules old number new said → Stands rules.classes new
  turned_stands old number new said h turn =
      record { sound = sound_turn rules old number new said h.sound turn; tokens = turned_tokens old number new said h.tokens turn }

  answered_from : (number : ℕ) (old new : State) (said : Bool × Reply) → Stands rules.classes old → Answered others number old new said → Answered rules number old new said
  answered_from number old new said h (last turn) = last (turn_from old number new (Some said) h turn)
  answered_from number old new said h (more {mid = mid} turn rest) =
      let one = turn_from old number mid None h turn in
      more one (answered_from number mid new said (turned_stands old number mid None h one) rest)

  handled_from : (old : State) (bytes : List ℕ) (new : State) (said : Bool × Reply) → Stands rules.classes old → Handles others old bytes new said → Handles rules old bytes new said
  handled_from old bytes new _ h (obeys l {reply = reply} spells step) = obeys l spells (step_from old l new reply h step)
  handled_from old bytes new said h (waits l number spells is answered) =
      waits l number spells (sym (same_verdict old l) ∙ is) (answered_from number old new said h answered)
  handled_from old bytes _ _ h (refuses none session) = refuses none session

  pub served_from : (old : State) (bytes : List ℕ) (new : State) (said : Bool × Reply) → Stands rules.classes old → Serves others old bytes new said → Serves rules old bytes new said
  served_from old bytes new said h (handles x) = handles (handled_from old bytes new said h x)
  served_from old bytes _ _ h (machine.runs_out session) = machine.runs_out session

  pub served_stands : (old : State) (bytes : List ℕ) (new : State) (said : Bool × Reply) → Stands rules.classes old → Serves rules old bytes new said → Stands rules.classes new
  served_stands old bytes new said h x =
      record { sound = sound_served rules old bytes new said h.sound x; tokens = tokens_served rules classes old bytes new said h.tokens x }

  pub given_from : (limit : ℕ) (old : State) (told : List (Bool × Reply)) (new : State) → Stands rules.classes old → Given others limit old told new
      → Given rules limit old told new × Stands rules.classes new
  given_from _ _ _ _ h (spent s) = (spent s, h)
  given_from _ _ _ _ h (none_open limit s none) = (none_open limit s none, h)
  given_from _ _ _ new h (silent {limit = limit} {s = s} {mid = mid} {told = told} q is turn rest) =
      let one = turn_from s q.number mid None h turn in
      let (x, stands) = given_from limit mid told new (turned_stands s q.number mid None h one) rest in
      (silent q is one x, stands)
  given_from _ _ _ new h (telling {limit = limit} {s = s} {mid = mid} {said = said} {told = told} q is turn rest) =
      let one = turn_from s q.number mid (Some said) h turn in
      let (x, stands) = given_from limit mid told new (turned_stands s q.number mid (Some said) h one) rest in
      (telling q is one x, stands)

  pub ran_from : (slice : ℕ) (old : State) (ls : List (List ℕ)) (told : List (Bool × Reply)) (new : State) → Stands rules.classes old → Runs others slice old ls told new
      → Runs rules slice old ls told new × Stands rules.classes new
  ran_from slice _ _ _ _ h (end s) = (end s, h)
  ran_from slice old _ _ new h (next {mid = mid} {turned = turned} {line = line} {rest = rest} {said = said} {told = told} {more = others_told} serves given runs) =
      let one = served_from old line mid said h serves in
      let (two, stands) = given_from slice mid told turned (served_stands old line mid said h one) given in
      let (three, stand) = ran_from slice turned rest others_told new stands runs in
      (next one two three, stand)

  pub output_from : (slice : ℕ) (old : State) (bytes : List ℕ) (told : List (Bool × Reply)) (new : State) → Stands rules.classes old
      → Outputs others slice old bytes told new → Outputs rules slice old bytes told new × Stands rules.classes new
  output_from slice old bytes told new h out =
      let (runs, stands) = ran_from slice old (lines bytes) out.front out.mid h out.runs in
      let (drained, stand) = given_from out.turns out.mid out.back new stands out.drained in (
        record { mid = out.mid; front = out.front; runs = runs; turns = out.turns; back = out.back; drained = drained; none_open = out.none_open; whole = out.whole },
        stand,
      )

-- for rules as they come -----------------------------------------------------------------------------------------------------

pub line_from : (rules also : Rules) → IsSought rules also → AreWellFormed rules → AreSound rules.classes
    → (old : State) (line : List ℕ) (new : State) (said : Bool × Reply) → Stands rules.classes old
    → Serves also old line new said → Serves rules old line new said × Stands rules.classes new
line_from rules also s ok classes old line new said h x =
    let one = served_from rules also.own also.inherited (sought_other rules also s) ok classes old line new said h
    (subst (λ (z : Rules). Serves z old line new said) (sym (as_other rules also s)) x) in
    (one, served_stands rules also.own also.inherited (sought_other rules also s) ok classes old line new said h one)

pub ticks_from : (rules also : Rules) → IsSought rules also → AreWellFormed rules → AreSound rules.classes
    → (old : State) (number : ℕ) (new : State) (said : Option (Bool × Reply)) → Stands rules.classes old
    → Turns also old number new said → Turns rules old number new said × Stands rules.classes new
ticks_from rules also s ok classes old number new said h x =
    let one = turn_from rules also.own also.inherited (sought_other rules also s) ok classes old number new said h
    (subst (λ (z : Rules). Turns z old number new said) (sym (as_other rules also s)) x) in
    (one, turned_stands rules also.own also.inherited (sought_other rules also s) ok classes old number new said h one)

pub turns_from : (rules also : Rules) → IsSought rules also → AreWellFormed rules → AreSound rules.classes
    → (limit : ℕ) (old : State) (told : List (Bool × Reply)) (new : State) → Stands rules.classes old
    → Given also limit old told new → Given rules limit old told new × Stands rules.classes new
turns_from rules also s ok classes limit old told new h x =
    given_from rules also.own also.inherited (sought_other rules also s) ok classes limit old told new h
    (subst (λ (z : Rules). Given z limit old told new) (sym (as_other rules also s)) x)

pub lines_from : (rules also : Rules) → IsSought rules also → AreWellFormed rules → AreSound rules.classes
    → (slice : ℕ) (old : State) (ls : List (List ℕ)) (told : List (Bool × Reply)) (new : State) → Stands rules.classes old
    → Runs also slice old ls told new → Runs rules slice old ls told new × Stands rules.classes new
lines_from rules also s ok classes slice old ls told new h x =
    ran_from rules also.own also.inherited (sought_other rules also s) ok classes slice old ls told new h
    (subst (λ (z : Rules). Runs z slice old ls told new) (sym (as_other rules also s)) x)

pub bytes_from : (rules also : Rules) → IsSought rules also → AreWellFormed rules → AreSound rules.classes
    → (slice : ℕ) (old : State) (bytes : List ℕ) (told : List (Bool × Reply)) (new : State) → Stands rules.classes old
    → Outputs also slice old bytes told new → Outputs rules slice old bytes told new × Stands rules.classes new
bytes_from rules also s ok classes slice old bytes told new h x =
    output_from rules also.own also.inherited (sought_other rules also s) ok classes slice old bytes told new h
    (subst (λ (z : Rules). Outputs z slice old bytes told new) (sym (as_other rules also s)) x)
