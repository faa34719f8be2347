-- The bytes of a line have at most one reply, and all bytes one output.
use Rattle.std.proofs.Common.{◌≡◌, ℕ, Bool, true, false, nat_eq, List, [], ◌∷◌, ◌++◌, map, Option, Some, None, refl, sym, ap, ◌∙◌, subst, arith, true≢false}
use Rattle.std.specs.List.{AllByRecursion, find}
use Rattle.at_model.specs.Rules.{Rules}
use Rattle.at_model.specs.Lines.{Line, BeginsWith, IsSpaceOrEnd, IsSessionOf, Spells, lines}
use Rattle.at_model.specs.Replies.{Reply, Form, Posting, Code, Refused, Memory}
use Rattle.at_model.specs.Replies as code
use Rattle.at_model.specs.Machine.{State, Posted, Verdict, Waits, Says, Step, Handles, obeys, waits, refuses, Serves, handles, runs_out, Answered, AnswersPosted, Runs, end, next, Outputs, text_of, done_reply, seen_by, line_of, verdict}
use Rattle.at_model.specs.Waited.{IsWaited}
use Rattle.at_model.specs.Effects.{is_post, PostNothing}
use Rattle.at_model.proofs.of_texts.Words.{Stops, delimits}
use Rattle.at_model.proofs.of_texts.OneTerm.{same_decimal}
use Rattle.at_model.proofs.of_texts.OneLine.{same_line}
use Rattle.at_model.proofs.of_machines.Steps.{AnswersOnce, answers_once, says_once, steps_once, refused_step}
use Rattle.at_model.proofs.of_machines.Commanded.{none_after}
use Rattle.at_model.proofs.of_machines.Machines.{none_given, waited}
use Rattle.at_model.proofs.of_machines.Runs.{append_nil}

space_stops : (r : List ℕ) → IsSpaceOrEnd r → Stops r
space_stops [] h = tt
space_stops (b ∷ r) h = subst (λ (c : ℕ). delimits c ≡ true) (sym h) refl

same_beginning : (bytes : List ℕ) (m n : ℕ) → BeginsWith bytes m → BeginsWith bytes n → m ≡ n
same_beginning bytes m n h k = (same_decimal m n h.rest k.rest (omega (arith, h.exists)) (omega (arith, k.exists))
    (space_stops h.rest h.behind) (space_stops k.rest k.behind) (sym h.front ∙ k.front)).0

pub same_session : (bytes : List ℕ) (a b : Option ℕ) → IsSessionOf bytes a → IsSessionOf bytes b → a ≡ b
same_session bytes (Some m) (Some n) h k = ap Some (same_beginning bytes m n h k)
same_session bytes (Some m) None h k = absurd (k m h)
same_session bytes None (Some n) h k = absurd (h n k)
same_session bytes None None h k = refl

same_of : {A : Type 0} {a b : A} → Some a ≡ Some b → a ≡ b
same_of e = cc

-- what is waited for is told once
waited_once : (rules : Rules) → AnswersOnce rules → (number : ℕ) (old new other : State) (said also : Bool × Reply) →
    IsWaited rules number old new said → IsWaited rules number old other also → said.0 ≡ also.0 → (new ≡ other) × (said ≡ also)
waited_once rules single number old new other said also h k e =
    let same : h.question ≡ k.question = same_of (sym h.there ∙ k.there) in
    let forms : said.1.form ≡ also.1.form = by_memory said.0 refl in
    let reply : said.1 ≡ also.1 = h.reply ∙ (λ i. done_reply old (same i) (forms i)) ∙ sym k.reply in
    (h.state ∙ sym k.state, λ i. (e i, reply i))
  where
    by_memory : (b : Bool) → said.0 ≡ b → said.1.form ≡ also.1.form
    by_memory true is = h.memory is ∙ sym (k.memory (sym e ∙ is))
    by_memory false is =
        let q = h.question in
        let same : k.question ≡ q = same_of (sym k.there ∙ h.there) in
        says_once rules single (seen_by q old) (verdict rules (seen_by q old) (line_of q)) said.1.form also.1.form (h.told is)
        (subst (λ (x : Posted). AnswersPosted rules old x also.1.form) same (k.told (sym e ∙ is)))

-- a line that is told something at once doesn't wait
waits_not : (rules : Rules) (old : State) (v : Verdict) (form : Form) (number : ℕ) → Says rules old v form → v ≡ Waits number → ⊥
waits_not rules old v form number says e = subst (λ x. Says rules old x form) e says

same_waits : {m n : ℕ} → Waits m ≡ Waits n → m ≡ n
same_waits e = cc

pub handles_once : (rules : Rules) → AnswersOnce rules → (old : State) (bytes : List ℕ) (new other : State) (said also : Bool × Reply) →
    Handles rules old bytes new said → Handles rules old bytes other also → said.0 ≡ also.0 → (new ≡ other) × (said ≡ also)
handles_once rules single old bytes new other _ _ (obeys l {reply = reply} s h) (obeys m {reply = told} t k) e =
    let P : Line → Type 0 = λ x. Step rules old x other told in
    let both = steps_once rules single old l new other reply told h (subst P (sym (same_line l m s.is_line t.is_line (sym s.text ∙ t.text))) k) in
    (both.0, ap (λ (r : Reply). (false, r)) both.1)
handles_once rules single old bytes new other _ also (obeys l {reply = reply} s h) (waits m number t is answered) e =
    let same = same_line l m s.is_line t.is_line (sym s.text ∙ t.text) in
    absurd (waits_not rules old (verdict rules old l) reply.form number h.says (ap (verdict rules old) same ∙ is))
handles_once rules single old bytes new other _ _ (obeys l s h) (refuses none session) e = absurd (none l s)
handles_once rules single old bytes new other said _ (waits l number s is answered) (obeys m {reply = reply} t k) e =
    let same = same_line m l t.is_line s.is_line (sym t.text ∙ s.text) in
    absurd (waits_not rules old (verdict rules old m) reply.form number k.says (ap (verdict rules old) same ∙ is))
handles_once rules single old bytes new other said also (waits l number s is answered) (waits m number' t is' answered') e =
    let same = same_line l m s.is_line t.is_line (sym s.text ∙ t.text) in
    let numbers : number' ≡ number = same_waits (sym is' ∙ ap (verdict rules old) (sym same) ∙ is) in
    waited_once rules single number old new other said also (waited rules number old new said answered)
    (subst (λ (n : ℕ). IsWaited rules n old other also) numbers (waited rules number' old other also answered')) e
handles_once rules single old bytes new other said _ (waits l number s is answered) (refuses none session) e = absurd (none l s)
handles_once rules single old bytes new other _ _ (refuses none session) (obeys m t k) e = absurd (none m t)
handles_once rules single old bytes new other _ also (refuses none session) (waits m number t is answered) e = absurd (none m t)
handles_once rules single old bytes new other _ _ (refuses {session = a} none session) (refuses {session = b} none' session') e =
    let sessions = same_session bytes a b session session' in
    (refl, λ i. (false, record { session = sessions i; done = None; form = Refused code.Syntax }))

none_open_numbered : (number : ℕ) (qs : List Posted) (q : Posted) → qs ≡ [] → find (λ q. nat_eq number q.number) qs ≡ Some q → ⊥
none_open_numbered number [] q e f = cc
none_open_numbered number (x ∷ qs) q e f = cc

none_waited : (rules : Rules) (number : ℕ) (old new : State) (said : Bool × Reply) → old.posted ≡ [] → Answered rules number old new said → ⊥
none_waited rules number old new said none answered = let w = waited rules number old new said answered in none_open_numbered number old.posted w.question none w.there

-- where no question is open, a line runs out of memory alone
handles_told : (rules : Rules) (old : State) (bytes : List ℕ) (new : State) (said : Bool × Reply) → old.posted ≡ [] → Handles rules old bytes new said → said.0 ≡ false
handles_told rules old bytes new _ none (obeys l s h) = refl
handles_told rules old bytes new said none (waits l number s is answered) = absurd (none_waited rules number old new said none answered)
handles_told rules old bytes _ _ none (refuses no_line session) = refl

pub serves_once : (rules : Rules) → AnswersOnce rules → (old : State) (line : List ℕ) (new other : State) (said also : Bool × Reply) → old.posted ≡ [] →
    Serves rules old line new said → Serves rules old line other also → said.0 ≡ also.0 → (new ≡ other) × (said ≡ also)
serves_once rules single old line new other said also none (handles h) (handles k) e = handles_once rules single old line new other said also h k e
serves_once rules single old line new _ said _ none (handles h) (runs_out session) e = absurd (true≢false (sym e ∙ handles_told rules old line new said none h))
serves_once rules single old line _ other _ also none (runs_out session) (handles h) e = absurd (true≢false (e ∙ handles_told rules old line other also none h))
serves_once rules single old line _ _ _ _ none (runs_out {session = a} session) (runs_out {session = b} session') e =
    let sessions = same_session line a b session session' in
    (refl, λ i. (true, record { session = sessions i; done = None; form = Memory }))

-- and none is open behind it, if it posts none
none_handled : (rules : Rules) (old : State) (bytes : List ℕ) (new : State) (said : Bool × Reply) → old.posted ≡ []
    → ((l : Line) → Spells bytes l → is_post l.command ≡ false) → Handles rules old bytes new said → new.posted ≡ []
none_handled rules old bytes new _ none no_post (obeys l s h) = ap (λ (x : State). x.posted) h.state ∙ none_after rules old l none (no_post l s)
none_handled rules old bytes new said none no_post (waits l number s is answered) = absurd (none_waited rules number old new said none answered)
none_handled rules old bytes _ _ none no_post (refuses no_line session) = none

none_served : (rules : Rules) (old : State) (bytes : List ℕ) (new : State) (said : Bool × Reply) → old.posted ≡ []
    → ((l : Line) → Spells bytes l → is_post l.command ≡ false) → Serves rules old bytes new said → new.posted ≡ []
none_served rules old bytes new said none no_post (handles h) = none_handled rules old bytes new said none no_post h
none_served rules old bytes _ _ none no_post (runs_out session) = none

-- no line of these posts a question
abbrev pub NonePosts : List (List ℕ) → Type 0
NonePosts ls = AllByRecursion (λ line. (l : Line) → Spells line l → is_post l.command ≡ false) ls

-- a run from where none is open, line by line: the turns tell nothing and change nothing
pub data Plainly (rules : Rules) : State → List (List ℕ) → List (Bool × Reply) → State → Type 0 where
  ended : (s : State) → s.posted ≡ [] → Plainly rules s [] [] s
  served : {old mid new : State} {line : List ℕ} {rest : List (List ℕ)} {said : Bool × Reply} {more : List (Bool × Reply)} → old.posted ≡ [] →
      Serves rules old line mid said → Plainly rules mid rest more new → Plainly rules old (line ∷ rest) (said ∷ more) new

plainly : (rules : Rules) (slice : ℕ) (old : State) (ls : List (List ℕ)) (told : List (Bool × Reply)) (new : State)
    → old.posted ≡ [] → NonePosts ls → Runs rules slice old ls told new → Plainly rules old ls told new
plainly rules slice _ _ _ _ none no_post (end s) = ended s none
plainly rules slice old _ _ new none no_post (next {mid = mid} {turned = turned} {line = line} {rest = rest} {said = said} {told = told} {more = more} serves given runs) =
    let none_now = none_served rules old line mid said none no_post.0 serves in
    let (nothing, same) = none_given rules slice mid told turned none_now given in
    let still = ap (λ (x : State). x.posted) same ∙ none_now in
    let goes = plainly rules slice turned rest more new still no_post.1 runs in
    subst (λ front. Plainly rules old (line ∷ rest) (said ∷ (front ++ more)) new) (sym nothing) (served none serves (subst (λ x. Plainly rules x rest more new) same goes))

plainly_ends : (rules : Rules) (old : State) (ls : List (List ℕ)) (told : List (Bool × Reply)) (new : State) → Plainly rules old ls told new → new.posted ≡ []
plainly_ends rules _ _ _ _ (ended s none) = none
plainly_ends rules old _ _ new (served {mid = mid} {rest = rest} {more = more} none serves goes) = plainly_ends rules mid rest more new goes

plainly_once : (rules : Rules) (old : State) (ls : List (List ℕ)) (told also : List (Bool × Reply)) (new other : State) → Plainly rules old ls told new → Plainly rules old ls also other →
    map (λ (x : Bool × Reply). x.0) told ≡ map (λ (x : Bool × Reply). x.0) also → (told ≡ also) × (new ≡ other)
plainly_once rules _ _ _ _ _ _ (ended s none) (ended s' none') e = (refl, refl)
plainly_once rules old _ _ _ new other (served {mid = mid} {line = line} {rest = rest} {said = said} {more = more} none
    serves goes) (served {mid = mid'} {said = said'} {more = more'} none' serves' goes') e =
    let heads : said.0 ≡ said'.0 = cc in
    let tails : map (λ (x : Bool × Reply). x.0) more ≡ map (λ (x : Bool × Reply). x.0) more' = cc in
    let both = serves_once rules (answers_once rules) old line mid mid' said said' none serves serves' heads in
    let goes_on = plainly_once rules mid rest more more' new other goes (subst (λ x. Plainly rules x rest more' other) (sym both.0) goes') tails in
    (λ i. both.1 i ∷ goes_on.0 i, goes_on.1)

pub output_plain : (rules : Rules) (slice : ℕ) (old : State) (bytes : List ℕ) (told : List (Bool × Reply)) (new : State)
    → old.posted ≡ [] → PostNothing bytes → Outputs rules slice old bytes told new
    → Plainly rules old (lines bytes) told new
output_plain rules slice old bytes told new none no_post h =
    let goes = plainly rules slice old (lines bytes) h.front h.mid none no_post h.runs in
    let (nothing, same) = none_given rules h.turns h.mid h.back new (plainly_ends rules old (lines bytes) h.front h.mid goes) h.drained in
    let all : told ≡ h.front = h.whole ∙ ap (λ xs. h.front ++ xs) nothing ∙ append_nil h.front in
    subst (λ xs. Plainly rules old (lines bytes) xs new) (sym all) (subst (λ x. Plainly rules old (lines bytes) h.front x) (sym same) goes)

pub outputs_once : (rules : Rules) (slice other_slice : ℕ) (old : State) (bytes : List ℕ) (told also : List (Bool × Reply)) (new other : State) → old.posted ≡ [] → PostNothing bytes →
    Outputs rules slice old bytes told new → Outputs rules other_slice old bytes also other → map (λ (x : Bool × Reply).
    x.0) told ≡ map (λ (x : Bool × Reply). x.0) also → (text_of told ≡ text_of also) × (new ≡ other)
outputs_once rules slice other_slice old bytes told also new other none no_post h k e =
    let both = plainly_once rules old (lines bytes) told also new other (output_plain rules slice old bytes told new
    none no_post h) (output_plain rules other_slice old bytes also other none no_post k) e in
    (ap text_of both.0, both.1)

some_not_none : (p : Posting) → Some p ≡ None → ⊥
some_not_none p e = cc

pub refused_bytes : (rules : Rules) (old : State) (bytes : List ℕ) (new : State) (said : Bool × Reply) (refusal : Code) →
    Handles rules old bytes new said → said.1.done ≡ None → said.1.form ≡ Refused refusal → new ≡ old
refused_bytes rules old bytes new _ refusal (obeys l {reply = reply} s h) d e = refused_step rules old l new reply refusal h e
refused_bytes rules old bytes new said refusal (waits l number s is answered) d e =
    let w = waited rules number old new said answered in
    absurd (some_not_none (record { number = w.question.number; version = old.version }) (sym (ap (λ (r : Reply). r.done) w.reply) ∙ d))
refused_bytes rules old bytes _ _ refusal (refuses none session) d e = refl
