-- How a worked session is shown, line by line.
use Rattle.std.proofs.Common.{◌≡◌, ℕ, ◌+◌, Bool, true, false, not, ◌&&◌, List, [], ◌∷◌, ◌++◌, Option, Some, None, refl, sym, ap, ◌∙◌, subst}
use Rattle.std.proofs.lemmas.Bool.{eq-eqb}
use Rattle.std.specs.Str.{bytes_eq}
use Rattle.std.proofs.lemmas.Slice.Eq.{bytes_eq-Decides}
use Rattle.std.specs.List.{AllByRecursion}
use Rattle.at_model.specs.Run.{Instance}
use Rattle.at_model.specs.Paths.{Node}
use Rattle.at_model.specs.Rules.{Rules}
use Rattle.at_model.specs.Meaning.{Answer, Answers, content, equations}
use Rattle.at_model.specs.Trees.{Tree}
use Rattle.at_model.proofs.Options.{both}
use Rattle.at_model.proofs.of_formulas.PlainAnswered.{all_plain, plain_starts, answered}
use Rattle.at_model.specs.Lines.{Line, line_text, Spells, IsSessionOf}
use Rattle.at_model.specs.Replies.{Reply, Form, Done, Opened, Shows, Refused, Memory, reply_text}
use Rattle.at_model.specs.Replies as code
use Rattle.at_model.specs.Machine.{State, Posted, Verdict, Refuses, Tells, Leaves, Edits, Asks, Posts, Waits, AnswersIn, AnswersPosted, Says, obeys, waits, refuses, Serves, handles, stays, answers, last, Given, spent, none_open, silent, telling, end, next, text_of, first_of, numbered, without, given_one, done_reply, seen_by, line_of, after, verdict, answer_form}
use Rattle.at_model.specs.Playing.{Exchange, Plays}
use Rattle.at_model.proofs.of_texts.PlainLines.{is_plain_line, spelled}
use Rattle.at_model.proofs.of_texts.Words.{all_and}
use Rattle.at_model.proofs.of_machines.Runs.{append_nil, text_append}

-- the reply to a line
abbrev pub reply_to : Line → Form → Reply
reply_to l form = record { session = Some l.session; done = None; form = form }

-- each of these is told for no want of memory
abbrev Within : List (Bool × Reply) → Type 0
Within told = AllByRecursion (λ (x : Bool × Reply). x.0 ≡ false) told

within_append : (xs ys : List (Bool × Reply)) → Within xs → Within ys → Within (xs ++ ys)
within_append [] ys h k = k
within_append (x ∷ xs) ys h k = (h.0, within_append xs ys h.1 k)

-- one more line at the front, with the turn behind it
more : (rules : Rules) (old mid turned : State) (e : Exchange) (said : Bool × Reply) (turn : List (Bool × Reply))
    (rest : List Exchange) → Serves rules old e.line mid said → Given rules 1 mid turn turned → said.0 ≡ false
    → Within turn →
    text_of (said ∷ turn) ≡ e.reply ++ 10 ∷ [] → Plays rules turned rest → Plays rules old (e ∷ rest)
more rules old mid turned e said turn rest serves given b bs text goes = record {
  left = goes.left;
  told = said ∷ (turn ++ goes.told);
  runs = next serves given goes.runs;
  within_memory = (b, within_append turn goes.told bs goes.within_memory);
  text = text_append (said ∷ turn) goes.told ∙ ap (λ z. z ++ text_of goes.told) text ∙ ap (λ z. (e.reply ++ 10 ∷ []) ++ z) goes.text;
}

pub ends : {rules : Rules} {s : State} → Plays rules s []
ends {rules} {s} = record { left = s; told = []; runs = end s; within_memory = tt; text = refl }

-- the state behind a turn that answers nothing, and that there may be such a turn
abbrev pub turned : State → State
turned s = elim (first_of s.posted) [ None ↦ s | Some q ↦ given_one q.number s ]

pub silent_turn : (rules : Rules) (s : State) → Given rules 1 s [] (turned s)
silent_turn rules s = by_posted s.posted refl
  where
    by_posted : (qs : List Posted) → s.posted ≡ qs → Given rules 1 s [] (elim (first_of qs) [ None ↦ s | Some q ↦ given_one q.number s ])
    by_posted [] is = none_open 1 s is
    by_posted (q ∷ qs) is =
        let found : numbered s q.number ≡ Some q = rw (is, eq-eqb q.number q.number refl) refl in
        silent {limit = 0} q (ap first_of is) (stays q found) (spent (given_one q.number s))

-- the reply alone
alone : (r : Reply) → text_of ((false, r) ∷ []) ≡ reply_text r
alone r = append_nil (reply_text r)

pub serves_line : (rules : Rules) (old : State) (l : Line) (bytes : List ℕ) (form : Form) → is_plain_line l ≡ true
    → line_text l ≡ bytes → Says rules old (verdict rules old l) form
    → Serves rules old bytes (after old (verdict rules old l)) (false, reply_to l form)
serves_line rules old l bytes form plain line says =
    subst (λ (bytes : List ℕ). Serves rules old bytes (after old (verdict rules old l)) (false, reply_to l form)) line
    (handles (obeys l (spelled l plain) (record { session = refl; done = refl; state = refl; says = says })))

-- a line that gets its reply, and a turn that answers nothing
quiet : (rules : Rules) (old : State) (l : Line) (e : Exchange) (form : Form) (rest : List Exchange) → is_plain_line l ≡ true → line_text l ≡ e.line → reply_text (reply_to l form) ≡ e.reply ++ 10 ∷ []
    → Says rules old (verdict rules old l) form → Plays rules (turned (after old (verdict rules old l))) rest → Plays rules old (e ∷ rest)
quiet rules old l e form rest plain line reply says goes =
    let mid = after old (verdict rules old l) in
    more rules old mid (turned mid) e (false, reply_to l form) [] rest (serves_line rules old l e.line form plain line says) (silent_turn rules mid) refl tt (alone (reply_to l form) ∙ reply) goes

-- what is told by a verdict that neither asks nor waits
abbrev pub told : State → Verdict → Form
told s (Refuses refusal) = Refused refusal
told s (Tells shown) = Shows shown
told s (Leaves marks) = Done s.version
told s (Edits e t) = Done (s.version + 1)
told s (Asks q) = Memory
told s (Posts q) = Opened q.number
told s (Waits number) = Memory

abbrev pub asks : Verdict → Bool
asks (Asks q) = true
asks (Waits number) = true
asks v = false

says_told : (rules : Rules) (s : State) (v : Verdict) → asks v ≡ false → Says rules s v (told s v)
says_told rules s (Refuses refusal) h = refl
says_told rules s (Tells shown) h = refl
says_told rules s (Leaves marks) h = refl
says_told rules s (Edits e t) h = refl
says_told rules s (Asks q) h = absurd (cc)
says_told rules s (Posts q) h = refl
says_told rules s (Waits number) h = absurd (cc)

-- an answer by equations, where the rules have no circular attribute
pub answer_by : (rules : Rules) → all_plain rules.attributes ≡ true → (t : Tree) (q : Instance Node) (a : Answer Node) →
    Answers (content t) (equations rules) q a → AnswersIn rules t q a
answer_by rules plain t q a h = answered rules (plain_starts rules plain) (content t) q a h

-- a line that is no question, and a question with its answer
pub line : {rules : Rules} {old : State} {e : Exchange} {rest : List Exchange} (l : Line) → is_plain_line l ≡ true → line_text l ≡ e.line → asks (verdict rules old l) ≡ false
    → reply_text (reply_to l (told old (verdict rules old l))) ≡ e.reply ++ 10 ∷ [] → Plays rules (turned (after old (verdict rules old l))) rest → Plays rules old (e ∷ rest)
line {rules} {old} {e} {rest} l plain is told_so reply goes = quiet rules old l e (told old (verdict rules old l)) rest plain is reply (says_told rules old (verdict rules old l) told_so) goes

pub question : {rules : Rules} {old : State} {e : Exchange} {rest : List Exchange} {q : Instance Node} (l : Line)
    (a : Answer Node) → (is_plain_line l && all_plain rules.attributes) ≡ true → line_text l ≡ e.line
    → verdict rules old l ≡ Asks q
    → Answers (content old.tree) (equations rules) q a → reply_text (reply_to l (answer_form rules old.tree a)) ≡ e.reply ++ 10 ∷ [] → Plays rules (turned old) rest → Plays rules old (e ∷ rest)
question {rules} {old} {e} {rest} {q} l a plain is asked answered reply goes =
    let (plain_line, plain_rules) = both (is_plain_line l) (all_plain rules.attributes) plain in
    quiet rules old l e (answer_form rules old.tree a) rest plain_line is reply
    (subst (λ v. Says rules old v (answer_form rules old.tree a)) (sym asked) (a, answer_by rules plain_rules old.tree q a answered, refl))
    (subst (λ v. Plays rules (turned (after old v)) rest) (sym asked) goes)

-- a test, which computes, that each of the lines is no question and gets its reply
abbrev pub gets_replies : Rules → State → List Line → List Exchange → Bool
gets_replies rules old [] [] = true
gets_replies rules old [] (e ∷ es) = false
gets_replies rules old (l ∷ ls) [] = false
gets_replies rules old (l ∷ ls) (e ∷ es) =
    is_plain_line l && (bytes_eq (line_text l) e.line
    && (not (asks (verdict rules old l)) && (bytes_eq (reply_text (reply_to l (told old (verdict rules old l))))
    (e.reply ++ 10 ∷ []) && gets_replies rules (turned (after old (verdict rules old l))) ls es)))

unasked : (b : Bool) → not b ≡ true → b ≡ false
unasked true h = cc
unasked false h = refl

pub tested : (rules : Rules) (old : State) (ls : List Line) (es : List Exchange) → gets_replies rules old ls es ≡ true → Plays rules old es
tested rules old [] [] h = ends
tested rules old [] (e ∷ es) h = absurd (cc)
tested rules old (l ∷ ls) [] h = absurd (cc)
tested rules old (l ∷ ls) (e ∷ es) h =
    let a = all_and (is_plain_line l) (bytes_eq (line_text l) e.line
    && (not (asks (verdict rules old l)) && (bytes_eq (reply_text (reply_to l (told old (verdict rules old l))))
    (e.reply ++ 10 ∷ []) && gets_replies rules (turned (after old (verdict rules old l))) ls es))) h in
    let b = all_and (bytes_eq (line_text l) e.line)
    (not (asks (verdict rules old l)) && (bytes_eq (reply_text (reply_to l (told old (verdict rules old l))))
    (e.reply ++ 10 ∷ []) && gets_replies rules (turned (after old (verdict rules old l))) ls es)) a.1 in
    let d = all_and (not (asks (verdict rules old l)))
    (bytes_eq (reply_text (reply_to l (told old (verdict rules old l)))) (e.reply ++ 10 ∷ [])
    && gets_replies rules (turned (after old (verdict rules old l))) ls es) b.1 in
    let f = all_and (bytes_eq (reply_text (reply_to l (told old (verdict rules old l)))) (e.reply ++ 10 ∷ [])) (gets_replies rules (turned (after old (verdict rules old l))) ls es) d.1 in
    line {rules = rules} {old = old} {e = e} {rest = es} l a.0 ((bytes_eq-Decides (line_text l) e.line).0 b.0) (unasked (asks (verdict rules old l)) d.0)
    ((bytes_eq-Decides (reply_text (reply_to l (told old (verdict rules old l)))) (e.reply ++ 10 ∷ [])).0 f.0)
    (tested rules (turned (after old (verdict rules old l))) ls es f.1)

-- bytes that are no line, with the session that can be read from them
pub unread : {rules : Rules} {old : State} {e : Exchange} {rest : List Exchange} (session : Option ℕ)
    → ((l : Line) → Spells e.line l → ⊥) → IsSessionOf e.line session
    → reply_text (record { session = session; done = None; form = Refused code.Syntax }) ≡ e.reply ++ 10 ∷ []
    → Plays rules (turned old) rest → Plays rules old (e ∷ rest)
unread {rules} {old} {e} {rest} session none read reply goes =
    let said : Reply = record { session = session; done = None; form = Refused code.Syntax } in
    more rules old old (turned old) e (false, said) [] rest (handles (refuses none read)) (silent_turn rules old) refl tt (alone said ∙ reply) goes

-- a line that waits for the question, and is told the answer
pub waiting : {rules : Rules} {old : State} {e : Exchange} {rest : List Exchange} (l : Line) (q : Posted) (form : Form)
    → is_plain_line l ≡ true → line_text l ≡ e.line → verdict rules old l ≡ Waits q.number
    → numbered old q.number ≡ Some q
    → AnswersPosted rules old q form → reply_text (done_reply old q form) ≡ e.reply ++ 10 ∷ [] → Plays rules (turned (without q.number old)) rest → Plays rules old (e ∷ rest)
waiting {rules} {old} {e} {rest} l q form plain line is found answered reply goes =
    let mid = without q.number old in
    let said : Bool × Reply = (false, done_reply old q form) in
    let waited : Serves rules old e.line mid said = subst (λ (bytes : List ℕ). Serves rules old bytes mid said) line
    (handles (waits l q.number (spelled l plain) is (last (answers q form found answered)))) in
    more rules old mid (turned mid) e said [] rest waited (silent_turn rules mid) refl tt (alone (done_reply old q form) ∙ reply) goes

-- a line that is no question, and a turn behind it that answers the first of the open questions
pub answering : {rules : Rules} {old : State} {e : Exchange} {rest : List Exchange} (l : Line) (q : Posted)
    (form : Form) → is_plain_line l ≡ true → line_text l ≡ e.line → asks (verdict rules old l) ≡ false
    → first_of (after old (verdict rules old l)).posted ≡ Some q → numbered (after old (verdict rules old l)) q.number ≡ Some q → AnswersPosted rules (after old (verdict rules old l)) q form
    → reply_text (reply_to l (told old (verdict rules old l))) ++ reply_text (done_reply (after old (verdict rules old l)) q form) ≡ e.reply ++ 10 ∷ []
    → Plays rules (without q.number (after old (verdict rules old l))) rest → Plays rules old (e ∷ rest)
answering {rules} {old} {e} {rest} l q form plain line told_so first found answered reply goes =
    let mid = after old (verdict rules old l) in
    let said : Reply = reply_to l (told old (verdict rules old l)) in
    let turn : Reply = done_reply mid q form in
    more rules old mid (without q.number mid) e (false, said) ((false, turn) ∷ []) rest
    (serves_line rules old l e.line (told old (verdict rules old l)) plain line (says_told rules old (verdict rules old l) told_so))
    (telling {limit = 0} q first (answers q form found answered) (spent (without q.number mid))) refl (refl, tt)
    (ap (λ z. reply_text said ++ z) (alone turn) ∙ reply) goes

-- the same, where the answer to the question is that of the instance that its words name
asked_form : (rules : Rules) (s : State) (q : Posted) (i : Instance Node) (a : Answer Node) → verdict rules (seen_by q
    s) (line_of q) ≡ Asks i → AnswersIn rules s.tree i a → AnswersPosted rules s q (answer_form rules s.tree a)
asked_form rules s q i a asked answered = subst (λ v. Says rules (seen_by q s) v (answer_form rules s.tree a)) (sym asked) (a, answered, refl)

pub waiting_for : {rules : Rules} {old : State} {e : Exchange} {rest : List Exchange} {i : Instance Node} (l : Line)
    (q : Posted) (a : Answer Node) → (is_plain_line l && all_plain rules.attributes) ≡ true → line_text l ≡ e.line
    → verdict rules old l ≡ Waits q.number → numbered old q.number ≡ Some q
    → verdict rules (seen_by q old) (line_of q) ≡ Asks i → Answers (content old.tree) (equations rules) i a
    → reply_text (done_reply old q (answer_form rules old.tree a)) ≡ e.reply ++ 10 ∷ []
    → Plays rules (turned (without q.number old)) rest → Plays rules old (e ∷ rest)
waiting_for {rules} {old} {e} {rest} {i} l q a plain line is found asked answered reply goes =
    let (plain_line, plain_rules) = both (is_plain_line l) (all_plain rules.attributes) plain in
    waiting {rules = rules} {old = old} {e = e} {rest = rest} l q (answer_form rules old.tree a) plain_line line is found
    (asked_form rules old q i a asked (answer_by rules plain_rules old.tree i a answered)) reply goes

pub answering_with : {rules : Rules} {old : State} {e : Exchange} {rest : List Exchange} {i : Instance Node} (l : Line)
    (q : Posted) (a : Answer Node) → (is_plain_line l && all_plain rules.attributes) ≡ true → line_text l ≡ e.line
    → asks (verdict rules old l) ≡ false
    → first_of (after old (verdict rules old l)).posted ≡ Some q → numbered (after old (verdict rules old l)) q.number ≡ Some q
    → verdict rules (seen_by q (after old (verdict rules old l))) (line_of q) ≡ Asks i → Answers (content (after old (verdict rules old l)).tree) (equations rules) i a
    → reply_text (reply_to l (told old (verdict rules old l))) ++ reply_text (done_reply (after old
    (verdict rules old l)) q (answer_form rules (after old (verdict rules old l)).tree a)) ≡ e.reply ++ 10 ∷ []
    → Plays rules (without q.number (after old (verdict rules old l))) rest → Plays rules old (e ∷ rest)
answering_with {rules} {old} {e} {rest} {i} l q a plain line told_so first found asked answered reply goes =
    let mid = after old (verdict rules old l) in
    let (plain_line, plain_rules) = both (is_plain_line l) (all_plain rules.attributes) plain in
    answering {rules = rules} {old = old} {e = e} {rest = rest} l q (answer_form rules mid.tree a) plain_line line told_so first found
    (asked_form rules mid q i a asked (answer_by rules plain_rules mid.tree i a answered)) reply goes
