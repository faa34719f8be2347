-- Every line has a reply, but a question that has no answer, and so has every open question at a turn.
use Rattle.std.proofs.Common.{◌≡◌, ℕ, zero, suc, ◌+◌, ◌<◌, ◌≤◌, Bool, true, false, nat_eq, cond, map, option_and_then, List, [], ◌∷◌, ◌++◌, length, Option, Some, None, ◌⊎◌, inl, inr, refl, sym, ap, ◌∙◌, subst, arith}
use Rattle.std.specs.Prelude.{decimal}
use Rattle.std.proofs.lemmas.Bool.{eqb-true, eqb-false, eq-eqb}
use Rattle.at_model.specs.Trees.{class_of}
use Rattle.at_model.specs.Paths.{Node, tree_at}
use Rattle.at_model.specs.Run.{Instance}
use Rattle.at_model.specs.Rules.{Rules, attribute_asked}
use Rattle.at_model.specs.Meaning.{Answer}
use Rattle.at_model.specs.Lines.{Line, Place, Argument, Ask, Spells, BeginsWith, IsSpaceOrEnd, IsSessionOf, max_sessions}
use Rattle.at_model.specs.Replies.{Reply, Form, Code, Shows, Done, Opened, Refused, Memory}
use Rattle.at_model.specs.Replies as code
use Rattle.at_model.specs.Machine.{State, Posted, Verdict, Refuses, Tells, Leaves, Edits, Asks, Posts, Waits, AnswersIn, AnswersPosted, Says, Handles, obeys, waits, refuses, Serves, runs_out, Turns, answers, last, numbered, without, done_reply, seen_by, line_of, after, verdict, obeyed, answer_form, each, value_named, suit}
use Rattle.at_model.proofs.of_edits.Changes.{if_both, at_option, node_all, whole, waited_for}

-- what stands behind the front
strip : List ℕ → List ℕ → Option (List ℕ)
strip [] bytes = Some bytes
strip (a ∷ as') [] = None
strip (a ∷ as') (b ∷ bs) = cond (nat_eq a b) (strip as' bs) None

stripped : (front bytes rest : List ℕ) → strip front bytes ≡ Some rest → bytes ≡ front ++ rest
unfolding strip
stripped [] bytes rest e = cc
stripped (a ∷ as') [] rest e = absurd cc
stripped (a ∷ as') (b ∷ bs) rest e = by_byte (nat_eq a b) refl e (stripped as' bs rest)
  where
    by_byte : (t : Bool) → nat_eq a b ≡ t → cond t (strip as' bs) None ≡ Some rest → (strip as' bs ≡ Some rest → bs ≡ as' ++ rest) → b ∷ bs ≡ a ∷ (as' ++ rest)
    by_byte true is h more = ap (λ x. x ∷ bs) (sym (eqb-true a b is)) ∙ ap (λ x. a ∷ x) (more h)
    by_byte false is h more = absurd cc

strips : (front rest : List ℕ) → strip front (front ++ rest) ≡ Some rest
unfolding strip
strips [] rest = refl
strips (a ∷ as') rest = rw (eq-eqb a a refl) (strips as' rest)

-- a fact that holds, or doesn't
abbrev Decided : Type 0 → Type 0
Decided P = P ⊎ (P → ⊥)

space_or_end : (rest : List ℕ) → Decided (IsSpaceOrEnd rest)
space_or_end [] = inl tt
space_or_end (b ∷ bs) = by_byte (nat_eq b 32) refl
  where
    by_byte : (t : Bool) → nat_eq b 32 ≡ t → Decided (b ≡ 32)
    by_byte true is = inl (eqb-true b 32 is)
    by_byte false is = inr (λ e. let f : nat_eq b 32 ≡ true = eq-eqb b 32 e in cc)

begins : (bytes : List ℕ) (session : ℕ) → session < max_sessions → Decided (BeginsWith bytes session)
begins bytes session small = by_rest (strip (decimal session) bytes) refl
  where
    by_rest : (o : Option (List ℕ)) → strip (decimal session) bytes ≡ o → Decided (BeginsWith bytes session)
    by_rest None is = inr (λ h. let f : strip (decimal session) (decimal session ++ h.rest)
        ≡ Some h.rest = strips (decimal session) h.rest in
        let g : strip (decimal session) bytes ≡ Some h.rest = ap (strip (decimal session)) h.front ∙ f in cc)
    by_rest (Some rest) is = elim (space_or_end rest) [
      | inl ends ↦ inl (record { exists = small; rest = rest; front = stripped (decimal session) bytes rest is; behind = ends })
      | inr none ↦ inr (λ h.
          let g : strip (decimal session) bytes ≡ Some h.rest = ap (strip (decimal session)) h.front ∙ strips (decimal session) h.rest in
          let same : h.rest ≡ rest = cc in none (subst IsSpaceOrEnd same h.behind))
    ]

-- one of the sessions below the number can be read, or none
sessions_below : (bytes : List ℕ) (n : ℕ) → n ≤ max_sessions → ((session : ℕ) × BeginsWith bytes session) ⊎ ((session : ℕ) → session < n → BeginsWith bytes session → ⊥)
sessions_below bytes zero h = inr (λ session small b. omega (arith, small))
sessions_below bytes (suc n) h =
    let at : Decided (BeginsWith bytes n) = begins bytes n (omega (arith, h)) in
    elim at [
      | inl b ↦ inl (n, b)
      | inr none ↦ elim (sessions_below bytes n (omega (arith, h))) [
        | inl found ↦ inl found
        | inr fewer ↦ inr (λ session small b. elim (below_or_same session n small) [ inl less ↦ fewer session less b | inr same ↦ none (subst (BeginsWith bytes) same b) ])
      ]
    ]
  where
    below_or_same : (a b : ℕ) → a < suc b → (a < b) ⊎ (a ≡ b)
    below_or_same a b small = by_test (nat_eq a b) refl
      where
        by_test : (t : Bool) → nat_eq a b ≡ t → (a < b) ⊎ (a ≡ b)
        by_test true is = inr (eqb-true a b is)
        by_test false is = inl (omega (arith, small, eqb-false a b is))

pub session_read : (bytes : List ℕ) → (session : Option ℕ) × IsSessionOf bytes session
session_read bytes = elim (sessions_below bytes max_sessions (omega arith)) [
  | inl found ↦ (Some found.0, found.1)
  | inr none ↦ (None, λ session b. none session b.exists b)
]

-- what the verdict asks has an answer
abbrev pub IsAnswered : Rules → State → Verdict → Type 0
IsAnswered rules s v = (q : Instance Node) → v ≡ Asks q → (a : Answer Node) × AnswersIn rules s.tree q a

-- each verdict is told, a question where it has an answer, but that a line waits
says_something : (rules : Rules) (s : State) (v : Verdict) → IsAnswered rules s v → ((number : ℕ) → v ≡ Waits number → ⊥) → (form : Form) × Says rules s v form
says_something rules s (Refuses refusal) h none = (Refused refusal, refl)
says_something rules s (Tells shown) h none = (Shows shown, refl)
says_something rules s (Leaves marks) h none = (Done s.version, refl)
says_something rules s (Edits e t) h none = (Done (s.version + 1), refl)
says_something rules s (Asks q) h none = let (a, answered) = h q refl in (answer_form rules s.tree a, (a, answered, refl))
says_something rules s (Posts q) h none = (Opened q.number, refl)
says_something rules s (Waits number) h none = absurd (none number refl)

pub reply_to_line : (rules : Rules) (old : State) (bytes : List ℕ) (l : Line) → Spells bytes l → IsAnswered rules old (verdict rules old l) → ((number : ℕ) → verdict rules old l ≡ Waits number → ⊥) →
    (reply : Reply) × Handles rules old bytes (after old (verdict rules old l)) (false, reply)
reply_to_line rules old bytes l spells answered none =
    let (form, says) = says_something rules old (verdict rules old l) answered none in
    (record { session = Some l.session; done = None; form = form }, obeys l spells (record { session = refl; done = refl; state = refl; says = says }))

-- what asks never waits
asking_waits_not : (rules : Rules) (s : State) (session : ℕ) (place : Place) (attribute : List ℕ)
    (arguments : List Argument) (number : ℕ) → obeyed rules s session (Ask place attribute arguments) ≡ Waits number → ⊥
asking_waits_not rules s session place attribute arguments number =
    let P : Verdict → Type 0 = λ v. v ≡ Waits number → ⊥ in
    let refused : (c : Code) → P (Refuses c) = λ c e. cc in
    node_all P refused rules.classes s session place _ (λ n. at_option P refused (each (map (value_named rules.classes s session) arguments)) code.Path _ (λ vs.
    at_option P refused (option_and_then (λ u. attribute_asked rules (class_of u) attribute (length vs)) (tree_at s.tree n)) code.Attribute _ (λ a.
    if_both P (suit rules s.tree a vs) _ _ (λ e. cc) (refused code.Arguments))))

-- what the open question asks has an answer
abbrev pub IsPostedAnswered : Rules → State → Posted → Type 0
IsPostedAnswered rules s q = IsAnswered rules s (verdict rules (seen_by q s) (line_of q))

pub answer_of_posted : (rules : Rules) (s : State) (q : Posted) → IsPostedAnswered rules s q → (form : Form) × AnswersPosted rules s q form
answer_of_posted rules s q answered =
    let v = verdict rules (seen_by q s) (line_of q) in
    let P : Verdict → Type 0 = λ v. (number : ℕ) → v ≡ Waits number → ⊥ in
    says_something rules (seen_by q s) v answered (whole P (λ c number e. cc) rules (seen_by q s) (line_of q) (asking_waits_not rules (seen_by q s) q.session q.place q.attribute q.arguments))

pub turn_answers : (rules : Rules) (s : State) (number : ℕ) (q : Posted) → numbered s number ≡ Some q → IsPostedAnswered
    rules s q → (form : Form) × Turns rules s number (without number s) (Some (false, done_reply s q form))
turn_answers rules s number q is answered = let (form, says) = answer_of_posted rules s q answered in (form, answers q form is says)

pub reply_to_waiting : (rules : Rules) (old : State) (bytes : List ℕ) (l : Line) (number : ℕ) → Spells bytes l → verdict rules old l ≡ Waits number →
    ((q : Posted) → numbered old number ≡ Some q → IsPostedAnswered rules old q) → (reply : Reply) × Handles rules old bytes (without number old) (false, reply)
reply_to_waiting rules old bytes l number spells is answered =
    let (q, found) = waited_for rules old l number is in
    let (form, turn) = turn_answers rules old number q found (answered q found) in
    (done_reply old q form, waits l number spells is (last turn))

pub reply_to_no_line : (rules : Rules) (old : State) (bytes : List ℕ) → ((l : Line) → Spells bytes l → ⊥) → (reply : Reply) × Handles rules old bytes old (false, reply)
reply_to_no_line rules old bytes none =
    let (session, read) = session_read bytes in
    (record { session = session; done = None; form = Refused code.Syntax }, refuses none read)

pub reply_without_memory : (rules : Rules) (old : State) (bytes : List ℕ) → (reply : Reply) × Serves rules old bytes old (true, reply)
reply_without_memory rules old bytes =
    let (session, read) = session_read bytes in
    (record { session = session; done = None; form = Memory }, runs_out read)
