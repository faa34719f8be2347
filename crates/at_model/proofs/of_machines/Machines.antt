-- The machine with questions in turns: edits, turns where none is open, and what is waited for.
use Rattle.std.proofs.Common.{◌≡◌, ℕ, ◌+◌, Bool, true, false, not, nat_eq, if◌then◌else◌, List, [], ◌∷◌, map, filter, Option, Some, None, option_map, refl, sym, ap, ◌∙◌, subst, true≢false}
use Rattle.std.specs.List.{AllByRecursion, find, list_all}
use Rattle.at_model.specs.Edits.{Edit}
use Rattle.at_model.specs.Trees.{Tree}
use Rattle.at_model.specs.Paths.{Node}
use Rattle.at_model.specs.Run.{Value}
use Rattle.at_model.specs.Run as run
use Rattle.at_model.specs.Lines.{Place, From_root, From_mark, Argument, Text, Int, Truth, Ref, Null, Ask}
use Rattle.at_model.specs.Replies as code
use Rattle.at_model.specs.Rules.{Rules}
use Rattle.at_model.specs.Replies.{Form, Reply}
use Rattle.at_model.specs.Waited.{IsWaited}
use Rattle.at_model.specs.Machine.{State, Posted, carried_posted, Turns, stays, answers, runs_out, Answered, last, more, Given, spent, none_open, silent, telling, first_of, numbered, counted, given_one, done_reply, AnswersPosted, Says, Verdict, Refuses, Tells, Leaves, Edits, Asks, Posts, Waits, each, is_marked, marks_used, node_named, value_named, questioned, obeyed, verdict, seen_by, line_of, is_read}

pub counts_gone : (e : Edit) (qs : List Posted) → AllByRecursion (λ q. q.turns ≡ 0) (map (carried_posted e) qs)
counts_gone e [] = tt
counts_gone e (q ∷ qs) = (refl, counts_gone e qs)

no_first : (qs : List Posted) (q : Posted) → qs ≡ [] → first_of qs ≡ Some q → ⊥
no_first [] q e f = absurd cc
no_first (x ∷ qs) q e f = absurd cc

pub none_given : (rules : Rules) (limit : ℕ) (s : State) (told : List (Bool × Reply)) (new : State) → s.posted ≡ [] → Given rules limit s told new → (told ≡ []) × (new ≡ s)
none_given rules _ _ _ _ none (spent s) = (refl, refl)
none_given rules _ _ _ _ none (none_open limit s e) = (refl, refl)
none_given rules _ _ _ _ none (silent {s = s} q f t g) = absurd (no_first s.posted q none f)
none_given rules _ _ _ _ none (telling {s = s} q f t g) = absurd (no_first s.posted q none f)

-- a turn more changes nothing else of that question, and nothing of the others
without_counted : (number : ℕ) (qs : List Posted) → filter (λ q. not (nat_eq number q.number)) (map (counted number) qs) ≡ filter (λ q. not (nat_eq number q.number)) qs
without_counted number [] = refl
without_counted number (q ∷ qs) = by (nat_eq number q.number) refl (without_counted number qs)
  where
    kept : Posted → Bool
    kept x = not (nat_eq number x.number)

    by : (b : Bool) → nat_eq number q.number ≡ b → filter (λ q. not (nat_eq number q.number)) (map (counted number) qs) ≡ filter (λ q. not (nat_eq number q.number)) qs →
        filter (λ q. not (nat_eq number q.number)) (map (counted number) (q ∷ qs)) ≡ filter (λ q. not (nat_eq number q.number)) (q ∷ qs)
    by true is rest = rw (is, is) rest
    by false is rest = rw (is, is) (ap (λ xs. q ∷ xs) rest)

found_counted : (number : ℕ) (qs : List Posted) (q : Posted) → find (λ q. nat_eq number q.number) qs ≡ Some q →
    (c : Posted) × (find (λ q. nat_eq number q.number) (map (counted number) qs) ≡ Some c) × (c ≡ record q { turns = q.turns + 1 })
found_counted number [] q e = absurd cc
found_counted number (x ∷ qs) q e = by (nat_eq number x.number) refl e (found_counted number qs q)
  where
    by : (b : Bool) → nat_eq number x.number ≡ b → (if b then Some x else find (λ q. nat_eq number q.number) qs) ≡ Some q →
        (find (λ q. nat_eq number q.number) qs ≡ Some q → (c : Posted) × (find (λ q. nat_eq number q.number) (map (counted number) qs) ≡ Some c) × (c ≡ record q { turns = q.turns + 1 })) →
        (c : Posted) × (find (λ q. nat_eq number q.number) (map (counted number) (x ∷ qs)) ≡ Some c) × (c ≡ record q { turns = q.turns + 1 })
    by true is f rest = let same : x ≡ q = cc in (record x { turns = x.turns + 1 }, rw (is, is) refl, ap (λ (y : Posted). record y { turns = y.turns + 1 }) same)
    by false is f rest = let (c, g, h) = rest f in (c, rw (is, is) g, h)

-- what becomes of a question's words rests on the tree and the marks alone
module _ (rules : Rules) (s : State) (limit version posts : ℕ) (ps : List Posted) where
  abbrev there : State
  there = record s { limit = limit; version = version; posts = posts; posted = ps }

  node_same : (session : ℕ) (place : Place) → node_named rules.classes there session place ≡ node_named rules.classes s session place
  node_same session (From_root path) = refl
  node_same session (From_mark name steps) = refl

  value_same : (session : ℕ) (a : Argument) → value_named rules.classes there session a ≡ value_named rules.classes s session a
  value_same session (Text bytes) = refl
  value_same session (Int n) = refl
  value_same session (Truth b) = refl
  value_same session (Ref place) = ap (option_map (λ (n : Node). run.Ref (Some n))) (node_same session place)
  value_same session Null = refl

  values_same : (session : ℕ) (as' : List Argument) → each (map (value_named rules.classes there session) as') ≡ each (map (value_named rules.classes s session) as')
  values_same session as' = ap each (mapped as')
    where
      mapped : (as' : List Argument) → map (value_named rules.classes there session) as' ≡ map (value_named rules.classes s session) as'
      mapped [] = refl
      mapped (a ∷ bs) = ap (λ v. v ∷ map (value_named rules.classes there session) bs) (value_same session a) ∙ ap (λ vs. value_named rules.classes s session a ∷ vs) (mapped bs)

  obeyed_same : (session : ℕ) (place : Place) (attribute : List ℕ) (as' : List Argument) → obeyed rules there session (Ask place attribute as') ≡ obeyed rules s session (Ask place attribute as')
  obeyed_same session place attribute as' =
      let F : Option Node → Option (List (Value Node)) → Verdict = λ o vs. elim o [
        | None ↦ Refuses code.Path
        | Some n ↦
            elim vs [ None ↦ Refuses code.Path | Some ws ↦ questioned rules s.tree n attribute ws ]
      ] in
      ap (λ o. F o (each (map (value_named rules.classes there session) as'))) (node_same session place) ∙ ap (F (node_named rules.classes s session place)) (values_same session as')

words_same : (rules : Rules) (s : State) (limit version posts : ℕ) (ps : List Posted) (q : Posted) →
    verdict rules (seen_by q (record s { limit = limit; version = version; posts = posts; posted = ps })) (line_of q) ≡ verdict rules (seen_by q s) (line_of q)
words_same rules s limit version posts ps q =
    let asks = Ask q.place q.attribute q.arguments in
    let used = list_all (is_marked q.marks q.session) (marks_used asks) in
    ap (λ v. if not (is_read rules asks) then Refuses code.Syntax else (if not used then Refuses code.Mark else v)) (obeyed_same rules (seen_by q s) limit version posts ps q.session q.place q.attribute q.arguments)

pub words_judged : (rules : Rules) (s t : State) (q : Posted) → t.tree ≡ s.tree → verdict rules (seen_by q t) (line_of q) ≡ verdict rules (seen_by q s) (line_of q)
words_judged rules s t q e =
    ap (λ (u : Tree). verdict rules (record {
      tree = u;
      limit = t.limit;
      version = t.version;
      marks = q.marks;
      posts = t.posts;
      posted = t.posted;
    }) (line_of q)) e ∙ words_same rules s t.limit t.version t.posts t.posted q

says_same : (rules : Rules) (s : State) (ps : List Posted) (v : Verdict) (form : Form) → Says rules (record s { posted = ps }) v form → Says rules s v form
says_same rules s ps (Refuses refusal) form h = h
says_same rules s ps (Tells shown) form h = h
says_same rules s ps (Leaves marks) form h = h
says_same rules s ps (Edits e t) form h = h
says_same rules s ps (Asks q) form h = h
says_same rules s ps (Posts q) form h = h
says_same rules s ps (Waits number) form h = h

told_same : (rules : Rules) (s : State) (ps : List Posted) (q : Posted) (form : Form) → AnswersPosted rules (record s { posted = ps }) q form → AnswersPosted rules s q form
told_same rules s ps q form h =
    let t = seen_by q s in
    let same : verdict rules (record t { posted = ps }) (line_of q) ≡ verdict rules t (line_of q) = words_same rules s s.limit s.version s.posts ps q in
    says_same rules t ps (verdict rules t (line_of q)) form (subst (λ v. Says rules (record t { posted = ps }) v form) same h)

same_some : {A : Type 0} {a b : A} → Some a ≡ Some b → a ≡ b
same_some e = cc

one_more : (rules : Rules) (number : ℕ) (old new : State) (said : Bool × Reply) (q : Posted) → numbered old number
    ≡ Some q → IsWaited rules number (given_one number old) new said → IsWaited rules number old new said
one_more rules number old new said q e w =
    let (c, found, is) = found_counted number old.posted q e in
    let as_q : w.question ≡ record q { turns = q.turns + 1 } = same_some (sym w.there ∙ found) ∙ is in
    record {
      state = w.state ∙ ap (λ qs. record old { posted = qs }) (without_counted number old.posted);
      question = q;
      there = e;
      reply = w.reply ∙ ap (λ x. done_reply (given_one number old) x said.1.form) as_q;
      told = λ f. told_same rules old (map (counted number) old.posted) q said.1.form (subst (λ (x : Posted). AnswersPosted rules (given_one number old) x said.1.form) as_q (w.told f));
      memory = w.memory;
    }

pub waited : (rules : Rules) (number : ℕ) (old new : State) (said : Bool × Reply) → Answered rules number old new said → IsWaited rules number old new said
waited rules number old _ _ (last (answers q form e a)) = record { state = refl; question = q; there = e; reply = refl; told = λ f. a; memory = λ f. absurd (true≢false (sym f)) }
waited rules number old _ _ (last (runs_out q e)) = record { state = refl; question = q; there = e; reply = refl; told = λ f. absurd (true≢false f); memory = λ f. refl }
waited rules number old new said (more (stays q e) next) = one_more rules number old new said q e (waited rules number (given_one number old) new said next)

-- turns change nothing but the open questions
pub turn_leaves : (rules : Rules) (old : State) (number : ℕ) (new : State) (o : Option (Bool × Reply)) → Turns rules old number new o → new ≡ record old { posted = new.posted }
turn_leaves rules old number _ _ (stays q e) = refl
turn_leaves rules old number _ _ (answers q form e a) = refl
turn_leaves rules old number _ _ (runs_out q e) = refl

leaves_on : (old mid new : State) → mid ≡ record old { posted = mid.posted } → new ≡ record mid { posted = new.posted } → new ≡ record old { posted = new.posted }
leaves_on old mid new e f = f ∙ ap (λ (x : State). record x { posted = new.posted }) e

pub given_leaves : (rules : Rules) (limit : ℕ) (old : State) (told : List (Bool × Reply)) (new : State) → Given rules limit old told new → new ≡ record old { posted = new.posted }
given_leaves rules _ _ _ _ (spent s) = refl
given_leaves rules _ _ _ _ (none_open limit s e) = refl
given_leaves rules _ _ _ new (silent {limit = limit} {s = s} {mid = mid} {told = told} q f t g) =
    leaves_on s mid new (turn_leaves rules s q.number mid None t) (given_leaves rules limit mid told new g)
given_leaves rules _ _ _ new (telling {limit = limit} {s = s} {mid = mid} {said = said} {told = told} q f t g) =
    leaves_on s mid new (turn_leaves rules s q.number mid (Some said) t) (given_leaves rules limit mid told new g)
