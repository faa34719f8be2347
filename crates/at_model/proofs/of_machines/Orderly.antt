-- Each session's marks stay apart and few, and the version stays one that there can be, over every line.
use Rattle.std.proofs.Common.{◌≡◌, ℕ, ◌+◌, ◌<◌, ◌≤◌, Bool, true, false, not, ◌&&◌, ◌||◌, cond, nat_eq, nat_le, if◌then◌else◌, List, [], ◌∷◌, ◌++◌, map, Option, Some, None, Result, Ok, Err, ◌⊎◌, inl, inr, refl, sym, ap, ◌∙◌, subst, arith, filter, option_map}
use Rattle.std.specs.Prelude.{is_some}
use Rattle.std.specs.List.{count_by, find, cons_option, list_any}
use Rattle.std.specs.Str.{bytes_eq}
use Rattle.std.proofs.lemmas.Bool.{eqb-true, eqb-false, eq-eqb, leb-true, leb-false}
use Rattle.std.proofs.lemmas.Slice.Eq.{bytes_eq-Decides}
use Rattle.std.proofs.lemmas.List.Recursion.{is_count_by}
use Rattle.at_model.specs.Trees.{Tree}
use Rattle.at_model.specs.Paths.{Node, tree_at}
use Rattle.at_model.specs.Run.{Value}
use Rattle.at_model.specs.Rules.{Rules}
use Rattle.at_model.specs.Meaning.{Among, Distinct}
use Rattle.at_model.specs.Edits.{Edit, carried, edited_within}
use Rattle.at_model.specs.Edits as edit
use Rattle.at_model.specs.Lines.{Line, Place, Argument, Command, Ask, Set, Put, Drop, Insert, Token, Move, Show, Mark, Unmark, Where, Version, Post, Wait, last_version, last_post}
use Rattle.at_model.specs.Replies.{Reply, Code}
use Rattle.at_model.specs.Replies as code
use Rattle.at_model.specs.Machine.{State, Marked, Posted, Verdict, Refuses, Leaves, Edits, Posts, Waits, Handles, obeys, waits, refuses, Serves, handles, runs_out, Turns, stays as turn_stays, answers, Given, spent, none_open, silent, telling, counted, numbered as numbered_of, without, Answered, after, verdict, obeyed, carried_posted, is_posted, max_posted, changed, code_of, carried_marks, is_mark, is_marked, marked, max_marks, each, value_named, questioned, suit}
use Rattle.at_model.specs.Enduring.{key, AreNumbered, IsOrderly}
use Rattle.at_model.proofs.Options.{and_true}
use Rattle.at_model.proofs.of_edits.Changes.{if_both, at_option, node_all, component_all, tree_all, new_post, whole, open_for}
use Rattle.at_model.proofs.of_machines.Machines.{waited}

-- counting from the front
count : {A : Type 0} → (A → Bool) → List A → ℕ
count p [] = 0
count p (x ∷ xs) = cond (p x) (1 + count p xs) (count p xs)

counts : {A : Type 0} (p : A → Bool) (xs : List A) → count p xs ≡ count_by p xs
unfolding count
counts p xs = is_count_by (count p) p refl (λ x ys. refl) xs

step : {A : Type 0} (p : A → Bool) (x : A) (xs : List A) → count_by p (x ∷ xs) ≡ cond (p x) (1 + count_by p xs) (count_by p xs)
unfolding count
step p x xs = sym (counts p (x ∷ xs)) ∙ ap (λ n. cond (p x) (1 + n) n) (counts p xs)

more_by : (b : Bool) (m n : ℕ) → m ≤ n → cond b (1 + m) m ≤ cond b (1 + n) n
more_by true m n h = omega (arith, h)
more_by false m n h = h

fewer_than : (b : Bool) (m n : ℕ) → m ≤ n → m ≤ cond b (1 + n) n
fewer_than true m n h = omega (arith, h)
fewer_than false m n h = h

-- marks that are carried keep their names
carried_key : (e : Edit) (ms : List Marked) (k : ℕ × List ℕ) → Among k (map key (carried_marks e ms)) → Among k (map key ms)
carried_key e [] k h = h
carried_key e (m ∷ ms) k h = at_mark (carried e m.node) h (carried_key e ms k)
  where
    at_mark : (o : Option Node)
        → Among k (map key (cons_option (option_map (λ n. record m { node = n }) o) (carried_marks e ms)))
        → (Among k (map key (carried_marks e ms)) → Among k (map key ms)) → Among k (key m ∷ map key ms)
    at_mark None h rest = inr (rest h)
    at_mark (Some n) (inl s) rest = inl s
    at_mark (Some n) (inr h) rest = inr (rest h)

carried_apart : (e : Edit) (ms : List Marked) → Distinct (map key ms) → Distinct (map key (carried_marks e ms))
carried_apart e [] d = tt
carried_apart e (m ∷ ms) d = at_mark (carried e m.node) (carried_apart e ms d.1)
  where
    at_mark : (o : Option Node) → Distinct (map key (carried_marks e ms)) → Distinct (map key (cons_option (option_map (λ n. record m { node = n }) o) (carried_marks e ms)))
    at_mark None rest = rest
    at_mark (Some n) rest = ((λ h. d.0 (carried_key e ms (key m) h)), rest)

carried_few : (e : Edit) (session : ℕ) (ms : List Marked) → count_by (λ m. nat_eq session m.session) (carried_marks e ms) ≤ count_by (λ m. nat_eq session m.session) ms
carried_few e session [] = omega arith
carried_few e session (m ∷ ms) = rw (step (λ (m : Marked). nat_eq session m.session) m ms) (at_mark (carried e m.node) (carried_few e session ms))
  where
    at_mark : (o : Option Node) → count_by (λ m. nat_eq session m.session) (carried_marks e ms) ≤ count_by (λ m. nat_eq session m.session) ms →
        count_by (λ m. nat_eq session m.session) (cons_option (option_map (λ n. record m { node = n }) o)
        (carried_marks e ms)) ≤ cond (nat_eq session m.session) (1 + count_by (λ m. nat_eq session m.session) ms)
        (count_by (λ m. nat_eq session m.session) ms)
    at_mark None rest = fewer_than (nat_eq session m.session) _ _ rest
    at_mark (Some n) rest = rw (step (λ (m : Marked). nat_eq session m.session) (record m { node = n }) (carried_marks e ms)) (more_by (nat_eq session m.session) _ _ rest)

-- and so do those that are left by a test
left_key : (test : Marked → Bool) (ms : List Marked) (k : ℕ × List ℕ) → Among k (map key (filter test ms)) → Among k (map key ms)
left_key test [] k h = h
left_key test (m ∷ ms) k h = at_mark (test m) h (left_key test ms k)
  where
    at_mark : (b : Bool) → Among k (map key (cond b (m ∷ filter test ms) (filter test ms))) → (Among k (map key (filter test ms)) → Among k (map key ms)) → Among k (key m ∷ map key ms)
    at_mark false h rest = inr (rest h)
    at_mark true (inl s) rest = inl s
    at_mark true (inr h) rest = inr (rest h)

left_apart : (test : Marked → Bool) (ms : List Marked) → Distinct (map key ms) → Distinct (map key (filter test ms))
left_apart test [] d = tt
left_apart test (m ∷ ms) d = at_mark (test m) (left_apart test ms d.1)
  where
    at_mark : (b : Bool) → Distinct (map key (filter test ms)) → Distinct (map key (cond b (m ∷ filter test ms) (filter test ms)))
    at_mark false rest = rest
    at_mark true rest = ((λ h. d.0 (left_key test ms (key m) h)), rest)

left_few : (test : Marked → Bool) (session : ℕ) (ms : List Marked) → count_by (λ m. nat_eq session m.session) (filter test ms) ≤ count_by (λ m. nat_eq session m.session) ms
left_few test session [] = omega arith
left_few test session (m ∷ ms) = rw (step (λ (m : Marked). nat_eq session m.session) m ms) (at_mark (test m) (left_few test session ms))
  where
    at_mark : (b : Bool) → count_by (λ m. nat_eq session m.session) (filter test ms) ≤ count_by (λ m. nat_eq session m.session) ms →
        count_by (λ m. nat_eq session m.session) (cond b (m ∷ filter test ms) (filter test ms)) ≤ cond (nat_eq session
        m.session) (1 + count_by (λ m. nat_eq session m.session) ms) (count_by (λ m. nat_eq session m.session) ms)
    at_mark false rest = fewer_than (nat_eq session m.session) _ _ rest
    at_mark true rest = rw (step (λ (m : Marked). nat_eq session m.session) m (filter test ms)) (more_by (nat_eq session m.session) _ _ rest)

-- one more mark at the end
key_at_end : (ms : List Marked) (m : Marked) (k : ℕ × List ℕ) → Among k (map key (ms ++ m ∷ [])) → Among k (map key ms) ⊎ (k ≡ key m)
key_at_end [] m k (inl s) = inr s
key_at_end [] m k (inr h) = absurd h
key_at_end (x ∷ ms) m k (inl s) = inl (inl s)
key_at_end (x ∷ ms) m k (inr h) = elim (key_at_end ms m k h) [ inl g ↦ inl (inr g) | inr s ↦ inr s ]

more_apart : (ms : List Marked) (m : Marked) → Distinct (map key ms) → (Among (key m) (map key ms) → ⊥) → Distinct (map key (ms ++ m ∷ []))
more_apart [] m d free = ((λ h. h), tt)
more_apart (x ∷ ms) m d free = (
  λ h. elim (key_at_end ms m (key x) h) [ inl g ↦ d.0 g | inr s ↦ free (inl (sym s)) ],
  more_apart ms m d.1 (λ h. free (inr h)),
)

more_few : (session : ℕ) (ms : List Marked) (m : Marked) → count_by (λ m. nat_eq session m.session) (ms ++ m ∷ []) ≡ count_by (λ m. nat_eq session m.session) ms + cond (nat_eq session m.session) 1 0
more_few session [] m = refl
more_few session (x ∷ ms) m = rw (
  step (λ (m : Marked). nat_eq session m.session) x (ms ++ m ∷ []),
  step (λ (m : Marked). nat_eq session m.session) x ms,
)
    (at_front (nat_eq session x.session) _ _ (cond (nat_eq session m.session) 1 0) (more_few session ms m))
  where
    at_front : (b : Bool) (a n c : ℕ) → a ≡ n + c → cond b (1 + a) a ≡ cond b (1 + n) n + c
    at_front true a n c e = omega (arith, e)
    at_front false a n c e = e

-- the session has no mark of a name that it has none of
none_marked : (session : ℕ) (name : List ℕ) (ms : List Marked) → is_marked ms session name ≡ false → Among (session, name) (map key ms) → ⊥
none_marked session name [] e h = h
none_marked session name (m ∷ ms) e h = at_mark (is_mark session name m) refl e h (none_marked session name ms)
  where
    is_its : (session, name) ≡ key m → is_mark session name m ≡ true
    is_its s = and_true (nat_eq session m.session) (bytes_eq name m.name) (eq-eqb session m.session
        (ap (λ (k : ℕ × List ℕ). k.0) s)) ((bytes_eq-Decides name m.name).1 (ap (λ (k : ℕ × List ℕ). k.1) s))

    at_mark : (b : Bool) → is_mark session name m ≡ b → is_some
        (option_map (λ m. m.node) (cond b (Some m) (find (is_mark session name) ms))) ≡ false → Among (session, name)
        (map key (m ∷ ms)) → (is_marked ms session name ≡ false → Among (session, name) (map key ms) → ⊥) → ⊥
    at_mark true is f g rest = cc
    at_mark false is f (inl s) rest = let t : is_mark session name m ≡ true = is_its s in cc
    at_mark false is f (inr g) rest = rest f g

-- the number after one that is not the greatest
below_next : (a b : ℕ) → a ≤ b → (a ≡ b → ⊥) → a + 1 ≤ b
below_next a b h other = by_test (nat_le (a + 1) b) refl
  where
    by_test : (t : Bool) → nat_le (a + 1) b ≡ t → a + 1 ≤ b
    by_test true is = leb-true (a + 1) b is
    by_test false is = let c = leb-false (a + 1) b is in let same : a ≡ b = omega (arith, h, c) in absurd (other same)

-- the numbers of open questions, where one more is open, one is answered, or all are changed
numbered-append : (least : ℕ) (qs : List Posted) (greatest : ℕ) (q : Posted) → AreNumbered least qs greatest → greatest < q.number → AreNumbered least (qs ++ q ∷ []) q.number
numbered-append least [] greatest q h k = (omega (arith, h, k), omega arith)
numbered-append least (x ∷ qs) greatest q h k = (h.0, numbered-append x.number qs greatest q h.1 k)

numbered-lower : (least lower : ℕ) (qs : List Posted) (greatest : ℕ) → lower ≤ least → AreNumbered least qs greatest → AreNumbered lower qs greatest
numbered-lower least lower [] greatest k h = omega (arith, k, h)
numbered-lower least lower (q ∷ qs) greatest k h = let g = h.0 in (omega (arith, k, g), h.1)

numbered-filter : (keep : Posted → Bool) (least : ℕ) (qs : List Posted) (greatest : ℕ) → AreNumbered least qs greatest → AreNumbered least (filter keep qs) greatest
numbered-filter keep least [] greatest h = h
numbered-filter keep least (q ∷ qs) greatest h = by_test (keep q) (numbered-filter keep q.number qs greatest h.1)
  where
    by_test : (b : Bool) → AreNumbered q.number (filter keep qs) greatest → AreNumbered least (cond b (q ∷ filter keep qs) (filter keep qs)) greatest
    by_test true rest = (h.0, rest)
    by_test false rest = let g = h.0 in numbered-lower q.number least (filter keep qs) greatest (omega (arith, g)) rest

carried_numbered : (e : Edit) (least : ℕ) (qs : List Posted) (greatest : ℕ) → AreNumbered least qs greatest → AreNumbered least (map (carried_posted e) qs) greatest
carried_numbered e least [] greatest h = h
carried_numbered e least (q ∷ qs) greatest h = (h.0, carried_numbered e q.number qs greatest h.1)

counted_is : (P : Posted → Type 0) (number : ℕ) (q : Posted) → P q → P (record q { turns = q.turns + 1 }) → P (counted number q)
counted_is P number q h k = by_test (nat_eq number q.number)
  where
    by_test : (b : Bool) → P (if b then record q { turns = q.turns + 1 } else q)
    by_test true = k
    by_test false = h

counted_numbered : (number least : ℕ) (qs : List Posted) (greatest : ℕ) → AreNumbered least qs greatest → AreNumbered least (map (counted number) qs) greatest
counted_numbered number least [] greatest h = h
counted_numbered number least (q ∷ qs) greatest h =
    let rest = counted_numbered number q.number qs greatest h.1 in
    counted_is (λ c. (least < c.number) × AreNumbered c.number (map (counted number) qs) greatest) number q (h.0, rest) (h.0, rest)

-- how many of them are a session's
same_count : (session : ℕ) (f : Posted → Posted) → ((q : Posted) → (f q).session ≡ q.session) → (qs : List Posted)
    → count_by (λ q. nat_eq session q.session) (map f qs) ≡ count_by (λ q. nat_eq session q.session) qs
same_count session f h [] = refl
same_count session f h (q ∷ qs) = rw (step (λ (q : Posted). nat_eq session q.session) (f q) (map f qs), step (λ (q : Posted). nat_eq session q.session) q qs, same_count session f h qs, h q) refl

fewer_posted : (keep : Posted → Bool) (session : ℕ) (qs : List Posted) → count_by (λ q. nat_eq session q.session) (filter keep qs) ≤ count_by (λ q. nat_eq session q.session) qs
fewer_posted keep session [] = omega arith
fewer_posted keep session (q ∷ qs) = rw (step (λ (q : Posted). nat_eq session q.session) q qs) (by_test (keep q) (fewer_posted keep session qs))
  where
    by_test : (b : Bool) → count_by (λ q. nat_eq session q.session) (filter keep qs) ≤ count_by (λ q. nat_eq session q.session) qs →
        count_by (λ q. nat_eq session q.session) (cond b (q ∷ filter keep qs) (filter keep qs)) ≤ cond (nat_eq session
        q.session) (1 + count_by (λ q. nat_eq session q.session) qs) (count_by (λ q. nat_eq session q.session) qs)
    by_test false rest = fewer_than (nat_eq session q.session) _ _ rest
    by_test true rest = rw (step (λ (q : Posted). nat_eq session q.session) q (filter keep qs)) (more_by (nat_eq session q.session) _ _ rest)

more_posted : (session : ℕ) (qs : List Posted) (q : Posted) → count_by (λ q. nat_eq session q.session) (qs ++ q ∷ [])
    ≡ count_by (λ q. nat_eq session q.session) qs + cond (nat_eq session q.session) 1 0
more_posted session [] q = refl
more_posted session (x ∷ qs) q = rw (
  step (λ (q : Posted). nat_eq session q.session) x (qs ++ q ∷ []),
  step (λ (q : Posted). nat_eq session q.session) x qs,
)
    (at_front (nat_eq session x.session) _ _ (cond (nat_eq session q.session) 1 0) (more_posted session qs q))
  where
    at_front : (b : Bool) (a n c : ℕ) → a ≡ n + c → cond b (1 + a) a ≡ cond b (1 + n) n + c
    at_front true a n c e = omega (arith, e)
    at_front false a n c e = e

-- the verdict leads to a state that is orderly
pub data Ends (s : State) : Verdict → Type 0 where
  ends : (v : Verdict) → IsOrderly (after s v) → Ends s v

ended : (s : State) (v : Verdict) → Ends s v → IsOrderly (after s v)
ended s v (ends u h) = h

module _ (rules : Rules) (s : State) (orderly : IsOrderly s) where
  abbrev pub Leads : Verdict → Type 0
  Leads v = Ends s v

  stays : (code : Code) → Leads (Refuses code)
  stays code = ends (Refuses code) orderly

  next : (b : Bool) → nat_eq s.version last_version ≡ b → (e : Edit) (t : Tree) → Leads (if b then Refuses code.Limit else Edits e t)
  next true is e t = ends (Refuses code.Limit) orderly
  next false is e t =
      let other = eqb-false s.version last_version is in
      ends (Edits e t) (record {
        apart = carried_apart e s.marks orderly.apart;
        few = λ session. (let a = carried_few e session s.marks in let b = orderly.few session in at_most _ _ _ a b);
        version = below_next s.version last_version orderly.version other;
        numbered = carried_numbered e 0 s.posted
            s.posts orderly.numbered;
        posts = orderly.posts;
        few_posted = λ session. (let a =
            same_count session (carried_posted e) (λ q. refl) s.posted in let b = orderly.few_posted session in rw a b);
      })
    where
      at_most : (a b c : ℕ) → a ≤ b → b ≤ c → a ≤ c
      at_most a b c h k = omega (arith, h, k)

  by_result : (e : Edit) (r : Result Tree edit.Refusal) → Leads (elim r [
    | Err refusal ↦ Refuses (code_of refusal)
    | Ok t ↦ if nat_eq s.version last_version then Refuses code.Limit else Edits e t
  ])
  by_result e (Err refusal) = ends (Refuses (code_of refusal)) orderly
  by_result e (Ok t) = next (nat_eq s.version last_version) refl e t

  by_edit : (e : Edit) → Leads (changed rules.classes s e)
  by_edit e = by_result e (edited_within s.limit rules.classes s.tree e)

  by_question : (n : Node) (name : List ℕ) (vs : List (Value Node)) → Leads (questioned rules s.tree n name vs)
  by_question n name vs = at_option Leads stays _ code.Attribute _ (λ a. if_both Leads (suit rules s.tree a vs) _ _ (ends _ orderly) (ends _ orderly))

  by_mark : (session : ℕ) (name : List ℕ) (n : Node) (b c : Bool) → is_marked s.marks session name ≡ b → nat_le max_marks (count_by (λ m. nat_eq session m.session) s.marks) ≡ c →
      Leads (if b then Refuses code.Taken else (if c then Refuses code.Limit else Leaves (s.marks ++ record { session = session; name = name; node = n } ∷ [])))
  by_mark session name n true c is few = ends (Refuses code.Taken) orderly
  by_mark session name n false true is few = ends (Refuses code.Limit) orderly
  by_mark session name n false false is few = ends (Leaves (s.marks ++ record { session = session; name = name; node = n } ∷ [])) (record {
    apart = more_apart s.marks (record { session = session; name = name; node = n }) orderly.apart (none_marked session name s.marks is);
    few = λ other. (let e = more_few other s.marks (record { session = session; name = name; node = n }) in rw e (room other (nat_eq other session) refl));
    version = orderly.version;
    numbered = orderly.numbered;
    posts = orderly.posts;
    few_posted = orderly.few_posted;
  })
    where
      small : count_by (λ m. nat_eq session m.session) s.marks < max_marks
      small = leb-false max_marks (count_by (λ m. nat_eq session m.session) s.marks) few

      room : (other : ℕ) (b : Bool) → nat_eq other session ≡ b → count_by (λ m. nat_eq other m.session) s.marks + cond b 1 0 ≤ max_marks
      room other true is =
          let same : session ≡ other = sym (eqb-true other session is) in
          let less : count_by (λ m. nat_eq other m.session) s.marks < max_marks = subst (λ (k : ℕ). count_by (λ m. nat_eq k m.session) s.marks < max_marks) same small in
          omega (arith, less)
      room other false is = let at_most = orderly.few other in omega (arith, at_most)

  by_post : (session : ℕ) (place : Place) (attribute : List ℕ) (arguments : List Argument) (b c : Bool)
      → nat_le max_posted (count_by (λ q. nat_eq session q.session) s.posted) ≡ b → nat_eq s.posts last_post ≡ c →
      Leads (if b then Refuses code.Limit else (if c then Refuses code.Limit else Posts (new_post s session place attribute arguments)))
  by_post session place attribute arguments true c few is = ends (Refuses code.Limit) orderly
  by_post session place attribute arguments false true few is = ends (Refuses code.Limit) orderly
  by_post session place attribute arguments false false few is =
      let q = new_post s session place attribute arguments in
      ends (Posts q) (record {
        apart = orderly.apart;
        few = orderly.few;
        version = orderly.version;
        numbered = numbered-append 0 s.posted s.posts q orderly.numbered (omega arith);
        posts = below_next s.posts last_post orderly.posts (eqb-false s.posts last_post is);
        few_posted = λ other. (let e = more_posted other s.posted q in rw e (room other (nat_eq other session) refl));
      })
    where
      small : count_by (λ q. nat_eq session q.session) s.posted < max_posted
      small = leb-false max_posted (count_by (λ q. nat_eq session q.session) s.posted) few

      room : (other : ℕ) (b : Bool) → nat_eq other session ≡ b → count_by (λ q. nat_eq other q.session) s.posted + cond b 1 0 ≤ max_posted
      room other true same_session =
          let same : session ≡ other = sym (eqb-true other session same_session) in
          let less : count_by (λ q. nat_eq other q.session) s.posted < max_posted = subst (λ (k : ℕ). count_by (λ q. nat_eq k q.session) s.posted < max_posted) same small in
          omega (arith, less)
      room other false same_session = let at_most = orderly.few_posted other in omega (arith, at_most)

  by_command : (session : ℕ) (c : Command) → Leads (obeyed rules s session c)
  by_command session (Ask place attribute arguments) =
      node_all Leads stays rules.classes s session place _ (λ n. at_option Leads stays
      (each (map (value_named rules.classes s session) arguments)) code.Path _ (λ vs. by_question n attribute vs))
  by_command session (Set place t) = node_all Leads stays rules.classes s session place _ (λ n. tree_all Leads stays rules.classes t _ _ (λ u. by_edit (edit.Set n u)))
  by_command session (Put place part t) = node_all Leads stays rules.classes s session place
      _ (λ n. component_all Leads stays rules.classes s.tree n part
      _ _ (λ p b. tree_all Leads stays rules.classes t (Some b) _ (λ u. by_edit (edit.Put n p u))))
  by_command session (Drop place) = node_all Leads stays rules.classes s session place _ (λ n. by_edit (edit.Drop n))
  by_command session (Insert place part index t) =
      node_all Leads stays rules.classes s session place _ (λ n. component_all Leads stays rules.classes s.tree n part
      _ _ (λ p b. tree_all Leads stays rules.classes t (Some b) _ (λ u. by_edit (edit.Insert n p index u))))
  by_command session (Token place part v) = node_all Leads stays rules.classes s session place _ (λ n. component_all Leads stays rules.classes s.tree n part _ _ (λ p kind. by_edit (edit.Token n p v)))
  by_command session (Move place to part index) =
      node_all Leads stays rules.classes s session place _ (λ n. node_all Leads stays rules.classes s session to
      _ (λ m. component_all Leads stays rules.classes s.tree m part _ _ (λ p b. by_edit (edit.Move n m p index))))
  by_command session (Show place) = node_all Leads stays rules.classes s session place _ (λ n. at_option Leads stays (tree_at s.tree n) code.Path _ (λ u. ends _ orderly))
  by_command session (Mark name place) = node_all Leads stays rules.classes s session place
      _ (λ n. by_mark session name n (is_marked s.marks session name)
      (nat_le max_marks (count_by (λ m. nat_eq session m.session) s.marks)) refl refl)
  by_command session (Unmark name) = ends (Leaves (filter (λ m. not (is_mark session name m)) s.marks))
      (record {
        apart = left_apart (λ m. not (is_mark session name m)) s.marks orderly.apart;
        few = λ other. (let a =
            left_few (λ m. not (is_mark session name m)) other s.marks in let b = orderly.few other in below_both _ _ _ a b);
        version = orderly.version;
        numbered = orderly.numbered;
        posts = orderly.posts;
        few_posted = orderly.few_posted;
      })
    where
      below_both : (a b c : ℕ) → a ≤ b → b ≤ c → a ≤ c
      below_both a b c h k = omega (arith, h, k)
  by_command session (Where name) = at_option Leads stays (marked s.marks session name) code.Mark _ (λ n. ends _ orderly)
  by_command session Version = ends (Leaves s.marks) (record {
    apart = orderly.apart;
    few = orderly.few;
    version = orderly.version;
    numbered = orderly.numbered;
    posts = orderly.posts;
    few_posted = orderly.few_posted;
  })
  by_command session (Post place attribute arguments) = by_post session place attribute arguments _ _ refl refl
  by_command session (Wait number) = if_both Leads (list_any (is_posted session number) s.posted) _ _ (ends (Waits number) orderly) (stays code.Question)

  orderly_line : (l : Line) → IsOrderly (after s (verdict rules s l))
  orderly_line l = ended s (verdict rules s l) (whole Leads stays rules s l (by_command l.session l.command))

-- a question is no longer open, or was given a turn
without_orderly : (s : State) (number : ℕ) → IsOrderly s → IsOrderly (without number s)
without_orderly s number orderly =
    let keep : Posted → Bool = λ q. not (nat_eq number q.number) in
    record {
      apart = orderly.apart;
      few = orderly.few;
      version = orderly.version;
      numbered = numbered-filter keep 0 s.posted s.posts orderly.numbered;
      posts = orderly.posts;
      few_posted = λ session. (let a = fewer_posted keep session s.posted in let b = orderly.few_posted session in omega (arith, a, b));
    }

pub orderly_turn : (rules : Rules) (old : State) (number : ℕ) (new : State) (o : Option (Bool × Reply)) → IsOrderly old → Turns rules old number new o → IsOrderly new
orderly_turn rules old number _ _ orderly (turn_stays q is) = record {
  apart = orderly.apart;
  few = orderly.few;
  version = orderly.version;
  numbered = counted_numbered number 0 old.posted old.posts orderly.numbered;
  posts = orderly.posts;
  few_posted = λ session. (let a = same_count session (counted number) (λ q. counted_is (λ c. c.session ≡ q.session) number q refl refl) old.posted in let b = orderly.few_posted session in rw a b);
}
orderly_turn rules old number _ _ orderly (answers q form is a) = without_orderly old number orderly
orderly_turn rules old number _ _ orderly (runs_out q is) = without_orderly old number orderly

pub orderly_given : (rules : Rules) (limit : ℕ) (old : State) (told : List (Bool × Reply)) (new : State) → IsOrderly old → Given rules limit old told new → IsOrderly new
orderly_given rules _ _ _ _ orderly (spent s) = orderly
orderly_given rules _ _ _ _ orderly (none_open limit s e) = orderly
orderly_given rules _ _ _ new orderly (silent {limit = limit} {s = s} {mid = mid} {told = told} q is turn rest) =
    orderly_given rules limit mid told new (orderly_turn rules s q.number mid None orderly turn) rest
orderly_given rules _ _ _ new orderly (telling {limit = limit} {s = s} {mid = mid} {said = said} {told = told} q is turn
    rest) = orderly_given rules limit mid told new (orderly_turn rules s q.number mid (Some said) orderly turn) rest

orderly_handled : (rules : Rules) (old : State) (bytes : List ℕ) (new : State) (said : Bool × Reply) → IsOrderly old → Handles rules old bytes new said → IsOrderly new
orderly_handled rules old bytes new _ orderly (obeys l spells step) = subst IsOrderly (sym step.state) (orderly_line rules old orderly l)
orderly_handled rules old bytes new said orderly (waits l number spells is answered) = let w =
    waited rules number old new said answered in subst IsOrderly (sym w.state) (without_orderly old number orderly)
orderly_handled rules old bytes _ _ orderly (refuses none session) = orderly

pub orderly_served : (rules : Rules) (old : State) (bytes : List ℕ) (new : State) (said : Bool × Reply) → IsOrderly old → Serves rules old bytes new said → IsOrderly new
orderly_served rules old bytes new said orderly (handles h) = orderly_handled rules old bytes new said orderly h
orderly_served rules old bytes _ _ orderly (runs_out session) = orderly

-- no number that is not above the least one is among them
none_below : (session number least : ℕ) (qs : List Posted) (greatest : ℕ) → AreNumbered least qs greatest → number ≤ least → list_any (is_posted session number) qs ≡ true → ⊥
none_below session number least [] greatest h k is = absurd cc
none_below session number least (q ∷ qs) greatest h k is =
    let above : least < q.number = h.0 in
    by_number (nat_eq session q.session) (nat_eq number q.number) refl is (none_below session number q.number qs greatest h.1 (omega (arith, k, above)))
  where
    by_number : (a b : Bool) → nat_eq number q.number ≡ b → (a && b || list_any (is_posted session number) qs) ≡ true → (list_any (is_posted session number) qs ≡ true → ⊥) → ⊥
    by_number a true e g rest = let same = eqb-true number q.number e in let above : least < q.number = h.0 in omega (arith, k, same, above)
    by_number true false e g rest = rest g
    by_number false false e g rest = rest g

-- the question of that number is the session's, where it has one of that number
its_session : (session number least : ℕ) (qs : List Posted) (greatest : ℕ) (q : Posted) → AreNumbered least qs greatest
    → list_any (is_posted session number) qs ≡ true → find (λ q. nat_eq number q.number) qs ≡ Some q
    → q.session ≡ session
its_session session number least [] greatest q h is found = absurd cc
its_session session number least (x ∷ qs) greatest q h is found =
    by_number (nat_eq session x.session) (nat_eq number x.number) refl refl is found (λ any then_found. its_session session number x.number qs greatest q h.1 any then_found)
  where
    by_number : (a b : Bool) → nat_eq session x.session ≡ a → nat_eq number x.number ≡ b → (a && b || list_any
        (is_posted session number) qs) ≡ true → (if b then Some x else find (λ q. nat_eq number q.number) qs) ≡ Some q →
        (list_any (is_posted session number) qs ≡ true → find (λ q. nat_eq number q.number) qs ≡ Some q → q.session ≡ session) → q.session ≡ session
    by_number true true d e g f rest = let same : x ≡ q = cc in ap (λ (y : Posted). y.session) (sym same) ∙ sym (eqb-true session x.session d)
    by_number false true d e g f rest = let same = eqb-true number x.number e in absurd (none_below session number x.number qs greatest h.1 (omega (arith, same)) g)
    by_number true false d e g f rest = rest g f
    by_number false false d e g f rest = rest g f

pub who_waits : (rules : Rules) (s : State) (l : Line) (number : ℕ) (q : Posted) → IsOrderly s → verdict rules s l ≡ Waits number → numbered_of s number ≡ Some q → q.session ≡ l.session
who_waits rules s l number q orderly is found = its_session l.session number 0 s.posted s.posts q orderly.numbered (open_for rules s l number is) found

pub told_waiting : (rules : Rules) (old : State) (l : Line) (number : ℕ) (new : State) (said : Bool × Reply) → IsOrderly
    old → verdict rules old l ≡ Waits number → Answered rules number old new said → said.1.session ≡ Some l.session
told_waiting rules old l number new said orderly is answered =
    let w = waited rules number old new said answered in
    ap (λ (r : Reply). r.session) w.reply ∙ ap Some (who_waits rules old l number w.question orderly is w.there)
