-- One more question: what the machine makes of the post.
use Rattle.std.proofs.Common.{◌≡◌, ◌∙◌, ◌++◌, ℕ, zero, suc, ◌+◌, ◌<◌, ◌≤◌, Bool, true, false, ◌||◌, cond, if◌then◌else◌, nat_eq, List, [], ◌∷◌, map, filter, count_by, length, get_or, ap, arith, refl, sym, string_bytes, Option, Some, None, subst}
use Rattle.std.specs.List.{list_any, position_or_len}
use Rattle.std.specs.Prelude.{MatchOption, position, slice_get}
use Rattle.std.proofs.lemmas.Bool.{and_parts, eqb-true}
use Rattle.std.proofs.lemmas.Grind.{common_steps}
use Rattle.std.proofs.lemmas.List.Quantifiers.{position-Some}
use Rattle.std.proofs.lemmas.List.{map-append}
use Rattle.std.proofs.lemmas.List.Sums.{fails_before_first, length-filter}
use Rattle.at_model.specs.Lines.{Post, Wait}
use Rattle.at_model.specs.Replies as code
use Rattle.at_model.specs.Paths.{Node}
use Rattle.at_model.specs.Rules.{Rules}
use Rattle.at_model.specs.Machine.{Posted as PostedOf, Verdict, Refuses, Posts as PostsOf, Waits, after, is_posted, marks_used, obeyed}
use Rattle.at_protocol.specs.LineView.{arguments_view, place_view}
use Rattle.at_store.specs.Shown.{Shown, path}
use Rattle.at_engine.specs.Holding.{state_in}
use Rattle.at_engine.specs.Marks.{Mark, AreThere, Copies}
use Rattle.at_engine.specs.Posted.{is_numbered, posted_view, turns_given}
use Rattle.at_engine.specs.Following.{IsAtOnce}
use Rattle.at_engine.specs.Turning.{IsAwaited}
use Rattle.at_engine.specs.declared.posts.Posted.{Posted}
use Rattle.at_engine.specs.declared.posts.Posts.{Posts}
use Rattle.at_engine.proofs.Commands.{posted_next}
use Rattle.at_engine.proofs.Positions.{there_at}

filtered_as : {A B : Type 0} (f : A → B) (p : B → Bool) (q : A → Bool) → ((a : A) → p (f a) ≡ q a) → (xs : List A) → length (filter p (map f xs)) ≡ length (filter q xs)
filtered_as f p q same [] = refl
filtered_as f p q same (x ∷ xs) = ap (λ b. length (cond b (f x ∷ filter p (map f xs)) (filter p (map f xs)))) (same x) ∙ by (q x) (filtered_as f p q same xs)
  where
    by : (b : Bool) → length (filter p (map f xs)) ≡ length (filter q xs) → length (cond b (f x ∷ filter p (map f xs)) (filter p (map f xs))) ≡ length (cond b (x ∷ filter q xs) (filter q xs))
    by true e = ap suc e
    by false e = e

-- a session has as many open questions
pub as_many_posted : (look : ℕ → Option Node) (session : ℕ) (ps : List Posted) → count_by (λ (q : PostedOf). nat_eq session q.session) (map (posted_view look) ps) ≡ count_by (λ (p : Posted). nat_eq session p.session) ps
as_many_posted look session ps =
    let p : PostedOf → Bool = λ q. nat_eq session q.session in
    let q : Posted → Bool = λ x. nat_eq session x.session in
    sym (length-filter p (map (posted_view look) ps)) ∙ filtered_as (posted_view look) p q (λ a. refl) ps ∙ length-filter q ps

-- the state with one more
pub state_pushed : (rules : Rules) (s : Shown) (version : ℕ) (ms : List Mark) (old new : Posts) (p : Posted) → AreThere (path s) ms → new.items.items ≡ old.items.items ++ p ∷ [] → new.count ≡ p.number → p.number ≡ old.count + 1
    → Copies p.session (marks_used (Post (place_view p.place) (string_bytes p.attribute) (arguments_view p.arguments.items))) ms [] p.marks.items.items → p.question ≡ None
    → state_in s version ms new ≡ after (state_in s version ms old) (PostsOf (posted_next rules (state_in s version ms old) p.session (place_view p.place) (string_bytes p.attribute) (arguments_view p.arguments.items)))
state_pushed rules s version ms old new p there items count next copies none =
    let is : posted_view (path s) p ≡ posted_next rules (state_in s version ms old) p.session (place_view p.place) (string_bytes p.attribute) (arguments_view p.arguments.items) =
    λ i. record {
      number = next i;
      session = p.session;
      place = place_view p.place;
      attribute = string_bytes p.attribute;
      arguments = arguments_view p.arguments.items;
      marks = copies.named (path s) there i;
      turns = turns_given (none i);
    } in
    let posted = ap (map (posted_view (path s))) items ∙ map-append (posted_view (path s)) old.items.items (p ∷ []) ∙ ap (λ x. map (posted_view (path s)) old.items.items ++ x ∷ []) is in
    λ i. record (state_in s version ms old) { posts = (count ∙ next) i; posted = posted i }

-- tests of all elements
get_at : {A : Type 0} (xs : List A) (i : ℕ) (a d : A) → slice_get xs i ≡ Some a → get_or xs i d ≡ a
get_at [] zero a d e = absurd cc
get_at [] (suc i) a d e = absurd cc
get_at (x ∷ xs) zero a d e = let same : x ≡ a = cc in same
get_at (x ∷ xs) (suc i) a d e = get_at xs i a d e

or_true : (b : Bool) → (b || true) ≡ true
or_true true = refl
or_true false = refl

any_at : {A : Type 0} (test : A → Bool) (xs : List A) (i : ℕ) (a : A) → slice_get xs i ≡ Some a → test a ≡ true → list_any test xs ≡ true
any_at test [] zero a e h = absurd cc
any_at test [] (suc i) a e h = absurd cc
any_at test (x ∷ xs) zero a e h = let same : x ≡ a = cc in ap (λ y. test y || list_any test xs) same ∙ ap (λ b. b || list_any test xs) h
any_at test (x ∷ xs) (suc i) a e h = ap (λ b. test x || b) (any_at test xs i a e h) ∙ or_true (test x)

any_none : {A : Type 0} (test : A → Bool) (xs : List A) → ((k : ℕ) (d : A) → k < length xs → test (get_or xs k d) ≡ false) → list_any test xs ≡ false
any_none test [] h = refl
any_none test (x ∷ xs) h = ap (λ b. b || list_any test xs) (h 0 x (omega arith)) ∙ any_none test xs (λ k d l. h (suc k) d (omega (arith, l)))

any_viewed : (look : ℕ → Option Node) (session number : ℕ) (ps : List Posted) → list_any (is_posted session number) (map (posted_view look) ps) ≡ list_any (is_numbered session number) ps
any_viewed look session number [] = refl
any_viewed look session number (p ∷ ps) = ap (λ b. is_numbered session number p || b) (any_viewed look session number ps)

-- the position of the session's question of that number, or that it has none
position_in : (session number : ℕ) (ps : List Posted) (i : ℕ) → position (is_numbered session number) ps ≡ Some i → (p : Posted) × (slice_get ps i ≡ Some p) × (is_numbered session number p ≡ true)
position_in session number [] i e = absurd cc
position_in session number (x ∷ ps) i e =
    let (inside, passes, earlier) = position-Some (is_numbered session number) (x ∷ ps) i x e in
    let (p, there) = there_at (x ∷ ps) i inside in
    (p, there, sym (ap (is_numbered session number) (get_at (x ∷ ps) i p x there)) ∙ passes)

pub position_there : (look : ℕ → Option Node) (session number : ℕ) (ps : List Posted) (i : ℕ) → position (is_numbered session number) ps ≡ Some i → (p : Posted) × (slice_get ps i ≡ Some p) × (number ≡ p.number) × (list_any (is_posted session number) (map (posted_view look) ps) ≡ true)
position_there look session number ps i e =
    let (p, there, is) = position_in session number ps i e in
    let (a, b) = and_parts (nat_eq session p.session) (nat_eq number p.number) is in
    (p, there, eqb-true number p.number b, any_viewed look session number ps ∙ any_at (is_numbered session number) ps i p there is)

pub position_none : (look : ℕ → Option Node) (session number : ℕ) (ps : List Posted) → position (is_numbered session number) ps ≡ None → list_any (is_posted session number) (map (posted_view look) ps) ≡ false
position_none look session number ps e =
    let test = is_numbered session number in
    let past : length ps ≤ position_or_len test ps = grind (arith, common_steps) in
    any_viewed look session number ps ∙ any_none test ps (λ k d l. fails_before_first test ps k d (omega (arith, past, l)))

-- the verdict of a line that waits
module _ (rules : Rules) (s : Shown) (version : ℕ) (ms : List Mark) (ps : Posts) (session number : ℕ) where
  abbrev by_wait : Bool → Verdict
  by_wait b = if b then Waits number else Refuses code.Question

  pub waits_at : (i : ℕ) → position (is_numbered session number) ps.items.items ≡ Some i → IsAwaited rules (state_in s version ms ps) session (Wait number) ps.items.items i
  waits_at i e =
      let (p, there, same, any) = position_there (path s) session number ps.items.items i e in
      record { question = p; there = there; waits = ap by_wait any ∙ ap Waits same }

  pub waits_not : position (is_numbered session number) ps.items.items ≡ None → IsAtOnce (obeyed rules (state_in s version ms ps) session (Wait number))
  waits_not e = subst (λ b. IsAtOnce (by_wait b)) (sym (position_none (path s) session number ps.items.items e)) tt

  pub waits_or_not : (o : Option ℕ) → position (is_numbered session number) ps.items.items ≡ o → MatchOption o (IsAtOnce (obeyed rules (state_in s version ms ps) session (Wait number))) (λ i. IsAwaited rules (state_in s version ms ps) session (Wait number) ps.items.items i)
  waits_or_not (Some i) e = waits_at i e
  waits_or_not None e = waits_not e
