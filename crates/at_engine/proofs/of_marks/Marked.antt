-- What is done with marks, and with what they stand for.
use Rattle.std.proofs.Common.{◌≡◌, ℕ, Bool, true, false, cond, nat_eq, List, [], ◌∷◌, ◌++◌, length, Option, Some, None, is_some, option_map, option_and_then, filter, count_by, suc, refl, sym, ap, ◌∙◌, subst}
use Rattle.std.specs.List.{find, cons_option}
use Rattle.std.proofs.lemmas.List.Sums.{length-filter}
use Rattle.at_model.specs.Paths.{Node}
use Rattle.at_model.specs.Edits.{Edit, carried}
use Rattle.at_model.specs.Machine.{Marked, is_mark, marked, carried_marks}
use Rattle.at_engine.specs.Marks.{Mark, is_named, number_marked, mark_at, marks_view, AreThere}

-- what is there has a path
pub path_there : (o : Option Node) → is_some o ≡ true → (n : Node) × (o ≡ Some n)
path_there None e = absurd cc
path_there (Some n) e = (n, refl)

module _ (look : ℕ → Option Node) where
  first_marked : (session : ℕ) (name : List ℕ) (m : Mark) (ms : List Mark) (n : Node) (b : Bool) → look m.node ≡ Some n
      → marked (marks_view look ms) session name ≡ option_and_then look (number_marked ms session name)
      → option_map (λ (x : Marked). x.node) (cond b (Some (mark_at m n)) (find (is_mark session name) (marks_view look ms))) ≡ option_and_then look (option_map (λ (x : Mark). x.node) (cond b (Some m) (find (is_named session name) ms)))
  first_marked session name m ms n true e more = sym e
  first_marked session name m ms n false e more = more

  -- the node that is marked is that of the number that is marked
  pub marked_found : (session : ℕ) (name : List ℕ) (ms : List Mark) → AreThere look ms → marked (marks_view look ms) session name ≡ option_and_then look (number_marked ms session name)
  marked_found session name [] h = refl
  marked_found session name (m ∷ ms) h =
      let (n, e) = path_there (look m.node) h.0 in
      let P : Option Node → Type 0 = λ o. option_map (λ (x : Marked). x.node) (find (is_mark session name) (cons_option (option_map (mark_at m) o) (marks_view look ms))) ≡ option_and_then look (number_marked (m ∷ ms) session name) in
      subst P (sym e) (first_marked session name m ms n (is_named session name m) e (marked_found session name ms h.1))

  kept_in : (p : Marked → Bool) (q : Mark → Bool) (m : Mark) (ms : List Mark) (o : Option Node) (b : Bool) → look m.node ≡ o → ((n : Node) → p (mark_at m n) ≡ b)
      → filter p (marks_view look ms) ≡ marks_view look (filter q ms)
      → filter p (cons_option (option_map (mark_at m) o) (marks_view look ms)) ≡ marks_view look (cond b (m ∷ filter q ms) (filter q ms))
  kept_in p q m ms None true e same more = more ∙ sym (ap (λ o. cons_option (option_map (mark_at m) o) (marks_view look (filter q ms))) e)
  kept_in p q m ms None false e same more = more
  kept_in p q m ms (Some n) true e same more =
      ap (λ b. cond b (mark_at m n ∷ filter p (marks_view look ms)) (filter p (marks_view look ms))) (same n) ∙ ap (λ l. mark_at m n ∷ l) more ∙ sym (ap (λ o. cons_option (option_map (mark_at m) o) (marks_view look (filter q ms))) e)
  kept_in p q m ms (Some n) false e same more =
      ap (λ b. cond b (mark_at m n ∷ filter p (marks_view look ms)) (filter p (marks_view look ms))) (same n) ∙ more

  -- of marks that a test keeps those are left that the same test keeps of what they stand for
  pub filtered : (p : Marked → Bool) (q : Mark → Bool) → ((m : Mark) (n : Node) → p (mark_at m n) ≡ q m) → (ms : List Mark) → filter p (marks_view look ms) ≡ marks_view look (filter q ms)
  filtered p q same [] = refl
  filtered p q same (m ∷ ms) = kept_in p q m ms (look m.node) (q m) refl (same m) (filtered p q same ms)

  there_kept : (q : Mark → Bool) (m : Mark) (ms : List Mark) (b : Bool) → is_some (look m.node) ≡ true → AreThere look (filter q ms) → AreThere look (cond b (m ∷ filter q ms) (filter q ms))
  there_kept q m ms true h more = (h, more)
  there_kept q m ms false h more = more

  pub there_filtered : (q : Mark → Bool) (ms : List Mark) → AreThere look ms → AreThere look (filter q ms)
  there_filtered q [] h = tt
  there_filtered q (m ∷ ms) h = there_kept q m ms (q m) h.0 (there_filtered q ms h.1)

  -- they are as many
  pub as_many : (ms : List Mark) → AreThere look ms → length (marks_view look ms) ≡ length ms
  as_many [] h = refl
  as_many (m ∷ ms) h =
      let (n, e) = path_there (look m.node) h.0 in
      let P : Option Node → Type 0 = λ o. length (cons_option (option_map (mark_at m) o) (marks_view look ms)) ≡ length (m ∷ ms) in
      subst P (sym e) (ap suc (as_many ms h.1))

  pub counted : (session : ℕ) (ms : List Mark) → AreThere look ms → count_by (λ (x : Marked). nat_eq session x.session) (marks_view look ms) ≡ count_by (λ (x : Mark). nat_eq session x.session) ms
  counted session ms h =
      let p : Marked → Bool = λ x. nat_eq session x.session in
      let q : Mark → Bool = λ x. nat_eq session x.session in
      sym (length-filter p (marks_view look ms)) ∙ ap length (filtered p q (λ m n. refl) ms) ∙ as_many (filter q ms) (there_filtered q ms h) ∙ length-filter q ms

  -- one more mark
  pub pushed : (ms : List Mark) (m : Mark) (n : Node) → look m.node ≡ Some n → marks_view look (ms ++ m ∷ []) ≡ marks_view look ms ++ mark_at m n ∷ []
  pushed [] m n e = ap (λ o. cons_option (option_map (mark_at m) o) []) e
  pushed (x ∷ ms) m n e = elim (look x.node) as (λ o. cons_option (option_map (mark_at x) o) (marks_view look (ms ++ m ∷ [])) ≡ cons_option (option_map (mark_at x) o) (marks_view look ms) ++ mark_at m n ∷ []) [
    | None ↦ pushed ms m n e
    | Some y ↦ ap (λ l. mark_at x y ∷ l) (pushed ms m n e)
  ]

  pub there_pushed : (ms : List Mark) (m : Mark) → is_some (look m.node) ≡ true → AreThere look ms → AreThere look (ms ++ m ∷ [])
  there_pushed [] m e h = (e, tt)
  there_pushed (x ∷ ms) m e h = (h.0, there_pushed ms m e h.1)

  -- those whose nodes are there stand for what all stand for
  live_in : (m : Mark) (ms : List Mark) (o : Option Node) → look m.node ≡ o → marks_view look (filter (λ (x : Mark). is_some (look x.node)) ms) ≡ marks_view look ms
      → marks_view look (cond (is_some o) (m ∷ filter (λ (x : Mark). is_some (look x.node)) ms) (filter (λ (x : Mark). is_some (look x.node)) ms)) ≡ cons_option (option_map (mark_at m) o) (marks_view look ms)
  live_in m ms None e more = more
  live_in m ms (Some n) e more = ap (λ o. cons_option (option_map (mark_at m) o) (marks_view look (filter (λ (x : Mark). is_some (look x.node)) ms))) e ∙ ap (λ l. mark_at m n ∷ l) more

  pub live_left : (ms : List Mark) → marks_view look (filter (λ (x : Mark). is_some (look x.node)) ms) ≡ marks_view look ms
  live_left [] = refl
  live_left (m ∷ ms) = live_in m ms (look m.node) refl (live_left ms)

  live_there : (m : Mark) (xs : List Mark) (b : Bool) → is_some (look m.node) ≡ b → AreThere look xs → AreThere look (cond b (m ∷ xs) xs)
  live_there m xs true e h = (e, h)
  live_there m xs false e h = h

  pub there_left : (ms : List Mark) → AreThere look (filter (λ (x : Mark). is_some (look x.node)) ms)
  there_left [] = tt
  there_left (m ∷ ms) = live_there m (filter (λ (x : Mark). is_some (look x.node)) ms) (is_some (look m.node)) refl (there_left ms)

-- Over an edit marks follow their nodes.
pub carried_view : (old new : ℕ → Option Node) (e : Edit) → ((k : ℕ) (n : Node) → old k ≡ Some n → new k ≡ carried e n) → (ms : List Mark) → AreThere old ms → marks_view new ms ≡ carried_marks e (marks_view old ms)
carried_view old new e moved [] h = refl
carried_view old new e moved (m ∷ ms) h =
    let (n, is) = path_there (old m.node) h.0 in
    let P : Option Node → Type 0 = λ o. marks_view new (m ∷ ms) ≡ carried_marks e (cons_option (option_map (mark_at m) o) (marks_view old ms)) in
    subst P (sym is) (
    ap (λ o. cons_option (option_map (mark_at m) o) (marks_view new ms)) (moved m.node n is)
    ∙ ap (λ l. cons_option (option_map (mark_at m) (carried e n)) l) (carried_view old new e moved ms h.1)
    )
