-- Marks over an edit: which of them may go.
use Rattle.std.proofs.Common.{◌≡◌, ◌∙◌, ◌||◌, ℕ, Bool, true, false, cond, nat_eq, List, [], ◌∷◌, filter, Option, Some, None, is_some, refl, sym, ap, true≢false}
use Rattle.std.specs.List.{list_any}
use Rattle.std.proofs.lemmas.Bool.{eq-eqb, eqb-true}
use Rattle.at_model.specs.Edits.{Edit, carried}
use Rattle.at_model.specs.Paths.{Node}
use Rattle.at_store.specs.Preparing.{IsCommitted}
use Rattle.at_store.specs.Shown.{Shown, path}
use Rattle.at_engine.specs.Marks.{Mark, AreThere, has_node}
use Rattle.at_engine.proofs.of_marks.Marked.{path_there}

-- where the node of each mark is there, all are left
pub all_live : (look : ℕ → Option Node) (ms : List Mark) → AreThere look ms → filter (λ (m : Mark). is_some (look m.node)) ms ≡ ms
all_live look [] h = refl
all_live look (m ∷ ms) h = ap (λ b. cond b (m ∷ filter (λ (x : Mark). is_some (look x.node)) ms) (filter (λ (x : Mark). is_some (look x.node)) ms)) h.0 ∙ ap (λ l. m ∷ l) (all_live look ms h.1)

-- what one of two tests passes of some numbers
neither : (p q : ℕ → Bool) (b c : Bool) → (b || c) ≡ false → (b ≡ false) × (c ≡ false)
neither p q true c e = absurd cc
neither p q false c e = (refl, e)

neither_any : (p q : ℕ → Bool) (xs : List ℕ) → list_any (λ x. p x || q x) xs ≡ false → (list_any p xs ≡ false) × (list_any q xs ≡ false)
neither_any p q [] e = (refl, refl)
neither_any p q (x ∷ xs) e = split (p x) (q x) (list_any p xs) (list_any q xs) e (neither_any p q xs)
  where
    split : (a b c d : Bool) → ((a || b) || list_any (λ x. p x || q x) xs) ≡ false → (list_any (λ x. p x || q x) xs ≡ false → (c ≡ false) × (d ≡ false)) → ((a || c) ≡ false) × ((b || d) ≡ false)
    split true b c d e more = absurd cc
    split false true c d e more = absurd cc
    split false false c d e more = more e

same_way : (a b : ℕ) (p q : Bool) → nat_eq a b ≡ p → nat_eq b a ≡ q → p ≡ q
same_way a b true true e f = refl
same_way a b false false e f = refl
same_way a b true false e f = absurd (true≢false (sym (eq-eqb b a (sym (eqb-true a b e))) ∙ f))
same_way a b false true e f = absurd (true≢false (sym (eq-eqb a b (sym (eqb-true b a f))) ∙ e))

either_way : (k : ℕ) (xs : List ℕ) → list_any (λ x. nat_eq x k) xs ≡ list_any (nat_eq k) xs
either_way k [] = refl
either_way k (x ∷ xs) = (λ i. same_way x k (nat_eq x k) (nat_eq k x) refl refl i || either_way k xs i)

-- Where no node that goes is marked, the node of each mark is still there.
pub all_there : (old new : ℕ → Option Node) (leaving : List ℕ) → ((k : ℕ) → is_some (old k) ≡ true → is_some (new k) ≡ false → list_any (nat_eq k) leaving ≡ true)
    → (ms : List Mark) → AreThere old ms → list_any (has_node ms) leaving ≡ false → AreThere new ms
all_there old new leaving goes [] h none = tt
all_there old new leaving goes (m ∷ ms) h none =
    let (here, behind) = neither_any (λ n. nat_eq n m.node) (has_node ms) leaving none in
    (stays (is_some (new m.node)) refl (sym (either_way m.node leaving) ∙ here), all_there old new leaving goes ms h.1 behind)
  where
    stays : (b : Bool) → is_some (new m.node) ≡ b → list_any (nat_eq m.node) leaving ≡ false → b ≡ true
    stays true e off = refl
    stays false e off = absurd (true≢false (sym (goes m.node h.0 e) ∙ off))

nothing : (o : Option Node) → is_some o ≡ false → o ≡ None
nothing None e = refl
nothing (Some n) e = absurd cc

-- a node that isn't there behind the edit is among those that leave
pub gone_listed : (old new : Shown) (e : Edit) → IsCommitted old e new → (leaving : List ℕ) → ((k : ℕ) (n : Node) → path old k ≡ Some n → carried e n ≡ None → list_any (nat_eq k) leaving ≡ true)
    → (k : ℕ) → is_some (path old k) ≡ true → is_some (path new k) ≡ false → list_any (nat_eq k) leaving ≡ true
gone_listed old new e done leaving lists k here gone =
    let (n, at) = path_there (path old k) here in
    lists k n at (nothing (carried e n) (ap is_some (sym (done.paths k n at)) ∙ gone))
