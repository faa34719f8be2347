-- Which positions are open.
use Rattle.std.proofs.Common.{◌≡◌, ◌⊎◌, ℕ, zero, suc, ◌+◌, ◌<◌, Bool, true, false, List, [], ◌∷◌, ◌++◌, get_or, length, take, MatchBool, inl, inr, refl, sym, ap, ◌∙◌, subst, arith, true≢false}
use Rattle.std.proofs.lemmas.List.{take_more}
use Rattle.at_model.specs.Meaning.{Among}
use Rattle.at_model.proofs.Reached.{back_among, either_among, front_among}
use Rattle.at_solve.specs.Components.{listed_at}
use Rattle.at_search.specs.declared.system.System.{System}
use Rattle.at_search.specs.Solved.{AreClosed, AreShut, HasOpenedAll, HasOpenedAt, IsShutAt, is_open_at}
use Rattle.at_search.proofs.Places.{same_or_not}

pub among_item : (xs : List ℕ) (n d : ℕ) → n < length xs → Among (get_or xs n d) xs
among_item [] n d less = absurd (omega (arith, less))
among_item (y ∷ xs) zero d less = inl refl
among_item (y ∷ xs) (suc n) d less = inr (among_item xs n d (omega (arith, less)))

-- none of them is open, up to one more
pub one_closed : (open' : List Bool) (xs : List ℕ) (n d : ℕ) → n < length xs → false ≡ is_open_at open' (get_or xs n d) →
    AreClosed open' (take n xs) → AreClosed open' (take (n + 1) xs)
one_closed open' xs n d less here all m h =
    elim (either_among m (take n xs) (get_or xs n d ∷ []) (subst (λ z. Among m z) (take_more xs n d less) h)) [
      | inl a ↦ all m a
      | inr b ↦ elim b [ inl e ↦ ap (is_open_at open') e ∙ sym here | inr u ↦ absurd u ]
    ]

-- one that is open is enough
pub not_closed : (open' : List Bool) (xs : List ℕ) (n d : ℕ) → n < length xs → true ≡ is_open_at open' (get_or xs n d) →
    AreClosed open' xs → ⊥
not_closed open' xs n d less here all = true≢false (here ∙ all (get_or xs n d) (among_item xs n d less))

-- what is shut isn't open, and leads to nothing that is
pub shut_by : (b : Bool) (s : System) (q : ℕ) (targets : List ℕ) → is_open_at s.open.items q ≡ false → targets ≡ listed_at s.edges.items q →
    MatchBool b (AreClosed s.open.items targets) (AreClosed s.open.items targets → ⊥) → MatchBool b (IsShutAt s q) (IsShutAt s q → ⊥)
shut_by true s q targets off e h = (off, subst (λ z. AreClosed s.open.items z) e h)
shut_by false s q targets off e h = λ x. h (subst (λ z. AreClosed s.open.items z) (sym e) x.1)

-- so are all, up to one more
pub one_shut : (s : System) (xs : List ℕ) (n d : ℕ) (b : Bool) → n < length xs → b ≡ true →
    MatchBool b (IsShutAt s (get_or xs n d)) (IsShutAt s (get_or xs n d) → ⊥) → AreShut s (take n xs) → AreShut s (take (n + 1) xs)
one_shut s xs n d true less e here all q h =
    elim (either_among q (take n xs) (get_or xs n d ∷ []) (subst (λ z. Among q z) (take_more xs n d less) h)) [
      | inl a ↦ all q a
      | inr b ↦ elim b [ inl e ↦ subst (λ z. IsShutAt s z) (sym e) here | inr u ↦ absurd u ]
    ]
one_shut s xs n d false less e here all q h = absurd (true≢false (sym e))

-- one that isn't is enough
pub not_shut : (s : System) (xs : List ℕ) (n d : ℕ) (b : Bool) → n < length xs → b ≡ false →
    MatchBool b (IsShutAt s (get_or xs n d)) (IsShutAt s (get_or xs n d) → ⊥) → AreShut s xs → ⊥
not_shut s xs n d true less e here all = true≢false e
not_shut s xs n d false less e here all = here (all (get_or xs n d) (among_item xs n d less))

-- one more is open
pub opened_more : (xs : List ℕ) (n d : ℕ) (old mid new : System) → n < length xs → new.heads ≡ mid.heads → new.edges ≡ mid.edges →
    new.conditions ≡ mid.conditions → HasOpenedAt (get_or xs n d) mid.open.items new.open.items → HasOpenedAll (take n xs) old mid →
    HasOpenedAll (take (n + 1) xs) old new
opened_more xs n d old mid new less eh ee ec one all = record {
  heads = eh ∙ all.heads;
  edges = ee ∙ all.edges;
  conditions = ec ∙ all.conditions;
  size = one.size ∙ all.size;
  opened = λ m h. elim (either_among m (take n xs) (get_or xs n d ∷ []) (subst (λ z. Among m z) next h)) [
    | inl a ↦ kept m (all.opened m a)
    | inr b ↦ elim b [ inl e ↦ ap (is_open_at new.open.items) e ∙ one.here | inr u ↦ absurd u ]
  ];
  others = λ m out. one.others m (λ e. out (subst (λ z. Among m z) (sym next) (back_among m (take n xs) (get_or xs n d ∷ []) (inl e))))
      ∙ all.others m (λ h. out (subst (λ z. Among m z) (sym next) (front_among m (take n xs) (get_or xs n d ∷ []) h)));
}
  where
    next : take (n + 1) xs ≡ take n xs ++ get_or xs n d ∷ []
    next = take_more xs n d less

    kept : (m : ℕ) → is_open_at mid.open.items m ≡ true → is_open_at new.open.items m ≡ true
    kept m o = elim (same_or_not m (get_or xs n d)) [
      | inl e ↦ ap (is_open_at new.open.items) e ∙ one.here
      | inr off ↦ one.others m off ∙ o
    ]

-- one of these is open, if not all are closed
closed_or_open : (open' : List Bool) (xs : List ℕ) → AreClosed open' xs ⊎ ((p : ℕ) × Among p xs × (is_open_at open' p ≡ true))
closed_or_open open' [] = inl (λ m h. absurd h)
closed_or_open open' (x ∷ xs) = by (is_open_at open' x) refl (closed_or_open open' xs)
  where
    by : (b : Bool) → is_open_at open' x ≡ b → AreClosed open' xs ⊎ ((p : ℕ) × Among p xs × (is_open_at open' p ≡ true)) →
        AreClosed open' (x ∷ xs) ⊎ ((p : ℕ) × Among p (x ∷ xs) × (is_open_at open' p ≡ true))
    by true e r = inr (x, inl refl, e)
    by false e (inl all) = inl (λ m h. elim h [ inl q ↦ ap (is_open_at open') q ∙ e | inr a ↦ all m a ])
    by false e (inr (p, a, o)) = inr (p, inr a, o)

-- it is open, or leads to what is
abbrev pub IsNotShut : System → ℕ → Type 0
IsNotShut s q = (is_open_at s.open.items q ≡ true)
    ⊎ ((p : ℕ) × Among p (listed_at s.edges.items q) × (is_open_at s.open.items p ≡ true))

shut_at_or : (s : System) (q : ℕ) → IsShutAt s q ⊎ IsNotShut s q
shut_at_or s q = by (is_open_at s.open.items q) refl (closed_or_open s.open.items (listed_at s.edges.items q))
  where
    by : (b : Bool) → is_open_at s.open.items q ≡ b → AreClosed s.open.items (listed_at s.edges.items q)
        ⊎ ((p : ℕ) × Among p (listed_at s.edges.items q) × (is_open_at s.open.items p ≡ true)) → IsShutAt s q ⊎ IsNotShut s q
    by true e r = inr (inl e)
    by false e (inl all) = inl (e, all)
    by false e (inr w) = inr (inr w)

-- so is one of the group, if not all are shut
pub shut_or_open : (s : System) (group : List ℕ) → AreShut s group ⊎ ((q : ℕ) × Among q group × IsNotShut s q)
shut_or_open s [] = inl (λ q h. absurd h)
shut_or_open s (x ∷ xs) = by (shut_at_or s x) (shut_or_open s xs)
  where
    by : IsShutAt s x ⊎ IsNotShut s x → AreShut s xs ⊎ ((q : ℕ) × Among q xs × IsNotShut s q) →
        AreShut s (x ∷ xs) ⊎ ((q : ℕ) × Among q (x ∷ xs) × IsNotShut s q)
    by (inr w) r = inr (x, inl refl, w)
    by (inl h) (inl all) = inl (λ q a. elim a [ inl e ↦ subst (λ z. IsShutAt s z) (sym e) h | inr b ↦ all q b ])
    by (inl h) (inr (q, a, w)) = inr (q, inr a, w)
