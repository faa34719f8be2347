-- A search for a circle passes what has a value: none closes there.
use Rattle.std.proofs.Common.{◌≡◌, ℕ, zero, suc, ◌≤◌, List, [], ◌∷◌, ◌++◌, inl, inr, refl, sym, subst, append_assoc, arith}
use Rattle.at_model.specs.Run.{Instance, Contents}
use Rattle.at_model.specs.Meaning.{Among}
use Rattle.at_model.proofs.Reached.{front_among, back_among, either_among}
use Rattle.at_model.specs.of_fixpoints.Formulas.{Formula, atoms, Forms}
use Rattle.at_model.specs.of_fixpoints.Fixpoints.{End, Made, Spoilt, EndsSo, HasForm}
use Rattle.at_model.specs.of_fixpoints.Circles.{HasNone, IsOpen, WantsNone, Closes, back, again, formed, spoilt, comes_back, deeper}
use Rattle.at_model.proofs.of_formulas.UniqueOutcomes.{ends_at}
use Rattle.at_model.proofs.of_formulas.ClosedOnce.{not_ended, no_settling}
use Rattle.at_model.proofs.of_searching.Thinning.{IsTold, Thinned, nothing, keeps, drops, whole, front_dropped, front_kept, IsPart, IsPartWith, part_with_one, both_with_one, with_more, with_both, unseen, one_fewer, less_one, of_these, either_part}
use Rattle.at_model.proofs.of_searching.PassedFaults.{IsFormed}

-- an equation ends in one way
pub ends_one : {N : Type 0} (look : Contents N) (forms : Forms N) (i : Instance N) (d e : End N (Formula N)) →
    EndsSo look forms i d → EndsSo look forms i e → d ≡ e
ends_one look forms i d e (m, x) (n, y) = ends_at look forms m n i d e x y

-- those of the first that have no outcome are among the second
abbrev pub OpenWithin : {N : Type 0} → Contents N → Forms N → List (Instance N) → List (Instance N) → Type 0
OpenWithin {N} look forms these those = (i : Instance N) → HasNone look forms i → Among i these → Among i those

module _ {N : Type 0} (look : Contents N) (forms : Forms N) where
  pub also_open : (u v : List (Instance N)) → OpenWithin look forms u v → (i : Instance N) → IsOpen look forms u i →
      IsOpen look forms v i
  also_open u v p i (h, n) = (p i n h, n)

  pub below_one : (u v : List (Instance N)) (i : Instance N) (seen : List (Instance N)) → OpenWithin look forms u v →
      OpenWithin look forms (i ∷ (seen ++ u)) (i ∷ (seen ++ v))
  below_one u v i seen p k n (inl e) = inl e
  below_one u v i seen p k n (inr h) = elim (either_among k seen u h) [
    | inl a ↦ inr (front_among k seen v a)
    | inr a ↦ inr (back_among k seen v (p k n a))
  ]

  -- which of those under way have no outcome is all that counts
  pub closes_under : {u v s t : List (Instance N)} {j : Instance N} → OpenWithin look forms u v → OpenWithin look forms v u →
      Closes look forms u s t j → Closes look forms v s t j
  closes_under {u} {v} p q (back i o) = back i (also_open u v p i o)
  closes_under {u} {v} p q (again i o h x) = again i (λ a. o (also_open v u q i a)) h (closes_under p q x)
  closes_under {u} {v} p q (formed i f o h y x) = formed i f (λ a. o (also_open v u q i a)) h y (closes_under p q x)
  closes_under {u} {v} p q (spoilt i at k o h y x) = spoilt i at k (λ a. o (also_open v u q i a)) h y (closes_under p q x)
  closes_under {u} {v} {s} p q (comes_back i k o h w m) =
      comes_back i k (λ a. o (also_open v u q i a)) h w (below_one u v i s p k w.1 m)
  closes_under {u} {v} {s} p q (deeper i k o h w m x) =
      deeper i k (λ a. o (also_open v u q i a)) h w (λ a. m (below_one v u i s q k w.1 a))
      (closes_under (below_one u v i s p) (below_one v u i s q) x)

module _ {N : Type 0} (look : Contents N) (forms : Forms N) (told : IsTold (Instance N)) (W : List (Instance N))
    (formed_all : IsFormed (EndsSo look forms) W) (valued : (i : Instance N) → Among i W → HasNone look forms i → ⊥) where
  pub atoms_in : (i : Instance N) (f : Formula N) → Among i W → HasForm look forms i f → IsPart (atoms f) W
  atoms_in i f h x =
      let (g, y, p) = formed_all i h in
      let q : Made g ≡ Made f = ends_one look forms i (Made g) (Made f) y x in let q' : g ≡ f = cc in
      subst (λ z. IsPart (atoms z) W) q' p

  pub spoilt_not : (i at : Instance N) (k : _) → Among i W → EndsSo look forms i (Spoilt k at) → ⊥
  spoilt_not i at k h x =
      let (g, y, p) = formed_all i h in
      let q : Made g ≡ Spoilt k at = ends_one look forms i (Made g) (Spoilt k at) y x in cc

  pub wants_not : (i k : Instance N) → Among i W → WantsNone look forms i k → ⊥
  wants_not i k h (r, n) =
      let (g, y, p) = formed_all i h in not_ended look forms i k (no_settling look forms k n) r (Made g) y

  pub not_open : (u : List (Instance N)) (i : Instance N) → Among i W → IsOpen look forms u i → ⊥
  not_open u i h (a, n) = valued i h n

  pub wider : (u s s' : List (Instance N)) (i : Instance N) → IsPart s s' →
      OpenWithin look forms (i ∷ (s ++ u)) (i ∷ (s' ++ u))
  wider u s s' i p k n (inl e) = inl e
  wider u s s' i p k n (inr h) = elim (either_among k s u h) [
    | inl a ↦ inr (front_among k s' u (p k a))
    | inr a ↦ inr (back_among k s' u a)
  ]

  pub narrower : (u s s' : List (Instance N)) (i : Instance N) → IsPartWith W s' s →
      OpenWithin look forms (i ∷ (s' ++ u)) (i ∷ (s ++ u))
  narrower u s s' i q k n (inl e) = inl e
  narrower u s s' i q k n (inr h) = elim (either_among k s' u h) [
    | inl a ↦ elim (q k a) [ inl b ↦ inr (front_among k s u b) | inr b ↦ absurd (valued k b n) ]
    | inr a ↦ inr (back_among k s u a)
  ]

  pub off_both : (s s' : List (Instance N)) (i : Instance N) → IsPartWith W s' s → (¬ (Among i s)) → (¬ (Among i W)) →
      (¬ (Among i s'))
  off_both s s' i q n off a = elim (q i a) [ inl b ↦ n b | inr b ↦ off b ]

  -- where all of these were seen beside, the same closes, and they may be left out
  pub closes_less : {u s s' t t' : List (Instance N)} {j : Instance N} → IsPart s s' → IsPart W s' → IsPartWith W s' s →
      Thinned W t t' → Closes look forms u s t j → Closes look forms u s' t' j
  closes_less p w q nothing x = elim x [ ]
  closes_less p w q (keeps _ m) (back i o) = back i o
  closes_less {u} p w q (drops _ d m) (back i o) = absurd (not_open u i d o)
  closes_less p w q (keeps _ m) (again i o h x) = again i o (p i h) (closes_less p w q m x)
  closes_less p w q (drops _ d m) (again i o h x) = closes_less p w q m x
  closes_less {u} {s} {s'} p w q (keeps _ m) (formed i f o h y x) = elim (told i W) [
    | inl d ↦ again i o (w i d) (closes_less (part_with_one i s s' (w i d) p) w (with_more W i s' s q)
        (front_dropped W (atoms f) (atoms_in i f d y) m) x)
    | inr off ↦ formed i f o (off_both s s' i q h off) y (closes_less (both_with_one i s s' p) (λ b c. inr (w b c))
        (with_both W i s' s q) (front_kept W (atoms f) m) x)
  ]
  closes_less {u} {s} {s'} p w q (drops _ d m) (formed i f o h y x) =
      closes_less (part_with_one i s s' (w i d) p) w (with_more W i s' s q) (front_dropped W (atoms f) (atoms_in i f d y) m) x
  closes_less {u} {s} {s'} p w q (keeps _ m) (spoilt i at k o h y x) =
      spoilt i at k o (off_both s s' i q h (λ d. spoilt_not i at k d y)) y
      (closes_less (both_with_one i s s' p) (λ b c. inr (w b c)) (with_both W i s' s q) m x)
  closes_less p w q (drops _ d m) (spoilt i at k o h y x) = absurd (spoilt_not i at k d y)
  closes_less {u} {s} {s'} p w q (keeps _ m) (comes_back i k o h n a) =
      comes_back i k o (off_both s s' i q h (λ d. wants_not i k d n)) n (wider u s s' i p k n.1 a)
  closes_less p w q (drops _ d m) (comes_back i k o h n a) = absurd (wants_not i k d n)
  closes_less {u} {s} {s'} p w q (keeps _ m) (deeper i k o h n a x) =
      deeper i k o (off_both s s' i q h (λ d. wants_not i k d n)) n (λ b. a (narrower u s s' i q k n.1 b))
      (closes_under look forms (wider u s s' i p) (narrower u s s' i q) x)
  closes_less p w q (drops _ d m) (deeper i k o h n a x) = absurd (wants_not i k d n)

  -- what closes behind them, however many of these were seen, closes where they are to do
  walked : (n : ℕ) (ts u s t : List (Instance N)) {j : Instance N} → unseen told s W ≤ n → IsPart ts W →
      ((more : List (Instance N)) → IsPart s more → IsPartWith W more s → Closes look forms u more t j) →
      Closes look forms u s (ts ++ t) j
  walked n [] u s t le all then = then s (λ a h. h) (λ a h. inl h)
  walked zero (i ∷ ts) u s t le all then = elim (told i s) [
    | inl h ↦ again i (not_open u i (all i (inl refl))) h (walked zero ts u s t le (λ a g. all a (inr g)) then)
    | inr off ↦ absurd (let m = one_fewer told s W i (all i (inl refl)) off in let z : ⊥ = omega (arith, m, le) in z)
  ]
  walked (suc n) (i ∷ ts) u s t {j} le all then = elim (told i s) [
    | inl h ↦ again i (not_open u i (all i (inl refl))) h (walked (suc n) ts u s t le (λ a g. all a (inr g)) then)
    | inr off ↦
        let (f, y, p) = formed_all i (all i (inl refl)) in
        let m = one_fewer told s W i (all i (inl refl)) off in
        let less : unseen told (i ∷ s) W ≤ n = omega (arith, m, le) in
        formed i f (not_open u i (all i (inl refl))) off y
        (subst (λ z. Closes look forms u (i ∷ s) z j) (append_assoc (atoms f) ts t)
        (walked n (atoms f ++ ts) u (i ∷ s) t less
        (λ a g. elim (either_among a (atoms f) ts g) [ inl b ↦ p a b | inr b ↦ all a (inr b) ])
        (λ more q r. then more (λ a h. q a (inr h)) (less_one W i s more (all i (inl refl)) r))))
  ]

  -- what closes where all of these were seen beside closes where they weren't
  pub closes_more : {u s' t : List (Instance N)} {j : Instance N} → Closes look forms u s' t j → (s : List (Instance N)) →
      IsPart s s' → IsPart W s' → IsPartWith W s' s → Closes look forms u s t j
  closes_more (back i o) s p w q = back i o
  closes_more {u} {s'} (again i {todo = t} o h x) s p w q = elim (told i s) [
    | inl g ↦ again i o g (closes_more x s p w q)
    | inr off ↦ walked (unseen told s W) (i ∷ []) u s t (omega arith)
        (λ a g. elim g [ inl e ↦ subst (λ z. Among z W) (sym e) (of_these (q i h) off) | inr n ↦ absurd n ])
        (λ more m r. closes_more x more (λ a g. elim (r a g) [ inl b ↦ p a b | inr b ↦ w a b ]) w
        (λ a g. elim (q a g) [ inl b ↦ inl (m a b) | inr b ↦ inr b ]))
  ]
  closes_more {u} {s'} (formed i f o n h x) s p w q = formed i f o (λ a. n (p i a)) h
      (closes_more x (i ∷ s) (both_with_one i s s' p) (λ a g. inr (w a g)) (with_both W i s' s q))
  closes_more {u} {s'} (spoilt i at k o n h x) s p w q = spoilt i at k o (λ a. n (p i a)) h
      (closes_more x (i ∷ s) (both_with_one i s s' p) (λ a g. inr (w a g)) (with_both W i s' s q))
  closes_more {u} {s'} (comes_back i k o n y m) s p w q =
      comes_back i k o (λ a. n (p i a)) y (narrower u s s' i q k y.1 m)
  closes_more {u} {s'} (deeper i k o n y m x) s p w q =
      deeper i k o (λ a. n (p i a)) y (λ b. m (wider u s s' i p k y.1 b))
      (closes_under look forms (narrower u s s' i q) (wider u s s' i p) x)

  -- what closes behind one of them closes where that is to do, too
  pub closes_past : (i : Instance N) (u s t : List (Instance N)) {j : Instance N} → Among i W → Closes look forms u s t j →
      Closes look forms u s (i ∷ t) j
  closes_past i u s t h x =
      closes_more (again i (not_open u i h) (front_among i W s h) (closes_less (λ a g. back_among a W s g)
      (λ a g. front_among a W s g) (either_part W s) (whole W t) x)) s (λ a g. back_among a W s g)
      (λ a g. front_among a W s g) (either_part W s)
