-- A search passes what is whole: beside that it looks at the same, whether it is passed or gone through.
use Rattle.std.proofs.Common.{◌⊎◌, ℕ, zero, suc, ◌≤◌, List, [], ◌∷◌, ◌++◌, inl, inr, refl, sym, subst, append_assoc, arith}
use Rattle.at_model.specs.Run.{Instance, Contents}
use Rattle.at_model.specs.Meaning.{Among}
use Rattle.at_model.proofs.Reached.{front_among, back_among, either_among}
use Rattle.at_model.specs.of_fixpoints.Formulas.{atoms, Forms}
use Rattle.at_model.specs.of_fixpoints.Fixpoints.{EndsSo}
use Rattle.at_model.specs.of_fixpoints.Circles.{HasNone, IsOpen}
use Rattle.at_model.specs.of_fixpoints.Met.{LooksAt, here, again, formed, spoilt, deeper}
use Rattle.at_model.proofs.of_searching.Thinning.{IsTold, Thinned, nothing, keeps, drops, whole, front_dropped, front_kept, IsPart, IsPartWith, part_with_one, both_with_one, with_more, with_both, unseen, one_fewer, less_one, of_these, either_part}
use Rattle.at_model.proofs.of_searching.PassedFaults.{IsFormed}
use Rattle.at_model.proofs.of_searching.PassedCircles.{OpenWithin, also_open, below_one, atoms_in, spoilt_not, wants_not, not_open, wider, narrower, off_both}

module _ {N : Type 0} (look : Contents N) (forms : Forms N) where
  -- which of those under way have no outcome is all that counts
  pub looks_under : {u v s t : List (Instance N)} {x : Instance N} → OpenWithin look forms u v → OpenWithin look forms v u →
      LooksAt look forms u s t x → LooksAt look forms v s t x
  looks_under {u} {v} p q (here i) = here i
  looks_under {u} {v} p q (again i o h l) = again i (λ a. o (also_open look forms v u q i a)) h (looks_under p q l)
  looks_under {u} {v} p q (formed i f o h y l) = formed i f (λ a. o (also_open look forms v u q i a)) h y (looks_under p q l)
  looks_under {u} {v} p q (spoilt i at k o h y l) = spoilt i at k (λ a. o (also_open look forms v u q i a)) h y (looks_under p q l)
  looks_under {u} {v} {s} p q (deeper i k o h w m l) =
      deeper i k (λ a. o (also_open look forms v u q i a)) h w (λ a. m (below_one look forms v u i s q k w.1 a))
      (looks_under (below_one look forms u v i s p) (below_one look forms v u i s q) l)

module _ {N : Type 0} (look : Contents N) (forms : Forms N) (told : IsTold (Instance N)) (W : List (Instance N))
    (formed_all : IsFormed (EndsSo look forms) W) (valued : (i : Instance N) → Among i W → HasNone look forms i → ⊥) where
  -- it is one of these, or is looked at
  abbrev pub Beside : (u s t : List (Instance N)) → Instance N → Type 0
  Beside u s t x = Among x W ⊎ LooksAt look forms u s t x

  besides : {u s t u' s' t' : List (Instance N)} {x : Instance N} → (LooksAt look forms u s t x → LooksAt look forms u' s' t' x) →
      Beside u s t x → Beside u' s' t' x
  besides f (inl a) = inl a
  besides f (inr l) = inr (f l)

  -- where all of these were seen beside, no more is looked at but these, and they may be left out
  pub looks_less : {u s s' t t' : List (Instance N)} {x : Instance N} → IsPart s s' → IsPart W s' → IsPartWith W s' s →
      Thinned W t t' → LooksAt look forms u s t x → Beside u s' t' x
  looks_less p w q nothing l = absurd (elim l [ ])
  looks_less p w q (keeps _ m) (here i) = inr (here i)
  looks_less p w q (drops _ d m) (here i) = inl d
  looks_less p w q (keeps _ m) (again i o h l) = besides (λ z. again i o (p i h) z) (looks_less p w q m l)
  looks_less p w q (drops _ d m) (again i o h l) = looks_less p w q m l
  looks_less {u} {s} {s'} p w q (keeps _ m) (formed i f o h y l) = elim (told i W) [
    | inl d ↦ besides (λ z. again i o (w i d) z) (looks_less (part_with_one i s s' (w i d) p) w (with_more W i s' s q)
        (front_dropped W (atoms f) (atoms_in look forms told W formed_all valued i f d y) m) l)
    | inr off ↦ besides (λ z. formed i f o (off_both look forms told W formed_all valued s s' i q h off) y z)
        (looks_less (both_with_one i s s' p) (λ b c. inr (w b c)) (with_both W i s' s q) (front_kept W (atoms f) m) l)
  ]
  looks_less {u} {s} {s'} p w q (drops _ d m) (formed i f o h y l) =
      looks_less (part_with_one i s s' (w i d) p) w (with_more W i s' s q)
      (front_dropped W (atoms f) (atoms_in look forms told W formed_all valued i f d y) m) l
  looks_less {u} {s} {s'} p w q (keeps _ m) (spoilt i at k o h y l) =
      besides (λ z. spoilt i at k o (off_both look forms told W formed_all valued s s' i q h
      (λ d. spoilt_not look forms told W formed_all valued i at k d y)) y z)
      (looks_less (both_with_one i s s' p) (λ b c. inr (w b c)) (with_both W i s' s q) m l)
  looks_less p w q (drops _ d m) (spoilt i at k o h y l) = absurd (spoilt_not look forms told W formed_all valued i at k d y)
  looks_less {u} {s} {s'} p w q (keeps _ m) (deeper i k o h n a l) =
      inr (deeper i k o (off_both look forms told W formed_all valued s s' i q h (λ d. wants_not look forms told W formed_all valued i k d n)) n
      (λ b. a (narrower look forms told W formed_all valued u s s' i q k n.1 b))
      (looks_under look forms (wider look forms told W formed_all valued u s s' i p) (narrower look forms told W formed_all valued u s s' i q) l))
  looks_less p w q (drops _ d m) (deeper i k o h n a l) = absurd (wants_not look forms told W formed_all valued i k d n)

  off_open : (u : List (Instance N)) (i : Instance N) → Among i W → ¬ (IsOpen look forms u i)
  off_open u i h = not_open look forms told W formed_all valued u i h

  -- what is looked at behind them, however many of these were seen, is where they are to do
  walked : (n : ℕ) (ts u s t : List (Instance N)) {x : Instance N} → unseen told s W ≤ n → IsPart ts W →
      ((more : List (Instance N)) → IsPart s more → IsPartWith W more s → LooksAt look forms u more t x) →
      LooksAt look forms u s (ts ++ t) x
  walked n [] u s t le all then = then s (λ a h. h) (λ a h. inl h)
  walked zero (i ∷ ts) u s t le all then = elim (told i s) [
    | inl h ↦ again i (off_open u i (all i (inl refl))) h (walked zero ts u s t le (λ a g. all a (inr g)) then)
    | inr off ↦ absurd (let m = one_fewer told s W i (all i (inl refl)) off in let z : ⊥ = omega (arith, m, le) in z)
  ]
  walked (suc n) (i ∷ ts) u s t {x} le all then = elim (told i s) [
    | inl h ↦ again i (off_open u i (all i (inl refl))) h (walked (suc n) ts u s t le (λ a g. all a (inr g)) then)
    | inr off ↦
        let (f, y, p) = formed_all i (all i (inl refl)) in
        let m = one_fewer told s W i (all i (inl refl)) off in
        let less : unseen told (i ∷ s) W ≤ n = omega (arith, m, le) in
        formed i f (off_open u i (all i (inl refl))) off y
        (subst (λ z. LooksAt look forms u (i ∷ s) z x) (append_assoc (atoms f) ts t)
        (walked n (atoms f ++ ts) u (i ∷ s) t less
        (λ a g. elim (either_among a (atoms f) ts g) [ inl b ↦ p a b | inr b ↦ all a (inr b) ])
        (λ more q r. then more (λ a h. q a (inr h)) (less_one W i s more (all i (inl refl)) r))))
  ]

  -- what is looked at where all of these were seen beside is so where they weren't
  pub looks_more : {u s' t : List (Instance N)} {x : Instance N} → LooksAt look forms u s' t x → (s : List (Instance N)) →
      IsPart s s' → IsPart W s' → IsPartWith W s' s → LooksAt look forms u s t x
  looks_more (here i) s p w q = here i
  looks_more {u} {s'} (again i {todo = t} o h l) s p w q = elim (told i s) [
    | inl g ↦ again i o g (looks_more l s p w q)
    | inr off ↦ walked (unseen told s W) (i ∷ []) u s t (omega arith)
        (λ a g. elim g [ inl e ↦ subst (λ z. Among z W) (sym e) (of_these (q i h) off) | inr n ↦ absurd n ])
        (λ more m r. looks_more l more (λ a g. elim (r a g) [ inl b ↦ p a b | inr b ↦ w a b ]) w
        (λ a g. elim (q a g) [ inl b ↦ inl (m a b) | inr b ↦ inr b ]))
  ]
  looks_more {u} {s'} (formed i f o n h l) s p w q = formed i f o (λ a. n (p i a)) h
      (looks_more l (i ∷ s) (both_with_one i s s' p) (λ a g. inr (w a g)) (with_both W i s' s q))
  looks_more {u} {s'} (spoilt i at k o n h l) s p w q = spoilt i at k o (λ a. n (p i a)) h
      (looks_more l (i ∷ s) (both_with_one i s s' p) (λ a g. inr (w a g)) (with_both W i s' s q))
  looks_more {u} {s'} (deeper i k o n y m l) s p w q =
      deeper i k o (λ a. n (p i a)) y (λ b. m (wider look forms told W formed_all valued u s s' i p k y.1 b))
      (looks_under look forms (narrower look forms told W formed_all valued u s s' i q) (wider look forms told W formed_all valued u s s' i p) l)

  unmarked : {u t : List (Instance N)} {x : Instance N} (s : List (Instance N)) → LooksAt look forms u (W ++ s) t x → LooksAt look forms u s t x
  unmarked s l = looks_more l s (λ a g. back_among a W s g) (λ a g. front_among a W s g) (either_part W s)

  marked : {u t t' : List (Instance N)} {x : Instance N} (s : List (Instance N)) → Thinned W t t' → LooksAt look forms u s t x →
      Beside u (W ++ s) t' x
  marked s m l = looks_less (λ a g. back_among a W s g) (λ a g. front_among a W s g) (either_part W s) m l

  -- what is looked at behind one of them is so where that is to do, too
  pub looks_past : (i : Instance N) (u s t : List (Instance N)) {x : Instance N} → Among i W → LooksAt look forms u s t x →
      Beside u s (i ∷ t) x
  looks_past i u s t h l = elim (marked s (whole W t) l) [
    | inl a ↦ inl a
    | inr m ↦ inr (unmarked s (again i (off_open u i h) (front_among i W s h) m))
  ]

  -- and where that is to do no more is looked at but these
  pub past_only : (i : Instance N) (u s t : List (Instance N)) {x : Instance N} → Among i W → LooksAt look forms u s (i ∷ t) x →
      Beside u s t x
  past_only i u s t h l = elim (marked s (drops i h (whole W t)) l) [ inl a ↦ inl a | inr m ↦ inr (unmarked s m) ]
