-- A search for a fault passes what has a value: nothing is met there.
use Rattle.std.proofs.Common.{◌≡◌, ℕ, zero, suc, ◌≤◌, List, [], ◌∷◌, ◌++◌, inl, inr, refl, sym, subst, append_assoc, arith}
use Rattle.at_model.specs.Run.{Instance, FaultKind}
use Rattle.at_model.specs.Meaning.{Among}
use Rattle.at_model.specs.of_fixpoints.Formulas.{Formula, atoms}
use Rattle.at_model.specs.of_fixpoints.Fixpoints.{Made, Spoilt, Meets, again, formed, spoilt}
use Rattle.at_model.proofs.Reached.{front_among, back_among, either_among}
use Rattle.at_model.proofs.of_formulas.UniqueOutcomes.{Ending, OneEnd}
use Rattle.at_model.proofs.of_searching.Thinning.{IsTold, Thinned, nothing, keeps, drops, whole, front_dropped, front_kept, IsPart, IsPartWith, part_with_one, both_with_one, with_more, with_both, unseen, one_fewer, less_one, of_these, either_part}

-- each of these has a formula, of instances that are among these
abbrev pub IsFormed : {N : Type 0} → Ending N → List (Instance N) → Type 0
IsFormed {N} E W = (j : Instance N) → Among j W → (f : Formula N) × E j (Made f) × IsPart (atoms f) W

module _ {N : Type 0} (E : Ending N) (one : OneEnd E E) (told : IsTold (Instance N)) (W : List (Instance N))
    (formed_all : IsFormed E W) where
  -- what it has a formula of is among them
  atoms_within : (i : Instance N) (f : Formula N) → Among i W → E i (Made f) → IsPart (atoms f) W
  atoms_within i f h x =
      let (g, y, p) = formed_all i h in
      let q : Made g ≡ Made f = one i (Made g) (Made f) y x in let q' : g ≡ f = cc in
      subst (λ z. IsPart (atoms z) W) q' p

  not_spoilt : (i at : Instance N) (k : FaultKind) → Among i W → E i (Spoilt k at) → ⊥
  not_spoilt i at k h x =
      let (g, y, p) = formed_all i h in let q : Made g ≡ Spoilt k at = one i (Made g) (Spoilt k at) y x in cc

  -- where all of these were seen beside, the same is met, and they may be left out
  pub meets_less : {s s' t t' : List (Instance N)} {k : FaultKind} {at : Instance N} → IsPart s s' → IsPart W s' →
      IsPartWith W s' s → Thinned W t t' → Meets E s t k at → Meets E s' t' k at
  meets_less p w q nothing x = elim x [ ]
  meets_less p w q (keeps _ u) (again i h x) = again i (p i h) (meets_less p w q u x)
  meets_less p w q (drops _ d u) (again i h x) = meets_less p w q u x
  meets_less {s} {s'} p w q (keeps _ {t} {u} m) (formed i f n h x) = elim (told i W) [
    | inl d ↦ again i (w i d) (meets_less (part_with_one i s s' (w i d) p) w (with_more W i s' s q)
        (front_dropped W (atoms f) (atoms_within i f d h) m) x)
    | inr off ↦ formed i f (λ a. elim (q i a) [ inl b ↦ n b | inr b ↦ off b ]) h
        (meets_less (both_with_one i s s' p) (λ b c. inr (w b c)) (with_both W i s' s q) (front_kept W (atoms f) m) x)
  ]
  meets_less {s} {s'} p w q (drops _ d m) (formed i f n h x) =
      meets_less (part_with_one i s s' (w i d) p) w (with_more W i s' s q)
      (front_dropped W (atoms f) (atoms_within i f d h) m) x
  meets_less p w q (keeps _ u) (spoilt i n h) =
      spoilt i (λ a. elim (q i a) [ inl b ↦ n b | inr b ↦ not_spoilt i _ _ b h ]) h
  meets_less p w q (drops _ d u) (spoilt i n h) = absurd (not_spoilt i _ _ d h)

  -- what is met behind them, however many of these were seen, is met where they are to do
  walked : (n : ℕ) (ts s t : List (Instance N)) {k : FaultKind} {at : Instance N} → unseen told s W ≤ n → IsPart ts W →
      ((more : List (Instance N)) → IsPart s more → IsPartWith W more s → Meets E more t k at) → Meets E s (ts ++ t) k at
  walked n [] s t le all then = then s (λ a h. h) (λ a h. inl h)
  walked zero (i ∷ ts) s t le all then = elim (told i s) [
    | inl h ↦ again i h (walked zero ts s t le (λ a g. all a (inr g)) then)
    | inr off ↦ absurd (let m = one_fewer told s W i (all i (inl refl)) off in let z : ⊥ = omega (arith, m, le) in z)
  ]
  walked (suc n) (i ∷ ts) s t {k} {at} le all then = elim (told i s) [
    | inl h ↦ again i h (walked (suc n) ts s t le (λ a g. all a (inr g)) then)
    | inr off ↦
        let (f, y, p) = formed_all i (all i (inl refl)) in
        let m = one_fewer told s W i (all i (inl refl)) off in
        let less : unseen told (i ∷ s) W ≤ n = omega (arith, m, le) in
        formed i f off y (subst (λ z. Meets E (i ∷ s) z k at) (append_assoc (atoms f) ts t)
        (walked n (atoms f ++ ts) (i ∷ s) t less
        (λ a g. elim (either_among a (atoms f) ts g) [ inl b ↦ p a b | inr b ↦ all a (inr b) ])
        (λ more q r. then more (λ a h. q a (inr h)) (less_one W i s more (all i (inl refl)) r))))
  ]

  -- what is met where all of these were seen beside is met where they weren't
  pub meets_more : {s' t : List (Instance N)} {k : FaultKind} {at : Instance N} → Meets E s' t k at → (s : List (Instance N)) →
      IsPart s s' → IsPart W s' → IsPartWith W s' s → Meets E s t k at
  meets_more {s'} (again i {todo = t} h x) s p w q = elim (told i s) [
    | inl g ↦ again i g (meets_more x s p w q)
    | inr off ↦ walked (unseen told s W) (i ∷ []) s t (omega arith)
        (λ a g. elim g [ inl e ↦ subst (λ z. Among z W) (sym e) (of_these (q i h) off) | inr u ↦ absurd u ])
        (λ more m r. meets_more x more (λ a g. elim (r a g) [ inl b ↦ p a b | inr b ↦ w a b ]) w
        (λ a g. elim (q a g) [ inl b ↦ inl (m a b) | inr b ↦ inr b ]))
  ]
  meets_more {s'} (formed i f n h x) s p w q =
      formed i f (λ a. n (p i a)) h (meets_more x (i ∷ s) (both_with_one i s s' p) (λ a g. inr (w a g)) (with_both W i s' s q))
  meets_more (spoilt i n h) s p w q = spoilt i (λ a. n (p i a)) h

  -- what is met behind one of them is met where that is to do, too
  pub meets_past : (i : Instance N) (s t : List (Instance N)) {k : FaultKind} {at : Instance N} → Among i W →
      Meets E s t k at → Meets E s (i ∷ t) k at
  meets_past i s t h x =
      meets_more (again i (front_among i W s h) (meets_less (λ a g. back_among a W s g) (λ a g. front_among a W s g)
      (either_part W s) (whole W t) x)) s (λ a g. back_among a W s g) (λ a g. front_among a W s g) (either_part W s)
