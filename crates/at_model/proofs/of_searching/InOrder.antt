-- A search, depth first, keeps its order.
use Rattle.std.proofs.Common.{◌≡◌, ◌⊎◌, List, [], ◌∷◌, ◌++◌, inl, inr, refl, sym, subst}
use Rattle.at_model.specs.Run.{Instance}
use Rattle.at_model.specs.Meaning.{Among}
use Rattle.at_model.proofs.Reached.{front_among, back_among}
use Rattle.at_model.specs.of_fixpoints.Formulas.{Formula, atoms}
use Rattle.at_model.specs.of_fixpoints.Fixpoints.{End, Made, Spoilt, LeadsOver, stays, goes}
use Rattle.at_model.specs.of_fixpoints.Searching.{asked_in}
use Rattle.at_model.specs.of_fixpoints.Searched.{Before, Within, IsInOrder}
use Rattle.at_model.proofs.of_formulas.UniqueOutcomes.{Ending, OneEnd, one_further}

-- where the other one stands in front, it does, too
front_before : {A : Type 0} (a b : A) (front back : List A) → Among b front → Before a b (front ++ back) → Among a front
front_before a b [] back h x = absurd h
front_before a b (c ∷ front) back (inl e) (off, x) = absurd (off (sym e))
front_before a b (c ∷ front) back (inr h) (off, inl e) = inl e
front_before a b (c ∷ front) back (inr h) (off, inr x) = inr (front_before a b front back h x)

-- it stands in front, or before the other one behind that
either_before : {A : Type 0} (a b : A) (front back : List A) → Before a b (front ++ back) → Among a front ⊎ Before a b back
either_before a b [] back x = inr x
either_before a b (c ∷ front) back (off, inl e) = inl (inl e)
either_before a b (c ∷ front) back (off, inr x) = elim (either_before a b front back x) [ inl h ↦ inl (inr h) | inr h ↦ inr h ]

more_within : {N : Type 0} (E : Ending N) (c : Instance N) (seen : List (Instance N)) {i j : Instance N} →
    LeadsOver (Within E seen) i j → LeadsOver (Within E (c ∷ seen)) i j
more_within E c seen (stays i) = stays i
more_within E c seen (goes i m k f (h, x) a l) = goes i m k f (inr h, x) a (more_within E c seen l)

module _ {N : Type 0} (E : Ending N) (one : OneEnd E E) (Whole : Instance N → Type 0) where
  pub begins_in_order : (q : Instance N) → IsInOrder E Whole [] (q ∷ [])
  begins_in_order q = record { covered = λ s u f h. absurd h; leads = λ s u f h. absurd h }

  -- the first one to do is passed
  pub passed_in_order : (seen : List (Instance N)) (c : Instance N) (todo : List (Instance N)) →
      IsInOrder E Whole seen (c ∷ todo) → Among c seen ⊎ Whole c → IsInOrder E Whole seen todo
  passed_in_order seen c todo o p = record {
    covered = λ s u f h x a. elim (o.covered s u f h x a) [
      | inl w ↦ inl w
      | inr (inl g) ↦ inr (inl g)
      | inr (inr (inl e)) ↦ elim p [
        | inl g ↦ inr (inl (subst (λ z. Among z seen) (sym e) g))
        | inr w ↦ inl (subst Whole (sym e) w)
      ]
      | inr (inr (inr g)) ↦ inr (inr g)
    ];
    leads = λ s u f h x a g off none t b.
        o.leads s u f h x a (inr g) off none t (
          (λ e. elim p [
            | inl d ↦ off (subst (λ z. Among z seen) e d)
            | inr w ↦ none (subst Whole e w)
          ]),
          inr b,
        );
  }

  -- the equation of the first one to do has ended
  pub seen_in_order : (seen : List (Instance N)) (c : Instance N) (e : End N (Formula N)) (todo : List (Instance N)) → E c e →
      IsInOrder E Whole seen (c ∷ todo) →
      IsInOrder E Whole (c ∷ seen) (asked_in e ++ todo)
  seen_in_order seen c e todo x o = record {
    covered = λ s u f h y a. covered s u f h y a;
    leads = λ s u f h y a g off none t b. led s u f h y a off none t b;
  }
    where
      of_next : (s u : Instance N) (f : Formula N) → s ≡ c → E s (Made f) → Among u (atoms f) → Among u (asked_in e)
      of_next s u f q y a =
          let same : Made f ≡ e = one c (Made f) e (subst (λ z. E z (Made f)) q y) x in
          subst (λ z. Among u (asked_in z)) same a

      covered : (s u : Instance N) (f : Formula N) → Among s (c ∷ seen) → E s (Made f) → Among u (atoms f) →
          Whole u ⊎ (Among u (c ∷ seen) ⊎ Among u (asked_in e ++ todo))
      covered s u f (inl q) y a = inr (inr (front_among u (asked_in e) todo (of_next s u f q y a)))
      covered s u f (inr h) y a = elim (o.covered s u f h y a) [
        | inl w ↦ inl w
        | inr (inl g) ↦ inr (inl (inr g))
        | inr (inr (inl q)) ↦ inr (inl (inl q))
        | inr (inr (inr g)) ↦ inr (inr (back_among u (asked_in e) todo g))
      ]

      by_end : (d : End N (Formula N)) (s t : Instance N) → E c d → Among t (asked_in d) →
          LeadsOver (Within E (c ∷ seen)) s c → LeadsOver (Within E (c ∷ seen)) s t
      by_end (Made g) s t y d l = one_further (Within E (c ∷ seen)) s c t g (inl refl, y) d l
      by_end (Spoilt k at) s t y d l = absurd d

      led : (s u : Instance N) (f : Formula N) → Among s (c ∷ seen) → E s (Made f) → Among u (atoms f) →
          (¬ (Among u (c ∷ seen))) → (¬ (Whole u)) → (t : Instance N) → Before t u (asked_in e ++ todo) →
          LeadsOver (Within E (c ∷ seen)) s t
      led s u f (inl q) y a off none t b =
          let same : Made f ≡ e = one c (Made f) e (subst (λ z. E z (Made f)) q y) x in
          let d = front_before t u (asked_in e) todo (of_next s u f q y a) b in
          goes s t t f (inl q, y) (subst (λ z. Among t (asked_in z)) (sym same) d) (stays t)
      led s u f (inr h) y a off none t b = elim (o.covered s u f h y a) [
        | inl w ↦ absurd (none w)
        | inr (inl g) ↦ absurd (off (inr g))
        | inr (inr (inl q)) ↦ absurd (off (inl q))
        | inr (inr (inr g)) ↦
            let all = o.leads s u f h y a (inr g) (λ d. off (inr d)) none in
            let apart : ¬ (c ≡ u) = λ q. off (inl (sym q)) in
            elim (either_before t u (asked_in e) todo b) [
              | inl d ↦ by_end e s t x d (more_within E c seen (all c (apart, inl refl)))
              | inr d ↦ more_within E c seen (all t (apart, inr d))
            ]
      ]

  -- what was seen, and leads to one that is left to do, leads to the first one to do
  pub leads_to_next : (seen : List (Instance N)) (next : Instance N) (todo : List (Instance N)) →
      IsInOrder E Whole seen (next ∷ todo) → (s u : Instance N) → (next ≡ u) ⊎ (¬ (next ≡ u)) →
      LeadsOver (Within E seen) s u → Among s seen → Among u (next ∷ todo) → (¬ (Among u seen)) → (¬ (Whole u)) →
      LeadsOver (Within E seen) s next
  leads_to_next seen next todo o _ u d (stays _) h a off none = absurd (off h)
  leads_to_next seen next todo o _ _ (inl e) (goes s _ _ f (h, x) a (stays u)) g b off none =
      subst (λ z. LeadsOver (Within E seen) s z) (sym e) (goes s u u f (h, x) a (stays u))
  leads_to_next seen next todo o _ _ (inr d) (goes s _ _ f (h, x) a (stays u)) g b off none =
      o.leads s u f h x a b off none next (d, inl refl)
  leads_to_next seen next todo o _ u e (goes s m _ f (h, x) a (goes _ n _ d (i, y) c l)) g b off none =
      goes s m next f (h, x) a (leads_to_next seen next todo o m u e (goes m n u d (i, y) c l) i b off none)
