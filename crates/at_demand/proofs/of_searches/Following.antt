-- What follows between two tries of a question: past what is known, and where more is told or less is kept.
use Rattle.std.proofs.Common.{◌≡◌, ◌⊎◌, ℕ, List, ◌∷◌, Option, Some, inl, inr, sym, subst}
use Rattle.at_model.specs.Meaning.{Among, Answer, Faults, Finds, Outcome}
use Rattle.at_model.specs.Run.{Value, Instance, Contents, Known}
use Rattle.at_model.specs.of_fixpoints.Formulas.{Forms}
use Rattle.at_model.specs.of_fixpoints.Searching.{Adds, AreAll, First, Follows, IsPassed, Looked, Search, this, passes}
use Rattle.at_model.specs.of_fixpoints.Searching as follows

-- the question with one more to do, in front
abbrev pub before_those : Looked ℕ → Instance ℕ → Looked ℕ
before_those s c = record s { todo = c ∷ s.todo }

module _ (look : Contents ℕ) (forms : Forms ℕ) (kept : Known ℕ) where
  all_and : (s : Looked ℕ) (c : Instance ℕ) → IsPassed kept s c → AreAll (IsPassed kept s) s.todo → AreAll (IsPassed kept s) (c ∷ s.todo)
  all_and s c p all a (inl e) = subst (λ z. IsPassed kept s z) (sym e) p
  all_and s c p all a (inr h) = all a h

  passed_more : (s : Looked ℕ) (told : List (Instance ℕ × Outcome ℕ)) (these : List (Instance ℕ)) (c : Instance ℕ) → Adds look forms these s.told told →
      IsPassed kept s c → IsPassed kept (record s { told = told }) c
  passed_more s told these c adds (inl a) = inl a
  passed_more s told these c adds (inr (v, inl k)) = inr (v, inl k)
  passed_more s told these c adds (inr (v, inr t)) = inr (v, inr (adds.stays c (Finds v) t))

  -- what follows once one is passed follows before it is
  pub passed_first : {s : Looked ℕ} {new : Search ℕ} {o : Option (Answer ℕ)} (c : Instance ℕ) → IsPassed kept s c → Follows look forms kept s new o →
      Follows look forms kept (before_those s c) new o
  passed_first c p (follows.goes_to f off fresh) = follows.goes_to (passes c p f) off fresh
  passed_first c p (follows.goes_over e f off ended x y) = follows.goes_over e (passes c p f) off ended x y
  passed_first c p (follows.comes_back f a stuck) = follows.comes_back (passes c p f) a stuck
  passed_first {s} c p (follows.has_found new v all none has ready) = follows.has_found new v (all_and s c p all) none has ready
  passed_first {s} c p (follows.has_failed new k at all none has) = follows.has_failed new k at (all_and s c p all) none has
  passed_first {s} c p (follows.finds l ls v told all is has ready adds there) = follows.finds l ls v told (all_and s c p all) is has ready adds there
  passed_first {s} c p (follows.faults l ls k at all is has y) = follows.faults l ls k at (all_and s c p all) is has y
  passed_first {s} c p (follows.tells told adds y) = follows.tells told adds (passed_first c (passed_more s told _ c adds p) y)

-- what follows where some values are kept follows where fewer are, and the others were told
module _ (look : Contents ℕ) (forms : Forms ℕ) (kept fewer : Known ℕ) (more : (i : Instance ℕ) (v : Value ℕ) → fewer i ≡ Some v → kept i ≡ Some v) where
  -- each kept value is one of the fewer, or was told
  abbrev AreKeptOrTold : List (Instance ℕ × Outcome ℕ) → Type 0
  AreKeptOrTold told = (i : Instance ℕ) (v : Value ℕ) → kept i ≡ Some v → (fewer i ≡ Some v) ⊎ Among (i, Finds v) told

  passed_less : (s : Looked ℕ) → AreKeptOrTold s.told → (i : Instance ℕ) → IsPassed kept s i → IsPassed fewer s i
  passed_less s t i (inl a) = inl a
  passed_less s t i (inr (v, inl k)) = inr (v, t i v k)
  passed_less s t i (inr (v, inr a)) = inr (v, inr a)

  passed_kept : (s : Looked ℕ) (i : Instance ℕ) → IsPassed fewer s i → IsPassed kept s i
  passed_kept s i (inl a) = inl a
  passed_kept s i (inr (v, inl k)) = inr (v, inl (more i v k))
  passed_kept s i (inr (v, inr a)) = inr (v, inr a)

  first_less : (s : Looked ℕ) → AreKeptOrTold s.told → {todo rest : List (Instance ℕ)} {i : Instance ℕ} → First (IsPassed kept s) todo i rest →
      First (IsPassed fewer s) todo i rest
  first_less s t (this a rest n) = this a rest (λ p. n (passed_kept s a p))
  first_less s t (passes a d f) = passes a (passed_less s t a d) (first_less s t f)

  told_more : (told those : List (Instance ℕ × Outcome ℕ)) → ((i : Instance ℕ) (o : Outcome ℕ) → Among (i, o) told → Among (i, o) those) →
      AreKeptOrTold told → AreKeptOrTold those
  told_more told those on t i v k = elim (t i v k) [ inl f ↦ inl f | inr a ↦ inr (on i (Finds v) a) ]

  pub follows_less : {s : Looked ℕ} {new : Search ℕ} {o : Option (Answer ℕ)} → AreKeptOrTold s.told → Follows look forms kept s new o →
      Follows look forms fewer s new o
  follows_less {s} t (follows.goes_to f off fresh) = follows.goes_to (first_less s t f) off fresh
  follows_less {s} t (follows.goes_over e f off ended x y) = follows.goes_over e (first_less s t f) off ended x (follows_less t y)
  follows_less {s} t (follows.comes_back f a stuck) = follows.comes_back (first_less s t f) a stuck
  follows_less {s} t (follows.has_found new v all none has ready) =
      follows.has_found new v (λ a h. passed_less s t a (all a h)) none has (λ i j a c. passed_less s t j (ready i j a c))
  follows_less {s} t (follows.has_failed new k at all none has) = follows.has_failed new k at (λ a h. passed_less s t a (all a h)) none has
  follows_less {s} t (follows.finds l ls v told all is has ready adds there) =
      follows.finds l ls v told (λ a h. passed_less s t a (all a h)) is has (λ i j a c. passed_less s t j (ready i j a c)) adds there
  follows_less {s} t (follows.faults l ls k at all is has y) =
      follows.faults l ls k at (λ a h. passed_less s t a (all a h)) is has
      (follows_less (told_more s.told ((s.root, Faults k at) ∷ s.told) (λ i o a. inr a) t) y)
  follows_less {s} t (follows.tells told adds y) = follows.tells told adds (follows_less (told_more s.told told adds.stays t) y)
