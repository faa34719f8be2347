-- Where the equations of instances narrow to others, and lead on to such instances alone, outcomes are the same both ways.
use Rattle.std.proofs.Common.{◌≡◌, ℕ, zero, suc, Bool, List, [], ◌∷◌, ◌++◌, Option, Some, None, inl, inr, refl, sym, ap, subst}
use Rattle.at_model.specs.Run.{Value, Instance, Contents, FaultKind, Run, Gives, Fails, Looks, Demands}
use Rattle.at_model.specs.Meaning.{Outcome, Finds, Faults, Among, Reaches}
use Rattle.at_model.specs.Rules.{Rules, Kind}
use Rattle.at_model.specs.TypedRuns.{ClassAt, Texts, IsTypedRun, IsWellTyped, IsOfItsKind}
use Rattle.at_model.specs.Seeking.{Looking}
use Rattle.at_model.specs.of_fixpoints.Formulas.{Formula, Known, Asks, Both, Either, atoms, Starts, Forms}
use Rattle.at_model.specs.of_fixpoints.FormKinds.{IsFormulaOf, IsOfItsForm, AreFormsTyped}
use Rattle.at_model.specs.of_fixpoints.Fixpoints.{End, Made, Spoilt, Ends, LeadsOver, stays, goes, AreFormed, AreEnded, Meets, again, formed, spoilt, Leaves, known, asks, true_both, true_left, true_right, false_left, false_right, false_both, Valued, HoldsOver, HoldsAt, EndsAt, Holds, HasValue, EndsSo, HasForm}
use Rattle.at_model.proofs.Reached.{front_among, back_among, either_among}
use Rattle.at_model.proofs.of_formulas.UniqueOutcomes.{Ending, OneEnd, IsClosed, leaves_over, closed, ends_at, once}
use Rattle.at_seek.proofs.Narrowing.{Narrows, gives, fails, demands, looks_less, looks_more, demands_less}

-- ends over instances of which something holds --------------------------------------------------------------------------

-- an instance of the formula is one of which it holds
abbrev pub Spreads : {N : Type 0} → (Instance N → Type 0) → Ending N → Type 0
Spreads {N} P E = (j : Instance N) (f : Formula N) → P j → E j (Made f) → (k : Instance N) → Among k (atoms f) → P k

leaves_more : {N : Type 0} (H G : Instance N → Formula N → Type 0) → ((j : Instance N) (f : Formula N) → H j f → G j f) → (b : Bool) (f : Formula N) → Leaves H b f → Leaves G b f
leaves_more H G more _ _ (known b) = known b
leaves_more H G more _ _ (asks b i f h x) = asks b i f (more i f h) (leaves_more H G more b f x)
leaves_more H G more _ _ (true_both {f} {g} x y) = true_both (leaves_more H G more _ f x) (leaves_more H G more _ g y)
leaves_more H G more _ _ (true_left {f} {g} x) = true_left (leaves_more H G more _ f x)
leaves_more H G more _ _ (true_right {f} {g} x) = true_right (leaves_more H G more _ g x)
leaves_more H G more _ _ (false_left {f} {g} x) = false_left (leaves_more H G more _ f x)
leaves_more H G more _ _ (false_right {f} {g} x) = false_right (leaves_more H G more _ g x)
leaves_more H G more _ _ (false_both {f} {g} x y) = false_both (leaves_more H G more _ f x) (leaves_more H G more _ g y)

module _ {N : Type 0} (P : Instance N → Type 0) (E F : Ending N) (there : (j : Instance N) (d : End N (Formula N)) → P j → E j d → F j d)
    (one : OneEnd F F) (spreads : Spreads P E) where
  leaves_there : (b : Bool) (f : Formula N) → ((k : Instance N) → Among k (atoms f) → P k) → Leaves (λ j f. E j (Made f)) b f → Leaves (λ j f. F j (Made f)) b f
  leaves_there _ _ m (known b) = known b
  leaves_there _ _ m (asks b i f h x) = asks b i f (there i (Made f) (m i (inl refl)) h) (leaves_there b f (spreads i f (m i (inl refl)) h) x)
  leaves_there _ _ m (true_both {f} {g} x y) =
      true_both (leaves_there _ f (λ k a. m k (front_among k (atoms f) (atoms g) a)) x) (leaves_there _ g (λ k a. m k (back_among k (atoms f) (atoms g) a)) y)
  leaves_there _ _ m (true_left {f} {g} x) = true_left (leaves_there _ f (λ k a. m k (front_among k (atoms f) (atoms g) a)) x)
  leaves_there _ _ m (true_right {f} {g} x) = true_right (leaves_there _ g (λ k a. m k (back_among k (atoms f) (atoms g) a)) x)
  leaves_there _ _ m (false_left {f} {g} x) = false_left (leaves_there _ f (λ k a. m k (front_among k (atoms f) (atoms g) a)) x)
  leaves_there _ _ m (false_right {f} {g} x) = false_right (leaves_there _ g (λ k a. m k (back_among k (atoms f) (atoms g) a)) x)
  leaves_there _ _ m (false_both {f} {g} x y) =
      false_both (leaves_there _ f (λ k a. m k (front_among k (atoms f) (atoms g) a)) x) (leaves_there _ g (λ k a. m k (back_among k (atoms f) (atoms g) a)) y)

  -- to which the second formulas lead the first ones do, too, where those end
  lead_back : (i k : Instance N) → P i → AreEnded E i → LeadsOver F i k → LeadsOver E i k × P k
  lead_back _ _ p c (stays i) = (stays i, p)
  lead_back _ _ p c (goes i j k f h a l) =
      let (d, x) = c i (stays i) in
      let q : d ≡ Made f = one i d (Made f) (there i d p x) h in
      let x' : E i (Made f) = subst (λ z. E i z) q x in
      let (m, r) = lead_back j k (spreads i f p x' j a) (λ n z. c n (goes i j n f x' a z)) l in
      (goes i j k f x' a m, r)

  ended_of : (i : Instance N) → AreFormed E i → AreEnded E i
  ended_of i c j l = let (f, x) = c j l in (Made f, x)

  all_formed : (i : Instance N) → P i → AreFormed E i → AreFormed F i
  all_formed i p c j l =
      let (m, q) = lead_back i j p (ended_of i c) l in
      let (f, x) = c j m in
      (f, there j (Made f) q x)

  all_ended : (i : Instance N) → P i → AreEnded E i → AreEnded F i
  all_ended i p c j l =
      let (m, q) = lead_back i j p c l in
      let (d, x) = c j m in
      (d, there j d q x)

  -- over those of which it holds
  abbrev Within : Ending N
  Within j d = P j × E j d

  within_closed : (i : Instance N) → P i → AreFormed E i → IsClosed Within (λ k. LeadsOver E i k × P k)
  within_closed i p c j (l, q) =
      let (f, x) = c j l in
      let (g, y, more) = closed E i c j l in (
        g,
        (q, y),
        λ k a. (more k a, spreads j g q y k a),
      )

  leaves_back : (b : Bool) (i : Instance N) → P i → AreFormed E i → Leaves (λ j f. F j (Made f)) b (Asks i) → Leaves (λ j f. E j (Made f)) b (Asks i)
  leaves_back b i p c x =
      leaves_more (λ j f. Within j (Made f)) (λ j f. E j (Made f)) (λ j f h. h.1) b (Asks i)
      (leaves_over F Within (λ j d e y z. one j d e y (there j e z.0 z.1)) (λ k. LeadsOver E i k × P k) (within_closed i p c) b (Asks i) x
      (λ k a. only k a))
    where
      only : (k : Instance N) → Among k (i ∷ []) → LeadsOver E i k × P k
      only k (inl r) = subst (λ z. LeadsOver E i z × P z) (sym r) (stays i, p)
      only k (inr u) = absurd u

  valued_there : (i : Instance N) (start : Option Bool) (v : Value N) → P i → AreFormed E i → Valued (λ j f. E j (Made f)) start i v → Valued (λ j f. F j (Made f)) start i v
  valued_there i None v p c x = there i (Made (Known v)) p x
  valued_there i (Some b) v p c (inl (x, e)) = inl (leaves_there b (Asks i) (λ k a. only k a) x, e)
    where
      only : (k : Instance N) → Among k (i ∷ []) → P k
      only k (inl r) = subst P (sym r) p
      only k (inr u) = absurd u
  valued_there i (Some b) v p c (inr (x, e)) = inr ((λ y. x (leaves_back b i p c y)), e)

  meets_there : (seen todo : List (Instance N)) (k : FaultKind) (at : Instance N) → ((j : Instance N) → Among j todo → P j) → Meets E seen todo k at → Meets F seen todo k at
  meets_there seen [] k at m x = absurd (elim x [ ])
  meets_there seen (i ∷ todo) k at m (again _ h x) = again i h (meets_there seen todo k at (λ j a. m j (inr a)) x)
  meets_there seen (i ∷ todo) k at m (formed _ f n h x) =
      formed i f n (there i (Made f) (m i (inl refl)) h)
      (meets_there (i ∷ seen) (atoms f ++ todo) k at
      (λ j a. elim (either_among j (atoms f) todo a) [ inl u ↦ spreads i f (m i (inl refl)) h j u | inr u ↦ m j (inr u) ]) x)
  meets_there seen (i ∷ todo) k at m (spoilt _ n h) = spoilt i n (there i (Spoilt k at) (m i (inl refl)) h)

  pub over_there : (i : Instance N) (start : Option Bool) (o : Outcome N) → P i → HoldsOver E start i o → HoldsOver F start i o
  over_there i start (Finds v) p (c, x) = (all_formed i p c, valued_there i start v p c x)
  over_there i start (Faults k at) p (c, x) = (all_ended i p c, meets_there [] (i ∷ []) k at (λ j a. only j a) x)
    where
      only : (k : Instance N) → Among k (i ∷ []) → P k
      only k (inl r) = subst P (sym r) p
      only k (inr u) = absurd u

-- by equations that narrow -----------------------------------------------------------------------------------------------

module _ {N : Type 0} (rules : Rules) (at : ClassAt N) (Allowed : Texts) (look : Contents N) (Plain : Instance N → Value N → Type 0) where
  abbrev P : Instance N → Type 0
  P i = IsWellTyped rules at Allowed i

  abbrev Nar : {A : Type 0} → Run N A → Run N A → Type 0
  Nar r s = Narrows look (IsOfItsKind rules at) Plain r s

  module _ (H G : Instance N → Outcome N → Type 0) (kinds : (j : Instance N) (v : Value N) → P j → H j (Finds v) → IsOfItsKind rules at j v) (i : Instance N) where
    -- what ends so by the first one does by the second one
    ends_there : {A : Type 0} (Q : A → Type 0) → ((j : Instance N) (o : Outcome N) → P j → H j o → G j o)
        → ((j : Instance N) (v : Value N) (o : Outcome N) → Plain j v → H j o → o ≡ Finds v)
        → (r s : Run N A) (e : End N A) → Nar r s → IsTypedRun rules at Allowed look Q r → Ends look H i r e → Ends look G i s e
    ends_there Q keeps plain _ _ e (gives a) t x = x
    ends_there Q keeps plain _ _ e (fails f) t x = x
    ends_there Q keeps plain _ _ e (demands j k h below) (w, t) (inl (v, has, x)) =
        inl (v, keeps j (Finds v) w has, ends_there Q keeps plain (k v) (h v) e (below v (kinds j v w has)) (t v (kinds j v w has)) x)
    ends_there Q keeps plain _ _ e (demands j k h below) (w, t) (inr (f, to, has, x)) = inr (f, to, keeps j (Faults f to) w has, x)
    ends_there Q keeps plain _ _ e (looks_less l k s rest) (w, t) x = ends_there Q keeps plain (k (look l)) s e rest t x
    ends_there Q keeps plain _ _ e (looks_more l r h rest) t x = ends_there Q keeps plain r (h (look l)) e rest t x
    ends_there Q keeps plain _ _ e (demands_less j v k s is_plain rest) (w, t) (inl (u, has, x)) =
        let q : Finds u ≡ Finds v = plain j v (Finds u) is_plain has in let q' : u ≡ v = cc in
        ends_there Q keeps plain (k v) s e rest (subst (λ z. IsTypedRun rules at Allowed look Q (k z)) q' (t u (kinds j u w has))) (subst (λ z. Ends look H i (k z) e) q' x)
    ends_there Q keeps plain _ _ e (demands_less j v k s is_plain rest) (w, t) (inr (f, to, has, x)) =
        let q : Faults f to ≡ Finds v = plain j v (Faults f to) is_plain has in absurd cc

    -- and back
    ends_back : {A : Type 0} (Q : A → Type 0) → ((j : Instance N) (o : Outcome N) → P j → G j o → H j o)
        → ((j : Instance N) (v : Value N) → Plain j v → H j (Finds v))
        → (r s : Run N A) (e : End N A) → Nar r s → IsTypedRun rules at Allowed look Q r → Ends look G i s e → Ends look H i r e
    ends_back Q keeps plain _ _ e (gives a) t x = x
    ends_back Q keeps plain _ _ e (fails f) t x = x
    ends_back Q keeps plain _ _ e (demands j k h below) (w, t) (inl (v, has, x)) =
        let had = keeps j (Finds v) w has in
        inl (v, had, ends_back Q keeps plain (k v) (h v) e (below v (kinds j v w had)) (t v (kinds j v w had)) x)
    ends_back Q keeps plain _ _ e (demands j k h below) (w, t) (inr (f, to, has, x)) = inr (f, to, keeps j (Faults f to) w has, x)
    ends_back Q keeps plain _ _ e (looks_less l k s rest) (w, t) x = ends_back Q keeps plain (k (look l)) s e rest t x
    ends_back Q keeps plain _ _ e (looks_more l r h rest) t x = ends_back Q keeps plain r (h (look l)) e rest t x
    ends_back Q keeps plain _ _ e (demands_less j v k s is_plain rest) (w, t) x =
        let had = plain j v is_plain in
        inl (v, had, ends_back Q keeps plain (k v) s e rest (t v (kinds j v w had)) x)

  -- a formula of an instance that is well typed is of such ones
  atom_typed : (k : Kind) (f : Formula N) (j : Instance N) → IsFormulaOf rules at Allowed k f → Among j (atoms f) → P j
  atom_typed k (Known v) j h x = absurd x
  atom_typed k (Asks i) j (w, h) (inl e) = subst P (sym e) w
  atom_typed k (Asks i) j (w, h) (inr u) = absurd u
  atom_typed k (Both f g) j (x, y) a =
      elim (either_among j (atoms f) (atoms g) a) [ inl u ↦ atom_typed k f j x u | inr u ↦ atom_typed k g j y u ]
  atom_typed k (Either f g) j (x, y) a =
      elim (either_among j (atoms f) (atoms g) a) [ inl u ↦ atom_typed k f j x u | inr u ↦ atom_typed k g j y u ]

  ends_typed : {A : Type 0} (H : Instance N → Outcome N → Type 0) → ((j : Instance N) (v : Value N) → P j → H j (Finds v) → IsOfItsKind rules at j v)
      → (i : Instance N) (Q : A → Type 0) (r : Run N A) (a : A) → IsTypedRun rules at Allowed look Q r → Ends look H i r (Made a) → Q a
  ends_typed H lower i Q (Gives b) a h e = let f : b ≡ a = cc in subst Q f h
  ends_typed H lower i Q (Fails x) a h e = absurd cc
  ends_typed H lower i Q (Looks l k) a (s, h) e = ends_typed H lower i Q (k (look l)) a h e
  ends_typed H lower i Q (Demands j k) a (w, h) (inl (v, x, e)) = ends_typed H lower i Q (k v) a (h v (lower j v w x)) e
  ends_typed H lower i Q (Demands j k) a (w, h) (inr (f, to, x, e)) = absurd cc

  looked : {A : Type 0} (H : Instance N → Outcome N → Type 0) (i : Instance N) (r : Run N A) (a : A) → Looking look r a → Ends look H i r (Made a)
  looked H i (Gives b) a e = ap Made e
  looked H i (Fails f) a e = absurd e
  looked H i (Looks l k) a e = looked H i (k (look l)) a e
  looked H i (Demands j k) a e = absurd e

  module _ (starts : Starts) (here there : Instance N → Run N (Formula N)) where
    abbrev Here : Forms N
    Here = record { starts = starts; formula = here }

    abbrev There : Forms N
    There = record { starts = starts; formula = there }

    module _ (typed : AreFormsTyped rules at Allowed look Here)
        (kinds : (i : Instance N) (v : Value N) → P i → HasValue look Here i v → IsOfItsKind rules at i v)
        (plain : (i : Instance N) (v : Value N) → Plain i v → (starts i.attribute ≡ None) × Looking look (here i) (Known v))
        (narrow : (i : Instance N) → P i → Nar (here i) (there i)) where
      -- what is plain has its value at each depth
      plain_at : (n : ℕ) (j : Instance N) (v : Value N) → Plain j v → HoldsAt look Here (suc n) j (Finds v)
      plain_at n j v h =
          let (strict, looks) = plain j v h in
          let ended = looked (HoldsAt look Here n) j (here j) (Known v) looks in (
            (λ k l. alone k l ended),
            subst (λ s. Valued (λ i f. EndsAt look Here n i (Made f)) s j v) (sym strict) ended,
          )
        where
          alone : (k : Instance N) → LeadsOver (EndsAt look Here n) j k → EndsAt look Here n j (Made (Known v)) → (f : Formula N) × EndsAt look Here n k (Made f)
          alone _ (stays _) ended = (Known v, ended)
          alone k (goes _ m _ f x a l) ended =
              let q : Made f ≡ Made (Known v) = ends_at look Here n n j (Made f) (Made (Known v)) x ended in let q' : f ≡ Known v = cc in
              let none : Among m (atoms (Known v)) = subst (λ z. Among m (atoms z)) q' a in absurd none

      plain_one : (j : Instance N) (v : Value N) (n : ℕ) (o : Outcome N) → Plain j v → HoldsAt look Here n j o → o ≡ Finds v
      plain_one j v n o h x = once look Here j o (Finds v) (n, x) (1, plain_at 0 j v h)

      spreads_here : (n : ℕ) → Spreads P (EndsAt look Here n)
      spreads_here n j f w x k a =
          atom_typed w.declaration.result f k
          (ends_typed (HoldsAt look Here n) (λ m v p h. kinds m v p (n, h)) j (IsOfItsForm rules at Allowed j) (here j) f (typed j w) x w.declaration w.attribute) a

      ends_there_at : (n : ℕ) → ((j : Instance N) (o : Outcome N) → P j → HoldsAt look Here n j o → HoldsAt look There n j o)
          → (j : Instance N) (d : End N (Formula N)) → P j → EndsAt look Here n j d → EndsAt look There n j d
      ends_there_at n keeps j d w x =
          ends_there (HoldsAt look Here n) (HoldsAt look There n) (λ m v p h. kinds m v p (n, h)) j (IsOfItsForm rules at Allowed j) keeps
          (λ m v o h y. plain_one m v n o h y) (here j) (there j) d (narrow j w) (typed j w) x

      ends_back_at : (n : ℕ) → ((j : Instance N) (o : Outcome N) → P j → HoldsAt look There n j o → HoldsAt look Here (suc n) j o)
          → (j : Instance N) (d : End N (Formula N)) → P j → EndsAt look There n j d → EndsAt look Here (suc n) j d
      ends_back_at n keeps j d w x =
          ends_back (HoldsAt look Here (suc n)) (HoldsAt look There n) (λ m v p h. kinds m v p (suc n, h)) j (IsOfItsForm rules at Allowed j) keeps
          (λ m v h. plain_at n m v h) (here j) (there j) d (narrow j w) (typed j w) x

      there_at : (n : ℕ) (i : Instance N) (o : Outcome N) → P i → HoldsAt look Here n i o → HoldsAt look There n i o
      there_at zero i o w x = absurd x
      there_at (suc n) i o w x =
          over_there P (EndsAt look Here n) (EndsAt look There n) (ends_there_at n (there_at n)) (ends_at look There n n) (spreads_here n) i (starts i.attribute) o w x

      back_at : (n : ℕ) (i : Instance N) (o : Outcome N) → P i → HoldsAt look There n i o → HoldsAt look Here (suc n) i o
      back_at zero i o w x = absurd x
      back_at (suc n) i o w x =
          over_there P (EndsAt look There n) (EndsAt look Here (suc n)) (ends_back_at n (back_at n)) (ends_at look Here (suc n) (suc n))
          (λ j f p y k a. spreads_here (suc n) j f p (ends_back_at n (back_at n) j (Made f) p y) k a) i (starts i.attribute) o w x

      pub holds_there : (i : Instance N) (o : Outcome N) → P i → Holds look Here i o → Holds look There i o
      holds_there i o w (n, x) = (n, there_at n i o w x)

      pub holds_back : (i : Instance N) (o : Outcome N) → P i → Holds look There i o → Holds look Here i o
      holds_back i o w (n, x) = (suc n, back_at n i o w x)

      pub ended_there : (i : Instance N) (e : End N (Formula N)) → P i → EndsSo look Here i e → EndsSo look There i e
      ended_there i e w (n, x) = (n, ends_there_at n (there_at n) i e w x)

      pub ended_back : (i : Instance N) (e : End N (Formula N)) → P i → EndsSo look There i e → EndsSo look Here i e
      ended_back i e w (n, x) = (suc n, ends_back_at n (back_at n) i e w x)

      -- the instances of its formula are well typed
      pub atoms_there : (i : Instance N) (f : Formula N) → P i → HasForm look Here i f → (k : Instance N) → Among k (atoms f) → P k
      atoms_there i f w (n, x) k a = spreads_here n i f w x k a

      -- what its equation demands is well typed, and is demanded by both, where it has no outcome
      reach_there : {A : Type 0} (Q : A → Type 0) (r s : Run N A) (j : Instance N) → ((o : Outcome N) → Holds look Here j o → ⊥) → Nar r s → IsTypedRun rules at Allowed look Q r
          → Reaches look (HasValue look Here) r j → Reaches look (HasValue look There) s j × P j
      reach_there Q _ _ j none (gives a) t x = absurd x
      reach_there Q _ _ j none (fails f) t x = absurd x
      reach_there Q _ _ j none (demands i k h below) (w, t) (inl e) = (inl e, subst P e w)
      reach_there Q _ _ j none (demands i k h below) (w, t) (inr (v, has, x)) =
          let (y, p) = reach_there Q (k v) (h v) j none (below v (kinds i v w has)) (t v (kinds i v w has)) x in
          (inr (v, holds_there i (Finds v) w has, y), p)
      reach_there Q _ _ j none (looks_less l k s rest) (w, t) x = reach_there Q (k (look l)) s j none rest t x
      reach_there Q _ _ j none (looks_more l r h rest) t x = reach_there Q r (h (look l)) j none rest t x
      reach_there Q _ _ j none (demands_less i v k s is_plain rest) (w, t) (inl e) =
          absurd (none (Finds v) (subst (λ z. Holds look Here z (Finds v)) e (1, plain_at 0 i v is_plain)))
      reach_there Q _ _ j none (demands_less i v k s is_plain rest) (w, t) (inr (u, (n, has), x)) =
          let q : Finds u ≡ Finds v = plain_one i v n (Finds u) is_plain has in let q' : u ≡ v = cc in
          reach_there Q (k v) s j none rest (subst (λ z. IsTypedRun rules at Allowed look Q (k z)) q' (t u (kinds i u w (n, has))))
          (subst (λ z. Reaches look (HasValue look Here) (k z) j) q' x)

      reach_back : {A : Type 0} (Q : A → Type 0) (r s : Run N A) (j : Instance N) → Nar r s → IsTypedRun rules at Allowed look Q r
          → Reaches look (HasValue look There) s j → Reaches look (HasValue look Here) r j × P j
      reach_back Q _ _ j (gives a) t x = absurd x
      reach_back Q _ _ j (fails f) t x = absurd x
      reach_back Q _ _ j (demands i k h below) (w, t) (inl e) = (inl e, subst P e w)
      reach_back Q _ _ j (demands i k h below) (w, t) (inr (v, has, x)) =
          let had = holds_back i (Finds v) w has in
          let (y, p) = reach_back Q (k v) (h v) j (below v (kinds i v w had)) (t v (kinds i v w had)) x in
          (inr (v, had, y), p)
      reach_back Q _ _ j (looks_less l k s rest) (w, t) x = reach_back Q (k (look l)) s j rest t x
      reach_back Q _ _ j (looks_more l r h rest) t x = reach_back Q r (h (look l)) j rest t x
      reach_back Q _ _ j (demands_less i v k s is_plain rest) (w, t) x =
          let had : HasValue look Here i v = (1, plain_at 0 i v is_plain) in
          let (y, p) = reach_back Q (k v) s j rest (t v (kinds i v w had)) x in
          (inr (v, had, y), p)

      pub reaches_there : (i j : Instance N) → P i → ((o : Outcome N) → Holds look Here j o → ⊥) → Reaches look (HasValue look Here) (here i) j
          → Reaches look (HasValue look There) (there i) j × P j
      reaches_there i j w none x = reach_there (IsOfItsForm rules at Allowed i) (here i) (there i) j none (narrow i w) (typed i w) x

      pub reaches_back : (i j : Instance N) → P i → Reaches look (HasValue look There) (there i) j → Reaches look (HasValue look Here) (here i) j × P j
      reaches_back i j w x = reach_back (IsOfItsForm rules at Allowed i) (here i) (there i) j (narrow i w) (typed i w) x
