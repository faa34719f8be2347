-- Where equations end alike in two trees, and so do those of all instances to which their formulas lead, outcomes are
-- alike.
use Rattle.std.proofs.Common.{◌≡◌, Bool, true, false, not, List, [], ◌∷◌, ◌++◌, Option, Some, None, inl, inr, refl, sym, subst, ap}
use Rattle.at_model.specs.Run.{Value, Truth, Instance, FaultKind}
use Rattle.at_model.specs.Meaning.{Outcome, Finds, Faults, Among}
use Rattle.at_model.specs.Alike.{ListLike, end, more}
use Rattle.at_model.proofs.of_likeness.CarryingCircles.{Agrees, among-like, among-back}
use Rattle.at_model.specs.of_fixpoints.Formulas.{Formula, Known, Asks, Both, Either, atoms}
use Rattle.at_model.specs.of_fixpoints.Fixpoints.{End, Made, Spoilt, LeadsOver, stays, goes, AreFormed, AreEnded, Meets, again, formed, spoilt, Leaves, known, asks, true_both, true_left, true_right, false_left, false_right, false_both, Valued, HoldsOver}
use Rattle.at_model.proofs.of_formulas.UniqueOutcomes.{Ending}

-- the same formula, of matching instances and values
pub data Matches {N M : Type 0} (S : Instance N → Instance M → Type 0) (V : Value N → Value M → Type 0) :
    Formula N → Formula M → Type 0 where
  knows : {v : Value N} {w : Value M} → V v w → Matches S V (Known v) (Known w)
  wants : {i : Instance N} {j : Instance M} → S i j → Matches S V (Asks i) (Asks j)
  joins : {f g : Formula N} {h k : Formula M} → Matches S V f h → Matches S V g k → Matches S V (Both f g) (Both h k)
  chooses : {f g : Formula N} {h k : Formula M} → Matches S V f h → Matches S V g k →
      Matches S V (Either f g) (Either h k)

-- like ends: matching formulas, or the same fault at instances of the same name
pub data EndMatches {N M : Type 0} (S T : Instance N → Instance M → Type 0) (V : Value N → Value M → Type 0) :
    End N (Formula N) → End M (Formula M) → Type 0 where
  makes : {f : Formula N} {g : Formula M} → Matches S V f g → EndMatches S T V (Made f) (Made g)
  spoils : (k : FaultKind) {a : Instance N} {b : Instance M} → T a b → EndMatches S T V (Spoilt k a) (Spoilt k b)

-- like outcomes
pub data OutcomeMatches {N M : Type 0} (T : Instance N → Instance M → Type 0) (V : Value N → Value M → Type 0) :
    Outcome N → Outcome M → Type 0 where
  finds : {v : Value N} {w : Value M} → V v w → OutcomeMatches T V (Finds v) (Finds w)
  faults : (k : FaultKind) {a : Instance N} {b : Instance M} → T a b → OutcomeMatches T V (Faults k a) (Faults k b)

abbrev pub flip : {A B : Type 0} → (A → B → Type 0) → B → A → Type 0
flip R b a = R a b

-- Matching instances have equations that end alike, in both directions; they have the same names, by which they are
-- told
-- apart in both trees; and truth values are what they are.
pub record AreMatched {N M : Type 0} (S T : Instance N → Instance M → Type 0) (V : Value N → Value M → Type 0)
    (E : Ending N) (F : Ending M) : Type 0 where
  pub there : (j : Instance N) (k : Instance M) (d : End N (Formula N)) → S j k → E j d →
      (e : End M (Formula M)) × F k e × EndMatches S T V d e
  pub back : (j : Instance N) (k : Instance M) (e : End M (Formula M)) → S j k → F k e →
      (d : End N (Formula N)) × E j d × EndMatches S T V d e
  pub same : (j : Instance N) (k : Instance M) → S j k → T j k
  pub apart : Agrees T
  pub truth : (b : Bool) → V (Truth b) (Truth b)
  pub is_truth : (b : Bool) (w : Value M) → V (Truth b) w → w ≡ Truth b
  pub was_truth : (b : Bool) (v : Value N) → V v (Truth b) → v ≡ Truth b

turns : {N M : Type 0} {S : Instance N → Instance M → Type 0} {V : Value N → Value M → Type 0} {f : Formula N}
    {g : Formula M} → Matches S V f g → Matches (flip S) (flip V) g f
turns (knows v) = knows v
turns (wants s) = wants s
turns (joins s t) = joins (turns s) (turns t)
turns (chooses s t) = chooses (turns s) (turns t)

end_turns : {N M : Type 0} {S T : Instance N → Instance M → Type 0} {V : Value N → Value M → Type 0}
    {d : End N (Formula N)} {e : End M (Formula M)} → EndMatches S T V d e → EndMatches (flip S) (flip T) (flip V) e d
end_turns (makes m) = makes (turns m)
end_turns (spoils k t) = spoils k t

agrees_turned : {A B : Type 0} {R : A → B → Type 0} → Agrees R → Agrees (flip R)
agrees_turned f a b c d r s = let p = f c d a b r s in (p.1, p.0)

-- and the other way round
pub turned : {N M : Type 0} (S T : Instance N → Instance M → Type 0) (V : Value N → Value M → Type 0) (E : Ending N)
    (F : Ending M) → AreMatched S T V E F → AreMatched (flip S) (flip T) (flip V) F E
turned S T V E F m = record {
  there = λ k j e s y. let (d, x, l) = m.back j k e s y in (d, x, end_turns l);
  back = λ k j d s x. let (e, y, l) = m.there j k d s x in (e, y, end_turns l);
  same = λ k j s. m.same j k s;
  apart = agrees_turned m.apart;
  truth = m.truth;
  is_truth = m.was_truth;
  was_truth = m.is_truth;
}

made_on : {N M : Type 0} {S T : Instance N → Instance M → Type 0} {V : Value N → Value M → Type 0}
    {d : End N (Formula N)} {e : End M (Formula M)} (f : Formula N) → EndMatches S T V d e → d ≡ Made f →
    (g : Formula M) × (e ≡ Made g) × Matches S V f g
made_on {S = S} {V = V} f (makes {f = h} {g = g} s) e =
    let q : h ≡ f = cc in (g, refl, subst (λ z. Matches S V z g) q s)
made_on f (spoils k t) e = absurd cc

pub spoilt_on : {N M : Type 0} {S T : Instance N → Instance M → Type 0} {V : Value N → Value M → Type 0}
    {d : End N (Formula N)} {e : End M (Formula M)} (k : FaultKind) (a : Instance N) → EndMatches S T V d e →
    d ≡ Spoilt k a → (b : Instance M) × (e ≡ Spoilt k b) × T a b
spoilt_on k a (makes s) e = absurd cc
spoilt_on {T = T} k a (spoils l {a = c} {b = b} t) e =
    let q : c ≡ a = cc in let r : l ≡ k = cc in (b, ap (λ z. Spoilt z b) r, subst (λ z. T z b) q t)

known_on : {N M : Type 0} {S : Instance N → Instance M → Type 0} {V : Value N → Value M → Type 0} {f : Formula N}
    {g : Formula M} (v : Value N) → Matches S V f g → f ≡ Known v → (w : Value M) × (g ≡ Known w) × V v w
known_on {V = V} v (knows {v = u} {w = w} s) e = let q : u ≡ v = cc in (w, refl, subst (λ z. V z w) q s)
known_on v (wants s) e = absurd cc
known_on v (joins s t) e = absurd cc
known_on v (chooses s t) e = absurd cc

pub joined_lists : {A B : Type 0} {R : A → B → Type 0} {as' cs : List A} {bs ds : List B} → ListLike R as' bs →
    ListLike R cs ds → ListLike R (as' ++ cs) (bs ++ ds)
joined_lists end t = t
joined_lists (more s ss) t = more s (joined_lists ss t)

-- the instances of matching formulas match, one by one
pub atoms_match : {N M : Type 0} {S : Instance N → Instance M → Type 0} {V : Value N → Value M → Type 0}
    {f : Formula N} {g : Formula M} → Matches S V f g → ListLike S (atoms f) (atoms g)
atoms_match (knows s) = end
atoms_match (wants s) = more s end
atoms_match (joins s t) = joined_lists (atoms_match s) (atoms_match t)
atoms_match (chooses s t) = joined_lists (atoms_match s) (atoms_match t)

pub match_of : {A B : Type 0} {R : A → B → Type 0} {as' : List A} {bs : List B} → ListLike R as' bs → (a : A) →
    Among a as' → (b : B) × Among b bs × R a b
match_of end a h = absurd h
match_of {R = R} (more {a = c} {b = b} s ss) a (inl e) = (b, inl refl, subst (λ z. R z b) (sym e) s)
match_of (more s ss) a (inr h) = let (b, m, t) = match_of ss a h in (b, inr m, t)

module _ {N M : Type 0} (S T : Instance N → Instance M → Type 0) (V : Value N → Value M → Type 0) (E : Ending N)
    (F : Ending M) (are : AreMatched S T V E F) where
  -- a formula is one there
  pub formed_on : (j : Instance N) (k : Instance M) (f : Formula N) → S j k → E j (Made f) →
      (g : Formula M) × F k (Made g) × Matches S V f g
  formed_on j k f s x =
      let (e, y, l) = are.there j k (Made f) s x in
      let (g, q, m) = made_on f l refl in
      (g, subst (λ z. F k z) q y, m)

  -- a derivation is one there
  leaves_on : (b : Bool) (f : Formula N) (g : Formula M) → Matches S V f g → Leaves (λ j f. E j (Made f)) b f →
      Leaves (λ j f. F j (Made f)) b g
  leaves_on _ _ _ (knows {w = w} v) (known b) =
      subst (λ z. Leaves (λ j f. F j (Made f)) b (Known z)) (sym (are.is_truth (not b) w v)) (known b)
  leaves_on _ _ _ (wants {i = j} {j = k} s) (asks b _ f h x) =
      let (g, y, m) = formed_on j k f s h in asks b k g y (leaves_on b f g m x)
  leaves_on _ _ _ (joins {f} {g} {h} {k} s t) (true_both x y) =
      true_both (leaves_on false f h s x) (leaves_on false g k t y)
  leaves_on _ _ _ (chooses {f} {g} {h} {k} s t) (true_left x) = true_left (leaves_on false f h s x)
  leaves_on _ _ _ (chooses {f} {g} {h} {k} s t) (true_right x) = true_right (leaves_on false g k t x)
  leaves_on _ _ _ (joins {f} {g} {h} {k} s t) (false_left x) = false_left (leaves_on true f h s x)
  leaves_on _ _ _ (joins {f} {g} {h} {k} s t) (false_right x) = false_right (leaves_on true g k t x)
  leaves_on _ _ _ (chooses {f} {g} {h} {k} s t) (false_both x y) =
      false_both (leaves_on true f h s x) (leaves_on true g k t y)

  -- formulas lead to matching instances
  led_on : (i k : Instance N) (j : Instance M) → S i j → LeadsOver E i k → (h : Instance M) × S k h × LeadsOver F j h
  led_on _ k j s (stays i) = (j, s, stays j)
  led_on _ k j s (goes i m _ f x a l) =
      let (g, y, t) = formed_on i j f s x in
      let (n, b, u) = match_of (atoms_match t) m a in
      let (h, v, p) = led_on m k n u l in
      (h, v, goes j n h g y b p)

  -- a search meets a like fault there
  meets_on : (seen todo : List (Instance N)) (also ahead : List (Instance M)) (k : FaultKind) (at : Instance N) →
      ListLike T seen also → ListLike S todo ahead → Meets E seen todo k at →
      (to : Instance M) × T at to × Meets F also ahead k to
  meets_on seen _ also _ k at s end x = absurd (elim x [ ])
  meets_on seen _ also _ k at s (more {a = i} {b = j} {as' = todo} {bs = ahead} t ts) (again _ h x) =
      let (b, u, y) = meets_on seen todo also ahead k at s ts x in
      (b, u, again j (among-like are.apart s i j (are.same i j t) h) y)
  meets_on seen _ also _ k at s (more {a = i} {b = j} {as' = todo} {bs = ahead} t ts) (formed _ f n h x) =
      let (g, y, m) = formed_on i j f t h in
      let (b, w, z) = meets_on (i ∷ seen) (atoms f ++ todo) (j ∷ also) (atoms g ++ ahead) k at
      (more (are.same i j t) s) (joined_lists (atoms_match m) ts) x in
      (b, w, formed j g (λ c. n (among-back are.apart s i j (are.same i j t) c)) y z)
  meets_on seen _ also _ k at s (more {a = i} {b = j} t ts) (spoilt _ n h) =
      let (e, y, l) = are.there i j (Spoilt k at) t h in
      let (b, q, u) = spoilt_on k at l refl in
      (b, u, spoilt j (λ c. n (among-back are.apart s i j (are.same i j t) c)) (subst (λ z. F j z) q y))

module _ {N M : Type 0} (S T : Instance N → Instance M → Type 0) (V : Value N → Value M → Type 0) (E : Ending N)
    (F : Ending M) (are : AreMatched S T V E F) where
  -- all there has formulas
  all_formed : (i : Instance N) (j : Instance M) → S i j → AreFormed E i → AreFormed F j
  all_formed i j s c h l =
      let (k, t, p) = led_on (flip S) (flip T) (flip V) F E (turned S T V E F are) j h i s l in
      let (f, x) = c k p in
      let (g, y, m) = formed_on S T V E F are k h f t x in
      (g, y)

  -- or equations that end
  all_ended : (i : Instance N) (j : Instance M) → S i j → AreEnded E i → AreEnded F j
  all_ended i j s c h l =
      let (k, t, p) = led_on (flip S) (flip T) (flip V) F E (turned S T V E F are) j h i s l in
      let (d, x) = c k p in
      let (e, y, m) = are.there k h d t x in
      (e, y)

  -- a value matches one there
  valued_on : (i : Instance N) (j : Instance M) (start : Option Bool) (v : Value N) → S i j →
      Valued (λ j f. E j (Made f)) start i v → (w : Value M) × Valued (λ j f. F j (Made f)) start j w × V v w
  valued_on i j None v s x =
      let (g, y, m) = formed_on S T V E F are i j (Known v) s x in
      let (w, q, t) = known_on v m refl in
      (w, subst (λ z. F j (Made z)) q y, t)
  valued_on i j (Some b) v s (inl (x, p)) = (
    Truth (not b),
    inl (leaves_on S T V E F are b (Asks i) (Asks j) (wants s) x, refl),
    subst (λ z. V z (Truth (not b))) (sym p) (are.truth (not b)),
  )
  valued_on i j (Some b) v s (inr (x, p)) = (
    Truth b,
    inr (
      (λ y. x (leaves_on (flip S) (flip T) (flip V) F E (turned S T V E F are) b (Asks j) (Asks i) (wants s) y)),
      refl,
    ),
    subst (λ z. V z (Truth b)) (sym p) (are.truth b),
  )

  -- an outcome is like one there
  pub settled_on : (i : Instance N) (j : Instance M) (start : Option Bool) (o : Outcome N) → S i j →
      HoldsOver E start i o → (p : Outcome M) × HoldsOver F start j p × OutcomeMatches T V o p
  settled_on i j start (Finds v) s (c, x) =
      let (w, y, t) = valued_on i j start v s x in (Finds w, (all_formed i j s c, y), finds t)
  settled_on i j start (Faults k at) s (c, x) =
      let (to, t, y) = meets_on S T V E F are [] (i ∷ []) [] (j ∷ []) k at end (more s end) x in
      (Faults k to, (all_ended i j s c, y), faults k t)
