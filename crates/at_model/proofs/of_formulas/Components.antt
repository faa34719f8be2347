-- A component by its list: each of its instances has a formula over the list, or an equation that ends.
use Rattle.std.proofs.Common.{◌≡◌, ℕ, zero, suc, Bool, true, false, not, ◌&&◌, ◌||◌, List, [], ◌∷◌, inl, inr, refl, sym, subst}
use Rattle.at_model.specs.Run.{Contents, Instance, Run, Gives, Fails, Looks, Demands}
use Rattle.at_model.specs.Bodies.{truth_of, bool_eq}
use Rattle.at_model.specs.Meaning.{Outcome, Finds, Faults, Among}
use Rattle.at_model.proofs.Options.{both, either_true}
use Rattle.at_model.proofs.Reached.{front_among, back_among}
use Rattle.at_model.specs.of_fixpoints.Formulas.{Formula, Known, Asks, Both, Either, atoms, Forms}
use Rattle.at_model.specs.of_fixpoints.Fixpoints.{End, Made, Ends, LeadsOver, stays, goes, AreFormed, AreEnded, Leaves, known, asks, true_both, true_left, true_right, false_left, false_right, false_both, HoldsAt, EndsAt}
use Rattle.at_model.specs.of_fixpoints.Circles.{HasNone}
use Rattle.at_model.specs.of_fixpoints.Searching.{asked_in}
use Rattle.at_model.proofs.of_formulas.UniqueOutcomes.{Ending, OneEnd}
use Rattle.at_model.proofs.of_formulas.ClosedOnce.{ended}

-- each of them is one of these
abbrev pub AllAmong : {A : Type 0} → List A → List A → Type 0
AllAmong [] bs = Unit {0}
AllAmong (a ∷ as') bs = Among a bs × AllAmong as' bs

pub pick : {A : Type 0} (as' bs : List A) (a : A) → AllAmong as' bs → Among a as' → Among a bs
pick [] bs a all h = absurd h
pick (b ∷ as') bs a (x, all) (inl e) = subst (λ z. Among z bs) (sym e) x
pick (b ∷ as') bs a (x, all) (inr h) = pick as' bs a all h

-- each of them has an equation that ends, with instances of the whole list
abbrev pub EndIn : {N : Type 0} → Ending N → List (Instance N) → List (Instance N) → Type 0
EndIn E all [] = Unit {0}
EndIn {N} E all (j ∷ js) = ((e : End N (Formula N)) × E j e × AllAmong (asked_in e) all) × EndIn E all js

-- and with a formula
abbrev pub FormedIn : {N : Type 0} → Ending N → List (Instance N) → List (Instance N) → Type 0
FormedIn E all [] = Unit {0}
FormedIn {N} E all (j ∷ js) = ((f : Formula N) × E j (Made f) × AllAmong (atoms f) all) × FormedIn E all js

end_of : {N : Type 0} (E : Ending N) (all js : List (Instance N)) (j : Instance N) → EndIn E all js → Among j js →
    (e : End N (Formula N)) × E j e × AllAmong (asked_in e) all
end_of E all [] j l h = absurd h
end_of {N} E all (k ∷ js) j (x, l) (inl q) =
    subst (λ z. (e : End N (Formula N)) × E z e × AllAmong (asked_in e) all) (sym q) x
end_of E all (k ∷ js) j (x, l) (inr h) = end_of E all js j l h

pub all_end : {N : Type 0} (E : Ending N) (all js : List (Instance N)) → FormedIn E all js → EndIn E all js
all_end E all [] l = tt
all_end E all (j ∷ js) ((f, x, m), l) = ((Made f, x, m), all_end E all js l)

pub form_of : {N : Type 0} (E : Ending N) (all js : List (Instance N)) (j : Instance N) → FormedIn E all js → Among j js →
    (f : Formula N) × E j (Made f) × AllAmong (atoms f) all
form_of E all [] j l h = absurd h
form_of {N} E all (k ∷ js) j (x, l) (inl q) =
    subst (λ z. (f : Formula N) × E z (Made f) × AllAmong (atoms f) all) (sym q) x
form_of E all (k ∷ js) j (x, l) (inr h) = form_of E all js j l h

-- the formula has the start value, where all its instances have it
abbrev pub stays_at : {N : Type 0} → Bool → Formula N → Bool
stays_at b (Known v) = bool_eq b (truth_of v)
stays_at b (Asks i) = true
stays_at true (Both f g) = stays_at true f && stays_at true g
stays_at false (Both f g) = stays_at false f || stays_at false g
stays_at true (Either f g) = stays_at true f || stays_at true g
stays_at false (Either f g) = stays_at false f && stays_at false g

-- and so has each formula of the list
abbrev pub StayIn : {N : Type 0} → Ending N → Bool → List (Instance N) → Type 0
StayIn E b [] = Unit {0}
StayIn {N} E b (j ∷ js) = ((f : Formula N) × E j (Made f) × (stays_at b f ≡ true)) × StayIn E b js

stay_of : {N : Type 0} (E : Ending N) (b : Bool) (js : List (Instance N)) (j : Instance N) → StayIn E b js →
    Among j js →
    (f : Formula N) × E j (Made f) × (stays_at b f ≡ true)
stay_of E b [] j l h = absurd h
stay_of {N} E b (k ∷ js) j (x, l) (inl q) =
    subst (λ z. (f : Formula N) × E z (Made f) × (stays_at b f ≡ true)) (sym q) x
stay_of E b (k ∷ js) j (x, l) (inr h) = stay_of E b js j l h

not_other : (b : Bool) → bool_eq b (not b) ≡ true → ⊥
not_other true e = cc
not_other false e = cc

module _ {N : Type 0} (E : Ending N) (one : OneEnd E E) (all : List (Instance N)) where
  -- formulas lead to instances of the list alone
  pub led_within : EndIn E all all → (i k : Instance N) → Among i all → LeadsOver E i k → Among k all
  led_within l _ k h (stays i) = h
  led_within l _ k h (goes i j _ f x a r) =
      let (e, y, m) = end_of E all all i l h in
      let q : e ≡ Made f = one i e (Made f) y x in
      led_within l j k (pick (atoms f) all j (subst (λ z. AllAmong (asked_in z) all) q m) a) r

  pub are_ended : EndIn E all all → (i : Instance N) → Among i all → AreEnded E i
  are_ended l i h k r = let (e, y, m) = end_of E all all k l (led_within l i k h r) in (e, y)

  pub are_formed : FormedIn E all all → (i : Instance N) → Among i all → AreFormed E i
  are_formed l i h k r = let (f, y, m) = form_of E all all k l (led_within (all_end E all all l) i k h r) in (f, y)

  -- where all have the start value by it, none leaves it
  pub none_leaves : (b : Bool) → FormedIn E all all → StayIn E b all → (f : Formula N) →
      ((k : Instance N) → Among k (atoms f) → Among k all) →
      stays_at b f ≡ true → Leaves (λ j f. E j (Made f)) b f → ⊥
  none_leaves b l s _ m e (known _) = not_other b e
  none_leaves b l s _ m e (asks _ i f h x) =
      let (g, y, t) = stay_of E b all i s (m i (inl refl)) in
      let q : Made g ≡ Made f = one i (Made g) (Made f) y h in let r : g ≡ f = cc in
      let (d, z, n) = form_of E all all i l (m i (inl refl)) in
      let u : Made d ≡ Made f = one i (Made d) (Made f) z h in let v : d ≡ f = cc in
      none_leaves b l s f (λ k a. pick (atoms f) all k (subst (λ z. AllAmong (atoms z) all) v n) a)
      (subst (λ z. stays_at b z ≡ true) r t) x
  none_leaves _ l s _ m e (true_both {f} {g} x y) = elim (either_true (stays_at false f) (stays_at false g) e) [
    | inl t ↦ none_leaves false l s f (λ k a. m k (front_among k (atoms f) (atoms g) a)) t x
    | inr t ↦ none_leaves false l s g (λ k a. m k (back_among k (atoms f) (atoms g) a)) t y
  ]
  none_leaves _ l s _ m e (true_left {f} {g} x) =
      none_leaves false l s f (λ k a. m k (front_among k (atoms f) (atoms g) a))
      (both (stays_at false f) (stays_at false g) e).0 x
  none_leaves _ l s _ m e (true_right {f} {g} x) =
      none_leaves false l s g (λ k a. m k (back_among k (atoms f) (atoms g) a))
      (both (stays_at false f) (stays_at false g) e).1 x
  none_leaves _ l s _ m e (false_left {f} {g} x) =
      none_leaves true l s f (λ k a. m k (front_among k (atoms f) (atoms g) a))
      (both (stays_at true f) (stays_at true g) e).0 x
  none_leaves _ l s _ m e (false_right {f} {g} x) =
      none_leaves true l s g (λ k a. m k (back_among k (atoms f) (atoms g) a))
      (both (stays_at true f) (stays_at true g) e).1 x
  none_leaves _ l s _ m e (false_both {f} {g} x y) = elim (either_true (stays_at true f) (stays_at true g) e) [
    | inl t ↦ none_leaves true l s f (λ k a. m k (front_among k (atoms f) (atoms g) a)) t x
    | inr t ↦ none_leaves true l s g (λ k a. m k (back_among k (atoms f) (atoms g) a)) t y
  ]

-- an evaluation demands this instance first
abbrev pub Wants : {N A : Type 0} → Contents N → Run N A → Instance N → Type 0
Wants look (Gives a) j = ⊥
Wants look (Fails f) j = ⊥
Wants look (Looks l k) j = Wants look (k (look l)) j
Wants look (Demands i k) j = i ≡ j

wanted : {N A : Type 0} (look : Contents N) (H : Instance N → Outcome N → Type 0) (i j : Instance N) (r : Run N A)
    (e : End N A) → Wants look r j → Ends look H i r e →
    (o : Outcome N) × H j o
wanted look H i j (Gives a) e w x = absurd w
wanted look H i j (Fails f) e w x = absurd w
wanted look H i j (Looks l k) e w x = wanted look H i j (k (look l)) e w x
wanted look H i j (Demands m k) e w (inl (v, h, x)) = (Finds v, subst (λ z. H z (Finds v)) w h)
wanted look H i j (Demands m k) e w (inr (f, at, h, x)) = (Faults f at, subst (λ z. H z (Faults f at)) w h)

-- formulas lead, at whatever depth, from each of them to one whose equation demands one of the whole list first
abbrev pub LostIn : {N : Type 0} → Contents N → Forms N → List (Instance N) → List (Instance N) → Type 0
LostIn look forms all [] = Unit {0}
LostIn {N} look forms all (j ∷ js) =
    ((m k : Instance N) × ((n : ℕ) → LeadsOver (EndsAt look forms n) j m) × Wants look (forms.formula m) k
    × Among k all) × LostIn look forms all js

lost_of : {N : Type 0} (look : Contents N) (forms : Forms N) (all js : List (Instance N)) (j : Instance N) →
    LostIn look forms all js → Among j js →
    (m k : Instance N) × ((n : ℕ) → LeadsOver (EndsAt look forms n) j m) × Wants look (forms.formula m) k
    × Among k all
lost_of look forms all [] j l h = absurd h
lost_of {N} look forms all (i ∷ js) j (x, l) (inl q) =
    subst (λ z. (m k : Instance N) × ((n : ℕ) → LeadsOver (EndsAt look forms n) z m) × Wants look (forms.formula m) k
    × Among k all) (sym q) x
lost_of look forms all (i ∷ js) j (x, l) (inr h) = lost_of look forms all js j l h

lost_at : {N : Type 0} (look : Contents N) (forms : Forms N) (all : List (Instance N)) → LostIn look forms all all →
    (n : ℕ) (j : Instance N) → Among j all → (o : Outcome N) → HoldsAt look forms n j o → ⊥
lost_at look forms all l zero j h o x = x
lost_at look forms all l (suc n) j h o x =
    let (m, k, r, w, a) = lost_of look forms all all j l h in
    let (e, y) = ended look forms n j (o, x) m (r n) in
    let (p, z) = wanted look (HoldsAt look forms n) m k (forms.formula m) e w y in
    lost_at look forms all l n k a p z

-- so none of them has an outcome
pub none_has : {N : Type 0} (look : Contents N) (forms : Forms N) (all : List (Instance N)) →
    LostIn look forms all all → (j : Instance N) → Among j all → HasNone look forms j
none_has look forms all l j h o (n, x) = lost_at look forms all l n j h o x
