-- A component whose list is known is solved by rounds: each of its instances leaves the start, or it is known that it
-- doesn't.
use Rattle.std.proofs.Common.{◌≡◌, ◌⊎◌, ℕ, zero, suc, ◌+◌, Bool, true, false, not, List, [], ◌∷◌, Option, Some, inl, inr, refl, sym, subst, ap, ◌∙◌, arith}
use Rattle.at_model.specs.Run.{Value, Int, Truth, Text, Ref, Nodes, Contents, Instance}
use Rattle.at_model.specs.Meaning.{Among}
use Rattle.at_model.proofs.Reached.{front_among, back_among}
use Rattle.at_model.specs.of_fixpoints.Formulas.{Formula, Known, Asks, Both, Either, atoms, Forms}
use Rattle.at_model.specs.of_fixpoints.Fixpoints.{Made, Leaves, known, asks, true_both, true_left, true_right, false_left, false_right, false_both, Valued, EndsAt, HasValue, HasForm}
use Rattle.at_model.specs.of_fixpoints.Sets.{IsComponent}
use Rattle.at_model.proofs.of_formulas.UniqueOutcomes.{Ending, OneEnd, ends_at}
use Rattle.at_model.proofs.of_formulas.Components.{AllAmong, FormedIn, pick, are_formed}
use Rattle.at_model.proofs.of_formulas.Heights.{ends_higher}

-- the formula doesn't leave the start, where those of U don't
abbrev NotBy : {N : Type 0} → Bool → (Instance N → Type 0) → Formula N → Type 0
NotBy b U (Known v) = v ≡ Truth (not b) → ⊥
NotBy b U (Asks i) = U i
NotBy false U (Both f g) = NotBy false U f ⊎ NotBy false U g
NotBy true U (Both f g) = NotBy true U f × NotBy true U g
NotBy false U (Either f g) = NotBy false U f × NotBy false U g
NotBy true U (Either f g) = NotBy true U f ⊎ NotBy true U g

module _ {N : Type 0} (E : Ending N) where
  abbrev Left : Bool → Formula N → Type 0
  Left b f = Leaves (λ j f. E j (Made f)) b f

  truth_or : (b c : Bool) → Left b (Known (Truth c)) ⊎ (◌≡◌ {A = Value N} (Truth c) (Truth (not b)) → ⊥)
  truth_or true true = inr (λ e. let q : true ≡ false = cc in absurd cc)
  truth_or true false = inl (known true)
  truth_or false true = inl (known false)
  truth_or false false = inr (λ e. let q : false ≡ true = cc in absurd cc)

  value_or : (b : Bool) (v : Value N) → Left b (Known v) ⊎ (v ≡ Truth (not b) → ⊥)
  value_or b (Int n) = inr (λ e. absurd cc)
  value_or b (Truth c) = truth_or b c
  value_or b (Text bytes) = inr (λ e. absurd cc)
  value_or b (Ref n) = inr (λ e. absurd cc)
  value_or b (Nodes ns) = inr (λ e. absurd cc)

  -- whether a formula leaves the start, where it is known of its instances, or they are of U
  decide : (b : Bool) (U : Instance N → Type 0) (f : Formula N) →
      ((k : Instance N) → Among k (atoms f) → Left b (Asks k) ⊎ U k) → Left b f ⊎ NotBy b U f
  decide b U (Known v) all = value_or b v
  decide b U (Asks i) all = all i (inl refl)
  decide false U (Both f g) all = elim (decide false U f (λ k h. all k (front_among k (atoms f) (atoms g) h))) [
    | inr n ↦ inr (inl n)
    | inl x ↦ elim (decide false U g (λ k h. all k (back_among k (atoms f) (atoms g) h)))
        [ inl y ↦ inl (true_both x y) | inr n ↦ inr (inr n) ]
  ]
  decide true U (Both f g) all = elim (decide true U f (λ k h. all k (front_among k (atoms f) (atoms g) h))) [
    | inl x ↦ inl (false_left x)
    | inr m ↦ elim (decide true U g (λ k h. all k (back_among k (atoms f) (atoms g) h)))
        [ inl y ↦ inl (false_right y) | inr n ↦ inr (m, n) ]
  ]
  decide false U (Either f g) all = elim (decide false U f (λ k h. all k (front_among k (atoms f) (atoms g) h))) [
    | inl x ↦ inl (true_left x)
    | inr m ↦ elim (decide false U g (λ k h. all k (back_among k (atoms f) (atoms g) h)))
        [ inl y ↦ inl (true_right y) | inr n ↦ inr (m, n) ]
  ]
  decide true U (Either f g) all = elim (decide true U f (λ k h. all k (front_among k (atoms f) (atoms g) h))) [
    | inr n ↦ inr (inl n)
    | inl x ↦ elim (decide true U g (λ k h. all k (back_among k (atoms f) (atoms g) h)))
        [ inl y ↦ inl (false_both x y) | inr n ↦ inr (inr n) ]
  ]

  -- of each in the list a derivation, or none yet
  abbrev Part : Bool → List (Instance N) → Type 0
  Part b [] = Unit {0}
  Part b (j ∷ js) = (Left b (Asks j) ⊎ Unit {0}) × Part b js

  -- it has none yet
  abbrev OpenIn : (b : Bool) (js : List (Instance N)) → Part b js → Instance N → Type 0
  OpenIn b [] p k = ⊥
  OpenIn b (j ∷ js) (inl x, p) k = OpenIn b js p k
  OpenIn b (j ∷ js) (inr u, p) k = (k ≡ j) ⊎ OpenIn b js p k

  abbrev opens : (b : Bool) (js : List (Instance N)) → Part b js → ℕ
  opens b [] p = 0
  opens b (j ∷ js) (inl x, p) = opens b js p
  opens b (j ∷ js) (inr u, p) = suc (opens b js p)

  none_yet : (b : Bool) (js : List (Instance N)) → Part b js
  none_yet b [] = tt
  none_yet b (j ∷ js) = (inr tt, none_yet b js)

  found_or : (b : Bool) (js : List (Instance N)) (p : Part b js) (k : Instance N) → Among k js →
      Left b (Asks k) ⊎ OpenIn b js p k
  found_or b [] p k h = absurd h
  found_or b (j ∷ js) (inl x, p) k (inl e) = inl (subst (λ z. Left b (Asks z)) (sym e) x)
  found_or b (j ∷ js) (inr u, p) k (inl e) = inr (inl e)
  found_or b (j ∷ js) (inl x, p) k (inr h) = found_or b js p k h
  found_or b (j ∷ js) (inr u, p) k (inr h) = elim (found_or b js p k h) [ inl l ↦ inl l | inr o ↦ inr (inr o) ]

  module _ (one : OneEnd E E) (all : List (Instance N)) (b : Bool) where
    -- each of those that are open has a formula that doesn't leave the start by the others
    abbrev AreDone : (p : Part b all) (js : List (Instance N)) → Part b js → Type 0
    AreDone p js q = (k : Instance N) → OpenIn b js q k → (f : Formula N) × E k (Made f) × NotBy b (OpenIn b all p) f

    -- one more is found, or they are done
    round : (p : Part b all) (js : List (Instance N)) (q : Part b js) → FormedIn E all js →
        ((r : Part b js) × (suc (opens b js r) ≡ opens b js q)) ⊎ AreDone p js q
    round p [] q l = inr (λ k o. absurd o)
    round p (j ∷ js) (inl x, q) (f, l) = elim (round p js q l) [ inl (r, e) ↦ inl ((inl x, r), e) | inr h ↦ inr h ]
    round p (j ∷ js) (inr u, q) ((f, y, m), l) =
        elim (decide b (OpenIn b all p) f (λ k h. found_or b all p k (pick (atoms f) all k m h))) [
          | inl x ↦ inl ((inl (asks b j f y x), q), refl)
          | inr n ↦ elim (round p js q l) [
            | inl (r, e) ↦ inl ((inr u, r), ap suc e)
            | inr h ↦ inr (λ k o. elim o [
              | inl e ↦ subst (λ z. (f : Formula N) × E z (Made f) × NotBy b (OpenIn b all p) f) (sym e) (f, y, n)
              | inr a ↦ h k a
            ])
          ]
        ]

    rounds : (n : ℕ) (p : Part b all) → opens b all p ≡ n → FormedIn E all all → (r : Part b all) × AreDone r all r
    rounds zero p e l = elim
        (round p all p l) [ inl (r, f) ↦ absurd (let q : suc (opens b all r) ≡ zero = f ∙ e in cc) | inr h ↦ (p, h) ]
    rounds (suc n) p e l = elim (round p all p l) [
      | inl (r, f) ↦ rounds n r (let q : suc (opens b all r) ≡ suc n = f ∙ e in cc) l
      | inr h ↦ (p, h)
    ]

    -- those that are done don't leave the start
    never : (U : Instance N → Type 0) → ((k : Instance N) → U k → (f : Formula N) × E k (Made f) × NotBy b U f) →
        (c : Bool) (f : Formula N) → c ≡ b → NotBy c U f → Left c f → ⊥
    never U done _ _ e n (known c) = n refl
    never U done _ _ e n (asks c k g h x) =
        let (f, y, m) = done k n in
        let q : Made f ≡ Made g = one k (Made f) (Made g) y h in let r : f ≡ g = cc in
        never U done c g e (subst (λ z. NotBy z U g) (sym e) (subst (λ z. NotBy b U z) r m)) x
    never U done _ _ e (inl n) (true_both {f} {g} x y) = never U done false f e n x
    never U done _ _ e (inr n) (true_both {f} {g} x y) = never U done false g e n y
    never U done _ _ e (n, m) (true_left {f} {g} x) = never U done false f e n x
    never U done _ _ e (n, m) (true_right {f} {g} x) = never U done false g e m x
    never U done _ _ e (n, m) (false_left {f} {g} x) = never U done true f e n x
    never U done _ _ e (n, m) (false_right {f} {g} x) = never U done true g e m x
    never U done _ _ e (inl n) (false_both {f} {g} x y) = never U done true f e n x
    never U done _ _ e (inr n) (false_both {f} {g} x y) = never U done true g e n y

    pub decided : FormedIn E all all → (k : Instance N) → Among k all → Left b (Asks k) ⊎ (Left b (Asks k) → ⊥)
    decided l k h =
        let (p, done) = rounds (opens b all (none_yet b all)) (none_yet b all) refl l in
        elim (found_or b all p k h) [ inl x ↦ inl x | inr o ↦ inr (never (OpenIn b all p) done b (Asks k) refl o) ]

module _ {N : Type 0} (look : Contents N) (forms : Forms N) where
  formed_higher : (n d : ℕ) (all js : List (Instance N)) → FormedIn (EndsAt look forms n) all js →
      FormedIn (EndsAt look forms (n + d)) all js
  formed_higher n d all [] l = tt
  formed_higher n d all (j ∷ js) ((f, x, m), l) =
      ((f, ends_higher look forms n d j (Made f) x, m), formed_higher n d all js l)

  pub all_among : {A : Type 0} (as' bs : List A) → ((a : A) → Among a as' → Among a bs) → AllAmong as' bs
  all_among [] bs h = tt
  all_among (a ∷ as') bs h = (h a (inl refl), all_among as' bs (λ c m. h c (inr m)))

  -- one depth for the whole list
  pub one_depth : (all js : List (Instance N)) →
      ((j : Instance N) → Among j js →
      (f : Formula N) × HasForm look forms j f × ((k : Instance N) → Among k (atoms f) → Among k all)) →
      (n : ℕ) × FormedIn (EndsAt look forms n) all js
  one_depth all [] h = (0, tt)
  one_depth all (j ∷ js) h =
      let (f, (m, x), c) = h j (inl refl) in
      let (n, l) = one_depth all js (λ k a. h k (inr a)) in
      let q : n + m ≡ m + n = omega arith in (
        m + n,
        (
          (f, ends_higher look forms m n j (Made f) x, all_among (atoms f) all c),
          subst (λ z. FormedIn (EndsAt look forms z) all js) q (formed_higher n m all js l),
        ),
      )

  pub valued_by : (n : ℕ) (j : Instance N) (b : Bool) (start : Option Bool) → start ≡ Some b →
      Leaves (λ j f. EndsAt look forms n j (Made f)) b (Asks j) ⊎
      (Leaves (λ j f. EndsAt look forms n j (Made f)) b (Asks j) → ⊥) →
      (v : Value N) × Valued (λ j f. EndsAt look forms n j (Made f)) start j v
  valued_by n j b start e (inl x) = (
    Truth (not b),
    subst (λ z. Valued (λ j f. EndsAt look forms n j (Made f)) z j (Truth (not b))) (sym e)
        (inl (x, refl)),
  )
  valued_by n j b start e (inr x) =
      (Truth b, subst (λ z. Valued (λ j f. EndsAt look forms n j (Made f)) z j (Truth b)) (sym e) (inr (x, refl)))

  -- each circular instance of a component has a value
  pub component_valued : (all : List (Instance N)) → IsComponent look forms all → (j : Instance N) (b : Bool) →
      Among j all → forms.starts j.attribute ≡ Some b → (v : Value N) × HasValue look forms j v
  component_valued all whole j b a e =
      let (n, l) = one_depth all all whole in
      let (v, x) = valued_by n j b (forms.starts j.attribute) e
      (decided (EndsAt look forms n) (ends_at look forms n n) all b l j a) in
      (v, (suc n, (are_formed (EndsAt look forms n) (ends_at look forms n n) all l j a, x)))
