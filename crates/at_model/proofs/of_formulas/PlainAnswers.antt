-- Where no attribute is circular, answers are what they are by equations alone, and so is what an instance leads to
-- and rests on.
use Rattle.std.proofs.Common.{ℕ, List, [], ◌∷◌, ◌++◌, inl, inr, refl, sym, subst, append-nil}
use Rattle.at_model.specs.Run.{Value, Location, Run, Gives, Fails, Looks, Demands, Contents, Instance, ◌>>=◌}
use Rattle.at_model.specs.Meaning.{Outcome, Finds, Equations, Reaches, Walks, Among, Distinct, Answer, Outcomes, Circle}
use Rattle.at_model.specs.Meaning as meaning
use Rattle.at_model.specs.Support.{Sees}
use Rattle.at_model.specs.Support as support
use Rattle.at_model.proofs.Outcomes.{Settles, none_before, circle_has_none}
use Rattle.at_model.proofs.Reached.{front_among, back_among, either_among}
use Rattle.at_model.proofs.of_likeness.Carrying.{first_led}
use Rattle.at_model.specs.of_fixpoints.Formulas.{Formula, Known, atoms}
use Rattle.at_model.specs.of_fixpoints.Fixpoints.{HoldsAt, HasForm, HasValue}
use Rattle.at_model.specs.of_fixpoints.Resting.{Comes, Leads, stays, goes, Supports}
use Rattle.at_model.specs.of_fixpoints.Circles.{HasNone, WantsNone, Closes, back, again, formed, spoilt, comes_back, deeper, Circular, Answers}
use Rattle.at_model.specs.of_fixpoints.Sets.{plain_forms}
use Rattle.at_model.proofs.of_formulas.PlainForms.{holds_on_all, holds_back_all, plain_value}

pub reaches_on : {N : Type 0} (look : Contents N) (Has Had : Instance N → Value N → Type 0) →
    ((i : Instance N) (v : Value N) → Has i v → Had i v) → (r : Run N (Value N)) (j : Instance N) →
    Reaches look Has r j → Reaches look Had (r >>= λ v. Gives (Known v)) j
reaches_on look Has Had on (Gives a) j x = x
reaches_on look Has Had on (Fails f) j x = x
reaches_on look Has Had on (Looks l k) j x = reaches_on look Has Had on (k (look l)) j x
reaches_on look Has Had on (Demands i k) j (inl e) = inl e
reaches_on look Has Had on (Demands i k) j (inr (v, h, x)) = inr (v, on i v h, reaches_on look Has Had on (k v) j x)

pub reaches_off : {N : Type 0} (look : Contents N) (Has Had : Instance N → Value N → Type 0) →
    ((i : Instance N) (v : Value N) → Had i v → Has i v) → (r : Run N (Value N)) (j : Instance N) →
    Reaches look Had (r >>= λ v. Gives (Known v)) j → Reaches look Has r j
reaches_off look Has Had off (Gives a) j x = x
reaches_off look Has Had off (Fails f) j x = x
reaches_off look Has Had off (Looks l k) j x = reaches_off look Has Had off (k (look l)) j x
reaches_off look Has Had off (Demands i k) j (inl e) = inl e
reaches_off look Has Had off (Demands i k) j (inr (v, h, x)) =
    inr (v, off i v h, reaches_off look Has Had off (k v) j x)

pub sees_on : {N : Type 0} (look : Contents N) (Has Had : Instance N → Value N → Type 0) →
    ((i : Instance N) (v : Value N) → Has i v → Had i v) → (r : Run N (Value N)) (l : Location N) →
    Sees look Has r l → Sees look Had (r >>= λ v. Gives (Known v)) l
sees_on look Has Had on (Gives a) l x = x
sees_on look Has Had on (Fails f) l x = x
sees_on look Has Had on (Looks m k) l (inl e) = inl e
sees_on look Has Had on (Looks m k) l (inr x) = inr (sees_on look Has Had on (k (look m)) l x)
sees_on look Has Had on (Demands i k) l (v, h, x) = (v, on i v h, sees_on look Has Had on (k v) l x)

pub sees_off : {N : Type 0} (look : Contents N) (Has Had : Instance N → Value N → Type 0) →
    ((i : Instance N) (v : Value N) → Had i v → Has i v) → (r : Run N (Value N)) (l : Location N) →
    Sees look Had (r >>= λ v. Gives (Known v)) l → Sees look Has r l
sees_off look Has Had off (Gives a) l x = x
sees_off look Has Had off (Fails f) l x = x
sees_off look Has Had off (Looks m k) l (inl e) = inl e
sees_off look Has Had off (Looks m k) l (inr x) = inr (sees_off look Has Had off (k (look m)) l x)
sees_off look Has Had off (Demands i k) l (v, h, x) = (v, off i v h, sees_off look Has Had off (k v) l x)

module _ {N : Type 0} (look : Contents N) (equation : Equations N) where
  pub value_on : (i : Instance N) (v : Value N) → meaning.HasValue look equation i v →
      HasValue look (plain_forms equation) i v
  value_on i v h = holds_on_all look equation i (Finds v) h

  pub value_off : (i : Instance N) (v : Value N) → HasValue look (plain_forms equation) i v →
      meaning.HasValue look equation i v
  value_off i v h = holds_back_all look equation i (Finds v) h

  pub comes_on : (i j : Instance N) → meaning.Comes look equation i j → Comes look (plain_forms equation) i j
  comes_on i j c = inl (reaches_on look (meaning.HasValue look equation) (HasValue look (plain_forms equation))
      value_on (equation i) j c)

  no_atom : (i j : Instance N) (f : Formula N) → HasForm look (plain_forms equation) i f → Among j (atoms f) → ⊥
  no_atom i j f (n, x) m =
      let (v, q) = plain_value look (HoldsAt look (plain_forms equation) n) i (equation i) f x in
      subst (λ z. Among j (atoms z)) q m

  -- it comes to what its equation demands, and to no more
  pub comes_plain : (i j : Instance N) → Comes look (plain_forms equation) i j →
      Reaches look (HasValue look (plain_forms equation)) ((plain_forms equation).formula i) j
  comes_plain i j (inl c) = c
  comes_plain i j (inr (f, has, m)) = absurd (no_atom i j f has m)

  pub comes_off : (i j : Instance N) → Comes look (plain_forms equation) i j → meaning.Comes look equation i j
  comes_off i j (inl c) =
      reaches_off look (meaning.HasValue look equation) (HasValue look (plain_forms equation)) value_off
      (equation i) j c
  comes_off i j (inr (f, has, m)) = absurd (no_atom i j f has m)

  walks_on : (i : Instance N) (is : List (Instance N)) (j : Instance N) → Walks look equation i is j →
      Leads look (plain_forms equation) i j
  walks_on i [] j c = goes i j j (comes_on i j c) (stays j)
  walks_on i (m ∷ ms) j (c, w) = goes i m j (comes_on i m c) (walks_on m ms j w)

  pub leads_on : (i j : Instance N) → meaning.Leads look equation i j → Leads look (plain_forms equation) i j
  leads_on i j (inl e) = subst (λ z. Leads look (plain_forms equation) i z) e (stays i)
  leads_on i j (inr (is, w)) = walks_on i is j w

  pub leads_off : (i j : Instance N) → Leads look (plain_forms equation) i j → meaning.Leads look equation i j
  leads_off _ _ (stays i) = inl refl
  leads_off _ _ (goes i m j c l) = first_led look equation i m j (comes_off i m c) (leads_off m j l)

  pub supports_on : (l : Location N) (i : Instance N) → support.Supports look equation l i →
      Supports look (plain_forms equation) l i
  supports_on l i (j, p, x) = (
    j,
    leads_on i j p,
    sees_on look (meaning.HasValue look equation) (HasValue look (plain_forms equation))
        value_on (equation j) l x,
  )

  pub supports_off : (l : Location N) (i : Instance N) → Supports look (plain_forms equation) l i →
      support.Supports look equation l i
  supports_off l i (j, p, x) = (
    j,
    leads_off i j p,
    sees_off look (meaning.HasValue look equation) (HasValue look (plain_forms equation))
        value_off (equation j) l x,
  )

  -- what has no outcome by equations has none
  none_on : (j : Instance N) → ((n : ℕ) → Settles look equation n j → ⊥) → HasNone look (plain_forms equation) j
  none_on j none o h = let (n, e) = holds_back_all look equation j o h in none n (o, e)

  wants_on : (i j : Instance N) → meaning.Comes look equation i j → ((n : ℕ) → Settles look equation n j → ⊥) →
      WantsNone look (plain_forms equation) i j
  wants_on i j c none = (
    reaches_on look (meaning.HasValue look equation) (HasValue look (plain_forms equation)) value_on
        (equation i) j c,
    none_on j none,
  )

  -- one in front stands behind
  moved : (i m j : Instance N) (ms under : List (Instance N)) → Among j (i ∷ (m ∷ (ms ++ under))) →
      Among j (m ∷ (ms ++ (i ∷ under)))
  moved i m j ms under (inl e) = inr (back_among j ms (i ∷ under) (inl e))
  moved i m j ms under (inr (inl e)) = inl e
  moved i m j ms under (inr (inr h)) = elim (either_among j ms under h) [
    | inl u ↦ inr (front_among j ms (i ∷ under) u)
    | inr u ↦ inr (back_among j ms (i ∷ under) (inr u))
  ]

  -- a walk over distinct instances back to one of them, or of those that are under way, is a search
  walk_closes : (under : List (Instance N)) (i : Instance N) (is : List (Instance N)) (j : Instance N) →
      ((n : ℕ) → Settles look equation n j → ⊥) →
      Distinct (i ∷ is) → ((k : Instance N) → Among k (i ∷ is) → Among k under → ⊥) → Walks look equation i is j →
      Among j (i ∷ (is ++ under)) →
      Closes look (plain_forms equation) under [] (i ∷ []) j
  walk_closes under i [] j none d apart w a =
      comes_back i j (λ o. apart i (inl refl) o.0) (λ z. z) (wants_on i j w none) a
  walk_closes under i (m ∷ ms) j none (x, d) apart (c, w) a =
      deeper i m (λ o. apart i (inl refl) o.0) (λ z. z) (wants_on i m c (none_before look equation m ms j w none))
      (λ z. elim z [ inl e ↦ x (inl (sym e)) | inr u ↦ apart m (inr (inl refl)) u ])
      (walk_closes (i ∷ under) m ms j none d
      (λ k h g. elim g [ inl e ↦ x (subst (λ z. Among z (m ∷ ms)) e h) | inr u ↦ apart k (inr h) u ]) w
      (moved i m j ms under a))

  pub circle_on : (q j : Instance N) → meaning.Circular look equation q j → Circular look (plain_forms equation) q j
  circle_on q j (is, d, w, a) =
      walk_closes [] q is j (circle_has_none look equation q j (is, d, w, a)) d (λ k h g. g) w
      (subst (λ z. Among j (q ∷ z)) (sym (append-nil is)) a)

  -- and one that stands behind stands in front
  put_back : (i k j : Instance N) (ks under : List (Instance N)) → Among j (k ∷ (ks ++ (i ∷ under))) →
      Among j (i ∷ (k ∷ (ks ++ under)))
  put_back i k j ks under (inl e) = inr (inl e)
  put_back i k j ks under (inr h) = elim (either_among j ks (i ∷ under) h) [
    | inl u ↦ inr (inr (front_among j ks under u))
    | inr (inl e) ↦ inl e
    | inr (inr u) ↦ inr (inr (back_among j ks under u))
  ]

  comes_by : (i j : Instance N) → WantsNone look (plain_forms equation) i j → meaning.Comes look equation i j
  comes_by i j w = reaches_off look (meaning.HasValue look equation) (HasValue look (plain_forms equation)) value_off
      (equation i) j w.0

  -- a search is a walk over distinct instances back to one of them, or of those that are under way
  closes_walk : (under : List (Instance N)) (i j : Instance N) → (Among i under → ⊥) →
      Closes look (plain_forms equation) under [] (i ∷ []) j →
      (is : List (Instance N)) × Distinct (i ∷ is) × ((k : Instance N) → Among k is → Among k under → ⊥)
      × Walks look equation i is j × Among j (i ∷ (is ++ under))
  closes_walk under _ _ apart (back i o) = absurd (apart o.0)
  closes_walk under _ j apart (again i o a x) = absurd a
  closes_walk under _ j apart (formed i f o a (n, e) x) =
      let (v, q) = plain_value look (HoldsAt look (plain_forms equation) n) i (equation i) f e in
      let y : Closes look (plain_forms equation) under (i ∷ []) [] j =
      subst (λ z. Closes look (plain_forms equation) under (i ∷ []) (atoms z ++ []) j) q x in
      absurd (elim y [ ])
  closes_walk under _ j apart (spoilt i at k o a e x) = absurd (elim x [ ])
  closes_walk under _ _ apart (comes_back i k o a w m) = ([], (λ z. z, tt), (λ b h g. h), comes_by i k w, m)
  closes_walk under _ j apart (deeper i k o a w m x) =
      let (ks, d, p, v, h) = closes_walk (i ∷ under) k j m x in (
        k ∷ ks,
        ((λ z. elim z [ inl e ↦ m (inl (sym e)) | inr u ↦ p i u (inl refl) ]), d),
        (λ b g n. elim g [ inl e ↦ m (inr (subst (λ z. Among z under) e n)) | inr u ↦ p b u (inr n) ]),
        (comes_by i k w, v),
        put_back i k j ks under h,
      )

  pub circle_off : (q j : Instance N) → Circular look (plain_forms equation) q j → meaning.Circular look equation q j
  circle_off q j x =
      let (is, d, p, w, h) = closes_walk [] q j (λ z. z) x in
      (is, d, w, subst (λ z. Among j (q ∷ z)) (append-nil is) h)

  -- answers are the same
  pub answers_on : (q : Instance N) (a : Answer N) → meaning.Answers look equation q a →
      Answers look (plain_forms equation) q a
  answers_on q (Outcomes o) h = holds_on_all look equation q o h
  answers_on q (Circle j) h = circle_on q j h

  pub answers_off : (q : Instance N) (a : Answer N) → Answers look (plain_forms equation) q a →
      meaning.Answers look equation q a
  answers_off q (Outcomes o) h = holds_back_all look equation q o h
  answers_off q (Circle j) h = circle_off q j h
