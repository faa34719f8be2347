-- What is solved has its value.
use Rattle.std.proofs.Common.{◌≡◌, ◌⊎◌, ◌↔◌, ℕ, zero, suc, ◌+◌, ◌<◌, Bool, true, false, not, List, [], ◌∷◌, ◌++◌, get_or, length, slice_get, Option, Some, None}
use Rattle.std.proofs.Common.{IsSome, inl, inr, refl, sym, ap, ◌∙◌, subst, arith, true≢false, Vec}
use Rattle.std.specs.Global.{Global}
use Rattle.at_model.specs.Run.{Value, Truth, Instance, Contents, Known}
use Rattle.at_model.specs.Bodies.{bool_eq, truth_of}
use Rattle.at_model.specs.Meaning.{Among}
use Rattle.at_model.specs.of_fixpoints.Formulas.{Formula, Asks, atoms, Forms}
use Rattle.at_model.specs.of_fixpoints.Fixpoints.{End, Made, Leaves, EndsSo, HasForm, HasValue}
use Rattle.at_model.specs.of_fixpoints.Searching.{asked_in}
use Rattle.at_model.specs.of_fixpoints.Searched.{IsMade, EndsWell, IsWhole, IsClosedIn}
use Rattle.at_model.proofs.of_searching.PassedCircles.{ends_one}
use Rattle.at_model.proofs.of_searching.Wholes.{seen_whole}
use Rattle.at_solve.specs.declared.condition.Condition.{Condition}
use Rattle.at_solve.specs.declared.condition.Condition.TheVariants as condition
use Rattle.at_solve.specs.Components.{listed_at}
use Rattle.at_solve.specs.Derivations.{Derives}
use Rattle.at_search.specs.declared.ended.Ended.{Ended}
use Rattle.at_search.specs.declared.system.System.{System}
use Rattle.at_search.specs.Recorded.{Recorded, AreFacts, AreWhole}
use Rattle.at_search.specs.Systems.{Stands, IsPlaced, IsSystem, IsUnformed, IsFormed}
use Rattle.at_search.specs.Solved.{AreRight, is_open_at, value_at}
use Rattle.at_search.proofs.Derived.{sound, complete, instance_derived, there_among, no_value}
use Rattle.at_search.proofs.Fixed.{decided, has_value}
use Rattle.at_search.proofs.Places.{read_at, within}

get_behind : {A : Type 0} (xs ys : List A) (n : ℕ) → slice_get (xs ++ ys) (length xs + n) ≡ slice_get ys n
get_behind [] ys n = let z : 0 + n ≡ n = omega arith in ap (slice_get ys) z
get_behind (x ∷ xs) ys n =
    let z : suc (length xs) + n ≡ suc (length xs + n) = omega arith in
    ap (slice_get (x ∷ (xs ++ ys))) z ∙ get_behind xs ys n

at_front : {A : Type 0} (xs ys : List A) (n : ℕ) (x : A) → slice_get xs n ≡ Some x → slice_get (xs ++ ys) n ≡ Some x
at_front [] ys n x e = absurd cc
at_front (y ∷ xs) ys zero x e = e
at_front (y ∷ xs) ys (suc n) x e = at_front xs ys n x e

-- one more, if it is there
abbrev one_more : Option (Instance ℕ) → List (Instance ℕ) → List (Instance ℕ)
one_more None is = is
one_more (Some i) is = i ∷ is

behind_one : (o : Option (Instance ℕ)) (is : List (Instance ℕ)) (i : Instance ℕ) → Among i is → Among i (one_more o is)
behind_one None is i h = h
behind_one (Some j) is i h = inr h

-- the instances at positions
abbrev insts_at : List (Instance ℕ) → List ℕ → List (Instance ℕ)
insts_at insts [] = []
insts_at insts (m ∷ ms) = one_more (slice_get insts m) (insts_at insts ms)

stands_there : (insts : List (Instance ℕ)) (ms : List ℕ) (m : ℕ) (i : Instance ℕ) → Among m ms → slice_get insts m ≡ Some i → Among i (insts_at insts ms)
stands_there insts [] m i h e = absurd h
stands_there insts (k ∷ ms) m i (inl q) e = rw (ap (slice_get insts) (sym q) ∙ e) (inl refl)
stands_there insts (k ∷ ms) m i (inr h) e = behind_one (slice_get insts k) (insts_at insts ms) i (stands_there insts ms m i h e)

-- and they have positions
stood_at : (insts : List (Instance ℕ)) (ms : List ℕ) (j : Instance ℕ) → Among j (insts_at insts ms) →
    (k : ℕ) × Among k ms × (slice_get insts k ≡ Some j)
stood_at insts [] j h = absurd h
stood_at insts (k ∷ ms) j h = by (slice_get insts k) refl h (λ g. let (n, a, x) = stood_at insts ms j g in (n, inr a, x))
  where
    by : (o : Option (Instance ℕ)) → slice_get insts k ≡ o → Among j (one_more o (insts_at insts ms)) →
        (Among j (insts_at insts ms) → (n : ℕ) × Among n (k ∷ ms) × (slice_get insts n ≡ Some j)) →
        (n : ℕ) × Among n (k ∷ ms) × (slice_get insts n ≡ Some j)
    by None e g more = more g
    by (Some l) e (inl q) more = (k, inl refl, e ∙ ap Some (sym q))
    by (Some l) e (inr g) more = more g

module _ (look : Contents ℕ) (forms : Forms ℕ) (known : Known ℕ) (ended : List (Instance ℕ × Ended)) (insts : List (Instance ℕ))
    (s : System) (right : AreRight look forms s.conditions.start known ended insts) (system : IsSystem s.conditions.start known ended insts s) where
  abbrev start : Bool
  start = s.conditions.start

  abbrev all : List Condition
  all = s.heads.items ++ s.conditions.parts.items

  abbrev Fits : Instance ℕ → Type 0
  Fits i = forms.starts i.attribute ≡ Some start

  at_parts : (p : ℕ) → slice_get all (s.conditions.count + p) ≡ slice_get s.conditions.parts.items p
  at_parts p =
      let e : s.conditions.count ≡ length s.heads.items = system.all.count ∙ sym system.all.heads in
      ap (λ n. slice_get all (n + p)) e ∙ get_behind s.heads.items s.conditions.parts.items p

  at_heads : (q : ℕ) (c : Condition) → slice_get s.heads.items q ≡ Some c → slice_get all q ≡ Some c
  at_heads q c e = at_front s.heads.items s.conditions.parts.items q c e

  placed : (q : ℕ) (i : Instance ℕ) → slice_get insts q ≡ Some i →
      IsPlaced start s.conditions.count known insts s.conditions.parts.items all (HasForm look forms) q i
  placed q i at = elim (system.all.placed q i (within insts q i at) at) [
    | inl u ↦ inl (at_heads q condition.Never u.head)
    | inr (f, x) ↦ inr (f, x.place, right.facts i (Made f) x.recorded, at_heads q (condition.When (s.conditions.count + x.place)) x.head, x.stands)
  ]

  fits_at : (q : ℕ) (i : Instance ℕ) → slice_get insts q ≡ Some i → Fits i
  fits_at q i at = right.starts i (there_among insts q i at)

  fits : (q : ℕ) (i : Instance ℕ) (f : Formula ℕ) → slice_get insts q ≡ Some i → HasForm look forms i f → (k : Instance ℕ) →
      Among k (atoms f) → Fits k
  fits q i f at h k a = right.alike i k f h a ∙ fits_at q i at

  itself : (b : Bool) → bool_eq b b ≡ true
  itself true = refl
  itself false = refl

  other : (b : Bool) → bool_eq (not b) b ≡ false
  other true = refl
  other false = refl

  leaves_by : (i : Instance ℕ) (v : Value ℕ) → Fits i → known i ≡ Some v → bool_eq (truth_of v) start ≡ false →
      Leaves (HasForm look forms) start (Asks i)
  leaves_by i v fit k off = elim (decided look forms start i v fit (right.values i v k)) [
    | inl (l, q) ↦ l
    | inr (o, q) ↦ absurd (true≢false (sym (itself start) ∙ ap (λ z. bool_eq (truth_of z) start) (sym q) ∙ off))
  ]

  left_by : (i : Instance ℕ) (v : Value ℕ) → Fits i → known i ≡ Some v → Leaves (HasForm look forms) start (Asks i) →
      bool_eq (truth_of v) start ≡ false
  left_by i v fit k l = elim (decided look forms start i v fit (right.values i v k)) [
    | inl (_, q) ↦ ap (λ z. bool_eq (truth_of z) start) q ∙ other start
    | inr (o, q) ↦ absurd (o l)
  ]

  one_form : (i : Instance ℕ) (f g : Formula ℕ) → HasForm look forms i f → HasForm look forms i g → f ≡ g
  one_form i f g x y = let q : Made f ≡ Made g = ends_one look forms i (Made f) (Made g) x y in cc

  module _ (T : List ℕ)
      (shut : (m : ℕ) → Among m T → (is_open_at s.open.items m ≡ false) × ((k : ℕ) → Among k (listed_at s.edges.items m) → Among k T)) where
    abbrev Good : ℕ → Type 0
    Good m = Among m T

    not_open : (m : ℕ) → Good m → slice_get s.open.items m ≡ Some true → ⊥
    not_open m good e = true≢false (sym (read_at s.open.items m true true e) ∙ (shut m good).0)

    formed : (m : ℕ) (i : Instance ℕ) → Good m → slice_get insts m ≡ Some i → (f : Formula ℕ) × IsFormed known ended insts s m i f
    formed m i good at = elim (system.all.placed m i (within insts m i at) at) [
      | inl u ↦ absurd (not_open m good u.is_open)
      | inr x ↦ x
    ]

    asks_good : (m : ℕ) (i : Instance ℕ) (f : Formula ℕ) → Good m → IsFormed known ended insts s m i f → (k : Instance ℕ) → Among k (atoms f) →
        IsSome (known k) ⊎ ((q : ℕ) × Good q × (slice_get insts q ≡ Some k))
    asks_good m i f good x k a = elim (x.targets.covered k a) [
      | inl kept ↦ inl kept
      | inr b ↦ elim b [
        | inl (q, t, at) ↦ inr (q, (shut m good).1 q t, at)
        | inr e ↦ absurd (not_open m good (x.at ∙ ap Some e))
      ]
    ]

    closed : (m : ℕ) (i : Instance ℕ) → Good m → slice_get insts m ≡ Some i → (f : Formula ℕ) × (r : ℕ) × HasForm look forms i f
        × (slice_get all m ≡ Some (condition.When (s.conditions.count + r)))
        × Stands start s.conditions.count known insts s.conditions.parts.items r f
        × ((k : Instance ℕ) → Among k (atoms f) → Fits k × (IsSome (known k) ⊎ ((q : ℕ) × Good q × (slice_get insts q ≡ Some k))))
    closed m i good at =
        let (f, x) = formed m i good at in
        let has = right.facts i (Made f) x.recorded in (
          f,
          x.place,
          has,
          at_heads m (condition.When (s.conditions.count + x.place)) x.head,
          x.stands,
          λ k a. (fits m i f at has k a, asks_good m i f good x k a),
        )

    -- all of these are whole
    whole : (m : ℕ) (i : Instance ℕ) → Good m → slice_get insts m ≡ Some i → IsWhole look forms i
    whole m i good at =
        seen_whole (EndsSo look forms) IsMade (insts_at insts T) ends i (stands_there insts T m i good at)
      where
        ends_at : (k : ℕ) (j : Instance ℕ) → Good k → slice_get insts k ≡ Some j →
            EndsWell (EndsSo look forms) IsMade (λ l. IsClosedIn (EndsSo look forms) IsMade l ⊎ Among l (insts_at insts T)) j
        ends_at k j g e =
            let (f, x) = formed k j g e in record {
              end = Made f;
              ends = right.facts j (Made f) x.recorded;
              good = tt;
              next = λ l a. elim (asks_good k j f g x l a) [
                | inl kept ↦ inl (right.wholes l kept)
                | inr (q, h, there) ↦ inr (stands_there insts T q l h there)
              ];
            }

        ends : (j : Instance ℕ) → Among j (insts_at insts T) →
            EndsWell (EndsSo look forms) IsMade (λ l. IsClosedIn (EndsSo look forms) IsMade l ⊎ Among l (insts_at insts T)) j
        ends j h = let (k, a, e) = stood_at insts T j h in ends_at k j a e

    -- and each has the value that is told
    pub told : (d : List Bool) → ((p : ℕ) → (get_or d p false ≡ true) ↔ Derives all p) → (m : ℕ) (i : Instance ℕ) → Good m →
        slice_get insts m ≡ Some i → HasValue look forms i (Truth (value_at start d m))
    told d is m i good at =
        has_value look forms start i (get_or d m false) (fits_at m i at) (whole m i good at)
        (λ e. (sound start s.conditions.count known insts s.conditions.parts.items all at_parts (HasForm look forms) Fits leaves_by fits placed m
        ((is m).0 e)).1 i at)
        (λ l. (is m).1 (instance_derived start s.conditions.count known insts s.conditions.parts.items all at_parts (HasForm look forms) one_form
        Fits left_by system.apart Good closed m i good at l))
