-- Groups of a system, one after the other: which are told their values, and which are open.
use Rattle.std.proofs.Common.{◌≡◌, ◌⊎◌, ◌↔◌, inl, inr, ℕ, zero, suc, ◌+◌, ◌<◌, ◌≤◌, Bool, true, false, true≢false, List, [], ◌∷◌, ◌++◌, get_or, length, map}
use Rattle.std.proofs.Common.{slice_get, Option, Some, None, IsSome, Vec, refl, sym, ap, ◌∙◌, subst, arith}
use Rattle.std.specs.Global.{Global}
use Rattle.at_model.specs.Run.{Value, Truth, Instance, Contents, Known}
use Rattle.at_model.specs.Meaning.{Among}
use Rattle.at_model.proofs.Reached.{back_among, either_among, front_among}
use Rattle.at_model.specs.of_fixpoints.Formulas.{Formula, atoms, Forms}
use Rattle.at_model.specs.of_fixpoints.Fixpoints.{End, Made, Spoilt, AreFormed, LeadsOver, EndsSo, HasValue}
use Rattle.at_model.specs.of_fixpoints.Fixpoints as fixpoints
use Rattle.at_model.specs.of_fixpoints.Searching.{asked_in}
use Rattle.at_model.proofs.of_searching.PassedCircles.{ends_one}
use Rattle.at_solve.specs.Components.{AreComponents, Leads, listed_at}
use Rattle.at_solve.specs.Components as components
use Rattle.at_solve.specs.Derivations.{Derives}
use Rattle.at_solve.specs.declared.condition.Condition.{Condition}
use Rattle.at_search.specs.declared.ended.Ended.{Ended}
use Rattle.at_search.specs.declared.solving.Solved.{Solved}
use Rattle.at_search.specs.declared.system.System.{System}
use Rattle.at_search.specs.LedTo.{AreClosedIn}
use Rattle.at_search.specs.Recorded.{AreFacts, AreMarksRight, Recorded, end_of}
use Rattle.at_search.specs.Systems.{IsFormed, IsSystem}
use Rattle.at_search.specs.Solved.{AreAllTold, AreDerived, AreGroups, AreInOrder, AreRight, AreShut, AreTold, AreToldOrSpoilt, AreToldOrStopped, HasOpenedAll, HasSolved, IsSolvedIn}
use Rattle.at_search.specs.Solved.{IsSpoilt, IsStopped, IsToldSome, is_open_at, solved_at, value_at}
use Rattle.at_search.proofs.Derived.{no_value, there_among}
use Rattle.at_search.proofs.Piecewise.{at_last}
use Rattle.at_search.proofs.Places.{item_at, read_at, same_or_not, within}
use Rattle.at_search.proofs.Shutting.{shut_or_open}
use Rattle.at_search.proofs.ToldValues.{told}

-- it is told in the group at this place
abbrev pub StandsIn : List (Vec Solved Global) → ℕ → ℕ → Type 0
StandsIn solved k q = (g : Vec Solved Global) × (t : Solved) × (slice_get solved k ≡ Some g) × Among t g.items × (t.position ≡ q)

-- So many groups of the first system were gone through: positions that are told aren't open, and lead to none but such, told with
-- them or before; the others of these groups are open, and what is open is known, or leads to an equation that gives no formula.
pub record IsSolving (known : Known ℕ) (ended : List (Instance ℕ × Ended)) (insts : List (Instance ℕ)) (first : System) (leave : List Bool)
    (lists : List (Vec ℕ Global)) (n : ℕ) (s : System) (solved : List (Vec Solved Global)) : Type 0 where
  pub edges : s.edges ≡ first.edges
  pub conditions : s.conditions ≡ first.conditions
  pub wider : (m : ℕ) → is_open_at s.open.items m ≡ false → is_open_at first.open.items m ≡ false
  pub closed : (k q : ℕ) → StandsIn solved k q → is_open_at s.open.items q ≡ false
  pub led : (k q : ℕ) → StandsIn solved k q → (p : ℕ) → Among p (listed_at first.edges.items q) →
      (l : ℕ) × (l ≤ k) × StandsIn solved l p
  pub values : (k : ℕ) (g : Vec Solved Global) (t : Solved) → slice_get solved k ≡ Some g → Among t g.items →
      t.value ≡ value_at first.conditions.start leave t.position
  pub from : (k q : ℕ) → StandsIn solved k q → (l : ℕ) × (l < n) × Among q (listed_at lists l)
  pub grouped : (k q r : ℕ) → StandsIn solved k q → StandsIn solved k r →
      (l : ℕ) × Among q (listed_at lists l) × Among r (listed_at lists l)
  pub alone : (k j q : ℕ) → StandsIn solved k q → StandsIn solved j q → k ≡ j
  pub rest : (l q : ℕ) → l < n → Among q (listed_at lists l) → (is_open_at s.open.items q ≡ true) ⊎ ((k : ℕ) × StandsIn solved k q)
  pub opened : (m : ℕ) (i : Instance ℕ) → is_open_at s.open.items m ≡ true → slice_get insts m ≡ Some i →
      IsSome (known i) ⊎ IsStopped known ended insts i

at_front : {A : Type 0} (xs ys : List A) (n : ℕ) (x : A) → slice_get xs n ≡ Some x → slice_get (xs ++ ys) n ≡ Some x
at_front [] ys n x e = absurd cc
at_front (y ∷ xs) ys zero x e = e
at_front (y ∷ xs) ys (suc n) x e = at_front xs ys n x e

at_push : {A : Type 0} (xs : List A) (x : A) (k : ℕ) (g : A) → slice_get (xs ++ x ∷ []) k ≡ Some g →
    (slice_get xs k ≡ Some g) ⊎ ((k ≡ length xs) × (x ≡ g))
at_push [] x zero g e = inr (refl, cc)
at_push [] x (suc k) g e = absurd cc
at_push (y ∷ ys) x zero g e = inl e
at_push (y ∷ ys) x (suc k) g e = elim (at_push ys x k g e) [ inl h ↦ inl h | inr (h, i) ↦ inr (ap suc h, i) ]

place_of : (xs : List (Instance ℕ)) (i : Instance ℕ) → Among i xs → (q : ℕ) × (slice_get xs q ≡ Some i)
place_of [] i h = absurd h
place_of (x ∷ xs) i (inl e) = (zero, ap (λ (z : Instance ℕ). Some z) (sym e))
place_of (x ∷ xs) i (inr h) = let (q, e) = place_of xs i h in (suc q, e)

has_place : (xs : List (Instance ℕ)) (q : ℕ) → q < length xs → IsSome (slice_get xs q)
has_place [] q less = absurd (omega (arith, less))
has_place (x ∷ xs) zero less = refl
has_place (x ∷ xs) (suc q) less = has_place xs q (omega (arith, less))

closed_within : (xs : List Bool) (q : ℕ) → is_open_at xs q ≡ false → q < length xs
closed_within [] q e = absurd (true≢false e)
closed_within (x ∷ xs) zero e = omega arith
closed_within (x ∷ xs) (suc q) e = omega (arith, closed_within xs q e)

in_or_not : (m : ℕ) (xs : List ℕ) → Among m xs ⊎ (Among m xs → ⊥)
in_or_not m [] = inr (λ h. h)
in_or_not m (x ∷ xs) = elim (same_or_not m x) [
  | inl e ↦ inl (inl e)
  | inr off ↦ elim (in_or_not m xs) [
    | inl a ↦ inl (inr a)
    | inr gone ↦ inr (λ h. elim h [ inl e ↦ off e | inr a ↦ gone a ])
  ]
]

before_or : (q m : ℕ) → q < m + 1 → (q < m) ⊎ (q ≡ m)
before_or zero zero less = inr refl
before_or zero (suc m) less = inl (omega arith)
before_or (suc q) zero less = absurd (omega (arith, less))
before_or (suc q) (suc m) less = elim (before_or q m (omega (arith, less))) [
  | inl l ↦ inl (omega (arith, l))
  | inr e ↦ inr (ap suc e)
]

listed_is : (lists : List (Vec ℕ Global)) (n : ℕ) (group : Vec ℕ Global) → slice_get lists n ≡ Some group → listed_at lists n ≡ group.items
listed_is lists n group e = ap (λ (o : Option (Vec ℕ Global)). elim o [ None ↦ [] | Some v ↦ v.items ]) e

listed_within : (lists : List (Vec ℕ Global)) (l q : ℕ) → Among q (listed_at lists l) → l < length lists
listed_within [] l q h = absurd h
listed_within (x ∷ xs) zero q h = omega arith
listed_within (x ∷ xs) (suc l) q h = omega (arith, listed_within xs l q h)

-- what is told of a group
in_map : (start : Bool) (leave : List Bool) (group : List ℕ) (t : Solved) → Among t (map (solved_at start leave) group) →
    Among t.position group × (t.value ≡ value_at start leave t.position)
in_map start leave [] t h = absurd h
in_map start leave (q ∷ qs) t (inl e) =
    let at : t.position ≡ q = ap (λ (z : Solved). z.position) e in
    (inl at, ap (λ (z : Solved). z.value) e ∙ ap (value_at start leave) (sym at))
in_map start leave (q ∷ qs) t (inr h) = let (a, v) = in_map start leave qs t h in (inr a, v)

map_in : (start : Bool) (leave : List Bool) (group : List ℕ) (q : ℕ) → Among q group →
    Among (solved_at start leave q) (map (solved_at start leave) group)
map_in start leave [] q h = absurd h
map_in start leave (x ∷ xs) q (inl e) = inl (ap (solved_at start leave) e)
map_in start leave (x ∷ xs) q (inr h) = inr (map_in start leave xs q h)

-- the positions that are told

abbrev positions_of : List Solved → List ℕ
positions_of [] = []
positions_of (t ∷ ts) = t.position ∷ positions_of ts

abbrev positions_in : List (Vec Solved Global) → List ℕ
positions_in [] = []
positions_in (g ∷ gs) = positions_of g.items ++ positions_in gs

to_position : (ts : List Solved) (t : Solved) → Among t ts → Among t.position (positions_of ts)
to_position [] t h = absurd h
to_position (x ∷ xs) t (inl e) = inl (ap (λ (z : Solved). z.position) e)
to_position (x ∷ xs) t (inr h) = inr (to_position xs t h)

from_position : (ts : List Solved) (q : ℕ) → Among q (positions_of ts) → (t : Solved) × Among t ts × (t.position ≡ q)
from_position [] q h = absurd h
from_position (x ∷ xs) q (inl e) = (x, inl refl, sym e)
from_position (x ∷ xs) q (inr h) = let (t, a, e) = from_position xs q h in (t, inr a, e)

stand_among : (gs : List (Vec Solved Global)) (k q : ℕ) → StandsIn gs k q → Among q (positions_in gs)
stand_among [] k q (g, t, at, h, e) = absurd cc
stand_among (v ∷ gs) zero q (g, t, at, h, e) =
    let same : v ≡ g = cc in
    front_among q (positions_of v.items) (positions_in gs) (subst (λ z. Among z (positions_of v.items)) e
    (to_position v.items t (subst (λ (w : Vec Solved Global). Among t w.items) (sym same) h)))
stand_among (v ∷ gs) (suc k) q (g, t, at, h, e) =
    back_among q (positions_of v.items) (positions_in gs) (stand_among gs k q (g, t, at, h, e))

among_stands : (gs : List (Vec Solved Global)) (q : ℕ) → Among q (positions_in gs) → (k : ℕ) × StandsIn gs k q
among_stands [] q h = absurd h
among_stands (v ∷ gs) q h = elim (either_among q (positions_of v.items) (positions_in gs) h) [
  | inl a ↦ let (t, b, e) = from_position v.items q a in (zero, (v, t, refl, b, e))
  | inr b ↦ let (k, st) = among_stands gs q b in (suc k, st)
]

-- what was told still is
still_stands : (gs : List (Vec Solved Global)) (v : Vec Solved Global) (k q : ℕ) → StandsIn gs k q → StandsIn (gs ++ v ∷ []) k q
still_stands gs v k q (g, t, at, h, e) = (g, t, at_front gs (v ∷ []) k g at, h, e)

-- so are those of the group that comes behind
stands_last : (gs : List (Vec Solved Global)) (v : Vec Solved Global) (start : Bool) (leave : List Bool) (group : List ℕ) (q : ℕ) →
    v.items ≡ map (solved_at start leave) group → Among q group → StandsIn (gs ++ v ∷ []) (length gs) q
stands_last gs v start leave group q e a =
    (v, solved_at start leave q, at_last gs v, subst (λ z. Among (solved_at start leave q) z) (sym e) (map_in start leave group q a), refl)

-- and no others
stood_or_last : (gs : List (Vec Solved Global)) (v : Vec Solved Global) (start : Bool) (leave : List Bool) (group : List ℕ) (k q : ℕ) →
    v.items ≡ map (solved_at start leave) group → StandsIn (gs ++ v ∷ []) k q → StandsIn gs k q ⊎ ((k ≡ length gs) × Among q group)
stood_or_last gs v start leave group k q e (g, t, at, h, is) = elim (at_push gs v k g at) [
  | inl there ↦ inl (g, t, there, h, is)
  | inr (last, same) ↦ inr (
    last,
    subst (λ z. Among z group) is
        (in_map start leave group t (subst (λ z. Among t z) e (subst (λ (w : Vec Solved Global). Among t w.items) (sym same) h))).0,
  )
]

stood_before : (gs : List (Vec Solved Global)) (k q : ℕ) → StandsIn gs k q → k < length gs
stood_before gs k q (g, t, at, h, e) = within gs k g at

known_or : (o : Option (Value ℕ)) → IsSome o ⊎ (o ≡ None)
known_or None = inr refl
known_or (Some v) = inl refl

leads_then : (has : Instance ℕ → End ℕ (Formula ℕ) → Type 0) (i j k : Instance ℕ) → LeadsOver has i j → LeadsOver has j k → LeadsOver has i k
leads_then has _ _ k (fixpoints.stays i) y = y
leads_then has _ j k (fixpoints.goes i m _ f h a x) y = fixpoints.goes i m k f h a (leads_then has m j k x y)

module _ (known : Known ℕ) (ended : List (Instance ℕ × Ended)) (insts : List (Instance ℕ)) where
  -- an equation is recorded to have ended once
  pub one_end : (i : Instance ℕ) (d e : End ℕ (Formula ℕ)) → Recorded ended i d → Recorded ended i e → d ≡ e
  one_end i d e (x, at, is) (y, there, so) =
      let both : Some x ≡ Some y = sym at ∙ there in
      let same : x ≡ y = cc in sym is ∙ ap (λ (z : Ended). end_of z.ending) same ∙ so

  module _ (first : System) (system : IsSystem first.conditions.start known ended insts first) where
    abbrev Solving : List Bool → List (Vec ℕ Global) → ℕ → System → List (Vec Solved Global) → Type 0
    Solving leave lists n s solved = IsSolving known ended insts first leave lists n s solved

    -- what isn't open has a formula
    formed_at : (q : ℕ) (i : Instance ℕ) → is_open_at first.open.items q ≡ false → slice_get insts q ≡ Some i →
        (f : Formula ℕ) × (x : IsFormed known ended insts first q i f) × (x.is_open ≡ false)
    formed_at q i off at = elim (system.all.placed q i (within insts q i at) at) [
      | inl u ↦ absurd (true≢false (sym (read_at first.open.items q true true u.is_open) ∙ off))
      | inr (f, x) ↦ (f, x, sym (read_at first.open.items q x.is_open true x.at) ∙ off)
    ]

    -- to what an edge leads, the formula does
    edge_at : (n m : ℕ) (i : Instance ℕ) → slice_get insts n ≡ Some i → Among m (listed_at first.edges.items n) →
        (f : Formula ℕ) × (j : Instance ℕ) × Recorded ended i (Made f) × Among j (atoms f) × (known j ≡ None) × (slice_get insts m ≡ Some j)
    edge_at n m i at e = elim (system.all.placed n i (within insts n i at) at) [
      | inl u ↦ absurd (subst (λ z. Among m z) u.edges e)
      | inr (f, x) ↦ let (j, a, none, at_m) = x.targets.from m e in (f, j, x.recorded, a, none, at_m)
    ]

    -- what a formula asks for is told with it or before
    pub in_order : (leave : List Bool) (lists : List (Vec ℕ Global)) (n : ℕ) (s : System) (solved : List (Vec Solved Global)) →
        Solving leave lists n s solved → AreInOrder known ended insts solved
    in_order leave lists n s solved x k i j b f (g, t, at_g, in_g, at_i, is) r a =
        let here : StandsIn solved k t.position = (g, t, at_g, in_g, refl) in
        let (h, y, shut) = formed_at t.position i (x.wider t.position (x.closed k t.position here)) at_i in
        let one : Made h ≡ Made f = one_end i (Made h) (Made f) y.recorded r in
        let same : h ≡ f = cc in
        elim (y.targets.covered j (subst (λ z. Among j (atoms z)) (sym same) a)) [
          | inl kept ↦ inl kept
          | inr u ↦ elim u [
            | inl (p, in_p, at_p) ↦ let (l, less, st) = x.led k t.position here p in_p in inr (told_in l p less st at_p)
            | inr e ↦ absurd (true≢false (sym e ∙ shut))
          ]
        ]
      where
        told_in : (l p : ℕ) → l ≤ k → StandsIn solved l p → slice_get insts p ≡ Some j →
            (m : ℕ) × (c : Bool) × (m ≤ k) × IsSolvedIn insts solved m j c
        told_in l p less (v, u, at_v, in_v, e) at_p =
            (l, u.value, less, (v, u, at_v, in_v, subst (λ z. slice_get insts z ≡ Some j) (sym e) at_p, refl))

    -- what is told is the value
    pub all_told : (look : Contents ℕ) (forms : Forms ℕ) (leave : List Bool) (lists : List (Vec ℕ Global)) (n : ℕ) (s : System)
        (solved : List (Vec Solved Global)) → AreRight look forms first.conditions.start known ended insts → AreDerived first leave →
        Solving leave lists n s solved → AreTold look forms insts solved
    all_told look forms leave lists n s solved right derived x i b (k, (g, t, at_g, in_g, at_i, is)) =
        let here : StandsIn solved k t.position = (g, t, at_g, in_g, refl) in
        subst (λ z. HasValue look forms i (Truth z)) (sym (x.values k g t at_g in_g) ∙ is)
        (told look forms known ended insts first right system (positions_in solved) shut leave derived t.position i
        (stand_among solved k t.position here) at_i)
      where
        shut : (m : ℕ) → Among m (positions_in solved) →
            (is_open_at first.open.items m ≡ false)
            × ((p : ℕ) → Among p (listed_at first.edges.items m) → Among p (positions_in solved))
        shut m h =
            let (l, st) = among_stands solved m h in
            (x.wider m (x.closed l m st), λ p a. let (o, less, y) = x.led l m st p a in stand_among solved o p y)

    -- edges lead where formulas do
    led_to : (m q : ℕ) (i : Instance ℕ) → Leads first.edges.items m q → slice_get insts m ≡ Some i → known i ≡ None →
        (j : Instance ℕ) × (slice_get insts q ≡ Some j) × (known j ≡ None) × LeadsOver (Recorded ended) i j
    led_to _ _ i (components.stays n) at none = (i, at, none, fixpoints.stays i)
    led_to _ q i (components.goes n m _ e d) at none =
        let (f, j, r, a, none_j, at_m) = edge_at n m i at e in
        let (k, at_k, none_k, led) = led_to m q j d at_m none_j in (k, at_k, none_k, fixpoints.goes i j k f r a led)

    -- in a group each leads to each; none of it is known, and it is told once
    module _ (leave : List Bool) (lists : List (Vec ℕ Global)) (n : ℕ) (s : System) (solved : List (Vec Solved Global))
        (x : Solving leave lists n s solved) where
      told_unknown : (k : ℕ) (i : Instance ℕ) (b : Bool) → IsSolvedIn insts solved k i b → known i ≡ None
      told_unknown k i b (g, t, at_g, in_g, at_i, is) =
          let (f, y, shut) = formed_at t.position i (x.wider t.position (x.closed k t.position (g, t, at_g, in_g, refl))) at_i in y.unknown

      told_once : (k l : ℕ) (i : Instance ℕ) (b c : Bool) → IsSolvedIn insts solved k i b → IsSolvedIn insts solved l i c → k ≡ l
      told_once k l i b c (g, t, at_g, in_g, at_i, is) (h, u, at_h, in_h, at_j, so) =
          let e : t.position ≡ u.position = system.apart t.position u.position i at_i at_j in
          x.alone k l t.position (g, t, at_g, in_g, refl) (h, u, at_h, in_h, sym e)

      told_together : AreComponents first.edges.items (length first.edges.items) lists → (k : ℕ) (i j : Instance ℕ) (b c : Bool) →
          IsSolvedIn insts solved k i b → IsSolvedIn insts solved k j c → LeadsOver (Recorded ended) i j
      told_together comps k i j b c (g, t, at_g, in_g, at_i, is) (h, u, at_h, in_h, at_j, so) =
          let (l, a, d) = x.grouped k t.position u.position (g, t, at_g, in_g, refl) (h, u, at_h, in_h, refl) in
          let none = told_unknown k i b (g, t, at_g, in_g, at_i, is) in
          let (m, at_m, none_m, led) = led_to t.position u.position i (comps.joined t.position u.position l a d) at_i none in
          let both : Some m ≡ Some j = sym at_m ∙ at_j in
          let same : m ≡ j = cc in
          subst (λ z. LeadsOver (Recorded ended) i z) same led

      told_placed : (k : ℕ) (g : Vec Solved Global) (t : Solved) → slice_get solved k ≡ Some g → Among t g.items → IsSome (slice_get insts t.position)
      told_placed k g t at_g in_g =
          let shut = x.wider t.position (x.closed k t.position (g, t, at_g, in_g, refl)) in
          has_place insts t.position (subst (λ m. t.position < m) system.all.opens (closed_within first.open.items t.position shut))

      pub all_groups : AreComponents first.edges.items (length first.edges.items) lists → AreGroups known ended insts solved
      all_groups comps = record { together = told_together comps; unknown = told_unknown; once = told_once; placed = told_placed }

    -- what stops one stops those that lead to it
    stops_before : (i j : Instance ℕ) → known j ≡ None → LeadsOver (Recorded ended) i j → IsSome (known j) ⊎ IsStopped known ended insts j →
        IsStopped known ended insts i
    stops_before i j none led (inl k) = absurd (no_value (known j) none k)
    stops_before i j none led (inr x) = record {
      by = x.by;
      among = x.among;
      unknown = x.unknown;
      led = leads_then (Recorded ended) i j x.by led x.led;
      why = x.why;
    }

    -- what is open from the beginning
    open_first : (m : ℕ) (i : Instance ℕ) → is_open_at first.open.items m ≡ true → slice_get insts m ≡ Some i →
        IsSome (known i) ⊎ IsStopped known ended insts i
    open_first m i o at = elim (system.all.placed m i (within insts m i at) at) [
      | inl u ↦ elim u.why [
        | inl k ↦ inl k
        | inr none ↦ elim (known_or (known i)) [
          | inl k ↦ inl k
          | inr unknown ↦ inr (record {
            by = i;
            among = there_among insts m i at;
            unknown = unknown;
            led = fixpoints.stays i;
            why = inl none;
          })
        ]
      ]
      | inr (f, x) ↦
          let (j, a, none, out) = x.targets.outside (sym (read_at first.open.items m x.is_open true x.at) ∙ o) in inr (record {
            by = i;
            among = there_among insts m i at;
            unknown = x.unknown;
            led = fixpoints.stays i;
            why = inr (f, j, x.recorded, a, none, out);
          })
    ]

    -- each is told some value, or is known, or stopped, once all groups were gone through
    all_gone : (leave : List Bool) (lists : List (Vec ℕ Global)) (n : ℕ) (s : System) (solved : List (Vec Solved Global)) →
        AreComponents first.edges.items (length first.edges.items) lists → length lists ≤ n → Solving leave lists n s solved →
        AreToldOrStopped known ended insts solved
    all_gone leave lists n s solved comps past x i a =
        let (q, at) = place_of insts i a in
        let less : q < length first.edges.items = subst (λ z. q < z) (sym system.all.edges) (within insts q i at) in
        let (l, in_l) = comps.whole q less in
        let low : l < n = omega (arith, listed_within lists l q in_l, past) in
        elim (x.rest l q low in_l) [
          | inl o ↦ inr (x.opened q i o at)
          | inr (k, (g, t, at_g, in_g, e)) ↦
              inl (t.value, (k, (g, t, at_g, in_g, subst (λ z. slice_get insts z ≡ Some i) (sym e) at, refl)))
        ]

    -- a group that isn't shut stops each member that isn't known
    module _ (leave : List Bool) (lists : List (Vec ℕ Global)) (n : ℕ) (s : System) (solved : List (Vec Solved Global))
        (x : Solving leave lists n s solved) where
      stopped_in : (m : ℕ) (i : Instance ℕ) (group : List ℕ) → ((q : ℕ) → Among q group → Leads first.edges.items m q) →
          slice_get insts m ≡ Some i → known i ≡ None → (AreShut s group → ⊥) → IsStopped known ended insts i
      stopped_in m i group joined at none off = elim (shut_or_open s group) [
        | inl all ↦ absurd (off all)
        | inr (q, a, w) ↦
            let (j, at_j, none_j, led) = led_to m q i (joined q a) at none in
            stops_before i j none_j led (elim w [
              | inl o ↦ x.opened q j o at_j
              | inr (p, h, o) ↦
                  let (f, k, r, b, none_k, at_k) =
                  edge_at q p j at_j (subst (λ z. Among p (listed_at z q)) (ap (λ (v : Vec (Vec ℕ Global) Global). v.items) x.edges) h) in
                  inr (stops_before j k none_k (fixpoints.goes j k k f r b (fixpoints.stays k)) (x.opened p k o at_k))
            ])
      ]

    -- no group was gone through yet
    pub none_solved : (leave : List Bool) (lists : List (Vec ℕ Global)) → Solving leave lists 0 first []
    none_solved leave lists = record {
      edges = refl;
      conditions = refl;
      wider = λ m e. e;
      closed = λ k q st. absurd (none_in k q st);
      led = λ k q st p a. absurd (none_in k q st);
      values = λ k g t at a. absurd cc;
      from = λ k q st. absurd (none_in k q st);
      grouped = λ k q r st also. absurd (none_in k q st);
      alone = λ k j q st also. absurd (none_in k q st);
      rest = λ l q less a. absurd (omega (arith, less));
      opened = open_first;
    }
      where
        none_in : (k q : ℕ) → StandsIn [] k q → ⊥
        none_in k q (g, t, at, h, e) = cc

    module _ (leave : List Bool) (lists : List (Vec ℕ Global)) (n : ℕ) (s : System) (solved : List (Vec Solved Global))
        (x : Solving leave lists n s solved) (comps : AreComponents first.edges.items (length first.edges.items) lists) (group : List ℕ)
        (here : listed_at lists n ≡ group) where
      in_lists : (q : ℕ) → Among q group → Among q (listed_at lists n)
      in_lists q a = subst (λ z. Among q z) (sym here) a

      in_group : (l q : ℕ) → l ≡ n → Among q (listed_at lists l) → Among q group
      in_group l q e a = subst (λ z. Among q z) here (subst (λ z. Among q (listed_at lists z)) e a)

      -- the next group is shut
      shut_on : (v : Vec Solved Global) → AreShut s group → v.items ≡ map (solved_at s.conditions.start leave) group →
          Solving leave lists (n + 1) s (solved ++ v ∷ [])
      shut_on v all is = record {
        edges = x.edges;
        conditions = x.conditions;
        wider = x.wider;
        closed = λ k q st. elim (or_last k q st) [ inl old ↦ x.closed k q old | inr (e, a) ↦ (all q a).0 ];
        led = λ k q st p a. elim (or_last k q st) [
          | inl old ↦ let (l, less, y) = x.led k q old p a in (l, less, still_stands solved v l p y)
          | inr (e, b) ↦ let (l, less, y) = led_last q p b a in (l, subst (λ z. l ≤ z) (sym e) less, y)
        ];
        values = λ k g t at a. elim (at_push solved v k g at) [
          | inl old ↦ x.values k g t old a
          | inr (e, same) ↦
              (in_map s.conditions.start leave group t (subst (λ z. Among t z) is (subst (λ (w : Vec Solved Global). Among t w.items) (sym same) a))).1
              ∙ ap (λ z. value_at z leave t.position) (ap (λ c. c.start) x.conditions)
        ];
        from = λ k q st. elim (or_last k q st) [
          | inl old ↦ let (l, less, a) = x.from k q old in (l, omega (arith, less), a)
          | inr (e, a) ↦ (n, omega arith, in_lists q a)
        ];
        grouped = λ k q r a b. elim (or_last k q a) [
          | inl old ↦ elim (or_last k r b) [
            | inl also ↦ x.grouped k q r old also
            | inr (e, c) ↦ absurd (omega (arith, e, stood_before solved k q old))
          ]
          | inr (e, c) ↦ elim (or_last k r b) [
            | inl also ↦ absurd (omega (arith, e, stood_before solved k r also))
            | inr (f, d) ↦ (n, in_lists q c, in_lists r d)
          ]
        ];
        alone = λ k j q a b. elim (or_last k q a) [
          | inl old ↦ elim (or_last j q b) [ inl also ↦ x.alone k j q old also | inr (e, c) ↦ absurd (fresh k q old c) ]
          | inr (e, c) ↦ elim (or_last j q b) [ inl also ↦ absurd (fresh j q also c) | inr (f, d) ↦ e ∙ sym f ]
        ];
        rest = λ l q less a. elim (before_or l n less) [
          | inl before ↦ elim (x.rest l q before a) [ inl o ↦ inl o | inr (k, st) ↦ inr (k, still_stands solved v k q st) ]
          | inr e ↦ inr (length solved, stands_last solved v s.conditions.start leave group q is (in_group l q e a))
        ];
        opened = x.opened;
      }
        where
          or_last : (k q : ℕ) → StandsIn (solved ++ v ∷ []) k q → StandsIn solved k q ⊎ ((k ≡ length solved) × Among q group)
          or_last k q st = stood_or_last solved v s.conditions.start leave group k q is st

          fresh : (k q : ℕ) → StandsIn solved k q → Among q group → ⊥
          fresh k q st a =
              let (l, less, b) = x.from k q st in
              let same = comps.once q l n b (in_lists q a) in omega (arith, less, same)

          led_last : (q p : ℕ) → Among q group → Among p (listed_at first.edges.items q) →
              (l : ℕ) × (l ≤ length solved) × StandsIn (solved ++ v ∷ []) l p
          led_last q p b a =
              let off = (all q b).1 p (subst (λ z. Among p (listed_at z q)) (sym (ap (λ (w : Vec (Vec ℕ Global) Global). w.items) x.edges)) a) in
              let low : p < length first.edges.items = subst (λ z. p < z) (system.all.opens ∙ sym system.all.edges)
              (closed_within first.open.items p (x.wider p off)) in
              let (l, less, c) = comps.behind q p n (in_lists q b) a low in
              let near : l < n + 1 = omega (arith, less) in
              elim (before_or l n near) [
                | inl before ↦ elim (x.rest l p before c) [
                  | inl o ↦ absurd (true≢false (sym o ∙ off))
                  | inr (k, st) ↦
                      let most : k ≤ length solved = omega (arith, stood_before solved k p st) in (k, most, still_stands solved v k p st)
                ]
                | inr e ↦
                    let most : length solved ≤ length solved = omega arith in
                    (length solved, most, stands_last solved v s.conditions.start leave group p is (in_group l p e c))
              ]

      -- or it is open from now on
      opened_on : (new : System) → (AreShut s group → ⊥) → HasOpenedAll group s new → Solving leave lists (n + 1) new solved
      opened_on new off o = record {
        edges = o.edges ∙ x.edges;
        conditions = o.conditions ∙ x.conditions;
        wider = λ m e. elim (in_or_not m group) [
          | inl a ↦ absurd (true≢false (sym (o.opened m a) ∙ e))
          | inr out ↦ x.wider m (sym (o.others m out) ∙ e)
        ];
        closed = λ k q st. o.others q (apart k q st) ∙ x.closed k q st;
        led = x.led;
        values = x.values;
        from = λ k q st. let (l, less, a) = x.from k q st in (l, omega (arith, less), a);
        grouped = x.grouped;
        alone = x.alone;
        rest = λ l q less a. elim (before_or l n less) [
          | inl before ↦ elim (x.rest l q before a) [ inl y ↦ inl (still_open q y) | inr st ↦ inr st ]
          | inr e ↦ inl (o.opened q (in_group l q e a))
        ];
        opened = λ m i y at. elim (in_or_not m group) [
          | inl a ↦ bad m i a at
          | inr out ↦ x.opened m i (sym (o.others m out) ∙ y) at
        ];
      }
        where
          apart : (k q : ℕ) → StandsIn solved k q → Among q group → ⊥
          apart k q st a =
              let (l, less, b) = x.from k q st in
              let same = comps.once q l n b (in_lists q a) in omega (arith, less, same)

          still_open : (q : ℕ) → is_open_at s.open.items q ≡ true → is_open_at new.open.items q ≡ true
          still_open q y = elim (in_or_not q group) [ inl a ↦ o.opened q a | inr out ↦ o.others q out ∙ y ]

          bad : (m : ℕ) (i : Instance ℕ) → Among m group → slice_get insts m ≡ Some i → IsSome (known i) ⊎ IsStopped known ended insts i
          bad m i a at = elim (known_or (known i)) [
            | inl k ↦ inl k
            | inr none ↦ inr (stopped_in leave lists n s solved x m i group
                (λ q b. comps.joined m q n (in_lists m a) (in_lists q b)) at none off)
          ]

      -- what was done of the next group
      pub one_solved : (new : System) (after : List (Vec Solved Global)) → HasSolved group leave s new solved after →
          Solving leave lists (n + 1) new after
      one_solved new after (inl (all, same, (v, is, e))) =
          subst (λ z. Solving leave lists (n + 1) z after) (sym same)
          (subst (λ z. Solving leave lists (n + 1) s z) (sym e) (shut_on v all is))
      one_solved new after (inr (off, o, e)) = subst (λ z. Solving leave lists (n + 1) new z) (sym e) (opened_on new off o)

  own : (start : Bool) (first : System) → IsSystem start known ended insts first → IsSystem first.conditions.start known ended insts first
  own start first system = subst (λ z. IsSystem z known ended insts first) (sym system.all.start') system

  -- the loop over the groups, in the words of the calls
  pub begins : (start : Bool) (first : System) (leave : List Bool) (lists : List (Vec ℕ Global)) (solved : List (Vec Solved Global)) →
      IsSystem start known ended insts first → solved ≡ [] → IsSolving known ended insts first leave lists 0 first solved
  begins start first leave lists solved system e =
      subst (λ z. IsSolving known ended insts first leave lists 0 first z) (sym e) (none_solved first (own start first system) leave lists)

  pub goes_on : (start : Bool) (first : System) (leave leave' : List Bool) (lists lists' edges : List (Vec ℕ Global)) (n : ℕ) (s new : System)
      (before after : List (Vec Solved Global)) (v : Vec ℕ Global) (members : List ℕ) → IsSystem start known ended insts first →
      edges ≡ first.edges.items → AreComponents edges (length edges) lists → lists' ≡ lists → n < length lists' → v ≡ get_or lists' n v →
      members ≡ v.items → leave' ≡ leave → HasSolved members leave' s new before after →
      IsSolving known ended insts first leave lists' n s before → IsSolving known ended insts first leave lists' (n + 1) new after
  goes_on start first leave leave' lists lists' edges n s new before after v members system ee comps el less is em ev h x =
      one_solved first (own start first system) leave lists' n s before x
      (subst (λ z. AreComponents z (length z) lists') ee (subst (λ z. AreComponents edges (length edges) z) (sym el) comps)) members
      (listed_is lists' n v (item_at lists' n v v less is) ∙ sym em) new after
      (subst (λ z. HasSolved members z s new before after) ev h)

  pub told_at_end : (look : Contents ℕ) (forms : Forms ℕ) (start : Bool) (first : System) (leave : List Bool) (lists : List (Vec ℕ Global))
      (n : ℕ) (s : System) (solved : List (Vec Solved Global)) (conditions : List Condition) → IsSystem start known ended insts first →
      conditions ≡ first.heads.items ++ first.conditions.parts.items →
      ((p : ℕ) → (get_or leave p false ≡ true) ↔ Derives conditions p) → IsSolving known ended insts first leave lists n s solved →
      AreRight look forms start known ended insts → AreTold look forms insts solved
  told_at_end look forms start first leave lists n s solved conditions system e derived x right =
      all_told first (own start first system) look forms leave lists n s solved
      (subst (λ z. AreRight look forms z known ended insts) (sym system.all.start') right)
      (subst (λ z. (p : ℕ) → (get_or leave p false ≡ true) ↔ Derives z p) e derived) x

  pub each_at_end : (start : Bool) (first : System) (leave : List Bool) (lists lists' edges : List (Vec ℕ Global)) (n : ℕ) (s : System)
      (solved : List (Vec Solved Global)) → IsSystem start known ended insts first → edges ≡ first.edges.items →
      AreComponents edges (length edges) lists → lists' ≡ lists → length lists' ≤ n →
      IsSolving known ended insts first leave lists' n s solved → AreToldOrStopped known ended insts solved
  each_at_end start first leave lists lists' edges n s solved system ee comps el past x =
      all_gone first (own start first system) leave lists' n s solved
      (subst (λ z. AreComponents z (length z) lists') ee (subst (λ z. AreComponents edges (length edges) z) (sym el) comps)) past x

  -- and what is stopped is spoilt, where formulas lead to none but these and what is settled
  spoilt_by : AreClosedIn known ended insts → (i : Instance ℕ) → IsStopped known ended insts i → IsSpoilt known ended i
  spoilt_by shut i x = elim x.why [
    | inl none ↦ by_fault (shut x.by x.among).end none (shut x.by x.among).ends
    | inr (f, j, r, a, none, out) ↦
        let w = shut x.by x.among in
        let same : w.end ≡ Made f = one_end x.by w.end (Made f) w.ends r in
        elim (w.next j (subst (λ z. Among j (asked_in z)) (sym same) a)) [
          | inl there ↦ absurd (out there)
          | inr settled ↦ elim settled [
            | inl k ↦ absurd (no_value (known j) none k)
            | inr marked ↦ record {
              to = j;
              led = leads_then (Recorded ended) i x.by j x.led (fixpoints.goes x.by j j f r a (fixpoints.stays j));
              unknown = none;
              why = inr marked;
            }
          ]
        ]
  ]
    where
      by_fault : (e : End ℕ (Formula ℕ)) → ((f : Formula ℕ) → Recorded ended x.by (Made f) → ⊥) → Recorded ended x.by e →
          IsSpoilt known ended i
      by_fault (Made f) none r = absurd (none f r)
      by_fault (Spoilt k at) none r = record { to = x.by; led = x.led; unknown = x.unknown; why = inl (k, at, r) }

  pub rest_of : (solved : List (Vec Solved Global)) → AreToldOrStopped known ended insts solved → AreClosedIn known ended insts →
      AreToldOrSpoilt known ended insts solved
  rest_of solved each shut i a = elim (each i a) [
    | inl told ↦ inl told
    | inr u ↦ elim u [ inl k ↦ inr (inl k) | inr stopped ↦ inr (inr (spoilt_by shut i stopped)) ]
  ]

  pub groups_at_end : (start : Bool) (first : System) (leave : List Bool) (lists lists' edges : List (Vec ℕ Global)) (n : ℕ) (s : System)
      (solved : List (Vec Solved Global)) → IsSystem start known ended insts first → edges ≡ first.edges.items →
      AreComponents edges (length edges) lists → lists' ≡ lists →
      IsSolving known ended insts first leave lists' n s solved → AreGroups known ended insts solved
  groups_at_end start first leave lists lists' edges n s solved system ee comps el x =
      all_groups first (own start first system) leave lists' n s solved x
      (subst (λ z. AreComponents z (length z) lists') ee (subst (λ z. AreComponents edges (length edges) z) (sym el) comps))

  -- what is recorded leads where formulas do
  pub led_so : (look : Contents ℕ) (forms : Forms ℕ) → AreFacts look forms ended → (i j : Instance ℕ) → LeadsOver (Recorded ended) i j →
      LeadsOver (EndsSo look forms) i j
  led_so look forms facts _ _ (fixpoints.stays i) = fixpoints.stays i
  led_so look forms facts _ j (fixpoints.goes i m _ f h a y) =
      fixpoints.goes i m j f (facts i (Made f) h) a (led_so look forms facts m j y)

  -- what is spoilt doesn't lead to formulas alone
  not_formed : (look : Contents ℕ) (forms : Forms ℕ) → AreFacts look forms ended → AreMarksRight look forms known ended → (i : Instance ℕ) →
      IsSpoilt known ended i → AreFormed (EndsSo look forms) i → ⊥
  not_formed look forms facts marks i x formed = elim x.why [
    | inl (k, at, r) ↦
        let (f, y) = formed x.to (led_so look forms facts i x.to x.led) in
        let same : Made f ≡ Spoilt k at = ends_one look forms x.to (Made f) (Spoilt k at) y (facts x.to (Spoilt k at) r) in absurd cc
    | inr marked ↦ marks x.to marked x.unknown (λ k l. formed k
        (leads_then (EndsSo look forms) i x.to k (led_so look forms facts i x.to x.led) l))
  ]

  pub all_told_of : (look : Contents ℕ) (forms : Forms ℕ) (solved : List (Vec Solved Global)) → AreToldOrSpoilt known ended insts solved →
      AreFacts look forms ended → AreMarksRight look forms known ended → AreAllTold look forms known insts solved
  all_told_of look forms solved rest facts marks i a none formed = elim (rest i a) [
    | inl told ↦ told
    | inr u ↦ elim u [
      | inl k ↦ absurd (no_value (known i) none k)
      | inr x ↦ absurd (not_formed look forms facts marks i x formed)
    ]
  ]

  pub order_at_end : (start : Bool) (first : System) (leave : List Bool) (lists : List (Vec ℕ Global)) (n : ℕ) (s : System)
      (solved : List (Vec Solved Global)) → IsSystem start known ended insts first → IsSolving known ended insts first leave lists n s solved →
      AreInOrder known ended insts solved
  order_at_end start first leave lists n s solved system x = in_order first (own start first system) leave lists n s solved x
