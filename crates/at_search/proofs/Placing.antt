-- One instance more in a system.
use Rattle.std.proofs.Common.{◌≡◌, ◌⊎◌, ℕ, zero, suc, ◌+◌, ◌<◌, Bool, true, false, List, [], ◌∷◌, ◌++◌, get_or, length, slice_get, take, Option, Some, None}
use Rattle.std.proofs.Common.{IsSome, Result, Ok, Err, OnOk, Vec, inl, inr, refl, sym, ap, ◌∙◌, subst, arith}
use Rattle.std.proofs.lemmas.List.{append-nil, length-append, length-take-le}
use Rattle.std.specs.Global.{Global}
use Rattle.at_model.specs.Run.{Instance, Known}
use Rattle.at_model.specs.Meaning.{Among}
use Rattle.at_model.specs.of_fixpoints.Formulas.{Formula, atoms}
use Rattle.at_model.specs.of_fixpoints.Fixpoints.{Made}
use Rattle.at_body.specs.Pieces.{asked, stacked, top_of}
use Rattle.at_body.specs.declared.formula.Piece.{Piece}
use Rattle.at_body.proofs.Piled.{in_order}
use Rattle.at_solve.specs.Components.{listed_at}
use Rattle.at_solve.specs.declared.condition.Condition.{Condition}
use Rattle.at_solve.specs.declared.condition.Condition.TheVariants as condition
use Rattle.at_search.specs.declared.conditions.Conditions.{Conditions}
use Rattle.at_search.specs.declared.ended.Ended.{Ended}
use Rattle.at_search.specs.declared.system.System.{System}
use Rattle.at_search.specs.Recorded.{Recorded}
use Rattle.at_search.specs.Systems.{Stands, StaysUnder, Targets, IsUnformed, IsFormed, IsSystemTo, HasOpened, HasFormed}
use Rattle.at_search.proofs.Piecewise.{at_last, stands_more}
use Rattle.at_search.proofs.Adding.{carried_one}
use Rattle.at_search.proofs.Places.{item_at}

front_same : {A : Type 0} (xs ys : List A) (q : ℕ) → q < length xs → slice_get (xs ++ ys) q ≡ slice_get xs q
front_same [] ys q less = absurd (omega (arith, less))
front_same (x ∷ xs) ys zero less = refl
front_same (x ∷ xs) ys (suc q) less = front_same xs ys q (omega (arith, less))

-- the list there is the one that it was
listed_front : (xs ys : List (Vec ℕ Global)) (q : ℕ) → q < length xs → listed_at (xs ++ ys) q ≡ listed_at xs q
listed_front xs ys q less = ap (λ (o : Option (Vec ℕ Global)). elim o [ None ↦ [] | Some v ↦ v.items ]) (front_same xs ys q less)

listed_last : (xs : List (Vec ℕ Global)) (v : Vec ℕ Global) → listed_at (xs ++ v ∷ []) (length xs) ≡ v.items
listed_last xs v = ap (λ (o : Option (Vec ℕ Global)). elim o [ None ↦ [] | Some w ↦ w.items ]) (at_last xs v)

stays_same : (old new : Conditions) → new ≡ old → StaysUnder old new
stays_same old new e = record {
  start = ap (λ c. c.start) e;
  count = ap (λ c. c.count) e;
  more = [];
  parts = ap (λ c. c.parts.items) e ∙ sym (append-nil old.parts.items);
}

module _ (known : Known ℕ) (ended : List (Instance ℕ × Ended)) (insts : List (Instance ℕ)) (old new : System) (n : ℕ) (start : Bool)
    (s : IsSystemTo n start known ended insts old) (stays : StaysUnder old.conditions new.conditions) (head : Condition) (targets : Vec ℕ Global)
    (open' : Bool) (heads : new.heads.items ≡ old.heads.items ++ head ∷ []) (edges : new.edges.items ≡ old.edges.items ++ targets ∷ [])
    (opens : new.open.items ≡ old.open.items ++ open' ∷ []) where
  head_front : (q : ℕ) → q < n → slice_get new.heads.items q ≡ slice_get old.heads.items q
  head_front q less =
      ap (λ z. slice_get z q) heads ∙ front_same old.heads.items (head ∷ []) q (subst (λ z. q < z) (sym s.heads) less)

  open_front : (q : ℕ) → q < n → slice_get new.open.items q ≡ slice_get old.open.items q
  open_front q less =
      ap (λ z. slice_get z q) opens ∙ front_same old.open.items (open' ∷ []) q (subst (λ z. q < z) (sym s.opens) less)

  edges_front : (q : ℕ) → q < n → listed_at new.edges.items q ≡ listed_at old.edges.items q
  edges_front q less =
      ap (λ z. listed_at z q) edges ∙ listed_front old.edges.items (targets ∷ []) q (subst (λ z. q < z) (sym s.edges) less)

  unformed_stays : (q : ℕ) (i : Instance ℕ) → q < n → IsUnformed known ended old q i → IsUnformed known ended new q i
  unformed_stays q i less u = record {
    head = head_front q less ∙ u.head;
    edges = edges_front q less ∙ u.edges;
    is_open = open_front q less ∙ u.is_open;
    why = u.why;
  }

  formed_stays : (q : ℕ) (i : Instance ℕ) (f : Formula ℕ) → q < n → IsFormed known ended insts old q i f →
      IsFormed known ended insts new q i f
  formed_stays q i f less x = record {
    place = x.place;
    unknown = x.unknown;
    recorded = x.recorded;
    head = head_front q less ∙ x.head ∙ ap (λ z. Some (condition.When (z + x.place))) (sym stays.count);
    stands = carried_one known insts old.conditions.start new.conditions.start old.conditions.count new.conditions.count
        (old.conditions.parts.items ++ stays.more) new.conditions.parts.items x.place f stays.start stays.count stays.parts
        (stands_more known insts old.conditions.start old.conditions.count old.conditions.parts.items stays.more x.place f x.stands);
    is_open = x.is_open;
    at = open_front q less ∙ x.at;
    targets = subst (λ z. Targets known insts z x.is_open (atoms f)) (sym (edges_front q less)) x.targets;
  }

  -- the one that comes last
  abbrev IsLast : Instance ℕ → Type 0
  IsLast i = IsUnformed known ended new n i ⊎ ((f : Formula ℕ) × IsFormed known ended insts new n i f)

  pub one_further : (i : Instance ℕ) → slice_get insts n ≡ Some i → IsLast i → IsSystemTo (n + 1) start known ended insts new
  one_further i at last = record {
    start' = stays.start ∙ s.start';
    count = stays.count ∙ s.count;
    heads = ap length heads ∙ length-append old.heads.items (head ∷ []) ∙ ap (λ z. z + 1) s.heads;
    edges = ap length edges ∙ length-append old.edges.items (targets ∷ []) ∙ ap (λ z. z + 1) s.edges;
    opens = ap length opens ∙ length-append old.open.items (open' ∷ []) ∙ ap (λ z. z + 1) s.opens;
    placed = λ q j less there. by q j (before_or q n less) there;
  }
    where
      before_or : (q m : ℕ) → q < m + 1 → (q < m) ⊎ (q ≡ m)
      before_or zero zero less = inr refl
      before_or zero (suc m) less = inl (omega arith)
      before_or (suc q) zero less = absurd (omega (arith, less))
      before_or (suc q) (suc m) less = elim (before_or q m (omega (arith, less))) [
        | inl l ↦ inl (omega (arith, l))
        | inr e ↦ inr (ap suc e)
      ]

      by : (q : ℕ) (j : Instance ℕ) → (q < n) ⊎ (q ≡ n) → slice_get insts q ≡ Some j →
          IsUnformed known ended new q j ⊎ ((f : Formula ℕ) × IsFormed known ended insts new q j f)
      by q j (inl less) there = elim (s.placed q j less there) [
        | inl u ↦ inl (unformed_stays q j less u)
        | inr (f, x) ↦ inr (f, formed_stays q j f less x)
      ]
      by q j (inr e) there =
          let same : Some i ≡ Some j = sym at ∙ ap (slice_get insts) (sym e) ∙ there in
          let same' : i ≡ j = cc in
          subst (λ z. IsUnformed known ended new z j ⊎ ((f : Formula ℕ) × IsFormed known ended insts new z j f)) (sym e)
          (subst (λ z. IsLast z) same' last)

-- one that is open
pub open_added : {E : Type 0} (r : Result (Unit {0}) E) (known : Known ℕ) (ended : List (Instance ℕ × Ended)) (insts : List (Instance ℕ))
    (old new : System) (n : ℕ) (start : Bool) (i : Instance ℕ) → IsSystemTo n start known ended insts old → slice_get insts n ≡ Some i →
    IsSome (known i) ⊎ ((f : Formula ℕ) → Recorded ended i (Made f) → ⊥) → OnOk r (HasOpened old new) →
    OnOk r (IsSystemTo (n + 1) start known ended insts new)
open_added (Err e) known ended insts old new n start i s at why h = tt
open_added (Ok u) known ended insts old new n start i s at why h =
    one_further known ended insts old new n start s (stays_same old.conditions new.conditions h.conditions) condition.Never h.targets true h.heads
    h.edges h.open' i at (inl (record {
      head = ap (λ z. slice_get z n) h.heads ∙ ap (slice_get (old.heads.items ++ condition.Never ∷ [])) (sym s.heads)
          ∙ at_last old.heads.items condition.Never;
      edges = ap (λ z. listed_at z n) h.edges ∙ ap (listed_at (old.edges.items ++ h.targets ∷ [])) (sym s.edges)
          ∙ listed_last old.edges.items h.targets ∙ h.none;
      is_open = ap (λ z. slice_get z n) h.open' ∙ ap (slice_get (old.open.items ++ true ∷ [])) (sym s.opens) ∙ at_last old.open.items true;
      why = why;
    }))

-- one that has a formula
pub formula_added : {E : Type 0} (r : Result (Unit {0}) E) (known : Known ℕ) (ended : List (Instance ℕ × Ended)) (insts : List (Instance ℕ))
    (old new : System) (n : ℕ) (start : Bool) (i : Instance ℕ) (ps : List Piece) (f : Formula ℕ) →
    IsSystemTo n start known ended insts old →
    slice_get insts n ≡ Some i → None ≡ known i → Recorded ended i (Made f) → stacked [] ps ≡ f ∷ [] →
    OnOk r (HasFormed known insts ps old new) → OnOk r (IsSystemTo (n + 1) start known ended insts new)
formula_added (Err e) known ended insts old new n start i ps f s at none x made h = tt
formula_added (Ok u) known ended insts old new n start i ps f s at none x made h =
    let e : top_of (stacked [] ps) ≡ f = ap top_of made in
    one_further known ended insts old new n start s h.stays (condition.When (old.conditions.count + h.place)) h.targets h.is_open h.heads h.edges
    h.opens i at (inr (
      f,
      record {
        place = h.place;
        unknown = sym none;
        recorded = x;
        head = ap (λ z. slice_get z n) h.heads ∙ ap (slice_get (old.heads.items ++ condition.When (old.conditions.count + h.place) ∷ [])) (sym s.heads)
            ∙ at_last old.heads.items (condition.When (old.conditions.count + h.place))
            ∙ ap (λ z. Some (condition.When (z + h.place))) (sym h.stays.count);
        stands = carried_one known insts old.conditions.start new.conditions.start old.conditions.count new.conditions.count
            new.conditions.parts.items new.conditions.parts.items h.place f h.stays.start h.stays.count refl
            (subst (λ z. Stands old.conditions.start old.conditions.count known insts new.conditions.parts.items h.place z) e h.stands);
        is_open = h.is_open;
        at = ap (λ z. slice_get z n) h.opens ∙ ap (slice_get (old.open.items ++ h.is_open ∷ [])) (sym s.opens) ∙ at_last old.open.items h.is_open;
        targets = subst (λ z. Targets known insts z h.is_open (atoms f))
            (sym (ap (λ z. listed_at z n) h.edges ∙ ap (listed_at (old.edges.items ++ h.targets ∷ [])) (sym s.edges)
            ∙ listed_last old.edges.items h.targets))
            (subst (λ z. Targets known insts h.targets.items h.is_open z) (sym (in_order ps f made)) h.asks);
      },
    ))

-- the next of these instances
pub filled_more : (known : Known ℕ) (ended : List (Instance ℕ × Ended)) (insts : List (Instance ℕ)) (old new : System) (n : ℕ)
    (start : Bool) (xs : List (Instance ℕ)) (i : Instance ℕ) → xs ≡ insts → n < length xs → i ≡ get_or xs n i →
    ((m : ℕ) (b : Bool) → IsSystemTo m b known ended insts old → slice_get insts m ≡ Some i → IsSystemTo (m + 1) b known ended insts new) →
    IsSystemTo (length (take n insts)) start known ended insts old → IsSystemTo (length (take (n + 1) insts)) start known ended insts new
filled_more known ended insts old new n start xs i e less is more s =
    let here : n < length insts = subst (λ z. n < length z) e less in
    subst (λ m. IsSystemTo m start known ended insts new) (sym (length-take-le (n + 1) insts (omega (arith, here))))
    (more n start (subst (λ m. IsSystemTo m start known ended insts old) (length-take-le n insts (omega (arith, here))) s)
    (subst (λ z. slice_get z n ≡ Some i) e (item_at xs n i i less is)))
