-- Where no attribute is circular, the turns of a chain are those of the search whose levels have one instance each.
use Rattle.std.proofs.Common.{◌≡◌, ◌⊎◌, ℕ, zero, suc, List, [], ◌∷◌, ◌++◌, get_or, map, reverse, Option, Some, None, inl, inr, refl, sym, ◌∙◌, subst, ap}
use Rattle.std.specs.Prelude.{IfNone}
use Rattle.at_model.specs.Run.{Value, FaultKind, Instance, Contents, Known as Kept}
use Rattle.at_model.specs.Meaning.{Outcome, Finds, Faults, Equations, Walks, Among, Right, Answer, Outcomes, Circle}
use Rattle.at_model.specs.Meaning as meaning
use Rattle.at_model.specs.Turning.{UnderWay, chain, keys, IsKnown, deeper, higher, IsOneMore, between, Chains, IsOn, Turned}
use Rattle.at_model.specs.Turning as way
use Rattle.at_model.specs.of_fixpoints.Formulas.{Formula, Known, atoms}
use Rattle.at_model.specs.of_fixpoints.Fixpoints.{End, Made, Spoilt, Meets, again, formed, spoilt, Holds, HasValue, EndsAt, HoldsAt, EndsSo}
use Rattle.at_model.specs.of_fixpoints.Resting.{Comes}
use Rattle.at_model.specs.of_fixpoints.Circles.{HasNone}
use Rattle.at_model.specs.of_fixpoints.Searching.{Level, Search, Looked, begun, under, root_of, behind, fallen_to, First, this, passes, IsPassed, IsValued, IsReady, Adds, Follows}
use Rattle.at_model.specs.of_fixpoints.Searching as search
use Rattle.at_model.specs.of_fixpoints.Sets.{plain_forms as plain}
use Rattle.at_model.specs.of_fixpoints.Chains.{levels_of, IsSearchOf, AreKept, IsOwn}
use Rattle.at_model.proofs.Listed.{among_left}
use Rattle.at_model.proofs.Members.{among_either, among_push, among_last}
use Rattle.at_model.proofs.Outcomes.{circle_has_none}
use Rattle.at_model.proofs.Spreading.{led_fault, next_valued}
use Rattle.at_model.proofs.of_machines.Bounded.{begun as begun_on, one_among, stays_on, answers_right}
use Rattle.at_model.proofs.of_formulas.PlainForms.{holds_on_all, holds_back_all, plain_value, plain_alone}
use Rattle.at_model.proofs.of_formulas.PlainAnswers.{value_on, comes_on, comes_off, comes_plain}
use Rattle.at_model.proofs.of_formulas.UniqueOutcomes.{once}
use Rattle.at_model.proofs.of_formulas.FaultsPlaced.{ValueAt, IsOwnOrDemanded, own_or_demanded, reaches_more}
use Rattle.at_model.proofs.of_searching.OneEach.{IsPushed, empty, push, pushed, level_waits, levels_push, under_waits, chain_under, under_chain, same_asked, no_level, unreversed, key_value, more_keys, new_key}

none_first : {A : Type 0} (Done : A → Type 0) (todo : List A) (a : A) (rest : List A) → todo ≡ [] →
    First Done todo a rest → ⊥
none_first Done _ _ _ e (this a rest n) = absurd cc
none_first Done _ _ _ e (passes a d f) = absurd cc

module _ {N : Type 0} (look : Contents N) (equation : Equations N) where
  -- each that waits leads to the last one
  walks_from : (w : Instance N) (ws : List (Instance N)) (i x : Instance N) → Walks look equation w ws i →
      Among x (w ∷ ws) → meaning.Leads look equation x i
  walks_from w ws i x all (inl e) = subst (λ z. meaning.Leads look equation z i) (sym e) (inr (ws, all))
  walks_from w [] i x all (inr n) = absurd n
  walks_from w (v ∷ vs) i x all (inr h) = walks_from v vs i x all.1 h

  chains_from : (ws : List (Instance N)) (i x : Instance N) → Chains look equation ws i → Among x ws →
      meaning.Leads look equation x i
  chains_from [] i x all h = absurd h
  chains_from (w ∷ ws) i x all h = walks_from w ws i x all h

  -- how the plain equation of an instance ends is its outcome
  value_ends : (i : Instance N) (v : Value N) → HasValue look (plain equation) i v →
      EndsSo look (plain equation) i (Made (Known v))
  value_ends i v (zero, x) = absurd x
  value_ends i v (suc n, (all, x)) = (n, x)

  fault_ends : (i : Instance N) (f : FaultKind) (at : Instance N) → Holds look (plain equation) i (Faults f at) →
      EndsSo look (plain equation) i (Spoilt f at)
  fault_ends i f at (zero, x) = absurd x
  fault_ends i f at (suc n, (all, again _ h x)) = absurd h
  fault_ends i f at (suc n, (all, formed _ g h y x)) =
      let (v, e) = plain_value look (HoldsAt look (plain equation) n) i (equation i) g y in
      let none : Meets (EndsAt look (plain equation) n) (i ∷ []) [] f at =
      subst (λ z. Meets (EndsAt look (plain equation) n) (i ∷ []) (atoms z ++ []) f at) e x in
      absurd (elim none [ ])
  fault_ends i f at (suc n, (all, spoilt _ h x)) = (n, x)

  ends_value : (i : Instance N) (v : Value N) → EndsSo look (plain equation) i (Made (Known v)) →
      HasValue look (plain equation) i v
  ends_value i v (n, x) = (
    suc n,
    (
      (λ j l. subst (λ z. (f : Formula N) × EndsAt look (plain equation) n z (Made f))
          (plain_alone look equation n i j l) (Known v, x)),
      x,
    ),
  )

  ends_fault : (i : Instance N) (f : FaultKind) (at : Instance N) → EndsSo look (plain equation) i (Spoilt f at) →
      Holds look (plain equation) i (Faults f at)
  ends_fault i f at (n, x) = (
    suc n,
    (
      (λ j l. subst (λ z. (e : End N (Formula N)) × EndsAt look (plain equation) n z e)
          (plain_alone look equation n i j l) (Spoilt f at, x)),
      spoilt i (λ h. h) x,
    ),
  )

-- what was told to a search is what was found, or is kept, or is of what is under way
record IsFair {N : Type 0} (known : Kept N) (u : UnderWay N) (told : List (Instance N × Outcome N)) : Type 0 where
  was_told : (i : Instance N) (v : Value N) → Among (i, v) u.found → (known i ≡ Some v) ⊎ Among (i, Finds v) told
  was_found : (i : Instance N) (v : Value N) → Among (i, Finds v) told → IsKnown known u.found i ⊎ Among i (chain u)

-- the search of a chain
abbrev search_of : {N : Type 0} → UnderWay N → List (Instance N) → List (Instance N × Outcome N) → Search N
search_of u ended told = record { last = begun u.last; below = levels_of u.waiting; ended = ended; told = told }

-- and how it goes on behind the last level's try, with these seen there
abbrev at_last : {N : Type 0} → UnderWay N → (ended seen : List (Instance N)) → List (Instance N × Outcome N) → Looked N
at_last u ended seen told = record {
  root = u.last;
  seen = seen;
  todo = [];
  below = levels_of u.waiting;
  ended = u.last ∷ ended;
  told = told;
}

module _ {N : Type 0} (look : Contents N) (equation : Equations N) (known kept : Kept N)
    (within : AreKept known kept) (q : Instance N) (u : UnderWay N) (on : IsOn look equation q u) where
  kept_too : (found : List (Instance N × Value N)) (j : Instance N) → IsKnown known found j → IsKnown kept found j
  kept_too found j (inl (v, e)) = inl (v, within j v e)
  kept_too found j (inr a) = inr a

  -- what is known to the chain is to the search
  valued : (told : List (Instance N × Outcome N)) → IsFair known u told → (j : Instance N) → IsKnown kept u.found j →
      IsValued kept told j
  valued told fair j (inl (v, e)) = (v, inl e)
  valued told fair j (inr h) =
      let (v, a) = key_value u.found j h in
      (v, elim (fair.was_told j v a) [ inl e ↦ inl (within j v e) | inr b ↦ inr b ])

  -- and what is known to the search is to the chain, or is under way
  known_or_under : (told : List (Instance N × Outcome N)) → IsFair known u told → (j : Instance N) →
      IsValued kept told j →
      IsKnown kept u.found j ⊎ Among j (chain u)
  known_or_under told fair j (v, inl e) = inl (inl (v, e))
  known_or_under told fair j (v, inr a) =
      elim (fair.was_found j v a) [ inl k ↦ inl (kept_too u.found j k) | inr c ↦ inr c ]

  -- what the last one comes to under way has no outcome
  circle_none : (j : Instance N) → meaning.Comes look equation u.last j → Among j (chain u) →
      HasNone look (plain equation) j
  circle_none j c a o h =
      let (n, e) = holds_back_all look equation j o h in
      circle_has_none look equation q j (answers_right look equation q u on kept u (Circle j) (way.closes j c a)) n
      (o, e)

  -- what is known has a value
  known_value : Right look equation kept → (j : Instance N) → IsKnown kept u.found j →
      (v : Value N) × HasValue look (plain equation) j v
  known_value right j (inl (v, e)) = (v, value_on look equation j v (right j v e))
  known_value right j (inr a) =
      let (v, b) = key_value u.found j a in
      (v, value_on look equation j v (on.holds j v b))

  -- where all to which the last one comes is known, its fault is its own
  own_fault : Right look equation kept → (ended : List (Instance N)) →
      ((j : Instance N) → Among j ended → IsKnown known u.found j) → (told : List (Instance N × Outcome N)) →
      IsFair known u told → (f : FaultKind) (at : Instance N) → meaning.Holds look equation u.last (Faults f at) →
      ((j : Instance N) → meaning.Comes look equation u.last j → IsValued kept told j ⊎ Among j ended) → at ≡ u.last
  own_fault right ended spent told fair f at h followed =
      let (n, x) = fault_ends look equation u.last f at (holds_on_all look equation u.last (Faults f at) h) in
      by n (own_or_demanded look (plain equation) at f n u.last ((plain equation).formula u.last) x)
    where
      known_or_circle : (j : Instance N) → meaning.Comes look equation u.last j →
          IsKnown kept u.found j ⊎ Among j (chain u)
      known_or_circle j c = elim (followed j c) [
        | inl k ↦ known_or_under told fair j k
        | inr a ↦ inl (kept_too u.found j (spent j a))
      ]

      off : (j : Instance N) → meaning.Comes look equation u.last j → Holds look (plain equation) j (Faults f at) →
          IsKnown kept u.found j ⊎ Among j (chain u) → ⊥
      off j c h (inl k) =
          let (v, g) = known_value right j k in
          let same : Finds v ≡ Faults f at = once look (plain equation) j (Finds v) (Faults f at) g h in absurd cc
      off j c h (inr a) = circle_none j c a (Faults f at) h

      by : (n : ℕ) → IsOwnOrDemanded look (plain equation) at f n u.last ((plain equation).formula u.last) → at ≡ u.last
      by n (inl (here, x)) = sym here
      by n (inr (j, r, g)) =
          let c = comes_off look equation u.last j
          (inl (reaches_more look (ValueAt look (plain equation) n) (HasValue look (plain equation)) (λ k v y. (n, y))
          ((plain equation).formula u.last) j r)) in
          absurd (off j c (n, g) (known_or_circle j c))

  -- more may be told of what is under way
  fair_more : (told more : List (Instance N × Outcome N)) (these : List (Instance N)) →
      ((j : Instance N) → Among j these → Among j (chain u)) → Adds look (plain equation) these told more →
      IsFair known u told → IsFair known u more
  fair_more told more these those adds fair = record {
    was_told = λ i v a. elim (fair.was_told i v a) [ inl e ↦ inl e | inr b ↦ inr (adds.stays i (Finds v) b) ];
    was_found = λ i v a. elim (adds.holds i (Finds v) a) [ inl b ↦ fair.was_found i v b | inr b ↦ inr (those i b.0) ];
  }

  one_told : (told : List (Instance N × Outcome N)) (v : Value N) → HasValue look (plain equation) u.last v →
      (these : List (Instance N)) → Among u.last these →
      Adds look (plain equation) these told ((u.last, Finds v) ∷ told)
  one_told told v has these a = record {
    stays = λ j o b. inr b;
    holds = λ j o b. elim b [
      | inl s ↦ inr (
        subst (λ (z : Instance N × Outcome N). Among z.0 these) (sym s) a,
        subst (λ (z : Instance N × Outcome N). Holds look (plain equation) z.0 z.1) (sym s) has,
      )
      | inr c ↦ inl c
    ];
  }

  -- the last level is gone, with its value
  risen : (ended : List (Instance N)) (told more : List (Instance N × Outcome N)) (l : Level N) (ls : List (Level N))
      (rest : List (Instance N)) (i : Instance N) (v : Value N) (found : List (Instance N × Value N)) →
      IsFair known u told → ((j : Instance N) → Among j ended → IsKnown known u.found j) → u.waiting ≡ rest ++ i ∷ [] →
      IsOneMore (u.last, v) u.found found → l ≡ begun i → ls ≡ levels_of rest → Among (u.last, Finds v) more →
      ((j : Instance N) (o : Outcome N) → Among (j, o) told → Among (j, o) more) →
      ((j : Instance N) (o : Outcome N) → Among (j, o) more → Among (j, o) told ⊎ (j ≡ u.last)) →
      IsSearchOf known (higher rest i found) (record { last = l; below = ls; ended = u.last ∷ ended; told = more })
  risen ended told more l ls rest i v found fair spent e one top low is stays new = record {
    last = top;
    below = low;
    found = λ j w a. elim (one_among (u.last, v) u.found found one (j, w) a) [
      | inl b ↦ (elim (fair.was_told j w b) [ inl k ↦ inl k | inr t ↦ inr (stays j (Finds w) t) ])
      | inr s ↦ inr (subst (λ (z : Instance N × Value N). Among (z.0, Finds z.1) more) (sym s) is)
    ];
    told = λ j w a. elim (new j (Finds w) a) [
      | inl b ↦ (elim (fair.was_found j w b) [ inl k ↦ inl (grows j k) | inr c ↦ under j c ])
      | inr s ↦ inl (itself j s)
    ];
    ended = λ j a. elim a [ inl s ↦ itself j s | inr b ↦ grows j (spent j b) ];
  }
    where
      grows : (j : Instance N) → IsKnown known u.found j → IsKnown known found j
      grows j (inl k) = inl k
      grows j (inr a) = inr (more_keys (u.last, v) u.found found one j a)

      itself : (j : Instance N) → j ≡ u.last → IsKnown known found j
      itself j s = inr (subst (λ z. Among z (keys found)) (sym s) (new_key (u.last, v) u.found found one))

      under : (j : Instance N) → Among j (chain u) → IsKnown known found j ⊎ Among j (rest ++ i ∷ [])
      under j c = elim (among_push (rest ++ i ∷ []) j u.last (subst (λ ws. Among j (ws ++ u.last ∷ [])) e c)) [
        | inl a ↦ inr a
        | inr s ↦ inl (itself j s)
      ]

  module _ (ended : List (Instance N)) (spent : (j : Instance N) → Among j ended → IsKnown known u.found j) where
    abbrev Follower : List (Instance N × Outcome N) → Option (Answer N) → UnderWay N → Type 0
    Follower told o new =
        (t : Search N) × search.Turned look (plain equation) kept (search_of u ended told) t o × IsSearchOf known new
        t

    here : (told : List (Instance N × Outcome N)) → IsFair known u told → IsSearchOf known u (search_of u ended told)
    here told fair = record { last = refl; below = refl; found = fair.was_told; told = fair.was_found; ended = spent }

    -- all below the last one have its fault, and so it is the question's
    falls : (f : FaultKind) (at : Instance N) (xs : List (Instance N)) (root : Instance N)
        (seen gone : List (Instance N))
        (told : List (Instance N × Outcome N)) → Holds look (plain equation) root (Faults f at) →
        ((x : Instance N) → Among x xs → Holds look (plain equation) x (Faults f at)) → (new : Search N) →
        Follows look (plain equation) kept
        (record { root = root; seen = seen; todo = []; below = map begun xs; ended = gone; told = told }) new
        (Some (Outcomes (Faults f at)))
    falls f at [] root seen gone told h all new = search.has_failed new f at (λ a x. absurd x) refl h
    falls f at (x ∷ xs) root seen gone told h all new =
        search.faults {s = record
        { root = root; seen = seen; todo = []; below = begun x ∷ map begun xs; ended = gone; told = told }}
        (begun x) (map begun xs) f at (λ a y. absurd y) refl h
        (falls f at xs x (x ∷ []) (x ∷ gone) ((root, Faults f at) ∷ told) (all x (inl refl)) (λ y a. all y (inr a)) new)

    ready : (told : List (Instance N × Outcome N)) → IsFair known u told →
        ((j : Instance N) → meaning.Comes look equation u.last j → IsKnown kept u.found j) →
        IsReady look (plain equation) kept (at_last u ended (u.last ∷ []) told)
    ready told fair all i j (inl e) c =
        inr (valued told fair j
        (all j (comes_off look equation u.last j (subst (λ z. Comes look (plain equation) z j) e c))))
    ready told fair all i j (inr n) c = absurd n

    deepened : (told : List (Instance N × Outcome N)) → IsFair known u told → (j : Instance N) →
        IsSearchOf known (deeper u j)
        (record { last = begun j; below = begun u.last ∷ levels_of u.waiting; ended = ended; told = told })
    deepened told fair j = record {
      last = refl;
      below = sym (levels_push u.waiting u.last);
      found = fair.was_told;
      told = λ i v a. elim (fair.was_found i v a) [ inl k ↦ inl k | inr c ↦ inr (among_left i (chain u) (j ∷ []) c) ];
      ended = spent;
    }

    rises : (told : List (Instance N × Outcome N)) → IsFair known u told → (rest : List (Instance N)) (i : Instance N)
        (v : Value N) → HasValue look (plain equation) u.last v → levels_of u.waiting ≡ begun i ∷ levels_of rest →
        way.IsReady look equation kept u.found u.last v →
        search.Turned look (plain equation) kept (search_of u ended told)
        (record { last = begun i; below = levels_of rest; ended = u.last ∷ ended; told = (u.last, Finds v) ∷ told })
        None
    rises told fair rest i v has low (inl e) =
        search.settles ((u.last, Finds v) ∷ told)
        (one_told told v has (under (begun u.last ∷ levels_of u.waiting)) (inl refl))
        (search.passed v e (search.finds (begun i) (levels_of rest) v ((u.last, Finds v) ∷ told) (λ a x. absurd x) low
        has
        (λ a b x. absurd x) (record { stays = λ j o a. a; holds = λ j o a. inl a }) (inl refl)))
    rises told fair rest i v has low (inr all) =
        search.ends (Made (Known v)) (value_ends look equation u.last v has)
        (search.finds (begun i) (levels_of rest) v ((u.last, Finds v) ∷ told) (λ a x. absurd x) low has
        (ready told fair all)
        (one_told told v has (u.last ∷ []) (inl refl)) (inl refl))

    -- a turn of the chain is one of the search
    searched : (told : List (Instance N × Outcome N)) → IsFair known u told →
        (new : UnderWay N) (o : Option (Answer N)) →
        Turned look equation kept u new o → Follower told o new
    searched told fair _ _ (way.is_kept v e h) = (
      search_of u ended told,
      search.is_kept v (subst (λ z. kept z ≡ Some v) (sym (same_asked u.waiting u.last)) e)
          (subst (λ z. HasValue look (plain equation) z v) (sym (same_asked u.waiting u.last))
          (value_on look equation (way.asked u) v h)),
      here told fair,
    )
    searched told fair _ _ (way.finds v none h (inl e)) =
        let alone : root_of u.last (levels_of u.waiting) ≡ u.last =
        same_asked u.waiting u.last ∙ ap (λ ws. get_or ws 0 u.last) none in (
          search_of u ended told,
          search.is_kept v (subst (λ z. kept z ≡ Some v) (sym alone) e)
              (subst (λ z. HasValue look (plain equation) z v) (sym alone) (value_on look equation u.last v h)),
          here told fair,
        )
    searched told fair _ _ (way.finds v none h (inr all)) = (
      search_of u ended told,
      search.ends (Made (Known v)) (value_ends look equation u.last v (value_on look equation u.last v h))
          (search.has_found (search_of u ended told) v (λ a x. absurd x) (ap levels_of none)
          (value_on look equation u.last v h)
          (ready told fair all)),
      here told fair,
    )
    searched told fair _ _ (way.faults f h) =
        let has : Holds look (plain equation) u.last (Faults f u.last) =
        holds_on_all look equation u.last (Faults f u.last) h in (
          search_of u ended told,
          search.ends (Spoilt f u.last) (fault_ends look equation u.last f u.last has)
              (falls f u.last (reverse u.waiting) u.last (u.last ∷ []) (u.last ∷ ended) told has
              (λ x a. holds_on_all look equation x (Faults f u.last) (led_fault look equation x u.last f u.last
              (chains_from look equation u.waiting u.last x on.chains (unreversed x u.waiting a)) h))
              (search_of u ended told)),
          here told fair,
        )
    searched told fair _ _ (way.closes j c a) = (
      search_of u ended told,
      search.closes j (comes_plain look equation u.last j (comes_on look equation u.last j c))
          (chain_under u.waiting u.last j a, circle_none j c a),
      here told fair,
    )
    searched told fair _ _ (way.deepens j c apart unknown) = (
      record { last = begun j; below = begun u.last ∷ levels_of u.waiting; ended = ended; told = told },
      search.deepens j (comes_plain look equation u.last j (comes_on look equation u.last j c))
          (λ a. apart (under_chain u.waiting u.last j a))
          (λ k. elim (known_or_under told fair j k) [ inl s ↦ unknown s | inr a ↦ apart a ])
          (λ a. unknown (kept_too u.found j (spent j a))),
      deepened told fair j,
    )
    searched told fair _ _ (way.ascends rest i v found e h r one) =
        let more = (u.last, Finds v) ∷ told in
        let has = value_on look equation u.last v h in
        let low : levels_of u.waiting ≡ begun i ∷ levels_of rest = ap levels_of e ∙ levels_push rest i in (
          record { last = begun i; below = levels_of rest; ended = u.last ∷ ended; told = more },
          rises told fair rest i v has low r,
          risen ended told more (begun i) (levels_of rest) rest i v found fair spent e one refl refl (inl refl)
              (λ j o a. inr a)
              (λ j o a. elim a [ inl s ↦ inr (ap (λ (z : Instance N × Outcome N). z.0) s) | inr b ↦ inl b ]),
        )

  -- the other way round
  module _ (right : Right look equation kept) (ended : List (Instance N))
      (spent : (j : Instance N) → Among j ended → IsKnown known u.found j) where
    abbrev Chained : Search N → Option (Answer N) → Type 0
    Chained t o = (new : UnderWay N) × Turned look equation kept u new o × IfNone o (IsSearchOf known new t)

    -- what a search has told of the last level is ready in the chain
    ready_in : (told : List (Instance N × Outcome N)) → IsFair known u told → (v : Value N) →
        HasValue look (plain equation) u.last v →
        IsReady look (plain equation) kept (at_last u ended (u.last ∷ []) told) →
        way.IsReady look equation kept u.found u.last v
    ready_in told fair v has all = inr (λ j c. by j c (all u.last j (inl refl) (comes_on look equation u.last j c)))
      where
        off : (j : Instance N) → meaning.Comes look equation u.last j → Among j (chain u) → ⊥
        off j c a =
            let (w, h) = next_valued look equation u.last j v (holds_back_all look equation u.last (Finds v) has) c in
            circle_none j c a (Finds w) (value_on look equation j w h)

        by : (j : Instance N) → meaning.Comes look equation u.last j →
            IsPassed kept (at_last u ended (u.last ∷ []) told) j →
            IsKnown kept u.found j
        by j c (inl (inl e)) = absurd (off j c (subst (λ z. Among z (chain u)) (sym e) (among_last u.waiting u.last)))
        by j c (inl (inr n)) = absurd n
        by j c (inr k) = elim (known_or_under told fair j k) [ inl s ↦ s | inr a ↦ absurd (off j c a) ]

    -- the level below the last one
    below_last : (l : Level N) (ls : List (Level N)) (ws : List (Instance N)) → levels_of ws ≡ l ∷ ls →
        (rest : List (Instance N)) × (i : Instance N) × (ws ≡ rest ++ i ∷ []) × (l ≡ begun i) × (ls ≡ levels_of rest)
    below_last l ls ws e = by ws (pushed ws) e
      where
        by : (ws : List (Instance N)) → IsPushed ws → levels_of ws ≡ l ∷ ls →
            (rest : List (Instance N)) × (i : Instance N) × (ws ≡ rest ++ i ∷ []) × (l ≡ begun i) ×
            (ls ≡ levels_of rest)
        by _ empty e = absurd cc
        by _ (push rest i) e =
            let f : begun i ∷ levels_of rest ≡ l ∷ ls = sym (levels_push rest i) ∙ e in
            let one : begun i ≡ l = cc in
            let more : levels_of rest ≡ ls = cc in
            (rest, i, refl, sym one, sym more)

    -- a search that follows a value of the last one is a turn of the chain
    followed : (seen : List (Instance N)) → ((j : Instance N) → Among j seen → j ≡ u.last) →
        (v : Value N) → HasValue look (plain equation) u.last v →
        ((told : List (Instance N × Outcome N)) → IsFair known u told →
        IsReady look (plain equation) kept (at_last u ended seen told) →
        way.IsReady look equation kept u.found u.last v) →
        (told : List (Instance N × Outcome N)) → IsFair known u told → (t : Search N) (o : Option (Answer N)) →
        Follows look (plain equation) kept (at_last u ended seen told) t o → Chained t o
    followed seen own v has rdy told fair _ _ (search.goes_to f s n) = absurd (elim f [ ])
    followed seen own v has rdy told fair t o (search.goes_over e f s n x y) = absurd (elim f [ ])
    followed seen own v has rdy told fair _ _ (search.comes_back f a s) = absurd (elim f [ ])
    followed seen own v has rdy told fair _ _ (search.has_found new w all none h r) =
        let same : Finds w ≡ Finds v = once look (plain equation) u.last (Finds w) (Finds v) h has in
        let same' : w ≡ v = cc in (
          u,
          subst (λ z. Turned look equation kept u u (Some (Outcomes (Finds z)))) (sym same')
              (way.finds v (no_level u.waiting none) (holds_back_all look equation u.last (Finds v) has)
              (rdy told fair r)),
          tt,
        )
    followed seen own v has rdy told fair _ _ (search.has_failed new f at all none h) =
        let off : Faults f at ≡ Finds v = once look (plain equation) u.last (Faults f at) (Finds v) h has in absurd cc
    followed seen own v has rdy told fair _ _ (search.finds l ls w more all low h r adds is) =
        let same : Finds w ≡ Finds v = once look (plain equation) u.last (Finds w) (Finds v) h has in
        let same' : w ≡ v = cc in
        let (rest, i, e, top, under) = below_last l ls u.waiting low in (
          higher rest i ((u.last, v) ∷ u.found),
          way.ascends rest i v ((u.last, v) ∷ u.found) e (holds_back_all look equation u.last (Finds v) has)
              (rdy told fair r)
              (between [] u.found),
          risen ended told more l ls rest i v ((u.last, v) ∷ u.found) fair spent e (between [] u.found) top under
              (subst (λ z. Among (u.last, Finds z) more) same' is) adds.stays
              (λ j o a. elim (adds.holds j o a) [ inl b ↦ inl b | inr b ↦ inr (own j b.0) ]),
        )
    followed seen own v has rdy told fair t o (search.faults l ls f at all low h x) =
        let off : Faults f at ≡ Finds v = once look (plain equation) u.last (Faults f at) (Finds v) h has in absurd cc
    followed seen own v has rdy told fair t o (search.tells more adds x) =
        followed seen own v has rdy more
        (fair_more told more (seen ++ under (levels_of u.waiting)) underway adds fair) t o x
      where
        underway : (j : Instance N) → Among j (seen ++ under (levels_of u.waiting)) → Among j (chain u)
        underway j a = elim (among_either seen (under (levels_of u.waiting)) j a) [
          | inl b ↦ subst (λ z. Among z (chain u)) (sym (own j b)) (among_last u.waiting u.last)
          | inr b ↦ among_left j u.waiting (u.last ∷ []) (under_waits u.waiting j b)
        ]

    -- the level has nothing to do, and the fault
    abbrev HasFailed : FaultKind → Instance N → Level N → Type 0
    HasFailed f at l = (l.todo ≡ []) × Holds look (plain equation) l.root (Faults f at)

    -- where all levels have one fault, that is answered
    answers_fault : (f : FaultKind) (at : Instance N) (r : Looked N) → r.todo ≡ [] →
        Holds look (plain equation) r.root (Faults f at) → ((l : Level N) → Among l r.below → HasFailed f at l) →
        (t : Search N) (o : Option (Answer N)) → Follows look (plain equation) kept r t o →
        o ≡ Some (Outcomes (Faults f at))
    answers_fault f at r done h all _ _ (search.goes_to x s n) = absurd (none_first (IsPassed kept r) r.todo _ _ done x)
    answers_fault f at r done h all t o (search.goes_over e x s n y z) =
        absurd (none_first (IsPassed kept r) r.todo _ _ done x)
    answers_fault f at r done h all _ _ (search.comes_back x a s) =
        absurd (none_first (IsPassed kept r) r.todo _ _ done x)
    answers_fault f at r done h all _ _ (search.has_found new w passed none g y) =
        let off : Finds w ≡ Faults f at = once look (plain equation) r.root (Finds w) (Faults f at) g h in absurd cc
    answers_fault f at r done h all _ _ (search.has_failed new k b passed none g) =
        let same : Faults k b ≡ Faults f at = once look (plain equation) r.root (Faults k b) (Faults f at) g h in
        ap (λ z. Some (Outcomes z)) same
    answers_fault f at r done h all _ _ (search.finds l ls w more passed low g y adds is) =
        let off : Finds w ≡ Faults f at = once look (plain equation) r.root (Finds w) (Faults f at) g h in absurd cc
    answers_fault f at r done h all t o (search.faults l ls k b passed low g x) =
        let here = all l (subst (Among l) (sym low) (inl refl)) in
        answers_fault f at (behind (fallen_to r l ls ((r.root, Faults k b) ∷ r.told)) (Spoilt k b)) here.0 here.1
        (λ m a. all m (subst (Among m) (sym low) (inr a))) t o x
    answers_fault f at r done h all t o (search.tells more adds x) =
        answers_fault f at (record r { told = more }) done h all t o x

    waits_failed : (f : FaultKind) (at : Instance N) → Holds look (plain equation) u.last (Faults f at) →
        (l : Level N) →
        Among l (levels_of u.waiting) → HasFailed f at l
    waits_failed f at has l a =
        let (x, b, e) = level_waits u.waiting l a in
        subst (HasFailed f at) (sym e) (
          refl,
          holds_on_all look equation x (Faults f at) (led_fault look equation x u.last f at
              (chains_from look equation u.waiting u.last x on.chains b)
              (holds_back_all look equation u.last (Faults f at) has)),
        )

    -- a turn of the search is one of the chain, where a fault that it answers is the last one's own
    chained : (told : List (Instance N × Outcome N)) → IsFair known u told → (t : Search N) (o : Option (Answer N)) →
        search.Turned look (plain equation) kept (search_of u ended told) t o → IsOwn u.last o → Chained t o
    chained told fair _ _ (search.is_kept v e h) own =
        let same = same_asked u.waiting u.last in (
          u,
          way.is_kept v (subst (λ z. kept z ≡ Some v) same e)
              (holds_back_all look equation (way.asked u) (Finds v)
              (subst (λ z. HasValue look (plain equation) z v) same h)),
          tt,
        )
    chained told fair t o (search.passed v e x) own =
        followed [] (λ j n. absurd n) v (value_on look equation u.last v (right u.last v e)) (λ more f r. inl e) told
        fair t o x
    chained told fair t o (search.ends (Made g) x f) own =
        let (v, s) = plain_value look (HoldsAt look (plain equation) x.0) u.last (equation u.last) g x.1 in
        let has = ends_value look equation u.last v (subst (λ z. EndsSo look (plain equation) u.last (Made z)) s x) in
        followed (u.last ∷ []) (λ j a. elim a [ inl e ↦ e | inr n ↦ absurd n ]) v has
        (λ more fair r. ready_in more fair v has r) told fair t o
        (subst (λ z. Follows look (plain equation) kept (behind (search_of u ended told) (Made z)) t o) s f)
    chained told fair t o (search.ends (Spoilt k at) x f) own =
        let has = ends_fault look equation u.last k at x in
        let said : o ≡ Some (Outcomes (Faults k at)) =
        answers_fault k at (behind (search_of u ended told) (Spoilt k at)) refl has (λ l a. waits_failed k at has l a)
        t o f in
        let here : at ≡ u.last = subst (IsOwn u.last) said own in
        let fails : way.Turned look equation kept u u (Some (Outcomes (Faults k u.last))) =
        way.faults k (holds_back_all look equation u.last (Faults k u.last)
        (subst (λ z. Holds look (plain equation) u.last (Faults k z)) here has)) in (
          u,
          subst (λ z. Turned look equation kept u u z) (sym said)
              (subst (λ z. Turned look equation kept u u (Some (Outcomes (Faults k z)))) (sym here) fails),
          subst (λ z. IfNone z (IsSearchOf known u t)) (sym said) tt,
        )
    chained told fair _ _ (search.closes j r a) own =
        (u, way.closes j (comes_off look equation u.last j (inl r)) (under_chain u.waiting u.last j a.0), tt)
    chained told fair _ _ (search.deepens j r off unknown unended) own = (
      deeper u j,
      way.deepens j (comes_off look equation u.last j (inl r)) (λ a. off (chain_under u.waiting u.last j a))
          (λ k. unknown (valued told fair j k)),
      deepened ended spent told fair j,
    )
    chained told fair t o (search.settles more adds x) own =
        chained more (fair_more told more (under (begun u.last ∷ levels_of u.waiting))
        (λ j a. under_chain u.waiting u.last j a) adds fair) t o x own

-- the search of a chain has its levels
is_search : {N : Type 0} (kept : Kept N) (u : UnderWay N) (s : Search N) → IsSearchOf kept u s →
    search_of u s.ended s.told ≡ s
is_search kept u s h = λ i. record { last = sym h.last i; below = sym h.below i; ended = s.ended; told = s.told }

fair_of : {N : Type 0} (kept : Kept N) (u : UnderWay N) (s : Search N) → IsSearchOf kept u s → IsFair kept u s.told
fair_of kept u s h = record { was_told = h.found; was_found = h.told }

pub begins : {N : Type 0} (kept : Kept N) (q : Instance N) → IsSearchOf kept (way.posted q) (search.posted q)
begins kept q = record
    { last = refl; below = refl; found = λ i v a. absurd a; told = λ i v a. absurd a; ended = λ i a. absurd a }

module _ {N : Type 0} (look : Contents N) (equation : Equations N) (known kept : Kept N) (within : AreKept known kept)
    (q : Instance N) (u : UnderWay N) (s : Search N) (on : IsOn look equation q u) (h : IsSearchOf known u s) where
  pub turn_of_search : (new : UnderWay N) (o : Option (Answer N)) → Turned look equation kept u new o →
      (t : Search N) × search.Turned look (plain equation) kept s t o × IsSearchOf known new t
  turn_of_search new o x =
      subst (λ z. (t : Search N) × search.Turned look (plain equation) kept z t o × IsSearchOf known new t)
      (is_search known u s h)
      (searched look equation known kept within q u on s.ended h.ended s.told (fair_of known u s h) new o x)

  pub turn_of_chain : Right look equation kept → (t : Search N) (o : Option (Answer N)) →
      search.Turned look (plain equation) kept s t o → IsOwn u.last o →
      (new : UnderWay N) × Turned look equation kept u new o × IfNone o (IsSearchOf known new t)
  turn_of_chain right t o x own =
      chained look equation known kept within q u on right s.ended h.ended s.told (fair_of known u s h) t o
      (subst (λ z. search.Turned look (plain equation) kept z t o) (sym (is_search known u s h)) x) own

  pub own_of_chain : Right look equation kept → (f : FaultKind) (at : Instance N) →
      meaning.Holds look equation u.last (Faults f at) →
      ((j : Instance N) → meaning.Comes look equation u.last j → IsValued kept s.told j ⊎ Among j s.ended) → at ≡ u.last
  own_of_chain right f at holds followed =
      own_fault look equation known kept within q u on right s.ended h.ended s.told (fair_of known u s h) f at holds
      followed

-- so each search that turns lead to is that of a chain
pub turns_of_chain : {N : Type 0} (look : Contents N) (equation : Equations N) (n : ℕ) (q : Instance N)
    (s t : Search N) →
    search.Silent look (plain equation) n s t → s ≡ search.posted q →
    (u : UnderWay N) × way.Silent look equation n (way.posted q) u × IsOn look equation q u × IsSearchOf (λ i. None) u t
turns_of_chain look equation _ q _ _ (search.none s) e = (
  way.posted q,
  way.none (way.posted q),
  begun_on look equation q,
  subst (IsSearchOf (λ i. None) (way.posted q)) (sym e) (begins (λ i. None) q),
)
turns_of_chain look equation _ q s t (search.one_more {n = n} {mid = mid} kept right before turned) e =
    let (u, turns, on, is) = turns_of_chain look equation n q s mid before e in
    let holds : Right look equation kept = λ i v k. holds_back_all look equation i (Finds v) (right i v k) in
    let (new, turn, is_new) =
    turn_of_chain look equation (λ i. None) kept (λ i v none. absurd cc) q u mid on is holds t None turned tt in
    (new, way.one_more kept turns turn, stays_on look equation q u on kept new None turn, is_new)
