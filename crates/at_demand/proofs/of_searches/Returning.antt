-- A search that looks at what is under way below comes back: that is wanted by itself, and has no outcome.
use Rattle.std.proofs.Common.{◌≡◌, ◌⊎◌, ℕ, List, [], ◌∷◌, ◌++◌, map, reverse, Some, None, inl, inr, refl, sym, ap, ◌∙◌, subst}
use Rattle.std.specs.Prelude.{IsSome}
use Rattle.std.specs.Map.{keys_of, lookup}
use Rattle.at_model.proofs.of_searching.Strictly.{stuck_none}
use Rattle.at_model.specs.Meaning.{Among, Circle}
use Rattle.at_model.specs.Rules.{Rules}
use Rattle.at_model.specs.Run.{Instance}
use Rattle.at_model.specs.of_fixpoints.Circles.{HasNone, IsOpen}
use Rattle.at_model.specs.of_fixpoints.Fixpoints.{End, EndsSo, LeadsOver}
use Rattle.at_model.specs.of_fixpoints.Formulas.{Formula}
use Rattle.at_model.specs.of_fixpoints.Searched.{IsMade, LeadsToNext, tried_at}
use Rattle.at_model.specs.of_fixpoints.Searching.{First, Follows, IsPassed, IsStuck, Level, Looked, gone_to, this, under}
use Rattle.at_model.specs.of_fixpoints.Searching as follows
use Rattle.at_model.proofs.Reached.{back_among, either_among}
use Rattle.at_store.specs.Shown.{Shown, contents}
use Rattle.at_body.specs.Same.{same_instance}
use Rattle.at_cache.specs.Kept.{Entries}
use Rattle.at_search.specs.Recorded.{IsMarked, Recorded}
use Rattle.at_search.proofs.Seeing.{among_reverse, reverse_among}
use Rattle.at_demand.specs.declared.question.Question.{Question}
use Rattle.at_evaluate.specs.Valued.{kept_values, meaning}
use Rattle.at_demand.specs.Levels.{LevelCode, fault_in, known_to, level_of, levels_of, seen_in, todo_in}
use Rattle.at_demand.specs.Searches.{IsTried, IsUnderWay, StandsBetween}
use Rattle.at_evaluate.proofs.Entered.{is_there, not_none}
use Rattle.at_demand.proofs.Extending.{map_among}
use Rattle.at_demand.proofs.Recalling.{known_kept}
use Rattle.at_demand.proofs.of_searches.Circling.{IsOrdered, comes_back, tried_next, under_way}

abbrev pub with_level : LevelCode → Instance ℕ → Instance ℕ × LevelCode
with_level d i = (i, d)

-- one that waits is tried at its level
waits_at : (ws : List (Instance ℕ × LevelCode)) (i : Instance ℕ) → Among i (keys_of ws) → (d : LevelCode) × Among (i, d) ws
waits_at [] i h = absurd h
waits_at ((k, d) ∷ es) i (inl s) = (d, inl (ap (with_level d) s))
waits_at ((k, b) ∷ es) i (inr h) = let (d, a) = waits_at es i h in (d, inr a)

map_in : {A B : Type 0} (f : A → B) (xs : List A) (a : A) → Among a xs → Among (f a) (map f xs)
map_in f [] a h = absurd h
map_in f (x ∷ xs) a (inl e) = inl (ap f e)
map_in f (x ∷ xs) a (inr h) = inr (map_in f xs a h)

next_tried : (ls : List (Level ℕ)) (l : Level ℕ) → Among l ls → Among l.next (tried_at ls)
next_tried [] l h = absurd h
next_tried (d ∷ ds) l (inl e) = inl (ap (λ (x : Level ℕ). x.next) e)
next_tried (d ∷ ds) l (inr h) = inr (next_tried ds l h)

pub tried_under : (ls : List (Level ℕ)) (i : Instance ℕ) → Among i (tried_at ls) → Among i (under ls)
tried_under [] i h = absurd h
tried_under (d ∷ ds) i (inl e) = inl e
tried_under (d ∷ ds) i (inr h) = inr (back_among i d.seen (under ds) (tried_under ds i h))

abbrev level_at : Instance ℕ × LevelCode → Level ℕ
level_at e = level_of e.0 e.1

pub level_among : (ws : List (Instance ℕ × LevelCode)) (i : Instance ℕ) (d : LevelCode) → Among (i, d) ws → Among
    (level_of i d) (levels_of ws)
level_among ws i d a = map_in level_at (reverse ws) (i, d) (among_reverse ws (i, d) a)

pub waits_tried : (ws : List (Instance ℕ × LevelCode)) (i : Instance ℕ) → Among i (keys_of ws) → Among i (tried_at (levels_of ws))
waits_tried ws i h =
    let (d, a) = waits_at ws i h in
    next_tried (levels_of ws) (level_of i d) (map_in level_at (reverse ws) (i, d) (among_reverse ws (i, d) a))

module _ (rules : Rules) (s : Shown) (entries : Entries) (q : Question) (m : Looked ℕ) (st : StandsBetween rules s entries q m) (c : Instance ℕ)
    (rest : List (Instance ℕ)) (todo : m.todo ≡ c ∷ rest) (unseen : Among c m.seen → ⊥) (unknown : known_to entries q c ≡ None) where
  level_ordered : (i : Instance ℕ) (d : LevelCode) → Among (i, d) q.waiting.entries →
      IsOrdered (known_to entries q) q.ended.entries (seen_in d) (i ∷ todo_in d)
  level_ordered i d h = let x = st.below i d h in (x.covered.order, λ j a none. recorded j (x.covered.ends j a) none)
    where
      recorded : (j : Instance ℕ) → ((e : End ℕ (Formula ℕ)) × Recorded q.ended.entries j e × (fault_in d ≡ None → IsMade e)) → lookup (same_instance j) q.ended.entries ≡ None → ⊥
      recorded j (e, (x, at, is), g) none = let f : None ≡ Some x = sym none ∙ at in absurd cc

  ordered : (l : Level ℕ) → Among l m.below → IsOrdered (known_to entries q) q.ended.entries l.seen (l.next ∷ l.todo)
  ordered l h = of_pair (map_among level_at l (reverse q.waiting.entries) (subst (λ ls. Among l ls) st.is.below h))
    where
      of_pair : ((e : Instance ℕ × LevelCode) × Among e (reverse q.waiting.entries) × (level_at e ≡ l)) →
          IsOrdered (known_to entries q) q.ended.entries l.seen (l.next ∷ l.todo)
      of_pair ((i, d), a, e) = subst (λ (z : Level ℕ). IsOrdered (known_to entries q) q.ended.entries z.seen (z.next ∷ z.todo)) e
          (level_ordered i d (reverse_among q.waiting.entries (i, d) a))

  -- it isn't the one that was tried
  not_last : c ≡ q.inst → ⊥
  not_last e = elim st.tried [
    | inl a ↦ unseen (subst (λ i. Among i m.seen) (sym e) a)
    | inr k ↦ not_none (known_to entries q c) (subst (λ i. IsSome (known_to entries q i)) (sym e) k) unknown
  ]

  -- it is under way below, and leads to the next one of a level
  abbrev ComesBack : Type 0
  ComesBack = Among c (under m.below) × LeadsToNext (contents s) (meaning rules) m.below c

  of_tried : IsTried q c → ComesBack
  of_tried h = elim (either_among c (keys_of q.waiting.entries) (q.inst ∷ []) h) [
    | inl a ↦
        let b : Among c (tried_at m.below) = subst (λ ls. Among c (tried_at ls)) (sym st.is.below) (waits_tried q.waiting.entries c a) in
        (tried_under m.below c b, tried_next (contents s) (meaning rules) m.below c b)
    | inr b ↦ elim b [ inl e ↦ absurd (not_last e) | inr u ↦ absurd u ]
  ]

  of_under_way : IsUnderWay entries q c → ComesBack
  of_under_way (key, unmarked, out) =
      let b = below (st.can.whole.placed c key) in (
        b,
        under_way (known_to entries q) q.ended.entries (contents s) (meaning rules) st.can.facts.ends m.below ordered c out.to out.led out.unsettled
            out.unrecorded b,
      )
    where
      below : (IsSome (known_to entries q c) ⊎ (IsMarked q.ended.entries c ⊎ Among c (q.inst ∷ (seen_in q.level ++ under (levels_of q.waiting.entries))))) →
          Among c (under m.below)
      below (inl k) = absurd (not_none (known_to entries q c) k unknown)
      below (inr (inl k)) = absurd (unmarked k)
      below (inr (inr (inl e))) = absurd (not_last e)
      below (inr (inr (inr h))) = elim (either_among c (seen_in q.level) (under (levels_of q.waiting.entries)) h) [
        | inl a ↦ absurd (unseen (subst (λ is. Among c is) (sym st.is.seen) a))
        | inr a ↦ subst (λ ls. Among c (under ls)) (sym st.is.below) a
      ]

  of_either : IsTried q c ⊎ IsUnderWay entries q c → ComesBack
  of_either (inl t) = of_tried t
  of_either (inr w) = of_under_way w

  not_passed : IsPassed (kept_values entries) m c → ⊥
  not_passed (inl a) = unseen a
  not_passed (inr (v, inl k)) =
      not_none (known_to entries q c) (is_there (known_to entries q c) v (known_kept entries q.found.entries c v v (sym k) refl)) unknown
  not_passed (inr (v, inr t)) = not_none (known_to entries q c) (is_there (known_to entries q c) v (st.is.told c v t)) unknown

  -- it has no outcome, and is under way
  pub is_open : IsTried q c ⊎ IsUnderWay entries q c → IsOpen (contents s) (meaning rules) (under m.below) c
  is_open h =
      let (a, n) = of_either h in
      (a, (comes_back (contents s) (meaning rules) m.root m.below c st.stacked led n).1)
    where
      led : LeadsOver (EndsSo (contents s) (meaning rules)) m.root c
      led = st.come.led c (back_among c m.seen m.todo (subst (λ ts. Among c ts) (sym todo) (inl refl)))

  -- it wants what has none, so the root of the level has none
  pub is_stuck : IsTried q c ⊎ IsUnderWay entries q c → IsStuck (contents s) (meaning rules) c × HasNone (contents s)
      (meaning rules) m.root
  is_stuck h =
      let (a, n) = of_either h in
      let stuck = (comes_back (contents s) (meaning rules) m.root m.below c st.stacked led n).0 in
      (stuck, stuck_none (contents s) (meaning rules) m.root c led stuck)
    where
      led : LeadsOver (EndsSo (contents s) (meaning rules)) m.root c
      led = st.come.led c (back_among c m.seen m.todo (subst (λ ts. Among c ts) (sym todo) (inl refl)))

  -- and that closes the circle
  pub goes_back : IsTried q c ⊎ IsUnderWay entries q c →
      Follows (contents s) (meaning rules) (kept_values entries) m (gone_to m c rest) (Some (Circle c))
  goes_back h =
      let (a, n) = of_either h in
      follows.comes_back (subst (λ ts. First (IsPassed (kept_values entries) m) ts c rest) (sym todo) (this c rest not_passed)) a
      ((comes_back (contents s) (meaning rules) m.root m.below c st.stacked led n).0)
    where
      led : LeadsOver (EndsSo (contents s) (meaning rules)) m.root c
      led = st.come.led c (back_among c m.seen m.todo (subst (λ ts. Among c ts) (sym todo) (inl refl)))
