-- What the search for a question looks at, where levels stand one over the other.
use Rattle.std.proofs.Common.{◌⊎◌, List, [], ◌∷◌, inl, inr, refl, sym, subst}
use Rattle.at_model.specs.Run.{Instance, Contents}
use Rattle.at_model.specs.Meaning.{Among}
use Rattle.at_model.proofs.Reached.{front_among, back_among, either_among}
use Rattle.at_model.specs.of_fixpoints.Formulas.{Forms}
use Rattle.at_model.specs.of_fixpoints.Circles.{HasNone}
use Rattle.at_model.specs.of_fixpoints.Searching.{Level, root_of, under}
use Rattle.at_model.specs.of_fixpoints.Searched.{AreStacked}
use Rattle.at_model.specs.of_fixpoints.Met.{LooksAt, here, deeper, IsLookedAt, HaveLookedAt}
use Rattle.at_model.proofs.of_searching.Strictly.{wants_none}
use Rattle.at_model.proofs.of_searching.LookedAt.{wanting_on}

module _ {N : Type 0} (look : Contents N) (forms : Forms N) (Told : Instance N → Type 0) where
  -- where what a level demands has no outcome, the level that demands it has none either
  root_none : (root : Instance N) (l : Level N) (ls : List (Level N)) → AreStacked look forms root (l ∷ ls) → HasNone look forms root →
      HasNone look forms l.root
  root_none root l ls (demands, off, (come, fresh, shut), rest) none =
      wants_none look forms l.root root
      (record { by = l.next; led = come.led l.next (back_among l.next l.seen (l.next ∷ l.todo) (inl refl)); demands = demands }) none

  -- what the last level looks at, the search for the question does
  pub looked_down : (root : Instance N) (ls : List (Level N)) → AreStacked look forms root ls → HasNone look forms root →
      HaveLookedAt look forms Told ls → (x : Instance N) → LooksAt look forms (under ls) [] (root ∷ []) x →
      Told x ⊎ IsLookedAt look forms (root_of root ls) x
  looked_down root [] s none h x l = inr l
  looked_down root (b ∷ ls) (demands, off, (come, fresh, shut), rest) none (h, hs) x l =
      elim (h.looks x (deeper b.next root shut fresh (demands, none) off l)) [
        | inl t ↦ inl t
        | inr m ↦ looked_down b.root ls rest (root_none root b ls (demands, off, (come, fresh, shut), rest) none) hs x m
      ]

  -- so it does at all that is under way
  pub under_looked : (root : Instance N) (ls : List (Level N)) → AreStacked look forms root ls → HasNone look forms root →
      HaveLookedAt look forms Told ls → (x : Instance N) → Among x (under ls) → Told x ⊎ IsLookedAt look forms (root_of root ls) x
  under_looked root [] s none h x a = absurd a
  under_looked root (b ∷ ls) (demands, off, at, rest) none (h, hs) x a = elim a [
    | inl e ↦ on (h.looks x (subst (λ z. LooksAt look forms (under ls) b.seen (b.next ∷ b.todo) z) (sym e) (here b.next)))
    | inr c ↦ elim (either_among x b.seen (under ls) c) [
      | inl d ↦ on (h.looked x d)
      | inr d ↦ under_looked b.root ls rest lost hs x d
    ]
  ]
    where
      lost : HasNone look forms b.root
      lost = root_none root b ls (demands, off, at, rest) none

      on : Told x ⊎ LooksAt look forms (under ls) [] (b.root ∷ []) x → Told x ⊎ IsLookedAt look forms (root_of b.root ls) x
      on (inl t) = inl t
      on (inr m) = looked_down b.root ls rest lost hs x m

  -- and beside that at what the last level looks at, and at what was told, and at no more
  pub looked_only : (root : Instance N) (ls : List (Level N)) → AreStacked look forms root ls → HasNone look forms root →
      HaveLookedAt look forms Told ls → (x : Instance N) → IsLookedAt look forms (root_of root ls) x →
      Told x ⊎ (Among x (under ls) ⊎ LooksAt look forms (under ls) [] (root ∷ []) x)
  looked_only root [] s none h x l = inr (inr l)
  looked_only root (b ∷ ls) (demands, off, (come, fresh, shut), rest) none (h, hs) x l =
      elim (looked_only b.root ls rest (root_none root b ls (demands, off, (come, fresh, shut), rest) none) hs x l) [
        | inl t ↦ inl t
        | inr u ↦ elim u [
          | inl a ↦ inr (inl (inr (back_among x b.seen (under ls) a)))
          | inr m ↦ elim (h.only x m) [
            | inl t ↦ inl t
            | inr v ↦ elim v [
              | inl a ↦ inr (inl (inr (front_among x b.seen (under ls) a)))
              | inr n ↦ elim (wanting_on look forms (under ls) b.seen b.todo b.next x root (demands, none) fresh n) [
                | inl e ↦ inr (inl (inl e))
                | inr o ↦ inr (inr o)
              ]
            ]
          ]
        ]
      ]
