-- What leads to the next one of a level that waits, and is wanted above it, has no outcome: there a search comes back.
use Rattle.std.proofs.Common.{List, [], ◌∷◌, inl, refl}
use Rattle.at_model.specs.Run.{Instance, Contents}
use Rattle.at_model.specs.Meaning.{Reaches}
use Rattle.at_model.proofs.Reached.{back_among}
use Rattle.at_model.specs.of_fixpoints.Formulas.{Forms}
use Rattle.at_model.specs.of_fixpoints.Fixpoints.{LeadsOver, stays, goes, EndsSo, HasValue}
use Rattle.at_model.specs.of_fixpoints.Circles.{HasNone}
use Rattle.at_model.specs.of_fixpoints.Searching.{Level, Wants, IsStuck}
use Rattle.at_model.specs.of_fixpoints.Searched.{Within, AreStacked, LeadsToNext, here, below}
use Rattle.at_model.proofs.of_formulas.UniqueOutcomes.{Ending}
use Rattle.at_model.proofs.of_searching.Strictly.{WantsOn, wants, and_on, wants_none, none_on_circle, led_over}

-- what leads within some of them leads
pub led_beyond : {N : Type 0} (E : Ending N) (seen : List (Instance N)) (i j : Instance N) → LeadsOver (Within E seen) i j →
    LeadsOver E i j
led_beyond E seen _ j (stays _) = stays j
led_beyond E seen _ j (goes i m _ f (h, x) a l) = goes i m j f x a (led_beyond E seen m j l)

module _ {N : Type 0} (look : Contents N) (forms : Forms N) where
  and_then : (i j k : Instance N) → WantsOn look forms i j → Wants look forms j k → WantsOn look forms i k
  and_then _ j k (wants i _ w) v = and_on i j k w (wants j k v)
  and_then _ j k (and_on i m _ w x) v = and_on i m k w (and_then m j k x v)

  on_none : (i k : Instance N) → WantsOn look forms i k → HasNone look forms k → HasNone look forms i
  on_none _ _ (wants i k w) none = wants_none look forms i k w none
  on_none _ _ (and_on i j k w x) none = wants_none look forms i j w (on_none j k x none)

  -- what leads to the next one of a level wants, in one step or more, what is demanded at the level above
  pub wants_above : (root : Instance N) (ls : List (Level N)) (j : Instance N) → AreStacked look forms root ls →
      LeadsToNext look forms ls j → WantsOn look forms j root
  wants_above root [] j s n = elim n [ ]
  wants_above root (l ∷ ls) j (demands, off, at, rest) (here r) =
      wants j root (record { by = l.next; led = r; demands = demands })
  wants_above root (l ∷ ls) j (demands, off, (come, fresh, shut), rest) (below r) =
      and_then j l.root root (wants_above l.root ls j rest r)
      (record { by = l.next; led = come.led l.next (back_among l.next l.seen (l.next ∷ l.todo) (inl refl)); demands = demands })

  first_stuck : (i k : Instance N) → WantsOn look forms i k → HasNone look forms k → IsStuck look forms i
  first_stuck _ _ (wants i k w) none = (k, w, none)
  first_stuck _ _ (and_on i j k w x) none = (j, w, on_none j k x none)

  from_front : (r i k : Instance N) → LeadsOver (EndsSo look forms) r i → WantsOn look forms i k → WantsOn look forms r k
  from_front r _ _ l (wants i k w) =
      wants r k (record { by = w.by; led = led_over look forms r i w.by l w.led; demands = w.demands })
  from_front r _ _ l (and_on i j k w x) =
      and_on r j k (record { by = w.by; led = led_over look forms r i w.by l w.led; demands = w.demands }) x

  -- one that the root of the level above leads to, by formulas
  pub stuck_below : (root : Instance N) (ls : List (Level N)) (i : Instance N) → AreStacked look forms root ls →
      LeadsOver (EndsSo look forms) root i → LeadsToNext look forms ls i → IsStuck look forms i
  stuck_below root ls i s l n =
      let w = wants_above root ls i s n in
      first_stuck i root w (none_on_circle look forms root (from_front root i root l w))

  -- one that the last level's next one demands
  pub none_below : (root : Instance N) (ls : List (Level N)) (i : Instance N) → AreStacked look forms root ls →
      Wants look forms root i → LeadsToNext look forms ls i → HasNone look forms i
  none_below root ls i s v n =
      let w = wants_above root ls i s n in
      on_none i root w (none_on_circle look forms root (and_on root i root v w))

  -- one of the last level's own, that its next one demands
  pub none_here : (next i : Instance N) → LeadsOver (EndsSo look forms) i next →
      Reaches look (HasValue look forms) (forms.formula next) i → HasNone look forms i
  none_here next i l r = none_on_circle look forms i (wants i i (record { by = next; led = l; demands = r }))
