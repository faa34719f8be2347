-- Where the last one isn't circular, its level is no search.
use Rattle.std.proofs.Common.{◌≡◌, ℕ, ◌∷◌, Some, None, inl, refl, sym, ◌∙◌, subst}
use Rattle.at_model.specs.Meaning.{Among}
use Rattle.at_model.specs.Rules.{Rules, start_of}
use Rattle.at_model.specs.Run.{Instance}
use Rattle.at_model.specs.of_fixpoints.Fixpoints.{End, EndsSo, LeadsOver, Made, goes, stays}
use Rattle.at_model.specs.of_fixpoints.Formulas.{Formula}
use Rattle.at_model.specs.of_fixpoints.Searched.{IsMade}
use Rattle.at_model.specs.of_fixpoints.Searching.{Level, Search}
use Rattle.at_model.proofs.Reached.{back_among}
use Rattle.at_model.proofs.of_searching.PassedCircles.{ends_one}
use Rattle.at_store.specs.Shown.{Shown, contents}
use Rattle.at_cache.specs.Kept.{Entries}
use Rattle.at_search.specs.Recorded.{Recorded, end_of}
use Rattle.at_search.specs.declared.ended.Ending.{Ending}
use Rattle.at_search.specs.declared.ended.Ending.TheVariants as ending
use Rattle.at_search.specs.declared.ended.Formed.{Formed}
use Rattle.at_demand.specs.declared.question.Question.{Question}
use Rattle.at_evaluate.specs.Valued.{meaning}
use Rattle.at_demand.specs.Levels.{IsLevel, LevelCode, StandsFor, fault_in, known_to, root_in, seen_in, todo_in}
use Rattle.at_evaluate.proofs.Entered.{not_none}

module _ (rules : Rules) (s : Shown) (entries : Entries) (q : Question) (u : Search ℕ) (st : StandsFor rules s entries q u)
    (none : start_of rules q.inst.attribute ≡ None) where
  unseen_last : Among q.inst (seen_in q.level) → ⊥
  unseen_last a =
      let on = st.on in
      let (come, fresh, shut) = on.last in
      fresh (subst (λ (l : Level ℕ). Among l.next l.seen) (sym st.is.last) a)

  led_last : LeadsOver (EndsSo (contents s) (meaning rules)) (root_in q.level q.inst) q.inst
  led_last =
      let on = st.on in
      let (come, fresh, shut) = on.last in
      subst (λ (l : Level ℕ). LeadsOver (EndsSo (contents s) (meaning rules)) l.root l.next) st.is.last
      (come.led u.last.next (back_among u.last.next u.last.seen (u.last.next ∷ u.last.todo) (inl refl)))

  -- its root would be circular, or have a fault
  module _ (d : LevelCode) (x : IsLevel rules (contents s) (known_to entries q) q.ended.entries q.inst d) (unseen : Among q.inst (seen_in d) → ⊥)
      (led : LeadsOver (EndsSo (contents s) (meaning rules)) (root_in d q.inst) q.inst) where
    no_root : Among (root_in d q.inst) (seen_in d) → ⊥
    no_root rooted = of_end (let covered = x.covered in covered.ends (root_in d q.inst) rooted)
      where
        plain_root : start_of rules (root_in d q.inst).attribute ≡ None
        plain_root = sym (x.alike q.inst (back_among q.inst (seen_in d) (q.inst ∷ todo_in d) (inl refl))) ∙ none

        of_fault : (e : End ℕ (Formula ℕ)) → EndsSo (contents s) (meaning rules) (root_in d q.inst) e → (IsMade e → ⊥) →
            LeadsOver (EndsSo (contents s) (meaning rules)) (root_in d q.inst) q.inst → ⊥
        of_fault e ends unmade l = by (root_in d q.inst) rooted ends l
          where
            by : (r : Instance ℕ) → Among r (seen_in d) → EndsSo (contents s) (meaning rules) r e → LeadsOver (EndsSo (contents s) (meaning rules)) r q.inst → ⊥
            by _ a y (stays i) = unseen a
            by _ a y (goes i m _ f z b more) = unmade (subst (λ w. IsMade w) (ends_one (contents s) (meaning rules) i (Made f) e z y) tt)

        by_ending : (g : Ending) (e : End ℕ (Formula ℕ)) → Recorded q.ended.entries (root_in d q.inst) e → end_of g ≡ e →
            ((f : Formed) → g ≡ ending.Formed f → ⊥) → ⊥
        by_ending (ending.Formed f) e r is form = form f refl
        by_ending (ending.Spoilt f) e r is form = let facts = st.facts in
            of_fault e (facts.ends (root_in d q.inst) e r) (λ m. subst (λ w. IsMade w) (sym is) m) led

        of_end : ((e : End ℕ (Formula ℕ)) × Recorded q.ended.entries (root_in d q.inst) e × (fault_in d ≡ None → IsMade e)) → ⊥
        of_end (e, (y, at, is), made) = let facts = st.facts in by_ending y.ending e (y, at, is) is
            (λ f same. not_none (start_of rules (root_in d q.inst).attribute) (facts.circular (root_in d q.inst) f (y, at, same)) plain_root)

  pub plain_level : q.level ≡ None
  plain_level = by q.level refl
    where
      by : (d : LevelCode) → q.level ≡ d → q.level ≡ None
      by None e = e
      by (Some b) e = let levels = st.levels in absurd (no_root q.level levels.last unseen_last led_last
          (subst (λ (z : LevelCode). Among (root_in z q.inst) (seen_in z)) (sym e) (let y = at_level in y.rooted)))
        where
          at_level : IsLevel rules (contents s) (known_to entries q) q.ended.entries q.inst (Some b)
          at_level = let levels = st.levels in subst (λ z. IsLevel rules (contents s) (known_to entries q) q.ended.entries q.inst z) e levels.last
