-- What was asked leads to all that a question's levels have seen, or have to do; so that is of the tree, and well typed.
use Rattle.std.proofs.Common.{◌≡◌, ℕ, nat_eq, List, [], ◌∷◌, ◌++◌, map, reverse, slice_get, None, Some, inl, inr, refl, sym, ap, ◌∙◌, subst}
use mathlib.Core.List.{reverse-cons}
use Rattle.at_model.specs.Instances.{AnyText}
use Rattle.at_model.specs.Meaning.{Among, content}
use Rattle.at_model.specs.Paths.{node_eq}
use Rattle.at_model.specs.Rules.{Rules}
use Rattle.at_model.specs.Run.{Instance, Contents}
use Rattle.at_model.specs.TypedRuns.{IsWellTyped, class_at}
use Rattle.at_model.specs.of_fixpoints.Evaluations.{forms as formulas}
use Rattle.at_model.specs.of_fixpoints.Formulas.{Forms}
use Rattle.at_model.specs.of_fixpoints.Resting.{Leads}
use Rattle.at_model.specs.of_fixpoints.Resting as led
use Rattle.at_model.specs.of_fixpoints.Searched.{AreStacked, HasCome, tried_at}
use Rattle.at_model.specs.of_fixpoints.Searching.{Level, Looked, root_of, under}
use Rattle.at_model.proofs.Nodes.{same_like, nat_eq-is, node_eq-is}
use Rattle.at_model.proofs.Reached.{back_among, either_among, front_among}
use Rattle.at_model.proofs.of_formulas.CarriedByFormulas.{leads_there}
use Rattle.at_model.proofs.of_formulas.FormulasAlike.{evaluation-like}
use Rattle.at_model.proofs.of_formulas.TypedFormulas.{forms_typed, leads_typed}
use Rattle.at_model.proofs.of_likeness.CarryingCircles.{names_agree}
use Rattle.at_model.proofs.of_searching.Turned.{leads_by, leads_over, root_led}
use Rattle.at_model.proofs.of_typing.TypedNumbers.{instance_back}
use Rattle.at_model.proofs.of_typing.TypedTogether.{met_any}
use Rattle.at_store.specs.Memory.{class_in}
use Rattle.at_store.specs.Shown.{Shown, contents, numbers, path, tree}
use Rattle.at_store.specs.View.{memory_of}
use Rattle.at_store.proofs.Found.{path_injective}
use Rattle.at_store.proofs.Relabelled.{contents_alike}
use Rattle.at_body.specs.Typed.{class_shown}
use Rattle.at_body.proofs.of_typing.TypedInstances.{instance_on}
use Rattle.at_cache.specs.Kept.{Entries}
use Rattle.at_demand.specs.declared.question.Question.{Question}
use Rattle.at_demand.specs.Answerable.{IsBasis}
use Rattle.at_evaluate.specs.Valued.{meaning}
use Rattle.at_demand.specs.Levels.{LevelCode, all_levels, asked_by, level_of, levels_of, root_in, seen_in}
use Rattle.at_demand.specs.Searches.{StandsBetween}

-- what was asked
abbrev pub asked_at : List (Instance ℕ × LevelCode) → LevelCode → Instance ℕ → Instance ℕ
asked_at ws d i = elim (slice_get ws 0) [ None ↦ root_in d i | Some e ↦ root_in e.1 e.0 ]

abbrev pub level_at : Instance ℕ × LevelCode → Level ℕ
level_at e = level_of e.0 e.1

root_mapped : (ws : List (Instance ℕ × LevelCode)) (root : Instance ℕ) (e : Instance ℕ × LevelCode) →
    root_of root (map level_at (ws ++ e ∷ [])) ≡ root_in e.1 e.0
root_mapped [] root e = refl
root_mapped (w ∷ ws) root e = root_mapped ws (root_in w.1 w.0) e

-- is demanded at the lowest level
pub starts_at : (ws : List (Instance ℕ × LevelCode)) (d : LevelCode) (i : Instance ℕ) → root_of (root_in d i) (levels_of ws) ≡ asked_at ws d i
starts_at [] d i = refl
starts_at (e ∷ es) d i =
    subst (λ xs. root_of (root_in d i) (map level_at xs) ≡ root_in e.1 e.0) (sym (reverse-cons e es)) (root_mapped (reverse es) (root_in d i) e)

module _ (look : Contents ℕ) (forms : Forms ℕ) where
  pub leads_met : (below : List (Instance ℕ)) (root : Instance ℕ) (seen todo : List (Instance ℕ)) → HasCome look forms below root seen todo →
      (i : Instance ℕ) → Among i (seen ++ todo) → Leads look forms root i
  leads_met below root seen todo c i h = leads_over look forms root i i (c.led i h) (led.stays i)

  -- it leads to all that levels under way have seen
  pub leads_under : (root : Instance ℕ) (ls : List (Level ℕ)) → AreStacked look forms root ls → (i : Instance ℕ) → Among i (under ls) →
      Leads look forms (root_of root ls) i
  leads_under root [] s i h = absurd h
  leads_under root (l ∷ ls) (demands, off, (come, fresh, shut), rest) i (inl e) =
      subst (λ z. Leads look forms (root_of l.root ls) z) (sym e)
      (leads_by look forms (root_of l.root ls) l.root l.next (root_led look forms l.root ls rest)
      (leads_met (under ls) l.root l.seen (l.next ∷ l.todo) come l.next (back_among l.next l.seen (l.next ∷ l.todo) (inl refl))))
  leads_under root (l ∷ ls) (demands, off, (come, fresh, shut), rest) i (inr h) = elim (either_among i l.seen (under ls) h) [
    | inl a ↦ leads_by look forms (root_of l.root ls) l.root i (root_led look forms l.root ls rest)
        (leads_met (under ls) l.root l.seen (l.next ∷ l.todo) come i (front_among i l.seen (l.next ∷ l.todo) a))
    | inr b ↦ leads_under l.root ls rest i b
  ]

-- what a well-typed instance leads to is well typed
pub led_typed : (rules : Rules) (s : Shown) → IsBasis rules s → (i j : Instance ℕ) → IsWellTyped rules (class_shown s) AnyText i →
    Leads (contents s) (meaning rules) i j → IsWellTyped rules (class_shown s) AnyText j
led_typed rules s basis i j w l =
    let one = path_injective (numbers s) in
    let agree = names_agree (path s) one in
    let alike = evaluation-like rules nat_eq node_eq (same_like nat_eq node_eq nat_eq-is node_eq-is (path s) one) in
    let (n, like, typed) = instance_on rules (path s) (class_at (tree s)) i w in
    let (m, (there, more), there_led) = leads_there agree (contents s) (content (tree s)) (meaning rules) (formulas rules) alike i j n
    (like, λ x h. contents_alike (class_in (memory_of s.slab)) (numbers s) basis.idle.keeps.apart x) l in
    instance_back rules (path s) (class_at (tree s)) AnyText j m there
    (leads_typed rules basis.circular.boolean (class_at (tree s)) AnyText (content (tree s)) (formulas rules) (λ a. refl)
    (forms_typed rules (tree s) AnyText (met_any rules basis.formed (tree s) basis.sound) basis.circular.boolean) n m typed there_led)

module _ (rules : Rules) (s : Shown) (entries : Entries) (q : Question) (l : Looked ℕ) (st : StandsBetween rules s entries q l) where
  pub starts_asked : root_of l.root l.below ≡ asked_by q
  starts_asked = ap (λ r. root_of r l.below) st.is.root ∙ ap (λ ls. root_of (root_in q.level q.inst) ls) st.is.below
      ∙ starts_at q.waiting.entries q.level q.inst

  pub led_met : (i : Instance ℕ) → Among i (l.seen ++ l.todo) → Leads (contents s) (meaning rules) (asked_by q) i
  led_met i h = subst (λ z. Leads (contents s) (meaning rules) z i) starts_asked
      (leads_by (contents s) (meaning rules) (root_of l.root l.below) l.root i (root_led (contents s) (meaning rules) l.root l.below st.stacked)
      (leads_met (contents s) (meaning rules) (under l.below) l.root l.seen l.todo st.come i h))

  pub led_below : (i : Instance ℕ) → Among i (under l.below) → Leads (contents s) (meaning rules) (asked_by q) i
  led_below i h = subst (λ z. Leads (contents s) (meaning rules) z i) starts_asked
      (leads_under (contents s) (meaning rules) l.root l.below st.stacked i h)

  pub led_last : Leads (contents s) (meaning rules) (asked_by q) q.inst
  led_last = st.fresh.led q.inst (back_among q.inst (tried_at l.below) l.ended st.last)

  pub led_under : (i : Instance ℕ) → Among i (under (all_levels q)) → Leads (contents s) (meaning rules) (asked_by q) i
  led_under i (inl e) = subst (λ z. Leads (contents s) (meaning rules) (asked_by q) z) (sym e) led_last
  led_under i (inr h) = elim (either_among i (seen_in q.level) (under (levels_of q.waiting.entries)) h) [
    | inl a ↦ led_met i (front_among i l.seen l.todo (subst (λ is. Among i is) (sym st.is.seen) a))
    | inr b ↦ led_below i (subst (λ ls. Among i (under ls)) (sym st.is.below) b)
  ]
