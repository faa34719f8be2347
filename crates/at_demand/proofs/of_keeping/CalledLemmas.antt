-- What is kept by numbers, and the work, are what the model says of them by paths.
use Rattle.std.proofs.Common.{◌≡◌, ◌⊎◌, ◌↔◌, ℕ, ◌+◌, ◌-◌, ◌^◌, min, nat_eq, true, length, Option, Some, None, Ok, inl, inr, refl, sym, ap, ◌∙◌, subst, arith}
use Rattle.std.specs.Prelude.{IsSome}
use Rattle.at_model.specs.Trees.{Tree, conforms}
use Rattle.at_model.specs.Paths.{Node, node_eq}
use Rattle.at_model.specs.Run.{Value, Instance, Location}
use Rattle.at_model.specs.Rules.{Rules, is_lazy}
use Rattle.at_model.specs.Meaning.{Among, Answer, Finds, content}
use Rattle.at_model.specs.of_fixpoints.Circles.{Answers}
use Rattle.at_model.specs.of_fixpoints.Evaluations.{forms}
use Rattle.at_model.specs.of_fixpoints.Fixpoints.{HasValue, Holds}
use Rattle.at_model.specs.of_fixpoints.Likeness.{FormsLike}
use Rattle.at_model.specs.of_fixpoints.Resting.{Leads}
use Rattle.at_model.specs.Alike.{InstanceLike, Names, IsInjective, AlikeAt}
use Rattle.at_model.specs.Edits.{Edit, edited}
use Rattle.at_model.specs.Machine.{State, Asks, Edits}
use Rattle.at_model.specs.Sparing.{AreWellKept}
use Rattle.at_model.proofs.of_likeness.CarryingCircles.{Agrees, names_agree}
use Rattle.at_model.proofs.of_formulas.CarriedByFormulas.{outcome_there, leads_back}
use Rattle.at_model.proofs.of_formulas.EndsAlike.{found_like}
use Rattle.at_model.proofs.of_formulas.FormulasAlike.{evaluation-like}
use Rattle.at_model.proofs.Nodes.{same_like, nat_eq-is, node_eq-is}
use Rattle.at_store.specs.Shown.{Shown, IsIdle, contents, numbers, path, tree}
use Rattle.at_store.specs.Memory.{class_in}
use Rattle.at_store.specs.View.{memory_of}
use Rattle.at_store.specs.Preparing.{IsCommitted}
use Rattle.at_store.proofs.Found.{path_injective}
use Rattle.at_store.proofs.Relabelled.{contents_alike}
use Rattle.at_cache.specs.Kept.{Kept, Entries, value_at}
use Rattle.at_evaluate.specs.Valued.{meaning, kept_values, IsKept}
use Rattle.at_evaluate.specs.Right.{AreRight}
use Rattle.at_demand.specs.Answered.{AddsMet, HasWorthyFor}
use Rattle.at_evaluate.specs.Sparing.{AreSpare, AddsWorthy, Counts}
use Rattle.at_demand.specs.Worth.{IsWorthKeeping}
use Rattle.at_demand.specs.Spared.{IsUntouched, LeavesJust}
use Rattle.at_demand.specs.Called.{KeptBy, Keeps}
use Rattle.at_demand.proofs.Working.{came_worth, worth_kept}
use Rattle.at_evaluate.proofs.Entered.{entered, kept_on, not_none, there as value_kept}
use Rattle.at_demand.proofs.of_keeping.CalledAsked.{called_after, called_added}
use Rattle.at_demand.proofs.of_keeping.CalledEdited.{called_edited}
use Rattle.at_demand.proofs.of_keeping.StayingSpare.{some_kept}

-- there or not
module _ {A : Type 0} where
  decided : (o : Option A) → IsSome o ⊎ (o ≡ None)
  decided None = inr refl
  decided (Some a) = inl refl

  none_kept : (o : Option A) → o ≡ None → IsSome o → ⊥
  none_kept o e some = not_none o some e

  no_kept : (o : Option A) → (¬ (IsSome o)) → o ≡ None
  no_kept None h = refl
  no_kept (Some a) h = absurd (h refl)

module _ (rules : Rules) (s : Shown) (idle : IsIdle s) where
  once : IsInjective (path s)
  once = path_injective (numbers s)

  alike : (l : Location ℕ) → AlikeAt (Names (path s)) (contents s) (content (tree s)) l
  alike = contents_alike (class_in (memory_of s.slab)) (numbers s) idle.keeps.apart

  agree : Agrees (Names (path s))
  agree = names_agree (path s) once

  like : FormsLike (Names (path s)) (meaning rules) (forms rules)
  like = evaluation-like rules nat_eq node_eq (same_like nat_eq node_eq nat_eq-is node_eq-is (path s) once)

  -- what is kept is lazy, has a value and is deep, by paths too
  pub well_kept : (entries : Entries) → AreRight rules s entries → AreSpare rules (contents s) entries → AreWellKept rules (tree s) (KeptBy s entries)
  well_kept entries right spare = record { lazy = lazy; valued = valued; deep = deep }
    where
      lazy : (j : Instance Node) → KeptBy s entries j → is_lazy rules j.attribute ≡ true
      lazy j (i, some, u) = ap (is_lazy rules) (sym u.attribute) ∙ spare.lazy i some

      valued : (j : Instance Node) → KeptBy s entries j → (w : Value Node) × HasValue (content (tree s)) (forms rules) j w
      valued j (i, some, u) =
          let (v, is) = value_kept (kept_values entries i) some in
          let (o, g, same) = outcome_there agree (contents s) (content (tree s)) (meaning rules) (forms rules) like i j
          (Finds v) (u, λ l h. alike l) (right.values i v is) in
          let (w, found, l) = found_like v same refl in
          (w, subst (Holds (content (tree s)) (forms rules) j) found g)

      deep : (j m : Instance Node) → KeptBy s entries j → Leads (content (tree s)) (forms rules) j m → is_lazy rules m.attribute ≡ true → KeptBy s entries m
      deep j m (i, some, u) leads is =
          let (k, (v, more), led) = leads_back agree (contents s) (content (tree s)) (meaning rules) (forms rules) like i j m
          (u, λ l h. alike l) leads in
          (k, spare.deep i k (entered entries i some) led (ap (is_lazy rules) v.attribute ∙ is), v)

  -- a question adds what is worth keeping, and its work is the number of these
  module _ (q : Instance ℕ) (p : Instance Node) (asked : InstanceLike (Names (path s)) q p) (old new : Entries) (w x : ℕ) (adds : AddsWorthy rules (contents s) q old new) (met : AddsMet rules (contents s) q old new) (a : Answer ℕ) (answers : Answers (contents s) (meaning rules) q a) (all : HasWorthyFor rules (contents s) q a new) (counts : Counts old new w x) where
    came : (i : Instance ℕ) → kept_values old i ≡ None → IsKept new i → IsWorthKeeping rules (contents s) q i
    came = came_worth rules (contents s) q old new adds met

    stays : (i : Instance ℕ) → IsWorthKeeping rules (contents s) q i → IsKept new i
    stays = worth_kept rules (contents s) q a new answers all

    just : (i : Instance ℕ) → IsKept new i ↔ (IsKept old i ⊎ IsWorthKeeping rules (contents s) q i)
    just i = (
      λ now. elim (decided (kept_values old i)) [ inl was ↦ inl was | inr none ↦ inr (came i none now) ],
      λ h. elim h [ inl was ↦ kept_on old new adds.stays i was | inr worth ↦ stays i worth ],
    )

    exactly : (i : Instance ℕ) → Among i counts.0 ↔ (IsWorthKeeping rules (contents s) q i × (¬ (IsKept old i)))
    exactly i =
        let (gained, g, e) = counts in (
          λ a. (let y = (g.exactly i).0 a in (came i y.1 y.0, none_kept (kept_values old i) y.1)),
          λ h. (g.exactly i).1 (stays i h.0, no_kept (kept_values old i) h.1),
        )

    pub keeps_asked : (state : State) → state.tree ≡ tree s → Keeps rules state (Asks p) (KeptBy s old) (KeptBy s new) w x
    keeps_asked state same =
        let (gained, g, e) = counts in
        let (js, added, size) = called_added rules (contents s) (tree s) (path s) once alike q p asked (IsKept old) (λ i. elim (decided (kept_values old i)) [ inl was ↦ inl was | inr none ↦ inr (none_kept (kept_values old i) none) ]) gained g.distinct exactly in
        let P : Tree → Type 0 = λ t. Keeps rules (record state { tree = t }) (Asks p) (KeptBy s old) (KeptBy s new) w x in
        subst P (sym same) (record {
          kept = called_after rules (contents s) (tree s) (path s) once alike q p asked (IsKept old) (IsKept new) just;
          more = length js;
          is_work = (js, added, refl);
          grows = λ small. e ∙ ap (λ n. min (w + n) (2 ^ 64 - 1)) (sym size);
        })

-- an edit leaves what it doesn't touch, and has no work
module _ (rules : Rules) (old new : Shown) (e : Edit) (t : Tree) (idle : IsIdle old) (ok : conforms rules.classes (tree old) 0 ≡ true) (accepted : edited rules.classes (tree old) e ≡ Ok t) (done : IsCommitted old e new)
    (before later : Entries) (right : AreRight rules old before) (leaves : LeavesJust rules old e before later) where
  left : (i : Instance ℕ) → IsKept later i ↔ (IsKept before i × IsUntouched rules old e i)
  left i = (
    λ some. (let (k, is) = some_kept (later i) (entered later i some) in let (was, free) = (leaves i k).0 is in (moved (is ∙ sym was) some, free)),
    λ h. (let (k, is) = some_kept (before i) (entered before i h.0) in moved (is ∙ sym ((leaves i k).1 (is, h.1))) h.0),
  )
    where
      moved : {o p : Option Kept} → o ≡ p → IsSome (value_at o) → IsSome (value_at p)
      moved e some = subst (λ x. IsSome (value_at x)) e some

  pub keeps_edited : (state : State) → state.tree ≡ tree old → (w : ℕ) → Keeps rules state (Edits e t) (KeptBy old before) (KeptBy new later) w w
  keeps_edited state same w =
      let P : Tree → Type 0 = λ u. Keeps rules (record state { tree = u }) (Edits e t) (KeptBy old before) (KeptBy new later) w w in
      subst P (sym same) (record {
        kept = called_edited rules e (tree old) (contents old) (path old) (path new) (once rules old idle) (alike rules old idle) done.paths (IsKept before) (IsKept later)
            (λ i some. let (k, is) = some_kept (before i) (entered before i some) in right.there i k is)
            (λ i some. let (v, is) = value_kept (kept_values before i) some in (v, right.values i v is)) left;
        more = 0;
        is_work = refl;
        grows = λ small. omega (arith, small);
      })
