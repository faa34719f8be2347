-- What an evaluation under way was told stands with its frame, and a find that it ends with is whole.
use Rattle.std.proofs.Common.{◌≡◌, ℕ, nat_eq, List, [], ◌∷◌, ◌++◌, map, slice_get, Some, None, inl, inr, refl, sym, subst}
use Rattle.at_model.specs.Run.{Value, Instance, Location, Contents, Run, Gives, Demands}
use Rattle.at_model.specs.Follow.{follow, Past, here, looked, told}
use Rattle.at_model.specs.Rules.{Rules, evaluation, start_of}
use Rattle.at_model.specs.Meaning.{Among}
use Rattle.at_model.specs.Support.{Sees}
use Rattle.at_model.specs.of_fixpoints.Fixpoints.{HasValue}
use Rattle.at_model.specs.of_fixpoints.Formulas.{Formula, Known}
use Rattle.at_model.specs.of_fixpoints.Resting.{Comes}
use Rattle.at_model.proofs.Listed.{among_left, among_right}
use Rattle.at_store.specs.Located.{loc_view}
use Rattle.at_body.specs.Values.{value_view}
use Rattle.at_body.specs.Rest.{reached, resumed}
use Rattle.at_body.specs.declared.value.Value.{Value as ValueCode}
use Rattle.at_body.specs.declared.trial.Step.{Step}
use Rattle.at_body.specs.declared.trial.Step.TheVariants as step
use Rattle.at_index.proofs.Lists.{get_push}
use Rattle.at_demand.specs.declared.evaluation.Demanded.{Demanded}
use Rattle.at_demand.specs.declared.evaluation.Find.{Find}
use Rattle.at_demand.specs.declared.evaluation.Frame.{Frame}
use Rattle.at_evaluate.specs.Valued.{equations, meaning}
use Rattle.at_demand.specs.Covering.{AreWhole, AreWholeIn, Extends, HasPassed, HasPassedTo, IsDemanded, IsFirst, IsTold, IsWhole, IsWholeIn, alone, by_first, in_group}
use Rattle.at_demand.proofs.Coming.{begins, goes_on}
use Rattle.at_demand.proofs.Seeing.{sees_read, comes_told}
use Rattle.at_demand.proofs.Extending.{get_more}
use Rattle.at_demand.proofs.of_levels.Plain.{comes_by_demand, past_formula}

pub past_more : {N A : Type 0} (tree : Contents N) (has more : Instance N → Value N → Type 0) → ((j : Instance N) (v : Value N) → has j v → more j v) → (r s : Run N A) (js : List (Instance N)) (ls : List (Location N)) → Past tree has r js ls s → Past tree more r js ls s
past_more tree has more wide r s js ls (here _) = here r
past_more tree has more wide r s js ls (looked l k p) = looked l k (past_more tree has more wide _ s _ _ p)
past_more tree has more wide r s js ls (told j k v h p) = told j k v (wide j v h) (past_more tree has more wide _ s _ _ p)

-- each that was told has it
pub past_has : {N A : Type 0} (tree : Contents N) (has : Instance N → Value N → Type 0) (r s : Run N A) (js : List (Instance N)) (ls : List (Location N)) (j : Instance N) → Past tree has r js ls s → Among j js → (v : Value N) × has j v
past_has tree has r s js ls j (here _) a = absurd a
past_has tree has r s js ls j (looked l k p) a = past_has tree has _ s _ _ j p a
past_has tree has r s js ls j (told i k v h p) (inl e) = (v, subst (λ x. has x v) (sym e) h)
past_has tree has r s js ls j (told i k v h p) (inr a) = past_has tree has _ s _ _ j p a

-- what was found before is found still
pub demanded_more : (found more : List (Instance ℕ × Find)) (d : Demanded) (j : Instance ℕ) → Extends found more → IsDemanded found d j → IsDemanded more d j
demanded_more found more d j grows (inl k) = inl k
demanded_more found more d j grows (inr (p, f, at, is)) = inr (p, f, at, get_more found more p (j, f) grows is)

-- an instance more is taken, of what is kept or of what was found
pub takes_kept : (found : List (Instance ℕ × Find)) (old new : Demanded) (i : Instance ℕ) → new.kept.items ≡ old.kept.items ++ i ∷ [] → new.finds.items ≡ old.finds.items → ((j : Instance ℕ) → IsDemanded found old j → IsDemanded found new j) × IsDemanded found new i
takes_kept found old new i kept finds = (
  λ j h. elim h [
    | inl k ↦ inl (subst (Among j) (sym kept) (among_left j old.kept.items (i ∷ []) k))
    | inr (p, f, at, is) ↦ inr (p, f, subst (Among p) (sym finds) at, is)
  ],
  inl (subst (Among i) (sym kept) (among_right i old.kept.items (i ∷ []) (inl refl))),
)

pub takes_found : (found : List (Instance ℕ × Find)) (old new : Demanded) (i : Instance ℕ) (p : ℕ) (f : Find) → slice_get found p ≡ Some (i, f) → new.kept.items ≡ old.kept.items → new.finds.items ≡ old.finds.items ++ p ∷ [] → ((j : Instance ℕ) → IsDemanded found old j → IsDemanded found new j) × IsDemanded found new i
takes_found found old new i p f is kept finds = (
  λ j h. elim h [
    | inl k ↦ inl (subst (Among j) (sym kept) k)
    | inr (q, g, at, there) ↦ inr (q, g, subst (Among q) (sym finds) (among_left q old.finds.items (p ∷ []) at), there)
  ],
  inr (p, f, subst (Among p) (sym finds) (among_right p old.finds.items (p ∷ []) (inl refl)), is),
)

module _ (rules : Rules) (look : Contents ℕ) where
  pub passed_start : (found : List (Instance ℕ × Find)) (i : Instance ℕ) (f : Frame) (s : Step) → follow look [] (evaluation rules nat_eq i) ≡ (reached rules.classes s f.trial, f.trial.reads) → HasPassedTo rules look found i f s
  passed_start found i f s e = begins look (IsTold rules look found f.demanded) (equations rules i) (reached rules.classes s f.trial) f.trial.reads e

  pub passed_on : (found : List (Instance ℕ × Find)) (i j : Instance ℕ) (f g : Frame) (v : Value ℕ) (s : Step) → HasPassedTo rules look found i f (step.Need j) → ((k : Instance ℕ) → IsDemanded found f.demanded k → IsDemanded found g.demanded k) → IsDemanded found g.demanded j → HasValue look (meaning rules) j v →
      follow look f.trial.reads (resumed rules.classes f.trial v) ≡ (reached rules.classes s g.trial, g.trial.reads) → HasPassedTo rules look found i g s
  passed_on found i j f g v s (js, past) wide taken h e =
      let more = past_more look (IsTold rules look found f.demanded) (IsTold rules look found g.demanded) (λ k w t. (t.0, wide k t.1)) (equations rules i) (Demands j (resumed rules.classes f.trial)) js f.trial.reads past in
      goes_on look (IsTold rules look found g.demanded) (equations rules i) j (resumed rules.classes f.trial) v js f.trial.reads g.trial.reads (reached rules.classes s g.trial) more (h, taken) e

  pub passed_more : (found more : List (Instance ℕ × Find)) (i : Instance ℕ) (f : Frame) (r : Run ℕ (Value ℕ)) → Extends found more → HasPassed rules look found i f r → HasPassed rules look more i f r
  passed_more found more i f r grows (js, past) = (js, past_more look (IsTold rules look found f.demanded) (IsTold rules look more f.demanded) (λ k w t. (t.0, demanded_more found more f.demanded k grows t.1)) (equations rules i) r js f.trial.reads past)

  -- where the attribute isn't circular
  pub whole : (found : List (Instance ℕ × Find)) (i : Instance ℕ) (f : Frame) (v : ValueCode) (d : Find) → start_of rules i.attribute ≡ None → HasPassedTo rules look found i f (step.Value v) → map loc_view d.reads.items ≡ f.trial.reads → d.demanded ≡ f.demanded → IsWhole rules look found i d
  whole found i f v d none (js, past) reads demanded =
      let has = IsTold rules look found f.demanded in
      let run = (meaning rules).formula i in
      let end : Run ℕ (Formula ℕ) = Gives (Known (value_view v)) in
      let formed = past_formula rules look i none has (Gives (value_view v)) js f.trial.reads past in
      let holds = past_more look has (HasValue look (meaning rules)) (λ k w t. t.0) run end js f.trial.reads formed in
      alone (record {
        reads = λ k l a h. elim a [
          | inl e ↦ subst (Among l) (sym reads) (sees_read look (meaning rules) run end (Known (value_view v)) js f.trial.reads l refl holds (subst (λ z. Sees look (HasValue look (meaning rules)) ((meaning rules).formula z) l) e h))
          | inr z ↦ absurd z
        ];
        demands = λ k j a c. elim a [
          | inl e ↦
              let r = comes_by_demand rules look i none j (subst (λ z. Comes look (meaning rules) z j) e c) in
              let (w, t) = past_has look has run end js f.trial.reads j formed (comes_told look (meaning rules) run end (Known (value_view v)) js f.trial.reads j refl holds r) in
              inr (subst (λ (x : Demanded). IsDemanded found x j) (sym demanded) t.1)
          | inr z ↦ absurd z
        ];
      })

  pub whole_in_more : (found more : List (Instance ℕ × Find)) (these : List (Instance ℕ)) (d : Find) → Extends found more → AreWholeIn rules look found these d → AreWholeIn rules look more these d
  whole_in_more found more these d grows w = record {
    reads = w.reads;
    demands = λ k j b c. elim (w.demands k j b c) [ inl m ↦ inl m | inr x ↦ inr (demanded_more found more d.demanded j grows x) ];
  }

  so_more : (found more : List (Instance ℕ × Find)) (i : Instance ℕ) (d : Find) → Extends found more → IsWholeIn rules look found i d → IsWholeIn rules look more i d
  so_more found more i d grows (these, a, w) = (these, a, whole_in_more found more these d grows w)

  first_more : (found more : List (Instance ℕ × Find)) (d : Demanded) (i j : Instance ℕ) → Extends found more → IsFirst rules look found d i j → IsFirst rules look more d i j
  first_more found more d i j grows (inl k) = inl k
  first_more found more d i j grows (inr (p, g, at, is, w)) = inr (p, g, at, get_more found more p (j, g) grows is, so_more found more i g grows w)

  whole_more : (found more : List (Instance ℕ × Find)) (i : Instance ℕ) (d : Find) → Extends found more → IsWhole rules look found i d → IsWhole rules look more i d
  whole_more found more i d grows (alone w) = alone (whole_in_more found more (i ∷ []) d grows w)
  whole_more found more i d grows (in_group these c a w) = in_group these c a (whole_in_more found more these d grows w)
  whole_more found more i d grows (by_first j c x l) = by_first j c (first_more found more d.demanded i j grows x) l

  pub whole_push : (found : List (Instance ℕ × Find)) (i : Instance ℕ) (d : Find) → AreWhole rules look found → IsWhole rules look found i d → AreWhole rules look (found ++ (i, d) ∷ [])
  whole_push found i d all one p j g is = elim (get_push found (i, d) p (j, g) is) [
    | inl e ↦ whole_more found (found ++ (i, d) ∷ []) j g ((i, d) ∷ [], refl) (all p j g e)
    | inr e ↦ subst (λ (x : Instance ℕ × Find). IsWhole rules look (found ++ (i, d) ∷ []) x.0 x.1) e.1 (whole_more found (found ++ (i, d) ∷ []) i d ((i, d) ∷ [], refl) one)
  ]
