-- What is noted of faults is right.
use Rattle.std.proofs.Common.{◌≡◌, ◌⊎◌, ℕ, Bool, true, false, List, [], ◌∷◌, Option, Some, None, Result, Ok, Err, inl, inr, refl, sym, ◌∙◌, subst, if◌then◌else◌}
use Rattle.std.specs.Prelude.{IfOk, IfSome, OnErr, OnOk}
use Rattle.std.specs.Map.{keys_of, lookup}
use Rattle.std.proofs.lemmas.Option.{none-some, same_Some}
use Rattle.std.specs.declared.alloc.AllocError.{AllocError}
use Rattle.indexmap.specs.IndexMap.{insert_entry}
use Rattle.at_model.specs.Rules.{Rules}
use Rattle.at_model.specs.Run.{Contents, Instance}
use Rattle.at_model.specs.of_fixpoints.Fixpoints.{Holds}
use Rattle.at_body.specs.Same.{same_instance}
use Rattle.at_body.specs.Values.{FaultCode, fault_view}
use Rattle.at_search.specs.Recorded.{copied_from}
use Rattle.at_search.specs.declared.ended.Fault.{Fault}
use Rattle.at_model.specs.Meaning.{Among, Faults}
use Rattle.at_store.specs.Shown.{Shown, contents}
use Rattle.at_cache.specs.Kept.{Entries}
use Rattle.at_cache.specs.Traced.{Memories}
use Rattle.at_demand.specs.declared.demand.searching.Resolved.{Resolved}
use Rattle.at_demand.specs.declared.demand.searching.Resolved.TheVariants as resolved
use Rattle.at_demand.specs.declared.question.Question.{Question}
use Rattle.at_demand.specs.declared.trials.Trials.{Trials}
use Rattle.at_evaluate.specs.Valued.{meaning}
use Rattle.at_demand.specs.Searches.{HasResolved, IsResolved, NotesTold}
use Rattle.at_demand.specs.KeptTrials.{HasNoted, IsNotedAs, IsNotedRight}
use Rattle.at_evaluate.proofs.Sameness.{same_true}

abbrev Noted : Type 0
Noted = List (Instance ℕ × Fault)

-- another value at the first key
first_case : (p : Instance ℕ × Fault) (ps : Noted) (i : Instance ℕ) (v f : Fault) → lookup (same_instance i) ((p.0, v)
    ∷ ps) ≡ Some f →
    ((i ≡ p.0) × (v ≡ f)) ⊎ (lookup (same_instance i) (p ∷ ps) ≡ Some f)
first_case p ps i v f e = by (same_instance i p.0) refl e
  where
    by : (b : Bool) → same_instance i p.0 ≡ b → (if b then Some v else lookup (same_instance i) ps) ≡ Some f →
        ((i ≡ p.0) × (v ≡ f)) ⊎ ((if b then Some p.1 else lookup (same_instance i) ps) ≡ Some f)
    by true s e = inl (same_true i p.0 s, same_Some v f e)
    by false s e = inr e

-- what is there now was there before, or is this one
pub inserted : (ps : Noted) (k i : Instance ℕ) (v f : Fault) → lookup (same_instance i) (insert_entry same_instance ps
    k v) ≡ Some f →
    (lookup (same_instance i) ps ≡ Some f) ⊎ ((i ≡ k) × (v ≡ f))
inserted [] k i v f e = by (same_instance i k) refl e
  where
    by : (b : Bool) → same_instance i k ≡ b → (if b then Some v else None) ≡ Some f → (◌≡◌ {A = Option Fault} None
        (Some f)) ⊎ ((i ≡ k) × (v ≡ f))
    by true s e = inr (same_true i k s, same_Some v f e)
    by false s e = absurd (none-some f e)
inserted (p ∷ ps) k i v f e = by (same_instance k p.0) refl e (inserted ps k i v f)
  where
    further : (b : Bool) → (if b then Some p.1 else lookup (same_instance i) (insert_entry same_instance ps k v)) ≡
        Some f →
        (lookup (same_instance i) (insert_entry same_instance ps k v) ≡ Some f → (lookup (same_instance i) ps ≡ Some
        f) ⊎ ((i ≡ k) × (v ≡ f))) →
        ((if b then Some p.1 else lookup (same_instance i) ps) ≡ Some f) ⊎ ((i ≡ k) × (v ≡ f))
    further true e more = inl e
    further false e more = more e

    by : (b : Bool) → same_instance k p.0 ≡ b →
        lookup (same_instance i) (if b then (p.0, v) ∷ ps else p ∷ insert_entry same_instance ps k v) ≡ Some f →
        (lookup (same_instance i) (insert_entry same_instance ps k v) ≡ Some f → (lookup (same_instance i) ps ≡ Some
        f) ⊎ ((i ≡ k) × (v ≡ f))) →
        (lookup (same_instance i) (p ∷ ps) ≡ Some f) ⊎ ((i ≡ k) × (v ≡ f))
    by true s e more = elim (first_case p ps i v f e) [
      | inl (same, is) ↦ inr (same ∙ sym (same_true k p.0 s), is)
      | inr was ↦ inl was
    ]
    by false s e more = further (same_instance i p.0) e more

module _ (rules : Rules) (look : Contents ℕ) where
  -- this fault is its outcome
  abbrev IsSpoilt : Instance ℕ → FaultCode → Instance ℕ → Type 0
  IsSpoilt i kind at = Holds look (meaning rules) i (Faults (fault_view kind) at)

  pub noted_holds : (noted : Noted) (i : Instance ℕ) (f : Fault) → IsNotedRight rules look noted → IsNotedAs noted i f
      → IsSpoilt i f.kind f.at
  noted_holds noted i f right (g, at, (kind, place)) =
      subst (λ z. IsSpoilt i f.kind z) (sym place) (subst (λ z. IsSpoilt i z g.at) (sym kind) (right i g at))

  pub noted_more : (old new : Noted) (i : Instance ℕ) (f : Fault) → IsNotedRight rules look old → IsSpoilt i f.kind
      f.at → HasNoted old new i f →
      IsNotedRight rules look new
  noted_more old new i f right holds (j, g, same, (kind, place), is) k h e =
      elim (inserted old j k g h (subst (λ ps. lookup (same_instance k) ps ≡ Some h) is e)) [
        | inl was ↦ right k h was
        | inr (there, now) ↦ subst (λ (z : Fault). IsSpoilt k z.kind z.at) now
            (subst (λ x. IsSpoilt x g.kind g.at) (sym (there ∙ same))
            (subst (λ z. IsSpoilt i g.kind z) (sym place) (subst (λ z. IsSpoilt i z f.at) (sym kind) holds)))
      ]

-- where its equation has ended one has
pub told_ended : (q : Question) (i : Instance ℕ) → Among i (keys_of q.ended.entries) → ¬ (q.ended.entries ≡ [])
told_ended q i key e = subst (λ es. Among i (keys_of es)) e key

-- what is known of an instance is noted so that it is right
pub noted_after : (rules : Rules) (s : Shown) (before after : Entries) (former latter : Memories)
    (earlier later : ℕ) (old new : Question)
    (i : Instance ℕ) (r : Result Resolved AllocError) → HasResolved {E = AllocError} rules s before after former
    latter earlier later old new i r →
    (t u : Trials) → IsNotedRight rules (contents s) t.noted.entries → NotesTold r i t u → IsNotedRight rules
    (contents s) u.noted.entries
noted_after rules s before after former latter earlier later old new i r h t u right n = elim n.noted [
  | inl same ↦ subst (λ ps. IsNotedRight rules (contents s) ps) (sym same) right
  | inr (f, is, noted) ↦ noted_more rules (contents s) t.noted.entries u.noted.entries i f right (by f is) noted
]
  where
    by : (f : Fault) → r ≡ Ok (resolved.Spoilt f) → Holds (contents s) (meaning rules) i (Faults (fault_view f.kind)
        f.at)
    by f is =
        let told : IsResolved rules (contents s) before after old new i (resolved.Spoilt f) =
        subst (λ (z : Result Resolved AllocError). IfOk z (IsResolved rules (contents s) before after old new i)) is
        h.is in told.0

-- what is noted is that fault
pub noted_one : (noted : Noted) (i : Instance ℕ) (g : Fault) → Some g ≡ lookup (same_instance i) noted → (r : Result
    (Option Fault) AllocError) →
    IfOk r (λ o. IfSome o (copied_from g)) → IfOk r (λ o. IfSome o (IsNotedAs noted i))
noted_one noted i g at (Ok (Some f)) h = (g, sym at, h)
noted_one noted i g at (Ok None) h = tt
noted_one noted i g at (Err e) h = tt

pub noted_put : (old new : Noted) (i j : Instance ℕ) (f g : Fault) (r : Result (Unit {0}) AllocError) → j ≡ i →
    copied_from f g →
    OnOk r (new ≡ insert_entry same_instance old j g) → OnOk r (HasNoted old new i f)
noted_put old new i j f g (Ok u) same copied is = (j, g, same, copied, is)
noted_put old new i j f g (Err e) same copied is = tt

pub either : {A B : Type 0} (r : Result (Unit {0}) AllocError) → OnOk r A → OnErr r B → B ⊎ A
either (Ok u) a b = inr a
either (Err e) a b = inl b
