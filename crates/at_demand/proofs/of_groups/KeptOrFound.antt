-- A find's value is kept, or the find comes to those that were found: what that says of what is known.
use Rattle.std.proofs.Common.{◌≡◌, ℕ, Bool, true, false, List, [], ◌∷◌, ◌++◌, Option, Some, None, Result, Ok, Err, IfOk, inl, inr, refl, sym, ap, ◌∙◌, subst, if◌then◌else◌, true≢false, arith}
use Rattle.std.specs.Prelude.{IsErrAnd, IsSome}
use Rattle.std.specs.Map.{lookup}
use Rattle.std.specs.Option.{option_map}
use Rattle.std.proofs.lemmas.List.Elements.{Contains-push_cases}
use Rattle.indexmap.specs.IndexMap.{insert_entry}
use Rattle.at_model.specs.Run.{Value, Instance}
use Rattle.at_model.specs.Rules.{Rules}
use Rattle.at_body.specs.Same.{same_instance}
use Rattle.at_body.specs.Values.{value_view}
use Rattle.at_cache.specs.Kept.{Entries}
use Rattle.at_cache.specs.Traced.{Memories}
use Rattle.at_demand.specs.declared.evaluation.Demanded.{Demanded}
use Rattle.at_demand.specs.declared.evaluation.Find.{Find}
use Rattle.at_demand.specs.declared.question.Question.{Question}
use Rattle.at_demand.specs.Groups.{CanBeFirst, CanBeOther, HasKeptFirst, IsFirstAt, IsOtherFind, UsesFirst}
use Rattle.at_evaluate.specs.Valued.{AreValued, IsKept, kept_values}
use Rattle.at_demand.specs.Known.{found_values, known_in}
use Rattle.at_demand.specs.Levels.{known_to}
use Rattle.at_evaluate.proofs.Entered.{is_there}
use Rattle.at_demand.proofs.Keys.{goes_last, no_key}
use Rattle.at_evaluate.proofs.Sameness.{same_refl}

-- an exit with an error has no value
pub no_ok : {T E : Type 0} (r : Result T E) (Q : E → Type 0) (P : T → Type 0) → IsErrAnd r Q → IfOk r P
no_ok (Ok x) Q P h = absurd h
no_ok (Err e) Q P h = tt

module _ (entries : Entries) (found : List (Instance ℕ × Find)) (i : Instance ℕ) where
  -- of what isn't known nothing is kept, and nothing was found
  pub none_kept : known_in entries found i ≡ None → kept_values entries i ≡ None
  none_kept none = by (kept_values entries i) refl none
    where
      by : (o : Option (Value ℕ)) → kept_values entries i ≡ o → ◌≡◌ {A = Option (Value ℕ)} (elim o [ Some w ↦ Some w | None ↦ found_values found i ]) None → kept_values entries i ≡ None
      by None is e = is
      by (Some w) is e = absurd cc

  pub none_there : known_in entries found i ≡ None → lookup (same_instance i) found ≡ None
  none_there none = by (kept_values entries i) (lookup (same_instance i) found) refl refl none
    where
      by : (o : Option (Value ℕ)) (x : Option Find) → kept_values entries i ≡ o → lookup (same_instance i) found ≡ x →
          ◌≡◌ {A = Option (Value ℕ)} (elim o [ Some w ↦ Some w | None ↦ option_map (λ (f : Find). value_view f.value) x ]) None → lookup (same_instance i) found ≡ None
      by None None is at e = at
      by None (Some f) is at e = absurd cc
      by (Some w) x is at e = absurd cc

  -- what is kept is known, and so is what was found
  pub kept_known : IsKept entries i → IsSome (known_in entries found i)
  kept_known some = by (kept_values entries i) some
    where
      by : (o : Option (Value ℕ)) → IsSome o → IsSome (elim o [ Some w ↦ Some w | None ↦ found_values found i ])
      by None s = absurd (true≢false (sym s))
      by (Some w) s = refl

  pub found_known : (f : Find) → lookup (same_instance i) found ≡ Some f → IsSome (known_in entries found i)
  found_known f at = by (kept_values entries i)
    where
      there : IsSome (found_values found i)
      there = is_there (found_values found i) (value_view f.value) (ap (option_map (λ (x : Find). value_view x.value)) at)

      by : (o : Option (Value ℕ)) → IsSome (elim o [ Some w ↦ Some w | None ↦ found_values found i ])
      by None = there
      by (Some w) = refl

-- what comes last is found
lookup_last : (es : List (Instance ℕ × Find)) (i : Instance ℕ) (f : Find) → lookup (same_instance i) es ≡ None → lookup (same_instance i) (es ++ (i, f) ∷ []) ≡ Some f
lookup_last [] i f none = rw (same_refl i) refl
lookup_last (e ∷ es) i f none = by (same_instance i e.0) none (lookup_last es i f)
  where
    by : (b : Bool) → (if b then Some e.1 else lookup (same_instance i) es) ≡ None → (lookup (same_instance i) es ≡ None → lookup (same_instance i) (es ++ (i, f) ∷ []) ≡ Some f) →
        (if b then Some e.1 else lookup (same_instance i) (es ++ (i, f) ∷ [])) ≡ Some f
    by true n more = absurd cc
    by false n more = more n

pub lookup_put : (es : List (Instance ℕ × Find)) (i : Instance ℕ) (f : Find) → lookup (same_instance i) es ≡ None → lookup (same_instance i) (insert_entry same_instance es i f) ≡ Some f
lookup_put es i f none =
    subst (λ (fs : List (Instance ℕ × Find)). lookup (same_instance i) fs ≡ Some f) (sym (goes_last es i f (no_key es i none))) (lookup_last es i f none)

-- what the use of the first one takes of what is kept is kept
valued_one : (entries : Entries) (i : Instance ℕ) → IsKept entries i → AreValued entries (i ∷ [])
valued_one entries i here u h = elim (Contains-push_cases [] i u h) [
  | inl (k, less, e) ↦ absurd (omega (arith, less))
  | inr same ↦ subst (IsKept entries) same here
]

valued_none : (entries : Entries) → AreValued entries []
valued_none entries u (k, less, e) = absurd (omega (arith, less))

first_valued : (entries : Entries) (q : Question) (first : Instance ℕ) (place : Option ℕ) (d : Demanded) → IsFirstAt entries q first place → UsesFirst first place d → AreValued entries d.kept.items
first_valued entries q first None d here (kept, finds) = subst (AreValued entries) (sym kept) (valued_one entries first here)
first_valued entries q first (Some p) d there (kept, finds) = subst (AreValued entries) (sym kept) (valued_none entries)

-- another member's find can be first, too
pub can_follow : (rules : Rules) (entries : Entries) (q : Question) (first : Instance ℕ) (place : Option ℕ) (b : Bool) (i : Instance ℕ) (f : Find) →
    CanBeOther rules entries q first place → known_to entries q i ≡ None → IsOtherFind first place b f → CanBeFirst rules entries q i f
can_follow rules entries q first place b i f can none is = record {
  rests = record { kept = first_valued entries q first place f.demanded can.known is.uses; finds = can.finds };
  unknown = none;
  plain = can.plain;
}

-- the instance is known then
pub known_after : {E : Type 0} (rules : Rules) (before after : Entries) (former latter : Memories) (earlier later : ℕ) (old new : Question)
    (i : Instance ℕ) (f : Find) (r : Result (Option ℕ) E) (p : Option ℕ) → r ≡ Ok p → known_to before old i ≡ None →
    HasKeptFirst rules before after former latter earlier later old new i f r → IsSome (known_to after new i)
known_after rules before after former latter earlier later old new i f (Ok None) p is none h =
    let (v, same) = h.place in
    kept_known after new.found.entries i (is_there (kept_values after i) (value_view f.value) v)
known_after rules before after former latter earlier later old new i f (Ok (Some n)) p is none h =
    let (e, last) = h.place in
    found_known after new.found.entries i f
    (ap (λ (fs : List (Instance ℕ × Find)). lookup (same_instance i) fs) last ∙ lookup_put old.found.entries i f (none_there before old.found.entries i none))
known_after rules before after former latter earlier later old new i f (Err e) p is none h = absurd cc
