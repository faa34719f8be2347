-- A search that meets no fault, step by step.
use Rattle.std.proofs.Common.{◌≡◌, ◌⊎◌, ℕ, List, [], ◌∷◌, ◌++◌, Bool, true, false, Option, Some, None, IsSome, is_some, inl, inr, refl, sym, subst, ◌∙◌, true≢false}
use Rattle.std.specs.Prelude.{IfNone}
use Rattle.std.specs.Map.{lookup}
use Rattle.at_model.specs.Run.{Instance, Contents, Known}
use Rattle.at_model.specs.Meaning.{Among}
use Rattle.at_model.specs.of_fixpoints.Formulas.{Formula, Forms}
use Rattle.at_model.specs.of_fixpoints.Fixpoints.{End, Made, Spoilt, LeadsOver, AreFormed, EndsSo}
use Rattle.at_model.specs.of_fixpoints.Fixpoints as fixpoints
use Rattle.at_model.specs.of_fixpoints.Searching.{asked_in}
use Rattle.at_model.specs.of_fixpoints.Searched.{EndsWell, IsClosedIn, IsMade}
use Rattle.at_model.proofs.of_searching.PassedCircles.{ends_one}
use Rattle.at_model.proofs.of_searching.Wholes.{seen_whole}
use Rattle.at_body.specs.Same.{same_instance}
use Rattle.at_search.specs.declared.ended.Ended.{Ended}
use Rattle.at_search.specs.declared.ended.Ending.{Ending}
use Rattle.at_search.specs.declared.ended.Ending.TheVariants as ending
use Rattle.at_search.specs.declared.ended.Fault.{Fault}
use Rattle.at_search.specs.declared.search.Search.{Search}
use Rattle.at_search.specs.Recorded.{AreFacts, AreWhole, HasMetFirst, HasMetIn, end_of, seen_by, todo_of}
use Rattle.at_search.specs.LedTo.{HasLookedOn, IsFaultless, LeadsOut}
use Rattle.at_search.proofs.Coming.{leads_out, sees_to as comes_to}
use Rattle.at_search.proofs.Gathering.{no_value}

-- a fault that is met is there
met_some : (s : Fault) (old new : Option Fault) → HasMetFirst s old new → new ≡ None → ⊥
met_some s None new (f, e, c) none = let q : Some f ≡ None = sym e ∙ none in absurd cc
met_some s (Some f) new e none = let q : Some f ≡ None = sym e ∙ none in absurd cc

-- where none is there, the ending was a formula
made : (e : Ending) (old new : Option Fault) → HasMetIn e old new → new ≡ None → IsMade (end_of e)
made (ending.Formed f) old new h none = tt
made (ending.Spoilt s) old new h none = absurd (met_some s old new h none)

module _ (known : Known ℕ) (ended : List (Instance ℕ × Ended)) (i : Instance ℕ) where
  abbrev Faultless : (seen todo : List (Instance ℕ)) → Type 0
  Faultless seen todo = IsFaultless known ended i seen todo

  -- the next one is seen, and the lists are what they come to
  pub sees_to : (seen todo seen' todo' : List (Instance ℕ)) (k : Instance ℕ) (x : Ended) (old new : Option Fault) →
      Faultless seen (k ∷ todo) → None ≡ known k → Some x ≡ lookup (same_instance k) ended → HasMetIn x.ending old new →
      seen' ≡ k ∷ seen → todo' ≡ asked_in (end_of x.ending) ++ todo → new ≡ None → Faultless seen' todo'
  sees_to seen todo seen' todo' k x old new g none found met es et no_fault =
      comes_to (λ j. IsSome (known j)) IsMade ended i seen todo seen' todo' k (end_of x.ending) g (no_value (known k) none)
      (x, sym found, refl) (made x.ending old new met no_fault) es et

  -- nothing is recorded of the next one, which isn't known
  pub looks_out : (seen todo : List (Instance ℕ)) (k : Instance ℕ) → Faultless seen (k ∷ todo) → None ≡ known k → None ≡ lookup (same_instance k) ended →
      LeadsOut (λ j. IsSome (known j)) ended i
  looks_out seen todo k g none unrecorded =
      leads_out (λ j. IsSome (known j)) IsMade ended i seen todo k g (no_value (known k) none) (sym unrecorded)

  no_fault_in : (o : Option Fault) → is_some o ≡ false → o ≡ None
  no_fault_in None e = refl
  no_fault_in (Some f) e = absurd (true≢false e)

  -- the search has come further, and met no fault
  pub gone_on : (s : Search) (b has : Bool) → b ≡ true → has ≡ is_some s.fault → has ≡ false → HasLookedOn known ended i s b →
      Faultless (seen_by s) (todo_of s)
  gone_on s true has e is off h = h (no_fault_in s.fault (sym is ∙ off))
  gone_on s false has e is off h = absurd (true≢false (sym e))

  -- or it has come to what isn't recorded
  pub led_out : (s : Search) (b : Bool) → b ≡ false → HasLookedOn known ended i s b → LeadsOut (λ k. IsSome (known k)) ended i
  led_out s true e h = absurd (true≢false e)
  led_out s false e h = h

  module _ (look : Contents ℕ) (forms : Forms ℕ) (facts : AreFacts look forms ended) (wholes : AreWhole look forms known) where
    abbrev Whole : Instance ℕ → Type 0
    Whole j = IsClosedIn (EndsSo look forms) IsMade j

    ends_all : (seen : List (Instance ℕ)) → Faultless seen [] → (j : Instance ℕ) → Among j seen →
        EndsWell (EndsSo look forms) IsMade (λ k. Whole k ⊎ Among k seen) j
    ends_all seen g j h =
        let x = g.closed j h in record {
          end = x.end;
          ends = facts j x.end x.ends;
          good = x.good;
          next = λ k a. elim (x.next k a) [
            | inl b ↦ inr b
            | inr b ↦ elim b [ inl kept ↦ inl (wholes k kept) | inr u ↦ absurd u ]
          ];
        }

    -- what is whole has formulas alone
    are_formed : (W : List (Instance ℕ)) → ((j : Instance ℕ) → Among j W → EndsWell (EndsSo look forms) IsMade (λ k. Among k W) j) →
        (j k : Instance ℕ) → Among j W → LeadsOver (EndsSo look forms) j k → (f : Formula ℕ) × EndsSo look forms k (Made f)
    are_formed W c _ _ h (fixpoints.stays j) = let x = c j h in by x.end x.ends x.good
      where
        by : (e : End ℕ (Formula ℕ)) → EndsSo look forms j e → IsMade e → (f : Formula ℕ) × EndsSo look forms j (Made f)
        by (Made f) y g = (f, y)
        by (Spoilt k at) y g = absurd g
    are_formed W c _ k h (fixpoints.goes j m _ f e a l) =
        let x = c j h in
        let same : x.end ≡ Made f = ends_one look forms j x.end (Made f) x.ends e in
        are_formed W c m k (x.next m (subst (λ z. Among m (asked_in z)) (sym same) a)) l

    -- nothing is to do, and no fault was met
    pub formed_at_end : (seen todo : List (Instance ℕ)) → Faultless seen todo → todo ≡ [] → AreFormed (EndsSo look forms) i
    formed_at_end seen todo g et = at_end (subst (λ z. Faultless seen z) et g)
      where
        whole : Faultless seen [] → Whole i
        whole x = elim x.first [
          | inl h ↦ seen_whole (EndsSo look forms) IsMade seen (ends_all seen x) i h
          | inr b ↦ elim b [ inl kept ↦ wholes i kept | inr u ↦ absurd u ]
        ]

        at_end : Faultless seen [] → AreFormed (EndsSo look forms) i
        at_end x = let (W, c, h) = whole x in λ j l. are_formed W c i j h l

-- the fault that was met is taken out
pub none_taken : (P : Type 0) (o p : Option Fault) (has : Bool) → p ≡ o → has ≡ is_some o → has ≡ true → IfNone p P
none_taken P None p has e is on = absurd (true≢false (sym on ∙ is))
none_taken P (Some f) p has e is on = subst (λ z. IfNone z P) (sym e) tt
