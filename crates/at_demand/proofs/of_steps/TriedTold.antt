-- More is known since, of what levels under way have seen: it is told to the search for which a question stands.
use Rattle.std.proofs.Common.{◌≡◌, ◌⊎◌, ◌≤◌, ℕ, List, ◌∷◌, ◌++◌, Some, inl, inr, refl, sym, ap, ◌∙◌, subst}
use Rattle.std.specs.Prelude.{IsSome}
use Rattle.std.specs.Map.{keys_of}
use Rattle.at_model.specs.Meaning.{Among, Finds, Outcome}
use Rattle.at_model.specs.Rules.{Rules}
use Rattle.at_model.specs.Run.{Value, Instance}
use Rattle.at_model.specs.of_fixpoints.Fixpoints.{Holds}
use Rattle.at_model.specs.of_fixpoints.Resting.{Leads}
use Rattle.at_model.specs.of_fixpoints.Searched.{IsFresh, tried_at}
use Rattle.at_model.specs.of_fixpoints.Searching.{Adds, Level, Search, most_turns, under}
use Rattle.at_model.proofs.Reached.{back_among, either_among, front_among}
use Rattle.at_model.proofs.of_formulas.UniqueOutcomes.{once}
use Rattle.at_store.specs.Shown.{Shown, contents}
use Rattle.at_cache.specs.Kept.{Entries}
use Rattle.at_cache.specs.Traced.{Memories}
use Rattle.at_demand.proofs.of_levels.Followed.{followed_same}
use Rattle.at_demand.specs.declared.question.Question.{Question}
use Rattle.at_demand.specs.Groups.{Tells}
use Rattle.at_evaluate.specs.Valued.{kept_values, meaning}
use Rattle.at_demand.specs.Levels.{IsAbout, IsLevel, LevelCode, StandsFor, all_levels, asked_by, fault_in, known_to, level_of, levels_of, root_in, seen_in, todo_in}
use Rattle.at_demand.specs.Searches.{CanResolve}
use Rattle.at_demand.specs.Turns.{IsFollowed}
use Rattle.at_evaluate.proofs.Entered.{is_there, kept_on, there, value_on}
use Rattle.at_demand.proofs.Recalling.{known_kept}
use Rattle.at_demand.proofs.of_levels.FromTry.{led_levels}
use Rattle.at_demand.proofs.of_searches.OnceTold.{IsToldOf, adds_told, covered_on, found_as, told_in, told_is, told_of}
use Rattle.at_demand.proofs.of_searches.Reaching.{asked_at}
use Rattle.at_demand.proofs.of_levels.Resolving.{same_levels, still_known}
use Rattle.at_demand.proofs.of_searches.Returning.{with_level}
use Rattle.at_demand.proofs.of_steps.TryUnderWay.{with_told}

same_value : (v w : Value ℕ) → Finds v ≡ Finds w → v ≡ w
same_value v w e = cc

abbrev AboutAt : List (Instance ℕ × LevelCode) → LevelCode → Instance ℕ → Instance ℕ → Type 0
AboutAt ws d i k = Among k (under (level_of i d ∷ levels_of ws)) ⊎ ((j : Instance ℕ) × (e : LevelCode) × Among (with_level e j) (with_level d i ∷ ws)
    × (Among k (todo_in e) ⊎ (k ≡ root_in e j)))

module _ {Whole : Type 0} (rules : Rules) (s : Shown) (before after : Entries) (former latter : Memories) (earlier later : ℕ) (old new : Question)
    (t : Tells rules s before after former latter earlier later old new (under (all_levels old)) Whole) where
  still : (i : Instance ℕ) → IsSome (known_to before old i) → IsSome (known_to after new i)
  still = let (more, grown) = t.finds in still_known before after old new t.stays more grown

  about_back : (k : Instance ℕ) → IsAbout new k → IsAbout old k
  about_back k a = subst (λ i. AboutAt old.waiting.entries old.level i k) t.chain.inst
      (subst (λ d. AboutAt old.waiting.entries d new.inst k) t.level (subst (λ ws. AboutAt ws new.level new.inst k) t.chain.waiting a))

  -- all is followed still
  pub followed_told : IsFollowed rules (contents s) before old → IsFollowed rules (contents s) after new
  followed_told = followed_same rules (contents s) before after old new t.stays t.finds (λ j k. subst
      (λ ks. Among j ks) (sym t.ended) k)
      (λ j k. subst (λ ks. Among j ks) t.ended k) (same_levels old new t.chain.waiting t.chain.inst t.level)

  pub asked_told : asked_by new ≡ asked_by old
  asked_told = ap (λ ws. asked_at ws new.level new.inst) t.chain.waiting ∙ ap (λ d. asked_at old.waiting.entries d new.inst) t.level
      ∙ ap (λ i. asked_at old.waiting.entries old.level i) t.chain.inst

  level_told : (i : Instance ℕ) (d : LevelCode) → IsLevel rules (contents s) (known_to before old) old.ended.entries i d →
      IsLevel rules (contents s) (known_to after new) new.ended.entries i d
  level_told i d x = record {
    covered = covered_on (known_to before old) (known_to after new) old.ended.entries new.ended.entries t.endings still (root_in d i) (seen_in d) (i ∷ todo_in d)
        (fault_in d) x.covered;
    met = x.met;
    alike = x.alike;
    rooted = x.rooted;
  }

  module _ (u : Search ℕ) (st : StandsFor rules s before old u) where
    one_value : (i : Instance ℕ) (v w : Value ℕ) → known_to before old i ≡ Some v → known_to after new i ≡ Some w → v ≡ w
    one_value i v w e f = same_value v w (once (contents s) (meaning rules) i (Finds v) (Finds w) (st.facts.values i v e) (t.values i w f))

    same_known : (i : Instance ℕ) (v : Value ℕ) → known_to before old i ≡ Some v → known_to after new i ≡ Some v
    same_known i v e =
        let (w, f) = there (known_to after new i) (still i (is_there (known_to before old i) v e)) in
        f ∙ ap (λ x. Some x) (sym (one_value i v w e f))

    abbrev pub told_now : List (Instance ℕ × Outcome ℕ)
    told_now = told_of (known_to after new) (under (all_levels old)) ++ u.told

    -- each value that is known was kept before, or is told
    pub known_or_told : (i : Instance ℕ) (v : Value ℕ) → known_to after new i ≡ Some v → (kept_values before i ≡ Some v) ⊎ Among (found_as v i) told_now
    known_or_told i v e = elim (t.told i (is_there (known_to after new i) v e)) [
      | inl b ↦ was (there (known_to before old i) b)
      | inr a ↦ inr (front_among (found_as v i) (told_of (known_to after new) (under (all_levels old))) u.told
          (told_in (known_to after new) (under (all_levels old)) i v e a))
    ]
      where
        was : ((w : Value ℕ) × (known_to before old i ≡ Some w)) → (kept_values before i ≡ Some v) ⊎ Among (found_as v i) told_now
        was (w, f) = elim (st.is.known i v (f ∙ ap (λ x. Some x) (one_value i w v f e))) [
          | inl g ↦ inl g
          | inr g ↦ inr (back_among (found_as v i) (told_of (known_to after new) (under (all_levels old))) u.told g)
        ]

    pub kept_or_told : (i : Instance ℕ) (v : Value ℕ) → kept_values after i ≡ Some v → (kept_values before i ≡ Some v) ⊎ Among (found_as v i) told_now
    kept_or_told i v e = known_or_told i v (known_kept after new.found.entries i v v (sym e) refl)

    levels_are : u.last ∷ u.below ≡ all_levels old
    levels_are = ap (λ (l : Level ℕ). l ∷ u.below) st.is.last ∙ ap (λ ls. level_of old.inst old.level ∷ ls) st.is.below

    pub adds_now : Adds (contents s) (meaning rules) (under (u.last ∷ u.below)) u.told told_now
    adds_now = subst (λ ls. Adds (contents s) (meaning rules) (under ls) u.told told_now) (sym levels_are)
        (adds_told (known_to after new) (contents s) (meaning rules) t.values (under (all_levels old)) u.told)

    holds_now : (i : Instance ℕ) (o : Outcome ℕ) → IsToldOf (known_to after new) (under (all_levels old)) i o → Holds (contents s) (meaning rules) i o
    holds_now i o (a, v, k, e) = subst (λ p. Holds (contents s) (meaning rules) i p) (sym e) (t.values i v k)

    told_value : (i : Instance ℕ) (v : Value ℕ) → IsToldOf (known_to after new) (under (all_levels old)) i (Finds v) → known_to after new i ≡ Some v
    told_value i v (a, w, k, e) = k ∙ ap (λ x. Some x) (sym (same_value v w e))

    led_now : (i : Instance ℕ) (o : Outcome ℕ) → IsToldOf (known_to after new) (under (all_levels old)) i o → Leads (contents s) (meaning rules) (asked_by old) i
    led_now i o (a, v, k, e) = led_levels rules s before old u st i (subst (λ ls. Among i (under ls)) (sym levels_are) a)

    level_is : level_of new.inst new.level ≡ level_of old.inst old.level
    level_is = ap (λ d. level_of new.inst d) t.level ∙ ap (λ i. level_of i old.level) t.chain.inst

    -- the question stands for the search that was told that
    pub stands_since : ((i : Instance ℕ) → IsSome (known_to after new i) → IsSome (known_to before old i) ⊎ Among i (keys_of old.ended.entries)) →
        CanResolve rules s after new → StandsFor rules s after new (with_told u told_now)
    stands_since since can = record {
      is = record {
        last = st.is.last ∙ sym level_is;
        below = st.is.below ∙ sym (ap (λ ws. levels_of ws) t.chain.waiting);
        ended = λ i h. elim (st.is.ended i h) [ inl k ↦ inl (subst (λ ks. Among i ks) (sym t.ended) k) | inr k ↦ inr (still i k) ];
        recorded = λ i h. st.is.recorded i (subst (λ ks. Among i ks) t.ended h);
        told = λ i v h. elim (either_among (found_as v i) (told_of (known_to after new) (under (all_levels old))) u.told h) [
          | inl a ↦ told_value i v (told_is (known_to after new) (under (all_levels old)) i (Finds v) a)
          | inr b ↦ same_known i v (st.is.told i v b)
        ];
        known = λ i v e. elim (known_or_told i v e) [ inl k ↦ inl (value_on before after t.stays i v k) | inr b ↦ inr b ];
        spent = λ i k. elim (since i k) [
          | inl b ↦ elim (st.is.spent i b) [ inl x ↦ inl (kept_on before after t.stays i x) | inr y ↦ inr y ]
          | inr key ↦ inr (st.is.recorded i key)
        ];
      };
      on = record {
        starts = st.on.starts ∙ sym asked_told;
        last = st.on.last;
        stacked = st.on.stacked;
        told = λ i o h. elim (either_among (i, o) (told_of (known_to after new) (under (all_levels old))) u.told h) [
          | inl a ↦ holds_now i o (told_is (known_to after new) (under (all_levels old)) i o a)
          | inr b ↦ st.on.told i o b
        ];
        ended = st.on.ended;
      };
      fresh = subst (λ q. IsFresh (contents s) (meaning rules) q (tried_at (u.last ∷ u.below)) u.ended) (sym asked_told) st.fresh;
      facts = can.facts;
      levels = record {
        last = subst (λ i. IsLevel rules (contents s) (known_to after new) new.ended.entries i new.level) (sym t.chain.inst)
            (subst (λ d. IsLevel rules (contents s) (known_to after new) new.ended.entries old.inst d) (sym t.level)
            (level_told old.inst old.level st.levels.last));
        below = λ i d h. level_told i d (st.levels.below i d (subst (λ ws. Among (with_level d i) ws) t.chain.waiting h));
      };
      whole = can.whole;
      typed = λ i a. st.typed i (about_back i a);
      reached = λ i o h. subst (λ q. Leads (contents s) (meaning rules) q i) (sym asked_told)
          (elim (either_among (i, o) (told_of (known_to after new) (under (all_levels old))) u.told h) [
            | inl a ↦ led_now i o (told_is (known_to after new) (under (all_levels old)) i o a)
            | inr b ↦ st.reached i o b
          ]);
      few = subst (λ n. n ≤ most_turns u) (sym t.turns) st.few;
    }
