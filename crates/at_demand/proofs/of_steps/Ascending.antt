-- The root of the last level is known, where that is no search: it goes off the chain, and the one that waited for it is the last.
use Rattle.std.proofs.Common.{◌≡◌, ◌⊎◌, ◌+◌, ℕ, suc, length, List, [], ◌∷◌, ◌++◌, map, Option, Some, None, inl, inr, refl, sym, ap, ◌∙◌, subst, arith}
use Rattle.std.specs.Prelude.{IsSome}
use Rattle.std.specs.Map.{keys_of}
use Rattle.std.proofs.lemmas.List.{reverse-append}
use Rattle.at_model.specs.Meaning.{Among, Finds, Outcome, Outcomes}
use Rattle.at_model.specs.Rules.{Rules}
use Rattle.at_model.specs.Run.{Value, Instance, Contents, Known}
use Rattle.at_model.specs.of_fixpoints.Fixpoints.{EndsSo, HasValue, Holds, Made}
use Rattle.at_model.specs.of_fixpoints.Formulas.{Forms}
use Rattle.at_model.specs.of_fixpoints.Formulas as formula
use Rattle.at_model.specs.of_fixpoints.Resting.{Comes, Leads}
use Rattle.at_model.specs.of_fixpoints.Searched.{IsFresh, IsOn, tried_at}
use Rattle.at_model.specs.of_fixpoints.Searching.{Adds, IsValued, Level, Search, Turned, begun, under}
use Rattle.at_model.specs.of_fixpoints.Searching as search
use Rattle.at_model.proofs.Reached.{back_among, either_among, front_among}
use Rattle.at_store.specs.Shown.{Shown, contents}
use Rattle.at_cache.specs.Kept.{Entries}
use Rattle.at_search.specs.Recorded.{IsMarked}
use Rattle.at_demand.specs.declared.question.Question.{Question}
use Rattle.at_evaluate.specs.Valued.{IsKept, kept_values, meaning}
use Rattle.at_demand.specs.Levels.{AreFactsOf, HaveAsked, IsAbout, IsLevel, LeadsToFault, LevelCode, StandsFor, all_levels, asked_by, fault_in, known_to, level_of, levels_of, root_in, seen_in, todo_in}
use Rattle.at_evaluate.proofs.Entered.{is_there, not_none, there}
use Rattle.at_demand.proofs.of_searches.OnceTold.{covered_on}
use Rattle.at_demand.proofs.of_searches.Reaching.{asked_at, level_at}
use Rattle.at_demand.proofs.of_searches.Returning.{with_level}

abbrev pub found_so : Instance ℕ → Value ℕ → Instance ℕ × Outcome ℕ
found_so i v = (i, Finds v)

one_value : (v w : Value ℕ) → Finds v ≡ Finds w → v ≡ w
one_value v w e = cc

-- a search at the root of a level of its own, which waits for nothing
abbrev pub alone_at : Instance ℕ → List (Level ℕ) → List (Instance ℕ) → List (Instance ℕ × Outcome ℕ) → Search ℕ
alone_at i ls ended told = record { last = begun i; below = ls; ended = ended; told = told }

-- the search below, once that is told
abbrev pub risen_to : Instance ℕ → Value ℕ → Level ℕ → List (Level ℕ) → List (Instance ℕ) → List (Instance ℕ × Outcome ℕ) → Search ℕ
risen_to i v l ls ended told = record { last = l; below = ls; ended = i ∷ ended; told = found_so i v ∷ told }

module _ (look : Contents ℕ) (forms : Forms ℕ) (kept : Known ℕ) (i : Instance ℕ) (v : Value ℕ) (ended : List (Instance ℕ))
    (told : List (Instance ℕ × Outcome ℕ)) (has : HasValue look forms i v) where
  one_told : (ls : List (Level ℕ)) → Adds look forms (under (begun i ∷ ls)) told (found_so i v ∷ told)
  one_told ls = record {
    stays = λ j o h. inr h;
    holds = λ j o h. elim h [
      | inl e ↦ inr (inl (ap (λ (x : Instance ℕ × Outcome ℕ). x.0) e), subst (λ (x : Instance ℕ × Outcome ℕ). holds_at x) (sym e) has)
      | inr a ↦ inl a
    ];
  }
    where
      holds_at : Instance ℕ × Outcome ℕ → Type 0
      holds_at x = Holds look forms x.0 x.1

  same_told : (these : List (Instance ℕ)) → Adds look forms these (found_so i v ∷ told) (found_so i v ∷ told)
  same_told these = record { stays = λ j o h. h; holds = λ j o h. inl h }

  -- where it is kept
  module _ (k : kept i ≡ Some v) where
    pub rises_kept : (l : Level ℕ) (ls : List (Level ℕ)) →
        Turned look forms kept (alone_at i (l ∷ ls) ended told) (risen_to i v l ls ended told) None
    rises_kept l ls = search.settles (found_so i v ∷ told) (one_told (l ∷ ls))
        (search.passed v k (search.finds l ls v (found_so i v ∷ told) (λ a h. absurd h) refl has (λ a b h c. absurd h) (same_told []) (inl refl)))

    pub ends_kept : Turned look forms kept (alone_at i [] ended told) (alone_at i [] ended told) (Some (Outcomes (Finds v)))
    ends_kept = search.passed v k (search.has_found (alone_at i [] ended told) v (λ a h. absurd h) refl has (λ a b h c. absurd h))

  -- or found, where all to which it comes has a value that is known
  module _ (ends : EndsSo look forms i (Made (formula.Known v))) (ready : (j : Instance ℕ) → Comes look forms i j → IsValued kept told j) where
    ready_more : (j : Instance ℕ) → Comes look forms i j → IsValued kept (found_so i v ∷ told) j
    ready_more j c = let (w, h) = ready j c in (w, elim h [ inl a ↦ inl a | inr a ↦ inr (inr a) ])

    one_seen : (told' : List (Instance ℕ × Outcome ℕ)) → ((j : Instance ℕ) → Comes look forms i j → IsValued kept told' j) →
        (a b : Instance ℕ) → Among a (i ∷ []) → Comes look forms a b → Among b (i ∷ []) ⊎ IsValued kept told' b
    one_seen told' known a b (inl e) c = inr (known b (subst (λ z. Comes look forms z b) e c))
    one_seen told' known a b (inr u) c = absurd u

    pub rises_found : (l : Level ℕ) (ls : List (Level ℕ)) →
        Turned look forms kept (alone_at i (l ∷ ls) ended told) (risen_to i v l ls ended told) None
    rises_found l ls = search.settles (found_so i v ∷ told) (one_told (l ∷ ls))
        (search.ends (Made (formula.Known v)) ends (search.finds l ls v (found_so i v ∷ told) (λ a h. absurd h) refl has
        (one_seen (found_so i v ∷ told) ready_more) (same_told (i ∷ [])) (inl refl)))

    pub ends_found : Turned look forms kept (alone_at i [] ended told) (alone_at i [] ended told) (Some (Outcomes (Finds v)))
    ends_found = search.ends (Made (formula.Known v)) ends
        (search.has_found (alone_at i [] ended told) v (λ a h. absurd h) refl has (one_seen told ready))

-- the levels below, where one that waits is taken off
pub levels_pop : (ws : List (Instance ℕ × LevelCode)) (w : Instance ℕ × LevelCode) → levels_of (ws ++ w ∷ []) ≡ level_at w ∷ levels_of ws
levels_pop ws w = ap (λ us. map level_at us) (reverse-append ws (w ∷ []))

asked_pop : (ws : List (Instance ℕ × LevelCode)) (w : Instance ℕ × LevelCode) (d : LevelCode) (i : Instance ℕ) →
    asked_at ws w.1 w.0 ≡ asked_at (ws ++ w ∷ []) d i
asked_pop [] w d i = refl
asked_pop (x ∷ xs) w d i = refl

pub search_is : (u : Search ℕ) (i : Instance ℕ) (ls : List (Level ℕ)) → u.last ≡ begun i → u.below ≡ ls → u ≡ alone_at i ls u.ended u.told
search_is u i ls a b =
    ap (λ (l : Level ℕ). record { last = l; below = u.below; ended = u.ended; told = u.told }) a
    ∙ ap (λ (ms : List (Level ℕ)). record { last = begun i; below = ms; ended = u.ended; told = u.told }) b

-- The last level is no search, and its root is known now; those that wait are fewer by one, and how equations ended stays.
module _ (rules : Rules) (s : Shown) (before after : Entries) (old new : Question) (level : old.level ≡ None)
    (waits : old.waiting.entries ≡ new.waiting.entries ++ with_level new.level new.inst ∷ [])
    (ended : new.ended.entries ≡ old.ended.entries) where
  pub asked_risen : asked_by new ≡ asked_by old
  asked_risen = asked_pop new.waiting.entries (with_level new.level new.inst) old.level old.inst
      ∙ ap (λ ws. asked_at ws old.level old.inst) (sym waits)

  pub below_pop : levels_of old.waiting.entries ≡ level_of new.inst new.level ∷ levels_of new.waiting.entries
  below_pop = ap (λ ws. levels_of ws) waits ∙ levels_pop new.waiting.entries (with_level new.level new.inst)

  pub waited : (i : Instance ℕ) (d : LevelCode) → Among (with_level d i) (with_level new.level new.inst ∷ new.waiting.entries) →
      Among (with_level d i) old.waiting.entries
  waited i d h = subst (λ ws. Among (with_level d i) ws) (sym waits) (elim h [
    | inl e ↦ back_among (with_level d i) new.waiting.entries (with_level new.level new.inst ∷ []) (inl e)
    | inr a ↦ front_among (with_level d i) new.waiting.entries (with_level new.level new.inst ∷ []) a
  ])

  under_new : (i : Instance ℕ) → Among i (under (levels_of old.waiting.entries)) → Among i (under (all_levels new))
  under_new i h = subst (λ ls. Among i (under ls)) below_pop h

  under_old : (i : Instance ℕ) → Among i (under (all_levels new)) → Among i (under (all_levels old))
  under_old i h = inr (back_among i (seen_in old.level) (under (levels_of old.waiting.entries)) (subst (λ ls. Among i (under ls)) (sym below_pop) h))

  about_old : (i : Instance ℕ) → IsAbout new i → IsAbout old i
  about_old i (inl a) = inl (under_old i a)
  about_old i (inr (j, d, a, b)) = inr (j, d, inr (waited j d a), b)

  module _ (u : Search ℕ) (st : StandsFor rules s before old u) where
    last_is : u.last ≡ begun old.inst
    last_is = st.is.last ∙ ap (λ d. level_of old.inst d) level

    pub start_is : u ≡ alone_at old.inst (level_of new.inst new.level ∷ levels_of new.waiting.entries) u.ended u.told
    start_is = search_is u old.inst (level_of new.inst new.level ∷ levels_of new.waiting.entries) last_is (st.is.below ∙ below_pop)

    abbrev pub risen : Value ℕ → Search ℕ
    risen v = risen_to old.inst v (level_of new.inst new.level) (levels_of new.waiting.entries) u.ended u.told

    -- so the question stands for the search below
    module _ (v : Value ℕ) (known : known_to after new old.inst ≡ Some v)
        (still : (i : Instance ℕ) (w : Value ℕ) → known_to before old i ≡ Some w → known_to after new i ≡ Some w)
        (told : (i : Instance ℕ) (w : Value ℕ) → known_to after new i ≡ Some w → (kept_values after i ≡ Some w) ⊎ Among (found_so i w) (found_so old.inst v ∷ u.told))
        (spent : (i : Instance ℕ) → IsSome (known_to after new i) → IsKept after i ⊎ Among i (old.inst ∷ u.ended))
        (facts : AreFactsOf rules (contents s) after new) (turns : new.turns ≡ old.turns)
        (on : IsOn (contents s) (meaning rules) (asked_by old) (risen v))
        (fresh : IsFresh (contents s) (meaning rules) (asked_by old) (tried_at (level_of new.inst new.level ∷ levels_of new.waiting.entries)) (old.inst ∷ u.ended)) where
      known_on : (i : Instance ℕ) → IsSome (known_to before old i) → IsSome (known_to after new i)
      known_on i some = let (w, e) = there (known_to before old i) some in is_there (known_to after new i) w (still i w e)

      level_on : (i : Instance ℕ) (d : LevelCode) → IsLevel rules (contents s) (known_to before old) old.ended.entries i d →
          IsLevel rules (contents s) (known_to after new) new.ended.entries i d
      level_on i d x = subst (λ es. IsLevel rules (contents s) (known_to after new) es i d) (sym ended) (record {
        covered = covered_on (known_to before old) (known_to after new) old.ended.entries old.ended.entries (λ j y at. (y, at, refl)) known_on
            (root_in d i) (seen_in d) (i ∷ todo_in d) (fault_in d) x.covered;
        met = x.met;
        alike = x.alike;
        rooted = x.rooted;
      })

      led : Leads (contents s) (meaning rules) (asked_by old) old.inst
      led = subst (λ (l : Level ℕ). Leads (contents s) (meaning rules) (asked_by old) l.next) last_is (st.fresh.led u.last.next (inl refl))

      pub stands_risen : StandsFor rules s after new (risen v)
      stands_risen = record {
        is = record {
          last = refl;
          below = refl;
          ended = λ i h. elim h [
            | inl e ↦ inr (subst (λ j. IsSome (known_to after new j)) (sym e) (is_there (known_to after new old.inst) v known))
            | inr a ↦ elim (st.is.ended i a) [ inl k ↦ inl (subst (λ es. Among i (keys_of es)) (sym ended) k) | inr k ↦ inr (known_on i k) ]
          ];
          recorded = λ i h. inr (st.is.recorded i (subst (λ es. Among i (keys_of es)) ended h));
          told = λ i w h. elim h [
            | inl e ↦ told_root i w e
            | inr a ↦ still i w (st.is.told i w a)
          ];
          known = told;
          spent = spent;
        };
        on = subst (λ q. IsOn (contents s) (meaning rules) q (risen v)) (sym asked_risen) on;
        fresh = subst (λ q. IsFresh (contents s) (meaning rules) q (tried_at (level_of new.inst new.level ∷ levels_of new.waiting.entries))
            (old.inst ∷ u.ended)) (sym asked_risen) fresh;
        facts = facts;
        levels = record {
          last = level_on new.inst new.level (st.levels.below new.inst new.level (waited new.inst new.level (inl refl)));
          below = λ i d h. level_on i d (st.levels.below i d (waited i d (inr h)));
        };
        whole = record {
          placed = λ i h. place i (st.whole.placed i (subst (λ es. Among i (keys_of es)) ended h));
          marked = λ i m. st.whole.marked i (subst (λ es. IsMarked es i) ended m);
          spoilt = λ i m none. subst (λ es. LeadsToFault es i) (sym ended)
              (st.whole.spoilt i (subst (λ es. IsMarked es i) ended m) (unknown i none (known_to before old i) refl));
          asked = subst (λ es. HaveAsked (known_to after new) es) (sym ended)
              (λ i j f m r a. elim (st.whole.asked i j f m r a) [ inl k ↦ inl (known_on j k) | inr key ↦ inr key ]);
        };
        typed = λ i a. st.typed i (about_old i a);
        reached = λ i o h. subst (λ q. Leads (contents s) (meaning rules) q i) (sym asked_risen) (elim h [
          | inl e ↦ subst (λ j. Leads (contents s) (meaning rules) (asked_by old) j) (sym (ap (λ (x : Instance ℕ × Outcome ℕ). x.0) e)) led
          | inr a ↦ st.reached i o a
        ]);
        few =
            let most = st.few in
            let size : length u.below ≡ suc (length (levels_of new.waiting.entries)) = ap (λ (ls : List (Level ℕ)). length ls) (st.is.below ∙ below_pop) in
            omega (arith, turns, most, size);
      }
        where
          told_root : (i : Instance ℕ) (w : Value ℕ) → found_so i w ≡ found_so old.inst v → known_to after new i ≡ Some w
          told_root i w e =
              let same : i ≡ old.inst = ap (λ (x : Instance ℕ × Outcome ℕ). x.0) e in
              let is : w ≡ v = one_value w v (ap (λ (x : Instance ℕ × Outcome ℕ). x.1) e) in
              ap (λ j. known_to after new j) same ∙ known ∙ ap (λ x. Some x) (sym is)

          unknown : (i : Instance ℕ) → known_to after new i ≡ None → (o : Option (Value ℕ)) → known_to before old i ≡ o → o ≡ None
          unknown i none None e = refl
          unknown i none (Some w) e = absurd (not_none (known_to after new i) (is_there (known_to after new i) w (still i w e)) none)

          place : (i : Instance ℕ) → IsSome (known_to before old i) ⊎ (IsMarked old.ended.entries i ⊎ Among i (under (all_levels old))) →
              IsSome (known_to after new i) ⊎ (IsMarked new.ended.entries i ⊎ Among i (under (all_levels new)))
          place i (inl k) = inl (known_on i k)
          place i (inr (inl m)) = inr (inl (subst (λ es. IsMarked es i) (sym ended) m))
          place i (inr (inr (inl e))) = inl (subst (λ j. IsSome (known_to after new j)) (sym e) (is_there (known_to after new old.inst) v known))
          place i (inr (inr (inr h))) = elim (either_among i (seen_in old.level) (under (levels_of old.waiting.entries)) h) [
            | inl a ↦ absurd (subst (λ (d : LevelCode). Among i (seen_in d)) level a)
            | inr a ↦ inr (inr (under_new i a))
          ]
