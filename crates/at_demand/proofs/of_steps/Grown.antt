-- A question stands while more comes to what is kept.
use Rattle.std.proofs.Common.{◌≡◌, ◌⊎◌, ℕ, List, [], ◌∷◌, Option, Some, None, inl, inr, refl, sym, ap, ◌∙◌, append-nil}
use Rattle.std.specs.Prelude.{IsSome}
use Rattle.at_model.specs.Meaning.{Among, Finds}
use Rattle.at_model.specs.Rules.{Rules}
use Rattle.at_model.specs.Run.{Value, Instance}
use Rattle.at_model.specs.of_fixpoints.Searched.{IsWhole}
use Rattle.at_model.specs.of_fixpoints.Searching.{Search}
use Rattle.at_model.proofs.of_formulas.UniqueOutcomes.{once}
use Rattle.at_store.specs.Shown.{Shown, contents}
use Rattle.at_cache.specs.Kept.{Entries}
use Rattle.at_demand.proofs.of_levels.Followed.{followed_same}
use Rattle.at_demand.specs.declared.evaluation.Find.{Find}
use Rattle.at_demand.specs.declared.question.Question.{Question}
use Rattle.at_evaluate.specs.Valued.{IsKept, KeepsEntries, kept_values, meaning}
use Rattle.at_demand.specs.Known.{found_values}
use Rattle.at_demand.specs.Levels.{IsLevel, LevelCode, StandsFor, fault_in, known_to, root_in, seen_in, todo_in}
use Rattle.at_evaluate.specs.Meant.{AreRightValues}
use Rattle.at_demand.specs.Sound.{AreSound}
use Rattle.at_demand.specs.Turns.{IsSparingTurns, IsStanding}
use Rattle.at_evaluate.proofs.Entered.{entered_on, is_there, kept_on, not_none, there, value_on, valued_on}
use Rattle.at_demand.proofs.of_searches.OnceTold.{covered_on}
use Rattle.at_demand.proofs.of_levels.Resolving.{still_known}
use Rattle.at_demand.proofs.of_steps.Met.{have_more, met_more}

one_found : (v w : Value ℕ) → Finds v ≡ Finds w → v ≡ w
one_found v w e = cc

abbrev or_found : List (Instance ℕ × Find) → Instance ℕ → Option (Value ℕ) → Option (Value ℕ)
or_found found i o = elim o [ Some w ↦ Some w | None ↦ found_values found i ]

module _ (rules : Rules) (s : Shown) (entries more : Entries) (grown : KeepsEntries entries more) where
  pub sound_before : AreSound rules s more → AreSound rules s entries
  sound_before sound = record {
    right = λ i v k. sound.right i v (value_on entries more grown i v k);
    whole = λ i some. sound.whole i (kept_on entries more grown i some);
  }

  module _ (q : Question) where
    module _ (sound : AreSound rules s more) (u : Search ℕ) (st : StandsFor rules s entries q u) where
      known_on : (i : Instance ℕ) → IsSome (known_to entries q i) → IsSome (known_to more q i)
      known_on = still_known entries more q q grown [] (sym (append-nil q.found.entries))

      -- what is known is kept, or was known
      known_cases : (i : Instance ℕ) (v : Value ℕ) → known_to more q i ≡ Some v → (kept_values more i ≡ Some v) ⊎ (known_to entries q i ≡ Some v)
      known_cases i v e = by (kept_values more i) refl e
        where
          old : (p : Option (Value ℕ)) → kept_values entries i ≡ p → kept_values more i ≡ None → found_values q.found.entries i ≡ Some v →
              known_to entries q i ≡ Some v
          old None f none h = ap (or_found q.found.entries i) f ∙ h
          old (Some w) f none h = absurd (not_none (kept_values more i) (is_there (kept_values more i) w (value_on entries more grown i w f)) none)

          by : (o : Option (Value ℕ)) → kept_values more i ≡ o → or_found q.found.entries i o ≡ Some v →
              (kept_values more i ≡ Some v) ⊎ (known_to entries q i ≡ Some v)
          by (Some w) k h = inl (k ∙ h)
          by None k h = inr (old (kept_values entries i) refl k h)

      values : AreRightValues (contents s) (meaning rules) (known_to more q)
      values i v e = elim (known_cases i v e) [ inl k ↦ sound.right i v k | inr k ↦ st.facts.values i v k ]

      same_known : (i : Instance ℕ) (v : Value ℕ) → known_to entries q i ≡ Some v → known_to more q i ≡ Some v
      same_known i v e =
          let (w, f) = there (known_to more q i) (known_on i (is_there (known_to entries q i) v e)) in
          let same : v ≡ w = one_found v w (once (contents s) (meaning rules) i (Finds v) (Finds w) (st.facts.values i v e) (values i w f)) in
          f ∙ ap (λ x. Some x) (sym same)

      level_more : (i : Instance ℕ) (d : LevelCode) → IsLevel rules (contents s) (known_to entries q) q.ended.entries i d →
          IsLevel rules (contents s) (known_to more q) q.ended.entries i d
      level_more i d x = record {
        covered = covered_on (known_to entries q) (known_to more q) q.ended.entries q.ended.entries (λ j y at. (y, at, refl)) known_on (root_in d i)
            (seen_in d) (i ∷ todo_in d) (fault_in d) x.covered;
        met = x.met;
        alike = x.alike;
        rooted = x.rooted;
      }

      pub stands_more : StandsFor rules s more q u
      stands_more = record {
        is = record {
          last = st.is.last;
          below = st.is.below;
          ended = λ i h. elim (st.is.ended i h) [ inl k ↦ inl k | inr k ↦ inr (known_on i k) ];
          recorded = st.is.recorded;
          told = λ i v h. same_known i v (st.is.told i v h);
          known = λ i v e. elim (known_cases i v e) [
            | inl k ↦ inl k
            | inr k ↦ elim (st.is.known i v k) [ inl b ↦ inl (value_on entries more grown i v b) | inr a ↦ inr a ]
          ];
          spent = λ i k. spent i (there (known_to more q i) k);
        };
        on = st.on;
        fresh = st.fresh;
        facts = record {
          ends = st.facts.ends;
          forms = λ i f a. let y = st.facts.forms i f a in
              record {
                reads = y.reads;
                demands = y.demands;
                sees = y.sees;
                kept = λ j b. let (k, l) = y.kept j b in (kept_on entries more grown j k, l);
                finds = y.finds;
              };
          circular = st.facts.circular;
          values = values;
          wholes = λ i some. whole i (there (known_to more q i) some);
        };
        levels = record {
          last = level_more q.inst q.level st.levels.last;
          below = λ i d h. level_more i d (st.levels.below i d h);
        };
        whole = record {
          placed = λ i h. elim (st.whole.placed i h) [ inl k ↦ inl (known_on i k) | inr d ↦ inr d ];
          marked = st.whole.marked;
          spoilt = λ i m none. st.whole.spoilt i m (unknown i none (known_to entries q i) refl);
          asked = λ i j f m r a. elim (st.whole.asked i j f m r a) [ inl k ↦ inl (known_on j k) | inr key ↦ inr key ];
        };
        typed = st.typed;
        reached = st.reached;
        few = st.few;
      }
        where
          unknown : (i : Instance ℕ) → known_to more q i ≡ None → (o : Option (Value ℕ)) → known_to entries q i ≡ o → o ≡ None
          unknown i none None e = refl
          unknown i none (Some v) e =
              absurd (not_none (known_to more q i) (known_on i (is_there (known_to entries q i) v e)) none)

          spent : (i : Instance ℕ) → ((v : Value ℕ) × (known_to more q i ≡ Some v)) → IsKept more i ⊎ Among i u.ended
          spent i (v, e) = elim (known_cases i v e) [
            | inl k ↦ inl (is_there (kept_values more i) v k)
            | inr k ↦ elim (st.is.spent i (is_there (known_to entries q i) v k)) [ inl b ↦ inl (kept_on entries more grown i b) | inr a ↦ inr a ]
          ]

          whole : (i : Instance ℕ) → ((v : Value ℕ) × (known_to more q i ≡ Some v)) → IsWhole (contents s) (meaning rules) i
          whole i (v, e) = elim (known_cases i v e) [
            | inl k ↦ sound.whole i (is_there (kept_values more i) v k)
            | inr k ↦ st.facts.wholes i (is_there (known_to entries q i) v k)
          ]

    pub stands_grown : IsStanding rules s entries q → IsStanding rules s more q
    stands_grown st = record {
      levels = λ sound. let (u, x) = st.levels (sound_before sound) in (u, stands_more sound u x);
      plainly = st.plainly;
      kept = λ i f e. valued_on entries more grown f.demanded.kept.items (st.kept i f e);
      passed = λ i v a. value_on entries more grown i v (st.passed i v a);
      whole = st.whole;
    }

    pub spares_grown : IsSparingTurns rules (contents s) entries q → IsSparingTurns rules (contents s) more q
    spares_grown sparing = record {
      lean = sparing.lean;
      settled = λ p i f e. let x = sparing.settled p i f e in
          record { lazy = λ l. kept_on entries more grown i (x.lazy l); took = λ u a. entered_on entries more grown u (x.took u a) };
      met = have_more rules (contents s) entries more q.found.entries q.found.entries
          (met_more entries more grown q.found.entries q.found.entries ([], sym (append-nil q.found.entries))) q.waiting.entries
          (root_in q.level q.inst) sparing.met;
      followed = followed_same rules (contents s) entries more q q grown ([], sym (append-nil q.found.entries))
          (λ j k. k) (λ j k. k) refl sparing.followed;
    }
