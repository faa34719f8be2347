-- What is told once it is known: between two tries more may be known, of instances that levels under way have seen.
use Rattle.std.proofs.Common.{◌≡◌, ◌⊎◌, ℕ, ◌+◌, ◌*◌, ◌≤◌, length, List, [], ◌∷◌, ◌++◌, Option, Some, None, inl, inr, refl, sym, ap, ◌∙◌, subst}
use Rattle.std.specs.Prelude.{IsSome}
use Rattle.std.specs.Map.{keys_of}
use Rattle.at_model.specs.Meaning.{Among, Finds, Outcome}
use Rattle.at_model.specs.Rules.{Rules}
use Rattle.at_model.specs.Run.{Value, Instance, Contents, Known}
use Rattle.at_model.specs.of_fixpoints.Fixpoints.{End, Made, Holds, LeadsOver, stays, goes}
use Rattle.at_model.specs.of_fixpoints.Formulas.{Formula, Forms}
use Rattle.at_model.specs.of_fixpoints.Resting.{Leads}
use Rattle.at_model.specs.of_fixpoints.Searched.{IsFresh, IsMade, Within, tried_at}
use Rattle.at_model.specs.of_fixpoints.Searching.{Adds, Looked, under}
use Rattle.at_model.proofs.Reached.{back_among, either_among, front_among}
use Rattle.at_model.proofs.of_formulas.UniqueOutcomes.{once}
use Rattle.at_store.specs.Shown.{Shown, contents}
use Rattle.at_cache.specs.Kept.{Entries}
use Rattle.at_cache.specs.Traced.{Memories}
use Rattle.at_search.specs.LedTo.{IsMet}
use Rattle.at_search.specs.Recorded.{MetFrom, Recorded}
use Rattle.at_search.specs.declared.ended.Ended.{Ended}
use Rattle.at_search.specs.declared.ended.Fault.{Fault}
use Rattle.at_demand.specs.declared.question.Question.{Question}
use Rattle.at_demand.specs.Groups.{Tells}
use Rattle.at_evaluate.specs.Valued.{kept_values, meaning}
use Rattle.at_demand.specs.Levels.{IsAbout, IsCovered, IsLevel, LevelCode, asked_by, fault_in, known_to, level_of, levels_of, root_in, seen_in, todo_in}
use Rattle.at_evaluate.specs.Meant.{AreRightValues}
use Rattle.at_demand.specs.Searches.{AreKeptOrTold, CanResolve, IsLooked, StandsBetween}
use Rattle.at_evaluate.proofs.Entered.{is_there, kept_on, there, value_on}
use Rattle.at_demand.proofs.of_searches.Circling.{one_recorded}
use Rattle.at_demand.proofs.of_searches.Reaching.{asked_at}
use Rattle.at_demand.proofs.of_levels.Resolving.{EndingsStay, recorded_on, still_known}

-- one more is told, if it is known
abbrev pub found_as : Value ℕ → Instance ℕ → Instance ℕ × Outcome ℕ
found_as v i = (i, Finds v)

abbrev pub and_told : Instance ℕ → Option (Value ℕ) → List (Instance ℕ × Outcome ℕ) → List (Instance ℕ × Outcome ℕ)
and_told i None ts = ts
and_told i (Some v) ts = found_as v i ∷ ts

-- the values that are known of these
abbrev pub told_of : Known ℕ → List (Instance ℕ) → List (Instance ℕ × Outcome ℕ)
told_of known [] = []
told_of known (i ∷ is) = and_told i (known i) (told_of known is)

module _ (known : Known ℕ) where
  past_one : (j : Instance ℕ) (o : Option (Value ℕ)) (ts : List (Instance ℕ × Outcome ℕ)) (x : Instance ℕ × Outcome ℕ) → Among x ts → Among x (and_told j o ts)
  past_one j None ts x h = h
  past_one j (Some v) ts x h = inr h

  pub told_in : (is : List (Instance ℕ)) (i : Instance ℕ) (v : Value ℕ) → known i ≡ Some v → Among i is → Among (found_as v i) (told_of known is)
  told_in [] i v e h = absurd h
  told_in (j ∷ is) i v e (inl s) =
      let at : known j ≡ Some v = ap known (sym s) ∙ e in
      subst (λ o. Among (found_as v i) (and_told j o (told_of known is))) (sym at) (inl (ap (found_as v) s))
  told_in (j ∷ is) i v e (inr h) = past_one j (known j) (told_of known is) (found_as v i) (told_in is i v e h)

  -- it is one of these, and known so
  abbrev pub IsToldOf : List (Instance ℕ) → Instance ℕ → Outcome ℕ → Type 0
  IsToldOf is i o = Among i is × (v : Value ℕ) × (known i ≡ Some v) × (o ≡ Finds v)

  pub told_is : (is : List (Instance ℕ)) (i : Instance ℕ) (o : Outcome ℕ) → Among (i, o) (told_of known is) → IsToldOf is i o
  told_is [] i o h = absurd h
  told_is (j ∷ is) i o h = by (known j) refl h (told_is is i o)
    where
      more : IsToldOf is i o → IsToldOf (j ∷ is) i o
      more (a, v, k, s) = (inr a, v, k, s)

      by : (p : Option (Value ℕ)) → known j ≡ p → Among (i, o) (and_told j p (told_of known is)) → (Among (i, o) (told_of known is) → IsToldOf is i o) →
          IsToldOf (j ∷ is) i o
      by None e h rest = more (rest h)
      by (Some w) e (inl s) rest =
          let same : i ≡ j = ap (λ (x : Instance ℕ × Outcome ℕ). x.0) s in
          let is' : o ≡ Finds w = ap (λ (x : Instance ℕ × Outcome ℕ). x.1) s in
          (inl same, w, ap known same ∙ e, is')
      by (Some w) e (inr h) rest = more (rest h)

  pub adds_told : (look : Contents ℕ) (forms : Forms ℕ) → AreRightValues look forms known → (these : List (Instance ℕ)) (told : List (Instance ℕ × Outcome ℕ)) →
      Adds look forms these told (told_of known these ++ told)
  adds_told look forms right these told = record {
    stays = λ i o h. back_among (i, o) (told_of known these) told h;
    holds = λ i o h. elim (either_among (i, o) (told_of known these) told h) [ inl a ↦ inr (now i o (told_is these i o a)) | inr b ↦ inl b ];
  }
    where
      now : (i : Instance ℕ) (o : Outcome ℕ) → IsToldOf these i o → Among i these × Holds look forms i o
      now i o (a, v, k, s) = (a, subst (λ p. Holds look forms i p) (sym s) (right i v k))

same_value : (v w : Value ℕ) → Finds v ≡ Finds w → v ≡ w
same_value v w e = cc

-- a search's order stays where more is recorded and known
module _ (before after : Known ℕ) (old new : List (Instance ℕ × Ended)) (on : EndingsStay old new) (known : (i : Instance ℕ) → IsSome (before i) → IsSome (after i))
    (root : Instance ℕ) (seen todo : List (Instance ℕ)) (fault : Option Fault) (c : IsCovered before old root seen todo fault) where
  was_recorded : (i : Instance ℕ) (f : Formula ℕ) → Among i seen → Recorded new i (Made f) → Recorded old i (Made f)
  was_recorded i f h r =
      let (e, x, g) = c.ends i h in
      subst (λ z. Recorded old i z) (one_recorded new i e (Made f) (recorded_on old new on i e x) r) x

  led_within : (i j : Instance ℕ) → LeadsOver (Within (Recorded old) seen) i j → LeadsOver (Within (Recorded new) seen) i j
  led_within _ j (stays _) = stays j
  led_within _ j (goes i m _ f (h, r) a l) = goes i m j f (h, recorded_on old new on i (Made f) r) a (led_within m j l)

  met_on : (i : Instance ℕ) → IsMet (λ k. IsSome (before k)) seen todo i → IsMet (λ k. IsSome (after k)) seen todo i
  met_on i (inl a) = inl a
  met_on i (inr (inl k)) = inr (inl (known i k))
  met_on i (inr (inr t)) = inr (inr t)

  pub covered_on : IsCovered after new root seen todo fault
  covered_on = record {
    first = met_on root c.first;
    ends = λ i h. ended i (c.ends i h);
    order = record {
      covered = λ i u f h r a. elim (c.order.covered i u f h (was_recorded i f h r) a) [ inl k ↦ inl (known u k) | inr d ↦ inr d ];
      leads = λ i u f h r a b off none t first.
          led_within i t (c.order.leads i u f h (was_recorded i f h r) a b off (λ k. none (known u k)) t first);
    };
  }
    where
      ended : (i : Instance ℕ) → ((e : End ℕ (Formula ℕ)) × Recorded old i e × (fault ≡ None → IsMade e)) →
          (e : End ℕ (Formula ℕ)) × Recorded new i e × (fault ≡ None → IsMade e)
      ended i (e, x, g) = (e, recorded_on old new on i e x, g)

-- What stood between two tries stands where more is known since, and is told: those that are told are among these.
module _ {Whole : Type 0} (rules : Rules) (s : Shown) (before after : Entries) (former latter : Memories) (earlier later : ℕ) (old new : Question)
    (these : List (Instance ℕ)) (t : Tells rules s before after former latter earlier later old new these Whole) (l : Looked ℕ)
    (st : StandsBetween rules s before old l) (those : List (Instance ℕ))
    (only : (i : Instance ℕ) → IsSome (known_to after new i) → IsSome (known_to before old i) ⊎ Among i those) where
  still : (i : Instance ℕ) → IsSome (known_to before old i) → IsSome (known_to after new i)
  still = let (more, grown) = t.finds in still_known before after old new t.stays more grown

  one_value : (i : Instance ℕ) (v w : Value ℕ) → known_to before old i ≡ Some v → known_to after new i ≡ Some w → v ≡ w
  one_value i v w e f = same_value v w
      (once (contents s) (meaning rules) i (Finds v) (Finds w) (st.can.facts.values i v e) (t.values i w f))

  same_known : (i : Instance ℕ) (v : Value ℕ) → known_to before old i ≡ Some v → known_to after new i ≡ Some v
  same_known i v e =
      let (w, f) = there (known_to after new i) (still i (is_there (known_to before old i) v e)) in
      f ∙ ap (λ x. Some x) (sym (one_value i v w e f))

  abbrev pub looked_now : Looked ℕ
  looked_now = record l { told = told_of (known_to after new) those ++ l.told }

  told_value : (i : Instance ℕ) (v : Value ℕ) → IsToldOf (known_to after new) those i (Finds v) → known_to after new i ≡ Some v
  told_value i v (a, w, k, e) = k ∙ ap (λ x. Some x) (sym (same_value v w e))

  -- each value that was kept before, or told, is kept then or told now
  pub kept_or_told : (first : Entries) → AreKeptOrTold first before old l → AreKeptOrTold first after new looked_now
  kept_or_told first k i v e = elim (only i (is_there (known_to after new i) v e)) [
    | inl b ↦ was (there (known_to before old i) b)
    | inr a ↦ inr (front_among (found_as v i) (told_of (known_to after new) those) l.told (told_in (known_to after new) those i v e a))
  ]
    where
      was : ((w : Value ℕ) × (known_to before old i ≡ Some w)) → (kept_values first i ≡ Some v) ⊎ Among (found_as v i) looked_now.told
      was (w, f) = elim (k i v (f ∙ ap (λ x. Some x) (one_value i w v f e))) [
        | inl g ↦ inl g
        | inr g ↦ inr (back_among (found_as v i) (told_of (known_to after new) those) l.told g)
      ]

  -- what is known since had ended
  abbrev pub HadEnded : Type 0
  HadEnded = (i : Instance ℕ) → IsSome (known_to after new i) → IsSome (known_to before old i) ⊎ Among i (keys_of old.ended.entries)

  pub looked_on : HadEnded → IsLooked after new looked_now
  looked_on since = record {
    root = st.is.root ∙ sym (ap (λ (d : LevelCode). root_in d new.inst) t.level ∙ ap (λ j. root_in old.level j) t.chain.inst);
    seen = st.is.seen ∙ sym (ap (λ (d : LevelCode). seen_in d) t.level);
    todo = st.is.todo ∙ sym (ap (λ (d : LevelCode). todo_in d) t.level);
    below = st.is.below ∙ sym (ap (λ ws. levels_of ws) t.chain.waiting);
    ended = λ i h. elim (st.is.ended i h) [ inl k ↦ inl (subst (λ ks. Among i ks) (sym t.ended) k) | inr k ↦ inr (still i k) ];
    recorded = λ i h. st.is.recorded i (subst (λ ks. Among i ks) t.ended h);
    told = λ i v h. elim (either_among (found_as v i) (told_of (known_to after new) those) l.told h) [
      | inl a ↦ told_value i v (told_is (known_to after new) those i (Finds v) a)
      | inr b ↦ same_known i v (st.is.told i v b)
    ];
    known = kept_or_told after (λ i v e. elim (st.is.known i v e) [ inl k ↦ inl (value_on before after t.stays i v k) | inr b ↦ inr b ]);
    spent = λ i k. elim (since i k) [
      | inl b ↦ elim (st.is.spent i b) [ inl x ↦ inl (kept_on before after t.stays i x) | inr y ↦ inr y ]
      | inr key ↦ inr (st.is.recorded i key)
    ];
  }

  level_on : (i : Instance ℕ) (d : LevelCode) → IsLevel rules (contents s) (known_to before old) old.ended.entries i d →
      IsLevel rules (contents s) (known_to after new) new.ended.entries i d
  level_on i d x = record {
    covered = covered_on (known_to before old) (known_to after new) old.ended.entries new.ended.entries t.endings still (root_in d i) (seen_in d) (i ∷ todo_in d)
        (fault_in d) x.covered;
    met = x.met;
    alike = x.alike;
    rooted = x.rooted;
  }

  same_asked : asked_by new ≡ asked_by old
  same_asked = ap (λ ws. asked_at ws new.level new.inst) t.chain.waiting ∙ ap (λ d. asked_at old.waiting.entries d new.inst) t.level
      ∙ ap (λ i. asked_at old.waiting.entries old.level i) t.chain.inst

  -- what the levels are about stays
  abbrev AboutAt : List (Instance ℕ × LevelCode) → LevelCode → Instance ℕ → Instance ℕ → Type 0
  AboutAt ws d i k = Among k (under (level_of i d ∷ levels_of ws)) ⊎ ((j : Instance ℕ) × (e : LevelCode) × Among (j, e) ((i, d) ∷ ws)
      × (Among k (todo_in e) ⊎ (k ≡ root_in e j)))

  about_back : (k : Instance ℕ) → IsAbout new k → IsAbout old k
  about_back k a = subst (λ i. AboutAt old.waiting.entries old.level i k) t.chain.inst
      (subst (λ d. AboutAt old.waiting.entries d new.inst k) t.level (subst (λ ws. AboutAt ws new.level new.inst k) t.chain.waiting a))

  pub stands_told : ((i : Instance ℕ) → Among i those → Leads (contents s) (meaning rules) (asked_by old) i) → HadEnded → CanResolve rules s after new →
      StandsBetween rules s after new looked_now
  stands_told led since can = record {
    is = looked_on since;
    come = st.come;
    stacked = st.stacked;
    rooted = st.rooted;
    tried = elim st.tried [ inl a ↦ inl (subst (λ i. Among i l.seen) (sym t.chain.inst) a) | inr k ↦ inr (subst (λ i. IsSome (known_to after new i)) (sym t.chain.inst) (still old.inst k)) ];
    told = λ i o h. elim (either_among (i, o) (told_of (known_to after new) those) l.told h) [
      | inl a ↦ holds i o (told_is (known_to after new) those i o a)
      | inr b ↦ st.told i o b
    ];
    last = subst (λ i. Among i l.ended) (sym t.chain.inst) st.last;
    reached = λ i o h. subst (λ q. Leads (contents s) (meaning rules) q i) (sym same_asked)
        (elim (either_among (i, o) (told_of (known_to after new) those) l.told h) [
          | inl a ↦ led i (let (b, v, k, e) = told_is (known_to after new) those i o a in b)
          | inr b ↦ st.reached i o b
        ]);
    few = subst (λ n. n + 2 ≤ 2 * length l.ended + length l.below) (sym t.turns) st.few;
    fresh = subst (λ q. IsFresh (contents s) (meaning rules) q (tried_at l.below) l.ended) (sym same_asked) st.fresh;
    covered = subst (λ d. IsCovered (known_to after new) new.ended.entries l.root l.seen l.todo (fault_in d)) (sym t.level)
        (covered_on (known_to before old) (known_to after new) old.ended.entries new.ended.entries t.endings still l.root l.seen l.todo (fault_in old.level) st.covered);
    met = subst (λ d. MetFrom (contents s) (meaning rules) l.root l.seen l.todo (fault_in d)) (sym t.level) st.met;
    below = λ i d h. level_on i d (st.below i d (subst (λ ws. Among (i, d) ws) t.chain.waiting h));
    can = can;
    typed = λ i a. st.typed i (about_back i a);
  }
    where
      holds : (i : Instance ℕ) (o : Outcome ℕ) → IsToldOf (known_to after new) those i o → Holds (contents s) (meaning rules) i o
      holds i o (a, v, k, e) = subst (λ p. Holds (contents s) (meaning rules) i p) (sym e) (t.values i v k)
