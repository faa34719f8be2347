-- A question as it is posted.
use Rattle.std.proofs.Common.{◌≡◌, ◌⊎◌, ◌+◌, ℕ, List, [], ◌∷◌, ◌++◌, Option, Some, None, inl, inr, refl, sym, ap, ◌∙◌, subst, arith}
use Rattle.std.specs.Prelude.{IsSome}
use Rattle.std.specs.Map.{keys_of, lookup}
use Rattle.at_model.proofs.of_searching.LookedSteps.{looked_begun}
use Rattle.at_model.specs.Instances.{AnyText}
use Rattle.at_model.specs.Meaning.{Among}
use Rattle.at_model.specs.Rules.{Rules, start_of}
use Rattle.at_model.specs.Run.{Value, Instance, Contents, Known}
use Rattle.at_model.specs.Turning.{UnderWay, asked, turns_of}
use Rattle.at_model.specs.Turning.{posted as chain_posted, IsOn as ChainIsOn}
use Rattle.at_model.specs.TypedRuns.{IsWellTyped}
use Rattle.at_model.specs.of_fixpoints.Met.{HaveLookedAt}
use Rattle.at_model.specs.of_fixpoints.Resting.{Leads, stays}
use Rattle.at_model.specs.of_fixpoints.Searched.{IsFresh, IsOn}
use Rattle.at_model.specs.of_fixpoints.Searching.{Level, begun, posted, under}
use Rattle.at_model.proofs.of_machines.Bounded.{begun as chain_begun}
use Rattle.at_model.proofs.of_searching.Turned.{begun_on}
use Rattle.at_store.specs.Shown.{Shown, contents}
use Rattle.at_body.specs.Same.{same_instance}
use Rattle.at_body.specs.Typed.{class_shown}
use Rattle.at_cache.specs.Kept.{Entries}
use Rattle.at_search.specs.declared.ended.Ended.{Ended}
use Rattle.at_demand.specs.declared.evaluation.Find.{Find}
use Rattle.at_demand.specs.declared.question.Question.{Question}
use Rattle.at_evaluate.specs.Valued.{equations, kept_values, meaning}
use Rattle.at_demand.specs.Known.{found_values, known_in, FoundKept}
use Rattle.at_demand.specs.Levels.{IsAbout, IsLevel, IsSearch, LevelCode, StandsFor, asked_by, known_to, level_of, levels_of, root_in, todo_in}
use Rattle.at_demand.specs.Sound.{AreSound}
use Rattle.at_demand.specs.Turns.{HaveMet, IsBehind, IsSparingTurns, IsStanding, found_of, passed_of, under_way}
use Rattle.at_demand.specs.Covering.{AreWhole}
use Rattle.at_demand.specs.Only.{AreLean}
use Rattle.at_demand.specs.Worth.{AreSettled}
use Rattle.at_evaluate.proofs.Entered.{there}
use Rattle.at_demand.proofs.Marking.{told_among}
use Rattle.at_demand.proofs.of_searches.Reaching.{asked_at}
use Rattle.at_demand.proofs.of_searches.Returning.{with_level}

-- nothing is found, so what is known is kept
known_kept : (entries : Entries) (i : Instance ℕ) (v : Value ℕ) → known_in entries [] i ≡ Some v → kept_values entries i ≡ Some v
known_kept entries i v e = by (kept_values entries i) e
  where
    by : (o : Option (Value ℕ)) → elim o [ Some w ↦ Some w | None ↦ found_values [] i ] ≡ Some v → o ≡ Some v
    by (Some w) h = h
    by None h = absurd (no_value v h)
      where
        no_value : (w : Value ℕ) → ◌≡◌ {A = Option (Value ℕ)} None (Some w) → ⊥
        no_value w e = cc

abbrev with_find : Find → Instance ℕ → Instance ℕ × Find
with_find f j = (j, f)

abbrev with_value : Value ℕ → Instance ℕ → Instance ℕ × Value ℕ
with_value v j = (j, v)

none_there : {A : Type 0} (a : A) → ◌≡◌ {A = Option A} None (Some a) → ⊥
none_there a e = cc

-- what stands at the one level
abbrev AboutAt : List (Instance ℕ × LevelCode) → LevelCode → Instance ℕ → Instance ℕ → Type 0
AboutAt ws d i k = Among k (under (level_of i d ∷ levels_of ws)) ⊎ ((j : Instance ℕ) × (e : LevelCode) × Among (with_level e j) (with_level d i ∷ ws)
    × (Among k (todo_in e) ⊎ (k ≡ root_in e j)))

about_one : (i k : Instance ℕ) → AboutAt [] None i k → k ≡ i
about_one i k (inl (inl e)) = e
about_one i k (inl (inr h)) = absurd h
about_one i k (inr (j, e, inl a, b)) = by b
  where
    here : with_level e j ≡ with_level None i
    here = a

    by : Among k (todo_in e) ⊎ (k ≡ root_in e j) → k ≡ i
    by (inl t) = absurd (subst (λ (x : Instance ℕ × LevelCode). Among k (todo_in x.1)) here t)
    by (inr r) = subst (λ (x : Instance ℕ × LevelCode). k ≡ root_in x.1 x.0) here r
about_one i k (inr (j, e, inr a, b)) = absurd a

first_level : (rules : Rules) (look : Contents ℕ) (known : Known ℕ) (ended : List (Instance ℕ × Ended)) (i : Instance ℕ) →
    IsLevel rules look known ended i None
first_level rules look known ended i = record {
  covered = record {
    first = inr (inr (inl refl));
    ends = λ j h. absurd h;
    order = record { covered = λ j u f h. absurd h; leads = λ j u f h. absurd h };
  };
  met = λ k at m. m;
  alike = λ j h. elim h [ inl e ↦ ap (λ (x : Instance ℕ). start_of rules x.attribute) e | inr u ↦ absurd u ];
  rooted = tt;
}

module _ (q : Question) (i : Instance ℕ) (waiting : q.waiting.entries ≡ []) (found : q.found.entries ≡ []) (passed : q.passed.entries ≡ [])
    (ended : q.ended.entries ≡ []) (inst : q.inst ≡ i) (level : q.level ≡ None) (turns : q.turns ≡ 0) where
  pub posted_chain : under_way q ≡ chain_posted i
  posted_chain = chain (keys_of q.waiting.entries) q.inst _ (ap keys_of waiting) inst
      (ap (λ fs. found_of fs ++ passed_of q.passed.entries) found ∙ ap (λ ps. passed_of ps) passed)
    where
      chain : (ws : List (Instance ℕ)) (j : Instance ℕ) (fs : List (Instance ℕ × Value ℕ)) → ws ≡ [] → j ≡ i → fs ≡ [] →
          ◌≡◌ {A = UnderWay ℕ} (record { waiting = ws; last = j; found = fs }) (chain_posted i)
      chain ws j fs a b c = ap (λ (us : List (Instance ℕ)). record { waiting = us; last = j; found = fs }) a
          ∙ ap (λ (k : Instance ℕ). record { waiting = []; last = k; found = fs }) b
          ∙ ap (λ (gs : List (Instance ℕ × Value ℕ)). record { waiting = []; last = i; found = gs }) c

  none_ended : (j : Instance ℕ) → Among j (keys_of q.ended.entries) → ⊥
  none_ended j h = subst (λ es. Among j (keys_of es)) ended h

  none_recorded : (j : Instance ℕ) (x : Ended) → lookup (same_instance j) q.ended.entries ≡ Some x → ⊥
  none_recorded j x e = none_there x (sym (ap (λ es. lookup (same_instance j) es) ended) ∙ e)

  kept_known : (entries : Entries) (j : Instance ℕ) (v : Value ℕ) → known_to entries q j ≡ Some v → kept_values entries j ≡ Some v
  kept_known entries j v e = known_kept entries j v (subst (λ fs. known_in entries fs j ≡ Some v) found e)

  pub posted_search : (entries : Entries) → IsSearch entries q (posted i)
  posted_search entries = record {
    last = sym (ap (λ l. level_of q.inst l) level ∙ ap (λ (j : Instance ℕ). begun j) inst);
    below = sym (ap (λ ws. levels_of ws) waiting);
    ended = λ j h. absurd h;
    recorded = λ j h. absurd (none_ended j h);
    told = λ j v h. absurd h;
    known = λ j v e. inl (kept_known entries j v e);
    spent = λ j k. let (v, e) = there (known_to entries q j) k in inl (subst IsSome (sym (kept_known entries j v e)) refl);
  }

  asked_is : asked_by q ≡ i
  asked_is = ap (λ ws. asked_at ws q.level q.inst) waiting ∙ ap (λ l. root_in l q.inst) level ∙ inst

  about_is : (k : Instance ℕ) → IsAbout q k → k ≡ i
  about_is k a = about_one i k (subst (λ j. AboutAt [] None j k) inst (subst (λ d. AboutAt [] d q.inst k) level
      (subst (λ ws. AboutAt ws q.level q.inst k) waiting a)))

  module _ (rules : Rules) (s : Shown) (typed : IsWellTyped rules (class_shown s) AnyText i) (entries : Entries) where
    pub posted_for : AreSound rules s entries → StandsFor rules s entries q (posted i)
    posted_for sound = record {
      is = posted_search entries;
      on = subst (λ j. IsOn (contents s) (meaning rules) j (posted i)) (sym asked_is) (begun_on (contents s) (meaning rules) told_among i);
      fresh = subst (λ j. IsFresh (contents s) (meaning rules) j (i ∷ []) []) (sym asked_is) (record {
        apart = ((λ h. h), tt);
        led = λ j h. elim h [ inl e ↦ subst (λ z. Leads (contents s) (meaning rules) i z) (sym e) (stays i) | inr u ↦ absurd u ];
      });
      facts = record {
        ends = λ j e (x, at, is). absurd (none_recorded j x at);
        forms = λ j f (x, at, is). absurd (none_recorded j x at);
        circular = λ j f (x, at, is). absurd (none_recorded j x at);
        values = λ j v e. sound.right j v (kept_known entries j v e);
        wholes = λ j some. let (v, e) = there (known_to entries q j) some in sound.whole j (some_kept j v (kept_known entries j v e));
      };
      levels = record {
        last = subst (λ l. IsLevel rules (contents s) (known_to entries q) q.ended.entries q.inst l) (sym level)
            (first_level rules (contents s) (known_to entries q) q.ended.entries q.inst);
        below = λ j d h. absurd (subst (λ ws. Among (with_level d j) ws) waiting h);
      };
      whole = record {
        placed = λ j h. absurd (none_ended j h);
        marked = λ j (x, at, is). absurd (none_recorded j x at);
        spoilt = λ j (x, at, is) e. absurd (none_recorded j x at);
        asked = λ j k f (x, at, is) r a. absurd (none_recorded j x at);
      };
      typed = λ k a. subst (λ j. IsWellTyped rules (class_shown s) AnyText j) (sym (about_is k a)) typed;
      reached = λ j o h. absurd h;
      few = omega (arith, turns);
    }
      where
        some_kept : (j : Instance ℕ) (v : Value ℕ) → kept_values entries j ≡ Some v → IsSome (kept_values entries j)
        some_kept j v e = subst IsSome (sym e) refl

    pub posted_stands : IsStanding rules s entries q
    posted_stands = record {
      levels = λ sound. (posted i, posted_for sound);
      plainly = λ none. record {
        ended = ended;
        level = level;
        levels = λ j l h. absurd (subst (λ ws. Among (with_level l j) ws) waiting h);
        on = subst (λ (u : UnderWay ℕ). ChainIsOn (contents s) (equations rules) (asked u) u) (sym posted_chain)
            (chain_begun (contents s) (equations rules) i);
        turns = let e : turns_of (under_way q) ≡ 0 = ap (λ (u : UnderWay ℕ). turns_of u) posted_chain in turns ∙ sym e;
      };
      kept = subst (λ fs. FoundKept entries fs) (sym found) (λ j f e. absurd (none_there f e));
      passed = λ j v h. absurd (subst (λ ps. Among (with_value v j) (passed_of ps)) passed h);
      whole = subst (λ fs. AreWhole rules (contents s) fs) (sym found) (λ p j f e. absurd (none_there (with_find f j) e));
    }

  abbrev AreLooked : Rules → Contents ℕ → Entries → List (Level ℕ) → Type 0
  AreLooked rules look entries ls = HaveLookedAt look (meaning rules) (IsBehind look (meaning rules)
      (known_to entries q)) ls

  pub posted_sparing : (rules : Rules) (look : Contents ℕ) (entries : Entries) → IsSparingTurns rules look entries q
  posted_sparing rules look entries = record {
    lean = subst (λ fs. AreLean rules look fs) (sym found) (λ p j f e. absurd (none_there (with_find f j) e));
    settled = subst (λ fs. AreSettled rules entries fs) (sym found) (λ p j f e. absurd (none_there (with_find f j) e));
    met = subst (λ ws. HaveMet rules look entries q.found.entries ws (root_in q.level q.inst)) (sym waiting) tt;
    followed = record {
      demanded = λ j k a c. absurd (subst (λ es. Among j (keys_of es)) ended a);
      looked = subst (λ ws. AreLooked rules look entries (level_of q.inst q.level ∷ levels_of ws)) (sym waiting)
          (subst (λ d. AreLooked rules look entries (level_of q.inst d ∷ [])) (sym level) (
            looked_begun look (meaning rules) told_among (IsBehind look (meaning rules)
                (known_to entries q)) [] q.inst,
            tt,
          ));
    };
  }
