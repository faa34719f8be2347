-- Level by level what was seen is solved, and the level is off: so a question ends that is answered by a circle.
use Rattle.std.proofs.Common.{◌≡◌, ◌⊎◌, ◌+◌, ◌<◌, ◌^◌, ℕ, suc, arith, Bool, true, false, true≢false, MatchBool, length, List, [], ◌∷◌, ◌++◌, map, Option, Some, None, inl, inr, refl, sym, ap, ◌∙◌, subst}
use Rattle.std.specs.Prelude.{IsSome, Result, Ok, Err, is_some, not}
use Rattle.std.specs.declared.alloc.AllocError.{AllocError}
use Rattle.std.specs.Map.{keys_of}
use Rattle.std.proofs.lemmas.List.{length-append}
use Rattle.at_model.specs.Meaning.{Among}
use Rattle.at_model.specs.Rules.{Rules}
use Rattle.at_model.specs.Run.{Instance, Value}
use Rattle.at_model.specs.of_fixpoints.Fixpoints.{HasValue}
use Rattle.at_model.specs.of_fixpoints.Resting.{Leads}
use Rattle.at_model.specs.of_fixpoints.Searching.{under}
use Rattle.at_model.proofs.Reached.{back_among, either_among, front_among}
use Rattle.at_store.specs.Shown.{Shown, contents}
use Rattle.at_cache.specs.Kept.{Entries}
use Rattle.at_cache.specs.Traced.{Memories}
use Rattle.at_search.proofs.Asking.{reverse_push}
use Rattle.at_demand.proofs.of_searches.OnceTold.{covered_on}
use Rattle.at_demand.specs.declared.answer.Answer.{Answer}
use Rattle.at_demand.specs.declared.answer.Answer.TheVariants as answer
use Rattle.at_demand.specs.declared.question.Question.{Question}
use Rattle.at_demand.specs.ChainSteps.{HasLostSeen, HasRisen, IsRisen, IsUnchanged}
use Rattle.at_demand.specs.Covering.{AreWhole as AreWholeFinds}
use Rattle.at_demand.specs.Groups.{KeepsGroups, Tells}
use Rattle.at_demand.specs.Known.{FoundKept, known_in}
use Rattle.at_evaluate.specs.Valued.{IsKept, meaning}
use Rattle.at_demand.specs.Levels.{AreFactsOf, IsCovered, LevelCode, all_levels, asked_by, fault_in, known_to, level_of, levels_of, root_in, seen_in, todo_in}
use Rattle.at_demand.specs.Searches.{CanClose, CanSolveLevel, GainsBetween, HasClosed, HasSolvedLevel, IsLastUnseen, IsSeenBy, IsSolvable, IsStuckAt, StaysOn}
use Rattle.at_evaluate.proofs.Entered.{kept_on}
use Rattle.at_demand.proofs.Recalling.{known_kept}
use Rattle.at_demand.proofs.of_levels.GainedBetween.{gains_nothing, gains_then, gains_told, gains_where}
use Rattle.at_demand.proofs.of_searches.Moving.{asked_same}
use Rattle.at_demand.proofs.of_searches.Reaching.{asked_at, level_at}
use Rattle.at_demand.proofs.of_levels.Resolving.{facts_same, keeps_groups, still_known}
use Rattle.at_demand.proofs.of_searches.Returning.{with_level}
use Rattle.at_demand.proofs.of_levels.StayingOn.{stays_lost, stays_risen, stays_same, stays_then, stays_told, stays_unchanged}
use Rattle.at_demand.proofs.of_searches.Stepping.{tells_pending}

-- the levels of those that wait, and of one that waits behind them
pub risen_levels : (ws : List (Instance ℕ × LevelCode)) (i : Instance ℕ) (d : LevelCode) → level_of i d ∷ levels_of ws ≡ levels_of (ws ++ with_level d i ∷ [])
risen_levels ws i d = sym (ap (λ xs. map level_at xs) (reverse_push ws (with_level d i)))

-- the root of the first level is still that
pub risen_asked : (ws : List (Instance ℕ × LevelCode)) (i j : Instance ℕ) (d e : LevelCode) → asked_at (ws ++ with_level d i ∷ []) e j ≡ asked_at ws d i
risen_asked [] i j d e = refl
risen_asked (w ∷ ws) i j d e = refl

asked_is : (ws vs : List (Instance ℕ × LevelCode)) (i : Instance ℕ) (d : LevelCode) → ws ≡ vs → asked_at ws d i ≡ asked_at vs d i
asked_is ws vs i d e = ap (λ xs. asked_at xs d i) e

-- The last level is off.
module _ (old new : Question) (i : Instance ℕ) (r : IsRisen old new i) where
  pub asked_risen : asked_by new ≡ asked_by old
  asked_risen = sym (asked_is old.waiting.entries (new.waiting.entries ++ with_level new.level new.inst ∷ []) old.inst old.level r.waits
      ∙ risen_asked new.waiting.entries new.inst old.inst new.level old.level)

  pub under_risen : (j : Instance ℕ) → Among j (under (all_levels new)) → Among j (under (levels_of old.waiting.entries))
  under_risen j h = subst (λ ws. Among j (under (levels_of ws))) (sym r.waits)
      (subst (λ ls. Among j (under ls)) (risen_levels new.waiting.entries new.inst new.level) h)

  pub waits_risen : (j : Instance ℕ) (d : LevelCode) → Among (with_level d j) ((new.inst, new.level) ∷ new.waiting.entries) → Among (with_level d j) old.waiting.entries
  waits_risen j d h = subst (λ ws. Among (with_level d j) ws) (sym r.waits) (by h)
    where
      by : Among (with_level d j) (with_level new.level new.inst ∷ new.waiting.entries) →
          Among (with_level d j) (new.waiting.entries ++ with_level new.level new.inst ∷ [])
      by (inl e) = back_among (with_level d j) new.waiting.entries (with_level new.level new.inst ∷ []) (inl e)
      by (inr a) = front_among (with_level d j) new.waiting.entries (with_level new.level new.inst ∷ []) a

  pub fewer_wait : length old.waiting.entries ≡ suc (length new.waiting.entries)
  fewer_wait =
      let long = length-append new.waiting.entries (with_level new.level new.inst ∷ []) in
      let same : length old.waiting.entries ≡ length (new.waiting.entries ++ with_level new.level new.inst ∷ []) = ap length r.waits in
      omega (arith, long, same)

-- what can be closed has a last level that can be solved
pub close_solvable : (rules : Rules) (s : Shown) (entries : Entries) (q : Question) → CanClose rules s entries q → CanSolveLevel rules s entries q
close_solvable rules s entries q can = record {
  answerable = can.answerable;
  facts = can.facts;
  finds = can.finds;
  last = can.levels q.inst q.level (inl refl);
}

-- What the last level had seen was solved.
module _ {Whole : Type 0} (rules : Rules) (s : Shown) (before after : Entries) (former latter : Memories) (earlier later : ℕ) (old new : Question)
    (can : CanClose rules s before old) (mid : Question) (lost : HasLostSeen old mid)
    (t : Tells rules s before after former latter earlier later mid new (seen_in old.level) Whole) where
  abbrev as_before : Question
  as_before = record new { level = old.level }

  told_before : Tells rules s before after former latter earlier later old as_before (seen_in old.level) Whole
  told_before = tells_pending rules s before after former latter earlier later old mid new lost.chain lost.finds (seen_in old.level) t

  seen_under : (i : Instance ℕ) → Among i (seen_in old.level) → Among i (under (all_levels old))
  seen_under i a = inr (front_among i (seen_in old.level) (under (levels_of old.waiting.entries)) a)

  pub gains_solved : (any : Question) → any.found.entries ≡ new.found.entries → GainsBetween rules s before after former latter earlier later old any Whole
  gains_solved = gains_told rules s before after former latter earlier later old as_before (seen_in old.level) told_before can.answerable.basis.idle
      can.facts.values can.held seen_under (λ i a. can.led i (seen_under i a))

  pub asked_solved : asked_by new ≡ asked_by old
  asked_solved = asked_same old new told_before.chain.waiting
      (ap (λ d. root_in d new.inst) t.level ∙ ap (λ i. root_in mid.level i) t.chain.inst ∙ lost.root)

  -- what is off now can be closed further
  module _ (r : Question) (i : Instance ℕ) (risen : IsRisen new r i) where
    asked_off : asked_by r ≡ asked_by old
    asked_off = asked_risen new r i risen ∙ asked_solved

    under_off : (j : Instance ℕ) → Among j (under (all_levels r)) → Among j (under (all_levels old))
    under_off j h = inr (back_among j (seen_in old.level) (under (levels_of old.waiting.entries))
        (subst (λ ws. Among j (under (levels_of ws))) told_before.chain.waiting (under_risen new r i risen j h)))

    facts_new : AreFactsOf rules (contents s) after new
    facts_new = t.facts (facts_same rules (contents s) before old mid lost.finds.ended lost.finds.found can.facts)

    held_off : (j : Instance ℕ) → IsSome (known_to after r j) → IsKept after j ⊎ Leads (contents s) (meaning rules) (asked_by r) j
    held_off j some = elim (told_before.told j (subst (λ fs. IsSome (known_in after fs j)) risen.finds.found some)) [
      | inl k ↦ elim (can.held j k) [
        | inl a ↦ inl (kept_on before after t.stays j a)
        | inr l ↦ inr (subst (λ q. Leads (contents s) (meaning rules) q j) (sym asked_off) l)
      ]
      | inr a ↦ inr (subst (λ q. Leads (contents s) (meaning rules) q j) (sym asked_off) (can.led j (seen_under j a)))
    ]

    solvable_off : (j : Instance ℕ) (d : LevelCode) → Among (with_level d j) old.waiting.entries → IsSolvable rules r.ended.entries d
    solvable_off j d h = let x = can.levels j d (inr h) in record {
      alike = x.alike;
      recorded = λ k a. subst (λ ks. Among k ks) (sym (ap (λ es. keys_of es) risen.finds.ended ∙ told_before.ended)) (x.recorded k a);
    }

    pub can_close_on : CanClose rules s after r
    can_close_on = record {
      answerable = record {
        basis = can.answerable.basis;
        right = λ j v e. t.values j v (known_kept after new.found.entries j v v (sym e) refl);
        plain = t.plain;
      };
      facts = facts_same rules (contents s) after new r risen.finds.ended risen.finds.found facts_new;
      finds = record {
        whole = subst (λ fs. AreWholeFinds rules (contents s) fs) (sym risen.finds.found)
            (t.whole (subst (λ fs. AreWholeFinds rules (contents s) fs) (sym lost.finds.found) can.finds.whole));
        took = subst (λ fs. FoundKept after fs) (sym risen.finds.found) t.took;
      };
      levels = λ j d h. solvable_off j d (subst (λ ws. Among (with_level d j) ws) told_before.chain.waiting (waits_risen new r i risen j d h));
      led = λ j h. subst (λ q. Leads (contents s) (meaning rules) q j) (sym asked_off) (can.led j (under_off j h));
      held = held_off;
      last = (r.inst, stuck_off r.inst r.level (waits_off r.inst r.level (inl refl)));
      below = λ j d a. stuck_off j d (waits_off j d (inr a));
    }
      where
        waits_off : (j : Instance ℕ) (d : LevelCode) → Among (with_level d j) ((r.inst, r.level) ∷ r.waiting.entries) →
            Among (with_level d j) old.waiting.entries
        waits_off j d a = subst (λ ws. Among (with_level d j) ws) told_before.chain.waiting
            (waits_risen new r i risen j d a)

        known_on : (j : Instance ℕ) → IsSome (known_to before old j) → IsSome (known_to after r j)
        known_on j k = subst (λ fs. IsSome (known_in after fs j)) (sym risen.finds.found)
            (let (more, e) = told_before.finds in still_known before after old new t.stays more e j k)

        stuck_off : (j : Instance ℕ) (d : LevelCode) → Among (with_level d j) old.waiting.entries →
            IsStuckAt (contents s) (meaning rules) (known_to after r) r.ended.entries (root_in d j) d j
        stuck_off j d a = let x = can.below j d a in record {
          stuck = x.stuck;
          none = x.none;
          covered = subst (λ es. IsCovered (known_to after r) es (root_in d j) (seen_in d) (j ∷ todo_in d)
              (fault_in d)) (sym risen.finds.ended)
              (covered_on (known_to before old) (known_to after r) old.ended.entries new.ended.entries
              told_before.endings known_on (root_in d j) (seen_in d)
              (j ∷ todo_in d) (fault_in d) x.covered);
        }

-- A question is closed so far: what came to be kept meanwhile, and that the levels that are left are those that it had.
pub record IsClosing (rules : Rules) (s : Shown) (before after : Entries) (former latter : Memories) (earlier later : ℕ)
    (old new : Question) : Type 0 where
  pub can : CanClose rules s after new
  pub gains : GainsBetween rules s before after former latter earlier later old new (Unit {0})
  pub stays : StaysOn old new
  pub asked : asked_by new ≡ asked_by old
  pub levels : (i : Instance ℕ) → Among i (under (all_levels new)) → Among i (under (all_levels old))
  pub ended : keys_of new.ended.entries ≡ keys_of old.ended.entries
  pub told : (i : Instance ℕ) (v : Value ℕ) → IsSeenBy old i → HasValue (contents s) (meaning rules) i v
      → IsSome (known_to after new i) ⊎ IsSeenBy new i

pub begins_closing : (rules : Rules) (s : Shown) (entries : Entries) (m : Memories) (w : ℕ) (q : Question) → CanClose rules s entries q →
    w < 2 ^ 64 → IsClosing rules s entries entries m m w w q q
begins_closing rules s entries m w q can small = record {
  can = can;
  gains = gains_nothing rules s entries m w q q can.answerable small refl;
  stays = stays_same q;
  asked = refl;
  levels = λ i h. h;
  ended = refl;
  told = λ i v seen has. inr seen;
}

-- no search was under way
pub closed_plainly : (rules : Rules) (s : Shown) (entries : Entries) (m : Memories) (w : ℕ) (q : Question) (at : Instance ℕ) →
    CanClose rules s entries q → w < 2 ^ 64 → q.ended.entries ≡ [] →
    HasClosed {E = AllocError} rules s entries entries m m w w q q at (Ok (Some (answer.Circular at)))
closed_plainly rules s entries m w q at can small none = record {
  gains = gains_nothing rules s entries m w q q can.answerable small refl;
  stays = stays_same q;
  is = refl;
  told = λ i v (j, l, a, b) has. absurd (let x = can.levels j l a in subst (λ es. Among i (keys_of es)) none
      (x.recorded i b));
  plainly = λ empty. (refl, refl);
}

module _ (rules : Rules) (s : Shown) (before mid after : Entries) (f m n : Memories) (w x y : ℕ) (old q new : Question)
    (c : IsClosing rules s before mid f m w x old q) (r : Result Unit AllocError)
    (h : HasSolvedLevel {E = AllocError} rules s mid after m n x y q new r) where
  gained_so : (any : Question) → any.found.entries ≡ new.found.entries → GainsBetween rules s before after f n w y old any (KeepsGroups rules r)
  gained_so any same = gains_then rules s before mid after f m n w x y old q any c.gains
      (gains_solved rules s mid after m n x y q new c.can h.mid h.lost h.tells any same) c.asked
      (λ i a. inl (c.levels i a)) (λ i a. inr (subst (λ ks. Among i ks) c.ended a))

  waits_solved : new.waiting.entries ≡ q.waiting.entries
  waits_solved = let t = h.tells in let lost = h.lost in t.chain.waiting ∙ lost.chain.waiting

  stays_solved : StaysOn old new
  stays_solved = let t = h.tells in stays_then old q new c.stays (stays_then q h.mid new (stays_lost q h.mid h.lost)
      (stays_told h.mid new t.chain t.level t.turns t.passed))

  -- each that the last level had seen, and that has a value, is known
  abbrev pub ToldLast : Type 0
  ToldLast = (k : Instance ℕ) → IsStuckAt (contents s) (meaning rules) (known_to mid q) q.ended.entries
      (root_in q.level q.inst) q.level k →
      (i : Instance ℕ) (v : Value ℕ) → Among i (seen_in q.level) → HasValue (contents s) (meaning rules) i v → IsSome
      (known_to after new i)

  known_new : (i : Instance ℕ) → IsSome (known_to mid q i) → IsSome (known_to after new i)
  known_new i k =
      let t = h.tells in
      let lost = h.lost in
      let (more, e) = t.finds in
      still_known mid after q new t.stays more (e ∙ ap (λ fs. fs ++ more) lost.finds.found) i k

  -- what was seen is known, or was seen at a level that waits
  told_new : ToldLast → (i : Instance ℕ) (v : Value ℕ) → IsSeenBy old i → HasValue (contents s) (meaning rules) i v →
      IsSome (known_to after new i) ⊎ ((j : Instance ℕ) × (l : LevelCode) × Among
      (with_level l j) q.waiting.entries × Among i (seen_in l))
  told_new told i v seen has = elim (c.told i v seen has) [
    | inl k ↦ inl (known_new i k)
    | inr (j, l, a, b) ↦ elim a [
      | inl e ↦ inl (let last = c.can.last in told last.0 last.1 i v (subst (λ (z : Instance ℕ × LevelCode). Among i
          (seen_in z.1)) (same j l e) b) has)
      | inr d ↦ inr (j, l, d, b)
    ]
  ]
    where
      same : (j : Instance ℕ) (l : LevelCode) → with_level l j ≡ with_level q.level q.inst →
          with_level l j ≡ with_level q.level q.inst
      same j l e = e

  -- its last level is off
  pub closes_on : ToldLast → (Unit {0} → KeepsGroups rules r) → (t : Question) (i : Instance ℕ) → IsRisen new t i →
      IsClosing rules s before after f n w y old t
  closes_on told on t i risen = record {
    can = can_close_on rules s mid after m n x y q new c.can h.mid h.lost h.tells t i risen;
    gains = gains_where rules s before after f n w y old t on (gained_so t risen.finds.found);
    stays = stays_then old new t stays_solved (stays_risen new t i risen);
    asked = asked_off rules s mid after m n x y q new c.can h.mid h.lost h.tells t i risen ∙ c.asked;
    levels = λ j a. c.levels j (under_off rules s mid after m n x y q new c.can h.mid h.lost h.tells t i risen j a);
    ended = ap (λ es. keys_of es) risen.finds.ended ∙ tells_ended ∙ c.ended;
    told = λ j v seen has. elim (told_new told j v seen has) [
      | inl k ↦ inl (subst (λ fs. IsSome (known_in after fs j)) (sym risen.finds.found) k)
      | inr (m, l, a, b) ↦ inr (m, l, waits_on m l a, b)
    ];
  }
    where
      waits_on : (m : Instance ℕ) (l : LevelCode) → Among (with_level l m) q.waiting.entries → Among (with_level l m)
          ((t.inst, t.level) ∷ t.waiting.entries)
      waits_on m l a = elim (either_among (with_level l m) t.waiting.entries (with_level t.level t.inst ∷ [])
          (subst (λ ws. Among (with_level l m) ws) (sym waits_solved ∙ risen.waits) a)) [
            | inl b ↦ inr b
            | inr b ↦ elim b [ inl e ↦ inl e | inr u ↦ absurd u ]
          ]

      tells_ended : keys_of new.ended.entries ≡ keys_of q.ended.entries
      tells_ended = let t = h.tells in let lost = h.lost in t.ended ∙ ap (λ es. keys_of es) lost.finds.ended

  -- there are fewer levels
  pub closes_less : (t : Question) (i : Instance ℕ) → IsRisen new t i → length t.waiting.entries < length q.waiting.entries
  closes_less t i risen =
      let less = fewer_wait new t i risen in
      let same : length new.waiting.entries ≡ length q.waiting.entries = ap length waits_solved in
      omega (arith, less, same)

  -- none waits for it: that was the answer
  pub closed_so : ToldLast → (Unit {0} → KeepsGroups rules r) → new.waiting.entries ≡ [] → (t : Question) →
      IsUnchanged new t → (at : Instance ℕ) →
      (old.ended.entries ≡ [] → ⊥) → HasClosed {E = AllocError} rules s before after f n w y old t at (Ok (Some
      (answer.Circular at)))
  closed_so told on alone t same at some = record {
    gains = gains_where rules s before after f n w y old t on (gained_so t same.finds.found);
    stays = stays_then old new t stays_solved (stays_unchanged new t same);
    is = refl;
    told = λ i v seen has. elim (told_new told i v seen has) [
      | inl k ↦ subst (λ fs. IsSome (known_in after fs i)) (sym same.finds.found) k
      | inr (j, l, a, b) ↦ absurd (subst (λ ws. Among (with_level l j) ws) (sym waits_solved ∙ alone) a)
    ];
    plainly = λ none. absurd (some none);
  }

  -- memory is wanting
  pub closing_failed : (at : Instance ℕ) → (old.ended.entries ≡ [] → ⊥) → (p : Result (Option Answer) AllocError) (e : AllocError) → p ≡ Err e →
      HasClosed {E = AllocError} rules s before after f n w y old new at p
  closing_failed at some p e is = subst (λ z. HasClosed {E = AllocError} rules s before after f n w y old new at z) (sym is) (record {
    gains = gains_where rules s before after f n w y old new (keeps_groups rules r) (gained_so new refl);
    stays = tt;
    is = tt;
    told = tt;
    plainly = λ none. absurd (some none);
  })

-- by what was off
pub risen_some : (old new : Question) (o : Option (Instance ℕ)) (b : Bool) → HasRisen old new o → is_some o ≡ not b → b ≡ false → (i : Instance ℕ) × IsRisen old new i
risen_some old new None b h is off = absurd (true≢false (sym (is ∙ ap not off)))
risen_some old new (Some i) b h is off = (i, h)

pub risen_none : (old new : Question) (o : Option (Instance ℕ)) (b : Bool) → HasRisen old new o → is_some o ≡ not b → b ≡ true → IsUnchanged old new
risen_none old new None b h is on = let (none, same) = h in same
risen_none old new (Some i) b h is on = absurd (true≢false (is ∙ ap not on))

pub risen_alone : (old new : Question) (o : Option (Instance ℕ)) (b : Bool) → HasRisen old new o → is_some o ≡ not b →
    b ≡ true → old.waiting.entries ≡ []
risen_alone old new None b h is on = let (none, same) = h in none
risen_alone old new (Some i) b h is on = absurd (true≢false (is ∙ ap not on))

-- the one that waited wasn't seen at its level
pub risen_unseen : (old new : Question) (o : Option (Instance ℕ)) (b : Bool) → IsLastUnseen old.waiting.entries → HasRisen old new o → is_some o ≡ not b →
    b ≡ false → Among new.inst (seen_in new.level) → ⊥
risen_unseen old new o b unseen h is off a =
    let (i, risen) = risen_some old new o b h is off in unseen new.waiting.entries new.inst new.level risen.waits a

pub is_not_plain : (q : Question) (b : Bool) → MatchBool b (q.ended.entries ≡ []) (q.ended.entries ≡ [] → ⊥) → b ≡ false → q.ended.entries ≡ [] → ⊥
is_not_plain q true h off = absurd (true≢false off)
is_not_plain q false h off = h

pub is_plain_so : (q : Question) (b : Bool) → MatchBool b (q.ended.entries ≡ []) (q.ended.entries ≡ [] → ⊥) → b ≡ true → q.ended.entries ≡ []
is_plain_so q true h on = h
is_plain_so q false h on = absurd (true≢false (sym on))
