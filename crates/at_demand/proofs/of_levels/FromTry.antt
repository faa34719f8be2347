-- What becomes of a question's search as the equation of its last one is tried: more is told, a circle closes, or a level more is begun.
use Rattle.std.proofs.Common.{◌≡◌, ◌⊎◌, ℕ, ◌+◌, ◌*◌, ◌≤◌, arith, suc, length, List, [], ◌∷◌, ◌++◌, reverse, Option, Some, None, inl, inr, refl, sym, ap, ◌∙◌, subst}
use Rattle.std.specs.Prelude.{IsSome}
use Rattle.std.specs.Map.{keys_of, lookup}
use Rattle.at_model.proofs.of_searching.Strictly.{stuck_none}
use Rattle.at_model.specs.Instances.{AnyText}
use Rattle.at_model.specs.Meaning.{Among, Finds, Reaches}
use Rattle.at_model.specs.Rules.{Rules, start_of}
use Rattle.at_model.specs.Run.{Value, Instance}
use Rattle.at_model.specs.TypedRuns.{IsWellTyped}
use Rattle.at_model.specs.of_fixpoints.Circles.{HasNone, IsOpen}
use Rattle.at_model.specs.of_fixpoints.Fixpoints.{End, HasValue}
use Rattle.at_model.specs.of_fixpoints.Formulas.{Formula}
use Rattle.at_model.specs.of_fixpoints.Resting.{Leads}
use Rattle.at_model.specs.of_fixpoints.Resting as led
use Rattle.at_model.specs.of_fixpoints.Searched.{IsFresh, IsMade, LeadsToNext, here, tried_at}
use Rattle.at_model.specs.of_fixpoints.Searched as next
use Rattle.at_model.specs.of_fixpoints.Searching.{IsStuck, Level, Search, begun, root_of, under}
use Rattle.at_model.proofs.Reached.{back_among, either_among, front_among}
use Rattle.at_model.proofs.of_searching.Closing.{none_below, none_here}
use Rattle.at_model.proofs.of_searching.FewTurns.{tried_fresh}
use Rattle.at_model.proofs.of_searching.InOrder.{begins_in_order}
use Rattle.at_model.proofs.of_searching.Steps.{has_begun}
use Rattle.at_model.proofs.of_searching.Turned.{leads_by, root_led}
use Rattle.at_store.specs.Shown.{Shown, contents}
use Rattle.at_body.specs.Same.{same_instance}
use Rattle.at_body.specs.Typed.{class_shown}
use Rattle.at_cache.specs.Kept.{Entries}
use Rattle.at_search.specs.Recorded.{IsMarked, Recorded}
use Rattle.at_search.specs.declared.ended.Fault.{Fault}
use Rattle.at_demand.proofs.of_levels.Stuck.{stuck_levels}
use Rattle.at_demand.specs.declared.question.Question.{Question}
use Rattle.at_demand.specs.Answerable.{IsAnswerable}
use Rattle.at_demand.specs.ChainSteps.{IsDeeper}
use Rattle.at_evaluate.specs.Valued.{IsKept, kept_values, meaning}
use Rattle.at_demand.specs.Known.{known_in}
use Rattle.at_demand.specs.Levels.{AreWholeOrSeen, IsAbout, IsLevel, LeadsToFault, LevelCode, StandsFor, all_levels, asked_by, fault_in, known_to, level_of, levels_of, root_in, seen_in, todo_in}
use Rattle.at_demand.specs.Searches.{AreSoundFinds, CanClose, IsSolvable, IsTried, IsUnderWay}
use Rattle.at_search.proofs.Seeing.{reverse_among}
use Rattle.at_evaluate.proofs.Entered.{is_there, not_none, there}
use Rattle.at_demand.proofs.Extending.{map_among}
use Rattle.at_demand.proofs.Keys.{goes_last, no_key}
use Rattle.at_demand.proofs.Marking.{told_among}
use Rattle.at_demand.proofs.of_searches.Circling.{IsOrdered, one_recorded, tried_next, under_way}
use Rattle.at_demand.proofs.of_levels.ClosedLevels.{risen_asked, risen_levels}
use Rattle.at_demand.proofs.of_searches.NextTried.{key_waits, under_waits}
use Rattle.at_demand.proofs.of_searches.Reaching.{asked_at, leads_met, leads_under, level_at}
use Rattle.at_demand.proofs.of_levels.Resolving.{asked_moved, facts_same, recorded_key}
use Rattle.at_demand.proofs.of_searches.Returning.{level_among, tried_under, waits_tried, with_level}

module _ (rules : Rules) (s : Shown) (entries : Entries) (q : Question) (u : Search ℕ) (st : StandsFor rules s entries q u) where
  -- the levels of the question are those of the search
  levels_are : u.last ∷ u.below ≡ all_levels q
  levels_are = ap (λ (l : Level ℕ). l ∷ u.below) st.is.last ∙ ap (λ ls. level_of q.inst q.level ∷ ls) st.is.below

  -- what was asked leads to all that they have seen
  pub led_levels : (i : Instance ℕ) → Among i (under (u.last ∷ u.below)) → Leads (contents s) (meaning rules) (asked_by q) i
  led_levels i h =
      let on = st.on in
      let (come, fresh, shut) = on.last in
      subst (λ r. Leads (contents s) (meaning rules) r i) on.starts (by on.starts h)
    where
      to_root : Leads (contents s) (meaning rules) (root_of u.last.root u.below) u.last.root
      to_root = let on = st.on in root_led (contents s) (meaning rules) u.last.root u.below on.stacked

      met : (j : Instance ℕ) → Among j (u.last.seen ++ (u.last.next ∷ u.last.todo)) → Leads (contents s) (meaning rules) (root_of u.last.root u.below) j
      met j a =
          let on = st.on in
          let (come, fresh, shut) = on.last in
          leads_by (contents s) (meaning rules) (root_of u.last.root u.below) u.last.root j to_root
          (leads_met (contents s) (meaning rules) (under u.below) u.last.root u.last.seen (u.last.next ∷ u.last.todo) come j a)

      by : root_of u.last.root u.below ≡ asked_by q → Among i (under (u.last ∷ u.below)) → Leads (contents s) (meaning rules) (root_of u.last.root u.below) i
      by e (inl p) = subst (λ z. Leads (contents s) (meaning rules) (root_of u.last.root u.below) z) (sym p)
          (met u.last.next (back_among u.last.next u.last.seen (u.last.next ∷ u.last.todo) (inl refl)))
      by e (inr a) = elim (either_among i u.last.seen (under u.below) a) [
        | inl b ↦ met i (front_among i u.last.seen (u.last.next ∷ u.last.todo) b)
        | inr b ↦ (let on = st.on in leads_under (contents s) (meaning rules) u.last.root u.below on.stacked i b)
      ]

  key_of : (i : Instance ℕ) (f : Option Fault) → ((e : End ℕ (Formula ℕ)) × Recorded q.ended.entries i e × (f ≡ None → IsMade e)) →
      Among i (keys_of q.ended.entries)
  key_of i f (e, y, g) = recorded_key q.ended.entries i e y

  solvable_level : (i : Instance ℕ) (d : LevelCode) → IsLevel rules (contents s) (known_to entries q) q.ended.entries i d → IsSolvable rules q.ended.entries d
  solvable_level i d x = record {
    alike = λ j k a b. x.alike j (front_among j (seen_in d) (i ∷ todo_in d) a) ∙ sym (x.alike k (front_among k (seen_in d) (i ∷ todo_in d) b));
    recorded = λ j a. let covered = x.covered in key_of j (fault_in d) (covered.ends j a);
  }

  -- it can be closed
  pub close_standing : IsAnswerable rules s entries → AreSoundFinds rules s entries q → IsStuck (contents s)
      (meaning rules) q.inst →
      CanClose rules s entries q
  close_standing answerable finds stuck = record {
    answerable = answerable;
    facts = st.facts;
    finds = finds;
    levels = λ i d h. level i d h;
    led = λ i h. led_levels i (subst (λ ls. Among i (under ls)) (sym levels_are) h);
    held = λ i some. by i (there (known_to entries q i) some);
    last = (
      q.inst,
      record {
        stuck = stuck;
        none = subst (λ (l : Level ℕ). HasNone (contents s) (meaning rules) l.root) st.is.last root_none;
        covered = let levels = st.levels in let x = levels.last in x.covered;
      },
    );
    below = λ i d a. record {
      stuck = (stuck_at i d a).0;
      none = (stuck_at i d a).1;
      covered = let levels = st.levels in let x = levels.below i d a in x.covered;
    };
  }
    where
      root_none : HasNone (contents s) (meaning rules) u.last.root
      root_none =
          let on = st.on in
          let (come, fresh, shut) = on.last in
          stuck_none (contents s) (meaning rules) u.last.root u.last.next
          (come.led u.last.next (back_among u.last.next u.last.seen (u.last.next ∷ u.last.todo) (inl refl)))
          (subst (λ (l : Level ℕ). IsStuck (contents s) (meaning rules) l.next) (sym st.is.last) stuck)

      stuck_at : (i : Instance ℕ) (d : LevelCode) → Among (i, d) q.waiting.entries →
          IsStuck (contents s) (meaning rules) i × HasNone (contents s) (meaning rules) (root_in d i)
      stuck_at i d a = let on = st.on in stuck_levels (contents s)
          (meaning rules) u.last.root u.below on.stacked root_none (level_of i d)
          (subst (λ ls. Among (level_of i d) ls) (sym st.is.below) (level_among q.waiting.entries i d a))

      level : (i : Instance ℕ) (d : LevelCode) → Among (with_level d i) ((q.inst, q.level) ∷ q.waiting.entries) → IsSolvable rules q.ended.entries d
      level i d (inl e) = let levels = st.levels in
          subst (λ (z : Instance ℕ × LevelCode). IsSolvable rules q.ended.entries z.1) (sym at) (solvable_level q.inst q.level levels.last)
        where
          at : with_level d i ≡ with_level q.level q.inst
          at = e
      level i d (inr h) = let levels = st.levels in solvable_level i d (levels.below i d h)

      by : (i : Instance ℕ) → ((v : Value ℕ) × (known_to entries q i ≡ Some v)) → IsKept entries i ⊎ Leads (contents s) (meaning rules) (asked_by q) i
      by i (v, e) = elim (st.is.known i v e) [ inl k ↦ inl (is_there (kept_values entries i) v k) | inr t ↦ inr (st.reached i (Finds v) t) ]

  -- A demand of the last one is tried, or under way, and isn't known: it is open.
  module _ (j : Instance ℕ) (unknown : known_to entries q j ≡ None)
      (reaches : Reaches (contents s) (HasValue (contents s) (meaning rules)) ((meaning rules).formula q.inst) j) where
    ordered_level : (i : Instance ℕ) (d : LevelCode) → IsLevel rules (contents s) (known_to entries q) q.ended.entries i d →
        IsOrdered (known_to entries q) q.ended.entries (seen_in d) (i ∷ todo_in d)
    ordered_level i d x = (x.covered.order, λ k a none. no_key q.ended.entries k none (let covered = x.covered in key_of k (fault_in d) (covered.ends k a)))

    ordered_all : (ws : List (Instance ℕ × LevelCode)) → ((i : Instance ℕ) (d : LevelCode) → Among (with_level d i) ws →
        IsLevel rules (contents s) (known_to entries q) q.ended.entries i d) → (l : Level ℕ) → Among l (levels_of ws) →
        IsOrdered (known_to entries q) q.ended.entries l.seen (l.next ∷ l.todo)
    ordered_all ws all l h = let (e, a, is) = map_among level_at l (reverse ws) h in by e (reverse_among ws e a) is
      where
        by : (e : Instance ℕ × LevelCode) → Among e ws → level_at e ≡ l → IsOrdered (known_to entries q) q.ended.entries l.seen (l.next ∷ l.todo)
        by (i, d) a is = subst (λ (z : Level ℕ). IsOrdered (known_to entries q) q.ended.entries z.seen (z.next ∷ z.todo)) is (ordered_level i d (all i d a))

    ordered : (l : Level ℕ) → Among l (u.last ∷ u.below) → IsOrdered (known_to entries q) q.ended.entries l.seen (l.next ∷ l.todo)
    ordered l (inl e) = let levels = st.levels in
        subst (λ (z : Level ℕ). IsOrdered (known_to entries q) q.ended.entries z.seen (z.next ∷ z.todo)) (sym (e ∙ st.is.last)) (ordered_level q.inst q.level levels.last)
    ordered l (inr h) = let levels = st.levels in ordered_all q.waiting.entries levels.below l (subst (λ ls. Among l ls) st.is.below h)

    abbrev IsBack : Type 0
    IsBack = Among j (under (u.last ∷ u.below)) × LeadsToNext (contents s) (meaning rules) (u.last ∷ u.below) j

    back_tried : IsTried q j → IsBack
    back_tried h = elim (either_among j (keys_of q.waiting.entries) (q.inst ∷ []) h) [
      | inl a ↦ by_tried (inr (subst (λ ls. Among j (tried_at ls)) (sym st.is.below) (waits_tried q.waiting.entries j a)))
      | inr b ↦ elim b [ inl e ↦ by_tried (inl (e ∙ sym (ap (λ (l : Level ℕ). l.next) st.is.last))) | inr n ↦ absurd n ]
    ]
      where
        by_tried : Among j (tried_at (u.last ∷ u.below)) → IsBack
        by_tried a = (tried_under (u.last ∷ u.below) j a, tried_next (contents s) (meaning rules) (u.last ∷ u.below) j a)

    back_under : IsUnderWay entries q j → IsBack
    back_under (key, unmarked, out) =
        let whole = st.whole in
        let facts = st.facts in
        let b = place (whole.placed j key) in (
          b,
          under_way (known_to entries q) q.ended.entries (contents s) (meaning rules) facts.ends (u.last ∷ u.below) ordered j out.to out.led out.unsettled
              out.unrecorded b,
        )
      where
        place : IsSome (known_to entries q j) ⊎ (IsMarked q.ended.entries j ⊎ Among j (under (all_levels q))) → Among j (under (u.last ∷ u.below))
        place (inl k) = absurd (not_none (known_to entries q j) k unknown)
        place (inr (inl m)) = absurd (unmarked m)
        place (inr (inr a)) = subst (λ ls. Among j (under ls)) (sym levels_are) a

    reaches_last : Reaches (contents s) (HasValue (contents s) (meaning rules)) ((meaning rules).formula u.last.next) j
    reaches_last = subst (λ (l : Level ℕ). Reaches (contents s) (HasValue (contents s) (meaning rules)) ((meaning rules).formula l.next) j) (sym st.is.last) reaches

    pub opens_back : IsTried q j ⊎ IsUnderWay entries q j → IsOpen (contents s) (meaning rules) (under (u.last ∷ u.below)) j
    opens_back h = by (elim h [ inl t ↦ back_tried t | inr w ↦ back_under w ])
      where
        none : LeadsToNext (contents s) (meaning rules) (u.last ∷ u.below) j → HasNone (contents s) (meaning rules) j
        none (here r) = none_here (contents s) (meaning rules) u.last.next j r reaches_last
        none (next.below n) =
            let on = st.on in
            let (come, fresh, shut) = on.last in
            none_below (contents s) (meaning rules) u.last.root u.below j on.stacked
            (record {
              by = u.last.next;
              led = come.led u.last.next (back_among u.last.next u.last.seen (u.last.next ∷ u.last.todo) (inl refl));
              demands = reaches_last;
            }) n

        by : IsBack → IsOpen (contents s) (meaning rules) (under (u.last ∷ u.below)) j
        by (a, n) = (a, none n)

    -- Or nothing is known of it, and its equation wasn't tried: a level more is begun.
    module _ (untried : IsTried q j → ⊥) (empty : lookup (same_instance j) q.ended.entries ≡ None) (typed : IsWellTyped rules (class_shown s) AnyText j)
        (new : Question) (h : IsDeeper q new j) where
      seen_nowhere : (i : Instance ℕ) (d : LevelCode) → IsLevel rules (contents s) (known_to entries q) q.ended.entries i d → Among j (seen_in d) → ⊥
      seen_nowhere i d x a = no_key q.ended.entries j empty (let covered = x.covered in key_of j (fault_in d) (covered.ends j a))

      pub not_under : Among j (under (u.last ∷ u.below)) → ⊥
      not_under a = by (subst (λ ls. Among j (under ls)) levels_are a)
        where
          waiting : (i : Instance ℕ) (d : LevelCode) → Among (with_level d i) q.waiting.entries → (j ≡ i) ⊎ Among j (seen_in d) → ⊥
          waiting i d b (inl e) = untried (front_among j (keys_of q.waiting.entries) (q.inst ∷ [])
              (subst (λ z. Among z (keys_of q.waiting.entries)) (sym e) (key_waits q.waiting.entries i d b)))
          waiting i d b (inr z) = let levels = st.levels in seen_nowhere i d (levels.below i d b) z

          by : Among j (under (all_levels q)) → ⊥
          by (inl e) = untried (back_among j (keys_of q.waiting.entries) (q.inst ∷ []) (inl e))
          by (inr b) = elim (either_among j (seen_in q.level) (under (levels_of q.waiting.entries)) b) [
            | inl z ↦ (let levels = st.levels in seen_nowhere q.inst q.level levels.last z)
            | inr z ↦ (let (i, d, m, x) = under_waits q.waiting.entries j z in waiting i d m x)
          ]

      unended : Among j u.ended → ⊥
      unended a = elim (st.is.ended j a) [ inl k ↦ no_key q.ended.entries j empty k | inr k ↦ not_none (known_to entries q j) k unknown ]

      pub waits_new : new.waiting.entries ≡ q.waiting.entries ++ (q.inst, q.level) ∷ []
      waits_new = h.waiting ∙ goes_last q.waiting.entries q.inst q.level apart
        where
          apart : Among q.inst (keys_of q.waiting.entries) → ⊥
          apart a =
              let fresh = st.fresh in
              fresh.apart.0 (subst (λ (l : Level ℕ). Among l.next (tried_at u.below ++ u.ended)) (sym st.is.last)
              (front_among q.inst (tried_at u.below) u.ended (subst (λ ls. Among q.inst (tried_at ls)) (sym st.is.below) (waits_tried q.waiting.entries q.inst a))))

      abbrev pub deeper : Search ℕ
      deeper = record u { last = begun j; below = u.last ∷ u.below }

      below_new : u.last ∷ u.below ≡ levels_of new.waiting.entries
      below_new = levels_are ∙ risen_levels q.waiting.entries q.inst q.level ∙ sym (ap (λ ws. levels_of ws) waits_new)

      asked_new : asked_by new ≡ asked_by q
      asked_new = ap (λ ws. asked_at ws new.level new.inst) waits_new ∙ risen_asked q.waiting.entries q.inst new.inst q.level new.level

      known_new : (i : Instance ℕ) → IsSome (known_to entries q i) → IsSome (known_to entries new i)
      known_new i k = subst (λ fs. IsSome (known_in entries fs i)) (sym h.finds.found) k

      level_new : (i : Instance ℕ) (d : LevelCode) → IsLevel rules (contents s) (known_to entries q) q.ended.entries i d →
          IsLevel rules (contents s) (known_to entries new) new.ended.entries i d
      level_new i d x = subst (λ fs. IsLevel rules (contents s) (known_in entries fs) new.ended.entries i d) (sym h.finds.found)
          (subst (λ es. IsLevel rules (contents s) (known_to entries q) es i d) (sym h.finds.ended) x)

      -- the one that waits now is the last one, or waited before
      waits_back : (i : Instance ℕ) (d : LevelCode) → Among (with_level d i) new.waiting.entries → Among (with_level d i) ((q.inst, q.level) ∷ q.waiting.entries)
      waits_back i d a = elim (either_among (with_level d i) q.waiting.entries ((q.inst, q.level) ∷ []) (subst (λ ws. Among (with_level d i) ws) waits_new a)) [
        | inl b ↦ inr b
        | inr b ↦ elim b [ inl e ↦ inl e | inr n ↦ absurd n ]
      ]

      level_waits : (i : Instance ℕ) (d : LevelCode) → Among (with_level d i) ((q.inst, q.level) ∷ q.waiting.entries) →
          IsLevel rules (contents s) (known_to entries new) new.ended.entries i d
      level_waits i d (inl e) = let levels = st.levels in
          subst (λ (z : Instance ℕ × LevelCode). IsLevel rules (contents s) (known_to entries new) new.ended.entries z.0 z.1) (sym at)
          (level_new q.inst q.level levels.last)
        where
          at : with_level d i ≡ with_level q.level q.inst
          at = e
      level_waits i d (inr b) = let levels = st.levels in level_new i d (levels.below i d b)

      first_level : (i : Instance ℕ) (d : LevelCode) → i ≡ j → d ≡ None → IsLevel rules (contents s) (known_to entries new) new.ended.entries i d
      first_level i d e f = subst (λ z. IsLevel rules (contents s) (known_to entries new) new.ended.entries z d) (sym e)
          (subst (λ z. IsLevel rules (contents s) (known_to entries new) new.ended.entries j z) (sym f) (record {
            covered = record {
              first = inr (inr (inl refl));
              ends = λ k a. absurd a;
              order = begins_in_order (Recorded new.ended.entries) (one_recorded new.ended.entries) (λ k. IsSome (known_to entries new k)) j;
            };
            met = λ kind at x. x;
            alike = λ k a. elim a [ inl p ↦ ap (λ (z : Instance ℕ). start_of rules z.attribute) p | inr n ↦ absurd n ];
            rooted = tt;
          }))

      under_new : (i : Instance ℕ) → Among i (under (all_levels q)) → Among i (under (all_levels new))
      under_new i a = inr (back_among i (seen_in new.level) (under (levels_of new.waiting.entries))
          (subst (λ ls. Among i (under ls)) (risen_levels q.waiting.entries q.inst q.level ∙ sym (ap (λ ws. levels_of ws) waits_new)) a))

      under_old : (i : Instance ℕ) → Among i (under (levels_of new.waiting.entries)) → Among i (under (all_levels q))
      under_old i a = subst (λ ls. Among i (under ls)) (ap (λ ws. levels_of ws) waits_new ∙ sym (risen_levels q.waiting.entries q.inst q.level)) a

      whole_new : AreWholeOrSeen rules (contents s) entries new
      whole_new = let whole = st.whole in record {
        placed = λ i k. elim (whole.placed i (subst (λ es. Among i (keys_of es)) h.finds.ended k)) [
          | inl x ↦ inl (known_new i x)
          | inr d ↦ elim d [ inl m ↦ inr (inl (subst (λ es. IsMarked es i) (sym h.finds.ended) m)) | inr a ↦ inr (inr (under_new i a)) ]
        ];
        marked = λ i m. whole.marked i (subst (λ es. IsMarked es i) h.finds.ended m);
        spoilt = λ i m e. subst (λ es. LeadsToFault es i) (sym h.finds.ended)
            (whole.spoilt i (subst (λ es. IsMarked es i) h.finds.ended m) (subst (λ fs. known_in entries fs i ≡ None) h.finds.found e));
        asked = asked_moved entries q new h.finds.ended h.finds.found whole.asked;
      }

      no_seen : (i : Instance ℕ) → Among i (seen_in new.level) → ⊥
      no_seen i a = subst (λ d. Among i (seen_in d)) h.level a

      typed_new : (i : Instance ℕ) → IsAbout new i → IsWellTyped rules (class_shown s) AnyText i
      typed_new i (inl (inl e)) = subst (λ z. IsWellTyped rules (class_shown s) AnyText z) (sym (e ∙ h.inst)) typed
      typed_new i (inl (inr a)) = elim (either_among i (seen_in new.level) (under (levels_of new.waiting.entries)) a) [
        | inl b ↦ absurd (no_seen i b)
        | inr b ↦ st.typed i (inl (under_old i b))
      ]
      typed_new i (inr (k, d, inl a, b)) = last b
        where
          at : with_level d k ≡ with_level new.level new.inst
          at = a

          last : Among i (todo_in d) ⊎ (i ≡ root_in d k) → IsWellTyped rules (class_shown s) AnyText i
          last (inl t) = absurd (subst (λ z. Among i (todo_in z)) h.level (subst (λ (z : Instance ℕ × LevelCode). Among i (todo_in z.1)) at t))
          last (inr r) = subst (λ z. IsWellTyped rules (class_shown s) AnyText z)
              (sym (subst (λ (z : Instance ℕ × LevelCode). i ≡ root_in z.1 z.0) at r ∙ ap (λ z. root_in z new.inst) h.level ∙ h.inst)) typed
      typed_new i (inr (k, d, inr a, b)) = st.typed i (inr (k, d, waits_back k d a, b))

      few_new : new.turns ≤ 2 * length u.ended + suc (length u.below)
      few_new = let few : q.turns ≤ 2 * length u.ended + length u.below = st.few in let same : new.turns ≡ q.turns = h.finds.turns in omega (arith, few, same)

      pub stands_deeper : StandsFor rules s entries new deeper
      stands_deeper =
          let on = st.on in record {
            is = record {
              last = ap (λ z. begun z) (sym h.inst) ∙ ap (λ d. level_of new.inst d) (sym h.level);
              below = below_new;
              ended = λ i a. elim (st.is.ended i a) [ inl k ↦ inl (subst (λ es. Among i (keys_of es)) (sym h.finds.ended) k) | inr k ↦ inr (known_new i k) ];
              recorded = λ i k. st.is.recorded i (subst (λ es. Among i (keys_of es)) h.finds.ended k);
              told = λ i v a. subst (λ fs. known_in entries fs i ≡ Some v) (sym h.finds.found) (st.is.told i v a);
              known = λ i v e. st.is.known i v (subst (λ fs. known_in entries fs i ≡ Some v) h.finds.found e);
              spent = λ i k. st.is.spent i (subst (λ fs. IsSome (known_in entries fs i)) h.finds.found k);
            };
            on = record {
              starts = on.starts ∙ sym asked_new;
              last = (has_begun (contents s) (meaning rules) told_among (under (u.last ∷ u.below)) j, (λ a. a), (λ o. not_under o.0));
              stacked = (reaches_last, not_under, on.last, on.stacked);
              told = on.told;
              ended = on.ended;
            };
            fresh = subst (λ r. IsFresh (contents s) (meaning rules) r (j ∷ tried_at (u.last ∷ u.below)) u.ended) (sym asked_new)
                (tried_fresh (contents s) (meaning rules) (asked_by q) j (tried_at (u.last ∷ u.below)) u.ended st.fresh
                (λ a. not_under (tried_under (u.last ∷ u.below) j a)) unended
                (leads_by (contents s) (meaning rules) (asked_by q) u.last.next j (led_levels u.last.next (inl refl))
                (led.goes u.last.next j j (inl reaches_last) (led.stays j))));
            facts = facts_same rules (contents s) entries q new h.finds.ended h.finds.found st.facts;
            levels = record {
              last = first_level new.inst new.level h.inst h.level;
              below = λ i d a. level_waits i d (waits_back i d a);
            };
            whole = whole_new;
            typed = typed_new;
            reached = λ i o a. subst (λ r. Leads (contents s) (meaning rules) r i) (sym asked_new) (st.reached i o a);
            few = few_new;
          }
