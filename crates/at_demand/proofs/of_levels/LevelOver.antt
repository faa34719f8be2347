-- The search of a level is over: its root has a value, or the fault that was met first; and the question falls to the level below.
use Rattle.std.proofs.Common.{◌≡◌, ◌⊎◌, ℕ, ◌+◌, ◌*◌, ◌≤◌, suc, arith, length, List, [], ◌∷◌, ◌++◌, Option, Some, None, inl, inr, refl, sym, ap, ◌∙◌, subst}
use Rattle.std.specs.Prelude.{IsSome}
use Rattle.std.specs.Map.{keys_of, lookup}
use Rattle.at_model.specs.Instances.{AnyText}
use Rattle.at_model.specs.Meaning.{Among, Faults, Finds, Outcome}
use Rattle.at_model.specs.Rules.{Rules}
use Rattle.at_model.specs.Run.{Value, Instance, FaultKind, Known}
use Rattle.at_model.specs.TypedRuns.{IsWellTyped}
use Rattle.at_model.specs.of_fixpoints.Fixpoints.{End, Made, Spoilt, EndsSo, Holds, LeadsOver, stays, goes}
use Rattle.at_model.specs.of_fixpoints.Formulas.{Formula, atoms}
use Rattle.at_model.specs.of_fixpoints.Resting.{Leads}
use Rattle.at_model.specs.of_fixpoints.Searched.{AreStacked, IsFresh, IsMade, IsWhole, tried_at}
use Rattle.at_model.specs.of_fixpoints.Searching.{IsPassed, IsReady, Looked, Search, asked_in, fallen_to, under}
use Rattle.at_model.proofs.Reached.{back_among, either_among, front_among}
use Rattle.at_model.proofs.of_searching.PassedCircles.{ends_one}
use Rattle.at_model.proofs.of_searching.Turned.{demanded_fault}
use Rattle.at_model.proofs.of_searching.Wholes.{whole_faults}
use Rattle.at_store.specs.Shown.{Shown, contents}
use Rattle.at_body.specs.Same.{same_instance}
use Rattle.at_body.specs.Typed.{class_shown}
use Rattle.at_body.specs.Values.{fault_view, value_view}
use Rattle.at_cache.specs.Kept.{Entries}
use Rattle.at_search.specs.Recorded.{IsMarked, MetFrom, Recorded, end_of}
use Rattle.at_search.specs.declared.ended.Ending.{Ending}
use Rattle.at_search.specs.declared.ended.Ending.TheVariants as ending
use Rattle.at_search.specs.declared.ended.Fault.{Fault}
use Rattle.at_search.specs.declared.ended.Formed.{Formed}
use Rattle.at_demand.specs.declared.evaluation.Find.{Find}
use Rattle.at_demand.specs.declared.question.Question.{Question}
use Rattle.at_demand.specs.ChainSteps.{KeepsFinds}
use Rattle.at_demand.specs.Known.{IsFound, known_in}
use Rattle.at_evaluate.specs.Valued.{IsKept, kept_values, meaning}
use Rattle.at_demand.specs.Levels.{AreWholeOrSeen, HasAllEnded, IsAbout, IsFormOf, IsLevel, IsUsed, LeadsToFault, LevelCode, StandsFor, all_levels, asked_by, fault_in, known_to, level_of, levels_of, seen_in}
use Rattle.at_demand.specs.Searches.{IsLastUnseen, StandsBetween}
use Rattle.at_evaluate.proofs.Entered.{is_there, there}
use Rattle.at_demand.proofs.Recalling.{known_found, known_kept}
use Rattle.at_demand.proofs.Keys.{found_once}
use Rattle.at_demand.proofs.of_searches.Circling.{one_recorded}
use Rattle.at_demand.proofs.of_levels.ClosedLevels.{risen_asked, risen_levels}
use Rattle.at_demand.proofs.of_searches.Reaching.{asked_at, starts_at}
use Rattle.at_demand.proofs.of_levels.Resolving.{asked_moved, facts_same, key_entry}
use Rattle.at_demand.proofs.of_searches.Returning.{with_level}

-- what was found, or is kept, is known
pub known_as_found : (entries : Entries) (found : List (Instance ℕ × Find)) (i : Instance ℕ) → IsFound found i → IsSome (known_in entries found i)
known_as_found entries found i f = let (g, at) = found_once found i f in by g at (kept_values entries i) refl
  where
    by : (g : Find) → lookup (same_instance i) found ≡ Some g → (o : Option (Value ℕ)) → kept_values entries i ≡ o → IsSome (known_in entries found i)
    by g at None e = is_there (known_in entries found i) (value_view g.value) (known_found entries found i (value_view g.value) g (sym e) (sym at) refl)
    by g at (Some v) e = is_there (known_in entries found i) v (known_kept entries found i v v (sym e) refl)

known_as_kept : (entries : Entries) (found : List (Instance ℕ × Find)) (i : Instance ℕ) → IsKept entries i → IsSome (known_in entries found i)
known_as_kept entries found i k =
    let (v, e) = there (kept_values entries i) k in is_there (known_in entries found i) v (known_kept entries found i v v (sym e) refl)

-- the last one that waits wasn't seen at its level
pub last_unseen : (rules : Rules) (s : Shown) (entries : Entries) (p : Question) (m : Looked ℕ) → StandsBetween rules s entries p m →
    IsLastUnseen p.waiting.entries
last_unseen rules s entries p m st front i d e a =
    let below : m.below ≡ level_of i d ∷ levels_of front = st.is.below ∙ ap (λ ws. levels_of ws) e ∙ sym (risen_levels front i d) in
    let (demands, off, (come, fresh, shut), rest) = subst (λ ls. AreStacked (contents s) (meaning rules) m.root ls) below st.stacked in
    fresh a

module _ (rules : Rules) (s : Shown) (entries : Entries) (p : Question) (m : Looked ℕ) (st : StandsBetween rules s entries p m) (over : m.todo ≡ []) where
  nothing_left : (i : Instance ℕ) → Among i m.todo → ⊥
  nothing_left i h = subst (λ ts. Among i ts) over h

  met_root : Among m.root m.seen ⊎ IsSome (known_to entries p m.root)
  met_root = let covered = st.covered in elim covered.first [
    | inl a ↦ inl a
    | inr d ↦ elim d [ inl k ↦ inr k | inr t ↦ absurd (nothing_left m.root t) ]
  ]

  made_of : fault_in p.level ≡ None → (i : Instance ℕ) → Among i m.seen → (f : Formula ℕ) × Recorded p.ended.entries i (Made f)
  made_of none i a = let covered = st.covered in by (covered.ends i a)
    where
      by : ((e : End ℕ (Formula ℕ)) × Recorded p.ended.entries i e × (fault_in p.level ≡ None → IsMade e)) →
          (f : Formula ℕ) × Recorded p.ended.entries i (Made f)
      by (Made f, r, g) = (f, r)
      by (Spoilt k at, r, g) = absurd (g none)

  used_known : (i : Instance ℕ) (g : Formed) → IsFormOf rules (contents s) entries p.found.entries i g → (j : Instance ℕ) → IsUsed p.found.entries g j →
      IsSome (known_to entries p j)
  used_known i g form j (inl a) = let (kept, led) = form.kept j a in known_as_kept entries p.found.entries j kept
  used_known i g form j (inr (n, f, a, at)) = known_as_found entries p.found.entries j (n, f, at)

  -- all to which those that were seen come is passed
  pub is_ready : (kept : Known ℕ) → ((i : Instance ℕ) → IsSome (known_to entries p i) → IsPassed kept m i) → fault_in p.level ≡ None →
      IsReady (contents s) (meaning rules) kept m
  is_ready kept passed none i j a c = let (f, r) = made_of none i a in of_entry f r
    where
      of_form : (f : Formula ℕ) → Recorded p.ended.entries i (Made f) → (g : Formed) → IsFormOf rules (contents s) entries p.found.entries i g → IsPassed kept m j
      of_form f r g form = elim c [
        | inl reaches ↦ passed j (used_known i g form j (form.demands j reaches))
        | inr (d, has, b) ↦ asks d has b
      ]
        where
          asks : (d : Formula ℕ) → EndsSo (contents s) (meaning rules) i (Made d) → Among j (atoms d) → IsPassed kept m j
          asks d has b =
              let covered = st.covered in
              let facts = st.can.facts in
              let same : Made d ≡ Made f = ends_one (contents s) (meaning rules) i (Made d) (Made f) has (facts.ends i (Made f) r) in
              elim (covered.order.covered i j f a r (subst (λ z. Among j (asked_in z)) same b)) [
                | inl k ↦ passed j k
                | inr n ↦ elim n [ inl q ↦ inl q | inr t ↦ absurd (nothing_left j t) ]
              ]

      of_entry : (f : Formula ℕ) → Recorded p.ended.entries i (Made f) → IsPassed kept m j
      of_entry f (x, at, is) = by x.ending refl
        where
          by : (d : Ending) → x.ending ≡ d → IsPassed kept m j
          by (ending.Formed g) e = let facts = st.can.facts in of_form f (x, at, is) g (facts.forms i g (x, at, e))
          by (ending.Spoilt g) e =
              let bad : Made f ≡ Spoilt (fault_view g.kind) g.at = sym is ∙ ap end_of e in absurd cc

  -- where no fault was met formulas lead to none
  no_fault_led : fault_in p.level ≡ None → (i j : Instance ℕ) → LeadsOver (Recorded p.ended.entries) i j →
      Among i m.seen ⊎ IsWhole (contents s) (meaning rules) i → (k : FaultKind) (at : Instance ℕ) → Recorded p.ended.entries j (Spoilt k at) → ⊥
  no_fault_led none _ j (stays _) (inl a) k at r =
      let (f, y) = made_of none j a in
      let same : Made f ≡ Spoilt k at = one_recorded p.ended.entries j (Made f) (Spoilt k at) y r in absurd cc
  no_fault_led none _ j (stays _) (inr (W, c, h)) k at r =
      let x = c j h in
      let facts = st.can.facts in
      subst (λ e. IsMade e) (ends_one (contents s) (meaning rules) j x.end (Spoilt k at) x.ends (facts.ends j (Spoilt k at) r)) x.good
  no_fault_led none _ j (goes i n _ f y b l) (inl a) k at r = let covered = st.covered in elim (covered.order.covered i n f a y b) [
    | inl z ↦ no_fault_led none n j l (inr (let facts = st.can.facts in facts.wholes n z)) k at r
    | inr d ↦ elim d [ inl z ↦ no_fault_led none n j l (inl z) k at r | inr t ↦ absurd (nothing_left n t) ]
  ]
  no_fault_led none _ j (goes i n _ f y b l) (inr (W, c, h)) k at r =
      let x = c i h in
      let facts = st.can.facts in
      let same : x.end ≡ Made f = ends_one (contents s) (meaning rules) i x.end (Made f) x.ends (facts.ends i (Made f) y) in
      no_fault_led none n j l (inr (W, c, x.next n (subst (λ z. Among n (asked_in z)) (sym same) b))) k at r

  -- all that was seen is marked whole
  module _ (marked : (i : Instance ℕ) → Among i m.seen → IsMarked p.ended.entries i) where
    pub root_known : fault_in p.level ≡ None → IsSome (known_to entries p m.root)
    root_known none = elim met_root [ inl a ↦ by (known_to entries p m.root) refl a | inr k ↦ k ]
      where
        of_fault : LeadsToFault p.ended.entries m.root → Among m.root m.seen → ⊥
        of_fault (j, at, k, l, r) a = no_fault_led none m.root j l (inl a) k at r

        by : (o : Option (Value ℕ)) → known_to entries p m.root ≡ o → Among m.root m.seen → IsSome (known_to entries p m.root)
        by (Some v) e a = is_there (known_to entries p m.root) v e
        by None e a = absurd (of_fault (let whole = st.can.whole in whole.spoilt m.root (marked m.root a) e) a)

    -- the fault that was met is that of the root
    pub root_fails : (f : Fault) → fault_in p.level ≡ Some f → Holds (contents s) (meaning rules) m.root (Faults (fault_view f.kind) f.at)
    root_fails f e = whole_faults (contents s) (meaning rules) (λ e. Unit {0}) m.root (fault_view f.kind) f.at (elim met_root [
      | inl a ↦ (let whole = st.can.whole in whole.marked m.root (marked m.root a))
      | inr k ↦ of_known (let facts = st.can.facts in facts.wholes m.root k)
    ]) (subst (λ o. MetFrom (contents s) (meaning rules) m.root m.seen m.todo o) e st.met)
      where
        of_known : IsWhole (contents s) (meaning rules) m.root → HasAllEnded (contents s) (meaning rules) m.root
        of_known (W, c, h) = (W, (λ j a. let x = c j a in record { end = x.end; ends = x.ends; good = tt; next = x.next }), h)

    ended_so : (i : Instance ℕ) → Among i m.ended → (e : End ℕ (Formula ℕ)) × EndsSo (contents s) (meaning rules) i e
    ended_so i h = elim (st.is.ended i h) [
      | inl k ↦ let (x, at) = key_entry p.ended.entries i k in (end_of x.ending, st.can.facts.ends i (end_of x.ending) (x, at, refl))
      | inr k ↦ let (W, w, a) = st.can.facts.wholes i k in let y = w i a in (y.end, y.ends)
    ]

    -- The last level is off.
    module _ (q : Question) (waits : p.waiting.entries ≡ q.waiting.entries ++ (q.inst, q.level) ∷ []) (finds : KeepsFinds p q) where
      pub below_is : m.below ≡ level_of q.inst q.level ∷ levels_of q.waiting.entries
      below_is = st.is.below ∙ ap (λ ws. levels_of ws) waits ∙ sym (risen_levels q.waiting.entries q.inst q.level)

      pub asked_fallen : asked_by q ≡ asked_by p
      asked_fallen = sym (ap (λ ws. asked_at ws p.level p.inst) waits ∙ risen_asked q.waiting.entries q.inst p.inst q.level p.level)

      stacked_here : AreStacked (contents s) (meaning rules) m.root (level_of q.inst q.level ∷ levels_of q.waiting.entries)
      stacked_here = subst (λ ls. AreStacked (contents s) (meaning rules) m.root ls) below_is st.stacked

      -- it has the fault of what it demanded
      pub next_fails : (k : FaultKind) (at : Instance ℕ) → Holds (contents s) (meaning rules) m.root (Faults k at) →
          EndsSo (contents s) (meaning rules) q.inst (Spoilt k at)
      next_fails k at h =
          let (demands, off, here, rest) = stacked_here in
          demanded_fault (contents s) (meaning rules) q.inst m.root k at ((meaning rules).formula q.inst) demands h

      known_q : (i : Instance ℕ) → IsSome (known_to entries p i) → IsSome (known_to entries q i)
      known_q i k = subst (λ fs. IsSome (known_in entries fs i)) (sym finds.found) k

      under_q : (i : Instance ℕ) → Among i (under (levels_of p.waiting.entries)) → Among i (under (all_levels q))
      under_q i h = subst (λ ls. Among i (under ls)) (sym (risen_levels q.waiting.entries q.inst q.level))
          (subst (λ ws. Among i (under (levels_of ws))) waits h)

      under_p : (i : Instance ℕ) → Among i (under (all_levels q)) → Among i (under (levels_of p.waiting.entries))
      under_p i h = subst (λ ws. Among i (under (levels_of ws))) (sym waits)
          (subst (λ ls. Among i (under ls)) (risen_levels q.waiting.entries q.inst q.level) h)

      waits_p : (i : Instance ℕ) (d : LevelCode) → Among (with_level d i) ((q.inst, q.level) ∷ q.waiting.entries) → Among (with_level d i) p.waiting.entries
      waits_p i d h = subst (λ ws. Among (with_level d i) ws) (sym waits) (by h)
        where
          by : Among (with_level d i) (with_level q.level q.inst ∷ q.waiting.entries) →
              Among (with_level d i) (q.waiting.entries ++ with_level q.level q.inst ∷ [])
          by (inl e) = back_among (with_level d i) q.waiting.entries (with_level q.level q.inst ∷ []) (inl e)
          by (inr a) = front_among (with_level d i) q.waiting.entries (with_level q.level q.inst ∷ []) a

      level_q : (i : Instance ℕ) (d : LevelCode) → Among (with_level d i) ((q.inst, q.level) ∷ q.waiting.entries) →
          IsLevel rules (contents s) (known_to entries q) q.ended.entries i d
      level_q i d h = subst (λ fs. IsLevel rules (contents s) (known_in entries fs) q.ended.entries i d) (sym finds.found)
          (subst (λ es. IsLevel rules (contents s) (known_to entries p) es i d) (sym finds.ended) (st.below i d (waits_p i d h)))

      placed_q : (i : Instance ℕ) → Among i (under (all_levels p)) →
          IsSome (known_to entries q i) ⊎ (IsMarked q.ended.entries i ⊎ Among i (under (all_levels q)))
      placed_q i (inl e) = elim st.tried [
        | inl a ↦ inr (inl (subst (λ es. IsMarked es i) (sym finds.ended) (marked i (subst (λ z. Among z m.seen) (sym e) a))))
        | inr k ↦ inl (known_q i (subst (λ z. IsSome (known_to entries p z)) (sym e) k))
      ]
      placed_q i (inr h) = elim (either_among i (seen_in p.level) (under (levels_of p.waiting.entries)) h) [
        | inl a ↦ inr (inl (subst (λ es. IsMarked es i) (sym finds.ended) (marked i (subst (λ is. Among i is) (sym st.is.seen) a))))
        | inr b ↦ inr (inr (under_q i b))
      ]

      whole_q : AreWholeOrSeen rules (contents s) entries q
      whole_q = record {
        placed = λ i h. elim (let whole = st.can.whole in whole.placed i (subst (λ es. Among i (keys_of es)) finds.ended h)) [
          | inl k ↦ inl (known_q i k)
          | inr d ↦ elim d [ inl k ↦ inr (inl (subst (λ es. IsMarked es i) (sym finds.ended) k)) | inr u ↦ placed_q i u ]
        ];
        marked = λ i k. let whole = st.can.whole in whole.marked i (subst (λ es. IsMarked es i) finds.ended k);
        spoilt = λ i k e. subst (λ es. LeadsToFault es i) (sym finds.ended)
            (let whole = st.can.whole in whole.spoilt i (subst (λ es. IsMarked es i) finds.ended k) (subst (λ fs. known_in entries fs i ≡ None) finds.found e));
        asked = asked_moved entries p q finds.ended finds.found (let whole = st.can.whole in whole.asked);
      }

      typed_q : (i : Instance ℕ) → IsAbout q i → IsWellTyped rules (class_shown s) AnyText i
      typed_q i (inl h) = st.typed i (inl (inr (back_among i (seen_in p.level) (under (levels_of p.waiting.entries)) (under_p i h))))
      typed_q i (inr (j, d, a, b)) = st.typed i (inr (j, d, inr (waits_p j d a), b))

      few_q : q.turns ≤ 2 * length m.ended + length (levels_of q.waiting.entries)
      few_q =
          let few : p.turns + 2 ≤ 2 * length m.ended + length m.below = st.few in
          let same : q.turns ≡ p.turns = finds.turns in
          let long : length m.below ≡ suc (length (levels_of q.waiting.entries)) = ap length below_is in
          omega (arith, few, same, long)

      -- with these outcomes told
      module _ (more : List (Instance ℕ × Outcome ℕ)) (on : (i : Instance ℕ) (o : Outcome ℕ) → Among (i, o) m.told → Among (i, o) more)
          (holds : (i : Instance ℕ) (o : Outcome ℕ) → Among (i, o) more → Holds (contents s) (meaning rules) i o)
          (values : (i : Instance ℕ) (v : Value ℕ) → Among (i, Finds v) more → known_to entries p i ≡ Some v)
          (led : (i : Instance ℕ) (o : Outcome ℕ) → Among (i, o) more → Leads (contents s) (meaning rules) (asked_by p) i) where
        abbrev pub fallen : Search ℕ
        fallen = fallen_to m (level_of q.inst q.level) (levels_of q.waiting.entries) more

        pub stands_fallen : StandsFor rules s entries q fallen
        stands_fallen = record {
          is = record {
            last = refl;
            below = refl;
            ended = λ i h. elim (st.is.ended i h) [ inl k ↦ inl (subst (λ es. Among i (keys_of es)) (sym finds.ended) k) | inr k ↦ inr (known_q i k) ];
            recorded = λ i h. st.is.recorded i (subst (λ es. Among i (keys_of es)) finds.ended h);
            told = λ i v h. subst (λ fs. known_in entries fs i ≡ Some v) (sym finds.found) (values i v h);
            known = λ i v e. elim (st.is.known i v (subst (λ fs. known_in entries fs i ≡ Some v) finds.found e)) [
              | inl k ↦ inl k
              | inr t ↦ inr (on i (Finds v) t)
            ];
            spent = λ i k. st.is.spent i (subst (λ fs. IsSome (known_in entries fs i)) finds.found k);
          };
          on = let (demands, off, here, rest) = stacked_here in record {
            starts = starts_at q.waiting.entries q.level q.inst;
            last = here;
            stacked = rest;
            told = holds;
            ended = ended_so;
          };
          fresh = subst (λ r. IsFresh (contents s) (meaning rules) r (tried_at (level_of q.inst q.level ∷ levels_of q.waiting.entries)) m.ended) (sym asked_fallen)
              (subst (λ ls. IsFresh (contents s) (meaning rules) (asked_by p) (tried_at ls) m.ended) below_is st.fresh);
          facts = facts_same rules (contents s) entries p q finds.ended finds.found st.can.facts;
          levels = record { last = level_q q.inst q.level (inl refl); below = λ i d h. level_q i d (inr h) };
          whole = whole_q;
          typed = typed_q;
          reached = λ i o h. subst (λ r. Leads (contents s) (meaning rules) r i) (sym asked_fallen) (led i o h);
          few = few_q;
        }
