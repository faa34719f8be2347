-- The equation of the last one has ended: behind that try the question stands between two tries.
use Rattle.std.proofs.Common.{◌≡◌, ◌⊎◌, ℕ, ◌+◌, ◌*◌, ◌≤◌, suc, arith, length, Bool, true, false, true≢false, List, [], ◌∷◌, ◌++◌, Some, None, inl, inr, refl, sym, ap, ◌∙◌, subst, if◌then◌else◌}
use Rattle.std.specs.Prelude.{IsSome}
use Rattle.std.specs.Map.{keys_of, lookup}
use Rattle.at_model.specs.Instances.{AnyText}
use Rattle.at_model.specs.Meaning.{Among, Distinct, Outcome}
use Rattle.at_model.specs.Rules.{Rules, start_of}
use Rattle.at_model.specs.Run.{Value, Instance, Contents, FaultKind}
use Rattle.at_model.specs.TypedRuns.{IsWellTyped}
use Rattle.at_model.specs.of_fixpoints.Fixpoints.{End, Made, Spoilt, EndsSo, HasValue, stays}
use Rattle.at_model.specs.of_fixpoints.Formulas.{Formula}
use Rattle.at_model.specs.of_fixpoints.Resting.{Leads}
use Rattle.at_model.specs.of_fixpoints.Resting as led
use Rattle.at_model.specs.of_fixpoints.Searched.{IsFresh, tried_at}
use Rattle.at_model.specs.of_fixpoints.Searching.{Level, Looked, Search, asked_in, behind, under}
use Rattle.at_model.proofs.Reached.{back_among, either_among, front_among}
use Rattle.at_model.proofs.of_searching.FewTurns.{ended_fresh}
use Rattle.at_model.proofs.of_searching.Steps.{has_seen}
use Rattle.at_store.specs.Shown.{Shown, contents}
use Rattle.at_body.specs.Same.{same_instance}
use Rattle.at_body.specs.Typed.{class_shown}
use Rattle.at_body.specs.Values.{fault_view}
use Rattle.at_cache.specs.Kept.{Entries}
use Rattle.at_search.specs.Recorded.{AreWhole, IsMarked, IsRecordedForm, Recorded, end_of}
use Rattle.at_search.specs.declared.ended.Ended.{Ended}
use Rattle.at_search.specs.declared.ended.Ending.{Ending}
use Rattle.at_search.specs.declared.ended.Ending.TheVariants as ending
use Rattle.at_search.specs.declared.ended.Formed.{Formed}
use Rattle.at_search.proofs.Meeting.{sees}
use Rattle.at_evaluate.proofs.Entered.{is_there, not_none}
use Rattle.at_demand.proofs.of_searches.Circling.{one_recorded}
use Rattle.at_demand.specs.declared.question.Question.{Question}
use Rattle.at_demand.specs.Answerable.{IsAnswerable}
use Rattle.at_demand.specs.ChainSteps.{HasEnded, ended_by}
use Rattle.at_demand.specs.Covering.{AreWhole as AreWholeFinds}
use Rattle.at_demand.specs.Known.{FoundKept, known_in}
use Rattle.at_evaluate.specs.Valued.{meaning}
use Rattle.at_demand.specs.Levels.{AreFactsOf, AreWholeOrSeen, HasAllEnded, HaveAsked, IsAbout, IsFormOf, IsLevel, LeadsToFault, LevelCode, StandsFor, all_levels, asked_by, fault_in, known_to, level_of, levels_of, root_in, seen_in, todo_in}
use Rattle.at_demand.specs.Searches.{AreSoundFinds, IsLooked, StandsBetween}
use Rattle.at_demand.proofs.Keys.{absent, goes_last, keys_push, lookup_push}
use Rattle.at_demand.proofs.Marking.{told_among}
use Rattle.at_evaluate.proofs.Sameness.{same_refl}
use Rattle.at_demand.proofs.of_searches.Moving.{asked_same, rooted_in}
use Rattle.at_demand.proofs.of_searches.OnceTold.{covered_on}
use Rattle.at_demand.proofs.of_searches.Overgoing.{covered_seen}
use Rattle.at_demand.proofs.of_searches.Reaching.{led_typed}
use Rattle.at_demand.proofs.of_levels.Resolving.{EndingsStay, fault_recorded}
use Rattle.at_demand.proofs.of_searches.Returning.{with_level}

-- what is looked up in front, and the last one
lookup_front : (es fs : List (Instance ℕ × Ended)) (j : Instance ℕ) (y : Ended) → lookup (same_instance j) es ≡ Some y →
    lookup (same_instance j) (es ++ fs) ≡ Some y
lookup_front [] fs j y e = absurd cc
lookup_front (d ∷ es) fs j y e = by (same_instance j d.0) e (lookup_front es fs j y)
  where
    by : (b : Bool) → (if b then Some d.1 else lookup (same_instance j) es) ≡ Some y →
        (lookup (same_instance j) es ≡ Some y → lookup (same_instance j) (es ++ fs) ≡ Some y) →
        (if b then Some d.1 else lookup (same_instance j) (es ++ fs)) ≡ Some y
    by true e more = e
    by false e more = more e

lookup_last : (es : List (Instance ℕ × Ended)) (i : Instance ℕ) (x : Ended) → lookup (same_instance i) es ≡ None →
    lookup (same_instance i) (es ++ (i, x) ∷ []) ≡ Some x
lookup_last [] i x none = ap (λ b. if b then Some x else None) (same_refl i)
lookup_last (d ∷ es) i x none = by (same_instance i d.0) none (lookup_last es i x)
  where
    by : (b : Bool) → (if b then Some d.1 else lookup (same_instance i) es) ≡ None →
        (lookup (same_instance i) es ≡ None → lookup (same_instance i) (es ++ (i, x) ∷ []) ≡ Some x) →
        (if b then Some d.1 else lookup (same_instance i) (es ++ (i, x) ∷ [])) ≡ Some x
    by true none more = absurd cc
    by false none more = more none

-- how it ended
ending_is : (e : Ending) → (ended_by e).ending ≡ e
ending_is (ending.Formed f) = refl
ending_is (ending.Spoilt s) = refl

-- it is the formula of the last one, whose attribute is circular
abbrev pub IsFormHere : Rules → Contents ℕ → Entries → Question → Formed → Type 0
IsFormHere rules look entries q f = IsFormOf rules look entries q.found.entries q.inst f × IsSome (start_of rules q.inst.attribute)

module _ (rules : Rules) (s : Shown) (entries : Entries) (q : Question) (below : List (Level ℕ)) (ended : List (Instance ℕ)) (told : List (Instance ℕ × Outcome ℕ))
    (st : StandsFor rules s entries q (record { last = level_of q.inst q.level; below = below; ended = ended; told = told }))
    (answerable : IsAnswerable rules s entries) (finds : AreSoundFinds rules s entries q) (e : Ending) (new : Question) (h : HasEnded q e new)
    (ends : EndsSo (contents s) (meaning rules) q.inst (end_of e))
    (form : (f : Formed) → e ≡ ending.Formed f → IsFormHere rules (contents s) entries q f) where
  abbrev pub behind_it : Looked ℕ
  behind_it = behind (record { last = level_of q.inst q.level; below = below; ended = ended; told = told }) (end_of e)

  -- it wasn't recorded before, and is the last one now
  unrecorded : Among q.inst (keys_of q.ended.entries) → ⊥
  unrecorded k = let fresh = st.fresh in fresh.apart.0 (back_among q.inst (tried_at below) ended (st.is.recorded q.inst k))

  none : lookup (same_instance q.inst) q.ended.entries ≡ None
  none = absent q.ended.entries q.inst unrecorded

  pushed : new.ended.entries ≡ q.ended.entries ++ (q.inst, ended_by e) ∷ []
  pushed = h.ended ∙ goes_last q.ended.entries q.inst (ended_by e) unrecorded

  keys_new : keys_of new.ended.entries ≡ keys_of q.ended.entries ++ q.inst ∷ []
  keys_new = ap (λ es. keys_of es) pushed ∙ keys_push q.ended.entries q.inst (ended_by e)

  stay : EndingsStay q.ended.entries new.ended.entries
  stay i x at = (x, subst (λ es. lookup (same_instance i) es ≡ Some x) (sym pushed) (lookup_front q.ended.entries ((q.inst, ended_by e) ∷ []) i x at), refl)

  here : lookup (same_instance q.inst) new.ended.entries ≡ Some (ended_by e)
  here = subst (λ es. lookup (same_instance q.inst) es ≡ Some (ended_by e)) (sym pushed) (lookup_last q.ended.entries q.inst (ended_by e) none)

  recorded_now : Recorded new.ended.entries q.inst (end_of e)
  recorded_now = (ended_by e, here, ap end_of (ending_is e))

  -- what is looked up was there, or is it
  looked_up : (i : Instance ℕ) (x : Ended) → lookup (same_instance i) new.ended.entries ≡ Some x →
      (lookup (same_instance i) q.ended.entries ≡ Some x) ⊎ ((i ≡ q.inst) × (ended_by e ≡ x))
  looked_up i x at = lookup_push q.ended.entries q.inst i (ended_by e) x (subst (λ es. lookup (same_instance i) es ≡ Some x) pushed at)

  pub key_back : (i : Instance ℕ) → Among i (keys_of new.ended.entries) → Among i (keys_of q.ended.entries) ⊎ (i ≡ q.inst)
  key_back i k = elim (either_among i (keys_of q.ended.entries) (q.inst ∷ []) (subst (λ ks. Among i ks) keys_new k)) [
    | inl a ↦ inl a
    | inr b ↦ elim b [ inl e ↦ inr e | inr u ↦ absurd u ]
  ]

  known_new : (i : Instance ℕ) → IsSome (known_to entries q i) → IsSome (known_to entries new i)
  known_new i k = subst (λ fs. IsSome (known_in entries fs i)) (sym h.found) k

  asked_new : asked_by new ≡ asked_by q
  asked_new = asked_same q new h.chain.waiting h.root

  is_looked : IsLooked entries new behind_it
  is_looked = record {
    root = sym h.root;
    seen = let x = h.sees in sym x.seen;
    todo = let x = h.sees in sym x.todo;
    below = st.is.below ∙ sym (ap (λ ws. levels_of ws) h.chain.waiting);
    ended = λ i a. elim a [
      | inl p ↦ inl (subst (λ ks. Among i ks) (sym keys_new) (back_among i (keys_of q.ended.entries) (q.inst ∷ []) (inl p)))
      | inr b ↦ elim (st.is.ended i b) [
        | inl k ↦ inl (subst (λ ks. Among i ks) (sym keys_new) (front_among i (keys_of q.ended.entries) (q.inst ∷ []) k))
        | inr k ↦ inr (known_new i k)
      ]
    ];
    recorded = λ i k. elim (key_back i k) [ inl a ↦ inr (st.is.recorded i a) | inr p ↦ inl p ];
    told = λ i v t. subst (λ fs. known_in entries fs i ≡ Some v) (sym h.found) (st.is.told i v t);
    known = λ i v x. st.is.known i v (subst (λ fs. known_in entries fs i ≡ Some v) h.found x);
    spent = λ i k. elim (st.is.spent i (subst (λ fs. IsSome (known_in entries fs i)) h.found k)) [ inl x ↦ inl x | inr y ↦ inr (inr y) ];
  }

  facts_now : AreFactsOf rules (contents s) entries new
  facts_now = record {
    ends = ends_now;
    forms = forms_now;
    circular = circular_now;
    values = let facts = st.facts in subst (λ fs. (j : Instance ℕ) (v : Value ℕ) → known_in entries fs j ≡ Some v → HasValue (contents s) (meaning rules) j v) (sym h.found) facts.values;
    wholes = let facts = st.facts in subst (λ fs. AreWhole (contents s) (meaning rules) (known_in entries fs)) (sym h.found) facts.wholes;
  }
    where
      ends_now : (i : Instance ℕ) (d : End ℕ (Formula ℕ)) → Recorded new.ended.entries i d → EndsSo (contents s) (meaning rules) i d
      ends_now i d (x, at, is) = elim (looked_up i x at) [
        | inl was ↦ (let facts = st.facts in facts.ends i d (x, was, is))
        | inr p ↦ subst (λ z. EndsSo (contents s) (meaning rules) z d) (sym p.0)
            (subst (λ z. EndsSo (contents s) (meaning rules) q.inst z) (sym (ap end_of (ending_is e)) ∙ ap (λ (z : Ended). end_of z.ending) p.1 ∙ is) ends)
      ]

      forms_now : (i : Instance ℕ) (f : Formed) → IsRecordedForm new.ended.entries i f → IsFormOf rules (contents s) entries new.found.entries i f
      forms_now i f (x, at, is) = subst (λ fs. IsFormOf rules (contents s) entries fs i f) (sym h.found)
          (elim (looked_up i x at) [
            | inl was ↦ (let facts = st.facts in facts.forms i f (x, was, is))
            | inr p ↦ subst (λ z. IsFormOf rules (contents s) entries q.found.entries z f) (sym p.0)
                (form f (sym (ending_is e) ∙ ap (λ (z : Ended). z.ending) p.1 ∙ is)).0
          ])

      circular_now : (i : Instance ℕ) (f : Formed) → IsRecordedForm new.ended.entries i f → IsSome (start_of rules i.attribute)
      circular_now i f (x, at, is) = elim (looked_up i x at) [
        | inl was ↦ (let facts = st.facts in facts.circular i f (x, was, is))
        | inr p ↦ subst (λ (z : Instance ℕ). IsSome (start_of rules z.attribute)) (sym p.0)
            (form f (sym (ending_is e) ∙ ap (λ (z : Ended). z.ending) p.1 ∙ is)).1
      ]

  pub seen_new : (i : Instance ℕ) → Among i (under (all_levels q)) → Among i (under (all_levels new))
  seen_new i (inl p) = inl (p ∙ sym h.chain.inst)
  seen_new i (inr a) = elim (either_among i (seen_in q.level) (under (levels_of q.waiting.entries)) a) [
    | inl b ↦ inr (front_among i (seen_in new.level) (under (levels_of new.waiting.entries)) (let x = h.sees in subst (λ is. Among i is) (sym x.seen) (inr b)))
    | inr b ↦ inr (back_among i (seen_in new.level) (under (levels_of new.waiting.entries)) (subst (λ ws. Among i (under (levels_of ws))) (sym h.chain.waiting) b))
  ]

  marked_new : (i : Instance ℕ) → IsMarked q.ended.entries i → IsMarked new.ended.entries i
  marked_new i (x, at, w) =
      (x, subst (λ es. lookup (same_instance i) es ≡ Some x) (sym pushed) (lookup_front q.ended.entries ((q.inst, ended_by e) ∷ []) i x at), w)

  -- it is marked where it has a fault
  marked_spoilt : (i : Instance ℕ) → IsMarked new.ended.entries i → IsMarked q.ended.entries i
      ⊎ ((i ≡ q.inst) × (k : FaultKind) × (at : Instance ℕ) × (end_of e ≡ Spoilt k at))
  marked_spoilt i (x, at, w) = elim (looked_up i x at) [
    | inl was ↦ inl (x, was, w)
    | inr p ↦ inr (let (k, to, is) = by e (ap (λ (z : Ended). z.is_whole) p.1 ∙ w) in (p.0, k, to, is))
  ]
    where
      by : (d : Ending) → (ended_by d).is_whole ≡ true → (k : FaultKind) × (at : Instance ℕ) × (end_of d ≡ Spoilt k at)
      by (ending.Formed f) off = absurd (true≢false (sym off))
      by (ending.Spoilt d) on = (fault_view d.kind, d.at, refl)

  whole_now : AreWholeOrSeen rules (contents s) entries new
  whole_now = record { placed = placed; marked = marked; spoilt = spoilt; asked = asked }
    where
      was : AreWholeOrSeen rules (contents s) entries q
      was = st.whole

      placed : (i : Instance ℕ) → Among i (keys_of new.ended.entries) →
          IsSome (known_to entries new i) ⊎ (IsMarked new.ended.entries i ⊎ Among i (under (all_levels new)))
      placed i k = elim (key_back i k) [
        | inl a ↦ elim (was.placed i a) [
          | inl b ↦ inl (known_new i b)
          | inr d ↦ elim d [ inl m ↦ inr (inl (marked_new i m)) | inr u ↦ inr (inr (seen_new i u)) ]
        ]
        | inr p ↦ inr (inr (inl (p ∙ sym h.chain.inst)))
      ]

      alone : (k : FaultKind) (at : Instance ℕ) → end_of e ≡ Spoilt k at → HasAllEnded (contents s) (meaning rules) q.inst
      alone k at is = (
        q.inst ∷ [],
        (λ j a. elim a [
          | inl p ↦ record {
            end = Spoilt k at;
            ends = subst (λ z. EndsSo (contents s) (meaning rules) z (Spoilt k at)) (sym p) (subst (λ z. EndsSo (contents s) (meaning rules) q.inst z) is ends);
            good = tt;
            next = λ m b. absurd b;
          }
          | inr u ↦ absurd u
        ]),
        inl refl,
      )

      marked : (i : Instance ℕ) → IsMarked new.ended.entries i → HasAllEnded (contents s) (meaning rules) i
      marked i m = elim (marked_spoilt i m) [
        | inl a ↦ was.marked i a
        | inr (p, k, at, is) ↦ subst (λ z. HasAllEnded (contents s) (meaning rules) z) (sym p) (alone k at is)
      ]

      spoilt : (i : Instance ℕ) → IsMarked new.ended.entries i → known_to entries new i ≡ None → LeadsToFault new.ended.entries i
      spoilt i m x = elim (marked_spoilt i m) [
        | inl a ↦ fault_recorded q.ended.entries new.ended.entries stay i (was.spoilt i a (subst (λ fs. known_in entries fs i ≡ None) h.found x))
        | inr (p, k, at, is) ↦ subst (λ z. LeadsToFault new.ended.entries z) (sym p)
            (q.inst, at, k, stays q.inst, subst (λ z. Recorded new.ended.entries q.inst z) is recorded_now)
      ]

      asked : HaveAsked (known_to entries new) new.ended.entries
      asked i j f m r a = elim (marked_spoilt i m) [
        | inl b ↦ elim (was.asked i j f b (recorded_was r b) a) [
          | inl k ↦ inl (known_new j k)
          | inr key ↦ inr (subst (λ ks. Among j ks) (sym keys_new) (front_among j (keys_of q.ended.entries)
              (q.inst ∷ []) key))
        ]
        | inr (p, k, at, is) ↦
            let same : Made f ≡ Spoilt k at = one_recorded new.ended.entries i (Made f) (Spoilt k at) r
            (subst (λ z. Recorded new.ended.entries z (Spoilt k at)) (sym p) (subst
            (λ z. Recorded new.ended.entries q.inst z) is recorded_now)) in absurd cc
      ]
        where
          -- it was recorded so
          recorded_was : Recorded new.ended.entries i (Made f) → IsMarked q.ended.entries i →
              Recorded q.ended.entries i (Made f)
          recorded_was (x, at, is) (y, before, w) = elim (looked_up i x at) [
            | inl here ↦ (x, here, is)
            | inr d ↦ absurd (not_none (lookup (same_instance i) q.ended.entries) (is_there (lookup
                (same_instance i) q.ended.entries) y before)
                (ap (λ z. lookup (same_instance z) q.ended.entries) d.0 ∙ none))
          ]

  level_now : (i : Instance ℕ) (d : LevelCode) → IsLevel rules (contents s) (known_to entries q) q.ended.entries i d →
      IsLevel rules (contents s) (known_to entries new) new.ended.entries i d
  level_now i d x = record {
    covered = covered_on (known_to entries q) (known_to entries new) q.ended.entries new.ended.entries stay known_new (root_in d i) (seen_in d) (i ∷ todo_in d)
        (fault_in d) x.covered;
    met = x.met;
    alike = x.alike;
    rooted = x.rooted;
  }

  leads_now : (d : End ℕ (Formula ℕ)) → EndsSo (contents s) (meaning rules) q.inst d → (i : Instance ℕ) → Among i (asked_in d) →
      Leads (contents s) (meaning rules) q.inst i
  leads_now (Made f) y i a = led.goes q.inst i i (inr (f, y, a)) (led.stays i)
  leads_now (Spoilt k to) y i a = absurd a

  typed_now : (i : Instance ℕ) → IsAbout new i → IsWellTyped rules (class_shown s) AnyText i
  typed_now i (inl (inl p)) = st.typed i (inl (inl (p ∙ h.chain.inst)))
  typed_now i (inl (inr a)) = elim (either_among i (seen_in new.level) (under (levels_of new.waiting.entries)) a) [
    | inl b ↦ elim (let x = h.sees in subst (λ is. Among i is) x.seen b) [
      | inl p ↦ st.typed i (inl (inl p))
      | inr d ↦ st.typed i (inl (inr (front_among i (seen_in q.level) (under (levels_of q.waiting.entries)) d)))
    ]
    | inr b ↦ st.typed i (inl (inr (back_among i (seen_in q.level) (under (levels_of q.waiting.entries))
        (subst (λ ws. Among i (under (levels_of ws))) h.chain.waiting b))))
  ]
  typed_now i (inr (j, d, inl a, b)) = last b
    where
      at : with_level d j ≡ with_level new.level new.inst
      at = a

      last : Among i (todo_in d) ⊎ (i ≡ root_in d j) → IsWellTyped rules (class_shown s) AnyText i
      last (inl t) = elim (either_among i (asked_in (end_of e)) (todo_in q.level)
          (let x = h.sees in subst (λ ts. Among i ts) x.todo (subst (λ (z : Instance ℕ × LevelCode). Among i (todo_in z.1)) at t))) [
            | inl c ↦ led_typed rules s answerable.basis q.inst i (st.typed q.inst (inl (inl refl))) (leads_now (end_of e) ends i c)
            | inr c ↦ st.typed i (inr (q.inst, q.level, inl refl, inl c))
          ]
      last (inr r) = st.typed i (inr (q.inst, q.level, inl refl, inr (subst (λ (z : Instance ℕ × LevelCode). i ≡ root_in z.1 z.0) at r ∙ h.root)))
  typed_now i (inr (j, d, inr a, b)) = st.typed i (inr (j, d, inr (subst (λ ws. Among (with_level d j) ws) h.chain.waiting a), b))

  few_now : new.turns + 2 ≤ 2 * suc (length ended) + length below
  few_now = let few : q.turns ≤ 2 * length ended + length below = st.few in let same : new.turns ≡ q.turns = h.turns in omega (arith, few, same)

  pub stands_behind : StandsBetween rules s entries new behind_it
  stands_behind =
      let on = st.on in
      let (come, fresh, shut) = on.last in
      let sees_it = h.sees in
      let levels = st.levels in
      let last = levels.last in record {
        is = is_looked;
        come = has_seen (contents s) (meaning rules) told_among (under below) (root_in q.level q.inst) (seen_in q.level) q.inst (todo_in q.level) (end_of e)
            ends fresh shut come;
        stacked = on.stacked;
        rooted = rooted_in q.level q.inst last.rooted;
        tried = inl (inl h.chain.inst);
        last = inl h.chain.inst;
        told = on.told;
        reached = λ i o a. subst (λ r. Leads (contents s) (meaning rules) r i) (sym asked_new) (st.reached i o a);
        few = few_now;
        fresh = subst (λ r. IsFresh (contents s) (meaning rules) r (tried_at below) (q.inst ∷ ended)) (sym asked_new)
            (ended_fresh (contents s) (meaning rules) (asked_by q) q.inst (tried_at below) ended st.fresh);
        covered = covered_seen (known_to entries new) new.ended.entries (root_in q.level q.inst) (seen_in q.level) q.inst (todo_in q.level) e (fault_in q.level)
            (fault_in new.level) recorded_now sees_it.met
            (covered_on (known_to entries q) (known_to entries new) q.ended.entries new.ended.entries stay known_new (root_in q.level q.inst) (seen_in q.level)
            (q.inst ∷ todo_in q.level) (fault_in q.level) last.covered);
        met = sees (contents s) (meaning rules) (root_in q.level q.inst) (seen_in q.level) (todo_in q.level) q.inst e (fault_in q.level) (fault_in new.level)
            last.met fresh ends sees_it.met;
        below = λ i d a. level_now i d (levels.below i d (subst (λ ws. Among (with_level d i) ws) h.chain.waiting a));
        can = record {
          answerable = answerable;
          facts = facts_now;
          finds = record {
            whole = subst (λ fs. AreWholeFinds rules (contents s) fs) (sym h.found) finds.whole;
            took = subst (λ fs. FoundKept entries fs) (sym h.found) finds.took;
          };
          whole = whole_now;
        };
        typed = typed_now;
      }

-- so it is of whatever the question stands for
pub stands_ended : (rules : Rules) (s : Shown) (entries : Entries) (q : Question) (u : Search ℕ) → StandsFor rules s entries q u → IsAnswerable rules s entries →
    AreSoundFinds rules s entries q → (e : Ending) (new : Question) → HasEnded q e new → EndsSo (contents s) (meaning rules) q.inst (end_of e) →
    ((f : Formed) → e ≡ ending.Formed f → IsFormHere rules (contents s) entries q f) →
    StandsBetween rules s entries new (behind u (end_of e))
stands_ended rules s entries q u st answerable finds e new h ends form =
    subst (λ (l : Level ℕ). StandsBetween rules s entries new (behind (record { last = l; below = u.below; ended = u.ended; told = u.told }) (end_of e)))
    (sym st.is.last)
    (stands_behind rules s entries q u.below u.ended u.told
    (subst (λ (l : Level ℕ). StandsFor rules s entries q (record { last = l; below = u.below; ended = u.ended; told = u.told })) st.is.last st)
    answerable finds e new h ends form)

-- just that is recorded beside what was
pub key_ended : (rules : Rules) (s : Shown) (entries : Entries) (q : Question) (u : Search ℕ) → StandsFor rules s entries q u → (e : Ending) (new : Question) →
    HasEnded q e new → (i : Instance ℕ) → Among i (keys_of new.ended.entries) → Among i (keys_of q.ended.entries) ⊎ (i ≡ q.inst)
key_ended rules s entries q u st e new h i k = elim (either_among i (keys_of q.ended.entries) (q.inst ∷ []) (subst (λ ks. Among i ks) keys k)) [
  | inl a ↦ inl a
  | inr b ↦ elim b [ inl d ↦ inr d | inr n ↦ absurd n ]
]
  where
    fresh : Distinct (u.last.next ∷ (tried_at u.below ++ u.ended))
    fresh = let x = st.fresh in x.apart

    unrecorded : Among q.inst (keys_of q.ended.entries) → ⊥
    unrecorded a = fresh.0 (subst (λ (l : Level ℕ). Among l.next (tried_at u.below ++ u.ended)) (sym st.is.last)
        (back_among q.inst (tried_at u.below) u.ended (st.is.recorded q.inst a)))

    keys : keys_of new.ended.entries ≡ keys_of q.ended.entries ++ q.inst ∷ []
    keys = ap (λ es. keys_of es) (h.ended ∙ goes_last q.ended.entries q.inst (ended_by e) unrecorded) ∙ keys_push q.ended.entries q.inst (ended_by e)
