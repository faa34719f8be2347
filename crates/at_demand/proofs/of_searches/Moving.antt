-- A question moves on in its last level: what stood between two tries stands with what that has seen and has to do.
use Rattle.std.proofs.Common.{◌≡◌, ◌⊎◌, ℕ, ◌+◌, ◌*◌, ◌≤◌, length, List, ◌∷◌, ◌++◌, slice_get, Option, Some, None, inl, inr, refl, sym, ap, ◌∙◌, subst}
use Rattle.std.specs.Prelude.{IsSome}
use Rattle.std.specs.Map.{keys_of}
use Rattle.at_model.specs.Instances.{AnyText}
use Rattle.at_model.specs.Meaning.{Among}
use Rattle.at_model.specs.Rules.{Rules}
use Rattle.at_model.specs.Run.{Instance}
use Rattle.at_model.specs.TypedRuns.{IsWellTyped}
use Rattle.at_model.specs.of_fixpoints.Resting.{Leads}
use Rattle.at_model.specs.of_fixpoints.Searched.{HasCome, IsFresh, tried_at}
use Rattle.at_model.specs.of_fixpoints.Searching.{Looked, under}
use Rattle.at_model.proofs.Reached.{back_among, either_among, front_among}
use Rattle.at_store.specs.Shown.{Shown, contents}
use Rattle.at_body.specs.Typed.{class_shown}
use Rattle.at_cache.specs.Kept.{Entries}
use Rattle.at_search.specs.Recorded.{IsMarked, MetFrom}
use Rattle.at_demand.specs.declared.question.Question.{Question}
use Rattle.at_demand.specs.ChainSteps.{KeepsChain, KeepsFinds}
use Rattle.at_demand.specs.Covering.{AreWhole as AreWholeFinds}
use Rattle.at_demand.specs.Known.{FoundKept, known_in}
use Rattle.at_evaluate.specs.Valued.{meaning}
use Rattle.at_demand.specs.Levels.{AreWholeOrSeen, IsAbout, IsCovered, IsLevel, IsRooted, LeadsToFault, LevelCode, all_levels, asked_by, fault_in, known_to, levels_of, root_in, seen_in, todo_in}
use Rattle.at_demand.specs.Searches.{CanResolve, IsLooked, StandsBetween}
use Rattle.at_demand.proofs.of_searches.Reaching.{asked_at}
use Rattle.at_demand.proofs.of_levels.Resolving.{asked_moved, facts_same}
use Rattle.at_demand.proofs.of_searches.Returning.{with_level}

-- where the root was seen, or is tried
pub rooted_at : (d : LevelCode) (i : Instance ℕ) → Among (root_in d i) (seen_in d) → IsRooted d
rooted_at None i h = tt
rooted_at (Some b) i h = h

pub rooted_in : (d : LevelCode) (i : Instance ℕ) → IsRooted d → Among (root_in d i) (i ∷ seen_in d)
rooted_in None i h = inl refl
rooted_in (Some b) i h = inr h

-- the root of the first level, of all or of the last one alone
abbrev first_root : Option (Instance ℕ × LevelCode) → LevelCode → Instance ℕ → Instance ℕ
first_root o d i = elim o [ None ↦ root_in d i | Some e ↦ root_in e.1 e.0 ]

-- what was asked stays where those that wait do, and the last level's root
pub asked_same : (p q : Question) → q.waiting.entries ≡ p.waiting.entries → root_in q.level q.inst ≡ root_in p.level p.inst → asked_by q ≡ asked_by p
asked_same p q waiting root = by p.waiting.entries q.waiting.entries waiting
  where
    by : (ws vs : List (Instance ℕ × LevelCode)) → vs ≡ ws → asked_at vs q.level q.inst ≡ asked_at ws p.level p.inst
    by ws vs e = ap (λ us. asked_at us q.level q.inst) e ∙ at_first (slice_get ws 0)
      where
        at_first : (o : Option (Instance ℕ × LevelCode)) → first_root o q.level q.inst ≡ first_root o p.level p.inst
        at_first None = root
        at_first (Some x) = refl

abbrev pub IsTyped : Rules → Shown → Instance ℕ → Type 0
IsTyped rules s i = IsWellTyped rules (class_shown s) AnyText i

-- all that a search has seen, or has to do, is well typed
pub typed_all : (rules : Rules) (s : Shown) (entries : Entries) (p : Question) (m : Looked ℕ) → StandsBetween rules s entries p m →
    (i : Instance ℕ) → Among i (m.seen ++ m.todo) → IsWellTyped rules (class_shown s) AnyText i
typed_all rules s entries p m st i h = elim (either_among i m.seen m.todo h) [
  | inl a ↦ st.typed i (inl (inr (front_among i (seen_in p.level) (under (levels_of p.waiting.entries)) (subst (λ is. Among i is) st.is.seen a))))
  | inr a ↦ st.typed i (inr (p.inst, p.level, inl refl, inl (subst (λ ts. Among i ts) st.is.todo a)))
]

module _ (rules : Rules) (s : Shown) (entries : Entries) (p q : Question) (chain : KeepsChain p q) (finds : KeepsFinds p q) where
  known_q : (i : Instance ℕ) → IsSome (known_to entries p i) → IsSome (known_to entries q i)
  known_q i k = subst (λ fs. IsSome (known_in entries fs i)) (sym finds.found) k

  marked_p : (i : Instance ℕ) → IsMarked q.ended.entries i → IsMarked p.ended.entries i
  marked_p i m = subst (λ es. IsMarked es i) finds.ended m

  under_q : (i : Instance ℕ) → Among i (under (levels_of p.waiting.entries)) → Among i (under (levels_of q.waiting.entries))
  under_q i h = subst (λ ws. Among i (under (levels_of ws))) (sym chain.waiting) h

  under_p : (i : Instance ℕ) → Among i (under (levels_of q.waiting.entries)) → Among i (under (levels_of p.waiting.entries))
  under_p i h = subst (λ ws. Among i (under (levels_of ws))) chain.waiting h

  -- what was seen at levels under way is so still
  module _ (more : (i : Instance ℕ) → Among i (seen_in p.level) → Among i (seen_in q.level)) where
    pub seen_on : (i : Instance ℕ) → Among i (under (all_levels p)) → Among i (under (all_levels q))
    seen_on i (inl e) = inl (e ∙ sym chain.inst)
    seen_on i (inr h) = elim (either_among i (seen_in p.level) (under (levels_of p.waiting.entries)) h) [
      | inl a ↦ inr (front_among i (seen_in q.level) (under (levels_of q.waiting.entries)) (more i a))
      | inr b ↦ inr (back_among i (seen_in q.level) (under (levels_of q.waiting.entries)) (under_q i b))
    ]

    whole_moved : AreWholeOrSeen rules (contents s) entries p → AreWholeOrSeen rules (contents s) entries q
    whole_moved w = record {
      placed = λ i h. elim (w.placed i (subst (λ es. Among i (keys_of es)) finds.ended h)) [
        | inl k ↦ inl (known_q i k)
        | inr d ↦ elim d [ inl m ↦ inr (inl (subst (λ es. IsMarked es i) (sym finds.ended) m)) | inr u ↦ inr (inr (seen_on i u)) ]
      ];
      marked = λ i m. w.marked i (marked_p i m);
      spoilt = λ i m e. subst (λ es. LeadsToFault es i) (sym finds.ended)
          (w.spoilt i (marked_p i m) (subst (λ fs. known_in entries fs i ≡ None) finds.found e));
      asked = asked_moved entries p q finds.ended finds.found w.asked;
    }

    -- what can be told can be told still
    pub can_moved : CanResolve rules s entries p → CanResolve rules s entries q
    can_moved can = record {
      answerable = can.answerable;
      facts = facts_same rules (contents s) entries p q finds.ended finds.found can.facts;
      finds = record {
        whole = subst (λ fs. AreWholeFinds rules (contents s) fs) (sym finds.found) can.finds.whole;
        took = subst (λ fs. FoundKept entries fs) (sym finds.found) can.finds.took;
      };
      whole = whole_moved can.whole;
    }

  module _ (root : root_in q.level q.inst ≡ root_in p.level p.inst) where
    pub typed_moved : ((i : Instance ℕ) → IsAbout p i → IsTyped rules s i) → ((i : Instance ℕ) → Among i (seen_in q.level ++ todo_in q.level) → IsTyped rules s i) →
        (i : Instance ℕ) → IsAbout q i → IsTyped rules s i
    typed_moved old new i (inl (inl e)) = old i (inl (inl (e ∙ chain.inst)))
    typed_moved old new i (inl (inr h)) = elim (either_among i (seen_in q.level) (under (levels_of q.waiting.entries)) h) [
      | inl a ↦ new i (front_among i (seen_in q.level) (todo_in q.level) a)
      | inr b ↦ old i (inl (inr (back_among i (seen_in p.level) (under (levels_of p.waiting.entries)) (under_p i b))))
    ]
    typed_moved old new i (inr (j, e, inl a, b)) = last b
      where
        here : with_level e j ≡ with_level q.level q.inst
        here = a

        last : Among i (todo_in e) ⊎ (i ≡ root_in e j) → IsTyped rules s i
        last (inl t) = new i (back_among i (seen_in q.level) (todo_in q.level) (subst (λ (x : Instance ℕ × LevelCode). Among i (todo_in x.1)) here t))
        last (inr r) = old i (inr (p.inst, p.level, inl refl, inr (subst (λ (x : Instance ℕ × LevelCode). i ≡ root_in x.1 x.0) here r ∙ root)))
    typed_moved old new i (inr (j, e, inr a, b)) = old i (inr (j, e, inr (subst (λ ws. Among (with_level e j) ws) chain.waiting a), b))

    -- It stands with these seen, and these to do.
    module _ (m : Looked ℕ) (st : StandsBetween rules s entries p m) (seen todo : List (Instance ℕ)) (seen_is : seen ≡ seen_in q.level)
        (todo_is : todo ≡ todo_in q.level) (on : (i : Instance ℕ) → Among i m.seen → Among i seen) where
      abbrev pub looked_to : Looked ℕ
      looked_to = record m { seen = seen; todo = todo }

      more_seen : (i : Instance ℕ) → Among i (seen_in p.level) → Among i (seen_in q.level)
      more_seen i a = subst (λ is. Among i is) seen_is (on i (subst (λ is. Among i is) (sym st.is.seen) a))

      looked_moved : IsLooked entries q looked_to
      looked_moved = record {
        root = st.is.root ∙ sym root;
        seen = seen_is;
        todo = todo_is;
        below = st.is.below ∙ sym (ap (λ ws. levels_of ws) chain.waiting);
        ended = λ i h. elim (st.is.ended i h) [ inl k ↦ inl (subst (λ es. Among i (keys_of es)) (sym finds.ended) k) | inr k ↦ inr (known_q i k) ];
        recorded = λ i h. st.is.recorded i (subst (λ es. Among i (keys_of es)) finds.ended h);
        told = λ i v h. subst (λ fs. known_in entries fs i ≡ Some v) (sym finds.found) (st.is.told i v h);
        known = λ i v e. st.is.known i v (subst (λ fs. known_in entries fs i ≡ Some v) finds.found e);
        spent = λ i k. st.is.spent i (subst (λ fs. IsSome (known_in entries fs i)) finds.found k);
      }

      pub level_same : (i : Instance ℕ) (d : LevelCode) → IsLevel rules (contents s) (known_to entries p) p.ended.entries i d →
          IsLevel rules (contents s) (known_to entries q) q.ended.entries i d
      level_same i d x = subst (λ fs. IsLevel rules (contents s) (known_in entries fs) q.ended.entries i d) (sym finds.found)
          (subst (λ es. IsLevel rules (contents s) (known_in entries p.found.entries) es i d) (sym finds.ended) x)

      pub stands_moved : HasCome (contents s) (meaning rules) (under m.below) m.root seen todo →
          IsCovered (known_to entries p) p.ended.entries m.root seen todo (fault_in q.level) →
          MetFrom (contents s) (meaning rules) m.root seen todo (fault_in q.level) → ((i : Instance ℕ) → Among i (seen ++ todo) → IsTyped rules s i) →
          StandsBetween rules s entries q looked_to
      stands_moved come covered met typed = record {
        is = looked_moved;
        come = come;
        stacked = st.stacked;
        rooted = on m.root st.rooted;
        tried = elim st.tried [
          | inl a ↦ inl (subst (λ i. Among i seen) (sym chain.inst) (on p.inst a))
          | inr h ↦ inr (subst (λ i. IsSome (known_to entries q i)) (sym chain.inst) (known_q p.inst h))
        ];
        last = subst (λ i. Among i m.ended) (sym chain.inst) st.last;
        told = st.told;
        reached = λ i o h. subst (λ r. Leads (contents s) (meaning rules) r i) (sym (asked_same p q chain.waiting root)) (st.reached i o h);
        few = subst (λ t. t + 2 ≤ 2 * length m.ended + length m.below) (sym finds.turns) st.few;
        fresh = subst (λ r. IsFresh (contents s) (meaning rules) r (tried_at m.below) m.ended) (sym (asked_same p q chain.waiting root)) st.fresh;
        covered = subst (λ fs. IsCovered (known_in entries fs) q.ended.entries m.root seen todo (fault_in q.level)) (sym finds.found)
            (subst (λ es. IsCovered (known_to entries p) es m.root seen todo (fault_in q.level)) (sym finds.ended) covered);
        met = met;
        below = λ i d h. level_same i d (st.below i d (subst (λ ws. Among (with_level d i) ws) chain.waiting h));
        can = can_moved more_seen st.can;
        typed = typed_moved st.typed (λ i a. typed i (subst (λ is. Among i (is ++ todo)) (sym seen_is)
            (subst (λ ts. Among i (seen_in q.level ++ ts)) (sym todo_is) a)));
      }
