-- One step of a level's search: the next one is taken off, and passed.
use Rattle.std.proofs.Common.{◌≡◌, ◌⊎◌, ℕ, suc, nat_eq, Bool, List, ◌∷◌, ◌++◌, Option, Some, None, inl, inr, refl, sym, ap, ◌∙◌, subst}
use Rattle.std.specs.Prelude.{IsSome}
use Rattle.std.specs.Map.{keys_of, lookup}
use Rattle.at_model.specs.Instances.{AnyText}
use Rattle.at_model.specs.Meaning.{Among, Answer, Finds}
use Rattle.at_model.specs.Rules.{Rules, start_of}
use Rattle.at_model.specs.Run.{Instance, Contents, Known}
use Rattle.at_model.specs.TypedRuns.{IsWellTyped}
use Rattle.at_model.specs.of_fixpoints.Circles.{HasNone}
use Rattle.at_model.specs.of_fixpoints.Fixpoints.{End, Made, Spoilt, EndsAt, EndsSo, HasForm, Valued}
use Rattle.at_model.specs.of_fixpoints.Formulas.{Formula, atoms}
use Rattle.at_model.specs.of_fixpoints.Searched.{HasCome, IsMade, IsWhole}
use Rattle.at_model.specs.of_fixpoints.Searching.{Follows, IsPassed, Looked, Search, asked_in, under}
use Rattle.at_model.proofs.Reached.{back_among, either_among, front_among}
use Rattle.at_model.proofs.of_formulas.Components.{are_formed, form_of}
use Rattle.at_model.proofs.of_formulas.Solved.{component_valued, one_depth}
use Rattle.at_model.proofs.of_formulas.StartsKept.{of_none}
use Rattle.at_model.proofs.of_formulas.UniqueOutcomes.{ends_at}
use Rattle.at_model.proofs.of_searching.InOrder.{passed_in_order}
use Rattle.at_model.proofs.of_searching.Steps.{has_passed}
use Rattle.at_store.specs.Shown.{Shown, contents}
use Rattle.at_body.specs.Same.{same_instance}
use Rattle.at_body.specs.Typed.{class_shown}
use Rattle.at_cache.specs.Kept.{Entries}
use Rattle.at_cache.specs.Traced.{Memories}
use Rattle.at_search.specs.LedTo.{IsMet}
use Rattle.at_search.specs.Recorded.{MetFrom, Recorded}
use Rattle.at_search.specs.declared.ended.Ended.{Ended}
use Rattle.at_search.specs.declared.ended.Fault.{Fault}
use Rattle.at_search.proofs.Meeting.{passes}
use Rattle.at_demand.specs.declared.question.Question.{Question}
use Rattle.at_demand.specs.ChainSteps.{HasNext, KeepsChain, KeepsFinds}
use Rattle.at_demand.specs.Covering.{AreWhole as AreWholeFinds}
use Rattle.at_demand.specs.Groups.{Tells}
use Rattle.at_demand.specs.Known.{IsFound, known_in, AreThere}
use Rattle.at_evaluate.specs.Valued.{meaning}
use Rattle.at_demand.specs.Levels.{IsCovered, LevelCode, all_levels, fault_in, known_to, root_in, seen_in, todo_in}
use Rattle.at_demand.specs.Only.{AreLean}
use Rattle.at_demand.specs.Searches.{CanResolve, StandsBetween}
use Rattle.at_demand.specs.Worth.{AreSettled}
use Rattle.at_demand.proofs.Marking.{told_among}
use Rattle.at_demand.proofs.of_searches.Circling.{one_recorded}
use Rattle.at_demand.proofs.of_searches.Following.{passed_first}
use Rattle.at_demand.proofs.of_searches.Moving.{can_moved, seen_on, stands_moved, typed_all}
use Rattle.at_demand.proofs.of_levels.Resolving.{facts_same}

-- what is whole has an outcome
pub whole_valued : (rules : Rules) (look : Contents ℕ) (i : Instance ℕ) → IsWhole look (meaning rules) i → HasNone look (meaning rules) i → ⊥
whole_valued rules look i (W, c, h) none = by_start (start_of rules i.attribute) refl
  where
    made : (j : Instance ℕ) → Among j W → (f : Formula ℕ) × HasForm look (meaning rules) j f × ((k : Instance ℕ) → Among k (atoms f) → Among k W)
    made j g = let x = c j g in formed x.end x.ends x.good x.next
      where
        formed : (e : End ℕ (Formula ℕ)) → EndsSo look (meaning rules) j e → IsMade e → ((k : Instance ℕ) → Among k (asked_in e) → Among k W) →
            (f : Formula ℕ) × HasForm look (meaning rules) j f × ((k : Instance ℕ) → Among k (atoms f) → Among k W)
        formed (Made f) y good n = (f, y, n)
        formed (Spoilt k at) y good n = absurd good

    by_start : (b : Option Bool) → start_of rules i.attribute ≡ b → ⊥
    by_start (Some b) e = let (v, x) = component_valued look (meaning rules) W made i b h e in none (Finds v) x
    by_start None e =
        let (n, l) = one_depth look (meaning rules) W W made in
        let (f, y, m) = form_of (EndsAt look (meaning rules) n) W W i l h in
        let (v, q) = of_none look rules nat_eq i f (n, y) e in
        none (Finds v) (
          suc n,
          (
            are_formed (EndsAt look (meaning rules) n) (ends_at look (meaning rules) n n) W l i h,
            subst (λ z. Valued (λ j g. EndsAt look (meaning rules) n j (Made g)) z i v) (sym e)
                (subst (λ z. EndsAt look (meaning rules) n i (Made z)) q y),
          ),
        )

-- a search goes past one that was seen, or is known
pub covered_past : (known : Known ℕ) (ended : List (Instance ℕ × Ended)) (root : Instance ℕ) (seen : List (Instance ℕ)) (c : Instance ℕ)
    (rest : List (Instance ℕ)) (fault : Option Fault) → Among c seen ⊎ IsSome (known c) → IsCovered known ended root seen (c ∷ rest) fault →
    IsCovered known ended root seen rest fault
covered_past known ended root seen c rest fault p x = record {
  first = first root x.first;
  ends = x.ends;
  order = passed_in_order (Recorded ended) (one_recorded ended) (λ k. IsSome (known k)) seen c rest x.order p;
}
  where
    first : (i : Instance ℕ) → IsMet (λ k. IsSome (known k)) seen (c ∷ rest) i → IsMet (λ k. IsSome (known k)) seen rest i
    first i (inl a) = inl a
    first i (inr (inl k)) = inr (inl k)
    first i (inr (inr (inl e))) = elim p [
      | inl a ↦ inl (subst (λ z. Among z seen) (sym e) a)
      | inr k ↦ inr (inl (subst (λ z. IsSome (known z)) (sym e) k))
    ]
    first i (inr (inr (inr h))) = inr (inr h)

-- The next one is taken off: the question is what it was, but for that.
module _ (rules : Rules) (s : Shown) (entries : Entries) (p q : Question) (c : Instance ℕ) (n : HasNext p q c) where
  seen_next : (i : Instance ℕ) → Among i (seen_in p.level) → Among i (seen_in q.level)
  seen_next i a = subst (λ is. Among i is) (sym n.seen) a

  -- what can be told can be told still, and could be before
  pub can_next : CanResolve rules s entries p → CanResolve rules s entries q
  can_next = can_moved rules s entries p q n.chain n.finds seen_next

  pub can_before : CanResolve rules s entries q → CanResolve rules s entries p
  can_before = can_moved rules s entries q p (record { waiting = sym n.chain.waiting; inst = sym n.chain.inst })
      (record { found = sym n.finds.found; passed = sym n.finds.passed; ended = sym n.finds.ended; turns = sym n.finds.turns })
      (λ i a. subst (λ is. Among i is) n.seen a)

  pub seen_before : (i : Instance ℕ) → Among i (under (all_levels q)) → Among i (under (all_levels p))
  seen_before = seen_on rules s entries q p (record { waiting = sym n.chain.waiting; inst = sym n.chain.inst })
      (record { found = sym n.finds.found; passed = sym n.finds.passed; ended = sym n.finds.ended; turns = sym n.finds.turns })
      (λ i a. subst (λ is. Among i is) n.seen a)

  module _ (m : Looked ℕ) (st : StandsBetween rules s entries p m) where
    pub todo_is : m.todo ≡ c ∷ todo_in q.level
    todo_is = st.is.todo ∙ n.todo

    pub come_next : HasCome (contents s) (meaning rules) (under m.below) m.root m.seen (c ∷ todo_in q.level)
    come_next = subst (λ ts. HasCome (contents s) (meaning rules) (under m.below) m.root m.seen ts) todo_is st.come

    pub covered_next : IsCovered (known_to entries p) p.ended.entries m.root m.seen (c ∷ todo_in q.level) (fault_in p.level)
    covered_next = subst (λ ts. IsCovered (known_to entries p) p.ended.entries m.root m.seen ts (fault_in p.level)) todo_is st.covered

    pub met_next : MetFrom (contents s) (meaning rules) m.root m.seen (c ∷ todo_in q.level) (fault_in p.level)
    met_next = subst (λ ts. MetFrom (contents s) (meaning rules) m.root m.seen ts (fault_in p.level)) todo_is st.met

    pub typed_next : (i : Instance ℕ) → Among i (m.seen ++ (c ∷ todo_in q.level)) → IsWellTyped rules (class_shown s) AnyText i
    typed_next i h = typed_all rules s entries p m st i (subst (λ ts. Among i (m.seen ++ ts)) (sym todo_is) h)

    -- past the next one
    abbrev pub gone_past : Looked ℕ
    gone_past = record m { todo = todo_in q.level }

    -- it was seen, or is whole
    or_whole : Among c m.seen ⊎ IsSome (known_to entries p c) → Among c m.seen ⊎ IsWhole (contents s) (meaning rules) c
    or_whole (inl a) = inl a
    or_whole (inr k) = inr (st.can.facts.wholes c k)

    -- where the next one was seen, or is known, the search stands past it
    pub stands_past : Among c m.seen ⊎ IsSome (known_to entries p c) → StandsBetween rules s entries q gone_past
    stands_past k = stands_moved rules s entries p q n.chain n.finds n.root m st m.seen (todo_in q.level) (st.is.seen ∙ sym n.seen) refl (λ i a. a)
        (has_passed (contents s) (meaning rules) told_among (under m.below) m.root m.seen c (todo_in q.level) (whole_valued rules (contents s)) come_next (or_whole k))
        (subst (λ f. IsCovered (known_to entries p) p.ended.entries m.root m.seen (todo_in q.level) f) (sym n.fault)
        (covered_past (known_to entries p) p.ended.entries m.root m.seen c (todo_in q.level) (fault_in p.level) k covered_next))
        (subst (λ f. MetFrom (contents s) (meaning rules) m.root m.seen (todo_in q.level) f) (sym n.fault)
        (passes (contents s) (meaning rules) m.root m.seen (todo_in q.level) c (fault_in p.level) met_next (or_whole k)))
        (λ i a. typed_next i (elim (either_among i m.seen (todo_in q.level) a) [
          | inl b ↦ front_among i m.seen (c ∷ todo_in q.level) b
          | inr b ↦ back_among i m.seen (c ∷ todo_in q.level) (inr b)
        ]))

    -- what follows from there follows from here
    pub follows_past : (kept : Known ℕ) → IsPassed kept m c → {u : Search ℕ} {o : Option (Answer ℕ)} →
        Follows (contents s) (meaning rules) kept gone_past u o → Follows (contents s) (meaning rules) kept m u o
    follows_past kept h {u} {o} x = subst (λ ts. Follows (contents s) (meaning rules) kept (record m { todo = ts }) u o) (sym todo_is)
        (passed_first (contents s) (meaning rules) kept {s = gone_past} c h x)

-- What is known since the last level has changed is known as if it were still as it was.
pub tells_pending : {Whole : Type 0} → (rules : Rules) (s : Shown) (before after : Entries) (former latter : Memories) (earlier later : ℕ) (old mid new : Question) →
    KeepsChain old mid → KeepsFinds old mid → (these : List (Instance ℕ)) → Tells rules s before after former latter earlier later mid new these Whole →
    Tells rules s before after former latter earlier later old (record new { level = old.level }) these Whole
tells_pending rules s before after former latter earlier later old mid new chain finds these t = record {
  chain = record { waiting = t.chain.waiting ∙ chain.waiting; inst = t.chain.inst ∙ chain.inst };
  level = refl;
  ended = t.ended ∙ ap (λ es. keys_of es) finds.ended;
  endings = λ i x at. t.endings i x (ap (λ es. lookup (same_instance i) es) finds.ended ∙ at);
  passed = t.passed ∙ finds.passed;
  turns = t.turns ∙ finds.turns;
  stays = t.stays;
  finds = let (more, grown) = t.finds in (more, grown ∙ ap (λ fs. fs ++ more) finds.found);
  told = λ i k. elim (t.told i k) [ inl h ↦ inl (subst (λ fs. IsSome (known_in before fs i)) finds.found h) | inr a ↦ inr a ];
  kept = t.kept;
  entries = λ i k. elim (t.entries i k) [
    | inl h ↦ inl h
    | inr d ↦ inr (elim d [ inl h ↦ inl h | inr f ↦ inr (subst (λ fs. IsFound fs i) finds.found f) ])
  ];
  values = t.values;
  facts = λ f. facts_same rules (contents s) after new (record new { level = old.level }) refl refl (t.facts (facts_same rules (contents s) before old mid finds.ended finds.found f));
  whole = λ w. t.whole (subst (λ fs. AreWholeFinds rules (contents s) fs) (sym finds.found) w);
  took = t.took;
  right = λ all there r. t.right (subst (λ fs. AreThere rules s fs) (sym finds.found) all) there r;
  plain = t.plain;
  lean = λ w. t.lean (subst (λ fs. AreLean rules (contents s) fs) (sym finds.found) w);
  settled = λ w. t.settled (subst (λ fs. AreSettled rules before fs) (sym finds.found) w);
  only = λ w x. t.only (subst (λ fs. AreLean rules (contents s) fs) (sym finds.found) w) x;
  spare = λ whole w y x. t.spare whole w (subst (λ fs. AreLean rules (contents s) fs) (sym finds.found) y)
      (subst (λ fs. AreSettled rules before fs) (sym finds.found) x);
  counts = t.counts;
  traces = t.traces;
}

-- and the next one is taken off then
pub next_pending : {Whole : Type 0} → (rules : Rules) (s : Shown) (before after : Entries) (former latter : Memories) (earlier later : ℕ) (old mid new : Question)
    (c : Instance ℕ) → HasNext old mid c → (these : List (Instance ℕ)) → Tells rules s before after former latter earlier later mid new these Whole →
    HasNext (record new { level = old.level }) new c
next_pending rules s before after former latter earlier later old mid new c n these t = record {
  is = let (b, e) = n.is in (b, t.level ∙ e);
  chain = record { waiting = refl; inst = refl };
  finds = record { found = refl; passed = refl; ended = refl; turns = refl };
  root = ap (λ d. root_in d new.inst) t.level ∙ ap (λ i. root_in mid.level i) t.chain.inst ∙ n.root ∙ ap (λ i. root_in old.level i) (sym (t.chain.inst ∙ n.chain.inst));
  todo = n.todo ∙ ap (λ ts. c ∷ ts) (sym (ap (λ (d : LevelCode). todo_in d) t.level));
  seen = ap (λ (d : LevelCode). seen_in d) t.level ∙ n.seen;
  fault = ap (λ (d : LevelCode). fault_in d) t.level ∙ n.fault;
}
