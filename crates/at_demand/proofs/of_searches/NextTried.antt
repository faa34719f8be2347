-- A search comes to an instance whose equation wasn't tried yet: there the question stands.
use Rattle.std.proofs.Common.{◌≡◌, ◌⊎◌, ℕ, nat_eq, ◌+◌, ◌*◌, ◌≤◌, arith, length, List, [], ◌∷◌, ◌++◌, map, reverse, Some, None, inl, inr, refl, sym, ap, ◌∙◌, subst}
use Rattle.std.specs.Prelude.{IsSome}
use Rattle.std.specs.Global.{Box}
use Rattle.std.specs.Map.{keys_of, lookup}
use Rattle.at_model.specs.Instances.{AnyText}
use Rattle.at_model.specs.Meaning.{Among}
use Rattle.at_model.specs.Rules.{Rules, start_of}
use Rattle.at_model.specs.Run.{Instance, Contents, Known}
use Rattle.at_model.specs.TypedRuns.{IsWellTyped}
use Rattle.at_model.specs.of_fixpoints.Circles.{IsOpen}
use Rattle.at_model.specs.of_fixpoints.Fixpoints.{End, EndsSo, LeadsOver, stays, goes}
use Rattle.at_model.specs.of_fixpoints.Formulas.{Formula}
use Rattle.at_model.specs.of_fixpoints.Resting.{Leads}
use Rattle.at_model.specs.of_fixpoints.Searched.{IsFresh, IsOn, tried_at}
use Rattle.at_model.specs.of_fixpoints.Searching.{First, Follows, IsPassed, Level, Looked, Search, gone_to, this, under}
use Rattle.at_model.specs.of_fixpoints.Searching as follows
use Rattle.at_model.proofs.Reached.{back_among, either_among, front_among}
use Rattle.at_model.proofs.of_formulas.StartsKept.{of_one_start}
use Rattle.at_model.proofs.of_searching.FewTurns.{tried_fresh}
use Rattle.at_store.specs.Shown.{Shown, contents}
use Rattle.at_body.specs.Same.{same_instance}
use Rattle.at_body.specs.Typed.{class_shown}
use Rattle.at_cache.specs.Kept.{Entries}
use Rattle.at_search.specs.Recorded.{IsMarked, MetFrom, end_of}
use Rattle.at_search.specs.declared.search.Search.{Search as SearchCode}
use Rattle.at_search.proofs.Seeing.{reverse_among}
use Rattle.at_demand.specs.declared.question.Question.{Question}
use Rattle.at_demand.specs.ChainSteps.{HasNext}
use Rattle.at_demand.specs.Known.{known_in}
use Rattle.at_evaluate.specs.Valued.{meaning}
use Rattle.at_demand.specs.Levels.{AreWholeOrSeen, IsAbout, IsCovered, IsLevel, IsSearch, LeadsToFault, LevelCode, StandsFor, all_levels, asked_by, fault_in, known_to, levels_of, root_in, seen_in, todo_in}
use Rattle.at_demand.specs.Searches.{IsTried, StandsBetween}
use Rattle.at_evaluate.proofs.Entered.{not_none}
use Rattle.at_demand.proofs.Keys.{no_key}
use Rattle.at_demand.proofs.of_searches.Moving.{asked_same, level_same, rooted_at}
use Rattle.at_demand.proofs.of_searches.Reaching.{led_met, level_at, starts_asked}
use Rattle.at_demand.proofs.of_levels.Resolving.{asked_moved, facts_same, key_entry}
use Rattle.at_demand.proofs.of_searches.Returning.{tried_under, with_level}
use Rattle.at_demand.proofs.of_searches.Stepping.{come_next, covered_next, met_next, todo_is, typed_next}

under_mapped : (xs : List (Instance ℕ × LevelCode)) (c : Instance ℕ) → Among c (under (map level_at xs)) →
    (i : Instance ℕ) × (d : LevelCode) × Among (i, d) xs × ((c ≡ i) ⊎ Among c (seen_in d))
under_mapped [] c h = absurd h
under_mapped ((i, d) ∷ xs) c (inl q) = (i, d, inl refl, inl q)
under_mapped ((i, d) ∷ xs) c (inr h) = elim (either_among c (seen_in d) (under (map level_at xs)) h) [
  | inl a ↦ (i, d, inl refl, inr a)
  | inr b ↦ let (j, e, m, x) = under_mapped xs c b in (j, e, inr m, x)
]

-- what levels under way have looked at is tried there, or was seen
pub under_waits : (ws : List (Instance ℕ × LevelCode)) (c : Instance ℕ) → Among c (under (levels_of ws)) →
    (i : Instance ℕ) × (d : LevelCode) × Among (i, d) ws × ((c ≡ i) ⊎ Among c (seen_in d))
under_waits ws c h =
    let (i, d, m, x) = under_mapped (reverse ws) c h in (i, d, reverse_among ws (with_level d i) m, x)

pub key_waits : (ws : List (Instance ℕ × LevelCode)) (i : Instance ℕ) (d : LevelCode) → Among (with_level d i) ws → Among i (keys_of ws)
key_waits [] i d h = absurd h
key_waits (w ∷ ws) i d (inl e) = inl (ap (λ (x : Instance ℕ × LevelCode). x.0) e)
key_waits (w ∷ ws) i d (inr h) = inr (key_waits ws i d h)

-- formulas lead to what starts alike
pub start_ends : (rules : Rules) (look : Contents ℕ) (i j : Instance ℕ) → LeadsOver (EndsSo look (meaning rules)) i j →
    start_of rules j.attribute ≡ start_of rules i.attribute
start_ends rules look _ j (stays _) = refl
start_ends rules look _ j (goes i m _ f h a l) = start_ends rules look m j l ∙ of_one_start look rules nat_eq i m f h a

-- a search has one root, whatever is tried in it
pub root_stays : (d : LevelCode) (i j : Instance ℕ) → ((b : Box SearchCode) × (d ≡ Some b)) → root_in d i ≡ root_in d j
root_stays None i j (b, e) = absurd cc
root_stays (Some b) i j s = refl

abbrev level_with : (root : Instance ℕ) (seen : List (Instance ℕ)) (next : Instance ℕ) (todo : List (Instance ℕ)) → Level ℕ
level_with root seen next todo = record { root = root; seen = seen; next = next; todo = todo }

module _ (rules : Rules) (s : Shown) (entries : Entries) (p q : Question) (c : Instance ℕ) (n : HasNext p q c) (m : Looked ℕ)
    (st : StandsBetween rules s entries p m) (unseen : Among c m.seen → ⊥) (untried : IsTried p c → ⊥)
    (none : lookup (same_instance c) p.ended.entries ≡ None) (unknown : known_to entries p c ≡ None) where
  -- no level under way has looked at it
  not_under : Among c (under m.below) → ⊥
  not_under h = let (i, d, a, x) = under_waits p.waiting.entries c (subst (λ ls. Among c (under ls)) st.is.below h) in by i d a x
    where
      by : (i : Instance ℕ) (d : LevelCode) → Among (with_level d i) p.waiting.entries → (c ≡ i) ⊎ Among c (seen_in d) → ⊥
      by i d a (inl e) = untried (front_among c (keys_of p.waiting.entries) (p.inst ∷ [])
          (subst (λ z. Among z (keys_of p.waiting.entries)) (sym e) (key_waits p.waiting.entries i d a)))
      by i d a (inr z) =
          let (k, (x, at, is), g) = (st.below i d a).covered.ends c z in
          let f : None ≡ Some x = sym none ∙ at in absurd cc

  shut : IsOpen (contents s) (meaning rules) (under m.below) c → ⊥
  shut o = not_under o.0

  unended : Among c m.ended → ⊥
  unended h = elim (st.is.ended c h) [ inl k ↦ no_key p.ended.entries c none k | inr k ↦ not_none (known_to entries p c) k unknown ]

  not_tried : Among c (tried_at m.below) → ⊥
  not_tried h = not_under (tried_under m.below c h)

  -- the question at it, and what that stands for
  abbrev pub question_at : Question
  question_at = record q { inst = c }

  abbrev pub search_at : Search ℕ
  search_at = gone_to m c (todo_in q.level)

  root_at : root_in q.level c ≡ root_in p.level p.inst
  root_at = root_stays q.level c q.inst n.is ∙ n.root

  root_is : m.root ≡ root_in q.level c
  root_is = st.is.root ∙ sym root_at

  seen_is : m.seen ≡ seen_in q.level
  seen_is = st.is.seen ∙ sym n.seen

  asked_at_it : asked_by question_at ≡ asked_by p
  asked_at_it = asked_same p question_at n.chain.waiting root_at

  known_at : (i : Instance ℕ) → IsSome (known_to entries p i) → IsSome (known_to entries question_at i)
  known_at i k = subst (λ fs. IsSome (known_in entries fs i)) (sym n.finds.found) k

  is_search : IsSearch entries question_at search_at
  is_search = record {
    last = ap (λ r. level_with r m.seen c (todo_in q.level)) root_is ∙ ap (λ xs. level_with (root_in q.level c) xs c (todo_in q.level)) seen_is;
    below = st.is.below ∙ sym (ap (λ ws. levels_of ws) n.chain.waiting);
    ended = λ i h. elim (st.is.ended i h) [ inl k ↦ inl (subst (λ es. Among i (keys_of es)) (sym n.finds.ended) k) | inr k ↦ inr (known_at i k) ];
    recorded = λ i h. st.is.recorded i (subst (λ es. Among i (keys_of es)) n.finds.ended h);
    told = λ i v h. subst (λ fs. known_in entries fs i ≡ Some v) (sym n.finds.found) (st.is.told i v h);
    known = λ i v e. st.is.known i v (subst (λ fs. known_in entries fs i ≡ Some v) n.finds.found e);
    spent = λ i k. st.is.spent i (subst (λ fs. IsSome (known_in entries fs i)) n.finds.found k);
  }

  ended_so : (i : Instance ℕ) → Among i m.ended → (e : End ℕ (Formula ℕ)) × EndsSo (contents s) (meaning rules) i e
  ended_so i h = elim (st.is.ended i h) [
    | inl k ↦ let (x, at) = key_entry p.ended.entries i k in (end_of x.ending, st.can.facts.ends i (end_of x.ending) (x, at, refl))
    | inr k ↦ let (W, w, a) = st.can.facts.wholes i k in let y = w i a in (y.end, y.ends)
  ]

  is_on : IsOn (contents s) (meaning rules) (asked_by question_at) search_at
  is_on = record {
    starts = starts_asked rules s entries p m st ∙ sym asked_at_it;
    last = (come_next rules s entries p q c n m st, unseen, shut);
    stacked = st.stacked;
    told = st.told;
    ended = ended_so;
  }

  led_to_it : Leads (contents s) (meaning rules) (asked_by p) c
  led_to_it = led_met rules s entries p m st c (back_among c m.seen m.todo
      (subst (λ ts. Among c ts) (sym (todo_is rules s entries p q c n m st)) (inl refl)))

  is_fresh : IsFresh (contents s) (meaning rules) (asked_by question_at) (c ∷ tried_at m.below) m.ended
  is_fresh = subst (λ r. IsFresh (contents s) (meaning rules) r (c ∷ tried_at m.below) m.ended) (sym asked_at_it)
      (tried_fresh (contents s) (meaning rules) (asked_by p) c (tried_at m.below) m.ended st.fresh not_tried unended led_to_it)

  covered_at : IsCovered (known_to entries question_at) q.ended.entries (root_in q.level c) (seen_in q.level) (c ∷ todo_in q.level) (fault_in q.level)
  covered_at = subst (λ fs. IsCovered (known_in entries fs) q.ended.entries (root_in q.level c) (seen_in q.level) (c ∷ todo_in q.level) (fault_in q.level))
      (sym n.finds.found)
      (subst (λ es. IsCovered (known_to entries p) es (root_in q.level c) (seen_in q.level) (c ∷ todo_in q.level) (fault_in q.level)) (sym n.finds.ended)
      (subst (λ f. IsCovered (known_to entries p) p.ended.entries (root_in q.level c) (seen_in q.level) (c ∷ todo_in q.level) f) (sym n.fault)
      (subst (λ is. IsCovered (known_to entries p) p.ended.entries (root_in q.level c) is (c ∷ todo_in q.level) (fault_in p.level)) seen_is
      (subst (λ r. IsCovered (known_to entries p) p.ended.entries r m.seen (c ∷ todo_in q.level) (fault_in p.level)) root_is
      (covered_next rules s entries p q c n m st)))))

  met_at_it : MetFrom (contents s) (meaning rules) (root_in q.level c) (seen_in q.level) (c ∷ todo_in q.level) (fault_in q.level)
  met_at_it = subst (λ f. MetFrom (contents s) (meaning rules) (root_in q.level c) (seen_in q.level) (c ∷ todo_in q.level) f) (sym n.fault)
      (subst (λ is. MetFrom (contents s) (meaning rules) (root_in q.level c) is (c ∷ todo_in q.level) (fault_in p.level)) seen_is
      (subst (λ r. MetFrom (contents s) (meaning rules) r m.seen (c ∷ todo_in q.level) (fault_in p.level)) root_is
      (met_next rules s entries p q c n m st)))

  alike_at : (j : Instance ℕ) → Among j (seen_in q.level ++ c ∷ todo_in q.level) → start_of rules j.attribute ≡ start_of rules (root_in q.level c).attribute
  alike_at j h = subst (λ r. start_of rules j.attribute ≡ start_of rules r.attribute) root_is
      (start_ends rules (contents s) m.root j
      (let come = come_next rules s entries p q c n m st in come.led j (subst (λ is. Among j (is ++ c ∷ todo_in q.level)) (sym seen_is) h)))

  last_level : IsLevel rules (contents s) (known_to entries question_at) question_at.ended.entries question_at.inst question_at.level
  last_level = record {
    covered = covered_at;
    met = met_at_it;
    alike = alike_at;
    rooted = rooted_at q.level c (subst (λ is. Among (root_in q.level c) is) seen_is (subst (λ r. Among r m.seen) root_is st.rooted));
  }

  placed_at : (i : Instance ℕ) → Among i (under (all_levels p)) → IsSome (known_to entries question_at i) ⊎ Among i (under (all_levels question_at))
  placed_at i (inl e) = elim st.tried [
    | inl a ↦ inr (inr (front_among i (seen_in q.level) (under (levels_of q.waiting.entries)) (subst (λ is. Among i is) seen_is
        (subst (λ z. Among z m.seen) (sym e) a))))
    | inr k ↦ inl (known_at i (subst (λ z. IsSome (known_to entries p z)) (sym e) k))
  ]
  placed_at i (inr h) = elim (either_among i (seen_in p.level) (under (levels_of p.waiting.entries)) h) [
    | inl a ↦ inr (inr (front_among i (seen_in q.level) (under (levels_of q.waiting.entries)) (subst (λ is. Among i is) (sym n.seen) a)))
    | inr b ↦ inr (inr (back_among i (seen_in q.level) (under (levels_of q.waiting.entries))
        (subst (λ ws. Among i (under (levels_of ws))) (sym n.chain.waiting) b)))
  ]

  whole_at : AreWholeOrSeen rules (contents s) entries question_at
  whole_at = record {
    placed = λ i h. elim (st.can.whole.placed i (subst (λ es. Among i (keys_of es)) n.finds.ended h)) [
      | inl k ↦ inl (known_at i k)
      | inr d ↦ elim d [
        | inl k ↦ inr (inl (subst (λ es. IsMarked es i) (sym n.finds.ended) k))
        | inr u ↦ elim (placed_at i u) [ inl k ↦ inl k | inr a ↦ inr (inr a) ]
      ]
    ];
    marked = λ i k. st.can.whole.marked i (subst (λ es. IsMarked es i) n.finds.ended k);
    spoilt = λ i k e. subst (λ es. LeadsToFault es i) (sym n.finds.ended)
        (st.can.whole.spoilt i (subst (λ es. IsMarked es i) n.finds.ended k) (subst (λ fs. known_in entries fs i ≡ None) n.finds.found e));
    asked = asked_moved entries p q n.finds.ended n.finds.found st.can.whole.asked;
  }

  typed_at : (i : Instance ℕ) → IsAbout question_at i → IsWellTyped rules (class_shown s) AnyText i
  typed_at i (inl (inl e)) = subst (λ z. IsWellTyped rules (class_shown s) AnyText z) (sym e)
      (typed_next rules s entries p q c n m st c (back_among c m.seen (c ∷ todo_in q.level) (inl refl)))
  typed_at i (inl (inr h)) = elim (either_among i (seen_in q.level) (under (levels_of q.waiting.entries)) h) [
    | inl a ↦ typed_next rules s entries p q c n m st i (front_among i m.seen (c ∷ todo_in q.level) (subst (λ is. Among i is) (sym seen_is) a))
    | inr b ↦ st.typed i (inl (inr (back_among i (seen_in p.level) (under (levels_of p.waiting.entries))
        (subst (λ ws. Among i (under (levels_of ws))) n.chain.waiting b))))
  ]
  typed_at i (inr (j, e, inl a, b)) = last b
    where
      here : with_level e j ≡ with_level q.level c
      here = a

      last : Among i (todo_in e) ⊎ (i ≡ root_in e j) → IsWellTyped rules (class_shown s) AnyText i
      last (inl t) = typed_next rules s entries p q c n m st i (back_among i m.seen (c ∷ todo_in q.level)
          (inr (subst (λ (x : Instance ℕ × LevelCode). Among i (todo_in x.1)) here t)))
      last (inr r) = st.typed i (inr (p.inst, p.level, inl refl, inr (subst (λ (x : Instance ℕ × LevelCode). i ≡ root_in x.1 x.0) here r ∙ root_at)))
  typed_at i (inr (j, e, inr a, b)) = st.typed i (inr (j, e, inr (subst (λ ws. Among (with_level e j) ws) n.chain.waiting a), b))

  few_at : q.turns ≤ 2 * length m.ended + length m.below
  few_at = omega (arith, n.finds.turns, st.few)

  pub stands_at : StandsFor rules s entries question_at search_at
  stands_at = record {
    is = is_search;
    on = is_on;
    fresh = is_fresh;
    facts = facts_same rules (contents s) entries p question_at n.finds.ended n.finds.found st.can.facts;
    levels = record {
      last = last_level;
      below = λ i d h. level_same rules s entries p q n.chain n.finds n.root m st m.seen (todo_in q.level) seen_is refl (λ j a. a) i d
          (st.below i d (subst (λ ws. Among (with_level d i) ws) n.chain.waiting h));
    };
    whole = whole_at;
    typed = typed_at;
    reached = λ i o h. subst (λ r. Leads (contents s) (meaning rules) r i) (sym asked_at_it) (st.reached i o h);
    few = few_at;
  }

  -- to there it follows from where it stood, where that one isn't passed
  pub follows_at : (kept : Known ℕ) → (IsPassed kept m c → ⊥) → Follows (contents s) (meaning rules) kept m search_at None
  follows_at kept fresh =
      follows.goes_to (subst (λ ts. First (IsPassed kept m) ts c (todo_in q.level)) (sym (todo_is rules s entries p q c n m st))
      (this c (todo_in q.level) fresh)) shut unended
