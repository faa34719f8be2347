-- A level's search goes along where its last instance came to be kept.
use Rattle.std.proofs.Common.{◌≡◌, ℕ, [], Some, None, inl, inr, refl, sym, ap, ◌∙◌, subst, arith}
use Rattle.std.specs.Prelude.{IsSome}
use Rattle.at_model.specs.Meaning.{Among}
use Rattle.at_model.specs.Rules.{Rules}
use Rattle.at_model.specs.Run.{Value, Instance}
use Rattle.at_model.specs.of_fixpoints.Searched.{IsWhole, tried_at}
use Rattle.at_model.specs.of_fixpoints.Searching.{Level, Search, past, under}
use Rattle.at_model.proofs.of_searching.FewTurns.{ended_fresh}
use Rattle.at_model.proofs.of_searching.Steps.{has_passed}
use Rattle.at_store.specs.Shown.{Shown, contents}
use Rattle.at_cache.specs.Kept.{Entries}
use Rattle.at_search.specs.Recorded.{MetFrom}
use Rattle.at_search.proofs.Meeting.{passes}
use Rattle.at_demand.specs.declared.question.Question.{Question}
use Rattle.at_demand.specs.declared.trials.Trials.{Trials}
use Rattle.at_demand.specs.Answerable.{IsAnswerable}
use Rattle.at_evaluate.specs.Valued.{kept_values, meaning}
use Rattle.at_demand.specs.KeptTrials.{IsNotedRight}
use Rattle.at_demand.specs.Levels.{IsCovered, IsRooted, LevelCode, StandsFor, asked_by, fault_in, known_to, root_in, seen_in, todo_in}
use Rattle.at_demand.specs.Searches.{CanGoAlong, StandsBetween}
use Rattle.at_demand.specs.Turns.{IsStanding}
use Rattle.at_evaluate.proofs.Entered.{is_there}
use Rattle.at_demand.proofs.Fitting.{none_fit}
use Rattle.at_demand.proofs.Marking.{told_among}
use Rattle.at_demand.proofs.Recalling.{known_kept}
use Rattle.at_demand.proofs.of_searches.Stepping.{covered_past, whole_valued}

-- a search has seen its root
rooted_at : (d : LevelCode) (i : Instance ℕ) → (d ≡ None → ⊥) → IsRooted d → Among (root_in d i) (seen_in d)
rooted_at None i off h = absurd (off refl)
rooted_at (Some b) i off h = h

module _ (rules : Rules) (s : Shown) (entries : Entries) (q : Question) (answerable : IsAnswerable rules s entries) (st : IsStanding rules s entries q)
    (v : Value ℕ) (kept : kept_values entries q.inst ≡ Some v) (off : q.level ≡ None → ⊥)
    (u : Search ℕ) (x : StandsFor rules s entries q u) where
  known : known_to entries q q.inst ≡ Some v
  known = known_kept entries q.found.entries q.inst v v (sym kept) refl

  is_known : IsSome (known_to entries q q.inst)
  is_known = is_there (known_to entries q q.inst) v known

  next_is : u.last.next ≡ q.inst
  next_is = ap (λ (l : Level ℕ). l.next) x.is.last

  whole_next : IsWhole (contents s) (meaning rules) u.last.next
  whole_next = subst (λ i. IsWhole (contents s) (meaning rules) i) (sym next_is) (x.facts.wholes q.inst is_known)

  root_is : u.last.root ≡ root_in q.level q.inst
  root_is = ap (λ (l : Level ℕ). l.root) x.is.last

  seen_is : u.last.seen ≡ seen_in q.level
  seen_is = ap (λ (l : Level ℕ). l.seen) x.is.last

  todo_is : u.last.todo ≡ todo_in q.level
  todo_is = ap (λ (l : Level ℕ). l.todo) x.is.last

  pub stands_past : StandsBetween rules s entries q (past u)
  stands_past = record {
    is = record {
      root = root_is;
      seen = seen_is;
      todo = todo_is;
      below = x.is.below;
      ended = λ i h. elim h [
        | inl e ↦ inr (subst (λ j. IsSome (known_to entries q j)) (sym (e ∙ next_is)) is_known)
        | inr a ↦ x.is.ended i a
      ];
      recorded = λ i h. inr (x.is.recorded i h);
      told = x.is.told;
      known = x.is.known;
      spent = λ i k. elim (x.is.spent i k) [ inl a ↦ inl a | inr b ↦ inr (inr b) ];
    };
    come = has_passed (contents s) (meaning rules) told_among (under u.below) u.last.root u.last.seen u.last.next u.last.todo
        (whole_valued rules (contents s)) x.on.last.0 (inr whole_next);
    stacked = x.on.stacked;
    rooted = subst (λ r. Among r u.last.seen) (sym root_is)
        (subst (λ is. Among (root_in q.level q.inst) is) (sym seen_is) (rooted_at q.level q.inst off x.levels.last.rooted));
    tried = inr is_known;
    last = inl (sym next_is);
    told = x.on.told;
    reached = x.reached;
    few = let most = x.few in omega (arith, most);
    fresh = ended_fresh (contents s) (meaning rules) (asked_by q) u.last.next (tried_at u.below) u.ended x.fresh;
    covered = subst (λ r. IsCovered (known_to entries q) q.ended.entries r u.last.seen u.last.todo (fault_in q.level)) (sym root_is)
        (subst (λ is. IsCovered (known_to entries q) q.ended.entries (root_in q.level q.inst) is u.last.todo (fault_in q.level)) (sym seen_is)
        (subst (λ ts. IsCovered (known_to entries q) q.ended.entries (root_in q.level q.inst) (seen_in q.level) ts (fault_in q.level)) (sym todo_is)
        (covered_past (known_to entries q) q.ended.entries (root_in q.level q.inst) (seen_in q.level) q.inst (todo_in q.level)
        (fault_in q.level) (inr is_known) x.levels.last.covered)));
    met = subst (λ r. MetFrom (contents s) (meaning rules) r u.last.seen u.last.todo (fault_in q.level)) (sym root_is)
        (subst (λ is. MetFrom (contents s) (meaning rules) (root_in q.level q.inst) is u.last.todo (fault_in q.level)) (sym seen_is)
        (subst (λ ts. MetFrom (contents s) (meaning rules) (root_in q.level q.inst) (seen_in q.level) ts (fault_in q.level)) (sym todo_is)
        (passes (contents s) (meaning rules) (root_in q.level q.inst) (seen_in q.level) (todo_in q.level) q.inst (fault_in q.level)
        x.levels.last.met (inr (x.facts.wholes q.inst is_known)))));
    below = x.levels.below;
    can = record {
      answerable = answerable;
      facts = x.facts;
      finds = record { whole = st.whole; took = st.kept };
      whole = x.whole;
    };
    typed = x.typed;
  }

  -- so it can go along, with no trials
  pub goes_along : (t : Trials) → t.frames.items ≡ [] → t.awaited ≡ None → IsNotedRight rules (contents s)
      t.noted.entries → CanGoAlong rules s entries q t
  goes_along t none gone noted = record {
    off = λ none. let p = st.plainly none in off p.level;
    search = record { looked = past u; stands = stands_past };
    none = gone;
    fit = none_fit rules s entries q t none gone noted;
  }
