-- One step of a level's search over one whose equation has ended.
use Rattle.std.proofs.Common.{◌≡◌, ℕ, List, ◌∷◌, ◌++◌, Option, Some, None, inl, inr, refl, sym, ap, ◌∙◌, subst}
use Rattle.std.specs.Prelude.{IsSome}
use Rattle.std.specs.Global.{Box}
use Rattle.std.specs.Map.{keys_of, lookup}
use Rattle.at_model.specs.Instances.{AnyText}
use Rattle.at_model.specs.Meaning.{Among, Answer}
use Rattle.at_model.specs.Rules.{Rules}
use Rattle.at_model.specs.Run.{Instance, Known}
use Rattle.at_model.specs.TypedRuns.{IsWellTyped}
use Rattle.at_model.specs.of_fixpoints.Circles.{IsOpen}
use Rattle.at_model.specs.of_fixpoints.Fixpoints.{End, Made, Spoilt, EndsSo}
use Rattle.at_model.specs.of_fixpoints.Formulas.{Formula}
use Rattle.at_model.specs.of_fixpoints.Resting.{Leads}
use Rattle.at_model.specs.of_fixpoints.Resting as led
use Rattle.at_model.specs.of_fixpoints.Searched.{IsMade}
use Rattle.at_model.specs.of_fixpoints.Searching.{First, Follows, IsPassed, Looked, Search, asked_in, gone_over, this, under}
use Rattle.at_model.specs.of_fixpoints.Searching as follows
use Rattle.at_model.proofs.Reached.{back_among, either_among, front_among}
use Rattle.at_model.proofs.of_searching.InOrder.{seen_in_order}
use Rattle.at_model.proofs.of_searching.Steps.{has_seen}
use Rattle.at_store.specs.Shown.{Shown, contents}
use Rattle.at_body.specs.Same.{same_instance}
use Rattle.at_body.specs.Typed.{class_shown}
use Rattle.at_cache.specs.Kept.{Entries}
use Rattle.at_search.specs.LedTo.{IsMet}
use Rattle.at_search.specs.Recorded.{HasMetFirst, HasMetIn, Recorded, end_of}
use Rattle.at_search.specs.declared.ended.Ended.{Ended}
use Rattle.at_search.specs.declared.ended.Ending.{Ending}
use Rattle.at_search.specs.declared.ended.Ending.TheVariants as ending
use Rattle.at_search.specs.declared.ended.Fault.{Fault}
use Rattle.at_search.specs.declared.search.Search.{Search as SearchCode}
use Rattle.at_search.proofs.Meeting.{sees}
use Rattle.at_demand.specs.declared.question.Question.{Question}
use Rattle.at_demand.specs.ChainSteps.{HasNext, HasSeen, SeesIn, SeesNext}
use Rattle.at_evaluate.specs.Valued.{meaning}
use Rattle.at_demand.specs.Levels.{IsCovered, LevelCode, fault_in, known_to, todo_in}
use Rattle.at_demand.specs.Searches.{StandsBetween}
use Rattle.at_demand.proofs.Marking.{told_among}
use Rattle.at_demand.proofs.of_searches.Circling.{one_recorded}
use Rattle.at_demand.proofs.of_searches.Moving.{stands_moved}
use Rattle.at_demand.proofs.of_searches.Reaching.{led_typed}
use Rattle.at_demand.proofs.of_searches.Stepping.{come_next, covered_next, met_next, todo_is, typed_next}

-- a level that is a search has seen it
pub sees_next : (old new : LevelCode) (i : Instance ℕ) (e : Ending) → ((b : Box SearchCode) × (old ≡ Some b)) → SeesIn old new i e → SeesNext old new i e
sees_next None new i e (b, is) h = absurd cc
sees_next (Some b) new i e s h = h

-- a fault that is met is there
no_fault : (s : Fault) (old new : Option Fault) → HasMetFirst s old new → new ≡ None → ⊥
no_fault s None new (f, e, c) none = let q : Some f ≡ None = sym e ∙ none in absurd cc
no_fault s (Some f) new e none = let q : Some f ≡ None = sym e ∙ none in absurd cc

made : (e : Ending) (old new : Option Fault) → HasMetIn e old new → new ≡ None → IsMade (end_of e)
made (ending.Formed f) old new h none = tt
made (ending.Spoilt s) old new h none = absurd (no_fault s old new h none)

none_was : (e : Ending) (old new : Option Fault) → HasMetIn e old new → new ≡ None → old ≡ None
none_was (ending.Formed f) old new h none = sym h ∙ none
none_was (ending.Spoilt s) old new h none = absurd (no_fault s old new h none)

-- a search goes over one whose equation is recorded to have ended
pub covered_seen : (known : Known ℕ) (ended : List (Instance ℕ × Ended)) (root : Instance ℕ) (seen : List (Instance ℕ)) (c : Instance ℕ)
    (rest : List (Instance ℕ)) (e : Ending) (old new : Option Fault) → Recorded ended c (end_of e) → HasMetIn e old new →
    IsCovered known ended root seen (c ∷ rest) old → IsCovered known ended root (c ∷ seen) (asked_in (end_of e) ++ rest) new
covered_seen known ended root seen c rest e old new r met x = record {
  first = first root x.first;
  ends = ends;
  order = seen_in_order (Recorded ended) (one_recorded ended) (λ k. IsSome (known k)) seen c (end_of e) rest r x.order;
}
  where
    first : (i : Instance ℕ) → IsMet (λ k. IsSome (known k)) seen (c ∷ rest) i → IsMet (λ k. IsSome (known k)) (c ∷ seen) (asked_in (end_of e) ++ rest) i
    first i (inl a) = inl (inr a)
    first i (inr (inl k)) = inr (inl k)
    first i (inr (inr (inl q))) = inl (inl q)
    first i (inr (inr (inr h))) = inr (inr (back_among i (asked_in (end_of e)) rest h))

    was : (i : Instance ℕ) → ((d : End ℕ (Formula ℕ)) × Recorded ended i d × (old ≡ None → IsMade d)) →
        (d : End ℕ (Formula ℕ)) × Recorded ended i d × (new ≡ None → IsMade d)
    was i (d, y, g) = (d, y, λ none. g (none_was e old new met none))

    ends : (i : Instance ℕ) → Among i (c ∷ seen) → (d : End ℕ (Formula ℕ)) × Recorded ended i d × (new ≡ None → IsMade d)
    ends i (inl q) = (end_of e, subst (λ z. Recorded ended z (end_of e)) (sym q) r, made e old new met)
    ends i (inr a) = was i (x.ends i a)

-- where the next one is recorded to have ended, the question stands behind it
module _ (rules : Rules) (s : Shown) (entries : Entries) (p q r : Question) (c : Instance ℕ) (n : HasNext p q c) (x : Ended)
    (at : lookup (same_instance c) q.ended.entries ≡ Some x) (h : HasSeen q c x.ending r) (m : Looked ℕ) (st : StandsBetween rules s entries p m)
    (unseen : Among c m.seen → ⊥) (shut : IsOpen (contents s) (meaning rules) (under m.below) c → ⊥) where
  seen_so : SeesNext q.level r.level c x.ending
  seen_so = sees_next q.level r.level c x.ending n.is h.sees

  recorded_so : Recorded p.ended.entries c (end_of x.ending)
  recorded_so = (x, ap (λ es. lookup (same_instance c) es) (sym n.finds.ended) ∙ at, refl)

  ends_so : EndsSo (contents s) (meaning rules) c (end_of x.ending)
  ends_so = st.can.facts.ends c (end_of x.ending) recorded_so

  met_so : HasMetIn x.ending (fault_in p.level) (fault_in r.level)
  met_so = subst (λ f. HasMetIn x.ending f (fault_in r.level)) n.fault seen_so.met

  abbrev pub over_next : Looked ℕ
  over_next = gone_over m c (todo_in q.level) (end_of x.ending)

  leads_asked : (e : End ℕ (Formula ℕ)) → EndsSo (contents s) (meaning rules) c e → (i : Instance ℕ) → Among i (asked_in e) →
      Leads (contents s) (meaning rules) c i
  leads_asked (Made f) y i a = led.goes c i i (inr (f, y, a)) (led.stays i)
  leads_asked (Spoilt k to) y i a = absurd a

  typed_over : (i : Instance ℕ) → Among i ((c ∷ m.seen) ++ (asked_in (end_of x.ending) ++ todo_in q.level)) →
      IsWellTyped rules (class_shown s) AnyText i
  typed_over i a = elim (either_among i (c ∷ m.seen) (asked_in (end_of x.ending) ++ todo_in q.level) a) [
    | inl b ↦ elim b [
      | inl e ↦ subst (λ z. IsWellTyped rules (class_shown s) AnyText z) (sym e) here
      | inr d ↦ typed_next rules s entries p q c n m st i (front_among i m.seen (c ∷ todo_in q.level) d)
    ]
    | inr b ↦ elim (either_among i (asked_in (end_of x.ending)) (todo_in q.level) b) [
      | inl d ↦ led_typed rules s st.can.answerable.basis c i here (leads_asked (end_of x.ending) ends_so i d)
      | inr d ↦ typed_next rules s entries p q c n m st i (back_among i m.seen (c ∷ todo_in q.level) (inr d))
    ]
  ]
    where
      here : IsWellTyped rules (class_shown s) AnyText c
      here = typed_next rules s entries p q c n m st c (back_among c m.seen (c ∷ todo_in q.level) (inl refl))

  pub stands_over : StandsBetween rules s entries r over_next
  stands_over = stands_moved rules s entries p r
      (record { waiting = h.chain.waiting ∙ n.chain.waiting; inst = h.chain.inst ∙ n.chain.inst })
      (record {
        found = h.finds.found ∙ n.finds.found;
        passed = h.finds.passed ∙ n.finds.passed;
        ended = h.finds.ended ∙ n.finds.ended;
        turns = h.finds.turns ∙ n.finds.turns;
      })
      (h.root ∙ n.root) m st (c ∷ m.seen) (asked_in (end_of x.ending) ++ todo_in q.level)
      (ap (λ is. c ∷ is) (st.is.seen ∙ sym n.seen) ∙ sym seen_so.seen) (sym seen_so.todo) (λ i a. inr a)
      (has_seen (contents s) (meaning rules) told_among (under m.below) m.root m.seen c (todo_in q.level) (end_of x.ending) ends_so unseen shut
      (come_next rules s entries p q c n m st))
      (covered_seen (known_to entries p) p.ended.entries m.root m.seen c (todo_in q.level) x.ending (fault_in p.level) (fault_in r.level) recorded_so met_so
      (covered_next rules s entries p q c n m st))
      (sees (contents s) (meaning rules) m.root m.seen (todo_in q.level) c x.ending (fault_in p.level) (fault_in r.level)
      (met_next rules s entries p q c n m st) unseen ends_so met_so)
      typed_over

  -- what follows from there follows from here, where that one isn't passed
  pub follows_over : (kept : Known ℕ) → (IsPassed kept m c → ⊥) → Among c (keys_of p.ended.entries) → (u : Search ℕ) (o : Option (Answer ℕ)) →
      Follows (contents s) (meaning rules) kept over_next u o → Follows (contents s) (meaning rules) kept m u o
  follows_over kept fresh key u o y =
      follows.goes_over (end_of x.ending) (subst (λ ts. First (IsPassed kept m) ts c (todo_in q.level)) (sym (todo_is rules s entries p q c n m st))
      (this c (todo_in q.level) fresh)) shut (st.is.recorded c key) ends_so y
