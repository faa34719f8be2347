-- What is known of instances once those are solved to which formulas lead.
use Rattle.std.proofs.Common.{◌≡◌, ◌⊎◌, ◌<◌, ◌^◌, ℕ, nat_eq, Bool, true, false, true≢false, if◌then◌else◌, MatchBool, List, [], ◌∷◌, ◌++◌, reverse, Option, Some, None, inl, inr, refl, sym, ap, ◌∙◌, subst, append-nil}
use Rattle.std.specs.Prelude.{IsSome, is_some, Result, Ok, Err, IfOk, OnOk, IfSome}
use Rattle.std.specs.declared.alloc.AllocError.{AllocError}
use Rattle.std.specs.Map.{keys_of, lookup}
use Rattle.std.specs.Option.{option_map}
use Rattle.std.proofs.lemmas.Option.{same_Some}
use Rattle.std.proofs.lemmas.Result.{IfOk-weaker}
use Rattle.at_model.specs.Meaning.{Among, Faults, Finds}
use Rattle.at_model.specs.Rules.{Rules, start_of}
use Rattle.at_model.specs.Run.{Value, Instance, Contents, Known}
use Rattle.at_model.specs.of_fixpoints.Fixpoints.{End, EndsSo, HasValue, LeadsOver, Made, Meets, Spoilt, goes, stays}
use Rattle.at_model.specs.of_fixpoints.Formulas.{Formula, Forms}
use Rattle.at_model.specs.of_fixpoints.Searching.{asked_in, under}
use Rattle.at_model.proofs.Reached.{back_among, either_among}
use Rattle.at_model.proofs.of_formulas.StartsKept.{of_one_start}
use Rattle.at_model.proofs.of_formulas.UniqueOutcomes.{Ending, once}
use Rattle.at_model.proofs.of_searching.Wholes.{seen_whole, whole_faults}
use Rattle.at_rules.specs.Circular.{HasNoneCircular}
use Rattle.at_store.specs.Shown.{Shown, contents}
use Rattle.at_body.specs.Same.{same_instance}
use Rattle.at_body.specs.Values.{fault_view, value_view}
use Rattle.at_body.specs.declared.value.Value.{Value as ValueCode}
use Rattle.at_cache.specs.Kept.{Entries}
use Rattle.at_cache.specs.Traced.{Memories}
use Rattle.at_search.specs.LedTo.{AreClosedIn, IsClosure}
use Rattle.at_search.specs.Recorded.{AreFacts, AreWhole, IsMarked, IsRecordedForm, IsSettled, Recorded, end_of}
use Rattle.at_search.specs.Solved.{IsSpoilt, IsStopped}
use Rattle.at_search.specs.declared.ended.Ended.{Ended}
use Rattle.at_search.specs.declared.ended.Fault.{Fault}
use Rattle.at_search.proofs.Seeing.{among_reverse, reverse_among}
use Rattle.at_demand.proofs.of_levels.Stuck.{not_stopped}
use Rattle.at_demand.proofs.of_searches.Circling.{one_recorded}
use Rattle.at_demand.specs.declared.demand.searching.Look.{Look}
use Rattle.at_demand.specs.declared.demand.searching.Resolved.{Resolved}
use Rattle.at_demand.specs.declared.demand.searching.Resolved.TheVariants as resolved
use Rattle.at_demand.specs.declared.evaluation.Find.{Find}
use Rattle.at_demand.specs.declared.question.Question.{Question}
use Rattle.at_demand.specs.Answerable.{IsAnswerable}
use Rattle.at_demand.specs.ChainSteps.{HasLostSeen, HasMarkedAll, HasRisen, IsUnchanged}
use Rattle.at_demand.specs.Covering.{AreWhole as AreWholeFinds}
use Rattle.at_demand.specs.Groups.{AreKnownOrStopped, CanBeSolved, HasMarkedSolved, IsKnownOrSpoilt, KeepsGroups, Tells, start_in}
use Rattle.at_demand.specs.Known.{FoundKept, found_values, known_in}
use Rattle.at_evaluate.specs.Valued.{KeepsEntries, kept_values, meaning}
use Rattle.at_demand.specs.Levels.{AreFactsOf, AreWholeOrSeen, HasAllEnded, HaveAsked, IsFormOf, LeadsToFault, all_levels, known_to, level_of, levels_of, root_in, seen_in}
use Rattle.at_evaluate.specs.Meant.{AreRightValues}
use Rattle.at_demand.specs.Searches.{AreSoundFinds, CanResolve, CanSolveLevel, HasLookedAt, HasResolved, HasSolvedLevel, IsLevelOver, IsLookedAt, IsMetFault, IsResolved, IsStuckAt, TellsOfEnded, look_of}
use Rattle.at_evaluate.proofs.Counting.{counts_none}
use Rattle.at_evaluate.proofs.Entered.{is_there, kept_on, not_none}
use Rattle.at_demand.proofs.Keys.{is_key, no_key}
use Rattle.at_demand.proofs.Marking.{told_among}
use Rattle.at_demand.proofs.Recalling.{known_kept}
use Rattle.at_demand.proofs.of_traces.TurnsPut.{puts_same}

-- formulas lead on
pub led_on : {N : Type 0} (E : Ending N) (i j k : Instance N) → LeadsOver E i j → LeadsOver E j k → LeadsOver E i k
led_on E _ j k (stays _) l = l
led_on E _ j k (goes i m _ f h a r) l = goes i m k f h a (led_on E m j k r l)

-- what one list of endings has, the other one has, marked or not
abbrev pub EndingsStay : (old new : List (Instance ℕ × Ended)) → Type 0
EndingsStay old new = (i : Instance ℕ) (x : Ended) → lookup (same_instance i) old ≡ Some x
    → (y : Ended) × (lookup (same_instance i) new ≡ Some y) × (y.ending ≡ x.ending)

abbrev pub marked_whole : Ended → Ended
marked_whole x = record { ending = x.ending; is_whole = true }

-- just these are marked whole beside those that were
abbrev pub AllMarked : List (Instance ℕ) → (old new : List (Instance ℕ × Ended)) → Type 0
AllMarked set old new =
    ((i : Instance ℕ) (x : Ended) → Among i set → lookup (same_instance i) old ≡ Some x → lookup (same_instance i) new ≡ Some (marked_whole x))
    × ((i : Instance ℕ) → (Among i set → ⊥) → lookup (same_instance i) new ≡ lookup (same_instance i) old)

module _ (old new : List (Instance ℕ × Ended)) (on : EndingsStay old new) where
  pub recorded_on : (i : Instance ℕ) (e : End ℕ (Formula ℕ)) → Recorded old i e → Recorded new i e
  recorded_on i e (x, at, is) = let (y, here, same) = on i x at in (y, here, ap end_of same ∙ is)

  pub led_recorded : (i j : Instance ℕ) → LeadsOver (Recorded old) i j → LeadsOver (Recorded new) i j
  led_recorded _ j (stays _) = stays j
  led_recorded _ j (goes i m _ f h a l) = goes i m j f (recorded_on i (Made f) h) a (led_recorded m j l)

  pub fault_recorded : (i : Instance ℕ) → LeadsToFault old i → LeadsToFault new i
  fault_recorded i (j, at, k, l, r) = (j, at, k, led_recorded i j l, recorded_on j (Spoilt k at) r)

module _ (set : List (Instance ℕ)) (old new : List (Instance ℕ × Ended)) (m : AllMarked set old new) where
  pub endings_stay : EndingsStay old new
  endings_stay i x at = elim (told_among i set) [
    | inl a ↦ (marked_whole x, m.0 i x a at, refl)
    | inr n ↦ (x, m.1 i n ∙ at, refl)
  ]

  pub marked_on : (i : Instance ℕ) → IsMarked old i → IsMarked new i
  marked_on i (x, at, w) = elim (told_among i set) [
    | inl a ↦ (marked_whole x, m.0 i x a at, refl)
    | inr n ↦ (x, m.1 i n ∙ at, w)
  ]

  pub marked_back : (i : Instance ℕ) → IsMarked new i → IsMarked old i ⊎ Among i set
  marked_back i (x, at, w) = elim (told_among i set) [
    | inl a ↦ inr a
    | inr n ↦ inl (x, sym (m.1 i n) ∙ at, w)
  ]

  pub marked_now : (i : Instance ℕ) (e : End ℕ (Formula ℕ)) → Among i set → Recorded old i e → IsMarked new i
  marked_now i e a (x, at, is) = (marked_whole x, m.0 i x a at, refl)

-- a key has an entry, and what has an entry is a key
pub recorded_key : (ended : List (Instance ℕ × Ended)) (i : Instance ℕ) (e : End ℕ (Formula ℕ)) → Recorded ended i e → Among i (keys_of ended)
recorded_key ended i e (x, at, is) = is_key true ended i (sym (is_there (lookup (same_instance i) ended) x at))

pub marked_key : (ended : List (Instance ℕ × Ended)) (i : Instance ℕ) → IsMarked ended i → Among i (keys_of ended)
marked_key ended i (x, at, w) = is_key true ended i (sym (is_there (lookup (same_instance i) ended) x at))

pub key_entry : (ended : List (Instance ℕ × Ended)) (i : Instance ℕ) → Among i (keys_of ended) → (x : Ended) × (lookup (same_instance i) ended ≡ Some x)
key_entry ended i k = by (lookup (same_instance i) ended) (λ none. no_key ended i none k)
  where
    by : (o : Option Ended) → (o ≡ None → ⊥) → (x : Ended) × (o ≡ Some x)
    by None some = absurd (some refl)
    by (Some x) some = (x, refl)

module _ (look : Contents ℕ) (forms : Forms ℕ) (known : Known ℕ) (ended : List (Instance ℕ × Ended)) (facts : AreFacts look forms ended)
    (wholes : AreWhole look forms known) (marked : (i : Instance ℕ) → IsMarked ended i → HasAllEnded look forms i) where
  known_ended : (i : Instance ℕ) → IsSome (known i) → HasAllEnded look forms i
  known_ended i s =
      let (W, c, h) = wholes i s in
      (W, (λ j a. let x = c j a in record { end = x.end; ends = x.ends; good = tt; next = x.next }), h)

  -- the equations of all to which each of a closed list leads end
  pub closed_ended : (set : List (Instance ℕ)) → AreClosedIn known ended set → (i : Instance ℕ) → Among i set → HasAllEnded look forms i
  closed_ended set closed i h = seen_whole (EndsSo look forms) (λ e. Unit {0}) set (λ j a. let x = closed j a in record {
    end = x.end;
    ends = facts j x.end x.ends;
    good = tt;
    next = λ k b. elim (x.next k b) [
      | inl d ↦ inr d
      | inr d ↦ elim d [ inl s ↦ inl (known_ended k s) | inr m ↦ inl (marked k m) ]
    ];
  }) i h

-- what is known stays known
abbrev pub or_else : (o p : Option (Value ℕ)) → Option (Value ℕ)
or_else o p = elim o [ Some v ↦ Some v | None ↦ p ]

pub either_known : (o p : Option (Value ℕ)) → IsSome (or_else o p) → IsSome o ⊎ IsSome p
either_known None p s = inr s
either_known (Some v) p s = inl refl

known_either : (o p : Option (Value ℕ)) → IsSome o ⊎ IsSome p → IsSome (or_else o p)
known_either None p (inl s) = absurd (true≢false (sym s))
known_either None p (inr s) = s
known_either (Some v) p h = refl

found_left : (found more : List (Instance ℕ × Find)) (i : Instance ℕ) → IsSome (found_values found i) → IsSome (found_values (found ++ more) i)
found_left [] more i s = absurd (true≢false (sym s))
found_left (f ∷ fs) more i s = by (same_instance i f.0) s (found_left fs more i)
  where
    by : (b : Bool) → IsSome (option_map (λ (g : Find). value_view g.value) (if b then Some f.1 else lookup (same_instance i) fs)) →
        (IsSome (found_values fs i) → IsSome (found_values (fs ++ more) i)) →
        IsSome (option_map (λ (g : Find). value_view g.value) (if b then Some f.1 else lookup (same_instance i) (fs ++ more)))
    by true s on = refl
    by false s on = on s

module _ (before after : Entries) (found more : List (Instance ℕ × Find)) (stay : KeepsEntries before after) where
  pub known_stays : (i : Instance ℕ) → IsSome (known_in before found i) → IsSome (known_in after (found ++ more) i)
  known_stays i s = known_either (kept_values after i) (found_values (found ++ more) i) (elim (either_known (kept_values before i) (found_values found i) s) [
    | inl k ↦ inl (kept_on before after stay i k)
    | inr f ↦ inr (found_left found more i f)
  ])

pub still_known : (before after : Entries) (old new : Question) → KeepsEntries before after → (more : List (Instance ℕ × Find)) →
    new.found.entries ≡ old.found.entries ++ more → (i : Instance ℕ) → IsSome (known_to before old i) → IsSome (known_to after new i)
still_known before after old new stay more e i s =
    subst (λ fs. IsSome (known_in after fs i)) (sym e) (known_stays before after old.found.entries more stay i s)

none_before : (o p : Option (Value ℕ)) → (IsSome o → IsSome p) → p ≡ None → o ≡ None
none_before None p on e = refl
none_before (Some v) p on e = absurd (not_none p (on refl) e)

-- what is recorded and known is so of a question that has the same finds and endings
pub facts_same : (rules : Rules) (look : Contents ℕ) (entries : Entries) (old new : Question) → new.ended.entries ≡ old.ended.entries →
    new.found.entries ≡ old.found.entries → AreFactsOf rules look entries old → AreFactsOf rules look entries new
facts_same rules look entries old new e f facts = record {
  ends = subst (λ es. AreFacts look (meaning rules) es) (sym e) facts.ends;
  forms = λ i g a. subst (λ fs. IsFormOf rules look entries fs i g) (sym f) (facts.forms i g (subst (λ es. IsRecordedForm es i g) e a));
  circular = λ i g a. facts.circular i g (subst (λ es. IsRecordedForm es i g) e a);
  values = subst (λ fs. AreRightValues look (meaning rules) (known_in entries fs)) (sym f) facts.values;
  wholes = subst (λ fs. AreWhole look (meaning rules) (known_in entries fs)) (sym f) facts.wholes;
}

pub asked_moved : (entries : Entries) (old new : Question) → new.ended.entries ≡ old.ended.entries →
    new.found.entries ≡ old.found.entries →
    HaveAsked (known_to entries old) old.ended.entries → HaveAsked (known_to entries new) new.ended.entries
asked_moved entries old new e f h = subst (λ es. HaveAsked (known_to entries new) es) (sym e)
    (subst (λ fs. HaveAsked (known_in entries fs) old.ended.entries) (sym f) h)

-- all that formulas lead to starts as they do
pub start_led : (rules : Rules) (look : Contents ℕ) (ended : List (Instance ℕ × Ended)) → AreFacts look (meaning rules) ended → (i j : Instance ℕ) →
    LeadsOver (Recorded ended) i j → start_of rules j.attribute ≡ start_of rules i.attribute
start_led rules look ended facts _ j (stays _) = refl
start_led rules look ended facts _ j (goes i m _ f h a l) =
    start_led rules look ended facts m j l ∙ of_one_start look rules nat_eq i m f (facts i (Made f) h) a

pub start_first : (rules : Rules) (is : List (Instance ℕ)) →
    ((i j : Instance ℕ) → Among i is → Among j is → start_of rules i.attribute ≡ start_of rules j.attribute) →
    (i : Instance ℕ) → Among i is → start_of rules i.attribute ≡ start_in rules is
start_first rules [] alike i h = absurd h
start_first rules (k ∷ ks) alike i h = alike i k h (inl refl)

-- What was placed stays so, where each of a closed list was solved and is marked.
module _ (rules : Rules) (look : Contents ℕ) (before after : Entries) (old new : Question) (set : List (Instance ℕ)) (facts : AreFactsOf rules look before old)
    (known : (i : Instance ℕ) → IsSome (known_to before old i) → IsSome (known_to after new i)) (marks : AllMarked set old.ended.entries new.ended.entries) where
  pub placed_on : keys_of new.ended.entries ≡ keys_of old.ended.entries → AreClosedIn (known_to before old) old.ended.entries set →
      ((i : Instance ℕ) → Among i (under (all_levels old)) → Among i (under (all_levels new)) ⊎ Among i set) →
      ((i : Instance ℕ) → Among i set → IsKnownOrSpoilt before after old new i) →
      AreWholeOrSeen rules look before old → AreWholeOrSeen rules look after new
  placed_on keys closed seen rest w = record { placed = placed; marked = marked; spoilt = spoilt; asked = asked }
    where
      on : EndingsStay old.ended.entries new.ended.entries
      on = endings_stay set old.ended.entries new.ended.entries marks

      at_set : (i : Instance ℕ) → Among i set → IsMarked new.ended.entries i
      at_set i a = let x = closed i a in marked_now set old.ended.entries new.ended.entries marks i x.end a x.ends

      placed : (i : Instance ℕ) → Among i (keys_of new.ended.entries) →
          IsSome (known_to after new i) ⊎ (IsMarked new.ended.entries i ⊎ Among i (under (all_levels new)))
      placed i h = elim (w.placed i (subst (λ ks. Among i ks) keys h)) [
        | inl k ↦ inl (known i k)
        | inr d ↦ elim d [
          | inl m ↦ inr (inl (marked_on set old.ended.entries new.ended.entries marks i m))
          | inr u ↦ elim (seen i u) [ inl a ↦ inr (inr a) | inr a ↦ inr (inl (at_set i a)) ]
        ]
      ]

      marked : (i : Instance ℕ) → IsMarked new.ended.entries i → HasAllEnded look (meaning rules) i
      marked i m = elim (marked_back set old.ended.entries new.ended.entries marks i m) [
        | inl a ↦ w.marked i a
        | inr a ↦ closed_ended look (meaning rules) (known_to before old) old.ended.entries facts.ends facts.wholes w.marked set closed i a
      ]

      none : (i : Instance ℕ) → known_to after new i ≡ None → known_to before old i ≡ None
      none i e = none_before (known_to before old i) (known_to after new i) (known i) e

      of_spoilt : (i : Instance ℕ) → IsSpoilt (known_to before old) old.ended.entries i → LeadsToFault old.ended.entries i
      of_spoilt i x = elim x.why [
        | inl f ↦ let (k, at, r) = f in (x.to, at, k, x.led, r)
        | inr m ↦ let (j, at, k, l, r) = w.spoilt x.to m x.unknown in (j, at, k, led_on (Recorded old.ended.entries) i x.to j x.led l, r)
      ]

      to_fault : (i : Instance ℕ) → IsMarked new.ended.entries i → known_to after new i ≡ None → LeadsToFault old.ended.entries i
      to_fault i m e = elim (marked_back set old.ended.entries new.ended.entries marks i m) [
        | inl a ↦ w.spoilt i a (none i e)
        | inr a ↦ elim (rest i a) [ inl k ↦ absurd (not_none (known_to after new i) k e) | inr x ↦ of_spoilt i x ]
      ]

      spoilt : (i : Instance ℕ) → IsMarked new.ended.entries i → known_to after new i ≡ None → LeadsToFault new.ended.entries i
      spoilt i m e = fault_recorded old.ended.entries new.ended.entries on i (to_fault i m e)

      key_on : (j : Instance ℕ) → Among j (keys_of old.ended.entries) → Among j (keys_of new.ended.entries)
      key_on j k = subst (λ ks. Among j ks) (sym keys) k

      -- as it was recorded
      was_made : (i : Instance ℕ) (e : End ℕ (Formula ℕ)) (f : Formula ℕ) → Recorded old.ended.entries i e →
          Recorded new.ended.entries i (Made f) →
          e ≡ Made f
      was_made i e f x r = one_recorded new.ended.entries i e (Made f)
          (recorded_on old.ended.entries new.ended.entries on i e x) r

      asked : HaveAsked (known_to after new) new.ended.entries
      asked i j f m r a = elim (marked_back set old.ended.entries new.ended.entries marks i m) [
        | inl b ↦ (let (y, at, is) = b in
            elim (w.asked i j f b (subst (λ z. Recorded old.ended.entries i z) (was_made i (end_of y.ending) f
            (y, at, refl) r) (y, at, refl)) a) [
              | inl k ↦ inl (known j k)
              | inr key ↦ inr (key_on j key)
            ])
        | inr b ↦ (let x = closed i b in
            elim (x.next j (subst (λ (z : End ℕ (Formula ℕ)). Among j (asked_in z)) (sym
            (was_made i x.end f x.ends r)) a)) [
              | inl d ↦ (let y = closed j d in inr (key_on j (recorded_key old.ended.entries j y.end y.ends)))
              | inr d ↦ elim d [ inl k ↦ inl (known j k) | inr k ↦ inr (key_on j (marked_key old.ended.entries j k)) ]
            ])
      ]

pub all_marked : (set : List (Instance ℕ)) (old new : Question) → HasMarkedAll set old new → AllMarked set old.ended.entries new.ended.entries
all_marked set old new m = (m.marked, m.others)

-- of two that have the same finds and endings the same can be told
known_same : (before after : Entries) (mid old new : Question) (i : Instance ℕ) → mid.ended.entries ≡ old.ended.entries → mid.found.entries ≡ old.found.entries →
    IsKnownOrSpoilt before after mid new i → IsKnownOrSpoilt before after old new i
known_same before after mid old new i e f (inl k) = inl k
known_same before after mid old new i e f (inr x) =
    inr (subst (λ fs. IsSpoilt (known_in before fs) old.ended.entries i) f (subst (λ es. IsSpoilt (known_in before mid.found.entries) es i) e x))

closed_same : (entries : Entries) (mid old : Question) (set : List (Instance ℕ)) → mid.ended.entries ≡ old.ended.entries → mid.found.entries ≡ old.found.entries →
    AreClosedIn (known_to entries old) old.ended.entries set → AreClosedIn (known_to entries mid) mid.ended.entries set
closed_same entries mid old set e f c =
    subst (λ es. AreClosedIn (known_in entries mid.found.entries) es set) (sym e) (subst (λ fs. AreClosedIn (known_in entries fs) old.ended.entries set) (sym f) c)

-- where no attribute is circular, groups are kept whole in any case
pub keeps_groups : {T E : Type 0} (rules : Rules) (r : Result T E) → HasNoneCircular rules → KeepsGroups rules r
keeps_groups rules (Ok x) none = tt
keeps_groups rules (Err e) none = none

module _ (rules : Rules) (s : Shown) (before after : Entries) (former latter : Memories) (earlier later : ℕ) where
  -- under another condition
  pub tells_where : {V W : Type 0} → (W → V) → (old new : Question) (these : List (Instance ℕ)) →
      Tells rules s before after former latter earlier later old new these V → Tells rules s before after former latter earlier later old new these W
  tells_where on old new these t = record {
    chain = t.chain;
    level = t.level;
    ended = t.ended;
    endings = t.endings;
    passed = t.passed;
    turns = t.turns;
    stays = t.stays;
    finds = t.finds;
    told = t.told;
    kept = t.kept;
    entries = t.entries;
    values = t.values;
    facts = t.facts;
    whole = t.whole;
    took = t.took;
    right = t.right;
    plain = t.plain;
    lean = t.lean;
    settled = t.settled;
    only = t.only;
    spare = λ whole. t.spare (on whole);
    counts = t.counts;
    traces = t.traces;
  }

  pub tells_more : {Whole : Type 0} → (old new : Question) (these those : List (Instance ℕ)) → ((i : Instance ℕ) → Among i these → Among i those) →
      Tells rules s before after former latter earlier later old new these Whole → Tells rules s before after former latter earlier later old new those Whole
  tells_more old new these those on t = record {
    chain = t.chain;
    level = t.level;
    ended = t.ended;
    endings = t.endings;
    passed = t.passed;
    turns = t.turns;
    stays = t.stays;
    finds = t.finds;
    told = λ i h. elim (t.told i h) [ inl k ↦ inl k | inr a ↦ inr (on i a) ];
    kept = λ i h. elim (t.kept i h) [ inl k ↦ inl k | inr a ↦ inr (on i a.0, a.1) ];
    entries = t.entries;
    values = t.values;
    facts = t.facts;
    whole = t.whole;
    took = t.took;
    right = λ finds there r. t.right finds (λ i a. there i (on i a)) r;
    plain = t.plain;
    lean = t.lean;
    settled = t.settled;
    only = t.only;
    spare = t.spare;
    counts = t.counts;
    traces = t.traces;
  }

  module _ (old mid new : Question) (set : List (Instance ℕ)) (ended : mid.ended.entries ≡ old.ended.entries) (found : mid.found.entries ≡ old.found.entries)
      (facts : AreFactsOf rules (contents s) before old) where
    -- what was solved is placed
    pub solved_placed : (r : Result Unit AllocError) → AreClosedIn (known_to before old) old.ended.entries set →
        ((i : Instance ℕ) → Among i (under (all_levels old)) → Among i (under (all_levels new)) ⊎ Among i set) → AreWholeOrSeen rules (contents s) before old →
        HasMarkedSolved {E = AllocError} rules s before after former latter earlier later mid new set r → OnOk r (AreWholeOrSeen rules (contents s) after new)
    solved_placed (Err e) closed seen w h = tt
    solved_placed (Ok u) closed seen w h =
        let (m, same, marks) = h.marked in
        let (more, grown) = h.tells.finds in
        placed_on rules (contents s) before after old new set facts
        (still_known before after old new h.tells.stays more (grown ∙ ap (λ fs. fs ++ more) found))
        (subst (λ es. AllMarked set es new.ended.entries) (same ∙ ended) (all_marked set m new marks))
        (h.tells.ended ∙ ap (λ es. keys_of es) ended) closed seen
        (λ i a. known_same before after mid old new i ended found (h.rest (closed_same before mid old set ended found closed) i a)) w

    -- and each of these is marked
    pub solved_marked : (r : Result Unit AllocError) → HasMarkedSolved {E = AllocError} rules s before after former latter earlier later mid new set r →
        OnOk r ((i : Instance ℕ) → Among i set → Among i (keys_of old.ended.entries) → IsMarked new.ended.entries i)
    solved_marked (Err e) h = tt
    solved_marked (Ok u) h = λ i a k.
        let (m, same, marks) = h.marked in
        let all = subst (λ es. AllMarked set es new.ended.entries) (same ∙ ended) (all_marked set m new marks) in
        of_key i a k all
      where
        of_key : (i : Instance ℕ) → Among i set → Among i (keys_of old.ended.entries) → AllMarked set old.ended.entries new.ended.entries →
            IsMarked new.ended.entries i
        of_key i a k all = let (x, at) = key_entry old.ended.entries i k in (marked_whole x, all.0 i x a at, refl)

  -- what can be told can be told still
  pub can_still : {Whole : Type 0} → (old new : Question) (these : List (Instance ℕ)) → IsAnswerable rules s before → AreFactsOf rules (contents s) before old →
      AreSoundFinds rules s before old → Tells rules s before after former latter earlier later old new these Whole →
      AreWholeOrSeen rules (contents s) after new → CanResolve rules s after new
  can_still old new these answerable facts finds t w = record {
    answerable = record {
      basis = answerable.basis;
      right = λ j v e. t.values j v (known_kept after new.found.entries j v v (sym e) refl);
      plain = t.plain;
    };
    facts = t.facts facts;
    finds = record { whole = t.whole finds.whole; took = t.took };
    whole = w;
  }

pub same_levels : (old new : Question) → new.waiting.entries ≡ old.waiting.entries → new.inst ≡ old.inst →
    new.level ≡ old.level → all_levels new ≡ all_levels old
same_levels old new w i l =
    ap (λ ws. level_of new.inst new.level ∷ levels_of ws) w ∙ ap (λ d. level_of new.inst d ∷ levels_of old.waiting.entries) l
    ∙ ap (λ j. level_of j old.level ∷ levels_of old.waiting.entries) i

-- the fault that is met is the outcome
pub spoilt_resolved : (rules : Rules) (look : Contents ℕ) (before after : Entries) (old new : Question) (i : Instance ℕ) → HasAllEnded look (meaning rules) i →
    Among i (keys_of new.ended.entries) → (a : Resolved) → IsMetFault look (meaning rules) i a → IsResolved rules look before after old new i a
spoilt_resolved rules look before after old new i ended key resolved.Known m = absurd m
spoilt_resolved rules look before after old new i ended key (resolved.Spoilt f) m =
    (whole_faults look (meaning rules) (λ e. Unit {0}) i (fault_view f.kind) f.at ended m, key)
spoilt_resolved rules look before after old new i ended key resolved.Back m = absurd m
spoilt_resolved rules look before after old new i ended key resolved.Open m = absurd m

-- one that is marked is known to be
pub is_marked : (o : Option Ended) (b : Bool) → Some b ≡ option_map (λ (x : Ended). x.is_whole) o → b ≡ true → (x : Ended) × (o ≡ Some x) × (x.is_whole ≡ true)
is_marked None b e on = let f : Some b ≡ None = e in absurd cc
is_marked (Some x) b e on = let f : b ≡ x.is_whole = same_Some b x.is_whole e in (x, refl, sym f ∙ on)

pub key_told : (ended : List (Instance ℕ × Ended)) (i : Instance ℕ) (b : Bool) →
    Some b ≡ option_map (λ (x : Ended). x.is_whole) (lookup (same_instance i) ended) → Among i (keys_of ended)
key_told ended i b e = is_key true ended i (sym (there (lookup (same_instance i) ended) e))
  where
    there : (o : Option Ended) → Some b ≡ option_map (λ (x : Ended). x.is_whole) o → IsSome o
    there None e = let f : Some b ≡ None = e in absurd cc
    there (Some x) e = refl

pub not_marked : (ended : List (Instance ℕ × Ended)) (i : Instance ℕ) (b : Bool) →
    Some b ≡ option_map (λ (x : Ended). x.is_whole) (lookup (same_instance i) ended) → b ≡ false → IsMarked ended i → ⊥
not_marked ended i b e off (x, at, w) =
    let f : Some b ≡ Some x.is_whole = e ∙ ap (option_map (λ (x : Ended). x.is_whole)) at in
    true≢false (sym w ∙ sym (same_Some b x.is_whole f) ∙ off)

pub unrecorded : (o : Option Ended) → ◌≡◌ {A = Option Bool} None (option_map (λ (x : Ended). x.is_whole) o) → o ≡ None
unrecorded None e = refl
unrecorded (Some x) e = let f : None ≡ Some x.is_whole = e in absurd cc

pub among_off : (i : Instance ℕ) (is : List (Instance ℕ)) (b : Bool) → MatchBool b (Among i is) (Among i is → ⊥) → b ≡ false → Among i is → ⊥
among_off i is true h off = absurd (true≢false off)
among_off i is false h off = h

pub among_on : (i : Instance ℕ) (is : List (Instance ℕ)) (b : Bool) → MatchBool b (Among i is) (Among i is → ⊥) → b ≡ true → Among i is
among_on i is true h on = h
among_on i is false h on = absurd (true≢false (sym on))

pub met_at : (look : Contents ℕ) (forms : Forms ℕ) (i : Instance ℕ) (o : Option Fault) (f : Fault) → o ≡ Some f →
    IfSome o (λ (g : Fault). Meets (EndsSo look forms) [] (i ∷ []) (fault_view g.kind) g.at) → Meets (EndsSo look forms) [] (i ∷ []) (fault_view f.kind) f.at
met_at look forms i o f e h = subst (λ (z : Option Fault). IfSome z (λ (g : Fault). Meets (EndsSo look forms) [] (i ∷ []) (fault_view g.kind) g.at)) e h

-- an equation has ended
some_ended : (q : Question) (i : Instance ℕ) → Among i (keys_of q.ended.entries) → q.ended.entries ≡ [] → ⊥
some_ended q i key e = subst (λ es. Among i (keys_of es)) e key

tells_ended : (q : Question) (i : Instance ℕ) → Among i (keys_of q.ended.entries) → (r : Result Resolved AllocError) → IfOk r (TellsOfEnded q)
tells_ended q i key (Ok resolved.Known) = some_ended q i key
tells_ended q i key (Ok (resolved.Spoilt f)) = some_ended q i key
tells_ended q i key (Ok resolved.Back) = tt
tells_ended q i key (Ok resolved.Open) = tt
tells_ended q i key (Err e) = tt

-- where nothing changes
module _ (rules : Rules) (s : Shown) (entries : Entries) (m : Memories) (w : ℕ) (q : Question) (can : CanResolve rules s entries q)
    (small : w < 2 ^ 64) where
  pub tells_nothing : {Whole : Type 0} → (these : List (Instance ℕ)) → Tells rules s entries entries m m w w q q these Whole
  tells_nothing these = record {
    chain = record { waiting = refl; inst = refl };
    level = refl;
    ended = refl;
    endings = λ i x at. (x, at, refl);
    passed = refl;
    turns = refl;
    stays = λ i h. refl;
    finds = ([], sym (append-nil q.found.entries));
    told = λ i h. inl h;
    kept = λ i h. inl h;
    entries = λ i h. inl h;
    values = can.facts.values;
    facts = λ f. f;
    whole = λ f. f;
    took = can.finds.took;
    right = λ finds there r. r;
    plain = can.answerable.plain;
    lean = λ l. l;
    settled = λ l. l;
    only = λ l all. all;
    spare = λ whole l lean settled. l;
    counts = counts_none entries w small;
    traces = puts_same m;
  }

  on_ok : {A : Type 0} (r : Result A AllocError) → OnOk r (CanResolve rules s entries q)
  on_ok (Ok a) = can
  on_ok (Err e) = tt

  pub nothing_resolved : (i : Instance ℕ) (r : Result Resolved AllocError) → IfOk r (IsResolved rules (contents s) entries entries q q i) →
      IfOk r (TellsOfEnded q) → HasResolved {E = AllocError} rules s entries entries m m w w q q i r
  nothing_resolved i r is ended = record {
    tells = tells_nothing (under (all_levels q));
    can = on_ok r;
    is = is;
    ended = ended;
    since = λ j k. inl k;
    idle = λ none. (refl, refl, refl, refl);
  }

  pub nothing_looked : (i : Instance ℕ) (r : Result Look AllocError) → IfOk r (IsLookedAt rules (contents s) entries entries q q i) →
      HasLookedAt {E = AllocError} rules s entries entries m m w w q q i r
  nothing_looked i r is = record { tells = tells_nothing (under (all_levels q)); can = on_ok r; is = is; since = λ j k. inl k }

  -- one that is marked whole has the fault that is met
  pub marked_resolved : (i : Instance ℕ) → IsMarked q.ended.entries i → (r : Result Resolved AllocError) →
      ((look : Contents ℕ) (forms : Forms ℕ) → AreFacts look forms q.ended.entries → AreWhole look forms (known_to entries q) → IfOk r (IsMetFault look forms i)) →
      HasResolved {E = AllocError} rules s entries entries m m w w q q i r
  marked_resolved i marked r met = nothing_resolved i r
      (IfOk-weaker r _ _ (spoilt_resolved rules (contents s) entries entries q q i (can.whole.marked i marked) (marked_key q.ended.entries i marked))
      (met (contents s) (meaning rules) can.facts.ends can.facts.wholes))
      (tells_ended q i (marked_key q.ended.entries i marked) r)

-- where all to which formulas lead was solved
module _ (rules : Rules) (s : Shown) (before : Entries) (old : Question) (set : List (Instance ℕ)) (i : Instance ℕ) (can : CanResolve rules s before old)
    (c : IsClosure (known_to before old) old.ended.entries i set) where
  pub closure_solvable : CanBeSolved rules s before old set
  closure_solvable = record {
    answerable = can.answerable;
    facts = can.facts;
    finds = can.finds.whole;
    took = can.finds.took;
    alike = start_first rules set (λ j k a b. start_led rules (contents s) old.ended.entries can.facts.ends i j (c.led j a)
        ∙ sym (start_led rules (contents s) old.ended.entries can.facts.ends i k (c.led k b)));
    recorded = λ j a. let x = c.closed j a in recorded_key old.ended.entries j x.end x.ends;
  }

  -- they were seen by levels under way
  set_seen : (j : Instance ℕ) → Among j set → Among j (under (all_levels old))
  set_seen j a = let x = c.closed j a in elim (can.whole.placed j (recorded_key old.ended.entries j x.end x.ends)) [
    | inl k ↦ absurd (c.unsettled j a (inl k))
    | inr d ↦ elim d [ inl m ↦ absurd (c.unsettled j a (inr m)) | inr u ↦ u ]
  ]

  module _ (after : Entries) (former latter : Memories) (earlier later : ℕ) (new : Question) where
    placed_now : (r : Result Unit AllocError) → HasMarkedSolved {E = AllocError} rules s before after former latter earlier later old new set r →
        OnOk r (AreWholeOrSeen rules (contents s) after new)
    placed_now r h = solved_placed rules s before after former latter earlier later old old new set refl refl can.facts r c.closed
        (λ j u. inl (subst (λ ls. Among j (under ls)) (sym (same_levels old new h.tells.chain.waiting h.tells.chain.inst h.tells.level)) u)) can.whole h

    still : {Whole : Type 0} → Tells rules s before after former latter earlier later old new set Whole → (j : Instance ℕ) → IsSome (known_to before old j) →
        IsSome (known_to after new j)
    still t = let (more, grown) = t.finds in still_known before after old new t.stays more grown

    -- and it is marked, where it isn't known
    marked_then : (u : Unit) → HasMarkedSolved {E = AllocError} rules s before after former latter earlier later old new set (Ok u) → known_to after new i ≡ None →
        IsMarked new.ended.entries i
    marked_then u h none = elim c.first [
      | inl a ↦ let x = c.closed i a in
          solved_marked rules s before after former latter earlier later old old new set refl refl can.facts (Ok u) h i a
          (recorded_key old.ended.entries i x.end x.ends)
      | inr d ↦ elim d [
        | inl k ↦ absurd (not_none (known_to after new i) (still h.tells i k) none)
        | inr m ↦ stays_marked u h m
      ]
    ]
      where
        stays_marked : (u : Unit) → HasMarkedSolved {E = AllocError} rules s before after former latter earlier later old new set (Ok u) → IsMarked old.ended.entries i →
            IsMarked new.ended.entries i
        stays_marked u h m =
            let (mid, same, marks) = h.marked in
            marked_on set old.ended.entries new.ended.entries (subst (λ es. AllMarked set es new.ended.entries) same (all_marked set mid new marks)) i m

    told_where : {V W : Type 0} → (W → V) → Tells rules s before after former latter earlier later old new (under (all_levels old)) V →
        Tells rules s before after former latter earlier later old new (under (all_levels old)) W
    told_where on t = tells_where rules s before after former latter earlier later on old new (under (all_levels old)) t

    -- what is known since had ended
    since_ended : {Whole : Type 0} → Tells rules s before after former latter earlier later old new set Whole → (j : Instance ℕ) → IsSome (known_to after new j) →
        IsSome (known_to before old j) ⊎ Among j (keys_of old.ended.entries)
    since_ended t j k = elim (t.told j k) [
      | inl b ↦ inl b
      | inr a ↦ (let x = c.closed j a in inr (recorded_key old.ended.entries j x.end x.ends))
    ]

    pub solved_resolved : Among i (keys_of old.ended.entries) → (u : Unit) →
        HasMarkedSolved {E = AllocError} rules s before after former latter earlier later old new set (Ok u) → (r : Result Resolved AllocError) →
        IfOk r (IsResolved rules (contents s) before after old new i) → HasResolved {E = AllocError} rules s before after former latter earlier later old new i r
    solved_resolved key u h r is = record {
      tells = told_where (λ whole. tt) (tells_more rules s before after former latter earlier later old new set (under (all_levels old)) set_seen h.tells);
      can = by r;
      is = is;
      ended = tells_ended old i key r;
      since = since_ended h.tells;
      idle = λ none. absurd (some_ended old i key none);
    }
      where
        by : (r : Result Resolved AllocError) → OnOk r (CanResolve rules s after new)
        by (Ok a) = can_still rules s before after former latter earlier later old new set can.answerable can.facts can.finds h.tells (placed_now (Ok u) h)
        by (Err e) = tt

    pub failed_resolved : Among i (keys_of old.ended.entries) → (r : Result Unit AllocError) → HasMarkedSolved {E = AllocError} rules s before after former latter earlier later old new set r →
        (q : Result Resolved AllocError) (e : AllocError) → q ≡ Err e →
        HasResolved {E = AllocError} rules s before after former latter earlier later old new i q
    failed_resolved key r h (Ok a) e is = absurd cc
    failed_resolved key r h (Err d) e is = record {
      tells = told_where (keeps_groups rules r)
          (tells_more rules s before after former latter earlier later old new set (under (all_levels old)) set_seen h.tells);
      can = tt;
      is = tt;
      ended = tt;
      since = since_ended h.tells;
      idle = λ none. absurd (some_ended old i key none);
    }

    pub spoilt_then : Among i (keys_of old.ended.entries) → (u : Unit) → HasMarkedSolved {E = AllocError} rules s before after former latter earlier later old new set (Ok u) → known_to after new i ≡ None →
        (r : Result Resolved AllocError) → ((look : Contents ℕ) (forms : Forms ℕ) → AreFacts look forms new.ended.entries → AreWhole look forms (known_to after new) →
        IfOk r (IsMetFault look forms i)) → HasResolved {E = AllocError} rules s before after former latter earlier later old new i r
    spoilt_then key u h none r met =
        let marked = marked_then u h none in
        let w : AreWholeOrSeen rules (contents s) after new = placed_now (Ok u) h in
        let facts = h.tells.facts can.facts in
        solved_resolved key u h r (IfOk-weaker r _ _ (spoilt_resolved rules (contents s) before after old new i (w.marked i marked) (marked_key new.ended.entries i marked))
        (met (contents s) (meaning rules) facts.ends facts.wholes))

-- what a search does with an instance of which that is known
module _ (rules : Rules) (s : Shown) (before after : Entries) (former latter : Memories) (earlier later : ℕ) (old new : Question)
    (i : Instance ℕ) (unseen : Among i (seen_in old.level) → ⊥) (unknown : known_to before old i ≡ None) where
  looked : (a : Resolved) → AreRightValues (contents s) (meaning rules) (known_to after new) → IsResolved rules (contents s) before after old new i a →
      IsLookedAt rules (contents s) before after old new i (look_of a)
  looked resolved.Known right k = inr k
  looked (resolved.Spoilt f) right (h, k) = (unseen, k, by (known_to after new i) refl, (f, h))
    where
      by : (o : Option (Value ℕ)) → known_to after new i ≡ o → o ≡ None
      by None e = refl
      by (Some v) e =
          let same : Finds v ≡ Faults (fault_view f.kind) f.at = once (contents s) (meaning rules) i (Finds v) (Faults (fault_view f.kind) f.at) (right i v e) h in absurd cc
  looked resolved.Back right (b, e) = (unseen, e ∙ unknown, b)
  looked resolved.Open right (t, n, e) = (unseen, t, n, e ∙ unknown)

  pub looked_ok : (a : Resolved) → HasResolved {E = AllocError} rules s before after former latter earlier later old new i (Ok a) → (l : Look) → l ≡ look_of a →
      HasLookedAt {E = AllocError} rules s before after former latter earlier later old new i (Ok l)
  looked_ok a h l e = record {
    tells = h.tells;
    can = h.can;
    is = subst (λ z. IsLookedAt rules (contents s) before after old new i z) (sym e) (looked a h.tells.values h.is);
    since = h.since;
  }

-- the last level of a question
module _ (rules : Rules) (s : Shown) (before : Entries) (old mid : Question) (set : List (Instance ℕ)) (is : set ≡ reverse (seen_in old.level))
    (lost : HasLostSeen old mid) (can : CanSolveLevel rules s before old) where
  finds_now : AreSoundFinds rules s before mid
  finds_now = record {
    whole = subst (λ fs. AreWholeFinds rules (contents s) fs) (sym lost.finds.found) can.finds.whole;
    took = subst (λ fs. FoundKept before fs) (sym lost.finds.found) can.finds.took;
  }

  facts_now : AreFactsOf rules (contents s) before mid
  facts_now = facts_same rules (contents s) before old mid lost.finds.ended lost.finds.found can.facts

  of_set : (i : Instance ℕ) → Among i set → Among i (seen_in old.level)
  of_set i a = reverse_among (seen_in old.level) i (subst (λ ks. Among i ks) is a)

  to_set : (i : Instance ℕ) → Among i (seen_in old.level) → Among i set
  to_set i a = subst (λ ks. Among i ks) (sym is) (among_reverse (seen_in old.level) i a)

  pub level_solvable : CanBeSolved rules s before mid set
  level_solvable = record {
    answerable = can.answerable;
    facts = facts_now;
    finds = finds_now.whole;
    took = finds_now.took;
    alike = start_first rules set (λ i j a b. can.last.alike i j (of_set i a) (of_set j b));
    recorded = λ i a. subst (λ es. Among i (keys_of es)) (sym lost.finds.ended) (can.last.recorded i (of_set i a));
  }

  closed_now : IsLevelOver rules (contents s) before old → AreClosedIn (known_to before old) old.ended.entries set
  closed_now over i a = let (e, r, g) = over.covered.ends i (of_set i a) in record { end = e; ends = r; good = tt; next = next e r }
    where
      next : (e : End ℕ (Formula ℕ)) → Recorded old.ended.entries i e → (k : Instance ℕ) → Among k (asked_in e) →
          Among k set ⊎ IsSettled (known_to before old) old.ended.entries k
      next (Spoilt kind at) r k b = absurd b
      next (Made f) r k b = elim (over.covered.order.covered i k f (of_set i a) r b) [
        | inl h ↦ inr (inl h)
        | inr d ↦ elim d [ inl h ↦ inl (to_set k h) | inr h ↦ absurd (subst (λ ts. Among k ts) over.done h) ]
      ]

  module _ (after : Entries) (former latter : Memories) (earlier later : ℕ) (new : Question) where
    still_seen : {Whole : Type 0} → Tells rules s before after former latter earlier later mid new set Whole → (i : Instance ℕ) → Among i (under (all_levels old)) →
        Among i (under (all_levels new)) ⊎ Among i set
    still_seen t i (inl e) = inl (inl (e ∙ sym (t.chain.inst ∙ lost.chain.inst)))
    still_seen t i (inr h) = elim (either_among i (seen_in old.level) (under (levels_of old.waiting.entries)) h) [
      | inl a ↦ inr (to_set i a)
      | inr b ↦ inl (inr (back_among i (seen_in new.level) (under (levels_of new.waiting.entries))
          (subst (λ ws. Among i (under (levels_of ws))) (sym (t.chain.waiting ∙ lost.chain.waiting)) b)))
    ]

    pub level_solved : (r : Result Unit AllocError) → HasMarkedSolved {E = AllocError} rules s before after former latter earlier later mid new set r →
        HasSolvedLevel {E = AllocError} rules s before after former latter earlier later old new r
    level_solved r h = record {
      mid = mid;
      lost = lost;
      tells = tells_more rules s before after former latter earlier later mid new set (seen_in old.level) of_set h.tells;
      marked = marked r (solved_marked rules s before after former latter earlier later old mid new set lost.finds.ended lost.finds.found can.facts r h);
      can = by r h;
      told = told r h.each;
    }
      where
        told : (r : Result Unit AllocError) → OnOk r (AreKnownOrStopped before after mid new set) → OnOk r
            ((n : Instance ℕ) →
            IsStuckAt (contents s) (meaning rules) (known_to before old) old.ended.entries
            (root_in old.level old.inst) old.level n →
            (i : Instance ℕ) (v : Value ℕ) → Among i (seen_in old.level) → HasValue (contents s) (meaning rules) i v →
            IsSome (known_to after new i))
        told (Err e) each = tt
        told (Ok u) each = λ n at i v a has. elim (each i (to_set i a)) [
          | inl k ↦ k
          | inr x ↦ absurd (not_stopped (contents s) (meaning rules)
              (known_to before old) old.ended.entries can.facts.ends
              (root_in old.level old.inst) old.level n at set of_set to_set i v has
              (subst (λ fs. IsStopped (known_in before fs) old.ended.entries set i) lost.finds.found
              (subst (λ es. IsStopped (known_to before mid) es set i) lost.finds.ended x)))
        ]

        marked : (r : Result Unit AllocError) → OnOk r ((i : Instance ℕ) → Among i set → Among i (keys_of old.ended.entries) → IsMarked new.ended.entries i) →
            OnOk r ((i : Instance ℕ) → Among i (seen_in old.level) → IsMarked new.ended.entries i)
        marked (Ok u) all = λ i a. all i (to_set i a) (can.last.recorded i a)
        marked (Err e) all = tt

        by : (r : Result Unit AllocError) → HasMarkedSolved {E = AllocError} rules s before after former latter earlier later mid new set r →
            OnOk r (IsLevelOver rules (contents s) before old → CanResolve rules s after new)
        by (Err e) h = tt
        by (Ok u) h = λ over. can_still rules s before after former latter earlier later mid new set can.answerable facts_now finds_now h.tells
            (solved_placed rules s before after former latter earlier later old mid new set lost.finds.ended lost.finds.found can.facts (Ok u)
            (closed_now over) (still_seen h.tells) over.whole h)

-- none waits for the last level: its root's value is the answer
pub rise_none : (old new : Question) (o : Option (Instance ℕ)) (b : Bool) → HasRisen old new o → b ≡ is_some o → b ≡ false → IsUnchanged old new
rise_none old new None b h is off = let (none, same) = h in same
rise_none old new (Some i) b h is off = absurd (true≢false (sym is ∙ off))

-- what was found stays
pub risen_found : (old new : Question) (o : Option (Instance ℕ)) → HasRisen old new o → new.found.entries ≡ old.found.entries
risen_found old new None h = let (none, same) = h in same.finds.found
risen_found old new (Some i) h = h.finds.found

pub none_waits : (old new : Question) (o : Option (Instance ℕ)) (b : Bool) → HasRisen old new o → b ≡ is_some o → b ≡ false → old.waiting.entries ≡ []
none_waits old new None b h is off = let (none, same) = h in none
none_waits old new (Some i) b h is off = absurd (true≢false (sym is ∙ off))

pub risen_value : (entries : Entries) (old new : Question) (i : Instance ℕ) (o : Option ValueCode) (v : ValueCode) → IsUnchanged old new →
    i ≡ root_in old.level old.inst → option_map value_view o ≡ known_to entries new i → o ≡ Some v →
    known_to entries old (root_in old.level old.inst) ≡ Some (value_view v)
risen_value entries old new i o v same is known at =
    let here : known_in entries new.found.entries i ≡ Some (value_view v) = sym known ∙ ap (λ (x : Option ValueCode). option_map value_view x) at in
    subst (λ fs. known_in entries fs (root_in old.level old.inst) ≡ Some (value_view v)) same.finds.found
    (subst (λ j. known_in entries new.found.entries j ≡ Some (value_view v)) is here)
