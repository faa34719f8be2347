-- What becomes of what is kept and found, one step behind the other: nothing, or more.
use Rattle.std.proofs.Common.{◌≡◌, ◌⊎◌, ◌<◌, ◌^◌, ℕ, suc, Bool, true, false, true≢false, List, [], ◌∷◌, Option, Some, None, inl, inr, refl, sym, ap, ◌∙◌, subst, append-nil, if◌then◌else◌}
use Rattle.std.specs.Prelude.{IsSome}
use Rattle.std.specs.Map.{lookup}
use Rattle.std.specs.Option.{option_map}
use Rattle.at_model.specs.Run.{Value, Instance}
use Rattle.at_model.specs.Meaning.{Among}
use Rattle.at_model.specs.Rules.{Rules, is_lazy, start_of}
use Rattle.at_rules.specs.Circular.{AreCircularLazy}
use Rattle.at_store.specs.Shown.{Shown, contents}
use Rattle.at_body.specs.Same.{same_instance}
use Rattle.at_body.specs.Values.{value_view}
use Rattle.at_cache.specs.Kept.{Entries, value_at}
use Rattle.at_cache.specs.Traced.{Memories}
use Rattle.at_demand.specs.declared.evaluation.Find.{Find}
use Rattle.at_demand.specs.declared.question.Question.{Question}
use Rattle.at_demand.specs.Groups.{StaysAsIs, Tells}
use Rattle.at_evaluate.specs.Valued.{ArePlain, IsKept, kept_values, meaning}
use Rattle.at_demand.specs.Known.{FoundKept, IsFound, found_values, known_in, AreThere}
use Rattle.at_demand.specs.Levels.{known_to}
use Rattle.at_evaluate.specs.Meant.{AreRightValues}
use Rattle.at_demand.specs.Only.{AreLean}
use Rattle.at_evaluate.specs.Right.{AreRight, IsThere}
use Rattle.at_demand.specs.Worth.{AreSettled}
use Rattle.at_evaluate.specs.Sparing.{AreSpare}
use Rattle.at_evaluate.proofs.Counting.{counts_more, counts_none}
use Rattle.at_evaluate.proofs.Entered.{entered, entered_on, is_there, kept_on, there}
use Rattle.at_demand.proofs.Extending.{extends_on}
use Rattle.at_evaluate.proofs.Sameness.{same_true}
use Rattle.at_demand.proofs.Keys.{found_once}
use Rattle.at_demand.proofs.of_groups.KeptOrFound.{found_known}
use Rattle.at_demand.proofs.of_traces.TurnsPut.{puts_same, puts_then}

-- what is looked up was found
found_at : (fs : List (Instance ℕ × Find)) (i : Instance ℕ) (f : Find) → lookup (same_instance i) fs ≡ Some f →
    IsFound fs i
found_at [] i f e = absurd cc
found_at (x ∷ fs) i f e = by (same_instance i x.0) refl e (found_at fs i f)
  where
    by : (b : Bool) → same_instance i x.0 ≡ b → (if b then Some x.1 else lookup (same_instance i) fs) ≡ Some f →
        (lookup (same_instance i) fs ≡ Some f → IsFound fs i) → IsFound (x ∷ fs) i
    by true s e more = (0, x.1, ap (λ (j : Instance ℕ). Some (j, x.1)) (sym (same_true i x.0 s)))
    by false s e more = let (p, g, at) = more e in (suc p, g, at)

module _ (entries : Entries) (found : List (Instance ℕ × Find)) (i : Instance ℕ) where
  -- what is known is kept, or was found
  pub known_cases : IsSome (known_in entries found i) → IsKept entries i ⊎ IsFound found i
  known_cases some = by (kept_values entries i) refl some
    where
      found_one : (x : Option Find) → lookup (same_instance i) found ≡ x →
          IsSome (option_map (λ (f : Find). value_view f.value) x) → IsFound found i
      found_one None e s = absurd (true≢false (sym s))
      found_one (Some f) e s = found_at found i f e

      by : (o : Option (Value ℕ)) → kept_values entries i ≡ o →
          IsSome (elim o [ Some w ↦ Some w | None ↦ found_values found i ]) → IsKept entries i ⊎ IsFound found i
      by None is s = inr (found_one (lookup (same_instance i) found) refl s)
      by (Some w) is s = inl (is_there (kept_values entries i) w is)

  pub known_found : IsFound found i → IsSome (known_in entries found i)
  known_found h = let (f, at) = found_once found i h in found_known entries found i f at

-- circular instances are lazy, and start from some value
pub circular_lazy : (rules : Rules) → AreCircularLazy rules → (i : Instance ℕ) → IsSome (start_of rules i.attribute) →
    is_lazy rules i.attribute ≡ true
circular_lazy rules well i some = let (b, e) = there (start_of rules i.attribute) some in well i.attribute b e

module _ (rules : Rules) (s : Shown) where
  -- nothing has changed
  pub tells_none : (entries : Entries) (m : Memories) (w : ℕ) (q : Question) (these : List (Instance ℕ))
      (Whole : Type 0) → w < 2 ^ 64 →
      AreRightValues (contents s) (meaning rules) (known_to entries q) → FoundKept entries q.found.entries →
      ArePlain rules entries →
      Tells rules s entries entries m m w w q q these Whole
  tells_none entries m w q these Whole few values took plain = record {
    chain = record { waiting = refl; inst = refl };
    level = refl;
    ended = refl;
    endings = λ i x e. (x, e, refl);
    passed = refl;
    turns = refl;
    stays = λ i some. refl;
    finds = ([], sym (append-nil q.found.entries));
    told = λ i some. inl some;
    kept = λ i some. inl some;
    entries = λ i some. inl some;
    values = values;
    facts = λ h. h;
    whole = λ h. h;
    took = took;
    right = λ there' all a. a;
    plain = plain;
    lean = λ h. h;
    settled = λ h. h;
    only = λ l h. h;
    spare = λ whole a l h. a;
    counts = counts_none entries w few;
    traces = puts_same m;
  }

  -- where all stays as it is
  pub tells_same : (before after : Entries) (former latter : Memories) (earlier later : ℕ) (old new : Question)
      (these : List (Instance ℕ)) (Whole : Type 0) →
      StaysAsIs before after former latter earlier later old new → earlier < 2 ^ 64 →
      AreRightValues (contents s) (meaning rules) (known_to before old) →
      FoundKept before old.found.entries → ArePlain rules before → Tells rules s before after former latter
      earlier later old new these Whole
  tells_same before after former latter earlier later old new these Whole same few values took plain =
      subst (λ (e : Entries). Tells rules s before e former latter earlier later old new these Whole)
      (sym same.entries)
      (subst (λ (m : Memories). Tells rules s before before former m earlier later old new these Whole)
      (sym same.memories)
      (subst (λ (w : ℕ). Tells rules s before before former former earlier w old new these Whole) (sym same.work)
      (subst (λ (q : Question). Tells rules s before before former former earlier earlier old q these Whole)
      (sym same.question)
      (tells_none before former earlier old these Whole few values took plain))))

  -- the same of more, and where spare for another reason
  module _ (before after : Entries) (former latter : Memories) (earlier later : ℕ) (old new : Question)
      (these those : List (Instance ℕ))
      (wider : (i : Instance ℕ) → Among i these → Among i those) (First : Type 0)
      (t : Tells rules s before after former latter earlier later old new these First) where
    pub tells_so : (Whole : Type 0) → (Whole → AreSpare rules (contents s) before →
        AreLean rules (contents s) old.found.entries →
        AreSettled rules before old.found.entries → AreSpare rules (contents s) after) →
        Tells rules s before after former latter earlier later old new those Whole
    tells_so Whole spare = record {
      chain = t.chain;
      level = t.level;
      ended = t.ended;
      endings = t.endings;
      passed = t.passed;
      turns = t.turns;
      stays = t.stays;
      finds = t.finds;
      told = λ i some. elim (t.told i some) [ inl a ↦ inl a | inr a ↦ inr (wider i a) ];
      kept = λ i some. elim (t.kept i some) [ inl a ↦ inl a | inr (a, lazy) ↦ inr (wider i a, lazy) ];
      entries = t.entries;
      values = t.values;
      facts = t.facts;
      whole = t.whole;
      took = t.took;
      right = λ there' all. t.right there' (λ i a. all i (wider i a));
      plain = t.plain;
      lean = t.lean;
      settled = t.settled;
      only = t.only;
      spare = spare;
      counts = t.counts;
      traces = t.traces;
    }

  -- one step, and another one
  module _ (before between after : Entries) (former among' latter : Memories) (earlier meanwhile later : ℕ)
      (old mid new : Question)
      (these : List (Instance ℕ)) (lazy : (i : Instance ℕ) → Among i these → is_lazy rules i.attribute ≡ true)
      (First Second : Type 0) (p : Tells rules s before between former among' earlier meanwhile old mid these
      First)
      (q : Tells rules s between after among' latter meanwhile later mid new these Second) where
    -- what was found meanwhile was known before, or is one of these
    found_then : (i : Instance ℕ) → IsFound mid.found.entries i → (IsKept before i ⊎ IsFound old.found.entries i) ⊎
        Among i these
    found_then i h = elim (p.told i (known_found between mid.found.entries i h)) [
      | inl known ↦ inl (known_cases before old.found.entries i known)
      | inr a ↦ inr a
    ]

    entries_then : (i : Instance ℕ) → IsSome (after i) → IsSome (before i) ⊎
        (IsKept after i ⊎ IsFound old.found.entries i)
    entries_then i some = elim (q.entries i some) [
      | inl m ↦ elim (p.entries i m) [
        | inl a ↦ inl a
        | inr u ↦
            elim u [ inl k ↦ inr (inl (kept_on between after q.stays i k)) | inr f ↦ inr (inr f) ]
      ]
      | inr u ↦ elim u [
        | inl k ↦ inr (inl k)
        | inr f ↦ elim (found_then i f) [
          | inl w ↦ elim w [ inl k ↦ inl (entered before i k) | inr g ↦ inr (inr g) ]
          | inr a ↦ inr (inl (by a (kept_values after i) refl))
        ]
      ]
    ]
      where
        -- one of these is lazy, so its entry has a value
        by : Among i these → (o : Option (Value ℕ)) → kept_values after i ≡ o → IsKept after i
        by a (Some v) e = is_there (kept_values after i) v e
        by a None e =
            let (k, at) = there (after i) some in
            let none : k.value ≡ None = sym (ap value_at at) ∙ e in
            absurd (true≢false (sym (lazy i a) ∙ q.plain i k at none))

    right_then : AreThere rules s old.found.entries → ((i : Instance ℕ) → Among i these → IsThere s i) →
        AreRight rules s before → AreRight rules s after
    right_then found all a = q.right found_between all (p.right found all a)
      where
        stands : (i : Instance ℕ) → IsFound mid.found.entries i → IsThere s i
        stands i h = elim (found_then i h) [
          | inl w ↦ elim w [
            | inl k ↦ (let (e, at) = there (before i) (entered before i k) in a.there i e at)
            | inr g ↦ (found i g).0
          ]
          | inr b ↦ all i b
        ]

        found_between : AreThere rules s mid.found.entries
        found_between i h =
            let (v, e) = there (known_to between mid i) (known_found between mid.found.entries i h) in
            (stands i h, (v, p.values i v e))

    pub tells_then : (Whole : Type 0) → (Whole → First × Second) → Tells rules s before after former latter
        earlier later old new these Whole
    tells_then Whole both = record {
      chain = record { waiting = q.chain.waiting ∙ p.chain.waiting; inst = q.chain.inst ∙ p.chain.inst };
      level = q.level ∙ p.level;
      ended = q.ended ∙ p.ended;
      endings = λ i x e. let (y, f, g) = p.endings i x e in let (z, h, k) = q.endings i y f in (z, h, k ∙ g);
      passed = q.passed ∙ p.passed;
      turns = q.turns ∙ p.turns;
      stays = λ i some. q.stays i (entered_on before between p.stays i some) ∙ p.stays i some;
      finds = extends_on old.found.entries mid.found.entries new.found.entries p.finds q.finds;
      told = λ i some. elim (q.told i some) [ inl m ↦ p.told i m | inr a ↦ inr a ];
      kept = λ i some. elim (q.kept i some) [ inl m ↦ p.kept i m | inr a ↦ inr a ];
      entries = entries_then;
      values = q.values;
      facts = λ h. q.facts (p.facts h);
      whole = λ h. q.whole (p.whole h);
      took = q.took;
      right = right_then;
      plain = q.plain;
      lean = λ h. q.lean (p.lean h);
      settled = λ h. q.settled (p.settled h);
      only = λ l h. q.only (p.lean l) (p.only l h);
      spare = λ whole a l h. let w = both whole in q.spare w.1 (p.spare w.0 a l h) (p.lean l) (p.settled h);
      counts = counts_more before between after earlier meanwhile later p.counts q.counts;
      traces = puts_then former among' latter p.traces q.traces;
    }
