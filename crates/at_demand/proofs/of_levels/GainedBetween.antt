-- What comes to be kept between two tries, and then more.
use Rattle.std.proofs.Common.{◌≡◌, ◌⊎◌, ℕ, ◌<◌, ◌^◌, true, List, [], Option, Some, None, inl, inr, refl, sym, ◌∙◌, subst, append-nil}
use Rattle.std.specs.Prelude.{IsSome}
use Rattle.std.specs.Map.{keys_of, lookup}
use Rattle.at_model.specs.Meaning.{Among, Finds}
use Rattle.at_model.specs.Rules.{Rules, is_lazy}
use Rattle.at_model.specs.Run.{Value, Instance}
use Rattle.at_model.specs.of_fixpoints.Resting.{Leads}
use Rattle.at_model.specs.of_fixpoints.Searching.{Looked, under}
use Rattle.at_store.specs.Shown.{IsIdle, Shown, contents}
use Rattle.at_body.specs.Same.{same_instance}
use Rattle.at_body.specs.Values.{value_view}
use Rattle.at_cache.specs.Kept.{Entries}
use Rattle.at_cache.specs.Traced.{Memories}
use Rattle.at_demand.specs.declared.evaluation.Find.{Find}
use Rattle.at_demand.specs.declared.question.Question.{Question}
use Rattle.at_demand.specs.Answerable.{IsAnswerable}
use Rattle.at_demand.specs.Covering.{AreWhole}
use Rattle.at_demand.specs.Groups.{Tells}
use Rattle.at_demand.specs.Known.{FoundKept, IsFound, known_in, AreThere}
use Rattle.at_evaluate.specs.Valued.{IsKept, kept_values, meaning}
use Rattle.at_demand.specs.Levels.{all_levels, asked_by, known_to}
use Rattle.at_evaluate.specs.Meant.{AreRightValues}
use Rattle.at_demand.specs.Only.{AreLean}
use Rattle.at_evaluate.specs.Right.{AreRight, IsThere}
use Rattle.at_demand.specs.Searches.{GainsBetween, StandsBetween, WasSeenBy}
use Rattle.at_demand.specs.Worth.{AreSettled}
use Rattle.at_evaluate.specs.Sparing.{IsWorthy}
use Rattle.at_evaluate.proofs.Counting.{counts_more, counts_none}
use Rattle.at_evaluate.proofs.Entered.{entered, entered_on, is_there, kept_on, not_none, there, value_on}
use Rattle.at_demand.proofs.Extending.{extends_on, get_more}
use Rattle.at_demand.proofs.Recalling.{known_found, known_kept}
use Rattle.at_demand.proofs.Keys.{found_once}
use Rattle.at_evaluate.proofs.There.{led_there}
use Rattle.at_demand.proofs.of_traces.TurnsPut.{puts_same, puts_then}

-- what is told is of instances that levels under way have seen, and to which what was asked leads
module _ {Whole : Type 0} (rules : Rules) (s : Shown) (before after : Entries) (former latter : Memories) (earlier later : ℕ) (old new : Question)
    (these : List (Instance ℕ)) (t : Tells rules s before after former latter earlier later old new these Whole) (idle : IsIdle s)
    (values : AreRightValues (contents s) (meaning rules) (known_to before old))
    (held : (i : Instance ℕ) → IsSome (known_to before old i) → IsKept before i ⊎ Leads (contents s) (meaning rules) (asked_by old) i)
    (inside : (i : Instance ℕ) → Among i these → Among i (under (all_levels old)))
    (led : (i : Instance ℕ) → Among i these → Leads (contents s) (meaning rules) (asked_by old) i) where
  value_kept : AreRightValues (contents s) (meaning rules) (kept_values after)
  value_kept i v e = t.values i v (known_kept after new.found.entries i v v (sym e) refl)

  found_known : (i : Instance ℕ) → IsFound old.found.entries i → (v : Value ℕ) × (known_to before old i ≡ Some v)
  found_known i f = let (g, at) = found_once old.found.entries i f in by g at (kept_values before i) refl
    where
      by : (g : Find) → lookup (same_instance i) old.found.entries ≡ Some g → (o : Option (Value ℕ)) → kept_values before i ≡ o →
          (v : Value ℕ) × (known_to before old i ≡ Some v)
      by g at None e = (value_view g.value, known_found before old.found.entries i (value_view g.value) g (sym e) (sym at) refl)
      by g at (Some v) e = (v, known_kept before old.found.entries i v v (sym e) refl)

  found_there : IsThere s (asked_by old) → AreRight rules s before → AreThere rules s old.found.entries
  found_there asked r i f =
      let (v, e) = found_known i f in
      (place (held i (is_there (known_to before old i) v e)), (v, values i v e))
    where
      place : IsKept before i ⊎ Leads (contents s) (meaning rules) (asked_by old) i → IsThere s i
      place (inl k) = let (x, at) = there (before i) (entered before i k) in r.there i x at
      place (inr l) = led_there rules s idle (asked_by old) i asked l

  last_kept : (i : Instance ℕ) → (kept_values after i ≡ kept_values before i)
      ⊎ (WasSeenBy old i × IsKept after i × (is_lazy rules i.attribute ≡ true))
  last_kept i = by (kept_values before i) refl (kept_values after i) refl
    where
      by : (o : Option (Value ℕ)) → kept_values before i ≡ o → (p : Option (Value ℕ)) → kept_values after i ≡ p →
          (kept_values after i ≡ kept_values before i) ⊎ (WasSeenBy old i × IsKept after i × (is_lazy rules i.attribute ≡ true))
      by (Some v) e p f = inl (value_on before after t.stays i v e ∙ sym e)
      by None e None f = inl (f ∙ sym e)
      by None e (Some w) f = let k = is_there (kept_values after i) w f in elim (t.kept i k) [
        | inl b ↦ absurd (not_none (kept_values before i) b e)
        | inr d ↦ inr (inl (inside i d.0), k, d.1)
      ]

  worth : (i : Instance ℕ) → kept_values before i ≡ None → IsKept after i → IsWorthy rules (contents s) (asked_by old) i
  worth i none some = elim (t.kept i some) [
    | inl b ↦ absurd (not_none (kept_values before i) b none)
    | inr d ↦
        let (v, e) = there (kept_values after i) some in
        record { reached = led i d.0; lazy = d.1; value = v; has = value_kept i v e }
  ]

  pub gains_told : (any : Question) → any.found.entries ≡ new.found.entries →
      GainsBetween rules s before after former latter earlier later old any Whole
  gains_told any same = record {
    stays = t.stays;
    finds = let (more, e) = t.finds in (more, same ∙ e);
    right = value_kept;
    there = λ asked r. t.right (found_there asked r) (λ i a. led_there rules s idle (asked_by old) i asked (led i a)) r;
    plain = t.plain;
    sound = λ f. record {
      whole = subst (λ fs. AreWhole rules (contents s) fs) (sym same) (t.whole f.whole);
      took = subst (λ fs. FoundKept after fs) (sym same) t.took;
    };
    came = λ i k. elim (t.told i (subst (λ fs. IsSome (known_in after fs i)) same k)) [ inl b ↦ inl b | inr a ↦ inr (inl (inside i a)) ];
    last = last_kept;
    others = λ i k. elim (t.entries i k) [ inl b ↦ inl b | inr d ↦ inr (elim d [ inl a ↦ inl a | inr f ↦ inr (found_on i f) ]) ];
    worthy = record { stays = t.stays; worthy = worth };
    spare = t.spare;
    lean = λ w. subst (λ fs. AreLean rules (contents s) fs) (sym same) (t.lean w);
    settled = λ w. subst (λ fs. AreSettled rules after fs) (sym same) (t.settled w);
    counts = t.counts;
    traces = t.traces;
  }
    where
      found_on : (i : Instance ℕ) → IsFound old.found.entries i → IsFound any.found.entries i
      found_on i (p, g, at) =
          let (more, e) = t.finds in (p, g, get_more old.found.entries any.found.entries p (i, g) (more, same ∙ e) at)

-- of a search that stands what is known is kept, or was told
pub held_told : (rules : Rules) (s : Shown) (entries : Entries) (q : Question) (l : Looked ℕ) → StandsBetween rules s entries q l → (i : Instance ℕ) →
    IsSome (known_to entries q i) → IsKept entries i ⊎ Leads (contents s) (meaning rules) (asked_by q) i
held_told rules s entries q l st i some = by (there (known_to entries q i) some)
  where
    by : ((v : Value ℕ) × (known_to entries q i ≡ Some v)) → IsKept entries i ⊎ Leads (contents s) (meaning rules) (asked_by q) i
    by (v, e) = elim (st.is.known i v e) [ inl k ↦ inl (is_there (kept_values entries i) v k) | inr t ↦ inr (st.reached i (Finds v) t) ]

-- nothing comes
pub gains_nothing : {Whole : Type 0} → (rules : Rules) (s : Shown) (entries : Entries) (m : Memories) (w : ℕ) (old new : Question) →
    IsAnswerable rules s entries → w < 2 ^ 64 → new.found.entries ≡ old.found.entries →
    GainsBetween rules s entries entries m m w w old new Whole
gains_nothing rules s entries m w old new answerable small same = record {
  stays = λ i some. refl;
  finds = ([], same ∙ sym (append-nil old.found.entries));
  right = answerable.right;
  there = λ asked r. r;
  plain = answerable.plain;
  sound = λ f. record {
    whole = subst (λ fs. AreWhole rules (contents s) fs) (sym same) f.whole;
    took = subst (λ fs. FoundKept entries fs) (sym same) f.took;
  };
  came = λ i k. inl (subst (λ fs. IsSome (known_in entries fs i)) same k);
  last = λ i. inl refl;
  others = λ i some. inl some;
  worthy = record { stays = λ i some. refl; worthy = λ i none some. absurd (not_none (kept_values entries i) some none) };
  spare = λ whole spare lean settled. spare;
  lean = λ z. subst (λ fs. AreLean rules (contents s) fs) (sym same) z;
  settled = λ z. subst (λ fs. AreSettled rules entries fs) (sym same) z;
  counts = counts_none entries w small;
  traces = puts_same m;
}

-- and then more
module _ {Whole : Type 0} (rules : Rules) (s : Shown) (first mid last : Entries) (f m n : Memories) (w x y : ℕ) (p q r : Question)
    (g : GainsBetween rules s first mid f m w x p q (Unit {0})) (h : GainsBetween rules s mid last m n x y q r Whole) (same : asked_by q ≡ asked_by p)
    (levels : (i : Instance ℕ) → Among i (under (all_levels q)) → WasSeenBy p i)
    (ended : (i : Instance ℕ) → Among i (keys_of q.ended.entries) → WasSeenBy p i) where
  early : (i : Instance ℕ) → WasSeenBy q i → WasSeenBy p i
  early i (inl a) = levels i a
  early i (inr c) = ended i c

  found_on : (i : Instance ℕ) → IsFound q.found.entries i → IsFound r.found.entries i
  found_on i (p', k, at) = (p', k, get_more q.found.entries r.found.entries p' (i, k) h.finds at)

  worthy_then : (i : Instance ℕ) → kept_values first i ≡ None → IsKept last i → IsWorthy rules (contents s) (asked_by p) i
  worthy_then i none some = by (kept_values mid i) refl
    where
      by : (o : Option (Value ℕ)) → kept_values mid i ≡ o → IsWorthy rules (contents s) (asked_by p) i
      by None e = subst (λ z. IsWorthy rules (contents s) z i) same (h.worthy.worthy i e some)
      by (Some v) e = g.worthy.worthy i none (is_there (kept_values mid i) v e)

  pub gains_then : GainsBetween rules s first last f n w y p r Whole
  gains_then = record {
    stays = λ i some. h.stays i (entered_on first mid g.stays i some) ∙ g.stays i some;
    finds = extends_on p.found.entries q.found.entries r.found.entries g.finds h.finds;
    right = h.right;
    there = λ asked all. h.there (subst (λ z. IsThere s z) (sym same) asked) (g.there asked all);
    plain = h.plain;
    sound = λ f. h.sound (g.sound f);
    came = λ i k. elim (h.came i k) [ inl b ↦ g.came i b | inr z ↦ inr (early i z) ];
    last = λ i. elim (h.last i) [
      | inl e ↦ elim (g.last i) [ inl d ↦ inl (e ∙ d) | inr d ↦ inr (d.0, kept_on mid last h.stays i d.1, d.2) ]
      | inr d ↦ inr (early i d.0, d.1, d.2)
    ];
    others = λ i some. elim (h.others i some) [
      | inl b ↦ elim (g.others i b) [
        | inl a ↦ inl a
        | inr d ↦ inr (elim d [ inl k ↦ inl (kept_on mid last h.stays i k) | inr z ↦ inr (found_on i z) ])
      ]
      | inr d ↦ inr d
    ];
    worthy = record { stays = λ i some. h.stays i (entered_on first mid g.stays i some) ∙ g.stays i some; worthy = worthy_then };
    spare = λ whole spare lean settled. h.spare whole (g.spare tt spare lean settled) (g.lean lean) (g.settled settled);
    lean = λ z. h.lean (g.lean z);
    settled = λ z. h.settled (g.settled z);
    counts = counts_more first mid last w x y g.counts h.counts;
    traces = puts_then f m n g.traces h.traces;
  }

-- under another condition
pub gains_where : {V W : Type 0} (rules : Rules) (s : Shown) (before after : Entries) (former latter : Memories) (earlier later : ℕ)
    (old new : Question) → (W → V) → GainsBetween rules s before after former latter earlier later old new V →
    GainsBetween rules s before after former latter earlier later old new W
gains_where rules s before after former latter earlier later old new on g = record {
  stays = g.stays;
  finds = g.finds;
  right = g.right;
  there = g.there;
  plain = g.plain;
  sound = g.sound;
  came = g.came;
  last = g.last;
  others = g.others;
  worthy = g.worthy;
  spare = λ whole. g.spare (on whole);
  lean = g.lean;
  settled = g.settled;
  counts = g.counts;
  traces = g.traces;
}
