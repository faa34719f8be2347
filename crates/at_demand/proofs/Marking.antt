-- Instances whose equations have ended are marked whole.
use Rattle.std.proofs.Common.{◌≡◌, ◌⊎◌, ℕ, Bool, true, false, List, [], ◌∷◌, ◌++◌, Some, inl, inr, refl, sym, ap, ◌∙◌, cond, if◌then◌else◌, true≢false}
use Rattle.std.proofs.lemmas.Option.{same_Some}
use Rattle.std.specs.Map.{keys_of, lookup, set_value}
use Rattle.at_model.specs.Run.{Instance}
use Rattle.at_model.specs.Meaning.{Among}
use Rattle.at_model.proofs.Reached.{back_among, either_among, front_among}
use Rattle.at_body.specs.Same.{same_instance}
use Rattle.at_search.specs.declared.ended.Ended.{Ended}
use Rattle.at_demand.specs.declared.question.Question.{Question}
use Rattle.at_demand.specs.ChainSteps.{HasMarked, HasMarkedAll}
use Rattle.at_evaluate.proofs.Sameness.{apart, same_refl, same_true}

module _ {X : Type 0} where
  -- the value that is written is found
  pub lookup_set : (es : List (Instance ℕ × X)) (i : Instance ℕ) (x w : X) → lookup (same_instance i) es ≡ Some x → lookup (same_instance i) (set_value (same_instance i) es w) ≡ Some w
  lookup_set [] i x w e = absurd cc
  lookup_set (f ∷ es) i x w e = by (same_instance i f.0) refl e (lookup_set es i x w)
    where
      by : (b : Bool) → same_instance i f.0 ≡ b → (if b then Some f.1 else lookup (same_instance i) es) ≡ Some x →
          (lookup (same_instance i) es ≡ Some x → lookup (same_instance i) (set_value (same_instance i) es w) ≡ Some w) →
          lookup (same_instance i) (cond b ((f.0, w) ∷ es) (f ∷ set_value (same_instance i) es w)) ≡ Some w
      by true s h more = rw s refl
      by false s h more = rw s (more h)

  -- and of no other one
  pub lookup_apart : (es : List (Instance ℕ × X)) (i j : Instance ℕ) (w : X) → (j ≡ i → ⊥) → lookup (same_instance j) (set_value (same_instance i) es w) ≡ lookup (same_instance j) es
  lookup_apart [] i j w off = refl
  lookup_apart (f ∷ es) i j w off = by (same_instance i f.0) refl (lookup_apart es i j w off)
    where
      by : (b : Bool) → same_instance i f.0 ≡ b → lookup (same_instance j) (set_value (same_instance i) es w) ≡ lookup (same_instance j) es →
          lookup (same_instance j) (cond b ((f.0, w) ∷ es) (f ∷ set_value (same_instance i) es w)) ≡ lookup (same_instance j) (f ∷ es)
      by true s more = rw (apart j f.0 (λ h. off (h ∙ sym (same_true i f.0 s)))) refl
      by false s more = ap (λ z. if same_instance j f.0 then Some f.1 else z) more

-- one is marked
pub one_marked : (old new : Question) (i : Instance ℕ) (x : Ended) → Some x ≡ lookup (same_instance i) old.ended.entries → new.ended.entries ≡ set_value (same_instance i) old.ended.entries (record { ending = x.ending; is_whole = true }) →
    keys_of new.ended.entries ≡ keys_of old.ended.entries → new ≡ record old { ended = new.ended } → HasMarked i old new
one_marked old new i x at set keys same = record {
  chain = record { waiting = ap (λ (q : Question). q.waiting.entries) same; inst = ap (λ (q : Question). q.inst) same };
  level = ap (λ (q : Question). q.level) same;
  found = ap (λ (q : Question). q.found.entries) same;
  passed = ap (λ (q : Question). q.passed.entries) same;
  turns = ap (λ (q : Question). q.turns) same;
  keys = keys;
  marked = λ j y a e. elim a [
    | inl s ↦
        let f : Some x ≡ Some y = at ∙ ap (λ k. lookup (same_instance k) old.ended.entries) (sym s) ∙ e in
        let g : x ≡ y = same_Some x y f in
        ap (λ k. lookup (same_instance k) new.ended.entries) s ∙ ap (lookup (same_instance i)) set
        ∙ lookup_set old.ended.entries i x (record { ending = x.ending; is_whole = true }) (sym at)
        ∙ ap (λ (z : Ended). let m : Ended = record { ending = z.ending; is_whole = true } in Some m) g
    | inr z ↦ absurd z
  ];
  others = λ j off. ap (lookup (same_instance j)) set ∙ lookup_apart old.ended.entries i j (record { ending = x.ending; is_whole = true }) (λ s. off (inl s));
}

-- whether it is one of these can be told
pub told_among : (j : Instance ℕ) (ks : List (Instance ℕ)) → Among j ks ⊎ (Among j ks → ⊥)
told_among j [] = inr (λ h. h)
told_among j (k ∷ ks) = by (same_instance j k) refl (told_among j ks)
  where
    by : (b : Bool) → same_instance j k ≡ b → Among j ks ⊎ (Among j ks → ⊥) → Among j (k ∷ ks) ⊎ (Among j (k ∷ ks) → ⊥)
    by true s r = inl (inl (same_true j k s))
    by false s (inl a) = inl (inr a)
    by false s (inr n) = inr (λ h. elim h [ inl e ↦ differs e s | inr a ↦ n a ])
      where
        differs : j ≡ k → same_instance j k ≡ false → ⊥
        differs e s = true≢false (sym (same_refl k) ∙ ap (λ z. same_instance z k) (sym e) ∙ s)

-- none is marked
pub none_marked : (q : Question) → HasMarkedAll [] q q
none_marked q = record {
  chain = record { waiting = refl; inst = refl };
  level = refl;
  found = refl;
  passed = refl;
  turns = refl;
  keys = refl;
  marked = λ i x a e. absurd a;
  others = λ i off. refl;
}

-- one more is marked
pub more_marked : (these : List (Instance ℕ)) (i : Instance ℕ) (old mid new : Question) → HasMarkedAll these old mid → HasMarked i mid new → HasMarkedAll (these ++ i ∷ []) old new
more_marked these i old mid new f s = record {
  chain = record { waiting = s.chain.waiting ∙ f.chain.waiting; inst = s.chain.inst ∙ f.chain.inst };
  level = s.level ∙ f.level;
  found = s.found ∙ f.found;
  passed = s.passed ∙ f.passed;
  turns = s.turns ∙ f.turns;
  keys = s.keys ∙ f.keys;
  marked = λ j x a e. by j x a e (told_among j these) (told_among j (i ∷ []));
  others = λ j off. s.others j (λ h. off (back_among j these (i ∷ []) h)) ∙ f.others j (λ h. off (front_among j these (i ∷ []) h));
}
  where
    whole : Ended → Ended
    whole x = record { ending = x.ending; is_whole = true }

    by : (j : Instance ℕ) (x : Ended) → Among j (these ++ i ∷ []) → lookup (same_instance j) old.ended.entries ≡ Some x → Among j these ⊎ (Among j these → ⊥) → Among j (i ∷ []) ⊎ (Among j (i ∷ []) → ⊥) → lookup (same_instance j) new.ended.entries ≡ Some (whole x)
    by j x a e (inl m) (inl n) = s.marked j (whole x) n (f.marked j x m e)
    by j x a e (inl m) (inr n) = s.others j n ∙ f.marked j x m e
    by j x a e (inr m) (inl n) = s.marked j x n (f.others j m ∙ e)
    by j x a e (inr m) (inr n) = elim (either_among j these (i ∷ []) a) [ inl h ↦ absurd (m h) | inr h ↦ absurd (n h) ]
