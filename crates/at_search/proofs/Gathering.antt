-- A search for what formulas lead to, step by step.
use Rattle.std.proofs.Common.{◌≡◌, ◌⊎◌, ℕ, List, [], ◌∷◌, ◌++◌, reverse, Bool, true, false, Option, Some, None, IsSome, inl, inr, refl, sym, subst, ◌∙◌, ap, true≢false}
use Rattle.std.specs.Map.{lookup}
use Rattle.at_model.specs.Run.{Value, Instance, Known}
use Rattle.at_model.specs.Meaning.{Among}
use Rattle.at_model.specs.of_fixpoints.Searching.{asked_in}
use Rattle.at_search.proofs.Seeing.{reverse_among, among_reverse}
use Rattle.at_search.proofs.Coming.{led_openly, leads_out, sees_to as comes_to}
use Rattle.at_body.specs.Same.{same_instance}
use Rattle.at_search.specs.declared.ended.Ended.{Ended}
use Rattle.at_search.specs.declared.search.Search.{Search}
use Rattle.at_search.specs.Recorded.{IsSettled, end_of, seen_by, todo_of}
use Rattle.at_search.specs.LedTo.{HasGathered, IsClosure, LeadsOut, IsMet, IsGathering}

pub no_value : (o : Option (Value ℕ)) → None ≡ o → IsSome o → ⊥
no_value None e s = true≢false (sym s)
no_value (Some v) e s = cc

module _ (known : Known ℕ) (ended : List (Instance ℕ × Ended)) (i : Instance ℕ) where
  abbrev Gathering : (seen todo : List (Instance ℕ)) → Type 0
  Gathering seen todo = IsGathering known ended i seen todo

  -- nothing is to do
  pub ends : (seen : List (Instance ℕ)) → Gathering seen [] → IsClosure known ended i seen
  ends seen g = record {
    first = met i g.first;
    closed = λ j h. let x = g.closed j h in record { end = x.end; ends = x.ends; good = tt; next = λ m a. met m (x.next m a) };
    led = λ j h. led_openly (IsSettled known ended) ended i j (g.led j (inl h));
    unsettled = g.unsettled;
  }
    where
      met : (m : Instance ℕ) → IsMet (IsSettled known ended) seen [] m → Among m seen ⊎ IsSettled known ended m
      met m (inl a) = inl a
      met m (inr (inl s)) = inr s
      met m (inr (inr u)) = absurd u

  -- it was neither known nor marked whole
  not_settled : (k : Instance ℕ) (x : Ended) → None ≡ known k → Some x ≡ lookup (same_instance k) ended → x.is_whole ≡ false →
      IsSettled known ended k → ⊥
  not_settled k x none found off (inl s) = no_value (known k) none s
  not_settled k x none found off (inr (y, at, whole)) =
      let q : Some y ≡ Some x = sym at ∙ sym found in
      let same : y ≡ x = cc in true≢false (sym whole ∙ ap (λ z. z.is_whole) same ∙ off)

  -- the next one is seen, and the lists are what they come to
  pub sees_to : (seen todo seen' todo' : List (Instance ℕ)) (k : Instance ℕ) (x : Ended) → Gathering seen (k ∷ todo) → None ≡ known k →
      Some x ≡ lookup (same_instance k) ended → x.is_whole ≡ false → seen' ≡ k ∷ seen → todo' ≡ asked_in (end_of x.ending) ++ todo →
      Gathering seen' todo'
  sees_to seen todo seen' todo' k x g none found off es et =
      comes_to (IsSettled known ended) (λ e. Unit {0}) ended i seen todo seen' todo' k (end_of x.ending) g (not_settled k x none found off)
      (x, sym found, refl) tt es et

  -- nothing is recorded of the next one, which isn't known
  pub gathers_out : (seen todo : List (Instance ℕ)) (k : Instance ℕ) → Gathering seen (k ∷ todo) → None ≡ known k → None ≡ lookup (same_instance k) ended →
      LeadsOut (IsSettled known ended) ended i
  gathers_out seen todo k g none unrecorded = leads_out (IsSettled known ended) (λ e. Unit {0}) ended i seen todo k g off (sym unrecorded)
    where
      off : IsSettled known ended k → ⊥
      off (inl s) = no_value (known k) none s
      off (inr (y, at, whole)) = let q : None ≡ Some y = unrecorded ∙ at in absurd cc

  -- the search has come further
  pub gone_on : (s : Search) (b : Bool) → b ≡ true → HasGathered known ended i s b → Gathering (seen_by s) (todo_of s)
  gone_on s true e h = h
  gone_on s false e h = absurd (true≢false (sym e))

  -- or to what isn't recorded
  pub led_out : (s : Search) (b : Bool) → b ≡ false → HasGathered known ended i s b → LeadsOut (IsSettled known ended) ended i
  led_out s true e h = absurd (true≢false e)
  led_out s false e h = h

  -- those that were seen, in the order in which they were
  pub ended_at : (seen todo ks : List (Instance ℕ)) → Gathering seen todo → todo ≡ [] → seen ≡ reverse ks → IsClosure known ended i ks
  ended_at seen todo ks g et es = forward (subst (λ z. IsClosure known ended i z) es (ends seen (subst (λ z. Gathering seen z) et g)))
    where
      turn : (m : Instance ℕ) → Among m (reverse ks) ⊎ IsSettled known ended m → Among m ks ⊎ IsSettled known ended m
      turn m (inl a) = inl (reverse_among ks m a)
      turn m (inr s) = inr s

      forward : IsClosure known ended i (reverse ks) → IsClosure known ended i ks
      forward c = record {
        first = turn i c.first;
        closed = λ j h. let x = c.closed j (among_reverse ks j h) in
            record { end = x.end; ends = x.ends; good = tt; next = λ m a. turn m (x.next m a) };
        led = λ j h. c.led j (among_reverse ks j h);
        unsettled = λ j h. c.unsettled j (among_reverse ks j h);
      }
