-- The steps of a question.
use Rattle.std.proofs.Common.{◌≡◌, ◌⊎◌, ℕ, Bool, true, false, List, [], ◌∷◌, ◌++◌, Option, Some, None, MatchBool, inl, inr, refl, sym, ap, ◌∙◌, true≢false, is_some, not}
use Rattle.std.specs.Prelude.{IfNone, IfSome}
use Rattle.std.specs.Global.{Box}
use Rattle.std.specs.Option.{option_to_list}
use Rattle.at_model.specs.Run.{Instance}
use Rattle.at_model.specs.Meaning.{Among}
use Rattle.at_model.proofs.Reached.{front_among, back_among, either_among}
use Rattle.at_body.specs.Same.{same_instance}
use Rattle.at_search.specs.Recorded.{seen_by, todo_of}
use Rattle.at_search.specs.declared.search.Search.{Search as SearchCode}
use Rattle.at_demand.specs.declared.question.Question.{Question}
use Rattle.at_demand.specs.ChainSteps.{HasNext, IsAlike, IsSearched}
use Rattle.at_demand.specs.Levels.{LevelCode, fault_in, root_in, seen_in, todo_in}
use Rattle.at_evaluate.proofs.Sameness.{same_true, same_refl}

-- the last one is tried, and so are those that wait
pub last_tried : (b : Bool) (ks : List (Instance ℕ)) (i k : Instance ℕ) → b ≡ same_instance k i → b ≡ true →
    MatchBool b (Among i (ks ++ k ∷ [])) (Among i (ks ++ k ∷ []) → ⊥)
last_tried true ks i k e on = back_among i ks (k ∷ []) (inl (sym (same_true k i (sym e))))
last_tried false ks i k e on = absurd (true≢false (sym on))

pub waits_tried : (b c : Bool) (ks : List (Instance ℕ)) (i k : Instance ℕ) → c ≡ same_instance k i → c ≡ false →
    MatchBool b (Among i ks) (Among i ks → ⊥) → MatchBool b (Among i (ks ++ k ∷ [])) (Among i (ks ++ k ∷ []) → ⊥)
waits_tried true c ks i k e off h = front_among i ks (k ∷ []) h
waits_tried false c ks i k e off h = λ a. elim (either_among i ks (k ∷ []) a) [
  | inl x ↦ h x
  | inr y ↦ elim y [
    | inl s ↦ true≢false (sym (same_refl k) ∙ ap (same_instance k) (sym s) ∙ sym e ∙ off)
    | inr z ↦ absurd z
  ]
]

-- nothing has changed
pub alike_self : (q : Question) → IsAlike q q
alike_self q = record {
  chain = record { waiting = refl; inst = refl };
  finds = record { found = refl; passed = refl; ended = refl; turns = refl };
  root = refl;
  seen = refl;
  todo = refl;
  fault = refl;
}

-- a level that was none is a search of what is tried
pub searched_none : (q : Question) (b : Box SearchCode) (s : SearchCode) → q.level ≡ None → b.value ≡ s → s.root ≡ q.inst → seen_by s ≡ [] → todo_of s ≡ [] → s.fault ≡ None → IsSearched q (record q { level = Some b })
searched_none q b s none is root seen todo fault = record {
  alike = record {
    chain = record { waiting = refl; inst = refl };
    finds = record { found = refl; passed = refl; ended = refl; turns = refl };
    root = ap (λ (x : SearchCode). x.root) is ∙ root ∙ sym (ap (λ (l : LevelCode). root_in l q.inst) none);
    seen = ap (λ (x : SearchCode). seen_by x) is ∙ seen ∙ sym (ap (λ (l : LevelCode). seen_in l) none);
    todo = ap (λ (x : SearchCode). todo_of x) is ∙ todo ∙ sym (ap (λ (l : LevelCode). todo_in l) none);
    fault = ap (λ (x : SearchCode). x.fault) is ∙ fault ∙ sym (ap (λ (l : LevelCode). fault_in l) none);
  };
  is = (b, refl);
}

-- and one that is a search stays
pub searched_some : (q : Question) (b : Bool) → is_some q.level ≡ not b → b ≡ false → IsSearched q q
searched_some q b e off = record { alike = alike_self q; is = by q.level b e off }
  where
    by : (l : LevelCode) (b : Bool) → is_some l ≡ not b → b ≡ false → (x : Box SearchCode) × (l ≡ Some x)
    by None b e off = absurd (true≢false (sym (e ∙ ap not off)))
    by (Some x) b e off = (x, refl)

pub no_level : (l : LevelCode) (b : Bool) → is_some l ≡ not b → b ≡ true → l ≡ None
no_level None b e on = refl
no_level (Some x) b e on = absurd (true≢false (e ∙ ap not on))

-- nothing is to do any more
pub alike_done : (q : Question) (old new : SearchCode) (b c : Box SearchCode) (o : Option (Instance ℕ)) → q.level ≡ Some b → b.value ≡ old → c.value ≡ new → new.root ≡ old.root → seen_by new ≡ seen_by old → new.fault ≡ old.fault → IfNone o (todo_of old ≡ []) → IfNone o (todo_of new ≡ []) → IfNone o (IsAlike q (record q { level = Some c }))
alike_done q old new b c (Some i) at was is root seen fault none left = tt
alike_done q old new b c None at was is root seen fault none left = record {
  chain = record { waiting = refl; inst = refl };
  finds = record { found = refl; passed = refl; ended = refl; turns = refl };
  root = ap (λ (x : SearchCode). x.root) is ∙ root ∙ ap (λ (x : SearchCode). x.root) (sym was) ∙ sym (ap (λ (l : LevelCode). root_in l q.inst) at);
  seen = ap (λ (x : SearchCode). seen_by x) is ∙ seen ∙ ap (λ (x : SearchCode). seen_by x) (sym was) ∙ sym (ap (λ (l : LevelCode). seen_in l) at);
  todo = ap (λ (x : SearchCode). todo_of x) is ∙ left ∙ sym none ∙ ap (λ (x : SearchCode). todo_of x) (sym was) ∙ sym (ap (λ (l : LevelCode). todo_in l) at);
  fault = ap (λ (x : SearchCode). x.fault) is ∙ fault ∙ ap (λ (x : SearchCode). x.fault) (sym was) ∙ sym (ap (λ (l : LevelCode). fault_in l) at);
}

-- the next one is taken off
pub next_taken : (q : Question) (old new : SearchCode) (b c : Box SearchCode) (o : Option (Instance ℕ)) → q.level ≡ Some b → b.value ≡ old → c.value ≡ new →
    new.root ≡ old.root → seen_by new ≡ seen_by old → new.fault ≡ old.fault → IfSome o (λ i. todo_of old ≡ i ∷ todo_of new) →
    IfSome o (HasNext q (record q { level = Some c }))
next_taken q old new b c None at was is root seen fault some = tt
next_taken q old new b c (Some i) at was is root seen fault some = record {
  is = (c, refl);
  chain = record { waiting = refl; inst = refl };
  finds = record { found = refl; passed = refl; ended = refl; turns = refl };
  root = ap (λ (x : SearchCode). x.root) is ∙ root ∙ ap (λ (x : SearchCode). x.root) (sym was) ∙ sym (ap (λ (l : LevelCode). root_in l q.inst) at);
  todo = ap (λ (l : LevelCode). todo_in l) at ∙ ap (λ (x : SearchCode). todo_of x) was ∙ some ∙ ap (λ (x : SearchCode). i ∷ todo_of x) (sym is);
  seen = ap (λ (x : SearchCode). seen_by x) is ∙ seen ∙ ap (λ (x : SearchCode). seen_by x) (sym was) ∙ sym (ap (λ (l : LevelCode). seen_in l) at);
  fault = ap (λ (x : SearchCode). x.fault) is ∙ fault ∙ ap (λ (x : SearchCode). x.fault) (sym was) ∙ sym (ap (λ (l : LevelCode). fault_in l) at);
}

-- the last one goes, where there is one
pub last_gone : {A : Type 0} (o : Option A) (xs ys : List A) → xs ≡ ys ++ option_to_list o → (o ≡ None → xs ≡ []) → ((a : A) × (xs ≡ ys ++ a ∷ [])) ⊎ ((xs ≡ []) × (ys ≡ []))
last_gone None xs ys e none = inr (none refl, no_front ys [] (sym e ∙ none refl))
  where
    no_front : {A : Type 0} (xs ys : List A) → xs ++ ys ≡ [] → xs ≡ []
    no_front [] ys e = refl
    no_front (x ∷ xs) ys e = absurd cc
last_gone (Some a) xs ys e none = inl (a, e)
