-- A question of which nothing has changed stands as it stood.
use Rattle.std.proofs.Common.{◌≡◌, ◌⊎◌, ◌≤◌, ℕ, List, [], ◌∷◌, ◌++◌, inl, inr, refl, sym, ap, ◌∙◌, subst, append-nil}
use Rattle.std.specs.Prelude.{IsSome}
use Rattle.std.specs.Map.{keys_of}
use Rattle.at_model.specs.Meaning.{Among}
use Rattle.at_model.specs.Rules.{Rules}
use Rattle.at_model.specs.Run.{Value, Instance}
use Rattle.at_model.specs.Turning.{UnderWay, IsOn as ChainIsOn, asked, turns_of}
use Rattle.at_model.specs.of_fixpoints.Resting.{Leads}
use Rattle.at_model.specs.of_fixpoints.Searched.{IsFresh, IsOn, tried_at}
use Rattle.at_model.specs.of_fixpoints.Searching.{Search, most_turns, under}
use Rattle.at_store.specs.Shown.{Shown, contents}
use Rattle.at_cache.specs.Kept.{Entries}
use Rattle.at_search.specs.Recorded.{IsMarked}
use Rattle.at_demand.proofs.of_levels.Followed.{followed_same}
use Rattle.at_demand.specs.declared.question.Question.{Question}
use Rattle.at_demand.specs.ChainSteps.{IsUnchanged}
use Rattle.at_demand.specs.Covering.{AreWhole}
use Rattle.at_demand.specs.Known.{FoundKept, known_in}
use Rattle.at_evaluate.specs.Valued.{equations, meaning}
use Rattle.at_demand.specs.Levels.{IsAbout, IsLevel, LeadsToFault, LevelCode, StandsFor, all_levels, asked_by, known_to, level_of, levels_of, root_in, todo_in}
use Rattle.at_demand.specs.Only.{AreLean}
use Rattle.at_demand.specs.Worth.{AreSettled}
use Rattle.at_demand.specs.Turns.{HaveMet, IsSparingTurns, IsStanding, IsStandingPlainly, found_of, passed_of, under_way}
use Rattle.at_demand.proofs.of_searches.Moving.{asked_same}
use Rattle.at_demand.proofs.of_levels.Resolving.{asked_moved, facts_same, same_levels}
use Rattle.at_demand.proofs.of_searches.Returning.{with_level}

-- what a question is about, by those that wait and the last level
abbrev AboutAt : List (Instance ℕ × LevelCode) → LevelCode → Instance ℕ → Instance ℕ → Type 0
AboutAt ws d i k = Among k (under (level_of i d ∷ levels_of ws)) ⊎ ((j : Instance ℕ) × (e : LevelCode) × Among (with_level e j) (with_level d i ∷ ws)
    × (Among k (todo_in e) ⊎ (k ≡ root_in e j)))

abbrev with_value : Value ℕ → Instance ℕ → Instance ℕ × Value ℕ
with_value v j = (j, v)

module _ (rules : Rules) (s : Shown) (entries : Entries) (old new : Question) (same : IsUnchanged old new) where
  root : root_in new.level new.inst ≡ root_in old.level old.inst
  root = ap (λ d. root_in d new.inst) same.level ∙ ap (λ i. root_in old.level i) same.chain.inst

  pub asked_stays : asked_by new ≡ asked_by old
  asked_stays = asked_same old new same.chain.waiting root

  way : (ws vs : List (Instance ℕ)) (i j : Instance ℕ) (fs gs : List (Instance ℕ × Value ℕ)) → ws ≡ vs → i ≡ j → fs ≡ gs →
      ◌≡◌ {A = UnderWay ℕ} (record { waiting = ws; last = i; found = fs }) (record { waiting = vs; last = j; found = gs })
  way ws vs i j fs gs a b c = ap (λ (us : List (Instance ℕ)). record { waiting = us; last = i; found = fs }) a
      ∙ ap (λ (k : Instance ℕ). record { waiting = vs; last = k; found = fs }) b
      ∙ ap (λ (hs : List (Instance ℕ × Value ℕ)). record { waiting = vs; last = j; found = hs }) c

  pub way_stays : under_way new ≡ under_way old
  way_stays = way (keys_of new.waiting.entries) (keys_of old.waiting.entries) new.inst old.inst
      (found_of new.found.entries ++ passed_of new.passed.entries) (found_of old.found.entries ++ passed_of old.passed.entries)
      (ap keys_of same.chain.waiting) same.chain.inst
      (ap (λ fs. found_of fs ++ passed_of new.passed.entries) same.finds.found
      ∙ ap (λ ps. found_of old.found.entries ++ passed_of ps) same.finds.passed)

  about_back : (k : Instance ℕ) → IsAbout new k → IsAbout old k
  about_back k a = subst (λ i. AboutAt old.waiting.entries old.level i k) same.chain.inst
      (subst (λ d. AboutAt old.waiting.entries d new.inst k) same.level (subst (λ ws. AboutAt ws new.level new.inst k) same.chain.waiting a))

  under_on : (k : Instance ℕ) → Among k (under (all_levels old)) → Among k (under (all_levels new))
  under_on k a = subst (λ ws. Among k (under (level_of new.inst new.level ∷ levels_of ws))) (sym same.chain.waiting)
      (subst (λ d. Among k (under (level_of new.inst d ∷ levels_of old.waiting.entries))) (sym same.level)
      (subst (λ i. Among k (under (level_of i old.level ∷ levels_of old.waiting.entries))) (sym same.chain.inst) a))

  known_same : (i : Instance ℕ) → known_to entries new i ≡ known_to entries old i
  known_same i = ap (λ fs. known_in entries fs i) same.finds.found

  level_same : (i : Instance ℕ) (d : LevelCode) → IsLevel rules (contents s) (known_to entries old) old.ended.entries i d →
      IsLevel rules (contents s) (known_to entries new) new.ended.entries i d
  level_same i d x = subst (λ fs. IsLevel rules (contents s) (known_in entries fs) new.ended.entries i d) (sym same.finds.found)
      (subst (λ es. IsLevel rules (contents s) (known_to entries old) es i d) (sym same.finds.ended) x)

  pub stands_same : (u : Search ℕ) → StandsFor rules s entries old u → StandsFor rules s entries new u
  stands_same u st = record {
    is = record {
      last = st.is.last ∙ sym (ap (λ d. level_of new.inst d) same.level ∙ ap (λ i. level_of i old.level) same.chain.inst);
      below = st.is.below ∙ sym (ap (λ ws. levels_of ws) same.chain.waiting);
      ended = λ i h. elim (st.is.ended i h) [
        | inl k ↦ inl (subst (λ es. Among i (keys_of es)) (sym same.finds.ended) k)
        | inr k ↦ inr (subst IsSome (sym (known_same i)) k)
      ];
      recorded = λ i h. st.is.recorded i (subst (λ es. Among i (keys_of es)) same.finds.ended h);
      told = λ i v h. known_same i ∙ st.is.told i v h;
      known = λ i v e. st.is.known i v (sym (known_same i) ∙ e);
      spent = λ i k. st.is.spent i (subst IsSome (known_same i) k);
    };
    on = subst (λ q. IsOn (contents s) (meaning rules) q u) (sym asked_stays) st.on;
    fresh = subst (λ q. IsFresh (contents s) (meaning rules) q (tried_at (u.last ∷ u.below)) u.ended) (sym asked_stays) st.fresh;
    facts = facts_same rules (contents s) entries old new same.finds.ended same.finds.found st.facts;
    levels = record {
      last = level_same new.inst new.level
          (subst (λ d. IsLevel rules (contents s) (known_to entries old) old.ended.entries new.inst d) (sym same.level)
          (subst (λ i. IsLevel rules (contents s) (known_to entries old) old.ended.entries i old.level) (sym same.chain.inst) st.levels.last));
      below = λ i d h. level_same i d (st.levels.below i d (subst (λ ws. Among (with_level d i) ws) same.chain.waiting h));
    };
    whole = record {
      placed = λ i h. elim (st.whole.placed i (subst (λ es. Among i (keys_of es)) same.finds.ended h)) [
        | inl k ↦ inl (subst IsSome (sym (known_same i)) k)
        | inr d ↦ inr (elim d [ inl m ↦ inl (subst (λ es. IsMarked es i) (sym same.finds.ended) m) | inr a ↦ inr (under_on i a) ])
      ];
      marked = λ i m. st.whole.marked i (subst (λ es. IsMarked es i) same.finds.ended m);
      spoilt = λ i m none. subst (λ es. LeadsToFault es i) (sym same.finds.ended)
          (st.whole.spoilt i (subst (λ es. IsMarked es i) same.finds.ended m) (sym (known_same i) ∙ none));
      asked = asked_moved entries old new same.finds.ended same.finds.found st.whole.asked;
    };
    typed = λ i a. st.typed i (about_back i a);
    reached = λ i o h. subst (λ q. Leads (contents s) (meaning rules) q i) (sym asked_stays) (st.reached i o h);
    few = subst (λ n. n ≤ most_turns u) (sym same.finds.turns) st.few;
  }

  plainly_same : IsStandingPlainly rules s old → IsStandingPlainly rules s new
  plainly_same p = record {
    ended = same.finds.ended ∙ p.ended;
    level = same.level ∙ p.level;
    levels = λ i l h. p.levels i l (subst (λ ws. Among (with_level l i) ws) same.chain.waiting h);
    on = subst (λ (w : UnderWay ℕ). ChainIsOn (contents s) (equations rules) (asked w) w) (sym way_stays) p.on;
    turns = same.finds.turns ∙ p.turns ∙ ap (λ (w : UnderWay ℕ). turns_of w) (sym way_stays);
  }

  pub standing_same : IsStanding rules s entries old → IsStanding rules s entries new
  standing_same st = record {
    levels = λ sound. let (u, x) = st.levels sound in (u, stands_same u x);
    plainly = λ none. plainly_same (st.plainly none);
    kept = subst (λ fs. FoundKept entries fs) (sym same.finds.found) st.kept;
    passed = λ i v a. st.passed i v (subst (λ ps. Among (with_value v i) (passed_of ps)) same.finds.passed a);
    whole = subst (λ fs. AreWhole rules (contents s) fs) (sym same.finds.found) st.whole;
  }

  pub sparing_same : IsSparingTurns rules (contents s) entries old → IsSparingTurns rules (contents s) entries new
  sparing_same x = record {
    lean = subst (λ fs. AreLean rules (contents s) fs) (sym same.finds.found) x.lean;
    settled = subst (λ fs. AreSettled rules entries fs) (sym same.finds.found) x.settled;
    met = subst (λ fs. HaveMet rules (contents s) entries fs new.waiting.entries (root_in new.level new.inst)) (sym same.finds.found)
        (subst (λ ws. HaveMet rules (contents s) entries old.found.entries ws (root_in new.level new.inst)) (sym same.chain.waiting)
        (subst (λ n. HaveMet rules (contents s) entries old.found.entries old.waiting.entries n) (sym root) x.met));
    followed = followed_same rules (contents s) entries entries old new (λ m some. refl)
        ([], same.finds.found ∙ sym (append-nil old.found.entries)) (λ j k. subst (λ es. Among j (keys_of es))
        (sym same.finds.ended) k)
        (λ j k. subst (λ es. Among j (keys_of es)) same.finds.ended k)
        (same_levels old new same.chain.waiting same.chain.inst same.level) x.followed;
  }
