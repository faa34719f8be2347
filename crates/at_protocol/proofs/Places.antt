-- Places: their texts, taken apart and put together.
use Rattle.std.proofs.Common.{◌≡◌, ◌≢◌, ℕ, ◌==◌, false, List, [], length, Result, Ok, Err, ◌∷◌, ◌++◌, refl, ap, sym, ◌∙◌, subst, append-nil}
use Rattle.std.specs.List.{flat_map}
use Rattle.at_model.specs.Paths.{Path, path_text, step_text}
use Rattle.at_model.specs.Lines.{Place, From_root, From_mark}
use Rattle.at_model.specs.Names.{IsName}
use Rattle.at_model.proofs.of_texts.OneLine.{path_head}
use Rattle.at_tree.proofs.TextLaws.{one_path_each}
use Rattle.at_protocol.specs.Words.{HasNo, IsPlaceText, IsPathText, IsStepsText, IsNameText, IsSlashOrEnd, FailsOn, Answers}
use Rattle.at_tree.specs.PathView.{path_view}
use Rattle.at_tree.specs.declared.path.Path.{Path as PathValue}
use Rattle.at_text.specs.declared.fault.Failure.{Failure}
use Rattle.at_protocol.specs.declared.line.words.Misfit.{Misfit}
use Rattle.at_protocol.proofs.Answering.{fails_with}
use Rattle.at_protocol.proofs.Spaces.{one_cut, next_slash, has_no_name, tail_of, IsNext}

pub path_fails : (text : List ℕ) (fault : Failure Misfit) → ((rest : List ℕ) → text ≢ 36 ∷ rest) → FailsOn (IsPathText text) fault → FailsOn (IsPlaceText text) fault
path_fails text fault none = fails_with (IsPathText text) (IsPlaceText text) fault part
  where
    part : (place : Place) → IsPlaceText text place → (path : Path) × IsPathText text path
    part (From_root path) h = (path, h)
    part (From_mark name steps) h = absurd (none _ (sym h.1))

-- the steps behind a name
steps_next : (steps : Path) → IsNext 47 (flat_map step_text steps)
steps_next [] = tt
steps_next (s ∷ ss) = refl

pub record IsMarked (name steps : List ℕ) : Type 0 where
  pub path : Path
  pub is_name : IsName name
  pub is_steps : IsStepsText steps path

-- behind a dollar sign
pub marked : (text name steps : List ℕ) (place : Place) → text ≡ name ++ steps → HasNo 47 name → IsSlashOrEnd steps → IsPlaceText (36 ∷ text) place → IsMarked name steps
marked text name steps (From_root path) split one next h = absurd (path_head path [] text 36 refl (append-nil (path_text path) ∙ h.1))
marked text name steps (From_mark n path) split one next h =
    let same = one_cut 47 n name (flat_map step_text path) steps (ap tail_of h.1 ∙ split) (has_no_name 47 refl n h.0.0) one (steps_next path) (next_slash steps next) in
    record { path = path; is_name = subst IsName same.0 h.0.0; is_steps = (h.0.1, same.1) }

pub name_fails : (text name steps : List ℕ) (fault : Failure Misfit) → text ≡ name ++ steps → HasNo 47 name → IsSlashOrEnd steps → FailsOn (IsNameText name) fault → FailsOn (IsPlaceText (36 ∷ text)) fault
name_fails text name steps fault split one next = fails_with (IsNameText name) (IsPlaceText (36 ∷ text)) fault (λ place h. (name, ((marked text name steps place split one next h).is_name, refl)))

pub steps_fail : (text name steps : List ℕ) (fault : Failure Misfit) → text ≡ name ++ steps → HasNo 47 name → IsSlashOrEnd steps → FailsOn (IsStepsText steps) fault → FailsOn (IsPlaceText (36 ∷ text)) fault
steps_fail text name steps fault split one next = fails_with (IsStepsText steps) (IsPlaceText (36 ∷ text)) fault (λ place h. let m = marked text name steps place split one next h in (m.path, m.is_steps))

-- the steps of a path that is no root
pub steps_of_path : (text : List ℕ) (path : Path) → (path ≡ [] → ⊥) → IsPathText text path → IsStepsText text path
steps_of_path text [] none h = absurd (none refl)
steps_of_path text (s ∷ ss) none h = h

pub path_of_steps : (text : List ℕ) (path : Path) → (text ≡ [] → ⊥) → IsStepsText text path → IsPathText text path
path_of_steps text [] none h = absurd (none (sym h.1))
path_of_steps text (s ∷ ss) none h = h

pub is_filled : (text : List ℕ) → (length text == 0) ≡ false → text ≡ [] → ⊥
is_filled text e is = let f : (0 == 0) ≡ false = subst (λ y. (length y == 0) ≡ false) is e in cc

-- a text that is not empty, and no slash alone
pub steps_answer : (text : List ℕ) (result : Result PathValue (Failure Misfit)) → (length text == 0) ≡ false → text ≢ 47 ∷ [] → Answers path_view (IsPathText text) result → Answers path_view (IsStepsText text) result
steps_answer text (Ok path) some other h = steps_of_path text (path_view path) (λ e. other (sym h.1 ∙ ap path_text e)) h
steps_answer text (Err fault) some other h = fails_with (IsPathText text) (IsStepsText text) fault (λ path k. (path, path_of_steps text path (is_filled text some) k)) h

-- a slash alone has no steps
pub no_steps : (text : List ℕ) → text ≡ 47 ∷ [] → (path : Path) → IsStepsText text path → ⊥
no_steps text is [] h = let e : [] ≡ 47 ∷ [] = h.1 ∙ is in cc
no_steps text is (s ∷ ss) h = let e : s ∷ ss ≡ [] = one_path_each (s ∷ ss) [] h.0 tt (h.1 ∙ is) in cc
