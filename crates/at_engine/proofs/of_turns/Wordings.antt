-- What becomes of a question's words: it rests on the tree and on the marks that the question has.
use Rattle.std.proofs.Common.{◌≡◌, ℕ, Bool, true, false, not, if◌then◌else◌, List, [], ◌∷◌, map, Option, Some, None, option_map, refl, sym, ap, ◌∙◌, subst}
use Rattle.std.specs.List.{list_all}
use Rattle.at_model.specs.Edits.{max_nodes}
use Rattle.at_model.specs.Paths.{Node}
use Rattle.at_model.specs.Run.{Instance, Value}
use Rattle.at_model.specs.Run as run
use Rattle.at_model.specs.Lines.{Place, From_root, From_mark, Argument, Text, Int, Truth, Ref, Null, Ask, Command}
use Rattle.at_model.specs.Meaning.{Answer}
use Rattle.at_model.specs.Replies.{Code, Refused}
use Rattle.at_model.specs.Replies as code
use Rattle.at_model.specs.Rules.{Rules}
use Rattle.at_model.specs.Trees.{Tree}
use Rattle.at_model.specs.Machine.{State, Marked, Posted, AnswersIn, AnswersPosted, Asks, Refuses, Says, Verdict, answer_form, each, is_marked, is_read, line_of, marks_used, node_named, obeyed, questioned, seen_by, value_named, verdict}
use Rattle.at_engine.specs.Holding.{words_verdict}

-- two states with one tree and the same marks
module _ (rules : Rules) (t : Tree) (marks : List Marked) (limit larger version other posts more : ℕ) (ps qs : List Posted) where
  abbrev here : State
  here = record { tree = t; limit = limit; version = version; marks = marks; posts = posts; posted = ps }

  abbrev there : State
  there = record { tree = t; limit = larger; version = other; marks = marks; posts = more; posted = qs }

  node_same : (session : ℕ) (place : Place) → node_named rules.classes here session place ≡ node_named rules.classes there session place
  node_same session (From_root path) = refl
  node_same session (From_mark name steps) = refl

  value_same : (session : ℕ) (a : Argument) → value_named rules.classes here session a ≡ value_named rules.classes there session a
  value_same session (Text bytes) = refl
  value_same session (Ref place) = ap (option_map (λ (n : Node). run.Ref (Some n))) (node_same session place)
  value_same session (Int n) = refl
  value_same session (Truth b) = refl
  value_same session Null = refl

  mapped : (session : ℕ) (as' : List Argument) → map (value_named rules.classes here session) as' ≡ map (value_named rules.classes there session) as'
  mapped session [] = refl
  mapped session (a ∷ bs) = ap (λ v. v ∷ map (value_named rules.classes here session) bs) (value_same session a) ∙ ap (λ vs. value_named rules.classes there session a ∷ vs) (mapped session bs)

  pub obeyed_same : (session : ℕ) (place : Place) (attribute : List ℕ) (as' : List Argument) → obeyed rules here session (Ask place attribute as') ≡ obeyed rules there session (Ask place attribute as')
  obeyed_same session place attribute as' =
      let F : Option Node → Option (List (Value Node)) → Verdict = λ o vs. elim o [ None ↦ Refuses code.Path | Some n ↦ elim vs [ None ↦ Refuses code.Path | Some ws ↦ questioned rules t n attribute ws ] ] in
      ap (λ o. F o (each (map (value_named rules.classes here session) as'))) (node_same session place) ∙ ap (λ vs. F (node_named rules.classes there session place) (each vs)) (mapped session as')

-- so it is of the words in any state
module _ (rules : Rules) (s : State) (q : Posted) where
  abbrev words : Command
  words = Ask q.place q.attribute q.arguments

  abbrev told : State
  told = record { tree = s.tree; limit = max_nodes; version = 0; marks = q.marks; posts = 0; posted = [] }

  abbrev by_marks : Bool → Verdict → Verdict
  by_marks b v = if not b then Refuses code.Mark else v

  abbrev by_reading : Bool → Verdict → Verdict
  by_reading b v = if not b then Refuses code.Syntax else v

  -- the verdict by what obeying the words leads to
  abbrev used : Verdict → Verdict
  used v = by_reading (is_read rules words) (by_marks (list_all (is_marked q.marks q.session) (marks_used words)) v)

  pub words_same : verdict rules (seen_by q s) (line_of q) ≡ words_verdict rules s.tree q
  words_same = ap used (obeyed_same rules s.tree q.marks s.limit max_nodes s.version 0 s.posts 0 s.posted [] q.session q.place q.attribute q.arguments)

  -- the words are refused, or ask for an instance, which has an answer
  pub answers_refused : (c : Code) → words_verdict rules s.tree q ≡ Refuses c → AnswersPosted rules s q (Refused c)
  answers_refused c e = subst (λ (v : Verdict). Says rules (seen_by q s) v (Refused c)) (sym (words_same ∙ e)) refl

  pub answers_asked : (i : Instance Node) (a : Answer Node) → words_verdict rules s.tree q ≡ Asks i → AnswersIn rules s.tree i a → AnswersPosted rules s q (answer_form rules s.tree a)
  answers_asked i a e answers = subst (λ (v : Verdict). Says rules (seen_by q s) v (answer_form rules s.tree a)) (sym (words_same ∙ e)) (a, answers, refl)

  -- the question can't be read
  pub words_unread : is_read rules words ≡ false → words_verdict rules s.tree q ≡ Refuses code.Syntax
  words_unread e = ap (λ b. by_reading b (by_marks (list_all (is_marked q.marks q.session) (marks_used words)) (obeyed rules told q.session words))) e

  module _ (read : is_read rules words ≡ true) where
    by_use : words_verdict rules s.tree q ≡ by_marks (list_all (is_marked q.marks q.session) (marks_used words)) (obeyed rules told q.session words)
    by_use = ap (λ b. by_reading b (by_marks (list_all (is_marked q.marks q.session) (marks_used words)) (obeyed rules told q.session words))) read

    -- the question has lost a mark that its words use, or has all of them
    pub words_unmarked : list_all (is_marked q.marks q.session) (marks_used words) ≡ false → words_verdict rules s.tree q ≡ Refuses code.Mark
    words_unmarked e = by_use ∙ ap (λ b. by_marks b (obeyed rules told q.session words)) e

    pub words_obeyed : list_all (is_marked q.marks q.session) (marks_used words) ≡ true → (v : Verdict)
        → obeyed rules (seen_by q s) q.session words ≡ v → words_verdict rules s.tree q ≡ v
    words_obeyed e v is =
        by_use ∙ ap (λ b. by_marks b (obeyed rules told q.session words)) e
        ∙ sym (obeyed_same rules s.tree q.marks s.limit max_nodes s.version 0 s.posts 0 s.posted [] q.session q.place q.attribute q.arguments) ∙ is
