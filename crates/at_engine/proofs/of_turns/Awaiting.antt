-- Each command that doesn't wait is obeyed at once.
use Rattle.std.specs.List.{list_all}
use Rattle.std.proofs.Common.{◌≡◌, ℕ, ◌+◌, Bool, not, map, if◌then◌else◌, true, false, nat_eq, nat_le, List, [], ◌∷◌, ◌++◌, length, count_by, Option, Some, None, option_and_then, Result, Ok, Err, refl}
use Rattle.at_model.specs.Classes.{Shape}
use Rattle.at_model.specs.Trees.{Tree, class_of}
use Rattle.at_model.specs.Terms.{Term, term_of}
use Rattle.at_model.specs.Paths.{Node, part_named, tree_at}
use Rattle.at_model.specs.Rules.{Rules, attribute_asked}
use Rattle.at_model.specs.Run.{Instance, Value}
use Rattle.at_model.specs.Shaping.{names_classes, shaped}
use Rattle.at_model.specs.Edits.{Edit, Refusal, class_asked, edited_within, list_class, optional_class, shape_at, token_kind}
use Rattle.at_model.specs.Edits as edit
use Rattle.at_model.specs.Lines.{Argument, Ask, Place, Post, last_post, last_version}
use Rattle.at_model.specs.Machine.{State, Verdict, Asks, Edits, Leaves, Posted, Posts, Refuses, Tells, at_node, changed, code_of, each, is_marked, is_read, is_stale, marked, marks_named, marks_used, max_marks, max_posted, node_named, obeyed, path_to, questioned, suit, value_named, verdict, with_component, with_mark, with_tree}
use Rattle.at_model.specs.Replies.{At, Written}
use Rattle.at_model.specs.Replies as code
use Rattle.at_tree.specs.Token.{token_view}
use Rattle.at_tree.specs.View.{term_view}
use Rattle.at_protocol.specs.LineView.{arguments_view, command_view, edit_view, place_view}
use Rattle.at_protocol.specs.declared.line.Command.{Command}
use Rattle.at_protocol.specs.declared.line.Command.TheVariants as command
use Rattle.at_protocol.specs.declared.line.EditWords.{EditWords}
use Rattle.at_protocol.specs.declared.line.EditWords.TheVariants as words
use Rattle.at_engine.specs.Following.{IsAtOnce}

module _ (rules : Rules) (s : State) (session : ℕ) where
  at_place : (place : Place) (f : Node → Verdict) → ((n : Node) → IsAtOnce (f n)) → IsAtOnce (at_node rules.classes s session place f)
  at_place place f all = by (node_named rules.classes s session place)
    where
      by : (o : Option Node) → IsAtOnce (elim o as (λ _. Verdict) [ None ↦ Refuses code.Path | Some n ↦ f n ])
      by None = tt
      by (Some n) = all n

  at_part : {A : Type 0} (n : Node) (name : List ℕ) (wanted : Shape → Option A) (f : ℕ → A → Verdict) → ((p : ℕ) (a : A) → IsAtOnce (f p a)) → IsAtOnce (with_component rules.classes s.tree n name wanted f)
  at_part {A} n name wanted f all = by (option_and_then (λ u. part_named rules.classes (class_of u) name) (tree_at s.tree n))
    where
      by_shape : (p : ℕ) (o : Option A) → IsAtOnce (elim o as (λ _. Verdict) [ None ↦ Refuses code.Component | Some a ↦ f p a ])
      by_shape p None = tt
      by_shape p (Some a) = all p a

      by : (o : Option ℕ) → IsAtOnce (elim o as (λ _. Verdict) [
        | None ↦ Refuses code.Component
        | Some part ↦ elim (option_and_then wanted (shape_at rules.classes s.tree n part)) as (λ _. Verdict) [ None ↦ Refuses code.Component | Some a ↦ f part a ]
      ])
      by None = tt
      by (Some p) = by_shape p (option_and_then wanted (shape_at rules.classes s.tree n p))

  at_tree : (t : Term) (asked : Option ℕ) (f : Tree → Verdict) → ((u : Tree) → IsAtOnce (f u)) → IsAtOnce (with_tree rules.classes t asked f)
  at_tree t asked f all = by (names_classes rules.classes t) (option_and_then (shaped rules.classes t) asked)
    where
      by : (b : Bool) (o : Option Tree) → IsAtOnce (elim b as (λ _. Verdict) [ false ↦ Refuses code.Class | true ↦ elim o as (λ _. Verdict) [ None ↦ Refuses code.Fit | Some u ↦ f u ] ])
      by false o = tt
      by true None = tt
      by true (Some u) = all u

  at_edit : (e : Edit) → IsAtOnce (changed rules.classes s e)
  at_edit e = by (edited_within s.limit rules.classes s.tree e) (nat_eq s.version last_version)
    where
      by : (r : Result Tree Refusal) (last : Bool) → IsAtOnce (elim r as (λ _. Verdict) [ Err refusal ↦ Refuses (code_of refusal) | Ok t ↦ if last then Refuses code.Limit else Edits e t ])
      by (Err r) last = tt
      by (Ok t) true = tt
      by (Ok t) false = tt

  at_name : (name : List ℕ) (n : Node) → IsAtOnce (with_mark s session name n)
  at_name name n = by (is_marked s.marks session name) (nat_le max_marks (count_by (λ m. nat_eq session m.session) s.marks))
    where
      by : (a b : Bool) → IsAtOnce (if a then Refuses code.Taken else (if b then Refuses code.Limit else Leaves (s.marks ++ record { session = session; name = name; node = n } ∷ [])))
      by true b = tt
      by false true = tt
      by false false = tt

  at_post : (place : Place) (attribute : List ℕ) (arguments : List Argument) → IsAtOnce (obeyed rules s session (Post place attribute arguments))
  at_post place attribute arguments = by (nat_le max_posted (count_by (λ q. nat_eq session q.session) s.posted)) (nat_eq s.posts last_post)
    where
      q : Posted
      q = record { number = s.posts + 1; session = session; place = place; attribute = attribute; arguments = arguments; marks = marks_named s.marks session (marks_used (Post place attribute arguments)); turns = 0 }

      by : (a b : Bool) → IsAtOnce (if a then Refuses code.Limit else (if b then Refuses code.Limit else Posts q))
      by true b = tt
      by false true = tt
      by false false = tt

  at_ask : (place : Place) (attribute : List ℕ) (arguments : List Argument) → IsAtOnce (obeyed rules s session (Ask place attribute arguments))
  at_ask place attribute arguments = at_place place _ (λ n. by n (each (map (value_named rules.classes s session) arguments)))
    where
      fits : (q : Instance Node) (b : Bool) → IsAtOnce (if b then Asks q else Refuses code.Arguments)
      fits q true = tt
      fits q false = tt

      of_values : (n : Node) (vs : List (Value Node)) (o : Option ℕ) → IsAtOnce (elim o as (λ _. Verdict) [
        | None ↦ Refuses code.Attribute
        | Some a ↦ if suit rules s.tree a vs
            then Asks (record { node = n; attribute = a; arguments = vs }) else Refuses code.Arguments
      ])
      of_values n vs None = tt
      of_values n vs (Some a) = fits _ (suit rules s.tree a vs)

      by : (n : Node) (o : Option (List (Value Node))) → IsAtOnce (elim o as (λ _. Verdict) [
        | None ↦ Refuses code.Path
        | Some vs ↦ questioned rules s.tree n attribute vs
      ])
      by n None = tt
      by n (Some vs) = of_values n vs (option_and_then (λ u. attribute_asked rules (class_of u) attribute
          (length vs)) (tree_at s.tree n))

  -- a line that asks doesn't wait
  pub asked_at_once : (expected : Option ℕ) (place : Place) (attribute : List ℕ) (arguments : List Argument)
      → IsAtOnce (verdict rules s (record { session = session; expected = expected; command = Ask place attribute arguments }))
  asked_at_once expected place attribute arguments =
      by (not (is_read rules (Ask place attribute arguments))) (is_stale expected s.version)
      (not (list_all (is_marked s.marks session) (marks_used (Ask place attribute arguments))))
    where
      by : (a b c : Bool) → IsAtOnce (if a then Refuses code.Syntax else (if b then Refuses (code.Stale s.version) else (if c then Refuses code.Mark
          else obeyed rules s session (Ask place attribute arguments))))
      by true b c = tt
      by false true c = tt
      by false false true = tt
      by false false false = at_ask place attribute arguments

  at_shown : (o : Option Tree) → IsAtOnce (elim o as (λ _. Verdict) [ None ↦ Refuses code.Path | Some u ↦ Tells (Written (term_of rules.classes u)) ])
  at_shown None = tt
  at_shown (Some u) = tt

  at_mark : (o : Option Node) → IsAtOnce (elim o as (λ _. Verdict) [ None ↦ Refuses code.Mark | Some n ↦ Tells (At (path_to rules.classes s.tree n)) ])
  at_mark None = tt
  at_mark (Some n) = tt

  at_words : (w : EditWords) → IsAtOnce (obeyed rules s session (edit_view w))
  at_words (words.Set place t) = at_place (place_view place) _ (λ n. at_tree (term_view t) (class_asked rules.classes s.tree n) _ (λ u. at_edit (edit.Set n u)))
  at_words (words.Put place part t) = at_place (place_view place) _ (λ n. at_part n part.now optional_class _ (λ p b. at_tree (term_view t) (Some b) _ (λ u. at_edit (edit.Put n p u))))
  at_words (words.Drop place) = at_place (place_view place) _ (λ n. at_edit (edit.Drop n))
  at_words (words.Insert place part index t) = at_place (place_view place) _ (λ n. at_part n part.now list_class _ (λ p b. at_tree (term_view t) (Some b) _ (λ u. at_edit (edit.Insert n p index u))))
  at_words (words.Token place part value) = at_place (place_view place) _ (λ n. at_part n part.now token_kind _ (λ p kind. at_edit (edit.Token n p (token_view value))))
  at_words (words.Move place to part index) = at_place (place_view place) _ (λ n. at_place (place_view to) _ (λ m. at_part m part.now list_class _ (λ p b. at_edit (edit.Move n m p index))))

  pub at_once : (c : Command) → ((number : ℕ) → c ≡ command.Wait number → ⊥) → IsAtOnce (obeyed rules s session (command_view c))
  at_once (command.Edit w) other = at_words w
  at_once (command.Show place) other = at_place (place_view place) _ (λ n. at_shown (tree_at s.tree n))
  at_once (command.Mark name place) other = at_place (place_view place) _ (at_name name.now)
  at_once (command.Unmark name) other = tt
  at_once (command.Where name) other = at_mark (marked s.marks session name.now)
  at_once command.Version other = tt
  at_once (command.Post place name arguments) other = at_post (place_view place) name.now (arguments_view arguments.items)
  at_once (command.Wait number) other = absurd (other number refl)
