-- An edit that is accepted is that of its command, and which marks the other commands change.
use Rattle.std.proofs.Common.{◌≡◌, ℕ, ◌+◌, Bool, true, false, ◌&&◌, not, nat_eq, nat_le, cond, if◌then◌else◌, List, [], ◌∷◌, ◌++◌, length, map, Option, Some, None, Result, Ok, Err, refl, sym, ap, ◌∙◌, subst, filter, option_and_then}
use Rattle.std.specs.List.{find, count_by, list_any}
use Rattle.std.specs.Option.{option_map, option_or}
use Rattle.std.specs.Prelude.{is_some}
use Rattle.std.specs.Str.{bytes_eq}
use Rattle.std.proofs.lemmas.Slice.Eq.{bytes_eq-Decides}
use Rattle.std.proofs.lemmas.Bool.{eqb-true, eq-eqb}
use Rattle.std.proofs.lemmas.List.Folds.{find-append}
use Rattle.at_model.specs.Classes.{Classes, Shape}
use Rattle.at_model.specs.Trees.{Tree, class_of}
use Rattle.at_model.specs.Terms.{Term, term_of}
use Rattle.at_model.specs.Paths.{Node, tree_at}
use Rattle.at_model.specs.Run.{Instance, Value}
use Rattle.at_model.specs.Rules.{Rules, attribute_asked}
use Rattle.at_model.specs.Edits.{Edit, edited, edited_within, class_asked, shape_at, list_class, optional_class, token_kind}
use Rattle.at_model.specs.Edits as edit
use Rattle.at_model.specs.Shaping.{shaped, names_classes}
use Rattle.at_model.specs.Lines.{Line, Place, Argument, Command, Ask, Set, Put, Drop, Insert, Token, Move, Show, Mark, Unmark, Where, Version, Post, Wait, last_version}
use Rattle.at_model.specs.Replies.{Reply, Form, Done, Opened, Code}
use Rattle.at_model.specs.Replies as code
use Rattle.at_model.specs.Machine.{State, Marked, Posted, Verdict, Refuses, Leaves, Edits, Asks, Says, Step, after, verdict, obeyed, changed, with_component, with_tree, with_mark, code_of, is_edit, is_mark, is_marked, marked, max_marks, node_named, each, value_named, questioned, suit, carried_marks, carried_posted, is_posted}
use Rattle.at_model.specs.Effects.{IsEditOf, set, put, drop, insert, token, move, component_named, changes_mark, is_about_mark, is_marking, is_question, is_post}
use Rattle.at_model.proofs.of_edits.Changes.{if_both, at_option, node_all, post_all, new_post, whole}
use Rattle.at_model.proofs.of_edits.Larger.{within_edited}
use Rattle.at_model.proofs.Options.{led, both, and_true, not_true}
use Rattle.at_model.proofs.of_texts.Shaped.{shaped_conforms}

-- the verdict refuses, or makes an edit of the command, which is accepted
pub data IsChangeOf (classes : Classes) (s : State) (session : ℕ) (c : Command) : Verdict → Type 0 where
  refused : (code : Code) → IsChangeOf classes s session c (Refuses code)
  accepted : (e : Edit) (t : Tree) → IsEditOf classes s session c e → edited classes s.tree e ≡ Ok t → IsChangeOf classes s session c (Edits e t)

at_some : (P : Verdict → Type 0) → ((c : Code) → P (Refuses c)) → {A : Type 0} (o : Option A) (c : Code)
    (k : A → Verdict) → ((a : A) → o ≡ Some a → P (k a)) → P (elim o [ None ↦ Refuses c | Some a ↦ k a ])
at_some P if_refused None c k h = if_refused c
at_some P if_refused (Some a) c k h = h a refl

module _ (rules : Rules) (s : State) (session : ℕ) where
  -- the verdict on the command
  abbrev pub Changes : Command → Verdict → Type 0
  Changes c v = IsChangeOf rules.classes s session c v

  accepts : (c : Command) (e : Edit) → IsEditOf rules.classes s session c e → (r : Result Tree edit.Refusal) →
      edited_within s.limit rules.classes s.tree e ≡ r →
      Changes c (elim r [
        | Err refusal ↦ Refuses (code_of refusal)
        | Ok t ↦ if nat_eq s.version last_version then Refuses code.Limit else Edits e t
      ])
  accepts c e asked (Err refusal) is = refused (code_of refusal)
  accepts c e asked (Ok t) is = if_both (Changes c) (nat_eq s.version last_version) _ _ (refused code.Limit)
      (accepted e t asked (within_edited s.limit rules.classes s.tree e t is).0)

  changes : (c : Command) (e : Edit) → IsEditOf rules.classes s session c e → Changes c (changed rules.classes s e)
  changes c e asked = accepts c e asked (edited_within s.limit rules.classes s.tree e) refl

  node_is : (c : Command) (place : Place) (k : Node → Verdict)
      → ((n : Node) → node_named rules.classes s session place ≡ Some n → Changes c (k n))
      → Changes c (elim (node_named rules.classes s session place) [ None ↦ Refuses code.Path | Some n ↦ k n ])
  node_is c place k h = at_some (Changes c) refused (node_named rules.classes s session place) code.Path k h

  component_is : {A : Type 0} (c : Command) (n : Node) (name : List ℕ) (wanted : Shape → Option A) (k : ℕ → A → Verdict)
      → ((p : ℕ) (a : A) → component_named rules.classes s.tree n name ≡ Some p → Changes c (k p a))
      → Changes c (with_component rules.classes s.tree n name wanted k)
  component_is c n name wanted k h = at_some (Changes c) refused (component_named rules.classes s.tree n name)
      code.Component _ (λ p is. at_option (Changes c) refused
      (option_and_then wanted (shape_at rules.classes s.tree n p)) code.Component (k p) (λ a. h p a is))

  at_names : (c : Command) (b : Bool) (v : Verdict) → Changes c v → Changes c (elim b [ false ↦ Refuses code.Class | true ↦ v ])
  at_names c true v h = h
  at_names c false v h = refused code.Class

  written : (t : Term) (wanted : Option ℕ) (u : Tree) → option_and_then (shaped rules.classes t) wanted ≡ Some u → term_of rules.classes u ≡ t
  written t wanted u is = let (b, asked, shapes) = led (shaped rules.classes t) wanted u is in let both = shaped_conforms rules.classes t b u shapes in both.1

  tree_is : (c : Command) (t : Term) (wanted : Option ℕ) (k : Tree → Verdict) → ((u : Tree) → term_of rules.classes u ≡ t → Changes c (k u)) → Changes c (with_tree rules.classes t wanted k)
  tree_is c t wanted k h = at_names c (names_classes rules.classes t) _ (at_some (Changes c) refused (option_and_then (shaped rules.classes t) wanted) code.Fit k (λ u is. h u (written t wanted u is)))

  set_is : (place : Place) (n : Node) (u : Tree) (t : Term) → term_of rules.classes u ≡ t → node_named rules.classes s
      session place ≡ Some n → Changes (Set place t) (changed rules.classes s (edit.Set n u))
  set_is place n u t is named = let P : Term → Type 0 = λ x. Changes (Set place x) (changed rules.classes s
      (edit.Set n u)) in subst P is (changes (Set place (term_of rules.classes u)) (edit.Set n u) (set place n u named))

  put_is : (place : Place) (name : List ℕ) (n : Node) (p : ℕ) (u : Tree) (t : Term) → term_of rules.classes u ≡ t
      → node_named rules.classes s session place ≡ Some n → component_named rules.classes s.tree n name ≡ Some p
      → Changes (Put place name t) (changed rules.classes s (edit.Put n p u))
  put_is place name n p u t is named has = let P : Term
      → Type 0 = λ x. Changes (Put place name x) (changed rules.classes s (edit.Put n p u)) in
      subst P is (changes (Put place name (term_of rules.classes u)) (edit.Put n p u) (put place name n p u named has))

  insert_is : (place : Place) (name : List ℕ) (n : Node) (p index : ℕ) (u : Tree) (t : Term) → term_of rules.classes u
      ≡ t → node_named rules.classes s session place ≡ Some n → component_named rules.classes s.tree n name ≡ Some p
      → Changes (Insert place name index t) (changed rules.classes s (edit.Insert n p index u))
  insert_is place name n p index u t is named has = let P : Term → Type 0 = λ x. Changes (Insert place name index x)
      (changed rules.classes s (edit.Insert n p index u)) in subst P is (changes (Insert place name index
      (term_of rules.classes u)) (edit.Insert n p index u) (insert place name n p index u named has))

  pub edit_of : (c : Command) → is_edit c ≡ true → Changes c (obeyed rules s session c)
  edit_of (Ask place attribute arguments) e = absurd cc
  edit_of (Set place t) e = node_is (Set place t) place _ (λ n named. tree_is (Set place t) t (class_asked rules.classes s.tree n) _ (λ u is. set_is place n u t is named))
  edit_of (Put place part t) e = node_is (Put place part t) place
      _ (λ n named. component_is (Put place part t) n part optional_class
      _ (λ p b has. tree_is (Put place part t) t (Some b) _ (λ u is. put_is place part n p u t is named has)))
  edit_of (Drop place) e = node_is (Drop place) place _ (λ n named. changes (Drop place) (edit.Drop n) (drop place n named))
  edit_of (Insert place part index t) e = node_is (Insert place part index t) place
      _ (λ n named. component_is (Insert place part index t) n part list_class _ (λ p b has.
      tree_is (Insert place part index t) t (Some b) _ (λ u is. insert_is place part n p index u t is named has)))
  edit_of (Token place part v) e = node_is (Token place part v) place
      _ (λ n named. component_is (Token place part v) n part token_kind
      _ (λ p kind has. changes (Token place part v) (edit.Token n p v) (token place part n p v named has)))
  edit_of (Move place to part index) e =
      node_is (Move place to part index) place _ (λ n named.
      node_is (Move place to part index) to _ (λ m also.
      component_is (Move place to part index) m part list_class _ (λ p b has. changes (Move place to part index) (edit.Move n m p index) (move place to part n m p index named also has))))
  edit_of (Show place) e = absurd cc
  edit_of (Mark name place) e = absurd cc
  edit_of (Unmark name) e = absurd cc
  edit_of (Where name) e = absurd cc
  edit_of Version e = absurd cc
  edit_of (Post place attribute arguments) e = absurd cc
  edit_of (Wait number) e = absurd cc

-- the edit of an accepted line
abbrev pub EditOf : Rules → State → Line → State → Type 0
EditOf rules old l new = (e : Edit) × IsEditOf rules.classes old l.session l.command e × (edited rules.classes old.tree
    e ≡ Ok new.tree) × (new.marks ≡ carried_marks e old.marks) × (new.posted ≡ map (carried_posted e) old.posted)

edit_after : (rules : Rules) (old : State) (l : Line) (v : Verdict) → IsChangeOf rules.classes old l.session l.command v
    → (form : Form) (version : ℕ) → Says rules old v form → form ≡ Done version → EditOf rules old l (after old v)
edit_after rules old l v (refused c) form version says is = absurd cc
edit_after rules old l v (accepted e t asked done) form version says is = (e, asked, done, refl, refl)

pub accepted_of : (rules : Rules) (old : State) (l : Line) (new : State) (reply : Reply) (version : ℕ)
    → is_edit l.command ≡ true → Step rules old l new reply → reply.form ≡ Done version → EditOf rules old l new
accepted_of rules old l new reply version is h form =
    let P : State → Type 0 = λ x. EditOf rules old l x in
    subst P (sym h.state) (edit_after rules old l (verdict rules old l) (whole (IsChangeOf rules.classes old l.session
    l.command) refused rules old l (edit_of rules old l.session l.command is)) reply.form version h.says form)

-- whether a test finds something behind another one
find_kept : {A : Type 0} (p q : A → Bool) → ((a : A) → p a ≡ true → q a ≡ true) → (xs : List A) → find p (filter q xs) ≡ find p xs
find_kept p q h [] = refl
find_kept p q h (x ∷ xs) = at_head (p x) (q x) refl (h x) (find_kept p q h xs)
  where
    at_head : (a b : Bool) → p x ≡ a → (a ≡ true → b ≡ true) → find p (filter q xs) ≡ find p xs → find p (cond b (x ∷ filter q xs) (filter q xs)) ≡ cond a (Some x) (find p xs)
    at_head true true is g e = rw is refl
    at_head true false is g e = let f : false ≡ true = g refl in absurd cc
    at_head false true is g e = rw is e
    at_head false false is g e = e

find_lost : {A : Type 0} (p : A → Bool) (xs : List A) → find p (filter (λ a. not (p a)) xs) ≡ None
find_lost p [] = refl
find_lost p (x ∷ xs) = at_head (p x) refl (find_lost p xs)
  where
    at_head : (a : Bool) → p x ≡ a → find p (filter (λ a. not (p a)) xs) ≡ None → find p (cond (not a) (x ∷ filter (λ a. not (p a)) xs) (filter (λ a. not (p a)) xs)) ≡ None
    at_head true is e = e
    at_head false is e = rw is e

on : (b : Bool) → not b ≡ false → b ≡ true
on true e = refl
on false e = absurd cc

-- a mark has one name and one session
same_mark : (a b : ℕ) (name other : List ℕ) (m : Marked) → is_mark a name m ≡ true → is_mark b other m ≡ true → (nat_eq b a ≡ true) × (bytes_eq other name ≡ true)
same_mark a b name other m e f =
    let (p, q) = both (nat_eq a m.session) (bytes_eq name m.name) e in
    let (r, t) = both (nat_eq b m.session) (bytes_eq other m.name) f in
    (eq-eqb b a (eqb-true b m.session r ∙ sym (eqb-true a m.session p)), (bytes_eq-Decides other name).1 ((bytes_eq-Decides other m.name).0 t ∙ sym ((bytes_eq-Decides name m.name).0 q)))

module _ (rules : Rules) (s : State) (session : ℕ) where
  -- the verdict leaves the marks that the test doesn't tell
  abbrev pub Spares : (ℕ → List ℕ → Bool) → Verdict → Type 0
  Spares test v = (other : ℕ) (name : List ℕ) → test other name ≡ false → marked (after s v).marks other name ≡ marked s.marks other name

  -- those of another session or another name
  abbrev pub about : Command → ℕ → List ℕ → Bool
  about c other name = nat_eq session other && changes_mark c name

  unchanged : (c : Command) (code : Code) → Spares (about c) (Refuses code)
  unchanged c code other name e = refl

  question_spares : (c : Command) (n : Node) (name : List ℕ) (vs : List (Value Node)) → Spares (about c) (questioned rules s.tree n name vs)
  question_spares c n name vs = at_option (Spares (about c)) (unchanged c)
      (option_and_then (λ u. attribute_asked rules (class_of u) name (length vs)) (tree_at s.tree n)) code.Attribute
      _ (λ a. if_both (Spares (about c)) (suit rules s.tree a vs)
      _ _ (λ other name e. refl) (unchanged c code.Arguments))

  one_more : (name : List ℕ) (place : Place) (n : Node) → Spares (about (Mark name place)) (Leaves (s.marks ++ record { session = session; name = name; node = n } ∷ []))
  one_more name place n other called e =
      let m : Marked = record { session = session; name = name; node = n } in
      let no : is_mark other called m ≡ false =
      not_true (is_mark other called m) (λ is. let f : (nat_eq session other && bytes_eq name called) ≡ true =
      let b = same_mark other session called name m is (and_true (nat_eq session session) (bytes_eq name name)
      (eq-eqb session session refl) ((bytes_eq-Decides name name).1 refl)) in
      and_true (nat_eq session other) (bytes_eq name called) b.0 b.1 in cc) in
      ap (option_map (λ m. m.node)) (find-append (is_mark other called) s.marks (m ∷ []) ∙ at_end (find (is_mark other called) s.marks) m (is_mark other called m) no)
    where
      at_end : (o : Option Marked) (m : Marked) (b : Bool) → b ≡ false → option_or o (cond b (Some m) None) ≡ o
      at_end None m b is = rw is refl
      at_end (Some x) m b is = refl

  one_less : (name : List ℕ) → Spares (about (Unmark name)) (Leaves (filter (λ m. not (is_mark session name m)) s.marks))
  one_less name other called e = ap (option_map (λ m. m.node))
      (find_kept (is_mark other called) (λ m. not (is_mark session name m)) (λ m is. stays (is_mark session name m)
      (λ also. let b = same_mark other session called name m is also in let f : (nat_eq session other
      && bytes_eq name called) ≡ true = and_true (nat_eq session other) (bytes_eq name called) b.0 b.1 in cc)) s.marks)
    where
      stays : (b : Bool) → (b ≡ true → ⊥) → not b ≡ true
      stays true h = absurd (h refl)
      stays false h = refl

  pub spares : (c : Command) → is_edit c ≡ false → Spares (about c) (obeyed rules s session c)
  spares (Ask place attribute arguments) e =
      node_all (Spares (about (Ask place attribute arguments))) (unchanged (Ask place attribute arguments))
      rules.classes s session place _ (λ n. at_option (Spares (about (Ask place attribute arguments)))
      (unchanged (Ask place attribute arguments)) (each (map (value_named rules.classes s session) arguments)) code.Path
      _ (λ vs. question_spares (Ask place attribute arguments) n attribute vs))
  spares (Set place t) e = absurd cc
  spares (Put place part t) e = absurd cc
  spares (Drop place) e = absurd cc
  spares (Insert place part index t) e = absurd cc
  spares (Token place part v) e = absurd cc
  spares (Move place to part index) e = absurd cc
  spares (Show place) e = node_all (Spares (about (Show place))) (unchanged (Show place)) rules.classes s session place
      _ (λ n. at_option (Spares (about (Show place))) (unchanged (Show place)) (tree_at s.tree n) code.Path
      _ (λ u other name f. refl))
  spares (Mark name place) e = node_all (Spares (about (Mark name place))) (unchanged (Mark name place)) rules.classes s
      session place _ (λ n. if_both (Spares (about (Mark name place))) (is_marked s.marks session name) _ _ (unchanged
      (Mark name place) code.Taken) (if_both (Spares (about (Mark name place))) (nat_le max_marks (count_by
      (λ m. nat_eq session m.session) s.marks)) _ _ (unchanged (Mark name place) code.Limit) (one_more name place n)))
  spares (Unmark name) e = one_less name
  spares (Where name) e = at_option (Spares (about (Where name))) (unchanged (Where name)) (marked s.marks session name) code.Mark _ (λ n other called f. refl)
  spares Version e = λ other name f. refl
  spares (Post place attribute arguments) e = post_all (Spares (about (Post place attribute arguments)))
      (unchanged (Post place attribute arguments)) s session place attribute arguments (λ other name f. refl)
  spares (Wait number) e = if_both (Spares (about (Wait number))) (list_any (is_posted session number) s.posted) _ _ (λ other name f. refl) (unchanged (Wait number) code.Question)

  -- the verdict leaves the state
  abbrev pub Same : Verdict → Type 0
  Same v = after s v ≡ s

  stays : (code : Code) → Same (Refuses code)
  stays code = refl

  pub same : (c : Command) → is_edit c ≡ false → is_marking c ≡ false → is_post c ≡ false → Same (obeyed rules s session c)
  same (Ask place attribute arguments) e f g = node_all Same stays rules.classes s session place _ (λ n.
      at_option Same stays (each (map (value_named rules.classes s session) arguments)) code.Path _ (λ vs. at_option
      Same stays (option_and_then (λ u. attribute_asked rules (class_of u) attribute (length vs)) (tree_at s.tree n)) code.Attribute
      _ (λ a. if_both Same (suit rules s.tree a vs) _ _ refl refl)))
  same (Set place t) e f g = absurd cc
  same (Put place part t) e f g = absurd cc
  same (Drop place) e f g = absurd cc
  same (Insert place part index t) e f g = absurd cc
  same (Token place part v) e f g = absurd cc
  same (Move place to part index) e f g = absurd cc
  same (Show place) e f g = node_all Same stays rules.classes s session place _ (λ n. at_option Same stays (tree_at s.tree n) code.Path _ (λ u. refl))
  same (Mark name place) e f g = absurd cc
  same (Unmark name) e f g = absurd cc
  same (Where name) e f g = at_option Same stays (marked s.marks session name) code.Mark _ (λ n. refl)
  same Version e f g = refl
  same (Post place attribute arguments) e f g = absurd cc
  same (Wait number) e f g = if_both Same (list_any (is_posted session number) s.posted) _ _ refl refl

  -- the verdict asks no question
  abbrev pub Tellable : Verdict → Type 0
  Tellable v = (q : Instance Node) → v ≡ Asks q → ⊥

  untold : (code : Code) → Tellable (Refuses code)
  untold code q e = cc

  of_edit : (v : Verdict) (c : Command) → IsChangeOf rules.classes s session c v → Tellable v
  of_edit v c (refused code) q e = cc
  of_edit v c (accepted by t asked is) q e = cc

  pub tellable : (c : Command) → is_question c ≡ false → Tellable (obeyed rules s session c)
  tellable (Ask place attribute arguments) e = absurd cc
  tellable (Set place t) e = of_edit _ (Set place t) (edit_of rules s session (Set place t) refl)
  tellable (Put place part t) e = of_edit _ (Put place part t) (edit_of rules s session (Put place part t) refl)
  tellable (Drop place) e = of_edit _ (Drop place) (edit_of rules s session (Drop place) refl)
  tellable (Insert place part index t) e = of_edit _ (Insert place part index t) (edit_of rules s session (Insert place part index t) refl)
  tellable (Token place part v) e = of_edit _ (Token place part v) (edit_of rules s session (Token place part v) refl)
  tellable (Move place to part index) e = of_edit _ (Move place to part index) (edit_of rules s session (Move place to part index) refl)
  tellable (Show place) e = node_all Tellable untold rules.classes s session place _ (λ n. at_option Tellable untold (tree_at s.tree n) code.Path _ (λ u q f. cc))
  tellable (Mark name place) e = node_all Tellable untold rules.classes s session place
      _ (λ n. if_both Tellable (is_marked s.marks session name) _ _ (untold code.Taken) (if_both Tellable
      (nat_le max_marks (count_by (λ m. nat_eq session m.session) s.marks)) _ _ (untold code.Limit) (λ q f. cc)))
  tellable (Unmark name) e = λ q f. cc
  tellable (Where name) e = at_option Tellable untold (marked s.marks session name) code.Mark _ (λ n q f. cc)
  tellable Version e = λ q f. cc
  tellable (Post place attribute arguments) e = post_all Tellable untold s session place attribute arguments (λ q f. cc)
  tellable (Wait number) e = if_both Tellable (list_any (is_posted session number) s.posted) _ _ (λ q f. cc) (untold code.Question)

pub spared_step : (rules : Rules) (old : State) (l : Line) (new : State) (reply : Reply) → is_edit l.command ≡ false → Step rules old l new reply →
    (other : ℕ) (name : List ℕ) → is_about_mark l other name ≡ false → marked new.marks other name ≡ marked old.marks other name
spared_step rules old l new reply is h other name e =
    let P : State → Type 0 = λ x. marked x.marks other name ≡ marked old.marks other name in
    subst P (sym h.state) (whole (Spares rules old l.session (about rules old l.session l.command))
    (unchanged rules old l.session l.command) rules old l (spares rules old l.session l.command is) other name e)

pub same_step : (rules : Rules) (old : State) (l : Line) (new : State) (reply : Reply) → is_edit l.command ≡ false
    → is_marking l.command ≡ false → is_post l.command ≡ false → Step rules old l new reply → new ≡ old
same_step rules old l new reply e f g h = h.state ∙ whole (Same rules old l.session) (stays rules old l.session) rules old l (same rules old l.session l.command e f g)

-- the verdict on what is neither an edit nor posts leaves the open questions
module _ (rules : Rules) (s : State) (session : ℕ) where
  abbrev LeavesPosted : Verdict → Type 0
  LeavesPosted v = (after s v).posted ≡ s.posted

  refused_leaves : (code : Code) → LeavesPosted (Refuses code)
  refused_leaves code = refl

  marking_leaves : (c : Command) → is_marking c ≡ true → LeavesPosted (obeyed rules s session c)
  marking_leaves (Mark name place) e = node_all LeavesPosted refused_leaves rules.classes s session place
      _ (λ n. if_both LeavesPosted (is_marked s.marks session name) _ _ refl
      (if_both LeavesPosted (nat_le max_marks (count_by (λ m. nat_eq session m.session) s.marks)) _ _ refl refl))
  marking_leaves (Unmark name) e = refl
  marking_leaves c e = absurd cc

  pub leaves_posted : (c : Command) → is_edit c ≡ false → is_post c ≡ false → LeavesPosted (obeyed rules s session c)
  leaves_posted c e f = by_marking (is_marking c) refl
    where
      by_marking : (b : Bool) → is_marking c ≡ b → LeavesPosted (obeyed rules s session c)
      by_marking true is = marking_leaves c is
      by_marking false is = ap (λ (x : State). x.posted) (same rules s session c e is f)

none_carried : (e : Edit) (qs : List Posted) → qs ≡ [] → map (carried_posted e) qs ≡ []
none_carried e [] is = refl
none_carried e (q ∷ qs) is = absurd cc

none_changed : (rules : Rules) (s : State) (l : Line) (v : Verdict) → s.posted ≡ [] → IsChangeOf rules.classes s l.session l.command v → (after s v).posted ≡ []
none_changed rules s l v none (refused code) = none
none_changed rules s l v none (accepted e t asked is) = none_carried e s.posted none

-- where none is open, none is behind a line that posts none
pub none_after : (rules : Rules) (s : State) (l : Line) → s.posted ≡ [] → is_post l.command ≡ false → (after s (verdict rules s l)).posted ≡ []
none_after rules s l none f = by_edit (is_edit l.command) refl
  where
    by_edit : (b : Bool) → is_edit l.command ≡ b → (after s (verdict rules s l)).posted ≡ []
    by_edit true is = none_changed rules s l (verdict rules s l) none (whole (IsChangeOf rules.classes s l.session l.command) refused rules s l (edit_of rules s l.session l.command is))
    by_edit false is = whole (λ v. (after s v).posted ≡ s.posted) (λ code. refl) rules s l (leaves_posted rules s l.session l.command is f) ∙ none

-- a question that is posted is one more that is open
abbrev pub OpensAs : State → Posted → Verdict → Type 0
OpensAs s q v = (form : Form) (number : ℕ) → (rules : Rules) → Says rules s v form → form ≡ Opened number
    → (number ≡ q.number) × (after s v ≡ record s { posts = q.number; posted = s.posted ++ q ∷ [] })

pub posted_step : (rules : Rules) (old : State) (l : Line) (new : State) (reply : Reply) (number : ℕ) (place : Place)
    (attribute : List ℕ) (arguments : List Argument) → l.command ≡ Post place attribute arguments
    → Step rules old l new reply → reply.form ≡ Opened number →
    (number ≡ old.posts + 1) × (new ≡ record old { posts = old.posts + 1; posted = old.posted ++ new_post old l.session place attribute arguments ∷ [] })
posted_step rules old l new reply number place attribute arguments is h form =
    let q = new_post old l.session place attribute arguments in
    let Q : Command → Type 0 = λ c. OpensAs old q (obeyed rules old l.session c) in
    let opens : OpensAs old q (verdict rules old l) = whole (OpensAs old q) (λ code f n r says e. absurd cc) rules old l
    (subst Q (sym is) (post_all (OpensAs old q) (λ code f n r says e. absurd cc) old l.session place attribute arguments
    (λ f n r says e. (let same : Opened q.number ≡ Opened n = sym says ∙ e in cc, refl)))) in
    let (number_is, state) = opens reply.form number rules h.says form in
    (number_is, h.state ∙ state)

pub tellable_line : (rules : Rules) (old : State) (l : Line) (q : Instance Node) → is_question l.command ≡ false → verdict rules old l ≡ Asks q → ⊥
tellable_line rules old l q e = whole (Tellable rules old l.session) (untold rules old l.session) rules old l (tellable rules old l.session l.command e) q

asked_or_not : (rules : Rules) (old : State) (l : Line) (q : Instance Node) (b : Bool) → is_question l.command ≡ b → verdict rules old l ≡ Asks q → b ≡ true
asked_or_not rules old l q true is e = refl
asked_or_not rules old l q false is e = absurd (tellable_line rules old l q is e)

pub asked_line : (rules : Rules) (old : State) (l : Line) (q : Instance Node) → verdict rules old l ≡ Asks q → is_question l.command ≡ true
asked_line rules old l q e = asked_or_not rules old l q (is_question l.command) refl e

module _ (rules : Rules) (s : State) (session : ℕ) where
  -- the mark, where the verdict is told as done
  abbrev pub MarksAs : List ℕ → Option Node → Verdict → Type 0
  MarksAs name o v = (form : Form) (version : ℕ) → Says rules s v form → form ≡ Done version → marked (after s v).marks session name ≡ o

  undone : (name : List ℕ) (o : Option Node) (code : Code) → MarksAs name o (Refuses code)
  undone name o code form version says e = absurd cc

  at_new : (name : List ℕ) (n : Node) → is_marked s.marks session name ≡ false → marked (s.marks ++ record { session = session; name = name; node = n } ∷ []) session name ≡ Some n
  at_new name n free =
      let m : Marked = record { session = session; name = name; node = n } in
      ap (option_map (λ m. m.node))
      (find-append (is_mark session name) s.marks (m ∷ []) ∙ at_end (find (is_mark session name) s.marks)
      (is_mark session name m) (none (find (is_mark session name) s.marks) free) (and_true (nat_eq session session)
      (bytes_eq name name) (eq-eqb session session refl) ((bytes_eq-Decides name name).1 refl)))
    where
      none : (o : Option Marked) → is_some (option_map (λ m. m.node) o) ≡ false → o ≡ None
      none None e = refl
      none (Some m) e = absurd cc

      at_end : (o : Option Marked) (b : Bool) → o ≡ None → b ≡ true
          → option_or o (cond b (Some (record { session = session; name = name; node = n })) None)
          ≡ Some (record { session = session; name = name; node = n })
      at_end o b e f = rw (e, f) refl

  mark_made : (name : List ℕ) (n : Node) → MarksAs name (Some n) (with_mark s session name n)
  mark_made name n = by_name (is_marked s.marks session name) refl
    where
      by_name : (b : Bool) → is_marked s.marks session name ≡ b → MarksAs name (Some n)
          (if b then Refuses code.Taken else (if nat_le max_marks (count_by (λ m. nat_eq session m.session) s.marks)
          then Refuses code.Limit else Leaves (s.marks ++ record { session = session; name = name; node = n } ∷ [])))
      by_name true is = undone name (Some n) code.Taken
      by_name false is = if_both (MarksAs name (Some n)) (nat_le max_marks (count_by (λ m. nat_eq session m.session)
          s.marks)) _ _ (undone name (Some n) code.Limit) (λ form version says e. at_new name n is)

  made : (name : List ℕ) (place : Place) (o : Option Node) → node_named rules.classes s session place ≡ o → MarksAs name o (elim o [ None ↦ Refuses code.Path | Some n ↦ with_mark s session name n ])
  made name place None is = undone name None code.Path
  made name place (Some n) is = mark_made name n

  forgotten : (name : List ℕ) → MarksAs name None (Leaves (filter (λ m. not (is_mark session name m)) s.marks))
  forgotten name form version says e = ap (option_map (λ m. m.node)) (find_lost (is_mark session name) s.marks)

pub made_step : (rules : Rules) (old : State) (l : Line) (new : State) (reply : Reply) (version : ℕ) (name : List ℕ)
    (place : Place) → l.command ≡ Mark name place → Step rules old l new reply → reply.form ≡ Done version →
    marked new.marks l.session name ≡ node_named rules.classes old l.session place
made_step rules old l new reply version name place is h form =
    let P : State → Type 0 = λ x. marked x.marks l.session name ≡ node_named rules.classes old l.session place in
    let Q : Command → Type 0 = λ c. MarksAs rules old l.session name (node_named rules.classes old l.session place) (obeyed rules old l.session c) in
    subst P (sym h.state) (whole (MarksAs rules old l.session name (node_named rules.classes old l.session place))
    (undone rules old l.session name (node_named rules.classes old l.session place)) rules old l
    (subst Q (sym is) (made rules old l.session name place (node_named rules.classes old l.session place) refl)) reply.form version h.says form)

pub forgotten_step : (rules : Rules) (old : State) (l : Line) (new : State) (reply : Reply) (version : ℕ)
    (name : List ℕ) → l.command ≡ Unmark name → Step rules old l new reply → reply.form ≡ Done version
    → marked new.marks l.session name ≡ None
forgotten_step rules old l new reply version name is h form =
    let P : State → Type 0 = λ x. marked x.marks l.session name ≡ None in
    let Q : Command → Type 0 = λ c. MarksAs rules old l.session name None (obeyed rules old l.session c) in
    subst P (sym h.state) (whole (MarksAs rules old l.session name None) (undone rules old l.session name None) rules
    old l (subst Q (sym is) (forgotten rules old l.session name)) reply.form version h.says form)
