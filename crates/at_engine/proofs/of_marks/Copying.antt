-- Copies of marks: they stand for the marks that the session has under these names.
use Rattle.std.proofs.Common.{◌≡◌, ℕ, ◌+◌, ◌<◌, ◌≤◌, Bool, true, false, cond, nat_eq, List, [], ◌∷◌, ◌++◌, length, drop, get_or, Option, Some, None, is_some, option_map, option_and_then, refl, sym, ap, ◌∙◌, subst, append_assoc, append-nil}
use Rattle.std.specs.List.{find, cons_option, flat_map}
use Rattle.std.specs.Str.{bytes_eq}
use Rattle.std.proofs.lemmas.Bool.{and_parts, eqb-true}
use Rattle.std.proofs.lemmas.List.{drop_all}
use Rattle.at_model.specs.Paths.{Node}
use Rattle.at_model.specs.Machine.{Marked, is_mark, marks_in_argument, marks_named}
use Rattle.at_model.proofs.of_texts.Shaped.{same_bytes}
use Rattle.at_protocol.specs.LineView.{argument_view, arguments_view}
use Rattle.at_protocol.specs.declared.line.Argument.{Argument}
use Rattle.at_engine.specs.Marks.{Mark, AreThere, Copies, is_named, mark_at, marks_view, number_marked}
use Rattle.at_engine.proofs.Positions.{drop_next}
use Rattle.at_engine.proofs.of_marks.Marked.{path_there, pushed, there_pushed}

module _ (look : ℕ → Option Node) (session : ℕ) (name : List ℕ) where
  abbrev copy_at : Node → Marked
  copy_at n = record { session = session; name = name; node = n }

  abbrev copy_of : ℕ → Option Marked
  copy_of k = option_map copy_at (look k)

  is_copy : (m : Mark) (n : Node) → is_named session name m ≡ true → mark_at m n ≡ copy_at n
  is_copy m n e =
      let (a, b) = and_parts (nat_eq session m.session) (bytes_eq name m.name) e in
      let s : m.session ≡ session = sym (eqb-true session m.session a) in
      let t : m.name ≡ name = sym (same_bytes name m.name b) in
      λ i. record { session = s i; name = t i; node = n }

  first_copy : (m : Mark) (ms : List Mark) (n : Node) (b : Bool) → look m.node ≡ Some n → is_named session name m ≡ b
      → find (is_mark session name) (marks_view look ms) ≡ option_and_then copy_of (number_marked ms session name)
      → cond b (Some (mark_at m n)) (find (is_mark session name) (marks_view look ms)) ≡ option_and_then copy_of (option_map (λ (x : Mark). x.node) (cond b (Some m) (find (is_named session name) ms)))
  first_copy m ms n true e is rest = ap Some (is_copy m n is) ∙ sym (ap (option_map copy_at) e)
  first_copy m ms n false e is rest = rest

  -- what the session has marked so, is what its number stands for
  pub found_mark : (ms : List Mark) → AreThere look ms → find (is_mark session name) (marks_view look ms) ≡ option_and_then copy_of (number_marked ms session name)
  found_mark [] h = refl
  found_mark (m ∷ ms) h =
      let (n, e) = path_there (look m.node) h.0 in
      let P : Option Node → Type 0 = λ o. find (is_mark session name) (cons_option (option_map (mark_at m) o) (marks_view look ms)) ≡ option_and_then copy_of (number_marked (m ∷ ms) session name) in
      subst P (sym e) (first_copy m ms n (is_named session name m) e refl (found_mark ms h.1))

  number_by : (m : Mark) (o : Option Mark) (b : Bool) → is_some (look m.node) ≡ true → ((k : ℕ) → option_map (λ (x : Mark). x.node) o ≡ Some k → is_some (look k) ≡ true)
      → (k : ℕ) → option_map (λ (x : Mark). x.node) (cond b (Some m) o) ≡ Some k → is_some (look k) ≡ true
  number_by m o true h rest k e = let same : m.node ≡ k = cc in subst (λ j. is_some (look j) ≡ true) same h
  number_by m o false h rest k e = rest k e

  pub number_there : (ms : List Mark) → AreThere look ms → (k : ℕ) → number_marked ms session name ≡ Some k → is_some (look k) ≡ true
  number_there [] h k e = absurd cc
  number_there (m ∷ ms) h k e = number_by m (find (is_named session name) ms) (is_named session name m) h.0 (number_there ms h.1) k e

-- no mark more
pub copied_nothing : (session : ℕ) (marks old new : List Mark) → new ≡ old → Copies session [] marks old new
copied_nothing session marks old new same = record {
  named = λ look h. ap (marks_view look) same ∙ sym (append-nil (marks_view look old));
  there = λ look h g. subst (AreThere look) (sym same) g;
}

module _ (session : ℕ) (name : List ℕ) (marks old new : List Mark) where
  -- there is no mark of that name
  pub copied_none : number_marked marks session name ≡ None → new ≡ old → Copies session (name ∷ []) marks old new
  copied_none none same = record {
    named = λ look h. ap (marks_view look) same ∙ sym (append-nil (marks_view look old)) ∙ sym (ap (λ (o : Option Marked). marks_view look old ++ cons_option o []) (found_mark look session name marks h ∙ ap (option_and_then (copy_of look session name)) none));
    there = λ look h g. subst (AreThere look) (sym same) g;
  }

  -- there is one
  pub copied_one : (k : ℕ) (m : Mark) → number_marked marks session name ≡ Some k → m.session ≡ session → m.name ≡ name → m.node ≡ k → new ≡ old ++ m ∷ [] → Copies session (name ∷ []) marks old new
  copied_one k m is s t n more = record {
    named = λ look h.
        let (p, e) = path_there (look k) (number_there look session name marks h k is) in
        let at : look m.node ≡ Some p = ap look n ∙ e in
        let same : mark_at m p ≡ copy_at look session name p = λ i. record { session = s i; name = t i; node = p } in
        ap (marks_view look) more ∙ pushed look old m p at ∙ ap (λ x. marks_view look old ++ x ∷ []) same
        ∙ sym (ap (λ (o : Option Marked). marks_view look old ++ cons_option o []) (found_mark look session name marks h ∙ ap (option_and_then (copy_of look session name)) is ∙ ap (option_map (copy_at look session name)) e));
    there = λ look h g.
        let (p, e) = path_there (look k) (number_there look session name marks h k is) in
        subst (AreThere look) (sym more) (there_pushed look old m (ap (λ j. is_some (look j)) n ∙ ap is_some e) g);
  }

-- names and then others
named_append : (session : ℕ) (ms : List Marked) (names others : List (List ℕ)) → marks_named ms session (names ++ others) ≡ marks_named ms session names ++ marks_named ms session others
named_append session ms [] others = refl
named_append session ms (n ∷ names) others =
    elim (find (is_mark session n) ms) as (λ o. cons_option o (marks_named ms session (names ++ others)) ≡ cons_option o (marks_named ms session names) ++ marks_named ms session others) [
      | None ↦ named_append session ms names others
      | Some m ↦ ap (λ l. m ∷ l) (named_append session ms names others)
    ]

pub copied_then : (session : ℕ) (names others : List (List ℕ)) (marks old mid new : List Mark) → Copies session names marks old mid → Copies session others marks mid new → Copies session (names ++ others) marks old new
copied_then session names others marks old mid new a b = record {
  named = λ look h. b.named look h ∙ ap (λ l. l ++ marks_named (marks_view look marks) session others) (a.named look h) ∙ append_assoc (marks_view look old) (marks_named (marks_view look marks) session names) (marks_named (marks_view look marks) session others)
      ∙ ap (λ l. marks_view look old ++ l) (sym (named_append session (marks_view look marks) names others));
  there = λ look h g. b.there look h (a.there look h g);
}

-- The marks that stand before the rest of the arguments are copied.
pub record CopiedUpTo (session : ℕ) (all : List (List ℕ)) (marks copies : List Mark) (rest : List Argument) : Type 0 where
  pub names : List (List ℕ)
  pub copied : Copies session names marks [] copies
  pub split : all ≡ names ++ flat_map marks_in_argument (arguments_view rest)

module _ (session : ℕ) (all : List (List ℕ)) (marks : List Mark) where
  pub copied_first : (names : List (List ℕ)) (start copies : List Mark) (rest : List Argument) → start ≡ [] → Copies session names marks start copies → all ≡ names ++ flat_map marks_in_argument (arguments_view rest) → CopiedUpTo session all marks copies rest
  copied_first names start copies rest none c split = record { names = names; copied = subst (λ (l : List Mark). Copies session names marks l copies) none c; split = split }

  module _ (copies : List Mark) (arguments : List Argument) (i : ℕ) (c : CopiedUpTo session all marks copies (drop i arguments)) where
    pub copied_more : (more : List Mark) (a : Argument) → i < length arguments → a ≡ get_or arguments i a → Copies session (marks_in_argument (argument_view a)) marks copies more → CopiedUpTo session all marks more (drop (i + 1) arguments)
    copied_more more a less is d = record {
      names = c.names ++ marks_in_argument (argument_view a);
      copied = copied_then session c.names (marks_in_argument (argument_view a)) marks [] copies more c.copied d;
      split = c.split ∙ ap (λ (l : List Argument). c.names ++ flat_map marks_in_argument (arguments_view l)) (drop_next arguments i a less is) ∙ sym (append_assoc c.names (marks_in_argument (argument_view a)) (flat_map marks_in_argument (arguments_view (drop (i + 1) arguments))));
    }

    pub copied_all : length arguments ≤ i → Copies session all marks [] copies
    copied_all past =
        let split : all ≡ c.names ++ [] = c.split ∙ ap (λ (l : List Argument). c.names ++ flat_map marks_in_argument (arguments_view l)) (drop_all i arguments past) in
        subst (λ (ns : List (List ℕ)). Copies session ns marks [] copies) (sym (split ∙ append-nil c.names)) c.copied
