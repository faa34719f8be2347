-- Questions that begin at the root, name no version and have no arguments, cut in front of their attribute.
use Rattle.std.proofs.Common.{◌≡◌, ℕ, ◌+◌, ◌<◌, ◌≤◌, ◌==◌, true, false, true≢false, List, [], ◌∷◌, ◌++◌, length, take, Option, Some, None, is_some, refl, ap, sym, ◌∙◌, subst, arith, append_assoc, length-append}
use Rattle.std.specs.Prelude.{codes}
use Rattle.std.specs.Fmt.{decimal}
use Rattle.std.proofs.lemmas.Bool.{eqb-true}
use Rattle.std.proofs.lemmas.List.{append_cancel_left, append_cancel_right, nil_from_length}
use Rattle.std.proofs.Math.Seq.{take-append_seam}
use Rattle.at_model.specs.Paths.{Path, path_text, IsPath}
use Rattle.at_model.specs.Lines.{Line, Place, From_root, From_mark, Argument, Command, Ask, Spells, call_text, line_text, max_line, max_sessions}
use Rattle.at_model.specs.Names.{IsName}
use Rattle.at_model.proofs.of_texts.OneLine.{same_line}
use Rattle.at_protocol.specs.LineView.{arguments_view}
use Rattle.at_protocol.specs.declared.line.Argument.{Argument as ArgumentValue}
use Rattle.at_protocol.specs.Again.{bare_question, front_text, question}

-- behind the front stands the attribute, with nothing between its parentheses
front_and_call : (session : ℕ) (steps : Path) (attribute : List ℕ) → front_text session steps ++ call_text attribute [] ≡ line_text (bare_question session steps attribute)
front_and_call session steps attribute =
    let call = call_text attribute [] in
    append_assoc (decimal session) (32 ∷ (codes "ask" ++ 32 ∷ (path_text steps ++ 32 ∷ []))) call ∙ ap (λ y. decimal session ++ 32 ∷ (codes "ask" ++ 32 ∷ y)) (append_assoc (path_text steps) (32 ∷ []) call)

front_cut : (line front attribute : List ℕ) (end : ℕ) → line ≡ front ++ call_text attribute [] → end + (length attribute + 2) ≡ length line → take end line ≡ front
front_cut line front attribute end split behind =
    let at : end ≡ length front = omega (arith, behind, ap length split, length-append front (call_text attribute []), length-append attribute (40 ∷ 41 ∷ [])) in
    ap (λ n. take n line) at ∙ ap (take (length front)) split ∙ take-append_seam front (call_text attribute [])

pub front_is : (line attribute : List ℕ) (session end : ℕ) (steps : Path) → Spells line (bare_question session steps attribute) → end + (length attribute + 2) ≡ length line → take end line ≡ front_text session steps
front_is line attribute session end steps h behind = front_cut line (front_text session steps) attribute end (h.text ∙ sym (front_and_call session steps attribute)) behind

-- such a question, told by its parts
pub no_version : (expected : Option ℕ) → is_some expected ≡ false → expected ≡ None
no_version None e = refl
no_version (Some version) e = absurd cc

pub none_given : {A : Type 0} (arguments : List A) → (length arguments == 0) ≡ true → arguments ≡ []
none_given arguments e = nil_from_length arguments (eqb-true (length arguments) 0 e)

pub is_bare : (line attribute : List ℕ) (session : ℕ) (expected : Option ℕ) (place : Place) (steps : Path) (arguments : List Argument) → expected ≡ None → place ≡ From_root steps → arguments ≡ []
    → Spells line (question session expected place attribute arguments) → Spells line (bare_question session steps attribute)
is_bare line attribute session expected place steps arguments none from_root empty = subst (Spells line) (λ i. record { session = session; expected = none i; command = Ask (from_root i) attribute (empty i) })

-- the parts of a line that is such a question
pub bare_parts : (line attribute : List ℕ) (session : ℕ) (expected : Option ℕ) (place : Place) (arguments : List Argument) (steps : Path) → Spells line (question session expected place attribute arguments) → Spells line (bare_question session steps attribute)
    → (expected ≡ None) × (place ≡ From_root steps) × (arguments ≡ [])
bare_parts line attribute session expected place arguments steps h bare =
    let is : question session expected place attribute arguments ≡ bare_question session steps attribute = same_line (question session expected place attribute arguments) (bare_question session steps attribute) h.is_line bare.is_line (sym h.text ∙ bare.text) in
    (ap (λ (l : Line). l.expected) is, ap (λ (l : Line). place_asked l.command) is, ap (λ (l : Line). given l.command) is)
  where
    place_asked : Command → Place
    place_asked (Ask p name as') = p
    place_asked c = place

    given : Command → List Argument
    given (Ask p name as') = as'
    given c = arguments

-- parts that such a question hasn't
pub at_mark : {name : List ℕ} {path steps : Path} → From_mark name path ≡ From_root steps → ⊥
at_mark e = cc

pub some_given : (arguments : List ArgumentValue) → arguments_view arguments ≡ [] → false ≡ (length arguments == 0) → ⊥
some_given [] e other = true≢false (sym other)
some_given (a ∷ as') e other = cc

-- a name behind the front, and nothing between the parentheses behind it
pub asks : (line front word : List ℕ) (session : ℕ) (steps : Path) → line ≡ front ++ call_text word [] → length line ≤ max_line → IsName word → session < max_sessions → IsPath steps → front ≡ front_text session steps
    → Spells line (bare_question session steps word)
asks line front word session steps split short name small path before = record {
  is_line = record { session = small; expected = tt; command = (path, name, tt) };
  text = split ∙ ap (λ y. y ++ call_text word []) before ∙ front_and_call session steps word;
  short = short;
}

-- what stands behind the front of such a question
module _ (line front attribute : List ℕ) (session : ℕ) (steps : Path) (before : front ≡ front_text session steps) (h : Spells line (bare_question session steps attribute)) where
  pub behind_front : line ≡ front ++ call_text attribute []
  behind_front = h.text ∙ sym (front_and_call session steps attribute) ∙ ap (λ y. y ++ call_text attribute []) (sym before)

  pub call_is : (call : List ℕ) → line ≡ front ++ call → call ≡ call_text attribute []
  call_is call split = append_cancel_left front call (call_text attribute []) (sym split ∙ behind_front)

  pub name_is : (call name : List ℕ) → line ≡ front ++ call → call ≡ name ++ codes "()" → name ≡ attribute
  name_is call name split cut = append_cancel_right name attribute (codes "()") (sym cut ∙ call_is call split)
