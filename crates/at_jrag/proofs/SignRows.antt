-- What each row of the table answers to `;` and `}`, to `||` behind what passes them, to `getChild`, and to `(`.
use Rattle.std.proofs.Common.{◌≡◌, ℕ, zero, suc, ◌+◌, ◌-◌, List, [], ◌∷◌, Bool, true, false, cond, max, Some, refl, sym, ap, subst}
use Rattle.std.specs.Prelude.{◌&&◌, ◌||◌, ◌==◌, not, nat_lt}
use Rattle.std.specs.Str.{bytes_eq}
use Rattle.std.proofs.lemmas.Slice.Eq.{bytes_eq-Decides}
use lib.Chars.{codes}
use Rattle.at_text.specs.Symbols.{PlacedToken}
use Rattle.at_text.specs.declared.place.Place.{Place}
use Rattle.at_text.specs.Rows.{sign, word, is_name_token}
use Rattle.at_jrag.specs.Grammar.{follows_cast, begins_other}
use Rattle.at_text.specs.Machine.{Answer, Takes, Skips, Refuses, LeavesOut, and_then, Goes, Halts, TooDeep, answered, after}
use Rattle.at_jrag.specs.Wants.{Want, Expression, Binary, Links, Choice, Unary, Minus, Opened, Enclosed, Parenthesized, Calls, Called, Arguments, FirstArgument, MoreArguments, Primary, Named, Deeper, Join, Deepest, Counts, Name, Mark, Decls, Lazy, NotNta, Attribute, Kind, Signed, Opening, Params, Circular, Bracket, Start, Ending, Defined, Close}
use Rattle.at_jrag.specs.Table.{table, is_kind, link_answer, primary_answer, unary_answer, binary_answer, expression_answer}
use Rattle.at_jrag.proofs.Shapes.{loose, firm}
use Rattle.at_jrag.proofs.Pushes.{Comes, Begins, either, then_comes}
use Rattle.at_jrag.proofs.TokenRows.{refused, no_rank}
use Rattle.at_jrag.proofs.Walks.{never}
use Rattle.at_jrag.proofs.Reached.{TakesIt}
use Rattle.at_model.proofs.Options.{and_off}

-- the test holds, as a type that computes
abbrev pub Is : Bool → Type 0
Is true = Unit {0}
Is false = ⊥

pub it_is : (b : Bool) → Is b → b ≡ true
it_is true h = refl
it_is false h = absurd h

is_it : (b : Bool) → b ≡ true → Is b
is_it true h = tt
is_it false h = absurd cc

pub is_not : (b : Bool) → Is (not b) → b ≡ false
is_not true h = absurd h
is_not false h = refl

none_of : (x y : Bool) → y ≡ false → x && y ≡ true → ⊥
none_of x y e h = never (x && y) h (and_off x y e)

-- whatever the answer is
anything : (a : Answer Want) → Comes (λ m. Unit {0}) (Unit {0}) (Unit {0}) a
anything (Takes within more e) = tt
anything (Skips e) = tt
anything Refuses = tt
anything LeavesOut = tt

-- ---- `;` and `}`

abbrev pub end_text : Bool → List ℕ
end_text true = codes ";"
end_text false = codes "}"

-- what takes one of them
abbrev pub EndsAt : Want → Type 0
EndsAt (Mark text) = bytes_eq text (codes ";") || bytes_eq text (codes "}") ≡ true
EndsAt Ending = Unit {0}
EndsAt (Decls forms) = Unit {0}
EndsAt Close = Unit {0}
EndsAt w = ⊥

-- what passes both, and `||`
abbrev pub passes : Want → Bool
passes (Links rank b) = true
passes (Choice b) = true
passes (Calls b) = true
passes (Named g b) = true
passes (Parenthesized b) = true
passes Deeper = true
passes (Join m) = true
passes (Deepest m) = true
passes (Counts n) = true
passes Lazy = true
passes NotNta = true
passes (Circular m) = true
passes w = false

abbrev Ends : Want → Answer Want → Type 0
Ends w a = Comes (λ m. EndsAt w) (Is (passes w)) (Unit {0}) a

end_unary : (x : Bool) (b : ℕ) (at : Place) → unary_answer b (Some (sign (end_text x) at)) ≡ Refuses
end_unary true b at = refl
end_unary false b at = refl

end_binary : (x : Bool) (rank b : ℕ) (at : Place) → binary_answer rank b (Some (sign (end_text x) at)) ≡ Refuses
end_binary x zero b at = end_unary x b at
end_binary x (suc rank) b at = ap (λ a. and_then a (Links rank b ∷ [])) (end_binary x rank b at)

end_mark : (x : Bool) (text : List ℕ) → bytes_eq (end_text x) text ≡ true → bytes_eq text (codes ";") || bytes_eq text (codes "}") ≡ true
end_mark true text h = let e : codes ";" ≡ text = (bytes_eq-Decides (codes ";") text).0 h in ap (λ (s : List ℕ). bytes_eq s (codes ";") || bytes_eq s (codes "}")) (sym e)
end_mark false text h = let e : codes "}" ≡ text = (bytes_eq-Decides (codes "}") text).0 h in ap (λ (s : List ℕ). bytes_eq s (codes ";") || bytes_eq s (codes "}")) (sym e)

pub end_row : (x : Bool) (w : Want) (d : ℕ) (at : Place) → Comes (λ m. EndsAt w) (Is (passes w)) (Unit {0}) (table w d (Some (sign (end_text x) at)))
unfolding table
end_row x (Binary rank b) d at = refused _ _ _ _ (end_binary x rank b at)
end_row true (Links rank b) d at = either (Ends (Links rank b)) (0 == suc rank) _ (Skips d) (λ h. absurd (no_rank 0 rank refl h)) (λ h. tt)
end_row false (Links rank b) d at = either (Ends (Links rank b)) (0 == suc rank) _ (Skips d) (λ h. absurd (no_rank 0 rank refl h)) (λ h. tt)
end_row true (FirstArgument g b) d at = either (Ends (FirstArgument g b)) (g && false) LeavesOut Refuses (λ h. tt) (λ h. tt)
end_row false (FirstArgument g b) d at = either (Ends (FirstArgument g b)) (g && false) LeavesOut Refuses (λ h. tt) (λ h. tt)
end_row true (Params g) d at = either (Ends (Params g)) (g && false) LeavesOut Refuses (λ h. tt) (λ h. tt)
end_row false (Params g) d at = either (Ends (Params g)) (g && false) LeavesOut Refuses (λ h. tt) (λ h. tt)
end_row true Defined d at = either (Ends Defined) ((d == 0) && false) _ Refuses (λ h. absurd (none_of (d == 0) false refl h)) (λ h. tt)
end_row false Defined d at = either (Ends Defined) ((d == 0) && false) _ Refuses (λ h. absurd (none_of (d == 0) false refl h)) (λ h. tt)
end_row true (Mark text) d at = either (Ends (Mark text)) (bytes_eq (codes ";") text) _ Refuses (λ h. end_mark true text h) (λ h. tt)
end_row false (Mark text) d at = either (Ends (Mark text)) (bytes_eq (codes "}") text) _ Refuses (λ h. end_mark false text h) (λ h. tt)
end_row true w d at = tt
end_row false w d at = tt

-- ---- `||`

abbrev pub bar : Place → PlacedToken
bar at = sign (codes "||") at

-- no limit stops it
unlimited : (within : Bool) (ws : List Want) (e : ℕ) → cond (within || true) (Goes ws e) (Halts TooDeep) ≡ Goes ws e
unlimited true ws e = refl
unlimited false ws e = refl

bar_link : (x : Bool) (rank b d : ℕ) (ws : List Want) (at : Place) → TakesIt ws d (bar at)
    → (more : List Want) × (e : ℕ) × (answered false (cond x (link_answer rank b d (bar at)) (Skips d)) ws (λ y. after false table ws y (bar at)) ≡ Goes more e)
bar_link true rank b d ws at h = (Binary rank (b - 1) ∷ Join d ∷ Links rank b ∷ ws, 0, unlimited (nat_lt d b) _ 0)
bar_link false rank b d ws at h = h

-- behind what passes it, `||` is taken where it is taken behind that
pub bar_passes : (w : Want) (ws : List Want) (d : ℕ) (at : Place) → passes w ≡ true → ((e : ℕ) → TakesIt ws e (bar at)) → TakesIt (w ∷ ws) d (bar at)
unfolding table
bar_passes (Links rank b) ws d at p h = bar_link (6 == suc rank) rank b d ws at (h d)
bar_passes (Choice b) ws d at p h = h d
bar_passes (Calls b) ws d at p h = h d
bar_passes (Named g b) ws d at p h = h 1
bar_passes (Parenthesized b) ws d at p h = h d
bar_passes Deeper ws d at p h = h (1 + d)
bar_passes (Join m) ws d at p h = h (1 + max m d)
bar_passes (Deepest m) ws d at p h = h (max m d)
bar_passes (Counts n) ws d at p h = h n
bar_passes Lazy ws d at p h = h 0
bar_passes NotNta ws d at p h = h 0
bar_passes (Circular m) ws d at p h = h 0
bar_passes w ws d at p h = absurd cc

-- and where the rank of `||` itself goes on, it is taken
pub bar_taken : (b : ℕ) (ws : List Want) (d : ℕ) (at : Place) → TakesIt (Links 5 b ∷ ws) d (bar at)
unfolding table
bar_taken b ws d at = (Binary 5 (b - 1) ∷ Join d ∷ Links 5 b ∷ ws, 0, unlimited (nat_lt d b) _ 0)

-- ---- `getChild`

-- the want that asks for the `(` of a `getChild`
abbrev pub asks : Want → Bool
asks (Arguments g b) = g
asks (Named g b) = g
asks (Enclosed g b) = g
asks (Opening g) = g
asks w = false

abbrev pub get_child : Place → PlacedToken
get_child at = word (codes "getChild") at

abbrev First : Want → Type 0
First v = Is (firm v || asks v)

abbrev Gets : (K : Type 0) → Want → Answer Want → Type 0
Gets K w a = Comes (Begins First (Is (loose w))) K (Unit {0}) a

get_primary : (w : Want) (K : Type 0) (b : ℕ) (at : Place) → Gets K w (primary_answer b (Some (get_child at)))
get_primary w K b at = either (Gets K w) (is_name_token (get_child at)) _ Refuses (λ h. tt) (λ h. tt)

get_unary : (w : Want) (K : Type 0) (b : ℕ) (at : Place) → Gets K w (unary_answer b (Some (get_child at)))
get_unary w K b at = then_comes First (Is (loose w)) K (Unit {0}) (Calls b ∷ []) (primary_answer b (Some (get_child at))) tt (get_primary w (Unit {0}) b at)

get_binary : (w : Want) (K : Type 0) (rank b : ℕ) (at : Place) → Gets K w (binary_answer rank b (Some (get_child at)))
get_binary w K zero b at = get_unary w K b at
get_binary w K (suc rank) b at = then_comes First (Is (loose w)) K (Unit {0}) (Links rank b ∷ []) (binary_answer rank b (Some (get_child at))) tt (get_binary w (Unit {0}) rank b at)

get_expression : (w : Want) (K : Type 0) (b : ℕ) (at : Place) → Gets K w (expression_answer b (Some (get_child at)))
get_expression w K b at = then_comes First (Is (loose w)) K (Unit {0}) (Choice b ∷ []) (binary_answer 6 b (Some (get_child at))) tt (get_binary w (Unit {0}) 6 b at)

pub get_row : (w : Want) (d : ℕ) (at : Place) → Comes (Begins (λ v. Is (firm v || asks v)) (Is (loose w))) (Is (loose w)) (Unit {0}) (table w d (Some (get_child at)))
unfolding table
get_row (Expression b) d at = get_expression (Expression b) _ b at
get_row (Binary rank b) d at = get_binary (Binary rank b) _ rank b at
get_row (Links rank b) d at = either (Gets _ (Links rank b)) (0 == suc rank) _ (Skips d) (λ h. absurd (no_rank 0 rank refl h)) (λ h. tt)
get_row (Unary b) d at = get_unary (Unary b) _ b at
get_row (Minus b) d at = then_comes First _ _ (Unit {0}) (Deeper ∷ []) (unary_answer (b - 1) (Some (get_child at))) tt (get_unary (Minus b) (Unit {0}) (b - 1) at)
get_row (Opened b) d at =
    either (Gets _ (Opened b)) (is_name_token (get_child at)) _ _ (λ h. tt)
    (λ h. then_comes First _ _ (Unit {0}) (Mark (codes ")") ∷ Deeper ∷ Calls b ∷ []) (expression_answer (b - 1) (Some (get_child at))) tt (get_expression (Opened b) (Unit {0}) (b - 1) at))
get_row (Parenthesized b) d at =
    either (Gets _ (Parenthesized b)) (follows_cast (get_child at)) _ _
    (λ h. then_comes First _ _ (Unit {0}) (Deeper ∷ []) (unary_answer (b - 1) (Some (get_child at))) tt (get_unary (Parenthesized b) (Unit {0}) (b - 1) at)) (λ h. tt)
get_row (Called b) d at = either (Gets _ (Called b)) (is_name_token (get_child at)) _ Refuses (λ h. tt) (λ h. tt)
get_row (FirstArgument g b) d at =
    either (Gets _ (FirstArgument g b)) (g && false) LeavesOut _ (λ h. tt)
    (λ h. then_comes First _ _ (Unit {0}) (MoreArguments b ∷ []) (expression_answer b (Some (get_child at))) tt (get_expression (FirstArgument g b) (Unit {0}) b at))
get_row (Primary b) d at = get_primary (Primary b) _ b at
get_row Name d at = either (Gets _ Name) (is_name_token (get_child at)) _ Refuses (λ h. tt) (λ h. tt)
get_row (Attribute forms) d at = either (Gets _ (Attribute forms)) (is_kind (get_child at)) _ Refuses (λ h. tt) (λ h. tt)
get_row Start d at = either (Gets _ Start) (begins_other (get_child at)) LeavesOut Refuses (λ h. tt) (λ h. tt)
get_row Kind d at = either (Gets _ Kind) (is_kind (get_child at)) _ Refuses (λ h. tt) (λ h. tt)
get_row Signed d at = either (Gets _ Signed) (is_name_token (get_child at)) _ Refuses (λ h. tt) (λ h. tt)
get_row (Params g) d at = either (Gets _ (Params g)) (g && false) LeavesOut _ (λ h. tt) (λ h. either (Gets _ (Params g)) (is_kind (get_child at)) _ Refuses (λ i. tt) (λ i. tt))
get_row Defined d at = either (Gets _ Defined) ((d == 0) && false) _ Refuses (λ h. absurd (none_of (d == 0) false refl h)) (λ h. tt)
get_row w d at = tt

-- ---- `[`

abbrev pub bracket : Place → PlacedToken
bracket at = sign (codes "[") at

abbrev pub next_start : List Want → Bool
next_start (Start ∷ ws) = true
next_start ws = false

-- what takes it
abbrev pub TakesBracket : Want → List Want → Type 0
TakesBracket (Mark text) m = bytes_eq text (codes "[") ≡ true
TakesBracket w m = next_start m ≡ true

abbrev Bracketed : Want → Answer Want → Type 0
Bracketed w a = Comes (TakesBracket w) (loose w ≡ true) (Unit {0}) a

no_unary : (b : ℕ) (at : Place) → unary_answer b (Some (bracket at)) ≡ Refuses
no_unary b at = refl

no_binary : (rank b : ℕ) (at : Place) → binary_answer rank b (Some (bracket at)) ≡ Refuses
no_binary zero b at = no_unary b at
no_binary (suc rank) b at = ap (λ a. and_then a (Links rank b ∷ [])) (no_binary rank b at)

same_text : (text : List ℕ) → bytes_eq (codes "[") text ≡ true → bytes_eq text (codes "[") ≡ true
same_text text h = let e : codes "[" ≡ text = (bytes_eq-Decides (codes "[") text).0 h in ap (λ (s : List ℕ). bytes_eq s (codes "[")) (sym e)

pub bracket_row : (w : Want) (d : ℕ) (at : Place) → Comes (TakesBracket w) (loose w ≡ true) (Unit {0}) (table w d (Some (bracket at)))
unfolding table
bracket_row (Binary rank b) d at = refused _ _ _ _ (no_binary rank b at)
bracket_row (Links rank b) d at = either (Bracketed (Links rank b)) (0 == suc rank) _ (Skips d) (λ h. absurd (no_rank 0 rank refl h)) (λ h. refl)
bracket_row (FirstArgument g b) d at = either (Bracketed (FirstArgument g b)) (g && false) LeavesOut Refuses (λ h. tt) (λ h. tt)
bracket_row (Params g) d at = either (Bracketed (Params g)) (g && false) LeavesOut Refuses (λ h. tt) (λ h. tt)
bracket_row Defined d at = either (Bracketed Defined) ((d == 0) && false) _ Refuses (λ h. absurd (none_of (d == 0) false refl h)) (λ h. tt)
bracket_row (Mark text) d at = either (Bracketed (Mark text)) (bytes_eq (codes "[") text) _ Refuses (λ h. same_text text h) (λ h. tt)
bracket_row Bracket d at = refl
bracket_row (Choice b) d at = refl
bracket_row (Calls b) d at = refl
bracket_row (Named g b) d at = refl
bracket_row (Parenthesized b) d at = refl
bracket_row Deeper d at = refl
bracket_row (Join m) d at = refl
bracket_row (Deepest m) d at = refl
bracket_row (Counts n) d at = refl
bracket_row Lazy d at = refl
bracket_row NotNta d at = refl
bracket_row (Circular m) d at = refl
bracket_row w d at = tt

-- ---- `(`

abbrev pub paren : Place → PlacedToken
paren at = sign (codes "(") at

abbrev Opens : Want → Answer Want → Type 0
Opens w a = Comes (λ m. Is (not (firm w))) (Is (loose w)) (Unit {0}) a

not_firm : (text : List ℕ) → bytes_eq (codes "(") text ≡ true → Is (not (not (bytes_eq text (codes "("))))
not_firm text h = let e : codes "(" ≡ text = (bytes_eq-Decides (codes "(") text).0 h in subst (λ (s : List ℕ). Is (not (not (bytes_eq s (codes "("))))) e tt

pub paren_row : (w : Want) (d : ℕ) (at : Place) → Comes (λ m. Is (not (firm w))) (Is (loose w)) (Unit {0}) (table w d (Some (paren at)))
unfolding table
paren_row (Expression b) d at = anything (expression_answer b (Some (paren at)))
paren_row (Binary rank b) d at = anything (binary_answer rank b (Some (paren at)))
paren_row (Links rank b) d at = either (Opens (Links rank b)) (0 == suc rank) _ (Skips d) (λ h. absurd (no_rank 0 rank refl h)) (λ h. tt)
paren_row (FirstArgument g b) d at = either (Opens (FirstArgument g b)) (g && false) LeavesOut _ (λ h. tt) (λ h. tt)
paren_row (Params g) d at = either (Opens (Params g)) (g && false) LeavesOut _ (λ h. tt) (λ h. tt)
paren_row (Mark text) d at = either (Opens (Mark text)) (bytes_eq (codes "(") text) _ Refuses (λ h. not_firm text h) (λ h. tt)
paren_row Defined d at = either (Opens Defined) ((d == 0) && false) _ Refuses (λ h. absurd (none_of (d == 0) false refl h)) (λ h. tt)
paren_row w d at = tt

-- where a parameter or an argument of a `getChild` may begin, `int` is left out
abbrev pub takes_int : Want → Bool
takes_int (FirstArgument g b) = g
takes_int (Params g) = g
takes_int w = false

-- the `(` behind `getChild`
pub paren_asked : (w : Want) (d : ℕ) (at : Place) → asks w ≡ true → Comes (Begins (λ v. takes_int v ≡ true) ⊥) ⊥ (Unit {0}) (table w d (Some (paren at)))
unfolding table
paren_asked (Arguments g b) d at h = h
paren_asked (Named g b) d at h = h
paren_asked (Enclosed g b) d at h = h
paren_asked (Opening g) d at h = h
paren_asked w d at h = absurd cc
