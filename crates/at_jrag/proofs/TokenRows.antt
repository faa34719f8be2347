-- What each row of the table answers to one token: a keyword, the end of an expression, `||`, `getChild` and `(`.
use Rattle.std.proofs.Common.{arith, ◌≡◌, ℕ, zero, suc, ◌-◌, List, [], ◌∷◌, Bool, true, false, cond, Some, refl, sym, ap, subst, ◌∙◌, inl, inr}
use Rattle.std.specs.Prelude.{◌&&◌, ◌||◌, ◌==◌, ◌⊎◌}
use Rattle.std.proofs.lemmas.Bool.{eqb-true}
use lib.Chars.{codes}
use Rattle.at_text.specs.Symbols.{PlacedToken}
use Rattle.at_text.specs.declared.place.Place.{Place}
use Rattle.at_text.specs.Rows.{word, is_word, is_name_token}
use Rattle.at_jrag.specs.Grammar.{follows_cast, begins_other}
use Rattle.at_text.specs.Machine.{Answer, Skips, Refuses, LeavesOut, and_then}
use Rattle.at_jrag.specs.Wants.{Want, Expression, Binary, Links, Choice, Unary, Minus, Opened, Enclosed, Parenthesized, Calls, Called, FirstArgument, MoreArguments, Primary, Named, Deeper, Join, Deepest, Counts, Name, Mark, File, Decls, Lazy, NotNta, Attribute, Kind, Signed, Params, Circular, Start, Defined, Return}
use Rattle.at_jrag.specs.Table.{table, is_literal, begins_fold, is_kind, link_rank, link_answer, or_else, tails_answer, primary_answer, unary_answer, binary_answer, expression_answer, links_answer}
use Rattle.at_jrag.proofs.Shapes.{loose}
use Rattle.at_jrag.proofs.Pushes.{Comes, either}
use Rattle.at_jrag.proofs.Walks.{never}
use Rattle.at_model.proofs.Options.{or_right, and_off}

-- ---- tests that fail

pub off : (D : Answer Want → Type 0) (x : Bool) (a b : Answer Want) → x ≡ false → D b → D (cond x a b)
off D x a b e h = subst (λ (y : Bool). D (cond y a b)) (sym e) h

pub refused : (T : List Want → Type 0) (K L : Type 0) (a : Answer Want) → a ≡ Refuses → Comes T K L a
refused T K L a e = subst (Comes T K L) (sym e) tt

pub no_rank : (r rank : ℕ) → r ≡ 0 → r == suc rank ≡ true → ⊥
no_rank r rank e h = let k = eqb-true r (suc rank) h in absurd (omega (arith, e, k))

no_link : (t : PlacedToken) → link_rank t ≡ 0 → (rank b d : ℕ) → links_answer rank b d (Some t) ≡ Skips d
no_link t e rank b d = either (λ a. a ≡ Skips d) (link_rank t == suc rank) (link_answer rank b d t) (Skips d) (λ h. absurd (no_rank (link_rank t) rank e h)) (λ h. refl)

no_tails : (t : PlacedToken) → link_rank t ≡ 0 → (rank b : ℕ) (us : List Want) (f : ℕ → Answer Want) (d : ℕ) → ((e : ℕ) → f e ≡ Refuses) → tails_answer rank b us f d (Some t) ≡ Refuses
no_tails t e zero b us f d h = h d
no_tails t e (suc rank) b us f d h =
    no_tails t e rank b (Links rank b ∷ us) (λ x. or_else (links_answer rank b x (Some t)) us f) d (λ x. ap (λ a. or_else a us f) (no_link t e rank b x) ∙ h x)

-- ---- keywords

-- a word that is no name, and stands in no expression
pub record IsKeyword (t : PlacedToken) : Type 0 where
  pub text : List ℕ
  pub at : Place
  pub is : t ≡ word text at
  pub name : is_name_token (word text at) ≡ false
  pub literal : is_literal (word text at) ≡ false
  pub fold : begins_fold (word text at) ≡ false
  pub kind : is_kind (word text at) ≡ false
  pub int : is_word (codes "int") (word text at) ≡ false
  pub link : link_rank (word text at) ≡ 0
  pub cast : follows_cast (word text at) ≡ false

abbrev pub next_lazy : List Want → Bool
next_lazy (Lazy ∷ ws) = true
next_lazy (NotNta ∷ ws) = true
next_lazy ws = false

-- which keyword the want takes
abbrev pub TakesWord : PlacedToken → Want → List Want → Type 0
TakesWord t (File forms) more = is_word (codes "aspect") t ≡ true
TakesWord t (Decls forms) more = (is_word (codes "eq") t ≡ true) ⊎ ((is_word (codes "syn") t || is_word (codes "inh") t ≡ true) × (next_lazy more ≡ true))
TakesWord t Lazy more = (is_word (codes "lazy") t ≡ true) × (next_lazy more ≡ true)
TakesWord t (Circular m) more = is_word (codes "circular") t ≡ true
TakesWord t Return more = is_word (codes "return") t ≡ true
TakesWord t w more = ⊥

abbrev Worded : PlacedToken → Want → Answer Want → Type 0
Worded t w a = Comes (TakesWord t w) (loose w ≡ true) (Unit {0}) a

abbrev IsRefused : Answer Want → Type 0
IsRefused a = a ≡ Refuses

no_primary : (t : PlacedToken) (k : IsKeyword t) (b : ℕ) → primary_answer b (Some (word k.text k.at)) ≡ Refuses
no_primary t k b =
    let u = word k.text k.at in
    off IsRefused (is_literal u) _ _ k.literal (off IsRefused (begins_fold u) _ _ k.fold (off IsRefused (is_name_token u) _ _ k.name refl))

no_unary : (t : PlacedToken) (k : IsKeyword t) (b : ℕ) → unary_answer b (Some (word k.text k.at)) ≡ Refuses
no_unary t k b = ap (λ a. and_then a (Calls b ∷ [])) (no_primary t k b)

no_binary : (t : PlacedToken) (k : IsKeyword t) (rank b : ℕ) → binary_answer rank b (Some (word k.text k.at)) ≡ Refuses
no_binary t k zero b = no_unary t k b
no_binary t k (suc rank) b = ap (λ a. and_then a (Links rank b ∷ [])) (no_binary t k rank b)

no_expression : (t : PlacedToken) (k : IsKeyword t) (b : ℕ) → expression_answer b (Some (word k.text k.at)) ≡ Refuses
no_expression t k b = ap (λ a. and_then a (Choice b ∷ [])) (no_binary t k 6 b)

no_truth : (a b c d : Bool) → a || b || c || d ≡ false → (a ≡ false) × (b ≡ false)
no_truth true b c d h = absurd cc
no_truth false true c d h = absurd cc
no_truth false false c d h = (refl, refl)

word_at : (t : PlacedToken) (k : IsKeyword t) (w : Want) (d : ℕ) → Worded (word k.text k.at) w (table w d (Some (word k.text k.at)))
unfolding table
word_at t k (Expression b) d = refused _ _ _ _ (no_expression t k b)
word_at t k (Binary rank b) d = refused _ _ _ _ (no_binary t k rank b)
word_at t k (Links rank b) d = let u = word k.text k.at in either (Worded u (Links rank b)) (link_rank u == suc rank)
    (link_answer rank b d u) (Skips d) (λ h. absurd (no_rank (link_rank u) rank k.link h)) (λ h. refl)
word_at t k (Choice b) d = refl
word_at t k (Unary b) d = refused _ _ _ _ (no_unary t k b)
word_at t k (Minus b) d = refused _ _ _ _ (ap (λ a. and_then a (Deeper ∷ [])) (no_unary t k (b - 1)))
word_at t k (Opened b) d =
    let u = word k.text k.at in
    off (Worded u (Opened b)) (is_name_token u) _ _ k.name (refused _ _ _ _ (ap (λ a. and_then a (Mark (codes ")") ∷ Deeper ∷ Calls b ∷ [])) (no_expression t k (b - 1))))
word_at t k (Enclosed g b) d =
    let u = word k.text k.at in
    refused _ _ _ _ (ap (λ a. and_then a (Deeper ∷ Calls b ∷ [])) (no_tails u k.link 6 (b - 1) (Choice (b - 1) ∷ Mark (codes ")") ∷ []) _ 1 (λ e. refl)))
word_at t k (Parenthesized b) d = let u = word k.text k.at in off (Worded u (Parenthesized b)) (follows_cast u) _ _ k.cast refl
word_at t k (Calls b) d = refl
word_at t k (Called b) d = let u = word k.text k.at in off (Worded u (Called b)) (is_name_token u) _ _ k.name tt
word_at t k (FirstArgument g b) d =
    let u = word k.text k.at in
    either (Worded u (FirstArgument g b)) (g && is_word (codes "int") u) LeavesOut _ (λ h. tt) (λ h. refused _ _ _ _ (ap (λ a. and_then a (MoreArguments b ∷ [])) (no_expression t k b)))
word_at t k (Primary b) d = refused _ _ _ _ (no_primary t k b)
word_at t k (Named g b) d = refl
word_at t k Deeper d = refl
word_at t k (Join m) d = refl
word_at t k (Deepest m) d = refl
word_at t k (Counts n) d = refl
word_at t k Name d = let u = word k.text k.at in off (Worded u Name) (is_name_token u) _ _ k.name tt
word_at t k (File forms) d = let u = word k.text k.at in either (Worded u (File forms)) (is_word (codes "aspect") u) _ _ (λ h. h) (λ h. tt)
word_at t k (Decls forms) d =
    let u = word k.text k.at in
    either (Worded u (Decls forms)) (is_word (codes "syn") u) _ _ (λ h. inr (ap (λ b. b || is_word (codes "inh") u) h, refl))
    (λ h. either (Worded u (Decls forms)) (is_word (codes "inh") u) _ _ (λ i. inr (or_right (is_word (codes "syn") u) (is_word (codes "inh") u) i, refl))
    (λ h. either (Worded u (Decls forms)) (is_word (codes "eq") u) _ _ (λ i. inl i) (λ i. tt)))
word_at t k Lazy d =
    let u = word k.text k.at in
    either (Worded u Lazy) (is_word (codes "lazy") u) _ _ (λ h. (h, refl)) (λ h. either (Worded u Lazy) (is_word (codes "nta") u) LeavesOut (Skips 0) (λ i. tt) (λ i. refl))
word_at t k NotNta d = let u = word k.text k.at in either (Worded u NotNta) (is_word (codes "nta") u) LeavesOut (Skips 0) (λ i. tt) (λ i. refl)
word_at t k (Attribute forms) d = let u = word k.text k.at in off (Worded u (Attribute forms)) (is_kind u) _ _ k.kind tt
word_at t k Kind d = let u = word k.text k.at in off (Worded u Kind) (is_kind u) _ _ k.kind tt
word_at t k Signed d = let u = word k.text k.at in off (Worded u Signed) (is_name_token u) _ _ k.name tt
word_at t k (Params g) d =
    let u = word k.text k.at in
    either (Worded u (Params g)) (g && is_word (codes "int") u) LeavesOut _ (λ h. tt)
    (λ h. off (Worded u (Params g)) (is_word (codes "int") u) _ _ k.int (off (Worded u (Params g)) (is_kind u) _ _ k.kind tt))
word_at t k (Circular m) d =
    let u = word k.text k.at in
    either (Worded u (Circular m)) (is_word (codes "circular") u) _ (Skips 0) (λ i. either (Worded u (Circular m)) m _ LeavesOut (λ j. i) (λ j. tt)) (λ i. refl)
word_at t k Start d =
    let u = word k.text k.at in
    let c = no_truth (is_word (codes "true") u) (is_word (codes "false") u) (is_word (codes "null") u) (is_word (codes "this") u) k.literal in
    off (Worded u Start) (is_word (codes "true") u) _ _ c.0 (off (Worded u Start) (is_word (codes "false") u) _ _ c.1 (either (Worded u Start) (begins_other u) LeavesOut Refuses (λ i. tt) (λ i. tt)))
word_at t k Defined d = let u = word k.text k.at in either (Worded u Defined) ((d == 0) && false) _ _ (λ h. never ((d == 0) && false) h (and_off (d == 0) false refl)) (λ h. tt)
word_at t k Return d = let u = word k.text k.at in either (Worded u Return) (is_word (codes "return") u) _ LeavesOut (λ h. h) (λ h. tt)
word_at t k w d = tt

-- A keyword is taken where it begins what it is for.
pub word_row : (t : PlacedToken) → IsKeyword t → (w : Want) (d : ℕ) → Comes (TakesWord t w) (loose w ≡ true) (Unit {0}) (table w d (Some t))
word_row t k w d = subst (λ (x : PlacedToken). Comes (TakesWord x w) (loose w ≡ true) (Unit {0}) (table w d (Some x))) (sym k.is) (word_at t k w d)
