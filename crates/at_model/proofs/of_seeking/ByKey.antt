-- Tests by key fail at what doesn't stand under the mark.
use Rattle.std.proofs.Common.{◌≡◌, ℕ, suc, Bool, true, false, nat_eq, List, [], ◌∷◌, Option, Some, None, refl, sym, ap, ◌∙◌, subst}
use Rattle.std.specs.Str.{bytes_eq}
use Rattle.std.proofs.lemmas.Slice.Eq.{bytes_eq-Decides}
use Rattle.at_model.specs.Classes.{Classes}
use Rattle.at_model.specs.Drawers.{Key, mark_of, has_key, is_under}
use Rattle.at_model.specs.Trees.{Token}
use Rattle.at_model.specs.Trees as tree
use Rattle.at_model.specs.Run.{Value, Truth, Text, Instance, Is, Tok, Contents, Run, Fails, Null}
use Rattle.at_model.specs.Bodies.{Expr, no_exprs, expr, Name, Equals, TokenOf, Call, Scope, bound, named, text_of, value_of, eval}
use Rattle.at_model.specs.Rules.{Rules, own_equation, is_inherited, by_equation, evaluation}
use Rattle.at_model.specs.Meaning.{Among}
use Rattle.at_model.specs.Seeking.{is_in_drawer, Looking, IsPlain, IsByKey, IsTest, never, token, turned, IsText}
use Rattle.at_model.proofs.of_edits.Untouched.{true_if}
use Rattle.at_model.proofs.of_edits.Drawing.{behind_true}

not_true : (b : Bool) → (b ≡ true → ⊥) → b ≡ false
not_true true h = absurd (h refl)
not_true false h = refl

-- texts with other marks are other texts
other_mark : (a b : List ℕ) → nat_eq (mark_of a) (mark_of b) ≡ false → (a ≡ b → ⊥)
other_mark a b e same =
    let f : nat_eq (mark_of b) (mark_of b) ≡ false = subst (λ (x : List ℕ). nat_eq (mark_of x) (mark_of b) ≡ false) same e in
    let g : nat_eq (mark_of b) (mark_of b) ≡ true = true_if (mark_of b) (mark_of b) refl in
    let h : true ≡ false = sym g ∙ f in cc

other_text : (v : Token) (bytes : List ℕ) → IsText v → is_under (mark_of bytes) v ≡ false → (text_of {N = ℕ} (value_of v) ≡ bytes → ⊥)
other_text v bytes (a, is) off =
    subst (λ (w : Token). is_under (mark_of bytes) w ≡ false → (text_of {N = ℕ} (value_of w) ≡ bytes → ⊥)) (sym is) (other_mark a bytes) off

-- the text of a token hangs on no nodes
same_texts : (N : Type 0) (v : Token) → text_of {N = N} (value_of v) ≡ text_of {N = ℕ} (value_of v)
same_texts N (tree.Text a) = refl
same_texts N (tree.Int n) = refl
same_texts N (tree.Truth b) = refl

pub not_equal : (N : Type 0) (v : Token) (bytes : List ℕ) → IsText v → is_under (mark_of bytes) v ≡ false → bytes_eq (text_of {N = N} (value_of v)) bytes ≡ false
not_equal N v bytes text off =
    not_true _ (λ e. other_text v bytes text off (sym (same_texts N v) ∙ (bytes_eq-Decides (text_of {N = N} (value_of v)) bytes).0 e))

pub not_equal_turned : (N : Type 0) (v : Token) (bytes : List ℕ) → IsText v → is_under (mark_of bytes) v ≡ false → bytes_eq bytes (text_of {N = N} (value_of v)) ≡ false
not_equal_turned N v bytes text off =
    not_true _ (λ e. other_text v bytes text off (sym (same_texts N v) ∙ sym ((bytes_eq-Decides bytes (text_of {N = N} (value_of v))).0 e)))

-- by a token of the element itself, where each class has the key
pub by_own_token : {N : Type 0} (look : Contents N) (Plain : Instance N → Value N → Type 0) (classes : Classes) (same : N → N → Bool) (scope : Scope N) (key : Key) (i : ℕ)
    (bytes : List ℕ) (ns : List N) → named scope.names i ≡ Text bytes
    → ((n : N) → Among n ns → (has_key key (look (Is n)) ≡ true) × IsText (look (Tok n key.token)))
    → IsByKey look Plain key (mark_of bytes) (λ n. eval classes same (Equals (TokenOf (Name 0) key.token) (Name (suc i))) (bound scope n)) ns
by_own_token {N} look Plain classes same scope key i bytes ns is each n among off =
    let (has, text) = each n among in
    let under : is_under (mark_of bytes) (look (Tok n key.token)) ≡ false = behind_true (has_key key (look (Is n))) (is_under (mark_of bytes) (look (Tok n key.token))) has off in (
      Truth (bytes_eq (text_of {N = N} (value_of (look (Tok n key.token)))) (text_of (named scope.names i))),
      refl,
      ap (λ (w : Value N). bytes_eq (text_of {N = N} (value_of (look (Tok n key.token)))) (text_of w)) is ∙ not_equal N (look (Tok n key.token)) bytes text under,
    )

branch : {N : Type 0} (look : Contents N) (b : Bool) (x y : Run N (Value N)) → b ≡ false → Looking look y (Truth false) → Looking look (elim b [ true ↦ x | false ↦ y ]) (Truth false)
branch look true x y e h = absurd cc
branch look false x y e h = h

-- the attribute of the node, with that text
abbrev asked_for : {N : Type 0} → N → (attribute : ℕ) → Value N → Instance N
asked_for n attribute w = record { node = n; attribute = attribute; arguments = w ∷ [] }

module _ {N : Type 0} (look : Contents N) (same : N → N → Bool) (key : Key) (attribute : ℕ) (bytes : List ℕ) (n : N) (text : has_key key (look (Is n)) ≡ true → IsText (look (Tok n key.token)))
    (off : is_in_drawer look key (mark_of bytes) n ≡ false) where
  abbrev there : Scope N
  there = record { this = n; names = Text bytes ∷ []; child = None }

  under_off : has_key key (look (Is n)) ≡ true → is_under (mark_of bytes) (look (Tok n key.token)) ≡ false
  under_off has = behind_true (has_key key (look (Is n))) (is_under (mark_of bytes) (look (Tok n key.token))) has off

  by_test : (classes : Classes) (e : Expr) → IsTest key (has_key key (look (Is n))) e → Looking look (eval classes same e there) (Truth false)
  by_test classes _ never = refl
  by_test classes _ (token has) = ap Truth (not_equal N (look (Tok n key.token)) bytes (text has) (under_off has))
  by_test classes _ (turned has) = ap Truth (not_equal_turned N (look (Tok n key.token)) bytes (text has) (under_off has))

  pub own_test : (rules : Rules) (e : Expr) → is_inherited rules attribute ≡ false → own_equation rules (look (Is n)) attribute ≡ Some e → IsTest key (has_key key (look (Is n))) e
      → Looking look (evaluation rules same (asked_for n attribute (Text bytes))) (Truth false)
  own_test rules e own is test =
      branch look (is_inherited rules attribute) _ _ own
      (subst (λ (o : Option Expr). Looking look (by_equation rules same there (Fails Null) o) (Truth false)) (sym is) (by_test rules.classes e test))

-- by an attribute that isn't inherited: in each class its equation is `false`, or compares the token with the argument
pub by_attribute : {N : Type 0} (look : Contents N) (same : N → N → Bool) (rules also : Rules) (scope : Scope N) (key : Key) (attribute i : ℕ) (bytes : List ℕ) (ns : List N)
    → is_inherited rules attribute ≡ false → is_inherited also attribute ≡ false → named scope.names i ≡ Text bytes
    → ((n : N) → Among n ns → (e : Expr) × (own_equation rules (look (Is n)) attribute ≡ Some e) × (own_equation also (look (Is n)) attribute ≡ Some e)
    × IsTest key (has_key key (look (Is n))) e × (has_key key (look (Is n)) ≡ true → IsText (look (Tok n key.token))))
    → IsByKey look (IsPlain look (evaluation rules same) (evaluation also same)) key (mark_of bytes)
    (λ n. eval rules.classes same (Call (Name 0) attribute (expr (Name (suc i)) no_exprs)) (bound scope n)) ns
by_attribute {N} look same rules also scope key attribute i bytes ns own own' is each n among off =
    let (e, one, two, test, text) = each n among in (
      Truth false,
      (
        Truth false,
        subst (λ (w : Value N). IsPlain look (evaluation rules same) (evaluation also same) (asked_for n attribute w) (Truth false)) (sym is)
            (own_test look same key attribute bytes n text off rules e own one test, own_test look same key attribute bytes n text off also e own' two test),
        refl,
      ),
      refl,
    )
