-- Expressions by the rank of their outermost operator: what is read of one rank, is read of each weaker one.
use Rattle.std.proofs.Common.{◌≡◌, ℕ, zero, suc, ◌+◌, ◌-◌, ◌<◌, ◌≤◌, List, [], ◌∷◌, Bool, true, false, cond, Option, Some, None, refl, sym, ap, subst, ◌∙◌, arith}
use Rattle.std.specs.Prelude.{◌==◌, nat_lt}
use Rattle.std.proofs.lemmas.Bool.{eq-eqb, eqb-true, ltb-true, ltb-false}
use lib.Chars.{codes}
use Rattle.at_text.specs.Reading.{first}
use Rattle.at_text.specs.Symbols.{PlacedToken}
use Rattle.at_text.specs.declared.place.Place.{Place}
use Rattle.at_text.specs.Rows.{Row, sign, is_sign}
use Rattle.at_jrag.specs.Grammar.{follows_cast, operator_text, operator_level}
use Rattle.at_jrag.specs.Syntax as syntax
use Rattle.at_jrag.specs.Syntax.{Operator}
use Rattle.at_text.specs.Machine.{Takes, Skips, run}
use Rattle.at_jrag.specs.Wants.{Want, Expression, Binary, Links, Choice, Otherwise, Join}
use Rattle.at_jrag.specs.Table.{next, next_rank, link_rank, table, link_answer, links_answer}
use Rattle.at_jrag.specs.Runs.{Goes}
use Rattle.at_text.proofs.MachineLaws.{run-takes, run-skips}
use Rattle.at_text.proofs.MachineLaws.{run-begins}
use Rattle.at_jrag.proofs.of_expressions.ExpressionSteps.{binary_stays}

-- An operand ends here: nothing goes on with it that is a call, or an operator of this rank at most, or makes a cast of it.
pub record Ends (rank : ℕ) (s : Option PlacedToken) : Type 0 where
  pub cast : next follows_cast s ≡ false
  pub dot : next (is_sign (codes ".")) s ≡ false
  pub links : (j : ℕ) → j < rank → next_rank s ≡ suc j → ⊥

pub ends_down : (rank : ℕ) (s : Option PlacedToken) → Ends (suc rank) s → Ends rank s
ends_down rank s e = record { cast = e.cast; dot = e.dot; links = λ j h. e.links j (omega (arith, h)) }

no_equal : (x : Bool) (a b : ℕ) → a == b ≡ x → (a ≡ b → ⊥) → a == b ≡ false
no_equal true a b e h = absurd (h (eqb-true a b e))
no_equal false a b e h = e

links_none : (r b d : ℕ) (s : Option PlacedToken) → (next_rank s ≡ suc r → ⊥) → links_answer r b d s ≡ Skips d
links_none r b d None h = refl
links_none r b d (Some t) h = ap (λ x. cond x (link_answer r b d t) (Skips d)) (no_equal (link_rank t == suc r) (link_rank t) (suc r) refl h)

-- no operator of this rank follows
pub links_skip : (l : Bool) (r b : ℕ) (ws : List Want) (d : ℕ) (rest : Row) → (next_rank (first rest) ≡ suc r → ⊥) → run l table (Links r b ∷ ws) d rest ≡ run l table ws d rest
unfolding table
links_skip l r b ws d rest h = run-skips l table (Links r b) ws d d rest (links_none r b d (first rest) h)

-- an operand of one rank is one of the next
pub up : (r n : ℕ) (old rest : Row) → Goes (Binary r) (λ b. []) n old rest → Goes (Binary (suc r)) (λ b. Links r b ∷ []) n old rest
unfolding table
up r n old rest g l b f ws d = run-begins l table (Binary (suc r) b) (Binary r b) (Links r b ∷ []) ws d old refl (binary_stays r b (first old)) ∙ g l b f (Links r b ∷ ws) d

pub climb : (r n : ℕ) (old rest : Row) → Ends (suc r) (first rest) → Goes (Binary (suc r)) (λ b. Links r b ∷ []) n old rest → Goes (Binary (suc r)) (λ b. []) n old rest
climb r n old rest e g l b f ws d = g l b f ws d ∙ links_skip l r b ws n rest (e.links r (omega arith))

-- What has this level at least is gone over at each rank that it may have.
pub record Taken (level n : ℕ) (old rest : Row) : Type 0 where
  pub whole : (r : ℕ) → 7 ≤ level + r → Ends r (first rest) → Goes (Binary r) (λ b. []) n old rest
  pub linked : (r : ℕ) → 7 ≤ level + suc r → Ends r (first rest) → Goes (Binary (suc r)) (λ b. Links r b ∷ []) n old rest

whole_unary : (n : ℕ) (old rest : Row) → (Ends 0 (first rest) → Goes (Binary 0) (λ b. []) n old rest) → (r : ℕ) → Ends r (first rest) → Goes (Binary r) (λ b. []) n old rest
whole_unary n old rest g zero e = g e
whole_unary n old rest g (suc r) e = climb r n old rest e (up r n old rest (whole_unary n old rest g r (ends_down r (first rest) e)))

pub taken_unary : (level n : ℕ) (old rest : Row) → (Ends 0 (first rest) → Goes (Binary 0) (λ b. []) n old rest) → Taken level n old rest
taken_unary level n old rest g = record {
  whole = λ r h e. whole_unary n old rest g r e;
  linked = λ r h e. up r n old rest (whole_unary n old rest g r e);
}

later_by : (x : Bool) (q r : ℕ) → nat_lt q r ≡ x → q ≤ r → (q ≡ r → ⊥) → suc q ≤ r
later_by true q r e h differ = ltb-true q r e
later_by false q r e h differ = absurd (differ (let n = ltb-false q r e in omega (arith, n, h)))

later : (q r : ℕ) → q ≤ r → (q ≡ r → ⊥) → suc q ≤ r
later q r h differ = later_by (nat_lt q r) q r refl h differ

linked_at : (x : Bool) (q r n : ℕ) (old rest : Row) → q == r ≡ x → (q ≡ r → Goes (Binary (suc r)) (λ b. Links r b ∷ [])
    n old rest) → (suc q ≤ r → Goes (Binary (suc r)) (λ b. Links r b ∷ []) n old rest) → q ≤ r
    → Goes (Binary (suc r)) (λ b. Links r b ∷ []) n old rest
linked_at true q r n old rest e g more h = g (eqb-true q r e)
linked_at false q r n old rest e g more h = more (later q r h (λ s. absurd (let c : true ≡ false = sym (eq-eqb q r s) ∙ e in cc)))

linked_from : (q n : ℕ) (old rest : Row) → (Ends q (first rest) → Goes (Binary (suc q)) (λ b. Links q b ∷ []) n old
    rest) → (r : ℕ) → q ≤ r → Ends r (first rest) → Goes (Binary (suc r)) (λ b. Links r b ∷ []) n old rest
linked_from q n old rest g zero h e = let z : q ≡ 0 = omega (arith, h) in subst (λ (k : ℕ). (Ends k (first rest) → Goes (Binary (suc k)) (λ b. Links k b ∷ []) n old rest)) z g e
linked_from q n old rest g (suc r) h e = linked_at (q == suc r) q (suc r) n old rest refl (λ z. subst (λ (k : ℕ). (Ends k (first rest) → Goes (Binary (suc k)) (λ b. Links k b ∷ []) n old rest)) z g e)
    (λ s. up (suc r) n old rest (climb r n old rest e (linked_from q n old rest g r (omega (arith, s)) (ends_down r (first rest) e)))) h

whole_at : (level q n : ℕ) (old rest : Row) → level + suc q ≡ 7
    → (Ends q (first rest) → Goes (Binary (suc q)) (λ b. Links q b ∷ []) n old rest) → (r : ℕ) → 7 ≤ level + r
    → Ends r (first rest) → Goes (Binary r) (λ b. []) n old rest
whole_at level q n old rest at g zero h e = absurd (omega (arith, at, h))
whole_at level q n old rest at g (suc r) h e = climb r n old rest e (linked_from q n old rest g r (omega (arith, at, h)) (ends_down r (first rest) e))

-- an operation of this rank and level
pub taken_link : (level q n : ℕ) (old rest : Row) → level + suc q ≡ 7 → (Ends q (first rest) → Goes (Binary (suc q)) (λ b. Links q b ∷ []) n old rest) → Taken level n old rest
taken_link level q n old rest at g = record {
  whole = λ r h e. whole_at level q n old rest at g r h e;
  linked = λ r h e. linked_from q n old rest g r (omega (arith, at, h)) e;
}

-- what may be behind an operand is not behind an expression
pub record EndsWhole (s : Option PlacedToken) : Type 0 where
  pub ends : Ends 6 s
  pub choice : next (is_sign (codes "?")) s ≡ false

pub expression_of : (level n : ℕ) (old rest : Row) → 1 ≤ level → Taken level n old rest → EndsWhole (first rest) → Goes Expression (λ b. []) n old rest
unfolding table
expression_of level n old rest h t e l b f ws d =
    run-begins l table (Expression b) (Binary 6 b) (Choice b ∷ []) ws d old refl (binary_stays 6 b (first old))
    ∙ t.whole 6 (omega (arith, h)) e.ends l b f (Choice b ∷ ws) d
    ∙ run-skips l table (Choice b) ws n n rest (ap (λ x. cond x (Takes (nat_lt n b) (Expression (b - 1) ∷ Otherwise b n ∷ []) 0) (Skips n)) e.choice)

-- ---- operators

pub record Facts (o : Operator) (at : Place) : Type 0 where
  pub rank : ℕ
  pub level : operator_level o + suc rank ≡ 7
  pub low : 1 ≤ operator_level o
  pub link : link_rank (sign (operator_text o) at) ≡ suc rank
  pub cast : follows_cast (sign (operator_text o) at) ≡ false
  pub dot : is_sign (codes ".") (sign (operator_text o) at) ≡ false
  pub choice : is_sign (codes "?") (sign (operator_text o) at) ≡ false

pub operator_facts : (o : Operator) (at : Place) → Facts o at
operator_facts syntax.Or at = record { rank = 5; level = refl; low = omega arith; link = refl; cast = refl; dot = refl; choice = refl }
operator_facts syntax.And at = record { rank = 4; level = refl; low = omega arith; link = refl; cast = refl; dot = refl; choice = refl }
operator_facts syntax.Same at = record { rank = 3; level = refl; low = omega arith; link = refl; cast = refl; dot = refl; choice = refl }
operator_facts syntax.Differs at = record { rank = 3; level = refl; low = omega arith; link = refl; cast = refl; dot = refl; choice = refl }
operator_facts syntax.Below at = record { rank = 2; level = refl; low = omega arith; link = refl; cast = refl; dot = refl; choice = refl }
operator_facts syntax.AtMost at = record { rank = 2; level = refl; low = omega arith; link = refl; cast = refl; dot = refl; choice = refl }
operator_facts syntax.Above at = record { rank = 2; level = refl; low = omega arith; link = refl; cast = refl; dot = refl; choice = refl }
operator_facts syntax.AtLeast at = record { rank = 2; level = refl; low = omega arith; link = refl; cast = refl; dot = refl; choice = refl }
operator_facts syntax.Add at = record { rank = 1; level = refl; low = omega arith; link = refl; cast = refl; dot = refl; choice = refl }
operator_facts syntax.Subtract at = record { rank = 1; level = refl; low = omega arith; link = refl; cast = refl; dot = refl; choice = refl }
operator_facts syntax.Multiply at = record { rank = 0; level = refl; low = omega arith; link = refl; cast = refl; dot = refl; choice = refl }
operator_facts syntax.Divide at = record { rank = 0; level = refl; low = omega arith; link = refl; cast = refl; dot = refl; choice = refl }
operator_facts syntax.Remainder at = record { rank = 0; level = refl; low = omega arith; link = refl; cast = refl; dot = refl; choice = refl }

pub ends_operator : (o : Operator) (at : Place) → (f : Facts o at) → Ends f.rank (Some (sign (operator_text o) at))
ends_operator o at f = record { cast = f.cast; dot = f.dot; links = λ j h e. let same : suc f.rank ≡ suc j = sym f.link ∙ e in omega (arith, same, h) }

-- the operator is taken, where its left operand may stand
pub operator_taken : (l : Bool) (o : Operator) (at : Place) (f : Facts o at) (b : ℕ) (ws : List Want) (d : ℕ) (right : Row) → (l ≡ true → nat_lt d b ≡ true)
    → run l table (Links f.rank b ∷ ws) d (sign (operator_text o) at ∷ right) ≡ run l table (Binary f.rank (b - 1) ∷ Join d ∷ Links f.rank b ∷ ws) 0 right
unfolding table
operator_taken l o at f b ws d right h = run-takes l table (Links f.rank b) (nat_lt d b) (Binary f.rank (b - 1) ∷ Join d ∷ Links f.rank b ∷ []) ws d 0 (sign (operator_text o) at) right
    (ap (λ x. cond x (Takes (nat_lt d b) (Binary f.rank (b - 1) ∷ Join d ∷ Links f.rank b ∷ []) 0) (Skips d)) (eq-eqb (link_rank (sign (operator_text o) at)) (suc f.rank) f.link)) h
