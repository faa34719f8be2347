-- What statements mean, put together from behind.
use Rattle.std.proofs.Common.{◌≡◌, ℕ, suc, zero, ◌+◌, ◌<◌, List, [], ◌∷◌, map, length, drop, get_or, refl, ap, ap₂, sym, ◌∙◌, subst, Option, Some, None, true, false, add-one}
use Rattle.std.specs.Prelude.{◌||◌}
use Rattle.std.proofs.Math.Seq.{drop-cons}
use Rattle.std.proofs.lemmas.Option.{none-some}
use Rattle.at_text.specs.declared.fault.Failure.{Failure}
use Rattle.at_text.specs.declared.fault.Failure.TheVariants.{For, Memory}
use Rattle.at_jrag.specs.Syntax.{Expr}
use Rattle.at_java.specs.Written.{Statement, Statements, no_statements, statement, to_statements, Return, If, Each, Block, Empty}
use Rattle.at_java.specs.View.{statement_view}
use Rattle.at_java.specs.Rewriting.{Meaning, meant, behind, meaning, meaning_all, any_returns, returns, IsRefusal, alone, value_of}
use Rattle.at_java.specs.declared.reader.Breach.{Breach}
use Rattle.at_java.specs.declared.reader.Breach.TheVariants.{Here, At}
use Rattle.at_java.specs.declared.written.Statement.{Statement as StatementValue}

-- an expression or nothing, as what is meant, and what stands in front of it
front_of : (o : Option Expr) (front : Option Expr → Meaning) → behind (meant o) front ≡ front o
front_of (Some e) front = refl
front_of None front = refl

-- the refusal of what stands behind is that of the whole
refused_behind : (e : Failure Breach) (m : Meaning) (front : Option Expr → Meaning) → IsRefusal e m → IsRefusal e (behind m front)
refused_behind (For (At code at)) m front is = ap (λ x. behind x front) is
refused_behind (For (Here code)) m front is = absurd is
refused_behind Memory m front is = tt

-- statements as they are seen
abbrev pub seen : List StatementValue → Statements
seen ss = to_statements (map statement_view ss)

-- one more from behind
next_meaning : (ss : List StatementValue) (i : ℕ) (s : StatementValue) (rest : Option Expr) → i < length ss → s ≡ get_or ss i s
    → meaning_all (seen (drop i ss)) rest ≡ behind (meaning_all (seen (drop (i + 1) ss)) rest) (meaning (statement_view s))
next_meaning ss i s rest less is =
    ap (λ xs. meaning_all (seen xs) rest) (drop-cons ss i s less ∙ ap₂ (λ x n. x ∷ drop n ss) (sym is) (sym (add-one i)))

in_front : (ss : List StatementValue) (n i : ℕ) (s : StatementValue) (rest before : Option Expr) → i < length ss → n ≡ i + 1 → s ≡ get_or ss i s
    → meaning_all (seen (drop n ss)) rest ≡ meant before → meaning_all (seen (drop i ss)) rest ≡ meaning (statement_view s) before
in_front ss n i s rest before less next is so_far =
    next_meaning ss i s rest less is
    ∙ ap (λ k. behind (meaning_all (seen (drop k ss)) rest) (meaning (statement_view s))) (sym next)
    ∙ ap (λ m. behind m (meaning (statement_view s))) so_far
    ∙ front_of before (meaning (statement_view s))

-- what is refused from behind is refused at last
refused_front : (e : Failure Breach) (ss : List StatementValue) (i : ℕ) (rest : Option Expr) → IsRefusal e (meaning_all (seen (drop i ss)) rest) → IsRefusal e (meaning_all (seen ss) rest)
refused_front e ss zero rest is = is
refused_front e [] (suc i) rest is = is
refused_front e (s ∷ ss) (suc i) rest is = refused_behind e (meaning_all (seen ss) rest) (meaning (statement_view s)) (refused_front e ss i rest is)

pub refused_here : (e : Failure Breach) (ss : List StatementValue) (n i : ℕ) (s : StatementValue) (rest before : Option Expr) → i < length ss → n ≡ i + 1
    → s ≡ get_or ss i s → meaning_all (seen (drop n ss)) rest ≡ meant before → IsRefusal e (meaning (statement_view s) before) → IsRefusal e (meaning_all (seen ss) rest)
refused_here e ss n i s rest before less next is so_far refused =
    refused_front e ss i rest (subst (IsRefusal e) (sym (in_front ss n i s rest before less next is so_far)) refused)

-- whether a `return` stands in one of those that are left
next_returns : (ss : List StatementValue) (i : ℕ) (s : StatementValue) → i < length ss → s ≡ get_or ss i s
    → any_returns (seen (drop i ss)) ≡ (returns (statement_view s) || any_returns (seen (drop (i + 1) ss)))
next_returns ss i s less is = ap (λ xs. any_returns (seen xs)) (drop-cons ss i s less ∙ ap₂ (λ x n. x ∷ drop n ss) (sym is) (sym (add-one i)))

pub returns_later : (ss : List StatementValue) (i : ℕ) (s : StatementValue) → i < length ss → s ≡ get_or ss i s
    → any_returns (seen ss) ≡ any_returns (seen (drop i ss)) → returns (statement_view s) ≡ false → any_returns (seen ss) ≡ any_returns (seen (drop (i + 1) ss))
returns_later ss i s less is so_far none = so_far ∙ next_returns ss i s less is ∙ ap (λ b. b || any_returns (seen (drop (i + 1) ss))) none

pub returns_here : (ss : List StatementValue) (i : ℕ) (s : StatementValue) → i < length ss → s ≡ get_or ss i s
    → any_returns (seen ss) ≡ any_returns (seen (drop i ss)) → returns (statement_view s) ≡ true → any_returns (seen ss) ≡ true
returns_here ss i s less is so_far one = so_far ∙ next_returns ss i s less is ∙ ap (λ b. b || any_returns (seen (drop (i + 1) ss))) one

-- a statement alone means what its block means
alone_means : (s : Statement) (rest : Option Expr) → meaning (alone s) rest ≡ meaning s rest
alone_means (Return at e) rest = refl
alone_means (If at c s t) rest = refl
alone_means (Each at k name list s) rest = refl
alone_means (Block no_statements) rest = refl
alone_means (Block (statement s no_statements)) rest = alone_means s rest ∙ sym (front_of rest (meaning s))
alone_means (Block (statement s (statement t ss))) rest = refl
alone_means Empty rest = refl

-- a `return` means the same in front of any rest
return_means : (s : Statement) (e : Expr) (x y : Option Expr) → value_of s ≡ Some e → meaning s x ≡ meaning s y
return_means (Return at v) e x y is = refl
return_means (If at c s t) e x y is = absurd (none-some e is)
return_means (Each at k name list s) e x y is = absurd (none-some e is)
return_means (Block ss) e x y is = absurd (none-some e is)
return_means Empty e x y is = absurd (none-some e is)

pub in_front_of_any : (s : Statement) (e : Expr) (x y : Option Expr) → value_of (alone s) ≡ Some e → meaning s x ≡ meaning s y
in_front_of_any s e x y is = sym (alone_means s x) ∙ return_means (alone s) e x y is ∙ alone_means s y
