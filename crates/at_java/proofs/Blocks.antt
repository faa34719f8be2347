-- Blocks, and the statement that stands alone in one.
use Rattle.std.proofs.Common.{◌≡◌, ◌≤◌, List, [], ◌∷◌, length, map, refl, ap, sym, ◌∙◌, Vec, arith}
use Rattle.std.specs.Global.{Global}
use Rattle.at_java.specs.Rewriting.{alone}
use Rattle.at_java.specs.View.{statement_view, see_statement}
use Rattle.at_java.specs.Written.{Statement, Block, to_statements}
use Rattle.at_java.specs.declared.written.Statement.{Statement as StatementValue}
use Rattle.at_java.specs.declared.written.Statement.TheVariants as value
use Rattle.at_java.specs.declared.written.Statement.TheOpen.{Statement-F}
use Rattle.at_java.specs.declared.written.Statement.TheFolds.{fold-roll-Statement}

seen_block : (s : StatementValue) (ss : Vec StatementValue Global) (xs : List StatementValue) → s ≡ value.Block ss → xs ≡ ss.items
    → statement_view s ≡ Block (to_statements (map statement_view xs))
seen_block s ss xs is is_xs =
    ap statement_view is ∙ ap statement_view (sym (value.rolls-Block ss)) ∙ fold-roll-Statement Statement see_statement (Statement-F.Block ss)
    ∙ ap (λ (ys : List StatementValue). Block (to_statements (map statement_view ys))) (sym is_xs)

-- a block of two statements or more
of_more : (xs : List StatementValue) → 2 ≤ length xs → alone (Block (to_statements (map statement_view xs))) ≡ Block (to_statements (map statement_view xs))
of_more [] more = absurd (omega (arith, more))
of_more (x ∷ []) more = absurd (omega (arith, more))
of_more (x ∷ y ∷ xs) more = refl

pub alone_of_more : (s : StatementValue) (ss : Vec StatementValue Global) (xs : List StatementValue) → s ≡ value.Block ss → xs ≡ ss.items
    → 2 ≤ length xs → statement_view s ≡ alone (statement_view s)
alone_of_more s ss xs is is_xs more = let h = seen_block s ss xs is is_xs in h ∙ sym (ap alone h ∙ of_more xs more)
