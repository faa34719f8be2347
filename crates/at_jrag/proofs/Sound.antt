-- What the machine takes whole, is spelled.
use Rattle.std.proofs.Common.{◌≡◌, ℕ, ◌≤◌, List, [], ◌∷◌, Bool, true, subst}
use Rattle.at_jrag.specs.declared.Forms.{Forms}
use Rattle.at_jrag.specs.Syntax.{Aspect, Expr}
use Rattle.at_text.specs.Rows.{Row}
use Rattle.at_jrag.specs.Grammar.{File, Spells, depth, IsWithin}
use Rattle.at_text.specs.Machine.{Whole, run}
use Rattle.at_jrag.specs.Wants as want
use Rattle.at_jrag.specs.Table.{table}
use Rattle.at_jrag.proofs.SoundSays.{Means, only_says, whole_said}
use Rattle.at_jrag.proofs.of_expressions.SoundExpressions.{mark_means, name_means, primary_means, unary_means, minus_means, links_mean, binary_means, otherwise_means, choice_means, expression_means}
use Rattle.at_jrag.proofs.SoundCalls.{calls_mean, called_means, arguments_mean, first_argument_means, more_arguments_mean, named_means, fold_body_means, enclosed_means, parenthesized_means, opened_means}
use Rattle.at_jrag.proofs.SoundDeclarations.{return_means, close_means, kind_means, not_nta_means, circular_means, bracket_means, start_means, attribute_means, lazy_means, more_params_mean, other_params_mean, params_mean, opening_means, signed_means, body_means, ending_means, defined_means, decls_mean, file_means}

-- each row of the table has the sense of its want
pub means : (l : Bool) → Means l
unfolding table
means l (want.Expression b) d old e rest h = expression_means l b old e rest h
means l (want.Binary rank b) d old e rest h = binary_means l rank b old e rest h
means l (want.Links rank b) d old e rest h = links_mean l rank b d old e rest h
means l (want.Choice b) d old e rest h = choice_means l b d old e rest h
means l (want.Otherwise b m) d old e rest h = otherwise_means l b m d old e rest h
means l (want.Unary b) d old e rest h = unary_means l b old e rest h
means l (want.Minus b) d old e rest h = λ at some. minus_means l b old e rest at some h
means l (want.Opened b) d old e rest h = opened_means l b old e rest h
means l (want.Enclosed g b) d old e rest h = enclosed_means l g b d old e rest h
means l (want.Parenthesized b) d old e rest h = parenthesized_means l b d old e rest h
means l (want.Calls b) d old e rest h = calls_mean l b d old e rest h
means l (want.Called b) d old e rest h = called_means l b old e rest h
means l (want.Arguments g b) d old e rest h = arguments_mean l g b old e rest h
means l (want.FirstArgument g b) d old e rest h = first_argument_means l g b old e rest h
means l (want.MoreArguments b) d old e rest h = more_arguments_mean l b d old e rest h
means l (want.Primary b) d old e rest h = primary_means l b old e rest h
means l (want.Named g b) d old e rest h = named_means l g b old e rest h
means l (want.FoldBody b) d old e rest h = fold_body_means l b d old e rest h
means l want.Deeper d old e rest h = h
means l (want.Join m) d old e rest h = h
means l (want.Deepest m) d old e rest h = h
means l (want.Counts n) d old e rest h = h
means l want.Name d old e rest h = name_means l d old e rest h
means l (want.Mark text) d old e rest h = mark_means l text d old e rest h
means l (want.File forms) d old e rest h = file_means l forms old e rest h
means l (want.Decls forms) d old e rest h = decls_mean l forms old e rest h
means l want.Lazy d old e rest h = lazy_means l old e rest h
means l want.NotNta d old e rest h = not_nta_means l old e rest h
means l (want.Attribute forms) d old e rest h = attribute_means l forms old e rest h
means l want.Kind d old e rest h = kind_means l old e rest h
means l want.Signed d old e rest h = signed_means l old e rest h
means l (want.Opening g) d old e rest h = opening_means l g old e rest h
means l (want.Params g) d old e rest h = params_mean l g old e rest h
means l want.OneParam d old e rest h = (more_params_mean l 0 old e rest h).0
means l want.MoreParams d old e rest h = other_params_mean l old e rest h
means l (want.Circular m) d old e rest h = circular_means l m old e rest h
means l want.Bracket d old e rest h = bracket_means l old e rest h
means l want.Start d old e rest h = start_means l old e rest h
means l want.Ending d old e rest h = ending_means l old e rest h
means l want.Body d old e rest h = body_means l old e rest h
means l want.Defined d old e rest h = defined_means l d old e rest h
means l want.Return d old e rest h = return_means l old e rest h
means l want.Close d old e rest h = close_means l old e rest h

-- a row that is taken whole as a file, is one, within the limit if there is one
pub sound : (forms : Forms) (l : Bool) (row : Row) → run l table (want.File forms ∷ []) 0 row ≡ Whole → (aspects : List Aspect) × File forms aspects row [] × (l ≡ true → IsWithin aspects)
sound forms l row h = let r = whole_said l row (want.File forms ∷ []) 0 (means l) h in only_says l (want.File forms) 0 row r.0 [] r.1
