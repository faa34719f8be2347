-- What the values of rewriting stand for.
use Rattle.at_jrag.specs.Syntax.{Expr}
use Rattle.at_jrag.specs.View.{expr_view, word_view}
use Rattle.at_java.specs.Rewriting.{Leaf, Whether, Nothing, Named, Other, Loop}
use Rattle.at_java.specs.declared.rewriting.searches.Search.{Search}
use Rattle.at_java.specs.declared.rewriting.searches.Leaf.{Leaf as LeafValue}
use Rattle.at_java.specs.declared.rewriting.searches.Leaf.TheVariants as value
use Rattle.at_java.specs.declared.rewriting.searches.Loop.{Loop as LoopValue}

abbrev pub search_view : Search → Expr × Expr
search_view s = (expr_view s.test.now, expr_view s.value.now)

abbrev pub leaf_view : LeafValue → Leaf
leaf_view (value.Truth b) = Whether b
leaf_view value.Null = Nothing
leaf_view (value.Name name) = Named name.now
leaf_view value.Other = Other

abbrev pub loop_view : LoopValue → Loop
loop_view l = record {
  at = l.at;
  name = word_view l.name.now;
  list = expr_view l.list.now;
  test = expr_view l.test.now;
}
