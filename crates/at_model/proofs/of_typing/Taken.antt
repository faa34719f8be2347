-- What an expression of a kind takes of its parts has the kind that it takes.
use Rattle.at_model.specs.Bodies.{Expr}
use Rattle.at_model.specs.Rules.{Rules, Kind}
use Rattle.at_model.specs.Kinds.{ScopeKinds, HasKind}
use Rattle.at_model.specs.Kinds as form
use Rattle.at_model.specs.Taking.{Takes}

pub taken : (rules : Rules) (s : ScopeKinds) (e : Expr) (k : Kind) → HasKind rules s e k → Takes rules s e
taken rules s e _ (form.widened c d sub x) = taken rules s e _ x
taken rules s e _ (form.widened_all c d sub x) = taken rules s e _ x
taken rules s _ _ (form.int_literal n x) = tt
taken rules s _ _ (form.truth_literal b) = tt
taken rules s _ _ (form.text_literal bytes) = tt
taken rules s _ _ (form.null_literal c) = tt
taken rules s _ _ form.this = tt
taken rules s _ _ (form.name i x) = tt
taken rules s _ _ (form.index_name x) = tt
taken rules s _ _ (form.negate x) = x
taken rules s _ _ (form.opposite x) = x
taken rules s _ _ (form.arithmetic o x y) = (x, y)
taken rules s _ _ (form.compare o x y) = (x, y)
taken rules s _ _ (form.join x y) = (x, y)
taken rules s _ _ (form.join_int x y) = (x, y)
taken rules s _ _ (form.same k l alike x y) = (k, l, alike, x, y)
taken rules s _ _ (form.differ k l alike x y) = (k, l, alike, x, y)
taken rules s _ _ (form.and x y) = (x, y)
taken rules s _ _ (form.or x y) = (x, y)
taken rules s _ _ (form.choose k x y z) = x
taken rules s _ _ (form.equals x y) = (x, y)
taken rules s _ _ (form.instance_of c class there x) = (c, x)
taken rules s _ _ (form.cast_to c class there x) = (c, x)
taken rules s _ _ (form.child c part b is x) = (c, b, x, is)
taken rules s _ _ (form.element c part b is x y) = (c, b, x, is, y)
taken rules s _ _ (form.count c part b is x) = (c, b, x, is)
taken rules s _ _ (form.has c part b is x) = (c, b, x, is)
taken rules s _ _ (form.token_of c part kind is x) = (c, kind, x, is)
taken rules s _ _ (form.call c attribute d is sub x xs) = (c, d, x, is, sub, xs)
taken rules s _ _ (form.exists c part b is x y) = (c, b, x, is, y)
taken rules s _ _ (form.first c part b is x y) = (c, b, x, is, y)
taken rules s _ _ (form.sum c part b is x y) = (c, b, x, is, y)
taken rules s _ _ (form.listed c part b is x) = (c, b, x, is)
taken rules s _ _ (form.only c x) = (c, x)
taken rules s _ _ (form.union c x y) = (c, x, y)
taken rules s _ _ (form.contains c d x y) = (c, x, (d, y))
taken rules s _ _ (form.any_of b x y) = (b, x, y)
taken rules s _ _ (form.first_of b x y) = (b, x, y)
taken rules s _ _ (form.sum_of b x y) = (b, x, y)
taken rules s _ _ (form.gather b d x y) = (d, (b, x, y))
taken rules s _ _ (form.close b x y) = (b, x, y)
taken rules s _ _ (form.children c d top x) = (c, x)
taken rules s _ _ (form.parent c d top x) = (c, x)
taken rules s _ _ (form.passed k x) = (k, x)
taken rules s _ _ (form.seek_any c part b key is x y z) = ((c, b, x, is, z), y)
taken rules s _ _ (form.seek_first c part b key is x y z) = ((c, b, x, is, z), y)
