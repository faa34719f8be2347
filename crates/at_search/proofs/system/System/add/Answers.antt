use Rattle.std.proofs.Common.{inl, inr}
use Rattle.std.specs.Map.{keys_of}
use Rattle.at_search.proofs.Seeing.{some_is}
use Rattle.at_search.proofs.Placing.{formula_added, open_added}
use Rattle.at_search.proofs.system.System.add.Goals as goal

pub returns-in-Some : goal.returns-in-Some
returns-in-Some g c = λ n start s at.
    open_added c.add_open.result (g.K.Known.value_of c.args.known.now) c.args.ended.now.entries (keys_of c.args.seen.now.entries) c.args.self.now
    c.add_open.new.self n start c.args.inst.now s at (inl (some_is (g.K.Known.value_of c.args.known.now c.args.inst.now) _ c.in-Some.ensures))
    c.add_open.ensures

pub returns-in-Some-formed_of : goal.returns-in-Some-formed_of
returns-in-Some-formed_of g c = λ n start s at.
    formula_added c.add_formula.result (g.K.Known.value_of c.args.known.now) c.args.ended.now.entries (keys_of c.args.seen.now.entries) c.args.self.now
    c.add_formula.new.self n start c.args.inst.now c.pieces.result.now c.in-Some-formed_of.formed.now.formula s at c.in_default.ensures
    c.in-Some-formed_of.ensures.some c.pieces.ensures c.add_formula.ensures

pub returns-in-None : goal.returns-in-None
returns-in-None g c = λ n start s at.
    open_added c.add_open-in-None.result (g.K.Known.value_of c.args.known.now) c.args.ended.now.entries (keys_of c.args.seen.now.entries) c.args.self.now
    c.add_open-in-None.new.self n start c.args.inst.now s at (inr c.in-None.ensures.none) c.add_open-in-None.ensures
