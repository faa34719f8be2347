use Rattle.std.proofs.Common.{subst}
use Rattle.at_model.specs.Classes.{chain}
use Rattle.at_rules.specs.FirstNamed.{IsFirst}
use Rattle.at_typing.proofs.of_attributes.AttributesFound.{finds_of_class, finds_of_word}
use Rattle.at_typing.proofs.attributes.Attributes.synthesized.Goals as goal

pub returns-in-Known : goal.returns-in-Known
returns-in-Known c =
    let a = c.args.self.now in
    let classes = c.args.classes.now in
    finds_of_class classes a c.args.class c.in-Known.class c.args.name c.upward.result c.in-Known.is
    (subst (λ k. IsFirst a.of_classes c.args.name (chain classes k) c.upward.result) c.new.ensures c.upward.ensures)

pub returns-in-Unknown : goal.returns-in-Unknown
returns-in-Unknown c = finds_of_word c.args.classes.now c.args.self.now c.args.class c.in-Unknown.word c.args.name c.own.result c.in-Unknown.is c.own.ensures
