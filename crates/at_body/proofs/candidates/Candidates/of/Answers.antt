use Rattle.std.proofs.Common.{◌∙◌, ap, arith, sym}
use Rattle.at_model.specs.Seeking.{is_in_drawer, those}
use Rattle.at_class.specs.Keys.{key_view}
use Rattle.at_store.specs.Shown.{contents}
use Rattle.at_body.proofs.Drawn.{drawn, those_fewer}
use Rattle.at_body.proofs.candidates.Candidates.of.Goals as goal

pub returns-clause-are : goal.returns-clause-are
returns-clause-are c = λ mark. ap (those (is_in_drawer (contents c.args.store.now) (key_view c.args.lookup.now.key) mark)) c.children.ensures.children
    ∙ sym (drawn c.args.store.now c.requires.idle_store c.args.node c.args.lookup.now.part (key_view c.args.lookup.now.key) mark)

pub returns-clause-few : goal.returns-clause-few
returns-clause-few c = λ mark. omega (arith, those_fewer (is_in_drawer (contents c.args.store.now) (key_view c.args.lookup.now.key) mark) c.children.result.now, c.children.ensures.few)
