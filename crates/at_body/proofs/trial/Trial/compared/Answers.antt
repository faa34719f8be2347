use Rattle.at_store.specs.Shown.{contents}
use Rattle.std.proofs.Common.{◌<◌, ◌+◌, ◌∷◌, subst, sym, IfOk}
use Rattle.at_body.specs.declared.todo.Todo.TheVariants.{Right}
use Rattle.at_body.specs.declared.trial.Trial.{Trial}
use Rattle.at_body.specs.Comparing.{AreTexts}
use Rattle.at_body.specs.Rest.{GoesOn, evaluated_for, load, weight}
use Rattle.at_body.specs.Size.{size}
use Rattle.at_body.specs.Typed.{Enters}
use Rattle.at_rules.specs.Bodies.{body_view}
use Rattle.at_body.proofs.TextsCompared.{texts_compared, texts_less, comparison_told}
use Rattle.at_body.proofs.trial.Trial.compared.Goals as goal

pub returns-in-Some-clause-same : goal.returns-in-Some-clause-same
returns-in-Some-clause-same c = λ classes.
    let texts = subst (AreTexts (contents c.args.store.now) (body_view c.args.left.now) (body_view c.args.right.now) c.args.self.now c.same_texts.new.self) c.in-Some.is c.in_ok-texts.ensures in
    texts_compared classes (contents c.args.store.now) c.args.self.now c.same_texts.new.self c.args.comparison (body_view c.args.left.now) c.args.right c.in-Some.same c.tells.result texts c.tells.ensures

pub returns-in-None-clause-same : goal.returns-in-None-clause-same
returns-in-None-clause-same c = λ classes.
    let same = subst (AreTexts (contents c.args.store.now) (body_view c.args.left.now) (body_view c.args.right.now) c.args.self.now c.same_texts.new.self) c.in-None.is c.in_ok-texts.ensures in
    subst (λ (t : Trial). IfOk c.operands.result (λ now. GoesOn (contents c.args.store.now) classes t.reads (evaluated_for classes t (Right c.args.comparison c.args.right) (body_view c.args.left.now)) now c.operands.new.self)) same (c.operands.ensures.same classes)

pub returns-in-Some-clause-less : goal.returns-in-Some-clause-less
returns-in-Some-clause-less c =
    let texts = subst (AreTexts (contents c.args.store.now) (body_view c.args.left.now) (body_view c.args.right.now) c.args.self.now c.same_texts.new.self) c.in-Some.is c.in_ok-texts.ensures in
    texts_less (contents c.args.store.now) (body_view c.args.left.now) (body_view c.args.right.now) c.args.self.now c.same_texts.new.self c.in-Some.same (size (body_view c.args.left.now) + size (body_view c.args.right.now)) texts

pub returns-in-None-clause-less : goal.returns-in-None-clause-less
returns-in-None-clause-less c =
    let same = subst (AreTexts (contents c.args.store.now) (body_view c.args.left.now) (body_view c.args.right.now) c.args.self.now c.same_texts.new.self) c.in-None.is c.in_ok-texts.ensures in
    subst (λ (t : Trial). IfOk c.operands.result (λ now. weight now c.operands.new.self < size (body_view c.args.left.now) + size (body_view c.args.right.now) + 3 + load t.todo)) same c.operands.ensures.less

pub operands-requires-clause-typed : goal.operands-requires-clause-typed
operands-requires-clause-typed c =
    let same = subst (AreTexts (contents c.args.store.now) (body_view c.args.left.now) (body_view c.args.right.now) c.args.self.now c.same_texts.new.self) c.in-None.is c.in_ok-texts.ensures in
    let (r, a, o, h) = c.requires.typed in
    (r, a, o, subst (λ (t : Trial). Enters r a (record t { todo = Right c.args.comparison c.args.right ∷ t.todo }) c.args.left.now) (sym same) h)

pub returns-in-Some-clause-typed : goal.returns-in-Some-clause-typed
returns-in-Some-clause-typed c = λ r a o h.
    let texts = subst (AreTexts (contents c.args.store.now) (body_view c.args.left.now) (body_view c.args.right.now) c.args.self.now c.same_texts.new.self) c.in-Some.is c.in_ok-texts.ensures in
    comparison_told r a (contents c.args.store.now) c.args.self.now c.same_texts.new.self c.args.comparison (body_view c.args.left.now) (body_view c.args.right.now) c.args.right c.args.left.now c.in-Some.same c.tells.result texts c.requires.compares h

pub returns-in-None-clause-typed : goal.returns-in-None-clause-typed
returns-in-None-clause-typed c = λ r a o h.
    let same = subst (AreTexts (contents c.args.store.now) (body_view c.args.left.now) (body_view c.args.right.now) c.args.self.now c.same_texts.new.self) c.in-None.is c.in_ok-texts.ensures in
    c.operands.ensures.typed r a o (subst (λ (t : Trial). Enters r a (record t { todo = Right c.args.comparison c.args.right ∷ t.todo }) c.args.left.now) (sym same) h)
