use Rattle.std.proofs.Common.{List, Some, ap, subst}
use Rattle.std.proofs.lemmas.Result.{err_from_is_err_and}
use Rattle.at_model.specs.Lines.{Ask}
use Rattle.at_model.specs.Machine.{Asks, node_named, obeyed}
use Rattle.at_model.specs.Names.{IsName}
use Rattle.at_model.specs.Rules.{Rules}
use Rattle.at_protocol.specs.LineView.{arguments_view}
use Rattle.at_store.specs.Shown.{Shown}
use Rattle.at_engine.specs.Asking.{IsAskedBy}
use Rattle.at_engine.specs.Engines.{rules_of, state_of}
use Rattle.at_engine.specs.Marks.{Mark, listed}
use Rattle.at_engine.specs.Naming.{IsNumberOf}
use Rattle.at_engine.specs.Seen.{state_seen}
use Rattle.at_engine.specs.declared.engine.asking.Asked.{Asked}
use Rattle.at_engine.specs.declared.marks.Marks.{Marks}
use Rattle.at_engine.proofs.FollowingLemmas.{refuses}
use Rattle.at_engine.proofs.MeantLemmas.{along}
use Rattle.at_engine.proofs.of_keeping.Fulfilling.{failed_so, refused_so, turned_so}
use Rattle.at_engine.proofs.engine.Engine.ask_of.Goals as goal

pub returns-in_err-inst : goal.returns-in_err-inst
returns-in_err-inst g c place number =
    let p = err_from_is_err_and c.from_residual.result c.from_residual.ensures.1 in
    failed_so g.K.Keeper.contents g.K.Keeper.memories c.args.self.now c.requires.asks.sound.held _ c.from_residual.result p.0 p.1

pub returns-in-Refused : goal.returns-in-Refused
returns-in-Refused g c place number =
    let e = c.args.self.now in
    let name = c.args.attribute.now in
    let arguments = arguments_view c.args.arguments.now in
    let view = c.view.ensures in
    let Seen : Rules → Shown → List Mark → Type 0 = λ r s ms. IsNumberOf s (node_named r.classes (state_seen s ms) c.args.session place) (Some c.args.node) → IsName name
    → IsAskedBy r s (obeyed r (state_seen s ms) c.args.session (Ask place name arguments)) c.in_ok-inst.field-0 in
    let asked = along Seen view.rules view.store (ap (λ (m : Marks). listed m.items.entries) view.marks) (c.in_ok-inst.ensures place) number c.requires.asks.named in
    let v = obeyed (rules_of e) (state_of e) c.args.session (Ask place name arguments) in
    let is = subst (λ (x : Asked). IsAskedBy (rules_of e) e.store v x) c.in-Refused.is asked in
    refused_so g.K.Keeper.contents g.K.Keeper.memories e c.requires.asks.sound.held v c.in-Refused.refusal (refuses (rules_of e) (state_of e) v c.in-Refused.refusal is)

pub answer-requires : goal.answer-requires
answer-requires g c =
    let e = c.args.self.now in
    let name = c.args.attribute.now in
    let arguments = arguments_view c.args.arguments.now in
    let view = c.view.ensures in
    let Seen : Rules → Shown → List Mark → Type 0 = λ r s ms. IsNumberOf s (node_named r.classes (state_seen s ms) c.args.session c.requires.place) (Some c.args.node) → IsName name
    → IsAskedBy r s (obeyed r (state_seen s ms) c.args.session (Ask c.requires.place name arguments)) c.in_ok-inst.field-0 in
    let asked = along Seen view.rules view.store (ap (λ (m : Marks). listed m.items.entries) view.marks) (c.in_ok-inst.ensures c.requires.place) c.requires.number c.requires.asks.named in
    let v = obeyed (rules_of e) (state_of e) c.args.session (Ask c.requires.place name arguments) in
    let is = subst (λ (x : Asked). IsAskedBy (rules_of e) e.store v x) c.in-Instance.is asked in
    record { sound = c.requires.asks.sound; there = (is.named, is.like); well_typed = is.typed }

pub returns-in-Instance : goal.returns-in-Instance
returns-in-Instance g c place number =
    let e = c.args.self.now in
    let name = c.args.attribute.now in
    let arguments = arguments_view c.args.arguments.now in
    let view = c.view.ensures in
    let Seen : Rules → Shown → List Mark → Type 0 = λ r s ms. IsNumberOf s (node_named r.classes (state_seen s ms) c.args.session place) (Some c.args.node) → IsName name
    → IsAskedBy r s (obeyed r (state_seen s ms) c.args.session (Ask place name arguments)) c.in_ok-inst.field-0 in
    let asked = along Seen view.rules view.store (ap (λ (m : Marks). listed m.items.entries) view.marks) (c.in_ok-inst.ensures place) number c.requires.asks.named in
    let v = obeyed (rules_of e) (state_of e) c.args.session (Ask place name arguments) in
    let is = subst (λ (x : Asked). IsAskedBy (rules_of e) e.store v x) c.in-Instance.is asked in
    turned_so g.K.Keeper.contents g.K.Keeper.memories e c.answer.new.self v (Asks is.named) c.answer.result is.asks (c.answer.ensures is.named is.like)
