use Rattle.std.proofs.Common.{rules, ◌≡◌, ℕ, List, string_bytes, sym, subst}
use Rattle.at_model.specs.Run.{Text}
use Rattle.at_model.specs.Alike.{ValueLike, Names}
use Rattle.at_store.specs.Shown.{path, tree}
use Rattle.at_engine.proofs.AnswersTold.{shown_int, shown_truth, shown_text, shown_ref}
use Rattle.at_engine.proofs.engine.view.View.shown.Goals as goal

pub returns-in-Int : goal.returns-in-Int
returns-in-Int g c =
    let v = c.args.self.now in
    rw c.in-Int.is (λ w l. shown_int (path v.store.now) v.rules.now.classes (tree v.store.now) c.in-Int.field-0 c.number_of.result c.number_of.ensures l)

pub returns-in-Bool : goal.returns-in-Bool
returns-in-Bool g c =
    let v = c.args.self.now in
    rw c.in-Bool.is (λ w l. shown_truth (path v.store.now) v.rules.now.classes (tree v.store.now) c.in-Bool.truth l)

pub returns-in_ok-text-in-Text : goal.returns-in_ok-text-in-Text
returns-in_ok-text-in-Text g c =
    let v = c.args.self.now in
    let e : string_bytes c.in_ok-text-in-Text.text ≡ string_bytes c.in-Text.shared.value = search rules in
    rw c.in-Text.is (λ w l. shown_text (path v.store.now) v.rules.now.classes (tree v.store.now) c.in_ok-text-in-Text.text (subst (λ (s : List ℕ). ValueLike (Names (path v.store.now)) (Text s) w) (sym e) l))

pub returns-in-Ref : goal.returns-in-Ref
returns-in-Ref g c =
    let v = c.args.self.now in
    rw c.in-Ref.is (λ w l. shown_ref (path v.store.now) v.rules.now.classes (tree v.store.now) c.in-Ref.node c.shown_node.result c.shown_node.ensures l)
