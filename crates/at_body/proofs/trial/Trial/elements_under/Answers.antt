use Rattle.std.proofs.Common.{◌≡◌, ◌∙◌, ◌++◌, ℕ, List, [], ◌∷◌, ap, length, map}
use Rattle.at_model.specs.Bodies.{text_of}
use Rattle.at_model.specs.Drawers.{mark_of}
use Rattle.at_model.specs.Run.{Location}
use Rattle.at_body.specs.Standing.{names}
use Rattle.at_body.specs.Values.{value_view}
use Rattle.at_body.specs.declared.value.Value.{Value as ValueCode}
use Rattle.at_class.specs.Keys.{key_view}
use Rattle.at_store.specs.Shown.{contents}
use Rattle.at_rules.specs.Bodies.{body_view}
use Rattle.at_body.specs.Seeking.{sought_in, candidates, fold_of}
use Rattle.at_body.proofs.Seeks.{candidates_in, few_less}
use Rattle.at_body.specs.Rest.{load}
use Rattle.at_body.specs.Size.{size}
use Rattle.at_body.proofs.of_typing.TypedSeeks.{candidates_seen}
use Rattle.at_body.proofs.trial.Trial.elements_under.Goals as goal

pub returns-in_ok-push-in-Some-clause-same : goal.returns-in_ok-push-in-Some-clause-same
returns-in_ok-push-in-Some-clause-same c = λ classes. rw c.in-Some.is (candidates_in classes (contents c.args.store.now) c.next_among.result c.args.self.now c.next_among.new.self c.args.search c.args.lookup.now (body_view c.args.body.now) c.in-Some.node
    c.mark_at-mark.result (candidates c.of-all.result c.mark_at-mark.result) c.push.new.self (c.mark_at-mark.ensures ∙ ap (λ (vs : List ValueCode). mark_of (text_of (sought_in c.args.lookup.now.sought (names c.args.self.now.bound (map value_view vs))))) c.as_slice.ensures) (c.in_ok-push-in-Some.ensures.gained ∙ ap (λ (l : Location ℕ). c.args.self.now.reads ++ l ∷ []) c.drawer.ensures) (c.of-all.ensures.are c.mark_at-mark.result) (c.next_among.ensures.same classes) c.next_among.ensures.reads)

pub returns-in_ok-push-in-Some-clause-typed : goal.returns-in_ok-push-in-Some-clause-typed
returns-in_ok-push-in-Some-clause-typed c = λ r a o h. c.next_among.ensures.typed r a (candidates_seen r a (contents c.args.store.now) o c.args.self.now (fold_of c.args.search) c.args.lookup.now.part (key_view c.args.lookup.now.key) c.mark_at-mark.result
    c.args.body.now c.in-Some.node c.args.node (candidates c.of-all.result c.mark_at-mark.result) c.push.new.self c.in-Some.is (c.of-all.ensures.are c.mark_at-mark.result) h)

pub returns-in_ok-push-in-Some-clause-less : goal.returns-in_ok-push-in-Some-clause-less
returns-in_ok-push-in-Some-clause-less c = few_less c.next_among.result c.next_among.new.self (size (body_view c.args.body.now)) (length (candidates c.of-all.result c.mark_at-mark.result)) (load c.args.self.now.todo)
    (c.of-all.ensures.few c.mark_at-mark.result) c.next_among.ensures.less
