use Rattle.std.proofs.Common.{◌≡◌, ◌∙◌, ◌++◌, ℕ, List, [], ◌∷◌, ap, length, map}
use Rattle.at_model.specs.Bodies.{text_of}
use Rattle.at_model.specs.Drawers.{mark_of}
use Rattle.at_model.specs.Run.{Location}
use Rattle.at_body.specs.Standing.{names}
use Rattle.at_body.specs.Values.{value_view}
use Rattle.at_body.specs.declared.value.Value.{Value as ValueCode}
use Rattle.at_class.specs.Keys.{key_view}
use Rattle.at_rules.specs.Bodies.{body_view}
use Rattle.at_store.specs.Shown.{contents}
use Rattle.at_body.specs.declared.trial.Trial.{Trial}
use Rattle.at_body.specs.Seeking.{sought_in, candidates}
use Rattle.at_body.proofs.FormSeeks.{candidates_seen}
use Rattle.at_body.proofs.Seeks.{candidates_gone, few_formed}
use Rattle.at_body.specs.Forms.{load}
use Rattle.at_body.specs.Size.{size}
use Rattle.at_body.proofs.forming.Forming.elements_under.Goals as goal

pub returns-in_ok-push-in-Some-clause-same : goal.returns-in_ok-push-in-Some-clause-same
returns-in_ok-push-in-Some-clause-same c = λ rules.
    let mid : Trial = record c.args.self.now.trial { reads = c.push.new.self } in
    rw c.in-Some.is (candidates_gone rules (contents c.args.store.now) c.next_among.result c.args.self.now c.next_among.new.self c.args.positive c.args.lookup.now (body_view c.args.body.now) c.in-Some.node c.mark_at-mark.result
    (candidates c.of-all.result c.mark_at-mark.result) mid (c.mark_at-mark.ensures ∙ ap (λ (vs : List ValueCode). mark_of (text_of (sought_in c.args.lookup.now.sought (names c.args.self.now.bound (map value_view vs))))) c.as_slice.ensures) (c.in_ok-push-in-Some.ensures.gained ∙ ap (λ (l : Location ℕ). c.args.self.now.trial.reads ++ l ∷ []) c.drawer-loc.ensures) (c.of-all.ensures.are c.mark_at-mark.result) (c.next_among.ensures.same rules) c.next_among.ensures.reads)

pub returns-in_ok-push-in-Some-clause-typed : goal.returns-in_ok-push-in-Some-clause-typed
returns-in_ok-push-in-Some-clause-typed c = λ rules at over h.
    let mid : Trial = record c.args.self.now.trial { reads = c.push.new.self } in
    c.next_among.ensures.typed rules at (contents c.args.store.now) (candidates_seen rules at (contents c.args.store.now) over c.args.self.now c.args.lookup.now.part (key_view c.args.lookup.now.key) c.mark_at-mark.result
    c.args.body.now c.in-Some.node c.args.node (candidates c.of-all.result c.mark_at-mark.result) mid c.in-Some.is (c.of-all.ensures.are c.mark_at-mark.result) h)

pub returns-in_ok-push-in-Some-clause-less : goal.returns-in_ok-push-in-Some-clause-less
returns-in_ok-push-in-Some-clause-less c = few_formed c.next_among.result c.next_among.new.self (size (body_view c.args.body.now)) (length (candidates c.of-all.result c.mark_at-mark.result)) (load c.args.self.now.tasks)
    (c.of-all.ensures.few c.mark_at-mark.result) c.next_among.ensures.less
