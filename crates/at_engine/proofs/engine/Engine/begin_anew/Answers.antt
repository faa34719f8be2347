use Rattle.std.proofs.Common.{◌≡◌, ◌∙◌, ◌++◌, ℕ, Bool, true, false, not, ◌||◌, List, None, ap, sym, subst, string_bytes}
use Rattle.std.specs.List.{flat_map, list_all, list_any}
use Rattle.at_model.specs.Lines.{Ask}
use Rattle.at_model.specs.Names.{IsName}
use Rattle.at_model.specs.Replies as code
use Rattle.at_model.specs.Machine.{Refuses, Verdict, is_number, marks_in, marks_in_argument, obeyed, takes_numbers}
use Rattle.at_model.specs.Rules.{Rules}
use Rattle.at_protocol.specs.LineView.{arguments_view, place_view}
use Rattle.at_protocol.specs.ReplyView.{code_view}
use Rattle.at_protocol.specs.declared.line.Argument.{Argument}
use Rattle.at_store.specs.Shown.{contents, path, tree}
use Rattle.at_engine.specs.Asking.{IsAskedBy}
use Rattle.at_engine.specs.Engines.{state_by}
use Rattle.at_engine.specs.Holding.{IsPostedOn, words_verdict}
use Rattle.at_engine.specs.Marks.{has_mark}
use Rattle.at_engine.specs.Posted.{posted_view}
use Rattle.at_engine.specs.Turning.{IsBegun}
use Rattle.at_engine.specs.declared.engine.asking.Asked.{Asked}
use Rattle.at_engine.specs.declared.posts.Posted.{Posted}
use Rattle.at_engine.proofs.of_keeping.KeptTyped.{basis_held, sound_typed}
use Rattle.at_engine.proofs.Positions.{holds_at, same_there}
use Rattle.at_engine.proofs.of_turns.Reading.{read_asked, read_refused, read_unmarked, read_unread}
use Rattle.at_engine.proofs.engine.Engine.begin_anew.Goals as goal

-- whether arguments can be read, where they are those of the question
readable : (rules : Rules) (arguments items : List Argument) (r b : Bool) → arguments ≡ items
    → r ≡ (takes_numbers rules || not (list_any is_number (arguments_view arguments))) → r ≡ b
    → (takes_numbers rules || not (list_any is_number (arguments_view items))) ≡ b
readable rules arguments items r b same is e =
    ap (λ (l : List Argument). takes_numbers rules || not (list_any is_number (arguments_view l))) (sym same) ∙ sym is ∙ e

pub returns-then-not-reads-clause-begins : goal.returns-then-not-reads-clause-begins
returns-then-not-reads-clause-begins g c p there =
    let e = c.args.self.now in
    let q = c.at-posted.result.now in
    let marked = (holds_at (IsPostedOn e.rules e.store (g.K.Keeper.contents e.demand.keeper)) e.posts.items.items c.args.position q c.at-posted.ensures c.requires.sound.posted).marked in
    let unread = readable e.rules _ q.arguments.items _ false c.as_slice-arguments.ensures.value c.reads.ensures c.if-not-reads.true in
    subst (λ (x : Posted). words_verdict e.rules (tree e.store) (posted_view (path e.store) x) ≡ Refuses code.Syntax) (same_there e.posts.items.items c.args.position q p c.at-posted.ensures there)
    (read_unread e.rules e.store e.version e.posts q marked unread)

pub returns-then-not-has_asked-clause-begins : goal.returns-then-not-has_asked-clause-begins
returns-then-not-has_asked-clause-begins g c p there =
    let e = c.args.self.now in
    let q = c.at-posted.result.now in
    let marked = (holds_at (IsPostedOn e.rules e.store (g.K.Keeper.contents e.demand.keeper)) e.posts.items.items c.args.position q c.at-posted.ensures c.requires.sound.posted).marked in
    let read = readable e.rules _ q.arguments.items _ true c.as_slice-arguments.ensures.value c.reads.ensures c.if-not-reads.false in
    let none = ap (λ (l : List Argument). list_all (has_mark q.marks.items.items q.session) (marks_in (place_view q.place) ++ flat_map marks_in_argument (arguments_view l))) (sym c.as_slice-arguments.ensures.value) ∙ sym c.if-not-has_asked.ensures in
    subst (λ (x : Posted). words_verdict e.rules (tree e.store) (posted_view (path e.store) x) ≡ Refuses code.Mark) (same_there e.posts.items.items c.args.position q p c.at-posted.ensures there)
    (read_unmarked e.rules e.store e.version e.posts q marked read none)

pub asked-requires : goal.asked-requires
asked-requires g c = record {
  sound = c.requires.sound;
  there =
      let e = c.args.self.now in
      (holds_at (IsPostedOn e.rules e.store (g.K.Keeper.contents e.demand.keeper)) e.posts.items.items c.args.position c.at-posted.result.now c.at-posted.ensures c.requires.sound.posted).marked;
}

pub returns-in-Refused-clause-begins : goal.returns-in-Refused-clause-begins
returns-in-Refused-clause-begins g c p there =
    let e = c.args.self.now in
    let q = c.at-posted.result.now in
    let marked = (holds_at (IsPostedOn e.rules e.store (g.K.Keeper.contents e.demand.keeper)) e.posts.items.items c.args.position q c.at-posted.ensures c.requires.sound.posted).marked in
    let read = readable e.rules _ q.arguments.items _ true c.as_slice-arguments.ensures.value c.reads.ensures c.if-not-reads.false in
    let all = ap (λ (l : List Argument). list_all (has_mark q.marks.items.items q.session) (marks_in (place_view q.place) ++ flat_map marks_in_argument (arguments_view l))) (sym c.as_slice-arguments.ensures.value) ∙ sym c.if-not-has_asked.ensures in
    let v : List ℕ → List Argument → Verdict = λ text l. obeyed e.rules (state_by e q.marks.items.items) q.session (Ask (place_view q.place) text (arguments_view l)) in
    let named = subst IsName (sym c.as_str.ensures.value) (holds_at (IsPostedOn e.rules e.store (g.K.Keeper.contents e.demand.keeper)) e.posts.items.items c.args.position c.at-posted.result.now c.at-posted.ensures c.requires.sound.posted).named in
    let one = subst (λ (l : List Argument). IsAskedBy e.rules e.store (v c.as_str.result.now l) c.in_ok-asked.asked) c.as_slice-arguments.ensures.value (c.in_ok-asked.ensures named) in
    let two = subst (λ (text : List ℕ). IsAskedBy e.rules e.store (v text q.arguments.items) c.in_ok-asked.asked) c.as_str.ensures.value one in
    let is = subst (λ (x : Asked). IsAskedBy e.rules e.store (v (string_bytes q.attribute) q.arguments.items) x) c.in-Refused.is two in
    subst (λ (x : Posted). words_verdict e.rules (tree e.store) (posted_view (path e.store) x) ≡ Refuses (code_view c.in-Refused.refusal)) (same_there e.posts.items.items c.args.position q p c.at-posted.ensures there)
    (read_refused e.rules e.store e.version e.posts q marked read all c.in-Refused.refusal is)

pub returns-in_ok-post-in-Instance-clause-begins : goal.returns-in_ok-post-in-Instance-clause-begins
returns-in_ok-post-in-Instance-clause-begins g c p there =
    let e = c.args.self.now in
    let q = c.at-posted.result.now in
    let k = g.K.Keeper.contents e.demand.keeper in
    let marked = (holds_at (IsPostedOn e.rules e.store k) e.posts.items.items c.args.position q c.at-posted.ensures c.requires.sound.posted).marked in
    let read = readable e.rules _ q.arguments.items _ true c.as_slice-arguments.ensures.value c.reads.ensures c.if-not-reads.false in
    let all = ap (λ (l : List Argument). list_all (has_mark q.marks.items.items q.session) (marks_in (place_view q.place) ++ flat_map marks_in_argument (arguments_view l))) (sym c.as_slice-arguments.ensures.value) ∙ sym c.if-not-has_asked.ensures in
    let v : List ℕ → List Argument → Verdict = λ text l. obeyed e.rules (state_by e q.marks.items.items) q.session (Ask (place_view q.place) text (arguments_view l)) in
    let named = subst IsName (sym c.as_str.ensures.value) (holds_at (IsPostedOn e.rules e.store (g.K.Keeper.contents e.demand.keeper)) e.posts.items.items c.args.position c.at-posted.result.now c.at-posted.ensures c.requires.sound.posted).named in
    let one = subst (λ (l : List Argument). IsAskedBy e.rules e.store (v c.as_str.result.now l) c.in_ok-asked.asked) c.as_slice-arguments.ensures.value (c.in_ok-asked.ensures named) in
    let two = subst (λ (text : List ℕ). IsAskedBy e.rules e.store (v text q.arguments.items) c.in_ok-asked.asked) c.as_str.ensures.value one in
    let is = subst (λ (x : Asked). IsAskedBy e.rules e.store (v (string_bytes q.attribute) q.arguments.items) x) c.in-Instance.is two in
    let made = c.in_ok-post-in-Instance in
    let basis = basis_held g.K.Keeper.contents g.K.Keeper.memories e c.requires.sound c.requires.typed in
    let sound = sound_typed e.rules e.store basis k c.requires.sound.right.values c.requires.sound.typed in
    subst (λ (x : Posted). IsBegun e.rules e.store k x None made.field-0) (same_there e.posts.items.items c.args.position q p c.at-posted.ensures there)
    (read_asked e.rules e.store e.version e.posts q marked read all k c.in-Instance.inst is made.field-0 made.ensures.posted
    (made.ensures.stands k e.rules e.store is.typed sound) (made.ensures.standing k e.rules e.store is.typed))

pub returns-in_ok-post-in-Instance-clause-sparing : goal.returns-in_ok-post-in-Instance-clause-sparing
returns-in_ok-post-in-Instance-clause-sparing g c = c.in_ok-post-in-Instance.ensures.sparing (g.K.Keeper.contents c.args.self.now.demand.keeper) c.args.self.now.rules (contents c.args.self.now.store)
