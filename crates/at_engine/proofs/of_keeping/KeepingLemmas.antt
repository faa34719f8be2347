-- What is kept over the verdict of each command.
use Rattle.std.proofs.Common.{◌≡◌, ◌↔◌, ℕ, ◌+◌, Bool, true, false, nat_eq, nat_le, count_by, if◌then◌else◌, List, [], ◌∷◌, ◌++◌, Option, Some, None, Result, Ok, Err, IfOk, refl, sym, ap, ◌∙◌, subst, arith}
use Rattle.std.specs.Prelude.{IsSome}
use Rattle.std.specs.declared.alloc.AllocError.{AllocError}
use Rattle.at_model.specs.Trees.{Tree}
use Rattle.at_model.specs.Paths.{Node, tree_at}
use Rattle.at_model.specs.Run.{Instance, Contents}
use Rattle.at_model.specs.Rules.{Rules}
use Rattle.at_model.specs.Meaning.{Answer, Outcomes, Finds, Faults, Circle}
use Rattle.at_model.specs.Alike.{InstanceLike, Names}
use Rattle.at_model.specs.Edits.{Edit as EditOf}
use Rattle.at_model.specs.Terms.{term_of}
use Rattle.at_model.specs.Lines.{Argument, Line, Place, Show, Mark, Where, Post, Spells, last_post}
use Rattle.at_model.specs.Machine.{State, Posted, Verdict, Refuses, Tells, Leaves, Edits, Asks, Posts, Waits, after, marks_named, marks_used, max_posted, answer_form, at_node, obeyed, verdict, node_named, marked, path_to, with_mark, is_marked, max_marks}
use Rattle.at_model.specs.Replies.{Done, Refused, At, Written}
use Rattle.at_model.specs.Replies as code
use Rattle.at_protocol.specs.ReplyView.{code_view}
use Rattle.at_protocol.specs.declared.reply.Refusal.{Refusal}
use Rattle.at_protocol.specs.declared.reply.Refusal.TheVariants as refusal
use Rattle.at_protocol.specs.declared.reply.Form.{Form as FormValue}
use Rattle.at_protocol.specs.declared.reply.Form.TheVariants as form
use Rattle.at_rules.specs.Circular.{HasNoneCircular}
use Rattle.at_store.specs.Shown.{contents, numbers, path, tree}
use Rattle.at_store.specs.declared.edit.Refusal.{Refusal as EditRefusal}
use Rattle.at_store.specs.declared.edit.Refusal.TheVariants as reason
use Rattle.at_cache.specs.Kept.{Entries, Kept, KeepsAll}
use Rattle.at_cache.specs.Traced.{Memories}
use Rattle.at_evaluate.specs.Valued.{IsKept}
use Rattle.at_evaluate.specs.Sparing.{AreSpare}
use Rattle.at_evaluate.proofs.Entered.{entered}
use Rattle.at_demand.specs.Called.{Keeps}
use Rattle.at_demand.specs.Groups.{KeepsGroups}
use Rattle.at_demand.specs.declared.demand.Demand.{Demand}
use Rattle.at_engine.specs.Engines.{most_of, rules_of, settings_of, state_of}
use Rattle.at_engine.specs.Following.{Follows, IsAtOnce}
use Rattle.at_engine.specs.KeptOver.{AreWaiting, Grows, HasVerdict, obeys, refuses, IsWorthFor, IsWorthIn}
use Rattle.at_engine.specs.Keeping.{AreAtOnce, GrowsLine, GrowsOver, IsSpare, IsSpareWith, KeepsLine, KeepsOver, KeepsServed, KeepsWhole, Spares, SparesLine, SparesVerdict, kept_of, work_of}
use Rattle.at_engine.specs.Hearing.{Hears, at_once, by_turns}
use Rattle.at_engine.specs.Telling.{IsToldFor, IsToldOf, Meets}
use Rattle.at_engine.specs.declared.engine.Engine.{Engine}
use Rattle.at_engine.specs.declared.engine.Settings.{Settings}
use Rattle.at_engine.specs.declared.engine.saying.Told.{Told}
use Rattle.at_engine.specs.declared.engine.editing.Obstacle.{Obstacle}
use Rattle.at_engine.specs.declared.engine.editing.Obstacle.TheVariants as obstacle
use Rattle.at_engine.proofs.of_keeping.Growing.{kept_grows, same_grows, weaker_grows}
use Rattle.at_engine.proofs.Storing.{shown_stays, paths_stay}

-- the verdict neither edits nor asks
abbrev pub IsQuiet : Verdict → Type 0
IsQuiet (Refuses refusal) = Unit {0}
IsQuiet (Tells shown) = Unit {0}
IsQuiet (Leaves marks) = Unit {0}
IsQuiet (Edits e t) = ⊥
IsQuiet (Asks q) = ⊥
IsQuiet (Posts q) = Unit {0}
IsQuiet (Waits number) = Unit {0}

-- it leaves what is kept, and has no work
pub quiet_keeps : (rules : Rules) (s : State) (v : Verdict) (before after : Instance Node → Type 0) (w : ℕ) → IsQuiet v → ((j : Instance Node) → after j ↔ before j) → Keeps rules s v before after w w
quiet_keeps rules s (Refuses c) before after w quiet same = record { kept = same; more = 0; is_work = refl; grows = λ small. omega (arith, small) }
quiet_keeps rules s (Tells shown) before after w quiet same = record { kept = same; more = 0; is_work = refl; grows = λ small. omega (arith, small) }
quiet_keeps rules s (Leaves marks) before after w quiet same = record { kept = same; more = 0; is_work = refl; grows = λ small. omega (arith, small) }
quiet_keeps rules s (Edits e t) before after w quiet same = absurd quiet
quiet_keeps rules s (Asks q) before after w quiet same = absurd quiet
quiet_keeps rules s (Posts q) before after w quiet same = record { kept = same; more = 0; is_work = refl; grows = λ small. omega (arith, small) }
quiet_keeps rules s (Waits number) before after w quiet same = record { kept = same; more = 0; is_work = refl; grows = λ small. omega (arith, small) }

-- where no bound is set, none is under the same settings
pub unbounded_still : {K : Type 0} (old new : Engine K) → settings_of new ≡ settings_of old → most_of old ≡ None → most_of new ≡ None
unbounded_still old new same none = ap (λ (s : Settings). s.most) same ∙ none

-- where the store, the rules and the questions are as they were, so is what is kept
module _ {K : Type 0} (entries : K → Entries) (old new : Engine K) (same_numbers : numbers new.store ≡ numbers old.store) (same_tree : tree new.store ≡ tree old.store) (same_rules : new.rules ≡ old.rules) (same_demand : new.demand ≡ old.demand) where
  kept_stays : (j : Instance Node) → kept_of entries new j ↔ kept_of entries old j
  kept_stays j =
      let Kept : (ℕ → Option Node) → Demand K → Type 0 = λ look d. (i : Instance ℕ) × IsKept (entries d.keeper) i × InstanceLike (Names look) i j in
      let paths = paths_stay old.store new.store same_numbers in (
        λ h. subst (λ (d : Demand K). Kept (path old.store) d) same_demand (subst (λ (look : ℕ → Option Node). Kept look new.demand) paths h),
        λ h. subst (λ (look : ℕ → Option Node). Kept look new.demand) (sym paths) (subst (λ (d : Demand K). Kept (path old.store) d) (sym same_demand) h),
      )

  -- what was done for open questions is spare, too
  pub spare_stays : (same_posts : new.posts.items.items ≡ old.posts.items.items) → settings_of new ≡ settings_of old → IsSpare entries old
      → IsSpare entries new
  spare_stays same_posts same_settings h = record {
    unbounded = unbounded_still old new same_settings h.unbounded;
    spare =
        subst (λ (r : Rules). IsSpareWith r (contents new.store) (entries new.demand.keeper) new.posts.items.items) (sym same_rules)
        (subst (λ (look : Contents ℕ). IsSpareWith old.rules look (entries new.demand.keeper) new.posts.items.items)
        (sym (shown_stays old.store new.store same_numbers same_tree))
        (subst (λ (d : Demand K). IsSpareWith old.rules (contents old.store) (entries d.keeper) new.posts.items.items) (sym same_demand)
        (subst (IsSpareWith old.rules (contents old.store) (entries old.demand.keeper)) (sym same_posts) h.spare)));
  }

  keeps_over : (v : Verdict) → IsQuiet v → KeepsOver entries v old new
  keeps_over v quiet =
      subst (λ w. Keeps (rules_of old) (state_of old) v (kept_of entries old) (kept_of entries new) (work_of old) w)
      (sym (ap (λ (d : Demand K). d.work) same_demand))
      (quiet_keeps (rules_of old) (state_of old) v (kept_of entries old) (kept_of entries new) (work_of old) quiet kept_stays)

  grows_over : (IsWorth : Instance Node → Type 0) → Grows IsWorth (kept_of entries old) (kept_of entries new) (work_of old) (work_of new)
  grows_over IsWorth =
      subst (λ w. Grows IsWorth (kept_of entries old) (kept_of entries new) (work_of old) w) (sym (ap (λ (d : Demand K). d.work) same_demand))
      (same_grows IsWorth (kept_of entries old) (kept_of entries new) (work_of old) kept_stays)

  pub quiet_done : (v : Verdict) → IsQuiet v → IsSpare entries new → IsSpare entries new × KeepsOver entries v old new
  quiet_done v quiet spare = (spare, keeps_over v quiet)

  pub quiet_spares : {T E : Type 0} (r : Result T E) (v : Verdict) → IfOk r (λ _. IsQuiet v) → IsSpare entries new → Spares entries v r old new
  quiet_spares (Ok x) v quiet spare = quiet_done v quiet spare
  quiet_spares (Err e) v quiet spare = (λ none. spare, grows_over (IsWorthFor (rules_of old) (state_of old) v))

-- where nothing is kept, that is spare
pub spare_of_nothing : (rules : Rules) (look : Contents ℕ) (entries : Entries) → KeepsAll (λ _. None) entries → AreSpare rules look entries
spare_of_nothing rules look entries none = record {
  only = λ i k is l covers. by (entries i) (none i) (subst IsSome (sym is) refl);
  lazy = λ i some. by (entries i) (none i) (entered entries i some);
  deep = λ i j some leads lazy. by (entries i) (none i) some;
}
  where
    by : {A : Type 0} (o : Option Kept) → o ≡ None → IsSome o → A
    by o e some = let f : false ≡ true = subst IsSome e some in absurd cc

-- what is told as refused is
pub refused_quiet : (rules : Rules) (s new : State) (v : Verdict) (r : Refusal) → Follows rules s v (form.Refused r) new → IsQuiet v
refused_quiet rules s new (Refuses c) r f = tt
refused_quiet rules s new (Tells shown) r f = tt
refused_quiet rules s new (Leaves marks) r f = tt
refused_quiet rules s new (Edits e t) r f = let is : Refused (code_view r) ≡ Done (s.version + 1) = sym f.is_form ∙ f.says in absurd cc
refused_quiet rules s new (Posts q) r f = tt
refused_quiet rules s new (Waits number) r f = tt
refused_quiet rules s new (Asks q) r f = let (a, answers, says) = f.says in by a (sym f.is_form ∙ says)
  where
    by : (a : Answer Node) → Refused (code_view r) ≡ answer_form rules s.tree a → ⊥
    by (Outcomes (Finds v)) is = absurd cc
    by (Outcomes (Faults kind i)) is = absurd cc
    by (Circle i) is = absurd cc

as_refused : (rules : Rules) (s new : State) (v : Verdict) (r : Refusal) (f : FormValue) → f ≡ form.Refused r → Follows rules s v f new → IsQuiet v
as_refused rules s new v r f is follows = refused_quiet rules s new v r (subst (λ (x : FormValue). Follows rules s v x new) is follows)

-- so is what is told of an edit that the store refuses, and of an obstacle
pub told_quiet : (rules : Rules) (s new : State) (v : Verdict) (r : EditRefusal) (f : FormValue) → IsToldFor r f → Follows rules s v f new → IsQuiet v
told_quiet rules s new v reason.Component f told follows = as_refused rules s new v refusal.Component f told follows
told_quiet rules s new v reason.Fit f told follows = as_refused rules s new v refusal.Fit f told follows
told_quiet rules s new v reason.Index f told follows = as_refused rules s new v refusal.Index f told follows
told_quiet rules s new v reason.Taken f told follows = as_refused rules s new v refusal.Taken f told follows
told_quiet rules s new v reason.Fixed f told follows = as_refused rules s new v refusal.Fixed f told follows
told_quiet rules s new v reason.Inside f told follows = as_refused rules s new v refusal.Inside f told follows
told_quiet rules s new v reason.Limit f told follows = as_refused rules s new v refusal.Limit f told follows
told_quiet rules s new v reason.Memory f told follows = absurd told

pub obstacle_quiet : (rules : Rules) (s new : State) (v : Verdict) (o : Obstacle) (f : FormValue) → IsToldOf o f → Follows rules s v f new → IsQuiet v
obstacle_quiet rules s new v (obstacle.Refused r) f told follows = as_refused rules s new v r f told follows
obstacle_quiet rules s new v obstacle.Memory f told follows = absurd told

-- so is each of these, where that is told
pub refusal_quiet : {E : Type 0} (rules : Rules) (s new : State) (v : Verdict) (r : EditRefusal) (result : Result FormValue E) → IfOk result (IsToldFor r) → IfOk result (λ f. Follows rules s v f new) → IfOk result (λ _. IsQuiet v)
refusal_quiet rules s new v r (Ok f) told follows = told_quiet rules s new v r f told follows
refusal_quiet rules s new v r (Err e) told follows = tt

pub any_obstacle_quiet : {E : Type 0} (rules : Rules) (s new : State) (v : Verdict) (o : Obstacle) (result : Result FormValue E) → IfOk result (IsToldOf o) → IfOk result (λ f. Follows rules s v f new) → IfOk result (λ _. IsQuiet v)
any_obstacle_quiet rules s new v o (Ok f) told follows = obstacle_quiet rules s new v o f told follows
any_obstacle_quiet rules s new v o (Err e) told follows = tt

pub if_any : {T E : Type 0} (r : Result T E) (C : Type 0) → C → IfOk r (λ _. C)
if_any (Ok x) C c = c
if_any (Err e) C c = tt

-- where nothing changes
module _ {K : Type 0} (entries : K → Entries) (e : Engine K) (v : Verdict) (spare : IsSpare entries e) where
  pub stays_spare : {T E : Type 0} (r : Result T E) → IfOk r (λ _. IsQuiet v) → Spares entries v r e e
  stays_spare r quiet = quiet_spares entries e e refl refl refl refl r v quiet spare

  pub stays_done : IsQuiet v → IsSpare entries e × KeepsOver entries v e e
  stays_done quiet = quiet_done entries e e refl refl refl refl v quiet spare

  pub refused_spares : (r : Refusal) → Follows (rules_of e) (state_of e) v (form.Refused r) (state_of e) → IsSpare entries e × KeepsOver entries v e e
  refused_spares r f = stays_done (refused_quiet (rules_of e) (state_of e) (state_of e) v r f)

  pub failed_spares : (HasNoneCircular (rules_of e) → IsSpare entries e) × GrowsOver entries v e e
  failed_spares = (λ none. spare, grows_over entries e e refl refl refl refl (IsWorthFor (rules_of e) (state_of e) v))

-- what a verdict leaves and adds, unless it is an edit
grows_so : {K : Type 0} (entries : K → Entries) (old new : Engine K) (v : Verdict) → ((e : EditOf) (t : Tree) → v ≡ Edits e t → ⊥)
    → KeepsOver entries v old new → GrowsOver entries v old new
grows_so entries old new v off k =
    kept_grows (rules_of old) (state_of old) v (kept_of entries old) (kept_of entries new) (work_of old) (work_of new) k.more off k.kept k.is_work k.grows

no_edit : (q : Instance Node) (e : EditOf) (t : Tree) → Asks q ≡ Edits e t → ⊥
no_edit q e t is = absurd cc

-- what is done for a question, told or not
pub asked_spares : {K T E : Type 0} (entries : K → Entries) (old new : Engine K) (q : Instance Node) (r : Result T E)
    → (KeepsGroups (rules_of old) r → IsSpare entries new) → KeepsOver entries (Asks q) old new → Spares entries (Asks q) r old new
asked_spares entries old new q (Ok x) spare keeps = (spare tt, keeps)
asked_spares entries old new q (Err e) spare keeps = (spare, grows_so entries old new (Asks q) (no_edit q) keeps)

pub err_spares : {K T E : Type 0} (entries : K → Entries) (old new : Engine K) (v : Verdict) (r : Result T E) (e : E) → r ≡ Err e → (HasNoneCircular (rules_of old) → IsSpare entries new) × GrowsOver entries v old new → Spares entries v r old new
err_spares {K} {T} {E} entries old new v r e is spares = subst (λ (x : Result T E). Spares entries v x old new) (sym is) spares

-- the verdict comes to another one
pub turned_spares : {K T E : Type 0} (entries : K → Entries) (old new : Engine K) (v w : Verdict) (r : Result T E) → v ≡ w → Spares entries w r old new → Spares entries v r old new
turned_spares entries old new v w r same spares = subst (λ (y : Verdict). Spares entries y r old new) (sym same) spares

-- an edit that is done has no work
pub edited_keeps : (rules : Rules) (s : State) (v : Verdict) (e : EditOf) (t : Tree) (before after : Instance Node → Type 0) (w x : ℕ) → v ≡ Edits e t → Keeps rules s (Edits e t) before after w w → x ≡ w → Keeps rules s v before after w x
edited_keeps rules s v e t before after w x is keeps same = subst (λ n. Keeps rules s v before after w n) (sym same) (subst (λ (y : Verdict). Keeps rules s y before after w w) (sym is) keeps)

-- what is spare where the line waits
pub waited_spares : {K T E : Type 0} (entries : K → Entries) (old new : Engine K) (v : Verdict) (r : Result T E) (number : ℕ) → v ≡ Waits number → (KeepsGroups (rules_of old) r → IsSpare entries new) → SparesVerdict entries v r old new
waited_spares entries old new v r number is spare = (spare, λ soon. absurd (subst IsAtOnce is soon))

-- and where it doesn't
pub at_once_spares : {K T E : Type 0} (entries : K → Entries) (old new : Engine K) (v : Verdict) (r : Result T E) → Spares entries v r old new → SparesVerdict entries v r old new
at_once_spares entries old new v (Ok x) spares = (λ whole. spares.0, λ soon. spares)
at_once_spares entries old new v (Err e) spares = (spares.0, λ soon. spares)

-- a verdict is one that waits or one that doesn't
at_once_unless : (rules : Rules) (s : State) (bytes : List ℕ) (v : Verdict) → HasVerdict rules s bytes v → (AreWaiting rules s bytes → ⊥) → IsAtOnce v
at_once_unless rules s bytes (Refuses c) h none = tt
at_once_unless rules s bytes (Tells shown) h none = tt
at_once_unless rules s bytes (Leaves marks) h none = tt
at_once_unless rules s bytes (Edits e t) h none = tt
at_once_unless rules s bytes (Asks q) h none = tt
at_once_unless rules s bytes (Posts q) h none = tt
at_once_unless rules s bytes (Waits number) h none = none (number, h)

-- a line that was read
pub line_spares : {K : Type 0} (entries : K → Entries) (memories : K → Memories) (old new : Engine K) (bytes : List ℕ) (l : Line) (told : Told) → Spells bytes l → Hears entries memories old new l told → SparesVerdict entries (verdict (rules_of old) (state_of old) l) told.form old new → SparesLine entries bytes told.form old new
line_spares entries memories old new bytes l told spells heard spares = by told.form refl
  where
    v : Verdict
    v = verdict (rules_of old) (state_of old) l

    has : HasVerdict (rules_of old) (state_of old) bytes v
    has = obeys l spells refl

    state : IsAtOnce v → (f : FormValue) → told.form ≡ Ok f → state_of new ≡ after (state_of old) v
    state soon f is = elim heard [
      | at_once session done meets err _ ↦ (subst (λ (x : Result FormValue AllocError). IfOk x (λ f. Meets (rules_of old) (state_of old) l f (state_of new))) is meets).state
      | by_turns position p there waits closes ↦ absurd (subst IsAtOnce waits soon)
    ]

    by : (r : Result FormValue AllocError) → told.form ≡ r → SparesLine {T = FormValue} {E = AllocError} entries bytes told.form old new
    by (Ok f) is =
        let s : SparesVerdict {T = FormValue} {E = AllocError} entries v (Ok f) old new = subst (λ (x : Result FormValue AllocError). SparesVerdict entries v x old new) is spares in
        let so : SparesLine {T = FormValue} {E = AllocError} entries bytes (Ok f) old new = (s.0 tt, λ none. let a = at_once_unless (rules_of old) (state_of old) bytes v has none in record { becomes = v; is_verdict = has; state = state a f is; keeps = (s.1 a).1 }) in
        subst (λ (x : Result FormValue AllocError). SparesLine entries bytes x old new) (sym is) so
    by (Err e) is =
        let s : SparesVerdict {T = FormValue} {E = AllocError} entries v (Err e) old new = subst (λ (x : Result FormValue AllocError). SparesVerdict entries v x old new) is spares in
        let so : SparesLine {T = FormValue} {E = AllocError} entries bytes (Err e) old new = (s.0, λ none. let a = at_once_unless (rules_of old) (state_of old) bytes v has none in weaker_grows (IsWorthFor (rules_of old) (state_of old) v) (IsWorthIn (rules_of old) (state_of old) bytes) (kept_of entries old) (kept_of entries new) (work_of old) (work_of new) (λ j worth. (l, spells, worth)) (s.1 a).1) in
        subst (λ (x : Result FormValue AllocError). SparesLine entries bytes x old new) (sym is) so

-- and one that was not
pub unread_spares : {K : Type 0} (entries : K → Entries) (e : Engine K) (bytes : List ℕ) → ((l : Line) → Spells bytes l → ⊥) → IsSpare entries e → IsSpare entries e × (AreAtOnce e bytes → KeepsLine entries bytes e e)
unread_spares entries e bytes none spare = (spare, λ soon. record { becomes = Refuses code.Syntax; is_verdict = refuses none refl; state = refl; keeps = keeps_over entries e e refl refl refl refl (Refuses code.Syntax) tt })

pub unknown_spares : {K : Type 0} (entries : K → Entries) (e : Engine K) (bytes : List ℕ) → IsSpare entries e
    → (HasNoneCircular (rules_of e) → IsSpare entries e) × (AreAtOnce e bytes → GrowsLine entries bytes e e)
unknown_spares entries e bytes spare = (λ none. spare, λ soon. grows_over entries e e refl refl refl refl (IsWorthIn (rules_of e) (state_of e) bytes))

not_ok : {T E : Type 0} {a : T} {e : E} → ◌≡◌ {A = Result T E} (Err e) (Ok a) → ⊥
not_ok e = absurd cc

-- a line that left the state and whose reply can't be written
not_edited : (s : State) (v : Verdict) (e : EditOf) (t : Tree) → s ≡ after s v → v ≡ Edits e t → ⊥
not_edited s v e t same is = let n : s.version ≡ s.version + 1 = ap (λ (x : State). x.version) (same ∙ ap (after s) is) in absurd (omega (arith, n))

worth_in : (rules : Rules) (s : State) (bytes : List ℕ) (v : Verdict) → HasVerdict rules s bytes v → (j : Instance Node) → IsWorthFor rules s v j → IsWorthIn rules s bytes j
worth_in rules s bytes v (obeys l spells is) j worth = (l, spells, subst (λ (y : Verdict). IsWorthFor rules s y j) is worth)
worth_in rules s bytes v (refuses none is) j worth = absurd (subst (λ (y : Verdict). IsWorthFor rules s y j) is worth)

unwritten : {K : Type 0} (entries : K → Entries) (old new : Engine K) (bytes : List ℕ) → KeepsLine entries bytes old new → state_of new ≡ state_of old → GrowsLine entries bytes old new
unwritten entries old new bytes k same =
    weaker_grows (IsWorthFor (rules_of old) (state_of old) k.becomes) (IsWorthIn (rules_of old) (state_of old) bytes) (kept_of entries old) (kept_of entries new) (work_of old) (work_of new) (worth_in (rules_of old) (state_of old) bytes k.becomes k.is_verdict)
    (grows_so entries old new k.becomes (λ e t is. not_edited (state_of old) k.becomes e t (sym same ∙ k.state) is) k.keeps)

-- a line that leaves the state, unless it waits for an open question, is one that waits, or leaves the state
pub kept_served : {K : Type 0} (entries : K → Entries) (old new : Engine K) (bytes : List ℕ) (r : Result FormValue AllocError) (wants : Bool) → SparesLine entries bytes r old new → (wants ≡ false → (f : FormValue) × (r ≡ Ok f)) → (wants ≡ true → AreAtOnce old bytes → state_of new ≡ state_of old)
    → KeepsServed entries wants bytes old new
kept_served entries old new bytes (Ok f) false spares is stays = spares.1
kept_served entries old new bytes (Ok f) true spares is stays = λ soon. unwritten entries old new bytes (spares.1 soon) (stays refl soon)
kept_served entries old new bytes (Err e) true spares is stays = spares.1
kept_served entries old new bytes (Err e) false spares is stays = absurd (not_ok (is refl).1)

-- what is told of bytes that are no line, or for want of memory
pub form_spares : {K : Type 0} (entries : K → Entries) (old new : Engine K) (bytes : List ℕ) (r x : Result FormValue AllocError) → x ≡ r → SparesLine entries bytes r old new → SparesLine entries bytes x old new
form_spares entries old new bytes r x is h = subst (λ (y : Result FormValue AllocError). SparesLine entries bytes y old new) (sym is) h

pub spare_line : {K : Type 0} (entries : K → Entries) (old new : Engine K) (bytes : List ℕ) (r : Result FormValue AllocError) (wants : Bool)
    → (wants ≡ false → (f : FormValue) × (r ≡ Ok f)) → SparesLine entries bytes r old new → KeepsWhole (rules_of old) wants → IsSpare entries new
spare_line entries old new bytes (Ok x) wants is spares whole = spares.0
spare_line entries old new bytes (Err e) true is spares whole = spares.0 whole
spare_line entries old new bytes (Err e) false is spares whole = absurd (not_ok (is refl).1)

-- commands that neither edit nor ask
module _ (rules : Rules) (s : State) (session : ℕ) where
  at_quiet : (place : Place) (f : Node → Verdict) → ((n : Node) → IsQuiet (f n)) → IsQuiet (at_node rules.classes s session place f)
  at_quiet place f all = by (node_named rules.classes s session place)
    where
      by : (o : Option Node) → IsQuiet (elim o as (λ _. Verdict) [ None ↦ Refuses code.Path | Some n ↦ f n ])
      by None = tt
      by (Some n) = all n

  pub show_quiet : (place : Place) → IsQuiet (obeyed rules s session (Show place))
  show_quiet place = at_quiet place _ (λ n. by (tree_at s.tree n))
    where
      by : (o : Option Tree) → IsQuiet (elim o as (λ _. Verdict) [ None ↦ Refuses code.Path | Some u ↦ Tells (Written (term_of rules.classes u)) ])
      by None = tt
      by (Some u) = tt

  pub mark_quiet : (name : List ℕ) (place : Place) → IsQuiet (obeyed rules s session (Mark name place))
  mark_quiet name place = at_quiet place (with_mark s session name) (λ n. by n (is_marked s.marks session name) (nat_le max_marks (count_by (λ m. nat_eq session m.session) s.marks)))
    where
      by : (n : Node) (a b : Bool) → IsQuiet (if a then Refuses code.Taken else (if b then Refuses code.Limit else Leaves (s.marks ++ record { session = session; name = name; node = n } ∷ [])))
      by n true b = tt
      by n false true = tt
      by n false false = tt

  pub where_quiet : (name : List ℕ) → IsQuiet (obeyed rules s session (Where name))
  where_quiet name = by (marked s.marks session name)
    where
      by : (o : Option Node) → IsQuiet (elim o as (λ _. Verdict) [ None ↦ Refuses code.Mark | Some n ↦ Tells (At (path_to rules.classes s.tree n)) ])
      by None = tt
      by (Some n) = tt

-- a post, and a line that could have waited
module _ (rules : Rules) (s : State) (session : ℕ) where
  pub post_quiet : (place : Place) (attribute : List ℕ) (arguments : List Argument) → IsQuiet (obeyed rules s session (Post place attribute arguments))
  post_quiet place attribute arguments = by (nat_le max_posted (count_by (λ q. nat_eq session q.session) s.posted)) (nat_eq s.posts last_post)
    where
      q : Posted
      q = record { number = s.posts + 1; session = session; place = place; attribute = attribute; arguments = arguments; marks = marks_named s.marks session (marks_used (Post place attribute arguments)); turns = 0 }

      by : (a b : Bool) → IsQuiet (if a then Refuses code.Limit else (if b then Refuses code.Limit else Posts q))
      by true b = tt
      by false true = tt
      by false false = tt

-- what is answered `true` is touched, where the answer is whether it is
pub touched_by : (answer touched : Bool) → answer ≡ touched → true ≡ answer → touched ≡ true
touched_by answer touched e f = sym (f ∙ e)
