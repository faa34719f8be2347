-- What comes of saying what a line is told.
use Rattle.std.proofs.Common.{◌≡◌, ◌++◌, ℕ, true, false, List, [], ◌∷◌, length, ◌<◌, arith, Option, Some, None, option_map, refl, sym, ap, ◌∙◌, subst, inr, Result, Ok, Err, IfOk, OnErr, Bool}
use Rattle.std.specs.declared.alloc.AllocError.{AllocError}
use Rattle.at_model.specs.Rules.{Rules}
use Rattle.at_model.specs.Lines.{Line, Spells}
use Rattle.at_model.specs.Replies.{Form, Memory, Reply, reply_text}
use Rattle.at_model.specs.Machine.{State, Posted as PostedOf, Verdict, Answered, Serves, Waits, last, answers, runs_out, done_reply, verdict, obeys, waits, without}
use Rattle.at_model.specs.Machine as machine
use Rattle.at_protocol.specs.ReplyView.{IsForm, posting_view}
use Rattle.at_protocol.specs.Writable.{IsShort, IsWritable}
use Rattle.at_protocol.specs.declared.reply.Form.{Form as FormValue}
use Rattle.at_protocol.specs.declared.reply.Posting.{Posting as PostingValue}
use Rattle.at_protocol.proofs.Lines.{one_line}
use Rattle.at_store.specs.Shown.{path}
use Rattle.at_cache.specs.Kept.{Entries}
use Rattle.at_cache.specs.Traced.{Memories}
use Rattle.at_engine.specs.Engines.{rules_of, state_of}
use Rattle.at_engine.specs.Following.{IsAtOnce}
use Rattle.at_engine.specs.Hearing.{Hears, IsClosed, IsStep}
use Rattle.at_engine.specs.Hearing as hearing
use Rattle.at_engine.specs.KeptOver.{AreWaiting, HasVerdict}
use Rattle.at_engine.specs.KeptOver as kept
use Rattle.at_engine.specs.Posted.{posted_view}
use Rattle.at_engine.specs.Serving.{IsServed, TakesLine}
use Rattle.at_engine.specs.Telling.{Gets, IsSaid, Meets, memory_for}
use Rattle.at_engine.specs.Turning.{AnswersIn, HasEnded, StandsAt}
use Rattle.at_engine.specs.declared.engine.Engine.{Engine}
use Rattle.at_engine.specs.declared.engine.saying.Told.{Told}
use Rattle.at_engine.specs.declared.posts.Posted.{Posted}
use Rattle.at_engine.proofs.Sessions.{session_of_line}
use Rattle.at_engine.proofs.of_turns.Counted.{out_behind}

-- what is told at once is heard so
pub heard_at_once : {K : Type 0} (entries : K → Entries) (memories : K → Memories) (old new : Engine K) (l : Line) (told : Told) (r : Result FormValue AllocError)
    → told.session ≡ Some l.session → told.done ≡ None → told.form ≡ r → IfOk r (λ f. Meets (rules_of old) (state_of old) l f (state_of new))
    → OnErr r (state_of new ≡ state_of old) → IsAtOnce (verdict (rules_of old) (state_of old) l) → Hears entries memories old new l told
heard_at_once entries memories old new l told r session done form meets err soon = hearing.at_once session done
    (subst (λ (x : Result FormValue AllocError). IfOk x (λ f. Meets (rules_of old) (state_of old) l f (state_of new))) (sym form) meets)
    (subst (λ (x : Result FormValue AllocError). OnErr x (state_of new ≡ state_of old)) (sym form) err) soon

-- so it is of any bytes
pub gets_at_once : (May : Bool × Reply → Type 0) (told : Told) (session : Option ℕ) (r : Result FormValue AllocError) → told.session ≡ session
    → told.done ≡ None → told.form ≡ r → Gets May session None r → Gets May told.session told.done told.form
gets_at_once May told session r is none form h =
    subst (λ (o : Option ℕ). Gets May o told.done told.form) (sym is)
    (subst (λ (o : Option PostingValue). Gets May session o told.form) (sym none)
    (subst (λ (x : Result FormValue AllocError). Gets May session None x) (sym form) h))

-- no test is both
pub not_both : false ≡ true → ⊥
not_both e = absurd cc

-- what a line is told is a reply to it
module _ {K : Type 0} (entries : K → Entries) (memories : K → Memories) (old new : Engine K) (bytes : List ℕ) (l : Line) (spells : Spells bytes l) where
  abbrev May : Bool × Reply → Type 0
  May = IsStep entries memories bytes old new

  abbrev becomes : Verdict
  becomes = verdict (rules_of old) (state_of old) l

  abbrev Replies : State → Bool × Reply → Type 0
  Replies = Serves (rules_of old) (state_of old) bytes

  -- bytes spell one line
  one_verdict : (v : Verdict) → HasVerdict (rules_of old) (state_of old) bytes v → v ≡ becomes
  one_verdict v (kept.obeys k spelled is) = is ∙ ap (verdict (rules_of old) (state_of old)) (one_line bytes k l spelled spells)
  one_verdict v (kept.refuses none is) = absurd (none l spells)

  -- at once
  module _ (soon : IsAtOnce becomes) where
    step_at_once : (told : Bool × Reply) → Replies (state_of new) told → May told
    step_at_once told serves = record {
      serves = serves;
      waits = λ number h. absurd (subst IsAtOnce (sym (one_verdict (Waits number) h)) soon);
    }

    unread_at_once : state_of new ≡ state_of old → May (true, memory_for (Some l.session) None)
    unread_at_once same = step_at_once _ (subst (λ (x : State). Replies x (true, memory_for (Some l.session) None)) (sym same)
        (machine.runs_out (session_of_line bytes l spells)))

    got_at_once : (r : Result FormValue AllocError) → IfOk r (λ f. Meets (rules_of old) (state_of old) l f (state_of new))
        → OnErr r (state_of new ≡ state_of old) → Gets May (Some l.session) None r
    got_at_once (Ok f) m err = record {
      writable = m.writable;
      form = m.form;
      is_form = m.is_form;
      may = step_at_once _ (machine.handles (obeys l spells (record { session = refl; done = refl; state = m.state; says = m.says })));
      unsaid = λ long. unread_at_once (m.kept long);
    }
    got_at_once (Err e) meets err = unread_at_once err

  -- a line that waits is told the answer to its question, or that memory ran out
  module _ (position : ℕ) (p : Posted) (there : StandsAt old.posts.items.items position p) (is : becomes ≡ Waits p.number) where
    abbrev question : PostedOf
    question = posted_view (path old.store) p

    waited_step : (told : Bool × Reply) (given : ℕ) → Replies (state_of new) told → AnswersIn entries memories None old new.demand p given told
        → May told
    waited_step told given serves tried = record {
      serves = serves;
      waits = λ number h. inr (record {
        position = position;
        question = p;
        there = there;
        numbered' = let same : Waits number ≡ Waits p.number = one_verdict (Waits number) h ∙ is in cc;
        given = given;
        answers = tried;
      });
    }

    -- what turns told, in the words of what was told
    replied : (told : Told) → IsClosed entries memories old new p told → (wants : Bool) (form : Form)
        → Answered (rules_of old) p.number (state_of old) (without p.number (state_of old)) (wants, done_reply (state_of old) question form)
        → Replies (state_of new) (wants, record { session = told.session; done = option_map posting_view told.done; form = form })
    replied told c wants form answered =
        let reply : record { session = told.session; done = option_map posting_view told.done; form = form } ≡ done_reply (state_of old) question form =
        λ i. record { session = c.session i; done = c.done i; form = form } in
        subst (λ (r : Reply). Replies (state_of new) (wants, r)) (sym reply)
        (subst (λ (x : State). Replies x (wants, done_reply (state_of old) question form)) (sym c.gone)
        (machine.handles (waits l p.number spells is answered)))

    memory_answer : (told : Told) → IsClosed entries memories old new p told → Replies (state_of new) (true, memory_for told.session told.done)
    memory_answer told c = replied told c true Memory (last (runs_out question c.there))

    got_by_turns : (told : Told) → IsClosed entries memories old new p told → (r : Result FormValue AllocError)
        → HasEnded entries memories old new.demand p r → Gets May told.session told.done r
    got_by_turns told c (Ok f) (given, said, ends) = record {
      writable = said.writable;
      form = said.form;
      is_form = said.is_form;
      may = waited_step _ given (replied told c false said.form (last (answers question said.form c.there said.answers))) ends;
      unsaid = λ long. waited_step _ given (memory_answer told c)
          (out_behind entries memories None old new.demand p given 0 f said.form tt ends);
    }
    got_by_turns told c (Err e) ended = waited_step _ 0 (memory_answer told c) ended

  pub got : (told : Told) → Hears entries memories old new l told → Gets May told.session told.done told.form
  got told (hearing.at_once session done meets err soon) =
      subst (λ (o : Option ℕ). Gets May o told.done told.form) (sym session)
      (subst (λ (o : Option PostingValue). Gets May (Some l.session) o told.form) (sym done) (got_at_once soon told.form meets err))
  got told (hearing.by_turns position p there is c) = got_by_turns position p there is told c told.form c.ended

pub writable_so : (May : Bool × Reply → Type 0) (session : Option ℕ) (done : Option PostingValue) (r : Result FormValue AllocError) → Gets May session done r
    → IfOk r IsWritable
writable_so May session done (Ok f) g = g.writable
writable_so May session done (Err e) g = tt

same_ok : {T E : Type 0} {a b : T} → ◌≡◌ {A = Result T E} (Ok a) (Ok b) → a ≡ b
same_ok e = cc

not_ok : {T E : Type 0} {a : T} {e : E} → ◌≡◌ {A = Result T E} (Err e) (Ok a) → ⊥
not_ok e = absurd cc

-- what was said is a reply to the line
module _ (May : Bool × Reply → Type 0) (before after : List ℕ) where
  pub answered : (told : Told) (r : Result FormValue AllocError) → told.form ≡ r → (wants : Bool) → Gets May told.session told.done r → IsSaid told wants before after
      → (reply : Reply) × May (wants, reply) × (after ≡ before ++ reply_text reply)
  answered told (Ok f) is false g (h, same, writes) =
      let e : f ≡ h = same_ok (sym is ∙ same) in
      let reply : Reply = record { session = told.session; done = option_map posting_view told.done; form = g.form } in
      (reply, g.may, writes reply (record { session = refl; done = refl; form = subst (λ (x : FormValue). IsForm x g.form) e g.is_form }))
  answered told (Ok f) is true g said =
      let long : IsShort (record { session = told.session; done = told.done; form = f }) → ⊥ = subst (λ (x : Result FormValue AllocError). IfOk x (λ f. IsShort (record { session = told.session; done = told.done; form = f }) → ⊥)) is said.0 in
      (memory_for told.session told.done, g.unsaid long, said.1)
  answered told (Err e) is true g said = (memory_for told.session told.done, g, said.1)
  answered told (Err e) is false g (h, same, writes) = absurd (not_ok (sym is ∙ same))

-- where it is `memory` though there was something to tell, the line leaves the state, unless it waits
pub said_form : (told : Told) (wants : Bool) (before after : List ℕ) → IsSaid told wants before after → wants ≡ false → (f : FormValue) × (told.form ≡ Ok f)
said_form told false before after (f, is, writes) e = (f, is)
said_form told true before after said e = let x : true ≡ false = e in absurd cc

-- where it is for want of memory, a line that doesn't wait leaves the state
pub stays_unless : (rules : Rules) (old new : State) (bytes : List ℕ) (said : Bool × Reply) → said.0 ≡ true → Serves rules old bytes new said → (AreWaiting rules old bytes → ⊥) → new ≡ old
stays_unless rules old new bytes _ e (machine.handles (obeys l spells step)) none = absurd (not_both e)
stays_unless rules old new bytes said e (machine.handles (waits l number spells is answered)) none = absurd (none (number, kept.obeys l spells (sym is)))
stays_unless rules old _ bytes _ e (machine.handles (machine.refuses none session)) n = refl
stays_unless rules old _ bytes _ e (machine.runs_out session) none = refl

-- a line that isn't empty is served so, and an empty one changes nothing
module _ {K : Type 0} (entries : K → Entries) (memories : K → Memories) (old : Engine K) (before after : List ℕ) where
  pub taken : (new : Engine K) (wants : Bool) (line : List ℕ) → 0 < length line → IsServed entries memories line old new before after wants
      → TakesLine entries memories line old new before after
  taken new wants [] some s = absurd (omega (arith, some))
  taken new wants (b ∷ bs) some s = (wants, s)

  pub taken_nowhere : (line : List ℕ) → length line ≡ 0 → after ≡ before → TakesLine entries memories line old old before after
  taken_nowhere [] none same = (refl, same)
  taken_nowhere (b ∷ bs) none same = absurd (omega (arith, none))
