-- What the loop leaves as it was, over calls one after the other.
use Rattle.std.proofs.Common.{◌≡◌, ◌∙◌, ◌⊎◌, ℕ, ◌+◌, ◌*◌, ◌≤◌, Bool, true, false, if◌then◌else◌, Option, Some, None, Result, Ok, Err, OnOk, inl, inr, refl, sym, ap, arith, subst, true≢false}
use Rattle.std.specs.Prelude.{Vec, is_err}
use Rattle.std.specs.Global.{Global}
use Rattle.at_cache.specs.Kept.{Entries}
use Rattle.at_cache.specs.Traced.{Memories}
use Rattle.at_engine.specs.Ends.{Remembers, SendsOn}
use Rattle.at_rules.specs.Circular.{HasNoneCircular}
use Rattle.at_engine.specs.Engines.{rules_of, state_of, IsSound}
use Rattle.at_engine.specs.Going.{Goes, KeepWhole, unsaid}
use Rattle.at_model.specs.Rules.{Rules}
use Rattle.at_engine.specs.Keeping.{IsSpare, KeepsWhole}
use Rattle.at_engine.specs.Turned.{is_memory}
use Rattle.at_engine.specs.Serving.{Calls}
use Rattle.at_engine.specs.Stepping.{GoesBy, by_line, by_turns, nowhere}
use Rattle.at_engine.specs.Taking.{countable}
use Rattle.at_engine.specs.declared.engine.Engine.{Engine}
use Rattle.at_engine.specs.declared.engine.Settings.{Settings}
use Rattle.at_engine.specs.declared.stream.desk.Desk.{Desk}
use Rattle.at_engine.specs.declared.stream.desk.RunFault.{RunFault}
use Rattle.at_engine.proofs.Remembering.{no_call, sends_later, then_calls}

-- the settings are the same, and so is how many turns follow each line
pub same_slice : {s t : Settings} → s ≡ t → s.slice ≡ t.slice
same_slice same = ap (λ (s : Settings). s.slice) same

-- what is sent on is told by whether there was a fault
sends_alike : {T U E F : Type 0} (r : Result T E) (s : Result U F) (waited waits : Bool) → is_err r ≡ is_err s → SendsOn r waited waits → SendsOn s waited waits
sends_alike (Ok x) (Ok y) waited waits same h = h
sends_alike (Ok x) (Err f) waited waits same h = tt
sends_alike (Err e) (Ok y) waited waits same h = absurd (true≢false same)
sends_alike (Err e) (Err f) waited waits same h = tt

sent_all : {T E : Type 0} (r : Result T E) (waited waits : Bool) → OnOk r (waits ≡ false) → SendsOn r waited waits
sent_all (Ok x) waited waits sent = λ none. sent
sent_all (Err e) waited waits sent = tt

-- nothing is said
unsaid_sent : {T E : Type 0} (r : Result T E) → SendsOn r false false
unsaid_sent (Ok x) = λ none. none
unsaid_sent (Err e) = tt

-- where a run's report tells of none, nothing was answered `memory` before its end, and none behind
module _ (rules : Rules) (start mid last : Desk) (count : ℕ) (counted : count ≡ last.memory) (zero : start.memory ≡ 0)
    (first : start.memory ≤ mid.memory) (second : mid.memory ≤ last.memory) where
  pub whole_before : HasNoneCircular rules ⊎ (count ≡ 0) → KeepWhole rules start mid
  whole_before (inl none) = inl none
  whole_before (inr never) = inr (omega (arith, counted, zero, first, second, never))

  pub whole_behind : HasNoneCircular rules ⊎ (count ≡ 0) → (others : Rules) → others ≡ rules → KeepWhole others mid last
  whole_behind (inl none) others same = inl (subst HasNoneCircular (sym same) none)
  whole_behind (inr never) others same = inr (omega (arith, counted, zero, first, second, never))

-- and then others
pub by_both : {K : Type 0} (entries : K → Entries) (memories : K → Memories) (old mid new : Engine K)
    → GoesBy entries memories old mid → GoesBy entries memories mid new
    → GoesBy entries memories old new
by_both entries memories old mid _ first nowhere = first
by_both entries memories old mid _ first (by_line next new line before after wants second served) =
    by_line next new line before after wants (by_both entries memories old mid next first second) served
by_both entries memories old mid _ first (by_turns next new limit before after spent second spends) =
    by_turns next new limit before after spent (by_both entries memories old mid next first second) spends

-- what belongs together is kept together in a call, where it is over the count of what was answered `memory`
pub served_whole_so : (rules : Rules) (wants : Bool) (desk next : Desk) → next.memory ≡ desk.memory + (if wants then 1 else 0)
    → KeepWhole rules desk next → KeepsWhole rules wants
served_whole_so rules false desk next m whole = tt
served_whole_so rules true desk next m (inl none) = none
served_whole_so rules true desk next m (inr still) = absurd (omega (arith, m, still))

pub given_whole : (rules : Rules) (told : Option Bool) (wants : Bool) → told ≡ Some wants → (desk next : Desk)
    → next.memory ≡ desk.memory + (if wants then 1 else 0) → KeepWhole rules desk next → KeepsWhole rules (is_memory told)
given_whole rules told wants is desk next m whole =
    subst (λ (o : Option Bool). KeepsWhole rules (is_memory o)) (sym is) (served_whole_so rules wants desk next m whole)

pub quiet_whole : (rules : Rules) (told : Option Bool) → told ≡ None → KeepsWhole rules (is_memory told)
quiet_whole rules told is = subst (λ (o : Option Bool). KeepsWhole rules (is_memory o)) (sym is) tt

-- where nothing was answered `memory` over both, nothing was over each
module _ {K : Type 0} (old mid : Engine K) (desk next same last : Desk) where
  pub first_whole : same.memory ≡ next.memory → desk.memory ≤ next.memory → same.memory ≤ last.memory → KeepWhole (rules_of old) desk last
      → KeepWhole (rules_of old) desk next
  first_whole e first second (inl none) = inl none
  first_whole e first second (inr still) = inr (omega (arith, e, first, second, still))

  pub later_whole : rules_of mid ≡ rules_of old → same.memory ≡ next.memory → desk.memory ≤ next.memory → same.memory ≤ last.memory
      → KeepWhole (rules_of old) desk last → KeepWhole (rules_of mid) same last
  later_whole rules e first second (inl none) = inl (subst HasNoneCircular (sym rules) none)
  later_whole rules e first second (inr still) = inr (omega (arith, e, first, second, still))

module _ {K W : Type 0} (entries : K → Entries) (memories : K → Memories)
    (failure : W → Option Bool) (waiting : W → Bool) where
  -- nothing was written, and the engine is as it was
  pub goes_nowhere : {T : Type 0} (e : Engine K) (desk next : Desk) (w : W) (lines : ℕ) (x : T) → IsSound entries memories e → next.lines ≡ desk.lines → next.memory ≡ desk.memory
      → Goes entries memories failure waiting e e desk next w w lines (Ok x)
  goes_nowhere e desk next w lines x sound same_lines same_memory = record {
    failed = no_call (failure w);
    by = nowhere;
    sent = λ none. none;
    spare = λ whole spare. spare;
    wanted = omega (arith, same_memory);
    rules = refl;
    settings = refl;
    grows = omega (arith, same_lines, same_memory);
    sound = sound;
  }

  -- the engine was called, and what that told was written, or could not be
  pub goes_wrote : {T U D : Type 0} {IsDone : T → Type 0} {a : T} (old new : Engine K) (desk next : Desk) (w x : W) (lines : ℕ) (out later : Vec ℕ Global) (result : Result U RunFault)
      → Calls {E = D} entries memories old new out later IsDone (Ok a)
      → (KeepWhole (rules_of old) desk next → IsSpare entries old → IsSpare entries new) → desk.memory ≤ next.memory → Remembers (failure w) (failure x) (is_err result) → OnOk result (waiting x ≡ false)
      → GoesBy entries memories old new → countable next (state_of new) ≤ countable desk (state_of old) + 3 * lines
      → Goes entries memories failure waiting old new desk next w x lines result
  goes_wrote old new desk next w x lines out later result call spare wanted failed sent by grows = record {
    failed = failed;
    by = by;
    sent = sent_all result (waiting w) (waiting x) sent;
    spare = spare;
    wanted = wanted;
    rules = call.rules;
    settings = call.settings;
    grows = grows;
    sound = call.sound;
  }

  -- the same, told by another answer
  pub goes_alike : {T U : Type 0} (old new : Engine K) (desk next : Desk) (w x : W) (lines : ℕ) (r : Result T RunFault) (result : Result U RunFault) → is_err r ≡ is_err result
      → Goes entries memories failure waiting old new desk next w x lines r → Goes entries memories failure waiting old new desk next w x lines result
  goes_alike old new desk next w x lines r result same h = record {
    failed = subst (Remembers (failure w) (failure x)) same h.failed;
    by = h.by;
    sent = sends_alike r result (waiting w) (waiting x) same h.sent;
    spare = h.spare;
    wanted = h.wanted;
    rules = h.rules;
    settings = h.settings;
    grows = h.grows;
    sound = h.sound;
  }

  -- one call after another; between them the desk was changed, but for its counts
  pub goes_on : {T U : Type 0} (old mid new : Engine K) (desk next same last : Desk) (w x y : W) (m n lines : ℕ) (u : T) (result : Result U RunFault) → Goes entries memories failure waiting old mid desk next w x m (Ok u)
      → same.lines ≡ next.lines → same.memory ≡ next.memory → m + n ≤ lines → Goes entries memories failure waiting mid new same last x y n result → Goes entries memories failure waiting old new desk last w y lines result
  goes_on old mid new desk next same last w x y m n lines u result first same_lines same_memory few second = record {
    failed = then_calls (failure w) (failure x) (failure y) (is_err result) first.failed second.failed;
    by = by_both entries memories old mid new first.by second.by;
    sent = sends_later result (waiting w) (waiting x) (waiting y) first.sent second.sent;
    spare = λ whole spare.
        second.spare (later_whole old mid desk next same last first.rules same_memory first.wanted second.wanted whole)
        (first.spare (first_whole old mid desk next same last same_memory first.wanted second.wanted whole) spare);
    wanted = omega (arith, first.wanted, second.wanted, same_memory);
    rules = second.rules ∙ first.rules;
    settings = second.settings ∙ first.settings;
    grows = omega (arith, first.grows, second.grows, same_lines, same_memory, few);
    sound = second.sound;
  }

  -- no more lines were counted than so many more
  pub goes_more : {T : Type 0} (old new : Engine K) (desk next : Desk) (w x : W) (m n : ℕ) (result : Result T RunFault) → m ≤ n → Goes entries memories failure waiting old new desk next w x m result
      → Goes entries memories failure waiting old new desk next w x n result
  goes_more old new desk next w x m n result few h = record { failed = h.failed; by = h.by; sent = h.sent; spare = h.spare; wanted = h.wanted; rules = h.rules; settings = h.settings; grows = omega (arith, few, h.grows); sound = h.sound }

  -- no more is said of what waits
  pub goes_unsaid : {T : Type 0} (old new : Engine K) (desk next : Desk) (w x : W) (lines : ℕ)
      (result : Result T RunFault)
      → Goes entries memories failure waiting old new desk next w x lines result
      → Goes entries memories failure unsaid old new desk next w x lines result
  goes_unsaid old new desk next w x lines result h = record {
    failed = h.failed;
    by = h.by;
    sent = unsaid_sent result;
    spare = h.spare;
    wanted = h.wanted;
    rules = h.rules;
    settings = h.settings;
    grows = h.grows;
    sound = h.sound;
  }

  -- it is said
  pub goes_said : {T : Type 0} (old new : Engine K) (desk next : Desk) (w x : W) (lines : ℕ)
      (result : Result T RunFault)
      → SendsOn result (waiting w) (waiting x)
      → Goes entries memories failure unsaid old new desk next w x lines result
      → Goes entries memories failure waiting old new desk next w x lines result
  goes_said old new desk next w x lines result sent h = record {
    failed = h.failed;
    by = h.by;
    sent = sent;
    spare = h.spare;
    wanted = h.wanted;
    rules = h.rules;
    settings = h.settings;
    grows = h.grows;
    sound = h.sound;
  }
