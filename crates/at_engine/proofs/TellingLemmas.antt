-- What is told of a line is a reply to it.
use Rattle.std.proofs.Common.{◌≡◌, ℕ, true, false, List, Option, None, inl, refl, sym, ◌∙◌}
use Rattle.std.specs.List.{list_all}
use Rattle.at_model.specs.Rules.{Rules}
use Rattle.at_model.specs.Lines.{Spells, IsSessionOf, Line}
use Rattle.at_model.specs.Machine.{State, Verdict, Refuses, Waits, is_read, is_stale, is_marked, marks_used, verdict}
use Rattle.at_model.specs.Machine as machine
use Rattle.at_model.specs.Replies.{Refused}
use Rattle.at_model.specs.Replies as code
use Rattle.at_protocol.specs.declared.reply.Refusal.TheVariants as refusal
use Rattle.at_protocol.specs.declared.reply.Form.TheVariants as form
use Rattle.at_cache.specs.Kept.{Entries}
use Rattle.at_cache.specs.Traced.{Memories}
use Rattle.at_engine.specs.Engines.{rules_of, state_of}
use Rattle.at_engine.specs.Hearing.{IsStep}
use Rattle.at_engine.specs.KeptOver.{HasVerdict}
use Rattle.at_engine.specs.KeptOver as kept
use Rattle.at_engine.specs.Telling.{IsTold, Meets, memory_for}
use Rattle.at_engine.specs.declared.engine.Engine.{Engine}
use Rattle.at_engine.proofs.FollowingLemmas.{refuses}
use Rattle.at_engine.proofs.Verdicts.{at_stale, at_unmarked, at_unread}

module _ (rules : Rules) (s : State) (l : Line) where
  pub meets_unread : is_read rules l.command ≡ false → Meets rules s l (form.Refused refusal.Syntax) s
  meets_unread e = refuses rules s (verdict rules s l) refusal.Syntax (at_unread rules s l e)

  module _ (read : is_read rules l.command ≡ true) where
    pub meets_stale : is_stale l.expected s.version ≡ true → Meets rules s l (form.Refused (refusal.Stale s.version)) s
    meets_stale e = refuses rules s (verdict rules s l) (refusal.Stale s.version) (at_stale rules s l read e)

    pub meets_unmarked : is_stale l.expected s.version ≡ false → list_all (is_marked s.marks l.session) (marks_used l.command) ≡ false
        → Meets rules s l (form.Refused refusal.Mark) s
    meets_unmarked e f = refuses rules s (verdict rules s l) refusal.Mark (at_unmarked rules s l read e f)

module _ {K : Type 0} (entries : K → Entries) (memories : K → Memories) (e : Engine K) (bytes : List ℕ) (session : Option ℕ)
    (is : IsSessionOf bytes session) where
  -- memory ran out before anything was tried
  pub step_unread : IsStep entries memories bytes e e (true, memory_for session None)
  step_unread = record { serves = machine.runs_out is; waits = λ number h. inl (refl, refl) }

  -- bytes that are no line are refused
  pub told_unread : ((l : Line) → Spells bytes l → ⊥) → IsTold (IsStep entries memories bytes e e) session None (form.Refused refusal.Syntax)
  told_unread none = record {
    writable = tt;
    form = Refused code.Syntax;
    is_form = refl;
    may = record { serves = machine.handles (machine.refuses none is); waits = λ number h. absurd (by number (Waits number) h refl) };
    unsaid = λ long. step_unread;
  }
    where
      by : (number : ℕ) (v : Verdict) → HasVerdict (rules_of e) (state_of e) bytes v → v ≡ Waits number → ⊥
      by number v (kept.obeys l spells so) same = none l spells
      by number v (kept.refuses unread so) same = let never : Refuses code.Syntax ≡ Waits number = sym so ∙ same in absurd cc
