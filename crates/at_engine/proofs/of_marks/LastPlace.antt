-- Where the last question was asked.
use Rattle.std.proofs.Common.{◌≡◌, ◌<◌, ℕ, List, [], Option, Some, None, Result, Ok, Err, Bor, length, arith, sym, subst}
use Rattle.std.specs.Prelude.{IfSome}
use Rattle.at_model.specs.Classes.{Classes}
use Rattle.at_model.specs.Lines.{Place, From_root, IsPlace, max_sessions}
use Rattle.at_model.specs.Machine.{Verdict, node_named}
use Rattle.at_model.specs.Paths.{Path}
use Rattle.at_protocol.specs.Again.{front_text}
use Rattle.at_protocol.specs.declared.reply.Form.{Form}
use Rattle.at_store.specs.Shown.{Shown}
use Rattle.at_cache.specs.Kept.{Entries}
use Rattle.at_cache.specs.Traced.{Memories}
use Rattle.at_engine.specs.Commanding.{Fulfils}
use Rattle.at_engine.specs.Engines.{rules_of, IsSound}
use Rattle.at_engine.specs.Keeping.{Spares}
use Rattle.at_engine.specs.Lasting.{IsKnown, LeadsTo}
use Rattle.at_engine.specs.Marks.{Mark}
use Rattle.at_engine.specs.Naming.{IsNumberOf}
use Rattle.at_engine.specs.Seen.{state_seen}
use Rattle.at_engine.specs.declared.engine.Engine.{Engine}
use Rattle.at_engine.specs.declared.engine.lasting.Last.{Last}

-- nothing is remembered
pub nothing_known : (classes : Classes) (s : Shown) (last : Last) → last.front.items ≡ [] → IsKnown classes s last
nothing_known classes s last none some = absurd (omega (arith, subst (λ (front : List ℕ). 0 < length front) none some))

-- what stands before the attribute of a question leads to its node
pub leads : (classes : Classes) (s : Shown) (marks : List Mark) (session node : ℕ) (place : Place) (front : Option (Bor (List ℕ))) → session < max_sessions → IsPlace place → IsNumberOf s (node_named classes (state_seen s marks) session place) (Some node)
    → IfSome front (λ f. (steps : Path) × (place ≡ From_root steps) × (f.now ≡ front_text session steps)) → IfSome front (λ f. LeadsTo classes s f.now session node)
leads classes s marks session node place None small is_place number parts = tt
leads classes s marks session node place (Some f) small is_place number parts = record {
  steps = parts.0;
  exists = small;
  is_path = subst IsPlace parts.1 is_place;
  text = parts.2;
  named = subst (λ (p : Place). IsNumberOf s (node_named classes (state_seen s marks) session p) (Some node)) parts.1 number;
}

-- another place is remembered, and nothing else has changed
module _ {K : Type 0} (entries : K → Entries) (memories : K → Memories)
    (old mid : Engine K) (rest : mid ≡ record old { last = mid.last }) (known : IsKnown (rules_of old).classes old.store mid.last) where
  pub noted_sound : IsSound entries memories old → IsSound entries memories mid
  noted_sound sound =
      let same : IsSound entries memories (record old { last = mid.last }) = record { held = sound.held; typed = sound.typed; known = known } in
      subst (IsSound entries memories) (sym rest) same

  spared : {E : Type 0} (v : Verdict) (result : Result Form E) (new : Engine K) → Spares entries v result (record old { last = mid.last }) new → Spares entries v result old new
  spared v (Ok f) new h = h
  spared v (Err x) new h = h

  pub noted_so : {E : Type 0} (v : Verdict) (result : Result Form E) (new : Engine K) → Fulfils entries memories mid v result new → Fulfils entries memories old v result new
  noted_so {E} v result new fulfils =
      let same : Fulfils {E = E} entries memories (record old { last = mid.last }) v result new = subst (λ (e : Engine K). Fulfils entries memories e v result new) rest fulfils in
      record {
        obeys = same.obeys;
        err = same.err;
        spares = λ it. spared v result new (same.spares (record { unbounded = it.unbounded; spare = it.spare }));
        stays = record { rules = same.stays.rules; settings = same.stays.settings; sound = same.stays.sound; known = λ k. same.stays.known known };
        went = same.went;
      }
