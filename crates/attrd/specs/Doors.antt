-- What is done with the connections that come through a door.
use Rattle.std.specs.Prelude.{◌≡◌, ℕ, ◌+◌, Bool, List, Option, Result, Ok, Err}
use Rattle.at_cache.specs.Kept.{Entries}
use Rattle.at_cache.specs.Traced.{Memories}
use Rattle.at_engine.specs.Running.{RunsFor, max_reads}
use Rattle.at_engine.specs.declared.engine.Engine.{Engine}
use Rattle.at_engine.specs.declared.stream.desk.Report.{Report}
use Rattle.at_engine.specs.declared.stream.desk.RunFault.{RunFault}
use Rattle.attrd.specs.Connections.{counted, nobody}
use Rattle.attrd.specs.Seen.{Seen, AreFresh, IsRefused, IsServed, Comes}
use Rattle.attrd.specs.declared.serving.Served.{Served}
use Rattle.attrd.specs.declared.serving.ConnectionFault.{ConnectionFault}
use Rattle.attrd.specs.declared.serving.ConnectionFault.TheVariants.{Socket, Run}

-- how a connection ended that a run has served
abbrev pub ending : Result Report RunFault → Result Report ConnectionFault
ending (Ok report) = Ok report
ending (Err fault) = Err (Run fault)

-- One has come, all that a run promises holds of the one that has served it, and what that has written was sent to it; or the door
-- refused it, and nothing was done. Either is reported.
pub data ServesNext {K R W : Type 0} (entries : K → Entries) (memories : K → Memories)
    (remaining : R → Option (List ℕ)) (misread ended : R → Option Bool) (count : R → Option ℕ) (contents : W → Option (List ℕ))
    (failure : W → Option Bool) (waiting : W → Bool) (gathers : Bool) (old new : Engine K) (door later : Seen)
    (told : Result Report ConnectionFault) : Type 0 where
  by_run : (run : Result Report RunFault) (reader left : R) (writer written : W) (opened : Seen)
      → Comes door opened (remaining reader) (contents writer) → AreFresh (misread reader) (ended reader) (failure writer) (waiting writer)
      → RunsFor entries memories remaining misread ended count contents failure waiting max_reads gathers old new
      reader left writer written run
      → IsServed opened later (contents written) → told ≡ ending run
      → ServesNext entries memories remaining misread ended count contents failure waiting gathers old new door later told
  not_accepted : new ≡ old → IsRefused door later → told ≡ Err Socket
      → ServesNext entries memories remaining misread ended count contents failure waiting gathers old new door later told

-- So many were served so, each by the engine as the one before it has left that, and it was counted how they ended.
pub data ServesAll {K R W : Type 0} (entries : K → Entries) (memories : K → Memories)
    (remaining : R → Option (List ℕ)) (misread ended : R → Option Bool) (count : R → Option ℕ) (contents : W → Option (List ℕ))
    (failure : W → Option Bool) (waiting : W → Bool) (gathers : Bool) (old : Engine K) (door : Seen)
    : (connections : ℕ) → Engine K → (later : Seen) → Served → Type 0 where
  none : ServesAll entries memories remaining misread ended count contents failure waiting gathers old door 0 old door nobody
  one_more : {n : ℕ} {mid new : Engine K} {between later : Seen} {served : Served} {told : Result Report ConnectionFault}
      → ServesAll entries memories remaining misread ended count contents failure waiting gathers old door n mid between served
      → ServesNext entries memories remaining misread ended count contents failure waiting gathers mid new between later told
      → ServesAll entries memories remaining misread ended count contents failure waiting gathers old door (n + 1) new later (counted told served)
