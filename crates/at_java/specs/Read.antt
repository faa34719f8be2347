-- What a reader takes of a row of tokens: a form and the rest, or the first fault.
use Rattle.std.specs.Prelude.{◌≡◌}
use Rattle.at_text.specs.Rows.{Row}
use Rattle.at_text.specs.declared.place.Place.{Place}
use Rattle.at_text.specs.declared.fault.Failure.{Failure}
use Rattle.at_text.specs.declared.fault.Failure.TheVariants.{For, Memory}
use Rattle.at_java.specs.declared.JavaCode.{JavaCode}
use Rattle.at_java.specs.declared.reader.Breach.{Breach}
use Rattle.at_java.specs.declared.reader.Breach.TheVariants.{Here, At}

-- a fault at the first of the tokens that are left, or at the end of the text; or at a place before that
pub data Fault : Type 0 where
  here : JavaCode → Row → Fault
  at_place : JavaCode → Place → Fault

pub data Read (A : Type 0) : Type 0 where
  got : A → Row → Read A
  fails : Fault → Read A

-- what is read behind what was read
abbrev pub then_read : {A B : Type 0} → Read A → (A → Row → Read B) → Read B
then_read (got a rest) next = next a rest
then_read (fails f) next = fails f

-- the same, of what stands for it
abbrev pub map_read : {A B : Type 0} → (A → B) → Read A → Read B
map_read f (got a rest) = got (f a) rest
map_read f (fails x) = fails x

-- Reading stopped by this fault, with these tokens left. Of want of memory nothing is said.
abbrev pub Fails : {A : Type 0} → Failure Breach → Row → Read A → Type 0
Fails (For (Here code)) rest read = read ≡ fails (here code rest)
Fails (For (At code at)) rest read = read ≡ fails (at_place code at)
Fails Memory rest read = Unit {0}
