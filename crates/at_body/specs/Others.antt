-- The expressions that are not of the forms that are met most.
use Rattle.std.specs.Prelude.{◌≢◌, ℕ, Vec}
use Rattle.std.specs.Global.{Box, Global}
use Rattle.at_rules.specs.declared.body.Body.{Body}
use Rattle.at_rules.specs.declared.body.Body.TheVariants as variant
use Rattle.at_rules.specs.declared.body.Operator.{Operator}

-- neither a node's token nor arithmetic nor a call
pub record IsOther (body : Body) : Type 0 where
  pub no_token : (a : Box Body) (part : ℕ) → body ≢ variant.TokenOf a part
  pub no_arithmetic : (operator : Operator) (a b : Box Body) → body ≢ variant.Arithmetic operator a b
  pub no_call : (a : Box Body) (attribute : ℕ) (passed : Vec Body Global) → body ≢ variant.Call a attribute passed
