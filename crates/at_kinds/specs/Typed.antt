-- What the values of typing stand for, and what is said of a result.
use Rattle.std.specs.Prelude.{◌≡◌, List, map, option_map, Result, Ok, Err, Vec, Box, string_bytes, if◌then◌else◌}
use Rattle.at_model.specs.Bodies.{Expr}
use Rattle.at_rules.specs.Bodies.{body_view}
use Rattle.at_rules.specs.declared.body.Body.{Body}
use Rattle.at_rules.specs.declared.body.Body as body
use Rattle.at_kinds.specs.Judging.{Kinded, Judgement, Is, Wrong, Bound, Scope, Listed, is_computed}
use Rattle.at_kinds.specs.declared.arguments.Arguments.{Arguments}
use Rattle.at_kinds.specs.declared.arguments.Arguments.TheVariants.{Given, Computed}
use Rattle.at_kinds.specs.declared.code.RuleCode.{RuleCode}
use Rattle.at_kinds.specs.declared.typing.kinds.Typed.{Typed}
use Rattle.at_kinds.specs.declared.typing.folds.List.{List as ListValue}
use Rattle.at_kinds.specs.declared.typing.Bound.{Bound as BoundValue}
use Rattle.at_kinds.specs.declared.typing.Scope.{Scope as ScopeValue}
use Rattle.at_text.specs.declared.fault.Fault.{Fault}
use Rattle.at_text.specs.declared.fault.Fault.TheVariants.{Refused, Memory}

abbrev pub boxed_view : {Z : Type 0} → Box Body Z → Expr
boxed_view b = body_view b.value

abbrev pub typed_view : Typed → Kinded
typed_view t = record { at = t.at; kind = t.kind; body = body_view t.body.value }

-- the body of an argument: what is computed is looked at when it is passed
abbrev pub passed_body : Arguments → Typed → Body
passed_body Given t = t.body.value
passed_body Computed t = if is_computed t.kind (body_view t.body.value) then body.Passed t.body else t.body.value

abbrev pub all_view : {Z : Type 0} → Vec Typed Z → List Kinded
all_view ts = map typed_view ts.items

abbrev pub list_view : ListValue → Listed
list_view l = record { node = body_view l.node.value; part = l.part; class = l.class }

abbrev pub bound_view : BoundValue → Bound
bound_view b = record { name = string_bytes b.name.value; kind = b.kind }

abbrev pub scope_view : ScopeValue → Scope
scope_view s = record {
  classes = s.classes.now;
  declared = s.signatures.now;
  arguments = s.arguments;
  this = s.this;
  names = map bound_view s.names.now;
  index = option_map (λ n. n.now) s.index;
}

-- it is what is judged, or its first fault; of want of memory nothing is said
abbrev pub Judges : {A T : Type 0} → (T → A) → Judgement A → Result T (Fault RuleCode) → Type 0
Judges view j (Ok t) = j ≡ Is (view t)
Judges view j (Err (Refused c at)) = j ≡ Wrong c at
Judges view j (Err Memory) = Unit {0}
