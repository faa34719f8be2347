-- What is told of answers, of values, faults and circles.
use Rattle.std.proofs.Common.{◌≡◌, ℕ, ℤ, Bool, Option, Some, None, Result, IfOk, refl, sym, ap, ◌∙◌, string_bytes}
use Rattle.std.specs.Prelude.{String}
use Rattle.std.specs.Global.{Global}
use Rattle.at_model.specs.Trees.{Tree}
use Rattle.at_model.specs.Trees as tree
use Rattle.at_model.specs.Paths.{Node, Path, IsPath}
use Rattle.at_model.specs.Run.{Value, Int, Truth, Text, Ref, Instance}
use Rattle.at_model.specs.Rules.{Rules, attribute_name, plain_name}
use Rattle.at_model.specs.Classes.{Classes}
use Rattle.at_model.specs.Meaning.{Answer, Outcomes, Circle, Finds, Faults}
use Rattle.at_model.specs.Machine.{path_to, shown_value}
use Rattle.at_model.specs.Replies.{Fails, Circular, At, Plain}
use Rattle.at_model.specs.Alike.{AnswerLike, outcome, circle, find, fault, ValueLike, int, truth, text, ref, OptionLike, neither, both, Names}
use Rattle.at_tree.specs.PathView.{path_view}
use Rattle.at_tree.specs.declared.path.Path.{Path as PathValue}
use Rattle.at_tree.specs.Token.{token_view}
use Rattle.at_class.specs.declared.token.TokVal.{TokVal}
use Rattle.at_class.specs.declared.token.TokVal.TheVariants as token
use Rattle.at_body.specs.Values.{FaultCode, fault_view}
use Rattle.at_protocol.specs.declared.reply.Shown.{Shown as ShownValue}
use Rattle.at_protocol.specs.declared.reply.Shown.TheVariants as shown
use Rattle.at_protocol.specs.declared.reply.Form.TheVariants as form
use Rattle.at_engine.specs.Telling.{IsShownAs, IsToldAs}

module _ (path : ℕ → Option Node) (classes : Classes) (t : Tree) where
  pub shown_int : (n : ℤ) (v : TokVal) → token_view v ≡ tree.Int n → {w : Value Node} → ValueLike (Names path) (Int n) w → IsShownAs (shown_value classes t w) (shown.Token v)
  shown_int n v e (int m) = record { is_shown = ap Plain (sym e); writable = tt }

  pub shown_truth : (b : Bool) {w : Value Node} → ValueLike (Names path) (Truth b) w → IsShownAs (shown_value classes t w) (shown.Token (token.Bool b))
  shown_truth b (truth c) = record { is_shown = refl; writable = tt }

  pub shown_text : (s : String Global) {w : Value Node} → ValueLike (Names path) (Text (string_bytes s)) w → IsShownAs (shown_value classes t w) (shown.Token (token.Str s))
  shown_text s (text bytes) = record { is_shown = refl; writable = tt }

  pub shown_null : {o : Option Node} → OptionLike (Names path) None o → IsShownAs (shown_value classes t (Ref o)) shown.Null
  shown_null neither = record { is_shown = refl; writable = tt }

  pub shown_node : (k : ℕ) (p : PathValue) → IsPath (path_view p) → ((n : Node) → path k ≡ Some n → path_view p ≡ path_to classes t n) → {o : Option Node} → OptionLike (Names path) (Some k) o → IsShownAs (shown_value classes t (Ref o)) (shown.Node p)
  shown_node k p writable is (both {b = n} e) = record { is_shown = ap At (sym (is n e)); writable = writable }

  pub shown_ref : {E : Type 0} (o : Option ℕ) (r : Result ShownValue E) → ((m : Option Node) → OptionLike (Names path) o m → IfOk r (IsShownAs (shown_value classes t (Ref m)))) → {w : Value Node} → ValueLike (Names path) (Ref o) w → IfOk r (IsShownAs (shown_value classes t w))
  shown_ref o r h (ref {m = m} l) = h m l

module _ (path : ℕ → Option Node) (rules : Rules) (t : Tree) where
  pub told_value : (told : ShownValue) {v : Value ℕ} → ((w : Value Node) → ValueLike (Names path) v w → IsShownAs (shown_value rules.classes t w) told) → {a : Answer Node} → AnswerLike (Names path) (Outcomes (Finds v)) a → IsToldAs rules t a (form.Shows told)
  told_value told h (outcome (find {w = w} l)) = record { is_form = (shown_value rules.classes t w, (h w l).is_shown, refl); writable = (h w l).writable }

  module _ (p : PathValue) (name : String Global) (i : Instance ℕ) (writable : IsPath (path_view p))
      (is_path : (n : Node) → path i.node ≡ Some n → path_view p ≡ path_to rules.classes t n)
      (is_name : string_bytes name ≡ plain_name (attribute_name rules i.attribute)) where
    pub told_fault : (kind : FaultCode) {a : Answer Node} → AnswerLike (Names path) (Outcomes (Faults (fault_view kind) i)) a → IsToldAs rules t a (form.Fault kind p name)
    told_fault kind (outcome (fault f {j = j} l)) = record {
      is_form = ap (λ (q : Path). Fails f q (plain_name (attribute_name rules j.attribute))) (sym
          (is_path j.node l.node))
          ∙ ap (λ x. Fails f (path_view p) x) (ap (λ a. plain_name (attribute_name rules a)) (sym l.attribute)
          ∙ sym is_name);
      writable = writable;
    }

    pub told_circle : {a : Answer Node} → AnswerLike (Names path) (Circle i) a → IsToldAs rules t a (form.Circular p name)
    told_circle (circle {j = j} l) = record {
      is_form = ap (λ (q : Path). Circular q (plain_name (attribute_name rules j.attribute))) (sym
          (is_path j.node l.node))
          ∙ ap (λ x. Circular (path_view p) x) (ap (λ a. plain_name (attribute_name rules a)) (sym l.attribute)
          ∙ sym is_name);
      writable = writable;
    }
