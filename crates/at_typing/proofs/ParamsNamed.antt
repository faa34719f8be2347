-- The kinds of parameters, named one by one.
use Rattle.std.proofs.Common.{◌≡◌, ℕ, suc, ◌+◌, ◌<◌, ◌≤◌, List, [], ◌∷◌, ◌++◌, length, drop, get_or, map, refl, ap, sym, ◌∙◌, arith, append-nil, append_assoc, Err}
use Rattle.std.specs.Prelude.{Vec}
use Rattle.std.specs.Global.{Global}
use Rattle.std.proofs.Math.Seq.{drop-cons}
use Rattle.std.proofs.lemmas.List.{drop_all}
use Rattle.at_jrag.specs.View.{param_view}
use Rattle.at_jrag.specs.declared.syntax.Param.{Param as ParamValue}
use Rattle.at_kinds.specs.declared.arguments.Arguments.{Arguments}
use Rattle.at_kinds.specs.Judging.{Judgement, Is, Wrong, and_then}
use Rattle.at_kinds.specs.Typed.{Judges}
use Rattle.at_kinds.specs.declared.code.RuleCode.{RuleCode}
use Rattle.at_model.specs.Classes.{Classes}
use Rattle.at_rules.specs.declared.body.Kind.{Kind}
use Rattle.at_text.specs.declared.fault.Fault.{Fault}
use Rattle.at_text.specs.declared.fault.Fault.TheVariants.{Refused, Memory}
use Rattle.at_typing.specs.Ruling.{param_named, params_named}

-- what the parameters from this position on come to, behind the kinds of those before it
abbrev pub Left : Arguments → Classes → List ParamValue → ℕ → List Kind → Judgement (List Kind) → Type 0
Left allowed classes params k kinds all = all ≡ and_then (λ ks. Is (kinds ++ ks))
    (params_named allowed classes k (map param_view (drop k params)))

here : (params : List ParamValue) (k : ℕ) (p : ParamValue) → k < length params → p ≡ get_or params k p → drop k params ≡ p ∷ drop (suc k) params
here params k p less is = drop-cons params k p less ∙ ap (λ y. y ∷ drop (suc k) params) (sym is)

behind : (kinds : List Kind) (kind : Kind) (rest : Judgement (List Kind)) → and_then (λ ks. Is (kinds ++ ks))
    (and_then (λ ks. Is (kind ∷ ks)) rest) ≡ and_then (λ ks. Is ((kinds ++ kind ∷ []) ++ ks)) rest
behind kinds kind (Is ks) = ap Is (sym (append_assoc kinds (kind ∷ []) ks))
behind kinds kind (Wrong c at) = refl

pub one_named : (allowed : Arguments) (classes : Classes) (params : List ParamValue) (k : ℕ) (p : ParamValue)
    (kinds new : List Kind)
    (kind : Kind) (all : Judgement (List Kind)) → k < length params → p ≡ get_or params k p
    → param_named allowed classes k (param_view p) ≡ Is kind → new ≡ kinds ++ kind ∷ []
    → Left allowed classes params k kinds all
    → Left allowed classes params (k + 1) new all
one_named allowed classes params k p kinds new kind all less is named pushed so_far =
    let next : k + 1 ≡ suc k = omega arith in
    let left = λ (rest : List ParamValue) (j : Judgement Kind). and_then (λ ks. Is (kinds ++ ks))
    (and_then (λ kd. and_then (λ ks. Is (kd ∷ ks)) (params_named allowed classes (k + 1) (map param_view rest))) j) in
    so_far ∙ ap (λ ps. and_then (λ ks. Is (kinds ++ ks)) (params_named allowed classes k (map param_view ps)))
    (here params k p less is)
    ∙ ap (left (drop (suc k) params)) named
    ∙ behind kinds kind (params_named allowed classes (k + 1) (map param_view (drop (suc k) params)))
    ∙ ap (λ ks'. and_then (λ ks. Is (ks' ++ ks)) (params_named allowed classes (k + 1)
    (map param_view (drop (suc k) params)))) (sym pushed)
    ∙ ap (λ n. and_then (λ ks. Is (new ++ ks)) (params_named allowed classes (k + 1) (map param_view (drop n params))))
    (sym next)

pub one_wrong : (allowed : Arguments) (classes : Classes) (params : List ParamValue) (k : ℕ) (p : ParamValue)
    (kinds : List Kind)
    (e : Fault RuleCode) (all : Judgement (List Kind)) → k < length params → p ≡ get_or params k p
    → Judges {A = Kind} {T = Kind} (λ kd. kd) (param_named allowed classes k (param_view p)) (Err e)
    → Left allowed classes params k kinds all → Judges {A = List Kind} {T = Vec Kind Global} (λ ks. ks.items) all
    (Err e)
one_wrong allowed classes params k p kinds (Refused c at) all less is wrong so_far =
    so_far ∙ ap (λ ps. and_then (λ ks. Is (kinds ++ ks)) (params_named allowed classes k (map param_view ps)))
    (here params k p less is)
    ∙ ap (λ j. and_then (λ ks. Is (kinds ++ ks))
    (and_then (λ kd. and_then (λ ks. Is (kd ∷ ks)) (params_named allowed classes (k + 1)
    (map param_view (drop (suc k) params)))) j)) wrong
one_wrong allowed classes params k p kinds Memory all less is wrong so_far = tt

pub all_named : (allowed : Arguments) (classes : Classes) (params : List ParamValue) (k : ℕ) (kinds : List Kind)
    (all : Judgement (List Kind)) → length params ≤ k → Left allowed classes params k kinds all → all ≡ Is kinds
all_named allowed classes params k kinds all past so_far =
    so_far ∙ ap (λ ps. and_then (λ ks. Is (kinds ++ ks)) (params_named allowed classes k (map param_view ps)))
    (drop_all k params past) ∙ ap Is (append-nil kinds)
