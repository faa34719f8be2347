-- A sound state stays sound over every line.
use Rattle.std.proofs.Common.{◌≡◌, ℕ, ◌+◌, Bool, true, false, cond, if◌then◌else◌, not, nat_eq, nat_le, List, [], ◌∷◌, ◌++◌, length, map, Option, Some, None, Ok, refl, sym, ap, ◌∙◌, subst, filter, option_and_then, option_map}
use Rattle.std.specs.Prelude.{IsSome}
use Rattle.std.specs.List.{AllByRecursion, slice_get, count_by, cons_option, list_any, find}
use Rattle.at_model.specs.Classes.{Classes}
use Rattle.at_model.specs.Trees.{Tree, class_of, conforms}
use Rattle.at_model.specs.Paths.{Path, Node, children_at, tree_at, step_in, node_at}
use Rattle.at_model.specs.Run.{Instance, Value}
use Rattle.at_model.specs.Rules.{Rules, attribute_asked}
use Rattle.at_model.specs.Edits.{Edit, carried, edited, edited_within}
use Rattle.at_model.specs.Lines.{Line, Place, From_root, From_mark, Command, Ask, Set, Put, Drop, Insert, Token, Move, Show, Mark, Unmark, Where, Version, Post, Wait}
use Rattle.at_model.specs.Replies.{Reply, Code, Shown}
use Rattle.at_model.specs.Replies as code
use Rattle.at_model.specs.Machine.{State, Marked, Posted, Verdict, Refuses, Tells, Leaves, Edits, Asks, Posts, Waits, Handles, obeys, waits, refuses, Serves, handles, runs_out, Turns, stays, answers, Given, spent, none_open, silent, telling, counted, without, after, verdict, obeyed, carried_marks, carried_posted, marks_named, marks_used, is_posted, is_mark, is_marked, marked, max_marks, node_named, node_below, each, value_named, questioned, suit, with_mark, IsSound}
use Rattle.at_model.proofs.Options.{led, mapped}
use Rattle.at_model.proofs.of_edits.Untouched.{tree_at-append}
use Rattle.at_model.proofs.of_edits.Edited.{accepted_conforms, carried_there}
use Rattle.at_model.proofs.of_machines.Machines.{waited as when_waited}
use Rattle.at_model.proofs.of_edits.Changes.{IsChange, refused as change_refused, accepted, if_both, at_option, node_all, post_all, edit_changes, whole}
use Rattle.at_model.proofs.of_edits.Larger.{within_edited}

-- the mark leads to a node of the tree
abbrev pub Leads : Tree → Marked → Type 0
Leads t m = IsSome (tree_at t m.node)

some_is : {A : Type 0} (o : Option A) (a : A) → o ≡ Some a → IsSome o
some_is {A} o a e = let P : Option A → Type 0 = λ x. IsSome x in subst P (sym e) refl

its_value : {A : Type 0} (o : Option A) → IsSome o → (a : A) × (o ≡ Some a)
its_value None h = absurd cc
its_value (Some a) h = (a, refl)

-- a step down, and what stands below
step_leads : (t : Tree) (s : ℕ × ℕ) (ss : Node) (u v : Tree) → slice_get (children_at t s.0) s.1 ≡ Some u → tree_at u ss ≡ Some v → tree_at t (s ∷ ss) ≡ Some v
step_leads t s ss u v child found = ap (option_and_then (λ x. tree_at x ss)) child ∙ found

there_too : (t : Tree) (a b : Node) (v : Tree) → a ≡ b → tree_at t a ≡ Some v → (w : Tree) × (tree_at t b ≡ Some w)
there_too t a b v e found = (v, ap (tree_at t) (sym e) ∙ found)

-- a path leads to a node of the tree
path_leads : (classes : Classes) (t : Tree) (path : Path) (n : Node) → node_at classes t path ≡ Some n → (u : Tree) × (tree_at t n ≡ Some u)
path_leads classes t [] n e = let f : [] ≡ n = cc in subst (λ (x : Node). (u : Tree) × (tree_at t x ≡ Some u)) f (t, refl)
path_leads classes t (s ∷ ss) n e =
    let (way, step, f) = led (λ way. option_and_then (λ u. option_map (λ ways. way ∷ ways) (node_at classes u ss)) (slice_get (children_at t way.0) way.1)) (step_in classes t s) n e in
    let (u, child, g) = led (λ u. option_map (λ ways. way ∷ ways) (node_at classes u ss)) (slice_get (children_at t way.0) way.1) n f in
    let (ways, rest, h) = mapped (λ (ways : Node). way ∷ ways) (node_at classes u ss) n g in
    let (v, found) = path_leads classes u ss ways rest in
    there_too t (way ∷ ways) n v h (step_leads t way ways u v child found)

under_leads : (t : Tree) (a b : Node) (u v : Tree) → tree_at t a ≡ Some u → tree_at u b ≡ Some v → tree_at t (a ++ b) ≡ Some v
under_leads t a b u v found below = tree_at-append t a b ∙ ap (option_and_then (λ x. tree_at x b)) found ∙ below

place_leads : (classes : Classes) (s : State) (session : ℕ) (place : Place) (n : Node) → node_named classes s session place ≡ Some n → (u : Tree) × (tree_at s.tree n ≡ Some u)
place_leads classes s session (From_root path) n e = path_leads classes s.tree path n e
place_leads classes s session (From_mark name steps) n e =
    let (k, mark, f) = led (node_below classes s.tree steps) (marked s.marks session name) n e in
    let (u, found, g) = led (λ u. option_map (λ ss. k ++ ss) (node_at classes u steps)) (tree_at s.tree k) n f in
    let (ss, rest, h) = mapped (λ (ss : Node). k ++ ss) (node_at classes u steps) n g in
    let (v, below) = path_leads classes u steps ss rest in
    there_too s.tree (k ++ ss) n v h (under_leads s.tree k ss u v found below)

-- marks that lead still lead when one is added, some are forgotten, or all are carried
leads-append : (t : Tree) (ms : List Marked) (m : Marked) → AllByRecursion (Leads t) ms → Leads t m → AllByRecursion (Leads t) (ms ++ m ∷ [])
leads-append t [] m h k = (k, tt)
leads-append t (x ∷ ms) m h k = (h.0, leads-append t ms m h.1 k)

leads-filter : (t : Tree) (keep : Marked → Bool) (ms : List Marked) → AllByRecursion (Leads t) ms → AllByRecursion (Leads t) (filter keep ms)
leads-filter t keep [] h = tt
leads-filter t keep (x ∷ ms) h = kept (keep x) (leads-filter t keep ms h.1)
  where
    kept : (b : Bool) → AllByRecursion (Leads t) (filter keep ms) → AllByRecursion (Leads t) (cond b (x ∷ filter keep ms) (filter keep ms))
    kept true k = (h.0, k)
    kept false k = k

leads-carried : (classes : Classes) (t u : Tree) (e : Edit) → conforms classes t 0 ≡ true → edited classes t e ≡ Ok u
    → (ms : List Marked) → AllByRecursion (Leads t) ms → AllByRecursion (Leads u) (carried_marks e ms)
leads-carried classes t u e ok is [] h = tt
leads-carried classes t u e ok is (m ∷ ms) h = at_mark (carried e m.node) refl (leads-carried classes t u e ok is ms h.1)
  where
    at_mark : (o : Option Node) → carried e m.node ≡ o → AllByRecursion (Leads u) (carried_marks e ms)
        → AllByRecursion (Leads u) (cons_option (option_map (λ n. record m { node = n }) o) (carried_marks e ms))
    at_mark None goes rest = rest
    at_mark (Some n) goes rest =
        let (v, found) = its_value (tree_at t m.node) h.0 in
        let there = carried_there classes t u e ok is m.node n v goes found in
        (some_is (tree_at u n) there.now there.there, rest)

-- and so do those that a question copies
pub leads-found : (t : Tree) (test : Marked → Bool) (ms : List Marked) (m : Marked) → AllByRecursion (Leads t) ms → find test ms ≡ Some m → Leads t m
leads-found t test [] m h e = absurd cc
leads-found t test (x ∷ ms) m h e = at_mark (test x) e (leads-found t test ms m h.1)
  where
    at_mark : (b : Bool) → cond b (Some x) (find test ms) ≡ Some m → (find test ms ≡ Some m → Leads t m) → Leads t m
    at_mark true f rest = let same : x ≡ m = cc in subst (Leads t) same h.0
    at_mark false f rest = rest f

leads-named : (t : Tree) (ms : List Marked) (session : ℕ) (names : List (List ℕ)) → AllByRecursion (Leads t) ms → AllByRecursion (Leads t) (marks_named ms session names)
leads-named t ms session [] h = tt
leads-named t ms session (name ∷ names) h = at_name (find (is_mark session name) ms) refl (leads-named t ms session names h)
  where
    at_name : (o : Option Marked) → find (is_mark session name) ms ≡ o → AllByRecursion (Leads t)
        (marks_named ms session names) → AllByRecursion (Leads t) (cons_option o (marks_named ms session names))
    at_name None is rest = rest
    at_name (Some m) is rest = (leads-found t (is_mark session name) ms m h is, rest)

-- the marks of the question lead
abbrev pub PostedLeads : Tree → Posted → Type 0
PostedLeads t q = AllByRecursion (Leads t) q.marks

posted-append : (t : Tree) (qs : List Posted) (q : Posted) → AllByRecursion (PostedLeads t) qs → PostedLeads t q → AllByRecursion (PostedLeads t) (qs ++ q ∷ [])
posted-append t [] q h k = (k, tt)
posted-append t (x ∷ qs) q h k = (h.0, posted-append t qs q h.1 k)

posted-filter : (t : Tree) (keep : Posted → Bool) (qs : List Posted) → AllByRecursion (PostedLeads t) qs → AllByRecursion (PostedLeads t) (filter keep qs)
posted-filter t keep [] h = tt
posted-filter t keep (x ∷ qs) h = kept (keep x) (posted-filter t keep qs h.1)
  where
    kept : (b : Bool) → AllByRecursion (PostedLeads t) (filter keep qs) → AllByRecursion (PostedLeads t) (cond b (x ∷ filter keep qs) (filter keep qs))
    kept true k = (h.0, k)
    kept false k = k

posted-carried : (classes : Classes) (t u : Tree) (e : Edit) → conforms classes t 0 ≡ true → edited classes t e ≡ Ok u →
    (qs : List Posted) → AllByRecursion (PostedLeads t) qs → AllByRecursion (PostedLeads u) (map (carried_posted e) qs)
posted-carried classes t u e ok is [] h = tt
posted-carried classes t u e ok is (q ∷ qs) h = (leads-carried classes t u e ok is q.marks h.0, posted-carried classes t u e ok is qs h.1)

-- the verdict leaves marks that lead, or makes an edit that is accepted
pub data Safe (classes : Classes) (s : State) : Verdict → Type 0 where
  refused : (c : Code) → Safe classes s (Refuses c)
  told : (shown : Shown) → Safe classes s (Tells shown)
  asked : (q : Instance Node) → Safe classes s (Asks q)
  left : (marks : List Marked) → AllByRecursion (Leads s.tree) marks → Safe classes s (Leaves marks)
  edits : (e : Edit) (t : Tree) → edited_within s.limit classes s.tree e ≡ Ok t → Safe classes s (Edits e t)
  posts : (q : Posted) → PostedLeads s.tree q → Safe classes s (Posts q)
  waited : (number : ℕ) → Safe classes s (Waits number)

safe_change : (classes : Classes) (s : State) (v : Verdict) → IsChange classes s v → Safe classes s v
safe_change classes s v (change_refused c) = refused c
safe_change classes s v (accepted e t is) = edits e t is

module _ (rules : Rules) (s : State) (sound : IsSound rules.classes s) where
  safe_question : (n : Node) (name : List ℕ) (vs : List (Value Node)) → Safe rules.classes s (questioned rules s.tree n name vs)
  safe_question n name vs = at_option (Safe rules.classes s) refused (option_and_then (λ u.
      attribute_asked rules (class_of u) name (length vs)) (tree_at s.tree n)) code.Attribute _ (λ a. if_both (Safe rules.classes s)
      (suit rules s.tree a vs) _ _ (asked _) (refused code.Arguments))

  safe_mark : (session : ℕ) (name : List ℕ) (place : Place) (o : Option Node) → node_named rules.classes s session place
      ≡ o → Safe rules.classes s (elim o [ None ↦ Refuses code.Path | Some n ↦ with_mark s session name n ])
  safe_mark session name place None e = refused code.Path
  safe_mark session name place (Some n) e =
      let (u, found) = place_leads rules.classes s session place n e in
      if_both (Safe rules.classes s) (is_marked s.marks session name) _ _ (refused code.Taken)
      (if_both (Safe rules.classes s) (nat_le max_marks (count_by (λ m. nat_eq session m.session) s.marks)) _ _ (refused code.Limit)
      (left _ (leads-append s.tree s.marks _ sound.marks_lead (some_is (tree_at s.tree n) u found))))

  pub safe : (session : ℕ) (c : Command) → Safe rules.classes s (obeyed rules s session c)
  safe session (Ask place attribute arguments) = node_all (Safe rules.classes s) refused rules.classes s session place
      _ (λ n. at_option (Safe rules.classes s) refused (each (map (value_named rules.classes s session) arguments))
      code.Path _ (λ vs. safe_question n attribute vs))
  safe session (Set place t) = safe_change rules.classes s _ (edit_changes rules s session (Set place t) refl)
  safe session (Put place part t) = safe_change rules.classes s _ (edit_changes rules s session (Put place part t) refl)
  safe session (Drop place) = safe_change rules.classes s _ (edit_changes rules s session (Drop place) refl)
  safe session (Insert place part index t) = safe_change rules.classes s _ (edit_changes rules s session (Insert place part index t) refl)
  safe session (Token place part v) = safe_change rules.classes s _ (edit_changes rules s session (Token place part v) refl)
  safe session (Move place to part index) = safe_change rules.classes s _ (edit_changes rules s session (Move place to part index) refl)
  safe session (Show place) = node_all (Safe rules.classes s) refused rules.classes s session place _ (λ n. at_option (Safe rules.classes s) refused (tree_at s.tree n) code.Path _ (λ u. told _))
  safe session (Mark name place) = safe_mark session name place (node_named rules.classes s session place) refl
  safe session (Unmark name) = left _ (leads-filter s.tree (λ m. not (is_mark session name m)) s.marks sound.marks_lead)
  safe session (Where name) = at_option (Safe rules.classes s) refused (marked s.marks session name) code.Mark _ (λ n. told _)
  safe session Version = left s.marks sound.marks_lead
  safe session (Post place attribute arguments) =
      post_all (Safe rules.classes s) refused s session place attribute arguments
      (posts _ (leads-named s.tree s.marks session (marks_used (Post place attribute arguments)) sound.marks_lead))
  safe session (Wait number) = if_both (Safe rules.classes s) (list_any (is_posted session number) s.posted) _ _ (waited number) (refused code.Question)

  sound_after : (v : Verdict) → Safe rules.classes s v → IsSound rules.classes (after s v)
  sound_after v (refused c) = sound
  sound_after v (told shown) = sound
  sound_after v (asked q) = sound
  sound_after v (left marks lead) =
      record { tree_conforms = sound.tree_conforms; tree_within = sound.tree_within; tree_allowed = sound.tree_allowed; marks_lead = lead; posted_lead = sound.posted_lead }
  sound_after v (edits e t is) =
      let (made, few) = within_edited s.limit rules.classes s.tree e t is in
      let both = accepted_conforms rules.classes s.tree e t sound.tree_conforms made in
      record {
        tree_conforms = both.0;
        tree_within = both.1;
        tree_allowed = few;
        marks_lead = leads-carried rules.classes s.tree t e sound.tree_conforms made s.marks sound.marks_lead;
        posted_lead = posted-carried rules.classes s.tree t e sound.tree_conforms made s.posted sound.posted_lead;
      }
  sound_after v (posts q lead) =
      record {
        tree_conforms = sound.tree_conforms;
        tree_within = sound.tree_within;
        tree_allowed = sound.tree_allowed;
        marks_lead = sound.marks_lead;
        posted_lead = posted-append s.tree s.posted q sound.posted_lead lead;
      }
  sound_after v (waited number) = sound

  pub sound_line : (l : Line) → IsSound rules.classes (after s (verdict rules s l))
  sound_line l = sound_after (verdict rules s l) (whole (Safe rules.classes s) refused rules s l (safe l.session l.command))

-- a question is no longer open, or was given a turn
without_sound : (classes : Classes) (s : State) (number : ℕ) → IsSound classes s → IsSound classes (without number s)
without_sound classes s number sound =
    record {
      tree_conforms = sound.tree_conforms;
      tree_within = sound.tree_within;
      tree_allowed = sound.tree_allowed;
      marks_lead = sound.marks_lead;
      posted_lead = posted-filter s.tree (λ q. not (nat_eq number q.number)) s.posted sound.posted_lead;
    }

counted_leads : (t : Tree) (number : ℕ) (q : Posted) → PostedLeads t q → PostedLeads t (counted number q)
counted_leads t number q h = by_test (nat_eq number q.number)
  where
    by_test : (b : Bool) → PostedLeads t (if b then record q { turns = q.turns + 1 } else q)
    by_test true = h
    by_test false = h

posted-counted : (t : Tree) (number : ℕ) (qs : List Posted) → AllByRecursion (PostedLeads t) qs → AllByRecursion (PostedLeads t) (map (counted number) qs)
posted-counted t number [] h = tt
posted-counted t number (q ∷ qs) h = (counted_leads t number q h.0, posted-counted t number qs h.1)

pub sound_turn : (rules : Rules) (old : State) (number : ℕ) (new : State) (o : Option (Bool × Reply)) → IsSound rules.classes old → Turns rules old number new o → IsSound rules.classes new
sound_turn rules old number _ _ sound (stays q is) =
    record {
      tree_conforms = sound.tree_conforms;
      tree_within = sound.tree_within;
      tree_allowed = sound.tree_allowed;
      marks_lead = sound.marks_lead;
      posted_lead = posted-counted old.tree number old.posted sound.posted_lead;
    }
sound_turn rules old number _ _ sound (answers q form is a) = without_sound rules.classes old number sound
sound_turn rules old number _ _ sound (runs_out q is) = without_sound rules.classes old number sound

pub sound_given : (rules : Rules) (limit : ℕ) (old : State) (row : List (Bool × Reply)) (new : State) → IsSound rules.classes old → Given rules limit old row new → IsSound rules.classes new
sound_given rules _ _ _ _ sound (spent s) = sound
sound_given rules _ _ _ _ sound (none_open limit s e) = sound
sound_given rules _ _ _ new sound (silent {limit = limit} {s = s} {mid = mid} {told = row} q is turn rest) = sound_given rules limit mid row new (sound_turn rules s q.number mid None sound turn) rest
sound_given rules _ _ _ new sound (telling {limit = limit} {s = s} {mid = mid} {said = said} {told = row} q is turn
    rest) = sound_given rules limit mid row new (sound_turn rules s q.number mid (Some said) sound turn) rest

sound_handled : (rules : Rules) (old : State) (bytes : List ℕ) (new : State) (said : Bool × Reply) → IsSound rules.classes old → Handles rules old bytes new said → IsSound rules.classes new
sound_handled rules old bytes new _ sound (obeys l spells step) = let P : State → Type 0 = λ x. IsSound rules.classes x in subst P (sym step.state) (sound_line rules old sound l)
sound_handled rules old bytes new said sound (waits l number spells is answered) =
    let w = when_waited rules number old new said answered in
    let P : State → Type 0 = λ x. IsSound rules.classes x in subst P (sym w.state) (without_sound rules.classes old number sound)
sound_handled rules old bytes _ _ sound (refuses none session) = sound

pub sound_served : (rules : Rules) (old : State) (bytes : List ℕ) (new : State) (said : Bool × Reply) → IsSound rules.classes old → Serves rules old bytes new said → IsSound rules.classes new
sound_served rules old bytes new said sound (handles h) = sound_handled rules old bytes new said sound h
sound_served rules old bytes _ _ sound (runs_out session) = sound
