-- What turns of the first open question do to the machine's state.
use Rattle.std.proofs.Common.{◌≡◌, ℕ, zero, suc, ◌+◌, Bool, true, false, List, [], ◌∷◌, Some, None, refl, sym, ap, ◌∙◌, subst, arith, add-zero}
use Rattle.at_model.specs.Enduring.{AreNumbered}
use Rattle.at_model.specs.Replies.{Form, Memory, Reply}
use Rattle.at_model.specs.Rules.{Rules}
use Rattle.at_model.specs.Machine.{State, Posted, Verdict, Refuses, Tells, Leaves, Edits, Asks, Posts, Waits, AnswersPosted, Given, spent, silent, telling, Says, Turns, stays, answers, runs_out, done_reply, given_one, line_of, seen_by, verdict, without}
use Rattle.at_engine.proofs.of_turns.Numberings.{counted_there, found_there, left_there}
use Rattle.at_engine.proofs.of_turns.Wordings.{words_same}

-- what is said by a verdict rests on tree and version
says_moved : (rules : Rules) (s t : State) → t.tree ≡ s.tree → t.version ≡ s.version → (v : Verdict) (form : Form) → Says rules s v form → Says rules t v form
says_moved rules s t tree version (Refuses refusal) form h = h
says_moved rules s t tree version (Tells shown) form h = h
says_moved rules s t tree version (Leaves marks) form h = rw version h
says_moved rules s t tree version (Edits e u) form h = rw version h
says_moved rules s t tree version (Asks q) form h = rw tree h
says_moved rules s t tree version (Posts q) form h = h
says_moved rules s t tree version (Waits number) form h = h

-- the question is answered so, however many turns it was given before, and whichever other ones are open
pub answers_moved : (rules : Rules) (s : State) (ps : List Posted) (q : Posted) (turns : ℕ) (form : Form) → AnswersPosted rules s q form → AnswersPosted rules (record s { posted = ps }) (record q { turns = turns }) form
answers_moved rules s ps q turns form h =
    let r : Posted = record q { turns = turns } in
    let t : State = record s { posted = ps } in
    subst (λ (v : Verdict). Says rules (seen_by r t) v form) (words_same rules s q ∙ sym (words_same rules t r))
    (says_moved rules (seen_by q s) (seen_by r t) refl refl (verdict rules (seen_by q s) (line_of q)) form h)

module _ (rules : Rules) (s : State) (q : Posted) (rest : List Posted) (greatest : ℕ) (increase : AreNumbered 0 (q ∷ rest) greatest) where
  abbrev pub turned : ℕ → Posted
  turned t = record q { turns = t }

  -- the state in which the first question was given so many turns
  abbrev pub at_turn : ℕ → State
  at_turn t = record s { posted = turned t ∷ rest }

  step : (t : ℕ) → given_one q.number (at_turn t) ≡ at_turn (t + 1)
  step t = ap (λ (ps : List Posted). record s { posted = ps }) (counted_there [] (turned t) rest 0 greatest increase)

  pub silent_one : (t : ℕ) → Turns rules (at_turn t) q.number (at_turn (t + 1)) None
  silent_one t = subst (λ (x : State). Turns rules (at_turn t) q.number x None) (step t) (stays (turned t) (found_there [] (turned t) rest 0 greatest increase))

  pub silent_turns : (k t : ℕ) → Given rules k (at_turn t) [] (at_turn (t + k))
  silent_turns zero t = subst (λ n. Given rules 0 (at_turn t) [] (at_turn n)) (sym (add-zero t)) (spent (at_turn t))
  silent_turns (suc k) t =
      let next : k + 1 ≡ suc k = omega arith in
      let end : t + 1 + k ≡ t + suc k = omega arith in
      subst (λ n. Given rules n (at_turn t) [] (at_turn (t + suc k))) next
      (subst (λ n. Given rules (k + 1) (at_turn t) [] (at_turn n)) end (silent (turned t) refl (silent_one t) (silent_turns k (t + 1))))

  pub told_turns : (k t : ℕ) (new : State) (said : Bool × Reply) → Turns rules (at_turn (t + k)) q.number new (Some said) → Given rules (k + 1) (at_turn t) (said ∷ []) new
  told_turns zero t new said turn = telling (turned t) refl (subst (λ n. Turns rules (at_turn n) q.number new (Some said)) (add-zero t) turn) (spent new)
  told_turns (suc k) t new said turn =
      let next : k + 1 + 1 ≡ suc k + 1 = omega arith in
      let end : t + suc k ≡ t + 1 + k = omega arith in
      subst (λ n. Given rules n (at_turn t) (said ∷ []) new) next
      (silent (turned t) refl (silent_one t) (told_turns k (t + 1) new said (subst (λ n. Turns rules (at_turn n) q.number new (Some said)) end turn)))

  -- the last of them answers, or finds no memory
  pub answered_at : (t : ℕ) (form : Form) → AnswersPosted rules s q form → Turns rules (at_turn t) q.number (without q.number (at_turn t)) (Some (false, done_reply s q form))
  answered_at t form h = answers (turned t) form (found_there [] (turned t) rest 0 greatest increase) (answers_moved rules s (turned t ∷ rest) q t form h)

  pub ran_out_at : (t : ℕ) → Turns rules (at_turn t) q.number (without q.number (at_turn t)) (Some (true, done_reply s q Memory))
  ran_out_at t = runs_out (turned t) (found_there [] (turned t) rest 0 greatest increase)

  -- whichever turn it was, the question is open no longer
  pub without_it : (t : ℕ) → without q.number (at_turn t) ≡ record s { posted = rest }
  without_it t = ap (λ (ps : List Posted). record s { posted = ps }) (left_there [] (turned t) rest 0 greatest increase)
