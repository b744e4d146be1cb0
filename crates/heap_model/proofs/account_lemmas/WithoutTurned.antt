-- Answers to commands of the collector change no sum, no section and no graph of a history.
use Rattle.std.proofs.Common.{◌≡◌, ℕ, ◌+◌, List, [], ◌∷◌, inl, inr, refl, sym, ap, ◌∙◌, subst, Bool, true, false, ◌||◌, cond, arith, Contains, sum_by}
use Rattle.std.specs.List.{list_any}
use Rattle.std.proofs.lemmas.List.Sums.{sum_by-cons}
use Rattle.std.proofs.lemmas.List.Elements.{All-filter, All-contains, All-contains_itself, filter-append, Contains-append_cases, Contains-append_right, Contains-append_left, Contains-push, Contains-push_cases}
use Rattle.heap_model.specs.declared.command.TurnCommand.{TurnCommand}
use Rattle.heap_model.specs.declared.reply.TurnReply.{TurnReply}
use Rattle.heap_model.specs.declared.entry.Entry.{Entry}
use Rattle.heap_model.specs.declared.entry.Entry.TheVariants as entries
use Rattle.heap_model.specs.account.Turned.{is_of_heap, without_turned}
use Rattle.heap_model.specs.account.Windows.{up_to_last, after_last}
use Rattle.heap_model.specs.graph.Graph.{Graph}
use Rattle.heap_model.specs.graph.Growth.{after_entry, graph_after}

-- a sum to which they add nothing
pub sum_without_turned : (f : Entry → ℕ) → ((command : TurnCommand) (reply : TurnReply) → f (entries.Turned command reply) ≡ 0) → (history : List Entry) → sum_by f (without_turned history) ≡ sum_by f history
sum_without_turned f none [] = refl
sum_without_turned f none (entries.Turned command reply ∷ history) =
    omega (arith, sum_without_turned f none history, none command reply, sum_by-cons f (entries.Turned command reply) history)
sum_without_turned f none (entry ∷ history) =
    sum_by-cons f entry (without_turned history) ∙ ap (λ n. f entry + n) (sum_without_turned f none history) ∙ sym (sum_by-cons f entry history)

module _ (test : Entry → Bool) (fails : (command : TurnCommand) (reply : TurnReply) → test (entries.Turned command reply) ≡ false) where
  -- a test that they fail
  pub any_without_turned : (history : List Entry) → list_any test (without_turned history) ≡ list_any test history
  any_without_turned [] = refl
  any_without_turned (entries.Turned command reply ∷ history) = any_without_turned history ∙ ap (λ b. b || list_any test history) (sym (fails command reply))
  any_without_turned (entry ∷ history) = ap (λ b. test entry || b) (any_without_turned history)

  -- the sections of a history
  pub up_to_last_without_turned : (history : List Entry) → up_to_last test (without_turned history) ≡ without_turned (up_to_last test history)
  up_to_last_without_turned [] = refl
  up_to_last_without_turned (entries.Turned command reply ∷ history) = rw (fails command reply) (by (list_any test history) refl (up_to_last_without_turned history))
    where
      none : (history : List Entry) → list_any test history ≡ false → up_to_last test history ≡ []
      none [] fails_all = refl
      none (entry ∷ history) fails_all = rw fails_all refl

      by : (b : Bool) → list_any test history ≡ b → up_to_last test (without_turned history) ≡ without_turned (up_to_last test history)
          → up_to_last test (without_turned history) ≡ without_turned (cond b (entries.Turned command reply ∷ up_to_last test history) [])
      by true passes rest = rest
      by false fails_all rest = none (without_turned history) (any_without_turned history ∙ fails_all)
  up_to_last_without_turned (entry ∷ history) = rw (any_without_turned history, up_to_last_without_turned history) (by (test entry || list_any test history))
    where
      by : (b : Bool) → cond b (entry ∷ without_turned (up_to_last test history)) [] ≡ without_turned (cond b (entry ∷ up_to_last test history) [])
      by true = refl
      by false = refl

  pub after_last_without_turned : (history : List Entry) → after_last test (without_turned history) ≡ without_turned (after_last test history)
  after_last_without_turned [] = refl
  after_last_without_turned (entries.Turned command reply ∷ history) = rw (fails command reply) (by (list_any test history) refl (after_last_without_turned history))
    where
      none : (history : List Entry) → list_any test history ≡ false → after_last test history ≡ history
      none [] fails_all = refl
      none (entry ∷ history) fails_all = rw fails_all refl

      by : (b : Bool) → list_any test history ≡ b → after_last test (without_turned history) ≡ without_turned (after_last test history)
          → after_last test (without_turned history) ≡ without_turned (cond b (after_last test history) (entries.Turned command reply ∷ history))
      by true passes rest = rest
      by false fails_all rest = none (without_turned history) (any_without_turned history ∙ fails_all)
  after_last_without_turned (entry ∷ history) = rw (any_without_turned history, after_last_without_turned history) (by (test entry || list_any test history))
    where
      by : (b : Bool) → cond b (without_turned (after_last test history)) (entry ∷ without_turned history) ≡ without_turned (cond b (after_last test history) (entry ∷ history))
      by true = refl
      by false = refl

-- the graph
pub graph_after_without_turned : (g : Graph) (history : List Entry) → graph_after g (without_turned history) ≡ graph_after g history
graph_after_without_turned g [] = refl
graph_after_without_turned g (entries.Turned command reply ∷ history) = graph_after_without_turned g history
graph_after_without_turned g (entry ∷ history) = graph_after_without_turned (after_entry g entry) history

-- no entry comes in
pub contained_was_in_history : (history : List Entry) (entry : Entry) → Contains (without_turned history) entry → Contains history entry
contained_was_in_history history entry has = All-contains (Contains history) (without_turned history) entry (All-filter is_of_heap (Contains history) history (All-contains_itself history)) has

-- and no other is lost
pub contained_stays_without_turned : (history : List Entry) (entry : Entry) → is_of_heap entry ≡ true → Contains history entry → Contains (without_turned history) entry
contained_stays_without_turned [] entry stays has = has
contained_stays_without_turned (first ∷ history) entry stays has = subst (λ es. Contains es entry) (sym (filter-append is_of_heap (first ∷ []) history)) (elim (Contains-append_cases (first ∷ []) history entry has) [
  | inl here ↦ Contains-append_left (without_turned (first ∷ [])) (without_turned history) entry (elim (Contains-push_cases [] first entry here) [
    | inl none ↦ absurd (let lt = none.1 in omega (arith, lt))
    | inr same ↦ subst (λ e. Contains (without_turned (e ∷ [])) entry) (sym same)
        (subst (λ b. Contains (cond b (entry ∷ []) []) entry) (sym stays) (Contains-push [] entry))
  ])
  | inr later ↦ Contains-append_right (without_turned (first ∷ [])) (without_turned history) entry (contained_stays_without_turned history entry stays later)
])
