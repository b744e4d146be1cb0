-- What a history tells of a seat, the seat's own log tells.
use Rattle.std.proofs.Common.{◌≡◌, ◌≢◌, ℕ, ◌<◌, inl, inr, Bool, true, false, cond, eqb, List, [], ◌∷◌, ◌++◌, map, filter, Option, Some, None, refl, sym, ap, ◌∙◌, subst}
use Rattle.std.proofs.lemmas.Bool.Decides.{eqb_tells}
use Rattle.heap_model.specs.declared.command.Command.{Command}
use Rattle.heap_model.specs.declared.entry.Entry.{Entry}
use Rattle.heap_model.specs.declared.entry.Entry.TheVariants.{Said}
use Rattle.heap_model.specs.declared.heap.Heap.{Heap}
use Rattle.heap_model.specs.declared.id.Value.{Value}
use Rattle.heap_model.specs.declared.reply.Reply.{Reply}
use Rattle.heap_model.specs.Logs.{log_of}
use Rattle.heap_model.specs.account.Cycles.{graph_of}
use Rattle.heap_model.specs.account.Effects.{is_of}
use Rattle.heap_model.specs.graph.Graph.{Graph, opening}
use Rattle.heap_model.specs.graph.Growth.{after_reply}
use Rattle.heap_model.specs.graph.Legal.{Accepts, AcceptsAll, IsObjectLegal}
use Rattle.heap_model.specs.graph.Objects.{register_value}
use Rattle.heap_model.proofs.Histories.{graph_after-more}
use Rattle.heap_model.proofs.graph_changes.GraphRegisters.{has_sixteen_registers}
use Rattle.heap_queue.specs.declared.told.Told.{Told}
use Rattle.heap_queue.specs.declared.told.ToldCall.{ToldCall}
use Rattle.heap_queue.specs.Effects.{Places, start, moved}
use Rattle.heap_queue.specs.Places.{Place}
use Rattle.heap_queue.specs.Telling as telling
use Rattle.heap_queue.specs.Telling.{kept, told_from, told_of}
use Rattle.heap_queue.specs.ToldBySeat.{told_by, held_after, if_told, told_along, told_in}
use Rattle.heap_queue.proofs.EveryHistory.{IsNoReply, moved_here, moved_other}
use Rattle.heap_queue.proofs.SeatRegisters.{held_at_opening, held_by_other, held_by_reply}

-- what a reply tells is its seat's, and no other's
kept_of_seat : (number : ℕ) (told : Option Told) (more : List ToldCall) → told_by number (kept number told ++ more) ≡ if_told told (told_by number more)
kept_of_seat number None more = refl
kept_of_seat number (Some told) more = elim (eqb_tells number number) as (λ _. told_by number (kept number (Some told) ++ more) ≡ told ∷ told_by number more) [
  | inl same ↦ ap (λ (b : Bool). map (λ (call : ToldCall). call.told) (cond b (record { seat = number; told = told } ∷ filter (λ (call : ToldCall). eqb call.seat number) more) (filter (λ (call : ToldCall). eqb call.seat number) more))) same.0
  | inr other ↦ absurd (other.1 refl)
]

kept_of_other : (number seat : ℕ) (told : Option Told) (more : List ToldCall) → eqb seat number ≡ false → told_by number (kept seat told ++ more) ≡ told_by number more
kept_of_other number seat None more apart = refl
kept_of_other number seat (Some told) more apart =
    ap (λ (b : Bool). map (λ (call : ToldCall). call.told) (cond b (record { seat = seat; told = told } ∷ filter (λ (call : ToldCall). eqb call.seat number) more) (filter (λ (call : ToldCall). eqb call.seat number) more))) apart

-- an entry that is no reply tells nothing
passed_over : (held : ℕ → Value) (place : Place) (entry : Entry) (log : List Entry) → IsNoReply entry → told_along held place (entry ∷ log) ≡ told_along held place log
passed_over held place (Said number command reply) log quiet = absurd quiet
passed_over held place entry log quiet = refl

kept_or_not : (held : ℕ → Value) (place : Place) (b : Bool) (entry : Entry) (log : List Entry) → IsNoReply entry → told_along held place (cond b (entry ∷ log) log) ≡ told_along held place log
kept_or_not held place true entry log quiet = passed_over held place entry log quiet
kept_or_not held place false entry log quiet = refl

-- the seat's log goes on by its own entry, and by no other's
own_log : (number : ℕ) (command : Command) (reply : Reply) (rest : List Entry) → log_of number (Said number command reply ∷ rest) ≡ Said number command reply ∷ log_of number rest
own_log number command reply rest = elim (eqb_tells number number) as (λ _. log_of number (Said number command reply ∷ rest) ≡ Said number command reply ∷ log_of number rest) [
  | inl same ↦ ap (λ (b : Bool). cond b (Said number command reply ∷ log_of number rest) (log_of number rest)) same.0
  | inr other ↦ absurd (other.1 refl)
]

-- what the history tells of the seat from here on, its log tells
abbrev TellsSame : Heap → ℕ → List Entry → Places → List Entry → Type 0
TellsSame heap number done place rest = told_by number (told_from (graph_of heap done) place rest) ≡ told_along (register_value (graph_of heap done) number) (place number) (log_of number rest)

module _ (heap : Heap) (number : ℕ) (done : List Entry) (place : Places) (command : Command) (reply : Reply) (rest : List Entry) where
  -- it goes on by the seat's own reply
  own_reply : Accepts (graph_of heap done) (Said number command reply) → TellsSame heap number (done ++ Said number command reply ∷ []) (moved place (Said number command reply)) rest → TellsSame heap number done place (Said number command reply ∷ rest)
  own_reply (present, range, says) later =
      let g : Graph = graph_of heap done in
      let entry : Entry = Said number command reply in
      let grown : graph_of heap (done ++ entry ∷ []) ≡ after_reply g number command reply = graph_after-more (opening heap) done entry in
      let held : register_value (graph_of heap (done ++ entry ∷ [])) number ≡ held_after (register_value g number) command reply =
      ap (λ (h : Graph). register_value h number) grown ∙ held_by_reply g number command reply present (has_sixteen_registers heap done number present) range says in
      let told : Option Told = telling.told_by (register_value g number) (place number) command reply in
      kept_of_seat number told (told_from (after_reply g number command reply) (moved place entry) rest)
      ∙ ap (λ (h : Graph). if_told told (told_by number (told_from h (moved place entry) rest))) (sym grown)
      ∙ ap (if_told told) later
      ∙ ap (λ (h : ℕ → Value). if_told told (told_along h (moved place entry number) (log_of number rest))) held
      ∙ ap (λ (p : Place). if_told told (told_along (held_after (register_value g number) command reply) p (log_of number rest))) (moved_here place number command reply)
      ∙ ap (told_along (register_value g number) (place number)) (sym (own_log number command reply rest))

  -- and by another's
  other_reply : (seat : ℕ) → eqb seat number ≡ false → number ≢ seat → TellsSame heap number (done ++ Said seat command reply ∷ []) (moved place (Said seat command reply)) rest → TellsSame heap number done place (Said seat command reply ∷ rest)
  other_reply seat apart differs later =
      let g : Graph = graph_of heap done in
      let entry : Entry = Said seat command reply in
      kept_of_other number seat (telling.told_by (register_value g seat) (place seat) command reply) (told_from (after_reply g seat command reply) (moved place entry) rest) apart
      ∙ ap (λ (h : Graph). told_by number (told_from h (moved place entry) rest)) (sym (graph_after-more (opening heap) done entry))
      ∙ later
      ∙ ap (λ (h : ℕ → Value). told_along h (moved place entry number) (log_of number rest)) (held_by_other heap done entry number apart)
      ∙ ap (λ (p : Place). told_along (register_value g number) p (log_of number rest)) (moved_other place seat command reply number differs)
      ∙ sym (ap (λ (b : Bool). told_along (register_value g number) (place number) (cond b (entry ∷ log_of number rest) (log_of number rest))) apart)

tells_same : (heap : Heap) (number : ℕ) (done : List Entry) (place : Places) (rest : List Entry) → AcceptsAll (graph_of heap done) rest → TellsSame heap number done place rest
tells_same heap number done place [] legal = refl
tells_same heap number done place (Said seat command reply ∷ rest) legal =
    let entry : Entry = Said seat command reply in
    let later = tells_same heap number (done ++ entry ∷ []) (moved place entry) rest (subst (λ (h : Graph). AcceptsAll h rest) (sym (graph_after-more (opening heap) done entry)) legal.1) in
    elim (eqb_tells seat number) as (λ _. TellsSame heap number done place (entry ∷ rest)) [
      | inl same ↦ subst (λ (s : ℕ). Accepts (graph_of heap done) (Said s command reply) → TellsSame heap number (done ++ Said s command reply ∷ []) (moved place (Said s command reply)) rest → TellsSame heap number done place (Said s command reply ∷ rest)) (sym same.1)
          (own_reply heap number done place command reply rest) legal.0 later
      | inr other ↦ other_reply heap number done place command reply rest seat other.0 (λ same. other.1 (sym same)) later
    ]
tells_same heap number done place (entry ∷ rest) legal =
    tells_same heap number done place rest legal.1 ∙ sym (kept_or_not (register_value (graph_of heap done) number) (place number) (is_of number entry) entry (log_of number rest) tt)

-- each seat's calls are told as its own log tells them
pub told_by_own_log : (heap : Heap) (history : List Entry) (number : ℕ) → IsObjectLegal heap history → number < heap.seats → told_by number (told_of heap 0 history) ≡ told_in number (log_of number history)
told_by_own_log heap history number legal there =
    tells_same heap number [] (start 0) history legal ∙ ap (λ (held : ℕ → Value). told_along held (start 0 number) (log_of number history)) (held_at_opening heap number there)
