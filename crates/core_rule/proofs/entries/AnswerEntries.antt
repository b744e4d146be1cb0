-- The two entries of a poll that answers a phase: the answer, and the reply.
use Rattle.std.proofs.Common.{◌≡◌, ℕ, ◌+◌, ◌≤◌, true, false, refl, sym, ap, ◌∙◌, subst, arith}
use Rattle.std.proofs.lemmas.Bool.{eq-eqb}
use Rattle.core_rule.proofs.Terms.{Command, Entry, Said, Answers, Heap, KeepsSpace, most_kept, graph_of, is_of, after_reply, Accepts, graph_seat, phase, last_answer, taken_of}
use Rattle.core_rule.proofs.Terms.{spent_of, Graph, opening, Book}
use Rattle.heap_model.specs.declared.command.Command.TheVariants as commands
use Rattle.heap_model.specs.declared.reply.Reply.TheVariants as replies
use Rattle.heap_model.specs.Command.{IsCommand}
use Rattle.heap_model.specs.account.Phases.{ShowsPhases}
use Rattle.heap_model.specs.graph.Replies.{Says}
use Rattle.heap_model.proofs.Histories.{graph_after-more}
use Rattle.core_rule.proofs.entries.Legality.{keeps_space_of_answers, keeps_space_of_plain_said}
use Rattle.core_rule.proofs.entries.OwnEntries.{total_of_grows_by_own}
use Rattle.core_rule.proofs.entries.PhaseEntries.{phase_stays, answered_rises}
use Rattle.core_rule.proofs.frames.SeatFrames.{with_entry}

module _ (heap : Heap) (book : Book) (number p : ℕ) (command : Command) (polls : command ≡ commands.Poll) where
  abbrev pub answer_entry : Entry
  answer_entry = Answers number p

  abbrev pub reply_entry : Entry
  reply_entry = Said number command (replies.Phase p)

  -- the book after the first, and after both
  abbrev pub middle_book : Book
  middle_book = with_entry book answer_entry

  abbrev pub answered_book : Book
  answered_book = with_entry middle_book reply_entry

  abbrev g : Graph
  g = graph_of heap book.history

  abbrev middle : Graph
  middle = graph_of heap middle_book.history

  own : is_of number answer_entry ≡ true
  own = eq-eqb number number refl

  -- the graph is the same after each of the two
  pub graph_same_after_answer : middle ≡ g
  graph_same_after_answer = graph_after-more (opening heap) book.history answer_entry

  pub graph_same_after_reply : graph_of heap answered_book.history ≡ middle
  graph_same_after_reply = graph_after-more (opening heap) middle_book.history reply_entry ∙ ap (λ c. after_reply middle number c (replies.Phase p)) polls

  -- and so is the phase
  pub phase_same_after_answer : phase middle_book.history ≡ phase book.history
  phase_same_after_answer = phase_stays book.history answer_entry refl

  -- the reply is the graph's
  pub accepts_reply : (graph_seat g number).left ≡ false → Accepts middle reply_entry
  accepts_reply present = (rw graph_same_after_answer present, subst IsCommand (sym polls) tt, subst (λ c. Says middle number c (replies.Phase p)) (sym polls) tt)

  module _ (now : p ≡ phase book.history) (next : p ≡ last_answer number book.history + 1) where
    -- the seat has answered the phase
    pub seat_has_answered_phase : last_answer number middle_book.history ≡ p
    seat_has_answered_phase = answered_rises book.history answer_entry number own refl ∙ omega (arith, next)

    -- each keeps the rules
    pub keeps_space_of_answer : KeepsSpace heap false book.history answer_entry
    keeps_space_of_answer = keeps_space_of_answers heap false book.history number p (now, omega (arith, next))

    pub keeps_space_of_reply : spent_of number book.history ≤ taken_of number book.history → taken_of number book.history ≤ spent_of number book.history + 15 → KeepsSpace heap false middle_book.history reply_entry
    keeps_space_of_reply enough little =
        let taken : taken_of number middle_book.history ≡ taken_of number book.history = omega (arith, total_of_grows_by_own number (λ e. e.taken) book.history answer_entry own) in
        let spent : spent_of number middle_book.history ≡ spent_of number book.history
        = omega (arith, total_of_grows_by_own number (λ e. e.given) book.history answer_entry own, total_of_grows_by_own number (λ e. e.born) book.history answer_entry own) in
        keeps_space_of_plain_said heap false middle_book.history number command (replies.Phase p) refl tt tt
        (subst (λ c. ShowsPhases heap false middle_book.history number c (replies.Phase p)) (sym polls) (now ∙ sym phase_same_after_answer, sym seat_has_answered_phase))
        (omega (arith, taken, spent, enough))
        (subst (λ c. taken_of number middle_book.history ≤ spent_of number middle_book.history + most_kept c) (sym polls) (omega (arith, taken, spent, little)))
