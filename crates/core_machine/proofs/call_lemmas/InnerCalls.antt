-- An inner call of a collect that is made by itself: how the words stand to those of its begin, beside where it stands by the seat's own view.
use Rattle.std.proofs.Common.{◌≡◌, ◌≢◌, ℕ, ◌+◌, ◌⊎◌, List, [], ◌∷◌, ◌++◌, length, inl, inr, refl, sym, ap, ◌∙◌, eq-eqb}
use Rattle.std.specs.Prelude.{IfSome, nat_lt}
use Rattle.std.proofs.lemmas.Bool.{ne_eqb}
use Rattle.std.proofs.lemmas.Bool.Decides.{eqb_tells}
use Rattle.heap_model.specs.declared.calls.collect.Inner.{Inner}
use Rattle.heap_model.specs.declared.calls.collect.Inner.TheVariants as inners
use Rattle.core_machine.proofs.Terms.{Command, Entry, Answers, Heap, Kept, kept_of, Point, Step, PollLoad, Turning, Move, move_at, seat_after, Seat, with_seen, call_over, at, put}
use Rattle.core_machine.proofs.Terms.{address_of, word_after}
use Rattle.heap_model.specs.declared.command.Command.TheVariants as commands
use Rattle.core_machine.specs.calls.InnerStage.{IsInnerOver, InnerStageAt}
use Rattle.core_machine.specs.declared.point.Collecting.TheVariants.{Looking, Asking, Comparing, Noting}
use Rattle.core_machine.specs.declared.point.Point.TheVariants as points
use Rattle.core_machine.specs.declared.point.Polling.TheVariants as polling
use Rattle.core_machine.specs.declared.step.TurningStep.TheVariants.{LookLoad}
use Rattle.core_machine.specs.declared.table.address.Address.TheVariants as addresses
use Rattle.core_machine.specs.machine.InnerCalls.{inner_entries, seat_after_inner}
use Rattle.core_machine.specs.seat.Collecting.{inner_point}
use Rattle.core_machine.specs.seat.Handshake.{roots, answer_next, after_phase_load}
use Rattle.core_machine.specs.seat.Looks.{compared, forgotten, looked, seen_phase}
use Rattle.core_machine.proofs.seat_lemmas.PollingOver.{polling_over_cases}
use Rattle.core_machine.proofs.table_lemmas.Addresses.{put_of_read_changes_nothing}
use Rattle.core_machine.proofs.table_lemmas.Bits.{true_or_false}

-- what is told of a word that an inner call finds: the phase and another seat's word are those of the begin
abbrev pub IsOfStart : Heap → List ℕ → Step → ℕ → Type 0
IsOfStart heap start PollLoad word = word ≡ at heap start addresses.Phase
IsOfStart heap start (Turning (LookLoad other)) word = word ≡ at heap start (addresses.Answer other)
IsOfStart heap start _ word = Unit {0}

-- no word was changed yet, but while an answer is prepared
abbrev pub InnerAlone : List ℕ → List ℕ → Point → Type 0
InnerAlone start words (points.Collecting point) = words ≡ start
InnerAlone start words (points.Polling polling.Asking) = words ≡ start
InnerAlone start words _ = Unit {0}

module _ (heap : Heap) (start : List ℕ) (number : ℕ) where
  -- what a move finds and leads to
  abbrev pub InnerLeads : List ℕ → Seat → Move → Type 0
  InnerLeads words seat move =
      let found = at heap words (address_of move.step) in
      IsOfStart heap start move.step found × InnerAlone start (put heap words (address_of move.step) (word_after move.step found)) (seat_after move found).point

  -- an answer goes on
  answer_alone : (words : List ℕ) (seat : Seat) → InnerAlone start words (answer_next seat).point
  answer_alone words seat =
      elim (true_or_false (nat_lt seat.shaded (length (roots seat)))) as (λ _. InnerAlone start words (answer_next seat).point) [ inl more ↦ rw more tt | inr all ↦ rw all tt ]

  polled_alone : (words : List ℕ) (seat : Seat) (found : ℕ) → InnerAlone start words (after_phase_load seat found).point
  polled_alone words seat found =
      elim (eqb_tells found seat.answered) as (λ _. InnerAlone start words (after_phase_load seat found).point) [
        | inl known ↦ rw known.0 (polling_over_cases (λ s more. InnerAlone start words s.point) number seat.command seat found (λ ends. tt) (λ tells. tt))
        | inr new ↦ rw new.0 (answer_alone words (record seat { asked = found }))
      ]

  -- each move leads on
  pub inner_move_leads : (words : List ℕ) (inner : Inner) (before : Kept) (seat : Seat) (told : List Entry) (point : Point) → InnerStageAt (IsOfStart heap start) number inner before seat told point → InnerAlone start words point
      → IfSome (move_at heap number seat point) (InnerLeads words seat)
  inner_move_leads words inner before seat told points.Idle own stay = tt
  inner_move_leads words inner before seat told (points.Collecting Looking) own stay = (ap (λ (w : List ℕ). at heap w addresses.Phase) stay, tt)
  inner_move_leads words inner before seat told (points.Collecting (Asking other)) own stay = (ap (λ (w : List ℕ). at heap w addresses.Phase) stay, put_of_read_changes_nothing heap words addresses.Phase ∙ stay)
  inner_move_leads words inner before seat told (points.Collecting (Comparing other phase)) own stay = (ap (λ (w : List ℕ). at heap w (addresses.Answer other)) stay, tt)
  inner_move_leads words inner before seat told (points.Collecting (Noting reply)) own stay = (ap (λ (w : List ℕ). at heap w addresses.Phase) stay, tt)
  inner_move_leads words inner before seat told (points.Polling polling.Asking) own stay =
      let found = at heap words addresses.Phase in
      (ap (λ (w : List ℕ). at heap w addresses.Phase) stay, polled_alone (put heap words addresses.Phase found) (with_seen found seat) found)
  inner_move_leads words inner before seat told (points.Polling polling.Shading) own stay = (tt, answer_alone _ (record seat { shaded = seat.shaded + 1 }))
  inner_move_leads words inner before seat told (points.Polling polling.Answering) own stay =
      (tt, polling_over_cases (λ s more. InnerAlone start (put heap words (addresses.Answer number) seat.asked) s.point) number seat.command (record seat { answered = seat.asked }) seat.asked (λ ends. tt) (λ tells. tt))
  inner_move_leads words inner before seat told (points.Making point) own stay = absurd own
  inner_move_leads words inner before seat told points.Local own stay = absurd own
  inner_move_leads words inner before seat told (points.Access point) own stay = absurd own
  inner_move_leads words inner before seat told (points.Leaving point) own stay = absurd own

  pub inner_alone_at_first : (inner : Inner) → InnerAlone start start (inner_point inner)
  inner_alone_at_first inners.Look = refl
  inner_alone_at_first inners.Answer = refl
  inner_alone_at_first (inners.Behind other) = refl
  inner_alone_at_first (inners.Note reply) = refl

-- the seat with this that it keeps, this last command and these entries
abbrev with_kept : Seat → Kept → Command → List Entry → Seat
with_kept seat kept command mine = record seat {
  registers = kept.registers;
  seen = kept.seen;
  reserve = kept.reserve;
  cursor = kept.cursor;
  answered = kept.answered;
  made = kept.made;
  sets = kept.sets;
  looks = kept.looks;
  left = kept.left;
  command = command;
  mine = mine;
}

-- a seat without a call is another one, but for what it keeps
kept_is : (old seat : Seat) (kept : Kept) (mine : List Entry) → call_over old ≡ old → call_over seat ≡ seat → kept_of seat ≡ kept → seat.command ≡ commands.Collect → seat.mine ≡ mine
    → seat ≡ with_kept old kept commands.Collect mine
kept_is old seat kept mine rests now is same list =
    sym now ∙ ap (λ (k : Kept). with_kept (call_over old) k seat.command seat.mine) is ∙ ap (λ (c : Command). with_kept (call_over old) kept c seat.mine) same
    ∙ ap (λ (l : List Entry). with_kept (call_over old) kept commands.Collect l) list ∙ ap (λ (s : Seat). with_kept s kept commands.Collect mine) rests

module _ (heap : Heap) (start : List ℕ) (number : ℕ) (old seat : Seat) (told : List Entry) (rests : call_over old ≡ old) (now : call_over seat ≡ seat) (same : seat.command ≡ commands.Collect)
    (mine : seat.mine ≡ old.mine ++ told) where
  -- the phase at the begin
  abbrev phase : ℕ
  phase = at heap start addresses.Phase

  -- the seat is so where it keeps this and has told this
  ends_so : (kept : Kept) (entries : List Entry) → kept_of seat ≡ kept → told ≡ entries → (seat ≡ with_kept old kept commands.Collect (old.mine ++ entries)) × (told ≡ entries)
  ends_so kept entries is told_is = (kept_is old seat kept (old.mine ++ entries) rests now is same (mine ∙ ap (λ (l : List Entry). old.mine ++ l) told_is), told_is)

  -- what an answer has told
  answer_told : (p : ℕ) → p ≡ phase → ((p ≡ old.answered) × (told ≡ [])) ⊎ ((p ≢ old.answered) × (told ≡ Answers number p ∷ [])) → told ≡ inner_entries heap start number old.answered inners.Answer
  answer_told p found (inl known) = rw (eq-eqb phase old.answered (sym found ∙ known.0)) known.1
  answer_told p found (inr new) = rw (ne_eqb phase old.answered (λ e. new.0 (found ∙ e))) (new.1 ∙ ap (λ (q : ℕ). Answers number q ∷ []) found)

  -- a call that is over by its own view has left the seat as it is to be by the words of the begin
  pub inner_leaves_seat_as_due : (inner : Inner) → IsInnerOver (IsOfStart heap start) number (kept_of old) (kept_of seat) told inner
      → (seat ≡ seat_after_inner heap start number old inner) × (told ≡ inner_entries heap start number old.answered inner)
  inner_leaves_seat_as_due inners.Look is = ends_so (record (kept_of old) { looks = looked phase old.looks }) [] (is.kept_is ∙ ap (λ (p : ℕ). record (kept_of old) { looks = looked p old.looks }) is.found) is.none_told
  inner_leaves_seat_as_due inners.Answer is =
      ends_so (record (kept_of old) { answered = phase; looks = seen_phase phase old.looks }) (inner_entries heap start number old.answered inners.Answer)
      (is.kept_is ∙ ap (λ (p : ℕ). record (kept_of old) { answered = p; looks = seen_phase p old.looks }) is.found) (answer_told is.phase is.found is.told_is)
  inner_leaves_seat_as_due (inners.Behind other) is =
      ends_so (record (kept_of old) { looks = compared other phase (at heap start (addresses.Answer other)) (seen_phase phase old.looks) }) []
      (is.kept_is ∙ ap (λ (p : ℕ). record (kept_of old) { looks = compared other p is.word (seen_phase p old.looks) }) is.found
      ∙ ap (λ (w : ℕ). record (kept_of old) { looks = compared other phase w (seen_phase phase old.looks) }) is.found_then) is.none_told
  inner_leaves_seat_as_due (inners.Note reply) is =
      ends_so (record (kept_of old) { looks = forgotten (seen_phase phase old.looks) }) (inner_entries heap start number old.answered (inners.Note reply))
      (is.kept_is ∙ ap (λ (p : ℕ). record (kept_of old) { looks = forgotten (seen_phase p old.looks) }) is.found) is.told_is
