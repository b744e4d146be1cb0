-- What the account keeps once an entry is counted.
use Rattle.std.proofs.Common.{◌≡◌, ℕ, ◌+◌, List, refl, sym, ap, subst, inl, inr, false, cond, Some, slice_set, [], ◌∙◌, get_or-set_other}
use Rattle.std.proofs.lemmas.Bool.{ne_eqb, cases_eq, cond-false}
use Rattle.heap_model.specs.declared.heap.Heap.{Heap}
use Rattle.heap_model.specs.declared.command.Command.{Command}
use Rattle.heap_model.specs.declared.command.Command.TheVariants as commands
use Rattle.heap_model.specs.declared.reply.Reply.{Reply}
use Rattle.heap_model.specs.declared.entry.Entry.{Entry}
use Rattle.heap_model.specs.declared.entry.Entry.TheVariants as entries
use Rattle.heap_model.specs.declared.account.effect.Effect.{Effect}
use Rattle.heap_model.specs.account.Sums.{plus}
use Rattle.heap_model.specs.declared.account.seat.SeatAccount.{SeatAccount}
use Rattle.heap_model.specs.account.Effects.{effect_of, is_of}
use Rattle.heap_model.specs.account.Windows.{is_reply_to, begins_phase}
use Rattle.heap_model.specs.account.PhaseCounts.{is_leave_of}
use Rattle.heap_model.specs.account.Books.{Books}
use Rattle.heap_model.specs.account.SeatBooks.{account_at, no_seat}
use Rattle.heap_model.specs.account.Noting.{IsNotedSeat, IsNoted, seat_of, ended_by}

-- the entry is neither a reply to the seat nor its leave where it isn't of the seat
pub record IsOfOther (number : ℕ) (entry : Entry) : Type 0 where
  pub of : is_of number entry ≡ false
  pub reply : is_reply_to number entry ≡ false
  pub leave : is_leave_of number entry ≡ false

not_leave : (number q : ℕ) (command : Command) (reply : Reply) → (q ≡ number → ⊥) → is_leave_of number (entries.Said q command reply) ≡ false
not_leave number q commands.Leave reply other = ne_eqb q number other
not_leave number q command reply other = refl

pub entry_is_of_other : (number : ℕ) (entry : Entry) → (seat_of entry ≡ Some number → ⊥) → IsOfOther number entry
entry_is_of_other number (entries.Said q command reply) other =
    record { of = ne_eqb q number (λ e. other (ap Some e)); reply = ne_eqb q number (λ e. other (ap Some e)); leave = not_leave number q command reply (λ e. other (ap Some e)) }
entry_is_of_other number (entries.Takes q count) other = record { of = ne_eqb q number (λ e. other (ap Some e)); reply = refl; leave = refl }
entry_is_of_other number (entries.GivesBack q count) other = record { of = ne_eqb q number (λ e. other (ap Some e)); reply = refl; leave = refl }
entry_is_of_other number (entries.Answers q phase) other = record { of = ne_eqb q number (λ e. other (ap Some e)); reply = refl; leave = refl }
entry_is_of_other number entry other = record { of = refl; reply = refl; leave = refl }

-- nothing changes for a seat that the entry isn't of
pub noted_other : (heap : Heap) (all : Effect) (now : List SeatAccount) (entry : Entry) (number : ℕ) (seat : SeatAccount) → (seat_of entry ≡ Some number → ⊥) → IsNotedSeat heap all now number entry seat seat
noted_other heap all now entry number seat other =
    let none = entry_is_of_other number entry other in
    record {
      own = sym (cond-false _ _ _ none.of);
      own_then = sym (cond-false _ _ _ none.reply);
      all_then = sym (cond-false _ _ _ none.reply);
      behind_then = λ q below. sym (cond-false _ _ _ none.reply);
      left = sym (cond-false _ _ _ none.leave);
    }

-- the seats with another one of that which the entry is of
pub noted_put : (heap : Heap) (all : Effect) (now : List SeatAccount) (entry : Entry) (seats : List SeatAccount) (i : ℕ) (noted : SeatAccount) → seat_of entry ≡ Some i → account_at (slice_set seats i noted) i ≡ noted
    → IsNotedSeat heap all now i entry (account_at seats i) noted → (number : ℕ) → IsNotedSeat heap all now number entry (account_at seats number) (account_at (slice_set seats i noted) number)
noted_put heap all now entry seats i noted is put here number =
    elim (cases_eq number i) [
      | inl e ↦ subst (λ number. IsNotedSeat heap all now number entry (account_at seats number) (account_at (slice_set seats i noted) number)) (sym e)
          (subst (λ new. IsNotedSeat heap all now i entry (account_at seats i) new) (sym put) here)
      | inr ne ↦ subst (λ new. IsNotedSeat heap all now number entry (account_at seats number) new) (sym (get_or-set_other seats i number noted no_seat ne))
          (noted_other heap all now entry number (account_at seats number) (λ e. ne (cc e)))
    ]

-- all is noted once the sums are and the seat is
pub entry_is_noted : (old mid new : Books) (entry : Entry) (all : Effect) (i : ℕ) (noted : SeatAccount)
    → mid ≡ record old { entries = old.entries + 1; all = all; ended = ended_by entry; swung = cond (begins_phase entry) [] old.swung }
    → new ≡ record mid { seats = slice_set mid.seats i noted } → account_at new.seats i ≡ noted → all ≡ plus old.all (effect_of entry)
    → seat_of entry ≡ Some i → IsNotedSeat old.heap old.all old.seats i entry (account_at old.seats i) noted → IsNoted old entry new
entry_is_noted old mid new entry all i noted counts puts put sums is here =
    let seats : new.seats ≡ slice_set old.seats i noted = ap (λ (b : Books). b.seats) puts ∙ ap (λ (b : Books). slice_set b.seats i noted) counts in
    record {
      counted = record {
        heap = ap (λ (b : Books). b.heap) puts ∙ ap (λ (b : Books). b.heap) counts;
        entries = ap (λ (b : Books). b.entries) puts ∙ ap (λ (b : Books). b.entries) counts;
        all = ap (λ (b : Books). b.all) puts ∙ ap (λ (b : Books). b.all) counts ∙ sums;
        seats = λ number below. subst (λ l. IsNotedSeat old.heap old.all old.seats number entry (account_at old.seats number) (account_at l number)) (sym seats)
            (noted_put old.heap old.all old.seats entry old.seats i noted is (subst (λ l. account_at l i ≡ noted) seats put) here number);
        ended = ap (λ (b : Books). b.ended) puts ∙ ap (λ (b : Books). b.ended) counts;
      };
      swung = ap (λ (b : Books). b.swung) puts ∙ ap (λ (b : Books). b.swung) counts;
      cycle = ap (λ (b : Books). b.cycle) puts ∙ ap (λ (b : Books). b.cycle) counts;
      made = ap (λ (b : Books). b.made) puts ∙ ap (λ (b : Books). b.made) counts;
    }
