-- Where a call that makes an object, by itself, goes on with what is gathered.
use Rattle.std.proofs.Common.{◌≡◌, ℕ, ◌+◌, ◌-◌, ◌%◌, ◌^◌, ◌<◌, ◌≤◌, List, [], length, refl, sym, ap, subst, ◌∙◌, inl, inr, length-append, append-nil, arith}
use Rattle.std.proofs.lemmas.Bool.Decides.{leb_tells}
use Rattle.std.proofs.Math.Nat.{mod-eq_of_lt, add-mod_right}
use Rattle.core_machine.proofs.Terms.{Heap, Command, New, Array, spine_need_of, Entry, IsRecordCall, IsArrayCall, Budget, Control, clear_in, at, Seat, with_entries, gather_next}
use Rattle.core_machine.proofs.Terms.{after_gather, State, seat_at, IsAtRest, FitsPoint, Fits, free_count, KeepsOwn, Kept, kept_of}
use Rattle.heap_model.specs.account.Space.{need_of}
use Rattle.core_machine.specs.declared.point.Point.TheVariants as points
use Rattle.core_machine.proofs.table_lemmas.Free.{sum_of_nothing_is_zero}
use Rattle.core_machine.proofs.seat_lemmas.Fitting.{goes_on_cases, returning_cases, settled_cases}
use Rattle.core_machine.proofs.call_lemmas.Asking.{AsksWords, asks_words_none}
use Rattle.core_machine.proofs.call_lemmas.Restoring.{nothing_is_claimed}
use Rattle.core_machine.proofs.call_lemmas.Stages.{WhileGathering, WhileGivingBack, WhileMaking, AloneStage}

-- each group is passed when as many were claimed as there are
pub holds_of_every_group : (groups cursor tried g : ℕ) (P : ℕ → Type 0) → cursor < groups → groups ≤ tried → g < groups
    → ((i : ℕ) → i < tried → P ((cursor + i) % groups)) → P g
holds_of_every_group groups cursor tried g P c t within passed =
    elim (leb_tells cursor g) as (λ _. P g) [
      | inl above ↦
          let e : cursor + (g - cursor) ≡ g = omega (arith, above.1) in
          subst P (ap (λ (n : ℕ). n % groups) e ∙ mod-eq_of_lt within) (passed (g - cursor) (omega arith))
      | inr below ↦
          let e : cursor + (g + groups - cursor) ≡ g + groups = omega (arith, below.1) in
          subst P (ap (λ (n : ℕ). n % groups) e ∙ add-mod_right g groups ∙ mod-eq_of_lt within) (passed (g + groups - cursor) (omega (arith, below.1)))
    ]

-- no entries more
with_entries-nil : (seat : Seat) → with_entries seat [] ≡ seat
with_entries-nil seat = ap (λ (mine : List Entry). record seat { mine = mine }) (append-nil seat.mine)

-- a record needs no spine word
record_words : (command : Command) → IsRecordCall command → spine_need_of command ≡ 0
record_words (New d fields) a_record = refl
record_words _ a_record = absurd a_record

-- what the seat keeps of its own, whatever else changes
pub keeps_own_data : (old seat next : Seat) → kept_of seat ≡ kept_of old → next.registers ≡ seat.registers → next.seen ≡ seat.seen → next.reserve ≡ seat.reserve → next.cursor ≡ seat.cursor → next.made ≡ seat.made → KeepsOwn old next
keeps_own_data old seat next kept registers seen reserve cursor made = record {
  registers_stay = registers ∙ ap (λ (k : Kept). k.registers) kept;
  seen_stays = seen ∙ ap (λ (k : Kept). k.seen) kept;
  reserve_stays = reserve ∙ ap (λ (k : Kept). k.reserve) kept;
  cursor_stays = cursor ∙ ap (λ (k : Kept). k.cursor) kept;
  made_stays = made ∙ ap (λ (k : Kept). k.made) kept;
}

-- an array is no record
pub array_is_no_record : (command : Command) → IsArrayCall command → IsRecordCall command → ⊥
array_is_no_record (Array d cells) an_array a_record = a_record
array_is_no_record _ an_array a_record = an_array

module _ (heap : Heap) (old : State) (number : ℕ) (command : Command) where
  -- while what was claimed is given back, of which nothing was yet
  while_returning : (words : List ℕ) (seat : Seat) → seat.given ≡ 0 → WhileGathering heap old words command seat.cursor seat.tried seat.hand → free_count heap words ≡ 0
      → WhileGivingBack heap old words command seat.hand seat.given
  while_returning words seat none while nothing = record { all = omega (arith, while.free, nothing, none); claims = while.claims }

  -- where the call goes on with what is gathered
  pub alone_stands_going_on : (now : State) (told more : List Entry) (seat : Seat) → seat.command ≡ command → seat.given ≡ 0 → seat.cursor < heap.groups → seat.reserve ≡ (seat_at old number).reserve
      → WhileGathering heap old now.words command seat.cursor seat.tried seat.hand
      → AloneStage heap old now number command told (with_entries (gather_next heap seat) more) (gather_next heap seat).point
  alone_stands_going_on now told more seat is none cursor same while =
      let long = length-append seat.reserve seat.hand in
      let kept = ap (length {A = ℕ}) same in
      goes_on_cases (λ s. AloneStage heap old now number command told (with_entries s more) s.point) heap seat
      (λ enough.
      let making : WhileMaking heap old number command = record { granted = while.claims.granted; enough = omega (arith, while.free, enough, ap need_of is) } in
      settled_cases (λ m. AloneStage heap old now number command told (with_entries (record (after_gather heap seat) { point = points.Making m }) more) (points.Making m)) seat.command
      (λ an_array. making) (λ other. making))
      (λ few left. while)
      (λ few all.
      let nothing = sum_of_nothing_is_zero heap.groups (λ g. length (clear_in g (at heap now.words (Control g))))
      (λ g within. ap length (holds_of_every_group heap.groups seat.cursor seat.tried g (λ k. clear_in k (at heap now.words (Control k)) ≡ []) cursor all within while.passed)) in
      let returning = while_returning now.words seat none while nothing in
      returning_cases (λ m. AloneStage heap old now number command told (with_entries (record seat { point = points.Making m }) more) (points.Making m)) seat.hand
      (λ empty. returning) (λ some. returning))

  -- the making of a record is begun
  pub alone_stands_at_new : (now : State) → Fits heap (seat_at old number) → (seat_at old number).point ≡ points.Idle → now.words ≡ old.words
      → at heap old.words Budget < 2 ^ 64 → IsRecordCall command
      → AloneStage heap old now number command [] (gather_next heap (record (seat_at old number) { command = command })) (gather_next heap (record (seat_at old number) { command = command })).point
  alone_stands_at_new now fits idle same small a_record =
      let seat = seat_at old number in
      let rest : IsAtRest seat = subst (FitsPoint heap seat) idle fits.at_point in
      let begun_ = gather_next heap (record seat { command = command }) in
      subst (λ (s : Seat). AloneStage heap old now number command [] s begun_.point) (with_entries-nil begun_)
      (alone_stands_going_on now [] [] (record seat { command = command }) refl rest.none_given fits.own.cursor_within refl (record {
        free = rw (same, rest.empty_hand) (omega arith);
        passed = λ i below. absurd (omega (arith, rest.none_tried));
        claims = record {
          base = old.words;
          asked = subst (λ (n : ℕ). AsksWords heap n old.words old.words) (sym (record_words command a_record)) (asks_words_none heap old.words small);
          granted = λ an_array. absurd (array_is_no_record command an_array a_record);
          claims = rw (same, rest.empty_hand) (nothing_is_claimed heap old.words);
        };
      }))
