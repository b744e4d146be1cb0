-- What a call that is over has come to by the seat's own view.
use Rattle.std.proofs.Common.{◌≡◌, ◌≢◌, ℕ, ◌+◌, ◌≤◌, ◌⊎◌, List, [], ◌∷◌, ◌++◌, length, refl, ap, subst, ◌∙◌, inl, inr, arith}
use Rattle.heap_model.specs.calls.SeatCalls.{ComesBefore, last_gives, leave_entries}
use Rattle.core_machine.proofs.Terms.{Command, Entry, Said, Heap, Reply, Kept, kept_of, kept_replied, StageAt, OwnStage, StandsOn, ComesFirst, IsAnswered, Step, CountsCall, Seat}
use Rattle.heap_model.specs.declared.command.Command.TheVariants as commands
use Rattle.heap_model.specs.declared.reply.Reply.TheVariants as replies
use Rattle.core_machine.specs.declared.point.Point.TheVariants as points

-- the entries before the reply are those that are due, where the phase that a poll tells is the one that was answered last, or the next
pub comes_before : (number : ℕ) (before : Kept) (command : Command) (reply : Reply) (first : List Entry) → ComesFirst number before command reply first
    → (command ≡ commands.Poll → (p : ℕ) → reply ≡ replies.Phase p → (p ≡ before.answered) ⊎ (p ≡ before.answered + 1)) → ComesBefore number (length before.reserve) before.answered command reply first
comes_before number before commands.Poll (replies.Phase p) first comes near =
    elim comes as (λ _. ComesBefore number (length before.reserve) before.answered commands.Poll (replies.Phase p) first) [
      | inl known ↦ inl known
      | inr new ↦ inr (elim (near refl p refl) as (λ _. p ≡ before.answered + 1) [ inl same ↦ absurd (new.0 same) | inr next ↦ next ], new.1)
    ]
comes_before number before commands.Poll _ first comes near = absurd comes
comes_before number before _ reply first comes near = comes

module _ (tells : Step → ℕ → Type 0) (heap : Heap) (number : ℕ) where
  -- a call that stands so at no point is answered
  pub own_answered : (command : Command) (old seat : Seat) (told : List Entry) → OwnStage tells heap number command old seat told → seat.point ≡ points.Idle
      → IsAnswered tells heap number command (kept_of old) (kept_of seat) told
  own_answered command old seat told is idle =
      subst (λ (c : Command). IsAnswered tells heap number c (kept_of old) (kept_of seat) told) is.same (subst (StageAt tells heap number (kept_of old) seat told) idle is.stage)

  -- what it has counted
  counted : (command : Command) (old seat : Seat) → seat.made ≤ old.made + 1 → seat.sets ≤ old.sets + 1 → (command ≢ commands.Leave → seat.left ≡ old.left) → CountsCall old seat command
  counted command old seat made sets left = record { made_more = made; sets_more = sets; present_stays = left }

  counts_alone : (command : Command) (old seat : Seat) → seat.made ≡ old.made → seat.sets ≡ old.sets → seat.left ≡ old.left → CountsCall old seat command
  counts_alone command old seat made sets left = counted command old seat (omega (arith, made)) (omega (arith, sets)) (λ stays. left)

  counts_kept : (command : Command) (old seat : Seat) (kept : Kept) → kept_of seat ≡ kept → kept.made ≡ old.made → kept.sets ≡ old.sets → kept.left ≡ old.left → CountsCall old seat command
  counts_kept command old seat kept is made sets left =
      counts_alone command old seat (ap (λ (k : Kept). k.made) is ∙ made) (ap (λ (k : Kept). k.sets) is ∙ sets) (ap (λ (k : Kept). k.left) is ∙ left)

  -- one set more was done
  counts_set : (command : Command) (old seat : Seat) → kept_of seat ≡ kept_replied seat.looks.seen (record (kept_of old) { sets = old.sets + 1 }) → CountsCall old seat command
  counts_set command old seat is =
      counted command old seat (omega (arith, ap (λ (k : Kept). k.made) is)) (omega (arith, ap (λ (k : Kept). k.sets) is)) (λ stays. ap (λ (k : Kept). k.left) is)

  pub call_counts_by_reply : (command : Command) (old seat : Seat) (first : List Entry) (reply : Reply) → StandsOn tells heap number command (kept_of old) (kept_of seat) first reply → CountsCall old seat command
  call_counts_by_reply commands.Leave old seat first replies.Done is =
      counted commands.Leave old seat (omega (arith, ap (λ (k : Kept). k.made) is)) (omega (arith, ap (λ (k : Kept). k.sets) is)) (λ stays. absurd (stays refl))
  call_counts_by_reply _ old seat first replies.Done is = counts_kept _ old seat _ is.kept_is refl refl refl
  call_counts_by_reply command old seat first replies.Yes is = counts_kept command old seat _ is.kept_is refl refl refl
  call_counts_by_reply command old seat first replies.No is = counts_kept command old seat _ is.kept_is refl refl refl
  call_counts_by_reply command old seat first (replies.Made id) is =
      let between = is.has.kept_is in
      counted command old seat (omega (arith, ap (λ (k : Kept). k.made) is.kept_is))
      (omega (arith, ap (λ (k : Kept). k.sets) is.kept_is, ap (λ (k : Kept). k.sets) between)) (λ stays. ap (λ (k : Kept). k.left) is.kept_is ∙ ap (λ (k : Kept). k.left) between)
  call_counts_by_reply command old seat first (replies.Got value stamp) is = counts_kept command old seat _ is.kept_is refl refl refl
  call_counts_by_reply command old seat first (replies.Was stamp) (inl is) = counts_set command old seat is.kept_is
  call_counts_by_reply command old seat first (replies.Was stamp) (inr is) = counts_set command old seat is.kept_is
  call_counts_by_reply command old seat first (replies.Now stamp) is = counts_kept command old seat _ is.keeps refl refl refl
  call_counts_by_reply command old seat first (replies.Length n) is = counts_kept command old seat _ is.keeps refl refl refl
  call_counts_by_reply command old seat first (replies.Phase p) is = counts_kept command old seat _ is.kept_is refl refl refl
  call_counts_by_reply command old seat first (replies.Cycle j) is = absurd is
  call_counts_by_reply command old seat first (replies.Waits other answered phase) is = absurd is
  call_counts_by_reply command old seat first replies.NoObject is = counts_kept command old seat _ is.kept_is refl refl refl
  call_counts_by_reply command old seat first replies.NoField is = counts_kept command old seat _ is.keeps refl refl refl
  call_counts_by_reply command old seat first (replies.Full need found) is = counts_kept command old seat _ is.keeps refl refl refl
  call_counts_by_reply command old seat first (replies.SpineFull need used) is = counts_kept command old seat _ is.keeps refl refl refl

  -- the reply to a leave is that it is done
  leave_done : (before kept : Kept) (first : List Entry) (reply : Reply) → StandsOn tells heap number commands.Leave before kept first reply → reply ≡ replies.Done
  leave_done before kept first replies.Done is = refl
  leave_done before kept first replies.Yes is = absurd is.local
  leave_done before kept first replies.No is = absurd is.local
  leave_done before kept first (replies.Made id) is = absurd is.an_object
  leave_done before kept first (replies.Got value stamp) is = absurd is.a_get
  leave_done before kept first (replies.Was stamp) (inl is) = absurd is.a_set
  leave_done before kept first (replies.Was stamp) (inr is) = absurd is.compared.a_cas
  leave_done before kept first (replies.Now stamp) is = absurd is.compared.a_cas
  leave_done before kept first (replies.Length n) is = absurd (differ is.register is.a_len)
    where
      differ : (r : ℕ) → commands.Leave ≡ commands.Len r → ⊥
      differ r e = cc
  leave_done before kept first (replies.Phase p) is = absurd (differ is.a_poll)
    where
      differ : commands.Leave ≡ commands.Poll → ⊥
      differ e = cc
  leave_done before kept first (replies.Cycle j) is = absurd is
  leave_done before kept first (replies.Waits other answered phase) is = absurd is
  leave_done before kept first replies.NoObject is = absurd is.local
  leave_done before kept first replies.NoField is = absurd is.names
  leave_done before kept first (replies.Full need found) is = absurd is.an_object
  leave_done before kept first (replies.SpineFull need used) is = absurd is.an_array

  -- so its entries are those of a leave
  pub told_is_leave_entries : (before kept : Kept) (told : List Entry) → IsAnswered tells heap number commands.Leave before kept told → told ≡ leave_entries number (length before.reserve)
  told_is_leave_entries before kept told is =
      let comes : is.first ≡ last_gives number (length before.reserve) = is.comes in
      is.last ∙ ap (λ (r : Reply). is.first ++ Said number commands.Leave r ∷ []) (leave_done before kept is.first is.reply is.stands)
      ∙ ap (λ (l : List Entry). l ++ Said number commands.Leave replies.Done ∷ []) comes
