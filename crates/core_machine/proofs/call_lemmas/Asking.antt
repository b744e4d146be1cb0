-- The words of a table while a call has asked for its spine words, and that taking them back leaves them as they were.
use Rattle.std.proofs.Common.{◌≡◌, ◌≢◌, ℕ, ◌+◌, ◌-◌, ◌%◌, ◌^◌, ◌<◌, ◌≤◌, List, length, refl, sym, ap, subst, ◌∙◌, arith}
use Rattle.core_machine.proofs.Terms.{Heap, Command, New, Array, spine_need_of, Address, Phase, Answer, Budget, Control, Word, free_count, LacksSpineWords, State, MakesObject}
use Rattle.core_machine.proofs.Terms.{IsArrayCall, clear_in, at, put, InTable, table_length, SameTable, address_of, word_after, refusal_step}
use Rattle.heap_model.specs.Command.{IsCommand}
use Rattle.core_machine.specs.declared.table.address.Address.TheVariants.{Spot, Spine}
use Rattle.core_machine.proofs.table_lemmas.Addresses.{at-put_same, at-put_other, put_of_read_changes_nothing}
use Rattle.core_machine.proofs.table_lemmas.Free.{sum_of_same_functions}
use Rattle.core_machine.proofs.call_lemmas.Restoring.{Claims}
use Rattle.core_machine.proofs.seat_lemmas.Fitting.{array_words_within_limits}

-- the words now are the old ones, but that so many spine words were asked for
pub record AsksWords (heap : Heap) (words : ℕ) (old now : List ℕ) : Type 0 where
  pub budget : at heap now Budget ≡ (at heap old Budget + words) % 2 ^ 64
  pub others : (a : Address) → InTable heap a → a ≢ Budget → at heap now a ≡ at heap old a

-- none were asked for
pub asks_words_none : (heap : Heap) (words : List ℕ) → at heap words Budget < 2 ^ 64 → AsksWords heap 0 words words
asks_words_none heap words small = record { budget = omega (arith, small); others = λ a within other. refl }

-- so many were asked for
pub asks_words_some : (heap : Heap) (words : ℕ) (old : List ℕ) → length old ≡ table_length heap → AsksWords heap words old (put heap old Budget ((at heap old Budget + words) % 2 ^ 64))
asks_words_some heap words old table = record {
  budget = at-put_same heap old Budget ((at heap old Budget + words) % 2 ^ 64) table tt;
  others = λ a within other. at-put_other heap old Budget a ((at heap old Budget + words) % 2 ^ 64) tt within other;
}

module _ (heap : Heap) (words : ℕ) (old now : List ℕ) (asks : AsksWords heap words old now) where
  -- as many fragments are free
  pub free_count_same_when_asked : free_count heap now ≡ free_count heap old
  free_count_same_when_asked = sum_of_same_functions heap.groups (λ g. length (clear_in g (at heap now (Control g)))) (λ g. length (clear_in g (at heap old (Control g))))
      (λ g within. ap (λ (word : ℕ). length (clear_in g word)) (asks.others (Control g) within (λ e. cc)))

  -- and each word has 64 bits
  pub asked_words_are_small : ((a : Address) → InTable heap a → at heap old a < 2 ^ 64) → (a : Address) → InTable heap a → at heap now a < 2 ^ 64
  asked_words_are_small small Budget within = omega (arith, asks.budget)
  asked_words_are_small small Phase within = subst (λ (n : ℕ). n < 2 ^ 64) (sym (asks.others Phase within (λ e. cc))) (small Phase within)
  asked_words_are_small small (Answer s) within = subst (λ (n : ℕ). n < 2 ^ 64) (sym (asks.others (Answer s) within (λ e. cc))) (small (Answer s) within)
  asked_words_are_small small Spot within = subst (λ (n : ℕ). n < 2 ^ 64) (sym (asks.others Spot within (λ e. cc))) (small Spot within)
  asked_words_are_small small (Control g) within = subst (λ (n : ℕ). n < 2 ^ 64) (sym (asks.others (Control g) within (λ e. cc))) (small (Control g) within)
  asked_words_are_small small (Word f j) within = subst (λ (n : ℕ). n < 2 ^ 64) (sym (asks.others (Word f j) within (λ e. cc))) (small (Word f j) within)
  asked_words_are_small small (Spine half offset) within = subst (λ (n : ℕ). n < 2 ^ 64) (sym (asks.others (Spine half offset) within (λ e. cc))) (small (Spine half offset) within)

  -- what was added modulo 2^64 is taken off again
  back : (b n : ℕ) → b < 2 ^ 64 → words ≤ 2 ^ 64 → n ≡ (b + words) % 2 ^ 64 → (n + 2 ^ 64 - words) % 2 ^ 64 ≡ b
  back b n small few is = omega (arith, is)

  -- the other words
  other_stays : (last : List ℕ) → SameTable heap now last → (a : Address) → InTable heap a → a ≢ Budget
      → at heap (put heap last Budget ((at heap last Budget + 2 ^ 64 - words) % 2 ^ 64)) a ≡ at heap old a
  other_stays last same a within other =
      at-put_other heap last Budget a ((at heap last Budget + 2 ^ 64 - words) % 2 ^ 64) tt within other ∙ same a within ∙ asks.others a within other

  -- once they are taken back every word is as it was
  pub same_table_after_take_back : (last : List ℕ) → length last ≡ table_length heap → ((a : Address) → InTable heap a → at heap old a < 2 ^ 64) → words ≤ 2 ^ 64 → SameTable heap now last
      → SameTable heap old (put heap last Budget ((at heap last Budget + 2 ^ 64 - words) % 2 ^ 64))
  same_table_after_take_back last table small few same Budget within =
      at-put_same heap last Budget _ table tt ∙ back (at heap old Budget) (at heap last Budget) (small Budget tt) few (same Budget tt ∙ asks.budget)
  same_table_after_take_back last table small few same Phase within = other_stays last same Phase within (λ e. cc)
  same_table_after_take_back last table small few same (Answer s) within = other_stays last same (Answer s) within (λ e. cc)
  same_table_after_take_back last table small few same Spot within = other_stays last same Spot within (λ e. cc)
  same_table_after_take_back last table small few same (Control g) within = other_stays last same (Control g) within (λ e. cc)
  same_table_after_take_back last table small few same (Word f j) within = other_stays last same (Word f j) within (λ e. cc)
  same_table_after_take_back last table small few same (Spine half offset) within = other_stays last same (Spine half offset) within (λ e. cc)

-- where none were asked for, every word is as it was
none_asked : (heap : Heap) (old now : List ℕ) → AsksWords heap 0 old now → at heap old Budget < 2 ^ 64 → SameTable heap old now
none_asked heap old now asks small Budget within = omega (arith, asks.budget, small)
none_asked heap old now asks small Phase within = asks.others Phase within (λ e. cc)
none_asked heap old now asks small (Answer s) within = asks.others (Answer s) within (λ e. cc)
none_asked heap old now asks small Spot within = asks.others Spot within (λ e. cc)
none_asked heap old now asks small (Control g) within = asks.others (Control g) within (λ e. cc)
none_asked heap old now asks small (Word f j) within = asks.others (Word f j) within (λ e. cc)
none_asked heap old now asks small (Spine half offset) within = asks.others (Spine half offset) within (λ e. cc)

-- the step of a refusal leaves every word as it was at the begin, where all that was claimed was given back
pub same_table_after_refusal : (heap : Heap) (command : Command) (old base now : List ℕ) → MakesObject command → IsCommand command → length now ≡ table_length heap
    → ((a : Address) → InTable heap a → at heap old a < 2 ^ 64) → AsksWords heap (spine_need_of command) old base → SameTable heap base now
    → SameTable heap old (put heap now (address_of (refusal_step command (spine_need_of command)))
    (word_after (refusal_step command (spine_need_of command)) (at heap now (address_of (refusal_step command (spine_need_of command))))))
same_table_after_refusal heap (Array d cells) old base now makes range table small asks same =
    let few = array_words_within_limits (Array d cells) tt range in
    same_table_after_take_back heap (spine_need_of (Array d cells)) old base asks now table small (omega (arith, few.1)) same
same_table_after_refusal heap (New d fields) old base now makes range table small asks same =
    subst (SameTable heap old) (sym (put_of_read_changes_nothing heap now Phase)) (λ a within. same a within ∙ none_asked heap old base asks (small Budget tt) a within)
same_table_after_refusal heap _ old base now makes range table small asks same = absurd makes

-- the call has asked for its spine words, which an array was granted, and has claimed what is in its hand
pub record HasClaimed (heap : Heap) (old : State) (words : List ℕ) (command : Command) (hand : List ℕ) : Type 0 where
  pub base : List ℕ
  pub asked : AsksWords heap (spine_need_of command) old.words base
  pub granted : IsArrayCall command → LacksSpineWords heap old command → ⊥
  pub claims : Claims heap base words hand
