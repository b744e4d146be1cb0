-- What is held is alive: so it is taken, no claim takes it, and from the end of marking to the end of the sweep it is marked.
use Rattle.std.proofs.Common.{◌≡◌, ◌≢◌, ℕ, ◌*◌, ◌<◌, inl, inr, refl, sym, ap, ◌∙◌, arith}
use Rattle.core_rule.proofs.Terms.{Heap, State, Book, Colour, White, Grey, Black, WordPointsTo, marked_bit, IsBorn, Owner, Free, Taken, Borne, Kept, Dead, born_bit, Rule}
use Rattle.core_rule.specs.held.Held.{IsHeld, by_seat, by_word}
use Rattle.core_rule.specs.held.HeldLaws.{EachHeldIsTaken, NoClaimTakesHeld, EachHeldIsMarked}
use Rattle.core_rule.proofs.held.Alive.{IsAlive, kept_is_alive, head_is_alive, alive_not_dead, alive_is_taken, alive_within_heap}
use Rattle.core_rule.proofs.held.BodyWords.{borne_leads_to_alive}
use Rattle.core_rule.proofs.held.Holders.{held_by_holder_is_alive}
use Rattle.core_rule.proofs.marking.ObjectEdges.{kept_leads_to_kept, fragment_is_kept}
use Rattle.core_rule.proofs.marking.Paths.{white_or_marked}

module _ (heap : Heap) (state : State) (book : Book) (rule : Rule heap state book) where
  -- a born fragment's bit is its owner's
  pub born_fragment_has_bit : (f : ℕ) → f < 16 * heap.groups → IsBorn heap state.words f → born_bit (book.owner f) ≡ 1
  born_fragment_has_bit f within born = sym (rule.heap_stands.control_words.born f within) ∙ born

  -- the sources of a kept object lead to what is alive
  kept_alive_leads : (f i k source x : ℕ) → book.owner f ≡ Kept i k → WordPointsTo heap state.words f source x → IsAlive (book.owner x)
  kept_alive_leads f i k source x is leads = elim (kept_leads_to_kept heap state book rule f i k is source x leads) as (λ _. IsAlive (book.owner x)) [
    | inl fragment ↦ kept_is_alive (book.owner x) i fragment.position (fragment_is_kept heap state book rule f i k is x fragment)
    | inr head ↦ head_is_alive book.made book.owner book.fragments x head
  ]

  -- so do those of all that is alive and born
  word_alive : (f source x : ℕ) → IsAlive (book.owner f) → IsBorn heap state.words f → WordPointsTo heap state.words f source x → IsAlive (book.owner x)
  word_alive f source x alive born leads = by (book.owner f) refl alive
    where
      by : (o : Owner) → book.owner f ≡ o → IsAlive o → IsAlive (book.owner x)
      by Free is alive = absurd alive
      by (Taken number) is alive = absurd (omega (arith, born_fragment_has_bit f leads.within born, ap born_bit is))
      by (Borne number) is alive = borne_leads_to_alive heap state book rule number f is source x leads
      by (Kept i k) is alive = kept_alive_leads f i k source x is leads
      by (Dead i k) is alive = absurd alive

  pub held_is_alive : (f : ℕ) → IsHeld heap state f → IsAlive (book.owner f)
  held_is_alive f (by_seat number _ here holds) = held_by_holder_is_alive heap state book rule number here f holds
  held_is_alive g (by_word f _ held born edge) = word_alive f edge.source g (held_is_alive f held) born edge.points

  pub held_within_heap : (f : ℕ) → IsHeld heap state f → f < 16 * heap.groups
  held_within_heap f held = alive_within_heap heap state.words book.owner f rule.heap_stands.control_words (held_is_alive f held)

pub each_held_is_taken : EachHeldIsTaken
each_held_is_taken heap state book f rule held =
    let within = held_within_heap heap state book rule f held in
    (within, rule.heap_stands.control_words.taken f within ∙ alive_is_taken (book.owner f) (held_is_alive heap state book rule f held))

-- what isn't taken isn't held
pub no_claim_takes_held : NoClaimTakesHeld
no_claim_takes_held heap state book event f rule can untaken taken held = untaken (each_held_is_taken heap state book f rule held).1

pub each_held_is_marked : EachHeldIsMarked
each_held_is_marked heap state book f rule ended held born =
    let within = held_within_heap heap state book rule f held in
    elim (white_or_marked book.colour f) [
      | inl white ↦ absurd (dead white within)
      | inr some ↦ rule.heap_stands.cycle.marks.marked f within ∙ marks (book.colour f) some
    ]
  where
    dead : book.colour f ≡ White → f < 16 * heap.groups → ⊥
    dead white within =
        let freed = (rule.marks_stand.heap_marks.after ended).white_dead f (record { unmarked = white; born = born_fragment_has_bit heap state book rule f within born }) in
        alive_not_dead (book.owner f) freed.0 freed.1 (held_is_alive heap state book rule f held) freed.2

    marks : (c : Colour) → c ≢ White → marked_bit c ≡ 1
    marks White some = absurd (some refl)
    marks Grey some = refl
    marks Black some = refl
