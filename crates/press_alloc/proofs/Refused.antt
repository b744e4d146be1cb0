-- What a refusal behind a collect tells on a heap with one seat.
use Rattle.std.proofs.Common.{◌≡◌, ℕ, ◌+◌, ◌*◌, ◌<◌, ◌≤◌, true, List, [], ◌∷◌, ◌++◌, inl, inr, refl, sym, ap, ◌∙◌, subst, append_assoc, arith}
use Rattle.std.proofs.lemmas.Bool.{eq-eqb}
use Rattle.heap_model.specs.Limits.{group_fragments}
use Rattle.heap_model.specs.Needs.{made_by, words_by}
use Rattle.heap_model.specs.declared.command.Command.{Command}
use Rattle.heap_model.specs.declared.command.Command.TheVariants.{Collect}
use Rattle.heap_model.specs.declared.entry.Entry.{Entry}
use Rattle.heap_model.specs.declared.entry.Entry.TheVariants.{Said}
use Rattle.heap_model.specs.declared.heap.Heap.{Heap}
use Rattle.heap_model.specs.declared.id.Id.{Id}
use Rattle.heap_model.specs.declared.reply.Reply.{Reply}
use Rattle.heap_model.specs.declared.reply.Reply.TheVariants.{Made, Full, SpineFull}
use Rattle.heap_model.specs.declared.account.effect.Effect.{Effect}
use Rattle.heap_model.specs.account.Account.{IsLegal, KeepsSpace}
use Rattle.heap_model.specs.account.Cycles.{graph_of}
use Rattle.heap_model.specs.account.Effects.{effect_of}
use Rattle.heap_model.specs.account.Refusals.{FindsSpace, FindsSpine}
use Rattle.heap_model.specs.account.Space.{total}
use Rattle.heap_model.specs.account.Windows.{is_reply_to, up_to_reply, since_reply}
use Rattle.heap_model.specs.graph.Graph.{Graph}
use Rattle.heap_model.specs.graph.Reach.{IsReach}
use Rattle.heap_model.specs.graph.Sizes.{fragments_of_all, spine_words_of_all}
use Rattle.heap_model.proofs.Histories.{total-more}
use Rattle.heap_model.proofs.account_lemmas.Fronts.{front_is_legal, entry_keeps_rules}
use Rattle.heap_model.proofs.account_lemmas.Sections.{total-append}
use Rattle.heap_model.proofs.account_lemmas.Windows.{up_to_last-yes, after_last-yes}
use Rattle.press_alloc.specs.Calls.{AddsCall, IsNoReply}
use Rattle.press_alloc.specs.Presses.{IsAllocation, RefusesSpace, CallsAgain, IsPressed}
use Rattle.press_alloc.specs.Refusals.{ExceedsFragments, ExceedsWords, HasNoFragments, HasNoWords, HoldsCycle, HasCollected}
use Rattle.press_alloc.proofs.Bounds.{fragments_left, words_left}
use Rattle.press_alloc.proofs.Calling.{graph_after_refusal, graph_after_collect}
use Rattle.press_alloc.proofs.Collected.{cycle_in_collect}
use Rattle.press_alloc.proofs.Seats.{one_seat_tells_all}
use Rattle.press_alloc.proofs.Silence.{adds_nothing, none_is_born, none_is_granted}

-- no collect makes an object
made_by_collect : (answer : Reply) → made_by Collect answer ≡ 0
made_by_collect (Made id) = refl
made_by_collect answer = refl

words_by_collect : (answer : Reply) → words_by Collect answer ≡ 0
words_by_collect (Made id) = refl
words_by_collect answer = refl

-- a cycle among entries is one among more
cycle_among_more : (front told back : List Entry) → HoldsCycle told → HoldsCycle (front ++ (told ++ back))
cycle_among_more front told back held = record {
  cycle = held.cycle;
  before = front ++ held.before;
  within = held.within;
  kept = held.kept;
  behind = held.behind ++ back;
  parts = ap (λ es. front ++ (es ++ back)) held.parts ∙ simp append_assoc;
}

module _ (heap : Heap) (number : ℕ) (within : number < heap.seats) (one : heap.seats ≡ 1) (command : Command) (allocates : IsAllocation command) (old new : List Entry) (reply : Reply)
    (legal : IsLegal heap true new) (calls : CallsAgain AddsCall old new number command reply) where
  -- what was told up to the reply of each call
  abbrev till_refusal : List Entry
  till_refusal = old ++ calls.first.before

  abbrev till_answer : List Entry
  till_answer = calls.refused ++ calls.collects.before

  abbrev till_reply : List Entry
  till_reply = calls.collected ++ calls.again.before

  refused_is : calls.refused ≡ till_refusal ++ Said number command calls.refusal ∷ []
  refused_is = calls.first.told ∙ sym (append_assoc old calls.first.before (Said number command calls.refusal ∷ []))

  collected_is : calls.collected ≡ till_answer ++ Said number Collect calls.answer ∷ []
  collected_is = calls.collects.told ∙ sym (append_assoc calls.refused calls.collects.before (Said number Collect calls.answer ∷ []))

  new_is : new ≡ till_reply ++ Said number command reply ∷ []
  new_is = calls.again.told ∙ sym (append_assoc calls.collected calls.again.before (Said number command reply ∷ []))

  -- each of these is legal
  reply_legal : IsLegal heap true (till_reply ++ Said number command reply ∷ [])
  reply_legal = subst (IsLegal heap true) new_is legal

  collected_legal : IsLegal heap true calls.collected
  collected_legal = front_is_legal heap true calls.collected calls.again.before (front_is_legal heap true till_reply (Said number command reply ∷ []) reply_legal)

  answer_legal : IsLegal heap true (till_answer ++ Said number Collect calls.answer ∷ [])
  answer_legal = subst (IsLegal heap true) collected_is collected_legal

  refused_legal : IsLegal heap true calls.refused
  refused_legal = front_is_legal heap true calls.refused calls.collects.before (front_is_legal heap true till_answer (Said number Collect calls.answer ∷ []) answer_legal)

  refusal_legal : IsLegal heap true (till_refusal ++ Said number command calls.refusal ∷ [])
  refusal_legal = subst (IsLegal heap true) refused_is refused_legal

  -- the refusal is the seat's last reply before it collects
  parted : up_to_reply number calls.refused ≡ calls.refused
  parted = ap (up_to_reply number) refused_is ∙ up_to_last-yes (is_reply_to number) till_refusal (Said number command calls.refusal) (eq-eqb number number refl) ∙ sym refused_is

  fresh : since_reply number calls.refused ≡ []
  fresh = ap (since_reply number) refused_is ∙ after_last-yes (is_reply_to number) till_refusal (Said number command calls.refusal) (eq-eqb number number refl)

  -- so a cycle begins and ends while it collects
  held : HoldsCycle calls.collects.before
  held = cycle_in_collect heap number within one calls.refused calls.collects.before calls.answer fresh calls.collects.one_reply answer_legal

  pub cycle_in_press : (added : List Entry) × (new ≡ old ++ added) × HoldsCycle added
  cycle_in_press =
      let first = calls.first.before ++ Said number command calls.refusal ∷ [] in
      let last = Said number Collect calls.answer ∷ (calls.again.before ++ Said number command reply ∷ []) in (
        first ++ (calls.collects.before ++ last),
        new_is ∙ ap (λ es. (es ++ calls.again.before) ++ Said number command reply ∷ []) (collected_is ∙ ap (λ es. (es ++ calls.collects.before) ++ Said number Collect calls.answer ∷ []) calls.first.told) ∙ simp append_assoc,
        cycle_among_more first calls.collects.before last held,
      )

  -- the seat has spent no more than it took
  solvent : total (λ e. e.given) calls.refused + total (λ e. e.born) calls.refused ≤ total (λ e. e.taken) calls.refused
  solvent =
      let entry = Said number command calls.refusal in
      let makes = (entry_keeps_rules heap true till_refusal [] entry refusal_legal).makes.0 in
      let tells = one_seat_tells_all heap number within one till_refusal (front_is_legal heap true till_refusal (entry ∷ []) refusal_legal).objects in
      omega (
        arith,
        makes,
        tells.taken,
        tells.spent,
        ap (total (λ e. e.given)) refused_is,
        ap (total (λ e. e.born)) refused_is,
        ap (total (λ e. e.taken)) refused_is,
        total-more (λ e. e.given) till_refusal entry,
        total-more (λ e. e.born) till_refusal entry,
        total-more (λ e. e.taken) till_refusal entry,
      )

  -- what neither a collect nor an entry without a reply adds to is as it was from the refusal to the last reply
  module _ (summand : Effect → ℕ) (none : (entry : Entry) → IsNoReply entry → summand (effect_of entry) ≡ 0) (none_of_collect : summand (effect_of (Said number Collect calls.answer)) ≡ 0) where
    stays : total summand till_reply ≡ total summand calls.refused
    stays = omega (
      arith,
      total-append summand calls.collected calls.again.before,
      adds_nothing IsNoReply summand none calls.again.before calls.again.one_reply,
      ap (total summand) collected_is,
      total-more summand till_answer (Said number Collect calls.answer),
      none_of_collect,
      total-append summand calls.refused calls.collects.before,
      adds_nothing IsNoReply summand none calls.collects.before calls.collects.one_reply,
    )

  -- so no object is made, and no spine word granted
  born_stays : total (λ e. e.born) till_reply ≡ total (λ e. e.born) calls.refused
  born_stays = stays (λ e. e.born) none_is_born (made_by_collect calls.answer)

  granted_stays : total (λ e. e.words) till_reply ≡ total (λ e. e.words) calls.refused
  granted_stays = stays (λ e. e.words) none_is_granted (words_by_collect calls.answer)

  -- what was freed and returned by the end of the collect stays so
  grows : (summand : Effect → ℕ) → total summand till_answer ≤ total summand till_reply
  grows summand = omega (
    arith,
    total-append summand calls.collected calls.again.before,
    ap (total summand) collected_is,
    total-more summand till_answer (Said number Collect calls.answer),
  )

  -- what is reached is the same as right after the refusal
  same_graph : RefusesSpace reply → graph_of heap new ≡ graph_of heap calls.refused
  same_graph refuses = graph_after_refusal heap calls.collected new number command reply allocates refuses calls.again ∙ graph_after_collect heap calls.refused calls.collected number calls.answer calls.collects

  module _ (reached : List Id) (reaches : IsReach (graph_of heap calls.refused) reached) where
    -- what was found are all fragments but those of what is reached
    found_is_rest : (found : ℕ) → FindsSpace heap true till_reply number found → group_fragments * heap.groups ≤ found + fragments_of_all (graph_of heap calls.refused) reached
    found_is_rest found finds =
        let now = one_seat_tells_all heap number within one till_reply (front_is_legal heap true till_reply (Said number command reply ∷ []) reply_legal).objects in
        let then = one_seat_tells_all heap number within one calls.refused refused_legal.objects in
        let left = fragments_left heap number within one calls.refused calls.collects.before held parted fresh calls.collects.one_reply (calls.collects.moves_nothing refl)
        (front_is_legal heap true till_answer (Said number Collect calls.answer ∷ []) answer_legal) reached reaches in
        omega (arith, finds, left, now.taken, now.spent, then.taken, then.spent, solvent, born_stays, grows (λ e. e.freed))

    -- and the spine words in use are at most those of what is reached
    shown_is_reached : (shown : ℕ) → FindsSpine heap true till_reply number shown → shown ≤ spine_words_of_all (graph_of heap calls.refused) reached
    shown_is_reached shown finds =
        let left = words_left heap number within one calls.refused calls.collects.before held parted fresh calls.collects.one_reply (calls.collects.moves_nothing refl)
        (front_is_legal heap true till_answer (Said number Collect calls.answer ∷ []) answer_legal) reached reaches in
        omega (arith, finds, left, granted_stays, grows (λ e. e.returned))

  -- what the last reply shows is right
  last_keeps : KeepsSpace heap true till_reply (Said number command reply)
  last_keeps = entry_keeps_rules heap true till_reply [] (Said number command reply) reply_legal

  exceeds_fragments : (need found : ℕ) → RefusesSpace reply → found < need → FindsSpace heap true till_reply number found → ExceedsFragments heap new need
  exceeds_fragments need found refuses too_few finds =
      let P : Graph → Type 0 = λ g. (reached : List Id) → IsReach g reached → group_fragments * heap.groups < fragments_of_all g reached + need in
      subst P (sym (same_graph refuses)) (λ reached reaches. omega (arith, too_few, found_is_rest reached reaches found finds))

  exceeds_words : (need shown : ℕ) → RefusesSpace reply → heap.spine < shown + need → FindsSpine heap true till_reply number shown → ExceedsWords heap new need
  exceeds_words need shown refuses too_many finds =
      let P : Graph → Type 0 = λ g. (reached : List Id) → IsReach g reached → heap.spine < spine_words_of_all g reached + need in
      subst P (sym (same_graph refuses)) (λ reached reaches. omega (arith, too_many, shown_is_reached reached reaches shown finds))

module _ (heap : Heap) (number : ℕ) (within : number < heap.seats) (command : Command) (allocates : IsAllocation command) (old new : List Entry) where
  -- a refusal of fragments is right
  pub fragments_are_too_few : (reply : Reply) → IsLegal heap true new → IsPressed AddsCall old new number command reply → HasNoFragments heap new reply
  fragments_are_too_few (Full need found) legal (inl once) = absurd (once.1 tt)
  fragments_are_too_few (Full need found) legal (inr calls) = λ one.
      let shows = (last_keeps heap number within one command allocates old new (Full need found) legal calls).refuses in
      exceeds_fragments heap number within one command allocates old new (Full need found) legal calls need found tt shows.1 shows.2
  fragments_are_too_few reply legal pressed = tt

  -- one of spine words is right
  pub words_are_too_few : (reply : Reply) → IsLegal heap true new → IsPressed AddsCall old new number command reply → HasNoWords heap new reply
  words_are_too_few (SpineFull need shown) legal (inl once) = absurd (once.1 tt)
  words_are_too_few (SpineFull need shown) legal (inr calls) = λ one.
      let shows = (last_keeps heap number within one command allocates old new (SpineFull need shown) legal calls).refuses_spine in
      exceeds_words heap number within one command allocates old new (SpineFull need shown) legal calls need shown tt shows.1 shows.2
  words_are_too_few reply legal pressed = tt

  -- and it comes behind a cycle
  pub refusal_has_collected : (reply : Reply) → IsLegal heap true new → IsPressed AddsCall old new number command reply → HasCollected heap old new reply
  refusal_has_collected reply legal (inl once) = λ one refuses. absurd (once.1 refuses)
  refusal_has_collected reply legal (inr calls) = λ one refuses. cycle_in_press heap number within one command allocates old new reply legal calls
