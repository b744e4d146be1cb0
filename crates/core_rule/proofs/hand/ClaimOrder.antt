-- The order of claims in what a seat gathers, and in the body of its object.
use Rattle.std.proofs.Common.{◌≡◌, ℕ, ◌+◌, ◌-◌, ◌*◌, ◌/◌, ◌%◌, ◌<◌, ◌≤◌, inl, inr, List, [], ◌++◌, length, take, drop, get_or, All, AllPairs, refl, sym, ap, ◌∙◌, subst, arith}
use Rattle.std.proofs.lemmas.Bool.{cases_lt, not-true}
use Rattle.std.proofs.lemmas.List.{append-nil, append_assoc, take-append-drop, take_at, drop_at, length-append, get_or_append_left, get_or-append_right}
use Rattle.std.proofs.lemmas.List.Elements.{All-append, All-filter, All-weaker, filter_passes}
use Rattle.std.proofs.lemmas.List.Kept.{AllPairs-filter}
use Rattle.std.proofs.lemmas.List.Sums.{suffix_len_is}
use Rattle.std.proofs.Math.Nat.{mod-eq_of_lt, add-mod_right}
use Rattle.core_rule.proofs.Terms.{Heap, AreFragments, in_group, out_of_group, inside_group, outside_group, last_group_of, last_run, run_of, before_run, fragments_gathered, last_claimed}
use Rattle.core_rule.proofs.Terms.{gather_next, Seat, need}
use Rattle.core_machine.proofs.seat_lemmas.Fitting.{goes_on_cases}
use Rattle.core_rule.specs.hand.Together.{claim_rank, InClaims, IsInOrder, AreTogether}
use Rattle.core_rule.proofs.hand.EmptyHand.{together_where_empty}
use Rattle.core_rule.proofs.lists.OrderedLists.{pairs_of_front, pairs_of_append, pairs_by_zero_reads, pairs_of_any, inside_group_stands_last}

-- a group at the start or behind it
claim_behind : (n s a : ℕ) → s ≤ a → a < n → (a + n - s) % n ≡ a - s
claim_behind n s a low high =
    let sum : a + n - s ≡ (a - s) + n = omega (arith, low) in
    rw sum (add-mod_right (a - s) n ∙ mod-eq_of_lt (omega (arith, high)))

-- and one that comes after the last
claim_wrapped : (n s a : ℕ) → a < s → s < n → (a + n - s) % n ≡ a + n - s
claim_wrapped n s a low high = mod-eq_of_lt (omega (arith, low, high))

-- the group that is so many ahead is claimed so many later
claim_ahead : (n s t : ℕ) → s < n → t < n → ((s + t) % n + n - s) % n ≡ t
claim_ahead n s t start few = elim (cases_lt (s + t) n) as (λ _. ((s + t) % n + n - s) % n ≡ t) [
  | inl low ↦
      let here : (s + t) % n ≡ s + t = mod-eq_of_lt low in
      rw here (claim_behind n s (s + t) (omega arith) low ∙ omega arith)
  | inr high ↦
      let sum : s + t ≡ (s + t - n) + n = omega (arith, high) in
      let here : (s + t) % n ≡ s + t - n = ap (λ x. x % n) sum ∙ add-mod_right (s + t - n) n ∙ mod-eq_of_lt (omega (arith, start, few, high)) in
      rw here (claim_wrapped n s (s + t - n) (omega (arith, few, high)) start ∙ omega (arith, high))
]

-- groups that are claimed at once are the same
claim_same : (n s a b : ℕ) → s < n → a < n → b < n → (a + n - s) % n ≡ (b + n - s) % n → a ≡ b
claim_same n s a b start first second same = elim (cases_lt a s) [
  | inl low ↦ elim (cases_lt b s) [
    | inl less ↦ omega (arith, claim_wrapped n s a low start, claim_wrapped n s b less start, same, low, less, start)
    | inr more ↦ omega (arith, claim_wrapped n s a low start, claim_behind n s b more second, same, low, more, start, second)
  ]
  | inr high ↦ elim (cases_lt b s) [
    | inl less ↦ omega (arith, claim_behind n s a high first, claim_wrapped n s b less start, same, high, less, start, first)
    | inr more ↦ omega (arith, claim_behind n s a high first, claim_behind n s b more second, same, high, more)
  ]
]

module _ (heap : Heap) where
  module _ (cursor tried : ℕ) (hand fs : List ℕ) (within : cursor < heap.groups) (few : tried < heap.groups) (of_group : All (λ f. f / 16 ≡ (cursor + tried) % heap.groups) fs) where
    claimed_next : All (λ f. claim_rank heap cursor f ≡ tried) fs
    claimed_next = All-weaker (λ f. f / 16 ≡ (cursor + tried) % heap.groups) (λ f. claim_rank heap cursor f ≡ tried)
        (λ f here. ap (λ g. (g + heap.groups - cursor) % heap.groups) here ∙ claim_ahead heap.groups cursor tried within few) fs of_group

    -- the fragments of the group that is claimed next come behind those that were claimed
    pub together_after_claim : AreTogether heap cursor tried hand [] → AreTogether heap cursor (tried + 1) (hand ++ fs) []
    together_after_claim together =
        let old = together.gathered refl in
        record {
          gathered = λ e. (
            pairs_of_append (λ f h. claim_rank heap cursor f ≤ claim_rank heap cursor h) (λ f. claim_rank heap cursor f < tried) (λ f. claim_rank heap cursor f ≡ tried)
                (λ f h before now. omega (arith, before, now)) hand fs old.1 claimed_next old.0
                (pairs_of_any (λ f h. claim_rank heap cursor f ≤ claim_rank heap cursor h) (λ f. claim_rank heap cursor f ≡ tried) (λ f h one two. omega (arith, one, two)) fs claimed_next),
            All-append (λ f. claim_rank heap cursor f < tried + 1) hand fs
                (All-weaker (λ f. claim_rank heap cursor f < tried) (λ f. claim_rank heap cursor f < tried + 1) (λ f less. omega (arith, less)) hand old.1)
                (All-weaker (λ f. claim_rank heap cursor f ≡ tried) (λ f. claim_rank heap cursor f < tried + 1) (λ f same. omega (arith, same)) fs claimed_next),
          );
          chosen = λ e. absurd (e refl);
        }

  -- the reserve is of the cursor's group, so that it comes before what was claimed
  reserve_first : (cursor tried : ℕ) (reserve hand : List ℕ) → cursor < heap.groups → All (λ f. f / 16 ≡ cursor) reserve → AreTogether heap cursor tried hand []
      → InClaims heap cursor (reserve ++ hand)
  reserve_first cursor tried reserve hand within of_cursor together =
      let old = together.gathered refl in
      let first : All (λ f. claim_rank heap cursor f ≡ 0) reserve
      = All-weaker (λ f. f / 16 ≡ cursor) (λ f. claim_rank heap cursor f ≡ 0)
      (λ f here. ap (λ g. (g + heap.groups - cursor) % heap.groups) here ∙ claim_behind heap.groups cursor cursor (omega arith) within ∙ omega arith) reserve of_cursor in
      pairs_of_append (λ f h. claim_rank heap cursor f ≤ claim_rank heap cursor h) (λ f. claim_rank heap cursor f ≡ 0) (λ f. claim_rank heap cursor f < tried)
      (λ f h none some. omega (arith, none)) reserve hand first old.1
      (pairs_of_any (λ f h. claim_rank heap cursor f ≤ claim_rank heap cursor h) (λ f. claim_rank heap cursor f ≡ 0) (λ f h one two. omega (arith, one, two)) reserve first) old.0

  -- a body that is all in the hand, of fragments in order
  whole_together : (start cursor tried : ℕ) (body : List ℕ) → start < heap.groups → InClaims heap start body → AreTogether heap cursor tried body body
  whole_together start cursor tried body below ordered = record {
    gathered = λ none. (together_where_empty heap cursor tried body body none none).gathered none;
    chosen = λ some. record { start = start; below = below; ordered = ordered; born = []; front = sym (append-nil body) };
  }

  -- the first of them are the object's
  pub together_after_going_on : (seat : Seat) → seat.body ≡ [] → seat.cursor < heap.groups → All (λ f. f / 16 ≡ seat.cursor) seat.reserve
      → AreTogether heap seat.cursor seat.tried seat.hand seat.body
      → AreTogether heap (gather_next heap seat).cursor (gather_next heap seat).tried (gather_next heap seat).hand (gather_next heap seat).body
  together_after_going_on seat none within of_cursor together =
      goes_on_cases (λ s. AreTogether heap s.cursor s.tried s.hand s.body) heap seat
      (λ enough. whole_together seat.cursor (last_claimed heap seat) 0 (take (need seat) (fragments_gathered seat)) within
      (pairs_of_front (λ f h. claim_rank heap seat.cursor f ≤ claim_rank heap seat.cursor h) (take (need seat) (fragments_gathered seat)) (drop (need seat) (fragments_gathered seat))
      (rw (take-append-drop (need seat) (fragments_gathered seat))
      (reserve_first seat.cursor seat.tried seat.reserve seat.hand within of_cursor (subst (λ b. AreTogether heap seat.cursor seat.tried seat.hand b) none together)))))
      (λ few left. together)
      (λ few tried. together)

  -- those that aren't given back stay in order
  pub together_after_giving : (cursor tried g : ℕ) (hand body : List ℕ) → body ≡ [] → AreTogether heap cursor tried hand body → AreTogether heap cursor tried (outside_group g hand) body
  together_after_giving cursor tried g hand body none together = record {
    gathered = λ e. (
      AllPairs-filter (λ f h. claim_rank heap cursor f ≤ claim_rank heap cursor h) (out_of_group g) hand (together.gathered e).0,
      All-filter (out_of_group g) (λ f. claim_rank heap cursor f < tried) hand (together.gathered e).1,
    );
    chosen = λ e. absurd (e none);
  }

  module _ (start : ℕ) (hand : List ℕ) (below : start < heap.groups) (within : AreFragments heap hand) (ordered : InClaims heap start hand) where
    -- what comes behind a fragment of the last one's group is of that group too
    behind_last : AllPairs (λ f h. f / 16 ≡ last_group_of hand → h / 16 ≡ last_group_of hand) hand
    behind_last = pairs_by_zero_reads (λ f h. f / 16 ≡ last_group_of hand → h / 16 ≡ last_group_of hand) hand
        (λ i j less here is. let last : ℕ = length hand - 1 in
        let first : claim_rank heap start (get_or hand i 0) ≤ claim_rank heap start (get_or hand j 0) = ordered i j 0 less here in
        let group : (k : ℕ) → k < length hand → get_or hand k 0 / 16 < heap.groups = λ k there. let inside : get_or hand k 0 < 16 * heap.groups = within k 0 there in omega (arith, inside) in
        let end : claim_rank heap start (get_or hand j 0) ≤ claim_rank heap start (get_or hand last 0) = elim (cases_lt j last) [
          | inl before ↦ ordered j last 0 before (omega (arith, here))
          | inr past ↦ let same : j ≡ last = omega (arith, here, past) in rw same (omega arith)
        ] in
        let same : claim_rank heap start (get_or hand i 0) ≡ claim_rank heap start (get_or hand last 0) = ap (λ g. (g + heap.groups - start) % heap.groups) is in
        claim_same heap.groups start (get_or hand j 0 / 16) (get_or hand last 0 / 16) below (group j here) (group last (omega (arith, here))) (omega (arith, first, end, same)))

    -- so the fragments of the last group are the last ones
    last_parted : outside_group (last_group_of hand) hand ++ inside_group (last_group_of hand) hand ≡ hand
    last_parted = inside_group_stands_last (last_group_of hand) hand behind_last

    -- as many as stand behind the others
    run_length : length hand - last_run hand ≡ length (outside_group (last_group_of hand) hand)
    run_length =
        let group : ℕ = last_group_of hand in
        let front : List ℕ = outside_group group hand in
        let back : List ℕ = inside_group group hand in
        let long : length hand ≡ length front + length back = ap length (sym last_parted) ∙ length-append front back in
        let run : last_run hand ≡ length hand - length front =
        suffix_len_is (in_group group) hand (length front) 0 (omega (arith, long))
        (λ k past within. ap (λ xs. in_group group (get_or xs k 0)) (sym last_parted) ∙ ap (in_group group) (get_or-append_right front back (length front) k 0 refl past)
        ∙ filter_passes (in_group group) hand (k - length front) 0 (omega (arith, past, within, long)))
        (λ some. ap (λ xs. in_group group (get_or xs (length front - 1) 0)) (sym last_parted) ∙ ap (in_group group) (get_or_append_left front back 0 (length front - 1) (omega (arith, some)))
        ∙ not-true _ (filter_passes (out_of_group group) hand (length front - 1) 0 (omega (arith, some)))) in
        omega (arith, run, long)

    -- they are the last run, and the others those before it
    run_is : run_of hand ≡ inside_group (last_group_of hand) hand
    run_is = rw run_length (ap (drop _) (sym last_parted) ∙ drop_at (outside_group (last_group_of hand) hand) (inside_group (last_group_of hand) hand) _ refl)

    before_is : before_run hand ≡ outside_group (last_group_of hand) hand
    before_is = rw run_length (ap (take _) (sym last_parted) ∙ take_at (outside_group (last_group_of hand) hand) (inside_group (last_group_of hand) hand) _ refl)

  module _ (cursor tried : ℕ) (hand body : List ℕ) (within : AreFragments heap hand) (some : 1 ≤ length body) (together : AreTogether heap cursor tried hand body) where
    in_order : IsInOrder heap hand body
    in_order = together.chosen (λ none. let empty : length body ≡ 0 = ap length none in omega (arith, some, empty))

    in_claims : InClaims heap in_order.start hand
    in_claims = pairs_of_front (λ f h. claim_rank heap in_order.start f ≤ claim_rank heap in_order.start h) hand in_order.born (subst (InClaims heap in_order.start) in_order.front in_order.ordered)

    -- the last run of the hand is what it has of its last group
    pub last_run_is_last_group : run_of hand ≡ inside_group (last_group_of hand) hand
    last_run_is_last_group = run_is in_order.start hand in_order.below within in_claims

    pub before_run_is_other_groups : before_run hand ≡ outside_group (last_group_of hand) hand
    before_run_is_other_groups = before_is in_order.start hand in_order.below within in_claims

    -- the others are the first of the body, which stays in order
    pub born_in_order : IsInOrder heap (outside_group (last_group_of hand) hand) body
    born_in_order =
        let whole_hand = last_parted in_order.start hand in_order.below within in_claims in
        record {
          start = in_order.start;
          below = in_order.below;
          ordered = in_order.ordered;
          born = inside_group (last_group_of hand) hand ++ in_order.born;
          front = in_order.front ∙ ap (λ xs. xs ++ in_order.born) (sym whole_hand) ∙ append_assoc (outside_group (last_group_of hand) hand) (inside_group (last_group_of hand) hand) in_order.born;
        }

    pub together_after_birth : AreTogether heap cursor tried (outside_group (last_group_of hand) hand) body
    together_after_birth = record {
      gathered = λ none. let empty : length body ≡ 0 = ap length none in absurd (omega (arith, some, empty));
      chosen = λ e. born_in_order;
    }
