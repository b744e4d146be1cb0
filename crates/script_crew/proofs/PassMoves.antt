-- Each move of a pass keeps the rule, and what a pass learns by it.
use Rattle.std.proofs.Common.{◌≡◌, ◌≢◌, ℕ, ◌+◌, ◌-◌, ◌<◌, List, [], ◌∷◌, ◌++◌, length, set, sym, refl, ap, ◌∙◌, subst, ⊎_elim, arith}
use Rattle.std.specs.Prelude.{sum_by}
use Rattle.std.proofs.lemmas.List.Sums.{sum_by-append, sum_by-cons, sum_by_push}
use Rattle.std.proofs.lemmas.List.{nil_from_length}
use mathlib.Core.Option.{some, some-ne-none}
use lib.ListN.{get_elem?}
use Rattle.crossbeam_queue.specs.Fifo.{Pushes, Pops, Forks, Merges, Learns, Held}
use Rattle.crossbeam_queue.proofs.Lists.{at_set, at_snoc}
use Rattle.script_crew.specs.declared.position_rule.Tally.{Tally}
use Rattle.script_crew.specs.Positions.{all_shares, tally, pushed_by_all, popped_by_all, IsSound, KeepsPositions, HasPushed, HasPopped, Settles}
use Rattle.script_crew.proofs.Sums.{sum_by-set_at, at-le-sum_by, pair-le-sum_by, sum_by-lone, sum_by-one}

-- each of the views has this
abbrev EachView : (Tally → Type 0) → List Tally → Type 0
EachView P all = (port : ℕ) (one : Tally) → get_elem? all port ≡ some one → P one

each-set : (P : Tally → Type 0) (all : List Tally) (port : ℕ) (new : Tally) → P new → ((other : ℕ) (two : Tally) → other ≢ port → get_elem? all other ≡ some two → P two) → EachView P (set all port new)
each-set P all port new here others j one at =
    ⊎_elim (λ (x : (j ≡ port) × (new ≡ one)). subst P x.1 here) (λ (x : (j ≢ port) × (get_elem? all j ≡ some one)). others j one x.0 x.1) (at_set all port j new one at)

each-push : (P : Tally → Type 0) (all : List Tally) (new : Tally) → P new → EachView P all → EachView P (all ++ new ∷ [])
each-push P all new here each j one at = ⊎_elim (λ x. each j one x) (λ (is : new ≡ one). subst P is here) (at_snoc all new one j at)

-- how many shares all passes have, and what they have pushed and popped, once one view has changed
shares_after : (all : List Tally) (port : ℕ) (old new : Tally) → get_elem? all port ≡ some old
    → sum_by (λ one. one.shares) (set all port new) + old.shares ≡ sum_by (λ one. one.shares) all + new.shares
shares_after all port old new at = sum_by-set_at (λ one. one.shares) all port old new at

pushed_after : (measure : ℕ → ℕ) (all : List Tally) (port : ℕ) (old new : Tally) → get_elem? all port ≡ some old
    → pushed_by_all measure (set all port new) + sum_by measure old.pushed ≡ pushed_by_all measure all + sum_by measure new.pushed
pushed_after measure all port old new at = sum_by-set_at (λ one. sum_by measure one.pushed) all port old new at

popped_after : (measure : ℕ → ℕ) (all : List Tally) (port : ℕ) (old new : Tally) → get_elem? all port ≡ some old
    → popped_by_all measure (set all port new) + sum_by measure old.popped ≡ popped_by_all measure all + sum_by measure new.popped
popped_after measure all port old new at = sum_by-set_at (λ one. sum_by measure one.popped) all port old new at

-- where one view's change moves as much as the queue's, all is balanced behind it
balanced_after : (items later : List ℕ) (all : List Tally) (port : ℕ) (old new : Tally) → get_elem? all port ≡ some old → KeepsPositions items all
    → ((measure : ℕ → ℕ) → sum_by measure new.pushed + sum_by measure old.popped + sum_by measure items ≡ sum_by measure old.pushed + sum_by measure new.popped + sum_by measure later)
    → (measure : ℕ → ℕ) → pushed_by_all measure (set all port new) ≡ popped_by_all measure (set all port new) + sum_by measure later
balanced_after items later all port old new at kept moved measure = omega (arith, pushed_after measure all port old new at, popped_after measure all port old new at, kept.balanced measure, moved measure)

-- a view that knows what another one knew is sound where as much was pushed in all
stays_sound : (all later : List Tally) → ((measure : ℕ → ℕ) → pushed_by_all measure later ≡ pushed_by_all measure all)
    → (old new : Tally) → new.known ≡ old.known → (new.shares ≡ 0 → (new.pushed ≡ []) × (new.popped ≡ [])) → (0 < new.shares → 0 < old.shares) → IsSound all old → IsSound later new
stays_sound all later same old new known_is idle shares sound = record {
  idle = idle;
  known = λ share measure. ap (sum_by measure) known_is ∙ (sound.known (shares share) measure ∙ sym (same measure));
}

itself_sound : (all later : List Tally) → ((measure : ℕ → ℕ) → pushed_by_all measure later ≡ pushed_by_all measure all) → (one : Tally) → IsSound all one → IsSound later one
itself_sound all later same one sound = stays_sound all later same one one refl sound.idle (λ share. share) sound

-- a view with a share is not idle
not_idle : (one : Tally) → 0 < one.shares → one.shares ≡ 0 → (one.pushed ≡ []) × (one.popped ≡ [])
not_idle one share none = absurd (omega (arith, share, none))

-- where one pass has every share, no other has any
others_none : (items : List ℕ) (all : List Tally) (port : ℕ) (one : Tally) → KeepsPositions items all → get_elem? all port ≡ some one → one.shares ≡ all_shares
    → (other : ℕ) (two : Tally) → get_elem? all other ≡ some two → other ≢ port → two.shares ≡ 0
others_none items all port one kept at every other two there apart =
    let both = pair-le-sum_by (λ x. x.shares) all port other one two at there apart in
    omega (arith, both, kept.shares, every)

pub settles : (port : ℕ) (one : Tally) → Learns KeepsPositions port one (Settles one)
settles port one items all kept at every measure =
    let none = others_none items all port one kept at every in
    let idle = λ (other : ℕ) (two : Tally) (there : get_elem? all other ≡ some two) (apart : other ≢ port). (kept.sound other two there).idle (none other two there apart) in
    let pushed = sum_by-lone (λ x. sum_by measure x.pushed) all port one at (λ other two there apart. ap (sum_by measure) (idle other two there apart).0) in
    let popped = sum_by-lone (λ x. sum_by measure x.popped) all port one at (λ other two there apart. ap (sum_by measure) (idle other two there apart).1) in
    omega (arith, pushed, popped, kept.balanced measure)

pub keeps-push : (capacity port : ℕ) (one : Tally) (position : ℕ) → one.shares ≡ all_shares → Pushes KeepsPositions capacity port one position (HasPushed one position)
keeps-push capacity port one position every items all room kept at =
    let new = tally one.shares (one.pushed ++ position ∷ []) one.popped (one.known ++ position ∷ []) in
    let later = set all port new in
    let share : 0 < one.shares = omega (arith, every) in (
      new,
      record {
        shares = omega (arith, shares_after all port one new at, kept.shares);
        balanced = balanced_after items (items ++ position ∷ []) all port one new at kept (λ measure. omega (arith, sum_by_push measure one.pushed position, sum_by_push measure items position));
        sound = each-set (IsSound later) all port new
            (record {
              idle = not_idle new share;
              known = λ _ measure. omega (
                arith,
                pushed_after measure all port one new at,
                (kept.sound port one at).known share measure,
                sum_by_push measure one.pushed position,
                sum_by_push measure one.known position,
              );
            })
            (λ other two apart there. record {
              idle = (kept.sound other two there).idle;
              known = λ share. absurd (omega (arith, share, others_none items all port one kept at every other two there apart));
            });
      },
      refl,
    )

pub keeps-pop : (port : ℕ) (one : Tally) → 0 < one.shares → Pops KeepsPositions port one (HasPopped one)
keeps-pop port one share position items all kept at =
    let new = tally one.shares one.pushed (one.popped ++ position ∷ []) one.known in
    let later = set all port new in
    let same : (measure : ℕ → ℕ) → pushed_by_all measure later ≡ pushed_by_all measure all = λ measure. omega (arith, pushed_after measure all port one new at) in (
      new,
      record {
        shares = omega (arith, shares_after all port one new at, kept.shares);
        balanced = balanced_after (position ∷ items) items all port one new at kept (λ measure. omega (arith, sum_by-cons measure position items, sum_by_push measure one.popped position));
        sound = each-set (IsSound later) all port new (stays_sound all later same one new refl (not_idle new share) (λ _. share) (kept.sound port one at))
            (λ other two apart there. itself_sound all later same two (kept.sound other two there));
      },
      record {
        one_more = refl;
        within = λ measure. omega (
          arith,
          (kept.sound port one at).known share measure,
          kept.balanced measure,
          at-le-sum_by (λ x. sum_by measure x.popped) all port one at,
          sum_by-cons measure position items,
          sum_by_push measure one.popped position,
        );
      },
    )

pub keeps-fork : (port : ℕ) (one : Tally) → 1 < one.shares
    → Forks KeepsPositions port one (tally (one.shares - 1) one.pushed one.popped one.known) (tally 1 [] [] one.known)
keeps-fork port one more items all kept at =
    let left = tally (one.shares - 1) one.pushed one.popped one.known in
    let right = tally 1 [] [] one.known in
    let between = set all port left in
    let later = between ++ right ∷ [] in
    let share : 0 < one.shares = omega (arith, more) in
    let kept_share : 0 < left.shares = omega (arith, more) in
    let same : (measure : ℕ → ℕ) → pushed_by_all measure later ≡ pushed_by_all measure all = λ measure.
    omega (arith, pushed_after measure all port one left at, sum_by_push (λ x. sum_by measure x.pushed) between right) in
    record {
      shares = omega (arith, shares_after all port one left at, sum_by_push (λ x. x.shares) between right, kept.shares, more);
      balanced = λ measure. omega (
        arith,
        pushed_after measure all port one left at,
        popped_after measure all port one left at,
        sum_by_push (λ x. sum_by measure x.pushed) between right,
        sum_by_push (λ x. sum_by measure x.popped) between right,
        kept.balanced measure,
      );
      sound = each-push (IsSound later) between right (stays_sound all later same one right refl (λ _. (refl, refl)) (λ _. share) (kept.sound port one at))
          (each-set (IsSound later) all port left (stays_sound all later same one left refl (not_idle left kept_share) (λ _. share) (kept.sound port one at))
          (λ other two apart there. itself_sound all later same two (kept.sound other two there)));
    }

pub keeps-merge : (port : ℕ) (one : Tally) (other : ℕ) (two : Tally) → 0 < one.shares
    → Merges KeepsPositions port one other two (tally (one.shares + two.shares) (one.pushed ++ two.pushed) (one.popped ++ two.popped) one.known) (tally 0 [] [] [])
keeps-merge port one other two share items all kept at apart there =
    let both = tally (one.shares + two.shares) (one.pushed ++ two.pushed) (one.popped ++ two.popped) one.known in
    let spent = tally 0 [] [] [] in
    let between = set all port both in
    let later = set between other spent in
    let both_share : 0 < both.shares = omega (arith, share) in
    let same : (measure : ℕ → ℕ) → pushed_by_all measure later ≡ pushed_by_all measure all = λ measure.
    omega (arith, pushed_after measure all port one both at, pushed_after measure between other two spent there, sum_by-append measure one.pushed two.pushed) in
    record {
      shares = omega (arith, shares_after all port one both at, shares_after between other two spent there, kept.shares);
      balanced = λ measure. omega (
        arith,
        pushed_after measure all port one both at,
        pushed_after measure between other two spent there,
        popped_after measure all port one both at,
        popped_after measure between other two spent there,
        kept.balanced measure,
        sum_by-append measure one.pushed two.pushed,
        sum_by-append measure one.popped two.popped,
      );
      sound = each-set (IsSound later) between other spent (record { idle = λ _. (refl, refl); known = λ share. absurd (omega (arith, share)) })
          (λ j x _ here. each-set (IsSound later) all port both (stays_sound all later same one both refl (not_idle both both_share) (λ _. share) (kept.sound port one at))
          (λ i y _ at_i. itself_sound all later same y (kept.sound i y at_i)) j x here);
    }

pub keeps-first : KeepsPositions [] (tally all_shares [] [] [] ∷ [])
keeps-first = record { shares = refl; balanced = λ measure. refl; sound = each-push (IsSound first) [] (tally all_shares [] [] []) first_sound (λ port one at. absurd (some-ne-none one (sym at))) }
  where
    first : List Tally
    first = tally all_shares [] [] [] ∷ []

    first_sound : IsSound first (tally all_shares [] [] [])
    first_sound = record { idle = λ _. (refl, refl); known = λ _ measure. refl }

-- a queue that is full of what the pass with every share has pushed has no room for fewer positions than it holds
pub never_full : (capacity : ℕ) (one : Tally) → Held capacity (Settles one) → one.shares ≡ all_shares → one.popped ≡ [] → length one.pushed < capacity → ⊥
never_full capacity one held every none few =
    let count : ℕ → ℕ = λ _. 1 in
    omega (arith, held.2 every count, ap (sum_by count) none, sum_by-one one.pushed, sum_by-one held.0, held.1, few)

-- once the queue was empty, the pass with every share has popped what was pushed
pub all_popped : (one : Tally) → Held 0 (Settles one) → one.shares ≡ all_shares → (measure : ℕ → ℕ) → sum_by measure one.popped ≡ sum_by measure one.pushed
all_popped one held every measure = omega (arith, held.2 every measure, ap (sum_by measure) (nil_from_length held.0 held.1))
