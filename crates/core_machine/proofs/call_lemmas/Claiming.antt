-- What a call that makes an object claims and gives back, group by group, and what it tells of that.
use Rattle.std.proofs.Common.{◌≡◌, ◌≢◌, ℕ, ◌+◌, ◌/◌, ◌<◌, ◌≤◌, ◌⊎◌, List, [], ◌∷◌, ◌++◌, length, sum, refl, sym, ap, subst, ◌∙◌, inl, inr, append_assoc, append-nil, length-append, eq-eqb, arith}
use Rattle.std.specs.List.{All}
use Rattle.std.proofs.lemmas.Bool.{ne_eqb}
use Rattle.std.proofs.lemmas.Bool.Decides.{eqb_tells}
use Rattle.std.proofs.lemmas.List.{map-append, append_cancel_right, nil_from_length}
use Rattle.std.proofs.lemmas.List.Elements.{filter-append, All-nil, All-cons, All-head, All-tail}
use Rattle.std.proofs.lemmas.List.Filters.{length-filter_both}
use Rattle.std.proofs.lemmas.List.Sums.{sum_by-cons}
use Rattle.core_machine.proofs.Terms.{Entry, Takes, GivesBack, in_group, out_of_group, inside_group, outside_group, clear_in, first_group_of}
use Rattle.heap_model.specs.declared.id.Id.{Id}
use Rattle.heap_model.specs.declared.reply.Reply.TheVariants as replies
use Rattle.heap_model.specs.calls.SeatCalls.{takes_of, gives_of, IsGroupCount, ClaimsBefore}
use Rattle.heap_model.proofs.account_lemmas.Snoc.{equal_snocs_equal_last}
use Rattle.core_machine.specs.calls.Claims.{AreGroupsOf, HasTaken, GivesBackAll}
use Rattle.core_machine.specs.seat.MakingMoves.{takes_some}
use Rattle.core_machine.proofs.table_lemmas.Clear.{length-clear_among}
use Rattle.core_machine.proofs.table_lemmas.Owned.{clear_is_of_group}
use Rattle.core_machine.proofs.call_lemmas.Restoring.{inside_own_group_is_all, inside_other_group_is_empty, inside_group_stays_without_other}

all_groups : (counts hand : List ℕ) → AreGroupsOf counts hand → All IsGroupCount counts
all_groups [] hand is = All-nil IsGroupCount
all_groups (count ∷ counts) hand is = All-cons IsGroupCount count counts is.0 (all_groups counts (outside_group (first_group_of hand) hand) is.2)

pub group_counts_are_length : (counts hand : List ℕ) → AreGroupsOf counts hand → sum counts ≡ length hand
group_counts_are_length [] hand is = sym (ap length is)
group_counts_are_length (count ∷ counts) hand is =
    let group = first_group_of hand in
    let both = length-filter_both (in_group group) (out_of_group group) (λ f. refl) hand in
    omega (arith, sum_by-cons (λ n. n) count counts, group_counts_are_length counts (outside_group group hand) is.2, is.1)

-- all fragments of a group are outside of another, and none is outside of it
out_all : (g k : ℕ) (fragments : List ℕ) → g ≢ k → All (λ f. f / 16 ≡ g) fragments → outside_group k fragments ≡ fragments
out_all g k [] other each = refl
out_all g k (f ∷ more) other each =
    rw (ne_eqb (f / 16) k (λ e. other (sym (All-head (λ f. f / 16 ≡ g) f more each) ∙ e))) (ap (λ (l : List ℕ). f ∷ l) (out_all g k more other (All-tail (λ f. f / 16 ≡ g) f more each)))

out_none : (g : ℕ) (fragments : List ℕ) → All (λ f. f / 16 ≡ g) fragments → outside_group g fragments ≡ []
out_none g fragments each =
    let both = length-filter_both (in_group g) (out_of_group g) (λ f. refl) fragments in
    nil_from_length (outside_group g fragments) (omega (arith, ap (length {A = ℕ}) (inside_own_group_is_all g fragments each)))

-- the first fragment isn't of a group that a list has nothing of
first_of_none : (g f : ℕ) (more : List ℕ) → inside_group g (f ∷ more) ≡ [] → f / 16 ≢ g
first_of_none g f more none e = no_first (rw (eq-eqb (f / 16) g e) at none)
  where
    no_first : f ∷ inside_group g more ≡ [] → ⊥
    no_first h = cc

-- the groups of a hand to which a group is added that it had nothing of
groups_more : (counts hand got : List ℕ) (g : ℕ) → AreGroupsOf counts hand → inside_group g hand ≡ [] → All (λ f. f / 16 ≡ g) got → IsGroupCount (length got)
    → AreGroupsOf (counts ++ length got ∷ []) (hand ++ got)
groups_more [] hand got g is apart of_group some =
    let first : first_group_of got ≡ g = of_group 0 0 some.0 in
    rw (is, first, inside_own_group_is_all g got of_group, out_none g got of_group) (some, refl, refl)
groups_more (count ∷ counts) [] got g is apart of_group some = absurd (omega (arith, is.0.0, is.1))
groups_more (count ∷ counts) (f ∷ more) got g is apart of_group some =
    let hand = f ∷ more in
    let group = f / 16 in
    let other : g ≢ group = λ e. first_of_none g f more apart (sym e) in
    let ins : inside_group group (hand ++ got) ≡ inside_group group hand = filter-append (in_group group) hand got ∙ ap (λ (l : List ℕ). inside_group group hand ++ l) (inside_other_group_is_empty g group got other of_group) ∙ append-nil (inside_group group hand) in
    let outs : outside_group group (hand ++ got) ≡ outside_group group hand ++ got = filter-append (out_of_group group) hand got ∙ ap (λ (l : List ℕ). outside_group group hand ++ l) (out_all g group got other of_group) in
    (is.0, ap (length {A = ℕ}) ins ∙ is.1, rw outs (groups_more counts (outside_group group hand) got g is.2 (inside_group_stays_without_other group g hand other ∙ apart) of_group some))

-- nothing was claimed yet
pub has_taken_none : (number unborn need : ℕ) → unborn ≤ 15 → HasTaken number unborn need [] []
has_taken_none number unborn need small = record {
  counts = [];
  groups = refl;
  shown = refl;
  needed = λ earlier last e. absurd (no_last earlier last e);
  little_left = omega arith;
}
  where
    no_last : (earlier : List ℕ) (last : ℕ) → [] ≡ earlier ++ last ∷ [] → ⊥
    no_last [] last e = cc
    no_last (count ∷ more) last e = cc

same_front : (xs ys : List ℕ) (x y : ℕ) → xs ++ x ∷ [] ≡ ys ++ y ∷ [] → xs ≡ ys
same_front xs ys x y e = append_cancel_right xs ys (x ∷ []) (e ∙ ap (λ (n : ℕ). ys ++ n ∷ []) (sym (equal_snocs_equal_last xs ys x y e)))

-- a group's fragments were claimed, of which the hand had none unless there were none
pub has_taken_one_group_more : (number unborn need : ℕ) (hand : List ℕ) (told : List Entry) (group word : ℕ) → HasTaken number unborn need hand told → unborn + length hand < need
    → (inside_group group hand ≡ []) ⊎ (clear_in group word ≡ [])
    → HasTaken number unborn need (hand ++ clear_in group word) (told ++ takes_some number (length (clear_in group word)))
has_taken_one_group_more number unborn need hand told group word taken few apart =
    let got = clear_in group word in
    elim (eqb_tells (length got) 0) as (λ _. HasTaken number unborn need (hand ++ got) (told ++ takes_some number (length got))) [
      | inl none ↦ rw (nil_from_length got none.1) (simp append-nil taken)
      | inr some ↦
          let nothing : inside_group group hand ≡ [] = elim apart [ inl empty ↦ empty | inr none ↦ absurd (some.1 (ap (length {A = ℕ}) none)) ] in
          let few_got = length-clear_among group word 16 in
          let counts = taken.counts in
          rw some.0 (record {
            counts = counts ++ length got ∷ [];
            groups = groups_more counts hand got group taken.groups nothing (clear_is_of_group group word) (omega (arith, some.1), few_got);
            shown = ap (λ (l : List Entry). l ++ Takes number (length got) ∷ []) taken.shown ∙ sym (map-append (Takes number) counts (length got ∷ []));
            needed = λ earlier last e. subst (λ (l : List ℕ). unborn + sum l < need) (same_front counts earlier (length got) last e) (omega (arith, group_counts_are_length counts hand taken.groups));
            little_left = omega (arith, length-append hand got);
          })
    ]

-- enough was claimed
pub claims_before_made : (number unborn need : ℕ) (hand : List ℕ) (told : List Entry) (id : Id) → HasTaken number unborn need hand told → need ≤ unborn + length hand
    → ClaimsBefore number unborn need (replies.Made id) told
claims_before_made number unborn need hand told id taken enough =
    let all = group_counts_are_length taken.counts hand taken.groups in (
      taken.counts,
      record {
        of_groups = all_groups taken.counts hand taken.groups;
        needed = taken.needed;
        enough = omega arith;
        little_left = omega (arith, taken.little_left);
      },
      taken.shown,
    )

-- nothing was given back yet
pub gives_back_none : (number unborn need : ℕ) (hand : List ℕ) (told : List Entry) → HasTaken number unborn need hand told → GivesBackAll number 0 hand told
gives_back_none number unborn need hand told taken = record {
  counts = taken.counts;
  of_groups = all_groups taken.counts hand taken.groups;
  all = omega (arith, group_counts_are_length taken.counts hand taken.groups);
  left = taken.counts;
  groups = taken.groups;
  shown = ap (λ (l : List Entry). l ++ gives_of number taken.counts) taken.shown;
}

-- the first group's fragments were given back
pub gives_back_one_group_more : (number given : ℕ) (hand : List ℕ) (told : List Entry) → GivesBackAll number given hand told → 0 < length hand
    → let group_hand = inside_group (first_group_of hand) hand in
    GivesBackAll number (given + length group_hand) (outside_group (first_group_of hand) hand) (told ++ GivesBack number (length group_hand) ∷ [])
gives_back_one_group_more number given hand told gives some = by gives.left gives.groups gives.shown
  where
    by : (left : List ℕ) → AreGroupsOf left hand → told ++ gives_of number left ≡ takes_of number gives.counts ++ gives_of number gives.counts
        → let group_hand = inside_group (first_group_of hand) hand in
        GivesBackAll number (given + length group_hand) (outside_group (first_group_of hand) hand) (told ++ GivesBack number (length group_hand) ∷ [])
    by [] groups shown = absurd (omega (arith, ap (length {A = ℕ}) groups))
    by (count ∷ left) groups shown =
        let group = first_group_of hand in
        let both = length-filter_both (in_group group) (out_of_group group) (λ f. refl) hand in
        record {
          counts = gives.counts;
          of_groups = gives.of_groups;
          all = omega (arith, gives.all);
          left = left;
          groups = groups.2;
          shown = append_assoc told (GivesBack number (length (inside_group group hand)) ∷ []) (gives_of number left) ∙ ap (λ (n : ℕ). told ++ GivesBack number n ∷ gives_of number left) groups.1 ∙ shown;
        }

-- everything was given back
pub claims_before_refusal : (number unborn need given : ℕ) (told : List Entry) → GivesBackAll number given [] told → unborn + given < need
    → ClaimsBefore number unborn need (replies.Full need (unborn + given)) told
claims_before_refusal number unborn need given told gives few =
    (gives.counts, refl, record { of_groups = gives.of_groups; all_found = omega (arith, gives.all); too_few = few }, whole gives.left gives.groups gives.shown)
  where
    whole : (left : List ℕ) → AreGroupsOf left [] → told ++ gives_of number left ≡ takes_of number gives.counts ++ gives_of number gives.counts
        → told ≡ takes_of number gives.counts ++ gives_of number gives.counts
    whole [] groups shown = sym (append-nil told) ∙ shown
    whole (count ∷ left) groups shown = absurd (omega (arith, groups.0.0, groups.1))
