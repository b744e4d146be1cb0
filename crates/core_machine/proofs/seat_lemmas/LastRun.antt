-- The last fragments of a hand, as far as they are of one group.
use Rattle.std.proofs.Common.{◌≡◌, ℕ, ◌+◌, ◌-◌, ◌/◌, ◌<◌, ◌≤◌, true, false, List, ◌++◌, length, get_or, drop, reverse, refl, sym, ap, ◌∙◌, inl, inr, eq-eqb, length-take, length-drop, arith}
use Rattle.std.specs.List.{All, list_all}
use Rattle.std.proofs.lemmas.Bool.{eqb-true}
use Rattle.std.proofs.lemmas.Bool.Decides.{leb_tells}
use Rattle.std.proofs.lemmas.List.{length-reverse, take-append-drop, get_or-drop, get_or-reverse}
use Rattle.std.proofs.lemmas.List.Elements.{All-from_get_or}
use Rattle.std.proofs.lemmas.List.Sums.{prefix_len_passes, prefix_len_stops, suffix_len-le-length, suffix_len_is, AllPass-from_list_all, list_all-from_AllPass}
use Rattle.core_machine.proofs.Terms.{in_group, last_group_of, last_run, before_run, run_of}

module _ (fragments : List ℕ) where
  -- they are no more than there are
  pub last_run-le : last_run fragments ≤ length fragments
  last_run-le = suffix_len-le-length (in_group (last_group_of fragments)) fragments

  -- they and those before them are all
  pub before_run_and_run_make_all : before_run fragments ++ run_of fragments ≡ fragments
  before_run_and_run_make_all = take-append-drop (length fragments - last_run fragments) fragments

  -- one of them, by its position among all
  of_run : (i : ℕ) → length fragments - last_run fragments ≤ i → i < length fragments → in_group (last_group_of fragments) (get_or fragments i 0) ≡ true
  of_run i past within =
      let position : length fragments - 1 - (length fragments - 1 - i) ≡ i = omega arith in
      let few = last_run-le in
      ap (λ (k : ℕ). in_group (last_group_of fragments) (get_or fragments k 0)) (sym position)
      ∙ ap (in_group (last_group_of fragments)) (sym (get_or-reverse fragments (length fragments - 1 - i) 0 (omega arith)))
      ∙ prefix_len_passes (in_group (last_group_of fragments)) (reverse fragments) (length fragments - 1 - i) 0 (omega arith)

  -- all of them are of the last one's group
  pub run_is_of_last_group : All (λ fragment. fragment / 16 ≡ last_group_of fragments) (run_of fragments)
  run_is_of_last_group =
      let few = last_run-le in
      All-from_get_or (λ fragment. fragment / 16 ≡ last_group_of fragments) (run_of fragments) 0 (λ i within.
      let long = length-drop (length fragments - last_run fragments) fragments in
      ap (λ (f : ℕ). f / 16) (get_or-drop (length fragments - last_run fragments) fragments i 0)
      ∙ eqb-true _ _ (of_run (length fragments - last_run fragments + i) (omega arith) (omega (arith, within))))

  -- the last one is among them
  pub some_run : 0 < length fragments → 0 < last_run fragments
  some_run some =
      let group = last_group_of fragments in
      let long = length-reverse fragments in
      let position : length fragments - 1 - 0 ≡ length fragments - 1 = omega arith in
      let last : in_group group (get_or (reverse fragments) 0 0) ≡ true =
      ap (in_group group) (get_or-reverse fragments 0 0 some ∙ ap (λ (k : ℕ). get_or fragments k 0) position) ∙ eq-eqb group group refl in
      elim (leb_tells 1 (last_run fragments)) as (λ _. 0 < last_run fragments) [
        | inl yes_ ↦ yes_.1
        | inr no_ ↦
            let none : last_run fragments ≡ 0 = omega (arith, no_.1) in
            let stops = prefix_len_stops (in_group group) (reverse fragments) 0 (omega (arith, none)) in
            absurd (differ (sym last ∙ ap (λ (k : ℕ). in_group group (get_or (reverse fragments) k 0)) (sym none) ∙ stops))
      ]
    where
      differ : true ≡ false → ⊥
      differ e = cc

  -- fewer are before them than there are
  pub before_run_is_shorter : 0 < length fragments → length (before_run fragments) < length fragments
  before_run_is_shorter some =
      let run = some_run some in
      let long = length-take (length fragments - last_run fragments) fragments in
      omega arith

  -- where all are of one group, they are all
  pub last_run-whole : list_all (in_group (last_group_of fragments)) fragments ≡ true → last_run fragments ≡ length fragments
  last_run-whole all =
      let each = AllPass-from_list_all (in_group (last_group_of fragments)) fragments all in
      let whole = suffix_len_is (in_group (last_group_of fragments)) fragments 0 0 (omega arith) (λ k least within. each k 0 within) (λ some. absurd (omega (arith, some))) in
      omega (arith, whole)

  pub run_is_whole_hand : list_all (in_group (last_group_of fragments)) fragments ≡ true → run_of fragments ≡ fragments
  run_is_whole_hand all =
      let none : length fragments - last_run fragments ≡ 0 = omega (arith, last_run-whole all) in
      ap (λ (n : ℕ). drop n fragments) none

  -- where they aren't, some are before them
  pub before_run_is_some : list_all (in_group (last_group_of fragments)) fragments ≡ false → 0 < length (before_run fragments)
  before_run_is_some more =
      let long = length-take (length fragments - last_run fragments) fragments in
      elim (leb_tells (length fragments) (last_run fragments)) as (λ _. 0 < length (before_run fragments)) [
        | inl all ↦
            absurd (differ (sym (list_all-from_AllPass (in_group (last_group_of fragments)) fragments (each all.1)) ∙ more))
        | inr left ↦ omega (arith, left.1)
      ]
    where
      differ : true ≡ false → ⊥
      differ e = cc

      each : length fragments ≤ last_run fragments → All (λ f. in_group (last_group_of fragments) f ≡ true) fragments
      each all = All-from_get_or (λ f. in_group (last_group_of fragments) f ≡ true) fragments 0 (λ i within. of_run i (omega (arith, all)) within)
