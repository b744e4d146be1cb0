-- Runs that end one before the other don't overlap, in whatever order they are listed.
use Rattle.std.proofs.Common.{◌≡◌, suc, ◌<◌, ◌⊎◌, List, [], ◌∷◌, ◌++◌, get_or, sym, subst, ⊎_elim, inl, inr, ◌∙◌, arith}
use Rattle.std.specs.Prelude.{All, Contains, IsPermutation}
use Rattle.std.specs.List.{AllPairs}
use Rattle.std.proofs.lemmas.Bool.{cases_order}
use Rattle.std.proofs.lemmas.List.Elements.{All-append, All-head, All-tail, at_from_Contains}
use Rattle.std.proofs.lemmas.List.Kept.{AllPairs-cons}
use Rattle.std.proofs.lemmas.List.Sorted.{Contains-permutation, IsPermutation-sym}
use Rattle.script_crew.specs.declared.job.JobRun.{JobRun}
use Rattle.script_crew.specs.Runs.{EndsBefore, AreApart}

module _ {X : Type 0} (R : X → X → Type 0) where
  -- a relation of each element to each later one holds of two lists together where it holds of each from the one to each of the other
  pub AllPairs-append : (xs ys : List X) → AllPairs R xs → AllPairs R ys → All (λ x. All (R x) ys) xs → AllPairs R (xs ++ ys)
  AllPairs-append [] ys first second across = second
  AllPairs-append (x ∷ xs) ys first second across =
      AllPairs-cons R x (xs ++ ys) (All-append (R x) xs ys (λ k d few. first 0 (suc k) d (omega arith) (omega (arith, few))) (All-head (λ z. All (R z) ys) x xs across))
      (AllPairs-append xs ys (λ i j d less few. first (suc i) (suc j) d (omega (arith, less)) (omega (arith, few))) second (All-tail (λ z. All (R z) ys) x xs across))

  -- two elements of such a list are one, or one of them is related to the other
  pub related_or_same : (xs : List X) → AllPairs R xs → (one other : X) → Contains xs one → Contains xs other → (one ≡ other) ⊎ (R one other ⊎ R other one)
  related_or_same xs pairs one other has has' =
      let a = at_from_Contains xs one has in
      let b = at_from_Contains xs other has' in
      ⊎_elim (λ (same : a.0 ≡ b.0). inl (sym (a.2 one) ∙ (subst (λ k. get_or xs a.0 one ≡ get_or xs k one) same (λ _. get_or xs a.0 one) ∙ b.2 one)))
      (λ (apart : (a.0 < b.0) ⊎ (b.0 < a.0)). inr (⊎_elim
      (λ (less : a.0 < b.0). inl (subst (λ x. R x other) (a.2 one) (subst (R (get_or xs a.0 one)) (b.2 one) (pairs a.0 b.0 one less b.1))))
      (λ (less : b.0 < a.0). inr (subst (λ x. R x one) (b.2 one) (subst (R (get_or xs b.0 one)) (a.2 one) (pairs b.0 a.0 one less a.1))))
      apart))
      (cases_order a.0 b.0)

-- runs that end one before the other don't overlap, also once they are put in another order
pub apart-from_in_turn : (runs sorted : List JobRun) → AllPairs EndsBefore runs → IsPermutation runs sorted → AreApart sorted
apart-from_in_turn runs sorted in_turn moved one other has has' differ =
    let back = IsPermutation-sym runs sorted moved in
    ⊎_elim (λ (same : one ≡ other). absurd (differ (λ i. (same i).job))) (λ apart. apart)
    (related_or_same EndsBefore runs in_turn one other (Contains-permutation sorted runs one back has) (Contains-permutation sorted runs other back has'))
