-- Kinds of gets that are tied in their order are equal.
use Rattle.std.proofs.Common.{◌≡◌, ℕ, ◌<◌, true, false, refl, sym, ap, ◌∙◌, subst, arith}
use Rattle.std.specs.declared.cmp.Ordering.{Ordering}
use Rattle.std.specs.declared.cmp.Ordering.TheVariants.{Less, Equal, Greater}
use Rattle.std.specs.Ordering.{nat_cmp, ordering_then, is_eq, MatchOrdering}
use Rattle.std.proofs.lemmas.Cmp.{ranked}
use Rattle.heap_model.specs.declared.id.Id.{Id}
use Rattle.heap_model.specs.declared.id.Id.TheVariants.{Board, Made}
use Rattle.log_merge.specs.declared.merging.pending_gets.PendingGet.{PendingGet}
use Rattle.log_merge.specs.PendingGets.{kind_order}

-- numbers that are tied
tied_numbers : (m n : ℕ) → nat_cmp m n ≡ Equal → m ≡ n
tied_numbers m n tied = subst (λ o. MatchOrdering o (m < n) (m ≡ n) (n < m)) tied (ranked m n (nat_cmp m n) refl)

-- both of two orders
tied_both : (one other : Ordering) → ordering_then one other ≡ Equal → (one ≡ Equal) × (other ≡ Equal)
tied_both Less other tied = absurd cc
tied_both Equal other tied = (refl, tied)
tied_both Greater other tied = absurd cc

tied_parts : (a b : Id) (i j s t : ℕ) → kind_order (record { object = a; index = i; stamp = s }) (record { object = b; index = j; stamp = t }) ≡ Equal → (a ≡ b) × (i ≡ j) × (s ≡ t)
tied_parts Board Board i j s t tied = (let rest = tied_both (nat_cmp i j) (nat_cmp s t) tied in (refl, tied_numbers i j rest.0, tied_numbers s t rest.1))
tied_parts Board (Made q k) i j s t tied = absurd cc
tied_parts (Made p n) Board i j s t tied = absurd cc
tied_parts (Made p n) (Made q k) i j s t tied =
    let all = tied_both (ordering_then (nat_cmp p q) (nat_cmp n k)) (ordering_then (nat_cmp i j) (nat_cmp s t)) tied in
    let ids = tied_both (nat_cmp p q) (nat_cmp n k) all.0 in
    let rest = tied_both (nat_cmp i j) (nat_cmp s t) all.1 in
    (ap (λ x. Made x n) (tied_numbers p q ids.0) ∙ ap (λ x. Made q x) (tied_numbers n k ids.1), tied_numbers i j rest.0, tied_numbers s t rest.1)

pub tied_kinds_are_equal : (a b : PendingGet) → kind_order a b ≡ Equal → a ≡ b
tied_kinds_are_equal a b tied =
    let same = tied_parts a.object b.object a.index b.index a.stamp b.stamp tied in
    ap (λ x. let k : PendingGet = record { object = x; index = a.index; stamp = a.stamp } in k) same.0
    ∙ ap (λ x. let k : PendingGet = record { object = b.object; index = x; stamp = a.stamp } in k) same.1
    ∙ ap (λ x. let k : PendingGet = record { object = b.object; index = b.index; stamp = x } in k) same.2

not_tied : (o : Ordering) → (o ≡ Equal → ⊥) → is_eq o ≡ false
not_tied Less apart = refl
not_tied Equal apart = absurd (apart refl)
not_tied Greater apart = refl

-- kinds that aren't equal are not tied
pub unequal_kinds_are_untied : (a b : PendingGet) → (b ≡ a → ⊥) → is_eq (kind_order a b) ≡ false
unequal_kinds_are_untied a b apart = not_tied (kind_order a b) (λ tied. apart (sym (tied_kinds_are_equal a b tied)))

same_number : (n : ℕ) → nat_cmp n n ≡ Equal
same_number n = elim (nat_cmp n n) as (λ o. MatchOrdering o (n < n) (n ≡ n) (n < n) → o ≡ Equal) [
  | Less ↦ (λ below. absurd (omega (arith, below)))
  | Equal ↦ (λ is. refl)
  | Greater ↦ (λ below. absurd (omega (arith, below)))
] (ranked n n (nat_cmp n n) refl)

then_equal : (one other : Ordering) → one ≡ Equal → other ≡ Equal → ordering_then one other ≡ Equal
then_equal one other is too = ap (λ o. ordering_then o other) is ∙ too

same_parts : (a : Id) (i s : ℕ) → kind_order (record { object = a; index = i; stamp = s }) (record { object = a; index = i; stamp = s }) ≡ Equal
same_parts Board i s = then_equal (nat_cmp i i) (nat_cmp s s) (same_number i) (same_number s)
same_parts (Made p n) i s =
    then_equal (ordering_then (nat_cmp p p) (nat_cmp n n)) (ordering_then (nat_cmp i i) (nat_cmp s s)) (then_equal (nat_cmp p p) (nat_cmp n n) (same_number p) (same_number n)) (then_equal (nat_cmp i i) (nat_cmp s s) (same_number i) (same_number s))

-- a kind is tied with itself
pub kind_is_tied_with_itself : (a : PendingGet) → is_eq (kind_order a a) ≡ true
kind_is_tied_with_itself a = ap is_eq (same_parts a.object a.index a.stamp)
