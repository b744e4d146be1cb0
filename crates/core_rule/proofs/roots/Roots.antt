-- The objects of a seat's registers: where marking begins each of them is marked before the seat answers.
use Rattle.std.proofs.Common.{◌≡◌, ℕ, zero, suc, ◌+◌, ◌%◌, ◌<◌, ◌≤◌, nat_lt, List, [], ◌∷◌, length, get_or, slice_index_or, Option, Some, None, IfSome, inl, inr, refl, sym, ap, ◌∙◌, subst, arith}
use Rattle.std.proofs.lemmas.Bool.{cond_both, cases_lt, eq-eqb, ltb-false}
use Rattle.core_rule.proofs.Terms.{cycle_phases, marking, Register, register_in, register_head, heads_of, Seat, Colour, IsMarked, IsRootMarked, RootsStand, objects_before}
use Rattle.core_machine.specs.declared.point.Polling.TheVariants.{Shading, Answering}
use Rattle.core_machine.specs.declared.seat.register.Register.TheVariants as registers
use Rattle.core_machine.specs.seat.Handshake.{roots, answer_point}
use Rattle.core_rule.proofs.colours.ShadeColours.{with_mark, mark_marks_fragment, mark_keeps_marked}
use Rattle.core_rule.proofs.lists.Options.{if_some_goes_on}

-- a register's object stands among those of all registers, behind those of the registers before it
pub head_there : (held : List Register) (r head : ℕ) → register_head (register_in held r) ≡ Some head
    → (objects_before held r < length (heads_of held)) × (get_or (heads_of held) (objects_before held r) 0 ≡ head)
head_there [] r head is = cc
head_there (registers.Nil ∷ held) zero head is = cc
head_there (registers.Nil ∷ held) (suc r) head is = head_there held r head is
head_there (registers.Number n ∷ held) zero head is = cc
head_there (registers.Number n ∷ held) (suc r) head is = head_there held r head is
head_there (registers.Object first id ∷ held) zero head is = (omega arith, cc)
head_there (registers.Object first id ∷ held) (suc r) head is = let there = head_there held r head is in (omega (arith, there.0), there.1)

-- the objects of the registers with fewer than n objects before them are marked
abbrev pub FrontMarked : (ℕ → Colour) → List Register → ℕ → Type 0
FrontMarked colour held n = (r : ℕ) → objects_before held r < n → IsRootMarked colour held r

-- a fact of a register's object, where it holds one
at_root : (P : ℕ → Type 0) (held : List Register) (r : ℕ) → ((head : ℕ) → register_head (register_in held r) ≡ Some head → P head) → IfSome (register_head (register_in held r)) P
at_root P held r each = by (register_head (register_in held r)) refl
  where
    by : (o : Option ℕ) → register_head (register_in held r) ≡ o → IfSome o P
    by None is = tt
    by (Some head) is = each head is

module _ (colour : ℕ → Colour) (held : List Register) (n : ℕ) (front : FrontMarked colour held n) where
  -- so each register's is, where there are no more
  all_marked : length (heads_of held) ≤ n → (r : ℕ) → IsRootMarked colour held r
  all_marked all r = at_root (IsMarked colour) held r (λ head is.
      subst (λ o. IfSome o (IsMarked colour)) is (front r (omega (arith, (head_there held r head is).0, all))))

  -- and one more is, once it was shaded
  pub front_marked_after_shade : FrontMarked (with_mark colour (slice_index_or (heads_of held) n 0)) held (n + 1)
  front_marked_after_shade r less = elim (cases_lt (objects_before held r) n) [
    | inl before ↦ if_some_goes_on (IsMarked colour) (IsMarked (with_mark colour (slice_index_or (heads_of held) n 0))) (mark_keeps_marked colour (slice_index_or (heads_of held) n 0)) _ (front r before)
    | inr past ↦
        let same : objects_before held r ≡ n = omega (arith, less, past) in
        at_root (IsMarked (with_mark colour (slice_index_or (heads_of held) n 0))) held r (λ head is.
        subst (IsMarked (with_mark colour (slice_index_or (heads_of held) n 0))) (ap (λ m. get_or (heads_of held) m 0) (sym same) ∙ (head_there held r head is).1)
        (mark_marks_fragment colour (slice_index_or (heads_of held) n 0)))
  ]

-- where marking begins the roots are all registers' objects
pub roots_are_register_heads : (seat : Seat) → seat.asked % cycle_phases ≡ marking → roots seat ≡ heads_of seat.registers
roots_are_register_heads seat begins = rw (eq-eqb (seat.asked % cycle_phases) marking begins) refl

-- so whoever answers then has marked each of them
pub roots_stand_at_answer : (colour : ℕ → Colour) (seat : Seat) → seat.asked % cycle_phases ≡ marking → FrontMarked colour seat.registers seat.shaded → RootsStand colour seat (answer_point seat)
roots_stand_at_answer colour seat begins front =
    cond_both (nat_lt seat.shaded (length (roots seat))) Shading Answering (RootsStand colour seat)
    (λ more. front)
    (λ done. all_marked colour seat.registers seat.shaded front (omega (arith, ltb-false seat.shaded (length (roots seat)) done, ap length (roots_are_register_heads seat begins))))
