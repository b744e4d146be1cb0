-- The machine values of a box that is taken apart.
use Rattle.std.proofs.Common.{◌≡◌, ℕ, List, [], ◌∷◌, ◌++◌, refl, subst}
use mathlib.Core.Bool.{true, ◌&&◌}
use lib.Dec.{T}
use seplogic.Ra.Ura.{Ura}
use mir.Syntax.{impl, tnil, dnil}
use mir.Raw.{raw as bare}
use mir.Val.{Val, vptr, vstruct, vcons, vnil, of_list, has_ty, WT}
use base.Logic.{never, fst∗}
use types.Logic.{Logic, sem}
use types.Kit.{Item, Goal, Seq, Step, step, ‵, ◌$◌, move, drop, fsplit, fjoin, fpick, fpack, feq_i, feq_l}
use denote.RattleType.{RattleType, Valss}
use denote.Builtin.{RawPtr}
use denote.Memory.{lone}
use denote.RawPtr.{Ptr, block_ptr, null_ptr, ptr_val, in_a_block}
use denote.Steps.{nothing}
use denote.Param.{layout}
use denote.Param.Laws.{Laws}
use denote.Struct.Struct.{within}
use denote.Struct.Owning.{shape}
use Rattle.std.specs.declared.alloc.Allocator.{Ghosts}
use Rattle.std.proofs.alloc.Calls.{Al, Fits, handle_tells}
use Rattle.std.specs.Box.Ownership.{box_owns}
use Rattle.std.proofs.ResultValues.{and_tt}
use Rattle.handle_box.specs.contracts.raw_box.RawBox as raw_box

-- pointer and allocator side by side
abbrev pub side_by_side : Val → Val → Val
side_by_side pointer allocator = vstruct (vcons pointer (vcons allocator vnil))

module _ (R Z : RattleType) (L : Laws Z) (g : Ghosts Z.Denot) where
  -- the box taken apart, as a type of the logic
  abbrev pub Row : RattleType
  Row = raw_box.the_row R Z g

  -- its allocator
  abbrev pub its_allocator : Al
  its_allocator = record { row = Z; laws = L; g = g; d = impl [] tnil dnil; drops = impl [] tnil dnil }

  -- a pointer beside a fitting allocator is of its type
  pub pair_fits : (block offset : ℕ) (h : Val) → Fits its_allocator h → T (has_ty (layout Z) h && true) × WT (side_by_side (vptr block offset) h)
  pair_fits block offset h fits = (and_tt (has_ty (layout Z) h) fits.0, (tt, (fits.1, tt)))

  module _ {M : Type 1} {𝓤 : Ura M} {𝓛 : Logic 𝓤} {K : Type 0} {Γ : List (Item 𝓤)} {G : Goal 𝓤 𝓛.H} where
    -- what is owned of it is the value in its block, with the right to free that, and the allocator
    pub parts_of : K → (d : Row.Denot) (vs : List Val)
        → ((block offset : ℕ) (h : Val) → d.at ≡ block_ptr block offset → vs ≡ side_by_side (vptr block offset) h ∷ [] → Fits its_allocator h
        → Seq K 𝓛 (‵ (box_owns (g.dealloc_token d.alloc) R (block_ptr block offset) d.value) ∷ ‵ (Z.own_val d.alloc (h ∷ [])) ∷ Γ) G)
        → Seq K 𝓛 (‵ (Row.own_val d vs) ∷ Γ) G
    parts_of t d vs go =
        fsplit t $ fpick t (λ each. fsplit t $ feq_l t (λ whole. fsplit t $ feq_l t (λ pointer. fsplit t $ handle_tells its_allocator t d.alloc each.1.0 (λ h allocator fits.
        move t (1 ∷ []) $ drop t $ move t (1 ∷ []) $ in_a_block t d.at (λ p. box_owns (g.dealloc_token d.alloc) R p d.value) (fst∗ 𝓤 (never 𝓤) (sem 𝓛 (g.dealloc_token d.alloc (bare (lone R.mir)) null_ptr))) (λ block offset at.
        let with_pointer = subst (λ (ps : List Val). vs ≡ vstruct (of_list (ps ++ (each.1.0 ++ []))) ∷ []) pointer whole in
        let with_allocator = subst (λ (hs : List Val). vs ≡ vstruct (of_list (ptr_val d.at ∷ (hs ++ []))) ∷ []) allocator with_pointer in
        go block offset h at (subst (λ (p : Ptr). vs ≡ vstruct (of_list (ptr_val p ∷ h ∷ [])) ∷ []) at with_allocator) fits)))))

    -- and these two are all of it
    pub whole_of : K → (block offset : ℕ) (h : Val) (a : Z.Denot) (x : R.Denot)
        → Step K 𝓛 (‵ (Row.own_val (record { at = block_ptr block offset; alloc = a; value = x }) (side_by_side (vptr block offset) h ∷ [])) ∷ Γ) G
        (‵ (box_owns (g.dealloc_token a) R (block_ptr block offset) x) ∷ ‵ (Z.own_val a (h ∷ [])) ∷ Γ) G
    whole_of t block offset h a x = step (λ rest. let pointer = vptr block offset in let both = side_by_side pointer h in
        nothing t $ move t (2 ∷ 0 ∷ []) $ fjoin t $ feq_i t (List Val) (pointer ∷ []) (pointer ∷ []) refl $ fjoin t $ feq_i t (List Val) (both ∷ []) (both ∷ []) refl $ fjoin t $
        fpack t (Valss (RawPtr ∷ Z ∷ [])) (within (shape (raw_box.the_type R Z g)) (block_ptr block offset, (a, tt)) (both ∷ [])) (pointer ∷ [], (h ∷ [], tt)) $ fjoin t $ rest)
