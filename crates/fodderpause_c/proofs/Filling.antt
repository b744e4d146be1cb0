-- Boxes are put behind handles, the last first.
use Rattle.std.proofs.Common.{◌≡◌, ℕ, ◌+◌, Bool, true, not, ◌&&◌, List, [], ◌∷◌, ◌++◌, map, length, replicate, set, slice_index_or, Option, Some, None, is_some, refl, sym, ap, ◌∙◌, append_assoc}
use Rattle.std.specs.declared.alloc.Global.{Global}
use Rattle.std.specs.declared.boxed.Box.{Box}
use Rattle.std.proofs.lemmas.List.{append-nil, length-append, length-replicate, map-set, replicate-append-replicate, set_at}
use Rattle.std.proofs.Math.ListN.{get_or-map}
use Rattle.std.proofs.Math.Seq.{get_or-append_seam}
use Rattle.fodderpause_c.specs.Opening.{are_bare, behind, boxed_in}
use Rattle.fodderpause_c.specs.declared.handle.Handle.{Handle}
use Rattle.fodderpause_c.specs.declared.party.Party.{Party}

-- where the first of some tests is that nothing is there, and all come out true, nothing is
none_in_front : (party : Option Party) (others : Bool) → (not (is_some party) && others) ≡ true → (party ≡ None) × (others ≡ true)
none_in_front None others bare = (refl, bare)
none_in_front (Some party) others bare = absurd (cc bare)

-- there is nothing behind bare handles
pub bare_have_none : (handles : List Handle) → are_bare handles ≡ true → behind handles ≡ replicate (length handles) None
bare_have_none [] bare = refl
bare_have_none (handle ∷ handles) bare =
    let front = none_in_front handle.pointer.party (are_bare handles) bare in
    ap (λ (p : Option Party). p ∷ behind handles) front.0 ∙ ap (λ (l : List (Option Party)). None ∷ l) (bare_have_none handles front.1)

-- of these boxes the last ones are behind the last handles, and these are left
pub record IsFilling (initial boxes : List (Box Party Global)) (handles : List Handle) : Type 0 where
  pub done : List (Box Party Global)
  pub parted : initial ≡ boxes ++ done
  pub behind_is : behind handles ≡ replicate (length boxes) None ++ map Some (boxed_in done)

-- at first all are
pub is_filling_at_first : (boxes : List (Box Party Global)) (handles : List Handle) → length boxes ≡ length handles → are_bare handles ≡ true → IsFilling boxes boxes handles
is_filling_at_first boxes handles same bare = record {
  done = [];
  parted = sym (append-nil boxes);
  behind_is = bare_have_none handles bare ∙ ap (λ n. replicate n None) (sym same) ∙ sym (append-nil (replicate (length boxes) None));
}

-- where one more is left, the handle of the last has nothing
has_place : (initial boxes rest : List (Box Party Global)) (b : Box Party Global) (handles : List Handle) → boxes ≡ rest ++ b ∷ [] → (is : IsFilling initial boxes handles)
    → behind handles ≡ replicate (length rest) None ++ None ∷ map Some (boxed_in is.done)
has_place initial boxes rest b handles last is =
    is.behind_is
    ∙ ap (λ n. replicate n None ++ map Some (boxed_in is.done)) (ap length last ∙ length-append rest (b ∷ []))
    ∙ ap (λ (l : List (Option Party)). l ++ map Some (boxed_in is.done)) (sym (replicate-append-replicate (length rest) 1 None))
    ∙ append_assoc (replicate (length rest) None) (None ∷ []) (map Some (boxed_in is.done))

-- so there is nothing behind it
pub place_is_bare : (initial boxes rest : List (Box Party Global)) (b : Box Party Global) (handles : List Handle) (d : Handle) (n : ℕ) → boxes ≡ rest ++ b ∷ [] → n ≡ length rest → IsFilling initial boxes handles
    → (slice_index_or handles n d).pointer.party ≡ None
place_is_bare initial boxes rest b handles d n last place is =
    let ys = map Some (boxed_in is.done) in
    sym (get_or-map (λ (handle : Handle). handle.pointer.party) handles n d)
    ∙ ap (λ (l : List (Option Party)). slice_index_or l n d.pointer.party) (has_place initial boxes rest b handles last is)
    ∙ ap (λ k. slice_index_or (replicate (length rest) None ++ None ∷ ys) k d.pointer.party) (place ∙ sym (length-replicate (length rest) None))
    ∙ get_or-append_seam (replicate (length rest) None) None ys d.pointer.party

-- it gets the box
pub is_filling_after_next : (initial boxes rest : List (Box Party Global)) (b : Box Party Global) (handles now : List Handle) (put : Handle) → boxes ≡ rest ++ b ∷ [] → put.pointer.party ≡ Some b.value → now ≡ set handles (length rest) put
    → IsFilling initial boxes handles → IsFilling initial rest now
is_filling_after_next initial boxes rest b handles now put last its now_is is = record {
  done = b ∷ is.done;
  parted = is.parted ∙ ap (λ (l : List (Box Party Global)). l ++ is.done) last ∙ append_assoc rest (b ∷ []) is.done;
  behind_is = ap behind now_is
      ∙ map-set (λ (handle : Handle). handle.pointer.party) handles (length rest) put
      ∙ ap (λ (party : Option Party). set (behind handles) (length rest) party) its
      ∙ ap (λ (l : List (Option Party)). set l (length rest) (Some b.value)) (has_place initial boxes rest b handles last is)
      ∙ set_at (replicate (length rest) None) None (map Some (boxed_in is.done)) (Some b.value) (length rest) (length-replicate (length rest) None);
}

-- and in the end all are behind theirs
pub is_filled : (initial boxes : List (Box Party Global)) (handles : List Handle) → boxes ≡ [] → IsFilling initial boxes handles → behind handles ≡ map Some (boxed_in initial)
is_filled initial boxes handles none is =
    is.behind_is ∙ ap (λ (l : List (Box Party Global)). replicate (length l) None ++ map Some (boxed_in is.done)) none
    ∙ ap (λ (l : List (Box Party Global)). map Some (boxed_in l)) (sym (is.parted ∙ ap (λ (l : List (Box Party Global)). l ++ is.done) none))
