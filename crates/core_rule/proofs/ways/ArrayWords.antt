-- What the words of an array tell: its first fragment's, its spine's, and its cells'.
use Rattle.std.specs.Option.{option_map_or}
use Rattle.std.proofs.Common.{◌≡◌, ℕ, ◌+◌, ◌%◌, ◌^◌, ◌<◌, false, eqb, cond, inl, inr, Some, None, refl, ap, ◌∙◌, arith}
use Rattle.std.proofs.lemmas.Bool.{le-ltb}
use Rattle.std.proofs.lemmas.Bool.Decides.{eqb_tells}
use Rattle.heap_words.specs.declared.cell.Cell.{Cell}
use Rattle.heap_words.specs.declared.kind.Kind.{Kind}
use Rattle.heap_words.specs.declared.kind.Kind.TheVariants as kinds
use Rattle.heap_words.specs.declared.name.Name.{Name}
use Rattle.heap_words.specs.declared.spot.Spot.{Spot}
use Rattle.heap_words.specs.Cell.{cell_of, cell_word, fixed_cell}
use Rattle.core_rule.proofs.Terms.{spot_in, spot_word, array_words, Id, Value, pointer_in, head_of, first_pointer, reference_of, is_fixed, is_meta, array_length_in}
use Rattle.core_rule.proofs.Terms.{array_length_of, length_of, payload_in, spine_words_in, FitsSpot, array_meta, sentinel_word_of, spine_word, value_word}
use Rattle.heap_model.specs.declared.id.Value.TheVariants as values
use Rattle.core_machine.proofs.table_lemmas.CellWords.{cell_of-cell_word}
use Rattle.core_rule.proofs.ways.Told.{HasRoom}

-- the cell of an array's meta
meta_cell : (cells : ℕ) → cells < 2 ^ 13 → cell_of (array_meta cells) ≡ fixed_cell (2 ^ 29 + cells) 0
meta_cell cells few = cell_of-cell_word kinds.Fixed (2 ^ 29 + cells) 0 (omega (arith, few)) (omega arith)

-- the length in an array's meta, which is one
pub array_length_in-meta : (cells : ℕ) → cells < 2 ^ 13 → array_length_of (array_meta cells) ≡ Some cells
array_length_in-meta cells few =
    let back : (2 ^ 29 + cells) % 2 ^ 13 ≡ cells = omega (arith, few) in
    ap (λ (c : Cell). array_length_in c.kind c) (meta_cell cells few) ∙ rw (le-ltb (2 ^ 29 + cells) (2 ^ 29) (omega arith), back) refl

pub length_in-array_meta : (cells : ℕ) → cells < 2 ^ 13 → length_of (array_meta cells) ≡ cells
length_in-array_meta cells few = ap (λ (c : Cell). c.value % 2 ^ 13) (meta_cell cells few) ∙ omega (arith, few)

-- as many spine words as an array of that length has
pub spine_words_in-meta : (cells : ℕ) → cells < 2 ^ 13 → spine_words_in (array_meta cells) ≡ array_words cells
spine_words_in-meta cells few = ap (λ o. option_map_or array_words o 0) (array_length_in-meta cells few)

-- it leads nowhere
pub array_meta_nowhere : (cells : ℕ) → cells < 2 ^ 13 → pointer_in 0 (array_meta cells) ≡ None
array_meta_nowhere cells few = ap (λ (c : Cell). first_pointer c.kind c) (meta_cell cells few) ∙ rw (le-ltb (2 ^ 29 + cells) (2 ^ 29) (omega arith)) refl

-- a spot is read again
pub spot_in-word : (spot : Spot) → FitsSpot spot → spot_in (spot_word spot) ≡ spot
spot_in-word spot fits =
    let half : spot.half % 2 ≡ spot.half = omega (arith, fits.half_within) in
    let offset : spot.offset % 2 ^ 31 ≡ spot.offset = omega (arith, fits.offset_within) in
    ap (λ (c : Cell). spot_of (c.value % 2) (c.stamp % 2 ^ 31)) (cell_of-cell_word kinds.Fixed spot.half spot.offset (omega (arith, fits.half_within)) (omega (arith, fits.offset_within)))
    ∙ rw (half, offset) refl
  where
    spot_of : ℕ → ℕ → Spot
    spot_of half offset = record { half = half; offset = offset }

-- a spine word names its fragment
pub payload_in-word : (fragment : ℕ) → fragment < 2 ^ 30 → payload_in (spine_word fragment) ≡ fragment
payload_in-word fragment small = ap (λ (c : Cell). c.value) (cell_of-cell_word kinds.Fixed fragment 0 small (omega arith))

-- a fixed word that is no first one refers to nothing
pub fixed_word_has_no_head : (value stamp : ℕ) → value < 2 ^ 30 → stamp < 2 ^ 32 → head_of (cell_word (fixed_cell value stamp)) ≡ None
fixed_word_has_no_head value stamp small short = ap (λ (c : Cell). reference_of c.kind c.value) (cell_of-cell_word kinds.Fixed value stamp small short)

-- so no word of an array's first fragment leads anywhere
pub sentinel_leads_nowhere : (name : Name) (cells : ℕ) (spine : Spot) (part : ℕ) → name.owner < 2 ^ 30 → name.count < 2 ^ 32 → cells < 2 ^ 13 → FitsSpot spine
    → pointer_in part (sentinel_word_of name cells spine part) ≡ None
sentinel_leads_nowhere name cells spine part owner count few fits = elim (eqb_tells part 0) as (λ _. pointer_in part (sentinel_word_of name cells spine part) ≡ None) [
  | inl meta ↦ rw meta.0 (array_meta_nowhere cells few)
  | inr behind ↦ rw behind.0 (elim (eqb_tells part 1) as (λ _. head_of (cond (eqb part 1) (cell_word (fixed_cell name.owner name.count)) (cond (eqb part 2) (spot_word spine) (cell_word (fixed_cell 0 0)))) ≡ None) [
    | inl named ↦ rw named.0 (fixed_word_has_no_head name.owner name.count owner count)
    | inr other ↦ rw other.0 (elim (eqb_tells part 2) as (λ _. head_of (cond (eqb part 2) (spot_word spine) (cell_word (fixed_cell 0 0))) ≡ None) [
      | inl placed ↦ rw placed.0 (fixed_word_has_no_head spine.half spine.offset (omega (arith, fits.half_within)) (omega (arith, fits.offset_within)))
      | inr rest ↦ rw rest.0 (fixed_word_has_no_head 0 0 (omega arith) (omega arith))
    ])
  ])
]

-- a word that isn't fixed leads where its reference does, whichever word of its fragment it is
plain_kind : (kind : Kind) (cell : Cell) → is_fixed kind ≡ false → first_pointer kind cell ≡ reference_of kind cell.value
plain_kind kinds.Nil cell plain = refl
plain_kind kinds.Number cell plain = refl
plain_kind kinds.Reference cell plain = refl
plain_kind kinds.Fixed cell plain = absurd (cc plain)

pub plain_pointer_is_head : (part word : ℕ) → is_meta word ≡ false → pointer_in part word ≡ head_of word
plain_pointer_is_head part word plain = elim (eqb_tells part 0) as (λ _. pointer_in part word ≡ head_of word) [
  | inl first ↦ rw first.0 (plain_kind (cell_of word).kind (cell_of word) plain)
  | inr later ↦ rw later.0 refl
]

-- a cell's word isn't fixed
pub value_word_is_not_fixed : (head : Id → ℕ) (value : Value) (stamp : ℕ) → HasRoom head value → stamp < 2 ^ 32 → is_meta (value_word head value stamp) ≡ false
value_word_is_not_fixed head values.Nil stamp room small = ap (λ (c : Cell). is_fixed c.kind) (cell_of-cell_word kinds.Nil 0 stamp (omega arith) small)
value_word_is_not_fixed head (values.Number n) stamp room small = ap (λ (c : Cell). is_fixed c.kind) (cell_of-cell_word kinds.Number n stamp room small)
value_word_is_not_fixed head (values.Object id) stamp room small = ap (λ (c : Cell). is_fixed c.kind) (cell_of-cell_word kinds.Reference (head id) stamp room small)
