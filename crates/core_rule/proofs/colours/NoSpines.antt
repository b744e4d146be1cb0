-- Words that are no array's meta, so that a fragment that begins with one has no spine: a record's meta, a link, 0 and a cell's word.
use Rattle.std.proofs.Common.{◌≡◌, ℕ, zero, suc, ◌+◌, ◌^◌, ◌<◌, false, eqb, inl, inr, List, length, get_or, refl, ap, ◌∙◌, arith}
use Rattle.std.specs.Option.{option_map_or}
use Rattle.std.proofs.lemmas.Bool.{cases_lt, lt-ltb}
use Rattle.std.proofs.lemmas.Bool.Decides.{leb_tells}
use Rattle.std.proofs.lemmas.List.{get_or_past}
use Rattle.heap_words.specs.declared.cell.Cell.{Cell}
use Rattle.heap_words.specs.declared.kind.Kind.TheVariants as kinds
use Rattle.heap_words.specs.declared.name.Name.{Name}
use Rattle.core_rule.proofs.Terms.{array_words, Id, Value, array_length_in, spine_words_in, record_meta, link_after, record_word_of, value_word}
use Rattle.heap_model.specs.declared.id.Value.TheVariants as values
use Rattle.core_machine.proofs.table_lemmas.CellWords.{cell_of-cell_word}
use Rattle.core_rule.proofs.ways.Told.{HasRoom}

-- how many words the spine has of a fragment whose first word is the cell's
abbrev spine_of : Cell → ℕ
spine_of c = option_map_or array_words (array_length_in c.kind c) 0

-- a cell's word has none
pub value_tells_no_spine : (head : Id → ℕ) (value : Value) (stamp : ℕ) → HasRoom head value → stamp < 2 ^ 32 → spine_words_in (value_word head value stamp) ≡ 0
value_tells_no_spine head values.Nil stamp room small = ap spine_of (cell_of-cell_word kinds.Nil 0 stamp (omega arith) small)
value_tells_no_spine head (values.Number n) stamp room small = ap spine_of (cell_of-cell_word kinds.Number n stamp room small)
value_tells_no_spine head (values.Object id) stamp room small = ap spine_of (cell_of-cell_word kinds.Reference (head id) stamp room small)

module _ (fragments : List ℕ) (small : (i : ℕ) → i < length fragments → get_or fragments i 0 < 2 ^ 30) where
  second_small : get_or fragments 1 0 < 2 ^ 32
  second_small = elim (cases_lt 1 (length fragments)) [
    | inl within ↦ omega (arith, small 1 within)
    | inr past ↦ let none : get_or fragments 1 0 ≡ 0 = get_or_past fragments 1 0 past in omega (arith, none)
  ]

  -- nor has a record's meta
  meta_no_spine : (fields : ℕ) → fields < 2 ^ 29 → spine_words_in (record_meta fields fragments) ≡ 0
  meta_no_spine fields few = ap spine_of (cell_of-cell_word kinds.Fixed fields (get_or fragments 1 0) (omega (arith, few)) second_small) ∙ rw (lt-ltb fields (2 ^ 29) few) refl

  -- nor a link, nor the 0 in the last fragment
  link_no_spine : (k : ℕ) → spine_words_in (link_after fragments k) ≡ 0
  link_no_spine k = elim (leb_tells (suc (k + 1)) (length fragments)) as (λ _. spine_words_in (link_after fragments k) ≡ 0) [
    | inl more ↦ rw more.0 (ap spine_of (cell_of-cell_word kinds.Reference (get_or fragments (k + 1) 0) 0 (small (k + 1) (omega (arith, more.1))) (omega arith)))
    | inr last ↦ rw last.0 refl
  ]

  -- so no fragment of a newborn record has a spine
  pub newborn_tells_no_spine : (name : Name) (fields k : ℕ) → fields < 2 ^ 29 → spine_words_in (record_word_of name fields fragments k 0) ≡ 0
  newborn_tells_no_spine name fields zero few = meta_no_spine fields few
  newborn_tells_no_spine name fields (suc k) few = let later : eqb (suc k) 0 ≡ false = grind arith in rw later (link_no_spine (suc k))
