use Rattle.std.specs.Prelude.{ℕ, ◌+◌, ◌*◌, ◌/◌, ◌%◌, ◌^◌, ◌<◌}
use Rattle.heap_words.specs.declared.group.Group.{Group}

-- each mask has at most sixteen bits
abbrev pub IsGroup : Group → Type 0
IsGroup group =
    (group.taken < 2 ^ 16) × (group.born < 2 ^ 16) × (group.marked < 2 ^ 16) × (group.scanned < 2 ^ 16)

-- the group's word: taken from bit 0 on, born from bit 16, marked from bit 32, scanned from bit 48
abbrev pub group_word : Group → ℕ
group_word group = group.scanned * 2 ^ 48 + group.marked * 2 ^ 32 + group.born * 2 ^ 16 + group.taken

-- the group that a word is read as
abbrev pub group_of : ℕ → Group
group_of word = record {
  taken = word % 2 ^ 16;
  born = word / 2 ^ 16 % 2 ^ 16;
  marked = word / 2 ^ 32 % 2 ^ 16;
  scanned = word / 2 ^ 48;
}
