use Rattle.std.specs.Prelude.{◌≡◌, ℕ, ◌/◌, ◌^◌, if◌then◌else◌, ◌==◌}
use Rattle.heap_words.specs.declared.kind.Kind.{Kind}
use Rattle.heap_words.specs.declared.kind.Kind.TheVariants.{Nil, Number, Reference, Fixed}

-- the number of a kind
abbrev pub kind_number : Kind → ℕ
kind_number Nil = 0
kind_number Number = 1
kind_number Reference = 2
kind_number Fixed = 3

-- the word has this kind: the kind's number stands in its two highest bits
abbrev pub HasKind : ℕ → Kind → Type 0
HasKind word kind = word / 2 ^ 62 ≡ kind_number kind

-- the kind with the number that stands in a word's two highest bits
abbrev pub kind_of : ℕ → Kind
kind_of word =
    let top = word / 2 ^ 62 in
    if top == 0 then Nil else if top == 1 then Number else if top == 2 then Reference else Fixed
