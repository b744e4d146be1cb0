-- The words that name the commands of a seat.
use Rattle.std.specs.Prelude.{ℕ, List, codes}
use Rattle.script_text.specs.declared.name.Name.{Name}
use Rattle.script_text.specs.declared.name.Name.TheVariants.{New, Array, Get, Set, Cas, Num, Nil, Copy, Same, Len, Poll, Collect}

-- the word that names a command
abbrev pub name_text : Name → List ℕ
name_text New = codes "new"
name_text Array = codes "array"
name_text Get = codes "get"
name_text Set = codes "set"
name_text Cas = codes "cas"
name_text Num = codes "num"
name_text Nil = codes "nil"
name_text Copy = codes "copy"
name_text Same = codes "same"
name_text Len = codes "len"
name_text Poll = codes "poll"
name_text Collect = codes "collect"
