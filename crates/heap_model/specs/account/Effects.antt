-- What each entry does to the counts of the heap, and whose it is.
use Rattle.std.specs.Prelude.{ℕ, ◌==◌, Bool, false}
use Rattle.heap_model.specs.declared.entry.Entry.{Entry}
use Rattle.heap_model.specs.declared.entry.Entry.TheVariants as entries
use Rattle.heap_model.specs.declared.account.effect.Effect.{Effect}
use Rattle.heap_model.specs.Needs.{made_by, words_by}

-- what an entry comes to that changes no count
abbrev pub no_effect : Effect
no_effect = record { taken = 0; given = 0; born = 0; freed = 0; words = 0; returned = 0; phases = 0; answers = 0 }

-- what an entry comes to: how much it adds to each count
abbrev pub effect_of : Entry → Effect
effect_of (entries.Said number command reply) = record no_effect { born = made_by command reply; words = words_by command reply }
effect_of (entries.Takes number count) = record no_effect { taken = count }
effect_of (entries.GivesBack number count) = record no_effect { given = count }
effect_of (entries.Answers number phase) = record no_effect { answers = 1 }
effect_of (entries.Advance phase) = record no_effect { phases = 1 }
effect_of (entries.Frees count) = record no_effect { freed = count }
effect_of (entries.Returns count) = record no_effect { returned = count }
effect_of (entries.Ends cycle kept) = record no_effect { phases = 1 }
effect_of _ = no_effect

-- the entry is this seat's
abbrev pub is_of : ℕ → Entry → Bool
is_of number (entries.Said other command reply) = other == number
is_of number (entries.Takes other count) = other == number
is_of number (entries.GivesBack other count) = other == number
is_of number (entries.Answers other phase) = other == number
is_of number _ = false
