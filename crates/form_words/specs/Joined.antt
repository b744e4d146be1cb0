-- Words that a command never sees.
use Rattle.std.specs.Prelude.{◌==◌, ◌||◌, ℕ, Bool, false, not, List, length, option_and_then}
use Rattle.std.specs.List.{list_all, list_any}
use Rattle.std.specs.Option.{option_map_or}
use Rattle.clap.specs.Lexer.{strip_byte}

-- what stands behind two dashes is nothing, or has an equals sign (61)
abbrev pub is_joined_name : List ℕ → Bool
is_joined_name name = (length name == 0) || list_any (λ code. code == 61) name

-- the word ends the options, or is an option with its value in the same word
abbrev pub is_joined : List ℕ → Bool
is_joined word = option_map_or is_joined_name (option_and_then (strip_byte 45) (strip_byte 45 word)) false

-- no word is one of those
abbrev pub are_apart : List (List ℕ) → Bool
are_apart words = list_all (λ word. not (is_joined word)) words
