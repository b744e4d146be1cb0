-- Scripts in version 2.
use Rattle.std.specs.Prelude.{◌≡◌, ℕ, ◌+◌, ◌==◌, ◌≤◌, ◌⊎◌, List, [], ◌∷◌, ◌++◌, codes, length, if◌then◌else◌}
use Rattle.script_text.specs.declared.script.Form.{Form}
use Rattle.script_text.specs.declared.script.Script.{Script}
use Rattle.script_text.specs.Grammar.{IsScript}
use Rattle.script_text.specs.Text.{lines_of, text_of}
use Rattle.script_text.specs.Words.{script_lines}

-- the script in version 2
abbrev pub migrated_script : Script → Script
migrated_script script = record script { version = 2 }

-- its text, each line with its line feed
abbrev pub migrated_script_text : Script → List ℕ
migrated_script_text script = text_of (script_lines (migrated_script script))

-- the lines of a text in version 2: the first one tells that, and behind a heap line of version 1 stands the board's number
abbrev pub lines_in_second : List ℕ → ℕ → List (List ℕ) → List (List ℕ)
lines_in_second header version (first ∷ heap ∷ more) = header ∷ (if version == 2 then heap else heap ++ codes " 32") ∷ more
lines_in_second header version lines = lines

-- the text, with a line feed at its end if it had none
abbrev pub IsEnded : List ℕ → List ℕ → Type 0
IsEnded text ended = (ended ≡ text) ⊎ (ended ≡ text ++ 10 ∷ [])

-- what migrating comes to, of a text that spells the script in this form
pub record MigratesScript (form : Form) (text : List ℕ) (script : Script) : Type 0 where
  pub written : migrated_script_text script ≡ text_of (lines_in_second (codes "schism 2") script.version (lines_of text))
  pub reads : IsScript form (migrated_script_text script) (migrated_script script)
  pub again : (other : Script) → IsScript form (migrated_script_text script) other → migrated_script_text other ≡ migrated_script_text script
  pub stays : script.version ≡ 2 → IsEnded text (migrated_script_text script)
  pub room : length (migrated_script_text script) ≤ length text + 4
