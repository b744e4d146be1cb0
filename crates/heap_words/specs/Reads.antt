use Rattle.std.specs.Prelude.{◌≡◌, ◌≢◌, ℕ, Option, MatchOption}

-- the answer is a value that packs to the word, or none where no value that can be packed does
abbrev pub Reads : {A : Type 0} → (A → Type 0) → (A → ℕ) → ℕ → Option A → Type 0
Reads {A} CanPack pack word answer =
    MatchOption answer ((x : A) → CanPack x → pack x ≢ word) (λ x. CanPack x × (pack x ≡ word))
