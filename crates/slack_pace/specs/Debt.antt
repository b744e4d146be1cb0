-- What a pace asks for that carries over what it couldn't ask for at once.
use Rattle.std.specs.Prelude.{ℕ, ◌+◌, ◌-◌, ◌*◌, ◌^◌, min}
use Rattle.slack_pace.specs.Slack.{most_slack_turns}

-- the most that is owed
abbrev pub most_owed : ℕ
most_owed = 2 ^ 63

-- what was owed, with so many turns for each fragment claimed, up to the most
abbrev pub debt_due : ℕ → ℕ → ℕ → ℕ
debt_due rate owed claimed = min most_owed (owed + rate * claimed)

-- what of it is asked for at once
abbrev pub debt_turns : ℕ → ℕ → ℕ → ℕ
debt_turns rate owed claimed = min most_slack_turns (debt_due rate owed claimed)

-- and what is owed afterwards
abbrev pub debt_left : ℕ → ℕ → ℕ → ℕ
debt_left rate owed claimed = debt_due rate owed claimed - debt_turns rate owed claimed
