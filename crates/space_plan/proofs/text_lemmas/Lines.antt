-- How a line is written word by word.
use Rattle.script_text.proofs.Sentences.{sentence-cons}

pub ruleset spelling = (sentence-cons)
