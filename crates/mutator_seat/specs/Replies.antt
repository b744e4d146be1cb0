-- Which replies answer which calls.
use Rattle.heap_model.specs.declared.command.Command.{Command}
use Rattle.heap_model.specs.declared.command.Command.TheVariants as commands
use Rattle.heap_model.specs.declared.reply.Reply.{Reply}
use Rattle.heap_model.specs.declared.reply.Reply.TheVariants.{Made, Got, Was, Now, Done, Yes, No, Length, Phase, NoObject, NoField, Full, SpineFull}

-- the reply tells a phase
abbrev pub TellsPhase : Reply → Type 0
TellsPhase (Phase p) = Unit {0}
TellsPhase _ = ⊥

-- a record was made, or fragments were too few
abbrev pub AnswersRecord : Reply → Type 0
AnswersRecord (Made id) = Unit {0}
AnswersRecord (Full need found) = Unit {0}
AnswersRecord _ = ⊥

-- an array was made, or fragments or spine words were too few
abbrev pub AnswersArray : Reply → Type 0
AnswersArray (Made id) = Unit {0}
AnswersArray (Full need found) = Unit {0}
AnswersArray (SpineFull need used) = Unit {0}
AnswersArray _ = ⊥

-- a field was read, or not reached
abbrev pub AnswersGet : Reply → Type 0
AnswersGet (Got value stamp) = Unit {0}
AnswersGet NoObject = Unit {0}
AnswersGet NoField = Unit {0}
AnswersGet _ = ⊥

-- a field was set, or not reached
abbrev pub AnswersSet : Reply → Type 0
AnswersSet (Was stamp) = Unit {0}
AnswersSet NoObject = Unit {0}
AnswersSet NoField = Unit {0}
AnswersSet _ = ⊥

-- a field was swapped, or had another word, or wasn't reached
abbrev pub AnswersCas : Reply → Type 0
AnswersCas (Was stamp) = Unit {0}
AnswersCas (Now stamp) = Unit {0}
AnswersCas NoObject = Unit {0}
AnswersCas NoField = Unit {0}
AnswersCas _ = ⊥

-- two values were compared
abbrev pub AnswersSame : Reply → Type 0
AnswersSame Yes = Unit {0}
AnswersSame No = Unit {0}
AnswersSame _ = ⊥

-- an object's length is told, or there was no object
abbrev pub AnswersLen : Reply → Type 0
AnswersLen (Length n) = Unit {0}
AnswersLen NoObject = Unit {0}
AnswersLen _ = ⊥

-- the reply is that it is done
abbrev pub IsDone : Reply → Type 0
IsDone Done = Unit {0}
IsDone _ = ⊥

-- the reply is of a kind that the command can give
abbrev pub IsReplyTo : Command → Reply → Type 0
IsReplyTo (commands.New d fields) reply = AnswersRecord reply
IsReplyTo (commands.Array d cells) reply = AnswersArray reply
IsReplyTo (commands.Get d r i) reply = AnswersGet reply
IsReplyTo (commands.Set r i v) reply = AnswersSet reply
IsReplyTo (commands.Cas r i a v) reply = AnswersCas reply
IsReplyTo (commands.Num d n) reply = IsDone reply
IsReplyTo (commands.Nil d) reply = IsDone reply
IsReplyTo (commands.Copy d r) reply = IsDone reply
IsReplyTo (commands.Same a b) reply = AnswersSame reply
IsReplyTo (commands.Len r) reply = AnswersLen reply
IsReplyTo commands.Poll reply = TellsPhase reply
IsReplyTo commands.Collect reply = ⊥
IsReplyTo commands.Leave reply = IsDone reply
