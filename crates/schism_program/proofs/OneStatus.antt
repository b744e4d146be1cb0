-- Words and input call for one status alone.
use Rattle.std.proofs.Common.{◌≡◌, ℕ, List, Option, Some, inl, inr, refl, sym, ap, subst, ◌∙◌, arith}
use Rattle.form_words.specs.declared.kind.TextKind.TheVariants.{Script, History}
use Rattle.form_words.specs.declared.work.Work.{Work}
use Rattle.form_words.specs.declared.work.Work.TheVariants.{Play, Run, Check, Plan, Make, Migrate, Crew, Queue}
use Rattle.form_words.specs.Works.{AskFor}
use Rattle.form_words.proofs.AskedWork.{asked_work_is_one}
use Rattle.script_text.specs.declared.cause.Cause.{Cause}
use Rattle.script_text.specs.declared.cause.LineFault.{LineFault}
use Rattle.script_text.specs.declared.script.Form.TheVariants as forms
use Rattle.script_text.proofs.Whole.{first_fault-none}
use Rattle.reply_text.specs.declared.history.History.{History as AHistory}
use Rattle.reply_text.specs.History.{IsHistory, body}
use Rattle.reply_text.proofs.Whole.{first_history_fault-none, equal_texts_same_history}
use Rattle.io_edge.specs.Left.{GivesAll}
use Rattle.log_merge.specs.Legal.{IsLegalHistory}
use Rattle.log_merge.specs.Lines.{IsFirstIllegal}
use Rattle.log_merge.proofs.Migrated.{first_wrong_line_is_one}
use Rattle.script_crew.proofs.CrewTexts.{first_crew_fault-none}
use Rattle.heap_queue.proofs.QueueTexts.{first_queue_fault-none}
use Rattle.schism_program.specs.declared.status.Status.{Status}
use Rattle.schism_program.specs.declared.status.Status.TheVariants.{Done, Refused, Usage, TooLong, NotLegal}
use Rattle.schism_program.specs.Due.{IsDue, IsDueTo, IsInput}
use Rattle.schism_program.specs.Outcome.{IsRead}
use Rattle.schism_program.specs.Planning.{FailsAsPlay}
use Rattle.schism_program.specs.Verdict.{FindsIllegal}
use Rattle.schism_program.specs.Works.{FailsAt, IsIllegalAt, MakesText, Suits}

-- what a text was made of suits the work
pub made_input_suits_work : (work : Work) (input text : List ℕ) → MakesText work input text → Suits work input
made_input_suits_work (Play pace brief press) input text plays = (plays.script, plays.spelled)
made_input_suits_work (Run pace locked patience) input text runs = (runs.script, runs.spelled)
made_input_suits_work Check input text finds = (finds.history, finds.spelled, finds.legal)
made_input_suits_work Plan input text plans = plans.is
made_input_suits_work (Make start seats lines) input text made = tt
made_input_suits_work (Migrate Script) input text migrates = (migrates.script, migrates.spelled)
made_input_suits_work (Migrate History) input text migrates = (migrates.history, migrates.spelled)
made_input_suits_work (Crew history) input text (closed, runs) = (runs.crew, runs.spelled)
made_input_suits_work Queue input text (closed, runs) = (runs.script, runs.spelled)

-- a history of a play has no fault, and isn't one of a run
play_none : (input : List ℕ) (history : AHistory) (line : ℕ) (cause : Cause) → IsHistory input history → history.form ≡ forms.Play → ¬ FailsAsPlay input line cause
play_none input history line cause spelled play (inl fault) = let none = first_history_fault-none input history spelled in cc
play_none input history line cause spelled play (inr (run, is, told)) = let same = equal_texts_same_history input history run.history spelled run.spelled in let its = run.run in cc

-- what suits the work has no fault
suits_none : (work : Work) (input : List ℕ) (line : ℕ) (cause : Cause) → Suits work input → ¬ FailsAt work input line cause
suits_none (Play pace brief press) input line cause (script, spelled) fault = let none = first_fault-none forms.Play input script spelled in cc
suits_none (Run pace locked patience) input line cause (script, spelled) fault = let none = first_fault-none forms.Run input script spelled in cc
suits_none Check input line cause (history, spelled, legal) fault = let none = first_history_fault-none input history spelled in cc
suits_none Plan input line cause is fault = play_none input is.history line cause is.spelled is.play fault
suits_none (Make start seats lines) input line cause suits fault = fault
suits_none (Migrate Script) input line cause (script, spelled) fault = let none = first_fault-none forms.Play input script spelled in cc
suits_none (Migrate History) input line cause (history, spelled) fault = let none = first_history_fault-none input history spelled in cc
suits_none (Crew history) input line cause (crew, spelled) fault = let none = first_crew_fault-none input crew spelled in cc
suits_none Queue input line cause (script, spelled) fault = let none = first_queue_fault-none input script spelled in cc

-- a legal history has no line that isn't
never_both : (input : List ℕ) (line : ℕ) (history : AHistory) → IsHistory input history → IsLegalHistory history → ¬ FindsIllegal input line
never_both input line history spelled legal illegal = illegal.illegal (subst IsLegalHistory (equal_texts_same_history input history illegal.history spelled illegal.spelled) legal)

-- and no line that isn't legal
suits_legal : (work : Work) (input : List ℕ) (line : ℕ) → Suits work input → ¬ IsIllegalAt work input line
suits_legal (Play pace brief press) input line suits illegal = illegal
suits_legal (Run pace locked patience) input line suits illegal = illegal
suits_legal (Make start seats lines) input line suits illegal = illegal
suits_legal (Migrate kind) input line suits illegal = illegal
suits_legal (Crew history) input line suits illegal = illegal
suits_legal Queue input line suits illegal = illegal
suits_legal Check input line (history, spelled, legal) illegal = never_both input line history spelled legal illegal
suits_legal Plan input line is illegal = never_both input line is.history is.spelled is.legal illegal.finds

-- what has a line that isn't legal has no fault
illegal_none : (work : Work) (input : List ℕ) (line number : ℕ) (cause : Cause) → IsIllegalAt work input line → ¬ FailsAt work input number cause
illegal_none (Play pace brief press) input line number cause illegal fault = illegal
illegal_none (Run pace locked patience) input line number cause illegal fault = illegal
illegal_none (Make start seats lines) input line number cause illegal fault = illegal
illegal_none (Migrate kind) input line number cause illegal fault = illegal
illegal_none (Crew history) input line number cause illegal fault = illegal
illegal_none Queue input line number cause illegal fault = illegal
illegal_none Check input line number cause illegal fault = let none = first_history_fault-none input illegal.history illegal.spelled in cc
illegal_none Plan input line number cause illegal fault = play_none input illegal.finds.history number cause illegal.finds.spelled illegal.play fault

-- one line is refused, for one cause
same_fault : (line line' : ℕ) (cause cause' : Cause) → ◌≡◌ {A = Option LineFault} (Some (record { line = line; cause = cause })) (Some (record { line = line'; cause = cause' })) → Refused line cause ≡ Refused line' cause'
same_fault line line' cause cause' same =
    let fault : ◌≡◌ {A = LineFault} (record { line = line; cause = cause }) (record { line = line'; cause = cause' }) = cc in
    ap (λ (f : LineFault). Refused f.line f.cause) fault

fails_once : (work : Work) (input : List ℕ) (line line' : ℕ) (cause cause' : Cause) → FailsAt work input line cause → FailsAt work input line' cause' → Refused line cause ≡ Refused line' cause'
fails_once (Play pace brief press) input line line' cause cause' fault fault' = same_fault line line' cause cause' (sym fault ∙ fault')
fails_once (Run pace locked patience) input line line' cause cause' fault fault' = same_fault line line' cause cause' (sym fault ∙ fault')
fails_once Check input line line' cause cause' fault fault' = same_fault line line' cause cause' (sym fault ∙ fault')
fails_once Plan input line line' cause cause' (inl fault) (inl fault') = same_fault line line' cause cause' (sym fault ∙ fault')
fails_once Plan input line line' cause cause' (inl fault) (inr (run, is, told)) = let none = first_history_fault-none input run.history run.spelled in cc
fails_once Plan input line line' cause cause' (inr (run, is, told)) (inl fault) = let none = first_history_fault-none input run.history run.spelled in cc
fails_once Plan input line line' cause cause' (inr (run, is, told)) (inr (run', is', told')) = cc
fails_once (Make start seats lines) input line line' cause cause' fault fault' = absurd fault
fails_once (Migrate Script) input line line' cause cause' fault fault' = same_fault line line' cause cause' (sym fault ∙ fault')
fails_once (Migrate History) input line line' cause cause' fault fault' = same_fault line line' cause cause' (sym fault ∙ fault')
fails_once (Crew history) input line line' cause cause' fault fault' = same_fault line line' cause cause' (sym fault ∙ fault')
fails_once Queue input line line' cause cause' fault fault' = same_fault line line' cause cause' (sym fault ∙ fault')

-- one line of a history is the first that isn't legal
first_illegal_once : (input : List ℕ) (line line' : ℕ) → FindsIllegal input line → FindsIllegal input line' → line ≡ line'
first_illegal_once input line line' illegal illegal' =
    let same = equal_texts_same_history input illegal.history illegal'.history illegal.spelled illegal'.spelled in
    first_wrong_line_is_one illegal'.history.form illegal'.history.heap (body illegal'.history) line line' (subst (λ (h : AHistory). IsFirstIllegal h line) same illegal.first) illegal'.first

-- and so of a work's input
illegal_once : (work : Work) (input : List ℕ) (line line' : ℕ) → IsIllegalAt work input line → IsIllegalAt work input line' → line ≡ line'
illegal_once (Play pace brief press) input line line' illegal illegal' = absurd illegal
illegal_once (Run pace locked patience) input line line' illegal illegal' = absurd illegal
illegal_once (Make start seats lines) input line line' illegal illegal' = absurd illegal
illegal_once (Migrate kind) input line line' illegal illegal' = absurd illegal
illegal_once (Crew history) input line line' illegal illegal' = absurd illegal
illegal_once Queue input line line' illegal illegal' = absurd illegal
illegal_once Check input line line' illegal illegal' = first_illegal_once input line line' illegal illegal'
illegal_once Plan input line line' illegal illegal' = first_illegal_once input line line' illegal.finds illegal'.finds

-- an input calls for one status
due_once : (work : Work) (input : List ℕ) (one other : Status) → IsDueTo work input one → IsDueTo work input other → one ≡ other
due_once work input Done Done due due' = refl
due_once work input Done (Refused line cause) due due' = absurd (suits_none work input line cause due.1 due'.1)
due_once work input Done (NotLegal line) due due' = absurd (suits_legal work input line due.1 due'.1)
due_once work input Done TooLong due due' = absurd (omega (arith, due.0, due'))
due_once work input Done _ due due' = absurd due'
due_once work input (Refused line cause) Done due due' = absurd (suits_none work input line cause due'.1 due.1)
due_once work input (Refused line cause) (Refused line' cause') due due' = fails_once work input line line' cause cause' due.1 due'.1
due_once work input (Refused line cause) (NotLegal line') due due' = absurd (illegal_none work input line' line cause due'.1 due.1)
due_once work input (Refused line cause) TooLong due due' = absurd (omega (arith, due.0, due'))
due_once work input (Refused line cause) _ due due' = absurd due'
due_once work input (NotLegal line) Done due due' = absurd (suits_legal work input line due'.1 due.1)
due_once work input (NotLegal line) (Refused line' cause') due due' = absurd (illegal_none work input line line' cause' due.1 due'.1)
due_once work input (NotLegal line) (NotLegal line') due due' = ap NotLegal (illegal_once work input line line' due.1 due'.1)
due_once work input (NotLegal line) TooLong due due' = absurd (omega (arith, due.0, due'))
due_once work input (NotLegal line) _ due due' = absurd due'
due_once work input TooLong Done due due' = absurd (omega (arith, due, due'.0))
due_once work input TooLong (Refused line cause) due due' = absurd (omega (arith, due, due'.0))
due_once work input TooLong (NotLegal line) due due' = absurd (omega (arith, due, due'.0))
due_once work input TooLong TooLong due due' = refl
due_once work input TooLong _ due due' = absurd due'
due_once work input _ other due due' = absurd due

-- a work has one input
same_input : (work : Work) (left left' : Option (List ℕ)) (input input' : List ℕ) → IsRead work left left' input → IsInput work left input' → input ≡ input'
same_input (Play pace brief press) left left' input input' all its = let gives : GivesAll (Some input') left' input = subst (λ (l : Option (List ℕ)). GivesAll l left' input) its all in gives.0
same_input (Run pace locked patience) left left' input input' all its = let gives : GivesAll (Some input') left' input = subst (λ (l : Option (List ℕ)). GivesAll l left' input) its all in gives.0
same_input Plan left left' input input' all its = let gives : GivesAll (Some input') left' input = subst (λ (l : Option (List ℕ)). GivesAll l left' input) its all in gives.0
same_input Check left left' input input' all its = let gives : GivesAll (Some input') left' input = subst (λ (l : Option (List ℕ)). GivesAll l left' input) its all in gives.0
same_input (Make start seats lines) left left' input input' all its = all.0 ∙ sym its
same_input (Migrate kind) left left' input input' all its = let gives : GivesAll (Some input') left' input = subst (λ (l : Option (List ℕ)). GivesAll l left' input) its all in gives.0
same_input Queue left left' input input' all its = let gives : GivesAll (Some input') left' input = subst (λ (l : Option (List ℕ)). GivesAll l left' input) its all in gives.0
same_input (Crew history) left left' input input' all its = let gives : GivesAll (Some input') left' input = subst (λ (l : Option (List ℕ)). GivesAll l left' input) its all in gives.0

-- so where its input was read, and it calls for this status, no other is due
pub only_one_status_is_due : (words : List (List ℕ)) (left left' : Option (List ℕ)) (work : Work) (input : List ℕ) (one other : Status) → AskFor words work → IsRead work left left' input → IsDueTo work input one → IsDue words left other → one ≡ other
only_one_status_is_due words left left' work input one Usage asked all due none = absurd (none (work, asked))
only_one_status_is_due words left left' work input one other asked all due (work', input', asked', told, due') =
    let same = asked_work_is_one words work' work asked' asked in
    let its : IsInput work left input' = subst (λ (w : Work). IsInput w left input') same told in
    due_once work input one other due (subst (λ (i : List ℕ). IsDueTo work i other) (sym (same_input work left left' input input' all its)) (subst (λ (w : Work). IsDueTo w input' other) same due'))
