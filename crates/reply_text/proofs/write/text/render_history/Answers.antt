use Rattle.std.proofs.Common.{◌≡◌, Vec, Result, Ok, Err, IfOk, ℕ, Global}
use Rattle.heap_model.specs.declared.fault.Memory.{Memory}
use Rattle.script_text.specs.Text.{text_of}
use Rattle.reply_text.specs.declared.history.History.{History}
use Rattle.reply_text.specs.History.{IsHistory, IsSpellable, history_lines}
use Rattle.reply_text.proofs.Whole.{IsHistory-written}
use Rattle.reply_text.proofs.write.text.render_history.Goals as goal

again : (history : History) (result : Result (Vec ℕ Global) Memory) → IsSpellable history →
    IfOk result (λ text. text.items ≡ text_of (history_lines history)) → IfOk result (λ text. IsHistory text.items history)
again history (Ok text) h e = IsHistory-written history text.items e h
again history (Err memory) h e = tt

pub returns-clause-again : goal.returns-clause-again
returns-clause-again c = λ h. again c.args.history.now c.render.result h c.render.ensures
