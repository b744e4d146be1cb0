use Rattle.std.proofs.Common.{◌≤◌, ℕ, List, Option, Err, Vec, Global, length, inl, ap, subst, sym}
use Rattle.std.specs.Prelude.{vec_len}
use Rattle.form_words.specs.declared.work.Work.{Work}
use Rattle.form_words.specs.Works.{most_bytes, AskFor}
use Rattle.schism_program.specs.declared.status.Status.TheVariants as statuses
use Rattle.schism_program.specs.Outcome.{IsRead, ReadsInput}
use Rattle.schism_program.specs.Works.{LeavesTable}
use Rattle.schism_program.proofs.OneStatus.{made_input_suits_work, only_one_status_is_due}
use Rattle.schism_program.proofs.top.do_work.Goals as goal

short_input : (work : Work) → (input : Vec ℕ Global) → vec_len input ≤ most_bytes work → length input.items ≤ most_bytes work
short_input work input within = subst (λ n. n ≤ most_bytes work) input.ok.0 within

-- the work is asked for, and its input was read
reads : {words : List (List ℕ)} → {left left' : Option (List ℕ)} → (work : Work) → (input : Vec ℕ Global) → AskFor words work → IsRead work left left' input.items → vec_len input ≤ most_bytes work → ReadsInput words left left' work input.items
reads work input asked all within = record { asked = asked; all = all; short = short_input work input within }

pub returns-in-Err-TooLong-clause-says : goal.returns-in-Err-TooLong-clause-says
returns-in-Err-TooLong-clause-says g c = λ words asked.
    let long = c.in-Err-TooLong.ensures.too_long (ap Err c.in-Err-TooLong.field-0-is) in
    record { work = c.args.work; asked = asked; reads = long.0; lost = long.1 }

pub returns-in-Err-Refused-clause-says : goal.returns-in-Err-Refused-clause-says
returns-in-Err-Refused-clause-says g c = λ words asked. record {
  work = c.args.work;
  input = c.in-Ok.input.items;
  reads = reads c.args.work c.in-Ok.input asked c.in-Ok.ensures.read c.in-Ok.ensures.within;
  fails = c.in-Err-Refused.ensures.refused c.in-Err-Refused.field-0-0 (ap Err c.in-Err-Refused.field-0-is);
}

pub returns-in-Err-NotLegal-clause-says : goal.returns-in-Err-NotLegal-clause-says
returns-in-Err-NotLegal-clause-says g c = λ words asked. record {
  work = c.args.work;
  input = c.in-Ok.input.items;
  reads = reads c.args.work c.in-Ok.input asked c.in-Ok.ensures.read c.in-Ok.ensures.within;
  illegal = c.in-Err-NotLegal.ensures.not_legal c.in-Err-NotLegal.line (ap Err c.in-Err-NotLegal.field-0-is);
}

pub returns-in-Ok-write_all-clause-says : goal.returns-in-Ok-write_all-clause-says
returns-in-Ok-write_all-clause-says g c = λ words asked.
    let input = c.in-Ok.input.items in
    let text = c.in-Ok-made_work.made.text.items in
    record {
      all = record {
        work = c.args.work;
        input = input;
        text = text;
        reads = reads c.args.work c.in-Ok.input asked c.in-Ok.ensures.read c.in-Ok.ensures.within;
        makes = c.in-Ok-made_work.ensures.ok;
        written = rw c.deref.ensures.value at c.in-Ok-write_all.ensures.ok;
      };
      leaves = subst (LeavesTable c.args.work input text) (sym c.leave.ensures) c.in-Ok-made_work.ensures.closed;
    }

pub returns-clause-says : goal.returns-clause-says
returns-clause-says g c = λ words asked. record {
  work = c.args.work;
  input = c.in-Ok.input.items;
  text = c.in-Ok-made_work.made.text.items;
  reads = reads c.args.work c.in-Ok.input asked c.in-Ok.ensures.read c.in-Ok.ensures.within;
  makes = c.in-Ok-made_work.ensures.ok;
  written = rw c.deref.ensures.value at c.in-Err.ensures.err;
}

pub returns-in-Err-Refused-clause-complete : goal.returns-in-Err-Refused-clause-complete
returns-in-Err-Refused-clause-complete g c = λ words status asked due calm_source calm_sink.
    let fault = c.in-Err-Refused.field-0-0 in
    let fails = c.in-Err-Refused.ensures.refused fault (ap Err c.in-Err-Refused.field-0-is) in
    inl (only_one_status_is_due _ _ _ c.args.work c.in-Ok.input.items (statuses.Refused fault.line fault.cause) status asked c.in-Ok.ensures.read (short_input c.args.work c.in-Ok.input c.in-Ok.ensures.within, fails) due)

pub returns-in-Err-NotLegal-clause-complete : goal.returns-in-Err-NotLegal-clause-complete
returns-in-Err-NotLegal-clause-complete g c = λ words status asked due calm_source calm_sink.
    let illegal = c.in-Err-NotLegal.ensures.not_legal c.in-Err-NotLegal.line (ap Err c.in-Err-NotLegal.field-0-is) in
    inl (only_one_status_is_due _ _ _ c.args.work c.in-Ok.input.items (statuses.NotLegal c.in-Err-NotLegal.line) status asked c.in-Ok.ensures.read (short_input c.args.work c.in-Ok.input c.in-Ok.ensures.within, illegal) due)

pub returns-in-Ok-write_all-clause-complete : goal.returns-in-Ok-write_all-clause-complete
returns-in-Ok-write_all-clause-complete g c = λ words status asked due calm_source calm_sink.
    let suits = made_input_suits_work c.args.work c.in-Ok.input.items _ c.in-Ok-made_work.ensures.ok in
    inl (only_one_status_is_due _ _ _ c.args.work c.in-Ok.input.items statuses.Done status asked c.in-Ok.ensures.read (short_input c.args.work c.in-Ok.input c.in-Ok.ensures.within, suits) due)
