use Rattle.std.proofs.Common.{codes}
use Rattle.clap.specs.Words.{found_of}
use Rattle.form_words.proofs.FoundTexts.{flag_of_rows_is_found}
use Rattle.form_words.proofs.setting.Settings.of.Goals as goal

pub returns-clause-flags : goal.returns-clause-flags
returns-clause-flags c = record {
  brief = flag_of_rows_is_found (found_of c.args.matches.now) (codes "brief") c.get_flag.result c.get_flag.ensures.none c.get_flag.ensures.value c.get_flag.ensures.other;
  press = flag_of_rows_is_found (found_of c.args.matches.now) (codes "press") c.get_flag-2.result c.get_flag-2.ensures.none c.get_flag-2.ensures.value c.get_flag-2.ensures.other;
  locked = flag_of_rows_is_found (found_of c.args.matches.now) (codes "locked") c.get_flag-3.result c.get_flag-3.ensures.none c.get_flag-3.ensures.value c.get_flag-3.ensures.other;
}
