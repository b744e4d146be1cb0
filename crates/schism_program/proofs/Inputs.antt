-- How much of a source is read for the input of a work.
use Rattle.std.proofs.Common.{ℕ, List, Option}
use Rattle.io_edge.specs.Left.{LosesUpTo}
use Rattle.form_words.specs.declared.work.Work.{Work}
use Rattle.form_words.specs.declared.work.Work.TheVariants.{Play, Run, Check, Plan, Make, Migrate, Crew, Queue}
use Rattle.form_words.specs.Works.{most_bytes, HasInput}
use Rattle.schism_program.specs.Outcome.{IsReadUpTo}

-- a work with an input reads so much of it
pub work_reads_up_to_limit : (work : Work) (left left' : Option (List ℕ)) → HasInput work → LosesUpTo left left' (most_bytes work) → IsReadUpTo work left left'
work_reads_up_to_limit (Play pace brief press) left left' reads lost = lost
work_reads_up_to_limit (Run pace locked patience) left left' reads lost = lost
work_reads_up_to_limit Check left left' reads lost = lost
work_reads_up_to_limit Plan left left' reads lost = lost
work_reads_up_to_limit (Make start seats lines) left left' reads lost = absurd reads
work_reads_up_to_limit (Migrate kind) left left' reads lost = lost
work_reads_up_to_limit (Crew history) left left' reads lost = lost
work_reads_up_to_limit Queue left left' reads lost = lost
