-- By the survey, held against the file.
use Rattle.calendar.specs.Limits.{day_length}
use Rattle.kernel_test.proofs.Surveying.{said_number}
use Rattle.kernel_test.proofs.kernel_refusal.Goals as goal

pub returns : goal.returns
returns c = said_number day_length _ c.surveyed.ensures c.file_refusal.ensures
