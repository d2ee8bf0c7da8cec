use Rattle.meaning_laws.proofs.laws.entries_leave_the_frame.Goals as goal
use Rattle.meaning_laws.proofs.Frames.{entries_leave_the_frame}

pub returns : goal.returns
returns c = entries_leave_the_frame
