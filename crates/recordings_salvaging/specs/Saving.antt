-- What salvage answers, as the definitions have it, and what the code has found where it writes.
use Rattle.std.specs.Prelude.{◌≡◌, List, ℕ, take, Result}
use Rattle.sim0mq.specs.Answer.{Answer}
use Rattle.sim0mq.specs.Views.{said_as}
use Rattle.sim0mq.specs.declared.Refusal.{Refusal}
use Rattle.recordings_fronts.specs.Fronts.{stop_of, divided_as, divided_of}
use Rattle.recordings_fronts.specs.declared.Divided.{Divided}
use Rattle.recordings_format.specs.Edition.{newest}
use Rattle.recordings_salvaging.specs.Salvage as S
use Rattle.recordings_salvaging.specs.Salvage.{rescued}
use Rattle.recordings_salvaging.specs.declared.Report.{Report}

abbrev pub report_as : Report → S.Report
report_as r = record { bytes = r.length; kept = r.kept; dropped = r.dropped; stop = stop_of r.stop }

abbrev pub salvaged_as : Result Report Refusal → Answer S.Report
salvaged_as r = said_as report_as r

-- The division is that of the file, and its lengths are the first of these.
pub record Saveable (s : List ℕ) (d : Divided) (lengths : List ℕ) : Type 0 where
  pub says : divided_as d ≡ divided_of (rescued newest s)
  pub kept : take d.count lengths ≡ (rescued newest s).lengths
