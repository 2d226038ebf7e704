-- What dividing some bytes answers, over a run of the definitions.
use Rattle.std.specs.Prelude.{ℕ, length}
use Rattle.sim0mq.specs.Views.{number_of}
use Rattle.dividing.specs.Run as R
use Rattle.dividing.specs.Run.{total}
use Rattle.recordings_fronts.specs.declared.Stop.{Stop}
use Rattle.recordings_fronts.specs.declared.Stop.TheVariants.{AtEnd, AtMost, AtFault}
use Rattle.recordings_fronts.specs.declared.Divided as D

-- Each reason to stop, as the definitions have it.
abbrev pub stop_of : Stop → R.Stop
stop_of AtEnd = R.at_end
stop_of AtMost = R.at_most
stop_of (AtFault r) = R.at_fault (number_of r.reason) r.place

-- The number of messages, the place after them, and why they are no more: what the code answers, and what a run says.
pub record Divided : Type 0 where
  pub count : ℕ
  pub end : ℕ
  pub stop : R.Stop

abbrev pub divided_as : D.Divided → Divided
divided_as d = record { count = d.count; end = d.end; stop = stop_of d.stop }

abbrev pub divided_of : R.Run → Divided
divided_of r = record { count = length r.lengths; end = total r.lengths; stop = r.stop }
