-- Each case is told with its own unit type.
use mathlib.Core.Path.{ap}
use Rattle.asking_scalars.specs.Scalars.{valued}
use Rattle.sums.specs.Views.{shown_as, resulting}
use Rattle.sums.proofs.result.Goals as goal

pub returns-in-Length : goal.returns-in-Length
unfolding shown_as resulting
returns-in-Length c = rw c.in-Length.is c.told.ensures

pub returns-in-Position : goal.returns-in-Position
unfolding shown_as resulting
returns-in-Position c = rw c.in-Position.is c.told-in-Position.ensures

pub returns-in-Duration : goal.returns-in-Duration
unfolding shown_as resulting
returns-in-Duration c = rw c.in-Duration.is c.told-in-Duration.ensures

pub returns-in-Time : goal.returns-in-Time
unfolding shown_as resulting
returns-in-Time c = rw c.in-Time.is c.told-in-Time.ensures

pub returns-in-Angle : goal.returns-in-Angle
unfolding shown_as resulting
returns-in-Angle c = rw c.in-Angle.is c.told-in-Angle.ensures

pub returns-in-Direction : goal.returns-in-Direction
unfolding shown_as resulting
returns-in-Direction c = rw c.in-Direction.is c.told-in-Direction.ensures

pub returns-in-Temperature : goal.returns-in-Temperature
unfolding shown_as resulting
returns-in-Temperature c = rw c.in-Temperature.is c.told-in-Temperature.ensures

pub returns-in-AbsoluteTemperature : goal.returns-in-AbsoluteTemperature
unfolding shown_as resulting
returns-in-AbsoluteTemperature c = rw c.in-AbsoluteTemperature.is c.told-in-AbsoluteTemperature.ensures

pub returns-in-Other : goal.returns-in-Other
unfolding resulting
returns-in-Other c = rw c.in-Other.is (ap valued c.refuse.ensures)
