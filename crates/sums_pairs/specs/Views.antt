-- What the code's quantities are, in the words of the definitions.
use Rattle.sim0mq.specs.Answer.{Answer, fine, refused, ◌>>=◌}
use Rattle.sums_pairs.specs.Pairs as Q
use Rattle.sums_pairs.specs.Pairs.{relative, absolute, lengths, durations, angles, temperatures}
use Rattle.sums_pairs.specs.declared.Quantity.{Quantity}
use Rattle.sums_pairs.specs.declared.Quantity.TheVariants.{Length, Position, Duration, Time, Angle, Direction, Temperature, AbsoluteTemperature, Other}

-- Each case as a quantity of the definitions; what is none can't be combined (24).
abbrev pub seen : Quantity → Answer Q.Quantity
seen (Length x) = fine (relative lengths x.0)
seen (Position x) = fine (absolute lengths x.0)
seen (Duration x) = fine (relative durations x.0)
seen (Time x) = fine (absolute durations x.0)
seen (Angle x) = fine (relative angles x.0)
seen (Direction x) = fine (absolute angles x.0)
seen (Temperature x) = fine (relative temperatures x.0)
seen (AbsoluteTemperature x) = fine (absolute temperatures x.0)
seen Other = refused 24 0

-- Two of them combined by a rule.
abbrev pub combined : (Q.Quantity → Q.Quantity → Answer Q.Quantity) → Answer Q.Quantity → Answer Q.Quantity → Answer Q.Quantity
combined rule a b = do
  x ← a
  y ← b
  rule x y
