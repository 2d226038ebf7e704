-- The numbers that the format's rows have for the marks of a field code.
use Rattle.std.specs.Prelude.{ℕ}
use Rattle.sim0mq_tables.specs.declared.Marked.{Marked}
use Rattle.sim0mq_tables.specs.declared.Marked.TheVariants.{None, One, PerColumn}

abbrev pub marking_number : Marked → ℕ
marking_number None = 0
marking_number One = 1
marking_number PerColumn = 2
