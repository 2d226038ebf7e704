use mathlib.Core.Path.{◌≡◌}
use lib.ListN.{drop}
use Rattle.sim0mq.specs.Header.{literal, magic_bytes}
use Rattle.reading_magic.proofs.literal.Given as goal

abbrev pub invariant-loop-i : goal.invariant-loop-i
invariant-loop-i l = literal l.s magic_bytes 0 ≡ literal l.s (drop l.i magic_bytes) l.i
