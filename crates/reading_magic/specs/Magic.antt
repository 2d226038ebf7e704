-- What the parts of frame 0 answer, over the definitions of the format.
use Rattle.std.specs.Prelude.{ℕ, Bool, ◌&&◌, List, length, eqb, leb}
use Rattle.sim0mq.specs.Answer.{Answer, fine, ◌>>◌, guard, big}
use Rattle.sim0mq.specs.Header.{magic_bytes, literal}
use Rattle.sim0mq.specs.Allowed.{frame0}

-- Frame 0 before its digits, and its end where the digits are the edition's.
abbrev pub literal_end : List ℕ → Answer ℕ
literal_end s = literal s magic_bytes 0

unfoldable pub edition_end : ℕ → ℕ → Answer ℕ
edition_end a b = do
  guard (eqb a 48 && eqb b 49) 3 8
  fine 10

-- Are the first ten bytes, as numbers of four, four and two bytes, those of frame 0?
unfoldable pub is_frame0 : List ℕ → Bool
is_frame0 s =
    leb 10 (length s) && eqb (big s 0 4) (big frame0 0 4) && eqb (big s 4 4) (big frame0 4 4) && eqb (big s 8 2) (big frame0 8 2)
