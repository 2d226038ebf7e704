-- The opening of a message (01, "The writer"): what it is judged by, the header that it writes, and what a call of the
-- writer leaves in the buffer.
use Rattle.std.specs.Prelude.{ℕ, zero, suc, ◌+◌, ◌-◌, ◌*◌, ◌^◌, Bool, ◌&&◌, List, ◌++◌, leb, ltb, ℤ, length}
use Rattle.sim0mq.specs.Answer.{Answer, fine, refused, ◌>>=◌, ◌>>◌, guard}
use Rattle.sim0mq.specs.Codes.{width_of}
use Rattle.sim0mq.specs.Field.{after}
use Rattle.sim0mq.specs.Header.{id_codes, count_codes, among, status_taken, fields_taken, frame}
use Rattle.sim0mq.specs.Message.{limit}
use Rattle.sim0mq.specs.Allowed.{frame0}
use Rattle.sim0mq.specs.Table.{placed}
use Rattle.sim0mq_signed.specs.Signed.{bits_of}
use Rattle.writing_puts.specs.Placing.{number_text}

-- The n id frames from `at` on, each where the one before ends (1, 4, 5); after the last no byte is left (13). The
-- answer is the place after them.
unfoldable pub ids_from : List ℕ → ℕ → ℕ → Answer ℕ
ids_from s zero at = do
  guard (leb (length s) at) 13 at
  fine at
ids_from s (suc n) at = do
  f ← frame s id_codes at
  ids_from s n (after f)

-- Does a number of type c, which is signed (000, 2.1), hold n?
unfoldable pub holds : ℕ → ℕ → Bool
holds c n = ltb n (2 ^ (8 * width_of c - 1))

-- The header: frame 0, the four ids, the message number, the status, and the declared number of fields as a number of
-- type c (01, "The eight header frames").
unfoldable pub header_with : List ℕ → ℤ → ℕ → ℕ → ℕ → List ℕ
header_with ids number status c fields =
    frame0 ++ (ids ++ (number_text 3 8 (bits_of 64 number) ++ (number_text 0 1 status ++ number_text c (width_of c) fields)))

-- Text that is written after `written` bytes of a message, in a buffer of `room` bytes: the message stays within the
-- limit (8), and there is room (14).
unfoldable pub fitting : ℕ → ℕ → List ℕ → Answer (List ℕ)
fitting written room text = do
  guard (leb (written + length text) limit) 8 0
  guard (leb (written + length text) room) 14 0
  fine text

-- Opening, in a buffer of `room` bytes: ids, status (6), count type (4), count (7), length (8), room (14); the answer
-- is the header.
unfoldable pub header_given : List ℕ → ℤ → ℕ → ℕ → ℕ → ℕ → Answer (List ℕ)
header_given ids number status c fields room = do
  end ← ids_from ids 4 0
  guard (status_taken status) 6 0
  guard (among c count_codes) 4 0
  guard (fields_taken fields && holds c fields) 7 0
  fitting 0 room (header_with ids number status c fields)

-- The buffer after a call, which on a refusal is as it was.
abbrev pub buffer_after : List ℕ → ℕ → Answer (List ℕ) → List ℕ
buffer_after out at (fine text) = placed out at text
buffer_after out at (refused k p) = out
