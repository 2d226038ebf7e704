-- Two texts, computed: of an accepted message with one field, and of a refusal. Assumes nothing.
use mathlib.Core.Path.{◌≡◌, refl}
use mathlib.Core.List.{[], ◌∷◌, flat_map}
use Rattle.sim0mq.specs.Allowed.{joined}
use Rattle.sim0mq.specs.Table.{row_size}
use Rattle.sim0mq.specs.Message.{enough}
use Rattle.std.specs.Prelude.{Ok, Err}
use Rattle.sim0mq.specs.declared.Reason.TheVariants.{BytesLeft}
use Rattle.programs_pieces.specs.Decimal.{places, decimal}
use Rattle.programs_listing.specs.Text.{ascii, accepted_text, refused_text, numbers_text, row_text, rows_text, whole_text}

accepted : joined (whole_text (Ok (record { length = 77; fields = 1; steps = 9 })) (5 ∷ 68 ∷ 69 ∷ 8 ∷ 0 ∷ 1 ∷ []))
    ≡ ascii "SIM01 fields 1 steps 9 length 77\n0 5 68 69 8 0 1\n"
unfolding places decimal accepted_text numbers_text row_text rows_text enough row_size flat_map
accepted = refl

refused : joined (whole_text (Err (record { place = 32768; reason = BytesLeft })) []) ≡ ascii "refused 13 at 32768\n"
unfolding places decimal refused_text flat_map
refused = refl
