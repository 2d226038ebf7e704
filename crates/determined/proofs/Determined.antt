-- The contract of a public call is an equation for its result and for each buffer that it may write, so any two
-- outcomes that it allows are equal.
use Prim.Native.Nat.{ℕ}
use mathlib.Core.Path.{◌≡◌, refl, ap, sym, ◌∙◌, subst}
use mathlib.Core.Bool.{cond}
use lib.Dec.{eqb}
use Rattle.determining.specs.Outcomes.{Determines}
use Rattle.determining.proofs.Equations.{determined, equated}
use denote.RattleType.{RattleType}
use denote.Param.Laws.{Laws, IsCopy}
use mir.Syntax.{Dict}
use Rattle.std.specs.Prelude.{Result, Option, Some, None}
use Rattle.std.specs.declared.clone.Clone as Clone
use Rattle.std.below.core.specs.contracts.clone.Clone+copy.TheImpl as Copied
use Rattle.sim0mq.specs.Answer.{Answer, fine, refused}
use Rattle.sim0mq.specs.Views.{number_of, said_as, judged}
use Rattle.sim0mq.specs.declared.Refusal.{Refusal}
use Rattle.sim0mq.proofs.Answers.{not_fine, fine_eq}
use Rattle.sim0mq.proofs.Passing.{number_apart, said_apart}
use Rattle.sim0mq_tables.specs.Markings.{marking_number}
use Rattle.sim0mq_tables.specs.declared.Marked.{Marked}
use Rattle.sim0mq_tables.specs.declared.Marked.TheVariants as Marked
use Rattle.reading_heads.specs.Heads.{head_in, headed}
use Rattle.reading_heads.specs.declared.Asked.{Asked}
use Rattle.reading_fields.specs.Items as Items
use Rattle.reading_fields.specs.Items.{fielded}
use Rattle.reading_fields.specs.declared.Field.{Field}
use Rattle.reading_header.specs.Frames.{told_as}
use Rattle.reading_header.specs.declared.Answer as Header
use Rattle.reading.specs.Answers.{answer_as}
use Rattle.reading.specs.declared.Answer as Reading
use Rattle.asking_scalars.specs.Scalars.{valued}
use Rattle.sim0mq_kinds.specs.declared.Scalar.{Scalar}
use Rattle.recordings_index.specs.Index.{trailer_as, trailed_as}
use Rattle.recordings_index.specs.declared.Trailer.{Trailer}
use Rattle.recordings_index.specs.declared.Placed.{Placed}
use Rattle.recordings_index.specs.Tail.{there, wanted}
use Rattle.recordings_index.specs.Tail as Tail
use Rattle.recordings_index.specs.Index.{reached_as}
use Rattle.recordings_index.specs.declared.Reached.{Reached}
use Rattle.recordings_index.specs.declared.Reached.TheVariants.{Found, Wrong, Wanted}
use Rattle.recordings.specs.Recordings.{placed_as, asked_as}
use Rattle.recordings_reaching.specs.Reaching.{reached_of, reaching_as}
use Rattle.recordings_reaching.specs.declared.Reaching.{Reaching}
use Rattle.recordings_reaching.specs.declared.Reaching.TheVariants as Reaching
use Rattle.recordings_fronts.specs.Fronts.{stop_of, divided_as}
use Rattle.recordings_fronts.specs.declared.Stop.{Stop}
use Rattle.recordings_fronts.specs.declared.Stop.TheVariants as Stop
use Rattle.recordings_fronts.specs.declared.Divided.{Divided}
use Rattle.recordings_writing.specs.Recorder as Recorder
use Rattle.recordings_writing.specs.declared.Recorded.{Recorded}
use Rattle.recordings_salvaging.specs.Saving.{report_as, salvaged_as}
use Rattle.recordings_salvaging.specs.declared.Report.{Report}
use Rattle.writing.specs.Writing.{wrote_as}
use Rattle.writing.specs.declared.Wrote.{Wrote}
use Rattle.senders.specs.Senders.{took_as}
use Rattle.senders.specs.declared.Taken.{Taken}
use Rattle.ledger.specs.Ledger.{mustered_as}
use Rattle.ledger.specs.declared.Mustered.{Mustered}
use Rattle.ledger_recordings.specs.Reckoning.{comes_as}
use Rattle.ledger_recordings.specs.declared.Reckoned.{Reckoned}
use Rattle.ledger_judging.specs.Judging.{ordered}
use Rattle.ledger_decks.specs.declared.Deed.{Deed}
use Rattle.commands.specs.Names.{command_as}
use Rattle.commands.specs.Names as Commands
use Rattle.commands.specs.declared.Name.{Name}
use Rattle.commands.proofs.NameLaws.{same_name}
use Rattle.sums_pairs.specs.Pairs as Pairs
use Rattle.sums_pairs.specs.Pairs.{relative, absolute}
use Rattle.sums_pairs.specs.Views.{seen}
use Rattle.sums_pairs.specs.declared.Quantity.{Quantity}
use Rattle.sums_pairs.specs.declared.Quantity.TheVariants.{Other}
use Rattle.sums_pairs.specs.declared.Quantity.TheVariants as Q
use Rattle.sim0mq.proofs.refuse.Reads as sim0mq_refuse
use Rattle.sim0mq.proofs.Reason.number.Reads as reason_number
use Rattle.reading_parts.proofs.part.Reads as part
use Rattle.reading_parts.proofs.part_from.Reads as part_from
use Rattle.reading_parts.proofs.keep_lead.Reads as keep_lead
use Rattle.reading_runs.proofs.run_at.Reads as run_at
use Rattle.reading_payload.proofs.payload.Reads as payload
use Rattle.reading_heads.proofs.head.Reads as head
use Rattle.reading_values.proofs.size.Reads as size
use Rattle.reading_values.proofs.values.Reads as values
use Rattle.reading_fields.proofs.outline.Reads as outline
use Rattle.sim0mq_marks.proofs.mark.Reads as mark
use Rattle.sim0mq_marks.proofs.mark_by.Reads as mark_by
use Rattle.sim0mq_marks.proofs.marks.Reads as marks
use Rattle.sim0mq_displays.proofs.currency_taken.Reads as currency_taken
use Rattle.sim0mq_displays.proofs.display_taken.Reads as display_taken
use Rattle.sim0mq_numbers.proofs.wide.Reads as wide
use Rattle.sim0mq_numbers.proofs.wide32.Reads as wide32
use Rattle.sim0mq_numbers.proofs.number.Reads as number
use Rattle.sim0mq_numbers.proofs.count.Reads as count
use Rattle.sim0mq_buffers.proofs.put.Reads as put_text
use Rattle.sim0mq_buffers.proofs.clear.Reads as clear
use Rattle.sim0mq_tables.proofs.counts.Reads as counts
use Rattle.sim0mq_tables.proofs.marking.Reads as marking
use Rattle.sim0mq_tables.proofs.width.Reads as width
use Rattle.sim0mq_tables.proofs.last.Reads as last
use Rattle.sim0mq_tables.proofs.lasts.Reads as lasts
use Rattle.sim0mq_tables.proofs.per.Reads as per
use Rattle.reading_magic.proofs.magic.Reads as magic
use Rattle.reading_header.proofs.header.Reads as header
use Rattle.reading_header.proofs.id.Reads as id
use Rattle.reading_front.proofs.opened.Reads as opened
use Rattle.reading.proofs.read.Reads as read
use Rattle.reading.proofs.judge.Reads as judge
use Rattle.asking.proofs.ask.Reads as ask
use Rattle.asking.proofs.view.Reads as view
use Rattle.asking_scalars.proofs.value.Reads as value
use Rattle.sim0mq_signed.proofs.i8_of.Reads as i8_of
use Rattle.sim0mq_signed.proofs.i16_of.Reads as i16_of
use Rattle.sim0mq_signed.proofs.i32_of.Reads as i32_of
use Rattle.sim0mq_signed.proofs.i64_of.Reads as i64_of
use Rattle.sim0mq_kinds.proofs.float_of.Reads as float_of
use Rattle.sim0mq_kinds.proofs.double_of.Reads as double_of
use Rattle.sim0mq_kinds.proofs.float_with.Reads as float_with
use Rattle.sim0mq_kinds.proofs.double_with.Reads as double_with
use Rattle.blanking.proofs.blank.Reads as blank
use Rattle.writing_opening.proofs.write_header.Reads as write_header
use Rattle.writing.proofs.Writer.open.Reads as opening
use Rattle.writing.proofs.Writer.add.Reads as add
use Rattle.writing.proofs.Writer.add_scalar.Reads as add_scalar
use Rattle.writing.proofs.Writer.close.Reads as close
use Rattle.recordings_index.proofs.index.Reads as index
use Rattle.recordings_index.proofs.index_tail.Reads as index_tail
use Rattle.recordings_index.proofs.Trailer.entry.Reads as trailer_entry
use Rattle.recordings.proofs.open.Reads as recording_open
use Rattle.recordings.proofs.open_into.Reads as open_into
use Rattle.recordings.proofs.ask.Reads as recording_ask
use Rattle.recordings_reaching.proofs.ask_tail.Reads as ask_tail
use Rattle.recordings_fronts.proofs.front_length.Reads as front_length
use Rattle.recordings_fronts.proofs.divide.Reads as divide
use Rattle.recordings_tails.proofs.put_tail.Reads as put_tail
use Rattle.recordings_writing.proofs.Recorder.new.Reads as recorder_new
use Rattle.recordings_writing.proofs.Recorder.add.Reads as recorder_add
use Rattle.recordings_writing.proofs.Recorder.close.Reads as recorder_close
use Rattle.recordings_salvaging.proofs.salvage.Reads as salvage
use Rattle.recordings_blanking.proofs.blank_recording.Reads as blank_recording
use Rattle.commands.proofs.command.Reads as command
use Rattle.senders_lookup.proofs.place_of.Reads as place_of
use Rattle.senders_lookup.proofs.free_place.Reads as free_place
use Rattle.senders.proofs.empty.Reads as book_empty
use Rattle.senders.proofs.take_framed.Reads as take_framed
use Rattle.senders.proofs.take.Reads as book_take
use Rattle.senders.proofs.close.Reads as book_close
use Rattle.ledger_judging.proofs.order.Reads as order
use Rattle.ledger.proofs.empty.Reads as ledger_empty
use Rattle.ledger.proofs.muster_framed.Reads as muster_framed
use Rattle.ledger.proofs.muster.Reads as muster
use Rattle.ledger_recordings.proofs.reckon.Reads as reckon
use Rattle.writing_puts.proofs.bits.Reads as bits
use Rattle.writing_puts.proofs.put_big.Reads as put_big
use Rattle.writing_puts.proofs.put_number.Reads as put_number
use Rattle.writing_encoding.proofs.encode.Reads as encode
use Rattle.writing_encoding.proofs.mark_taken.Reads as mark_taken
use Rattle.boundary_crossing.proofs.give_read.Reads as give_read
use Rattle.boundary_crossing.proofs.give_length.Reads as give_length
use Rattle.boundary_crossing.proofs.give_view.Reads as give_view
use Rattle.boundary_writer_crossing.proofs.give_wrote.Reads as give_wrote
use Rattle.boundary_writer_crossing.proofs.writer_of.Reads as writer_of
use Rattle.boundary_writer_crossing.proofs.count_type.Reads as count_type
use Rattle.sums_quantities.specs.declared.quantity.Quantity as Number
use Rattle.sums_quantities.specs.declared.relative.Relative as Relative
use Rattle.sums_quantities.specs.declared.absolute.Absolute as Absolute
use Rattle.sums_quantities.specs.contracts.lengths as lengths
use Rattle.sums_quantities.specs.contracts.durations as durations
use Rattle.sums_quantities.specs.contracts.angles as angles
use Rattle.sums_quantities.specs.contracts.temperatures as temperatures
use Rattle.sums_quantities.proofs.lengths as lengths_laws
use Rattle.sums_quantities.proofs.durations as durations_laws
use Rattle.sums_quantities.proofs.angles as angles_laws
use Rattle.sums_quantities.proofs.temperatures as temperatures_laws
use Rattle.sums_quantities.proofs.quantity.Quantity.of.Reads as quantity_of_number
use Rattle.sums_quantities.proofs.quantity.Quantity.shown.Reads as quantity_shown
use Rattle.sums_quantities.proofs.relative.Relative.plus.Reads as relative_plus
use Rattle.sums_quantities.proofs.relative.Relative.plus_absolute.Reads as relative_plus_absolute
use Rattle.sums_quantities.proofs.relative.Relative.less.Reads as relative_less
use Rattle.sums_quantities.proofs.absolute.Absolute.plus.Reads as absolute_plus
use Rattle.sums_quantities.proofs.absolute.Absolute.less.Reads as absolute_less
use Rattle.sums_quantities.proofs.absolute.Absolute.less_absolute.Reads as absolute_less_absolute
use Rattle.sums_quantities.proofs.shown.plus.Reads as shown_plus
use Rattle.sums_quantities.proofs.shown.less.Reads as shown_less
use Rattle.sums_pairs.proofs.quantity_of.Reads as quantity_of
use Rattle.sums_pairs.proofs.add.Reads as add_quantities
use Rattle.sums_pairs.proofs.subtract.Reads as subtract_quantities
use Rattle.sums.proofs.sum.Reads as sum
use Rattle.sums.proofs.difference.Reads as difference
use Rattle.boundary_casting.proofs.give_value.Reads as give_value
use Rattle.boundary_casting.proofs.scalar_from.Reads as scalar_from
use Rattle.boundary_giving.proofs.give.Reads as give
use Rattle.boundary_exports.proofs.sim0mq_read.Reads as c_read
use Rattle.boundary_exports.proofs.sim0mq_judge.Reads as c_judge
use Rattle.boundary_exports.proofs.sim0mq_value.Reads as c_value
use Rattle.boundary_exports.proofs.sim0mq_view.Reads as c_view
use Rattle.boundary_exports.proofs.sim0mq_blank.Reads as c_blank
use Rattle.boundary_writer_exports.proofs.sim0mq_open.Reads as c_open
use Rattle.boundary_writer_exports.proofs.sim0mq_add.Reads as c_add
use Rattle.boundary_writer_exports.proofs.sim0mq_add_scalar.Reads as c_add_scalar
use Rattle.boundary_writer_exports.proofs.sim0mq_close.Reads as c_close
use Rattle.boundary_recordings.proofs.sim0mq_recording_open.Reads as c_recording_open
use Rattle.boundary_recordings.proofs.sim0mq_recording_open_into.Reads as c_recording_open_into
use Rattle.boundary_recordings.proofs.sim0mq_recording_ask.Reads as c_recording_ask
use Rattle.boundary_recordings.proofs.sim0mq_salvage.Reads as c_salvage
use Rattle.boundary_commands.proofs.sim0mq_command.Reads as c_command
use Rattle.boundary_recorder.proofs.sim0mq_recording_add.Reads as c_recording_add
use Rattle.boundary_recorder.proofs.sim0mq_recording_close.Reads as c_recording_close
use Rattle.boundary_sums.proofs.sim0mq_sum.Reads as c_sum
use Rattle.boundary_sums.proofs.sim0mq_difference.Reads as c_difference
use Rattle.boundary_books.proofs.book_of.Reads as book_of
use Rattle.boundary_books.proofs.put_book.Reads as put_book
use Rattle.boundary_senders.proofs.sim0mq_take.Reads as c_take
use Rattle.boundary_senders.proofs.sim0mq_close_sender.Reads as c_close_sender
use Rattle.boundary_ledger.proofs.sim0mq_muster.Reads as c_muster
use Rattle.boundary_ledger.proofs.sim0mq_reckon.Reads as c_reckon
use Rattle.programs_pieces.proofs.put.Reads as put
use Rattle.programs_pieces.proofs.number.Reads as decimal
use Rattle.programs_listing.proofs.listing.Reads as listing
use Rattle.programs_listing.proofs.first_line.Reads as first_line

-- The call named NAME above has such a theorem of its result, NAME_result, and of each buffer that it may write, by the
-- parameter's name; tools/public-calls looks for them.

-- The views of answers tell them apart: a value by what is seen of it, a refusal by its number and its place.
judged_apart : (x y : Result ℕ Refusal) → judged x ≡ judged y → x ≡ y
judged_apart x y e = said_apart (λ n. n) (λ n m q. q) x y e

headed_apart : (x y : Result Asked Refusal) → headed x ≡ headed y → x ≡ y
headed_apart x y e =
    said_apart head_in (λ f g s i. record { code = (s i).code; values = (s i).values; marked = (s i).marked; next = (s i).next }) x y e

fielded_apart : (x y : Result Field Refusal) → fielded x ≡ fielded y → x ≡ y
fielded_apart x y e =
    said_apart Items.seen
    (λ f g s i. record { code = (s i).code; place = (s i).place; first = (s i).first; size = (s i).size; marked = (s i).marked; values = (s i).values })
    x y e

valued_apart : (x y : Result Scalar Refusal) → valued x ≡ valued y → x ≡ y
valued_apart x y e = said_apart (λ v. v) (λ v w q. q) x y e

told_apart : (x y : Header.Answer) → told_as x ≡ told_as y → x ≡ y
told_apart x y e = λ i. record { said = said_apart (λ v. v) (λ v w q. q) x.said y.said (λ j. (e j).said) i; frames = (e i).frames }

answer_apart : (x y : Reading.Answer) → answer_as x ≡ answer_as y → x ≡ y
answer_apart x y e = λ i. record { said = said_apart (λ v. v) (λ v w q. q) x.said y.said (λ j. (e j).said) i; frames = (e i).frames }

-- The marks of a field code are found again by their number.
marked_again : ℕ → Marked
marked_again n = cond (eqb n 0) Marked.None (cond (eqb n 1) Marked.One Marked.PerColumn)

marked_found : (m : Marked) → marked_again (marking_number m) ≡ m
unfolding marked_again
marked_found Marked.None = refl
marked_found Marked.One = refl
marked_found Marked.PerColumn = refl

marked_apart : (x y : Marked) → marking_number x ≡ marking_number y → x ≡ y
marked_apart x y e = sym (marked_found x) ∙ ap marked_again e ∙ marked_found y

-- A trailer is told by what the definitions have of it.
trailer_apart : (t u : Trailer) → trailer_as t ≡ trailer_as u → t ≡ u
trailer_apart t u s =
    λ i.
    record {
      edition =
          record { number = (s i).edition.number; wide = (s i).edition.length_bytes; most = (s i).edition.most };
      place = (s i).place;
      entries = (s i).entries;
    }

trailed_apart : (x y : Option Trailer) → trailed_as x ≡ trailed_as y → x ≡ y
trailed_apart (Some t) (Some u) e = ap Some (trailer_apart t u (fine_eq e))
trailed_apart (Some t) None e = absurd (not_fine (sym e))
trailed_apart None (Some t) e = absurd (not_fine e)
trailed_apart None None e = refl

-- what was reached and what is wanted are not the same
abbrev is_there : {A : Type 0} → Tail.Reached A → Type 0
is_there (there a) = Unit {0}
is_there (wanted w) = ⊥

not_there : {A : Type 0} {w : ℕ} {a : A} → wanted w ≡ there a → ⊥
not_there {A} e = subst (λ (x : Tail.Reached A). is_there x) (sym e) tt

there_eq : {A : Type 0} {a b : A} → ◌≡◌ {A = Tail.Reached A} (there a) (there b) → a ≡ b
there_eq e = cc

wanted_eq : {A : Type 0} {u v : ℕ} → ◌≡◌ {A = Tail.Reached A} (wanted u) (wanted v) → u ≡ v
wanted_eq e = cc

reached_apart : (x y : Reached) → reached_as x ≡ reached_as y → x ≡ y
reached_apart (Found t) (Found u) e = ap Found (trailer_apart t u (there_eq (fine_eq e)))
reached_apart (Found t) Wrong e = absurd (not_fine (sym e))
reached_apart (Found t) (Wanted w) e = absurd (not_there (sym (fine_eq e)))
reached_apart Wrong (Found t) e = absurd (not_fine e)
reached_apart Wrong Wrong e = refl
reached_apart Wrong (Wanted w) e = absurd (not_fine e)
reached_apart (Wanted w) (Found t) e = absurd (not_there (fine_eq e))
reached_apart (Wanted w) Wrong e = absurd (not_fine (sym e))
reached_apart (Wanted w) (Wanted v) e = ap Wanted (wanted_eq (fine_eq e))

placed_apart : (p q : Placed) → placed_as p ≡ placed_as q → p ≡ q
placed_apart p q s = λ i. record { start = (s i).start; length = (s i).size }

asked_apart : (x y : Result Placed Refusal) → asked_as x ≡ asked_as y → x ≡ y
asked_apart x y e = said_apart placed_as placed_apart x y e

-- Where a message stands, or what is wanted.
reached_of_apart : (x y : Reaching) → reached_of x ≡ reached_of y → x ≡ y
reached_of_apart (Reaching.At p) (Reaching.At q) e = ap Reaching.At (placed_apart p q (there_eq e))
reached_of_apart (Reaching.At p) (Reaching.Wanted w) e = absurd (not_there (sym e))
reached_of_apart (Reaching.Wanted w) (Reaching.At q) e = absurd (not_there e)
reached_of_apart (Reaching.Wanted w) (Reaching.Wanted v) e = ap Reaching.Wanted (wanted_eq e)

reaching_apart : (x y : Result Reaching Refusal) → reaching_as x ≡ reaching_as y → x ≡ y
reaching_apart x y e = said_apart reached_of reached_of_apart x y e

-- Why a run stopped: a fault by its number and its place.
stop_apart : (x y : Stop) → stop_of x ≡ stop_of y → x ≡ y
stop_apart Stop.AtEnd Stop.AtEnd e = refl
stop_apart Stop.AtEnd Stop.AtMost e = cc
stop_apart Stop.AtEnd (Stop.AtFault r) e = cc
stop_apart Stop.AtMost Stop.AtEnd e = cc
stop_apart Stop.AtMost Stop.AtMost e = refl
stop_apart Stop.AtMost (Stop.AtFault r) e = cc
stop_apart (Stop.AtFault r) Stop.AtEnd e = cc
stop_apart (Stop.AtFault r) Stop.AtMost e = cc
stop_apart (Stop.AtFault r) (Stop.AtFault s) e =
    let number : number_of r.reason ≡ number_of s.reason = cc in
    let place : r.place ≡ s.place = cc in
    λ i. Stop.AtFault (record { place = place i; reason = number_apart r.reason s.reason number i })

divided_apart : (x y : Divided) → divided_as x ≡ divided_as y → x ≡ y
divided_apart x y e = λ i. record { count = (e i).count; end = (e i).end; stop = stop_apart x.stop y.stop (λ j. (e j).stop) i }

report_apart : (x y : Report) → report_as x ≡ report_as y → x ≡ y
report_apart x y e =
    λ i. record { length = (e i).bytes; kept = (e i).kept; dropped = (e i).dropped; stop = stop_apart x.stop y.stop (λ j. (e j).stop) i }

salvaged_apart : (x y : Result Report Refusal) → salvaged_as x ≡ salvaged_as y → x ≡ y
salvaged_apart x y e = said_apart report_as report_apart x y e

-- What a call says, and the state that it hands back.
recorded_apart : (x y : Recorded) → Recorder.told_as x ≡ Recorder.told_as y → x ≡ y
recorded_apart x y e = λ i. record { said = judged_apart x.said y.said (λ j. (e j).said) i; recorder = (e i).recorder }

wrote_apart : (x y : Wrote) → wrote_as x ≡ wrote_as y → x ≡ y
wrote_apart x y e = λ i. record { said = judged_apart x.said y.said (λ j. (e j).said) i; writer = (e i).writer }

took_apart : (x y : Taken) → took_as x ≡ took_as y → x ≡ y
took_apart x y e = λ i. record { said = judged_apart x.said y.said (λ j. (e j).said) i; book = (e i).book }

mustered_apart : (x y : Mustered) → mustered_as x ≡ mustered_as y → x ≡ y
mustered_apart x y e =
    λ i. record { said = judged_apart x.said y.said (λ j. (e j).said) i; ledger = (e i).ledger; book = (e i).book }

reckoned_apart : (x y : Reckoned) → comes_as x ≡ comes_as y → x ≡ y
reckoned_apart x y e =
    λ i. record { said = judged_apart x.said y.said (λ j. (e j).said) i; refused = (e i).refused; ledger = (e i).ledger }

ordered_apart : (x y : Result Deed Refusal) → ordered x ≡ ordered y → x ≡ y
ordered_apart x y e = said_apart (λ d. d) (λ d f q. q) x y e

command_apart : (x y : Result Name Refusal) → command_as x ≡ command_as y → x ≡ y
command_apart x y e = said_apart Commands.number_of same_name x y e

-- A quantity of the pairs is found again from what is seen of it: by its unit type, and its number.
again : Answer Pairs.Quantity → Quantity
again (fine (relative p x)) =
    cond (eqb p.relative_unit 16) (Q.Length (record { 0 = x }))
    (cond (eqb p.relative_unit 25) (Q.Duration (record { 0 = x }))
    (cond (eqb p.relative_unit 3) (Q.Angle (record { 0 = x })) (Q.Temperature (record { 0 = x }))))
again (fine (absolute p x)) =
    cond (eqb p.absolute_unit 17) (Q.Position (record { 0 = x }))
    (cond (eqb p.absolute_unit 26) (Q.Time (record { 0 = x }))
    (cond (eqb p.absolute_unit 4) (Q.Direction (record { 0 = x })) (Q.AbsoluteTemperature (record { 0 = x }))))
again (refused k p) = Other

found_again : (q : Quantity) → again (seen q) ≡ q
unfolding again
found_again (Q.Length x) = refl
found_again (Q.Position x) = refl
found_again (Q.Duration x) = refl
found_again (Q.Time x) = refl
found_again (Q.Angle x) = refl
found_again (Q.Direction x) = refl
found_again (Q.Temperature x) = refl
found_again (Q.AbsoluteTemperature x) = refl
found_again Other = refl

seen_apart : (x y : Quantity) → seen x ≡ seen y → x ≡ y
seen_apart x y e = sym (found_again x) ∙ ap again e ∙ found_again y

-- The calls of crate sim0mq.
pub reason_number_result : Determines reason_number.Post (λ κs z e. z)
reason_number_result = equated _ (λ κs a z e p. p)

module _ (T : RattleType) (laws : Laws T) where
  pub sim0mq_refuse_result : Determines (sim0mq_refuse.Post T laws) (λ κs z e. z)
  sim0mq_refuse_result = equated _ (λ κs a z e p. p)

-- The calls of crate tables.
pub counts_result : Determines counts.Post (λ κs z e. z)
counts_result = equated _ (λ κs a z e p. p)

pub marking_result : Determines marking.Post (λ κs z e. z)
marking_result = determined (λ κs. marking_number) (λ κs. marked_apart) _ (λ κs a z e p. p)

pub width_result : Determines width.Post (λ κs z e. z)
width_result = equated _ (λ κs a z e p. p)

pub last_result : Determines last.Post (λ κs z e. z)
last_result = equated _ (λ κs a z e p. p)

pub lasts_result : Determines lasts.Post (λ κs z e. z)
lasts_result = equated _ (λ κs a z e p. p)

pub per_result : Determines per.Post (λ κs z e. z)
per_result = equated _ (λ κs a z e p. p)

-- The calls of crate numbers.
pub wide_result : Determines wide.Post (λ κs z e. z)
wide_result = equated _ (λ κs a z e p. p.0)

pub wide32_result : Determines wide32.Post (λ κs z e. z)
wide32_result = equated _ (λ κs a z e p. p.0)

pub number_result : Determines number.Post (λ κs z e. z)
number_result = equated _ (λ κs a z e p. p.0)

pub count_result : Determines count.Post (λ κs z e. z)
count_result = determined (λ κs. judged) (λ κs. judged_apart) _ (λ κs a z e p. p.0)

-- The calls of crate buffers.
pub put_text_out : Determines put_text.Post (λ κs z e. e.1.0.now)
put_text_out = equated _ (λ κs a z e p. p)

pub clear_out : Determines clear.Post (λ κs z e. e.0.now)
clear_out = equated _ (λ κs a z e p. p)

-- The calls of crate displays.
pub currency_taken_result : Determines currency_taken.Post (λ κs z e. z)
currency_taken_result = equated _ (λ κs a z e p. p)

pub display_taken_result : Determines display_taken.Post (λ κs z e. z)
display_taken_result = equated _ (λ κs a z e p. p)

-- The calls of crate marks.
pub mark_result : Determines mark.Post (λ κs z e. z)
mark_result = determined (λ κs. judged) (λ κs. judged_apart) _ (λ κs a z e p. p)

pub mark_by_result : Determines mark_by.Post (λ κs z e. z)
mark_by_result = determined (λ κs. judged) (λ κs. judged_apart) _ (λ κs a z e p. p)

pub marks_result : Determines marks.Post (λ κs z e. z)
marks_result = determined (λ κs. judged) (λ κs. judged_apart) _ (λ κs a z e p. p)

-- The call of crate heads.
pub head_result : Determines head.Post (λ κs z e. z)
head_result = determined (λ κs. headed) (λ κs. headed_apart) _ (λ κs a z e p. p)

-- The calls of crate values.
pub size_result : Determines size.Post (λ κs z e. z)
size_result = determined (λ κs. judged) (λ κs. judged_apart) _ (λ κs a z e p. p)

pub values_result : Determines values.Post (λ κs z e. z)
values_result = determined (λ κs. judged) (λ κs. judged_apart) _ (λ κs a z e p. p)

-- The call of crate fields.
pub outline_result : Determines outline.Post (λ κs z e. z)
outline_result = determined (λ κs. fielded) (λ κs. fielded_apart) _ (λ κs a z e p. p)

-- The call of crate runs.
pub run_at_result : Determines run_at.Post (λ κs z e. z)
run_at_result = equated _ (λ κs a z e p. p)

-- The calls of crate parts.
pub part_from_result : Determines part_from.Post (λ κs z e. z)
part_from_result = determined (λ κs. judged) (λ κs. judged_apart) _ (λ κs a z e p. p.0.0)

pub part_from_kept : Determines part_from.Post (λ κs z e. e.1.1.1.1.1.0.now)
part_from_kept = equated _ (λ κs a z e p. p.1)

pub keep_lead_kept : Determines keep_lead.Post (λ κs z e. e.0.now)
keep_lead_kept = equated _ (λ κs a z e p. p)

pub part_result : Determines part.Post (λ κs z e. z)
part_result = determined (λ κs. judged) (λ κs. judged_apart) _ (λ κs a z e p. p.0.0)

pub part_kept : Determines part.Post (λ κs z e. e.1.1.1.1.0.now)
part_kept = equated _ (λ κs a z e p. p.1)

-- The call of crate payload.
pub payload_result : Determines payload.Post (λ κs z e. z)
payload_result = determined (λ κs. judged) (λ κs. judged_apart) _ (λ κs a z e p. p.0.0)

pub payload_kept : Determines payload.Post (λ κs z e. e.1.1.1.1.0.now)
payload_kept = equated _ (λ κs a z e p. p.1)

-- The call of crate magic.
pub magic_result : Determines magic.Post (λ κs z e. z)
magic_result = determined (λ κs. judged) (λ κs. judged_apart) _ (λ κs a z e p. p)

-- The calls of crate header.
pub header_result : Determines header.Post (λ κs z e. z)
header_result = determined (λ κs. told_as) (λ κs. told_apart) _ (λ κs a z e p. p)

pub id_result : Determines id.Post (λ κs z e. z)
id_result = determined (λ κs. fielded) (λ κs. fielded_apart) _ (λ κs a z e p. p)

-- The calls of crates front and reading.
pub opened_result : Determines opened.Post (λ κs z e. z)
opened_result = determined (λ κs. told_as) (λ κs. told_apart) _ (λ κs a z e p. p)

pub read_result : Determines read.Post (λ κs z e. z)
read_result = determined (λ κs. answer_as) (λ κs. answer_apart) _ (λ κs a z e p. p.0)

pub read_table : Determines read.Post (λ κs z e. e.1.0.now)
read_table = equated _ (λ κs a z e p. p.1)

pub judge_result : Determines judge.Post (λ κs z e. z)
judge_result = determined (λ κs. answer_as) (λ κs. answer_apart) _ (λ κs a z e p. p)

-- The calls of crate asking.
pub ask_result : Determines ask.Post (λ κs z e. z)
ask_result = determined (λ κs. fielded) (λ κs. fielded_apart) _ (λ κs a z e p. p)

pub view_result : Determines view.Post (λ κs z e. z.now)
view_result = equated _ (λ κs a z e p. p.0)

pub view_part : Determines view.Post (λ κs z e. z.ref_ptr)
view_part = equated _ (λ κs a z e p. (λ i. (p.1.0 i, p.1.1 i)))

-- The call of crate scalars.
pub value_result : Determines value.Post (λ κs z e. z)
value_result = determined (λ κs. valued) (λ κs. valued_apart) _ (λ κs a z e p. p)

-- The calls of crate signed.
pub i8_of_result : Determines i8_of.Post (λ κs z e. z)
i8_of_result = equated _ (λ κs a z e p. p)

pub i16_of_result : Determines i16_of.Post (λ κs z e. z)
i16_of_result = equated _ (λ κs a z e p. p)

pub i32_of_result : Determines i32_of.Post (λ κs z e. z)
i32_of_result = equated _ (λ κs a z e p. p)

pub i64_of_result : Determines i64_of.Post (λ κs z e. z)
i64_of_result = equated _ (λ κs a z e p. p)

-- The calls of crate kinds.
pub float_of_result : Determines float_of.Post (λ κs z e. z)
float_of_result = equated _ (λ κs a z e p. p)

pub double_of_result : Determines double_of.Post (λ κs z e. z)
double_of_result = equated _ (λ κs a z e p. p)

pub float_with_result : Determines float_with.Post (λ κs z e. z)
float_with_result = equated _ (λ κs a z e p. p)

pub double_with_result : Determines double_with.Post (λ κs z e. z)
double_with_result = equated _ (λ κs a z e p. p)

-- The calls of crate blanking.
pub blank_result : Determines blank.Post (λ κs z e. z)
blank_result = determined (λ κs. judged) (λ κs. judged_apart) _ (λ κs a z e p. p.0)

pub blank_out : Determines blank.Post (λ κs z e. e.1.0.now)
blank_out = equated _ (λ κs a z e p. p.1)

-- The calls of recordings.
pub index_result : Determines index.Post (λ κs z e. z)
index_result = determined (λ κs. trailed_as) (λ κs. trailed_apart) _ (λ κs a z e p. p)

pub index_tail_result : Determines index_tail.Post (λ κs z e. z)
index_tail_result = determined (λ κs. reached_as) (λ κs. reached_apart) _ (λ κs a z e p. p)

pub trailer_entry_result : Determines trailer_entry.Post (λ κs z e. z)
trailer_entry_result = equated _ (λ κs a z e p. p.0)

pub recording_open_result : Determines recording_open.Post (λ κs z e. z)
recording_open_result = determined (λ κs. judged) (λ κs. judged_apart) _ (λ κs a z e p. p)

pub open_into_result : Determines open_into.Post (λ κs z e. z)
open_into_result = determined (λ κs. judged) (λ κs. judged_apart) _ (λ κs a z e p. p.0)

pub open_into_table : Determines open_into.Post (λ κs z e. e.1.0.now)
open_into_table = equated _ (λ κs a z e p. p.1)

pub recording_ask_result : Determines recording_ask.Post (λ κs z e. z)
recording_ask_result = determined (λ κs. asked_as) (λ κs. asked_apart) _ (λ κs a z e p. p)

pub ask_tail_result : Determines ask_tail.Post (λ κs z e. z)
ask_tail_result = determined (λ κs. reaching_as) (λ κs. reaching_apart) _ (λ κs a z e p. p)

pub front_length_result : Determines front_length.Post (λ κs z e. z)
front_length_result = determined (λ κs. judged) (λ κs. judged_apart) _ (λ κs a z e p. p)

pub divide_result : Determines divide.Post (λ κs z e. z)
divide_result = determined (λ κs. divided_as) (λ κs. divided_apart) _ (λ κs a z e p. p.0)

pub divide_lengths : Determines divide.Post (λ κs z e. e.1.0.now)
divide_lengths = equated _ (λ κs a z e p. p.1)

pub put_tail_result : Determines put_tail.Post (λ κs z e. z)
put_tail_result = determined (λ κs. judged) (λ κs. judged_apart) _ (λ κs a z e p. p.0)

pub put_tail_out : Determines put_tail.Post (λ κs z e. e.1.0.now)
put_tail_out = equated _ (λ κs a z e p. p.1)

pub recorder_new_result : Determines recorder_new.Post (λ κs z e. z)
recorder_new_result = equated _ (λ κs a z e p. p)

pub recorder_add_result : Determines recorder_add.Post (λ κs z e. z)
recorder_add_result = determined (λ κs. Recorder.told_as) (λ κs. recorded_apart) _ (λ κs a z e p. p.0)

pub recorder_add_out : Determines recorder_add.Post (λ κs z e. e.1.1.0.now)
recorder_add_out = equated _ (λ κs a z e p. p.1)

pub recorder_close_result : Determines recorder_close.Post (λ κs z e. z)
recorder_close_result = determined (λ κs. Recorder.told_as) (λ κs. recorded_apart) _ (λ κs a z e p. p.0)

pub recorder_close_out : Determines recorder_close.Post (λ κs z e. e.1.0.now)
recorder_close_out = equated _ (λ κs a z e p. p.1)

pub salvage_result : Determines salvage.Post (λ κs z e. z)
salvage_result = determined (λ κs. salvaged_as) (λ κs. salvaged_apart) _ (λ κs a z e p. p.0)

pub salvage_out : Determines salvage.Post (λ κs z e. e.1.0.now)
salvage_out = equated _ (λ κs a z e p. p.1)

pub blank_recording_result : Determines blank_recording.Post (λ κs z e. z)
blank_recording_result = determined (λ κs. judged) (λ κs. judged_apart) _ (λ κs a z e p. p.0)

pub blank_recording_out : Determines blank_recording.Post (λ κs z e. e.1.0.now)
blank_recording_out = equated _ (λ κs a z e p. p.1)

-- The call of crate commands.
pub command_result : Determines command.Post (λ κs z e. z)
command_result = determined (λ κs. command_as) (λ κs. command_apart) _ (λ κs a z e p. p)

-- The calls of the book of senders.
pub place_of_result : Determines place_of.Post (λ κs z e. z)
place_of_result = equated _ (λ κs a z e p. p)

pub free_place_result : Determines free_place.Post (λ κs z e. z)
free_place_result = equated _ (λ κs a z e p. p)

pub book_empty_result : Determines book_empty.Post (λ κs z e. z)
book_empty_result = equated _ (λ κs a z e p. p)

pub take_framed_result : Determines take_framed.Post (λ κs z e. z)
take_framed_result = determined (λ κs. took_as) (λ κs. took_apart) _ (λ κs a z e p. p)

pub book_take_result : Determines book_take.Post (λ κs z e. z)
book_take_result = determined (λ κs. took_as) (λ κs. took_apart) _ (λ κs a z e p. p)

pub book_close_result : Determines book_close.Post (λ κs z e. z)
book_close_result = equated _ (λ κs a z e p. p)

-- The calls of the ledger.
pub order_result : Determines order.Post (λ κs z e. z)
order_result = determined (λ κs. ordered) (λ κs. ordered_apart) _ (λ κs a z e p. p)

pub ledger_empty_result : Determines ledger_empty.Post (λ κs z e. z)
ledger_empty_result = equated _ (λ κs a z e p. p)

pub muster_framed_result : Determines muster_framed.Post (λ κs z e. z)
muster_framed_result = determined (λ κs. mustered_as) (λ κs. mustered_apart) _ (λ κs a z e p. p)

pub muster_result : Determines muster.Post (λ κs z e. z)
muster_result = determined (λ κs. mustered_as) (λ κs. mustered_apart) _ (λ κs a z e p. p)

pub reckon_result : Determines reckon.Post (λ κs z e. z)
reckon_result = determined (λ κs. comes_as) (λ κs. reckoned_apart) _ (λ κs a z e p. p)

-- The calls of crate puts.
pub bits_result : Determines bits.Post (λ κs z e. z)
bits_result = equated _ (λ κs a z e p. p)

pub put_big_out : Determines put_big.Post (λ κs z e. e.0.now)
put_big_out = equated _ (λ κs a z e p. p)

pub put_number_out : Determines put_number.Post (λ κs z e. e.0.now)
put_number_out = equated _ (λ κs a z e p. p)

-- The calls of crate encoding.
pub encode_result : Determines encode.Post (λ κs z e. z)
encode_result = equated _ (λ κs a z e p. p)

pub mark_taken_result : Determines mark_taken.Post (λ κs z e. z)
mark_taken_result = equated _ (λ κs a z e p. p)

-- The calls of crate opening.
pub write_header_result : Determines write_header.Post (λ κs z e. z)
write_header_result = determined (λ κs. judged) (λ κs. judged_apart) _ (λ κs a z e p. p.0)

pub write_header_out : Determines write_header.Post (λ κs z e. e.1.1.1.1.1.0.now)
write_header_out = equated _ (λ κs a z e p. p.1)

-- The calls of crate writing.
pub opening_result : Determines opening.Post (λ κs z e. z)
opening_result = determined (λ κs. wrote_as) (λ κs. wrote_apart) _ (λ κs a z e p. p.0)

pub opening_out : Determines opening.Post (λ κs z e. e.1.1.1.1.1.0.now)
opening_out = equated _ (λ κs a z e p. p.1)

pub add_result : Determines add.Post (λ κs z e. z)
add_result = determined (λ κs. wrote_as) (λ κs. wrote_apart) _ (λ κs a z e p. p.0)

pub add_out : Determines add.Post (λ κs z e. e.1.1.0.now)
add_out = equated _ (λ κs a z e p. p.1)

pub add_scalar_result : Determines add_scalar.Post (λ κs z e. z)
add_scalar_result = determined (λ κs. wrote_as) (λ κs. wrote_apart) _ (λ κs a z e p. p.0)

pub add_scalar_out : Determines add_scalar.Post (λ κs z e. e.1.1.0.now)
add_scalar_out = equated _ (λ κs a z e p. p.1)

pub close_result : Determines close.Post (λ κs z e. z)
close_result = determined (λ κs. wrote_as) (λ κs. wrote_apart) _ (λ κs a z e p. p)

-- The calls of sums.
pub shown_plus_result : Determines shown_plus.Post (λ κs z e. z)
shown_plus_result = equated _ (λ κs a z e p. p)

pub shown_less_result : Determines shown_less.Post (λ κs z e. z)
shown_less_result = equated _ (λ κs a z e p. p)

-- The sums of sums_quantities, for every type of quantities, which its number tells apart: a law of the trait.
module _ (Q : RattleType) (laws : Laws Q) (copy : IsCopy Q) (q : Number.Ghosts Q.Denot) (qd : Dict)
    (clone : Clone.Ghosts Q.Denot) (cloned : Dict) (apart : (x y : Q.Denot) → q.number x ≡ q.number y → x ≡ y) where
  pub quantity_of_number_result : Determines (quantity_of_number.Post Q laws copy q qd clone cloned) (λ κs z e. z)
  quantity_of_number_result = determined (λ κs. q.number) (λ κs. apart) _ (λ κs a z e p. p)

  pub quantity_shown_result : Determines (quantity_shown.Post Q laws copy q qd clone cloned) (λ κs z e. z)
  quantity_shown_result = equated _ (λ κs a z e p. p)

module _ (R A : RattleType) (r_laws : Laws R) (a_laws : Laws A) (r_copy : IsCopy R) (a_copy : IsCopy A)
    (relates : Relative.Ghosts R.Denot A.Denot) (related : Dict)
    (r : Number.Ghosts R.Denot) (rd : Dict) (r_clone : Clone.Ghosts R.Denot) (r_cloned : Dict)
    (a : Number.Ghosts A.Denot) (ad : Dict) (a_clone : Clone.Ghosts A.Denot) (a_cloned : Dict)
    (r_apart : (x y : R.Denot) → r.number x ≡ r.number y → x ≡ y) (a_apart : (x y : A.Denot) → a.number x ≡ a.number y → x ≡ y) where
  pub relative_plus_result : Determines (relative_plus.Post R A r_laws a_laws r_copy a_copy relates related r rd r_clone r_cloned a ad a_clone a_cloned) (λ κs z e. z)
  relative_plus_result = determined (λ κs. r.number) (λ κs. r_apart) _ (λ κs a z e p. p)

  pub relative_plus_absolute_result : Determines (relative_plus_absolute.Post R A r_laws a_laws r_copy a_copy relates related r rd r_clone r_cloned a ad a_clone a_cloned) (λ κs z e. z)
  relative_plus_absolute_result = determined (λ κs. a.number) (λ κs. a_apart) _ (λ κs a z e p. p)

  pub relative_less_result : Determines (relative_less.Post R A r_laws a_laws r_copy a_copy relates related r rd r_clone r_cloned a ad a_clone a_cloned) (λ κs z e. z)
  relative_less_result = determined (λ κs. r.number) (λ κs. r_apart) _ (λ κs a z e p. p)

module _ (A R : RattleType) (a_laws : Laws A) (r_laws : Laws R) (a_copy : IsCopy A) (r_copy : IsCopy R)
    (absolutes : Absolute.Ghosts A.Denot R.Denot) (absoluted : Dict)
    (a : Number.Ghosts A.Denot) (ad : Dict) (a_clone : Clone.Ghosts A.Denot) (a_cloned : Dict)
    (relates : Relative.Ghosts R.Denot A.Denot) (related : Dict)
    (r : Number.Ghosts R.Denot) (rd : Dict) (r_clone : Clone.Ghosts R.Denot) (r_cloned : Dict)
    (a_apart : (x y : A.Denot) → a.number x ≡ a.number y → x ≡ y) (r_apart : (x y : R.Denot) → r.number x ≡ r.number y → x ≡ y) where
  pub absolute_plus_result : Determines (absolute_plus.Post A R a_laws r_laws a_copy r_copy absolutes absoluted a ad a_clone a_cloned relates related r rd r_clone r_cloned) (λ κs z e. z)
  absolute_plus_result = determined (λ κs. a.number) (λ κs. a_apart) _ (λ κs a z e p. p)

  pub absolute_less_result : Determines (absolute_less.Post A R a_laws r_laws a_copy r_copy absolutes absoluted a ad a_clone a_cloned relates related r rd r_clone r_cloned) (λ κs z e. z)
  absolute_less_result = determined (λ κs. a.number) (λ κs. a_apart) _ (λ κs a z e p. p)

  pub absolute_less_absolute_result : Determines (absolute_less_absolute.Post A R a_laws r_laws a_copy r_copy absolutes absoluted a ad a_clone a_cloned relates related r rd r_clone r_cloned) (λ κs z e. z)
  absolute_less_absolute_result = determined (λ κs. r.number) (λ κs. r_apart) _ (λ κs a z e p. p)

-- A type of quantities: that it can be copied; its impl of Quantity, which proves that its number tells it; and its
-- impl of Relative or Absolute.
pub record Kind : Type 2 where
  pub row : RattleType
  pub laws : Laws row
  pub copy : IsCopy row
  pub members : Number.Ghosts row.Denot
  pub dict : Dict
  pub told : (x y : row.Denot) → members.number x ≡ members.number y → x ≡ y
  pub pair : Dict

-- What is said of every type of quantities, at this one.
abbrev pub at_quantity {ℓ} : {F : (Q : RattleType) → Laws Q → IsCopy Q → Number.Ghosts Q.Denot → Dict → Clone.Ghosts Q.Denot → Dict → Type ℓ}
    (q : Kind)
    → ((Q : RattleType) (laws : Laws Q) (copy : IsCopy Q) (q : Number.Ghosts Q.Denot) (qd : Dict)
    (clone : Clone.Ghosts Q.Denot) (cloned : Dict) → F Q laws copy q qd clone cloned)
    → F q.row q.laws q.copy q.members q.dict (Copied.ghosts q.row) (Copied.dict q.row)
at_quantity q f = f q.row q.laws q.copy q.members q.dict (Copied.ghosts q.row) (Copied.dict q.row)

-- What is said of every relative type and its absolute one, at these two.
abbrev pub at_relative {ℓ} : {F : (R A : RattleType) → Laws R → Laws A → IsCopy R → IsCopy A
    → Relative.Ghosts R.Denot A.Denot → Dict
    → Number.Ghosts R.Denot → Dict → Clone.Ghosts R.Denot → Dict
    → Number.Ghosts A.Denot → Dict → Clone.Ghosts A.Denot → Dict → Type ℓ}
    (r a : Kind)
    → ((R A : RattleType) (r_laws : Laws R) (a_laws : Laws A) (r_copy : IsCopy R) (a_copy : IsCopy A)
    (relates : Relative.Ghosts R.Denot A.Denot) (related : Dict)
    (r : Number.Ghosts R.Denot) (rd : Dict) (r_clone : Clone.Ghosts R.Denot) (r_cloned : Dict)
    (a : Number.Ghosts A.Denot) (ad : Dict) (a_clone : Clone.Ghosts A.Denot) (a_cloned : Dict)
    → F R A r_laws a_laws r_copy a_copy relates related r rd r_clone r_cloned a ad a_clone a_cloned)
    → F r.row a.row r.laws a.laws r.copy a.copy (record {}) r.pair
    r.members r.dict (Copied.ghosts r.row) (Copied.dict r.row)
    a.members a.dict (Copied.ghosts a.row) (Copied.dict a.row)
at_relative r a f = f r.row a.row r.laws a.laws r.copy a.copy (record {}) r.pair
    r.members r.dict (Copied.ghosts r.row) (Copied.dict r.row)
    a.members a.dict (Copied.ghosts a.row) (Copied.dict a.row)

-- What is said of every absolute type and its relative one, at these two.
abbrev pub at_absolute {ℓ} : {F : (A R : RattleType) → Laws A → Laws R → IsCopy A → IsCopy R
    → Absolute.Ghosts A.Denot R.Denot → Dict
    → Number.Ghosts A.Denot → Dict → Clone.Ghosts A.Denot → Dict
    → Relative.Ghosts R.Denot A.Denot → Dict
    → Number.Ghosts R.Denot → Dict → Clone.Ghosts R.Denot → Dict → Type ℓ}
    (a r : Kind)
    → ((A R : RattleType) (a_laws : Laws A) (r_laws : Laws R) (a_copy : IsCopy A) (r_copy : IsCopy R)
    (absolutes : Absolute.Ghosts A.Denot R.Denot) (absoluted : Dict)
    (a : Number.Ghosts A.Denot) (ad : Dict) (a_clone : Clone.Ghosts A.Denot) (a_cloned : Dict)
    (relates : Relative.Ghosts R.Denot A.Denot) (related : Dict)
    (r : Number.Ghosts R.Denot) (rd : Dict) (r_clone : Clone.Ghosts R.Denot) (r_cloned : Dict)
    → F A R a_laws r_laws a_copy r_copy absolutes absoluted a ad a_clone a_cloned relates related r rd r_clone r_cloned)
    → F a.row r.row a.laws r.laws a.copy r.copy (record {}) a.pair
    a.members a.dict (Copied.ghosts a.row) (Copied.dict a.row) (record {}) r.pair
    r.members r.dict (Copied.ghosts r.row) (Copied.dict r.row)
at_absolute a r f = f a.row r.row a.laws r.laws a.copy r.copy (record {}) a.pair
    a.members a.dict (Copied.ghosts a.row) (Copied.dict a.row) (record {}) r.pair
    r.members r.dict (Copied.ghosts r.row) (Copied.dict r.row)

-- The eight types.
abbrev pub length : Kind
length = record {
  row = lengths.Length.the_row;
  laws = lengths_laws.Length.TheLaws.the_row_laws;
  copy = lengths_laws.Length.TheLaws.the_row_copy;
  members = lengths.LengthQuantity.TheImpl.ghosts;
  dict = lengths.LengthQuantity.TheImpl.dict;
  told = lengths.LengthQuantity.TheImpl.Laws.told_by_number-law;
  pair = lengths.LengthRelative.TheImpl.dict;
}

abbrev pub position : Kind
position = record {
  row = lengths.Position.the_row;
  laws = lengths_laws.Position.TheLaws.the_row_laws;
  copy = lengths_laws.Position.TheLaws.the_row_copy;
  members = lengths.PositionQuantity.TheImpl.ghosts;
  dict = lengths.PositionQuantity.TheImpl.dict;
  told = lengths.PositionQuantity.TheImpl.Laws.told_by_number-law;
  pair = lengths.PositionAbsolute.TheImpl.dict;
}

abbrev pub duration : Kind
duration = record {
  row = durations.Duration.the_row;
  laws = durations_laws.Duration.TheLaws.the_row_laws;
  copy = durations_laws.Duration.TheLaws.the_row_copy;
  members = durations.DurationQuantity.TheImpl.ghosts;
  dict = durations.DurationQuantity.TheImpl.dict;
  told = durations.DurationQuantity.TheImpl.Laws.told_by_number-law;
  pair = durations.DurationRelative.TheImpl.dict;
}

abbrev pub time : Kind
time = record {
  row = durations.Time.the_row;
  laws = durations_laws.Time.TheLaws.the_row_laws;
  copy = durations_laws.Time.TheLaws.the_row_copy;
  members = durations.TimeQuantity.TheImpl.ghosts;
  dict = durations.TimeQuantity.TheImpl.dict;
  told = durations.TimeQuantity.TheImpl.Laws.told_by_number-law;
  pair = durations.TimeAbsolute.TheImpl.dict;
}

abbrev pub angle : Kind
angle = record {
  row = angles.Angle.the_row;
  laws = angles_laws.Angle.TheLaws.the_row_laws;
  copy = angles_laws.Angle.TheLaws.the_row_copy;
  members = angles.AngleQuantity.TheImpl.ghosts;
  dict = angles.AngleQuantity.TheImpl.dict;
  told = angles.AngleQuantity.TheImpl.Laws.told_by_number-law;
  pair = angles.AngleRelative.TheImpl.dict;
}

abbrev pub direction : Kind
direction = record {
  row = angles.Direction.the_row;
  laws = angles_laws.Direction.TheLaws.the_row_laws;
  copy = angles_laws.Direction.TheLaws.the_row_copy;
  members = angles.DirectionQuantity.TheImpl.ghosts;
  dict = angles.DirectionQuantity.TheImpl.dict;
  told = angles.DirectionQuantity.TheImpl.Laws.told_by_number-law;
  pair = angles.DirectionAbsolute.TheImpl.dict;
}

abbrev pub temperature : Kind
temperature = record {
  row = temperatures.Temperature.the_row;
  laws = temperatures_laws.Temperature.TheLaws.the_row_laws;
  copy = temperatures_laws.Temperature.TheLaws.the_row_copy;
  members = temperatures.TemperatureQuantity.TheImpl.ghosts;
  dict = temperatures.TemperatureQuantity.TheImpl.dict;
  told = temperatures.TemperatureQuantity.TheImpl.Laws.told_by_number-law;
  pair = temperatures.TemperatureRelative.TheImpl.dict;
}

abbrev pub absolute_temperature : Kind
absolute_temperature = record {
  row = temperatures.AbsoluteTemperature.the_row;
  laws = temperatures_laws.AbsoluteTemperature.TheLaws.the_row_laws;
  copy = temperatures_laws.AbsoluteTemperature.TheLaws.the_row_copy;
  members = temperatures.AbsoluteTemperatureQuantity.TheImpl.ghosts;
  dict = temperatures.AbsoluteTemperatureQuantity.TheImpl.dict;
  told = temperatures.AbsoluteTemperatureQuantity.TheImpl.Laws.told_by_number-law;
  pair = temperatures.AbsoluteTemperatureAbsolute.TheImpl.dict;
}

-- The same at each type: its impl proves the law.
pub length_of_number_result : Determines (at_quantity length quantity_of_number.Post) (λ κs z e. z)
length_of_number_result = at_quantity length quantity_of_number_result length.told

pub length_shown_result : Determines (at_quantity length quantity_shown.Post) (λ κs z e. z)
length_shown_result = at_quantity length quantity_shown_result length.told

pub position_of_number_result : Determines (at_quantity position quantity_of_number.Post) (λ κs z e. z)
position_of_number_result = at_quantity position quantity_of_number_result position.told

pub position_shown_result : Determines (at_quantity position quantity_shown.Post) (λ κs z e. z)
position_shown_result = at_quantity position quantity_shown_result position.told

pub length_plus_result : Determines (at_relative length position relative_plus.Post) (λ κs z e. z)
length_plus_result = at_relative length position relative_plus_result length.told position.told

pub length_plus_position_result : Determines (at_relative length position relative_plus_absolute.Post) (λ κs z e. z)
length_plus_position_result = at_relative length position relative_plus_absolute_result length.told position.told

pub length_less_result : Determines (at_relative length position relative_less.Post) (λ κs z e. z)
length_less_result = at_relative length position relative_less_result length.told position.told

pub position_plus_result : Determines (at_absolute position length absolute_plus.Post) (λ κs z e. z)
position_plus_result = at_absolute position length absolute_plus_result position.told length.told

pub position_less_result : Determines (at_absolute position length absolute_less.Post) (λ κs z e. z)
position_less_result = at_absolute position length absolute_less_result position.told length.told

pub position_less_position_result : Determines (at_absolute position length absolute_less_absolute.Post) (λ κs z e. z)
position_less_position_result = at_absolute position length absolute_less_absolute_result position.told length.told

pub duration_of_number_result : Determines (at_quantity duration quantity_of_number.Post) (λ κs z e. z)
duration_of_number_result = at_quantity duration quantity_of_number_result duration.told

pub duration_shown_result : Determines (at_quantity duration quantity_shown.Post) (λ κs z e. z)
duration_shown_result = at_quantity duration quantity_shown_result duration.told

pub time_of_number_result : Determines (at_quantity time quantity_of_number.Post) (λ κs z e. z)
time_of_number_result = at_quantity time quantity_of_number_result time.told

pub time_shown_result : Determines (at_quantity time quantity_shown.Post) (λ κs z e. z)
time_shown_result = at_quantity time quantity_shown_result time.told

pub duration_plus_result : Determines (at_relative duration time relative_plus.Post) (λ κs z e. z)
duration_plus_result = at_relative duration time relative_plus_result duration.told time.told

pub duration_plus_time_result : Determines (at_relative duration time relative_plus_absolute.Post) (λ κs z e. z)
duration_plus_time_result = at_relative duration time relative_plus_absolute_result duration.told time.told

pub duration_less_result : Determines (at_relative duration time relative_less.Post) (λ κs z e. z)
duration_less_result = at_relative duration time relative_less_result duration.told time.told

pub time_plus_result : Determines (at_absolute time duration absolute_plus.Post) (λ κs z e. z)
time_plus_result = at_absolute time duration absolute_plus_result time.told duration.told

pub time_less_result : Determines (at_absolute time duration absolute_less.Post) (λ κs z e. z)
time_less_result = at_absolute time duration absolute_less_result time.told duration.told

pub time_less_time_result : Determines (at_absolute time duration absolute_less_absolute.Post) (λ κs z e. z)
time_less_time_result = at_absolute time duration absolute_less_absolute_result time.told duration.told

pub angle_of_number_result : Determines (at_quantity angle quantity_of_number.Post) (λ κs z e. z)
angle_of_number_result = at_quantity angle quantity_of_number_result angle.told

pub angle_shown_result : Determines (at_quantity angle quantity_shown.Post) (λ κs z e. z)
angle_shown_result = at_quantity angle quantity_shown_result angle.told

pub direction_of_number_result : Determines (at_quantity direction quantity_of_number.Post) (λ κs z e. z)
direction_of_number_result = at_quantity direction quantity_of_number_result direction.told

pub direction_shown_result : Determines (at_quantity direction quantity_shown.Post) (λ κs z e. z)
direction_shown_result = at_quantity direction quantity_shown_result direction.told

pub angle_plus_result : Determines (at_relative angle direction relative_plus.Post) (λ κs z e. z)
angle_plus_result = at_relative angle direction relative_plus_result angle.told direction.told

pub angle_plus_direction_result : Determines (at_relative angle direction relative_plus_absolute.Post) (λ κs z e. z)
angle_plus_direction_result = at_relative angle direction relative_plus_absolute_result angle.told direction.told

pub angle_less_result : Determines (at_relative angle direction relative_less.Post) (λ κs z e. z)
angle_less_result = at_relative angle direction relative_less_result angle.told direction.told

pub direction_plus_result : Determines (at_absolute direction angle absolute_plus.Post) (λ κs z e. z)
direction_plus_result = at_absolute direction angle absolute_plus_result direction.told angle.told

pub direction_less_result : Determines (at_absolute direction angle absolute_less.Post) (λ κs z e. z)
direction_less_result = at_absolute direction angle absolute_less_result direction.told angle.told

pub direction_less_direction_result : Determines (at_absolute direction angle absolute_less_absolute.Post) (λ κs z e. z)
direction_less_direction_result = at_absolute direction angle absolute_less_absolute_result direction.told angle.told

pub temperature_of_number_result : Determines (at_quantity temperature quantity_of_number.Post) (λ κs z e. z)
temperature_of_number_result = at_quantity temperature quantity_of_number_result temperature.told

pub temperature_shown_result : Determines (at_quantity temperature quantity_shown.Post) (λ κs z e. z)
temperature_shown_result = at_quantity temperature quantity_shown_result temperature.told

pub absolute_temperature_of_number_result : Determines (at_quantity absolute_temperature quantity_of_number.Post) (λ κs z e. z)
absolute_temperature_of_number_result = at_quantity absolute_temperature quantity_of_number_result absolute_temperature.told

pub absolute_temperature_shown_result : Determines (at_quantity absolute_temperature quantity_shown.Post) (λ κs z e. z)
absolute_temperature_shown_result = at_quantity absolute_temperature quantity_shown_result absolute_temperature.told

pub temperature_plus_result : Determines (at_relative temperature absolute_temperature relative_plus.Post) (λ κs z e. z)
temperature_plus_result = at_relative temperature absolute_temperature relative_plus_result temperature.told absolute_temperature.told

pub temperature_plus_absolute_temperature_result : Determines (at_relative temperature absolute_temperature relative_plus_absolute.Post) (λ κs z e. z)
temperature_plus_absolute_temperature_result = at_relative temperature absolute_temperature relative_plus_absolute_result temperature.told absolute_temperature.told

pub temperature_less_result : Determines (at_relative temperature absolute_temperature relative_less.Post) (λ κs z e. z)
temperature_less_result = at_relative temperature absolute_temperature relative_less_result temperature.told absolute_temperature.told

pub absolute_temperature_plus_result : Determines (at_absolute absolute_temperature temperature absolute_plus.Post) (λ κs z e. z)
absolute_temperature_plus_result = at_absolute absolute_temperature temperature absolute_plus_result absolute_temperature.told temperature.told

pub absolute_temperature_less_result : Determines (at_absolute absolute_temperature temperature absolute_less.Post) (λ κs z e. z)
absolute_temperature_less_result = at_absolute absolute_temperature temperature absolute_less_result absolute_temperature.told temperature.told

pub absolute_temperature_less_absolute_temperature_result : Determines (at_absolute absolute_temperature temperature absolute_less_absolute.Post) (λ κs z e. z)
absolute_temperature_less_absolute_temperature_result = at_absolute absolute_temperature temperature absolute_less_absolute_result absolute_temperature.told temperature.told

pub quantity_of_result : Determines quantity_of.Post (λ κs z e. z)
quantity_of_result = determined (λ κs. seen) (λ κs. seen_apart) _ (λ κs a z e p. p)

pub add_quantities_result : Determines add_quantities.Post (λ κs z e. z)
add_quantities_result = determined (λ κs. seen) (λ κs. seen_apart) _ (λ κs a z e p. p)

pub subtract_quantities_result : Determines subtract_quantities.Post (λ κs z e. z)
subtract_quantities_result = determined (λ κs. seen) (λ κs. seen_apart) _ (λ κs a z e p. p)

pub sum_result : Determines sum.Post (λ κs z e. z)
sum_result = determined (λ κs. valued) (λ κs. valued_apart) _ (λ κs a z e p. p)

pub difference_result : Determines difference.Post (λ κs z e. z)
difference_result = determined (λ κs. valued) (λ κs. valued_apart) _ (λ κs a z e p. p)

-- The calls of crate casting.
pub give_value_result : Determines give_value.Post (λ κs z e. z)
give_value_result = equated _ (λ κs a z e p. p.0)

pub give_value_answer : Determines give_value.Post (λ κs z e. e.1.0.now)
give_value_answer = equated _ (λ κs a z e p. p.1)

pub scalar_from_result : Determines scalar_from.Post (λ κs z e. z)
scalar_from_result = equated _ (λ κs a z e p. p)

-- The calls of crate crossing.
pub give_read_result : Determines give_read.Post (λ κs z e. z)
give_read_result = equated _ (λ κs a z e p. p.0)

pub give_read_answer : Determines give_read.Post (λ κs z e. e.1.0.now)
give_read_answer = equated _ (λ κs a z e p. p.1)

pub give_length_result : Determines give_length.Post (λ κs z e. z)
give_length_result = equated _ (λ κs a z e p. p.0)

pub give_length_answer : Determines give_length.Post (λ κs z e. e.1.0.now)
give_length_answer = equated _ (λ κs a z e p. p.1)

pub give_view_result : Determines give_view.Post (λ κs z e. z)
give_view_result = equated _ (λ κs a z e p. p.0)

pub give_view_answer : Determines give_view.Post (λ κs z e. e.1.0.now)
give_view_answer = equated _ (λ κs a z e p. p.1)

-- The calls of crate writer_crossing.
pub give_wrote_result : Determines give_wrote.Post (λ κs z e. z)
give_wrote_result = equated _ (λ κs a z e p. p.0)

pub give_wrote_answer : Determines give_wrote.Post (λ κs z e. e.1.0.now)
give_wrote_answer = equated _ (λ κs a z e p. p.1)

pub writer_of_result : Determines writer_of.Post (λ κs z e. z)
writer_of_result = equated _ (λ κs a z e p. p)

pub count_type_result : Determines count_type.Post (λ κs z e. z)
count_type_result = equated _ (λ κs a z e p. p)

-- The call of crate giving.
pub give_result : Determines give.Post (λ κs z e. z)
give_result = equated _ (λ κs a z e p. p.0)

pub give_answer : Determines give.Post (λ κs z e. e.1.0.now)
give_answer = equated _ (λ κs a z e p. p.1)

-- The calls of crate exports.
pub c_read_result : Determines c_read.Post (λ κs z e. z)
c_read_result = equated _ (λ κs a z e p. p.0)

pub c_read_table : Determines c_read.Post (λ κs z e. e.1.0.now)
c_read_table = equated _ (λ κs a z e p. p.1.0)

pub c_read_answer : Determines c_read.Post (λ κs z e. e.1.1.0.now)
c_read_answer = equated _ (λ κs a z e p. p.1.1)

pub c_judge_result : Determines c_judge.Post (λ κs z e. z)
c_judge_result = equated _ (λ κs a z e p. p.0)

pub c_judge_answer : Determines c_judge.Post (λ κs z e. e.1.0.now)
c_judge_answer = equated _ (λ κs a z e p. p.1)

pub c_value_result : Determines c_value.Post (λ κs z e. z)
c_value_result = equated _ (λ κs a z e p. p.0)

pub c_value_answer : Determines c_value.Post (λ κs z e. e.1.1.0.now)
c_value_answer = equated _ (λ κs a z e p. p.1)

pub c_view_result : Determines c_view.Post (λ κs z e. z)
c_view_result = equated _ (λ κs a z e p. p.0)

pub c_view_answer : Determines c_view.Post (λ κs z e. e.1.1.0.now)
c_view_answer = equated _ (λ κs a z e p. p.1)

pub c_blank_result : Determines c_blank.Post (λ κs z e. z)
c_blank_result = equated _ (λ κs a z e p. p.0)

pub c_blank_out : Determines c_blank.Post (λ κs z e. e.1.0.now)
c_blank_out = equated _ (λ κs a z e p. p.1.0)

pub c_blank_answer : Determines c_blank.Post (λ κs z e. e.1.1.0.now)
c_blank_answer = equated _ (λ κs a z e p. p.1.1)

-- The calls of crate writer_exports.
pub c_open_result : Determines c_open.Post (λ κs z e. z)
c_open_result = equated _ (λ κs a z e p. p.0)

pub c_open_out : Determines c_open.Post (λ κs z e. e.1.1.1.1.1.1.0.now)
c_open_out = equated _ (λ κs a z e p. p.1.0)

pub c_open_answer : Determines c_open.Post (λ κs z e. e.1.1.1.1.1.1.1.0.now)
c_open_answer = equated _ (λ κs a z e p. p.1.1)

pub c_add_result : Determines c_add.Post (λ κs z e. z)
c_add_result = equated _ (λ κs a z e p. p.0)

pub c_add_out : Determines c_add.Post (λ κs z e. e.1.1.1.1.1.0.now)
c_add_out = equated _ (λ κs a z e p. p.1.0)

pub c_add_answer : Determines c_add.Post (λ κs z e. e.1.1.1.1.1.1.0.now)
c_add_answer = equated _ (λ κs a z e p. p.1.1)

pub c_add_scalar_result : Determines c_add_scalar.Post (λ κs z e. z)
c_add_scalar_result = equated _ (λ κs a z e p. p.0)

pub c_add_scalar_out : Determines c_add_scalar.Post (λ κs z e. e.1.1.1.1.1.1.1.1.1.0.now)
c_add_scalar_out = equated _ (λ κs a z e p. p.1.0)

pub c_add_scalar_answer : Determines c_add_scalar.Post (λ κs z e. e.1.1.1.1.1.1.1.1.1.1.0.now)
c_add_scalar_answer = equated _ (λ κs a z e p. p.1.1)

pub c_close_result : Determines c_close.Post (λ κs z e. z)
c_close_result = equated _ (λ κs a z e p. p.0)

pub c_close_answer : Determines c_close.Post (λ κs z e. e.1.1.1.1.0.now)
c_close_answer = equated _ (λ κs a z e p. p.1)

-- The calls of crate boundary_recordings.
pub c_recording_open_result : Determines c_recording_open.Post (λ κs z e. z)
c_recording_open_result = equated _ (λ κs a z e p. p.0)

pub c_recording_open_answer : Determines c_recording_open.Post (λ κs z e. e.1.0.now)
c_recording_open_answer = equated _ (λ κs a z e p. p.1)

pub c_recording_open_into_result : Determines c_recording_open_into.Post (λ κs z e. z)
c_recording_open_into_result = equated _ (λ κs a z e p. p.0)

pub c_recording_open_into_table : Determines c_recording_open_into.Post (λ κs z e. e.1.0.now)
c_recording_open_into_table = equated _ (λ κs a z e p. p.1.0)

pub c_recording_open_into_answer : Determines c_recording_open_into.Post (λ κs z e. e.1.1.0.now)
c_recording_open_into_answer = equated _ (λ κs a z e p. p.1.1)

pub c_recording_ask_result : Determines c_recording_ask.Post (λ κs z e. z)
c_recording_ask_result = equated _ (λ κs a z e p. p.0)

pub c_recording_ask_answer : Determines c_recording_ask.Post (λ κs z e. e.1.1.0.now)
c_recording_ask_answer = equated _ (λ κs a z e p. p.1)

pub c_salvage_result : Determines c_salvage.Post (λ κs z e. z)
c_salvage_result = equated _ (λ κs a z e p. p.0)

pub c_salvage_out : Determines c_salvage.Post (λ κs z e. e.1.0.now)
c_salvage_out = equated _ (λ κs a z e p. p.1.0)

pub c_salvage_answer : Determines c_salvage.Post (λ κs z e. e.1.1.0.now)
c_salvage_answer = equated _ (λ κs a z e p. p.1.1)

-- The calls of crate boundary_commands.
pub c_command_result : Determines c_command.Post (λ κs z e. z)
c_command_result = equated _ (λ κs a z e p. p.0)

pub c_command_answer : Determines c_command.Post (λ κs z e. e.1.0.now)
c_command_answer = equated _ (λ κs a z e p. p.1)

-- The calls of crate boundary_recorder.
pub c_recording_add_result : Determines c_recording_add.Post (λ κs z e. z)
c_recording_add_result = equated _ (λ κs a z e p. p.0)

pub c_recording_add_out : Determines c_recording_add.Post (λ κs z e. e.1.1.1.1.0.now)
c_recording_add_out = equated _ (λ κs a z e p. p.1.0)

pub c_recording_add_answer : Determines c_recording_add.Post (λ κs z e. e.1.1.1.1.1.0.now)
c_recording_add_answer = equated _ (λ κs a z e p. p.1.1)

pub c_recording_close_result : Determines c_recording_close.Post (λ κs z e. z)
c_recording_close_result = equated _ (λ κs a z e p. p.0)

pub c_recording_close_out : Determines c_recording_close.Post (λ κs z e. e.1.1.1.0.now)
c_recording_close_out = equated _ (λ κs a z e p. p.1.0)

pub c_recording_close_answer : Determines c_recording_close.Post (λ κs z e. e.1.1.1.1.0.now)
c_recording_close_answer = equated _ (λ κs a z e p. p.1.1)

-- The calls of crate boundary_sums.
pub c_sum_result : Determines c_sum.Post (λ κs z e. z)
c_sum_result = equated _ (λ κs a z e p. p.0)

pub c_sum_answer : Determines c_sum.Post (λ κs z e. e.1.1.1.1.1.1.1.1.1.1.0.now)
c_sum_answer = equated _ (λ κs a z e p. p.1)

pub c_difference_result : Determines c_difference.Post (λ κs z e. z)
c_difference_result = equated _ (λ κs a z e p. p.0)

pub c_difference_answer : Determines c_difference.Post (λ κs z e. e.1.1.1.1.1.1.1.1.1.1.0.now)
c_difference_answer = equated _ (λ κs a z e p. p.1)

-- The calls of crate boundary_books.
pub book_of_result : Determines book_of.Post (λ κs z e. z)
book_of_result = equated _ (λ κs a z e p. p)

pub put_book_numbers : Determines put_book.Post (λ κs z e. e.1.0.now)
put_book_numbers = equated _ (λ κs a z e p. p)

-- The calls of crate boundary_senders.
pub c_take_result : Determines c_take.Post (λ κs z e. z)
c_take_result = equated _ (λ κs a z e p. p.0)

pub c_take_book : Determines c_take.Post (λ κs z e. e.0.now)
c_take_book = equated _ (λ κs a z e p. p.1.0)

pub c_take_answer : Determines c_take.Post (λ κs z e. e.1.1.0.now)
c_take_answer = equated _ (λ κs a z e p. p.1.1)

pub c_close_sender_result : Determines c_close_sender.Post (λ κs z e. z)
c_close_sender_result = equated _ (λ κs a z e p. p.0)

pub c_close_sender_book : Determines c_close_sender.Post (λ κs z e. e.0.now)
c_close_sender_book = equated _ (λ κs a z e p. p.1.0)

pub c_close_sender_answer : Determines c_close_sender.Post (λ κs z e. e.1.1.1.0.now)
c_close_sender_answer = equated _ (λ κs a z e p. p.1.1)

-- The calls of crate boundary_ledger.
pub c_muster_result : Determines c_muster.Post (λ κs z e. z)
c_muster_result = equated _ (λ κs a z e p. p.0)

pub c_muster_decks : Determines c_muster.Post (λ κs z e. e.0.now)
c_muster_decks = equated _ (λ κs a z e p. p.1.0)

pub c_muster_book : Determines c_muster.Post (λ κs z e. e.1.0.now)
c_muster_book = equated _ (λ κs a z e p. p.1.1.0)

pub c_muster_answer : Determines c_muster.Post (λ κs z e. e.1.1.1.0.now)
c_muster_answer = equated _ (λ κs a z e p. p.1.1.1)

pub c_reckon_result : Determines c_reckon.Post (λ κs z e. z)
c_reckon_result = equated _ (λ κs a z e p. p.0)

pub c_reckon_answer : Determines c_reckon.Post (λ κs z e. e.1.0.now)
c_reckon_answer = equated _ (λ κs a z e p. p.1)

-- The calls of crate pieces.
pub put_result : Determines put.Post (λ κs z e. z)
put_result = equated _ (λ κs a z e p. p.0)

pub put_out : Determines put.Post (λ κs z e. e.1.0.now)
put_out = equated _ (λ κs a z e p. p.1)

pub decimal_result : Determines decimal.Post (λ κs z e. z)
decimal_result = equated _ (λ κs a z e p. p.0)

pub decimal_out : Determines decimal.Post (λ κs z e. e.1.0.now)
decimal_out = equated _ (λ κs a z e p. p.1)

-- The calls of crate listing.
pub listing_result : Determines listing.Post (λ κs z e. z)
listing_result = equated _ (λ κs a z e p. p.1.0)

pub listing_out : Determines listing.Post (λ κs z e. e.1.1.0.now)
listing_out = equated _ (λ κs a z e p. p.1.1)

pub first_line_result : Determines first_line.Post (λ κs z e. z)
first_line_result = equated _ (λ κs a z e p. p.1.0)

pub first_line_out : Determines first_line.Post (λ κs z e. e.1.0.now)
first_line_out = equated _ (λ κs a z e p. p.1.1)
