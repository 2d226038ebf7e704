-- The contract of each call is an equation for its result and for each buffer that it may write, so any two outcomes
-- that it allows are equal.
use Rattle.determining.specs.Outcomes.{Determines}
use Rattle.determining.proofs.Equations.{equated}
use Rattle.sim0mq_c.proofs.messages.sim0mq_read.Reads as c_read
use Rattle.sim0mq_c.proofs.messages.sim0mq_judge.Reads as c_judge
use Rattle.sim0mq_c.proofs.messages.sim0mq_value.Reads as c_value
use Rattle.sim0mq_c.proofs.messages.sim0mq_view.Reads as c_view
use Rattle.sim0mq_c.proofs.messages.sim0mq_blank.Reads as c_blank
use Rattle.sim0mq_c.proofs.writer.sim0mq_open.Reads as c_open
use Rattle.sim0mq_c.proofs.writer.sim0mq_add.Reads as c_add
use Rattle.sim0mq_c.proofs.writer.sim0mq_add_scalar.Reads as c_add_scalar
use Rattle.sim0mq_c.proofs.writer.sim0mq_close.Reads as c_close
use Rattle.sim0mq_c.proofs.recorded.sim0mq_recording_open.Reads as c_recording_open
use Rattle.sim0mq_c.proofs.recorded.sim0mq_recording_open_into.Reads as c_recording_open_into
use Rattle.sim0mq_c.proofs.recorded.sim0mq_recording_ask.Reads as c_recording_ask
use Rattle.sim0mq_c.proofs.recorded.sim0mq_salvage.Reads as c_salvage
use Rattle.sim0mq_c.proofs.command.sim0mq_command.Reads as c_command
use Rattle.sim0mq_c.proofs.recorder.sim0mq_recording_add.Reads as c_recording_add
use Rattle.sim0mq_c.proofs.recorder.sim0mq_recording_close.Reads as c_recording_close
use Rattle.sim0mq_c.proofs.quantities.sim0mq_sum.Reads as c_sum
use Rattle.sim0mq_c.proofs.quantities.sim0mq_difference.Reads as c_difference
use Rattle.sim0mq_c.proofs.book.sim0mq_take.Reads as c_take
use Rattle.sim0mq_c.proofs.book.sim0mq_close_sender.Reads as c_close_sender
use Rattle.sim0mq_c.proofs.decks.sim0mq_muster.Reads as c_muster
use Rattle.sim0mq_c.proofs.decks.sim0mq_reckon.Reads as c_reckon

-- The call named NAME above has a theorem of its result, NAME_result, and of each buffer that it may write, by the
-- parameter's name; tools/public-calls looks for them.

-- The calls of module messages.
pub c_read_result : Determines c_read.Post (λ κs z e. z)
c_read_result = equated _ (λ κs a z e p. p.0)

pub c_read_table : Determines c_read.Post (λ κs z e. e.1.0.now)
c_read_table = equated _ (λ κs a z e p. p.1.0)

pub c_read_answer : Determines c_read.Post (λ κs z e. e.1.1.0.now)
c_read_answer = equated _ (λ κs a z e p. p.1.1)

pub c_judge_result : Determines c_judge.Post (λ κs z e. z)
c_judge_result = equated _ (λ κs a z e p. p.0)

pub c_judge_answer : Determines c_judge.Post (λ κs z e. e.1.0.now)
c_judge_answer = equated _ (λ κs a z e p. p.1)

pub c_value_result : Determines c_value.Post (λ κs z e. z)
c_value_result = equated _ (λ κs a z e p. p.0)

pub c_value_answer : Determines c_value.Post (λ κs z e. e.1.1.0.now)
c_value_answer = equated _ (λ κs a z e p. p.1)

pub c_view_result : Determines c_view.Post (λ κs z e. z)
c_view_result = equated _ (λ κs a z e p. p.0)

pub c_view_answer : Determines c_view.Post (λ κs z e. e.1.1.0.now)
c_view_answer = equated _ (λ κs a z e p. p.1)

pub c_blank_result : Determines c_blank.Post (λ κs z e. z)
c_blank_result = equated _ (λ κs a z e p. p.0)

pub c_blank_out : Determines c_blank.Post (λ κs z e. e.1.0.now)
c_blank_out = equated _ (λ κs a z e p. p.1.0)

pub c_blank_answer : Determines c_blank.Post (λ κs z e. e.1.1.0.now)
c_blank_answer = equated _ (λ κs a z e p. p.1.1)

-- The calls of module writer.
pub c_open_result : Determines c_open.Post (λ κs z e. z)
c_open_result = equated _ (λ κs a z e p. p.0)

pub c_open_out : Determines c_open.Post (λ κs z e. e.1.1.1.1.1.1.0.now)
c_open_out = equated _ (λ κs a z e p. p.1.0)

pub c_open_answer : Determines c_open.Post (λ κs z e. e.1.1.1.1.1.1.1.0.now)
c_open_answer = equated _ (λ κs a z e p. p.1.1)

pub c_add_result : Determines c_add.Post (λ κs z e. z)
c_add_result = equated _ (λ κs a z e p. p.0)

pub c_add_out : Determines c_add.Post (λ κs z e. e.1.1.1.1.1.0.now)
c_add_out = equated _ (λ κs a z e p. p.1.0)

pub c_add_answer : Determines c_add.Post (λ κs z e. e.1.1.1.1.1.1.0.now)
c_add_answer = equated _ (λ κs a z e p. p.1.1)

pub c_add_scalar_result : Determines c_add_scalar.Post (λ κs z e. z)
c_add_scalar_result = equated _ (λ κs a z e p. p.0)

pub c_add_scalar_out : Determines c_add_scalar.Post (λ κs z e. e.1.1.1.1.1.1.1.1.1.0.now)
c_add_scalar_out = equated _ (λ κs a z e p. p.1.0)

pub c_add_scalar_answer : Determines c_add_scalar.Post (λ κs z e. e.1.1.1.1.1.1.1.1.1.1.0.now)
c_add_scalar_answer = equated _ (λ κs a z e p. p.1.1)

pub c_close_result : Determines c_close.Post (λ κs z e. z)
c_close_result = equated _ (λ κs a z e p. p.0)

pub c_close_answer : Determines c_close.Post (λ κs z e. e.1.1.1.1.0.now)
c_close_answer = equated _ (λ κs a z e p. p.1)

-- The calls of module recorded.
pub c_recording_open_result : Determines c_recording_open.Post (λ κs z e. z)
c_recording_open_result = equated _ (λ κs a z e p. p.0)

pub c_recording_open_answer : Determines c_recording_open.Post (λ κs z e. e.1.0.now)
c_recording_open_answer = equated _ (λ κs a z e p. p.1)

pub c_recording_open_into_result : Determines c_recording_open_into.Post (λ κs z e. z)
c_recording_open_into_result = equated _ (λ κs a z e p. p.0)

pub c_recording_open_into_table : Determines c_recording_open_into.Post (λ κs z e. e.1.0.now)
c_recording_open_into_table = equated _ (λ κs a z e p. p.1.0)

pub c_recording_open_into_answer : Determines c_recording_open_into.Post (λ κs z e. e.1.1.0.now)
c_recording_open_into_answer = equated _ (λ κs a z e p. p.1.1)

pub c_recording_ask_result : Determines c_recording_ask.Post (λ κs z e. z)
c_recording_ask_result = equated _ (λ κs a z e p. p.0)

pub c_recording_ask_answer : Determines c_recording_ask.Post (λ κs z e. e.1.1.0.now)
c_recording_ask_answer = equated _ (λ κs a z e p. p.1)

pub c_salvage_result : Determines c_salvage.Post (λ κs z e. z)
c_salvage_result = equated _ (λ κs a z e p. p.0)

pub c_salvage_out : Determines c_salvage.Post (λ κs z e. e.1.0.now)
c_salvage_out = equated _ (λ κs a z e p. p.1.0)

pub c_salvage_answer : Determines c_salvage.Post (λ κs z e. e.1.1.0.now)
c_salvage_answer = equated _ (λ κs a z e p. p.1.1)

-- The calls of module recorder.
pub c_recording_add_result : Determines c_recording_add.Post (λ κs z e. z)
c_recording_add_result = equated _ (λ κs a z e p. p.0)

pub c_recording_add_out : Determines c_recording_add.Post (λ κs z e. e.1.1.1.1.0.now)
c_recording_add_out = equated _ (λ κs a z e p. p.1.0)

pub c_recording_add_answer : Determines c_recording_add.Post (λ κs z e. e.1.1.1.1.1.0.now)
c_recording_add_answer = equated _ (λ κs a z e p. p.1.1)

pub c_recording_close_result : Determines c_recording_close.Post (λ κs z e. z)
c_recording_close_result = equated _ (λ κs a z e p. p.0)

pub c_recording_close_out : Determines c_recording_close.Post (λ κs z e. e.1.1.1.0.now)
c_recording_close_out = equated _ (λ κs a z e p. p.1.0)

pub c_recording_close_answer : Determines c_recording_close.Post (λ κs z e. e.1.1.1.1.0.now)
c_recording_close_answer = equated _ (λ κs a z e p. p.1.1)

-- The calls of module command.
pub c_command_result : Determines c_command.Post (λ κs z e. z)
c_command_result = equated _ (λ κs a z e p. p.0)

pub c_command_answer : Determines c_command.Post (λ κs z e. e.1.0.now)
c_command_answer = equated _ (λ κs a z e p. p.1)

-- The calls of module quantities.
pub c_sum_result : Determines c_sum.Post (λ κs z e. z)
c_sum_result = equated _ (λ κs a z e p. p.0)

pub c_sum_answer : Determines c_sum.Post (λ κs z e. e.1.1.1.1.1.1.1.1.1.1.0.now)
c_sum_answer = equated _ (λ κs a z e p. p.1)

pub c_difference_result : Determines c_difference.Post (λ κs z e. z)
c_difference_result = equated _ (λ κs a z e p. p.0)

pub c_difference_answer : Determines c_difference.Post (λ κs z e. e.1.1.1.1.1.1.1.1.1.1.0.now)
c_difference_answer = equated _ (λ κs a z e p. p.1)

-- The calls of module book.
pub c_take_result : Determines c_take.Post (λ κs z e. z)
c_take_result = equated _ (λ κs a z e p. p.0)

pub c_take_book : Determines c_take.Post (λ κs z e. e.0.now)
c_take_book = equated _ (λ κs a z e p. p.1.0)

pub c_take_answer : Determines c_take.Post (λ κs z e. e.1.1.0.now)
c_take_answer = equated _ (λ κs a z e p. p.1.1)

pub c_close_sender_result : Determines c_close_sender.Post (λ κs z e. z)
c_close_sender_result = equated _ (λ κs a z e p. p.0)

pub c_close_sender_book : Determines c_close_sender.Post (λ κs z e. e.0.now)
c_close_sender_book = equated _ (λ κs a z e p. p.1.0)

pub c_close_sender_answer : Determines c_close_sender.Post (λ κs z e. e.1.1.1.0.now)
c_close_sender_answer = equated _ (λ κs a z e p. p.1.1)

-- The calls of module decks.
pub c_muster_result : Determines c_muster.Post (λ κs z e. z)
c_muster_result = equated _ (λ κs a z e p. p.0)

pub c_muster_decks : Determines c_muster.Post (λ κs z e. e.0.now)
c_muster_decks = equated _ (λ κs a z e p. p.1.0)

pub c_muster_book : Determines c_muster.Post (λ κs z e. e.1.0.now)
c_muster_book = equated _ (λ κs a z e p. p.1.1.0)

pub c_muster_answer : Determines c_muster.Post (λ κs z e. e.1.1.1.0.now)
c_muster_answer = equated _ (λ κs a z e p. p.1.1.1)

pub c_reckon_result : Determines c_reckon.Post (λ κs z e. z)
c_reckon_result = equated _ (λ κs a z e p. p.0)

pub c_reckon_answer : Determines c_reckon.Post (λ κs z e. e.1.0.now)
c_reckon_answer = equated _ (λ κs a z e p. p.1)
